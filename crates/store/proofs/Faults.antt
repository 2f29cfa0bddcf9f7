-- What a call leaves that a fault lets come so far and then answers by a failure.
use Rattle.std.proofs.Common.{◌≡◌, ◌+◌, ℕ, Option, Some, Result, Ok, Err, OnOk, IsTrue, ap, sym, subst, ◌∙◌}
use Rattle.store.specs.declared.error.StoreError.{StoreError}
use Rattle.store.specs.declared.error.StoreError.TheVariants.{Device}
use Rattle.store.specs.declared.counters.Failed.{Failed}
use Rattle.store.specs.declared.fault_store.Extent.{Extent}
use Rattle.store.specs.declared.fault_store.Extent.TheVariants.{After, Part}
use Rattle.store.specs.declared.fault_store.Way.{Way}
use Rattle.store.specs.declared.fault_store.Way.TheVariants.{Lost}
use Rattle.store.specs.Calls.{Counts}
use Rattle.store.specs.Files.{Facts, Disk, disk_of}
use Rattle.store.specs.FaultFacts.{Standing, IsCut, Meets, MeetsAppend, Fails, error_of}

is_device : {T : Type 0} (r : Result T StoreError) → error_of r ≡ Some Device → r ≡ Err Device
is_device (Ok x) is = absurd (cc)
is_device (Err e) is = let same : e ≡ Device = (cc) in ap Err same

not_ok : {T : Type 0} (r : Result T StoreError) → error_of r ≡ Some Device → OnOk r ⊥
not_ok (Ok x) is = absurd (cc)
not_ok (Err e) is = tt

-- what was done between what was begun with and the failure
is_cut : {T : Type 0} {call : Failed} (old new : Standing) (begun mid : Facts) (r : Result T StoreError) (change : Disk → Disk → Type 0) → begun ≡ old.facts → mid.failures ≡ begun.failures → Fails mid new.facts call (error_of r)
    → (IsTrue mid.faithful → change (disk_of begun) (disk_of mid)) → IsCut old new r change
is_cut old new begun mid r change same unfailed fails does = record {
  answer = λ f. not_ok r (fails.faithful f).1;
  done = λ _ _ f. record {
    answer = is_device r (fails.faithful f).1;
    done = subst (λ (d : Disk). change d (disk_of new.facts)) (ap disk_of same) (subst (λ (d : Disk). change (disk_of begun) d) (sym (ap disk_of fails.same)) (does (fails.faithful f).0));
    failures = fails.device (fails.faithful f).1 ∙ ap (λ n. n + 1) (unfailed ∙ ap (λ (f : Facts). f.failures) same);
  };
}

-- a call that was done failed at nothing
unfailed_by : {U : Type 0} (begun mid : Facts) (x : U) → Counts begun mid (Ok x) → mid.failures ≡ begun.failures
unfailed_by begun mid x counts = counts.unfailed (λ is. absurd (cc))

pub meets_made : {T : Type 0} {call : Failed} (way : Way) (old new : Standing) (begun mid : Facts) (r : Result T StoreError) (change : Disk → Disk → Type 0) → way ≡ Lost → begun ≡ old.facts → mid.failures ≡ begun.failures
    → Fails mid new.facts call (error_of r) → (IsTrue mid.faithful → change (disk_of begun) (disk_of mid)) → Meets way old new r change
meets_made way old new begun mid r change is same unfailed fails does = subst (λ (w : Way). Meets w old new r change) (sym is) (is_cut old new begun mid r change same unfailed fails does)

pub meets_lost : {T U : Type 0} {call : Failed} (way : Way) (old new : Standing) (begun mid : Facts) (x : U) (r : Result T StoreError) (change : Disk → Disk → Type 0) → way ≡ Lost → begun ≡ old.facts → Counts begun mid (Ok x)
    → Fails mid new.facts call (error_of r) → (IsTrue mid.faithful → change (disk_of begun) (disk_of mid)) → Meets way old new r change
meets_lost way old new begun mid x r change is same counts fails does = meets_made way old new begun mid r change is same (unfailed_by begun mid x counts) fails does

pub meets_after : {T U : Type 0} {call : Failed} (extent : Option Extent) (old new : Standing) (begun mid : Facts) (x : U) (r : Result T StoreError) (whole : Disk → Disk → Type 0) (part : ℕ → Disk → Disk → Type 0) → extent ≡ Some After
    → begun ≡ old.facts → Counts begun mid (Ok x) → Fails mid new.facts call (error_of r) → (IsTrue mid.faithful → whole (disk_of begun) (disk_of mid)) → MeetsAppend extent old new r whole part
meets_after extent old new begun mid x r whole part is same counts fails does = subst (λ (e : Option Extent). MeetsAppend e old new r whole part) (sym is) (is_cut old new begun mid r whole same (unfailed_by begun mid x counts) fails does)

pub meets_part : {T U : Type 0} {call : Failed} (extent : Option Extent) (count : ℕ) (old new : Standing) (begun mid : Facts) (x : U) (r : Result T StoreError) (whole : Disk → Disk → Type 0) (part : ℕ → Disk → Disk → Type 0) → extent ≡ Some (Part count)
    → begun ≡ old.facts → Counts begun mid (Ok x) → Fails mid new.facts call (error_of r) → (IsTrue mid.faithful → part count (disk_of begun) (disk_of mid)) → MeetsAppend extent old new r whole part
meets_part extent count old new begun mid x r whole part is same counts fails does = subst (λ (e : Option Extent). MeetsAppend e old new r whole part) (sym is) (is_cut old new begun mid r (part count) same (unfailed_by begun mid x counts) fails does)
