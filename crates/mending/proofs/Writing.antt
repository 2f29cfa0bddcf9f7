-- The calls by which a file is replaced.
use Rattle.std.proofs.Common.{Bool, true, false, cond, ◌≡◌, ◌≢◌, ◌⊎◌, ℕ, ◌≤◌, List, [], ◌++◌, take, Option, Some, None, Result, Err, OnOk, OnErr, inl, inr, refl, sym, ap, subst, ◌∙◌, arith}
use Rattle.std.specs.Cmp.{tied_itself}
use Rattle.std.specs.Cmp.Lexicographic.{slice_cmp, nat_list_cmp_total}
use Rattle.std.specs.Ordering.{is_eq, nat_cmp, eq_by_cmp}
use Rattle.std.specs.declared.cmp.Ordering.{Ordering}
use Rattle.std.specs.declared.cmp.Ordering.TheVariants.{Less, Equal, Greater}
use Rattle.std.specs.FinMap.{get, insert, remove, get-insert, get-remove, slice_cmp-IsAntisymmetric, nat_cmp-IsAntisymmetric}
use Rattle.store.specs.Files.{Facts, Files, Synced, Appends, AppendsBeginning, Renames, Creation, Addition, Sync, Move, with_synced}
use Rattle.store.specs.Calls.{Adds, Idles, Counts}
use Rattle.store.specs.Stops.{LeavesOnly, MayLeave}
use Rattle.store.specs.declared.error.StoreError.{StoreError}
use Rattle.store.specs.declared.error.StoreError.TheVariants as store_error
use Rattle.store.proofs.Stopping.{leaves_both, leaves_so, noted_left, append_left, sync_left}
use Rattle.mending.specs.Calls.{RefusesMend}
use Rattle.mending.specs.Replacing.{KeepsOthers, MayReplace, Replaces, Writes, refusal_for}

-- ---- files by their names

equal_of : (r : Ordering) → is_eq r ≡ true → r ≡ Equal
equal_of Less e = cc
equal_of Equal e = refl
equal_of Greater e = cc

pub same_name : (q name : List ℕ) → eq_by_cmp (slice_cmp nat_cmp) q name ≡ true → q ≡ name
same_name q name is = slice_cmp-IsAntisymmetric nat_cmp-IsAntisymmetric q name (equal_of (slice_cmp nat_cmp q name) is)

other_at : (b : Bool) (x y : Option (List ℕ)) → (b ≡ true → ⊥) → cond b x y ≡ y
other_at true x y h = absurd (h refl)
other_at false x y h = refl

pub get_other : (files : Files) (name file q : List ℕ) → q ≢ name → get (insert files name file) q ≡ get files q
get_other files name file q apart =
    get-insert nat_list_cmp_total files name file q ∙ other_at (eq_by_cmp (slice_cmp nat_cmp) q name) (Some file) (get files q) (λ is. apart (same_name q name is))

pub get_same : (files : Files) (name file : List ℕ) → get (insert files name file) name ≡ Some file
get_same files name file =
    get-insert nat_list_cmp_total files name file name ∙ ap (λ (b : Bool). cond b (Some file) (get files name)) (ap is_eq (tied_itself nat_list_cmp_total name))

pub get_removed : (files : Files) (name q : List ℕ) → q ≢ name → get (remove files name) q ≡ get files q
get_removed files name q apart =
    get-remove nat_list_cmp_total files name q ∙ other_at (eq_by_cmp (slice_cmp nat_cmp) q name) None (get files q) (λ is. apart (same_name q name is))

pub with_same : (s : Synced) (name : List ℕ) (content : Option (List ℕ)) → with_synced s name content name ≡ content
with_same s name content = ap (λ b. cond b content (s name)) (ap is_eq (tied_itself nat_list_cmp_total name))

-- ---- refusals

pub refused_later : (old mid new : Facts) (se : StoreError) → old.failures ≤ mid.failures → Counts {T = Unit {0}} mid new (Err se) → ((se ≡ store_error.Missing) → ⊥) → RefusesMend (refusal_for se) old new ⊥ ⊥
refused_later old mid new store_error.Memory le c there = tt
refused_later old mid new store_error.Missing le c there = absurd (there refl)
refused_later old mid new store_error.Device le c there = omega (arith, le, c.device refl)

pub writes_itself : (facts : Facts) → Writes facts facts
writes_itself facts = record { faithful = λ f. f; failures = omega arith; denials = refl; locked = refl }

pub writes_both : (a b c : Facts) → Writes a b → Writes b c → Writes a c
writes_both a b c h k = record {
  faithful = λ f. h.faithful (k.faithful f);
  failures = omega (arith, h.failures, k.failures);
  denials = k.denials ∙ h.denials;
  locked = k.locked ∙ h.locked;
}

pub writes_by : {T : Type 0} (a b : Facts) (r : Result T StoreError) → Counts a b r → b.denials ≡ a.denials → b.locked ≡ a.locked → Writes a b
writes_by a b r c denials locked = record { faithful = c.faithful; failures = c.failures; denials = denials; locked = locked }

-- ---- a new file

pub others_both : (a b c : Files) (name : List ℕ) → KeepsOthers a b name → KeepsOthers b c name → KeepsOthers a c name
others_both a b c name h k q apart = k q apart ∙ h q apart

pub created_others : (old new : Files) (name : List ℕ) → MayLeave (Creation name) old new → KeepsOthers old new name
created_others old new name (inl same) q apart = ap (λ (f : Files). get f q) same
created_others old new name (inr done) q apart = ap (λ (f : Files). get f q) done ∙ get_other old name [] q apart

pub appended_others : (old new : Files) (name bytes : List ℕ) → AppendsBeginning old new name bytes → KeepsOthers old new name
appended_others old new name bytes (inl same) q apart = ap (λ (f : Files). get f q) same
appended_others old new name bytes (inr some) q apart = ap (λ (f : Files). get f q) some.1.2 ∙ get_other old name (some.1.0 ++ take some.0 bytes) q apart

pub created_stops : (old mid : Facts) (name : List ℕ) → Idles old mid ⊎ Adds old mid (Creation name) → LeavesOnly old mid (λ files. KeepsOthers old.files files name)
created_stops old mid name noted =
    leaves_so old mid (MayLeave (Creation name) old.files) (λ files. KeepsOthers old.files files name) (λ files left. created_others old.files files name left) (noted_left old mid (Creation name) noted)

pub appended_stops : (old mid new : Facts) (name bytes : List ℕ) → LeavesOnly old mid (λ files. KeepsOthers old.files files name) → Idles mid new ⊎ ((n : ℕ) × Adds mid new (Addition name (take n bytes)))
    → LeavesOnly old new (λ files. KeepsOthers old.files files name)
appended_stops old mid new name bytes h noted =
    leaves_both old mid new (λ files. KeepsOthers old.files files name) h
    (leaves_so mid new (λ files. AppendsBeginning mid.files files name bytes) (λ files. KeepsOthers old.files files name)
    (λ files left. others_both old.files mid.files files name h.now (appended_others mid.files files name bytes left)) (append_left mid new name bytes noted))

pub synced_stops : (old mid new : Facts) (name : List ℕ) (P : Files → Type 0) (r : Result (Unit {0}) StoreError) → LeavesOnly old mid P → OnOk r (Adds mid new (Sync name)) → OnErr r (new.calls ≡ mid.calls) → new.files ≡ mid.files → LeavesOnly old new P
synced_stops old mid new name P r h noted left same = sync_left old mid new name P r noted left same h

pub written : (old mid most new : Files) (name bytes : List ℕ) → mid ≡ insert old name [] → Appends mid most name bytes → new ≡ most → get new name ≡ Some bytes
written old mid most new name bytes made a same =
    let both : Some a.0 ≡ Some [] = sym a.1 ∙ ap (λ (f : Files). get f name) made ∙ get_same old name [] in
    let none : a.0 ≡ [] = cc in
    ap (λ (f : Files). get f name) (same ∙ a.2) ∙ get_same mid name (a.0 ++ bytes) ∙ ap (λ (v : List ℕ). Some (v ++ bytes)) none

-- ---- in the place of another

renamed_replaces : (old mid new : Files) (temporary name bytes : List ℕ) → get mid temporary ≡ Some bytes → KeepsOthers old mid temporary → Renames mid new temporary name → Replaces old new temporary name bytes
renamed_replaces old mid new temporary name bytes there others r =
    let both : Some r.0 ≡ Some bytes = sym r.1 ∙ there in (
      ap (λ (f : Files). get f name) r.2 ∙ get_same (remove mid temporary) name r.0 ∙ both,
      λ q apart other. ap (λ (f : Files). get f q) r.2 ∙ get_other (remove mid temporary) name r.0 q other ∙ get_removed mid temporary q apart ∙ others q apart,
    )

pub replaced : (old mid most new : Files) (temporary name bytes : List ℕ) → get mid temporary ≡ Some bytes → KeepsOthers old mid temporary → Renames mid most temporary name → new ≡ most → Replaces old new temporary name bytes
replaced old mid most new temporary name bytes there others r same =
    subst (λ (f : Files). Replaces old f temporary name bytes) (sym same) (renamed_replaces old mid most temporary name bytes there others r)

pub unset_stops : (old mid : Facts) (temporary name bytes : List ℕ) → LeavesOnly old mid (λ files. KeepsOthers old.files files temporary) → LeavesOnly old mid (λ files. MayReplace old.files files temporary name bytes)
unset_stops old mid temporary name bytes h =
    leaves_so old mid (λ files. KeepsOthers old.files files temporary) (λ files. MayReplace old.files files temporary name bytes) (λ files kept. inl kept) h

moved_may : (old mid files : Files) (temporary name bytes : List ℕ) → get mid temporary ≡ Some bytes → KeepsOthers old mid temporary → MayLeave (Move temporary name) mid files → MayReplace old files temporary name bytes
moved_may old mid files temporary name bytes there others (inl same) = inl (λ q apart. ap (λ (f : Files). get f q) same ∙ others q apart)
moved_may old mid files temporary name bytes there others (inr done) = inr (renamed_replaces old mid files temporary name bytes there others done)

pub moved_stops : (old mid new : Facts) (temporary name bytes : List ℕ) → get mid.files temporary ≡ Some bytes → LeavesOnly old mid (λ files. KeepsOthers old.files files temporary) → Idles mid new ⊎ Adds mid new (Move temporary name)
    → LeavesOnly old new (λ files. MayReplace old.files files temporary name bytes)
moved_stops old mid new temporary name bytes there h noted =
    leaves_both old mid new (λ files. MayReplace old.files files temporary name bytes) (unset_stops old mid temporary name bytes h)
    (leaves_so mid new (MayLeave (Move temporary name) mid.files) (λ files. MayReplace old.files files temporary name bytes)
    (λ files left. moved_may old.files mid.files files temporary name bytes there h.now left) (noted_left mid new (Move temporary name) noted))
