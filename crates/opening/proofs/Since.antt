-- The calls since the last sync where an open has written: they may have begun the new log.
use Rattle.std.proofs.Common.{◌≡◌, ◌⊎◌, ◌+◌, ◌<◌, ℕ, Bool, true, false, None, List, [], Result, Ok, Err, OnOk, IsTrue, is_some, refl, sym, ap, subst, ◌∙◌, arith}
use Rattle.std.specs.FinMap.{contains_key}
use Rattle.coding.specs.declared.error.DbError.{DbError}
use Rattle.store.specs.Calls.{Adds, Idles}
use Rattle.store.specs.Files.{Creation, Facts, Files}
use Rattle.store.specs.Losses.{behind_sync}
use Rattle.store.proofs.Carrying.{carries_writes}
use Rattle.store.proofs.Staying.{begun_by, stays_behind, stays_on}
use Rattle.ikey.specs.Orders.{Order}
use Rattle.edits.specs.Names.{name_of, IsNumbered}
use Rattle.edits.specs.declared.names.FileName.TheVariants.{Current, Log, Manifest, Temporary}
use Rattle.recover.specs.Numbers.{IsFree}
use Rattle.opening.specs.Losses.{BeginsSpared}
use Rattle.opening.specs.declared.finding.Found.{Found}
use Rattle.opening.specs.internal.Calls.{MakesCurrent, Writes}
use Rattle.opening.specs.internal.Opening.{Finds, IsUsable}
use Rattle.opening.proofs.Reopening.{files_apart, next_of, numbered_of}
use Rattle.opening.specs.internal.Renewing.{OnlyIt}

-- ---- no log of the new number was there

none_from : (b : Bool) → (b ≡ true → ⊥) → b ≡ false
none_from true h = absurd (h refl)
none_from false h = refl

pub no_log : (order : Order) (files : Files) (n : ℕ) → IsNumbered (n + 1) → IsFree order files n → contains_key files (name_of (Log (n + 1))) ≡ false
no_log order files n next free =
    none_from (contains_key files (name_of (Log (n + 1)))) (λ there. let below : n + 1 < n = free.listed (Log (n + 1)) next there in absurd (omega (arith, below)))

-- nor is it before the log is made
pub still_no_log : (order : Order) (old mid most : Facts) (n : ℕ) (manifest current : List ℕ) → IsNumbered n → IsNumbered (n + 1) → IsFree order old.files n → Writes old mid (name_of (Manifest n)) manifest (Ok tt)
    → MakesCurrent mid most (name_of (Temporary n)) current (Ok tt) → IsTrue most.faithful → contains_key most.files (name_of (Log (n + 1))) ≡ false
still_no_log order old mid most n manifest current num next free wrote made f =
    let first = wrote.others (made.call.faithful f) (name_of (Log (n + 1))) (files_apart (Log (n + 1)) (Manifest n) next num (λ e. cc)) in
    let second = (made.ok f).1 (name_of (Log (n + 1))) (files_apart (Log (n + 1)) (Temporary n) next num (λ e. cc)) (files_apart (Log (n + 1)) Current next tt (λ e. cc)) in
    ap is_some (second ∙ first) ∙ no_log order old.files n next free

-- ---- the making of the log

begun_spared : (most new : Facts) (log : List ℕ) → behind_sync [] most.calls ≡ [] → OnlyIt most new log → Idles most new ⊎ Adds most new (Creation log) → contains_key most.files log ≡ false → new.synced log ≡ None → BeginsSpared new log
begun_spared most new log ends only noted absent unsynced = record {
  others = λ q apart. stays_on most new (λ (p : List ℕ). p ≡ log) q apart (carries_writes most new (λ (p : List ℕ). p ≡ log) only) (stays_behind most q ends);
  begun = begun_by most new log noted (stays_behind most log ends) absent unsynced;
}

-- what the making of a file leaves of a store whose last call was a sync
pub record BeginsFile (most new : Facts) (log : List ℕ) (result : Result (Unit {0}) DbError) : Type 0 where
  pub only : IsTrue new.faithful → OnlyIt most new log
  pub noted : IsTrue new.faithful → Idles most new ⊎ Adds most new (Creation log)
  pub unsynced : IsTrue new.faithful → OnOk result (new.synced log ≡ None)

begun_if : (most new : Facts) (log : List ℕ) (result : Result (Unit {0}) DbError) → behind_sync [] most.calls ≡ [] → BeginsFile most new log result → contains_key most.files log ≡ false → IsTrue new.faithful → OnOk result (BeginsSpared new log)
begun_if most new log (Ok x) ends begins absent f = begun_spared most new log ends (begins.only f) (begins.noted f) absent (begins.unsynced f)
begun_if most new log (Err e) ends begins absent f = tt

pub log_begun : (order : Order) (found : Found) (old mid most new : Facts) (manifest current : List ℕ) (result : Result (Unit {0}) DbError) → IsUsable order found → Finds order old.files found
    → Writes old mid (name_of (Manifest found.number)) manifest (Ok tt) → MakesCurrent mid most (name_of (Temporary found.number)) current (Ok tt) → behind_sync [] most.calls ≡ []
    → BeginsFile most new (name_of (Log (found.number + 1))) result → IsTrue most.faithful → IsTrue new.faithful → OnOk result (BeginsSpared new (name_of (Log (found.number + 1))))
log_begun order found old mid most new manifest current result usable finds wrote made ends begins m f =
    begun_if most new (name_of (Log (found.number + 1))) result ends begins (still_no_log order old mid most found.number manifest current (numbered_of found usable) (next_of found usable) finds.number.0 wrote made m) f

-- ---- after the reading

pub found_behind : (order : Order) (old mid : Facts) (found : Found) → mid.files ≡ old.files → Finds order old.files found → Finds order mid.files found
found_behind order old mid found same = subst (λ (files : Files). Finds order files found) (sym same)
