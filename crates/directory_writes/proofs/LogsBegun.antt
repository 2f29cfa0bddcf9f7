-- A new log, in each directory that differs in tables alone.
use Rattle.std.proofs.Common.{◌≡◌, ◌⊎◌, ◌+◌, ℕ, List, [], Result, Ok, Err, OnOk, IsTrue, inl, inr, refl, sym, ap, subst}
use Rattle.std.specs.FinMap.{get, insert}
use Rattle.coding.specs.declared.error.DbError.{DbError}
use Rattle.store.specs.Files.{Files, Facts}
use Rattle.store.specs.Stops.{LeavesOnly}
use Rattle.store.proofs.Stopping.{leaves_same, leaves_so}
use Rattle.ikey.specs.Orders.{Order}
use Rattle.edits.specs.Names.{name_of, IsNumbered}
use Rattle.edits.specs.declared.names.FileName.TheVariants.{Log}
use Rattle.recover.specs.Directory.{IsConsistent}
use Rattle.recover.specs.internal.Changes.{BeginLogLaw, ManifestEndsAt}
use Rattle.recover.specs.Numbers.{IsFree}
use Rattle.directory_writes.specs.Differing.{DiffersInTables, IsSameChange, OfEach, with_files}
use Rattle.directory_writes.specs.internal.LogFile.{BeginsLog, MayHaveLog}
use Rattle.directory_writes.proofs.NewLogFiles.{MayBegin, begins, log_stopped}
use Rattle.directory_writes.proofs.SameChanges.{log_other, unchanged_too, written_too}

on_ok : {T E P Q : Type 0} (r : Result T E) → (P → Q) → OnOk r P → OnOk r Q
on_ok (Ok x) f p = f p
on_ok (Err e) f p = tt

-- what a new log's call makes of the files
abbrev pub BeginsEach : {T : Type 0} → Order → Facts → Facts → ℕ → ℕ → Result T DbError → Type 0
BeginsEach order old new number after r = OfEach (λ whole behind. BeginsLog order (with_files old whole) (with_files new behind) number after r) old.files new.files

-- nothing was done
pub begins_none : {T : Type 0} (order : Order) (facts : Facts) (number : ℕ) (e : DbError) → BeginsEach {T = T} order facts facts number number (Err e)
begins_none order facts number e whole behind d c =
    let same : behind ≡ whole = unchanged_too facts.files facts.files whole behind c refl in
    record {
      ok = λ f. tt;
      err = λ f dir h free. let P : Files → Type 0 = λ fs. IsConsistent order fs dir in inl (subst P (sym same) h);
      manifest = λ f current end edits layout h. let P : Files → Type 0 = λ fs. ManifestEndsAt order fs current end edits layout in subst P (sym same) h;
      others = λ f q apart. ap (λ (fs : Files). get fs q) same;
      free = λ f free. let P : Files → Type 0 = λ fs. IsFree order fs number in subst P (sym same) free;
    }

module _ (number : ℕ) (numbered : IsNumbered number) where
  made_too : (old new whole behind : Files) → DiffersInTables old whole → IsSameChange old new whole behind → new ≡ insert old (name_of (Log number)) [] → behind ≡ insert whole (name_of (Log number)) []
  made_too old new whole behind d c is = written_too old new whole behind (name_of (Log number)) [] d c (d.others (name_of (Log number)) (log_other number numbered)) is

  may_too : (old new whole behind : Files) → DiffersInTables old whole → IsSameChange old new whole behind → MayBegin old new number → MayBegin whole behind number
  may_too old new whole behind d c (inl same) = inl (unchanged_too old new whole behind c same)
  may_too old new whole behind d c (inr is) = inr (made_too old new whole behind d c is)

  pub begins_each : {T : Type 0} (order : Order) → BeginLogLaw → (old new : Facts) (after : ℕ) (r : Result T DbError) → after ≡ number + 1 → (IsTrue new.faithful → MayBegin old.files new.files number)
      → (IsTrue new.faithful → OnOk r (new.files ≡ insert old.files (name_of (Log number)) [])) → BeginsEach order old new number after r
  begins_each order law old new after r is may made whole behind d c =
      begins order law number numbered (with_files old whole) (with_files new behind) after r is (λ f. may_too old.files new.files whole behind d c (may f))
      (λ f. on_ok r (made_too old.files new.files whole behind d c) (made f))

  -- ---- a process crash in the middle

  pub stopped_each : (order : Order) → BeginLogLaw → (old : Facts) (name : List ℕ) → name ≡ name_of (Log number) → (new : Facts) → LeavesOnly old new (λ files. (files ≡ old.files) ⊎ (files ≡ insert old.files name []))
      → LeavesOnly old new (λ files. OfEach (λ whole behind. MayHaveLog order whole number behind) old.files files)
  stopped_each order law old name named new h =
      leaves_so old new (λ files. (files ≡ old.files) ⊎ (files ≡ insert old.files name [])) (λ files. OfEach (λ whole behind. MayHaveLog order whole number behind) old.files files)
      (λ files left whole behind d c.
      let may : MayBegin old.files files number = subst (λ (q : List ℕ). (files ≡ old.files) ⊎ (files ≡ insert old.files q [])) named left in
      (log_stopped order number (with_files old whole) law numbered (name_of (Log number)) refl (with_files old behind)
      (record { more = []; calls = refl; during = λ fs none. absurd none; now = may_too old.files files whole behind d c may })).now) h

pub unstopped_each : (order : Order) (number : ℕ) (old : Facts) → LeavesOnly old old (λ files. OfEach (λ whole behind. MayHaveLog order whole number behind) old.files files)
unstopped_each order number old =
    leaves_same old old (λ files. OfEach (λ whole behind. MayHaveLog order whole number behind) old.files files) refl refl
    (λ whole behind d c dir h free. let P : Files → Type 0 = λ fs. IsConsistent order fs dir in inl (subst P (sym (unchanged_too old.files old.files whole behind c refl)) h))
