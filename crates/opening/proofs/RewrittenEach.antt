-- The writing of an open, in each directory that differs in tables alone.
use Rattle.std.proofs.Common.{◌≡◌, ◌⊎◌, ℕ, ◌+◌, List, [], ◌∷◌, ◌++◌, length, Result, Ok, Err, OnOk, OnErr, IsTrue, inl, inr, refl, sym, ap, subst, ◌∙◌}
use Rattle.std.specs.FinMap.{get, insert}
use Rattle.coding.specs.declared.error.DbError.{DbError}
use Rattle.store.specs.Files.{Facts, Files}
use Rattle.store.specs.Stops.{KeepsBut, LeavesOnly}
use Rattle.store.proofs.Stopping.{leaves_both, leaves_so}
use Rattle.ikey.specs.Orders.{Order}
use Rattle.edits.specs.Names.{name_of, IsNumbered}
use Rattle.edits.specs.declared.names.FileName.TheVariants.{Current, Log, Manifest, Temporary}
use Rattle.recover.proofs.NamedFiles.{get_other, get_same}
use Rattle.directory_writes.specs.Differing.{DiffersInTables, IsNameOfTable, IsSameChange, OfEach, with_files}
use Rattle.directory_writes.proofs.SameCalls.{StaysToo}
use Rattle.directory_writes.proofs.SameChanges.{also, current_other, log_other, manifest_other, other_file, same_change, same_files, stays_since}
use Rattle.directory_writes.proofs.TableFiles.{one_name}
use Rattle.opening.specs.declared.finding.Found.{Found}
use Rattle.opening.specs.internal.Calls.{Attempts, Writes, SetsCurrent, MakesCurrent}
use Rattle.opening.specs.internal.Opening.{Finds, IsContinued, IsNewManifest, IsUsable, Rewrites}
use Rattle.opening.proofs.OpenSteps.{manifest_failed, current_failed, log_created, manifest_stops, current_stops, log_stops}
use Rattle.opening.proofs.Reopening.{OpenLaws, numbered_of, next_of}
use Rattle.opening.proofs.StoreCalls.{Creates, MaySet}

-- ---- single calls

temporary_other : (m : ℕ) → IsNumbered m → IsNameOfTable (name_of (Temporary m)) → ⊥
temporary_other m is = other_file (Temporary m) is (λ n e. cc) (λ n e. cc)

on_ok : {T E P Q : Type 0} (r : Result T E) → (P → Q) → OnOk r P → OnOk r Q
on_ok (Ok x) f p = f p
on_ok (Err e) f p = tt

on_err : {T E P Q : Type 0} (r : Result T E) → (P → Q) → OnErr r P → OnErr r Q
on_err (Ok x) f p = tt
on_err (Err e) f p = f p

attempts_too : {T : Type 0} (old new : Facts) (whole after : Files) (r : Result T DbError) → Attempts old new r → Attempts (with_files old whole) (with_files new after) r
attempts_too old new whole after r a =
    record { faithful = a.faithful; failures = a.failures; denials = a.denials; locked = a.locked; io = a.io; unfailed = a.unfailed; errors = a.errors }

module _ (old new : Facts) (whole after : Files) (stays : StaysToo old.files new.files whole after) where
  writes_too : (name bytes : List ℕ) (r : Result (Unit {0}) DbError) → get after name ≡ get new.files name → Writes old new name bytes r → Writes (with_files old whole) (with_files new after) name bytes r
  writes_too name bytes r same w = record {
    call = attempts_too old new whole after r w.call;
    ok = λ f. on_ok r (λ there. same ∙ there) (w.ok f);
    others = λ f q apart. stays q (w.others f q apart);
  }

  module _ (temporary bytes : List ℕ) (same : get after (name_of Current) ≡ get new.files (name_of Current)) where
    set_too : SetsCurrent old.files new.files temporary bytes → SetsCurrent whole after temporary bytes
    set_too set = (same ∙ set.0, λ q apart other. stays q (set.1 q apart other))

    may_set_too : MaySet old.files temporary bytes new.files → MaySet whole temporary bytes after
    may_set_too (inl others) = inl (λ q apart. stays q (others q apart))
    may_set_too (inr set) = inr (set_too set)

    makes_too : (r : Result (Unit {0}) DbError) → MakesCurrent old new temporary bytes r → MakesCurrent (with_files old whole) (with_files new after) temporary bytes r
    makes_too r m = record {
      call = attempts_too old new whole after r m.call;
      ok = λ f. on_ok r set_too (m.ok f);
      err = λ f. on_err r may_set_too (m.err f);
    }

  same_too : new.files ≡ old.files → after ≡ whole
  same_too same = same_files after whole (λ q. stays q (ap (λ (fs : Files). get fs q) same))

  module _ (name : List ℕ) (same : get after name ≡ get new.files name) where
    put_too : new.files ≡ insert old.files name [] → after ≡ insert whole name []
    put_too is = same_files after (insert whole name []) (λ q. elim (one_name q name) [
      | inl here ↦
          let P : List ℕ → Type 0 = λ n. get after n ≡ get (insert whole name []) n in
          subst P (sym here) (same ∙ ap (λ (fs : Files). get fs name) is ∙ get_same old.files name [] ∙ sym (get_same whole name []))
      | inr apart ↦ stays q (ap (λ (fs : Files). get fs q) is ∙ get_other old.files name [] q apart) ∙ sym (get_other whole name [] q apart)
    ])

    may_put_too : (new.files ≡ old.files) ⊎ (new.files ≡ insert old.files name []) → (after ≡ whole) ⊎ (after ≡ insert whole name [])
    may_put_too (inl is) = inl (same_too is)
    may_put_too (inr is) = inr (put_too is)

    creates_too : (r : Result (Unit {0}) DbError) → Creates old new name r → Creates (with_files old whole) (with_files new after) name r
    creates_too r c = record { call = attempts_too old new whole after r c.call; ok = λ f. on_ok r put_too (c.ok f); err = λ f. on_err r may_put_too (c.err f) }

-- ---- all of them

abbrev pub RewritesEach : {T : Type 0} → Order → Facts → Facts → Found → ℕ → Result T DbError → Type 0
RewritesEach order old new found end r = OfEach (λ whole behind. Rewrites order (with_files old whole) (with_files new behind) found end r) old.files new.files

abbrev pub ContinuedEach : Order → Found → Files → Files → Type 0
ContinuedEach order found = OfEach (λ whole behind. Finds order whole found → IsContinued order whole behind)

module _ (order : Order) (laws : OpenLaws) (old : Facts) (found : Found) (u : IsUsable order found) (manifest : List ℕ) (w : IsNewManifest order found manifest) where
  -- what isn't a table's is the same in both
  same_name : (new : Files) (whole behind : Files) → DiffersInTables old.files whole → IsSameChange old.files new whole behind → (name : List ℕ) → (IsNameOfTable name → ⊥) → get behind name ≡ get new name
  same_name new whole behind d c name other = also old.files new whole behind d c name (d.others name other)

  written_there : (mid : Facts) (whole then : Files) → DiffersInTables old.files whole → IsSameChange old.files mid.files whole then → (r : Result (Unit {0}) DbError) → Writes old mid (name_of (Manifest found.number)) manifest r
      → Writes (with_files old whole) (with_files mid then) (name_of (Manifest found.number)) manifest r
  written_there mid whole then d c r written =
      writes_too old mid whole then c.stays (name_of (Manifest found.number)) manifest r (same_name mid.files whole then d c (name_of (Manifest found.number)) (manifest_other found.number (numbered_of found u))) written

  pub manifest_failed_each : (new : Facts) (e : DbError) → Writes old new (name_of (Manifest found.number)) manifest (Err e) → RewritesEach {T = Unit {0}} order old new found (length manifest) (Err e)
  manifest_failed_each new e written whole behind d c =
      manifest_failed order laws (with_files old whole) found u manifest w (with_files new behind) e (written_there new whole behind d c (Err e) written)

  pub current_failed_each : (mid new : Facts) (current : List ℕ) (e : DbError) → Writes old mid (name_of (Manifest found.number)) manifest (Ok tt) → current ≡ name_of (Manifest found.number) ++ 10 ∷ []
      → MakesCurrent mid new (name_of (Temporary found.number)) current (Err e) → RewritesEach {T = Unit {0}} order old new found (length manifest) (Err e)
  current_failed_each mid new current e written is made whole behind d c =
      let s = same_change old.files mid.files whole d in
      current_failed order laws (with_files old whole) found u manifest w (with_files mid s.0) (with_files new behind) current e (written_there mid whole s.0 d s.1 (Ok tt) written) is
      (makes_too mid new s.0 behind (stays_since old.files mid.files new.files whole s.0 behind s.1 c) (name_of (Temporary found.number)) current (same_name new.files whole behind d c (name_of Current) current_other) (Err e) made)

  pub log_created_each : (mid most new : Facts) (current : List ℕ) (r : Result (Unit {0}) DbError) → Writes old mid (name_of (Manifest found.number)) manifest (Ok tt) → current ≡ name_of (Manifest found.number) ++ 10 ∷ []
      → MakesCurrent mid most (name_of (Temporary found.number)) current (Ok tt) → Creates most new (name_of (Log (found.number + 1))) r → RewritesEach order old new found (length manifest) r
  log_created_each mid most new current r written is made created whole behind d c =
      let s = same_change old.files mid.files whole d in
      let t = same_change old.files most.files whole d in
      let log = name_of (Log (found.number + 1)) in
      log_created order laws (with_files old whole) found u manifest w (with_files mid s.0) (with_files most t.0) (with_files new behind) current r (written_there mid whole s.0 d s.1 (Ok tt) written) is
      (makes_too mid most s.0 t.0 (stays_since old.files mid.files most.files whole s.0 t.0 s.1 t.1) (name_of (Temporary found.number)) current (same_name most.files whole t.0 d t.1 (name_of Current) current_other) (Ok tt) made)
      (creates_too most new t.0 behind (stays_since old.files most.files new.files whole t.0 behind t.1 c) log (same_name new.files whole behind d c log (log_other (found.number + 1) (next_of found u))) r created)

  -- ---- a process crash in the middle

  pub manifest_stops_each : (mid : Facts) → LeavesOnly old mid (KeepsBut old.files (λ (q : List ℕ). q ≡ name_of (Manifest found.number))) → LeavesOnly old mid (ContinuedEach order found old.files)
  manifest_stops_each mid k =
      leaves_so old mid (KeepsBut old.files (λ (q : List ℕ). q ≡ name_of (Manifest found.number))) (ContinuedEach order found old.files)
      (λ files others whole behind d c h.
      (manifest_stops order laws (with_files old whole) found u manifest w h (with_files mid behind)
      (record { more = []; calls = refl; during = λ fs gone. absurd gone; now = λ q out. c.stays q (others q out) })).now) k

  pub current_stops_each : (mid new : Facts) (current : List ℕ) → Writes old mid (name_of (Manifest found.number)) manifest (Ok tt) → current ≡ name_of (Manifest found.number) ++ 10 ∷ [] → IsTrue mid.faithful
      → LeavesOnly old mid (KeepsBut old.files (λ (q : List ℕ). q ≡ name_of (Manifest found.number))) → LeavesOnly mid new (MaySet mid.files (name_of (Temporary found.number)) current) → LeavesOnly old new (ContinuedEach order found old.files)
  current_stops_each mid new current written is m k set =
      leaves_both old mid new (ContinuedEach order found old.files) (manifest_stops_each mid k)
      (leaves_so mid new (MaySet mid.files (name_of (Temporary found.number)) current) (ContinuedEach order found old.files)
      (λ files left whole behind d c h.
      let s = same_change old.files mid.files whole d in
      let stays = stays_since old.files mid.files files whole s.0 behind s.1 c in
      (current_stops order laws (with_files old whole) found u manifest w h (with_files mid s.0) (with_files mid behind) current (written_there mid whole s.0 d s.1 (Ok tt) written) is m
      (record { more = []; calls = refl; during = λ fs gone. absurd gone; now = λ q out. s.1.stays q (k.now q out) })
      (record {
        more = [];
        calls = refl;
        during = λ fs gone. absurd gone;
        now = may_set_too mid (with_files mid files) s.0 behind stays (name_of (Temporary found.number)) current (same_name files whole behind d c (name_of Current) current_other) left;
      })).now) set)

  pub log_stops_each : (mid most new : Facts) (current : List ℕ) → Writes old mid (name_of (Manifest found.number)) manifest (Ok tt) → current ≡ name_of (Manifest found.number) ++ 10 ∷ [] → IsTrue mid.faithful
      → SetsCurrent mid.files most.files (name_of (Temporary found.number)) current → LeavesOnly old most (ContinuedEach order found old.files)
      → LeavesOnly most new (λ files. (files ≡ most.files) ⊎ (files ≡ insert most.files (name_of (Log (found.number + 1))) [])) → LeavesOnly old new (ContinuedEach order found old.files)
  log_stops_each mid most new current written is m set k made =
      leaves_both old most new (ContinuedEach order found old.files) k
      (leaves_so most new (λ files. (files ≡ most.files) ⊎ (files ≡ insert most.files (name_of (Log (found.number + 1))) [])) (ContinuedEach order found old.files)
      (λ files left whole behind d c h.
      let s = same_change old.files mid.files whole d in
      let t = same_change old.files most.files whole d in
      let log = name_of (Log (found.number + 1)) in
      let stays = stays_since old.files most.files files whole t.0 behind t.1 c in
      (log_stops order laws (with_files old whole) found u manifest w h (with_files mid s.0) (with_files most t.0) (with_files most behind) current (written_there mid whole s.0 d s.1 (Ok tt) written) is m
      (set_too mid most s.0 t.0 (stays_since old.files mid.files most.files whole s.0 t.0 s.1 t.1) (name_of (Temporary found.number)) current (same_name most.files whole t.0 d t.1 (name_of Current) current_other) set)
      (record { more = []; calls = refl; during = λ fs gone. absurd gone; now = k.now whole t.0 d t.1 h })
      (record {
        more = [];
        calls = refl;
        during = λ fs gone. absurd gone;
        now = may_put_too most (with_files most files) t.0 behind stays log (same_name files whole behind d c log (log_other (found.number + 1) (next_of found u))) left;
      })).now) made)
