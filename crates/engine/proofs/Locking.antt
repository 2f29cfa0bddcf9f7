-- What an open does to the lock, and what of its writing is synced, from the call that takes the
-- lock on.
use Rattle.std.proofs.Common.{Bool, true, false, cond, List, ℕ, [], IsSome, is_some, ◌≡◌, ◌≢◌, ◌⊎◌, ◌<◌, ◌≤◌, ◌+◌, ap, sym, ◌∙◌, Result, Ok, Err, IsTrue, OnOk, OnErr, inl, inr, refl, arith}
use Rattle.std.specs.FinMap.{get, contains_key, insert}
use Rattle.coding.specs.declared.error.DbError.{DbError}
use Rattle.coding.specs.declared.error.DbError.TheVariants.{Io, OutOfMemory}
use Rattle.store.specs.Files.{Facts, Files, Synced, MayLock, lock_name}
use Rattle.store.specs.Calls.{Counts}
use Rattle.store.specs.declared.error.StoreError.{StoreError}
use Rattle.store.specs.declared.error.StoreError.TheVariants as store_error
use Rattle.edits.specs.Names.{name_of}
use Rattle.edits.specs.declared.names.FileName.TheVariants.{Current, Lock}
use Rattle.recover.proofs.NamedFiles.{get_other, get_same}
use Rattle.opening.specs.internal.Calls.{TakesLock}
use Rattle.opening.specs.Durable.{IsForeign, KeepsForeign, LeavesFile, LeavesDurable}
use Rattle.opening.specs.internal.Begun.{IsUnwritten}
use Rattle.opening.specs.internal.Durable.{IsSpared, Spares}
use Rattle.engine.specs.Touching.{OpensStore, Frees, LeavesRefused, told_failures}
use Rattle.engine.proofs.OpenLock.{OnlyLock, may_lock_only}
use Rattle.opening.proofs.AfterReading.{behind_durable, done_durable, left_by, spared_same}
use Rattle.opening.proofs.Reopening.{files_apart}

-- ---- what is synced

-- ---- files that an open leaves alone

made_beside : (b : Bool) (files : Files) (name : List ℕ) → IsForeign name → get (cond b files (insert files lock_name [])) name ≡ get files name
made_beside true files name is = refl
made_beside false files name is = get_other files lock_name [] name (is Lock tt)

may_lock_beside : (old new : Files) → MayLock old new → (name : List ℕ) → IsForeign name → get new name ≡ get old name
may_lock_beside old new (inl same) name is = ap (λ (f : Files). get f name) same
may_lock_beside old new (inr made) name is = ap (λ (f : Files). get f name) made ∙ made_beside (contains_key old lock_name) old name is

foreign_asked : {r : Result (Unit {0}) DbError} (old new : Facts) → TakesLock old new r → IsTrue new.faithful → KeepsForeign old new
foreign_asked old new taken f name is = (may_lock_beside old.files new.files (taken.files f) name is, ap (λ (s : Synced). s name) (taken.synced f))

foreign_spared : (name : List ℕ) → IsForeign name → IsSpared name
foreign_spared name foreign file is apart = foreign file is

foreign_locked : (old mid new : Facts) → TakesLock old mid (Ok tt) → IsTrue mid.faithful → Spares mid new → KeepsForeign old new
foreign_locked old mid new taken f kept name is =
    let a = foreign_asked {r = Ok tt} old mid taken f name is in
    let b = kept name (foreign_spared name is) in
    (b.0 ∙ a.0, b.1 ∙ a.1)

-- ---- files that a refused open leaves alone

made_apart : (b : Bool) (files : Files) (name : List ℕ) → name ≢ lock_name → get (cond b files (insert files lock_name [])) name ≡ get files name
made_apart true files name is = refl
made_apart false files name is = get_other files lock_name [] name is

may_lock_apart : (old new : Files) → MayLock old new → (name : List ℕ) → name ≢ lock_name → get new name ≡ get old name
may_lock_apart old new (inl same) name is = ap (λ (f : Files). get f name) same
may_lock_apart old new (inr made) name is = ap (λ (f : Files). get f name) made ∙ made_apart (contains_key old lock_name) old name is

asked_unwritten : {r : Result (Unit {0}) DbError} (old new : Facts) (e : DbError) → TakesLock old new r → IsTrue new.faithful → LeavesRefused old new e
asked_unwritten old new e taken f = inr (λ name is. may_lock_apart old.files new.files (taken.files f) name is)

unwritten_locked : (old mid new last : Facts) (e : DbError) → TakesLock old mid (Ok tt) → IsTrue mid.faithful → IsTrue new.faithful → IsUnwritten e mid new → last.files ≡ new.files → LeavesRefused old last e
unwritten_locked old mid new last e taken f k (inl same) files =
    inr (λ name is. ap (λ (fs : Files). get fs name) (files ∙ same k) ∙ may_lock_apart old.files mid.files (taken.files f) name is)
unwritten_locked old mid new last e taken f k (inr met) files = inl met

-- ---- the lock's file

-- an open leaves it alone once it has the lock
lock_spared : IsSpared lock_name
lock_spared file is apart same = files_apart file Lock is tt apart (sym same)

made_there : (b : Bool) (files : Files) → contains_key files lock_name ≡ b → IsSome (get (cond b files (insert files lock_name [])) lock_name)
made_there true files is = is
made_there false files is = ap is_some (get_same files lock_name [])

stays_made : (b : Bool) (files : Files) → contains_key files lock_name ≡ b → IsSome (get files lock_name) → get (cond b files (insert files lock_name [])) lock_name ≡ get files lock_name
stays_made true files is there = refl
stays_made false files is there = (let clash : true ≡ false = sym there ∙ is in absurd (cc))

stays_asked : (old new : Files) → MayLock old new → IsSome (get old lock_name) → get new lock_name ≡ get old lock_name
stays_asked old new (inl same) there = ap (λ (f : Files). get f lock_name) same
stays_asked old new (inr made) there = ap (λ (f : Files). get f lock_name) made ∙ stays_made (contains_key old lock_name) old refl there

left_asked : {r : Result (Unit {0}) DbError} (old new : Facts) → TakesLock old new r → IsTrue new.faithful → IsSome (get old.files lock_name) → LeavesFile old new lock_name
left_asked old new taken f there = (stays_asked old.files new.files (taken.files f) there, ap (λ (s : Synced). s lock_name) (taken.synced f))

left_locked : (old mid new : Facts) → TakesLock old mid (Ok tt) → IsTrue mid.faithful → Spares mid new → IsSome (get old.files lock_name) → LeavesFile old new lock_name
left_locked old mid new taken f kept there =
    let a = left_asked {r = Ok tt} old mid taken f there in
    let b = kept lock_name lock_spared in
    (b.0 ∙ a.0, b.1 ∙ a.1)

there_locked : (old mid new : Facts) → TakesLock old mid (Ok tt) → IsTrue mid.faithful → Spares mid new → IsSome (get new.files lock_name)
there_locked old mid new taken f kept =
    ap is_some ((kept lock_name lock_spared).0 ∙ ap (λ (fs : Files). get fs lock_name) (taken.made f)) ∙ made_there (contains_key old.files lock_name) old.files refl

-- ---- the lock

left_by_lock : {r : Result (Unit {0}) DbError} (old mid : Facts) → TakesLock old mid r → IsTrue mid.faithful → LeavesFile old mid (name_of Current)
unfolding OnlyLock
left_by_lock old mid taken f = (may_lock_only old.files mid.files (taken.files f) Current tt (λ e. cc), ap (λ (s : Synced). s (name_of Current)) (taken.synced f))

-- the lock wasn't taken
pub unlocked_open : {T : Type 0} (old new : Facts) (e : DbError) → TakesLock old new (Err e) → OpensStore {T = T} old new (Err e)
unlocked_open old new e taken = record {
  locks = record { locked = tt; freed = λ h. inl (sym taken.unheld ∙ h) };
  lock_file = record { there = λ f. tt; stays = λ f. left_asked {r = Err e} old new taken f };
  durable = record { ok = λ f. tt; err = λ f. inl (left_by_lock {r = Err e} old new taken f) };
  foreign = λ f. foreign_asked {r = Err e} old new taken f;
  unwritten = λ f. asked_unwritten {r = Err e} old new e taken f;
}

-- it was, and the open was done
pub locked_open : {T : Type 0} (old mid new : Facts) (x : T) → TakesLock old mid (Ok tt) → new.locked ≡ mid.locked → (IsTrue new.faithful → IsTrue mid.faithful) → LeavesDurable {T = T} mid new (Ok x) → (IsTrue new.faithful → Spares mid new) → OpensStore {T = T} old new (Ok x)
locked_open {T} old mid new x taken same back d kept = record {
  locks = record { locked = same ∙ taken.locked; freed = tt };
  lock_file = record { there = λ f. there_locked old mid new taken (back f) (kept f); stays = λ f. left_locked old mid new taken (back f) (kept f) };
  durable = done_durable {T = T} {U = T} old mid new x x d;
  foreign = λ f. foreign_locked old mid new taken (back f) (kept f);
  unwritten = λ f. tt;
}

-- with another value
pub opened_as : {T U : Type 0} (old new : Facts) (x : T) (y : U) → OpensStore {T = T} old new (Ok x) → OpensStore {T = U} old new (Ok y)
opened_as old new x y opens = record {
  locks = record { locked = opens.locks.locked; freed = tt };
  lock_file = record { there = opens.lock_file.there; stays = opens.lock_file.stays };
  durable = record { ok = opens.durable.ok; err = λ f. tt };
  foreign = opens.foreign;
  unwritten = λ f. tt;
}

-- or none was, with a value of another type
pub refused_as : {T U : Type 0} (old new : Facts) (e : DbError) → OpensStore {T = T} old new (Err e) → OpensStore {T = U} old new (Err e)
refused_as old new e opens = record {
  locks = record { locked = tt; freed = opens.locks.freed };
  lock_file = record { there = λ f. tt; stays = opens.lock_file.stays };
  durable = record { ok = λ f. tt; err = opens.durable.err };
  foreign = opens.foreign;
  unwritten = opens.unwritten;
}

freed_by : (r : Result (Unit {0}) StoreError) (old new : Facts) → Counts old new r → OnOk r (new.locked ≡ false) → r ≢ Err store_error.Missing → r ≢ Err store_error.Memory → new.locked ≡ true → old.failures < new.failures
freed_by (Ok x) old new counts free missing memory held = (let clash : true ≡ false = sym held ∙ free in absurd (cc))
freed_by (Err store_error.Missing) old new counts free missing memory held = absurd (missing refl)
freed_by (Err store_error.Memory) old new counts free missing memory held = absurd (memory refl)
freed_by (Err store_error.Device) old new counts free missing memory held = counts.device refl

pub frees : (r : Result (Unit {0}) StoreError) (old new : Facts) → Counts old new r → OnOk r (new.locked ≡ false) → r ≢ Err store_error.Missing → r ≢ Err store_error.Memory → Frees old new
frees r old new counts free missing memory held = freed_by r old new counts free missing memory held

-- a refusal tells of no more failures than there were
told_most : (e : DbError) (old new : Facts) → old.failures ≤ new.failures → (e ≡ Io → old.failures < new.failures) → old.failures + told_failures e ≤ new.failures
told_most Io old new rise io = let fails : old.failures < new.failures = io refl in omega (arith, fails)
told_most _ old new rise io = omega (arith, rise)

-- it was, and released
pub given_back : {T : Type 0} (old mid new last : Facts) (e : DbError) (r : Result (Unit {0}) StoreError) → TakesLock old mid (Ok tt) → mid.failures ≤ new.failures → (e ≡ Io → mid.failures < new.failures) → (IsTrue new.faithful → IsTrue mid.faithful) → LeavesDurable {T = T} mid new (Err e) → (IsTrue new.faithful → Spares mid new)
    → IsUnwritten e mid new → Counts new last r → (IsTrue last.faithful → last.files ≡ new.files) → (IsTrue last.faithful → last.synced ≡ new.synced) → OnOk r (last.locked ≡ false) → r ≢ Err store_error.Missing → r ≢ Err store_error.Memory
    → OpensStore {T = T} old last (Err e)
given_back {T} old mid new last e r taken rise io back d spared unwritten counts files synced free missing memory =
    let left : IsTrue last.faithful → Spares mid last = λ f name is.
    let first = spared (counts.faithful f) name is in
    let after = spared_same new last (files f) (synced f) name is in
    (after.0 ∙ first.0, after.1 ∙ first.1) in
    let whole = behind_durable {T = T} {U = T} old mid new e back (λ f. left_by_lock {r = Ok tt} old mid taken f) d in
    record {
      locks = record { locked = tt; freed = λ h. inr (let fails : new.failures < last.failures = freed_by r new last counts free missing memory h in let told = told_most e mid new rise io in omega (arith, taken.failures, told, fails)) };
      lock_file = record { there = λ f. tt; stays = λ f. left_locked old mid last taken (back (counts.faithful f)) (left f) };
      durable = record {
        ok = λ f. tt;
        err = λ f.
            let g = counts.faithful f in
            elim (whole.err g) [
              | inl still ↦ (let after = left_by new last (files f) (synced f) in inl (after.0 ∙ still.0, after.1 ∙ still.1))
              | inr made ↦ (
                  let fs : (name : _) → get last.files name ≡ get new.files name = λ name. ap (λ (x : Files). get x name) (files f) in
                  let ss : (name : _) → last.synced name ≡ new.synced name = λ name. ap (λ (s : Synced). s name) (synced f) in
                  let d = made.1 in
                  inr (made.0, (d.0, (fs _ ∙ d.1.0, ss _ ∙ d.1.1), fs _ ∙ d.2, ss _ ∙ d.3)))
            ];
      };
      foreign = λ f. foreign_locked old mid last taken (back (counts.faithful f)) (left f);
      unwritten = λ f. unwritten_locked old mid new last e taken (back (counts.faithful f)) (counts.faithful f) unwritten (files f);
    }

-- where no memory was found no failure was counted, unless the lock wasn't released
pub stood_still : (r : Result (Unit {0}) StoreError) (old mid new last : Facts) → TakesLock old mid (Ok tt) → mid.failures ≡ old.failures → new.failures ≡ mid.failures → new.locked ≡ mid.locked → Counts new last r → OnErr r (last.locked ≡ new.locked)
    → (last.failures ≡ old.failures) ⊎ (last.locked ≡ true)
stood_still (Ok x) old mid new last taken first stood same counts kept = inl (counts.unfailed (λ k. cc) ∙ stood ∙ first)
stood_still (Err e) old mid new last taken first stood same counts kept = inr (kept ∙ same ∙ taken.locked)
