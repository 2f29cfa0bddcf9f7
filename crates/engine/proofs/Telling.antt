-- What an open's answer tells of the directory.
use Rattle.std.proofs.Common.{is_some, Result, Ok, Err, inl, inr, sym, ap, ◌∙◌}
use Rattle.coding.specs.declared.error.DbError.{DbError}
use Rattle.coding.specs.declared.error.DbError.TheVariants as error
use Rattle.store.specs.Files.{Facts, Files, MayLock}
use Rattle.ikey.specs.Orders.{Order}
use Rattle.edits.specs.declared.names.FileName.TheVariants.{Current, Manifest}
use Rattle.recover.specs.internal.Laws.{FreeChangeLaw}
use Rattle.opening.specs.internal.Calls.{RefusesLock}
use Rattle.opening.specs.Refusals.{IsMet}
use Rattle.opening.specs.Telling.{RefusalTells, Tells}
use Rattle.recover.specs.Reading.{IsBeyondReading}
use Rattle.engine.proofs.OpenLock.{OnlyLock, may_lock_only, only_back, empty_beside, consistent_beside, recovers_beside}

-- nor does a lock that isn't held
pub lock_tells : (order : Order) (old new : Facts) (e : DbError) → RefusesLock e old new → RefusalTells order old.files e
lock_tells order old new error.OutOfMemory h = tt
lock_tells order old new error.Io h = tt
lock_tells order old new error.Locked h = tt
lock_tells order old new _ h = absurd h

-- a MANIFEST that isn't read says the same where another file was made
beyond_back : (order : Order) (old new : Files) → OnlyLock old new → IsBeyondReading order new → IsBeyondReading order old
unfolding OnlyLock
beyond_back order old new only b = record {
  number = b.number;
  numbered = b.numbered;
  current = sym (only Current tt (λ e. cc)) ∙ b.current;
  bytes = b.bytes;
  there = sym (only (Manifest b.number) b.numbered (λ e. cc)) ∙ b.there;
  spelled = b.spelled;
}

-- the file of the lock says nothing
pub tells_beside : {T : Type 0} → (order : Order) (old new : Files) → FreeChangeLaw → MayLock old new → (r : Result T DbError) → Tells order new r → Tells order old r
unfolding OnlyLock
tells_beside order old new law may (Ok state) h =
    let back = only_back old new (may_lock_only old new may) in
    elim h [
      | inl none ↦ inl (empty_beside order new old law back none)
      | inr there ↦ inr (there.0, recovers_beside order new old law back there.0 there.1, λ plain. let d = there.2 plain in (d.0, consistent_beside order new old law back d.0 d.1))
    ]
tells_beside order old new law may (Err (error.Corrupt file what)) h =
    let on = may_lock_only old new may in
    (λ none. h.0 (empty_beside order old new law on none), λ d there. h.1 d (consistent_beside order old new law on d there))
tells_beside order old new law may (Err (error.Unsupported what)) h = beyond_back order old new (may_lock_only old new may) h
tells_beside order old new law may (Err error.NoDatabase) h = empty_beside order new old law (only_back old new (may_lock_only old new may)) h
tells_beside order old new law may (Err error.Exists) h = ap is_some (sym (may_lock_only old new may Current tt (λ e. cc))) ∙ h
tells_beside order old new law may (Err _) h = tt

-- ---- and it is none that the arguments or what is open would show

pub lock_met : (old new : Facts) (e : DbError) → RefusesLock e old new → IsMet e
lock_met old new error.OutOfMemory h = tt
lock_met old new error.Io h = tt
lock_met old new error.Locked h = tt
lock_met old new _ h = absurd h
