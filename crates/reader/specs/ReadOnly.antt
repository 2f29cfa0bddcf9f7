-- What is known of a store of which only the reading calls are used.
use Rattle.std.specs.Prelude.{◌≡◌, ◌≢◌, ◌&&◌, ◌+◌, ◌-◌, ◌≤◌, ◌^◌, false, nat_lt, Result, Err}
use Rattle.store.specs.Files.{Facts}
use Rattle.store.specs.declared.error.StoreError.{StoreError}
use Rattle.store.specs.declared.error.StoreError.TheVariants.{Device}
use Rattle.reader.specs.declared.read_only.ReadOnly.{ReadOnly}

-- The files are those of the store within, and so is what is synced of them. It holds no lock, and
-- counts its own failures: those of the store within, and its refusals. It is faithful while that
-- store is, and a further failure can be counted.
abbrev pub looked_at : {S : Type 0} → (S → Facts) → ReadOnly S → Facts
looked_at facts store = record (facts store.inner) {
  faithful = (facts store.inner).faithful && nat_lt store.failures (2 ^ 64 - 1);
  locked = false;
  failures = store.failures;
  write_failures = store.write_failures;
}

-- The call never came to the store within. It fails and is counted; or no further failure can be
-- counted, and it answers something else.
pub record IsKeptOut {S T : Type 0} (old new : ReadOnly S) (result : Result T StoreError) : Type 0 where
  pub inner : new.inner ≡ old.inner
  pub counted : result ≡ Err Device → new.failures ≡ old.failures + 1
  pub full : result ≢ Err Device → (new.failures ≡ old.failures) × (2 ^ 64 ≤ new.failures + 1)
