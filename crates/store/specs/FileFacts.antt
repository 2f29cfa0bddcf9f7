-- What is known of a store over a folder: its counts, whether it holds the lock, and nothing of the
-- files.
use Rattle.std.specs.Prelude.{Bool, false, None, []}
use Rattle.std.specs.FinMap.{empty}
use Rattle.std.specs.declared.io.ErrorKind.{ErrorKind}
use Rattle.std.specs.declared.io.ErrorKind.TheVariants.{NotFound, OutOfMemory}
use Rattle.store.specs.declared.error.StoreError.{StoreError}
use Rattle.store.specs.declared.error.StoreError.TheVariants.{Memory, Missing, Device}
use Rattle.store.specs.declared.counters.Counters.{Counters}
use Rattle.store.specs.Files.{Facts}

abbrev pub counted_facts : Bool → Counters → Facts
counted_facts held counters = record {
  files = empty;
  synced = λ name. None;
  calls = [];
  faithful = false;
  locked = held;
  failures = counters.failures;
  write_failures = counters.write_failures;
  denials = counters.denials;
}

-- what an error of the system is to a call that has changed nothing, by its kind
abbrev pub refusal_of : ErrorKind → StoreError
refusal_of NotFound = Missing
refusal_of OutOfMemory = Memory
refusal_of _ = Device
