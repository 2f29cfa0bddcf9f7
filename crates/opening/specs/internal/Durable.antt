-- What the calls of an open leave of what is synced.
use Rattle.std.specs.Prelude.{◌≡◌, ◌≢◌, ◌⊎◌, ◌+◌, ℕ, Some, IsTrue, List, Result, OnOk, OnErr}
use Rattle.coding.specs.declared.error.DbError.{DbError}
use Rattle.store.specs.Files.{Facts}
use Rattle.edits.specs.Names.{name_of, IsFileName, IsNumbered}
use Rattle.edits.specs.declared.names.FileName.{FileName}
use Rattle.edits.specs.declared.names.FileName.TheVariants.{Current, Lock, Log, Manifest, OldTable, Table, Temporary}
use Rattle.opening.specs.Durable.{HasSyncedCurrent, IsDurableAt, LeavesFile, SyncsOnly}

-- The name of a file that an open neither writes nor removes: another program's, or the lock's.
abbrev pub IsSpared : List ℕ → Type 0
IsSpared name = (file : FileName) → IsFileName file → file ≢ Lock → name ≢ name_of file

-- Such files, and what of them is synced, are as before.
abbrev pub Spares : Facts → Facts → Type 0
Spares old new = (name : List ℕ) → IsSpared name → LeavesFile old new name

-- The name of a file that an open doesn't write which draws this number: not `CURRENT`, nor its
-- MANIFEST, its log or the temporary file.
pub record IsBeside (n : ℕ) (name : List ℕ) : Type 0 where
  pub current : name ≢ name_of Current
  pub manifest : name ≢ name_of (Manifest n)
  pub log : name ≢ name_of (Log (n + 1))
  pub temporary : name ≢ name_of (Temporary n)

abbrev pub SparesBeside : ℕ → Facts → Facts → Type 0
SparesBeside n old new = (name : List ℕ) → IsBeside n name → LeavesFile old new name

-- The files of tables, and what of them is synced, are as before.
abbrev pub SparesTables : Facts → Facts → Type 0
SparesTables old new = (n : ℕ) → IsNumbered n → LeavesFile old new (name_of (Table n)) × LeavesFile old new (name_of (OldTable n))

-- A file that was written anew is synced whole.
pub record WritesSynced (old new : Facts) (name bytes : List ℕ) (result : Result (Unit {0}) DbError) : Type 0 where
  pub ok : IsTrue new.faithful → OnOk result (new.synced name ≡ Some bytes)
  pub others : IsTrue new.faithful → SyncsOnly old.synced new.synced name

-- It is so wherever `CURRENT` has changed, since what takes its name was synced before.
pub record MakesSynced (old new : Facts) (temporary bytes : List ℕ) (result : Result (Unit {0}) DbError) : Type 0 where
  pub ok : IsTrue new.faithful → OnOk result (HasSyncedCurrent new bytes)
  pub err : IsTrue new.faithful → OnErr result (temporary ≢ name_of Current → LeavesFile old new (name_of Current) ⊎ HasSyncedCurrent new bytes)
  pub others : IsTrue new.faithful → (q : List ℕ) → q ≢ temporary → q ≢ name_of Current → new.synced q ≡ old.synced q

-- The same of this one, whose number fits.
pub record HasDurable (n : ℕ) (facts : Facts) : Type 0 where
  pub numbered : IsNumbered n
  pub durable : IsDurableAt n facts
