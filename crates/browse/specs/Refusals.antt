-- Why nothing, or nothing more, is told of a directory.
use Rattle.std.specs.Prelude.{◌≡◌, ◌<◌, ◌⊎◌, ℕ, List, Some, IsTrue}
use Rattle.coding.specs.declared.error.DbError.{DbError}
use Rattle.coding.specs.declared.error.DbError.TheVariants as error
use Rattle.ikey.specs.Orders.{Order}
use Rattle.store.specs.Files.{Facts, Files}
use Rattle.recover.specs.Directory.{Directory, IsConsistent, IsEmpty}
use Rattle.recover.specs.Limits.{PassesLimit}
use Rattle.recover.specs.Reading.{IsInconsistent}
use Rattle.recover.specs.Tables.{table_at}
use Rattle.table_access.specs.Values.{IsTablePastLimit}
use Rattle.engine.specs.Ranges.{Cmp}

-- the files are neither an empty directory nor a consistent one
abbrev pub IsDamaged : Order → Files → Type 0
IsDamaged order files = (IsEmpty files → ⊥) × IsInconsistent order files

-- Why the value of a key isn't told: out of memory, while the store didn't fail; since it failed;
-- since there is no database; since the directory is damaged; or since it passes a limit of
-- reading.
abbrev pub RefusesGet : Order → DbError → Facts → Facts → Type 0
RefusesGet order error.OutOfMemory old new = new.failures ≡ old.failures
RefusesGet order error.Io old new = old.failures < new.failures
RefusesGet order error.NoDatabase old new = IsTrue new.faithful → IsEmpty old.files
RefusesGet order (error.Corrupt file what) old new = IsTrue new.faithful → IsDamaged order old.files
RefusesGet order (error.Unsupported what) old new = IsTrue new.faithful → PassesLimit order old.files
RefusesGet order _ old new = ⊥

-- the file of a table, though perhaps of none that the directory lists, passes a limit of reading
abbrev pub HasLongTable : Cmp → Files → Type 0
HasLongTable cmp files = (number : ℕ) × (file : List ℕ) × (table_at files number ≡ Some file) × IsTablePastLimit cmp file

-- Why no further pair is told: the same, where of a consistent directory such a table is enough; or
-- since a walk has lost its place, in a directory that is damaged.
abbrev pub RefusesScan : Order → DbError → Facts → Facts → Type 0
RefusesScan order error.NoPlace old new = IsTrue new.faithful → IsDamaged order old.files
RefusesScan order (error.Unsupported what) old new =
    IsTrue new.faithful → (d : Directory) → IsConsistent order old.files d → PassesLimit order old.files ⊎ HasLongTable order.cmp old.files
RefusesScan order e old new = RefusesGet order e old new
