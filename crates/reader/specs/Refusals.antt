-- Why a reader isn't opened, and why a key isn't read.
use Rattle.std.specs.Prelude.{◌≡◌, ◌<◌, List, IsTrue}
use Rattle.coding.specs.declared.error.DbError.{DbError}
use Rattle.coding.specs.declared.error.DbError.TheVariants as error
use Rattle.db_cursor.specs.Scans.{IsOnePastLimit}
use Rattle.db_cursor.specs.Whole.{Whole}
use Rattle.edits.specs.declared.field.PlacedTable.{PlacedTable}
use Rattle.ikey.specs.Orders.{Order}
use Rattle.ikey.specs.Views.{Contents}
use Rattle.opening.specs.Looking.{RefusesLook}
use Rattle.recover.specs.Directory.{IsEmpty}
use Rattle.store.specs.Files.{Facts}
use Rattle.reader.specs.internal.Shows.{Shows, ShowsNone}

-- Since there is no database, or for what ends a look.
abbrev pub RefusesReader : Order → DbError → Facts → Facts → Type 0
RefusesReader order error.NoDatabase old new = IsTrue new.faithful → IsEmpty old.files
RefusesReader order e old new = RefusesLook order e old new

-- Why a key isn't read: out of memory, while the store didn't fail, or since it failed. Corrupt: no
-- map is shown. Unsupported only if one of the tables is past a limit of reading.
abbrev pub RefusesRead : Order → List PlacedTable → Whole → Whole → DbError → Type 0
RefusesRead order tables old new error.OutOfMemory = new.seen.facts.failures ≡ old.seen.facts.failures
RefusesRead order tables old new error.Io = old.seen.facts.failures < new.seen.facts.failures
RefusesRead order tables old new (error.Corrupt file what) = IsTrue new.seen.facts.faithful → ShowsNone order old tables
RefusesRead order tables old new (error.Unsupported what) = IsTrue new.seen.facts.faithful → (map : Contents) → Shows order old tables map → IsOnePastLimit order.cmp tables old
RefusesRead order tables old new _ = ⊥
