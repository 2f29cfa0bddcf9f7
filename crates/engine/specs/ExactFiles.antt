-- Which files a database has where there is no work (LevelDB's db/db_impl.cc,
-- DBImpl::RemoveObsoleteFiles).
use Rattle.std.specs.Prelude.{◌≡◌, ℕ, true, IsTrue, Some, IsSome, Result, Ok}
use Rattle.std.specs.FinMap.{contains_key, get}
use Rattle.cache.specs.Tables.{table_at}
use Rattle.coding.specs.declared.error.DbError.{DbError}
use Rattle.edits.specs.Names.{IsFileName, name_of}
use Rattle.edits.specs.declared.names.FileName.{FileName}
use Rattle.edits.specs.declared.names.FileName.TheVariants.{Current, Lock, Log, Table, OldTable, Manifest, Temporary}
use Rattle.ikey.specs.Orders.{Order}
use Rattle.db_cursor.specs.Scans.{tables_of}
use Rattle.db_cursor.specs.declared.scan.Scan.{Scan}
use Rattle.table_access.specs.Tables.{Seen}
use Rattle.store.specs.Files.{Files}
use Rattle.versions.specs.Levels.{HasNumber}
use Rattle.engine.specs.declared.ids.Ids.{Ids}
use Rattle.engine.specs.declared.work.Progress.{Progress}
use Rattle.engine.specs.declared.work.Progress.TheVariants as progress
use Rattle.engine.specs.OpenDb.{OpenDb}
use Rattle.engine.specs.InUse.{IsTableRead}
use Rattle.engine.specs.Reads.{kept_at}
use Rattle.machine.specs.Machine.{Machine}
use Rattle.engine.specs.internal.Standing.{StandsWhole}

-- the file is `CURRENT`, the lock, the MANIFEST, the log that writes go to, or a table of the
-- version or of that of an open iterator. Of a table that has a file under both of its names it is
-- the one that is read.
abbrev pub IsLiveAtEase : {K : Type 0} {g : _} → Files → OpenDb K g → FileName → Type 0
IsLiveAtEase files db Current = Unit {0}
IsLiveAtEase files db Lock = Unit {0}
IsLiveAtEase files db (Log n) = n ≡ db.log.number
IsLiveAtEase files db (Table n) = IsTableRead db.tables db.iterators n
IsLiveAtEase files db (OldTable n) = IsTableRead db.tables db.iterators n × (contains_key files (name_of (Table n)) ≡ true → ⊥)
IsLiveAtEase files db (Manifest n) = n ≡ db.directory.manifest.number
IsLiveAtEase files db (Temporary n) = ⊥

-- These are the files of a known shape, and all of them but the lock's, of which nothing is said,
-- are there, a table's under one of its names.
pub record HasExactlyLive {K : Type 0} {g : _} (files : Files) (db : OpenDb K g) : Type 0 where
  pub only : (file : FileName) → IsFileName file → contains_key files (name_of file) ≡ true → IsLiveAtEase files db file
  pub current : IsSome (get files (name_of Current))
  pub manifest : IsSome (get files (name_of (Manifest db.directory.manifest.number)))
  pub log : IsSome (get files (name_of (Log db.log.number)))
  pub tables : (number : ℕ) → HasNumber number db.tables → IsSome (table_at files number)
  pub pinned : (id : ℕ) (scan : Scan K g) → kept_at db.iterators id ≡ Some scan → (number : ℕ) → HasNumber number (tables_of scan) → IsSome (table_at files number)

-- If there is no work and no call failed, that is so, while the store is faithful, from each state
-- of the machine that the database could be in before.
abbrev pub LeavesExactlyLive : {K : Type 0} {g : _} → Order → Seen → Seen → OpenDb K g → OpenDb K g → Result Progress DbError → Type 0
LeavesExactlyLive order old new before after result =
    result ≡ Ok progress.Idle → IsTrue new.facts.faithful → new.facts.failures ≡ old.facts.failures → (ids : Ids) (m : Machine) → StandsWhole order old ids before m → HasExactlyLive new.facts.files after
