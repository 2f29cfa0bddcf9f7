-- What is left of an open database between two calls.
use Rattle.std.specs.Prelude.{◌≡◌, ℕ, false, [], Contains}
use Rattle.edits.specs.Names.{name_of, IsNumbered}
use Rattle.edits.specs.declared.names.FileName.TheVariants.{Log}
use Rattle.engine.specs.Losses.{LeavesFound}
use Rattle.engine.specs.OpenDb.{OpenDb}
use Rattle.engine.specs.StandsDb.{StandsDb, db_store_of, open_by}
use Rattle.engine.specs.declared.db.Db.{Db}
use Rattle.ikey.specs.Orders.{Order}
use Rattle.machine.specs.Machine.{Machine}
use Rattle.mended_db.specs.Cut.{IsCutDirectory, IsSyncedEnd}
use Rattle.mended_losses.specs.Between.{LeavesNoChance, SyncsFronts}
use Rattle.mended_losses.specs.Laws.{AreMendedBy}
use Rattle.mended_losses.specs.Losses.{HoledLost}
use Rattle.mending.specs.declared.ends.Ends.{Ends}
use Rattle.opening.specs.Losses.{logs_in_doubt}
use Rattle.recover.specs.Directory.{Directory, IsConsistent}
use Rattle.store.specs.Files.{Facts, Files, disk_of}
use Rattle.store.specs.Losses.{behind_sync}
use Rattle.store.specs.Stops.{moment}

-- The log that writes go to, and those before it that may not be durable whole, are synced to the
-- end of a fragment. (`Db` syncs a log only there, but no contract of its says so.)
abbrev pub SyncsEnds : {K : Type 0} {g : _} → Facts → OpenDb K g → Type 0
SyncsEnds facts db = (n : ℕ) → IsNumbered n → Contains (logs_in_doubt db.log) (name_of (Log n)) → IsSyncedEnd facts n

-- The files are this directory. A loss with zeros, once it is mended, leaves it with logs that may
-- be cut, if no checksum fits by chance.
pub record MendsDirectory {K : Type 0} {g : _} (order : Order) (facts : Facts) (lost : Files)
    (db : OpenDb K g) : Type 0 where
  pub directory : Directory
  pub whole : IsConsistent order facts.files directory
  pub left : SyncsFronts (behind_sync [] facts.calls) (disk_of facts) → SyncsEnds facts db
      → LeavesNoChance facts lost directory → HoledLost facts (moment facts) lost → (ends : Ends) (mended : Files)
      → AreMendedBy order.name ends directory.manifest directory.layout lost mended
      → IsCutDirectory order facts directory mended

-- So it is of each database that isn't broken, if the loss leaves the tables that the open found.
abbrev pub DbMendsEnds : {S K : Type 0} {g : _} → Order → (S → Facts) → Db S K g → Type 0
DbMendsEnds order facts db = (m : Machine) → m.damaged ≡ false → StandsDb order facts db m → (open_by db).broken ≡ false
    → (lost : Files) → LeavesFound (facts (db_store_of db)).files lost (open_by db)
    → MendsDirectory order (facts (db_store_of db)) lost (open_by db)
