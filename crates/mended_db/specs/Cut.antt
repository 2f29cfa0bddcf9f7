-- What is left of a directory after a power loss with zeros, once it is mended.
use Rattle.std.specs.Prelude.{◌≡◌, ℕ, List, [], Some}
use Rattle.std.specs.FinMap.{get}
use Rattle.edits.specs.Names.{name_of}
use Rattle.edits.specs.declared.names.FileName.TheVariants.{Log}
use Rattle.ikey.specs.Orders.{Order}
use Rattle.mended_losses.specs.Between.{LeavesNoChance, SyncsFronts}
use Rattle.mended_losses.specs.Laws.{AreMendedBy}
use Rattle.mended_losses.specs.Losses.{HoledLost}
use Rattle.mended_losses.specs.Reading.{EndsWhole}
use Rattle.mending.specs.declared.ends.Ends.{Ends}
use Rattle.opening.specs.Losses.{AreCut, AreSpared, IsKeptButLogs}
use Rattle.recover.specs.Directory.{Directory, IsConsistent}
use Rattle.recover.specs.Logs.{InLogs, LogContent}
use Rattle.store.specs.Files.{Facts, Files, disk_of}
use Rattle.store.specs.Losses.{behind_sync}
use Rattle.store.specs.Stops.{moment}

-- All of this log is synced, or it is synced to the end of a fragment, or nothing of it is.
abbrev pub IsSyncedEnd : Facts → ℕ → Type 0
IsSyncedEnd facts n = (held synced : List ℕ) → get facts.files (name_of (Log n)) ≡ Some held
    → facts.synced (name_of (Log n)) ≡ Some synced → EndsWhole held synced

-- The mended files are the directory, of which some logs may be cut or gone. None has lost a batch
-- that was synced.
pub record IsCutDirectory (order : Order) (facts : Facts) (d : Directory) (mended : Files) : Type 0 where
  pub logs : List LogContent
  pub cut : AreCut facts d.logs logs
  pub left : IsConsistent order mended (record d { logs = logs })

-- All but its logs is synced, or left by the loss; these are synced to a fragment's end. The calls
-- since the last sync spare what it reads.
abbrev pub MendedCutLaw : Type 0
MendedCutLaw = (order : Order) (ends : Ends) (facts : Facts) (d : Directory) (lost mended : Files)
    → IsConsistent order facts.files d → IsKeptButLogs facts facts.files lost d → AreSpared facts d
    → SyncsFronts (behind_sync [] facts.calls) (disk_of facts) → ((n : ℕ) → InLogs d.logs n → IsSyncedEnd facts n)
    → LeavesNoChance facts lost d → HoledLost facts (moment facts) lost
    → AreMendedBy order.name ends d.manifest d.layout lost mended → IsCutDirectory order facts d mended
