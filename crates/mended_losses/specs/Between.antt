-- What a power loss between two calls of an open database leaves once it is mended.
use Rattle.std.specs.Prelude.{◌≡◌, ◌⊎◌, ℕ, List, [], ◌∷◌, Some, None}
use Rattle.std.specs.FinMap.{get}
use Rattle.std.specs.List.{AllByRecursion}
use Rattle.edits.specs.Names.{name_of}
use Rattle.edits.specs.declared.names.FileName.{FileName}
use Rattle.edits.specs.declared.names.FileName.TheVariants.{Current, Log, Manifest, OldTable, Table}
use Rattle.ikey.specs.Orders.{Order}
use Rattle.recover.specs.Directory.{Directory, IsConsistent}
use Rattle.recover.specs.Logs.{InLogs, LogContent}
use Rattle.recover.specs.Tables.{InTables, TableContent, table_at}
use Rattle.store.specs.Files.{Call, Disk, Facts, Files, disk_of}
use Rattle.store.specs.Losses.{BeginsWith, Lost, StaysNamed, StaysOrBegins, behind_sync}
use Rattle.store.specs.Stops.{moment}
use Rattle.mending.specs.declared.ends.Ends.{Ends}
use Rattle.mended_losses.specs.Laws.{AreMendedBy}
use Rattle.mended_losses.specs.Losses.{HoledLost}
use Rattle.mended_losses.specs.Reading.{EndsWhole, HasFile, WasWritten}

-- ---- what is synced

-- What was synced of each file was a beginning of what it held: now, and when each of these calls
-- was made. (`Store::synced_law` says it of a store at any time.)
abbrev pub SyncsFront : Disk → Type 0
SyncsFront disk = (q held synced : List ℕ) → get disk.files q ≡ Some held → disk.synced q ≡ Some synced
    → BeginsWith held synced

abbrev pub SyncsFronts : List Call → Disk → Type 0
SyncsFronts calls now = AllByRecursion (λ (call : Call). SyncsFront call.found) calls × SyncsFront now

-- The file of this name is synced whole, if it is there.
abbrev pub IsWhole : Facts → List ℕ → Type 0
IsWhole facts name = (bytes : List ℕ) → get facts.files name ≡ Some bytes → facts.synced name ≡ Some bytes

-- It is, and no call since the last sync made, moved or removed it.
abbrev pub StaysWhole : Facts → List ℕ → Type 0
StaysWhole facts name = StaysNamed facts name × IsWhole facts name

-- A log may have been begun since, and may be synced in part: to the end of a fragment.
pub record IsLogSynced (facts : Facts) (name : List ℕ) : Type 0 where
  pub named : StaysOrBegins facts name
  pub ends : (held synced : List ℕ) → get facts.files name ≡ Some held → facts.synced name ≡ Some synced
      → EndsWhole held synced

-- The file that is read as the table of this number is synced whole, or the loss has left it. (Of
-- those that were there before an open no store knows whether they were synced.)
pub record IsTableSafe (facts : Facts) (lost : Files) (number : ℕ) : Type 0 where
  pub newer : StaysNamed facts (name_of (Table number))
  pub older : get facts.files (name_of (Table number)) ≡ None → StaysNamed facts (name_of (OldTable number))
  pub whole : (IsWhole facts (name_of (Table number))
      × (get facts.files (name_of (Table number)) ≡ None → IsWhole facts (name_of (OldTable number))))
      ⊎ (table_at lost number ≡ table_at facts.files number)

-- The same holds for all that a directory of these parts reads.
pub record IsHeldOpen (facts : Facts) (lost : Files) (d : Directory) : Type 0 where
  pub fronts : SyncsFronts (behind_sync [] facts.calls) (disk_of facts)
  pub current : StaysWhole facts (name_of Current)
  pub manifest : StaysWhole facts (name_of (Manifest d.manifest))
  pub logs : (n : ℕ) → InLogs d.logs n → IsLogSynced facts (name_of (Log n))
  pub tables : (content : TableContent) → InTables d.tables content
      → IsTableSafe facts lost content.placed.table.number

-- ---- what is left of it

abbrev pub files_of : List LogContent → List FileName
files_of [] = []
files_of (content ∷ contents) = Log content.number ∷ files_of contents

-- its MANIFEST and its logs
abbrev pub logs_of : Directory → List FileName
logs_of d = Manifest d.manifest ∷ files_of d.logs

-- No checksum fits by chance in what is left of these.
abbrev pub LeavesNoChance : Facts → Files → Directory → Type 0
LeavesNoChance facts lost d = (file : FileName) (bytes held : List ℕ) → HasFile (logs_of d) file
    → get lost (name_of file) ≡ Some bytes → get facts.files (name_of file) ≡ Some held → WasWritten held bytes

-- The mended files are each directory that the plain ones are: the same parts, but that logs may
-- have lost their last batches, and some may be gone. Tables read as the loss left them.
pub record AreAsGood (order : Order) (d : Directory) (lost mended plain : Files) : Type 0 where
  pub same : (logs : List LogContent) → ((n : ℕ) → InLogs logs n → InLogs d.logs n)
      → IsConsistent order plain (record d { logs = logs }) → IsConsistent order mended (record d { logs = logs })
  pub tables : (content : TableContent) → InTables d.tables content
      → table_at plain content.placed.table.number ≡ table_at lost content.placed.table.number

-- A loss without zeros could have left such plain files.
abbrev pub BetweenLaw : Type 0
BetweenLaw = (order : Order) (ends : Ends) (facts : Facts) (d : Directory) (lost mended : Files)
    → IsConsistent order facts.files d → IsHeldOpen facts lost d → LeavesNoChance facts lost d
    → HoledLost facts (moment facts) lost → AreMendedBy order.name ends d.manifest d.layout lost mended
    → (plain : Files) × Lost facts (moment facts) plain × AreAsGood order d lost mended plain
