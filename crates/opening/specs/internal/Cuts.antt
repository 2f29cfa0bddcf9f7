-- What a power loss leaves in the middle of a call: a directory of which logs alone may be cut.
use Rattle.std.specs.Prelude.{◌≡◌, ◌⊎◌, ℕ, List, None}
use Rattle.std.specs.FinMap.{get}
use Rattle.edits.specs.Names.{name_of}
use Rattle.edits.specs.declared.names.FileName.TheVariants.{Current, Manifest, Table, OldTable}
use Rattle.ikey.specs.Orders.{Order}
use Rattle.opening.specs.Losses.{AreCut, IsKept, IsLeftWhole, IsLogIn, IsReadIn}
use Rattle.recover.specs.Directory.{Directory, IsConsistent}
use Rattle.recover.specs.Logs.{LogContent}
use Rattle.recover.specs.Tables.{InTables, TableContent}
use Rattle.store.specs.Files.{Facts, Files}

-- none of these is the name of a file that a directory of these parts reads
abbrev pub ReadsNone : Files → Directory → (List ℕ → Type 0) → Type 0
ReadsNone files d mine = (name : List ℕ) → IsReadIn files d name ⊎ IsLogIn d name → mine name → ⊥

-- All that it reads is synced whole but for its logs, and for tables that the loss has left whole,
-- if it has left them.
pub record AreLeft (facts : Facts) (d : Directory) (lost : Files) : Type 0 where
  pub current : IsKept facts (name_of Current)
  pub manifest : IsKept facts (name_of (Manifest d.manifest))
  pub tables : (content : TableContent) → InTables d.tables content
      → IsLeftWhole facts lost (name_of (Table content.placed.table.number))
      × (get facts.files (name_of (Table content.placed.table.number)) ≡ None → IsLeftWhole facts lost (name_of (OldTable content.placed.table.number)))

-- All is left of it but batches at the ends of logs, none of which was synced.
abbrev pub IsLeftCut : Order → Facts → Directory → Files → Type 0
IsLeftCut order facts d lost = (logs : List LogContent) × AreCut facts d.logs logs × IsConsistent order lost (record d { logs = logs })

-- That holds, if the tables are left that aren't known to be synced.
abbrev pub LeavesCutIf : Order → Facts → Directory → Files → Type 0
LeavesCutIf order facts d lost = AreLeft facts d lost → IsLeftCut order facts d lost

-- The same holds of one of these directories.
abbrev pub LeavesOneCut : Order → Facts → (Directory → Type 0) → Files → Type 0
LeavesOneCut order facts Q lost = ((x : Directory) → Q x → AreLeft facts x lost) → (x : Directory) × Q x × IsLeftCut order facts x lost
