-- That a directory which reads the same is the same.
use Rattle.std.specs.Prelude.{◌≡◌, ℕ, List, None}
use Rattle.std.specs.FinMap.{get}
use Rattle.edits.specs.Names.{name_of, IsNumbered}
use Rattle.edits.specs.declared.layout.Layout.{Layout}
use Rattle.edits.specs.declared.names.FileName.{FileName}
use Rattle.edits.specs.declared.names.FileName.TheVariants.{Current, Log, Manifest, OldTable, Table}
use Rattle.ikey.specs.Orders.{Order}
use Rattle.recover.specs.Directory.{Directory, IsConsistent}
use Rattle.recover.specs.Logs.{InLogs}
use Rattle.recover.specs.Tables.{InTables, TableContent}
use Rattle.store.specs.Files.{Files}
use Rattle.mended_losses.specs.Reading.{HasFile, HasName, ReadsAs}

-- All files that are read of such a directory are among these. (Of a table the one with the older
-- name isn't read if the other is there.)
pub record Covers (files : Files) (d : Directory) (logs : List FileName) (others : List (List ℕ)) : Type 0 where
  pub manifest : HasFile logs (Manifest d.manifest)
  pub each : (n : ℕ) → InLogs d.logs n → HasFile logs (Log n)
  pub current : HasName others (name_of Current)
  pub tables : (content : TableContent) → InTables d.tables content
      → HasName others (name_of (Table content.placed.table.number))
      × (get files (name_of (Table content.placed.table.number)) ≡ None
      → HasName others (name_of (OldTable content.placed.table.number)))

-- Files that read as a consistent directory are one of the same parts.
abbrev pub ConsistentLaw : Type 0
ConsistentLaw = (order : Order) (mended plain : Files) (number : ℕ) (layout : Layout) (logs : List FileName)
    (others : List (List ℕ)) (d : Directory) → IsNumbered number → ReadsAs number layout logs others mended plain
    → Covers plain d logs others → IsConsistent order plain d → IsConsistent order mended d
