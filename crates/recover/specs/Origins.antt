-- The entries of one file of a directory.
use Rattle.std.specs.Prelude.{◌≡◌, ◌⊎◌, ℕ, List, Contains}
use Rattle.ikey.specs.Orders.{Order}
use Rattle.ikey.specs.declared.entry.Entry.{Entry}
use Rattle.store.specs.Files.{Files}
use Rattle.edits.specs.Edit.{HasPastLimit}
use Rattle.edits.specs.Layout.{fields_of}
use Rattle.edits.specs.declared.field.Field.{Field}
use Rattle.edits.specs.declared.field.PlacedTable.{PlacedTable}
use Rattle.edits.specs.declared.layout.Layout.{Layout}
use Rattle.recover.specs.internal.Checks.{IsOnly, content_of}
use Rattle.recover.specs.Directory.{Directory, IsConsistent, HasManifest}
use Rattle.recover.specs.Entries.{RiseAbove}
use Rattle.recover.specs.Limits.{IsUnsupportedFile}
use Rattle.recover.specs.Logs.{LogContent, HasLog, IsLive, batch_entries}
use Rattle.recover.specs.Reading.{IsBeyondReading}
use Rattle.recover.specs.Report.{IsLongTable, AnyHasBytes}
use Rattle.recover.specs.Tables.{TableContent, HasTable, InTables}
use Rattle.recover.specs.declared.origins.Origin.{Origin}
use Rattle.recover.specs.declared.origins.Origin.TheVariants.{Table, Log}

-- ---- of a directory

-- the parts have a file of this origin with these entries: a table's in their order, a log's as
-- they were written
abbrev pub HasEntries : Directory → Origin → List Entry → Type 0
HasEntries d (Table level number) entries =
    (content : TableContent) × InTables d.tables content × (content.placed.level ≡ level) × (content.placed.table.number ≡ number) × (entries ≡ content.entries)
HasEntries d (Log number) entries = (log : LogContent) × Contains d.logs log × (log.number ≡ number) × (entries ≡ batch_entries log.batches)

-- the files aren't a consistent directory that has a file of this origin
abbrev pub HasNoEntries : Order → Files → Origin → Type 0
HasNoEntries order files origin = (d : Directory) (entries : List Entry) → IsConsistent order files d → HasEntries d origin entries → ⊥

-- or one that passes a limit of reading: on the numbers of tables, or on blocks
abbrev pub PassesLimitAt : Order → Files → Origin → Type 0
PassesLimitAt order files origin = (d : Directory) (entries : List Entry) → IsConsistent order files d → HasEntries d origin entries
    → HasPastLimit (fields_of d.edits) ⊎ AnyHasBytes (IsLongTable order) files d.tables

-- ---- of a layout

-- the layout's table has this level and number
abbrev pub IsPlacedAt : Layout → ℕ → ℕ → PlacedTable → Type 0
IsPlacedAt layout level number placed = Contains layout.tables.items placed × (placed.level ≡ level) × (placed.table.number ≡ number)

-- the file of this origin, which the layout has, holds these entries
abbrev pub IsOriginRead : Order → Files → Layout → Origin → List Entry → Type 0
IsOriginRead order files layout (Table level number) entries = (placed : PlacedTable) × IsPlacedAt layout level number placed × HasTable order files (content_of placed entries)
IsOriginRead order files layout (Log number) entries = IsLive layout number × ((log : LogContent) × (log.number ≡ number) × HasLog files log × (entries ≡ batch_entries log.batches))

-- If the layout has a table of this origin, the file of one such table has such bytes, if it is
-- whole. If it has the log in use, there is none of this number whose sequence numbers rise.
abbrev pub IsUnreadable : (List ℕ → Type 0) → Order → Files → Layout → Origin → Type 0
IsUnreadable is order files layout (Table level number) =
    (placed : PlacedTable) → IsPlacedAt layout level number placed → (read : PlacedTable) × IsPlacedAt layout level number read × IsOnly is order files read
IsUnreadable is order files layout (Log number) = (log : LogContent) → IsLive layout number → log.number ≡ number → HasLog files log → RiseAbove 0 (batch_entries log.batches) → ⊥

-- the layout's table of this origin isn't supported
abbrev pub IsUnsupportedAt : Order → Files → Layout → Origin → Type 0
IsUnsupportedAt order files layout (Table level number) = (placed : PlacedTable) × IsPlacedAt layout level number placed × IsUnsupportedFile order files placed
IsUnsupportedAt order files layout (Log number) = ⊥

-- The current MANIFEST is beyond what is read, or leaves such a table.
abbrev pub IsBeyondOrigin : Order → Files → Origin → Type 0
IsBeyondOrigin order files origin = IsBeyondReading order files
    ⊎ ((number : ℕ) × (edits : List (List Field)) × (layout : Layout) × HasManifest order files number edits layout × IsUnsupportedAt order files layout origin)
