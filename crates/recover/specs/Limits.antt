-- What of a directory isn't supported.
use Rattle.std.specs.Prelude.{◌≡◌, ◌⊎◌, ℕ, List, [], ◌∷◌, Some, IsTrue}
use Rattle.coding.specs.declared.error.DbError.{DbError}
use Rattle.coding.specs.declared.error.DbError.TheVariants as error
use Rattle.ikey.specs.Orders.{Order}
use Rattle.store.specs.Files.{Files, Facts}
use Rattle.edits.specs.Edit.{HasPastLimit}
use Rattle.edits.specs.Layout.{fields_of}
use Rattle.edits.specs.declared.field.Field.{Field}
use Rattle.edits.specs.declared.field.PlacedTable.{PlacedTable}
use Rattle.edits.specs.declared.layout.Layout.{Layout}
use Rattle.table.specs.Frame.{Frame, IsFrame}
use Rattle.table.specs.Refusals.{IsUnsupported, IsOfOne, IsFrameUnsupported}
use Rattle.recover.specs.Tables.{table_at}
use Rattle.recover.specs.Directory.{Directory, IsConsistent, HasManifest}
use Rattle.recover.specs.Reading.{IsBeyondReading}
use Rattle.recover.specs.Report.{IsLongTable, AnyHasBytes}

-- ---- tables

-- the bytes have a block that isn't supported: one of more than 2 ^ 30 bytes, or of another type
-- than 0
abbrev pub IsUnsupportedTable : Order → List ℕ → Type 0
IsUnsupportedTable order bytes = IsFrameUnsupported bytes ⊎ ((frame : Frame) × IsFrame order.cmp bytes frame × IsOfOne (IsUnsupported bytes) frame.places)

-- the file of this table has such a block
abbrev pub IsUnsupportedFile : Order → Files → PlacedTable → Type 0
IsUnsupportedFile order files placed = (bytes : List ℕ) × (table_at files placed.table.number ≡ Some bytes) × IsUnsupportedTable order bytes

-- or that of one of these
abbrev pub AnyIsUnsupported : Order → Files → List PlacedTable → Type 0
AnyIsUnsupported order files [] = ⊥
AnyIsUnsupported order files (placed ∷ tables) = IsUnsupportedFile order files placed ⊎ AnyIsUnsupported order files tables

-- Unsupported is answered for this, if the store is faithful.
abbrev pub TellsUnsupported : DbError → Facts → Type 0 → Type 0
TellsUnsupported (error.Unsupported what) facts is = IsTrue facts.faithful → is
TellsUnsupported e facts is = Unit {0}

-- ---- the whole

-- The current MANIFEST is beyond what is read, or leaves such a table.
abbrev pub IsBeyondChecking : Order → Files → Type 0
IsBeyondChecking order files = IsBeyondReading order files
    ⊎ ((number : ℕ) × (edits : List (List Field)) × (layout : Layout) × HasManifest order files number edits layout × AnyIsUnsupported order files layout.tables.items)

-- Whatever consistent directory the files are, it passes a limit of reading: on the numbers of
-- tables, or on blocks.
abbrev pub PassesLimit : Order → Files → Type 0
PassesLimit order files = (d : Directory) → IsConsistent order files d → HasPastLimit (fields_of d.edits) ⊎ AnyHasBytes (IsLongTable order) files d.tables

-- No consistent directory that they are does.
abbrev pub IsWithinLimits : Order → Files → Type 0
IsWithinLimits order files = (d : Directory) → IsConsistent order files d → HasPastLimit (fields_of d.edits) ⊎ AnyHasBytes (IsLongTable order) files d.tables → ⊥
