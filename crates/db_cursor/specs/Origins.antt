-- Tables that may be damaged, and those that they were.
use Rattle.std.specs.Cmp.{IsTotalOrder}
use Rattle.std.specs.Prelude.{◌≡◌, ℕ, List, Some, Contains}
use Rattle.cursor.specs.Places.{Cmp}
use Rattle.edits.specs.declared.field.PlacedTable.{PlacedTable}
use Rattle.ikey.specs.Entries.{Pair}
use Rattle.ikey.specs.Orders.{Order}
use Rattle.recover.specs.Tables.{TableContent, table_at}
use Rattle.store.specs.Files.{Files}
use Rattle.table.specs.Frame.{Frame, IsFrame}
use Rattle.table_access.specs.Ends.{IsIntactIn}
use Rattle.table_access.specs.Possible.{MayBeTable}
use Rattle.version_laws.specs.Places.{HasVersion, MayHaveVersion}

-- The file may be what damage left of this table of an edit, which had the other bytes. A frame
-- that it has is that of the whole. Each block of it that is one, as its place in the index and the
-- edit say, is the whole's at that place, with the same pairs.
pub record MayComeFrom (cmp : Cmp) (placed : PlacedTable) (file whole : List ℕ) : Type 0 where
  pub framed : (frame : Frame) → IsFrame cmp file frame → IsFrame cmp whole frame
  pub blocks : (frame : Frame) (index : ℕ) (pairs : List Pair) → IsFrame cmp file frame → IsIntactIn cmp placed file frame.places index pairs → IsIntactIn cmp placed whole frame.places index pairs

-- Both directories have this table, and its file in the first may have come from that in the
-- second.
pub record HasOrigin (cmp : Cmp) (files ideal : Files) (placed : PlacedTable) : Type 0 where
  pub bytes : List ℕ
  pub whole : List ℕ
  pub there : table_at files placed.table.number ≡ Some bytes
  pub ideal_there : table_at ideal placed.table.number ≡ Some whole
  pub origin : MayComeFrom cmp placed bytes whole

-- the same holds of each of these tables
abbrev pub HaveOrigins : Cmp → Files → Files → List PlacedTable → Type 0
HaveOrigins cmp files ideal tables = (placed : PlacedTable) → Contains tables placed → HasOrigin cmp files ideal placed

-- ---- laws

-- Tables that may have come from those of a version may have its contents.
abbrev pub OriginLaw : Type 0
OriginLaw = (order : Order) (files ideal : Files) (tables : List PlacedTable) (contents : List TableContent) → IsTotalOrder order.cmp
    → HasVersion order ideal tables contents → HaveOrigins order.cmp files ideal tables → MayHaveVersion (MayBeTable order.cmp) order files tables contents

-- A file may have come from itself, and so has each table that both directories have alike.
abbrev pub SameOriginLaw : Type 0
SameOriginLaw = (cmp : Cmp) (placed : PlacedTable) (file : List ℕ) → MayComeFrom cmp placed file file
    × ((files ideal : Files) → table_at files placed.table.number ≡ Some file → table_at ideal placed.table.number ≡ Some file → HasOrigin cmp files ideal placed)

-- A table comes from the same as long as both directories keep its file.
abbrev pub OriginStaysLaw : Type 0
OriginStaysLaw = (cmp : Cmp) (old new whole after : Files) (placed : PlacedTable) → table_at new placed.table.number ≡ table_at old placed.table.number
    → table_at after placed.table.number ≡ table_at whole placed.table.number → HasOrigin cmp old whole placed → HasOrigin cmp new after placed
