-- A cursor over tables of a version that lie in a row.
use Rattle.std.specs.Prelude.{◌⊎◌, ◌-◌, ℕ, Bool, List, take, drop}
use Rattle.std.specs.List.{AllByRecursion}
use Rattle.cursor.specs.Cuts.{Cut}
use Rattle.cursor.specs.Places.{Cmp, Listed}
use Rattle.edits.specs.declared.field.PlacedTable.{PlacedTable}
use Rattle.level_cursor.specs.declared.row_cursor.RowCursor.{RowCursor}
use Rattle.level_cursor.specs.InRows.{ListsNumber, IsOneLimited, IsOneTorn, IsOpenLimited, IsOpenNumber, IsOpenTorn, KeepsTables, ListsTables, table_stands}
use Rattle.ikey.specs.Orders.{Order}
use Rattle.recover.specs.Tables.{TableContent}
use Rattle.store.specs.Files.{Files}
use Rattle.table_access.specs.Possible.{MayBeTable}
use Rattle.table_access.specs.Tables.{Seen}
use Rattle.version_laws.specs.Places.{FitsEdit, MayHold}

-- ---- what the tables may have

-- As far as their blocks tell the files may be these tables, with such entries, each of which fit
-- their edit.
abbrev pub MayBeTables : Order → Files → List TableContent → Type 0
MayBeTables order files contents = AllByRecursion (λ (content : TableContent). MayHold (MayBeTable order.cmp) files content × FitsEdit order content) contents

-- ---- a cursor over them

-- the tables of a row: those of the version from one index on, up to another
abbrev pub row_of : ℕ → ℕ → List PlacedTable → List PlacedTable
row_of from end tables = take (end - from) (drop from tables)

abbrev pub rows_tables : {K : Type 0} {g : _} → RowCursor K g → List PlacedTable
rows_tables cursor = row_of cursor.from cursor.end cursor.version.value.tables

abbrev pub ListsRow : {K : Type 0} {g : _} → Cmp → Seen → RowCursor K g → Listed → Type 0
ListsRow cmp source cursor at = ListsTables cmp source (rows_tables cursor) cursor.here at

abbrev pub KeepsRow : {K : Type 0} {g : _} → Cmp → RowCursor K g → Seen → Seen → Type 0
KeepsRow cmp cursor old new = KeepsTables cmp (rows_tables cursor) cursor.here old new

abbrev pub row_stands : {K : Type 0} {g : _} → RowCursor K g → Bool
row_stands cursor = table_stands cursor.here

abbrev pub IsRowLimited : {K : Type 0} {g : _} → Cmp → Seen → RowCursor K g → Type 0
IsRowLimited cmp source cursor = IsOneLimited cmp source (rows_tables cursor) ⊎ IsOpenLimited cursor.here

-- a table of the row, in which the cut lies, has a damaged frame, or a block that is none at the
-- cut
abbrev pub IsRowTorn : {K : Type 0} {g : _} → Cmp → Seen → RowCursor K g → Cut → Type 0
IsRowTorn cmp source cursor cut = IsOneTorn cmp source (rows_tables cursor) cut ⊎ IsOpenTorn cmp source (rows_tables cursor) cursor.here cut

-- it goes over a table of this number, or has it open
abbrev pub GoesOverRow : {K : Type 0} {g : _} → RowCursor K g → ℕ → Type 0
GoesOverRow cursor number = ListsNumber (rows_tables cursor) number ⊎ IsOpenNumber cursor.here number
