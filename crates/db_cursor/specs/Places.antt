-- Where one of the cursors that a scan merges stands.
use Rattle.std.specs.Prelude.{ℕ, Bool, List, is_some}
use Rattle.cursor.specs.declared.child.Child.{Child}
use Rattle.cursor.specs.Cuts.{Cut}
use Rattle.cursor.specs.Merging.{GoesOverAny}
use Rattle.cursor.specs.Places.{Cmp, Listed}
use Rattle.memtables.specs.Places.{ListsMemories, KeepsMemories, LeavesMemories}
use Rattle.table_access.specs.Tables.{Carries}
use Rattle.level_cursor.specs.Rows.{GoesOverRow, ListsRow, KeepsRow, row_stands, IsRowLimited, IsRowTorn}
use Rattle.db_cursor.specs.declared.source_cursor.SourceCursor.{SourceCursor}
use Rattle.db_cursor.specs.declared.source_cursor.SourceCursor.TheVariants.{Memory, Row}
use Rattle.db_cursor.specs.Whole.{Whole}

-- cursor and source are this list and this place
abbrev pub ListsSource : {K : Type 0} {g : _} → Cmp → SourceCursor K g → Whole → Listed → Type 0
ListsSource cmp (Memory cursor) whole at = ListsMemories cmp cursor whole.memory at
ListsSource cmp (Row cursor) whole at = ListsRow cmp whole.seen cursor at

-- what it reads of the first source is the same in the second
abbrev pub KeepsSource : {K : Type 0} {g : _} → Cmp → SourceCursor K g → Whole → Whole → Type 0
KeepsSource cmp (Memory cursor) old new = KeepsMemories cmp cursor old.memory new.memory
KeepsSource cmp (Row cursor) old new = KeepsRow cmp cursor old.seen new.seen

abbrev pub source_stands : {K : Type 0} {g : _} → SourceCursor K g → Bool
source_stands (Memory cursor) = is_some cursor.place.node
source_stands (Row cursor) = row_stands cursor

-- something that it reads passes a limit of reading
abbrev pub LimitedSource : {K : Type 0} {g : _} → Cmp → SourceCursor K g → Whole → Type 0
LimitedSource cmp (Memory cursor) whole = ⊥
LimitedSource cmp (Row cursor) whole = IsRowLimited cmp whole.seen cursor

-- a block to which it comes at this cut is none
abbrev pub TornSource : {K : Type 0} {g : _} → Cmp → SourceCursor K g → Whole → Cut → Type 0
TornSource cmp (Memory cursor) whole cut = ⊥
TornSource cmp (Row cursor) whole cut = IsRowTorn cmp whole.seen cursor cut

-- it goes over the table of this number
abbrev pub GoesOver : {K : Type 0} {g : _} → SourceCursor K g → ℕ → Type 0
GoesOver (Memory cursor) number = ⊥
GoesOver (Row cursor) number = GoesOverRow cursor number

-- one of these does
abbrev pub OneGoesOver : {K : Type 0} {g : _} → List (Child (SourceCursor K g)) → ℕ → Type 0
OneGoesOver {K} {g} children number = GoesOverAny (λ (cursor : SourceCursor K g) n. GoesOver cursor n) children number

-- What a move of one of them over tables of such numbers leaves, whatever the store returns: the
-- entries of the memtables, and what is known of the tables.
pub record LeavesSource (cmp : Cmp) (numbers : ℕ → Type 0) (old new : Whole) : Type 0 where
  pub memory : LeavesMemories old.memory new.memory
  pub carries : Carries cmp numbers old.seen new.seen
