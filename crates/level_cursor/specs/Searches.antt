-- Searches over the tables of a row.
use Rattle.std.specs.Prelude.{◌≡◌, ◌<◌, ◌≤◌, ℕ, suc, Bool, false, List, Option, None, Some, Result, Ok, Err, length, slice_get, option_and_then}
use Rattle.cursor.specs.Cuts.{Cut, Front, End, Below, SameCut}
use Rattle.cursor.specs.Places.{Cmp, index_before, index_behind, is_below, leading, within}
use Rattle.edits.specs.declared.field.PlacedTable.{PlacedTable}
use Rattle.ikey.specs.Below.{IsBelowInternal}
use Rattle.ikey.specs.Entries.{InternalEntry}
use Rattle.ikey.specs.Keys.{Key, IsKey}
use Rattle.level_cursor.specs.declared.in_table.InTable.{InTable}
use Rattle.level_cursor.specs.declared.row_search.Aim.{Aim}
use Rattle.level_cursor.specs.declared.row_search.Aim.TheVariants.{First, From}
use Rattle.coding.specs.declared.error.DbError.{DbError}
use Rattle.level_cursor.specs.InRows.{IsPlacedRow, LiesIn, entries_before, joined}
use Rattle.table_access.specs.Tables.{Seen, IsOpenFrame, SaysOf}
use Rattle.table.specs.Frame.{Frame}

-- what a search looks for: the first entry, or the first that doesn't come before a key
abbrev pub passes : Cmp → Option Key → InternalEntry → Bool
passes cmp None entry = false
passes cmp (Some key) entry = is_below cmp key entry

abbrev pub IsAimed : Aim → Option Key → Type 0
IsAimed First None = Unit {0}
IsAimed (From target) (Some key) = IsKey target.now key
IsAimed aim goal = ⊥

-- the cut to which it leads
abbrev pub aimed_cut : Option Key → Cut
aimed_cut None = Front
aimed_cut (Some key) = Below key

-- A search on that begins at the table of this index ends in its list: the cut lies there, as the
-- one that is aimed at does.
pub record EndsIn (cmp : Cmp) (row : List PlacedTable) (index : ℕ) (list : List InternalEntry) (goal : Option Key) (cut : Cut) : Type 0 where
  pub lies : LiesIn cmp row index cut
  pub same : SameCut cmp list (aimed_cut goal) cut
  pub stops : leading (passes cmp goal) list < length list

-- And the same for a search back.
pub record EndsBackIn (cmp : Cmp) (row : List PlacedTable) (index : ℕ) (list : List InternalEntry) (cut : Cut) : Type 0 where
  pub lies : LiesIn cmp row index cut
  pub same : SameCut cmp list End cut

-- the table that is open is the row's of this index, and what is open is its frame
pub record IsOneOf (cmp : Cmp) (old new : Seen) (row : List PlacedTable) (index : ℕ) (placed : PlacedTable) (frame : Frame) : Type 0 where
  pub there : slice_get row index ≡ Some placed
  pub open_is : SaysOf cmp old new placed.table.number (λ file. IsOpenFrame cmp file frame)

-- all tables before this index end below the target, and the one there doesn't
pub record IsFirstTable (cmp : Cmp) (target : List ℕ) (row : List PlacedTable) (start : ℕ) : Type 0 where
  pub inside : start ≤ length row
  pub front : (k : ℕ) (placed : PlacedTable) → start ≡ suc k → slice_get row k ≡ Some placed → IsBelowInternal cmp placed.table.largest target
  pub here : (placed : PlacedTable) → slice_get row start ≡ Some placed → IsBelowInternal cmp placed.table.largest target → ⊥

-- ---- steps within a table

-- the same table is open
abbrev pub IsSameTable : {K : Type 0} {g : _} → Option (InTable K g) → Option (InTable K g) → Type 0
IsSameTable None None = Unit {0}
IsSameTable (Some old) (Some new) = (new.cursor.placed ≡ old.cursor.placed) × (new.cursor.table.value.frame ≡ old.cursor.table.value.frame) × (new.index ≡ old.index)
IsSameTable old new = ⊥

-- It has gone on to the next entry; or it stays, and the next entry is the first from this table
-- on, or it failed.
abbrev pub RowStepsOn : {K : Type 0} {g : _} → Cmp → Seen → List (List InternalEntry) → Option (InTable K g) → Option ℕ → Result (Option ℕ) DbError → Type 0
RowStepsOn cmp source lists new place (Ok None) = IsPlacedRow cmp source lists new (option_and_then (index_behind (joined lists)) place)
RowStepsOn cmp source lists new place (Ok (Some start)) =
    IsPlacedRow cmp source lists new place × (start ≤ length lists) × (within (joined lists) (entries_before lists start) ≡ option_and_then (index_behind (joined lists)) place)
RowStepsOn cmp source lists new place (Err error) = IsPlacedRow cmp source lists new place

-- It has gone back to the entry in front; or it stays, and the entry in front is the last of the
-- tables before this one, or it was refused.
abbrev pub RowStepsBack : {K : Type 0} {g : _} → Cmp → Seen → List (List InternalEntry) → Option (InTable K g) → Option ℕ → Result (Option ℕ) DbError → Type 0
RowStepsBack cmp source lists new place (Ok None) = IsPlacedRow cmp source lists new (option_and_then index_before place)
RowStepsBack cmp source lists new place (Ok (Some end)) =
    IsPlacedRow cmp source lists new place × (end ≤ length lists) × (index_before (entries_before lists end) ≡ option_and_then index_before place)
RowStepsBack cmp source lists new place (Err error) = IsPlacedRow cmp source lists new place
