-- Where a cursor stands in the data blocks of a table.
use Rattle.std.specs.Prelude.{◌≡◌, ◌<◌, ◌≤◌, ◌+◌, ℕ, zero, suc, Bool, true, false, List, [], ◌∷◌, Option, Some, None, Result, Ok, Err, IsTrue, length, slice_get, is_some, option_and_then}
use Rattle.std.specs.List.{flat_map}
use Rattle.block.specs.Places.{Placed}
use Rattle.cache.specs.Tables.{table_at}
use Rattle.coding.specs.declared.error.DbError.{DbError}
use Rattle.cursor.specs.Places.{Cmp, Listed, Rises, within, index_before, index_behind}
use Rattle.edits.specs.declared.field.PlacedTable.{PlacedTable}
use Rattle.ikey.specs.Below.{IsBelowInternal}
use Rattle.ikey.specs.Entries.{Pair}
use Rattle.table_access.specs.Ends.{HaveEnds}
use Rattle.table_access.specs.Tables.{Seen, IsSound, HasData}
use Rattle.table_access.specs.declared.table_search.Aim.{Aim}
use Rattle.table_access.specs.declared.table_search.Aim.TheVariants.{First, From}
use Rattle.table_access.specs.declared.in_block.InBlock.{InBlock}
use Rattle.table.specs.Frame.{Frame}
use Rattle.table.specs.Table.{AreBounds, ArePairs}

-- the pairs of all blocks
abbrev pub joined : List (List Pair) → List Pair
joined groups = flat_map (λ (pairs : List Pair). pairs) groups

-- how many pairs lie in the blocks before this one
unfoldable pub pairs_before : List (List Pair) → ℕ → ℕ
pairs_before [] index = zero
pairs_before (pairs ∷ groups) zero = zero
pairs_before (pairs ∷ groups) (suc index) = length pairs + pairs_before groups index

-- In the block of this index, which has these pairs, it stands on one that has this place among the
-- pairs of all blocks.
pub record IsInBlock (groups : List (List Pair)) (index : ℕ) (block : Placed) (place : Option ℕ) : Type 0 where
  pub inside : ℕ
  pub block_is : slice_get groups index ≡ Some block.pairs
  pub stands : block.place ≡ Some inside
  pub less : inside < length block.pairs
  pub place_is : place ≡ Some (pairs_before groups index + inside)

-- this is its place among the pairs of all blocks
abbrev pub IsPlacedIn : List (List Pair) → Option (InBlock Placed) → Option ℕ → Type 0
IsPlacedIn groups None place = place ≡ None
IsPlacedIn groups (Some here) place = IsInBlock groups here.index here.cursor place

abbrev pub block_stands : Option (InBlock Placed) → Bool
block_stands None = false
block_stands (Some here) = is_some here.cursor.place

-- A cursor over this table of an edit, open with this frame, is this list and this place. The list
-- is one that the table may have, as far as its blocks tell: where all are intact, that is the
-- table's own.
pub record ListsTable (cmp : Cmp) (source : Seen) (placed : PlacedTable) (frame : Frame) (here : Option (InBlock Placed)) (at : Listed) : Type 0 where
  pub groups : List (List Pair)
  pub has : HasData cmp source placed frame groups
  pub ends : HaveEnds placed groups
  pub bounds : AreBounds cmp frame.places groups
  pub entries_are : ArePairs (joined groups) at.entries
  pub rises : Rises cmp at.entries
  pub inside : (index : ℕ) → at.place ≡ Some index → index < length at.entries
  pub place : IsPlacedIn groups here at.place

-- the second source has the same table of this number, and what it keeps is right where that of the
-- first is
pub record KeepsSeenTable (cmp : Cmp) (number : ℕ) (old new : Seen) : Type 0 where
  pub same : table_at new.facts.files number ≡ table_at old.facts.files number
  pub sound : IsSound cmp old → IsSound cmp new

-- ---- searches

-- the keys that an aim passes over
abbrev pub Passed : Cmp → Aim → List ℕ → Type 0
Passed cmp First key = ⊥
Passed cmp (From target) key = IsBelowInternal cmp key target.now

-- From one index on, the other is that of the first pair whose key isn't passed, or the number of
-- pairs.
pub record StopsAt (passed : List ℕ → Type 0) (pairs : List Pair) (from index : ℕ) : Type 0 where
  pub inside : index ≤ length pairs
  pub reached : from ≤ index
  pub front : (k : ℕ) (pair : Pair) → from ≤ k → k < index → slice_get pairs k ≡ Some pair → passed pair.key
  pub stop : (pair : Pair) → slice_get pairs index ≡ Some pair → passed pair.key → ⊥

-- ---- steps within a block

-- It has gone on to the next pair; or it stays, and the next pair is the first from this block on.
abbrev pub StepsOn : List (List Pair) → Option (InBlock Placed) → Option ℕ → Option ℕ → Type 0
StepsOn groups new place None =
    IsTrue (is_some (option_and_then (index_behind (joined groups)) place)) × IsPlacedIn groups new (option_and_then (index_behind (joined groups)) place)
StepsOn groups new place (Some start) =
    IsPlacedIn groups new place × (start ≤ length groups) × (within (joined groups) (pairs_before groups start) ≡ option_and_then (index_behind (joined groups)) place)

-- It has gone back to the pair in front; or it stays, and the pair in front is the last of the
-- blocks before this one.
abbrev pub StepsBack : List (List Pair) → Option (InBlock Placed) → Option ℕ → Option ℕ → Type 0
StepsBack groups new place None = IsTrue (is_some (option_and_then index_before place)) × IsPlacedIn groups new (option_and_then index_before place)
StepsBack groups new place (Some end) =
    IsPlacedIn groups new place × (end ≤ length groups) × (index_before (pairs_before groups end) ≡ option_and_then index_before place)

-- ---- steps over the table

-- What a step that looks for this place answers: that it has gone there; that there is none; or why
-- it was refused. Where it hasn't gone on, it stays.
abbrev pub StepsTo : (Listed → Type 0) → (Listed → Option ℕ) → Result Bool DbError → Listed → Type 0
StepsTo lists to (Ok true) at = IsTrue (is_some (to at)) × lists (record at { place = to at })
StepsTo lists to (Ok false) at = (to at ≡ None) × lists at
StepsTo lists to (Err error) at = lists at
