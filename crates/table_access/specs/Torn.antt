-- Torn blocks of a table, as a cursor over it comes to them.
use Rattle.std.specs.Prelude.{◌≡◌, ◌<◌, ℕ, true, false, List, Some, length, slice_get}
use Rattle.cursor.specs.Cuts.{Cut, is_in_front}
use Rattle.cursor.specs.Places.{Cmp}
use Rattle.edits.specs.declared.field.PlacedTable.{PlacedTable}
use Rattle.ikey.specs.Entries.{Pair}
use Rattle.ikey.specs.Keys.{Key, IsKey}
use Rattle.table_access.specs.Ends.{IsIntactIn}
use Rattle.table_access.specs.Tables.{Seen, HasSoundTable, IsOpenFrame}
use Rattle.table_access.specs.Telling.{IsPassed, IsTornIn, StopsTorn}
use Rattle.table.specs.Frame.{Frame}

-- A block of this frame that lies at a cut is none. Each key of an intact block before it lies
-- before the cut, and none of one after it does.
pub record HasTorn (cmp : Cmp) (placed : PlacedTable) (file : List ℕ) (frame : Frame) (cut : Cut) : Type 0 where
  pub index : ℕ
  pub inside : index < length frame.places
  pub torn : IsTornIn cmp placed file frame index
  pub front : (k : ℕ) (pairs : List Pair) (n : ℕ) (pair : Pair) (key : Key) → k < index → IsIntactIn cmp placed file frame.places k pairs → slice_get pairs n ≡ Some pair → IsKey pair.key key
      → is_in_front cmp cut key ≡ true
  pub back : (k : ℕ) (pairs : List Pair) (n : ℕ) (pair : Pair) (key : Key) → index < k → IsIntactIn cmp placed file frame.places k pairs → slice_get pairs n ≡ Some pair → IsKey pair.key key
      → is_in_front cmp cut key ≡ false

-- A block of this table of an edit, open with this frame, that lies at the cut is none.
abbrev pub TornTable : Cmp → Seen → PlacedTable → Frame → Cut → Type 0
TornTable cmp source placed frame cut = (file : List ℕ) → HasSoundTable cmp source placed.table.number file → HasTorn cmp placed file frame cut

-- ---- why a search over an open table is refused

-- Before one block a search back comes to one that is none: each after it, up to that one, is one,
-- without a pair.
pub record StopsTornBack (cmp : Cmp) (placed : PlacedTable) (file : List ℕ) (frame : Frame) (end : ℕ) : Type 0 where
  pub index : ℕ
  pub inside : index < end
  pub came : (k : ℕ) → index < k → k < end → IsPassed cmp (λ (key : List ℕ). ⊥) placed file frame k
  pub torn : IsTornIn cmp placed file frame index

-- the block of this index is none
abbrev pub LacksBlock : Cmp → Seen → PlacedTable → Frame → ℕ → Type 0
LacksBlock cmp source placed frame index =
    (file : List ℕ) → HasSoundTable cmp source placed.table.number file → IsOpenFrame cmp file frame → IsTornIn cmp placed file frame index

-- one to which a search on comes from this index is none
abbrev pub LacksOn : Cmp → (List ℕ → Type 0) → Seen → PlacedTable → Frame → ℕ → Type 0
LacksOn cmp passed source placed frame start =
    (file : List ℕ) → HasSoundTable cmp source placed.table.number file → IsOpenFrame cmp file frame → StopsTorn cmp passed placed file frame start

-- one to which a search back comes before this index is
abbrev pub LacksBack : Cmp → Seen → PlacedTable → Frame → ℕ → Type 0
LacksBack cmp source placed frame end =
    (file : List ℕ) → HasSoundTable cmp source placed.table.number file → IsOpenFrame cmp file frame → StopsTornBack cmp placed file frame end
