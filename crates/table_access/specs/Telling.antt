-- What the blocks of a table tell of a user key, whatever else its file holds.
use Rattle.std.specs.Prelude.{◌≡◌, ◌⊎◌, ◌<◌, ◌≤◌, ℕ, List, Option, Some, None, length, slice_get}
use Rattle.block.specs.Places.{Placed}
use Rattle.coding.specs.declared.error.DbError.{DbError}
use Rattle.coding.specs.declared.error.DbError.TheVariants.{Corrupt}
use Rattle.cursor.specs.Places.{Cmp}
use Rattle.edits.specs.declared.field.PlacedTable.{PlacedTable}
use Rattle.ikey.specs.Below.{IsBelowInternal}
use Rattle.ikey.specs.Entries.{InternalEntry, Pair, IsPair}
use Rattle.ikey.specs.Keys.{IsFirstKey}
use Rattle.table_access.specs.declared.in_block.InBlock.{InBlock}
use Rattle.table_access.specs.Ends.{IsIntactIn}
use Rattle.table_access.specs.TablePlaces.{StopsAt}
use Rattle.table_access.specs.Values.{IsDenied, SaysOfEntry}
use Rattle.table.specs.Frame.{Frame, IsFrame}
use Rattle.table.specs.Refusals.{IsFirstPlace}

-- the block of this index is one, and each of its keys is passed
abbrev pub IsPassed : Cmp → (List ℕ → Type 0) → PlacedTable → List ℕ → Frame → ℕ → Type 0
IsPassed cmp passed placed file frame index =
    (pairs : List Pair) × IsIntactIn cmp placed file frame.places index pairs × ((n : ℕ) (pair : Pair) → slice_get pairs n ≡ Some pair → passed pair.key)

-- the same for all from one block on, up to another one
abbrev pub CameTo : Cmp → (List ℕ → Type 0) → PlacedTable → List ℕ → Frame → ℕ → ℕ → Type 0
CameTo cmp passed placed file frame start end = (index : ℕ) → start ≤ index → index < end → IsPassed cmp passed placed file frame index

-- From one block on, the block of this index is the first that has a pair which isn't passed, and
-- this is its first such pair.
pub record IsFirstFound (cmp : Cmp) (passed : List ℕ → Type 0) (placed : PlacedTable) (file : List ℕ) (frame : Frame) (start index : ℕ) (pairs : List Pair) (place : Option ℕ) : Type 0 where
  pub reached : start ≤ index
  pub came : CameTo cmp passed placed file frame start index
  pub intact : IsIntactIn cmp placed file frame.places index pairs
  pub inside : ℕ
  pub pair : Pair
  pub place_is : place ≡ Some inside
  pub pair_is : slice_get pairs inside ≡ Some pair
  pub first : StopsAt passed pairs 0 inside

-- it is what a search has found, or it has passed all blocks
abbrev pub CameHere : Cmp → (List ℕ → Type 0) → PlacedTable → List ℕ → Frame → ℕ → Option (InBlock Placed) → Type 0
CameHere cmp passed placed file frame start None = CameTo cmp passed placed file frame start (length frame.places)
CameHere cmp passed placed file frame start (Some here) = IsFirstFound cmp passed placed file frame start here.index here.cursor.pairs here.cursor.place

-- The first pair of these that isn't passed is an entry, which says this of the user key.
pub record FirstSays (cmp : Cmp) (passed : List ℕ → Type 0) (placed : PlacedTable) (file : List ℕ) (frame : Frame) (start : ℕ) (key : List ℕ) (value : Option (Option (List ℕ))) : Type 0 where
  pub index : ℕ
  pub pairs : List Pair
  pub place : Option ℕ
  pub found : IsFirstFound cmp passed placed file frame start index pairs place
  pub entry : InternalEntry
  pub is : IsPair found.pair entry
  pub says : SaysOfEntry entry key value

-- What the blocks tell that a search for a user key up to a sequence number comes to, each of which
-- is one. It is what the first entry put that isn't below its first key; or nothing, if there is
-- none.
pub record Tells (cmp : Cmp) (placed : PlacedTable) (file : List ℕ) (frame : Frame) (key : List ℕ) (sequence : ℕ) (value : Option (Option (List ℕ))) : Type 0 where
  pub target : List ℕ
  pub start : ℕ
  pub target_is : IsFirstKey key sequence target
  pub start_is : IsFirstPlace cmp target frame.places start
  pub told : (CameTo cmp (λ (other : List ℕ). IsBelowInternal cmp other target) placed file frame start (length frame.places) × (value ≡ None))
      ⊎ FirstSays cmp (λ (other : List ℕ). IsBelowInternal cmp other target) placed file frame start key value

-- the file has a frame whose filter denies the key, or whose blocks tell this of it
abbrev pub TellsOfKey : Cmp → PlacedTable → List ℕ → ℕ → Option (Option (List ℕ)) → List ℕ → Type 0
TellsOfKey cmp placed key sequence value file =
    (frame : Frame) × IsFrame cmp file frame × ((IsDenied cmp frame key sequence × (value ≡ None)) ⊎ Tells cmp placed file frame key sequence value)

-- ---- refusals

-- where it is one as damaged, this is so
abbrev pub IfCorrupt : DbError → Type 0 → Type 0
IfCorrupt (Corrupt kind what) P = P
IfCorrupt error P = Unit {0}

-- no block of this index is one
abbrev pub IsTornIn : Cmp → PlacedTable → List ℕ → Frame → ℕ → Type 0
IsTornIn cmp placed file frame index = (pairs : List Pair) → IsIntactIn cmp placed file frame.places index pairs → ⊥

-- From one block on a search comes to one of the table's that is none: each before it is one, and
-- passed.
pub record StopsTorn (cmp : Cmp) (passed : List ℕ → Type 0) (placed : PlacedTable) (file : List ℕ) (frame : Frame) (start : ℕ) : Type 0 where
  pub index : ℕ
  pub reached : start ≤ index
  pub inside : index < length frame.places
  pub came : CameTo cmp passed placed file frame start index
  pub torn : IsTornIn cmp placed file frame index

-- The same for the search for a user key up to a sequence number.
pub record TornOfKey (cmp : Cmp) (placed : PlacedTable) (key : List ℕ) (sequence : ℕ) (file : List ℕ) : Type 0 where
  pub frame : Frame
  pub frame_is : IsFrame cmp file frame
  pub target : List ℕ
  pub start : ℕ
  pub target_is : IsFirstKey key sequence target
  pub start_is : IsFirstPlace cmp target frame.places start
  pub stops : StopsTorn cmp (λ (other : List ℕ). IsBelowInternal cmp other target) placed file frame start
