-- Data blocks that are checked one after another.
use Rattle.std.specs.Prelude.{◌≡◌, ◌≤◌, ℕ, List, Option, Some, None, length, take, slice_get}
use Rattle.std.specs.List.{AllByRecursion, flat_map}
use Rattle.std.specs.declared.cmp.Ordering.{Ordering}
use Rattle.ikey.specs.Entries.{Pair}
use Rattle.table.specs.Checking.{IsRight, AreChecked}
use Rattle.table.specs.Frame.{Frame}
use Rattle.table.specs.Intact.{floor_of}
use Rattle.table.specs.Table.{HasBlock}
use Rattle.table.specs.declared.handle.Place.{Place}

-- the file has these pairs in the block of a place, after a block of this bound, and each is right
abbrev pub HasRight : (List ℕ → List ℕ → Ordering) → List ℕ → Option (List ℕ) → Option (List ℕ) → Place → List Pair → Type 0
HasRight cmp file filter previous place pairs = HasBlock cmp file place.handle pairs × AllByRecursion (IsRight cmp filter previous place) pairs

-- so it has in the block of this index
pub record IsCheckedAt (cmp : List ℕ → List ℕ → Ordering) (file : List ℕ) (frame : Frame) (index : ℕ) (pairs : List Pair) : Type 0 where
  pub place : Place
  pub place_is : slice_get frame.places index ≡ Some place
  pub right : HasRight cmp file frame.filter (floor_of frame.places index) place pairs

-- it has no such pairs there
abbrev pub IsWrongAt : (List ℕ → List ℕ → Ordering) → List ℕ → Frame → ℕ → Type 0
IsWrongAt cmp file frame index = (pairs : List Pair) → IsCheckedAt cmp file frame index pairs → ⊥

-- The first blocks of the file, so many, have these pairs, and each is right.
pub record IsBegun (cmp : List ℕ → List ℕ → Ordering) (file : List ℕ) (frame : Frame) (count : ℕ) (found : List Pair) : Type 0 where
  pub within : count ≤ length frame.places
  pub blocks : List (List Pair)
  pub checked : AreChecked cmp file frame.filter None (take count frame.places) blocks
  pub found_is : found ≡ flat_map (λ (pairs : List Pair). pairs) blocks
