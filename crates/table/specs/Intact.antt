-- Data blocks that are what their places in the index say.
use Rattle.std.specs.Prelude.{◌≡◌, ℕ, zero, suc, List, [], ◌∷◌, Option, Some, None, slice_get, option_map}
use Rattle.std.specs.List.{AllByRecursion}
use Rattle.std.specs.Option.{ForSome}
use Rattle.std.specs.declared.cmp.Ordering.{Ordering}
use Rattle.ikey.specs.Below.{IsBelowInternal}
use Rattle.ikey.specs.Entries.{Pair}
use Rattle.ikey.specs.Keys.{Key, IsKey}
use Rattle.table.specs.Refusals.{IsUnsupported}
use Rattle.table.specs.Table.{HasBlock, IsAtMost}
use Rattle.table.specs.declared.handle.Place.{Place}

-- A pair of a block: its key is an internal key above the bound of the block in front, if there is
-- one, and not above its own.
pub record IsWithin (cmp : List ℕ → List ℕ → Ordering) (floor : Option (List ℕ)) (most : List ℕ) (pair : Pair) : Type 0 where
  pub key : Key
  pub is : IsKey pair.key key
  pub above : ForSome floor (λ (bound : List ℕ). IsBelowInternal cmp bound pair.key)
  pub within : IsAtMost cmp pair.key most

abbrev pub AreWithin : (List ℕ → List ℕ → Ordering) → Option (List ℕ) → List ℕ → List Pair → Type 0
AreWithin cmp floor most pairs = AllByRecursion (IsWithin cmp floor most) pairs

-- the same for all data blocks, in the order of their places; before the first there is this bound,
-- or none
abbrev pub AreAllWithin : (List ℕ → List ℕ → Ordering) → Option (List ℕ) → List Place → List (List Pair) → Type 0
AreAllWithin cmp floor [] [] = Unit {0}
AreAllWithin cmp floor (place ∷ places) (pairs ∷ others) = AreWithin cmp floor place.key pairs × AreAllWithin cmp (Some place.key) places others
AreAllWithin cmp floor places blocks = ⊥

-- the bound of the place before the one of this index
abbrev pub floor_of : List Place → ℕ → Option (List ℕ)
floor_of places zero = None
floor_of places (suc index) = option_map (λ (place : Place). place.key) (slice_get places index)

-- The block of this index is one: its checksum is right, its keys are internal keys that rise,
-- above the bound of the place in front and not above its own.
pub record IsIntact (cmp : List ℕ → List ℕ → Ordering) (file : List ℕ) (places : List Place) (index : ℕ) (pairs : List Pair) : Type 0 where
  pub place : Place
  pub place_is : slice_get places index ≡ Some place
  pub has : HasBlock cmp file place.handle pairs
  pub within : AreWithin cmp (floor_of places index) place.key pairs

-- it isn't supported
abbrev pub IsUnsupportedAt : List ℕ → List Place → ℕ → Type 0
IsUnsupportedAt file places index = (place : Place) × (slice_get places index ≡ Some place) × IsUnsupported file place.handle

-- there is no such block, nor one that isn't supported
abbrev pub IsTornAt : (List ℕ → List ℕ → Ordering) → List ℕ → List Place → ℕ → Type 0
IsTornAt cmp file places index = ((pairs : List Pair) → IsIntact cmp file places index pairs → ⊥) × (IsUnsupportedAt file places index → ⊥)

-- its first key is an internal key, if there is one
abbrev pub BeginsWithKey : List Pair → Type 0
BeginsWithKey [] = Unit {0}
BeginsWithKey (pair ∷ pairs) = (key : Key) × IsKey pair.key key
