-- Blocks that are held against their places.
use Rattle.std.proofs.Common.{◌≡◌, ℕ, zero, suc, List, [], ◌∷◌, ◌++◌, Option, Some, None, refl, sym, ◌∙◌, subst}
use Rattle.std.specs.Prelude.{slice_get, option_map}
use Rattle.std.specs.List.{AllByRecursion}
use Rattle.std.specs.Option.{ForSome}
use Rattle.std.specs.declared.cmp.Ordering.{Ordering}
use Rattle.block.specs.Block.{AreAbove, IsBlock}
use Rattle.block.specs.Bounds.{AreBetween, IsFirstKey}
use Rattle.ikey.specs.Below.{IsBelowInternal}
use Rattle.ikey.specs.Entries.{InternalEntry, Pair}
use Rattle.ikey.specs.Keys.{Key, IsKey}
use Rattle.table.specs.declared.handle.Handle.{Handle}
use Rattle.table.specs.declared.handle.Place.{Place}
use Rattle.table.specs.Intact.{AreAllWithin, AreWithin, BeginsWithKey, IsIntact, IsTornAt, floor_of}
use Rattle.table.specs.Refusals.{IsUnsupported}
use Rattle.table.specs.Stored.{IsStored}
use Rattle.table.specs.Table.{AreBounds, ArePairs, HasBlock, IsAtMost}
use Rattle.table.proofs.DataBlocks.{joined, one_data}
use Rattle.table.proofs.StoredBlocks.{one_stored}

all_within : (cmp : List ℕ → List ℕ → Ordering) (floor : Option (List ℕ)) (most : List ℕ) (pair : Pair) (pairs : List Pair) (key : Key) → IsKey pair.key key → AreAbove (IsBelowInternal cmp) (Some pair.key) pairs
    → AreBetween (IsBelowInternal cmp) floor most (pair ∷ pairs) → AreWithin cmp floor most (pair ∷ pairs)
all_within cmp floor most pair [] key is a b = (record { key = key; is = is; above = b.0.above; within = b.0.within }, tt)
all_within cmp floor most pair (next ∷ pairs) key is a b = (record { key = key; is = is; above = b.0.above; within = b.0.within }, all_within cmp floor most next pairs a.0.1 a.0.3 a.1 b.1)

within_of : (cmp : List ℕ → List ℕ → Ordering) (floor : Option (List ℕ)) (most : List ℕ) (pairs : List Pair) → BeginsWithKey pairs → AreAbove (IsBelowInternal cmp) None pairs → AreBetween (IsBelowInternal cmp) floor most pairs → AreWithin cmp floor most pairs
within_of cmp floor most [] begins a b = tt
within_of cmp floor most (pair ∷ pairs) begins a b = all_within cmp floor most pair pairs begins.0 begins.1 a b

-- the same of a block that was opened between its bounds
pub block_within : (cmp : List ℕ → List ℕ → Ordering) (floor : Option (List ℕ)) (most bytes : List ℕ) (pairs : List Pair) → IsBlock (IsBelowInternal cmp) bytes pairs → BeginsWithKey pairs → AreBetween (IsBelowInternal cmp) floor most pairs → AreWithin cmp floor most pairs
block_within cmp floor most bytes pairs is begins between = within_of cmp floor most pairs begins is.2.rises between

between_of : (cmp : List ℕ → List ℕ → Ordering) (floor : Option (List ℕ)) (most : List ℕ) (pairs : List Pair) → AreWithin cmp floor most pairs → AreBetween (IsBelowInternal cmp) floor most pairs
between_of cmp floor most [] h = tt
between_of cmp floor most (pair ∷ pairs) h = (record { above = h.0.above; within = h.0.within }, between_of cmp floor most pairs h.1)

begins_of : (cmp : List ℕ → List ℕ → Ordering) (floor : Option (List ℕ)) (most : List ℕ) (pairs : List Pair) → AreWithin cmp floor most pairs → BeginsWithKey pairs
begins_of cmp floor most [] h = tt
begins_of cmp floor most (pair ∷ pairs) h = (h.0.key, h.0.is)

-- ---- the first key

pub begins_empty : (pairs : List Pair) → pairs ≡ [] → BeginsWithKey pairs
begins_empty pairs e = subst BeginsWithKey (sym e) tt

pub begins_with : (first : List ℕ) (key : Key) (pairs : List Pair) → IsFirstKey first pairs → IsKey first key → BeginsWithKey pairs
begins_with first key [] f is = absurd f
begins_with first key (pair ∷ pairs) f is = (key, subst (λ (k : List ℕ). IsKey k key) (sym f) is)

pub begins_without : (first : List ℕ) (pairs : List Pair) → IsFirstKey first pairs → ((key : Key) → IsKey first key → ⊥) → BeginsWithKey pairs → ⊥
begins_without first [] f none h = f
begins_without first (pair ∷ pairs) f none h = none h.0 (subst (λ (k : List ℕ). IsKey k h.0) f h.1)

-- ---- why there is none

NoneWithin : (List ℕ → List ℕ → Ordering) → Option (List ℕ) → List ℕ → Handle → List ℕ → Type 0
NoneWithin cmp floor most handle file = (pairs : List Pair) → HasBlock cmp file handle pairs → AreWithin cmp floor most pairs → ⊥

-- what is stored is no block between the bounds
pub none_between : (cmp : List ℕ → List ℕ → Ordering) (floor : Option (List ℕ)) (most bytes : List ℕ) (handle : Handle) (file : List ℕ)
    → ((pairs : List Pair) → IsBlock (IsBelowInternal cmp) bytes pairs → AreBetween (IsBelowInternal cmp) floor most pairs → ⊥) → IsStored file handle bytes
    → (pairs : List Pair) → HasBlock cmp file handle pairs → AreWithin cmp floor most pairs → ⊥
none_between cmp floor most bytes handle file none stored pairs has within =
    none pairs (subst (λ (t : List ℕ). IsBlock (IsBelowInternal cmp) t pairs) (one_stored file handle has.0 bytes has.1 stored) has.2) (between_of cmp floor most pairs within)

-- or one whose first key is none
pub none_begins : (cmp : List ℕ → List ℕ → Ordering) (floor : Option (List ℕ)) (most : List ℕ) (handle : Handle) (file : List ℕ) (found : List Pair) → (BeginsWithKey found → ⊥) → HasBlock cmp file handle found
    → (pairs : List Pair) → HasBlock cmp file handle pairs → AreWithin cmp floor most pairs → ⊥
none_begins cmp floor most handle file found none here pairs has within =
    none (subst BeginsWithKey (one_data cmp file handle pairs found has here) (begins_of cmp floor most pairs within))

-- ---- by its index

same_place : (places : List Place) (index : ℕ) (a b : Place) → slice_get places index ≡ Some a → slice_get places index ≡ Some b → a ≡ b
same_place places index a b h k = let e : Some a ≡ Some b = sym h ∙ k in cc

pub torn_at : (cmp : List ℕ → List ℕ → Ordering) (file : List ℕ) (places : List Place) (index : ℕ) (place : Place) → slice_get places index ≡ Some place
    → ((pairs : List Pair) → HasBlock cmp file place.handle pairs → AreWithin cmp (floor_of places index) place.key pairs → ⊥) × (IsUnsupported file place.handle → ⊥) → IsTornAt cmp file places index
torn_at cmp file places index place at none = (
  λ pairs intact. let same : intact.place ≡ place = same_place places index intact.place place intact.place_is at in
      none.0 pairs (subst (λ (p : Place). HasBlock cmp file p.handle pairs) same intact.has) (subst (λ (p : Place). AreWithin cmp (floor_of places index) p.key pairs) same intact.within),
  λ other. let same : other.0 ≡ place = same_place places index other.0 place other.1 at in none.1 (subst (λ (p : Place). IsUnsupported file p.handle) same other.2),
)

pub no_place : (cmp : List ℕ → List ℕ → Ordering) (file : List ℕ) (places : List Place) (index : ℕ) → slice_get places index ≡ None → IsTornAt cmp file places index
no_place cmp file places index none = (
  λ pairs intact. (let e : Some intact.place ≡ None = sym intact.place_is ∙ none in absurd (cc)),
  λ other. (let e : Some other.0 ≡ None = sym other.1 ∙ none in absurd (cc)),
)

-- ---- the blocks of a table

HasKey : Pair → Type 0
HasKey pair = (key : Key) × IsKey pair.key key

all_keys : (pairs : List Pair) (entries : List InternalEntry) → ArePairs pairs entries → AllByRecursion HasKey pairs
unfolding HasKey
all_keys [] [] h = tt
all_keys [] (entry ∷ entries) h = tt
all_keys (pair ∷ pairs) [] h = absurd h
all_keys (pair ∷ pairs) (entry ∷ entries) h = ((entry.key, h.0.key), all_keys pairs entries h.1)

all_parts : (P : Pair → Type 0) (xs ys : List Pair) → AllByRecursion P (xs ++ ys) → AllByRecursion P xs × AllByRecursion P ys
all_parts P [] ys h = (tt, h)
all_parts P (x ∷ xs) ys h = let on = all_parts P xs ys h.1 in ((h.0, on.0), on.1)

within_both : (cmp : List ℕ → List ℕ → Ordering) (floor : Option (List ℕ)) (most : List ℕ) (pairs : List Pair) → AllByRecursion (λ (pair : Pair). ForSome floor (λ (bound : List ℕ). IsBelowInternal cmp bound pair.key)) pairs
    → AllByRecursion (λ (pair : Pair). IsAtMost cmp pair.key most) pairs → AllByRecursion HasKey pairs → AreWithin cmp floor most pairs
unfolding HasKey
within_both cmp floor most [] low high keys = tt
within_both cmp floor most (pair ∷ pairs) low high keys = (record { key = keys.0.0; is = keys.0.1; above = low.0; within = high.0 }, within_both cmp floor most pairs low.1 high.1 keys.1)

above_some : (cmp : List ℕ → List ℕ → Ordering) (bound : List ℕ) (pairs : List Pair) → AllByRecursion (λ (pair : Pair). IsBelowInternal cmp bound pair.key) pairs
    → AllByRecursion (λ (pair : Pair). ForSome (Some bound) (λ (low : List ℕ). IsBelowInternal cmp low pair.key)) pairs
above_some cmp bound [] h = tt
above_some cmp bound (pair ∷ pairs) h = (λ low e. (let same : bound ≡ low = cc in subst (λ (k : List ℕ). IsBelowInternal cmp k pair.key) same h.0), above_some cmp bound pairs h.1)

above_none : (cmp : List ℕ → List ℕ → Ordering) (pairs : List Pair) → AllByRecursion (λ (pair : Pair). ForSome None (λ (low : List ℕ). IsBelowInternal cmp low pair.key)) pairs
above_none cmp [] = tt
above_none cmp (pair ∷ pairs) = (λ low e. absurd (cc), above_none cmp pairs)

all_blocks : (cmp : List ℕ → List ℕ → Ordering) (floor : Option (List ℕ)) (places : List Place) (pairs : List Pair) (others : List (List Pair))
    → AllByRecursion (λ (pair : Pair). ForSome floor (λ (bound : List ℕ). IsBelowInternal cmp bound pair.key)) pairs → AreBounds cmp places (pairs ∷ others) → AllByRecursion HasKey (joined (pairs ∷ others)) → AreAllWithin cmp floor places (pairs ∷ others)
all_blocks cmp floor [] pairs others low bounds keys = absurd bounds
all_blocks cmp floor (place ∷ []) pairs [] low bounds keys = let parts = all_parts HasKey pairs [] keys in (within_both cmp floor place.key pairs low bounds.0 parts.0, tt)
all_blocks cmp floor (place ∷ another ∷ places) pairs [] low bounds keys = absurd bounds.1
all_blocks cmp floor (place ∷ places) pairs (next ∷ others) low bounds keys =
    let parts = all_parts HasKey pairs (joined (next ∷ others)) keys in
    (within_both cmp floor place.key pairs low bounds.0.0 parts.0, all_blocks cmp (Some place.key) places next others (above_some cmp place.key next bounds.0.1) bounds.1 parts.1)

-- each data block of a table is within the bounds of its place
pub filled_within : (cmp : List ℕ → List ℕ → Ordering) (places : List Place) (blocks : List (List Pair)) (entries : List InternalEntry) → AreBounds cmp places blocks → ArePairs (joined blocks) entries → AreAllWithin cmp None places blocks
filled_within cmp [] [] entries bounds pairs = tt
filled_within cmp (place ∷ places) [] entries bounds pairs = absurd bounds
filled_within cmp places (block ∷ blocks) entries bounds pairs = all_blocks cmp None places block blocks (above_none cmp block) bounds (all_keys (joined (block ∷ blocks)) entries pairs)

-- so the block of an index is
floor_at : Option (List ℕ) → List Place → ℕ → Option (List ℕ)
floor_at floor places zero = floor
floor_at floor places (suc index) = option_map (λ (place : Place). place.key) (slice_get places index)

within_from : (cmp : List ℕ → List ℕ → Ordering) (floor : Option (List ℕ)) (places : List Place) (blocks : List (List Pair)) (index : ℕ) (place : Place) (pairs : List Pair) → AreAllWithin cmp floor places blocks
    → slice_get places index ≡ Some place → slice_get blocks index ≡ Some pairs → AreWithin cmp (floor_at floor places index) place.key pairs
unfolding floor_at
within_from cmp floor [] blocks index place pairs h at there = absurd (let bad : None ≡ Some place = at in cc)
within_from cmp floor (p ∷ places) [] index place pairs h at there = absurd h
within_from cmp floor (p ∷ places) (b ∷ blocks) zero place pairs h at there =
    let same : p ≡ place = let e : Some p ≡ Some place = at in cc in
    let is : b ≡ pairs = let e : Some b ≡ Some pairs = there in cc in
    subst (λ (x : Place). AreWithin cmp floor x.key pairs) same (subst (λ (ps : List Pair). AreWithin cmp floor p.key ps) is h.0)
within_from cmp floor (p ∷ places) (b ∷ blocks) (suc zero) place pairs h at there = within_from cmp (Some p.key) places blocks zero place pairs h.1 at there
within_from cmp floor (p ∷ places) (b ∷ blocks) (suc (suc index)) place pairs h at there = within_from cmp (Some p.key) places blocks (suc index) place pairs h.1 at there

same_floor : (places : List Place) (index : ℕ) → floor_at None places index ≡ floor_of places index
unfolding floor_at
same_floor places zero = refl
same_floor places (suc index) = refl

pub intact_at : (cmp : List ℕ → List ℕ → Ordering) (file : List ℕ) (places : List Place) (blocks : List (List Pair)) (index : ℕ) (place : Place) (pairs : List Pair) → AreAllWithin cmp None places blocks
    → slice_get places index ≡ Some place → slice_get blocks index ≡ Some pairs → HasBlock cmp file place.handle pairs → IsIntact cmp file places index pairs
intact_at cmp file places blocks index place pairs all at there has = record {
  place = place;
  place_is = at;
  has = has;
  within = subst (λ (o : Option (List ℕ)). AreWithin cmp o place.key pairs) (same_floor places index) (within_from cmp None places blocks index place pairs all at there);
}
