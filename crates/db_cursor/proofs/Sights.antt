-- A scan whose source changes, or is seen another way.
use Rattle.std.proofs.Common.{◌≡◌, ◌∙◌, ℕ, zero, suc, Bool, true, false, Option, Some, None, List, [], ◌∷◌, ap, inl, inr}
use Rattle.std.specs.Prelude.{slice_get}
use Rattle.cursor.specs.declared.child.Child.{Child}
use Rattle.cursor.specs.declared.child.Side.{Side}
use Rattle.cursor.specs.declared.child.Side.TheVariants.{Ahead, Behind, Astray}
use Rattle.cursor.specs.declared.standing.Position.{Position}
use Rattle.cursor.specs.declared.standing.Position.TheVariants as positions
use Rattle.cursor.specs.Merging.{IsBeside, IsMerge, listed}
use Rattle.cursor.specs.Places.{Cmp, Listed}
use Rattle.cursor.specs.Standing.{StandsAt}
use Rattle.cursor.specs.Views.{HasPair, IsViewList, Walked, shown}
use Rattle.cursor.specs.Walks.{IsPlacedWalk}
use Rattle.ikey.specs.Entries.{InternalEntry, Pair}
use Rattle.ikey.specs.Keys.{Key}

-- ---- a merge over another source, in which each child lists what it lists in the first

module _ {C S T : Type 0} (cmp : Cmp) (here : C → S → Listed → Type 0) (there : C → T → Listed → Type 0) (source : S) (target : T) where
  beside_as : (key : Key) (list : List InternalEntry) (cursor : C) (side : Side) → ((at : Listed) → here cursor source at → there cursor target at) → IsBeside cmp here source key list cursor side → IsBeside cmp there target key list cursor side
  beside_as key list cursor Ahead goes h = goes _ h
  beside_as key list cursor Behind goes h = goes _ h
  beside_as key list cursor Astray goes h = (h.0, goes (listed list h.0) h.1)

  pub merged_as : (children : List (Child C)) (current : Option ℕ) (sought : List ℕ) (at : Listed) → ((i : ℕ) (child : Child C) (at : Listed) → slice_get children i ≡ Some child → here child.cursor source at → there child.cursor target at)
      → IsMerge cmp here children current sought source at → IsMerge cmp there children current sought target at
  merged_as children None sought at goes h = (
    h.0,
    h.1,
    record {
      place_is = h.2.place_is;
      beside = λ key. record {
        same_length = (h.2.beside key).same_length;
        each = λ i child list ci li out. beside_as key list child.cursor child.side (λ at. goes i child at ci) ((h.2.beside key).each i child list ci li out);
      };
    },
  )
  merged_as children (Some current) sought at goes h = (
    h.0,
    h.1,
    record {
      index = h.2.index;
      entry = h.2.entry;
      place_is = h.2.place_is;
      entry_is = h.2.entry_is;
      child = h.2.child;
      list = h.2.list;
      within_list = h.2.within_list;
      child_is = h.2.child_is;
      list_is = h.2.list_is;
      same = h.2.same;
      target_is = h.2.target_is;
      on = goes current h.2.child (listed h.2.list (Some h.2.within_list)) h.2.child_is h.2.on;
      beside = record {
        same_length = h.2.beside.same_length;
        each = λ i child list ci li out. beside_as h.2.entry.key list child.cursor child.side (λ at. goes i child at ci) (h.2.beside.each i child list ci li out);
      };
    },
  )

-- ---- and a walk over one

module _ {C S T : Type 0} (cmp : Cmp) (here : C → S → Listed → Type 0) (there : C → T → Listed → Type 0) (cursor : C) (source : S) (target : T) (goes : (at : Listed) → here cursor source at → there cursor target at) where
  beneath_as : (position : Position) (entries : List InternalEntry) (entry : InternalEntry) (value : List ℕ) → StandsAt cmp here position cursor source entries entry value → StandsAt cmp there position cursor target entries entry value
  beneath_as positions.Here entries entry value h = (h.0, goes (listed entries h.0) h.1, h.2)
  beneath_as positions.Behind entries entry value h = (goes _ h.0, h.1)
  beneath_as positions.Astray entries entry value h = (h.0, goes (listed entries h.0) h.1)

  pub placed_as : (sequence : ℕ) (stands : Bool) (position : Position) (key value : List ℕ) (entries : List InternalEntry) (at : Walked)
      → IsPlacedWalk cmp here cursor sequence stands position key value source entries at → IsPlacedWalk cmp there cursor sequence stands position key value target entries at
  placed_as sequence false position key value entries at h = (h.0, (h.1.0, goes (listed entries h.1.0) h.1.1))
  placed_as sequence true position key value entries at h = record {
    index = h.index;
    entry = h.entry;
    place_is = h.place_is;
    pair_is = h.pair_is;
    visible = h.visible;
    key_is = h.key_is;
    beneath = beneath_as position entries h.entry value h.beneath;
  }

-- ---- a move that is taken back

-- where the cursor beneath stands in the list, somewhere
pub beneath_of : {C S : Type 0} (cmp : Cmp) (lists : C → S → Listed → Type 0) (cursor : C) (sequence : ℕ) (stands : Bool) (position : Position) (key value : List ℕ) (source : S) (entries : List InternalEntry) (at : Walked)
    → IsPlacedWalk cmp lists cursor sequence stands position key value source entries at → (place : Option ℕ) × lists cursor source (listed entries place)
beneath_of cmp lists cursor sequence false position key value source entries at h = h.1
beneath_of cmp lists cursor sequence true positions.Here key value source entries at h = (h.beneath.0, h.beneath.1)
beneath_of cmp lists cursor sequence true positions.Behind key value source entries at h = (_, h.beneath.0)
beneath_of cmp lists cursor sequence true positions.Astray key value source entries at h = h.beneath

pair_found : (pairs : List Pair) (index : ℕ) (pair : Pair) → slice_get pairs index ≡ Some pair → HasPair pairs pair
pair_found [] index pair is = absurd (cc)
pair_found (first ∷ pairs) zero pair is = inl (let same : pair ≡ first = cc in same)
pair_found (first ∷ pairs) (suc index) pair is = inr (pair_found pairs index pair is)

-- a walk that has gone on from a place over the same pairs is at that place again with its key
pub walks_again : {C S T : Type 0} (cmp : Cmp) (lists : C → S → Listed → Type 0) (first later : C) (sequence : ℕ) (stood stands : Bool) (position meanwhile : Position) (key value other found kept : List ℕ) (source : S) (target : T) (there : C → T → Listed → Type 0) (before entries : List InternalEntry) (pairs : List Pair) (from to : Option ℕ)
    → IsViewList cmp entries sequence pairs → IsPlacedWalk cmp lists first sequence stood position key value source before (record { pairs = pairs; place = from })
    → IsPlacedWalk cmp there later sequence stands meanwhile other found target entries (record { pairs = pairs; place = to })
    → IsPlacedWalk cmp there later sequence stood positions.Astray key kept target entries (record { pairs = pairs; place = from })
walks_again cmp lists first later sequence false stands position meanwhile key value other found kept source target there before entries pairs from to view h g =
    (h.0, beneath_of cmp there later sequence stands meanwhile other found target entries (record { pairs = pairs; place = to }) g)
walks_again cmp lists first later sequence true stands position meanwhile key value other found kept source target there before entries pairs from to view h g =
    let entry = view.found (shown h.entry) (pair_found pairs h.index (shown h.entry) h.pair_is) in
    record {
      index = h.index;
      entry = entry.0;
      place_is = h.place_is;
      pair_is = h.pair_is ∙ ap (λ (pair : Pair). Some pair) entry.2;
      visible = entry.1;
      key_is = h.key_is ∙ ap (λ (pair : Pair). pair.key) entry.2;
      beneath = beneath_of cmp there later sequence stands meanwhile other found target entries (record { pairs = pairs; place = to }) g;
    }
