-- The pair on which a walk stands.
use Rattle.std.proofs.Common.{◌≡◌, ℕ, Bool, true, false, List, Option, Some, None, ap, ◌∙◌}
use Rattle.std.specs.Prelude.{slice_get}
use Rattle.std.specs.Option.{option_map, option_and_then}
use Rattle.ikey.specs.Entries.{InternalEntry, Pair}
use Rattle.cursor.specs.declared.standing.Position.{Position}
use Rattle.cursor.specs.Places.{Listed}
use Rattle.cursor.specs.Views.{Walked, shown}
use Rattle.cursor.specs.Walks.{IsPlacedWalk}
use Rattle.db_cursor.specs.Pairs.{tuple_of, pair_on}

pub pair_placed : (at : Walked) (index : ℕ) (pair : Pair) → at.place ≡ Some index → slice_get at.pairs index ≡ Some pair → pair_on at ≡ Some (tuple_of pair)
pair_placed at index pair place is = ap (λ (o : Option ℕ). option_map tuple_of (option_and_then (slice_get at.pairs) o)) place ∙ ap (option_map tuple_of) is

-- where a walk stands there is a pair
pub pair_there : {C S : Type 0} (cmp : _) (lists : C → S → Listed → Type 0) (cursor : C) (sequence : ℕ) (stands : Bool) (position : Position) (key value : List ℕ) (source : S) (entries : List InternalEntry) (at : Walked)
    → stands ≡ true → IsPlacedWalk cmp lists cursor sequence stands position key value source entries at → (index : ℕ) × (pair : Pair) × (at.place ≡ Some index) × (slice_get at.pairs index ≡ Some pair)
pair_there cmp lists cursor sequence true position key value source entries at is h = (h.index, shown h.entry, h.place_is, h.pair_is)
pair_there cmp lists cursor sequence false position key value source entries at is h = absurd (cc)

pub pair_nowhere : {C S : Type 0} (cmp : _) (lists : C → S → Listed → Type 0) (cursor : C) (sequence : ℕ) (stands : Bool) (position : Position) (key value : List ℕ) (source : S) (entries : List InternalEntry) (at : Walked)
    → stands ≡ false → IsPlacedWalk cmp lists cursor sequence stands position key value source entries at → pair_on at ≡ None
pair_nowhere cmp lists cursor sequence false position key value source entries at is h = ap (λ (o : Option ℕ). option_map tuple_of (option_and_then (slice_get at.pairs) o)) h.0
pair_nowhere cmp lists cursor sequence true position key value source entries at is h = absurd (cc)

pub same_pair : (key value : List ℕ) (pair : Pair) → key ≡ pair.key → value ≡ pair.value → Some (key, value) ≡ Some (tuple_of pair)
same_pair key value pair k v = λ i. Some (k i, v i)
