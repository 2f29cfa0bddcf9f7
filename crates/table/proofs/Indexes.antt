-- The places of an index, walked over.
use Rattle.std.proofs.Common.{true, false, is_some, slice_get, option_and_then, ◌≡◌, ◌<◌, ℕ, zero, suc, List, [], ◌∷◌, ◌++◌, Some, None, length, refl, sym, ap, ◌∙◌, subst, arith}
use Rattle.std.proofs.lemmas.List.{length-append}
use Rattle.ikey.specs.Entries.{Pair}
use Rattle.block.specs.Places.{Placed, within, index_behind}
use Rattle.table.specs.declared.handle.Handle.{Handle}
use Rattle.table.specs.declared.handle.Place.{Place}
use Rattle.table.specs.Stored.{IsHandle}
use Rattle.table.specs.Frame.{ArePlaces}
use Rattle.table.proofs.Walks.{IsWalked, walked_none, walked_more, all_walked, one_at, stood, within_yes}

pub record ArePlaced (pairs : List Pair) (cursor : Placed) (places : List Place) : Type 0 where
  pub found : List Pair
  pub walked : IsWalked pairs cursor found
  pub count : length found ≡ length places
  pub places_are : ArePlaces found places

pub places_more : (pairs : List Pair) (places : List Place) (pair : Pair) (place : Place) → ArePlaces pairs places → pair.key ≡ place.key → IsHandle pair.value place.handle → ArePlaces (pairs ++ pair ∷ []) (places ++ place ∷ [])
places_more [] [] pair place h k v = (k, v, tt)
places_more [] (y ∷ places) pair place h k v = absurd h
places_more (x ∷ pairs) [] pair place h k v = absurd h
places_more (x ∷ pairs) (y ∷ places) pair place h k v = (h.0, h.1, places_more pairs places pair place h.2 k v)

pub placed_none : (pairs : List Pair) (cursor : Placed) → cursor.pairs ≡ pairs → cursor.place ≡ within pairs 0 → ArePlaced pairs cursor []
placed_none pairs cursor e h = record { found = []; walked = walked_none pairs cursor e h; count = refl; places_are = tt }

pub placed_more : (pairs : List Pair) (cursor next : Placed) (places new : List Place) (key value : List ℕ) (handle : Handle) → ArePlaced pairs cursor places → is_some cursor.place ≡ true
    → ((index : ℕ) (pair : Pair) → cursor.place ≡ Some index → slice_get cursor.pairs index ≡ Some pair → key ≡ pair.key)
    → ((index : ℕ) (pair : Pair) → cursor.place ≡ Some index → slice_get cursor.pairs index ≡ Some pair → value ≡ pair.value)
    → IsHandle value handle → new ≡ places ++ record { key = key; handle = handle } ∷ []
    → next ≡ record cursor { place = option_and_then (index_behind cursor.pairs) cursor.place } → ArePlaced pairs next new
placed_more pairs cursor next places new key value handle h some keys values is e step =
    let more : List Pair = h.found ++ record { key = key; value = value } ∷ [] in
    record {
      found = more;
      walked = walked_more pairs cursor next h.found more key value h.walked some keys values refl step;
      count = omega (arith, h.count, length-append h.found (record { key = key; value = value } ∷ []), ap length e, length-append places (record { key = key; handle = handle } ∷ []));
      places_are = subst (ArePlaces more) (sym e) (places_more h.found places (record { key = key; value = value }) (record { key = key; handle = handle }) h.places_are refl is);
    }

pub all_placed : (pairs : List Pair) (cursor : Placed) (places : List Place) → ArePlaced pairs cursor places → is_some cursor.place ≡ false → ArePlaces pairs places
all_placed pairs cursor places h none = subst (λ (t : List Pair). ArePlaces t places) (all_walked pairs cursor h.found h.walked none) h.places_are

handle_at_place : (pairs : List Pair) (places : List Place) (n : ℕ) (pair : Pair) → ArePlaces pairs places → slice_get pairs n ≡ Some pair → (handle : Handle) × IsHandle pair.value handle
handle_at_place [] places n pair h e = let t : None ≡ Some pair = e in cc
handle_at_place (x ∷ pairs) [] n pair h e = absurd h
handle_at_place (x ∷ pairs) (y ∷ places) zero pair h e =
    let s : x ≡ pair = let t : Some x ≡ Some pair = e in cc in
    (y.handle, subst (λ (p : Pair). IsHandle p.value y.handle) s h.1)
handle_at_place (x ∷ pairs) (y ∷ places) (suc n) pair h e = handle_at_place pairs places n pair h.2 e

-- a value that is no handle
pub no_place : (pairs : List Pair) (cursor : Placed) (found : List Place) (value : List ℕ) → ArePlaced pairs cursor found → is_some cursor.place ≡ true
    → ((index : ℕ) (pair : Pair) → cursor.place ≡ Some index → slice_get cursor.pairs index ≡ Some pair → value ≡ pair.value)
    → ((handle : Handle) → IsHandle value handle → ⊥) → (places : List Place) → ArePlaces pairs places → ⊥
no_place pairs cursor found value h some values none places are =
    let n : ℕ = length h.found in
    let p : n < length pairs = stood pairs n (sym (ap is_some h.walked.place_is) ∙ some) in
    let here = one_at pairs n p in
    let place : cursor.place ≡ Some n = h.walked.place_is ∙ within_yes pairs n p in
    let there : slice_get cursor.pairs n ≡ Some here.0 = ap (λ (t : List Pair). slice_get t n) h.walked.pairs_are ∙ here.1 in
    let v = values n here.0 place there in
    let k = handle_at_place pairs places n here.0 are here.1 in
    none k.0 (subst (λ (t : List ℕ). IsHandle t k.0) (sym v) k.1)
