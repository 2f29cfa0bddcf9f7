-- Walks of scans, beside those of the machine.
use Rattle.std.proofs.Common.{◌≡◌, ℕ, zero, suc, ◌+◌, ◌-◌, Bool, true, false, cond, List, [], ◌∷◌, length, map, Option, Some, None, is_some, refl, sym, ap, ◌∙◌, add-one, arith}
use Rattle.std.specs.Prelude.{slice_get, nat_lt, nat_eq}
use Rattle.std.specs.Option.{option_map, option_and_then}
use Rattle.std.specs.Ordering.{is_lt}
use Rattle.std.specs.declared.cmp.Ordering.{Ordering}
use Rattle.std.specs.declared.cmp.Ordering.TheVariants.{Less, Equal, Greater}
use Rattle.std.proofs.lemmas.Bool.Decides.{nat_tests}
use Rattle.std.proofs.lemmas.List.{length-map}
use Rattle.std.proofs.lemmas.Option.{slice_get-map}
use Rattle.ikey.specs.Entries.{InternalEntry}
use Rattle.cursor.specs.declared.standing.Position.{Position}
use Rattle.cursor.specs.Places.{Listed, within, index_before, index_behind, is_less}
use Rattle.cursor.specs.Views.{Walked, keys_before}
use Rattle.cursor.specs.Walks.{IsPlacedWalk}
use Rattle.machine.specs.Machine.{Walk}
use Rattle.reader.specs.internal.Iterators.{walked_of, destination}
use Rattle.db_cursor.specs.Pairs.{listed_pair, tuple_of, pair_on}
use Rattle.machine.specs.Walks.{place_at, place_before, place_after, pair_at, count_below}
use Rattle.machine.specs.Causes.{Motion, ToFirst, ToLast, ToKey, ToNext, ToPrev}

abbrev Order : Type 0
Order = List ℕ → List ℕ → Ordering

abbrev Tuples : Type 0
Tuples = List (List ℕ × List ℕ)

-- whether a walk has a place, it knows
pub stands_is : {C S : Type 0} (cmp : Order) (lists : C → S → Listed → Type 0) (cursor : C) (sequence : ℕ) (stands : Bool) (position : Position) (key value : List ℕ) (source : S) (entries : List InternalEntry) (at : Walked)
    → IsPlacedWalk cmp lists cursor sequence stands position key value source entries at → stands ≡ is_some at.place
stands_is cmp lists cursor sequence false position key value source entries at h = sym (ap is_some h.0)
stands_is cmp lists cursor sequence true position key value source entries at h = sym (ap is_some h.place_is)

-- ---- places among the machine's pairs

less_is : (o : Ordering) → is_less o ≡ is_lt o
less_is Less = refl
less_is Equal = refl
less_is Greater = refl

within_is : (pairs : Tuples) (index : ℕ) → within (map listed_pair pairs) index ≡ place_at pairs index
within_is pairs index = ap (λ (n : ℕ). cond (nat_lt index n) (Some index) None) (length-map pairs listed_pair)

last_is : (pairs : Tuples) → index_before (length (map listed_pair pairs)) ≡ place_at pairs (length pairs - 1)
last_is [] = refl
last_is (pair ∷ pairs) =
    let low : nat_lt (length (pair ∷ pairs) - 1) (length (pair ∷ pairs)) ≡ true = grind (arith, nat_tests) in
    let one : length (map listed_pair pairs) ≡ length (pair ∷ pairs) - 1 = length-map pairs listed_pair ∙ omega arith in
    ap (λ (n : ℕ). Some n) one ∙ sym (ap (λ (b : Bool). cond b (Some (length (pair ∷ pairs) - 1)) None) low)

below_is : (cmp : Order) (key : List ℕ) (pairs : Tuples) → keys_before cmp key (map listed_pair pairs) ≡ count_below cmp key pairs
below_is cmp key [] = refl
below_is cmp key (pair ∷ pairs) = at (cmp pair.0 key) (below_is cmp key pairs)
  where
    at : (o : Ordering) → keys_before cmp key (map listed_pair pairs) ≡ count_below cmp key pairs
        → cond (is_less o) (suc (keys_before cmp key (map listed_pair pairs))) zero ≡ cond (is_lt o) (count_below cmp key pairs + 1) 0
    at Less h = ap suc h ∙ sym (add-one (count_below cmp key pairs))
    at Equal h = refl
    at Greater h = refl

next_is : (pairs : Tuples) (place : Option ℕ) → option_and_then (index_behind (map listed_pair pairs)) place ≡ option_and_then (λ i. place_at pairs (i + 1)) place
next_is pairs None = refl
next_is pairs (Some index) = within_is pairs (suc index) ∙ ap (place_at pairs) (sym (add-one index))

prev_is : (place : Option ℕ) → option_and_then index_before place ≡ option_and_then place_before place
prev_is None = refl
prev_is (Some zero) = refl
prev_is (Some (suc index)) =
    let some : nat_eq (suc index) 0 ≡ false = grind (arith, nat_tests) in
    let one : index ≡ suc index - 1 = omega arith in
    ap (λ (n : ℕ). Some n) one ∙ sym (ap (λ (b : Bool). cond b None (Some (suc index - 1))) some)

pub destination_is : (cmp : Order) (motion : Motion) (walk : Walk) → destination cmp motion (walked_of walk) ≡ place_after cmp motion walk
destination_is cmp ToFirst walk = within_is walk.pairs 0
destination_is cmp ToLast walk = last_is walk.pairs
destination_is cmp (ToKey key) walk = within_is walk.pairs (keys_before cmp key (map listed_pair walk.pairs)) ∙ ap (place_at walk.pairs) (below_is cmp key walk.pairs)
destination_is cmp ToNext walk = next_is walk.pairs walk.place
destination_is cmp ToPrev walk = prev_is walk.place

pair_again : (o : Option (List ℕ × List ℕ)) → option_map tuple_of (option_map listed_pair o) ≡ o
pair_again None = refl
pair_again (Some pair) = refl

pub pair_is : (walk : Walk) → pair_on (walked_of walk) ≡ pair_at walk.pairs walk.place
pair_is walk = at walk.place
  where
    at : (place : Option ℕ) → option_map tuple_of (option_and_then (slice_get (map listed_pair walk.pairs)) place) ≡ option_and_then (slice_get walk.pairs) place
    at None = refl
    at (Some index) = ap (option_map tuple_of) (slice_get-map listed_pair walk.pairs index) ∙ pair_again (slice_get walk.pairs index)
