-- The pairs of a view, as a walk lists them.
use Rattle.std.proofs.Common.{◌≡◌, ◌↔◌, ℕ, Bool, true, false, cond, List, [], ◌∷◌, map, Option, Some, None, refl, sym, ap, ◌∙◌, inl, inr}
use Rattle.std.specs.List.{AllByRecursion}
use Rattle.std.specs.List.Sorted.{IsStrictlySortedBy}
use Rattle.std.specs.Map.{lookup, keys_of}
use Rattle.std.specs.Ordering.{ordering_reverse}
use Rattle.std.specs.Cmp.{IsTotalOrder}
use Rattle.std.specs.FinMap.{get}
use Rattle.std.specs.Str.{bytes_eq}
use Rattle.std.specs.declared.cmp.Ordering.{Ordering}
use Rattle.std.specs.declared.cmp.Ordering.TheVariants.{Less, Equal, Greater}
use Rattle.std.proofs.lemmas.Slice.Eq.{bytes_eq-Decides}
use Rattle.ikey.specs.Entries.{Pair}
use Rattle.ikey.specs.Views.{Contents as View}
use Rattle.cursor.specs.Views.{HasPair, KeysRise}
use Rattle.db_cursor.specs.Pairs.{listed_pair, tuple_of}
use Rattle.machine.specs.Views.{AreSortedPairs}

abbrev Order : Type 0
Order = List ℕ → List ℕ → Ordering

pub listed_again : (pairs : List Pair) → map listed_pair (map tuple_of pairs) ≡ pairs
listed_again [] = refl
listed_again (pair ∷ pairs) = ap (λ (ps : List Pair). pair ∷ ps) (listed_again pairs)

less_apart : (cmp : Order) → IsTotalOrder cmp → (key : List ℕ) → cmp key key ≡ Less → ⊥
less_apart cmp total key less = let turned : cmp key key ≡ ordering_reverse (cmp key key) = total.antisymm key key in at (cmp key key) less turned
  where
    at : (o : Ordering) → o ≡ Less → o ≡ ordering_reverse o → ⊥
    at Less h k = cc
    at Equal h k = cc
    at Greater h k = cc

module _ (cmp : Order) (total : IsTotalOrder cmp) where
  rises_all : (key : List ℕ) (pairs : List Pair) → AllByRecursion (λ (later : Pair). cmp key later.key ≡ Less) pairs → AllByRecursion (λ (y : List ℕ). cmp key y ≡ Less) (keys_of (map tuple_of pairs))
  rises_all key [] h = tt
  rises_all key (pair ∷ pairs) h = (h.0, rises_all key pairs h.1)

  sorted : (pairs : List Pair) → KeysRise cmp pairs → IsStrictlySortedBy cmp (keys_of (map tuple_of pairs))
  unfolding IsStrictlySortedBy
  sorted [] h = tt
  sorted (pair ∷ pairs) h = (rises_all pair.key pairs h.0, sorted pairs h.1)

  above_first : (key : List ℕ) (pairs : List Pair) (pair : Pair) → AllByRecursion (λ (later : Pair). cmp key later.key ≡ Less) pairs → HasPair pairs pair → cmp key pair.key ≡ Less
  above_first key [] pair all h = absurd h
  above_first key (first ∷ pairs) pair all (inl is) = ap (λ (p : Pair). cmp key p.key) is ∙ all.0
  above_first key (first ∷ pairs) pair all (inr h) = above_first key pairs pair all.1 h

  found_at : (pairs : List Pair) (pair : Pair) → KeysRise cmp pairs → HasPair pairs pair → lookup (bytes_eq pair.key) (map tuple_of pairs) ≡ Some pair.value
  found_at [] pair rises h = absurd h
  found_at (first ∷ pairs) pair rises h = at (λ later. found_at pairs pair rises.1 later) (bytes_eq pair.key first.key) refl h
    where
      at : (HasPair pairs pair → lookup (bytes_eq pair.key) (map tuple_of pairs) ≡ Some pair.value) → (b : Bool) → bytes_eq pair.key first.key ≡ b → HasPair (first ∷ pairs) pair → cond b (Some first.value) (lookup (bytes_eq pair.key) (map tuple_of pairs)) ≡ Some pair.value
      at rest true is (inl same) = sym (ap (λ (p : Pair). Some p.value) same)
      at rest true is (inr later) =
          absurd (less_apart cmp total first.key (sym (ap (cmp first.key) ((bytes_eq-Decides pair.key first.key).0 is)) ∙ above_first first.key pairs pair rises.0 later))
      at rest false is (inl same) = let bad : true ≡ false = sym ((bytes_eq-Decides pair.key first.key).1 (ap (λ (p : Pair). p.key) same)) ∙ is in absurd cc
      at rest false is (inr later) = rest later

  none_at : (pairs : List Pair) (key : List ℕ) → ((value : List ℕ) → HasPair pairs (record { key = key; value = value }) → ⊥) → lookup (bytes_eq key) (map tuple_of pairs) ≡ None
  none_at [] key none = refl
  none_at (first ∷ pairs) key none = at (none_at pairs key (λ value h. none value (inr h))) (bytes_eq key first.key) refl
    where
      at : lookup (bytes_eq key) (map tuple_of pairs) ≡ None → (b : Bool) → bytes_eq key first.key ≡ b → cond b (Some first.value) (lookup (bytes_eq key) (map tuple_of pairs)) ≡ None
      at rest true is = absurd (none first.value (inl (ap (λ (k : List ℕ). record { key = k; value = first.value }) ((bytes_eq-Decides key first.key).0 is))))
      at rest false is = rest

  pub pairs_of_view : (view : View) (pairs : List Pair) → KeysRise cmp pairs → ((pair : Pair) → HasPair pairs pair ↔ (get view pair.key ≡ Some pair.value)) → AreSortedPairs cmp view (map tuple_of pairs)
  pairs_of_view view pairs rises agree = record { sorted = sorted pairs rises; exact = λ key. at key (get view key) refl }
    where
      at : (key : List ℕ) (o : Option (List ℕ)) → get view key ≡ o → lookup (bytes_eq key) (map tuple_of pairs) ≡ o
      at key None is = none_at pairs key (λ value h. let bad : None ≡ Some value = sym is ∙ (agree (record { key = key; value = value })).0 h in absurd cc)
      at key (Some value) is = found_at pairs (record { key = key; value = value }) rises ((agree (record { key = key; value = value })).1 is)
