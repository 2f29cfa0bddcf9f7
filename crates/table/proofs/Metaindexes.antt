-- The filter block that a metaindex names.
use Rattle.std.proofs.Common.{◌≡◌, ◌≢◌, ◌<◌, ℕ, zero, suc, List, [], ◌∷◌, ◌++◌, Option, Some, None, length, take, get_or, refl, sym, ap, ◌∙◌, subst, arith}
use Rattle.ikey.specs.Entries.{Pair}
use Rattle.table.specs.declared.handle.Handle.{Handle}
use Rattle.table.specs.declared.pair.KeyValue.{KeyValue}
use Rattle.table.specs.Stored.{IsHandle}
use Rattle.table.specs.Frame.{filter_name, HasOtherNames, NamesFilter}
use Rattle.table.specs.Views.{pair_of, pairs_of}
use Rattle.table.proofs.Handles.{one_handle}

pub others_more : (xs : List KeyValue) (i : ℕ) (x : KeyValue) → i < length xs → x ≡ get_or xs i x → HasOtherNames (pairs_of (take i xs)) → (x.key ≡ filter_name → ⊥) → HasOtherNames (pairs_of (take (suc i) xs))
others_more [] i x p e h other = absurd (omega arith)
others_more (y ∷ xs) zero x p e h other = (subst (λ (z : KeyValue). z.key ≢ filter_name) e other, tt)
others_more (y ∷ xs) (suc i) x p e h other = (h.0, others_more xs i x (omega arith) e h.1 other)

pub split : (xs : List KeyValue) (i : ℕ) (x : KeyValue) → i < length xs → x ≡ get_or xs i x → HasOtherNames (pairs_of (take i xs))
    → (front : List Pair) × (back : List Pair) × HasOtherNames front × (pairs_of xs ≡ front ++ pair_of x ∷ back)
split [] i x p e h = absurd (omega arith)
split (y ∷ xs) zero x p e h = ([], pairs_of xs, tt, ap (λ (z : KeyValue). pair_of z ∷ pairs_of xs) (sym e))
split (y ∷ xs) (suc i) x p e h =
    let k = split xs i x (omega arith) e h.1 in (pair_of y ∷ k.0, k.1, (h.0, k.2), ap (λ (t : List Pair). pair_of y ∷ t) k.3)

-- the first pair of the name is one
pub one_split : (front other back behind : List Pair) (p q : Pair) → HasOtherNames front → HasOtherNames other → p.key ≡ filter_name → q.key ≡ filter_name → front ++ p ∷ back ≡ other ++ q ∷ behind → p ≡ q
one_split [] [] back behind p q h k a b e = cc
one_split [] (y ∷ other) back behind p q h k a b e = let s : p ≡ y = cc in absurd (k.0 (sym (ap (λ (z : Pair). z.key) s) ∙ a))
one_split (x ∷ front) [] back behind p q h k a b e = let s : x ≡ q = cc in absurd (h.0 (ap (λ (z : Pair). z.key) s ∙ b))
one_split (x ∷ front) (y ∷ other) back behind p q h k a b e = let s : front ++ p ∷ back ≡ other ++ q ∷ behind = cc in one_split front other back behind p q h.1 k.1 a b s

none_named : (front back : List Pair) (p : Pair) → p.key ≡ filter_name → HasOtherNames (front ++ p ∷ back) → ⊥
none_named [] back p e h = h.0 e
none_named (x ∷ front) back p e h = none_named front back p e h.1

pub named : (xs : List KeyValue) (i : ℕ) (x : KeyValue) (handle : Handle) → i < length xs → x ≡ get_or xs i x → HasOtherNames (pairs_of (take i xs)) → x.key ≡ filter_name → IsHandle x.value handle → NamesFilter (pairs_of xs) (Some handle)
named xs i x handle p e h k v =
    let s = split xs i x p e h in
    (s.0, s.1, x.value, s.2, v, s.3 ∙ ap (λ (name : List ℕ). s.0 ++ record { key = name; value = x.value } ∷ s.1) k)

pub none_names : (xs : List KeyValue) (i : ℕ) (x : KeyValue) → i < length xs → x ≡ get_or xs i x → HasOtherNames (pairs_of (take i xs)) → x.key ≡ filter_name → ((handle : Handle) → IsHandle x.value handle → ⊥)
    → (filter : Option Handle) → NamesFilter (pairs_of xs) filter → ⊥
none_names xs i x p e h k none None names =
    let s = split xs i x p e h in none_named s.0 s.1 (pair_of x) k (subst HasOtherNames s.3 names)
none_names xs i x p e h k none (Some handle) names =
    let s = split xs i x p e h in
    let same : pair_of x ≡ record { key = filter_name; value = names.2 } = one_split s.0 names.0 s.1 names.1 (pair_of x) (record { key = filter_name; value = names.2 }) s.2 names.3 k refl (sym s.3 ∙ names.5) in
    none handle (subst (λ (pair : Pair). IsHandle pair.value handle) (sym same) names.4)

pub one_named : (pairs : List Pair) (a b : Option Handle) → NamesFilter pairs a → NamesFilter pairs b → a ≡ b
one_named pairs None None h k = refl
one_named pairs None (Some b) h k = absurd (none_named k.0 k.1 (record { key = filter_name; value = k.2 }) refl (subst HasOtherNames k.5 h))
one_named pairs (Some a) None h k = absurd (none_named h.0 h.1 (record { key = filter_name; value = h.2 }) refl (subst HasOtherNames h.5 k))
one_named pairs (Some a) (Some b) h k =
    let same = one_split h.0 k.0 h.1 k.1 (record { key = filter_name; value = h.2 }) (record { key = filter_name; value = k.2 }) h.3 k.3 refl refl (sym h.5 ∙ k.5) in
    ap Some (one_handle h.2 a b h.4 (subst (λ (pair : Pair). IsHandle pair.value b) (sym same) k.4))
