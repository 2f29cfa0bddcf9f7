-- The order of entries in tables.
use Rattle.std.proofs.Common.{◌≡◌, inl, inr, ◌≤◌, ◌-◌, ℕ, List, [], ◌∷◌, length, take, drop, get_or, refl, sym, ◌∙◌, subst, arith}
use Rattle.std.specs.Cmp.{IsTotalOrder}
use Rattle.std.specs.declared.cmp.Ordering.TheVariants.{Less}
use Rattle.ikey.specs.Orders.{Order}
use Rattle.ikey.specs.declared.entry.Entry.{Entry}
use Rattle.ikey.specs.Views.{Among}
use Rattle.ikey.specs.Sources.{ComesBefore, AreSorted}
use Rattle.recover.specs.internal.Checks.{StartsBefore}
use Rattle.recover.proofs.KeyRanges.{parts_of}

pub before_trans : (order : Order) → IsTotalOrder order.cmp → (a b c : Entry) → ComesBefore order a b → ComesBefore order b c → ComesBefore order a c
before_trans order o a b c (inl x) (inl y) = inl (o.trans a.key b.key c.key x y)
before_trans order o a b c (inl x) (inr y) = let P : List ℕ → Type 0 = λ k. order.cmp a.key k ≡ Less in inl (subst P y.0 x)
before_trans order o a b c (inr x) (inl y) = let P : List ℕ → Type 0 = λ k. order.cmp k c.key ≡ Less in inl (subst P (sym x.0) y)
before_trans order o a b c (inr x) (inr y) = inr (x.0 ∙ y.0, omega (arith, x.1, y.1))

sorted_behind : (order : Order) → IsTotalOrder order.cmp → (first : Entry) (rest : List Entry) → StartsBefore order first rest → AreSorted order rest → (other : Entry) → Among rest other → ComesBefore order first other
sorted_behind order o first [] h k other i = absurd i
sorted_behind order o first (x ∷ rest) h k other (inl e) = let P : Entry → Type 0 = λ f. ComesBefore order first f in subst P (sym e) h
sorted_behind order o first (x ∷ rest) h k other (inr i) = before_trans order o first x other h (k.0 other i)

pub sorted_more : (order : Order) → IsTotalOrder order.cmp → (all left : List Entry) (first : Entry) → 1 ≤ length left → first ≡ get_or left 0 first → StartsBefore order first (take (length left - 1) (drop 1 left))
    → (AreSorted order left → AreSorted order all) → AreSorted order (take (length left - 1) (drop 1 left)) → AreSorted order all
sorted_more order o all left first some is h to rest =
    let P : List Entry → Type 0 = λ es. AreSorted order es in
    to (subst P (sym (parts_of left first some is)) (sorted_behind order o first (take (length left - 1) (drop 1 left)) h rest, rest))

pub sorted_less : (order : Order) (all left : List Entry) (first : Entry) → 1 ≤ length left → first ≡ get_or left 0 first
    → (AreSorted order all → AreSorted order left) → AreSorted order all → AreSorted order (take (length left - 1) (drop 1 left))
sorted_less order all left first some is from h = let P : List Entry → Type 0 = λ es. AreSorted order es in (subst P (parts_of left first some is) (from h)).1

starts : (order : Order) (first : Entry) (rest : List Entry) → ((other : Entry) → Among rest other → ComesBefore order first other) → StartsBefore order first rest
starts order first [] h = tt
starts order first (x ∷ rest) h = h x (inl refl)

pub sorted_not : (order : Order) (all left : List Entry) (first : Entry) → 1 ≤ length left → first ≡ get_or left 0 first → (StartsBefore order first (take (length left - 1) (drop 1 left)) → ⊥)
    → (AreSorted order all → AreSorted order left) → AreSorted order all → ⊥
sorted_not order all left first some is none from h =
    let P : List Entry → Type 0 = λ es. AreSorted order es in
    none (starts order first (take (length left - 1) (drop 1 left)) (subst P (parts_of left first some is) (from h)).0)
