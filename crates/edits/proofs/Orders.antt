-- The order of tables, by level and then by number, as the program tests it.
use Rattle.std.proofs.Common.{◌≡◌, ◌≢◌, ◌==◌, nat_lt, ℕ, ◌≤◌, inl, inr, true, false, ◌||◌, ◌&&◌, List, [], ◌∷◌, map, refl, sym, ◌∙◌, arith}
use Rattle.std.specs.List.{AllByRecursion}
use Rattle.std.proofs.lemmas.Bool.{or_cases, or_parts, or_from, and_parts, and_cases, and_left, and_right, ltb-true, ltb-false, eqb-true, eqb-false, le-ltb, ne_eqb, cases_lt}
use Rattle.edits.specs.declared.field.PlacedTable.{PlacedTable}
use Rattle.edits.specs.Edit.{IsPlacedBefore}
use Rattle.edits.specs.Layout.{is_used}

pub before_true : (l m n k : ℕ) → (nat_lt l n || (l == n && nat_lt m k)) ≡ true → IsPlacedBefore (l, m) (n, k)
before_true l m n k e =
    elim (or_cases (nat_lt l n) (l == n && nat_lt m k) e) [
      | inl a ↦ inl (ltb-true l n a)
      | inr b ↦ let p = and_parts (l == n) (nat_lt m k) b in inr (eqb-true l n p.0, ltb-true m k p.1)
    ]

pub before_false : (l m n k : ℕ) → (nat_lt l n || (l == n && nat_lt m k)) ≡ false → (m ≡ k → ⊥) → IsPlacedBefore (n, k) (l, m)
before_false l m n k e other =
    let p = or_parts (nat_lt l n) (l == n && nat_lt m k) e in
    let ge : n ≤ l = ltb-false l n p.0 in
    elim (cases_lt n l) [
      | inl lt ↦ inl lt
      | inr le ↦
          let same : n ≡ l = omega (arith, ge, le) in
          elim (and_cases (l == n) (nat_lt m k) p.1) [
            | inl a ↦ absurd (eqb-false l n a (sym same))
            | inr b ↦
                let low : k ≤ m = ltb-false m k b in
                elim (cases_lt k m) [
                  | inl lt ↦ inr (same, lt)
                  | inr high ↦ absurd (other (omega (arith, low, high)))
                ]
          ]
    ]

pub before_not : (l m n k : ℕ) → IsPlacedBefore (l, m) (n, k) → (nat_lt n l || (n == l && nat_lt k m)) ≡ false
before_not l m n k (inl lt) = or_from (nat_lt n l) (n == l && nat_lt k m) (le-ltb n l (omega (arith, lt))) (and_left (n == l) (nat_lt k m) (ne_eqb n l (λ e. omega (arith, lt, e))))
before_not l m n k (inr h) = or_from (nat_lt n l) (n == l && nat_lt k m) (le-ltb n l (omega (arith, h.0))) (and_right (n == l) (nat_lt k m) (le-ltb k m (omega (arith, h.1))))

pub before_trans : (a b c : ℕ × ℕ) → IsPlacedBefore a b → IsPlacedBefore b c → IsPlacedBefore a c
before_trans a b c (inl h) (inl k) = inl (omega (arith, h, k))
before_trans a b c (inl h) (inr k) = inl (omega (arith, h, k.0))
before_trans a b c (inr h) (inl k) = inl (omega (arith, h.0, k))
before_trans a b c (inr h) (inr k) = inr (h.0 ∙ k.0, omega (arith, h.1, k.1))

-- ---- facts of each element

pub all_weaker : {X : Type 0} (P Q : X → Type 0) → ((x : X) → P x → Q x) → (xs : List X) → AllByRecursion P xs → AllByRecursion Q xs
all_weaker P Q f [] h = tt
all_weaker P Q f (x ∷ xs) h = (f x h.0, all_weaker P Q f xs h.1)

pub all_map : {X Y : Type 0} (g : X → Y) (P : X → Type 0) (Q : Y → Type 0) → ((x : X) → P x → Q (g x)) → (xs : List X) → AllByRecursion P xs → AllByRecursion Q (map g xs)
all_map g P Q f [] h = tt
all_map g P Q f (x ∷ xs) h = (f x h.0, all_map g P Q f xs h.1)

-- ---- a number that no table has

pub unused : (number : ℕ) (tables : List PlacedTable) → is_used number tables ≡ false → AllByRecursion (λ x. number ≢ x.table.number) tables
unused number [] e = tt
unused number (t ∷ ts) e =
    let p = or_parts (t.table.number == number) (is_used number ts) e in
    (λ same. eqb-false t.table.number number p.0 (sym same), unused number ts p.1)

pub unused_from : (number : ℕ) (tables : List PlacedTable) → AllByRecursion (λ x. x.table.number ≢ number) tables → is_used number tables ≡ false
unused_from number [] h = refl
unused_from number (t ∷ ts) h = or_from (t.table.number == number) (is_used number ts) (ne_eqb t.table.number number h.0) (unused_from number ts h.1)
