-- The numbers of tables, rising.
use Rattle.std.proofs.Common.{◌≡◌, ◌≢◌, ℕ, ◌<◌, ◌≤◌, Bool, true, false, inl, inr, List, [], ◌∷◌, length, get_or, map, take, eqb, nat_cmp, sym, ap, ◌∙◌, subst, arith, AllPairs, Contains}
use Rattle.std.specs.Prelude.{MatchBool}
use Rattle.std.specs.List.Sorted.{IsPermutation, IsSorted}
use Rattle.std.proofs.lemmas.Bool.{eq-eqb, ne_eqb}
use Rattle.std.proofs.lemmas.Bool.Decides.{Decides-eqb, eqb_tells}
use Rattle.std.proofs.lemmas.List.{get_or-map, get_or_default, length-map, take_all}
use Rattle.std.proofs.lemmas.List.Sorted.{Contains-permutation, IsNonDecreasingBy-from_sort, IsPermutation-sym}
use Rattle.std.proofs.lemmas.Map.Keys.{IsDistinct-IsPermutation}
use Rattle.std.proofs.lemmas.Map.Made.{AllPairs-from_IsDistinct, IsDistinct-from_AllPairs}
use Rattle.edits.specs.declared.field.PlacedTable.{PlacedTable}
use Rattle.versions.specs.Levels.{AreNumbers, HasNumber}

abbrev numbers_in : List PlacedTable → List ℕ
numbers_in tables = map (λ placed. placed.table.number) tables

pub are_numbers : (tables : List PlacedTable) (i : ℕ) (read sorted : List ℕ) → length tables ≤ i → read ≡ numbers_in (take i tables) → IsPermutation read sorted → IsSorted nat_cmp sorted → AreNumbers tables sorted
are_numbers tables i read sorted end e same up = record {
  rise = IsNonDecreasingBy-from_sort (λ x. x) sorted up;
  all = subst (λ xs. IsPermutation xs sorted) (e ∙ ap numbers_in (take_all i tables end)) same;
}

-- ---- one of them

some_numbered : (n : ℕ) (tables : List PlacedTable) → Contains (numbers_in tables) n → HasNumber n tables
some_numbered n [] c = absurd (omega (arith, c.1))
some_numbered n (t ∷ ts) c =
    let lt : c.0 < length (t ∷ ts) = omega (arith, c.1, length-map (t ∷ ts) (λ p. p.table.number)) in
    (c.0, get_or (t ∷ ts) c.0 t, lt, get_or_default (t ∷ ts) c.0 (get_or (t ∷ ts) c.0 t) t lt, sym (get_or-map (λ p. p.table.number) (t ∷ ts) c.0 t n lt) ∙ c.2)

number_listed : (n : ℕ) (tables : List PlacedTable) → HasNumber n tables → Contains (numbers_in tables) n
number_listed n tables h =
    (h.0, subst (λ k. h.0 < k) (sym (length-map tables (λ p. p.table.number))) h.2, get_or-map (λ p. p.table.number) tables h.0 h.1 n h.2 ∙ ap (λ p. p.table.number) h.3 ∙ h.4)

pub has_number : (b : Bool) (n : ℕ) (tables : List PlacedTable) (numbers : List ℕ) → AreNumbers tables numbers → MatchBool b (Contains numbers n) (Contains numbers n → ⊥) → MatchBool b (HasNumber n tables) (HasNumber n tables → ⊥)
has_number true n tables numbers h c = some_numbered n tables (Contains-permutation numbers (numbers_in tables) n (IsPermutation-sym (numbers_in tables) numbers h.all) c)
has_number false n tables numbers h c = λ some. c (Contains-permutation (numbers_in tables) numbers n h.all (number_listed n tables some))

-- ---- none twice

flips : (x y : ℕ) → eqb x y ≡ eqb y x
flips x y = elim (eqb_tells x y) [ inl same ↦ same.0 ∙ sym (eq-eqb y x (sym same.1)) | inr other ↦ other.0 ∙ sym (ne_eqb y x (λ e. other.1 (sym e))) ]

apart : (xs ys : List ℕ) → IsPermutation xs ys → AllPairs (λ a b. a ≢ b) xs → AllPairs (λ a b. a ≢ b) ys
apart xs ys same pairs = AllPairs-from_IsDistinct Decides-eqb ys (IsDistinct-IsPermutation eqb flips xs ys same (IsDistinct-from_AllPairs Decides-eqb xs pairs))

tables_apart : (tables : List PlacedTable) → AllPairs (λ a b. a ≢ b) (numbers_in tables) → AllPairs (λ a b. a.table.number ≢ b.table.number) tables
tables_apart tables pairs i j d lt less e =
    let all = length-map tables (λ p. p.table.number) in
    pairs i j 0 lt (omega (arith, less, all))
    (get_or-map (λ p. p.table.number) tables i d 0 (omega (arith, lt, less)) ∙ e ∙ sym (get_or-map (λ p. p.table.number) tables j d 0 less))

numbers_apart : (tables : List PlacedTable) → AllPairs (λ a b. a.table.number ≢ b.table.number) tables → AllPairs (λ a b. a ≢ b) (numbers_in tables)
numbers_apart [] pairs i j d lt less e = absurd (omega (arith, less))
numbers_apart (t ∷ ts) pairs i j d lt less e =
    let within : j < length (t ∷ ts) = omega (arith, less, length-map (t ∷ ts) (λ p. p.table.number)) in
    pairs i j t lt within
    (sym (get_or-map (λ p. p.table.number) (t ∷ ts) i t d (omega (arith, lt, within))) ∙ e ∙ get_or-map (λ p. p.table.number) (t ∷ ts) j t d within)

pub own_numbers : (b : Bool) (tables : List PlacedTable) (numbers : List ℕ) → AreNumbers tables numbers → MatchBool b (AllPairs (λ x y. x ≢ y) numbers) (AllPairs (λ x y. x ≢ y) numbers → ⊥)
    → MatchBool b (AllPairs (λ x y. x.table.number ≢ y.table.number) tables) (AllPairs (λ x y. x.table.number ≢ y.table.number) tables → ⊥)
own_numbers true tables numbers h pairs = tables_apart tables (apart numbers (numbers_in tables) (IsPermutation-sym (numbers_in tables) numbers h.all) pairs)
own_numbers false tables numbers h twice = λ pairs. twice (apart (numbers_in tables) numbers h.all (numbers_apart tables pairs))
