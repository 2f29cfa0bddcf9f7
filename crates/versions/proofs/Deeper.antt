-- Tables that are sorted by level, split before one, and what is searched of the deeper ones.
use Rattle.std.proofs.Common.{◌≡◌, ◌≢◌, ◌==◌, ℕ, zero, suc, ◌+◌, ◌<◌, ◌≤◌, Bool, true, false, cond, nat_lt, nat_le, IsTrue, Some, None, List, [], ◌∷◌, length, get_or, filter, inl, inr, refl, sym, ap, ◌∙◌, subst, arith, All, AllPairs}
use Rattle.std.proofs.lemmas.Bool.{cases_eq, cond_both, eq-eqb, eqb-true, ne_eqb, false≢true, lt-ltb, le-ltb, ltb-true, le-leb, lt-leb, leb-true}
use Rattle.std.proofs.lemmas.List.Elements.{All-filter, filter_agree, filter_passes}
use Rattle.std.proofs.lemmas.List.Kept.{AllPairs-filter}
use Rattle.std.proofs.lemmas.List.Sums.{length-filter, count_by-le-length}
use Rattle.std.proofs.lemmas.Option.{none-some, same_Some, get_or_from_slice_get, slice_get_within}
use Rattle.std.specs.List.{slice_get}
use Rattle.std.specs.declared.cmp.Ordering.{Ordering}
use Rattle.std.specs.Cmp.{IsTotalOrder}
use Rattle.ikey.specs.Below.{IsBelowInternal}
use Rattle.edits.specs.declared.field.PlacedTable.{PlacedTable}
use Rattle.versions.specs.Levels.{tables_at, tables_before, tables_from, IsRange, StandsBefore, AreInOrder}
use Rattle.versions.specs.Ranges.{covers, user_of}
use Rattle.versions.specs.Searches.{IsTableFor, IsSearchedIn, IsSearchedFirst}
use Rattle.versions.proofs.Slices.{filter_all}
use Rattle.versions.proofs.InLevels.{levels_rise, largest_rise, level_ranges, level_apart}

-- of the elements that pass a test those that pass a narrower one
filter_narrower : {X : Type 0} (p q : X → Bool) → ((x : X) → q x ≡ true → p x ≡ true) → (xs : List X) → filter q (filter p xs) ≡ filter q xs
filter_narrower p q h [] = refl
filter_narrower p q h (x ∷ xs) =
    cond_both (p x) (x ∷ filter p xs) (filter p xs) (λ ys. filter q ys ≡ filter q (x ∷ xs))
    (λ _. ap (λ ys. cond (q x) (x ∷ ys) ys) (filter_narrower p q h xs))
    (λ out. filter_narrower p q h xs ∙ cond_both (q x) (x ∷ filter q xs) (filter q xs) (λ ys. filter q xs ≡ ys) (λ e. absurd (false≢true (sym out ∙ h x e))) (λ _. refl))

-- ---- the parts

pub from_same : (tables : List PlacedTable) (low level : ℕ) → low ≤ level → tables_at level (tables_from low tables) ≡ tables_at level tables
from_same tables low level le = filter_narrower (λ p. nat_le low p.level) (λ p. p.level == level) (λ p e. le-leb low p.level (omega (arith, le, eqb-true p.level level e))) tables

before_same : (tables : List PlacedTable) (high level : ℕ) → level < high → tables_at level (tables_before high tables) ≡ tables_at level tables
before_same tables high level lt = filter_narrower (λ p. nat_lt p.level high) (λ p. p.level == level) (λ p e. lt-ltb p.level high (omega (arith, lt, eqb-true p.level level e))) tables

from_levels : (tables : List PlacedTable) (low : ℕ) → All (λ p. low ≤ p.level) (tables_from low tables)
from_levels tables low k d lt = leb-true low (get_or (tables_from low tables) k d).level (filter_passes (λ p. nat_le low p.level) tables k d lt)

below_one : (n : ℕ) → nat_lt n 1 ≡ (n == 0)
below_one zero = refl
below_one (suc n) = le-ltb (suc n) 1 (omega arith) ∙ sym (ne_eqb (suc n) 0 (λ e. omega (arith, e)))

pub first_level : (tables : List PlacedTable) → tables_before 1 tables ≡ tables_at 0 tables
first_level tables = filter_agree (λ p. nat_lt p.level 1) (λ p. p.level == 0) (λ p. below_one p.level) tables

pub from_in_order : (cmp : List ℕ → List ℕ → Ordering) (tables : List PlacedTable) (low : ℕ) → AreInOrder cmp tables → AreInOrder cmp (tables_from low tables)
from_in_order cmp tables low o =
    let kept : PlacedTable → Bool = λ p. nat_le low p.level in
    record {
      levels = All-filter kept (λ p. p.level < 7) tables o.levels;
      ranges = All-filter kept (IsRange cmp) tables o.ranges;
      numbers = AllPairs-filter (λ a b. a.table.number ≢ b.table.number) kept tables o.numbers;
      places = AllPairs-filter (StandsBefore cmp) kept tables o.places;
    }

-- ---- the first of the tables

first_lowest : (tables : List PlacedTable) (first : PlacedTable) → Some first ≡ slice_get tables 0 → AllPairs (λ a b. a.level ≤ b.level) tables → All (λ p. first.level ≤ p.level) tables
first_lowest tables first e rise zero d lt = omega (arith, ap (λ p. p.level) (get_or_from_slice_get tables 0 first d (sym e)))
first_lowest tables first e rise (suc k) d lt = omega (arith, rise 0 (suc k) d (omega arith) lt, ap (λ p. p.level) (get_or_from_slice_get tables 0 first d (sym e)))

first_has : (P : PlacedTable → Type 0) (tables : List PlacedTable) (first : PlacedTable) → Some first ≡ slice_get tables 0 → All P tables → P first
first_has P tables first e all = subst P (get_or_from_slice_get tables 0 first first (sym e)) (all 0 first (slice_get_within tables 0 first (sym e)))

pub none_first : (tables : List PlacedTable) → None ≡ slice_get tables 0 → tables ≡ []
none_first [] e = refl
none_first (x ∷ xs) e = absurd (none-some x e)

pub behind_shorter : (tables : List PlacedTable) (first : PlacedTable) → Some first ≡ slice_get tables 0 → length (tables_from (first.level + 1) tables) < length tables
behind_shorter [] first e = absurd (none-some first (sym e))
behind_shorter (x ∷ xs) first e =
    let kept : PlacedTable → Bool = λ p. nat_le (first.level + 1) p.level in
    let out : kept x ≡ false = lt-leb (first.level + 1) x.level (omega (arith, ap (λ p. p.level) (same_Some first x e))) in
    subst (λ b. length (cond b (x ∷ filter kept xs) (filter kept xs)) < length (x ∷ xs)) (sym out) (omega (arith, length-filter kept xs, count_by-le-length kept xs))

-- the tables of the level with which they begin
own_is : (tables : List PlacedTable) (level : ℕ) → All (λ p. level ≤ p.level) tables → tables_before (level + 1) tables ≡ tables_at level tables
own_is tables level up =
    let own = tables_before (level + 1) tables in
    sym (filter_all (λ p. p.level == level) own (λ k d lt.
    eq-eqb (get_or own k d).level level (omega (arith, ltb-true (get_or own k d).level (level + 1) (filter_passes (λ p. nat_lt p.level (level + 1)) tables k d lt), All-filter (λ p. nat_lt p.level (level + 1)) (λ p. level ≤ p.level) tables up k d lt))))
    ∙ before_same tables (level + 1) level (omega arith)

-- ---- what is searched of them

module _ (cmp : List ℕ → List ℕ → Ordering) (key : List ℕ) where
  found_behind : (tables : List PlacedTable) (low level : ℕ) (placed : PlacedTable) → All (λ p. low ≤ p.level) tables → IsTableFor cmp key (tables_at level tables) placed → low ≤ level
  found_behind tables low level placed up found =
      let own = tables_at level tables in
      let is = eqb-true (get_or own found.0 placed).level level (filter_passes (λ p. p.level == level) tables found.0 placed found.1) in
      omega (arith, is, All-filter (λ p. p.level == level) (λ p. low ≤ p.level) tables up found.0 placed found.1)

  -- What is searched of the tables from the level on is what is searched of the rest.
  pub record IsRest (tables : List PlacedTable) (from : ℕ) (rest : List PlacedTable) : Type 0 where
    pub order : AreInOrder cmp rest
    pub levels : All (λ p. from ≤ p.level) rest
    pub back : (level : ℕ) (placed : PlacedTable) → IsSearchedIn cmp key rest level placed → IsSearchedIn cmp key tables level placed
    pub all : (level : ℕ) (placed : PlacedTable) → from ≤ level → IsSearchedIn cmp key tables level placed → IsSearchedIn cmp key rest level placed

  pub rest_begins : (tables : List PlacedTable) (from : ℕ) → AreInOrder cmp tables → IsRest tables from (tables_from from tables)
  rest_begins tables from o =
      record {
        order = from_in_order cmp tables from o;
        levels = from_levels tables from;
        back = λ level placed h. (subst (λ ts. IsTableFor cmp key ts placed) (from_same tables from level (found_behind (tables_from from tables) from level placed (from_levels tables from) h.0)) h.0, h.1);
        all = λ level placed le h. (subst (λ ts. IsTableFor cmp key ts placed) (sym (from_same tables from level le)) h.0, h.1);
      }

  module _ (tables rest : List PlacedTable) (from : ℕ) (first : PlacedTable) (e : Some first ≡ slice_get rest 0) (is : IsRest tables from rest) where
    up : All (λ p. first.level ≤ p.level) rest
    up = first_lowest rest first e (levels_rise cmp rest is.order.places)

    behind : from ≤ first.level
    behind = first_has (λ p. from ≤ p.level) rest first e is.levels

    pub rest_level : first.level < 7
    rest_level = first_has (λ p. p.level < 7) rest first e is.order.levels

    -- the tables of the level with which they begin lie each below the next
    pub own_rise : IsTotalOrder cmp → 0 < from → AllPairs (λ a b. IsBelowInternal cmp a.table.largest b.table.largest) (tables_before (first.level + 1) rest)
    own_rise o low =
        subst (λ ts. AllPairs (λ a b. IsBelowInternal cmp a.table.largest b.table.largest) ts) (sym (own_is rest first.level up))
        (largest_rise cmp o (tables_at first.level rest) (level_ranges cmp first.level rest is.order.ranges) (level_apart cmp first.level rest (omega (arith, low, behind)) is.order.places))

    pub rest_found : (placed : PlacedTable) → IsTableFor cmp key (tables_before (first.level + 1) rest) placed → IsTrue (covers cmp placed (user_of key)) → IsSearchedFirst cmp key tables from first.level placed
    rest_found placed found covered =
        record {
          behind = behind;
          within = rest_level;
          here = is.back first.level placed (subst (λ ts. IsTableFor cmp key ts placed) (own_is rest first.level up) found, covered);
          first = λ other passed low high h. absurd (omega (arith, high, found_behind rest first.level other passed up (is.all other passed low h).0));
        }

    pub rest_goes_on : ((placed : PlacedTable) → IsTableFor cmp key (tables_before (first.level + 1) rest) placed → IsTrue (covers cmp placed (user_of key)) → ⊥) → IsRest tables from (tables_from (first.level + 1) rest)
    rest_goes_on none =
        let next : ℕ = first.level + 1 in
        record {
          order = from_in_order cmp rest next is.order;
          levels = All-filter (λ p. nat_le next p.level) (λ p. from ≤ p.level) rest is.levels;
          back = λ level placed h. is.back level placed (subst (λ ts. IsTableFor cmp key ts placed) (from_same rest next level (found_behind (tables_from next rest) next level placed (from_levels rest next) h.0)) h.0, h.1);
          all = λ level placed low h. let old = is.all level placed low h in
              elim (cases_eq level first.level) [
                | inl same ↦ absurd (none placed (subst (λ ts. IsTableFor cmp key ts placed) (sym (own_is rest first.level up)) (subst (λ l. IsTableFor cmp key (tables_at l rest) placed) same old.0)) old.1)
                | inr ne ↦ (subst (λ ts. IsTableFor cmp key ts placed) (sym (from_same rest next level (omega (arith, ne, found_behind rest first.level level placed up old.0)))) old.0, old.1)
              ];
        }

  pub rest_ends : (tables rest : List PlacedTable) (from : ℕ) → IsRest tables from rest → rest ≡ [] → (level : ℕ) (placed : PlacedTable) → from ≤ level → IsSearchedIn cmp key tables level placed → ⊥
  rest_ends tables rest from is none level placed le h =
      let found = subst (λ ts. IsTableFor cmp key (tables_at level ts) placed) none (is.all level placed le h).0 in
      omega (arith, found.1)
