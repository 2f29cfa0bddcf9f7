-- The tables that are searched for a key.
use Rattle.std.proofs.Common.{◌≡◌, ℕ, ◌+◌, ◌-◌, ◌<◌, ◌≤◌, false, IsTrue, inl, inr, List, length, get_or, sym, ap, ◌∙◌, subst, arith, All, HoldsAt, ◌⊎◌}
use Rattle.std.proofs.lemmas.Bool.{cases_lt, false≢true}
use Rattle.std.specs.declared.cmp.Ordering.{Ordering}
use Rattle.edits.specs.declared.field.PlacedTable.{PlacedTable}
use Rattle.versions.specs.Levels.{tables_at, tables_before, tables_from}
use Rattle.versions.specs.Ranges.{covers, user_of}
use Rattle.versions.specs.Searches.{EndsBelow, IsTableFor, IsSearchedAt, IsSearchedIn, IsSearchedFirst, IsSearchedNext}
use Rattle.versions.proofs.Deeper.{first_level, from_same}

pub none_found : (cmp : List ℕ → List ℕ → Ordering) (key : List ℕ) (own : List PlacedTable) (placed : PlacedTable) → All (EndsBelow cmp key) own → IsTableFor cmp key own placed → ⊥
none_found cmp key own placed all found = found.3 (subst (EndsBelow cmp key) (found.2 placed) (all found.0 placed found.1))

-- the one that is found is the only one
pub one_found : (cmp : List ℕ → List ℕ → Ordering) (key : List ℕ) (own : List PlacedTable) (a b : PlacedTable) → IsTableFor cmp key own a → IsTableFor cmp key own b → a ≡ b
one_found cmp key own a b f h =
    elim (cases_lt f.0 h.0) [
      | inl less ↦ absurd (f.3 (subst (EndsBelow cmp key) (f.2 a) (h.4 f.0 a (omega arith) less)))
      | inr more ↦ elim (cases_lt h.0 f.0) [
        | inl less ↦ absurd (h.3 (subst (EndsBelow cmp key) (h.2 a) (f.4 h.0 a (omega arith) less)))
        | inr upto ↦ let same : f.0 ≡ h.0 = omega (arith, more, upto) in sym (f.2 a) ∙ ap (λ i. get_or own i a) same ∙ h.2 a
      ]
    ]

pub not_searched : (cmp : List ℕ → List ℕ → Ordering) (key user : List ℕ) (own : List PlacedTable) (a b : PlacedTable) → IsTableFor cmp key own a → covers cmp a user ≡ false → IsTableFor cmp key own b → IsTrue (covers cmp b user) → ⊥
not_searched cmp key user own a b f no' h yes' = false≢true (sym no' ∙ ap (λ p. covers cmp p user) (one_found cmp key own a b f h) ∙ yes')

-- ---- the places of level 0

module _ (cmp : List ℕ → List ℕ → Ordering) (key : List ℕ) (tables newest : List PlacedTable) (same : newest ≡ tables_before 1 tables) where
  newest_is : newest ≡ tables_at 0 tables
  newest_is = same ∙ first_level tables

  pub newest_next : (from place : ℕ) (placed : PlacedTable) → from ≤ place → place < length newest → HoldsAt (λ other. other ≡ placed) newest (length newest - 1 - place) → IsTrue (covers cmp placed (user_of key))
      → ((other : ℕ) (passed : PlacedTable) → from ≤ other → other < place → IsSearchedAt cmp key tables other passed → ⊥) → IsSearchedNext cmp key tables from place placed
  newest_next from place placed le lt here covered first =
      record {
        behind = le;
        within = omega (arith, lt, ap length newest_is);
        here = subst (λ ts. (((place < length ts) × HoldsAt (λ other. other ≡ placed) ts (length ts - 1 - place)) ⊎ ((above : ℕ) × (above < 6) × (place ≡ length ts + above) × IsTableFor cmp key (tables_at (above + 1) tables) placed)) × IsTrue (covers cmp placed (user_of key))) newest_is (inl (lt, here), covered);
        first = first;
      }

  pub newest_none : (place : ℕ) → place < length newest → ((placed : PlacedTable) → HoldsAt (λ other. other ≡ placed) newest (length newest - 1 - place) → IsTrue (covers cmp placed (user_of key)) → ⊥)
      → (placed : PlacedTable) → IsSearchedAt cmp key tables place placed → ⊥
  newest_none place lt none placed (inl first, covered) = none placed (subst (λ ts. HoldsAt (λ other. other ≡ placed) ts (length ts - 1 - place)) (sym newest_is) first.1) covered
  newest_none place lt none placed (inr found, covered) = omega (arith, lt, found.2, ap length newest_is)

  -- ---- those of the deeper levels, where nothing is searched at the places of level 0

  module _ (deeper : List PlacedTable) (rest : deeper ≡ tables_from 1 tables) (from end : ℕ) (all : length newest ≤ end) (before : (other : ℕ) (passed : PlacedTable) → from ≤ other → other < end → IsSearchedAt cmp key tables other passed → ⊥) where
    deeper_is : (above : ℕ) → tables_at (above + 1) deeper ≡ tables_at (above + 1) tables
    deeper_is above = ap (tables_at (above + 1)) rest ∙ from_same tables 1 (above + 1) (omega arith)

    passed_deeper : (other : ℕ) (passed : PlacedTable) → from ≤ other → IsSearchedAt cmp key tables other passed → (above : ℕ) × (above < 6) × (other ≡ length newest + above) × IsSearchedIn cmp key deeper (above + 1) passed
    passed_deeper other passed low (inl first, covered) = absurd (before other passed low (omega (arith, first.0, all, ap length newest_is)) (inl first, covered))
    passed_deeper other passed low (inr found, covered) =
        (found.0, found.1, omega (arith, found.2, ap length newest_is), (subst (λ ts. IsTableFor cmp key ts passed) (sym (deeper_is found.0)) found.3, covered))

    pub none_behind : (above : ℕ) → above ≡ from - length newest → 6 ≤ above → (place : ℕ) (placed : PlacedTable) → from ≤ place → IsSearchedAt cmp key tables place placed → ⊥
    none_behind above e le place placed low is = let h = passed_deeper place placed low is in omega (arith, e, le, h.1, h.2, low)

    pub deeper_none : (start : ℕ) → start ≡ from - length newest + 1 → ((level : ℕ) (placed : PlacedTable) → start ≤ level → IsSearchedIn cmp key deeper level placed → ⊥)
        → (place : ℕ) (placed : PlacedTable) → from ≤ place → IsSearchedAt cmp key tables place placed → ⊥
    deeper_none start e none place placed low is = let h = passed_deeper place placed low is in none (h.0 + 1) placed (omega (arith, e, h.2, low)) h.3

    pub deeper_next : (start level : ℕ) (placed : PlacedTable) → start ≡ from - length newest + 1 → IsSearchedFirst cmp key deeper start level placed → IsSearchedNext cmp key tables from (length newest + level - 1) placed
    deeper_next start level placed e found =
        let above : ℕ = level - 1 in
        let one : level ≡ above + 1 = omega (arith, e, found.behind) in
        let here = subst (λ l. IsTableFor cmp key (tables_at l deeper) placed) one found.here.0 in
        record {
          behind = omega (arith, e, found.behind);
          within = omega (arith, e, found.behind, found.within, ap length newest_is);
          here = (inr (above, omega (arith, found.within, one), omega (arith, one, ap length newest_is), subst (λ ts. IsTableFor cmp key ts placed) (deeper_is above) here), found.here.1);
          first = λ other passed low high is. let h = passed_deeper other passed low is in found.first (h.0 + 1) passed (omega (arith, e, h.2, low)) (omega (arith, one, h.2, high)) h.3;
        }

-- ---- from one place to the next

pub none_more : (P : ℕ → PlacedTable → Type 0) (from place : ℕ) → ((other : ℕ) (passed : PlacedTable) → from ≤ other → other < place → P other passed → ⊥) → ((passed : PlacedTable) → P place passed → ⊥)
    → (other : ℕ) (passed : PlacedTable) → from ≤ other → other < place + 1 → P other passed → ⊥
none_more P from place before here other passed low high is =
    elim (cases_lt other place) [
      | inl less ↦ before other passed low less is
      | inr more ↦ let same : other ≡ place = omega (arith, more, high) in here passed (subst (λ n. P n passed) same is)
    ]
