-- Over which of a version's tables cursors are added.
use Rattle.std.proofs.Common.{◌≡◌, ◌+◌, ◌++◌, ◌≤◌, ◌==◌, ℕ, suc, Bool, true, false, cond, List, [], ◌∷◌, length, refl, sym, ap, ◌∙◌, add-one, arith, append_assoc}
use Rattle.std.specs.Prelude.{nat_lt}
use Rattle.std.proofs.lemmas.Bool.Decides.{nat_tests}
use Rattle.std.proofs.lemmas.List.{map-append}
use Rattle.edits.specs.declared.field.PlacedTable.{PlacedTable}
use Rattle.db_cursor.specs.internal.Rows.{Spot, below, deeper_ranges, newest_ranges, range_kept, spots_of, OfRow}
use Rattle.versions.specs.Levels.{tables_at}

pub level_fits : (level : ℕ) (tables : List PlacedTable) → length (tables_at level tables) ≤ length tables
level_fits level [] = omega arith
level_fits level (p ∷ tables) = by (p.level == level) (level_fits level tables)
  where
    by : (b : Bool) → length (tables_at level tables) ≤ length tables → length (cond b (p ∷ tables_at level tables) (tables_at level tables)) ≤ length (p ∷ tables)
    by true h = omega (arith, h)
    by false h = omega (arith, h)

pub range_single : (index : ℕ) → range_kept index (index + 1) ≡ (index, suc index) ∷ []
range_single index =
    let less : nat_lt index (index + 1) ≡ true = grind (arith, nat_tests) in
    ap (λ (b : Bool). cond b ((index, index + 1) ∷ []) []) less ∙ ap (λ (n : ℕ). (index, n) ∷ []) (add-one index)

-- the one of the highest index is added, and the others are left
pub newest_left : (tables : List PlacedTable) (before : List Spot) (index : ℕ)
    → (before ++ spots_of tables (range_kept index (index + 1))) ++ spots_of tables (newest_ranges index) ≡ before ++ spots_of tables (newest_ranges (suc index))
newest_left tables before index =
    append_assoc before (spots_of tables (range_kept index (index + 1))) (spots_of tables (newest_ranges index))
    ∙ ap (λ (rs : List (ℕ × ℕ)). before ++ (spots_of tables rs ++ spots_of tables (newest_ranges index))) (range_single index)

-- ---- levels

below_none : (tables : List PlacedTable) → below 0 tables ≡ 0
below_none [] = refl
below_none (p ∷ tables) = let no_less : nat_lt p.level 0 ≡ false = grind (arith, nat_tests) in ap (λ (b : Bool). cond b (suc (below 0 tables)) (below 0 tables)) no_less ∙ below_none tables

pub below_next : (level : ℕ) (tables : List PlacedTable) → below (suc level) tables ≡ below level tables + length (tables_at level tables)
below_next level [] = refl
below_next level (p ∷ tables) = at (below_next level tables) (nat_lt p.level level) (p.level == level) (nat_lt p.level (suc level)) (grind (arith, nat_tests)) (grind (arith, nat_tests)) (grind (arith, nat_tests))
  where
    at : below (suc level) tables ≡ below level tables + length (tables_at level tables) → (less same within : Bool)
        → (less ≡ true → (within ≡ true) × (same ≡ false)) → (same ≡ true → (within ≡ true) × (less ≡ false)) → (less ≡ false → same ≡ false → within ≡ false)
        → cond within (suc (below (suc level) tables)) (below (suc level) tables) ≡ cond less (suc (below level tables)) (below level tables) + length (cond same (p ∷ tables_at level tables) (tables_at level tables))
    at h true true within f g k = let bad : true ≡ false = (f refl).1 in absurd cc
    at h true false true f g k = omega (arith, h)
    at h true false false f g k = let bad : false ≡ true = (f refl).0 in absurd cc
    at h false true true f g k = omega (arith, h)
    at h false true false f g k = let bad : false ≡ true = (g refl).0 in absurd cc
    at h false false true f g k = let bad : true ≡ false = k refl refl in absurd cc
    at h false false false f g k = h

pub below_first : (tables : List PlacedTable) → below 1 tables ≡ length (tables_at 0 tables)
below_first tables = let next = below_next 0 tables in let none = below_none tables in omega (arith, next, none)

pub below_fits : (level : ℕ) (tables : List PlacedTable) → below level tables ≤ length tables
below_fits level [] = omega arith
below_fits level (p ∷ tables) = at (nat_lt p.level level) (below_fits level tables)
  where
    at : (b : Bool) → below level tables ≤ length tables → cond b (suc (below level tables)) (below level tables) ≤ length (p ∷ tables)
    at true h = omega (arith, h)
    at false h = omega (arith, h)

-- a level's range ends where the next one begins
pub level_within : (level : ℕ) (tables : List PlacedTable) → below level tables + length (tables_at level tables) ≤ length tables
level_within level tables = let next = below_next level tables in let fits = below_fits (suc level) tables in omega (arith, next, fits)

pub level_added : (tables : List PlacedTable) (old : List Spot) (level : ℕ)
    → (old ++ spots_of tables (deeper_ranges tables level)) ++ spots_of tables (range_kept (below (suc level) tables) (below (suc level) tables + length (tables_at (suc level) tables)))
    ≡ old ++ spots_of tables (deeper_ranges tables (suc level))
level_added tables old level =
    let own = range_kept (below (suc level) tables) (below (suc level) tables + length (tables_at (suc level) tables)) in
    append_assoc old (spots_of tables (deeper_ranges tables level)) (spots_of tables own)
    ∙ ap (λ (s : List Spot). old ++ s) (sym (map-append (λ (range : ℕ × ℕ). OfRow tables range.0 range.1 false) (deeper_ranges tables level) own))
