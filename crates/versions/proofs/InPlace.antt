-- Tables by level and number are by level.
use Rattle.std.proofs.Common.{ℕ, ◌≤◌, inl, inr, List, [], ◌∷◌, arith, All, AllPairs, length, get_or, zero, suc, ◌<◌}
use Rattle.std.specs.List.{AllByRecursion}
use Rattle.std.proofs.lemmas.List.Kept.{AllPairs-cons}
use Rattle.edits.specs.Snapshot.{AreInPlace, IsFollowedBy}
use Rattle.edits.specs.declared.field.PlacedTable.{PlacedTable}

level_up : (a b : PlacedTable) → IsFollowedBy a b → a.level ≤ b.level
level_up a b (inl above, other) = omega (arith, above)
level_up a b (inr same, other) = omega (arith, same.0)

all_up : (a : PlacedTable) (tables : List PlacedTable) → AllByRecursion (IsFollowedBy a) tables → All (λ b. a.level ≤ b.level) tables
all_up a [] h k d lt = absurd (omega (arith, lt))
all_up a (b ∷ tables) h zero d lt = level_up a b h.0
all_up a (b ∷ tables) h (suc k) d lt = all_up a tables h.1 k d (omega (arith, lt))

pub levels_rise : (tables : List PlacedTable) → AreInPlace tables → AllPairs (λ a b. a.level ≤ b.level) tables
levels_rise [] h = λ i j d lt le. absurd (omega (arith, le))
levels_rise (a ∷ tables) h = AllPairs-cons (λ a b. a.level ≤ b.level) a tables (all_up a tables h.0) (levels_rise tables h.1)
