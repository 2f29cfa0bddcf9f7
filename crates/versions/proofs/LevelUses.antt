-- One level more.
use Rattle.std.proofs.Common.{◌≡◌, ℕ, suc, ◌+◌, List, [], ◌∷◌, ◌++◌, subst, arith}
use Rattle.edits.specs.declared.field.PlacedTable.{PlacedTable}
use Rattle.versions.specs.Uses.{AreUses, IsUse}
use Rattle.versions.specs.declared.level_uses.LevelUse.{LevelUse}

pub uses_more : (files bytes : ℕ) (tables : List PlacedTable) (from to : ℕ) (uses : List LevelUse) (found : LevelUse) → AreUses files bytes tables from to uses → IsUse files bytes tables to found
    → AreUses files bytes tables from (to + 1) (uses ++ found ∷ [])
uses_more files bytes tables from to [] found h g =
    let P : ℕ → Type 0 = λ n. IsUse files bytes tables n found in
    let same : to ≡ from = omega (arith, h) in
    (subst P same g, omega (arith, h))
uses_more files bytes tables from to (u ∷ uses) found h g = (h.0, uses_more files bytes tables (suc from) to uses found h.1 g)
