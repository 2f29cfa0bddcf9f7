-- What a level has, and whether a compaction of it is due.
use Rattle.std.specs.Prelude.{◌≡◌, ◌<◌, ◌-◌, ◌^◌, ℕ, suc, min, List, [], ◌∷◌, length, MatchBool, sum_by}
use Rattle.edits.specs.declared.field.PlacedTable.{PlacedTable}
use Rattle.versions.specs.Levels.{tables_at}
use Rattle.versions.specs.Plans.{Needs}
use Rattle.versions.specs.declared.level_uses.LevelUse.{LevelUse}

-- level 6 is never compacted
abbrev pub IsDue : ℕ → ℕ → List PlacedTable → ℕ → Type 0
IsDue level0_files base_bytes tables level = (level < 6) × Needs level0_files base_bytes tables level

-- so many tables of so many bytes, as far as 64 bits tell them
pub record IsUse (level0_files base_bytes : ℕ) (tables : List PlacedTable) (level : ℕ) (found : LevelUse) : Type 0 where
  pub named : found.level ≡ level
  pub files : found.files ≡ length (tables_at level tables)
  pub bytes : found.bytes ≡ min (sum_by (λ placed. placed.table.size) (tables_at level tables)) (2 ^ 64 - 1)
  pub due : MatchBool found.is_due (IsDue level0_files base_bytes tables level) (IsDue level0_files base_bytes tables level → ⊥)

-- so have the levels from one on and below another
abbrev pub AreUses : ℕ → ℕ → List PlacedTable → ℕ → ℕ → List LevelUse → Type 0
AreUses level0_files base_bytes tables from to [] = from ≡ to
AreUses level0_files base_bytes tables from to (found ∷ uses) = IsUse level0_files base_bytes tables from found × AreUses level0_files base_bytes tables (suc from) to uses
