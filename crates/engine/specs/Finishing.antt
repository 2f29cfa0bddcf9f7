-- Compactions that are brought to their end in one call.
use Rattle.std.specs.Prelude.{◌≡◌, ◌⊎◌, ◌<◌, ◌≤◌, ℕ, true, None, MatchOption, List, [], Result, Err, MatchResult}
use Rattle.coding.specs.declared.error.DbError.{DbError}
use Rattle.coding.specs.declared.error.DbError.TheVariants as error
use Rattle.cursor.specs.Places.{Cmp}
use Rattle.edits.specs.declared.field.PlacedTable.{PlacedTable}
use Rattle.store.specs.Files.{Facts}
use Rattle.directory_writes.specs.Replacing.{ReplacesInputs}
use Rattle.versions.specs.Levels.{tables_at}
use Rattle.versions.specs.Plans.{IsLevelPlan}
use Rattle.versions.specs.declared.plan.JobPlan.{JobPlan}
use Rattle.engine.specs.OpenDb.{OpenDb}
use Rattle.engine.specs.Outcomes.{KeepsViews}

-- ---- over any store

-- What a compaction leaves: the views, and the database as it was, or broken now, and that only if
-- a failure was counted. What it had done before it failed, it keeps.
pub record CompactOutcome {T K : Type 0} {g : _} (may : DbError → Type 0) (old new : Facts) (before after : OpenDb K g) (result : Result T DbError) : Type 0 where
  pub failures : old.failures ≤ new.failures
  pub denials : new.denials ≡ old.denials
  pub locked : new.locked ≡ old.locked
  pub io : result ≡ Err error.Io → old.failures < new.failures
  pub memory : result ≡ Err error.OutOfMemory → new.failures ≡ old.failures
  pub allowed : MatchResult result (λ x. Unit {0}) may
  pub views : KeepsViews before after
  pub broken : (after.broken ≡ before.broken) ⊎ ((after.broken ≡ true) × (old.failures < new.failures))

-- ---- what is left of the tables

-- the level has none
abbrev pub IsLevelEmpty : {K : Type 0} {g : _} → ℕ → OpenDb K g → Type 0
IsLevelEmpty level db = tables_at level db.tables ≡ []

-- The compaction that was under way came to its end, if one was. After it the tables of the level,
-- if it had some, were compacted into the next one, with the tables that they require besides; its
-- other tables stay.
pub record MovesLevel {K : Type 0} {g : _} (cmp : Cmp) (level : ℕ) (before after : OpenDb K g) : Type 0 where
  pub between : List PlacedTable
  pub ended : MatchOption before.job (between ≡ before.tables) (λ work. ReplacesInputs work.job.plan before.tables between)
  pub moved : ((tables_at level between ≡ []) × (after.tables ≡ between)) ⊎ ((plan : JobPlan) × IsLevelPlan cmp between level plan × ReplacesInputs plan between after.tables)
  pub idle : after.job ≡ None

-- No entry is in memory alone, and no memtable is sealed.
pub record HasNoMemory {K : Type 0} {g : _} (db : OpenDb K g) : Type 0 where
  pub current : db.memory.current.inserts ≡ []
  pub sealed : db.memory.sealed ≡ None

-- That holds, and all tables stand in the last level.
pub record IsAllCompacted {K : Type 0} {g : _} (db : OpenDb K g) : Type 0 where
  pub memory : HasNoMemory db
  pub levels : (level : ℕ) → level < 6 → tables_at level db.tables ≡ []
