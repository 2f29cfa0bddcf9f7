-- A compaction of all tables that is under way.
use Rattle.std.specs.Prelude.{◌≡◌, ℕ, IsTrue, Contains, MatchOption}
use Rattle.ikey.specs.Orders.{Order}
use Rattle.running_job.specs.declared.open_job.OpenJob.{OpenJob}
use Rattle.table_access.specs.Tables.{Seen}
use Rattle.engine.specs.declared.ids.Ids.{Ids}
use Rattle.engine.specs.OpenDb.{OpenDb}
use Rattle.machine.specs.Machine.{Machine}
use Rattle.engine.specs.internal.Standing.{StandsWhole}
use Rattle.engine.specs.Needed.{HasNeeded, live_sequences}

-- the same of the tables alone, as the end of a job leaves it
abbrev pub EndsNeeded : {K : Type 0} {g : _} → Order → Seen → Seen → OpenDb K g → OpenDb K g → Type 0
EndsNeeded order old new before after = IsTrue new.facts.faithful → (ids : Ids) (m : Machine) → StandsWhole order old ids before m → HasNeeded order new.facts.files (live_sequences after)

-- The job takes all tables of the version into the last level, and keeps what is seen at no other
-- sequence numbers than are read at.
pub record TakesAll {K : Type 0} {g : _} (db : OpenDb K g) (work : OpenJob K g) : Type 0 where
  pub inputs : work.job.plan.inputs.items ≡ db.tables
  pub output : work.job.plan.output_level ≡ 6
  pub version : work.version.value.tables ≡ db.tables
  pub sequences : (sequence : ℕ) → Contains work.job.selection.snapshots sequence → Contains (live_sequences db) sequence

-- such a job is under way
abbrev pub IsTakingAll : {K : Type 0} {g : _} → OpenDb K g → Type 0
IsTakingAll db = MatchOption db.job ⊥ (TakesAll db)
