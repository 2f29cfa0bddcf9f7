-- What holds of a step of an iteration over any store.
use Rattle.std.proofs.Common.{◌≡◌, Ok, Err}
use Rattle.coding.specs.declared.error.DbError.{DbError}
use Rattle.coding.specs.declared.error.DbError.TheVariants as error
use Rattle.store.specs.Files.{Facts}
use Rattle.machine.specs.Causes.{ToNext}
use Rattle.engine.specs.OpenDb.{OpenDb}
use Rattle.engine.specs.Outcomes.{DbOutcome, MayRefuseMove}
use Rattle.engine.specs.declared.ranges.KeyRange.{KeyRange}
use Rattle.engine.specs.declared.ranges.Stage.{Stage}
use Rattle.engine.specs.Ranges.{next_motion}
use Rattle.engine.proofs.RangeLeads.{may_refuse_next}

never_ok : {T : Type 0} (x : T) (e : DbError) (P : Type 0) → Ok x ≡ Err e → P
never_ok x e P is = absurd (let never : ⊥ = (cc) in never)

module _ {T K : Type 0} {g : _} (stage : Stage) (keys : KeyRange) (old new : Facts) (before after : OpenDb K g) where
  pub outcome_refused : (e : DbError) → DbOutcome {T = T} (MayRefuseMove (next_motion stage keys)) old new before after (Err e) → DbOutcome {T = T} (MayRefuseMove ToNext) old new before after (Err e)
  outcome_refused e h = record { failures = h.failures; denials = h.denials; io = h.io; memory = h.memory; allowed = may_refuse_next stage keys e h.allowed; refused = h.refused }

  pub outcome_done : (x y : T) → DbOutcome {T = T} (MayRefuseMove (next_motion stage keys)) old new before after (Ok x) → DbOutcome {T = T} (MayRefuseMove ToNext) old new before after (Ok y)
  outcome_done x y h = record { failures = h.failures; denials = h.denials; io = never_ok y error.Io _; memory = never_ok y error.OutOfMemory _; allowed = tt; refused = tt }
