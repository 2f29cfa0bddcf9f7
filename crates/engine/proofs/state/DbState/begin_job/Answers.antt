use Rattle.std.proofs.Common.{◌≡◌, ℕ, Some, Err, Result, List, ◌∷◌, Contains, refl, sym, ap, subst, rules}
use Rattle.coding.specs.declared.error.DbError.{DbError}
use Rattle.coding.specs.declared.error.DbError.TheVariants.{OutOfMemory}
use Rattle.ikey.specs.Orders.{order_of}
use Rattle.db_cursor.proofs.ScanSteps.{scan_kept}
use Rattle.std.specs.Map.{values_of}
use Rattle.versions.specs.Levels.{Placement}
use Rattle.engine.specs.internal.Leading.{LeadsOpen}
use Rattle.engine.specs.OpenDb.{open_db}
use Rattle.db_cursor.specs.Whole.{seen_of}
use Rattle.engine.specs.Outcomes.{DbOutcome}
use Rattle.engine.specs.internal.Pieces.{IsPiece, MayRefusePiece}
use Rattle.engine.proofs.JobEnds.{same_left, stopped_outcome}
use Rattle.engine.proofs.JobStarts.{ends_begun, ends_unbegun}
use Rattle.engine.proofs.NeededEntries.{takes_begun}
use Rattle.engine.proofs.WorkEnds.{ends_full}
use Rattle.engine.proofs.state.DbState.begin_job.Goals as goal

pub returns-in_err-snapshots-clause-step : goal.returns-in_err-snapshots-clause-step
returns-in_err-snapshots-clause-step g c ids =
    let order = order_of g.K.KeyOrder.name g.K.KeyOrder.cmp in
    let source = seen_of g.S.Store.facts c.args.source.now in
    let db = open_db c.args.source.now.memory c.args.self.now in
    let said : c.from_residual.result ≡ Err OutOfMemory = search rules in
    subst (λ (r : Result (Unit {0}) DbError). LeadsOpen order source source ids db db (λ m n. IsPiece m 0 r n)) (sym said) (ends_full order (λ scan. scan_kept order.cmp scan) c.sound_lasts.ensures source ids db 0 c.requires.whole)

pub returns-in_err-job-clause-step : goal.returns-in_err-job-clause-step
returns-in_err-job-clause-step g c ids =
    let order = order_of g.K.KeyOrder.name g.K.KeyOrder.cmp in
    let old = seen_of g.S.Store.facts c.args.source.now in
    let new = seen_of g.S.Store.facts c.begin.new.source in
    let state = c.args.self.now in
    let memory = c.args.source.now.memory in
    let after_memory = c.begin.new.source.memory in
    let e = c.in_err-job.field-0.0 in
    let said : c.from_residual-in_err-job.result ≡ Err e = search rules in
    subst (λ (r : Result (Unit {0}) DbError). LeadsOpen order old new ids (open_db memory state) (open_db after_memory state) (λ m n. IsPiece m 0 r n)) (sym said)
    (ends_unbegun order g.met.K.KeyOrder.total g.met.K.KeyOrder.exact (λ scan. scan_kept order.cmp scan) old new ids state memory after_memory c.args.plan c.requires.whole c.requires.none state.version.value.tables refl c.requires.plan c.in_err-job.ensures.leaves e c.in_err-job.ensures.refused)

pub returns-in_err-job-clause-outcome : goal.returns-in_err-job-clause-outcome
returns-in_err-job-clause-outcome g c =
    let old = g.S.Store.facts c.args.source.now.tables.store in
    let new = g.S.Store.facts c.begin.new.source.tables.store in
    let state = c.args.self.now in
    let e = c.in_err-job.field-0.0 in
    let leaves = c.in_err-job.ensures.leaves in
    let said : c.from_residual-in_err-job.result ≡ Err e = search rules in
    subst (λ (r : Result (Unit {0}) DbError). DbOutcome MayRefusePiece old new (open_db c.args.source.now.memory state) (open_db c.begin.new.source.memory state) r) (sym said)
    (stopped_outcome _ _ _ old new state c.args.source.now.memory c.begin.new.source.memory state.directory.numbers state.job e c.in_err-job.ensures.refused leaves.carries.reads.failures leaves.carries.reads.denials leaves.memory)

pub returns-clause-step : goal.returns-clause-step
returns-clause-step g c ids =
    let order = order_of g.K.KeyOrder.name g.K.KeyOrder.cmp in
    let old = seen_of g.S.Store.facts c.args.source.now in
    let new = seen_of g.S.Store.facts c.begin.new.source in
    let state = c.args.self.now in
    let memory = c.args.source.now.memory in
    let after_memory = c.begin.new.source.memory in
    let work = c.in_ok-job.job in
    let j = c.in_ok-job.ensures in
    let kept : work.job.selection.snapshots ≡ c.in_ok-snapshots.snapshots.items = search rules in
    let last : Contains work.job.selection.snapshots memory.last = subst (λ (s : List ℕ). Contains s memory.last) (sym kept) (subst (λ (n : ℕ). Contains c.in_ok-snapshots.snapshots.items n) c.last.ensures.is c.in_ok-snapshots.ensures.last) in
    ends_begun order g.met.K.KeyOrder.total g.met.K.KeyOrder.exact (λ scan. scan_kept order.cmp scan) old new ids state memory after_memory c.args.plan c.requires.whole c.requires.none state.version.value.tables refl c.requires.plan j.leaves (tt {0}) work j.begins j.may j.plan (ap (λ (p : Placement). p.tables) j.version) j.written last
    (λ id sequence there. subst (λ (s : List ℕ). Contains s sequence) (sym kept) (c.in_ok-snapshots.ensures.live id sequence there))

pub returns-in_err-job-clause-same : goal.returns-in_err-job-clause-same
returns-in_err-job-clause-same g c = same_left c.args.self.now c.args.source.now.memory c.begin.new.source.memory c.args.self.now.job c.in_err-job.ensures.leaves.memory

pub returns-clause-same : goal.returns-clause-same
returns-clause-same g c = same_left c.args.self.now c.args.source.now.memory c.begin.new.source.memory (Some c.in_ok-job.job) c.in_ok-job.ensures.leaves.memory

pub returns-clause-all : goal.returns-clause-all
returns-clause-all g c planned =
    let state = c.args.self.now in
    let work = c.in_ok-job.job in
    let j = c.in_ok-job.ensures in
    let kept : work.job.selection.snapshots ≡ c.in_ok-snapshots.snapshots.items = search rules in
    takes_begun state c.args.source.now.memory c.begin.new.source.memory c.args.plan work c.in_ok-snapshots.snapshots.items j.plan (ap (λ (p : Placement). p.tables) j.version) kept j.leaves.memory.last
    (λ sequence i. subst (λ (last : ℕ). Contains (last ∷ values_of state.snapshots.entries) sequence) c.last.ensures.is (c.in_ok-snapshots.ensures.only sequence i)) planned

pub returns-clause-live : goal.returns-clause-live
returns-clause-live g c =
    let state = c.args.self.now in
    let work = c.in_ok-job.job in
    let kept : work.job.selection.snapshots ≡ c.in_ok-snapshots.snapshots.items = search rules in
    let Live : List ℕ → ℕ → Type 0 = λ sequences sequence. Contains sequences sequence in
    record {
      each = λ sequence i. subst (λ (ss : List ℕ). Live ss sequence) (sym kept) (c.in_ok-snapshots.ensures.each sequence (subst (λ (last : ℕ). Live (last ∷ values_of state.snapshots.entries) sequence) (sym c.last.ensures.is) i));
      only = λ sequence i. subst (λ (last : ℕ). Live (last ∷ values_of state.snapshots.entries) sequence) c.last.ensures.is (c.in_ok-snapshots.ensures.only sequence (subst (λ (ss : List ℕ). Live ss sequence) kept i));
    }

pub returns-in_err-snapshots-clause-files : goal.returns-in_err-snapshots-clause-files
returns-in_err-snapshots-clause-files g c f = refl

pub returns-in_err-job-clause-files : goal.returns-in_err-job-clause-files
returns-in_err-job-clause-files g c f = c.in_err-job.ensures.leaves.carries.reads.files f

pub returns-clause-files : goal.returns-clause-files
returns-clause-files g c f = c.in_ok-job.ensures.leaves.carries.reads.files f

pub returns-in_err-snapshots-clause-calls : goal.returns-in_err-snapshots-clause-calls
returns-in_err-snapshots-clause-calls g c f = refl

pub returns-in_err-job-clause-calls : goal.returns-in_err-job-clause-calls
returns-in_err-job-clause-calls g c f = c.in_err-job.ensures.leaves.carries.reads.calls f

pub returns-clause-calls : goal.returns-clause-calls
returns-clause-calls g c f = c.in_ok-job.ensures.leaves.carries.reads.calls f

pub returns-in_err-snapshots-clause-synced : goal.returns-in_err-snapshots-clause-synced
returns-in_err-snapshots-clause-synced g c f = refl

pub returns-in_err-job-clause-synced : goal.returns-in_err-job-clause-synced
returns-in_err-job-clause-synced g c f = c.in_err-job.ensures.leaves.carries.reads.synced f

pub returns-clause-synced : goal.returns-clause-synced
returns-clause-synced g c f = c.in_ok-job.ensures.leaves.carries.reads.synced f
