use Rattle.std.proofs.Common.{◌≡◌, ◌≤◌, ◌+◌, ◌∷◌, ℕ, Bool, true, false, List, Option, Some, None, Ok, Err, IsTrue, MatchOption, max, min, refl, sym, ap, subst, ◌∙◌, arith, rules, string_bytes}
use Rattle.coding.specs.declared.error.DbError.{DbError}
use Rattle.ikey.specs.Orders.{order_of}
use Rattle.running_job.specs.declared.open_job.OpenJob.{OpenJob}
use Rattle.running_job.specs.internal.Ending.{EndLeavesOver, EndMayLeave, EndMayPutOwn, EndPutsOwn}
use Rattle.directory_writes.specs.Differing.{OfEach}
use Rattle.db_cursor.proofs.ScanSteps.{scan_kept}
use Rattle.std.specs.Map.{values_of}
use Rattle.edits.specs.declared.field.PlacedTable.{PlacedTable}
use Rattle.compact.specs.Outputs.{IsNumberAtHand, IsTableName}
use Rattle.directory_writes.specs.declared.install.Installed.{Installed}
use Rattle.directory_writes.specs.internal.Flush.{SparesManifest}
use Rattle.directory_writes.specs.internal.Install.{AreOutputsKept}
use Rattle.directory_writes.specs.internal.Putting.{WritesThenPuts}
use Rattle.directory_writes.specs.Replacing.{ReplacesInputs}
use Rattle.versions.specs.Levels.{Placement}
use Rattle.versions.specs.declared.plan.JobPlan.{JobPlan}
use Rattle.engine.specs.declared.state.DbState.{DbState}
use Rattle.engine.specs.internal.JobsToEnd.{HasCome, ServesOn}
use Rattle.engine.specs.internal.Leading.{LeadsOpen}
use Rattle.engine.specs.OpenDb.{open_db}
use Rattle.db_cursor.specs.Whole.{seen_of, whole_in}
use Rattle.engine.specs.internal.TakingAll.{EndsNeeded}
use Rattle.engine.specs.Outcomes.{DbOutcome}
use Rattle.engine.specs.Stands.{no_ids}
use Rattle.engine.specs.WithinBudget.{HasLeftBy}
use Rattle.engine.specs.Working.{IsFurther}
use Rattle.engine.specs.internal.Pieces.{IsPiece, MayRefusePiece, flush_answer, settled_as, settled_by}
use Rattle.engine.specs.WrittenTables.{PutsMerged}
use Rattle.engine.proofs.JobEnds.{ends_counted, ends_gone_on, ends_installed, ends_merged, ends_needed, ends_stopped, ends_unended, steps_beside, stopped_outcome, unended_outcome, end_keeps, step_keeps}
use Rattle.engine.proofs.NeededEntries.{takes_on, taking}
use Rattle.engine.proofs.WithinBudget.{few_left, more_left, not_some}
use Rattle.std.specs.Bool.{nat_eq}
use Rattle.engine.proofs.Breaking.{settles, rose_all, outcome_settles, unwritten, as_unwritten, settles_broken, shows, end_io, some_behind, some_as, outcome_settles_broken, breaks_settled, unbroken, IsIo}
use Rattle.engine.specs.Breaking.{BreaksExactly}
use Rattle.store.specs.Losses.{CarriesBut}
use Rattle.store.specs.Stops.{LeavesOnly}
use Rattle.engine.proofs.state.DbState.step_job.Goals as goal

pub returns-in-Err-clause-step : goal.returns-in-Err-clause-step
returns-in-Err-clause-step g c ids =
    let order = order_of g.K.KeyOrder.name g.K.KeyOrder.cmp in
    let old = seen_of g.S.Store.facts c.args.source.now in
    let new = seen_of g.S.Store.facts c.step-stepped.new.source in
    let state = c.args.self.now in
    let s = c.in-Err.ensures in
    let is : state.job ≡ Some c.in-Some.running = search rules in
    let given : DbState g.row.K.Denot g.K.KeyOrder = record state { directory = record state.directory { numbers = c.step-stepped.new.numbers }; job = None } in
    let failed = c.write_failures-failed.result in
    let b = nat_eq new.facts.write_failures failed in
    let After : DbState g.row.K.Denot g.K.KeyOrder → DbError → Type 0 = λ t r. LeadsOpen order old new ids (open_db c.args.source.now.memory state) (open_db c.step-stepped.new.source.memory t) (λ m n. IsPiece {T = Bool} m (max c.args.budget 1) (Err r) n) in
    subst (After c.refuse_since.new.self) (sym c.refuse_since.ensures.answer)
    (subst (λ (t : DbState g.row.K.Denot g.K.KeyOrder). After t (settled_as b c.in-Err.error)) (sym c.refuse_since.ensures.state)
    (settles order old new ids (open_db c.args.source.now.memory state) c.step-stepped.new.source.memory given (max c.args.budget 1) c.in-Err.error b
    (rose_all old.facts new.facts failed c.write_failures-failed.ensures s.touches.writes.writes)
    (ends_stopped order g.met.K.KeyOrder.total (λ scan. scan_kept order.cmp scan) c.one_directory.ensures c.sound_lasts.ensures old new ids state c.args.source.now.memory c.step-stepped.new.source.memory c.step-stepped.new.numbers (max c.args.budget 1) c.in-Some.running c.step-stepped.new.self is c.requires.whole
    s.numbers s.drawn s.touches s.sound c.in-Err.error s.refused)))

pub returns-in-Err-clause-outcome : goal.returns-in-Err-clause-outcome
returns-in-Err-clause-outcome g c =
    let old = g.S.Store.facts c.args.source.now.tables.store in
    let new = g.S.Store.facts c.step-stepped.new.source.tables.store in
    let s = c.in-Err.ensures in
    let state = c.args.self.now in
    let given : DbState g.row.K.Denot g.K.KeyOrder = record state { directory = record state.directory { numbers = c.step-stepped.new.numbers }; job = None } in
    let failed = c.write_failures-failed.result in
    let b = nat_eq new.write_failures failed in
    let After : DbState g.row.K.Denot g.K.KeyOrder → DbError → Type 0 = λ t r. DbOutcome {T = Bool} MayRefusePiece old new (open_db c.args.source.now.memory state) (open_db c.step-stepped.new.source.memory t) (Err r) in
    subst (After c.refuse_since.new.self) (sym c.refuse_since.ensures.answer)
    (subst (λ (t : DbState g.row.K.Denot g.K.KeyOrder). After t (settled_as b c.in-Err.error)) (sym c.refuse_since.ensures.state)
    (outcome_settles old new (open_db c.args.source.now.memory state) c.step-stepped.new.source.memory given c.in-Err.error b
    (rose_all old new failed c.write_failures-failed.ensures s.touches.writes.writes)
    (stopped_outcome _ _ _ old new state c.args.source.now.memory c.step-stepped.new.source.memory c.step-stepped.new.numbers None c.in-Err.error s.refused s.touches.writes.failures s.touches.writes.denials s.touches.memory)))

pub returns-then-not-progress-clause-step : goal.returns-then-not-progress-clause-step
returns-then-not-progress-clause-step g c ids =
    let order = order_of g.K.KeyOrder.name g.K.KeyOrder.cmp in
    let old = seen_of g.S.Store.facts c.args.source.now in
    let new = seen_of g.S.Store.facts c.step-stepped.new.source in
    let state = c.args.self.now in
    let s = c.in-Ok.ensures in
    let is : state.job ≡ Some c.in-Some.running = search rules in
    ends_gone_on order g.met.K.KeyOrder.total (λ scan. scan_kept order.cmp scan) c.one_directory.ensures c.sound_lasts.ensures old new ids state c.args.source.now.memory c.step-stepped.new.source.memory c.step-stepped.new.numbers (max c.args.budget 1) c.in-Some.running c.step-stepped.new.self is c.requires.whole
    s.numbers s.drawn s.touches s.sound c.args.budget c.in-Ok.progress s.goes_on s.may s.plan s.version s.snapshots s.owns _

pub returns-then-not-progress-clause-on : goal.returns-then-not-progress-clause-on
returns-then-not-progress-clause-on g c =
    let is : c.args.self.now.job ≡ Some c.in-Some.running = search rules in
    let going : c.in-Ok.progress.ended ≡ false = search rules in
    let s = c.in-Ok.ensures in
    let exactly = s.going_on going in
    record { work = c.in-Some.running; was = is; on = ((s.plan, omega (arith, s.merged, exactly), s.snapshots, s.version), refl) }

pub returns-then-not-progress-clause-serves : goal.returns-then-not-progress-clause-serves
returns-then-not-progress-clause-serves g c =
    let s = c.in-Ok.ensures in
    record {
      stood = s.stood;
      unwritten = unwritten (g.S.Store.facts c.args.source.now.tables.store) (g.S.Store.facts c.step-stepped.new.source.tables.store) s.touches.writes.writes s.stood;
      undenied = s.touches.writes.denials;
      locked = s.touches.writes.locked;
      whole = c.requires.whole;
      views = record { sequence = s.touches.memory.last; snapshots = λ q. refl; iterators = λ q. refl };
    }

pub returns-then-not-progress-clause-all : goal.returns-then-not-progress-clause-all
returns-then-not-progress-clause-all g c said takes =
    let state = c.args.self.now in
    let s = c.in-Ok.ensures in
    let is : state.job ≡ Some c.in-Some.running = search rules in
    let after : DbState g.row.K.Denot g.K.KeyOrder = record state { directory = record state.directory { numbers = c.step-stepped.new.numbers }; job = Some c.step-stepped.new.self } in
    takes_on (open_db c.args.source.now.memory state) (open_db c.step-stepped.new.source.memory after) c.in-Some.running c.step-stepped.new.self s.plan s.version s.snapshots refl (ap (λ (n : ℕ). n ∷ values_of state.snapshots.entries) s.touches.memory.last)
    (taking (open_db c.args.source.now.memory state) c.in-Some.running is takes)

pub returns-then-not-progress-clause-few : goal.returns-then-not-progress-clause-few
returns-then-not-progress-clause-few g c f =
    let order = order_of g.K.KeyOrder.name g.K.KeyOrder.cmp in
    let old = seen_of g.S.Store.facts c.args.source.now in
    let progress = c.in-Ok.progress in
    let is : c.args.self.now.job ≡ Some c.in-Some.running = search rules in
    let going : progress.ended ≡ false = search rules in
    more_left order old (whole_in g.S.Store.facts c.step-stepped.new.source) (open_db c.args.source.now.memory c.args.self.now) c.in-Some.running c.step-stepped.new.self c.step-stepped.new.numbers.next c.args.budget progress is going c.in-Ok.ensures.goes_on f

pub returns-then-not-progress-clause-beside : goal.returns-then-not-progress-clause-beside
returns-then-not-progress-clause-beside g c said f =
    let order = order_of g.K.KeyOrder.name g.K.KeyOrder.cmp in
    let old = seen_of g.S.Store.facts c.args.source.now in
    let new = seen_of g.S.Store.facts c.step-stepped.new.source in
    let state = c.args.self.now in
    let s = c.in-Ok.ensures in
    let is : state.job ≡ Some c.in-Some.running = search rules in
    steps_beside order g.met.K.KeyOrder.total (λ scan. scan_kept order.cmp scan) c.one_directory.ensures c.sound_lasts.ensures old new no_ids state c.args.source.now.memory c.step-stepped.new.source.memory c.step-stepped.new.numbers (max c.args.budget 1) c.in-Some.running c.step-stepped.new.self is c.requires.whole
    s.numbers s.drawn s.touches s.sound f

pub returns-in-Ok-install-clause-step : goal.returns-in-Ok-install-clause-step
returns-in-Ok-install-clause-step g c ids =
    let order = order_of g.K.KeyOrder.name g.K.KeyOrder.cmp in
    let old = seen_of g.S.Store.facts c.args.source.now in
    let new = seen_of g.S.Store.facts c.step-stepped.new.source in
    let facts = g.S.Store.facts c.install.new.store in
    let state = c.args.self.now in
    let memory = c.args.source.now.memory in
    let after_memory = c.step-stepped.new.source.memory in
    let numbers = c.step-stepped.new.numbers in
    let most = max c.args.budget 1 in
    let s = c.in-Ok.ensures in
    let taken_out : c.in-Some-take.job ≡ c.step-stepped.new.self = search rules in
    let i = rw taken_out at c.in-Ok-install.ensures in
    let installed = c.in-Ok-install.installed in
    let is : state.job ≡ Some c.in-Some.running = search rules in
    let none : c.take.new.self ≡ None = search rules in
    let ended : c.in-Ok.progress.ended ≡ true = search rules in
    let after : Option (OpenJob g.row.K.Denot g.K.KeyOrder) → DbState g.row.K.Denot g.K.KeyOrder =
    λ o. record state { version = installed.version; directory = record state.directory { numbers = numbers; manifest = record state.directory.manifest { end = installed.manifest_end } }; job = o } in
    let taken : c.take_installed.new.self ≡ after c.take.new.self = c.take_installed.ensures in
    subst (λ (t : DbState g.row.K.Denot g.K.KeyOrder). LeadsOpen order old (record new { facts = facts }) ids (open_db memory state) (open_db after_memory t) (λ m n. IsPiece m most (Ok true) n)) (sym (taken ∙ ap after none))
    (ends_installed order g.met.K.KeyOrder.total (λ scan. scan_kept order.cmp scan) c.one_directory.ensures c.sound_lasts.ensures old new ids state memory after_memory numbers most c.in-Some.running c.step-stepped.new.self is c.requires.whole
    s.numbers s.drawn s.touches s.sound c.args.budget c.in-Ok.progress s.goes_on s.may s.plan s.version s.snapshots s.owns facts ended c.last-last_sequence.result c.last-last_sequence.ensures.is c.deref.result.now.tables (ap (λ (p : Placement). p.tables) c.deref.ensures) (Ok installed)
    i.call i.leaves_each true installed refl i.version.in_order i.synced i.keeps i.version.tables i.carries i.ends)

pub returns-in-Ok-install-clause-on : goal.returns-in-Ok-install-clause-on
returns-in-Ok-install-clause-on g c =
    let state = c.args.self.now in
    let s = c.in-Ok.ensures in
    let installed = c.in-Ok-install.installed in
    let work = c.in-Some.running in
    let is : state.job ≡ Some work = search rules in
    let none : c.take.new.self ≡ None = search rules in
    let tables_are : c.deref.result.now.tables ≡ state.version.value.tables = ap (λ (p : Placement). p.tables) c.deref.ensures in
    let new = installed.version.value.tables in
    let taken_out : c.in-Some-take.job ≡ c.step-stepped.new.self = search rules in
    let done : ReplacesInputs work.job.plan state.version.value.tables new =
    subst (λ (plan : JobPlan). ReplacesInputs plan state.version.value.tables new) s.plan (subst (λ (ts : List PlacedTable). ReplacesInputs c.step-stepped.new.self.job.plan ts new) tables_are (rw taken_out at c.in-Ok-install.ensures.version.replaces)) in
    let after : Option (OpenJob g.row.K.Denot g.K.KeyOrder) → DbState g.row.K.Denot g.K.KeyOrder =
    λ o. record state { version = installed.version; directory = record state.directory { numbers = c.step-stepped.new.numbers; manifest = record state.directory.manifest { end = installed.manifest_end } }; job = o } in
    let taken : c.take_installed.new.self ≡ after c.take.new.self = c.take_installed.ensures in
    let On : DbState g.row.K.Denot g.K.KeyOrder → Type 0 = λ t. MatchOption t.job (ReplacesInputs work.job.plan state.version.value.tables t.version.value.tables) (λ more. IsFurther work (max c.args.budget 1) more × (t.version.value.tables ≡ state.version.value.tables)) in
    record { work = work; was = is; on = subst On (sym (taken ∙ ap after none)) done }

pub returns-in-Ok-install-clause-serves : goal.returns-in-Ok-install-clause-serves
returns-in-Ok-install-clause-serves g c =
    let state = c.args.self.now in
    let s = c.in-Ok.ensures in
    let taken_out : c.in-Some-take.job ≡ c.step-stepped.new.self = search rules in
    let i = rw taken_out at c.in-Ok-install.ensures in
    let installed = c.in-Ok-install.installed in
    let after : DbState g.row.K.Denot g.K.KeyOrder =
    record state { version = installed.version; directory = record state.directory { numbers = c.step-stepped.new.numbers; manifest = record state.directory.manifest { end = installed.manifest_end } }; job = c.take.new.self } in
    let taken : c.take_installed.new.self ≡ after = c.take_installed.ensures in
    subst (λ (t : DbState g.row.K.Denot g.K.KeyOrder). ServesOn (g.S.Store.facts c.args.source.now.tables.store) (g.S.Store.facts c.install.new.store) (open_db c.args.source.now.memory state) (open_db c.step-stepped.new.source.memory t)) (sym taken)
    (record {
      stood = i.stood ∙ s.stood;
      unwritten = as_unwritten (g.S.Store.facts c.step-stepped.new.source.tables.store) (g.S.Store.facts c.install.new.store) i.fails i.stood
          ∙ unwritten (g.S.Store.facts c.args.source.now.tables.store) (g.S.Store.facts c.step-stepped.new.source.tables.store) s.touches.writes.writes s.stood;
      undenied = i.call.denials ∙ s.touches.writes.denials;
      locked = i.call.locked ∙ s.touches.writes.locked;
      whole = c.requires.whole;
      views = record { sequence = s.touches.memory.last; snapshots = λ q. refl; iterators = λ q. refl };
    })

pub returns-in-Ok-install-clause-come : goal.returns-in-Ok-install-clause-come
returns-in-Ok-install-clause-come g c said ids =
    let order = order_of g.K.KeyOrder.name g.K.KeyOrder.cmp in
    let old = seen_of g.S.Store.facts c.args.source.now in
    let new = seen_of g.S.Store.facts c.step-stepped.new.source in
    let facts = g.S.Store.facts c.install.new.store in
    let state = c.args.self.now in
    let memory = c.args.source.now.memory in
    let after_memory = c.step-stepped.new.source.memory in
    let numbers = c.step-stepped.new.numbers in
    let progress = c.in-Ok.progress in
    let most = min progress.merged (max c.args.budget 1) in
    let s = c.in-Ok.ensures in
    let upto : numbers.next ≤ state.directory.numbers.next + most = omega (arith, s.drawn, s.drawn_merged) in
    let no_more : most ≤ max c.args.budget 1 = omega arith in
    let no_fewer : most ≤ progress.merged = omega arith in
    let taken_out : c.in-Some-take.job ≡ c.step-stepped.new.self = search rules in
    let i = rw taken_out at c.in-Ok-install.ensures in
    let installed = c.in-Ok-install.installed in
    let is : state.job ≡ Some c.in-Some.running = search rules in
    let none : c.take.new.self ≡ None = search rules in
    let ended : progress.ended ≡ true = search rules in
    let after : Option (OpenJob g.row.K.Denot g.K.KeyOrder) → DbState g.row.K.Denot g.K.KeyOrder =
    λ o. record state { version = installed.version; directory = record state.directory { numbers = numbers; manifest = record state.directory.manifest { end = installed.manifest_end } }; job = o } in
    let taken : c.take_installed.new.self ≡ after c.take.new.self = c.take_installed.ensures in
    subst (λ (t : DbState g.row.K.Denot g.K.KeyOrder). LeadsOpen order old (record new { facts = facts }) ids (open_db memory state) (open_db after_memory t) (λ m n. HasCome c.args.budget (open_db memory state) m (Ok true) n)) (sym (taken ∙ ap after none))
    (ends_counted order g.met.K.KeyOrder.total (λ scan. scan_kept order.cmp scan) c.one_directory.ensures c.sound_lasts.ensures old new ids state memory after_memory numbers most c.in-Some.running c.step-stepped.new.self is c.requires.whole
    s.numbers upto s.touches s.sound c.args.budget progress s.goes_on s.may s.plan s.version s.snapshots s.owns facts ended c.last-last_sequence.result c.last-last_sequence.ensures.is c.deref.result.now.tables (ap (λ (p : Placement). p.tables) c.deref.ensures) (Ok installed)
    i.call i.leaves_each no_more s.merged no_fewer true installed refl i.version.in_order i.synced i.keeps i.version.tables i.carries i.ends)

pub returns-in-Ok-install-clause-needed : goal.returns-in-Ok-install-clause-needed
returns-in-Ok-install-clause-needed g c said takes =
    let order = order_of g.K.KeyOrder.name g.K.KeyOrder.cmp in
    let old = seen_of g.S.Store.facts c.args.source.now in
    let new = seen_of g.S.Store.facts c.step-stepped.new.source in
    let facts = g.S.Store.facts c.install.new.store in
    let state = c.args.self.now in
    let memory = c.args.source.now.memory in
    let after_memory = c.step-stepped.new.source.memory in
    let numbers = c.step-stepped.new.numbers in
    let most = max c.args.budget 1 in
    let s = c.in-Ok.ensures in
    let taken_out : c.in-Some-take.job ≡ c.step-stepped.new.self = search rules in
    let i = rw taken_out at c.in-Ok-install.ensures in
    let installed = c.in-Ok-install.installed in
    let is : state.job ≡ Some c.in-Some.running = search rules in
    let none : c.take.new.self ≡ None = search rules in
    let ended : c.in-Ok.progress.ended ≡ true = search rules in
    let after : Option (OpenJob g.row.K.Denot g.K.KeyOrder) → DbState g.row.K.Denot g.K.KeyOrder =
    λ o. record state { version = installed.version; directory = record state.directory { numbers = numbers; manifest = record state.directory.manifest { end = installed.manifest_end } }; job = o } in
    let taken : c.take_installed.new.self ≡ after c.take.new.self = c.take_installed.ensures in
    subst (λ (t : DbState g.row.K.Denot g.K.KeyOrder). EndsNeeded order old (record new { facts = facts }) (open_db memory state) (open_db after_memory t)) (sym (taken ∙ ap after none))
    (ends_needed order g.met.K.KeyOrder.total (λ scan. scan_kept order.cmp scan) c.one_directory.ensures c.sound_lasts.ensures old new no_ids state memory after_memory numbers most c.in-Some.running c.step-stepped.new.self is c.requires.whole
    s.numbers s.drawn s.touches s.sound c.args.budget c.in-Ok.progress s.goes_on s.may s.plan s.version s.snapshots s.owns facts ended c.last-last_sequence.result c.last-last_sequence.ensures.is c.deref.result.now.tables (ap (λ (p : Placement). p.tables) c.deref.ensures) (Ok installed)
    i.call i.leaves_each installed refl (taking (open_db memory state) c.in-Some.running is takes))

pub returns-in-Ok-install-clause-few : goal.returns-in-Ok-install-clause-few
returns-in-Ok-install-clause-few g c f =
    let order = order_of g.K.KeyOrder.name g.K.KeyOrder.cmp in
    let old = seen_of g.S.Store.facts c.args.source.now in
    let state = c.args.self.now in
    let db = open_db c.args.source.now.memory state in
    let progress = c.in-Ok.progress in
    let is : state.job ≡ Some c.in-Some.running = search rules in
    let none : c.take.new.self ≡ None = search rules in
    let ended : progress.ended ≡ true = search rules in
    let gone : c.take_installed.new.self.job ≡ None = ap (λ (t : DbState g.row.K.Denot g.K.KeyOrder). t.job) c.take_installed.ensures ∙ none in
    subst (λ (o : Option (OpenJob g.row.K.Denot g.K.KeyOrder)). HasLeftBy order old db (max c.args.budget 1) o) (sym gone)
    (few_left order old (whole_in g.S.Store.facts c.step-stepped.new.source) db c.in-Some.running c.step-stepped.new.self c.step-stepped.new.numbers.next c.args.budget progress is ended c.in-Ok.ensures.goes_on (c.in-Ok-install.ensures.call.faithful f))

pub returns-then-not-progress-clause-merges : goal.returns-then-not-progress-clause-merges
returns-then-not-progress-clause-merges g c none = absurd (not_some (Some c.step-stepped.new.self) none refl)

pub returns-in-Ok-install-clause-merges : goal.returns-in-Ok-install-clause-merges
returns-in-Ok-install-clause-merges g c gone =
    let order = order_of g.K.KeyOrder.name g.K.KeyOrder.cmp in
    let old = seen_of g.S.Store.facts c.args.source.now in
    let new = seen_of g.S.Store.facts c.step-stepped.new.source in
    let facts = g.S.Store.facts c.install.new.store in
    let state = c.args.self.now in
    let memory = c.args.source.now.memory in
    let after_memory = c.step-stepped.new.source.memory in
    let numbers = c.step-stepped.new.numbers in
    let most = max c.args.budget 1 in
    let s = c.in-Ok.ensures in
    let taken_out : c.in-Some-take.job ≡ c.step-stepped.new.self = search rules in
    let i = rw taken_out at c.in-Ok-install.ensures in
    let installed = c.in-Ok-install.installed in
    let is : state.job ≡ Some c.in-Some.running = search rules in
    let none : c.take.new.self ≡ None = search rules in
    let ended : c.in-Ok.progress.ended ≡ true = search rules in
    let after : Option (OpenJob g.row.K.Denot g.K.KeyOrder) → DbState g.row.K.Denot g.K.KeyOrder =
    λ o. record state { version = installed.version; directory = record state.directory { numbers = numbers; manifest = record state.directory.manifest { end = installed.manifest_end } }; job = o } in
    let taken : c.take_installed.new.self ≡ after c.take.new.self = c.take_installed.ensures in
    subst (λ (t : DbState g.row.K.Denot g.K.KeyOrder). PutsMerged order old (record new { facts = facts }) (open_db memory state) (open_db after_memory t)) (sym (taken ∙ ap after none))
    (ends_merged order g.met.K.KeyOrder.total (λ scan. scan_kept order.cmp scan) c.one_directory.ensures c.sound_lasts.ensures old new no_ids state memory after_memory numbers most c.in-Some.running c.step-stepped.new.self is c.requires.whole
    s.numbers s.drawn s.touches s.sound c.args.budget c.in-Ok.progress s.goes_on s.may s.plan s.version s.snapshots s.owns facts ended c.last-last_sequence.result c.last-last_sequence.ensures.is c.deref.result.now.tables (ap (λ (p : Placement). p.tables) c.deref.ensures) (Ok installed)
    i.call i.leaves_each installed refl)

pub returns-in-Err-install-clause-step : goal.returns-in-Err-install-clause-step
returns-in-Err-install-clause-step g c ids =
    let order = order_of g.K.KeyOrder.name g.K.KeyOrder.cmp in
    let old = seen_of g.S.Store.facts c.args.source.now in
    let new = seen_of g.S.Store.facts c.step-stepped.new.source in
    let facts = g.S.Store.facts c.install.new.store in
    let state = c.args.self.now in
    let memory = c.args.source.now.memory in
    let after_memory = c.step-stepped.new.source.memory in
    let numbers = c.step-stepped.new.numbers in
    let most = max c.args.budget 1 in
    let s = c.in-Ok.ensures in
    let taken_out : c.in-Some-take.job ≡ c.step-stepped.new.self = search rules in
    let i = rw taken_out at c.in-Err-install.ensures in
    let e = c.in-Err-install.error in
    let leaves = subst (λ (w : OpenJob g.row.K.Denot g.K.KeyOrder). OfEach (λ ideal final. EndLeavesOver order new.facts facts ideal final numbers.next c.last-last_sequence.result state.directory.manifest c.deref.result.now.tables w (Err e)) new.facts.files facts.files) taken_out c.in-Err-install.ensures.leaves_each in
    let put = subst (λ (w : OpenJob g.row.K.Denot g.K.KeyOrder). OfEach (λ ideal final. EndPutsOwn order new.facts facts ideal final numbers.next c.last-last_sequence.result state.directory.manifest c.deref.result.now.tables w (Err e)) new.facts.files facts.files) taken_out c.in-Err-install.ensures.owns_each in
    let spares = subst (λ (w : OpenJob g.row.K.Denot g.K.KeyOrder). SparesManifest {T = Installed g.row.K.Denot} new.facts facts (string_bytes state.directory.manifest.name) (IsTableName (IsNumberAtHand w.job.outputs)) (Err e)) taken_out c.in-Err-install.ensures.spares in
    let carries = subst (λ (w : OpenJob g.row.K.Denot g.K.KeyOrder). IsTrue facts.faithful → CarriesBut new.facts facts (IsTableName (IsNumberAtHand w.job.outputs))) taken_out c.in-Err-install.ensures.carries in
    let is : state.job ≡ Some c.in-Some.running = search rules in
    let none : c.take.new.self ≡ None = search rules in
    let ended : c.in-Ok.progress.ended ≡ true = search rules in
    let before : Option (OpenJob g.row.K.Denot g.K.KeyOrder) → DbState g.row.K.Denot g.K.KeyOrder = λ o. record state { directory = record state.directory { numbers = numbers }; job = o } in
    let After : DbState g.row.K.Denot g.K.KeyOrder → DbError → Type 0 = λ t r. LeadsOpen order old (record new { facts = facts }) ids (open_db memory state) (open_db after_memory t) (λ m n. IsPiece {T = Bool} m most (Err r) n) in
    let failed = c.write_failures-failed.result in
    let b = nat_eq facts.write_failures failed in
    let still = unwritten old.facts new.facts s.touches.writes.writes s.stood in
    let is_old : failed ≡ old.facts.write_failures = c.write_failures-failed.ensures in
    let is_mid : failed ≡ new.facts.write_failures = is_old ∙ sym still in
    subst (After c.flush_refusal.new.self) (sym c.flush_refusal.ensures.answer)
    (subst (λ (t : DbState g.row.K.Denot g.K.KeyOrder). After t (settled_as b (flush_answer e))) (sym c.flush_refusal.ensures.state)
    (subst (λ (o : Option (OpenJob g.row.K.Denot g.K.KeyOrder)). After (settled_by b (before o)) (settled_as b (flush_answer e))) (sym none)
    (settles_broken order old (record new { facts = facts }) ids (open_db memory state) after_memory (before None) most (flush_answer e) b
    (λ io. shows new.facts facts failed is_mid i.fails (end_io order new.facts facts _ _ _ _ _ e i.refused io) b refl)
    (rose_all old.facts facts failed is_old (some_behind old.facts new.facts facts still s.stood (some_as new.facts facts i.call.failures i.fails)))
    (ends_unended order g.met.K.KeyOrder.total (λ scan. scan_kept order.cmp scan) c.one_directory.ensures c.sound_lasts.ensures old new ids state memory after_memory numbers most c.in-Some.running c.step-stepped.new.self is c.requires.whole
    s.numbers s.drawn s.touches s.sound c.args.budget c.in-Ok.progress s.goes_on s.may s.plan s.version s.snapshots s.owns facts ended c.last-last_sequence.result c.last-last_sequence.ensures.is c.deref.result.now.tables (ap (λ (p : Placement). p.tables) c.deref.ensures) (Err e)
    i.call leaves e refl i.refused put spares carries))))

pub returns-in-Err-install-clause-outcome : goal.returns-in-Err-install-clause-outcome
returns-in-Err-install-clause-outcome g c =
    let order = order_of g.K.KeyOrder.name g.K.KeyOrder.cmp in
    let old = g.S.Store.facts c.args.source.now.tables.store in
    let mid = g.S.Store.facts c.step-stepped.new.source.tables.store in
    let new = g.S.Store.facts c.install.new.store in
    let state = c.args.self.now in
    let memory = c.args.source.now.memory in
    let after_memory = c.step-stepped.new.source.memory in
    let s = c.in-Ok.ensures in
    let taken_out : c.in-Some-take.job ≡ c.step-stepped.new.self = search rules in
    let i = rw taken_out at c.in-Err-install.ensures in
    let e = c.in-Err-install.error in
    let After : DbState g.row.K.Denot g.K.KeyOrder → DbError → Type 0 = λ t r. DbOutcome {T = Bool} MayRefusePiece old new (open_db memory state) (open_db after_memory t) (Err r) in
    let given : DbState g.row.K.Denot g.K.KeyOrder = record state { directory = record state.directory { numbers = c.step-stepped.new.numbers }; job = c.take.new.self } in
    let failed = c.write_failures-failed.result in
    let b = nat_eq new.write_failures failed in
    let still = unwritten old mid s.touches.writes.writes s.stood in
    let is_old : failed ≡ old.write_failures = c.write_failures-failed.ensures in
    let is_mid : failed ≡ mid.write_failures = is_old ∙ sym still in
    subst (After c.flush_refusal.new.self) (sym c.flush_refusal.ensures.answer)
    (subst (λ (t : DbState g.row.K.Denot g.K.KeyOrder). After t (settled_as b (flush_answer e))) (sym c.flush_refusal.ensures.state)
    (outcome_settles_broken old new (open_db memory state) after_memory given (flush_answer e) b
    (λ io. shows mid new failed is_mid i.fails (end_io order mid new _ _ _ _ _ e i.refused io) b refl)
    (rose_all old new failed is_old (some_behind old mid new still s.stood (some_as mid new i.call.failures i.fails)))
    (unended_outcome order old mid new state memory after_memory c.step-stepped.new.numbers c.take.new.self _ _ _ _ _ e i.refused (sym s.stood) i.call.failures (i.call.denials ∙ s.touches.writes.denials) s.touches.memory)))

pub returns-in-Err-clause-breaks : goal.returns-in-Err-clause-breaks
returns-in-Err-clause-breaks g c =
    let old = g.S.Store.facts c.args.source.now.tables.store in
    let new = g.S.Store.facts c.step-stepped.new.source.tables.store in
    let failed = c.write_failures-failed.result in
    let b = nat_eq new.write_failures failed in
    let e = c.in-Err.error in
    let given : DbState g.row.K.Denot g.K.KeyOrder = record c.args.self.now { directory = record c.args.self.now.directory { numbers = c.step-stepped.new.numbers }; job = None } in
    let After : DbState g.row.K.Denot g.K.KeyOrder → DbError → Type 0 = λ t r. BreaksExactly old new t.broken (IsIo {T = Bool} (Err r)) in
    subst (After c.refuse_since.new.self) (sym c.refuse_since.ensures.answer)
    (subst (λ (t : DbState g.row.K.Denot g.K.KeyOrder). After t (settled_as b e)) (sym c.refuse_since.ensures.state)
    (breaks_settled {T = Bool} old new failed given e c.write_failures-failed.ensures c.in-Err.ensures.touches.writes.writes c.requires.whole b refl))

pub returns-then-not-progress-clause-breaks : goal.returns-then-not-progress-clause-breaks
returns-then-not-progress-clause-breaks g c = unbroken (g.S.Store.facts c.args.source.now.tables.store) (g.S.Store.facts c.step-stepped.new.source.tables.store) c.args.self.now.broken c.requires.whole (unwritten (g.S.Store.facts c.args.source.now.tables.store) (g.S.Store.facts c.step-stepped.new.source.tables.store) c.in-Ok.ensures.touches.writes.writes c.in-Ok.ensures.stood)

pub returns-in-Ok-install-clause-breaks : goal.returns-in-Ok-install-clause-breaks
returns-in-Ok-install-clause-breaks g c =
    let state = c.args.self.now in
    let s = c.in-Ok.ensures in
    let taken_out : c.in-Some-take.job ≡ c.step-stepped.new.self = search rules in
    let i = rw taken_out at c.in-Ok-install.ensures in
    let old = g.S.Store.facts c.args.source.now.tables.store in
    let mid = g.S.Store.facts c.step-stepped.new.source.tables.store in
    let new = g.S.Store.facts c.install.new.store in
    unbroken old new c.take_installed.new.self.broken (ap (λ (t : DbState g.row.K.Denot g.K.KeyOrder). t.broken) c.take_installed.ensures ∙ c.requires.whole)
    (as_unwritten mid new i.fails i.stood ∙ unwritten old mid s.touches.writes.writes s.stood)

pub returns-in-Err-install-clause-breaks : goal.returns-in-Err-install-clause-breaks
returns-in-Err-install-clause-breaks g c =
    let old = g.S.Store.facts c.args.source.now.tables.store in
    let mid = g.S.Store.facts c.step-stepped.new.source.tables.store in
    let new = g.S.Store.facts c.install.new.store in
    let s = c.in-Ok.ensures in
    let taken_out : c.in-Some-take.job ≡ c.step-stepped.new.self = search rules in
    let i = rw taken_out at c.in-Err-install.ensures in
    let failed = c.write_failures-failed.result in
    let b = nat_eq new.write_failures failed in
    let e = flush_answer c.in-Err-install.error in
    let given : DbState g.row.K.Denot g.K.KeyOrder = record c.args.self.now { directory = record c.args.self.now.directory { numbers = c.step-stepped.new.numbers }; job = c.take.new.self } in
    let After : DbState g.row.K.Denot g.K.KeyOrder → DbError → Type 0 = λ t r. BreaksExactly old new t.broken (IsIo {T = Bool} (Err r)) in
    subst (After c.flush_refusal.new.self) (sym c.flush_refusal.ensures.answer)
    (subst (λ (t : DbState g.row.K.Denot g.K.KeyOrder). After t (settled_as b e)) (sym c.flush_refusal.ensures.state)
    (breaks_settled {T = Bool} old new failed given e c.write_failures-failed.ensures
    (some_behind old mid new (unwritten old mid s.touches.writes.writes s.stood) s.stood (some_as mid new i.call.failures i.fails)) c.requires.whole b refl))

-- ---- what a process crash leaves

pub returns-in-Err-clause-stops : goal.returns-in-Err-clause-stops
returns-in-Err-clause-stops g c =
    let order = order_of g.K.KeyOrder.name g.K.KeyOrder.cmp in
    let old = seen_of g.S.Store.facts c.args.source.now in
    let new = seen_of g.S.Store.facts c.step-stepped.new.source in
    let state = c.args.self.now in
    let s = c.in-Err.ensures in
    let is : state.job ≡ Some c.in-Some.running = search rules in
    step_keeps order g.met.K.KeyOrder.total (λ scan. scan_kept order.cmp scan) c.one_directory.ensures c.sound_lasts.ensures old new no_ids state c.args.source.now.memory c.step-stepped.new.source.memory c.step-stepped.new.numbers (max c.args.budget 1) c.in-Some.running c.step-stepped.new.self is c.requires.whole
    s.numbers s.drawn s.touches s.sound s.stops

pub returns-then-not-progress-clause-stops : goal.returns-then-not-progress-clause-stops
returns-then-not-progress-clause-stops g c =
    let order = order_of g.K.KeyOrder.name g.K.KeyOrder.cmp in
    let old = seen_of g.S.Store.facts c.args.source.now in
    let new = seen_of g.S.Store.facts c.step-stepped.new.source in
    let state = c.args.self.now in
    let s = c.in-Ok.ensures in
    let is : state.job ≡ Some c.in-Some.running = search rules in
    step_keeps order g.met.K.KeyOrder.total (λ scan. scan_kept order.cmp scan) c.one_directory.ensures c.sound_lasts.ensures old new no_ids state c.args.source.now.memory c.step-stepped.new.source.memory c.step-stepped.new.numbers (max c.args.budget 1) c.in-Some.running c.step-stepped.new.self is c.requires.whole
    s.numbers s.drawn s.touches s.sound s.stops

pub returns-in-Ok-install-clause-stops : goal.returns-in-Ok-install-clause-stops
returns-in-Ok-install-clause-stops g c =
    let order = order_of g.K.KeyOrder.name g.K.KeyOrder.cmp in
    let old = seen_of g.S.Store.facts c.args.source.now in
    let new = seen_of g.S.Store.facts c.step-stepped.new.source in
    let facts = g.S.Store.facts c.install.new.store in
    let state = c.args.self.now in
    let numbers = c.step-stepped.new.numbers in
    let s = c.in-Ok.ensures in
    let taken_out : c.in-Some-take.job ≡ c.step-stepped.new.self = search rules in
    let i = rw taken_out at c.in-Ok-install.ensures in
    let r = (Ok c.in-Ok-install.installed) in
    let leaves = subst (λ (w : OpenJob g.row.K.Denot g.K.KeyOrder). OfEach (λ ideal final. EndLeavesOver order new.facts facts ideal final numbers.next c.last-last_sequence.result state.directory.manifest c.deref.result.now.tables w r) new.facts.files facts.files) taken_out c.in-Ok-install.ensures.leaves_each in
    let stops = λ (f : IsTrue facts.faithful). subst (λ (w : OpenJob g.row.K.Denot g.K.KeyOrder). LeavesOnly new.facts facts (EndMayLeave order new.facts numbers.next c.last-last_sequence.result state.directory.manifest c.deref.result.now.tables w)) taken_out (c.in-Ok-install.ensures.stops f) in
    let owns = λ (f : IsTrue facts.faithful). subst (λ (w : OpenJob g.row.K.Denot g.K.KeyOrder). LeavesOnly new.facts facts (EndMayPutOwn order new.facts numbers.next c.last-last_sequence.result state.directory.manifest c.deref.result.now.tables w)) taken_out (c.in-Ok-install.ensures.stops_own f) in
    let puts = λ (f : IsTrue facts.faithful). subst (λ (w : OpenJob g.row.K.Denot g.K.KeyOrder). WritesThenPuts new.facts facts (IsTableName (IsNumberAtHand w.job.outputs)) (string_bytes state.directory.manifest.name) (AreOutputsKept order.cmp w.job new.facts numbers.next)) taken_out (c.in-Ok-install.ensures.puts f) in
    let is : state.job ≡ Some c.in-Some.running = search rules in
    let ended : c.in-Ok.progress.ended ≡ true = search rules in
    end_keeps order g.met.K.KeyOrder.total (λ scan. scan_kept order.cmp scan) c.one_directory.ensures c.sound_lasts.ensures old new no_ids state c.args.source.now.memory c.step-stepped.new.source.memory numbers (max c.args.budget 1) c.in-Some.running c.step-stepped.new.self is c.requires.whole
    s.numbers s.drawn s.touches s.sound c.args.budget c.in-Ok.progress s.goes_on s.may s.plan s.version s.snapshots s.owns facts ended c.last-last_sequence.result c.last-last_sequence.ensures.is c.deref.result.now.tables (ap (λ (p : Placement). p.tables) c.deref.ensures) r
    i.call leaves s.stops stops owns puts

pub returns-in-Err-install-clause-stops : goal.returns-in-Err-install-clause-stops
returns-in-Err-install-clause-stops g c =
    let order = order_of g.K.KeyOrder.name g.K.KeyOrder.cmp in
    let old = seen_of g.S.Store.facts c.args.source.now in
    let new = seen_of g.S.Store.facts c.step-stepped.new.source in
    let facts = g.S.Store.facts c.install.new.store in
    let state = c.args.self.now in
    let numbers = c.step-stepped.new.numbers in
    let s = c.in-Ok.ensures in
    let taken_out : c.in-Some-take.job ≡ c.step-stepped.new.self = search rules in
    let i = rw taken_out at c.in-Err-install.ensures in
    let r = (Err c.in-Err-install.error) in
    let leaves = subst (λ (w : OpenJob g.row.K.Denot g.K.KeyOrder). OfEach (λ ideal final. EndLeavesOver order new.facts facts ideal final numbers.next c.last-last_sequence.result state.directory.manifest c.deref.result.now.tables w r) new.facts.files facts.files) taken_out c.in-Err-install.ensures.leaves_each in
    let stops = λ (f : IsTrue facts.faithful). subst (λ (w : OpenJob g.row.K.Denot g.K.KeyOrder). LeavesOnly new.facts facts (EndMayLeave order new.facts numbers.next c.last-last_sequence.result state.directory.manifest c.deref.result.now.tables w)) taken_out (c.in-Err-install.ensures.stops f) in
    let owns = λ (f : IsTrue facts.faithful). subst (λ (w : OpenJob g.row.K.Denot g.K.KeyOrder). LeavesOnly new.facts facts (EndMayPutOwn order new.facts numbers.next c.last-last_sequence.result state.directory.manifest c.deref.result.now.tables w)) taken_out (c.in-Err-install.ensures.stops_own f) in
    let puts = λ (f : IsTrue facts.faithful). subst (λ (w : OpenJob g.row.K.Denot g.K.KeyOrder). WritesThenPuts new.facts facts (IsTableName (IsNumberAtHand w.job.outputs)) (string_bytes state.directory.manifest.name) (AreOutputsKept order.cmp w.job new.facts numbers.next)) taken_out (c.in-Err-install.ensures.puts f) in
    let is : state.job ≡ Some c.in-Some.running = search rules in
    let ended : c.in-Ok.progress.ended ≡ true = search rules in
    end_keeps order g.met.K.KeyOrder.total (λ scan. scan_kept order.cmp scan) c.one_directory.ensures c.sound_lasts.ensures old new no_ids state c.args.source.now.memory c.step-stepped.new.source.memory numbers (max c.args.budget 1) c.in-Some.running c.step-stepped.new.self is c.requires.whole
    s.numbers s.drawn s.touches s.sound c.args.budget c.in-Ok.progress s.goes_on s.may s.plan s.version s.snapshots s.owns facts ended c.last-last_sequence.result c.last-last_sequence.ensures.is c.deref.result.now.tables (ap (λ (p : Placement). p.tables) c.deref.ensures) r
    i.call leaves s.stops stops owns puts
