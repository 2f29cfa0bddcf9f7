use Rattle.std.proofs.Common.{refl, sym, ap, subst, None}
use Rattle.std.proofs.lemmas.Result.{err_from_is_err_and}
use Rattle.compact.specs.Deeper.{is_covered_below}
use Rattle.cursor.specs.Merging.{listed}
use Rattle.ikey.specs.Orders.{order_of}
use Rattle.running_job.proofs.Begun.{apart_before, begun, may_be_ready, may_begin, nameable, none_over, ready, refuses_begin, tears_begin}
use Rattle.running_job.proofs.Read.{read_lists}
use Rattle.running_job.proofs.open_job.OpenJob.begin.Goals as goal
use Rattle.level_cursor.specs.InRows.{ListsNumber}
use Rattle.db_cursor.specs.internal.SourceLaws.{source_left_more}
use Rattle.db_cursor.specs.Whole.{whole}
use Rattle.versions.specs.declared.plan.JobPlan.{JobPlan}
use Rattle.versions.specs.Levels.{AreInOrder, Placement}

pub cursor_over-requires : goal.cursor_over-requires
cursor_over-requires g c = (c.inputs_in_order.ensures g.K.KeyOrder.cmp c.args.version.now.value.tables c.args.plan g.met.K.KeyOrder.total (subst (λ (p : Placement). AreInOrder g.K.KeyOrder.cmp p.tables) c.deref.ensures c.tables-tables.ensures.order) c.requires.plan)

pub can_be_named-requires-clause-order : goal.can_be_named-requires-clause-order
can_be_named-requires-clause-order g c = (c.inputs_in_order.ensures g.K.KeyOrder.cmp c.args.version.now.value.tables c.args.plan g.met.K.KeyOrder.total (subst (λ (p : Placement). AreInOrder g.K.KeyOrder.cmp p.tables) c.deref.ensures c.tables-tables.ensures.order) c.requires.plan)

pub returns-then-not-can_be_named-clause-refused : goal.returns-then-not-can_be_named-clause-refused
returns-then-not-can_be_named-clause-refused g c = λ t next d can.
    c.if-not-can_be_named.ensures (nameable (order_of g.K.KeyOrder.name g.K.KeyOrder.cmp) (whole (g.S.Store.facts c.args.source.now.tables.store) c.args.source.now.tables.tables c.args.source.now.tables.blocks c.args.source.now.memory) next c.args.version.now.value.tables c.args.plan d
    c.planned_law.ensures g.met.K.KeyOrder.total g.met.K.KeyOrder.exact (subst (λ (p : Placement). AreInOrder g.K.KeyOrder.cmp p.tables) c.deref.ensures c.tables-tables.ensures.order) c.requires.plan can)

pub returns-clause-version : goal.returns-clause-version
returns-clause-version g c = c.in_ok-version.ensures.cases

pub returns-clause-over : goal.returns-clause-over
returns-clause-over g c = λ n over. subst (λ (q : JobPlan). ListsNumber q.inputs.items n) (sym c.in_ok-job.ensures.plan) (c.in_ok-cursor.ensures.over n (c.in_ok-job.ensures.within n over))

pub returns-clause-begins : goal.returns-clause-begins
returns-clause-begins g c = λ t next d can.
    let r = ready (order_of g.K.KeyOrder.name g.K.KeyOrder.cmp) (whole (g.S.Store.facts c.args.source.now.tables.store) c.args.source.now.tables.tables c.args.source.now.tables.blocks c.args.source.now.memory) next c.args.version.now.value.tables c.args.plan d c.in_ok-cursor.cursor c.planned_law.ensures c.version_of_part.ensures g.met.K.KeyOrder.total g.met.K.KeyOrder.exact (subst (λ (p : Placement). AreInOrder g.K.KeyOrder.cmp p.tables) c.deref.ensures c.tables-tables.ensures.order) (c.inputs_in_order.ensures g.K.KeyOrder.cmp c.args.version.now.value.tables c.args.plan g.met.K.KeyOrder.total (subst (λ (p : Placement). AreInOrder g.K.KeyOrder.cmp p.tables) c.deref.ensures c.tables-tables.ensures.order) c.requires.plan) c.requires.plan c.in_ok-cursor.ensures.begins can in (
      r.entries,
      begun (order_of g.K.KeyOrder.name g.K.KeyOrder.cmp) (record { facts = g.S.Store.facts; store_of = λ s. s.tables.store; with_store = λ s t. record s { tables = record s.tables { store = t } }; tables_of = λ s. s.tables.tables.tables; blocks_of = λ s. s.tables.blocks.blocks; memory_of = λ s. s.memory; with_memory = λ s w. record s { memory = w } }) (record { stored = λ s t. refl; remembered = λ s w. refl }) c.args.source.now c.start.new.source next c.args.version.now.value.tables c.args.plan d c.in_ok-cursor.cursor (record { job = c.in_ok-job.job; version = c.in_ok-version.version; next = 0; merged = 0; in_range = _; numbered = _; proper = _ }) r
          c.in_ok-cursor.ensures.no_memory c.in_ok-cursor.ensures.over c.in_ok-job.ensures.plan (ap (λ (p : Placement). p.tables) c.in_ok-version.ensures.cases) c.in_ok-job.ensures.written refl refl c.in_ok-job.ensures.within c.in_ok-job.ensures.same t c.in_ok-job.ensures.reads (c.in_ok-job.ensures.limits t) (c.in_ok-job.ensures.torn t)
          (c.in_ok-job.ensures.started (is_covered_below g.K.KeyOrder.cmp c.in_ok-job.job.plan.output_level c.in_ok-version.version.value.tables) next (listed r.entries None) t
          (read_lists g.K.KeyOrder.cmp (record { facts = g.S.Store.facts; store_of = λ s. s.tables.store; with_store = λ s t. record s { tables = record s.tables { store = t } }; tables_of = λ s. s.tables.tables.tables; blocks_of = λ s. s.tables.blocks.blocks; memory_of = λ s. s.memory; with_memory = λ s w. record s { memory = w } }) (record { stored = λ s t. refl; remembered = λ s w. refl }) c.in_ok-cursor.cursor c.args.source.now _ r.lists)
          (apart_before (order_of g.K.KeyOrder.name g.K.KeyOrder.cmp) (record { facts = g.S.Store.facts; store_of = λ s. s.tables.store; with_store = λ s t. record s { tables = record s.tables { store = t } }; tables_of = λ s. s.tables.tables.tables; blocks_of = λ s. s.tables.blocks.blocks; memory_of = λ s. s.memory; with_memory = λ s w. record s { memory = w } }) (record { stored = λ s t. refl; remembered = λ s w. refl }) c.sound_lasts.ensures c.args.plan c.in_ok-cursor.cursor next c.in_ok-cursor.ensures.no_memory c.in_ok-cursor.ensures.over r.below)
          can.unkept (none_over c.args.plan c.in_ok-cursor.cursor next c.in_ok-cursor.ensures.over r.below)),
    )

pub returns-clause-leaves : goal.returns-clause-leaves
returns-clause-leaves g c = source_left_more g.K.KeyOrder.cmp (whole (g.S.Store.facts c.args.source.now.tables.store) c.args.source.now.tables.tables c.args.source.now.tables.blocks c.args.source.now.memory) (whole (g.S.Store.facts c.start.new.source.tables.store) c.start.new.source.tables.tables c.start.new.source.tables.blocks c.start.new.source.memory) c.in_ok-cursor.ensures.over c.in_ok-job.ensures.left

pub returns-in_err-job-clause-leaves : goal.returns-in_err-job-clause-leaves
returns-in_err-job-clause-leaves g c = source_left_more g.K.KeyOrder.cmp (whole (g.S.Store.facts c.args.source.now.tables.store) c.args.source.now.tables.tables c.args.source.now.tables.blocks c.args.source.now.memory) (whole (g.S.Store.facts c.start.new.source.tables.store) c.start.new.source.tables.tables c.start.new.source.tables.blocks c.start.new.source.memory) c.in_ok-cursor.ensures.over c.in_err-job.ensures.left

pub returns-in_err-job-clause-refused : goal.returns-in_err-job-clause-refused
returns-in_err-job-clause-refused g c =
    let p = err_from_is_err_and c.from_residual-in_err-job.result c.from_residual-in_err-job.ensures.1 in
    rw (p.1, p.2) (refuses_begin (order_of g.K.KeyOrder.name g.K.KeyOrder.cmp) (record { facts = g.S.Store.facts; store_of = λ s. s.tables.store; with_store = λ s t. record s { tables = record s.tables { store = t } }; tables_of = λ s. s.tables.tables.tables; blocks_of = λ s. s.tables.blocks.blocks; memory_of = λ s. s.memory; with_memory = λ s w. record s { memory = w } }) (record { stored = λ s t. refl; remembered = λ s w. refl }) c.args.source.now (g.S.Store.facts c.start.new.source.tables.store) c.args.version.now.value.tables c.args.plan c.in_ok-cursor.cursor c.in_err-job.field-0.0
    (λ next d can. ready (order_of g.K.KeyOrder.name g.K.KeyOrder.cmp) (whole (g.S.Store.facts c.args.source.now.tables.store) c.args.source.now.tables.tables c.args.source.now.tables.blocks c.args.source.now.memory) next c.args.version.now.value.tables c.args.plan d c.in_ok-cursor.cursor c.planned_law.ensures c.version_of_part.ensures g.met.K.KeyOrder.total g.met.K.KeyOrder.exact (subst (λ (p : Placement). AreInOrder g.K.KeyOrder.cmp p.tables) c.deref.ensures c.tables-tables.ensures.order) (c.inputs_in_order.ensures g.K.KeyOrder.cmp c.args.version.now.value.tables c.args.plan g.met.K.KeyOrder.total (subst (λ (p : Placement). AreInOrder g.K.KeyOrder.cmp p.tables) c.deref.ensures c.tables-tables.ensures.order) c.requires.plan) c.requires.plan c.in_ok-cursor.ensures.begins can)
    c.in_err-job.ensures.refused)

pub returns-clause-may : goal.returns-clause-may
returns-clause-may g c = λ t next contents can.
    let r = may_be_ready (order_of g.K.KeyOrder.name g.K.KeyOrder.cmp) (whole (g.S.Store.facts c.args.source.now.tables.store) c.args.source.now.tables.tables c.args.source.now.tables.blocks c.args.source.now.memory) next c.args.plan contents c.in_ok-cursor.cursor c.in_ok-cursor.ensures.may can in (
      r.entries,
      may_begin (order_of g.K.KeyOrder.name g.K.KeyOrder.cmp) (record { facts = g.S.Store.facts; store_of = λ s. s.tables.store; with_store = λ s t. record s { tables = record s.tables { store = t } }; tables_of = λ s. s.tables.tables.tables; blocks_of = λ s. s.tables.blocks.blocks; memory_of = λ s. s.memory; with_memory = λ s w. record s { memory = w } }) (record { stored = λ s t. refl; remembered = λ s w. refl }) c.args.source.now c.start.new.source next c.args.plan contents c.in_ok-cursor.cursor (record { job = c.in_ok-job.job; version = c.in_ok-version.version; next = 0; merged = 0; in_range = _; numbered = _; proper = _ }) r
          c.in_ok-cursor.ensures.no_memory c.in_ok-cursor.ensures.over c.in_ok-job.ensures.plan c.in_ok-job.ensures.written refl refl c.in_ok-job.ensures.within c.in_ok-job.ensures.same t c.in_ok-job.ensures.reads (c.in_ok-job.ensures.limits t) (c.in_ok-job.ensures.torn t)
          (c.in_ok-job.ensures.started (is_covered_below g.K.KeyOrder.cmp c.in_ok-job.job.plan.output_level c.in_ok-version.version.value.tables) next (listed r.entries None) t
          (read_lists g.K.KeyOrder.cmp (record { facts = g.S.Store.facts; store_of = λ s. s.tables.store; with_store = λ s t. record s { tables = record s.tables { store = t } }; tables_of = λ s. s.tables.tables.tables; blocks_of = λ s. s.tables.blocks.blocks; memory_of = λ s. s.memory; with_memory = λ s w. record s { memory = w } }) (record { stored = λ s t. refl; remembered = λ s w. refl }) c.in_ok-cursor.cursor c.args.source.now _ r.lists)
          (apart_before (order_of g.K.KeyOrder.name g.K.KeyOrder.cmp) (record { facts = g.S.Store.facts; store_of = λ s. s.tables.store; with_store = λ s t. record s { tables = record s.tables { store = t } }; tables_of = λ s. s.tables.tables.tables; blocks_of = λ s. s.tables.blocks.blocks; memory_of = λ s. s.memory; with_memory = λ s w. record s { memory = w } }) (record { stored = λ s t. refl; remembered = λ s w. refl }) c.sound_lasts.ensures c.args.plan c.in_ok-cursor.cursor next c.in_ok-cursor.ensures.no_memory c.in_ok-cursor.ensures.over r.below)
          can.unkept (none_over c.args.plan c.in_ok-cursor.cursor next c.in_ok-cursor.ensures.over r.below)),
    )

pub returns-then-not-can_be_named-clause-torn : goal.returns-then-not-can_be_named-clause-torn
returns-then-not-can_be_named-clause-torn g c = λ t next contents can proper. absurd (c.if-not-can_be_named.ensures proper)

pub returns-in_err-job-clause-torn : goal.returns-in_err-job-clause-torn
returns-in_err-job-clause-torn g c =
    let p = err_from_is_err_and c.from_residual-in_err-job.result c.from_residual-in_err-job.ensures.1 in
    rw (p.1, p.2) (tears_begin (order_of g.K.KeyOrder.name g.K.KeyOrder.cmp) (record { facts = g.S.Store.facts; store_of = λ s. s.tables.store; with_store = λ s t. record s { tables = record s.tables { store = t } }; tables_of = λ s. s.tables.tables.tables; blocks_of = λ s. s.tables.blocks.blocks; memory_of = λ s. s.memory; with_memory = λ s w. record s { memory = w } }) (record { stored = λ s t. refl; remembered = λ s w. refl }) c.args.source.now (g.S.Store.facts c.args.source.now.tables.store) (g.S.Store.facts c.start.new.source.tables.store) _ _ c.args.plan c.in_ok-cursor.cursor c.in_err-job.field-0.0
    (λ next contents can. may_be_ready (order_of g.K.KeyOrder.name g.K.KeyOrder.cmp) (whole (g.S.Store.facts c.args.source.now.tables.store) c.args.source.now.tables.tables c.args.source.now.tables.blocks c.args.source.now.memory) next c.args.plan contents c.in_ok-cursor.cursor c.in_ok-cursor.ensures.may can)
    c.in_err-job.ensures.refused)
