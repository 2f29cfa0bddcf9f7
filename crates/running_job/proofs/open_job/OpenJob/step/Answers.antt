use Rattle.std.proofs.Common.{refl, arith}
use Rattle.std.proofs.lemmas.Result.{err_from_is_err_and}
use Rattle.compact.specs.Deeper.{is_covered_below}
use Rattle.compact.proofs.Numbered.{numbered-later}
use Rattle.ikey.specs.Orders.{order_of}
use Rattle.store.proofs.Stopping.{leaves_same}
use Rattle.running_job.proofs.Stepped.{goes, keeps_on, may_go, may_run, refuses_step, runs, sound_on, stopped_on, tears_step, touched, touched_none}
use Rattle.running_job.proofs.open_job.OpenJob.step.Goals as goal

pub invariant_of-self-2-clause-numbered : goal.invariant_of-self-2-clause-numbered
invariant_of-self-2-clause-numbered g c = λ few.
    let le = c.if-numbers-self.false in
    let more = c.in_ok-progress.ensures.numbers in
    c.in_ok-progress.ensures.numbered.keeps (numbered-later c.args.self.now.job.outputs c.args.self.now.next c.args.numbers.now.next (omega (arith, le)) (c.args.self.now.numbered (omega (arith, le, more, few))))

pub returns-clause-touches : goal.returns-clause-touches
returns-clause-touches g c =
    touched (order_of g.K.KeyOrder.name g.K.KeyOrder.cmp) (record { facts = g.S.Store.facts; store_of = λ s. s.tables.store; with_store = λ s t. record s { tables = record s.tables { store = t } }; tables_of = λ s. s.tables.tables.tables; blocks_of = λ s. s.tables.blocks.blocks; memory_of = λ s. s.memory; with_memory = λ s w. record s { memory = w } }) (record { stored = λ s t. refl; remembered = λ s w. refl })
    c.args.self.now (record { job = c.step.new.self; version = c.args.self.now.version; next = c.step.new.numbers.next; merged = c.saturating_add-self.result; in_range = _; numbered = _; proper = _ }) c.args.source.now c.step.new.source c.args.numbers.now.next c.step.new.numbers.next c.in_ok-progress.ensures.writes c.in_ok-progress.ensures.leaves

pub returns-then-numbers-self-clause-touches : goal.returns-then-numbers-self-clause-touches
returns-then-numbers-self-clause-touches g c =
    touched_none (order_of g.K.KeyOrder.name g.K.KeyOrder.cmp) (record { facts = g.S.Store.facts; store_of = λ s. s.tables.store; with_store = λ s t. record s { tables = record s.tables { store = t } }; tables_of = λ s. s.tables.tables.tables; blocks_of = λ s. s.tables.blocks.blocks; memory_of = λ s. s.memory; with_memory = λ s w. record s { memory = w } }) (record { stored = λ s t. refl; remembered = λ s w. refl })
    c.args.self.now c.args.source.now c.args.numbers.now.next

pub returns-clause-keeps : goal.returns-clause-keeps
returns-clause-keeps g c =
    keeps_on (order_of g.K.KeyOrder.name g.K.KeyOrder.cmp) (record { facts = g.S.Store.facts; store_of = λ s. s.tables.store; with_store = λ s t. record s { tables = record s.tables { store = t } }; tables_of = λ s. s.tables.tables.tables; blocks_of = λ s. s.tables.blocks.blocks; memory_of = λ s. s.memory; with_memory = λ s w. record s { memory = w } }) (record { stored = λ s t. refl; remembered = λ s w. refl })
    c.sound_lasts.ensures c.job_writes_law.ensures c.args.self.now c.step.new.self.cursor c.args.source.now c.step.new.source c.args.numbers.now.next c.step.new.numbers.next c.in_ok-progress.ensures.numbers c.step.new.numbers.in_range.1 c.args.numbers.now.in_range.1 c.in_ok-progress.ensures.writes c.in_ok-progress.ensures.leaves

pub returns-in_err-progress-clause-touches : goal.returns-in_err-progress-clause-touches
returns-in_err-progress-clause-touches g c =
    touched (order_of g.K.KeyOrder.name g.K.KeyOrder.cmp) (record { facts = g.S.Store.facts; store_of = λ s. s.tables.store; with_store = λ s t. record s { tables = record s.tables { store = t } }; tables_of = λ s. s.tables.tables.tables; blocks_of = λ s. s.tables.blocks.blocks; memory_of = λ s. s.memory; with_memory = λ s w. record s { memory = w } }) (record { stored = λ s t. refl; remembered = λ s w. refl })
    c.args.self.now (record { job = c.step.new.self; version = c.args.self.now.version; next = 18446744073709551615; merged = c.args.self.now.merged; in_range = _; numbered = _; proper = _ }) c.args.source.now c.step.new.source c.args.numbers.now.next c.step.new.numbers.next c.in_err-progress.ensures.writes c.in_err-progress.ensures.leaves

pub returns-in_err-progress-clause-keeps : goal.returns-in_err-progress-clause-keeps
returns-in_err-progress-clause-keeps g c =
    keeps_on (order_of g.K.KeyOrder.name g.K.KeyOrder.cmp) (record { facts = g.S.Store.facts; store_of = λ s. s.tables.store; with_store = λ s t. record s { tables = record s.tables { store = t } }; tables_of = λ s. s.tables.tables.tables; blocks_of = λ s. s.tables.blocks.blocks; memory_of = λ s. s.memory; with_memory = λ s w. record s { memory = w } }) (record { stored = λ s t. refl; remembered = λ s w. refl })
    c.sound_lasts.ensures c.job_writes_law.ensures c.args.self.now c.step.new.self.cursor c.args.source.now c.step.new.source c.args.numbers.now.next c.step.new.numbers.next c.in_err-progress.ensures.numbers c.step.new.numbers.in_range.1 c.args.numbers.now.in_range.1 c.in_err-progress.ensures.writes c.in_err-progress.ensures.leaves

pub returns-clause-sound : goal.returns-clause-sound
returns-clause-sound g c =
    sound_on (order_of g.K.KeyOrder.name g.K.KeyOrder.cmp) (record { facts = g.S.Store.facts; store_of = λ s. s.tables.store; with_store = λ s t. record s { tables = record s.tables { store = t } }; tables_of = λ s. s.tables.tables.tables; blocks_of = λ s. s.tables.blocks.blocks; memory_of = λ s. s.memory; with_memory = λ s w. record s { memory = w } }) (record { stored = λ s t. refl; remembered = λ s w. refl })
    c.sound_lasts.ensures c.args.self.now c.step.new.self.cursor c.args.source.now c.step.new.source c.args.numbers.now.next c.step.new.numbers.next c.step.new.numbers.in_range.1 c.args.numbers.now.in_range.1 c.in_ok-progress.ensures.writes c.in_ok-progress.ensures.leaves

pub returns-in_err-progress-clause-sound : goal.returns-in_err-progress-clause-sound
returns-in_err-progress-clause-sound g c =
    sound_on (order_of g.K.KeyOrder.name g.K.KeyOrder.cmp) (record { facts = g.S.Store.facts; store_of = λ s. s.tables.store; with_store = λ s t. record s { tables = record s.tables { store = t } }; tables_of = λ s. s.tables.tables.tables; blocks_of = λ s. s.tables.blocks.blocks; memory_of = λ s. s.memory; with_memory = λ s w. record s { memory = w } }) (record { stored = λ s t. refl; remembered = λ s w. refl })
    c.sound_lasts.ensures c.args.self.now c.step.new.self.cursor c.args.source.now c.step.new.source c.args.numbers.now.next c.step.new.numbers.next c.step.new.numbers.in_range.1 c.args.numbers.now.in_range.1 c.in_err-progress.ensures.writes c.in_err-progress.ensures.leaves

pub returns-clause-goes_on : goal.returns-clause-goes_on
returns-clause-goes_on g c = λ t d came left can.
    let s = c.in_ok-progress.ensures.sliced came left t (runs (order_of g.K.KeyOrder.name g.K.KeyOrder.cmp) (record { facts = g.S.Store.facts; store_of = λ s. s.tables.store; with_store = λ s t. record s { tables = record s.tables { store = t } }; tables_of = λ s. s.tables.tables.tables; blocks_of = λ s. s.tables.blocks.blocks; memory_of = λ s. s.memory; with_memory = λ s w. record s { memory = w } }) (record { stored = λ s t. refl; remembered = λ s w. refl }) c.sound_lasts.ensures d c.args.self.now (is_covered_below g.K.KeyOrder.cmp c.plan.result.now.output_level c.deref.result.now.tables) c.args.source.now c.args.numbers.now.next came left c.args.numbers.now.in_range.1 (λ i. is_covered_below g.K.KeyOrder.cmp (c.plan.ensures i).output_level (c.deref.ensures i).tables) can.running) in (
      s.0,
      s.1,
      s.2,
      s.3,
      goes (order_of g.K.KeyOrder.name g.K.KeyOrder.cmp) (record { facts = g.S.Store.facts; store_of = λ s. s.tables.store; with_store = λ s t. record s { tables = record s.tables { store = t } }; tables_of = λ s. s.tables.tables.tables; blocks_of = λ s. s.tables.blocks.blocks; memory_of = λ s. s.memory; with_memory = λ s w. record s { memory = w } }) (record { stored = λ s t. refl; remembered = λ s w. refl })
          c.sound_lasts.ensures c.free_number_law.ensures c.args.self.now (record { job = c.step.new.self; version = c.args.self.now.version; next = c.step.new.numbers.next; merged = c.saturating_add-self.result; in_range = _; numbered = _; proper = _ }) c.args.source.now c.step.new.source c.args.numbers.now.next c.step.new.numbers.next c.in_ok-progress.ensures.numbers c.step.new.numbers.in_range.1 c.args.numbers.now.in_range.1 c.in_ok-progress.ensures.writes c.in_ok-progress.ensures.leaves
          c.in_ok-progress.ensures.plan refl (omega arith) c.in_ok-progress.progress.merged (omega (arith, c.saturating_add-self.ensures, c.from.ensures)) c.in_ok-progress.ensures.mine c.in_ok-progress.ensures.numbered (is_covered_below g.K.KeyOrder.cmp c.plan.result.now.output_level c.deref.result.now.tables) (λ i. is_covered_below g.K.KeyOrder.cmp (c.plan.ensures i).output_level (c.deref.ensures i).tables) t d came left s.0 s.1 can s.2 s.3.long s.4
          (c.in_ok-progress.ensures.limits came left t (runs (order_of g.K.KeyOrder.name g.K.KeyOrder.cmp) (record { facts = g.S.Store.facts; store_of = λ s. s.tables.store; with_store = λ s t. record s { tables = record s.tables { store = t } }; tables_of = λ s. s.tables.tables.tables; blocks_of = λ s. s.tables.blocks.blocks; memory_of = λ s. s.memory; with_memory = λ s w. record s { memory = w } }) (record { stored = λ s t. refl; remembered = λ s w. refl }) c.sound_lasts.ensures d c.args.self.now (is_covered_below g.K.KeyOrder.cmp c.plan.result.now.output_level c.deref.result.now.tables) c.args.source.now c.args.numbers.now.next came left c.args.numbers.now.in_range.1 (λ i. is_covered_below g.K.KeyOrder.cmp (c.plan.ensures i).output_level (c.deref.ensures i).tables) can.running))
          (c.in_ok-progress.ensures.torn came left t (runs (order_of g.K.KeyOrder.name g.K.KeyOrder.cmp) (record { facts = g.S.Store.facts; store_of = λ s. s.tables.store; with_store = λ s t. record s { tables = record s.tables { store = t } }; tables_of = λ s. s.tables.tables.tables; blocks_of = λ s. s.tables.blocks.blocks; memory_of = λ s. s.memory; with_memory = λ s w. record s { memory = w } }) (record { stored = λ s t. refl; remembered = λ s w. refl }) c.sound_lasts.ensures d c.args.self.now (is_covered_below g.K.KeyOrder.cmp c.plan.result.now.output_level c.deref.result.now.tables) c.args.source.now c.args.numbers.now.next came left c.args.numbers.now.in_range.1 (λ i. is_covered_below g.K.KeyOrder.cmp (c.plan.ensures i).output_level (c.deref.ensures i).tables) can.running)),
    )

pub returns-clause-may : goal.returns-clause-may
returns-clause-may g c = λ t contents came left r.
    let s = c.in_ok-progress.ensures.sliced came left t (may_run (order_of g.K.KeyOrder.name g.K.KeyOrder.cmp) (record { facts = g.S.Store.facts; store_of = λ s. s.tables.store; with_store = λ s t. record s { tables = record s.tables { store = t } }; tables_of = λ s. s.tables.tables.tables; blocks_of = λ s. s.tables.blocks.blocks; memory_of = λ s. s.memory; with_memory = λ s w. record s { memory = w } }) (record { stored = λ s t. refl; remembered = λ s w. refl }) c.sound_lasts.ensures contents c.args.self.now (is_covered_below g.K.KeyOrder.cmp c.plan.result.now.output_level c.deref.result.now.tables) c.args.source.now c.args.numbers.now.next came left c.args.numbers.now.in_range.1 (λ i. is_covered_below g.K.KeyOrder.cmp (c.plan.ensures i).output_level (c.deref.ensures i).tables) r) in (
      s.0,
      s.1,
      s.2,
      s.3,
      may_go (order_of g.K.KeyOrder.name g.K.KeyOrder.cmp) (record { facts = g.S.Store.facts; store_of = λ s. s.tables.store; with_store = λ s t. record s { tables = record s.tables { store = t } }; tables_of = λ s. s.tables.tables.tables; blocks_of = λ s. s.tables.blocks.blocks; memory_of = λ s. s.memory; with_memory = λ s w. record s { memory = w } }) (record { stored = λ s t. refl; remembered = λ s w. refl })
          c.sound_lasts.ensures c.args.self.now (record { job = c.step.new.self; version = c.args.self.now.version; next = c.step.new.numbers.next; merged = c.saturating_add-self.result; in_range = _; numbered = _; proper = _ }) c.args.source.now c.step.new.source c.args.numbers.now.next c.step.new.numbers.next c.in_ok-progress.ensures.numbers c.step.new.numbers.in_range.1 c.args.numbers.now.in_range.1 c.in_ok-progress.ensures.writes c.in_ok-progress.ensures.leaves
          c.in_ok-progress.ensures.plan refl (omega arith) c.in_ok-progress.progress.merged (omega (arith, c.saturating_add-self.ensures, c.from.ensures)) c.in_ok-progress.ensures.mine c.in_ok-progress.ensures.numbered (is_covered_below g.K.KeyOrder.cmp c.plan.result.now.output_level c.deref.result.now.tables) (λ i. is_covered_below g.K.KeyOrder.cmp (c.plan.ensures i).output_level (c.deref.ensures i).tables) t contents came left s.0 s.1 r s.2 s.3.long s.4
          (c.in_ok-progress.ensures.limits came left t (may_run (order_of g.K.KeyOrder.name g.K.KeyOrder.cmp) (record { facts = g.S.Store.facts; store_of = λ s. s.tables.store; with_store = λ s t. record s { tables = record s.tables { store = t } }; tables_of = λ s. s.tables.tables.tables; blocks_of = λ s. s.tables.blocks.blocks; memory_of = λ s. s.memory; with_memory = λ s w. record s { memory = w } }) (record { stored = λ s t. refl; remembered = λ s w. refl }) c.sound_lasts.ensures contents c.args.self.now (is_covered_below g.K.KeyOrder.cmp c.plan.result.now.output_level c.deref.result.now.tables) c.args.source.now c.args.numbers.now.next came left c.args.numbers.now.in_range.1 (λ i. is_covered_below g.K.KeyOrder.cmp (c.plan.ensures i).output_level (c.deref.ensures i).tables) r))
          (c.in_ok-progress.ensures.torn came left t (may_run (order_of g.K.KeyOrder.name g.K.KeyOrder.cmp) (record { facts = g.S.Store.facts; store_of = λ s. s.tables.store; with_store = λ s t. record s { tables = record s.tables { store = t } }; tables_of = λ s. s.tables.tables.tables; blocks_of = λ s. s.tables.blocks.blocks; memory_of = λ s. s.memory; with_memory = λ s w. record s { memory = w } }) (record { stored = λ s t. refl; remembered = λ s w. refl }) c.sound_lasts.ensures contents c.args.self.now (is_covered_below g.K.KeyOrder.cmp c.plan.result.now.output_level c.deref.result.now.tables) c.args.source.now c.args.numbers.now.next came left c.args.numbers.now.in_range.1 (λ i. is_covered_below g.K.KeyOrder.cmp (c.plan.ensures i).output_level (c.deref.ensures i).tables) r)),
    )

pub returns-in_err-progress-clause-refused : goal.returns-in_err-progress-clause-refused
returns-in_err-progress-clause-refused g c =
    let p = err_from_is_err_and c.from_residual.result c.from_residual.ensures.1 in
    rw (p.1, p.2) (refuses_step (order_of g.K.KeyOrder.name g.K.KeyOrder.cmp) (record { facts = g.S.Store.facts; store_of = λ s. s.tables.store; with_store = λ s t. record s { tables = record s.tables { store = t } }; tables_of = λ s. s.tables.tables.tables; blocks_of = λ s. s.tables.blocks.blocks; memory_of = λ s. s.memory; with_memory = λ s w. record s { memory = w } }) (record { stored = λ s t. refl; remembered = λ s w. refl })
    c.sound_lasts.ensures c.args.self.now c.args.source.now (g.S.Store.facts c.args.source.now.tables.store) (g.S.Store.facts c.step.new.source.tables.store) c.args.numbers.now.next c.step.new.numbers.next c.in_err-progress.field-0.0
    (is_covered_below g.K.KeyOrder.cmp c.plan.result.now.output_level c.deref.result.now.tables) c.args.numbers.now.in_range.1 (λ i. is_covered_below g.K.KeyOrder.cmp (c.plan.ensures i).output_level (c.deref.ensures i).tables) c.in_err-progress.ensures.refused)

pub returns-clause-stops : goal.returns-clause-stops
returns-clause-stops g c =
    stopped_on (order_of g.K.KeyOrder.name g.K.KeyOrder.cmp) (record { facts = g.S.Store.facts; store_of = λ s. s.tables.store; with_store = λ s t. record s { tables = record s.tables { store = t } }; tables_of = λ s. s.tables.tables.tables; blocks_of = λ s. s.tables.blocks.blocks; memory_of = λ s. s.memory; with_memory = λ s w. record s { memory = w } }) (record { stored = λ s t. refl; remembered = λ s w. refl })
    c.job_writes_law.ensures c.args.self.now c.args.source.now c.step.new.source c.args.numbers.now.next c.step.new.numbers.next c.in_ok-progress.ensures.numbers c.step.new.numbers.in_range.1 c.in_ok-progress.ensures.writes

pub returns-in_err-progress-clause-stops : goal.returns-in_err-progress-clause-stops
returns-in_err-progress-clause-stops g c =
    stopped_on (order_of g.K.KeyOrder.name g.K.KeyOrder.cmp) (record { facts = g.S.Store.facts; store_of = λ s. s.tables.store; with_store = λ s t. record s { tables = record s.tables { store = t } }; tables_of = λ s. s.tables.tables.tables; blocks_of = λ s. s.tables.blocks.blocks; memory_of = λ s. s.memory; with_memory = λ s w. record s { memory = w } }) (record { stored = λ s t. refl; remembered = λ s w. refl })
    c.job_writes_law.ensures c.args.self.now c.args.source.now c.step.new.source c.args.numbers.now.next c.step.new.numbers.next c.in_err-progress.ensures.numbers c.step.new.numbers.in_range.1 c.in_err-progress.ensures.writes

pub returns-then-numbers-self-clause-stops : goal.returns-then-numbers-self-clause-stops
returns-then-numbers-self-clause-stops g c t d came left can = leaves_same (g.S.Store.facts c.args.source.now.tables.store) (g.S.Store.facts c.args.source.now.tables.store) _ refl refl can.consistent

pub returns-in_err-progress-clause-torn : goal.returns-in_err-progress-clause-torn
returns-in_err-progress-clause-torn g c =
    let p = err_from_is_err_and c.from_residual.result c.from_residual.ensures.1 in
    rw (p.1, p.2) (tears_step (order_of g.K.KeyOrder.name g.K.KeyOrder.cmp) (record { facts = g.S.Store.facts; store_of = λ s. s.tables.store; with_store = λ s t. record s { tables = record s.tables { store = t } }; tables_of = λ s. s.tables.tables.tables; blocks_of = λ s. s.tables.blocks.blocks; memory_of = λ s. s.memory; with_memory = λ s w. record s { memory = w } }) (record { stored = λ s t. refl; remembered = λ s w. refl })
    c.sound_lasts.ensures c.args.self.now c.args.source.now (g.S.Store.facts c.args.source.now.tables.store) (g.S.Store.facts c.step.new.source.tables.store) _ _ c.in_err-progress.field-0.0
    (is_covered_below g.K.KeyOrder.cmp c.plan.result.now.output_level c.deref.result.now.tables) c.args.numbers.now.next c.args.numbers.now.in_range.1 (λ i. is_covered_below g.K.KeyOrder.cmp (c.plan.ensures i).output_level (c.deref.ensures i).tables) c.in_err-progress.ensures.refused)

pub returns-then-numbers-self-clause-torn : goal.returns-then-numbers-self-clause-torn
returns-then-numbers-self-clause-torn g c = λ t contents came left r intact. let le = r.drawn in let less = c.if-numbers-self.true in absurd (omega (arith, le, less))
