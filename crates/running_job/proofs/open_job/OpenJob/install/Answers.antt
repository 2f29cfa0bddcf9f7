use Rattle.std.proofs.Common.{Err, arith, refl}
use Rattle.coding.specs.declared.error.Damage.TheVariants.{Number}
use Rattle.coding.specs.declared.error.DbError.TheVariants.{Corrupt}
use Rattle.coding.specs.declared.error.FileKind.TheVariants.{Table}
use Rattle.directory_writes.specs.declared.flush.FlushError.TheVariants.{Before}
use Rattle.compact.proofs.Numbered.{numbered-later}
use Rattle.ikey.specs.Orders.{order_of}
use Rattle.running_job.proofs.Ended.{end_stopped, end_stopped_own, end_unstopped, end_unstopped_own, has_merged, leaves_end, on_ok, puts_none, refuses_end}
use Rattle.running_job.proofs.EndedEach.{ends_each, older_each, puts_each, spent_each, stopped_each, unstopped_each}
use Rattle.running_job.proofs.open_job.OpenJob.install.Goals as goal
use Rattle.store.proofs.Carrying.{carries_same}

pub install_job-requires-clause-numbered : goal.install_job-requires-clause-numbered
install_job-requires-clause-numbered g c =
    numbered-later c.args.self.job.outputs c.args.self.next c.args.numbers.now.next (omega (arith, c.if-numbers-self.false)) (c.args.self.numbered (omega (arith, c.if-numbers-self.false, c.if-numbers-gt-NUMBER_END.false)))

pub returns-clause-refused : goal.returns-clause-refused
returns-clause-refused g c =
    refuses_end (order_of g.K.KeyOrder.name g.K.KeyOrder.cmp) c.args.self (g.S.Store.facts c.args.store.now) c.args.numbers.now.next c.args.last_sequence c.args.manifest.now c.args.version.now.tables (omega (arith, c.if-numbers-gt-NUMBER_END.false))
    (g.S.Store.facts c.install_job.new.store) c.install_job.result c.install_job.ensures.leaves c.install_job.ensures.refused

pub returns-clause-leaves : goal.returns-clause-leaves
returns-clause-leaves g c =
    leaves_end (order_of g.K.KeyOrder.name g.K.KeyOrder.cmp) c.args.self (g.S.Store.facts c.args.store.now) c.args.numbers.now.next c.args.last_sequence c.args.manifest.now c.args.version.now.tables (omega (arith, c.if-numbers-gt-NUMBER_END.false))
    (g.S.Store.facts c.install_job.new.store) c.install_job.result c.install_job.ensures.leaves

pub returns-then-numbers-self-clause-stops : goal.returns-then-numbers-self-clause-stops
returns-then-numbers-self-clause-stops g c f = end_unstopped (order_of g.K.KeyOrder.name g.K.KeyOrder.cmp) c.args.self (g.S.Store.facts c.args.store.now) c.args.numbers.now.next c.args.last_sequence c.args.manifest.now c.args.version.now.tables

pub returns-then-numbers-gt-NUMBER_END-clause-stops : goal.returns-then-numbers-gt-NUMBER_END-clause-stops
returns-then-numbers-gt-NUMBER_END-clause-stops g c f = end_unstopped (order_of g.K.KeyOrder.name g.K.KeyOrder.cmp) c.args.self (g.S.Store.facts c.args.store.now) c.args.numbers.now.next c.args.last_sequence c.args.manifest.now c.args.version.now.tables

pub returns-clause-stops : goal.returns-clause-stops
returns-clause-stops g c f =
    end_stopped (order_of g.K.KeyOrder.name g.K.KeyOrder.cmp) c.args.self (g.S.Store.facts c.args.store.now) c.args.numbers.now.next c.args.last_sequence c.args.manifest.now c.args.version.now.tables (omega (arith, c.if-numbers-gt-NUMBER_END.false))
    (g.S.Store.facts c.install_job.new.store) (c.install_job.ensures.stops f)

pub returns-clause-merged : goal.returns-clause-merged
returns-clause-merged g c = on_ok c.install_job.result _ (has_merged (order_of g.K.KeyOrder.name g.K.KeyOrder.cmp) (g.S.Store.facts c.args.store.now) c.args.numbers.now.next c.args.self)

-- ---- in each directory that differs in tables alone

pub returns-then-numbers-self-clause-leaves_each : goal.returns-then-numbers-self-clause-leaves_each
returns-then-numbers-self-clause-leaves_each g c = older_each (order_of g.K.KeyOrder.name g.K.KeyOrder.cmp) c.args.self (g.S.Store.facts c.args.store.now) c.args.numbers.now.next c.args.last_sequence c.args.manifest.now c.args.version.now.tables c.if-numbers-self.true (Err (Before (Corrupt Table Number)))

pub returns-then-numbers-gt-NUMBER_END-clause-leaves_each : goal.returns-then-numbers-gt-NUMBER_END-clause-leaves_each
returns-then-numbers-gt-NUMBER_END-clause-leaves_each g c = spent_each (order_of g.K.KeyOrder.name g.K.KeyOrder.cmp) c.args.self (g.S.Store.facts c.args.store.now) c.args.numbers.now.next c.args.last_sequence c.args.manifest.now c.args.version.now.tables

pub returns-clause-leaves_each : goal.returns-clause-leaves_each
returns-clause-leaves_each g c =
    ends_each (order_of g.K.KeyOrder.name g.K.KeyOrder.cmp) c.args.self (g.S.Store.facts c.args.store.now) c.args.numbers.now.next c.args.last_sequence c.args.manifest.now c.args.version.now.tables
    (numbered-later c.args.self.job.outputs c.args.self.next c.args.numbers.now.next (omega (arith, c.if-numbers-self.false)) (c.args.self.numbered (omega (arith, c.if-numbers-self.false, c.if-numbers-gt-NUMBER_END.false)))) (omega (arith, c.if-numbers-gt-NUMBER_END.false))
    (g.S.Store.facts c.install_job.new.store) c.install_job.result c.install_job.ensures.leaves_each

pub returns-then-numbers-self-clause-owns_each : goal.returns-then-numbers-self-clause-owns_each
returns-then-numbers-self-clause-owns_each g c ideal after differs same is = absurd (cc)

pub returns-then-numbers-gt-NUMBER_END-clause-owns_each : goal.returns-then-numbers-gt-NUMBER_END-clause-owns_each
returns-then-numbers-gt-NUMBER_END-clause-owns_each g c ideal after differs same is = absurd (cc)

pub returns-clause-owns_each : goal.returns-clause-owns_each
returns-clause-owns_each g c =
    puts_each (order_of g.K.KeyOrder.name g.K.KeyOrder.cmp) c.args.self (g.S.Store.facts c.args.store.now) c.args.numbers.now.next c.args.last_sequence c.args.manifest.now c.args.version.now.tables
    (numbered-later c.args.self.job.outputs c.args.self.next c.args.numbers.now.next (omega (arith, c.if-numbers-self.false)) (c.args.self.numbered (omega (arith, c.if-numbers-self.false, c.if-numbers-gt-NUMBER_END.false)))) (omega (arith, c.if-numbers-gt-NUMBER_END.false))
    (g.S.Store.facts c.install_job.new.store) c.install_job.result c.install_job.ensures.owns_each

pub returns-then-numbers-self-clause-stops_each : goal.returns-then-numbers-self-clause-stops_each
returns-then-numbers-self-clause-stops_each g c f = unstopped_each (order_of g.K.KeyOrder.name g.K.KeyOrder.cmp) c.args.self (g.S.Store.facts c.args.store.now) c.args.numbers.now.next c.args.last_sequence c.args.manifest.now c.args.version.now.tables

pub returns-then-numbers-gt-NUMBER_END-clause-stops_each : goal.returns-then-numbers-gt-NUMBER_END-clause-stops_each
returns-then-numbers-gt-NUMBER_END-clause-stops_each g c f = unstopped_each (order_of g.K.KeyOrder.name g.K.KeyOrder.cmp) c.args.self (g.S.Store.facts c.args.store.now) c.args.numbers.now.next c.args.last_sequence c.args.manifest.now c.args.version.now.tables

pub returns-clause-stops_each : goal.returns-clause-stops_each
returns-clause-stops_each g c f =
    stopped_each (order_of g.K.KeyOrder.name g.K.KeyOrder.cmp) c.args.self (g.S.Store.facts c.args.store.now) c.args.numbers.now.next c.args.last_sequence c.args.manifest.now c.args.version.now.tables
    (numbered-later c.args.self.job.outputs c.args.self.next c.args.numbers.now.next (omega (arith, c.if-numbers-self.false)) (c.args.self.numbered (omega (arith, c.if-numbers-self.false, c.if-numbers-gt-NUMBER_END.false)))) (omega (arith, c.if-numbers-gt-NUMBER_END.false))
    (g.S.Store.facts c.install_job.new.store) (c.install_job.ensures.stops_each f)

-- ---- which names it leaves alone

pub returns-then-numbers-self-clause-carries : goal.returns-then-numbers-self-clause-carries
returns-then-numbers-self-clause-carries g c f = carries_same (g.S.Store.facts c.args.store.now) (g.S.Store.facts c.args.store.now) _ refl refl refl

pub returns-then-numbers-gt-NUMBER_END-clause-carries : goal.returns-then-numbers-gt-NUMBER_END-clause-carries
returns-then-numbers-gt-NUMBER_END-clause-carries g c f = carries_same (g.S.Store.facts c.args.store.now) (g.S.Store.facts c.args.store.now) _ refl refl refl

pub returns-then-numbers-self-clause-puts : goal.returns-then-numbers-self-clause-puts
returns-then-numbers-self-clause-puts g c f = puts_none (g.S.Store.facts c.args.store.now) _ _ _

pub returns-then-numbers-gt-NUMBER_END-clause-puts : goal.returns-then-numbers-gt-NUMBER_END-clause-puts
returns-then-numbers-gt-NUMBER_END-clause-puts g c f = puts_none (g.S.Store.facts c.args.store.now) _ _ _

-- ---- whose tables it puts in

pub returns-then-numbers-self-clause-stops_own : goal.returns-then-numbers-self-clause-stops_own
returns-then-numbers-self-clause-stops_own g c f = end_unstopped_own (order_of g.K.KeyOrder.name g.K.KeyOrder.cmp) c.args.self (g.S.Store.facts c.args.store.now) c.args.numbers.now.next c.args.last_sequence c.args.manifest.now c.args.version.now.tables

pub returns-then-numbers-gt-NUMBER_END-clause-stops_own : goal.returns-then-numbers-gt-NUMBER_END-clause-stops_own
returns-then-numbers-gt-NUMBER_END-clause-stops_own g c f = end_unstopped_own (order_of g.K.KeyOrder.name g.K.KeyOrder.cmp) c.args.self (g.S.Store.facts c.args.store.now) c.args.numbers.now.next c.args.last_sequence c.args.manifest.now c.args.version.now.tables

pub returns-clause-stops_own : goal.returns-clause-stops_own
returns-clause-stops_own g c f =
    end_stopped_own (order_of g.K.KeyOrder.name g.K.KeyOrder.cmp) c.args.self (g.S.Store.facts c.args.store.now) c.args.numbers.now.next c.args.last_sequence c.args.manifest.now c.args.version.now.tables (omega (arith, c.if-numbers-gt-NUMBER_END.false))
    (g.S.Store.facts c.install_job.new.store) (c.install_job.ensures.stops_own f)
