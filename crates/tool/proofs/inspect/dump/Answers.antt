use Rattle.std.proofs.Common.{ap, refl, sym, ◌∙◌}
use Rattle.ikey.specs.Orders.{order_of}
use Rattle.recover.specs.declared.report.Report.TheVariants.{Empty}
use Rattle.std.proofs.Common.{Ok}
use Rattle.tool.proofs.Dumping.{dumps_good, dumps_refused}
use Rattle.tool.proofs.inspect.dump.Goals as goal

pub returns-in-Ok-Empty : goal.returns-in-Ok-Empty
returns-in-Ok-Empty g c = (
  g.S.Store.facts c.check.new.store,
  Ok Empty,
  record { reads = rw c.in-Ok-Empty.field-0-is at c.in-Ok-Empty.ensures.store; found = rw c.in-Ok-Empty.field-0-is at c.in-Ok-Empty.ensures.found; refused = tt; still = c.in-Ok-Empty.ensures.still },
  (refl, refl, refl),
)

pub returns-in_ok-origins-in-Ok-Good : goal.returns-in_ok-origins-in-Ok-Good
returns-in_ok-origins-in-Ok-Good g c =
    dumps_good c.print_files.result (order_of g.K.KeyOrder.name g.K.KeyOrder.cmp) c.args.notation (g.S.Store.facts c.args.store.now) (g.S.Store.facts c.check.new.store) (g.S.Store.facts c.print_files.new.store) (g.W.Write.contents c.args.writer.now) (g.W.Write.contents c.print_files.new.writer)
    c.in-Ok-Good.summary c.deref.result.now (record { reads = rw c.in-Ok-Good.field-0-is at c.in-Ok-Good.ensures.store; found = rw c.in-Ok-Good.field-0-is at c.in-Ok-Good.ensures.found; refused = tt; still = c.in-Ok-Good.ensures.still }) (c.deref.ensures.value ∙ c.in_ok-origins-in-Ok-Good.ensures) c.print_files.ensures

pub returns-in-Err : goal.returns-in-Err
returns-in-Err g c =
    dumps_refused c.print_refusal.result (order_of g.K.KeyOrder.name g.K.KeyOrder.cmp) c.args.notation (g.S.Store.facts c.args.store.now) (g.S.Store.facts c.check.new.store) (g.W.Write.contents c.args.writer.now) (g.W.Write.contents c.print_refusal.new.writer)
    c.in-Err.error (record { reads = c.in-Err.ensures.store; found = tt; refused = c.in-Err.ensures.refused; still = c.in-Err.ensures.still }) c.print_refusal.ensures.written c.print_refusal.ensures.status
