use Rattle.ikey.specs.Orders.{order_of}
use Rattle.std.proofs.Common.{inl}
use Rattle.engine.proofs.RangeLeads.{leads_as, may_scan_iterate, scan_all, scan_refused}
use Rattle.engine.proofs.db.Db.scan.Goals as goal

pub returns-in-Err-clause-step : goal.returns-in-Err-clause-step
returns-in-Err-clause-step g c = leads_as (λ m n h. inl h) c.in-Err.ensures.step

pub returns-in-Err-clause-allowed : goal.returns-in-Err-clause-allowed
returns-in-Err-clause-allowed g c = may_scan_iterate c.in-Err.error c.in-Err.ensures.outcome.allowed

pub returns-in-Ok-filled-clause-step : goal.returns-in-Ok-filled-clause-step
returns-in-Ok-filled-clause-step g c =
    scan_all (order_of g.K.KeyOrder.name g.K.KeyOrder.cmp) c.args.keys c.args.snapshot c.args.limit c.in-Ok.walk c.range_fill-filled.new.walk c.new-found.result.items c.range_fill-filled.new.sink.items c.new-found.ensures.items c.range_fill-filled.ensures.same.0 c.in-Ok.ensures.step c.range_end.ensures.step c.in-Ok-filled.ensures.step

pub returns-in-Err-filled-clause-step : goal.returns-in-Err-filled-clause-step
returns-in-Err-filled-clause-step g c =
    scan_refused (order_of g.K.KeyOrder.name g.K.KeyOrder.cmp) c.args.keys c.args.snapshot c.args.limit c.in-Ok.walk c.range_fill-filled.new.walk c.new-found.result.items c.range_fill-filled.new.sink.items c.new-found.ensures.items c.range_fill-filled.ensures.same.0 c.in-Ok.ensures.step c.range_end.ensures.step c.in-Err-filled.error c.in-Err-filled.ensures.step
