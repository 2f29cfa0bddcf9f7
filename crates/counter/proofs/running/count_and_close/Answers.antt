use Rattle.ikey.specs.Orders.{order_of}
use Rattle.counter.proofs.Counting.{leads_then}
use Rattle.counter.proofs.OverFiles.{counts_on, leads_shut, scan_stays}
use Rattle.counter.proofs.running.count_and_close.Goals as goal

pub returns-clause-step : goal.returns-clause-step
returns-clause-step g c =
    let order = order_of g.K.KeyOrder.name g.K.KeyOrder.cmp in
    let count = c.count_each-count.result.0 in
    leads_then (λ m at n h k. (at, h, k))
    (leads_then (λ m at n h k. counts_on c.args.names.now count m at n h (scan_stays order c.all.result c.args.most (λ found. found.items) at n c.scan-pairs.result k)) c.count_each-count.ensures.counted c.scan-pairs.ensures.step)
    (leads_shut order (g.S.Store.facts c.close-store.result.0) c.close-store.result.1 c.close-store.ensures.step)
