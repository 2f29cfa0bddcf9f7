use Rattle.std.proofs.Common.{rules, ◌≡◌, ap, length}
use Rattle.std.proofs.lemmas.Fn.{always_returns_same}
use Rattle.std.specs.Ordering.{is_lt}
use Rattle.ikey.specs.Orders.{order_of}
use Rattle.recover.specs.internal.Waiting.{waiting_cmp}
use Rattle.recover.proofs.Smallest.{is_lawful, reordered}
use Rattle.recover.proofs.waiting.by_smallest.Goals as goal

pub returns-clause-waiting : goal.returns-clause-waiting
returns-clause-waiting g c =
    reordered c.args.tables.now (length c.args.tables.now) c.in_ok-waiting.waiting.items c.sort_unstable_by.new.self.items c.sort_unstable_by.ensures.permutation c.in_ok-waiting.ensures

pub returns-clause-sorted : goal.returns-clause-sorted
returns-clause-sorted g c =
    let order = order_of g.K.KeyOrder.name g.K.KeyOrder.cmp in
    c.sort_unstable_by.ensures.sorted (λ a b. is_lt (waiting_cmp g.K.KeyOrder.cmp a b)) (is_lawful order g.met.K.KeyOrder.total)
    (always_returns_same _ (λ a r. is_lt r ≡ is_lt (waiting_cmp g.K.KeyOrder.cmp a.0.now a.1.0.now)) _
    (λ a r f' k. let both : (r ≡ waiting_cmp g.K.KeyOrder.cmp a.0.now a.1.0.now) × (f' ≡ _) = search rules in (ap is_lt both.0, both.1)))
