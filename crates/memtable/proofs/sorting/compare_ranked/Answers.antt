use Rattle.std.proofs.Common.{[], sym, ap}
use Rattle.std.specs.Ordering.{nat_cmp, ordering_then}
use Rattle.std.specs.declared.cmp.Ordering.{Ordering}
use Rattle.memtable.proofs.sorting.compare_ranked.Goals as goal

pub returns-in-Less : goal.returns-in-Less
returns-in-Less g c =
    let a = c.args.a.now in let b = c.args.b.now in
    sym (ap (λ (o : Ordering). ordering_then o (nat_cmp b.sequence a.sequence)) (c.in-Less.ensures [] a.key.now b.key.now a.is_front b.is_front))

pub returns-in-Greater : goal.returns-in-Greater
returns-in-Greater g c =
    let a = c.args.a.now in let b = c.args.b.now in
    sym (ap (λ (o : Ordering). ordering_then o (nat_cmp b.sequence a.sequence)) (c.in-Greater.ensures [] a.key.now b.key.now a.is_front b.is_front))
