use Rattle.std.proofs.lemmas.Cmp.{nat_list_cmp_total}
use Rattle.std.specs.Cmp.Lexicographic.{slice_cmp}
use Rattle.std.specs.Ordering.{nat_cmp}
use Rattle.browse.proofs.Bounds.{starts_first, starts_later}
use Rattle.browse.proofs.limits.later.Goals as goal

pub returns-then-is_less : goal.returns-then-is_less
returns-then-is_less c = λ key.
    starts_later (slice_cmp nat_cmp) nat_list_cmp_total c.args.first c.args.from c.in-Some-first.first c.as_slice.result.now c.in-Some.from c.is_less.result c.in-Some-first.is c.in-Some.is c.as_slice.ensures
    c.in_ok-copied_from-2.field-0 key c.is_less.ensures c.if-is_less.true c.in_ok-copied_from-2.ensures

pub returns : goal.returns
returns c = λ key.
    starts_first (slice_cmp nat_cmp) nat_list_cmp_total c.args.first c.args.from c.in-Some-first.first c.as_slice.result.now c.in-Some.from c.is_less.result c.in-Some-first.is c.in-Some.is c.as_slice.ensures
    key c.is_less.ensures c.if-is_less.false
