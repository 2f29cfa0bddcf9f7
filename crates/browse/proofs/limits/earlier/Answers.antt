use Rattle.std.proofs.lemmas.Cmp.{nat_list_cmp_total}
use Rattle.std.specs.Cmp.Lexicographic.{slice_cmp}
use Rattle.std.specs.Ordering.{nat_cmp}
use Rattle.browse.proofs.Bounds.{ends_earlier, ends_first}
use Rattle.browse.proofs.limits.earlier.Goals as goal

pub returns-then-is_less : goal.returns-then-is_less
returns-then-is_less c = λ key.
    ends_earlier (slice_cmp nat_cmp) nat_list_cmp_total c.args.end c.args.to c.in-Some-end.end c.as_slice.result.now c.in-Some.to c.is_less.result c.in-Some-end.is c.in-Some.is c.as_slice.ensures
    c.in_ok-copied_from-2.field-0 key c.is_less.ensures c.if-is_less.true c.in_ok-copied_from-2.ensures

pub returns : goal.returns
returns c = λ key.
    ends_first (slice_cmp nat_cmp) nat_list_cmp_total c.args.end c.args.to c.in-Some-end.end c.as_slice.result.now c.in-Some.to c.is_less.result c.in-Some-end.is c.in-Some.is c.as_slice.ensures
    key c.is_less.ensures c.if-is_less.false
