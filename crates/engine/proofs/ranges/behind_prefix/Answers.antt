use Rattle.std.proofs.Common.{◌∙◌, Some, ap, sym}
use Rattle.engine.proofs.Prefixes.{raised_last, without_last}
use Rattle.engine.proofs.ranges.behind_prefix.Goals as goal

pub returns-then-last-lt255 : goal.returns-then-last-lt255
returns-then-last-lt255 c =
    ap Some c.in_ok-end.ensures
    ∙ sym (raised_last c.loop-rest.rest.now c.in-len1-up.len_at_least c.if-last-lt255.true)
    ∙ c.loop-rest.invariant

pub loop-rest-preserved : goal.loop-rest-preserved
loop-rest-preserved c = without_last c.loop-rest.rest.now c.in-len1-up.len_at_least c.if-last-lt255.false ∙ c.loop-rest.invariant
