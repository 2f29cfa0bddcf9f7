use Rattle.browse.specs.Bounds.{given}
use Rattle.browse.proofs.Bounds.{is_asked_for}
use Rattle.browse.proofs.limits.range_of.Goals as goal

pub returns : goal.returns
returns c = λ key all.
    is_asked_for c.in_ok-first.field-0 (record { from = c.in_ok-from.from; to = c.in_ok-to.to }) (given c.args.from) (given c.args.to) (given c.args.prefix) key (c.in_ok-from.ensures key) (c.in_ok-to.ensures key) (c.in_ok-first.ensures key all)
