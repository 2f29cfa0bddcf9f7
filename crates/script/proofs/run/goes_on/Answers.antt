use Rattle.script.proofs.Ways.{goes_plainly, goes_strictly}
use Rattle.script.proofs.run.goes_on.Goals as goal

pub returns-then-not-strict-clause-exact : goal.returns-then-not-strict-clause-exact
returns-then-not-strict-clause-exact c = goes_plainly c.args.strict c.args.answer.now c.if-not-strict.true

pub returns-clause-exact : goal.returns-clause-exact
returns-clause-exact c = goes_strictly c.args.strict c.is_refusal.result c.args.answer.now c.if-not-strict.false c.is_refusal.ensures
