use Rattle.compact.specs.Outputs.{IsNumberAtHand}
use Rattle.compact.proofs.Writing.{writes-nothing}
use Rattle.compact.proofs.outputs.Outputs.close_before.Goals as goal

pub returns-then-not-ends_before-clause-writes : goal.returns-then-not-ends_before-clause-writes
returns-then-not-ends_before-clause-writes g c = writes-nothing (g.S.Store.facts c.args.store.now) (IsNumberAtHand c.args.self.now)
