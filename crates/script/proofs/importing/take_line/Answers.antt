use Rattle.script.proofs.importing.take_line.Goals as goal

pub returns-in_default : goal.returns-in_default
returns-in_default c = rw c.in_default.is at c.in_ok-operation.ensures

pub returns : goal.returns
returns c = (c.in-Some.operation, rw c.in-Some.is at c.in_ok-operation.ensures, c.in_ok-push.ensures.ok)
