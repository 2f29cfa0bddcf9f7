use Rattle.std.proofs.Common.{List, subst}
use Rattle.std.specs.Prelude.{Option}
use Rattle.clap.specs.Words.{Row, Text}
use Rattle.tool.specs.Tasks.{AsksForIn}
use Rattle.tool.proofs.words.settings.Goals as goal

pub returns-in-Some : goal.returns-in-Some
returns-in-Some c = subst (λ (rows : Option (Text × List Row)). AsksForIn rows c.in-Some.task) c.in_ok-matches.ensures c.in-Some.ensures
