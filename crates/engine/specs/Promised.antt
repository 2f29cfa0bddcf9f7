-- All that is promised of a run over a store, from its files to its files.
use Rattle.std.specs.Prelude.{List}
use Rattle.ikey.specs.Orders.{Order}
use Rattle.machine.specs.declared.command.Answer.{Answer}
use Rattle.machine.specs.declared.command.Op.{Op}
use Rattle.store.specs.Files.{Facts}
use Rattle.engine.specs.Headline.{Headline}
use Rattle.engine.specs.LosesRun.{LosesRun}
use Rattle.engine.specs.Stops.{StopsRun}

pub record Promised (order : Order) (old new : Facts) (ops : List Op) (answers : List Answer) : Type 0 where
  -- what it answers and leaves
  pub headline : Headline order old new ops answers
  -- A process crash at any moment of it leaves what the commands that were answered by then had
  -- written.
  pub stops : StopsRun order old new ops answers
  -- A power loss leaves a prefix of that, if the files at its begin are durable.
  pub loses : LosesRun order old new ops answers
