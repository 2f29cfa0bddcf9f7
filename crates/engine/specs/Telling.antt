-- What the answer to an open tells of the directory that it found.
use Rattle.std.specs.Prelude.{IsTrue, Option, Some, None}
use Rattle.store.specs.Files.{Facts}
use Rattle.ikey.specs.Orders.{Order}
use Rattle.machine.specs.declared.command.Op.{Op}
use Rattle.machine.specs.declared.command.Op.TheVariants.{Open}
use Rattle.machine.specs.declared.command.Answer.{Answer}
use Rattle.opening.specs.Telling.{Tells}
use Rattle.engine.specs.OpenDb.{OpenDb}
use Rattle.engine.specs.Touching.{unit_result}

-- What the answer to a command tells of a faithful store's files, before the command.
abbrev pub OpenTells : {K : Type 0} {g : _} → Order → Option (OpenDb K g) → Facts → Facts → Answer → Type 0
OpenTells order None old new answer = IsTrue new.faithful → Tells order old.files (unit_result answer)
OpenTells order (Some state) old new answer = Unit {0}

abbrev pub CommandTells : {K : Type 0} {g : _} → Op → Order → Option (OpenDb K g) → Facts → Facts → Answer → Type 0
CommandTells (Open mode) order state old new answer = OpenTells order state old new answer
CommandTells _ order state old new answer = Unit {0}
