-- How much an open keeps of its tables' blocks, as its options say.
use Rattle.std.specs.Prelude.{◌≡◌}
use Rattle.machine.specs.declared.command.Answer.{Answer}
use Rattle.machine.specs.declared.command.Answer.TheVariants.{Done}
use Rattle.machine.specs.declared.command.Op.{Op}
use Rattle.machine.specs.declared.command.Op.TheVariants.{Open}
use Rattle.engine.specs.OptionValues.{OptionValues}
use Rattle.engine.specs.Reopening.{FreshOver}
use Rattle.engine.specs.Stands.{open_in}
use Rattle.engine.specs.StandsDb.{db_options_of}
use Rattle.engine.specs.declared.db.Db.{Db}
use Rattle.engine.specs.declared.session.Session.{Session}

-- It was opened with these options, and its cache has room for so many blocks as they say.
pub record HasOptions {S K : Type 0} {g : _} (options : OptionValues) (db : Db S K g) : Type 0 where
  pub are : db_options_of db ≡ options
  pub cache : db.source.tables.blocks.capacity ≡ options.cache_blocks

-- The same holds of a session with its own options, after an open in it that succeeds.
abbrev pub HasCache : {S K : Type 0} {g : _} → Session S K g → Answer → Type 0
HasCache session Done = session.source.tables.blocks.capacity ≡ session.options.cache_blocks
HasCache session answer = Unit {0}

-- Nothing is under way then, either.
pub record BeginsFresh {S K : Type 0} {g : _} (session : Session S K g) (answer : Answer) : Type 0 where
  pub fresh : FreshOver (open_in session) answer
  pub cache : HasCache session answer

-- what is said of a command
abbrev pub FreshBy : {S K : Type 0} {g : _} → Op → Session S K g → Answer → Type 0
FreshBy (Open mode) new answer = BeginsFresh new answer
FreshBy _ new answer = Unit {0}
