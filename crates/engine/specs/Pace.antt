-- Work until there is none, and as much as keeps up with what is written.
use Rattle.std.specs.Prelude.{◌≡◌, ◌≤◌, ◌<◌, ◌*◌, Bool, List, length, Result, Ok, Err}
use Rattle.batch.specs.declared.operation.Operation.{Operation}
use Rattle.coding.specs.declared.error.DbError.{DbError}
use Rattle.memtable.specs.Contents.{size_of}
use Rattle.versions.specs.Levels.{tables_at}
use Rattle.machine.specs.Access.{Writes}
use Rattle.machine.specs.Machine.{Machine}
use Rattle.machine.specs.Serving.{◌≈◌}
use Rattle.machine.specs.declared.command.Answer.TheVariants as answer
use Rattle.engine.specs.OpenDb.{OpenDb}
use Rattle.engine.specs.OptionValues.{OptionValues}
use Rattle.engine.specs.declared.pace.Pace.{Pace}
use Rattle.engine.specs.declared.pace.Pace.TheVariants.{KeepsUp, Refused}

-- Nothing that is read has changed: file numbers were drawn, and a failure of the store may have
-- broken the database.
abbrev pub OnlyWorks : Machine → Machine → Type 0
OnlyWorks old new = (old.numbers ≤ new.numbers) × (new ≈ record old { numbers = new.numbers; broken = new.broken })

-- and none has
abbrev pub OnlyDraws : Machine → Machine → Type 0
OnlyDraws old new = OnlyWorks old new × (new.broken ≡ old.broken)

-- Work keeps up with writes: the memtable that takes them has fewer bytes than it may, and level 0
-- at most three times as many tables as start a compaction.
pub record HasKeptUp {K : Type 0} {g : _} (options : OptionValues) (db : OpenDb K g) : Type 0 where
  pub memory : size_of db.memory.current.inserts < options.write_buffer
  pub tables : length (tables_at 0 db.tables) ≤ 3 * options.level0_files

-- what work does to the machine, whether it kept up or failed
abbrev pub WorksAtPace : Pace → Machine → Machine → Type 0
WorksAtPace KeepsUp old new = OnlyDraws old new
WorksAtPace (Refused error) old new = OnlyWorks old new

-- A batch was written, and work was done after it; or the write failed, and nothing was done.
abbrev pub WritesAtPace : Machine → List Operation → Bool → Result Pace DbError → Machine → Type 0
WritesAtPace old operations sync (Ok pace) new = (written : Machine) × Writes old operations sync answer.Done written × WorksAtPace pace written new
WritesAtPace old operations sync (Err error) new = Writes old operations sync (answer.Refused error) new
