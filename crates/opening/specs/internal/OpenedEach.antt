-- Why an open ends, in each directory that differs in tables alone.
use Rattle.coding.specs.declared.error.DbError.{DbError}
use Rattle.ikey.specs.Orders.{Order}
use Rattle.machine.specs.declared.command.Mode.{Mode}
use Rattle.store.specs.Files.{Facts, Files}
use Rattle.directory_writes.specs.Differing.{DiffersInTables, with_files}
use Rattle.directory_writes.specs.internal.Flush.{IsCorrupt}
use Rattle.opening.specs.internal.Opening.{RefusesOpen}

-- It ends for the same reason there, but for damage, which may be that of a table's length.
abbrev pub RefusedEachLaw : Type 0
RefusedEachLaw = (order : Order) (mode : Mode) (e : DbError) (old new : Facts) (whole : Files) → DiffersInTables old.files whole → (IsCorrupt e → ⊥)
    → RefusesOpen order mode e old new → RefusesOpen order mode e (with_files old whole) new
