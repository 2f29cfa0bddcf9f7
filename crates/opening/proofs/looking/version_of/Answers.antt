use Rattle.ikey.specs.Orders.{order_of}
use Rattle.std.proofs.Common.{subst}
use Rattle.coding.specs.Errors.{RefusesOnly}
use Rattle.coding.specs.declared.error.ReadError.{ReadError}
use Rattle.versions.specs.Levels.{AreTablesApart}
use Rattle.opening.proofs.VersionTables.{version_apart}
use Rattle.opening.proofs.looking.version_of.Goals as goal

pub returns-in-Err-Corrupt-clause-memory : goal.returns-in-Err-Corrupt-clause-memory
returns-in-Err-Corrupt-clause-memory g c =
    let layout = c.args.layout.now in
    let P : ReadError → Type 0 = λ e. RefusesOnly e (AreTablesApart g.K.KeyOrder.cmp layout.tables.items → ⊥) in
    let none = subst P c.in-Err-Corrupt.field-0-is c.in-Err-Corrupt.ensures.refused in
    absurd (none (version_apart (order_of g.K.KeyOrder.name g.K.KeyOrder.cmp) g.met.K.KeyOrder.total layout c.requires.kept c.requires.ranges))
