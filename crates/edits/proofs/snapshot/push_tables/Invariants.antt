use Rattle.std.proofs.Common.{◌≡◌, ◌++◌, map, take}
use Rattle.edits.specs.declared.field.Field.TheVariants.{NewFile}
use Rattle.edits.proofs.snapshot.push_tables.Given as goal

-- the tables so far are added
abbrev pub invariant-loop-placed : goal.invariant-loop-placed
invariant-loop-placed l = l.edit ≡ l.fn.edit ++ map NewFile (take l.placed-index l.tables)
