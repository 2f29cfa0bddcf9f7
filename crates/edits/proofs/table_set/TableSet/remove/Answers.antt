use Rattle.edits.proofs.Ranked.{remove_done, remove_keeps, remove_refused}
use Rattle.edits.proofs.table_set.TableSet.remove.Goals as goal

pub returns-then-is_none-clause-refused : goal.returns-then-is_none-clause-refused
returns-then-is_none-clause-refused c =
    rw (← c.self.view_is) (remove_refused c.self.inside.tables.entries c.self.inside.numbers c.self.invariant.0 c.self.invariant.1 c.args.level c.args.number c.remove.result c.remove.ensures.value c.if-is_none.ensures)

pub invariant_of-self-2 : goal.invariant_of-self-2
invariant_of-self-2 c =
    remove_keeps c.self.inside.tables.entries c.self.inside.numbers c.self.invariant.0 c.self.invariant.1 c.args.level c.args.number c.remove.result c.remove.ensures.value
    c.remove.new.self.entries c.if-is_none.ensures c.remove.ensures.entries c.remove-2.new.self c.remove-2.ensures.updates.0

pub returns-clause-done : goal.returns-clause-done
returns-clause-done c =
    rw (← c.self.view_is) (remove_done c.self.inside.tables.entries c.self.inside.numbers c.self.invariant.0 c.self.invariant.1 c.args.level c.args.number c.remove.result c.remove.ensures.value
    c.remove.new.self.entries c.if-is_none.ensures c.remove.ensures.entries)
