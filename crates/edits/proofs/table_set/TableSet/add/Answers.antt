use Rattle.std.proofs.Common.{sym, ◌∙◌}
use Rattle.edits.proofs.Ranked.{add_done, add_keeps, add_refused}
use Rattle.edits.proofs.table_set.TableSet.add.Goals as goal

pub returns-then-not-branch-clause-refused : goal.returns-then-not-branch-clause-refused
returns-then-not-branch-clause-refused c =
    rw (← c.self.view_is) (add_refused c.self.inside.tables.entries c.self.inside.numbers c.self.invariant.0 c.self.invariant.1 c.args.new (sym c.in_ok-insert.ensures.added ∙ c.if-not-branch.true))

pub invariant_of-self-in-Ok : goal.invariant_of-self-in-Ok
invariant_of-self-in-Ok c =
    let added = sym c.in_ok-insert.ensures.added ∙ c.if-not-branch.false in
    add_keeps c.self.inside.tables.entries c.self.inside.numbers c.self.invariant.0 c.self.invariant.1 c.args.new c.insert-2.new.self.entries added c.in-Ok.ensures.entries c.insert.new.self c.in_ok-insert.ensures.updates.0

pub returns-clause-done : goal.returns-clause-done
returns-clause-done c =
    let added = sym c.in_ok-insert.ensures.added ∙ c.if-not-branch.false in
    rw (← c.self.view_is) (add_done c.self.inside.tables.entries c.self.inside.numbers c.self.invariant.0 c.self.invariant.1 c.args.new c.insert-2.new.self.entries added c.in-Ok.ensures.entries)
