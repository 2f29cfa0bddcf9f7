use Rattle.std.proofs.Common.{List, ℕ, Some, ◌≡◌, [], sym, subst, ap, ◌∙◌}
use Rattle.std.proofs.lemmas.Result.{err_from_is_err_and}
use Rattle.store.specs.Files.{Facts}
use Rattle.store.proofs.Staying.{stays_behind}
use Rattle.table.specs.Building.{Builds}
use Rattle.table.specs.Writing.{NeedsLongEnds}
use Rattle.compact.specs.Outputs.{Filling, RefusesEntry, table_name}
use Rattle.compact.proofs.Tables.{some-pairs, either-end, either-last}
use Rattle.table.proofs.Storing.{writes_none}
use Rattle.compact.proofs.new_table.NewTable.close.Goals as goal

pub returns-clause-closed : goal.returns-clause-closed
returns-clause-closed g c = λ pairs t h.
    let a : Facts = g.S.Store.facts c.args.store.now in
    let builds = subst (λ (f : Filling). Builds g.K.KeyOrder.cmp f.building a pairs) (sym c.self.view_is) h.builds in
    let w = c.in_ok-size.ensures.written pairs t builds in
    let some : pairs ≡ [] → ⊥ = some-pairs g.K.KeyOrder.cmp c.self.inside.builder a pairs c.if-is_empty.ensures builds in (
      ap (λ (f : Filling). f.number) c.self.view_is,
      record {
        file = w.0;
        has = w.1;
        synced = c.in_ok-size.ensures.synced t ∙ w.1;
        stays = stays_behind (g.S.Store.facts c.finish_file.new.store) (table_name c.self.inside.number) (c.in_ok-size.ensures.ends t);
        table_of = w.3;
        size = w.2;
        smallest = either-end pairs (Some c.args.self.smallest) some h.smallest ∙ ap (λ (f : Filling). Some f.smallest) (sym c.self.view_is);
        largest = either-last pairs (Some c.args.self.largest) some h.largest ∙ ap (λ (f : Filling). Some f.largest) (sym c.self.view_is) ∙ ap (λ (k : List ℕ). Some k) (sym c.from_vec.ensures);
      },
    )

pub returns-in_err-size-clause-refused : goal.returns-in_err-size-clause-refused
returns-in_err-size-clause-refused g c =
    let a : Facts = g.S.Store.facts c.args.store.now in
    let b : Facts = g.S.Store.facts c.finish_file.new.store in
    let p = err_from_is_err_and c.from_residual.result c.from_residual.ensures.1 in
    rw (p.1, p.2) (subst (λ (f : Filling). RefusesEntry c.in_err-size.field-0.0 a b ⊥ (NeedsLongEnds f.building) ⊥)
    c.self.view_is c.in_err-size.ensures.refused)

pub returns-then-is_empty-clause-writes : goal.returns-then-is_empty-clause-writes
returns-then-is_empty-clause-writes g c = writes_none (g.S.Store.facts c.args.store.now) (table_name c.args.self.number)
