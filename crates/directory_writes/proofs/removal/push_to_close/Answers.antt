use Rattle.std.proofs.Common.{◌∷◌, ◌++◌, [], ℕ, List, inl, inr, sym, subst, ◌∙◌}
use Rattle.edits.specs.declared.names.FileName.TheVariants.{Table, OldTable}
use Rattle.directory_writes.specs.internal.Removal.{AreToClose}
use Rattle.directory_writes.proofs.Cleaning.{close_more, close_same, no_table, open_table}
use Rattle.directory_writes.proofs.removal.push_to_close.Goals as goal

pub returns-in_default : goal.returns-in_default
returns-in_default g c names h =
    close_same (g.L.LiveTables.has c.args.live.now) c.args.both.now names c.args.name.now c.args.numbers.now.items (λ n num may here. elim here [
      | inl newer ↦ c.in_default.ensures.none (Table n) num newer
      | inr older ↦ c.in_default.ensures.none (OldTable n) num older
    ]) h

pub returns-in_default-table_number : goal.returns-in_default-table_number
returns-in_default-table_number g c names h =
    let used : ℕ → Type 0 = g.L.LiveTables.has c.args.live.now in
    close_same used c.args.both.now names c.args.name.now c.args.numbers.now.items
    (no_table used c.args.both.now c.args.name.now c.in-Some.file c.in-Some.ensures.found.0 c.in-Some.ensures.found.1 (sym c.table_number.ensures ∙ c.in_default-table_number.is)) h

pub returns-then-stays_open : goal.returns-then-stays_open
returns-then-stays_open g c names h =
    let used : ℕ → Type 0 = g.L.LiveTables.has c.args.live.now in
    close_same used c.args.both.now names c.args.name.now c.args.numbers.now.items
    (open_table used c.args.both.now c.args.name.now c.in-Some.file c.in-Some-table_number.number c.in-Some.ensures.found.0 c.in-Some.ensures.found.1
    (sym c.table_number.ensures ∙ c.in-Some-table_number.is) c.if-stays_open.ensures) h

pub returns : goal.returns
returns g c names h =
    let used : ℕ → Type 0 = g.L.LiveTables.has c.args.live.now in
    subst (λ (numbers : List ℕ). AreToClose used c.args.both.now (names ++ c.args.name.now ∷ []) numbers) (sym {A = List ℕ} c.in_ok-push.ensures.items)
    (close_more used c.args.both.now names c.args.name.now c.args.numbers.now.items c.in-Some.file c.in-Some-table_number.number c.in-Some.ensures.found.0 c.in-Some.ensures.found.1
    (sym c.table_number.ensures ∙ c.in-Some-table_number.is) h)
