use Rattle.std.proofs.Common.{◌≡◌, Option, ℕ, true, false, sym, ap, ◌∙◌, subst}
use Rattle.ikey.specs.declared.entry.Entry.{Entry}
use Rattle.ikey.specs.Entries.{internal_entry_of}
use Rattle.ikey.specs.KeyViews.{key_of}
use Rattle.memtable.specs.Order.{ordered}
use Rattle.memtable.specs.Slots.{entry_seen}
use Rattle.cursor.specs.Places.{is_below}
use Rattle.table_access.specs.Memory.{IsFrom}
use Rattle.table_access.proofs.Seeking.{from_none, from_here, from_next, sought_entry}
use Rattle.table_access.proofs.memory_cursor.first_from.Goals as goal

pub returns-in_err-place-clause-from : goal.returns-in_err-place-clause-from
returns-in_err-place-clause-from g c =
    let cmp = g.K.KeyOrder.cmp in
    let key = key_of c.args.key.now in
    let all = ordered cmp c.args.table.now.inserts in
    subst (λ (o : Option ℕ). IsFrom cmp key all o) (sym c.from_residual.ensures)
    (from_none cmp g.met.K.KeyOrder.total g.met.K.KeyOrder.exact key all c.rises.ensures c.in_err-place.ensures.found)

pub returns-then-is_below-clause-from : goal.returns-then-is_below-clause-from
returns-then-is_below-clause-from g c =
    let cmp = g.K.KeyOrder.cmp in
    let key = key_of c.args.key.now in
    let inserts = c.args.table.now.inserts in
    let h = c.in_ok-place.ensures.found in
    let entry = sought_entry cmp inserts key.user key.sequence c.in_ok-place.place (entry_seen c.entry.result) h c.entry.ensures in
    let below : is_below cmp key (internal_entry_of h.1) ≡ true = ap (λ (e : Entry). is_below cmp key (internal_entry_of e)) (sym entry) ∙ (sym c.is_below.ensures ∙ c.if-is_below.true) in
    from_next cmp g.met.K.KeyOrder.total g.met.K.KeyOrder.exact key (ordered cmp inserts) c.rises.ensures c.in_ok-place.place c.next.result h below (c.next.ensures.neighbour h.0 h.2 h.1 h.3)

pub returns-clause-from : goal.returns-clause-from
returns-clause-from g c =
    let cmp = g.K.KeyOrder.cmp in
    let key = key_of c.args.key.now in
    let inserts = c.args.table.now.inserts in
    let h = c.in_ok-place.ensures.found in
    let entry = sought_entry cmp inserts key.user key.sequence c.in_ok-place.place (entry_seen c.entry.result) h c.entry.ensures in
    let other : is_below cmp key (internal_entry_of h.1) ≡ false = ap (λ (e : Entry). is_below cmp key (internal_entry_of e)) (sym entry) ∙ (sym c.is_below.ensures ∙ c.if-is_below.false) in
    from_here cmp g.met.K.KeyOrder.total g.met.K.KeyOrder.exact key (ordered cmp inserts) c.rises.ensures c.in_ok-place.place h other
