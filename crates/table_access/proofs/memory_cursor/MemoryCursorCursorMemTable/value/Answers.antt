use Rattle.std.proofs.Common.{Option, List, ℕ, ap, sym, ◌∙◌}
use Rattle.std.specs.Borrow.{Bor}
use Rattle.ikey.specs.Entries.{value_kept}
use Rattle.memtable.specs.Slots.{entry_seen, value_seen}
use Rattle.table_access.proofs.Arriving.{value_shown, no_stranger}
use Rattle.table_access.proofs.memory_cursor.MemoryCursorCursorMemTable.value.Goals as goal

pub returns-in_default : goal.returns-in_default
returns-in_default g c = λ at index entry h place is.
    absurd (no_stranger g.K.KeyOrder.cmp c.args.self.now c.args.source.now at c.place_in.result c.requires c.in_default.is c.place_in.ensures.found h)

pub returns-in-Some-value : goal.returns-in-Some-value
returns-in-Some-value g c = λ at index entry h place is.
    ap (λ (v : Option (Bor (List ℕ))). value_kept (value_seen v)) (sym c.in-Some-value.is)
    ∙ value_shown g.K.KeyOrder.cmp c.args.self.now c.args.source.now at index entry c.place_in.result c.in-Some.place (entry_seen c.entry.result) c.requires c.in-Some.is c.place_in.ensures.found c.entry.ensures h place is

pub returns-in-None : goal.returns-in-None
returns-in-None g c = λ at index entry h place is.
    ap (λ (v : Option (Bor (List ℕ))). value_kept (value_seen v)) (sym c.in-None.is)
    ∙ value_shown g.K.KeyOrder.cmp c.args.self.now c.args.source.now at index entry c.place_in.result c.in-Some.place (entry_seen c.entry.result) c.requires c.in-Some.is c.place_in.ensures.found c.entry.ensures h place is
