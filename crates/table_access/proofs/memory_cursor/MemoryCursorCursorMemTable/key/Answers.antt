use Rattle.std.proofs.Common.{List, ℕ, ap, sym, ◌∙◌, subst}
use Rattle.ikey.specs.Keys.{IsKey}
use Rattle.table_access.specs.Memory.{MemoryPlace}
use Rattle.table_access.proofs.Arriving.{key_shown}
use Rattle.table_access.proofs.memory_cursor.MemoryCursorCursorMemTable.key.Goals as goal

pub returns : goal.returns
returns g c = λ at index entry h place is.
    subst (λ (bytes : List ℕ). IsKey bytes entry.key) (sym (c.as_slice.ensures.value ∙ ap (λ (p : MemoryPlace). p.key) c.self.view_is))
    (key_shown g.K.KeyOrder.cmp c.args.self.now c.args.source.now at index entry c.requires h place is)
