use Rattle.std.proofs.Common.{◌≡◌, ◌∙◌, ◌<◌, ◌≤◌, ℕ, List, length, get_or, map, sym, ap, arith}
use Rattle.std.specs.Prelude.{slice_get}
use Rattle.std.proofs.lemmas.Bool.{ltb-false}
use Rattle.ikey.specs.declared.front.Front.{Front}
use Rattle.memtable.specs.Contents.{Contents}
use Rattle.memtable.specs.Order.{is_node_before, is_before_at}
use Rattle.memtable.specs.Slots.{entry_in}
use Rattle.memtable.proofs.SlotEntries.{none-by-front, before-by-front, behind-by-front}
use Rattle.memtable.proofs.arena.Arena.is_before.Goals as goal

pub returns-in-Less : goal.returns-in-Less
returns-in-Less g c =
    let q = c.in-Some.ensures.lookup in let i = c.self.inside in
    let inside : c.saturating_sub-index.result < length i.fronts.items = omega (arith, q.3.0, ap (λ (v : List Front). length v) c.deref.ensures.value) in
    let is : c.in-Some.own.now ≡ get_or i.fronts.items c.saturating_sub-index.result c.in-Some.own.now = q.1 ∙ ap (λ (v : List Front). get_or v c.saturating_sub-index.result c.in-Some.own.now) c.deref.ensures.value in
    before-by-front i.slots i.keys i.fronts i.bytes i.entry_room i.byte_room c.self.invariant c.saturating_sub-index.result c.in-Some.own.now c.args.front
    g.K.KeyOrder.cmp c.args.key.now c.args.sequence inside is c.requires c.in-Less.ensures
    ∙ ap (λ (n : ℕ). is_before_at g.K.KeyOrder.cmp c.args.key.now c.args.sequence (slice_get (map (entry_in i.bytes.items) i.slots.items) n)) c.saturating_sub-index.ensures
    ∙ ap (λ (v : Contents). is_node_before g.K.KeyOrder.cmp v.inserts c.args.key.now c.args.sequence c.args.number) c.self.view_is

pub returns-in-Greater : goal.returns-in-Greater
returns-in-Greater g c =
    let q = c.in-Some.ensures.lookup in let i = c.self.inside in
    let inside : c.saturating_sub-index.result < length i.fronts.items = omega (arith, q.3.0, ap (λ (v : List Front). length v) c.deref.ensures.value) in
    let is : c.in-Some.own.now ≡ get_or i.fronts.items c.saturating_sub-index.result c.in-Some.own.now = q.1 ∙ ap (λ (v : List Front). get_or v c.saturating_sub-index.result c.in-Some.own.now) c.deref.ensures.value in
    behind-by-front i.slots i.keys i.fronts i.bytes i.entry_room i.byte_room c.self.invariant c.saturating_sub-index.result c.in-Some.own.now c.args.front
    g.K.KeyOrder.cmp c.args.key.now c.args.sequence inside is c.requires c.in-Greater.ensures
    ∙ ap (λ (n : ℕ). is_before_at g.K.KeyOrder.cmp c.args.key.now c.args.sequence (slice_get (map (entry_in i.bytes.items) i.slots.items) n)) c.saturating_sub-index.ensures
    ∙ ap (λ (v : Contents). is_node_before g.K.KeyOrder.cmp v.inserts c.args.key.now c.args.sequence c.args.number) c.self.view_is

pub returns-in-Equal : goal.returns-in-Equal
returns-in-Equal g c =
    c.is_key_before.ensures
    ∙ ap (λ (n : ℕ). is_before_at g.K.KeyOrder.cmp c.args.key.now c.args.sequence (slice_get c.args.self.now.inserts n)) c.saturating_sub-index.ensures

pub returns-in_default : goal.returns-in_default
returns-in_default g c =
    let i = c.self.inside in
    let outside : length i.fronts.items ≤ c.saturating_sub-index.result = omega (arith, ltb-false c.saturating_sub-index.result (length c.deref.result.now) (sym c.in_default.ensures.lookup.0), ap (λ (v : List Front). length v) c.deref.ensures.value) in
    sym (ap (is_before_at g.K.KeyOrder.cmp c.args.key.now c.args.sequence)
    (ap (λ (n : ℕ). slice_get c.args.self.now.inserts n) (sym c.saturating_sub-index.ensures) ∙ ap (λ (v : Contents). slice_get v.inserts c.saturating_sub-index.result) (sym c.self.view_is)
    ∙ none-by-front i.slots i.keys i.fronts i.bytes i.entry_room i.byte_room c.self.invariant c.saturating_sub-index.result outside))
