use Rattle.std.proofs.Common.{◌≡◌, ◌∙◌, ◌<◌, ℕ, List, length, get_or, nat_lt, sym, ap, arith, None}
use Rattle.std.specs.Prelude.{slice_get}
use Rattle.memtable.specs.Contents.{Contents}
use Rattle.memtable.specs.Order.{is_before_at}
use Rattle.memtable.specs.declared.arena.Slot.{Slot}
use Rattle.memtable.specs.declared.arena.KeySpan.{KeySpan}
use Rattle.memtable.proofs.SlotEntries.{span-within, before-by-span}
use Rattle.memtable.proofs.arena.Arena.is_key_before.Goals as goal

abbrev some_slot : Slot
some_slot = record { start = 0; key_length = 0; value_length = None; sequence = 0 }

pub slice_bounds-own-end : goal.slice_bounds-own-end
slice_bounds-own-end g c =
    let q = c.in-Some.ensures.lookup in let i = c.self.inside in
    let inside : c.args.index < length i.keys.items = omega (arith, q.3.0, ap (λ (v : List KeySpan). length v) c.deref.ensures.value) in
    let is : c.in-Some.span.now ≡ get_or i.keys.items c.args.index c.in-Some.span.now = q.1 ∙ ap (λ (v : List KeySpan). get_or v c.args.index c.in-Some.span.now) c.deref.ensures.value in
    let w = span-within i.slots i.keys i.fronts i.bytes i.entry_room i.byte_room c.self.invariant c.args.index c.in-Some.span.now some_slot inside is in
    omega (arith, w, ap (λ (v : List ℕ). length v) c.deref-2.ensures.value)

pub returns-in-Less : goal.returns-in-Less
returns-in-Less g c =
    let q = c.in-Some.ensures.lookup in let i = c.self.inside in
    let inside : c.args.index < length i.keys.items = omega (arith, q.3.0, ap (λ (v : List KeySpan). length v) c.deref.ensures.value) in
    let is : c.in-Some.span.now ≡ get_or i.keys.items c.args.index c.in-Some.span.now = q.1 ∙ ap (λ (v : List KeySpan). get_or v c.args.index c.in-Some.span.now) c.deref.ensures.value in
    let found = before-by-span i.slots i.keys i.fronts i.bytes i.entry_room i.byte_room c.self.invariant c.args.index c.in-Some.span.now some_slot inside is
    g.K.KeyOrder.cmp c.args.key.now c.deref-2.result.now c.args.sequence _ c.deref-2.ensures.value c.in-Less.ensures in
    sym found ∙ ap (λ (v : Contents). is_before_at g.K.KeyOrder.cmp c.args.key.now c.args.sequence (slice_get v.inserts c.args.index)) c.self.view_is

pub returns-in-Greater : goal.returns-in-Greater
returns-in-Greater g c =
    let q = c.in-Some.ensures.lookup in let i = c.self.inside in
    let inside : c.args.index < length i.keys.items = omega (arith, q.3.0, ap (λ (v : List KeySpan). length v) c.deref.ensures.value) in
    let is : c.in-Some.span.now ≡ get_or i.keys.items c.args.index c.in-Some.span.now = q.1 ∙ ap (λ (v : List KeySpan). get_or v c.args.index c.in-Some.span.now) c.deref.ensures.value in
    let found = before-by-span i.slots i.keys i.fronts i.bytes i.entry_room i.byte_room c.self.invariant c.args.index c.in-Some.span.now some_slot inside is
    g.K.KeyOrder.cmp c.args.key.now c.deref-2.result.now c.args.sequence _ c.deref-2.ensures.value c.in-Greater.ensures in
    sym found ∙ ap (λ (v : Contents). is_before_at g.K.KeyOrder.cmp c.args.key.now c.args.sequence (slice_get v.inserts c.args.index)) c.self.view_is

pub returns-in-Equal : goal.returns-in-Equal
returns-in-Equal g c =
    let q = c.in-Some.ensures.lookup in let i = c.self.inside in
    let inside : c.args.index < length i.keys.items = omega (arith, q.3.0, ap (λ (v : List KeySpan). length v) c.deref.ensures.value) in
    let is : c.in-Some.span.now ≡ get_or i.keys.items c.args.index c.in-Some.span.now = q.1 ∙ ap (λ (v : List KeySpan). get_or v c.args.index c.in-Some.span.now) c.deref.ensures.value in
    let found = before-by-span i.slots i.keys i.fronts i.bytes i.entry_room i.byte_room c.self.invariant c.args.index c.in-Some.span.now c.index.result.now inside is
    g.K.KeyOrder.cmp c.args.key.now c.deref-2.result.now c.args.sequence _ c.deref-2.ensures.value c.in-Equal.ensures in
    ap (λ (v : Slot). nat_lt c.args.sequence v.sequence) c.index.ensures
    ∙ sym found ∙ ap (λ (v : Contents). is_before_at g.K.KeyOrder.cmp c.args.key.now c.args.sequence (slice_get v.inserts c.args.index)) c.self.view_is
