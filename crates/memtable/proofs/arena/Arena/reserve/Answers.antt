use Rattle.std.proofs.Common.{◌≡◌, length, ap, arith}
use Rattle.std.proofs.lemmas.List.{length-map}
use Rattle.memtable.specs.Contents.{Contents}
use Rattle.memtable.specs.Slots.{entry_in}
use Rattle.memtable.proofs.SlotEntries.{slots-room, fronts-as-slots, spans-as-slots}
use Rattle.memtable.proofs.arena.Arena.reserve.Goals as goal

pub invariant_of-self-2 : goal.invariant_of-self-2
invariant_of-self-2 c =
    let i = c.self.inside in
    let room : i.entry_room ≡ c.args.self.now.entry_room = ap (λ (v : Contents). v.entry_room) c.self.view_is in
    let fronts = fronts-as-slots i.slots i.keys i.fronts i.bytes i.entry_room i.byte_room c.self.invariant in
    let spans = spans-as-slots i.slots i.keys i.fronts i.bytes i.entry_room i.byte_room c.self.invariant in
    slots-room i.slots c.reserve.new.self i.keys c.reserve-2.new.self i.fronts c.reserve-3.new.self i.bytes c.reserve-4.new.self i.entry_room i.byte_room _ _ c.self.invariant
    c.reserve.ensures.items c.reserve-2.ensures.items c.reserve-3.ensures.items c.reserve-4.ensures.items
    (omega (arith, c.in_ok-reserve.ensures.ok, c.reserve.ensures.capacity, c.max-self-inside.ensures, c.self.invariant.slots_fit, i.slots.ok.0))
    (omega (arith, c.in_ok-reserve-2.ensures.ok, c.reserve-2.ensures.capacity, c.max-self-inside.ensures, c.self.invariant.keys_fit, spans, i.keys.ok.0))
    (omega (arith, c.in_ok-reserve-3.ensures.ok, c.reserve-3.ensures.capacity, c.max-self-inside.ensures, c.self.invariant.fronts_fit, fronts, i.fronts.ok.0))
    (omega (arith, c.in_ok-reserve-4.ensures.ok, c.reserve-4.ensures.capacity, c.max-self-inside-2.ensures, c.self.invariant.bytes_fit, i.bytes.ok.0))
    (omega (arith, c.max-self-inside.ensures, c.self.invariant.few, c.requires, room, ap (λ (v : Contents). length v.inserts) c.self.view_is, length-map i.slots.items (entry_in i.bytes.items)))
    (omega (arith, c.max-self-inside-2.ensures, c.max.ensures, c.saturating_add-long.ensures, c.if-long.false, c.len.ensures, i.bytes.ok.0))
