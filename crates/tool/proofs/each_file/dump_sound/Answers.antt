use Rattle.std.proofs.Common.{Ok, refl, ◌∙◌}
use Rattle.std.specs.Prelude.{None}
use Rattle.ikey.specs.Orders.{order_of}
use Rattle.tool.proofs.SoundFiles.{dumps_sound, dumps_unread}
use Rattle.tool.proofs.each_file.dump_sound.Goals as goal

pub returns-in-Ok-None : goal.returns-in-Ok-None
returns-in-Ok-None g c = (
  g.S.Store.facts c.overview_of.new.store,
  Ok None,
  record { reads = rw c.in-Ok-None.field-0-is at c.in-Ok-None.ensures.store; found = rw c.in-Ok-None.field-0-is at c.in-Ok-None.ensures.found; refused = tt; counted = c.in-Ok-None.ensures.counted },
  (refl, refl, refl),
)

pub returns-in_ok-origins-in-Ok-Some : goal.returns-in_ok-origins-in-Ok-Some
returns-in_ok-origins-in-Ok-Some g c =
    dumps_sound c.print_sound.result (order_of g.K.KeyOrder.name g.K.KeyOrder.cmp) c.args.notation (g.S.Store.facts c.args.store.now) (g.S.Store.facts c.overview_of.new.store) (g.S.Store.facts c.print_sound.new.store)
    (g.W.Write.contents c.args.writer.now) (g.W.Write.contents c.print_sound.new.writer) c.in-Ok-Some.overview c.deref.result.now
    (record { reads = rw c.in-Ok-Some.field-0-is at c.in-Ok-Some.ensures.store; found = rw c.in-Ok-Some.field-0-is at c.in-Ok-Some.ensures.found; refused = tt; counted = c.in-Ok-Some.ensures.counted })
    (c.deref.ensures.value ∙ c.in_ok-origins-in-Ok-Some.ensures) c.print_sound.ensures

pub returns-in-Err : goal.returns-in-Err
returns-in-Err g c =
    dumps_unread c.print_refusal.result (order_of g.K.KeyOrder.name g.K.KeyOrder.cmp) c.args.notation (g.S.Store.facts c.args.store.now) (g.S.Store.facts c.overview_of.new.store)
    (g.W.Write.contents c.args.writer.now) (g.W.Write.contents c.print_refusal.new.writer) c.in-Err.error
    (record { reads = c.in-Err.ensures.store; found = tt; refused = c.in-Err.ensures.refused; counted = c.in-Err.ensures.counted }) c.print_refusal.ensures.written c.print_refusal.ensures.status
