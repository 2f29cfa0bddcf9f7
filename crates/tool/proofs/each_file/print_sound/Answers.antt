use Rattle.std.proofs.Common.{List, refl, sym, subst}
use Rattle.std.proofs.lemmas.List.{drop_all}
use Rattle.ikey.specs.Orders.{order_of}
use Rattle.recover.specs.declared.origins.Origin.{Origin}
use Rattle.tool.specs.EachFile.{PrintsSound}
use Rattle.tool.proofs.SoundFiles.{sound_more}
use Rattle.tool.proofs.each_file.print_sound.Goals as goal

pub loop-origin-preserved : goal.loop-origin-preserved
loop-origin-preserved g c = λ new after status rest.
    c.loop-origin.invariant new after status
    (sound_more (order_of g.K.KeyOrder.name g.K.KeyOrder.cmp) c.args.notation c.args.origins.now c.loop-origin.origin-index _ c.loop-origin-test.true c.loop-origin.status c.in_ok-one.one c.max-status.result status
    (g.S.Store.facts c.loop-origin.store) (g.S.Store.facts c.print_if_sound.new.store) new (g.W.Write.contents c.loop-origin.writer) (g.W.Write.contents c.print_if_sound.new.writer) after
    c.max-status.ensures c.in_ok-one.ensures rest)

pub returns : goal.returns
returns g c =
    let order = order_of g.K.KeyOrder.name g.K.KeyOrder.cmp in
    let now = g.S.Store.facts c.loop-origin.store in
    let written = g.W.Write.contents c.loop-origin.writer in
    c.loop-origin.invariant now written c.loop-origin.status
    (subst (λ (os : List Origin). PrintsSound order c.args.notation os c.loop-origin.status now now written written c.loop-origin.status)
    (sym (drop_all c.loop-origin.origin-index c.args.origins.now c.loop-origin-test.false)) (refl, refl, refl))
