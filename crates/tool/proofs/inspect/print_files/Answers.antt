use Rattle.std.proofs.Common.{ℕ, List, Option, refl, sym, subst}
use Rattle.std.proofs.lemmas.List.{drop_all}
use Rattle.ikey.specs.Orders.{order_of}
use Rattle.recover.specs.declared.origins.Origin.{Origin}
use Rattle.tool.specs.Inspecting.{PrintsFile, PrintsFiles}
use Rattle.tool.proofs.Dumping.{goes_on, stopped_at}
use Rattle.tool.proofs.inspect.print_files.Goals as goal

pub returns-in-Some : goal.returns-in-Some
returns-in-Some g c =
    let order = order_of g.K.KeyOrder.name g.K.KeyOrder.cmp in
    let old = g.S.Store.facts c.loop-origin.store in
    let new = g.S.Store.facts c.print_file.new.store in
    let before = g.W.Write.contents c.loop-origin.writer in
    let after = g.W.Write.contents c.print_file.new.writer in
    c.loop-origin.invariant new after c.in-Some.status
    (stopped_at order c.args.notation c.args.origins.now c.loop-origin.origin-index _ c.loop-origin-test.true old new before after c.in-Some.status
    (rw c.in-Some.is at c.in_ok-status.ensures))

pub loop-origin-preserved : goal.loop-origin-preserved
loop-origin-preserved g c = λ new after status rest.
    let order = order_of g.K.KeyOrder.name g.K.KeyOrder.cmp in
    let old = g.S.Store.facts c.loop-origin.store in
    let mid = g.S.Store.facts c.print_file.new.store in
    let before = g.W.Write.contents c.loop-origin.writer in
    let between = g.W.Write.contents c.print_file.new.writer in
    c.loop-origin.invariant new after status
    (goes_on order c.args.notation c.args.origins.now c.loop-origin.origin-index _ c.loop-origin-test.true old new before after status mid between
    (rw c.in_default.is at c.in_ok-status.ensures) rest)

pub returns : goal.returns
returns g c =
    let order = order_of g.K.KeyOrder.name g.K.KeyOrder.cmp in
    let now = g.S.Store.facts c.loop-origin.store in
    let written = g.W.Write.contents c.loop-origin.writer in
    c.loop-origin.invariant now written 0
    (subst (λ (os : List Origin). PrintsFiles order c.args.notation os now now written written 0) (sym (drop_all c.loop-origin.origin-index c.args.origins.now c.loop-origin-test.false)) (refl, refl, refl))
