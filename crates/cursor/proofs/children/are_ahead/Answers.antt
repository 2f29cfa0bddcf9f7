use Rattle.std.proofs.Common.{get_or, sym, ap, ◌∙◌, arith}
use Rattle.std.proofs.lemmas.Option.{slice_get-get_or}
use Rattle.cursor.specs.declared.child.Child.{Child}
use Rattle.cursor.proofs.Sides.{none_ahead, one_ahead, all_ahead}
use Rattle.cursor.proofs.children.are_ahead.Goals as goal

pub loop-index-init : goal.loop-index-init
loop-index-init g c = none_ahead c.args.children.now

pub loop-index-preserved : goal.loop-index-preserved
loop-index-preserved g c =
    let child : Child g.row.C.Denot = get_or c.args.children.now c.loop-index.index c.index-children-index.result in
    one_ahead c.args.children.now c.loop-index.index child (slice_get-get_or c.args.children.now c.loop-index.index c.index-children-index.result (let b = c.loop-index-test.true in omega (arith, b)))
    (sym (ap (λ (x : Child g.row.C.Denot). x.side) c.index-children-index.is) ∙ c.in-Ahead.is) c.loop-index.invariant

pub returns : goal.returns
returns g c = all_ahead c.args.children.now c.loop-index.index (let b = c.loop-index-test.false in omega (arith, b)) c.loop-index.invariant
