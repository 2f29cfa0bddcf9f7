use Rattle.cursor.specs.declared.child.Motion.TheVariants.{Ahead}
use Rattle.std.proofs.Common.{Some}
use Rattle.std.proofs.lemmas.Result.{err_from_is_err_and}
use Rattle.cursor.proofs.Moving.{none_moved}
use Rattle.cursor.proofs.Sides.{gone_ahead}
use Rattle.cursor.proofs.children.bring_ahead.Goals as goal

pub returns-then-are_ahead-clause-gone : goal.returns-then-are_ahead-clause-gone
returns-then-are_ahead-clause-gone g c = λ f place goal all aims beside.
    gone_ahead g.K.KeyOrder.cmp g.C.Cursor.lists c.args.children.now c.args.source.now c.args.target (Some c.args.index) place goal all c.if-are_ahead.ensures aims beside

pub returns-then-are_ahead-clause-stays : goal.returns-then-are_ahead-clause-stays
returns-then-are_ahead-clause-stays g c =
    (none_moved g.K.KeyOrder.cmp g.C.Cursor.facts g.C.Cursor.lists g.C.Cursor.keeps g.C.Cursor.limited g.C.Cursor.torn g.C.Cursor.leaves g.C.Cursor.over g.met.C.Cursor.kept g.met.C.Cursor.still g.met.C.Cursor.onward g.met.C.Cursor.limits_kept g.met.C.Cursor.torn_kept g.C.Cursor.leaves_still g.C.Cursor.leaves_onward g.C.Cursor.leaves_more (Ahead c.args.target) (Some c.args.index) c.args.children.now c.args.source.now).stays

pub returns-in_err-move_others-clause-refused : goal.returns-in_err-move_others-clause-refused
returns-in_err-move_others-clause-refused g c =
    let p = err_from_is_err_and c.from_residual.result c.from_residual.ensures.1 in
    rw (p.1, p.2) c.in_err-move_others.ensures.refused
