use Rattle.std.proofs.Common.{refl, length, sym}
use Rattle.std.proofs.lemmas.Bool.{ltb-true, ltb-false}
use Rattle.std.proofs.lemmas.Option.{slice_get_read}
use Rattle.ikey.specs.Orders.{order_of}
use Rattle.recover.proofs.LoggedNotes.{older_none, older_other, older_by_test}
use Rattle.recover.proofs.logged.is_older.Goals as goal

pub returns-in_default : goal.returns-in_default
returns-in_default g c =
    let f = c.first_of.ensures in
    older_none (order_of g.K.KeyOrder.name g.K.KeyOrder.cmp) g.met.K.KeyOrder.total c.args.logged.now c.args.key.now c.first_of.result c.requires f.inside f.front c.args.sequence
    (ltb-false c.first_of.result (length c.args.logged.now) (sym c.in_default.ensures.lookup.0))

pub returns-then-not-is_same : goal.returns-then-not-is_same
returns-then-not-is_same g c =
    let f = c.first_of.ensures in
    let l = c.in-Some.ensures.lookup in
    let is = slice_get_read c.args.logged.now (length c.args.logged.now) c.first_of.result c.in-Some.first.now refl (ltb-true c.first_of.result (length c.args.logged.now) (sym l.0)) l.1 in
    older_other (order_of g.K.KeyOrder.name g.K.KeyOrder.cmp) g.met.K.KeyOrder.total c.args.logged.now c.args.key.now c.first_of.result c.requires f.inside f.front c.in-Some.first.now is f.found
    c.args.sequence c.if-not-is_same.ensures

pub returns : goal.returns
returns g c =
    let f = c.first_of.ensures in
    let l = c.in-Some.ensures.lookup in
    let is = slice_get_read c.args.logged.now (length c.args.logged.now) c.first_of.result c.in-Some.first.now refl (ltb-true c.first_of.result (length c.args.logged.now) (sym l.0)) l.1 in
    older_by_test (order_of g.K.KeyOrder.name g.K.KeyOrder.cmp) g.met.K.KeyOrder.total c.args.logged.now c.args.key.now c.first_of.result c.requires f.inside f.front c.in-Some.first.now is f.found
    c.args.sequence c.if-not-is_same.ensures
