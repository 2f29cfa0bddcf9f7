use Rattle.std.proofs.Common.{List, Bool, None, sym, subst}
use Rattle.std.proofs.lemmas.Result.{err_from_is_err_and}
use Rattle.ikey.specs.Orders.{order_of}
use Rattle.store.specs.Files.{Files}
use Rattle.recover.specs.internal.MergeSteps.{IsMid, AllBeginFrom}
use Rattle.recover.proofs.MergeParts.{merge_later}
use Rattle.recover.proofs.MergeSteps.{mid_whole}
use Rattle.recover.proofs.merging.Merge.run.Goals as goal

pub returns-in_err-run_until-clause-refused : goal.returns-in_err-run_until-clause-refused
returns-in_err-run_until-clause-refused g c =
    let p = err_from_is_err_and c.from_residual-in_err-run_until.result c.from_residual-in_err-run_until.ensures.1 in
    rw (p.1, p.2) (merge_later (order_of g.K.KeyOrder.name g.K.KeyOrder.cmp) c.in_err-run_until.field-0.0 (g.S.Store.facts c.args.store.now) (g.S.Store.facts c.begin_all.new.store) (g.S.Store.facts c.run_until.new.store) c.args.against
    c.in_ok-begin_all.ensures.store c.in_err-run_until.ensures.store c.in_err-run_until.ensures.refused)

pub returns-clause-found : goal.returns-clause-found
returns-clause-found g c = λ t.
    let order = order_of g.K.KeyOrder.name g.K.KeyOrder.cmp in
    let against = c.args.against in
    let merge = c.run_until.new.self in
    let read = c.in_ok-run_until.ensures in
    let none : AllBeginFrom order against.tables.now merge.begun.items None =
    subst (λ (bs : List Bool). AllBeginFrom order against.tables.now bs None) (sym read.begun) c.in_ok-begin_all.ensures.begun in
    mid_whole order g.met.K.KeyOrder.total (g.S.Store.facts c.args.store.now).files against merge c.requires.sound read.fits none read.ended
    (subst (λ (fs : Files). IsMid order fs against merge) (c.in_ok-begin_all.ensures.store.same (read.store.faithful t)) (read.found t))
