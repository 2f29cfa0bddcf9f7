use Rattle.std.proofs.Common.{IsTrue, subst}
use Rattle.std.proofs.lemmas.Result.{err_from_is_err_and}
use Rattle.ikey.specs.Orders.{order_of}
use Rattle.store.specs.Files.{Files}
use Rattle.recover.specs.Origins.{IsOriginRead}
use Rattle.recover.proofs.OneOrigin.{no_manifest, not_read, told_origin, read_of}
use Rattle.recover.proofs.origins.file_entries.Goals as goal

pub returns-in_err-layout-clause-refused : goal.returns-in_err-layout-clause-refused
returns-in_err-layout-clause-refused g c =
    let p = err_from_is_err_and c.from_residual.result c.from_residual.ensures.1 in
    rw (p.1, p.2) (no_manifest (order_of g.K.KeyOrder.name g.K.KeyOrder.cmp) c.in_err-layout.field-0.0 (g.S.Store.facts c.args.store.now) (g.S.Store.facts c.read_manifest.new.store) c.args.origin c.in_err-layout.ensures.refused)

pub returns-in_err-entries-clause-told : goal.returns-in_err-entries-clause-told
returns-in_err-entries-clause-told g c =
    let p = err_from_is_err_and c.from_residual-in_err-entries.result c.from_residual-in_err-entries.ensures.1 in
    rw (p.1, p.2) (told_origin (order_of g.K.KeyOrder.name g.K.KeyOrder.cmp) c.in_err-entries.field-0.0 (g.S.Store.facts c.args.store.now) (g.S.Store.facts c.read_manifest.new.store) (g.S.Store.facts c.read_origin.new.store)
    c.in_ok-layout.field-0 c.args.origin c.in_ok-layout.ensures.store c.in_err-entries.ensures.store c.in_ok-layout.ensures.found c.in_err-entries.ensures.told)

pub returns-in_err-entries-clause-refused : goal.returns-in_err-entries-clause-refused
returns-in_err-entries-clause-refused g c =
    let p = err_from_is_err_and c.from_residual-in_err-entries.result c.from_residual-in_err-entries.ensures.1 in
    rw (p.1, p.2) (not_read (order_of g.K.KeyOrder.name g.K.KeyOrder.cmp) c.in_err-entries.field-0.0 (g.S.Store.facts c.args.store.now) (g.S.Store.facts c.read_manifest.new.store) (g.S.Store.facts c.read_origin.new.store)
    c.in_ok-layout.field-0 c.args.origin c.in_ok-layout.ensures.store c.in_err-entries.ensures.store c.in_ok-layout.ensures.found c.in_err-entries.ensures.refused)

pub returns-clause-found : goal.returns-clause-found
returns-clause-found g c = λ t d h.
    let order = order_of g.K.KeyOrder.name g.K.KeyOrder.cmp in
    let a = g.S.Store.facts c.args.store.now in
    let b = g.S.Store.facts c.read_manifest.new.store in
    let manifest = c.in_ok-layout.field-0 in
    let t' : IsTrue b.faithful = c.in_ok-entries.ensures.store.faithful t in
    let F : Files → Type 0 = λ fs. IsOriginRead order fs manifest.layout c.args.origin c.in_ok-entries.entries.items in
    read_of order a.files manifest c.args.origin c.in_ok-entries.entries.items (c.in_ok-layout.ensures.found t') (subst F (c.in_ok-layout.ensures.store.same t') (c.in_ok-entries.ensures.found t)) d h
