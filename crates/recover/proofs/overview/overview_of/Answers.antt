use Rattle.std.proofs.Common.{ℕ, List, refl, subst, IsTrue}
use Rattle.std.specs.List.{filter}
use Rattle.std.proofs.lemmas.Result.{err_from_is_err_and}
use Rattle.ikey.specs.Orders.{order_of}
use Rattle.store.specs.Files.{Files}
use Rattle.recover.specs.Reading.{IsBeyondReading}
use Rattle.recover.specs.internal.Parts.{HaveLengths, SaysManifest, is_live}
use Rattle.recover.proofs.Lengths.{IsNone, is_seen, no_log, no_manifest}
use Rattle.recover.proofs.Refused.{not_listed, unchanged_both, unchanged_of}
use Rattle.recover.proofs.overview.overview_of.Goals as goal

pub returns-in_err-listing-clause-refused : goal.returns-in_err-listing-clause-refused
returns-in_err-listing-clause-refused g c =
    let p = err_from_is_err_and c.from_residual.result c.from_residual.ensures.1 in
    let order = order_of g.K.KeyOrder.name g.K.KeyOrder.cmp in
    let a = g.S.Store.facts c.args.store.now in
    rw (p.1, p.2) (not_listed c.in_err-listing.field-0.0 a (g.S.Store.facts c.list_directory.new.store) c.list_directory.result (IsNone order a.files) (IsBeyondReading order a.files)
    c.list_directory.ensures.store c.in_err-listing.was c.in_err-listing.ensures.refused)

pub returns-in_err-layout-clause-refused : goal.returns-in_err-layout-clause-refused
returns-in_err-layout-clause-refused g c =
    let p = err_from_is_err_and c.from_residual-in_err-layout.result c.from_residual-in_err-layout.ensures.1 in
    let a = g.S.Store.facts c.args.store.now in
    let b = g.S.Store.facts c.list_directory.new.store in
    rw (p.1, p.2) (no_manifest (order_of g.K.KeyOrder.name g.K.KeyOrder.cmp) c.in_err-layout.field-0.0 a b (g.S.Store.facts c.read_manifest.new.store) c.in_ok-listing.listing
    (unchanged_of a b c.list_directory.result c.list_directory.ensures.store) c.in_err-layout.ensures.store c.in_ok-listing.ensures.found c.if-not-listing.false c.in_err-layout.ensures.refused)

pub returns-in_err-logs-clause-refused : goal.returns-in_err-logs-clause-refused
returns-in_err-logs-clause-refused g c =
    let p = err_from_is_err_and c.from_residual-in_err-logs.result c.from_residual-in_err-logs.ensures.1 in
    let a = g.S.Store.facts c.args.store.now in
    let b = g.S.Store.facts c.list_directory.new.store in
    let d = g.S.Store.facts c.read_manifest.new.store in
    rw (p.1, p.2) (no_log (order_of g.K.KeyOrder.name g.K.KeyOrder.cmp) c.in_err-logs.field-0.0 a d (g.S.Store.facts c.live_lengths.new.store) c.in_ok-listing.listing c.in_ok-layout.field-0.layout c.deref.result.now
    (unchanged_both a b d (unchanged_of a b c.list_directory.result c.list_directory.ensures.store) c.in_ok-layout.ensures.store) c.in_err-logs.ensures.store c.deref.ensures.value
    (λ t. c.in_ok-listing.ensures.found (c.in_ok-layout.ensures.store.faithful t)) c.in_err-logs.ensures.refused)

pub returns-clause-found : goal.returns-clause-found
returns-clause-found g c = λ t.
    let order = order_of g.K.KeyOrder.name g.K.KeyOrder.cmp in
    let a = g.S.Store.facts c.args.store.now in
    let b = g.S.Store.facts c.list_directory.new.store in
    let d = g.S.Store.facts c.read_manifest.new.store in
    let first = unchanged_of a b c.list_directory.result c.list_directory.ensures.store in
    let t' : IsTrue d.faithful = c.in_ok-logs.ensures.store.faithful t in
    let t'' : IsTrue b.faithful = c.in_ok-layout.ensures.store.faithful t' in
    let manifest = c.in_ok-layout.field-0 in
    let both = unchanged_both a b d first c.in_ok-layout.ensures.store in
    let M : Files → Type 0 = λ fs. SaysManifest order fs manifest in
    let F : Files → Type 0 = λ fs. HaveLengths fs (filter (is_live manifest.layout) c.deref.result.now) c.in_ok-logs.logs.items in
    let L : List ℕ → Type 0 = λ logs. HaveLengths a.files (filter (is_live manifest.layout) logs) c.in_ok-logs.logs.items in
    is_seen order a.files manifest c.in_ok-listing.listing (record { layout = manifest.layout; logs = c.in_ok-logs.logs }) refl
    (subst M (first.same t'') (c.in_ok-layout.ensures.found t')) (c.in_ok-listing.ensures.found t'')
    (subst L c.deref.ensures.value (subst F (both.same t') (c.in_ok-logs.ensures.found t)))
