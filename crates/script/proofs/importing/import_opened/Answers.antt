use Rattle.std.proofs.Common.{[], ℕ, List, refl, sym, subst}
use Rattle.std.specs.Prelude.{Option}
use Rattle.ikey.specs.Orders.{order_of}
use Rattle.script.specs.Importing.{EndsImport, HasBegun}
use Rattle.script.proofs.Written.{on_err, fresh_reader}
use Rattle.script.proofs.Imported.{ends_unopened, stops, taken_none}
use Rattle.script.proofs.importing.import_opened.Goals as goal

pub returns-in-Some-clause-ended : goal.returns-in-Some-clause-ended
returns-in-Some-clause-ended g c =
    let order = order_of g.K.KeyOrder.name g.K.KeyOrder.cmp in
    let facts = g.S.Store.facts in
    let script = g.R.Read.remaining c.args.reader in
    subst (λ (count : ℕ). EndsImport order facts c.args.how.now c.args.session.now c.open_any.new.session script c.in-Some.refused count) (sym c.requires.none)
    (ends_unopened order facts c.args.how.now c.args.session.now c.open_any.new.session script c.in-Some.refused c.in-Some.ensures.0 c.in-Some.ensures.1)

pub returns-in-Err-clause-stopped : goal.returns-in-Err-clause-stopped
returns-in-Err-clause-stopped g c =
    let order = order_of g.K.KeyOrder.name g.K.KeyOrder.cmp in
    let facts = g.S.Store.facts in
    let script = g.R.Read.remaining c.args.reader in
    stops order facts c.args.how.now c.args.session.now c.open_any.new.session script script [] 0 (taken_none order facts c.args.how.now c.args.session.now c.open_any.new.session script c.in-None.ensures)

pub returns-in_err-ended-clause-stopped : goal.returns-in_err-ended-clause-stopped
returns-in_err-ended-clause-stopped g c =
    let order = order_of g.K.KeyOrder.name g.K.KeyOrder.cmp in
    let facts = g.S.Store.facts in
    let how = c.args.how.now in
    let script = g.R.Read.remaining c.args.reader in
    let opened = c.open_any.new.session in
    let counted = subst (λ (count : ℕ). HasBegun order facts how c.args.session.now opened script script [] count) (sym c.requires.none) (taken_none order facts how c.args.session.now opened script c.in-None.ensures, λ none. refl) in
    let start = subst (λ (left : Option (List ℕ)). HasBegun order facts how c.args.session.now opened script left [] c.args.taken.now)
    (sym (fresh_reader g.R.Read.remaining c.in-Ok.input c.args.reader c.in-Ok.ensures.inner c.in-Ok.ensures.empty c.in-Ok.ensures.capacity)) counted in
    on_err c.from_residual.result _ (c.in_err-ended.ensures.stopped c.args.session.now script start)

pub returns-clause-ended : goal.returns-clause-ended
returns-clause-ended g c =
    let order = order_of g.K.KeyOrder.name g.K.KeyOrder.cmp in
    let facts = g.S.Store.facts in
    let how = c.args.how.now in
    let script = g.R.Read.remaining c.args.reader in
    let opened = c.open_any.new.session in
    let counted = subst (λ (count : ℕ). HasBegun order facts how c.args.session.now opened script script [] count) (sym c.requires.none) (taken_none order facts how c.args.session.now opened script c.in-None.ensures, λ none. refl) in
    let start = subst (λ (left : Option (List ℕ)). HasBegun order facts how c.args.session.now opened script left [] c.args.taken.now)
    (sym (fresh_reader g.R.Read.remaining c.in-Ok.input c.args.reader c.in-Ok.ensures.inner c.in-Ok.ensures.empty c.in-Ok.ensures.capacity)) counted in
    c.in_ok-ended.ensures.ended c.args.session.now script start
