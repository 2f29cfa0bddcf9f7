use Rattle.std.proofs.Common.{◌≡◌, ◌∙◌, inl, inr, ℕ, List, subst}
use Rattle.std.proofs.lemmas.Result.{err_from_is_err_and}
use Rattle.edits.specs.declared.names.FileName.TheVariants.{Manifest}
use Rattle.mending.specs.Plans.{HasNoFront, HasNoLayout, HasBeyond, SaysFound, SaysFoundNone, SaysFoundBeyond}
use Rattle.mending.specs.Calls.{RefusesBytes}
use Rattle.mending.proofs.Saying.{reads_itself, refuses_later, refuses_bytes}
use Rattle.mending.proofs.PlanSteps.{plans_found, logged_found, layout_found, no_layout_found, beyond_found}
use Rattle.mending.proofs.planning.plan_manifest.Goals as goal

pub returns-in_err-found-clause-refused : goal.returns-in_err-found-clause-refused
returns-in_err-found-clause-refused g c =
    let p = err_from_is_err_and c.from_residual.result c.from_residual.ensures.1 in
    let old = g.S.Store.facts c.args.store.now in
    let new = g.S.Store.facts c.find_file.new.store in
    rw (p.1, p.2) (refuses_later c.in_err-found.field-0.0 old old new (HasNoFront c.args.ends old.files (Manifest c.args.number)) ⊥ (HasNoLayout g.K.KeyOrder.name c.args.ends old.files c.args.number) (HasBeyond g.K.KeyOrder.name c.args.ends old.files c.args.number)
    (reads_itself old) (λ f d. inr (inl d)) (λ f u. absurd u) c.in_err-found.ensures.refused)

pub returns-in_err-layout-clause-refused : goal.returns-in_err-layout-clause-refused
returns-in_err-layout-clause-refused g c =
    let p = err_from_is_err_and c.from_residual-in_err-layout.result c.from_residual-in_err-layout.ensures.1 in
    let old = g.S.Store.facts c.args.store.now in
    let new = g.S.Store.facts c.find_file.new.store in
    let name : c.as_bytes.result.now ≡ g.K.KeyOrder.name = c.as_bytes.ensures.value ∙ c.name.ensures in
    let it = c.in_ok-found.found in
    let e = c.in_err-layout.field-0.0 in
    let R : List ℕ → Type 0 = λ n. RefusesBytes e (SaysFoundNone n it) (SaysFoundBeyond n it) in
    rw (p.1, p.2) (refuses_bytes e old new (SaysFoundNone g.K.KeyOrder.name it) (SaysFoundBeyond g.K.KeyOrder.name it) (HasNoLayout g.K.KeyOrder.name c.args.ends old.files c.args.number) (HasBeyond g.K.KeyOrder.name c.args.ends old.files c.args.number)
    (λ f none. no_layout_found g.K.KeyOrder.name c.args.ends old.files c.args.number it (c.in_ok-found.ensures.found f) none)
    (λ f beyond. beyond_found g.K.KeyOrder.name c.args.ends old.files c.args.number it (c.in_ok-found.ensures.found f) beyond)
    (subst R name c.in_err-layout.ensures.refused))

pub returns-clause-found : goal.returns-clause-found
returns-clause-found g c f =
    let old = g.S.Store.facts c.args.store.now in
    let name : c.as_bytes.result.now ≡ g.K.KeyOrder.name = c.as_bytes.ensures.value ∙ c.name.ensures in
    let it = c.in_ok-found.found in
    let here = c.in_ok-found.ensures.found f in (
      layout_found g.K.KeyOrder.name c.args.ends old.files c.args.number c.in_ok-layout.layout it here (subst (λ (n : List ℕ). SaysFound n it c.in_ok-layout.layout) name c.in_ok-layout.ensures.found),
      plans_found c.args.ends old.files (Manifest c.args.number) c.args.cuts.now.items c.push_cut.new.cuts.items it c.in_ok-push_cut.ensures here,
    )

pub returns-clause-logged : goal.returns-clause-logged
returns-clause-logged g c all =
    logged_found c.args.cuts.now.items c.push_cut.new.cuts.items (Manifest c.args.number) c.in_ok-found.found c.in_ok-push_cut.ensures c.in_ok-found.ensures.named c.requires all
