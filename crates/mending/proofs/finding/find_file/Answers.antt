use Rattle.std.proofs.Common.{◌∙◌, List, ℕ, Option, Vec, option_map, sym, ap, subst}
use Rattle.std.specs.declared.alloc.Global.{Global}
use Rattle.std.specs.FinMap.{get}
use Rattle.coding.specs.Errors.{RefusesOnly}
use Rattle.mending.specs.Cutting.{Becomes}
use Rattle.mending.proofs.PlanSteps.{front_refused}
use Rattle.mending.proofs.finding.find_file.Goals as goal

pub returns-clause-refused : goal.returns-clause-refused
returns-clause-refused g c =
    let old = g.S.Store.facts c.args.store.now in
    let new = g.S.Store.facts c.read_file.new.store in
    let items : Option (Vec ℕ Global) → Option (List ℕ) = λ o. option_map (λ (v : Vec ℕ Global). v.items) o in
    let B : List ℕ → Type 0 = λ bs. RefusesOnly c.in-Err.error ((front : List ℕ) → Becomes c.args.ends bs front → ⊥) in
    front_refused old new c.args.ends c.args.file c.args.kind c.in-Err.error c.refusal_in.result c.in-Some.bytes.items c.refusal_in.ensures
    (λ f. ap (λ (n : List ℕ). get old.files n) (sym (c.as_str.ensures.value ∙ c.in_ok-name.ensures)) ∙ sym (c.in_ok-bytes.ensures.found f) ∙ ap items c.in-Some.is)
    (subst B c.deref.ensures.value c.in-Err.ensures.refused)
