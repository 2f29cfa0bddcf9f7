use Rattle.std.proofs.Common.{ℕ, List, Vec, map, sym, subst}
use Rattle.std.specs.declared.alloc.Global.{Global}
use Rattle.std.proofs.lemmas.Result.{err_from_is_err_and}
use Rattle.coding.specs.declared.error.DbError.{DbError}
use Rattle.coding.specs.declared.error.FileKind.TheVariants as kind
use Rattle.edits.specs.Edit.{RefusesFor}
use Rattle.edits.specs.Layout.{fields_of, IsLayout, AreOfOther}
use Rattle.edits.specs.declared.field.Field.{Field}
use Rattle.edits.specs.declared.layout.Layout.{Layout}
use Rattle.mending.specs.Calls.{RefusesBytes}
use Rattle.mending.specs.Plans.{AreEdits, ArePastLimit, SaysLayout, SaysBeyond}
use Rattle.mending.proofs.Saying.{no_log_said, no_edits_said, no_layout_said}
use Rattle.mending.proofs.layout.layout_of.Goals as goal

pub returns-in-Err-clause-refused : goal.returns-in-Err-clause-refused
returns-in-Err-clause-refused c =
    let name = c.args.order.now in
    let bytes = c.args.bytes.now in
    subst (λ (r : DbError). RefusesBytes r ((layout : Layout) → SaysLayout name bytes layout → ⊥) (SaysBeyond name bytes)) (sym c.refusal_in.ensures) (no_log_said name bytes kind.Manifest c.in-Err.error c.in-Err.ensures.refused)

pub returns-in_err-edits-clause-refused : goal.returns-in_err-edits-clause-refused
returns-in_err-edits-clause-refused c =
    let p = err_from_is_err_and c.from_residual.result c.from_residual.ensures.1 in
    let P : List (Vec ℕ Global) → Type 0 = λ rs. RefusesBytes c.in_err-edits.field-0.0 ((edits : List (List Field)) → AreEdits (map (λ (r : Vec ℕ Global). r.items) rs) edits → ⊥)
    (ArePastLimit (map (λ (r : Vec ℕ Global). r.items) rs)) in
    rw (p.1, p.2) (no_edits_said c.args.order.now c.args.bytes.now (map (λ (r : Vec ℕ Global). r.items) c.in-Ok.records.items) c.in-Ok.field-0-1
    c.in_err-edits.field-0.0 c.in-Ok.ensures.found (subst P c.deref.ensures.value c.in_err-edits.ensures.refused))

pub returns-clause-refused : goal.returns-clause-refused
returns-clause-refused c =
    let name = c.args.order.now in
    let bytes = c.args.bytes.now in
    let R : List (Vec ℕ Global) → Type 0 = λ rs. AreEdits (map (λ (r : Vec ℕ Global). r.items) rs) c.in_ok-edits.edits.items in
    let E : List (List Field) → Type 0 = λ es. RefusesFor c.in-Err-fold_edits.error ((layout : Layout) → IsLayout name es layout → ⊥) (AreOfOther name (fields_of es)) in
    subst (λ (r : DbError). RefusesBytes r ((layout : Layout) → SaysLayout name bytes layout → ⊥) (SaysBeyond name bytes)) (sym c.refusal_in-in-Err-fold_edits.ensures)
    (no_layout_said name bytes (map (λ (r : Vec ℕ Global). r.items) c.in-Ok.records.items) c.in-Ok.field-0-1 c.in_ok-edits.edits.items kind.Manifest c.in-Err-fold_edits.error
    c.in-Ok.ensures.found (subst R c.deref.ensures.value c.in_ok-edits.ensures.found) (subst E c.deref-2.ensures.value c.in-Err-fold_edits.ensures.refused))
