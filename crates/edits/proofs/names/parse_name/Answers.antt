use Rattle.std.proofs.Common.{◌++◌, ℕ, List, sym, ap, ◌∙◌}
use Rattle.std.specs.Prelude.{codes}
use Rattle.edits.proofs.FileNames.{no_manifest, behind_prefix}
use Rattle.edits.proofs.names.parse_name.Goals as goal

pub returns-in_err-number_of-in-Some-clause-none : goal.returns-in_err-number_of-in-Some-clause-none
returns-in_err-number_of-in-Some-clause-none c = rw c.from_residual.ensures (λ file h e.
    let digits = c.in-Some.digits.now in
    let at = behind_prefix c.args.name.now c.as_slice-3.result.now digits c.in-Some.ensures.cases.0 c.in-Some.ensures.cases.1 in
    no_manifest digits c.in_err-number_of-in-Some.ensures.value file h (ap (λ (p : List ℕ). p ++ digits) (sym c.as_slice-3.ensures) ∙ sym at ∙ e))

pub returns-in_ok-number_of-in-Some-clause-found : goal.returns-in_ok-number_of-in-Some-clause-found
returns-in_ok-number_of-in-Some-clause-found c =
    let digits = c.in-Some.digits.now in
    let at = behind_prefix c.args.name.now c.as_slice-3.result.now digits c.in-Some.ensures.cases.0 c.in-Some.ensures.cases.1 in
    let found = c.in_ok-number_of-in-Some.ensures.value in
    (found.0, at ∙ ap (λ (p : List ℕ). p ++ digits) c.as_slice-3.ensures ∙ ap (λ (t : List ℕ). codes "MANIFEST-" ++ t) found.1)
