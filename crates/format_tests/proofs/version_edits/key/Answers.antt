use Rattle.std.proofs.Common.{◌<◌, ◌^◌, [], ◌∷◌, ℕ, List, length, refl, sym, subst, arith}
use Rattle.edits.specs.Edit.{IsInternal}
use Rattle.ikey.specs.declared.internal_key.Kind.TheVariants.{Put}
use Rattle.format_tests.proofs.version_edits.key.Goals as goal

pub returns : goal.returns
returns c =
    subst (λ (key : List ℕ). (length key < 2 ^ 32) × IsInternal key) (sym c.in_ok-copied_from.ensures)
    (omega arith, (record { user = 0x61 ∷ []; sequence = 1; kind = Put }, record { sequence_fits = omega arith; parts = refl }))
