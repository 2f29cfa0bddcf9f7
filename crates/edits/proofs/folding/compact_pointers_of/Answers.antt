use Rattle.std.proofs.Common.{List, map, take, ◌++◌, ◌∷◌, [], Option, ℕ, sym, ap, ◌∙◌}
use Rattle.edits.specs.Layout.{fields_of, last_said, compact_pointer_in, levels}
use Rattle.edits.proofs.Folds.{levels_more}
use Rattle.edits.proofs.folding.compact_pointers_of.Goals as goal

pub loop-level-preserved : goal.loop-level-preserved
loop-level-preserved c =
    let f : ℕ → Option (List ℕ) = λ level. last_said (compact_pointer_in level) (fields_of c.args.edits.now) in
    c.in_ok-push.ensures.items ∙ ap (λ (ps : List (Option (List ℕ))). ps ++ c.in_ok-key_copy.field-0 ∷ []) c.loop-level.invariant
    ∙ ap (λ (p : Option (List ℕ)). map f (take c.loop-level.level levels) ++ p ∷ []) (c.in_ok-key_copy.ensures ∙ sym c.pointer_in_edits.ensures)
    ∙ sym (levels_more f c.loop-level.level c.loop-level-test.true)
