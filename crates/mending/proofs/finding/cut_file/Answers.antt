use Rattle.std.proofs.Common.{◌∙◌, ℕ, List, drop, ap, subst}
use Rattle.mending.specs.Cutting.{EndsIn}
use Rattle.mending.proofs.PlanSteps.{zeros_behind}
use Rattle.mending.proofs.finding.cut_file.Goals as goal

pub returns-clause-zeros : goal.returns-clause-zeros
returns-clause-zeros c =
    zeros_behind c.args.n c.zeros_at_end-zeros.result c.args.bytes.items c.truncate.new.self.items c.requires c.truncate.ensures.items
    (subst (λ (bs : List ℕ). EndsIn c.zeros_at_end-zeros.result bs) (c.split_at.ensures.back ∙ ap (λ (bs : List ℕ). drop c.args.n bs) c.deref.ensures.value) c.zeros_at_end-zeros.ensures)
