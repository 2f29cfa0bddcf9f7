use Rattle.std.proofs.Common.{ℕ, List, [], IfOk, subst, ap, ◌∙◌}
use Rattle.batch.specs.declared.operation.Operation.{Operation}
use Rattle.script.specs.Words.{texts_of, Reads}
use Rattle.script.specs.Script.{IsOperation}
use Rattle.script.proofs.line.read_operation_line.Goals as goal

pub returns-in-Some : goal.returns-in-Some
returns-in-Some c = subst (λ (words : List (List ℕ)). IfOk c.read_one_operation.result (Reads (λ (operation : Operation). IsOperation words operation []))) c.in-Some.ensures.words c.read_one_operation.ensures

pub returns : goal.returns
returns c = subst (λ (words : List (List ℕ)). IfOk c.read_one_operation-2.result (Reads (λ (operation : Operation). IsOperation words operation []))) (ap texts_of c.as_slice.ensures.value ∙ c.in_ok-words.ensures) c.read_one_operation-2.ensures
