use Rattle.std.proofs.Common.{◌<◌, ◌^◌, ◌≡◌, ℕ, List, Option, Some, MatchOption, All, length, sym, subst}
use Rattle.edits.specs.Edit.{IsInternal}
use Rattle.edits.specs.declared.field.PlacedTable.{PlacedTable}
use Rattle.running_job.proofs.Names.{proper, proper_or}
use Rattle.running_job.proofs.naming.can_be_named.Goals as goal

pub returns-in-None : goal.returns-in-None
returns-in-None g c =
    proper c.args.plan.now c.requires.output (subst (λ (ts : List PlacedTable). All (λ placed. (placed.level < 7) × (placed.table.number < 2 ^ 64)) ts) c.deref.ensures.value c.if-not-are_named.ensures) c.requires.order.numbers
    (subst (λ (o : Option (List ℕ)). MatchOption o (Unit {0}) (λ k. (length k < 2 ^ 32) × IsInternal k)) (sym c.in-None.is) tt)

pub returns-in-Some : goal.returns-in-Some
returns-in-Some g c =
    proper_or c.args.plan.now c.as_slice.result.now c.is_key.result c.requires.output (subst (λ (ts : List PlacedTable). All (λ placed. (placed.level < 7) × (placed.table.number < 2 ^ 64)) ts) c.deref.ensures.value c.if-not-are_named.ensures)
    c.requires.order.numbers (subst (λ (k : List ℕ). c.args.plan.now.compact_pointer ≡ Some k) (sym c.as_slice.ensures) c.in-Some.is) c.is_key.ensures
