-- What an edit can name of a plan.
use Rattle.std.proofs.Common.{◌≡◌, ◌≢◌, ◌<◌, ◌^◌, ℕ, List, Option, Some, All, AllPairs, MatchBool, Bool, true, false, MatchOption, length, sym, subst}
use Rattle.compact.specs.JobEdits.{IsPlanProper}
use Rattle.edits.specs.Edit.{IsInternal}
use Rattle.edits.specs.declared.field.PlacedTable.{PlacedTable}
use Rattle.directory_writes.proofs.PlanParts.{once_listed}
use Rattle.versions.specs.declared.plan.JobPlan.{JobPlan}

-- an edit can hold the key
abbrev Fits : List ℕ → Type 0
Fits key = (length key < 2 ^ 32) × IsInternal key

pub proper : (plan : JobPlan) → plan.output_level < 7 → All (λ (placed : PlacedTable). (placed.level < 7) × (placed.table.number < 2 ^ 64)) plan.inputs.items → AllPairs (λ a b. a.table.number ≢ b.table.number) plan.inputs.items
    → MatchOption plan.compact_pointer (Unit {0}) (λ (key : List ℕ). (length key < 2 ^ 32) × IsInternal key) → IsPlanProper plan
proper plan level inputs numbers pointer = record { output = level; inputs = inputs; once = once_listed plan.inputs.items numbers; pointer = pointer }

pub proper_or : (plan : JobPlan) (key : List ℕ) (can : Bool) → plan.output_level < 7 → All (λ (placed : PlacedTable). (placed.level < 7) × (placed.table.number < 2 ^ 64)) plan.inputs.items
    → AllPairs (λ a b. a.table.number ≢ b.table.number) plan.inputs.items → plan.compact_pointer ≡ Some key
    → MatchBool can ((length key < 2 ^ 32) × IsInternal key) ((length key < 2 ^ 32) × IsInternal key → ⊥) → MatchBool can (IsPlanProper plan) (IsPlanProper plan → ⊥)
proper_or plan key true level inputs numbers is fits = proper plan level inputs numbers (subst (λ (o : Option (List ℕ)). MatchOption o (Unit {0}) Fits) (sym is) fits)
proper_or plan key false level inputs numbers is none = λ p. none (subst (λ (o : Option (List ℕ)). MatchOption o (Unit {0}) Fits) is p.pointer)
