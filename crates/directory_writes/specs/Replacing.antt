-- What a compaction does to the tables of a version, and to their entries.
use Rattle.std.specs.Prelude.{◌≡◌, ◌<◌, ℕ, Bool, false, List, map, ◌≢◌, ◌⊎◌}
use Rattle.std.specs.List.{Contains}
use Rattle.std.specs.List.Sorted.{IsPermutation}
use Rattle.ikey.specs.Orders.{Order}
use Rattle.edits.specs.declared.field.PlacedTable.{PlacedTable}
use Rattle.edits.specs.Layout.{is_used}
use Rattle.versions.specs.declared.plan.JobPlan.{JobPlan}
use Rattle.recover.specs.Tables.{TableContent, tabled}
use Rattle.recover.specs.Replacing.{AreParted, MayReplace, AreDistinct}
use Rattle.compact.specs.Laws.{AreNewerOrDeep}
use Rattle.compact.specs.Outputs.{TablesWritten, IsOwn}
use Rattle.compact.specs.JobEdits.{IsPlanProper}

-- the tables as the layout places them
abbrev pub placed_in : List TableContent → List PlacedTable
placed_in contents = map (λ (content : TableContent). content.placed) contents

-- The inputs of the plan are gone, and tables of its output level replace them: each table was
-- there and is no input, or is of that level. Each of another number than theirs stays.
pub record ReplacesInputs (plan : JobPlan) (old new : List PlacedTable) : Type 0 where
  pub tables : (placed : PlacedTable) → Contains new placed → (Contains old placed × (Contains plan.inputs.items placed → ⊥)) ⊎ (placed.level ≡ plan.output_level)
  pub stays : (placed : PlacedTable) → Contains old placed → ((input : PlacedTable) → Contains plan.inputs.items input → input.table.number ≢ placed.table.number) → Contains new placed

-- none of these tables has a number that is the job's
abbrev pub OwnsNone : TablesWritten → List PlacedTable → Type 0
OwnsNone w tables = (number : ℕ) → IsOwn w number → is_used number tables ≡ false

-- The tables are the plan's inputs and the rest. The inputs may be replaced by tables of the plan's
-- level: of a key that they have, the rest has newer entries, or the key is a deep one. No two of
-- their entries share key and sequence number, and an edit can name them.
pub record IsPlanned (order : Order) (deep : List ℕ → Bool) (plan : JobPlan) (contents inputs rest : List TableContent) : Type 0 where
  pub parted : AreParted contents inputs rest
  pub planned : IsPermutation plan.inputs.items (placed_in inputs)
  pub positive : 0 < plan.output_level
  pub replaceable : MayReplace order inputs rest plan.output_level
  pub apart : AreNewerOrDeep (tabled inputs) (tabled rest) deep
  pub distinct : AreDistinct (tabled inputs)
  pub proper : IsPlanProper plan
