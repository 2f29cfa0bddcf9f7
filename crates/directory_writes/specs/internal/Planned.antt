-- What a plan takes of the tables of a directory, from its beginning on until its job is done.
use Rattle.std.specs.Prelude.{ℕ, Bool, List, ◌++◌, map}
use Rattle.std.specs.Cmp.{IsTotalOrder}
use Rattle.std.specs.FinMap.{IsAntisymmetric}
use Rattle.std.specs.List.Sorted.{IsPermutation}
use Rattle.ikey.specs.declared.entry.Entry.{Entry}
use Rattle.ikey.specs.Entries.{InternalEntry, entry_of}
use Rattle.ikey.specs.Orders.{Order}
use Rattle.ikey.specs.Views.{Among}
use Rattle.store.specs.Files.{Files}
use Rattle.edits.specs.declared.field.PlacedTable.{PlacedTable}
use Rattle.edits.specs.declared.layout.Layout.{Layout}
use Rattle.versions.specs.declared.plan.JobPlan.{JobPlan}
use Rattle.versions.specs.Levels.{ListsSameTables, AreInOrder}
use Rattle.versions.specs.Plans.{IsPlanFromLevel, IsPlanOf}
use Rattle.recover.specs.Tables.{TableContent, tabled}
use Rattle.recover.specs.Directory.{Directory, IsConsistent}
use Rattle.recover.specs.Replacing.{AreParted, AreDistinct}
use Rattle.recover.specs.internal.Changes.{AreClosedInputs, IsFlush, with_content}
use Rattle.recover.specs.Logs.{LogContent, logged}
use Rattle.compact.specs.Deeper.{is_covered_below}
use Rattle.compact.specs.Laws.{AreNewerOrDeep}
use Rattle.compact.specs.Merging.{HaveOwnSequences}
use Rattle.directory_writes.specs.Replacing.{placed_in, IsPlanned}

-- The same holds for each plan for a version of a consistent directory, where the keys that tables
-- below the plan's level cover are the deep ones.
abbrev pub PlannedLaw : Type 0
PlannedLaw = (order : Order) (files : Files) (d : Directory) (tables : List PlacedTable) (plan : JobPlan) → IsTotalOrder order.cmp → IsAntisymmetric order.cmp
    → IsConsistent order files d → ListsSameTables (placed_in d.tables) tables → AreInOrder order.cmp tables → IsPlanOf order.cmp tables plan
    → (inputs : List TableContent) × (rest : List TableContent) × IsPlanned order (is_covered_below order.cmp plan.output_level tables) plan d.tables inputs rest

-- The inputs of a plan for a level are closed.
abbrev pub ClosedPlanLaw : Type 0
ClosedPlanLaw = (order : Order) (files : Files) (d : Directory) (tables : List PlacedTable) (plan : JobPlan) (inputs rest : List TableContent) → IsTotalOrder order.cmp → IsAntisymmetric order.cmp
    → IsConsistent order files d → ListsSameTables (placed_in d.tables) tables → AreInOrder order.cmp tables → (c : IsPlanFromLevel order.cmp tables plan)
    → AreParted d.tables inputs rest → IsPermutation plan.inputs.items (placed_in inputs) → AreClosedInputs order inputs rest c.level

-- A table that a flush puts in meanwhile is one of the rest. Nothing else that is written while the
-- job is under way changes the tables.
abbrev pub FlushedPlanLaw : Type 0
FlushedPlanLaw = (order : Order) (files : Files) (deep : List ℕ → Bool) (plan : JobPlan) (d : Directory) (next : Layout) (content : TableContent) (sealed : List LogContent) (current : LogContent) (inputs rest : List TableContent)
    → IsConsistent order files d → IsFlush d next content sealed current → IsPlanned order deep plan d.tables inputs rest
    → IsPlanned order deep plan (with_content content d.tables) inputs (with_content content rest)

-- Whatever is logged by then, is newer than the inputs.
abbrev pub PlannedApartLaw : Type 0
PlannedApartLaw = (order : Order) (files : Files) (deep : List ℕ → Bool) (plan : JobPlan) (d : Directory) (inputs rest : List TableContent)
    → IsConsistent order files d → IsPlanned order deep plan d.tables inputs rest → AreNewerOrDeep (tabled inputs) (tabled rest ++ logged d.logs) deep

-- What is merged of such entries has a sequence number of its own for each entry of a key.
abbrev pub OwnSequencesLaw : Type 0
OwnSequencesLaw = (entries : List Entry) (merged : List InternalEntry) → AreDistinct entries
    → ((entry : Entry) → Among (map entry_of merged) entry → Among entries entry) → HaveOwnSequences merged
