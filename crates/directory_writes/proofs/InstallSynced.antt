-- The tables that a job puts into a version are synced.
use Rattle.std.proofs.Common.{◌≢◌, ◌⊎◌, ℕ, Bool, List, [], ◌∷◌, ◌++◌, map, Option, Some, None, inl, inr, sym, subst, ◌∙◌}
use Rattle.std.specs.List.{AllByRecursion, Contains}
use Rattle.std.specs.declared.cmp.Ordering.{Ordering}
use Rattle.std.proofs.lemmas.List.Elements.{All-contains, All-from_recursion, recursion_from_All}
use Rattle.versions.proofs.Pairs.{all_contained}
use Rattle.versions.specs.Applying.{LeadsLayout}
use Rattle.versions.specs.Levels.{AreInOrder}
use Rattle.versions.specs.declared.plan.JobPlan.{JobPlan}
use Rattle.edits.specs.Layout.{after_edit}
use Rattle.edits.specs.declared.field.Field.{Field}
use Rattle.edits.specs.declared.field.PlacedTable.{PlacedTable}
use Rattle.edits.specs.declared.field.TableFile.{TableFile}
use Rattle.ikey.specs.Entries.{InternalEntry, Pair}
use Rattle.store.specs.Files.{Facts}
use Rattle.table.specs.Writing.{KeepsOthers, SyncsOnly}
use Rattle.compact.specs.Choosing.{Choosing}
use Rattle.compact.specs.JobEdits.{gone, placed_at, pointer_fields}
use Rattle.compact.specs.Merging.{IsFinished}
use Rattle.compact.specs.Outputs.{AreClosed, table_name}
use Rattle.directory_writes.specs.internal.Install.{AreOldOrSynced, IsTableSynced}
use Rattle.directory_writes.proofs.AfterEdits.{PutsIn, all_edit}

all_both : {X : Type 0} (P : X → Type 0) (xs ys : List X) → AllByRecursion P xs → AllByRecursion P ys → AllByRecursion P (xs ++ ys)
all_both P [] ys h k = k
all_both P (x ∷ xs) ys h k = (h.0, all_both P xs ys h.1 k)

puts_pointer : (P : PlacedTable → Type 0) (level : ℕ) (key : Option (List ℕ)) → AllByRecursion (PutsIn P) (pointer_fields level key)
puts_pointer P level None = tt
puts_pointer P level (Some key) = (tt, tt)

puts_gone : (P : PlacedTable → Type 0) (inputs : List PlacedTable) → AllByRecursion (PutsIn P) (map gone inputs)
puts_gone P [] = tt
puts_gone P (placed ∷ inputs) = (tt, puts_gone P inputs)

puts_closed : (cmp : List ℕ → List ℕ → Ordering) (facts : Facts) (old : List PlacedTable) (level : ℕ) (tables : List TableFile) (ts : List (List Pair)) → AreClosed cmp facts tables ts
    → AllByRecursion (PutsIn (λ (p : PlacedTable). Contains old p ⊎ IsTableSynced facts p.table.number)) (map (placed_at level) tables)
puts_closed cmp facts old level [] ts h = tt
puts_closed cmp facts old level (table ∷ tables) [] h = absurd h
puts_closed cmp facts old level (table ∷ tables) (pairs ∷ ts) h = (inr (h.0.file, h.0.has, h.0.synced), puts_closed cmp facts old level tables ts h.1)

-- after the edit of a job
pub put_synced : (cmp : List ℕ → List ℕ → Ordering) (deep : List ℕ → Bool) (plan : JobPlan) (last : List ℕ) (c : Choosing) (facts : Facts) (next last_sequence : ℕ) (came : List InternalEntry) (edit : List Field) (old new : List PlacedTable)
    → AreInOrder cmp old → LeadsLayout (after_edit edit) old new → IsFinished cmp deep plan last c facts next last_sequence came edit → AreOldOrSynced facts old new
put_synced cmp deep plan last c facts next last_sequence came edit old new order leads done placed there =
    let P : PlacedTable → Type 0 = λ p. Contains old p ⊎ IsTableSynced facts p.table.number in
    let closed = puts_closed cmp facts old plan.output_level done.0 done.2.has_written.tables done.2.has_written.closed_are in
    let puts : AllByRecursion (PutsIn P) edit = subst (AllByRecursion (PutsIn P)) (sym done.1.fields_are) (
      tt,
      (
        tt,
        all_both (PutsIn P) (pointer_fields plan.output_level plan.compact_pointer) (map gone done.1.sorted ++ map (placed_at plan.output_level) done.0)
            (puts_pointer P plan.output_level plan.compact_pointer) (all_both (PutsIn P) (map gone done.1.sorted) (map (placed_at plan.output_level) done.0) (puts_gone P done.1.sorted) closed),
      ),
    ) in
    let r = leads old (record { numbers = order.numbers; all = all_contained (Contains old) old (λ p c. c); only = all_contained (Contains old) old (λ p c. c) }) in
    let all : AllByRecursion P r.0 = all_edit P edit old r.0 puts (recursion_from_All P old (all_contained P old (λ p c. inl c))) r.1 in
    All-contains P r.0 placed (All-from_recursion P r.0 all) (All-contains (Contains r.0) new placed r.2.only there)

-- and of another file
pub synced_still : (mid new : Facts) (manifest : List ℕ) → KeepsOthers mid.files new.files manifest → SyncsOnly mid.synced new.synced manifest → (old tables : List PlacedTable) → AreOldOrSynced mid old tables
    → (placed : PlacedTable) → Contains tables placed → table_name placed.table.number ≢ manifest → Contains old placed ⊎ IsTableSynced new placed.table.number
synced_still mid new manifest others synced old tables h placed there apart = elim (h placed there) [
  | inl was ↦ inl was
  | inr whole ↦ inr (whole.0, others (table_name placed.table.number) apart ∙ whole.1, synced (table_name placed.table.number) apart ∙ whole.2)
]
