-- The edit of a job that is done, as a compaction of its directory.
use Rattle.std.proofs.Common.{◌≡◌, ℕ, Bool, Some, List, [], ◌∷◌, map, inl, inr, sym, ap, subst, ◌∙◌}
use Rattle.std.specs.List.{AllByRecursion}
use Rattle.edits.specs.declared.field.Field.{Field}
use Rattle.edits.specs.declared.field.PlacedTable.{PlacedTable}
use Rattle.edits.specs.declared.field.TableFile.{TableFile}
use Rattle.edits.specs.Layout.{after_edit}
use Rattle.edits.specs.Snapshot.{AreInPlace}
use Rattle.versions.specs.declared.plan.JobPlan.{JobPlan}
use Rattle.ikey.specs.declared.entry.Entry.{Entry}
use Rattle.ikey.specs.Entries.{InternalEntry, entry_of}
use Rattle.ikey.specs.Orders.{Order}
use Rattle.ikey.specs.Sources.{AreSorted}
use Rattle.ikey.specs.Views.{Among}
use Rattle.store.specs.Files.{Facts}
use Rattle.recover.specs.Tables.{TableContent, InTables, tabled}
use Rattle.recover.specs.Directory.{Directory, used_in}
use Rattle.recover.proofs.Flushing.{kept_by}
use Rattle.compact.specs.Choosing.{Choosing}
use Rattle.compact.specs.Lists.{IsPartWith}
use Rattle.compact.specs.Needed.{IsNeeded, AreNeeded}
use Rattle.compact.proofs.Parts.{part-members}
use Rattle.directory_writes.specs.internal.Compactions.{at_level, IsUnused, IsJobDone, IsJobPut}
use Rattle.directory_writes.specs.Replacing.{placed_in}
use Rattle.directory_writes.proofs.JobFolds.{job_folds}
use Rattle.directory_writes.proofs.JobOutputs.{outputs_are}
use Rattle.directory_writes.proofs.JobTables.{among_placed, table_of, replaces}

part_sorted : (order : Order) (P : Entry → Type 0) (xs ys : List Entry) → IsPartWith P xs ys → AreSorted order xs → AreSorted order ys
part_sorted order P [] ys h sorted = subst (AreSorted order) (sym h) tt
part_sorted order P (x ∷ xs) ys (inl (p, rest, is, h)) sorted =
    subst (AreSorted order) (sym is) ((λ other i. sorted.0 other (part-members P xs rest other h i).0), part_sorted order P xs rest h sorted.1)
part_sorted order P (x ∷ xs) ys (inr (n, h)) sorted = part_sorted order P xs ys h sorted.1

level_is : (level : ℕ) (tables : List TableFile) (outputs : List TableContent) → placed_in outputs ≡ map (at_level level) tables → (output : TableContent) → InTables outputs output → output.placed.level ≡ level
level_is level tables outputs is output i =
    let L : List PlacedTable → Type 0 = λ ps. Among ps output.placed in
    ap (λ (p : PlacedTable). p.level) (table_of level tables output.placed (subst L is (among_placed outputs output i))).2

same_tables : (ts us : List PlacedTable) → Some ts ≡ Some us → ts ≡ us
same_tables ts us e = cc

module _ (order : Order) (deep : List ℕ → Bool) (plan : JobPlan) (last : List ℕ) (c : Choosing) (facts : Facts) (number : ℕ) (came : List InternalEntry) (edit : List Field) (d : Directory) (inputs rest : List TableContent)
    (h : IsJobDone order deep plan last c facts number came edit d inputs rest) where
  needed : AreNeeded (map entry_of came) c.snapshots deep (map entry_of h.finished.2.kept)
  needed = h.finished.2.chooses.chosen_is.needed

  sorted : AreSorted order (map entry_of h.finished.2.kept)
  sorted = part_sorted order (IsNeeded (map entry_of came) c.snapshots deep) (map entry_of came) (map entry_of h.finished.2.kept) needed (h.finished.2.sorted order.name)

  in_place : AreInPlace (placed_in d.tables)
  in_place = subst AreInPlace (sym h.consistent.placed) (kept_by order facts.files d.manifest d.edits d.layout h.consistent.manifest).in_place

  unused : AllByRecursion (IsUnused (placed_in d.tables)) edit
  unused = (let P : List PlacedTable → Type 0 = λ ts. AllByRecursion (IsUnused ts) edit in subst P (sym h.consistent.placed) h.unused)

  pub job_done : (outputs contents : List TableContent) × IsJobPut order deep plan.output_level c.snapshots facts.files came edit d inputs rest outputs contents
  job_done =
      let level = plan.output_level in
      let tables = h.finished.0 in
      let out = outputs_are order facts level number tables h.finished.2.written h.finished.2.kept h.fits h.finished.2.has_written h.finished.2.written_are sorted in
      let put = replaces level number (used_in d) plan.inputs.items plan.compact_pointer tables edit d.tables inputs rest out.0 h.finished.1 h.in_order unused in_place h.parted h.planned out.1.placed in
      let After : List PlacedTable → Type 0 = λ ts. after_edit edit ts ≡ Some (placed_in put.0) in
      let after : after_edit edit d.layout.tables.items ≡ Some (placed_in put.0) = subst After h.consistent.placed put.2 in
      let needs : AreNeeded (map entry_of came) c.snapshots deep (tabled out.0) = subst (AreNeeded (map entry_of came) c.snapshots deep) (sym out.1.entries) needed in (
        out.0,
        put.0,
        record {
          after = after;
          compaction = λ next layout.
              let left = (job_folds order.name d.edits level number (used_in d) plan.inputs.items plan.compact_pointer tables edit d.layout next h.consistent.manifest.spelled.folded h.finished.1).1 layout in
              record {
                old_tables = h.parted;
                replaceable = h.replaceable;
                positive = h.positive;
                levels = level_is level tables out.0 out.1.placed;
                taken = λ entry i. (h.all_came entry).0 (part-members (IsNeeded (map entry_of came) c.snapshots deep) (map entry_of came) (tabled out.0) entry needs i).0;
                sorted = subst (AreSorted order) (sym out.1.entries) sorted;
                new_tables = put.1;
                tables = same_tables (placed_in put.0) next.tables.items (sym after ∙ left.tables);
                log_number = left.log_number;
                previous_log_number = left.previous_log_number;
                last_sequence = left.last_sequence;
              };
          has = out.1.has;
          short = out.1.short;
          needed = needs;
        },
      )
