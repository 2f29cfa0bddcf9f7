-- A job under way, in each directory that differs in tables alone.
use Rattle.std.proofs.Common.{ℕ, Bool, List, [], ◌∷◌, inl, inr, refl}
use Rattle.std.specs.List.{AllByRecursion}
use Rattle.std.specs.declared.cmp.Ordering.{Ordering}
use Rattle.ikey.specs.Entries.{InternalEntry, Pair}
use Rattle.store.specs.Files.{Facts}
use Rattle.store.specs.Losses.{StaysNamed}
use Rattle.edits.specs.declared.field.TableFile.{TableFile}
use Rattle.edits.specs.declared.names.FileName.TheVariants.{Table}
use Rattle.compact.specs.Choosing.{Choosing}
use Rattle.compact.specs.Merging.{IsMerging}
use Rattle.compact.specs.Outputs.{AreClosed, IsMineUpTo, TablesWritten, table_name}
use Rattle.directory_writes.specs.Differing.{with_files}
use Rattle.directory_writes.specs.internal.Each.{HaveStayed}
use Rattle.directory_writes.specs.internal.JobsEach.{JobWritesEachLaw, MergingEachLaw, SameOutputsLaw}
use Rattle.directory_writes.proofs.InstalledEach.{Agrees, each_closed, merging_too, none_called}
use Rattle.directory_writes.proofs.JobWritten.{job_writes}
use Rattle.directory_writes.proofs.SameCalls.{writes_tables_too}
use Rattle.directory_writes.proofs.SameChanges.{also, free_file}

pub merging_each : MergingEachLaw
merging_each cmp deep last c w facts next came whole numbered same m =
    merging_too cmp facts (with_files facts whole) refl deep last c w next came numbered.at_hand (each_closed (Agrees facts.files whole) w.closed (λ number at. same number (inr at))) (none_called facts whole w.closed)
    (λ number at. same number (inl at)) m

-- those that were ended have stayed under their names
closed_stayed : (cmp : List ℕ → List ℕ → Ordering) (facts : Facts) (cs : List TableFile) (ts : List (List Pair)) → AreClosed cmp facts cs ts → AllByRecursion (λ (table : TableFile). StaysNamed facts (table_name table.number)) cs
closed_stayed cmp facts [] [] h = tt
closed_stayed cmp facts [] (pairs ∷ ts) h = absurd h
closed_stayed cmp facts (table ∷ cs) [] h = absurd h
closed_stayed cmp facts (table ∷ cs) (pairs ∷ ts) h = (h.0.stays, closed_stayed cmp facts cs ts h.1)

pub merging_stayed : (cmp : List ℕ → List ℕ → Ordering) (deep : List ℕ → Bool) (last : List ℕ) (c : Choosing) (w : TablesWritten) (facts : Facts) (next : ℕ) (came : List InternalEntry) → IsMerging cmp deep last c w facts next came → HaveStayed w facts
merging_stayed cmp deep last c w facts next came m = closed_stayed cmp facts w.closed m.has_written.tables m.has_written.closed_are

pub same_outputs : SameOutputsLaw
same_outputs order old new whole after w v next d c free same owns number own = also old new whole after d c (table_name number) (elim (owns number own) [
  | inl was ↦ same number was
  | inr fresh ↦ free_file order old whole next (Table number) d free fresh.1 fresh.0
])

pub job_writes_each : JobWritesEachLaw
job_writes_each order old new w next more d f writes le fits numbered none whole after differs c good free =
    job_writes order (with_files old whole) (with_files new after) w next more d f (writes_tables_too old new whole after c.stays (IsMineUpTo w next more) writes) le fits good free numbered none
