-- What a finished compaction leaves of a directory (LevelDB's db/db_impl.cc,
-- InstallCompactionResults).
use Rattle.std.specs.Prelude.{◌≡◌, ◌<◌, ◌+◌, ◌^◌, ℕ, Bool, IsTrue, false, Some, None, Option, List, [], ◌∷◌, ◌++◌, map}
use Rattle.std.specs.List.{AllByRecursion, Contains}
use Rattle.std.specs.List.Sorted.{IsPermutation}
use Rattle.ikey.specs.Entries.{InternalEntry, Pair, entry_of}
use Rattle.ikey.specs.Orders.{Order}
use Rattle.ikey.specs.Sources.{AreSorted, SameEntries}
use Rattle.ikey.specs.Views.{Among, Contents, IsView}
use Rattle.ikey.specs.declared.entry.Entry.{Entry}
use Rattle.std.specs.Cmp.{IsTotalOrder}
use Rattle.edits.specs.Names.{name_of}
use Rattle.edits.specs.declared.names.FileName.TheVariants.{Manifest}
use Rattle.table.specs.Writing.{KeepsOthers}
use Rattle.store.specs.Files.{Files, Facts}
use Rattle.table.specs.Table.{ArePairs}
use Rattle.edits.specs.declared.field.Field.{Field}
use Rattle.edits.specs.declared.field.Field.TheVariants.{NewFile}
use Rattle.edits.specs.declared.field.PlacedTable.{PlacedTable}
use Rattle.edits.specs.declared.field.TableFile.{TableFile}
use Rattle.edits.specs.declared.layout.Layout.{Layout}
use Rattle.edits.specs.Edit.{IsInOrder}
use Rattle.edits.specs.Layout.{IsLayout, is_used, after_edit}
use Rattle.edits.specs.Snapshot.{AreInPlace}
use Rattle.versions.specs.declared.plan.JobPlan.{JobPlan}
use Rattle.versions.specs.Levels.{pointers_after}
use Rattle.recover.specs.Tables.{TableContent, HasTable, InTables, tabled}
use Rattle.recover.specs.Report.{IsLongTable, HasBytes}
use Rattle.recover.specs.Directory.{Directory, IsConsistent, HasManifest, entries_in, used_in}
use Rattle.recover.specs.Replacing.{AreParted, MayReplace}
use Rattle.recover.specs.internal.Changes.{AreClosedInputs, IsCompaction, compacted}
use Rattle.recover.specs.Logs.{logged}
use Rattle.compact.specs.Choosing.{Choosing}
use Rattle.compact.specs.Deeper.{is_covered_below}
use Rattle.compact.specs.JobEdits.{IsEditOf, IsOwnIn}
use Rattle.compact.specs.Laws.{AreNewerOrDeep, SeesAsOne}
use Rattle.compact.specs.Merging.{IsFinished}
use Rattle.compact.specs.Needed.{AreNeeded}
use Rattle.compact.specs.Outputs.{TablesWritten, HasWritten, IsOwn}
use Rattle.directory_writes.specs.Replacing.{placed_in}

-- ---- the tables that were written

abbrev pub at_level : ℕ → TableFile → PlacedTable
at_level level table = record { level = level; table = table }

-- The files have these tables at the level, one for each that was written, and together they have
-- what was kept, in order. No block of them is too long to be read.
pub record AreOutputs (order : Order) (files : Files) (level : ℕ) (tables : List TableFile) (kept : List InternalEntry) (outputs : List TableContent) : Type 0 where
  pub placed : placed_in outputs ≡ map (at_level level) tables
  pub entries : tabled outputs ≡ map entry_of kept
  pub has : (output : TableContent) → InTables outputs output → HasTable order files output
  pub short : (output : TableContent) → InTables outputs output → HasBytes (IsLongTable order) files output → ⊥

-- What was written over a store are such tables.
abbrev pub OutputsLaw : Type 0
OutputsLaw = (order : Order) (facts : Facts) (level next : ℕ) (tables : List TableFile) (pairs : List Pair) (kept : List InternalEntry)
    → next < 2 ^ 64 → HasWritten order.cmp (record { closed = tables; at_hand = None }) facts next pairs → ArePairs pairs kept → AreSorted order (map entry_of kept)
    → (outputs : List TableContent) × AreOutputs order facts.files level tables kept outputs

-- ---- the edit

-- the field puts in no table whose number one of these has
abbrev pub IsUnused : List PlacedTable → Field → Type 0
IsUnused tables (NewFile placed) = is_used placed.table.number tables ≡ false
IsUnused tables field = Unit {0}

-- The edit of a job takes the inputs out of the tables of a layout, and puts the outputs in, each
-- in its place.
abbrev pub ReplacesLaw : Type 0
ReplacesLaw = (level next last : ℕ) (planned : List PlacedTable) (pointer : Option (List ℕ)) (tables : List TableFile) (edit : List Field) (contents inputs rest outputs : List TableContent)
    → IsEditOf level planned pointer tables next last edit → IsInOrder edit → AllByRecursion (IsUnused (placed_in contents)) edit
    → AreInPlace (placed_in contents) → AreParted contents inputs rest → IsPermutation planned (placed_in inputs) → placed_in outputs ≡ map (at_level level) tables
    → (after : List TableContent) × AreParted after outputs rest × (after_edit edit (placed_in contents) ≡ Some (placed_in after))

-- What the edit leaves of a layout: the logs stay, and these are the numbers.
pub record IsAfterJob (next_file last : ℕ) (edit : List Field) (old new : Layout) : Type 0 where
  pub log_number : new.log_number ≡ old.log_number
  pub previous_log_number : new.previous_log_number ≡ old.previous_log_number
  pub next_file_number : new.next_file_number ≡ next_file
  pub last_sequence : new.last_sequence ≡ last
  pub compact_pointers : new.compact_pointers.items ≡ pointers_after edit 0 old.compact_pointers.items
  pub tables : after_edit edit old.tables.items ≡ Some new.tables.items

-- After the edits of a layout the edit of a job leaves that, and nothing else.
abbrev pub JobFoldsLaw : Type 0
JobFoldsLaw = (name : List ℕ) (edits : List (List Field)) (level next last : ℕ) (planned : List PlacedTable) (pointer : Option (List ℕ)) (tables : List TableFile) (edit : List Field) (old new : Layout)
    → IsLayout name edits old → IsEditOf level planned pointer tables next last edit
    → (IsAfterJob next last edit old new → IsLayout name (edits ++ edit ∷ []) new) × (IsLayout name (edits ++ edit ∷ []) new → IsAfterJob next last edit old new)

-- ---- the whole

-- A job of a plan for this directory has ended over files that are still this directory, and
-- answered this edit. Its inputs may be replaced, all of their entries came, no output has the
-- number of a table, and the edit's sequence number is the last one used.
pub record IsJobDone (order : Order) (deep : List ℕ → Bool) (plan : JobPlan) (last : List ℕ) (c : Choosing) (facts : Facts) (number : ℕ) (came : List InternalEntry) (edit : List Field) (d : Directory) (inputs rest : List TableContent) : Type 0 where
  pub consistent : IsConsistent order facts.files d
  pub parted : AreParted d.tables inputs rest
  pub planned : IsPermutation plan.inputs.items (placed_in inputs)
  pub positive : 0 < plan.output_level
  pub replaceable : MayReplace order inputs rest plan.output_level
  pub fits : number < 2 ^ 64
  pub finished : IsFinished order.cmp deep plan last c facts number (used_in d) came edit
  pub all_came : SameEntries (map entry_of came) (tabled inputs)
  pub in_order : IsInOrder edit
  pub unused : AllByRecursion (IsUnused d.layout.tables.items) edit

-- Its outputs are there with what must be kept of what came, in their order, and stand in these
-- tables instead of the inputs.
pub record IsJobPut (order : Order) (deep : List ℕ → Bool) (level : ℕ) (snapshots : List ℕ) (files : Files) (came : List InternalEntry) (edit : List Field) (d : Directory) (inputs rest outputs contents : List TableContent) : Type 0 where
  pub after : after_edit edit d.layout.tables.items ≡ Some (placed_in contents)
  pub compaction : (next : Layout) → IsLayout order.name (d.edits ++ edit ∷ []) next → IsCompaction order d next inputs rest outputs contents level
  pub has : (output : TableContent) → InTables outputs output → HasTable order files output
  pub short : (output : TableContent) → InTables outputs output → HasBytes (IsLongTable order) files output → ⊥
  pub needed : AreNeeded (map entry_of came) snapshots deep (tabled outputs)

-- The same holds for each job that is done.
abbrev pub JobDoneLaw : Type 0
JobDoneLaw = (order : Order) (deep : List ℕ → Bool) (plan : JobPlan) (last : List ℕ) (c : Choosing) (facts : Facts) (number : ℕ) (came : List InternalEntry) (edit : List Field) (d : Directory) (inputs rest : List TableContent)
    → IsJobDone order deep plan last c facts number came edit d inputs rest
    → (outputs contents : List TableContent) × IsJobPut order deep plan.output_level c.snapshots facts.files came edit d inputs rest outputs contents

-- Tables that a job wrote are unused where no table has a number that is the job's.
abbrev pub UnusedLaw : Type 0
UnusedLaw = (w : TablesWritten) (edit : List Field) (tables : List PlacedTable)
    → AllByRecursion (IsOwnIn w) edit → ((number : ℕ) → IsOwn w number → is_used number tables ≡ false) → AllByRecursion (IsUnused tables) edit

-- ---- after the MANIFEST

-- A reader at a sequence number that sees what one of the snapshots sees, sees the same.
abbrev pub AreSeenAlike : List Entry → List ℕ → Directory → Directory → Type 0
AreSeenAlike merged snapshots before after = (p : ℕ) (map : Contents) → SeesAsOne merged snapshots p → IsView (entries_in before) p map → IsView (entries_in after) p map

-- Once the edit stands after the MANIFEST, and no other file has changed, the directory is
-- consistent with the outputs instead of the inputs. Where of each key of the inputs all else is
-- newer, or the job has kept deletes of it, the views of the snapshots are as they were.
abbrev pub JobPutLaw : Type 0
JobPutLaw = (order : Order) (deep : List ℕ → Bool) (level : ℕ) (snapshots : List ℕ) (old new : Files) (came : List InternalEntry) (edit : List Field) (d : Directory) (next : Layout) (inputs rest outputs contents : List TableContent)
    → IsConsistent order old d → IsJobPut order deep level snapshots old came edit d inputs rest outputs contents → SameEntries (map entry_of came) (tabled inputs)
    → HasManifest order new d.manifest (d.edits ++ edit ∷ []) next → KeepsOthers old new (name_of (Manifest d.manifest))
    → IsConsistent order new (compacted d (d.edits ++ edit ∷ []) next contents)
    × (used_in (compacted d (d.edits ++ edit ∷ []) next contents) ≡ used_in d)
    × (AreNewerOrDeep (tabled inputs) (tabled rest ++ logged d.logs) deep → AreSeenAlike (tabled inputs) snapshots d (compacted d (d.edits ++ edit ∷ []) next contents))

-- The same holds if the inputs are closed, and `deep` has the keys of all tables below the level
-- that is written.
abbrev pub JobApartLaw : Type 0
JobApartLaw = (order : Order) (files : Files) (d : Directory) (inputs rest : List TableContent) (level : ℕ) (deep : List ℕ → Bool) → IsTotalOrder order.cmp
    → IsConsistent order files d → AreParted d.tables inputs rest → AreClosedInputs order inputs rest level
    → ((stays : TableContent) (entry : Entry) → InTables rest stays → level + 1 < stays.placed.level → Among stays.entries entry → IsTrue (deep entry.key))
    → AreNewerOrDeep (tabled inputs) (tabled rest ++ logged d.logs) deep

-- A table of a version that lies below the level covers the keys of its entries.
abbrev pub DeepLaw : Type 0
DeepLaw = (order : Order) (files : Files) (content : TableContent) (entry : Entry) (level : ℕ) (tables : List PlacedTable) → IsTotalOrder order.cmp
    → HasTable order files content → Among content.entries entry → level < content.placed.level → Contains tables content.placed → IsTrue (is_covered_below order.cmp level tables entry.key)
