-- The edit of a job after the MANIFEST.
use Rattle.std.proofs.Common.{◌≡◌, ◌<◌, ◌≤◌, ◌^◌, ℕ, suc, Bool, List, [], ◌∷◌, ◌++◌, length, map, Some, Option, All, Contains, Ok, Err, IsTrue, string_bytes, inl, inr, refl, sym, ap, subst, ◌∙◌, arith}
use Rattle.std.specs.Global.{Vec}
use Rattle.std.specs.List.{AllByRecursion}
use Rattle.std.specs.List.Sorted.{IsPermutation}
use Rattle.std.specs.FinMap.{get}
use Rattle.std.proofs.lemmas.List.Elements.{All-cons, All-contains, recursion_from_All}
use Rattle.std.proofs.lemmas.List.Sorted.{All-permutation, IsPermutation-sym}
use Rattle.coding.specs.declared.error.DbError.TheVariants.{OutOfMemory, Io}
use Rattle.ikey.specs.Entries.{InternalEntry}
use Rattle.ikey.specs.Orders.{Order}
use Rattle.store.specs.Files.{Files, Facts}
use Rattle.edits.specs.Edit.{IsProper, HasPastLimit}
use Rattle.edits.specs.Layout.{IsLayout, fields_of, after_edit}
use Rattle.edits.specs.Names.{name_of, IsNumbered}
use Rattle.edits.specs.Snapshot.{IsPlacedProper}
use Rattle.edits.specs.declared.field.Field.{Field}
use Rattle.edits.specs.declared.field.Field.TheVariants as field
use Rattle.edits.specs.declared.field.PlacedTable.{PlacedTable}
use Rattle.edits.specs.declared.field.TableFile.{TableFile}
use Rattle.edits.specs.declared.layout.Layout.{Layout}
use Rattle.edits.specs.declared.names.FileName.TheVariants.{Manifest, Table}
use Rattle.edits.proofs.FileNames.{one_file}
use Rattle.table.specs.Writing.{KeepsOthers}
use Rattle.versions.specs.Applying.{LeadsLayout}
use Rattle.versions.specs.Levels.{ListsSameTables, pointers_after}
use Rattle.versions.proofs.Sets.{inside}
use Rattle.recover.specs.Tables.{TableContent, InTables}
use Rattle.recover.specs.Directory.{Directory, IsConsistent, HasManifest, EndsAt, used_in}
use Rattle.recover.specs.internal.Changes.{ManifestEndsAt, AgreeBeside, SameManifestLaw, IsCompaction, compacted}
use Rattle.recover.specs.Numbers.{NamesBelow}
use Rattle.recover.proofs.Adding.{table_of}
use Rattle.recover.proofs.Flushing.{kept_by}
use Rattle.recover.proofs.OneMeaning.{same_directory}
use Rattle.recover.proofs.Memberships.{from_chosen, from_rest, in_part}
use Rattle.compact.specs.JobEdits.{IsEditOf, gone, placed_at}
use Rattle.compact.specs.Outputs.{AreNumbered, IsDrawnNumber, IsNumberAtHand, WritesTables, table_name}
use Rattle.compact.specs.declared.job.Job.{Job}
use Rattle.directory_writes.specs.Replacing.{placed_in}
use Rattle.directory_writes.specs.internal.Compactions.{IsJobDone, IsJobPut}
use Rattle.directory_writes.specs.internal.Flush.{KeepsLogsAndTables, PassesNoLimit}
use Rattle.directory_writes.specs.internal.Install.{AreOldOrOwn, AreOldOrSynced, CanInstall, HasInstalled, IsInstalled, IsJobEdit, IsServed, IsUninstalled, MayBeInstalled, PutsOwn}
use Rattle.directory_writes.specs.internal.JobWrites.{KeepsOtherTables}
use Rattle.directory_writes.specs.internal.Manifest.{CanAddEdit, IsRecordedBelow, AppendsEdit}
use Rattle.directory_writes.specs.declared.manifest.CurrentManifest.{CurrentManifest}
use Rattle.directory_writes.proofs.AfterEdits.{PutsIn, AreKept, kept_edit, distinct}
use Rattle.directory_writes.proofs.FlushEdits.{all_fields, fields_last}
use Rattle.directory_writes.proofs.JobFolds.{front_of, front_all, job_folds}
use Rattle.directory_writes.proofs.JobTables.{contains_among, content_at}
use Rattle.directory_writes.proofs.JobWritten.{hand_below, beside_written, keeps_others}
use Rattle.directory_writes.proofs.JobsDone.{job_done}
use Rattle.directory_writes.proofs.JobsPut.{agree, job_put, same_table, still_there, unused_by}
use Rattle.directory_writes.proofs.TableEdits.{few_tables, past_split}
use Rattle.directory_writes.proofs.TableFiles.{agree_then, below_free, end_kept, log_stays}

-- ---- what the edit names

all_gone : (n : ℕ) (ts : List PlacedTable) → All (λ (p : PlacedTable). p.table.number < n) ts → AllByRecursion (NamesBelow n) (map gone ts)
all_gone n [] h = tt
all_gone n (t ∷ ts) h = (h 0 t (omega arith), all_gone n ts (λ k d lt. h (suc k) d (omega (arith, lt))))

all_new : (n level : ℕ) (tables : List TableFile) → AllByRecursion (λ (table : TableFile). IsDrawnNumber n table.number) tables → AllByRecursion (NamesBelow n) (map (placed_at level) tables)
all_new n level [] h = tt
all_new n level (t ∷ tables) h = (h.0.1, all_new n level tables h.1)

all_placed : (P : PlacedTable → Type 0) (contents : List TableContent) → ((content : TableContent) → InTables contents content → P content.placed) → All P (placed_in contents)
all_placed P [] h = λ k d lt. absurd (omega (arith, lt))
all_placed P (c ∷ contents) h = All-cons P c.placed (placed_in contents) (h c (inl refl)) (all_placed P contents (λ t i. h t (inr i)))

-- its numbers are below the next one
named_below : (n level last : ℕ) (planned : List PlacedTable) (pointer : Option (List ℕ)) (tables : List TableFile) (edit : List Field) (inputs : List TableContent) → IsEditOf level planned pointer tables n last edit
    → IsPermutation planned (placed_in inputs) → ((content : TableContent) → InTables inputs content → content.placed.table.number < n) → AllByRecursion (λ (table : TableFile). IsDrawnNumber n table.number) tables
    → AllByRecursion (NamesBelow n) edit
named_below n level last planned pointer tables edit inputs is permuted below new =
    let P : PlacedTable → Type 0 = λ p. p.table.number < n in
    let all : All P is.sorted = All-permutation P planned is.sorted is.inputs_are (All-permutation P (placed_in inputs) planned (IsPermutation-sym planned (placed_in inputs) permuted) (all_placed P inputs below)) in
    subst (AllByRecursion (NamesBelow n)) (sym is.fields_are)
    (all_fields (NamesBelow n) (front_of level n last pointer) (map gone is.sorted ++ map (placed_at level) tables) (front_all (NamesBelow n) level n last pointer tt tt (λ key. tt))
    (all_fields (NamesBelow n) (map gone is.sorted) (map (placed_at level) tables) (all_gone n is.sorted all) (all_new n level tables new)))

one_within : (n : ℕ) (f : Field) → n ≤ 2 ^ 62 → NamesBelow n f → Rattle.edits.specs.Edit.IsPastLimit f → ⊥
one_within n (field.NewFile placed) few below past = omega (arith, few, below, past)
one_within n (field.DeletedFile level number) few below past = omega (arith, few, below, past)
one_within n (field.Comparator name) few below past = past
one_within n (field.LogNumber k) few below past = past
one_within n (field.NextFileNumber k) few below past = past
one_within n (field.LastSequence k) few below past = past
one_within n (field.CompactPointer level key) few below past = past
one_within n (field.PreviousLogNumber k) few below past = past

none_past : (n : ℕ) (edit : List Field) → n ≤ 2 ^ 62 → AllByRecursion (NamesBelow n) edit → HasPastLimit edit → ⊥
none_past n [] few h past = past
none_past n (f ∷ edit) few h (inl here) = one_within n f few h.0 here
none_past n (f ∷ edit) few h (inr later) = none_past n edit few h.1 later

-- a table that a version can have, with a number below this
abbrev pub IsFit : ℕ → PlacedTable → Type 0
IsFit n placed = (placed.level < 7) × (placed.table.number < n)

puts_one : (n : ℕ) (f : Field) → IsProper f → NamesBelow n f → PutsIn (IsFit n) f
puts_one n (field.NewFile placed) proper below = (proper.0, below)
puts_one n (field.DeletedFile level number) proper below = tt
puts_one n (field.Comparator name) proper below = tt
puts_one n (field.LogNumber k) proper below = tt
puts_one n (field.NextFileNumber k) proper below = tt
puts_one n (field.LastSequence k) proper below = tt
puts_one n (field.CompactPointer level key) proper below = tt
puts_one n (field.PreviousLogNumber k) proper below = tt

puts_all : (n : ℕ) (edit : List Field) → AllByRecursion IsProper edit → AllByRecursion (NamesBelow n) edit → AllByRecursion (PutsIn (IsFit n)) edit
puts_all n [] proper below = tt
puts_all n (f ∷ edit) proper below = (puts_one n f proper.0 below.0, puts_all n edit proper.1 below.1)

-- the tables of a layout
fit_placed : (n : ℕ) (contents : List TableContent) → AllByRecursion IsPlacedProper (placed_in contents) → ((content : TableContent) → InTables contents content → content.placed.table.number < n) → AllByRecursion (IsFit n) (placed_in contents)
fit_placed n [] proper below = tt
fit_placed n (c ∷ contents) proper below = ((proper.0.0, below c (inl refl)), fit_placed n contents proper.1 (λ t i. below t (inr i)))

among_fit : (n : ℕ) (tables : List PlacedTable) (p : PlacedTable) → AllByRecursion (IsFit n) tables → Rattle.versions.proofs.Pairs.Among p tables → p.table.number < n
among_fit n [] p h a = absurd a
among_fit n (t ∷ tables) p h (inl e) = (let lt = h.0.1 in omega (arith, lt, ap (λ (q : PlacedTable). q.table.number) e))
among_fit n (t ∷ tables) p h (inr a) = among_fit n tables p h.1 a

-- files are one directory at most
pub same_tables : (order : Order) (files : Files) (x y : Directory) → IsConsistent order files x → IsConsistent order files y → x.layout.tables.items ≡ y.layout.tables.items
same_tables order files x y a b = sym a.placed ∙ ap placed_in (same_directory order files x y a b).3 ∙ b.placed

-- ---- the layout after it

abbrev pub with_items : {X : Type 0} (v : Vec X) (items : List X) → length items < 2 ^ 63 → Vec X
with_items v items short = record { ptr = v.ptr; len = length items; cap = length items; alloc = v.alloc; items = items; ok = (refl, omega arith); small = short }

count_pointers : (edit : List Field) (level : ℕ) (pointers : List (Option (List ℕ))) → length (pointers_after edit level pointers) ≡ length pointers
count_pointers edit level [] = refl
count_pointers edit level (p ∷ pointers) = ap suc (count_pointers edit (suc level) pointers)

-- ---- the directory while the job is ended

module _ {K C : Type 0} (order : Order) (job : Job K C) (next last_sequence : ℕ) (fits : next < 2 ^ 64) (numbered : AreNumbered job.outputs next) (old mid : Facts) (w : WritesTables old mid (IsNumberAtHand job.outputs)) (f : IsTrue mid.faithful)
    (deep : List ℕ → Bool) (manifest : CurrentManifest) (tables : List PlacedTable) (came : List InternalEntry) (d : Directory) (inputs rest : List TableContent)
    (can : CanInstall order deep job old next last_sequence manifest tables came d inputs rest) where
  hand_numbered : (number : ℕ) → IsNumberAtHand job.outputs number → IsNumbered number
  hand_numbered number at = let b = hand_below job.outputs next number numbered at in (b.0, omega (arith, b.1, fits))

  kept_parts : KeepsOtherTables order old.files mid.files (IsNumberAtHand job.outputs) next d
  kept_parts =
      keeps_others order old mid (IsNumberAtHand job.outputs) f w hand_numbered d can.served.consistent (λ number at. can.unused number (inl at)) next next (omega arith)
      (λ number at. (hand_below job.outputs next number numbered at).1) can.served.free

  pub served_mid : IsServed order mid.files next manifest tables d
  served_mid = record {
    consistent = kept_parts.consistent;
    number = can.served.number;
    named = can.served.named;
    ends = kept_parts.manifest manifest.end d.edits d.layout can.served.ends;
    free = kept_parts.free;
    listed = can.served.listed;
  }

  beside_mid : AgreeBeside old.files mid.files d
  beside_mid = beside_written order old mid (IsNumberAtHand job.outputs) f w hand_numbered d can.served.consistent (λ number at. can.unused number (inl at))

  pub uninstalled : IsUninstalled order old.files mid.files next manifest tables d
  uninstalled = record { served = served_mid; kept = record { beside = beside_mid; ends = kept_parts.log } }

  -- ---- its edit

  module _ (edit : List Field) (e : IsJobEdit order.cmp job old mid next last_sequence edit) where
    is_done : IsJobDone order deep job.plan job.last.items job.selection mid next came edit d inputs rest
    is_done = record {
      consistent = served_mid.consistent;
      parted = can.parted;
      planned = can.planned;
      positive = can.positive;
      replaceable = can.replaceable;
      fits = fits;
      finished = subst (λ (s : ℕ). Rattle.compact.specs.Merging.IsFinished order.cmp deep job.plan job.last.items job.selection mid next s came edit) can.used (e.finished deep came f can.merging);
      all_came = can.all_came;
      in_order = e.spelled;
      unused = unused_by job.outputs edit d.layout.tables.items e.own can.unused;
    }

    pub outputs_put : (outputs contents : List TableContent) × IsJobPut order deep job.plan.output_level job.selection.snapshots mid.files came edit d inputs rest outputs contents
    outputs_put = job_done order deep job.plan job.last.items job.selection mid next came edit d inputs rest is_done

    abbrev pub outputs : List TableContent
    outputs = outputs_put.0

    abbrev pub contents : List TableContent
    contents = outputs_put.1

    abbrev pub put : IsJobPut order deep job.plan.output_level job.selection.snapshots mid.files came edit d inputs rest outputs contents
    put = outputs_put.2

    below : (content : TableContent) → InTables d.tables content → content.placed.table.number < next
    below = below_free order old.files d next can.served.consistent can.served.free

    named : AllByRecursion (NamesBelow next) edit
    named =
        let done = is_done.finished in
        named_below next job.plan.output_level (used_in d) job.plan.inputs.items job.plan.compact_pointer done.0 edit inputs done.1 can.planned
        (λ content i. below content (from_chosen d.tables inputs rest content can.parted i)) done.2.has_written.closed_numbers

    pub kept_tables : AreKept (IsFit next) (placed_in contents)
    kept_tables =
        let kept = kept_by order old.files d.manifest d.edits d.layout can.served.consistent.manifest in
        let placed = can.served.consistent.placed in
        let P : List PlacedTable → Type 0 = λ ts. AllByRecursion IsPlacedProper ts in
        let A : List PlacedTable → Type 0 = λ ts. AllByRecursion (IsFit next) ts in
        kept_edit (IsFit next) edit d.layout.tables.items (placed_in contents)
        (puts_all next edit (recursion_from_All IsProper edit e.proper) named)
        (subst A placed (fit_placed next d.tables (subst P (sym placed) kept.proper) below), kept.in_place)
        put.after

    pub short : length (placed_in contents) < 2 ^ 63
    short =
        let few : length (placed_in contents) ≤ next = few_tables (placed_in contents) next (distinct (placed_in contents) kept_tables.1) (λ p a. among_fit next (placed_in contents) p kept_tables.0 a) in
        omega (arith, few, can.few)

    pub short_pointers : length (pointers_after edit 0 d.layout.compact_pointers.items) < 2 ^ 63
    short_pointers = (let same = count_pointers edit 0 d.layout.compact_pointers.items in let small = d.layout.compact_pointers.small in omega (arith, same, small))

    abbrev pub after : Layout
    after = record {
      log_number = d.layout.log_number;
      previous_log_number = d.layout.previous_log_number;
      next_file_number = next;
      last_sequence = used_in d;
      compact_pointers = with_items d.layout.compact_pointers (pointers_after edit 0 d.layout.compact_pointers.items) short_pointers;
      tables = with_items d.layout.tables (placed_in contents) short;
    }

    folded : IsLayout order.name (d.edits ++ edit ∷ []) after
    folded =
        (job_folds order.name d.edits job.plan.output_level next (used_in d) job.plan.inputs.items job.plan.compact_pointer is_done.finished.0 edit d.layout after
        can.served.consistent.manifest.spelled.folded is_done.finished.1).0
        (record { log_number = refl; previous_log_number = refl; next_file_number = refl; last_sequence = refl; compact_pointers = refl; tables = put.after })

    pub compaction : IsCompaction order d after inputs rest outputs contents job.plan.output_level
    compaction = put.compaction after folded

    can_add : CanAddEdit order mid.files manifest.number (string_bytes manifest.name) manifest.end d.edits d.layout edit after
    can_add = record {
      named = can.served.named ∙ ap (λ (m : ℕ). name_of (Manifest m)) (sym can.served.number);
      ends = subst (λ (m : ℕ). ManifestEndsAt order mid.files m manifest.end d.edits d.layout) (sym can.served.number) served_mid.ends;
      folded = folded;
    }

    recorded : IsRecordedBelow next edit after
    recorded =
        let r = can.served.free.recorded d.manifest d.edits d.layout can.served.consistent.manifest in
        record { next_file_number = omega arith; log_number = r.1; previous_log_number = r.2; named = named }

    -- ---- the files after it

    module _ (new : Files) (others : KeepsOthers mid.files new (string_bytes manifest.name)) where
      others_named : KeepsOthers mid.files new (name_of (Manifest d.manifest))
      others_named = subst (λ (q : List ℕ). KeepsOthers mid.files new q) can.served.named others

      beside_all : AgreeBeside old.files new d
      beside_all = agree_then old.files mid.files new d beside_mid (agree order mid.files new d.manifest can.served.consistent.manifest.numbered others_named d served_mid.consistent)

      abbrev pub result : Directory
      result = compacted d (d.edits ++ edit ∷ []) after contents

      ends_behind : (log position : ℕ) → EndsAt old.files d log position → EndsAt new result log position
      ends_behind log position x = record {
        before = x.before;
        last = x.last;
        logs = x.logs;
        number = x.number;
        clean = x.clean;
        bytes = x.bytes;
        there = log_stays order old.files new d can.served.consistent beside_all x.before x.last log x.logs x.number ∙ x.there;
        length = x.length;
      }

      within : PassesNoLimit order old.files d → PassesNoLimit order new result
      within h (inl past) = elim (past_split (fields_of d.edits) edit (subst HasPastLimit (fields_last d.edits edit) past)) [
        | inl before ↦ h (inl before)
        | inr here ↦ none_past next edit can.few named here
      ]
      within h (inr (content, i, has)) = elim (in_part contents outputs rest content compaction.new_tables i) [
        | inl o ↦
            let num = (put.has content o).numbered in
            put.short content o (has.0, sym (same_table order mid.files new d.manifest can.served.consistent.manifest.numbered others_named content.placed.table.number num) ∙ has.1, has.2)
        | inr r ↦
            let before = from_rest d.tables inputs rest content can.parted r in
            h (inr (content, before, (has.0, sym (beside_all.tables content before) ∙ has.1, has.2)))
      ]

      put_new : IsJobPut order deep job.plan.output_level job.selection.snapshots new came edit d inputs rest outputs contents
      put_new = record {
        after = put.after;
        compaction = put.compaction;
        has = λ output i. still_there order mid.files new d.manifest can.served.consistent.manifest.numbered others_named output (put.has output i);
        short = λ output i long.
            put.short output i (long.0, sym (same_table order mid.files new d.manifest can.served.consistent.manifest.numbered others_named output.placed.table.number (put.has output i).numbered) ∙ long.1, long.2);
        needed = put.needed;
      }

      -- where the MANIFEST has the edit
      pub has_installed : HasManifest order new d.manifest (d.edits ++ edit ∷ []) after → HasInstalled order deep job.plan.output_level job.selection.snapshots old.files new came d inputs rest
      has_installed has =
          let said = job_put order deep job.plan.output_level job.selection.snapshots mid.files new came edit d after inputs rest outputs contents served_mid.consistent put can.all_came has others_named in
          record {
            outputs = outputs;
            contents = contents;
            edit = edit;
            next = after;
            put = put_new;
            compaction = compaction;
            consistent = said.0;
            used = said.1;
            alike = said.2;
            kept = record { beside = beside_all; ends = ends_behind };
            limits = within;
          }

      -- where it hasn't
      pub has_kept : SameManifestLaw → HasManifest order new d.manifest d.edits d.layout → IsConsistent order new d × KeepsLogsAndTables old.files new d d
      has_kept law has = (
        law order mid.files new d served_mid.consistent has (agree order mid.files new d.manifest can.served.consistent.manifest.numbered others_named d served_mid.consistent),
        record { beside = beside_all; ends = end_kept order old.files new d can.served.consistent beside_all },
      )

    listed_behind : (left : List PlacedTable) → LeadsLayout (after_edit edit) tables left → ListsSameTables (placed_in contents) left
    listed_behind left leads =
        let r = leads (placed_in d.tables) can.served.listed in
        let A : List PlacedTable → Type 0 = λ ts. after_edit edit ts ≡ Some (placed_in contents) in
        let same : r.0 ≡ placed_in contents = inside r.0 (placed_in contents) (sym r.1 ∙ subst A (sym can.served.consistent.placed) put.after) in
        subst (λ (ts : List PlacedTable). ListsSameTables ts left) same r.2

    -- ---- how the call may end

    pub installed_ok : (new : Facts) (end : ℕ) (left : List PlacedTable) → IsTrue new.faithful → AppendsEdit order mid new manifest.number (string_bytes manifest.name) manifest.end edit (Ok end)
        → LeadsLayout (after_edit edit) tables left → IsInstalled order deep job.plan.output_level job.selection.snapshots old.files new.files next end left came d inputs rest
    unfolding has_installed
    installed_ok new end left g r leads =
        let ends : ManifestEndsAt order new.files d.manifest end (d.edits ++ edit ∷ []) after =
        subst (λ (k : ℕ). ManifestEndsAt order new.files k end (d.edits ++ edit ∷ []) after) can.served.number (r.ok g d.edits d.layout after can_add) in
        record {
          has = has_installed new.files (r.others g) ends.manifest;
          ends = ends;
          free = r.free g d.edits d.layout after can_add next served_mid.free recorded;
          listed = listed_behind left leads;
        }

    pub maybe_installed : SameManifestLaw → (new : Facts) → IsTrue new.faithful → AppendsEdit order mid new manifest.number (string_bytes manifest.name) manifest.end edit (Err Io)
        → MayBeInstalled order deep job.plan.output_level job.selection.snapshots old.files new.files next came d inputs rest
    maybe_installed same new g r = record {
      either = elim (r.device g refl d.edits d.layout after can_add) [
        | inl has ↦ inl (has_kept new.files (r.others g) same (subst (λ (k : ℕ). HasManifest order new.files k d.edits d.layout) can.served.number has))
        | inr has ↦ inr (has_installed new.files (r.others g) (subst (λ (k : ℕ). HasManifest order new.files k (d.edits ++ edit ∷ []) after) can.served.number has))
      ];
      free = r.free g d.edits d.layout after can_add next served_mid.free recorded;
    }

    old_placed : (placed : PlacedTable) → Contains tables placed → Contains d.layout.tables.items placed
    old_placed placed there =
        subst (λ (ps : List PlacedTable). Contains ps placed) can.served.consistent.placed (All-contains (Contains (placed_in d.tables)) tables placed can.served.listed.only there)

    -- a table of a directory that is left has no MANIFEST's name, so that its file is as it was
    file_behind : (new : Facts) → KeepsOthers mid.files new.files (string_bytes manifest.name) → (x : Directory) → IsConsistent order new.files x → (placed : PlacedTable) → Contains x.layout.tables.items placed
        → get new.files (table_name placed.table.number) ≡ get mid.files (table_name placed.table.number)
    file_behind new others x good placed there =
        let content = content_at x.tables placed (contains_among (placed_in x.tables) placed (subst (λ (ps : List PlacedTable). Contains ps placed) (sym good.placed) there)) in
        let numbered : IsNumbered placed.table.number = subst (λ (p : PlacedTable). IsNumbered p.table.number) content.2 (table_of order new.files x.tables content.0 good.tables content.1) in
        others (table_name placed.table.number) (λ is.
        let same : Table placed.table.number ≡ Manifest d.manifest = one_file (Table placed.table.number) (Manifest d.manifest) numbered can.served.consistent.manifest.numbered (is ∙ can.served.named) in cc)

    -- whose tables the directory has then
    pub maybe_own : SameManifestLaw → (new : Facts) → IsTrue new.faithful → AppendsEdit order mid new manifest.number (string_bytes manifest.name) manifest.end edit (Err Io)
        → (left : List PlacedTable) → LeadsLayout (after_edit edit) tables left → AreOldOrOwn job.outputs tables left → AreOldOrSynced mid tables left → PutsOwn order job.outputs new.files d
    unfolding has_installed
    maybe_own same new g r left leads own synced x good placed there = elim (r.device g refl d.edits d.layout after can_add) [
      | inl has ↦
          let kept = has_kept new.files (r.others g) same (subst (λ (k : ℕ). HasManifest order new.files k d.edits d.layout) can.served.number has) in
          inl (subst (λ (ps : List PlacedTable). Contains ps placed) (same_tables order new.files x d good kept.0) there)
      | inr has ↦
          let is = has_installed new.files (r.others g) (subst (λ (k : ℕ). HasManifest order new.files k (d.edits ++ edit ∷ []) after) can.served.number has) in
          let here : Contains (placed_in contents) placed = subst (λ (ps : List PlacedTable). Contains ps placed) (same_tables order new.files x (result new.files (r.others g)) good is.consistent) there in
          let in_left = All-contains (Contains left) (placed_in contents) placed (listed_behind left leads).all here in
          elim (own placed in_left) [
            | inl old ↦ inl (old_placed placed old)
            | inr mine ↦ elim (synced placed in_left) [
              | inl old ↦ inl (old_placed placed old)
              | inr kept ↦ inr (mine, (kept.0, file_behind new (r.others g) x good placed there ∙ kept.1))
            ]
          ]
    ]

    pub uninstalled_still : (new : Facts) → IsTrue new.faithful → AppendsEdit order mid new manifest.number (string_bytes manifest.name) manifest.end edit (Err OutOfMemory)
        → IsUninstalled order old.files new.files next manifest tables d
    uninstalled_still new g r = subst (λ (fs : Files). IsUninstalled order old.files fs next manifest tables d) (sym (r.memory g refl)) uninstalled
