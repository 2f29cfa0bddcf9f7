-- What an open found, in each directory that differs in tables alone.
use Rattle.std.proofs.Common.{◌≡◌, ◌⊎◌, ℕ, ◌+◌, List, [], ◌∷◌, map, Option, Some, None, is_some, true, false, Result, Ok, IsTrue, inl, inr, refl, sym, ap, subst, ◌∙◌}
use Rattle.std.specs.FinMap.{get}
use Rattle.store.specs.Files.{Facts, Files}
use Rattle.store.specs.Stops.{LeavesOnly}
use Rattle.store.proofs.Stopping.{leaves_both, leaves_same, leaves_so}
use Rattle.ikey.specs.Orders.{Order}
use Rattle.ikey.specs.declared.entry.Entry.{Entry}
use Rattle.coding.specs.declared.error.DbError.{DbError}
use Rattle.edits.specs.Names.{name_of}
use Rattle.edits.specs.declared.field.PlacedTable.{PlacedTable}
use Rattle.edits.specs.declared.layout.Layout.{Layout}
use Rattle.edits.specs.declared.names.FileName.TheVariants.{Current, Log, Table, OldTable}
use Rattle.machine.specs.declared.command.Mode.{Mode}
use Rattle.machine.specs.declared.command.Mode.TheVariants.{Existing, New, Any}
use Rattle.recover.specs.internal.Changes.{RecoveredLaw}
use Rattle.recover.specs.Directory.{Directory, IsConsistent, IsEmpty}
use Rattle.recover.specs.Logs.{HasLiveLogs, LogContent}
use Rattle.recover.specs.Numbers.{IsNextNumber}
use Rattle.recover.specs.Ranges.{HaveTableFiles}
use Rattle.recover.specs.Reading.{Recovers}
use Rattle.recover.specs.Tables.{HasTables, TableContent}
use Rattle.recover.specs.declared.reading.Recovered.{Recovered}
use Rattle.recover.proofs.Keeping.{keep_logs}
use Rattle.recover.proofs.OneMeaning.{same_manifest}
use Rattle.directory_writes.specs.Differing.{DiffersInTables, OfEach, with_files}
use Rattle.directory_writes.proofs.SameChanges.{differs_after, differs_back, free_too, log_other, manifest_too, one_change, unchanged_too}
use Rattle.opening.specs.declared.beginning.Begun.{Begun}
use Rattle.opening.specs.declared.finding.Found.{Found}
use Rattle.opening.specs.internal.Begun.{Begins}
use Rattle.opening.specs.internal.Directories.{IsDirectoryOf}
use Rattle.opening.specs.internal.Opening.{AllowsFiles, Finds, FindsDirectory, FindsNone, IsContinued, Rewrites}
use Rattle.opening.proofs.BegunSteps.{IsMadeOf, begins, continued_itself}
use Rattle.opening.proofs.Reopening.{no_current}
use Rattle.opening.proofs.RewrittenEach.{ContinuedEach, RewritesEach}

-- ---- what was found

nothing : (a b : Option (List ℕ)) → is_some a ≡ is_some b → b ≡ None → a ≡ None
nothing None b same none = refl
nothing (Some x) b same none = absurd (let clash : true ≡ false = same ∙ ap is_some none in cc)

files_of : (order : Order) (files : Files) (contents : List TableContent) → HasTables order files contents → HaveTableFiles files (map (λ (content : TableContent). content.placed) contents)
files_of order files [] h = tt
files_of order files (content ∷ contents) h = ((h.0.numbered, (h.0.bytes, h.0.there, h.0.size)), files_of order files contents h.1)

module _ (order : Order) (files whole : Files) (d : DiffersInTables files whole) where
  pub empty_too : IsEmpty files → IsEmpty whole
  empty_too e = record {
    current = nothing (get whole (name_of Current)) (get files (name_of Current)) (d.names (name_of Current)) e.current;
    no_log = λ n num. nothing (get whole (name_of (Log n))) (get files (name_of (Log n))) (d.names (name_of (Log n))) (e.no_log n num);
    no_table = λ n num. nothing (get whole (name_of (Table n))) (get files (name_of (Table n))) (d.names (name_of (Table n))) (e.no_table n num);
    no_old_table = λ n num. nothing (get whole (name_of (OldTable n))) (get files (name_of (OldTable n))) (d.names (name_of (OldTable n))) (e.no_old_table n num);
  }

  pub next_too : (n : ℕ) → IsNextNumber order files n → IsNextNumber order whole n
  next_too n h = (free_too order files whole d n h.0, λ m free. h.1 m (free_too order whole files (differs_back files whole d) m free))

  live_too : (layout : Layout) (contents : List LogContent) → HasLiveLogs files layout contents → HasLiveLogs whole layout contents
  live_too layout contents h = record {
    logs = keep_logs files whole contents (λ n num i. d.others (name_of (Log n)) (log_other n num)) h.logs;
    live = h.live;
    rising = h.rising;
    all = λ n num live there. h.all n num live (sym (d.names (name_of (Log n))) ∙ there);
    sequences = h.sequences;
  }

  -- a consistent directory has the tables of its edits whole
  recovers_too : (recovered : Recovered) (dir : Directory) → IsConsistent order whole dir → Recovers order files recovered → Recovers order whole recovered
  recovers_too recovered dir good r =
      let manifest = manifest_too order files whole d r.number r.edits recovered.layout r.manifest in
      let same = same_manifest order whole dir.manifest r.number dir.edits r.edits dir.layout recovered.layout good.manifest manifest in
      let T : List PlacedTable → Type 0 = λ tables. HaveTableFiles whole tables in
      record {
        number = r.number;
        edits = r.edits;
        manifest = manifest;
        ranges = r.ranges;
        tables = subst T (good.placed ∙ same.2.tables) (files_of order whole dir.tables good.tables);
        contents = r.contents;
        live = live_too recovered.layout r.contents r.live;
        entries = r.entries;
        logs = r.logs;
        used = r.used;
        next_number = (r.next_number.0, next_too r.next_number.0 r.next_number.1, r.next_number.2);
      }

  what_too : (found : Found) (tables : List TableContent) (entries : List Entry) (used : ℕ) → IsDirectoryOf order whole tables entries used → FindsNone files found ⊎ FindsDirectory order files found → FindsNone whole found ⊎ FindsDirectory order whole found
  what_too found tables entries used of (inl none) = inl (empty_too none.0, none.1, none.2, none.3)
  what_too found tables entries used (inl empty) (inr some) =
      absurd (no_current whole _ empty.0 (manifest_too order files whole d some.read.number some.read.edits some.recovered.layout some.read.manifest).current)
  what_too found tables entries used (inr there) (inr some) = inr (record {
    recovered = some.recovered;
    read = recovers_too some.recovered there.0 there.1 some.read;
    layout = some.layout;
    entries = some.entries;
    logs = some.logs;
    used = some.used;
  })

  -- the same was found of each that is a directory
  pub finds_too : (found : Found) (tables : List TableContent) (entries : List Entry) (used : ℕ) → IsDirectoryOf order whole tables entries used → Finds order files found → Finds order whole found
  finds_too found tables entries used of h = record { what = what_too found tables entries used of h.what; number = next_too found.number h.number }

  allows_too : (mode : Mode) → AllowsFiles mode files → AllowsFiles mode whole
  allows_too Existing allowed = d.names (name_of Current) ∙ allowed
  allows_too New allowed = d.names (name_of Current) ∙ allowed
  allows_too Any allowed = tt

-- ---- what is left

module _ (order : Order) (found : Found) (old new : Files) (h : Finds order old found) where
  -- where it is so of each of which the same was found, it is so of each
  pub continued_each : ContinuedEach order found old new → OfEach (λ whole behind. IsContinued order whole behind) old new
  continued_each each whole behind d c =
      let itself = one_change old new in
      let here = each old new itself.0 itself.1 h in
      let after = differs_after old new whole behind d c in
      record {
        meaning = λ tables entries used of. (each whole behind d c (finds_too order old whole d found tables entries used of h)).meaning tables entries used of;
        made = λ there. after.names (name_of Current) ∙ here.made (sym (d.names (name_of Current)) ∙ there);
        free = λ m free. free_too order new behind after (m + 2) (here.free m (free_too order whole old (differs_back old whole d) m free));
        limits = λ tables entries used of within. (each whole behind d c (finds_too order old whole d found tables entries used of h)).limits tables entries used of within;
      }

-- where nothing was written
pub unwritten_each : (order : Order) (old new : Files) → new ≡ old → OfEach (λ whole behind. IsContinued order whole behind) old new
unwritten_each order old new same whole behind d c =
    subst (λ (fs : Files). IsContinued order whole fs) (sym (unchanged_too old new whole behind c same)) (continued_itself order whole)

-- ---- after what was read

module _ {T : Type 0} (order : Order) (old mid new : Facts) (found : Found) (end : ℕ) (r : Result T DbError) (same : IsTrue mid.faithful → mid.files ≡ old.files) (finds : IsTrue mid.faithful → Finds order old.files found) where
  -- the writing, from what was there before the reading
  from_old : RewritesEach order mid new found end r → IsTrue mid.faithful → OfEach (λ whole behind. Rewrites order (with_files mid whole) (with_files new behind) found end r) old.files new.files
  from_old each g = subst (λ (fs : Files). OfEach (λ whole behind. Rewrites order (with_files mid whole) (with_files new behind) found end r) fs new.files) (same g) each

  pub behind_each : (IsTrue new.faithful → IsTrue mid.faithful) → RewritesEach order mid new found end r → IsTrue new.faithful → OfEach (λ whole behind. IsContinued order whole behind) old.files new.files
  behind_each back each f =
      let g = back f in
      continued_each order found old.files new.files (finds g) (λ whole behind d c h. (from_old each g whole behind d c).continued f h)

pub stops_behind_each : (order : Order) (old mid new : Facts) (found : Found) → mid.calls ≡ old.calls → mid.files ≡ old.files → Finds order old.files found → LeavesOnly mid new (ContinuedEach order found mid.files)
    → LeavesOnly old new (λ files. OfEach (λ whole behind. IsContinued order whole behind) old.files files)
stops_behind_each order old mid new found calls same finds wrote =
    let P : Files → Type 0 = λ files. OfEach (λ whole behind. IsContinued order whole behind) old.files files in
    leaves_both old mid new P (leaves_same old mid P calls same (unwritten_each order old.files old.files refl))
    (leaves_so mid new (ContinuedEach order found mid.files) P
    (λ files each. continued_each order found old.files files finds (subst (λ (fs : Files). ContinuedEach order found fs files) same each)) wrote)

pub stops_unwritten_each : (order : Order) (old mid : Facts) → mid.calls ≡ old.calls → mid.files ≡ old.files → LeavesOnly old mid (λ files. OfEach (λ whole behind. IsContinued order whole behind) old.files files)
stops_unwritten_each order old mid calls same =
    leaves_same old mid (λ files. OfEach (λ whole behind. IsContinued order whole behind) old.files files) calls same (unwritten_each order old.files old.files refl)

-- what is in memory is what each of them says
pub begins_each : {K : Type 0} (order : Order) (mode : Mode) (old mid new : Facts) (found : Found) (name : List ℕ) (end : ℕ) (begun : Begun K) → RecoveredLaw → (IsTrue mid.faithful → mid.files ≡ old.files) → (IsTrue mid.faithful → Finds order old.files found)
    → (IsTrue mid.faithful → AllowsFiles mode old.files) → (IsTrue new.faithful → IsTrue mid.faithful) → RewritesEach {T = Unit {0}} order mid new found end (Ok tt) → IsMadeOf found name end begun → IsTrue new.faithful
    → OfEach (λ whole behind. Begins order mode whole behind begun) old.files new.files
begins_each order mode old mid new found name end begun law same finds allowed back each made f whole behind d c =
    let g = back f in
    let after = differs_after old.files new.files whole behind d c in
    let wrote = from_old order old mid new found end (Ok tt) same finds each g in
    let itself = one_change old.files new.files in
    let here = begins order mode old (with_files mid old.files) (with_files new new.files) found name end begun law (λ g. refl) finds allowed (wrote old.files new.files itself.0 itself.1) made f in
    let there = λ (tables : List TableContent) (entries : List Entry) (used : ℕ) (of : IsDirectoryOf order whole tables entries used).
    begins order mode (with_files old whole) (with_files mid whole) (with_files new behind) found name end begun law (λ g. refl) (λ g. finds_too order old.files whole d found tables entries used of (finds g))
    (λ g. allows_too order old.files whole d mode (allowed g)) (wrote whole behind d c) made f in
    record {
      allowed = allows_too order old.files whole d mode (allowed g);
      made = after.names (name_of Current) ∙ here.made;
      has = λ tables entries used of. (there tables entries used of).has tables entries used of;
      least = λ n free. here.least n (free_too order whole old.files (differs_back old.files whole d) n free);
    }
