-- How a call that goes on with a compaction ends.
use Rattle.std.proofs.Common.{◌≡◌, ◌⊎◌, ◌<◌, ◌≤◌, ◌+◌, ◌^◌, ◌++◌, ℕ, Bool, true, false, List, [], ◌∷◌, map, Contains, Option, Some, None, MatchOption, max, Result, Ok, Err, IsTrue, inl, inr, refl, sym, ap, subst, ◌∙◌, arith, string_bytes}
use Rattle.std.proofs.lemmas.List.{append-nil}
use Rattle.std.proofs.lemmas.List.Sorted.{Contains-permutation, IsPermutation-sym}
use Rattle.std.specs.Cmp.{IsTotalOrder}
use Rattle.std.specs.FinMap.{get}
use Rattle.std.specs.List.Sorted.{IsPermutation}
use Rattle.std.specs.Map.{values_of}
use Rattle.cache.specs.Tables.{table_at}
use Rattle.coding.specs.declared.error.DbError.{DbError}
use Rattle.coding.specs.declared.error.DbError.TheVariants as error
use Rattle.compact.specs.Deeper.{is_covered_below}
use Rattle.compact.specs.Needed.{AreNeeded}
use Rattle.compact.specs.Outputs.{IsNumberAtHand, IsOwn, IsTableName, RefusesEntry, table_name}
use Rattle.compact.specs.Rooms.{AreLarge}
use Rattle.compact.specs.declared.job.Progress.{Progress}
use Rattle.edits.specs.declared.numbers.FileNumbers.{FileNumbers}
use Rattle.edits.specs.declared.field.PlacedTable.{PlacedTable}
use Rattle.ikey.specs.Entries.{InternalEntry, entry_of}
use Rattle.ikey.specs.Orders.{Order}
use Rattle.cursor.specs.Places.{Cmp}
use Rattle.running_job.specs.internal.Ending.{CanEnd, EndLeavesOver, EndMayLeave, EndMayPutOwn, EndPutsOwn, RefusesEnd}
use Rattle.running_job.specs.Running.{deep_of, shown}
use Rattle.running_job.specs.internal.Stepping.{GoesOn, KeepsSound, MayGoOn, RefusesStep, StepStops, StepTouches}
use Rattle.running_job.specs.declared.open_job.OpenJob.{OpenJob}
use Rattle.memtables.specs.Memories.{Memories}
use Rattle.memtables.specs.PlaceLaws.{left_logged}
use Rattle.memtables.specs.Places.{LeavesMemories}
use Rattle.recover.proofs.Memberships.{from_chosen, from_rest, in_part, one_of_tables}
use Rattle.recover.proofs.Adding.{table_of}
use Rattle.recover.specs.Directory.{Directory, IsConsistent}
use Rattle.recover.specs.internal.Laws.{OneDirectoryLaw}
use Rattle.recover.specs.Tables.{HasTable, TableContent, tabled}
use Rattle.db_cursor.specs.internal.Scanning.{ScanIsKept}
use Rattle.db_cursor.specs.Whole.{Whole}
use Rattle.db_cursor.specs.declared.scan.Scan.{Scan}
use Rattle.table_access.specs.Tables.{Seen, SoundLasts}
use Rattle.store.specs.Files.{Facts, Files}
use Rattle.store.specs.Losses.{CarriesBut, behind_sync}
use Rattle.store.specs.Stops.{LeavesOnly}
use Rattle.store.proofs.Stopping.{leaves_both, leaves_so}
use Rattle.directory_writes.proofs.JobTables.{contains_among, content_at}
use Rattle.directory_writes.specs.Replacing.{placed_in}
use Rattle.directory_writes.specs.internal.Flush.{SparesManifest}
use Rattle.directory_writes.specs.Differing.{IsSameChange, OfEach}
use Rattle.directory_writes.specs.internal.Putting.{WritesThenPuts}
use Rattle.directory_writes.specs.internal.Install.{AreOldOrOwn, AreOutputsKept, InstallMeans, InstallSyncs, InstallTouches, IsTableSynced, MayBeInstalled}
use Rattle.opening.specs.Durable.{IsSynced}
use Rattle.directory_writes.specs.declared.flush.FlushError.{FlushError}
use Rattle.directory_writes.specs.declared.flush.FlushError.TheVariants.{Before, Edit}
use Rattle.directory_writes.specs.declared.install.Installed.{Installed}
use Rattle.directory_writes.specs.declared.manifest.CurrentManifest.{CurrentManifest}
use Rattle.versions.specs.Levels.{AreInOrder, ListsSameTables}
use Rattle.versions.specs.declared.plan.JobPlan.{JobPlan}
use Rattle.engine.specs.declared.ids.Ids.{Ids}
use Rattle.engine.specs.declared.state.DbState.{DbState}
use Rattle.engine.specs.internal.Compacting.{IsCompacting}
use Rattle.engine.specs.internal.Leading.{LeadsOpen}
use Rattle.engine.specs.OpenDb.{OpenDb, open_db, whole_of}
use Rattle.engine.specs.internal.Directory.{MeansAccepted}
use Rattle.engine.specs.internal.Standing.{IsBroken, IsServing, StandsWhole}
use Rattle.engine.specs.internal.Stopping.{KeepsOpen}
use Rattle.machine.specs.Machine.{Machine, entry_count, weight}
use Rattle.engine.specs.internal.TakingAll.{EndsNeeded, TakesAll}
use Rattle.engine.specs.Needed.{HasNeeded, live_sequences}
use Rattle.engine.specs.WrittenTables.{HasMerged, KeepsTableFiles, PutsMerged}
use Rattle.machine.specs.Upkeep.{UpkeepRefused}
use Rattle.engine.specs.Outcomes.{DbOutcome, IsSame}
use Rattle.engine.specs.internal.JobsToEnd.{HasCome}
use Rattle.engine.specs.internal.Pieces.{IsPiece, MayRefusePiece, broken_by, flush_answer}
use Rattle.engine.proofs.InUse.{as_listed}
use Rattle.engine.proofs.Installing.{broken_install, broken_uninstalled, can_end, can_end_whole, end_change, end_whole, ended_as, means_install, serving_installed, serving_uninstalled}
use Rattle.engine.proofs.NeededEntries.{installed_needed, takes_on}
use Rattle.engine.proofs.Compacting.{all_contains}
use Rattle.engine.proofs.Reading.{has_placed}
use Rattle.engine.proofs.LosingCalls.{leaves_two}
use Rattle.engine.proofs.LosingFirst.{first_as, first_then, found_then}
use Rattle.engine.proofs.LosingInstalls.{MayLeave, install_first, install_found}
use Rattle.engine.proofs.LosingSteps.{step_first, step_found}
use Rattle.engine.proofs.Stepping.{all_came, can_step, gone_on, listed_apart, serving_stepped, table_same, the_job}
use Rattle.engine.proofs.Steps.{serving_of}
use Rattle.engine.proofs.StopSteps.{means_still}
use Rattle.engine.proofs.WorkSteps.{breaks, drawing, draws, serves_on}
use Rattle.engine.proofs.JobCauses.{job_heavy, job_counted, job_limited, not_whole, hard_or}

abbrev SameRefusal : {U : Type 0} → Result U DbError → Result U DbError → Type 0
SameRefusal a b = a ≡ b

refusal_in : {U : Type 0} {e x : DbError} → SameRefusal {U = U} (Err e) (Err x) → e ≡ x
refusal_in is = cc

-- ---- over any store

may_refuse : (e : DbError) (old new : Facts) (A B C : Type 0) → RefusesEntry e old new A B C → MayRefusePiece e
may_refuse error.OutOfMemory old new A B C h = tt
may_refuse error.Io old new A B C h = tt
may_refuse (error.Corrupt file what) old new A B C h = tt
may_refuse (error.Unsupported what) old new A B C h = tt
may_refuse error.NumbersSpent old new A B C h = tt
may_refuse _ old new A B C h = absurd h

-- a refused step leaves all that is answered from
pub stopped_outcome : {K T : Type 0} {g : _} (A B C : Type 0) (old new : Facts) (state : DbState K g) (memory after_memory : Memories) (numbers : FileNumbers) (job : Option (OpenJob K g)) (e : DbError) → RefusesEntry e old new A B C
    → old.failures ≤ new.failures → new.denials ≡ old.denials → LeavesMemories memory after_memory
    → DbOutcome {T = T} MayRefusePiece old new (open_db memory state) (open_db after_memory (record state { directory = record state.directory { numbers = numbers }; job = job })) (Err e)
stopped_outcome {T = T} A B C old new state memory after_memory numbers job e refused failures denials left = record {
  failures = failures;
  denials = denials;
  io = λ is. subst (λ (x : DbError). RefusesEntry x old new A B C) (is_inner is) refused;
  memory = λ is. subst (λ (x : DbError). RefusesEntry x old new A B C) (is_inner is) refused;
  allowed = may_refuse e old new A B C refused;
  refused = (record { entries = left_logged memory after_memory left; sequence = left.last; tables = refl; log = refl; snapshots = λ q. refl; iterators = λ q. refl }, inl refl);
}
  where
    is_inner : {x : DbError} → SameRefusal {U = T} (Err e) (Err x) → e ≡ x
    is_inner is = cc

-- the same for an end that fails, but that the database is broken where the store failed
pub unended_outcome : {K T : Type 0} {g : _} (order : Order) (old mid new : Facts) (state : DbState K g) (memory after_memory : Memories) (numbers : FileNumbers) (job : Option (OpenJob K g)) (next sequence : ℕ) (manifest : CurrentManifest) (tables : List PlacedTable) (work : OpenJob K g) (e : FlushError)
    → RefusesEnd order mid new next sequence manifest tables work e → old.failures ≡ mid.failures → mid.failures ≤ new.failures → new.denials ≡ old.denials → LeavesMemories memory after_memory
    → DbOutcome {T = T} MayRefusePiece old new (open_db memory state) (open_db after_memory (broken_by (record state { directory = record state.directory { numbers = numbers }; job = job }) (flush_answer e))) (Err (flush_answer e))
unended_outcome {K} {T} {g} order old mid new state memory after_memory numbers job next sequence manifest tables work e refused stood rise undenied left = at e refused
  where
    same : IsSame (open_db memory state) (open_db after_memory (record state { directory = record state.directory { numbers = numbers }; job = job }))
    same = record { entries = left_logged memory after_memory left; sequence = left.last; tables = refl; log = refl; snapshots = λ q. refl; iterators = λ q. refl }

    failed : mid.failures < new.failures → DbOutcome {T = T} MayRefusePiece old new (open_db memory state) (open_db after_memory (record state { directory = record state.directory { numbers = numbers }; job = job; broken = true })) (Err error.Io)
    failed rose = record {
      failures = omega (arith, stood, rose);
      denials = undenied;
      io = λ is. omega (arith, stood, rose);
      memory = λ is. absurd (let bad : error.Io ≡ error.OutOfMemory = refusal_in is in cc);
      allowed = tt;
      refused = (record { entries = same.entries; sequence = same.sequence; tables = same.tables; log = same.log; snapshots = same.snapshots; iterators = same.iterators }, inr (refl, omega (arith, stood, rose)));
    }

    kept : (x : DbError) (A B C : Type 0) → RefusesEntry x mid new A B C → DbOutcome {T = T} MayRefusePiece old new (open_db memory state) (open_db after_memory (record state { directory = record state.directory { numbers = numbers }; job = job })) (Err x)
    kept x A B C h = record {
      failures = omega (arith, stood, rise);
      denials = undenied;
      io = λ is. (let less : mid.failures < new.failures = subst (λ (y : DbError). RefusesEntry y mid new A B C) (refusal_in is) h in omega (arith, stood, less));
      memory = λ is. (let still : new.failures ≡ mid.failures = subst (λ (y : DbError). RefusesEntry y mid new A B C) (refusal_in is) h in omega (arith, stood, still));
      allowed = may_refuse x mid new A B C h;
      refused = (same, inl refl);
    }

    at : (f : FlushError) → RefusesEnd order mid new next sequence manifest tables work f
        → DbOutcome {T = T} MayRefusePiece old new (open_db memory state) (open_db after_memory (broken_by (record state { directory = record state.directory { numbers = numbers }; job = job }) (flush_answer f))) (Err (flush_answer f))
    at (Before error.OutOfMemory) h = kept error.OutOfMemory ⊥ ⊥ ⊥ h
    at (Before error.Io) h = failed h
    at (Before (error.Corrupt file what)) h = kept (error.Corrupt file what) _ ⊥ ⊥ h
    at (Before (error.Unsupported what)) h = kept (error.Unsupported what) ⊥ _ ⊥ h
    at (Before error.NumbersSpent) h = kept error.NumbersSpent ⊥ ⊥ _ h
    at (Before _) h = absurd h
    at Edit h = failed h

-- where the memtables are left, and the log and the tables, all that is answered from is the
-- same
pub same_left : {K : Type 0} {g : _} (state : DbState K g) (memory after_memory : Memories) (job : Option (OpenJob K g)) → LeavesMemories memory after_memory → IsSame (open_db memory state) (open_db after_memory (record state { job = job }))
same_left state memory after_memory job left = record { entries = left_logged memory after_memory left; sequence = left.last; tables = refl; log = refl; snapshots = λ q. refl; iterators = λ q. refl }

pub same_on : {K : Type 0} {g : _} (before between after : OpenDb K g) → IsSame before between → IsSame between after → IsSame before after
same_on before between after first next = record {
  entries = next.entries ∙ first.entries;
  sequence = next.sequence ∙ first.sequence;
  tables = next.tables ∙ first.tables;
  log = next.log ∙ first.log;
  snapshots = λ q. next.snapshots q ∙ first.snapshots q;
  iterators = λ q. next.iterators q ∙ first.iterators q;
}

-- a refusal after a call that has left all that is answered from
pub outcome_behind : {K T U : Type 0} {g : _} (old mid new : Facts) (before between after : OpenDb K g) (e : DbError) → old.failures ≡ mid.failures → mid.denials ≡ old.denials → IsSame before between → between.broken ≡ before.broken
    → DbOutcome {T = T} MayRefusePiece mid new between after (Err e) → DbOutcome {T = U} MayRefusePiece old new before after (Err e)
outcome_behind {T = T} {U = U} old mid new before between after e stood undenied same whole h = record {
  failures = (let rise = h.failures in omega (arith, rise, stood));
  denials = h.denials ∙ undenied;
  io = λ is. (let rise = h.io (as_other is) in omega (arith, rise, stood));
  memory = λ is. h.memory (as_other is) ∙ sym stood;
  allowed = h.allowed;
  refused = (same_on before between after same h.refused.0, elim h.refused.1 [ inl still ↦ inl (still ∙ whole) | inr broken ↦ inr (broken.0, (let less = broken.1 in omega (arith, less, stood))) ]);
}
  where
    as_other : {x : DbError} → SameRefusal {U = U} (Err e) (Err x) → SameRefusal {U = T} (Err e) (Err x)
    as_other is = (let inner = refusal_in is in ap (λ (r : DbError). Err r) inner)

-- the same keys are covered below
deep_same : {K : Type 0} {g : _} (cmp : Cmp) (work more : OpenJob K g) → work.job.plan ≡ more.job.plan → work.version ≡ more.version → deep_of cmp work ≡ deep_of cmp more
deep_same cmp work more plan version = λ i key. is_covered_below cmp (plan i).output_level (version i).value.tables key

-- what has become of a compaction is that of it as it was, where its inputs' files are the same
pub merged_on : {K : Type 0} {g : _} (order : Order) (old mid new : Files) (work more : OpenJob K g) (before between after : OpenDb K g) → more.job.plan ≡ work.job.plan → more.job.selection.snapshots ≡ work.job.selection.snapshots → more.version ≡ work.version
    → between.tables ≡ before.tables → ((placed : PlacedTable) → Contains work.job.plan.inputs.items placed → table_at mid placed.table.number ≡ table_at old placed.table.number) → HasMerged order mid new more between after → HasMerged order old new work before after
merged_on order old mid new work more before between after plan snapshots version tables files h =
    let planned = subst (λ (p : JobPlan). IsPermutation p.inputs.items (placed_in h.inputs)) plan h.planned in
    record {
      inputs = h.inputs;
      outputs = h.outputs;
      planned = planned;
      read = λ input i.
          let has = h.read input i in
          let taken = Contains-permutation (placed_in h.inputs) work.job.plan.inputs.items input.placed (IsPermutation-sym work.job.plan.inputs.items (placed_in h.inputs) planned) (has_placed h.inputs input i) in
          record {
            numbered = has.numbered;
            bytes = has.bytes;
            there = sym (files input.placed taken) ∙ has.there;
            size = has.size;
            spelled = has.spelled;
            sorted = has.sorted;
            smallest = has.smallest;
            largest = has.largest;
          };
      written = λ output i. let has = h.written output i in (has.0, has.1 ∙ ap (λ (p : JobPlan). p.output_level) plan, has.2);
      others = λ placed i. elim (h.others placed i) [ inl was ↦ inl (subst (λ (ts : List PlacedTable). Contains ts placed) tables was) | inr out ↦ inr out ];
      entries = h.entries;
      same = h.same;
      needed = subst (λ (deep : List ℕ → Bool). AreNeeded h.entries work.job.selection.snapshots deep (tabled h.outputs)) (deep_same order.cmp more work plan version)
          (subst (λ (ss : List ℕ). AreNeeded h.entries ss (deep_of order.cmp more) (tabled h.outputs)) snapshots h.needed);
    }

-- ---- a step

module _ {K : Type 0} {g : _} (order : Order) (total : IsTotalOrder order.cmp) (kept : (scan : Scan K g) → ScanIsKept order.cmp scan) (one : OneDirectoryLaw) (lasts : SoundLasts)
    (old new : Seen) (ids : Ids) (state : DbState K g) (memory after_memory : Memories) (numbers : FileNumbers) (most : ℕ) (before after : OpenJob K g) (is : state.job ≡ Some before) (whole : state.broken ≡ false)
    (le : state.directory.numbers.next ≤ numbers.next) (upto : numbers.next ≤ state.directory.numbers.next + most)
    (touches : StepTouches (record { seen = old; memory = memory }) (record { seen = new; memory = after_memory }) state.directory.numbers.next numbers.next before after)
    (keeps : KeepsSound order (record { seen = old; memory = memory }) (record { seen = new; memory = after_memory }) state.directory.numbers.next before) where
  abbrev db : OpenDb K g
  db = open_db memory state

  abbrev next : ℕ
  next = state.directory.numbers.next

  abbrev pub with_job : Option (OpenJob K g) → DbState K g
  with_job job = record state { directory = record state.directory { numbers = numbers }; job = job }

  refused : (m : Machine) (e : DbError) → IsServing order old db m → IsTrue new.facts.faithful → m.failures ≡ old.facts.failures
      → RefusesStep order (record { seen = old; memory = memory }) (record { seen = new; memory = after_memory }) next numbers.next before e → UpkeepRefused m most e (drawing m most new.facts)
  refused m error.OutOfMemory serving f same h = draws m most new.facts
  refused m error.Io serving f same h = (omega (arith, h, same), (omega arith, omega arith), refl)
  refused m (error.Corrupt file what) serving f same h =
      let c = the_job order kept one old new db after_memory numbers most before after is le upto touches keeps m serving in (
        not_whole m
            (λ undamaged.
            h f serving.log.directory.directory c.came c.left (can_step order kept one old new db after_memory numbers most before after is le upto touches keeps m serving undamaged)),
        draws m most new.facts,
      )
  refused m (error.Unsupported what) serving f same h =
      let c = the_job order kept one old new db after_memory numbers most before after is le upto touches keeps m serving in (
        hard_or m (2 ^ 29 ≤ weight m)
            (λ undamaged.
            elim (h f serving.log.directory.directory c.came c.left (can_step order kept one old new db after_memory numbers most before after is le upto touches keeps m serving undamaged)) [
              | inl past ↦ inl (job_limited order total old db m serving before c past)
              | inr large ↦ inr (job_heavy order total old db m serving before c large)
            ]),
        draws m most new.facts,
      )
  refused m error.NumbersSpent serving f same h = ((let below : next ≤ m.numbers = serving.numbers in omega (arith, h, below, upto)), draws m most new.facts)
  refused m _ serving f same h = absurd h

  -- the files of the tables stay
  pub steps_beside : IsTrue new.facts.faithful → KeepsTableFiles order old new db
  steps_beside f given m s number has =
      let serving = serving_of order old given db m whole s.stands in
      let d = serving.log.directory.directory in
      let listed = subst (λ (cs : List TableContent). ListsSameTables (placed_in cs) state.version.value.tables) serving.log.directory.in_tables serving.tables.version in
      let one_listed = as_listed state.version.value.tables number has in
      let placed = one_listed.0 in
      let content = content_at d.tables placed (contains_among (placed_in d.tables) placed (all_contains (Contains (placed_in d.tables)) state.version.value.tables placed listed.only one_listed.1)) in
      let apart = listed_apart order kept one old new db after_memory numbers most before after is le upto touches keeps m serving content.0 content.1 in
      subst (λ (n : ℕ). table_at new.facts.files n ≡ table_at old.facts.files n) (ap (λ (p : PlacedTable). p.table.number) content.2 ∙ one_listed.2)
      (table_same order kept one old new db after_memory numbers most before after is le upto touches keeps m serving f content.0.placed.table.number
      (table_of order serving.ideal d.tables content.0 serving.log.directory.consistent.tables content.1) apart)

  -- it was refused, and the job is given up
  pub ends_stopped : {T : Type 0} (e : DbError) → RefusesStep order (record { seen = old; memory = memory }) (record { seen = new; memory = after_memory }) next numbers.next before e
      → LeadsOpen order old new ids db (open_db after_memory (with_job None)) (λ m n. IsPiece {T = T} m most (Err e) n)
  ends_stopped e h =
      serves_on order old new ids db (open_db after_memory (with_job None)) most (Err e) whole whole touches.writes.faithful touches.writes.failures touches.writes.denials
      (λ m f same serving. (refused m e serving f same h, serving_stepped order kept one old new db after_memory numbers most before after is le upto touches keeps m serving f None tt))

  -- what is left in its middle
  pub step_keeps : StepStops order (record { seen = old; memory = memory }) (record { seen = new; memory = after_memory }) next before → KeepsOpen order old new db
  step_keeps stops = record {
    stops = λ f given m s.
        let serving = serving_of order old given db m whole s.stands in
        let c = the_job order kept one old new db after_memory numbers most before after is le upto touches keeps m serving in
        leaves_so old.facts new.facts (λ files. IsConsistent order files serving.log.directory.directory) (λ files. MeansAccepted order files m) (means_still order old db m serving)
        (stops f serving.log.directory.directory c.came c.left (can_step order kept one old new db after_memory numbers most before after is le upto touches keeps m serving s.undamaged));
    loses = λ f given m s unbroken.
        let serving = serving_of order old given db m whole s.stands in
        step_first order kept one old new db after_memory numbers most before after is le upto touches keeps m serving f (serving.origin.undamaged s.undamaged);
    found = λ f given m s unbroken. step_found order kept one old new db after_memory numbers most before after is le upto touches keeps m (serving_of order old given db m whole s.stands) f;
  }

  module _ (budget : ℕ) (progress : Progress) (goes : GoesOn order (record { seen = old; memory = memory }) (record { seen = new; memory = after_memory }) next numbers.next budget before after progress)
      (may : MayGoOn order (record { seen = old; memory = memory }) (record { seen = new; memory = after_memory }) next numbers.next budget before after progress) (plan : after.job.plan ≡ before.job.plan) (version : after.version ≡ before.version)
      (snapshots : after.job.selection.snapshots ≡ before.job.selection.snapshots) (owns : (number : ℕ) → IsOwn after.job.outputs number → IsOwn before.job.outputs number ⊎ (next ≤ number)) where
    abbrev pub serving_on : (m : Machine) → IsServing order old db m → IsTrue new.facts.faithful → IsServing order new (open_db after_memory (with_job (Some after))) (drawing m most new.facts)
    serving_on m serving f =
        serving_stepped order kept one old new db after_memory numbers most before after is le upto touches keeps m serving f (Some after)
        (gone_on order kept one old new db after_memory numbers most before after is le upto touches keeps m serving f budget progress goes may plan version snapshots owns)

    -- it goes on
    pub ends_gone_on : {T : Type 0} (done : T) → LeadsOpen order old new ids db (open_db after_memory (with_job (Some after))) (λ m n. IsPiece m most (Ok done) n)
    ends_gone_on done =
        serves_on order old new ids db (open_db after_memory (with_job (Some after))) most (Ok done) whole whole touches.writes.faithful touches.writes.failures touches.writes.denials
        (λ m f same serving. (draws m most new.facts, serving_on m serving f))

    -- ---- all came, and it is ended

    module _ (facts : Facts) (ended : progress.ended ≡ true) (sequence : ℕ) (sequence_is : sequence ≡ after_memory.last) (tables : List PlacedTable) (tables_are : tables ≡ state.version.value.tables) (result : Result (Installed K) FlushError)
        (install : InstallTouches new.facts facts after.job.outputs (string_bytes state.directory.manifest.name)) (leaves : OfEach (λ ideal final. EndLeavesOver order new.facts facts ideal final numbers.next sequence state.directory.manifest tables after result) new.facts.files facts.files) where
      abbrev last_seen : Seen
      last_seen = record new { facts = facts }

      abbrev mid : OpenDb K g
      mid = open_db after_memory (with_job (Some after))

      module _ (m : Machine) (serving : IsServing order old db m) (f : IsTrue facts.faithful) where
        abbrev on : IsServing order new mid (drawing m most new.facts)
        on = serving_on m serving (install.faithful f)

        abbrev c : IsCompacting order m.damaged (whole_of new mid) on.ideal numbers.next state.snapshots state.iterators on.log.directory.directory after
        c = gone_on order kept one old new db after_memory numbers most before after is le upto touches keeps m serving (install.faithful f) budget progress goes may plan version snapshots owns

        abbrev none_left : c.left ≡ []
        none_left = all_came order kept one old new db after_memory numbers most before after is le upto touches keeps m serving (install.faithful f) budget progress goes may plan version snapshots owns ended

        -- what the directory is in the end
        abbrev final : Files
        final = ended_as order kept one lasts new facts mid (drawing m most new.facts) on after c none_left

        abbrev final_change : IsSameChange new.facts.files facts.files on.ideal final
        final_change = (end_change order kept one lasts new facts mid (drawing m most new.facts) on after c none_left).1

        abbrev Means : Result (Installed K) FlushError → Type 0
        Means r =
            InstallMeans order (deep_of order.cmp after) after.job on.ideal final numbers.next state.directory.manifest state.version.value.tables c.came on.log.directory.directory c.running.inputs c.running.rest r

        pub means : Means result
        means =
            let can = can_end order kept one lasts new facts mid (drawing m most new.facts) on after c none_left in
            let said = subst (λ (n : ℕ). EndLeavesOver order new.facts facts on.ideal final numbers.next n state.directory.manifest state.version.value.tables after result) sequence_is
            (subst (λ (ts : List PlacedTable). EndLeavesOver order new.facts facts on.ideal final numbers.next sequence state.directory.manifest ts after result) tables_are (leaves on.ideal final on.origin.differs final_change)) in
            said f on.log.directory.directory c.came c.running.inputs c.running.rest can

        final_whole : m.damaged ≡ false → final ≡ facts.files
        final_whole undamaged = end_whole order kept one lasts new facts mid (drawing m most new.facts) on after c none_left undamaged

        -- the machine after both
        pub once : (s : Seen) (a : OpenDb K g) → IsServing order s a (drawing (drawing m most new.facts) 0 facts) → IsServing order s a (drawing m most facts)
        once s a h = (let none : m.numbers + most + 0 ≡ m.numbers + most = omega arith in subst (λ (k : ℕ). IsServing order s a (record m { numbers = k; failures = facts.failures; denials = facts.denials })) none h)

        pub once_broken : IsBroken order facts.files (record (drawing (drawing m most new.facts) 0 facts) { broken = true }) → IsBroken order facts.files (record (drawing m most facts) { broken = true })
        once_broken h = (let none : m.numbers + most + 0 ≡ m.numbers + most = omega arith in subst (λ (k : ℕ). IsBroken order facts.files (record m { numbers = k; failures = facts.failures; denials = facts.denials; broken = true })) none h)

      rise : old.facts.failures ≤ facts.failures
      rise = (let a = touches.writes.failures in let b = install.failures in omega (arith, a, b))

      undenied : facts.denials ≡ old.facts.denials
      undenied = install.denials ∙ touches.writes.denials

      faithful : IsTrue facts.faithful → IsTrue old.facts.faithful
      faithful f = touches.writes.faithful (install.faithful f)

      -- ---- what is left in the middle of both

      module _ (m : Machine) (serving : IsServing order old db m) (f : IsTrue facts.faithful) (undamaged : m.damaged ≡ false) where
        abbrev can_now : CanEnd order (whole_of new mid) numbers.next after_memory.last state.directory.manifest state.version.value.tables (on m serving f).log.directory.directory after (c m serving f).came
        can_now = can_end_whole order kept one lasts new facts mid (drawing m most new.facts) (on m serving f) after (c m serving f) (none_left m serving f) undamaged

        abbrev MayBe : Files → Type 0
        MayBe = MayLeave order kept one lasts new facts mid (drawing m most new.facts) (on m serving f) after (c m serving f) (none_left m serving f)

        end_may : (files : Files) → EndMayLeave order new.facts numbers.next sequence state.directory.manifest tables after files → EndMayPutOwn order new.facts numbers.next sequence state.directory.manifest tables after files → MayBe files
        end_may files left own =
            let said = subst (λ (n : ℕ). EndMayLeave order new.facts numbers.next n state.directory.manifest state.version.value.tables after files) sequence_is
            (subst (λ (ts : List PlacedTable). EndMayLeave order new.facts numbers.next sequence state.directory.manifest ts after files) tables_are left) in
            let owned = subst (λ (n : ℕ). EndMayPutOwn order new.facts numbers.next n state.directory.manifest state.version.value.tables after files) sequence_is
            (subst (λ (ts : List PlacedTable). EndMayPutOwn order new.facts numbers.next sequence state.directory.manifest ts after files) tables_are own) in
            let d = (on m serving f).log.directory.directory in (
              subst
                  (λ (fs : Files). MayBeInstalled order (deep_of order.cmp after) after.job.plan.output_level after.job.selection.snapshots fs files numbers.next (c m serving f).came d (c m serving f).running.inputs (c m serving f).running.rest)
                  (sym ((on m serving f).origin.undamaged undamaged)) (said (whole_of new mid) d (c m serving f).came refl can_now),
              owned (whole_of new mid) d (c m serving f).came refl can_now,
            )

      abbrev MayStop : Files → Type 0
      MayStop = EndMayLeave order new.facts numbers.next sequence state.directory.manifest tables after

      abbrev MayStopWith : Files → Type 0
      MayStopWith = EndMayPutOwn order new.facts numbers.next sequence state.directory.manifest tables after

      end_leaves : (m : Machine) (serving : IsServing order old db m) (f : IsTrue facts.faithful) (undamaged : m.damaged ≡ false) → LeavesOnly new.facts facts MayStop → LeavesOnly new.facts facts MayStopWith → LeavesOnly new.facts facts (MayBe m serving f undamaged)
      end_leaves m serving f undamaged ends owns =
          leaves_so new.facts facts (λ files. MayStop files × MayStopWith files) (MayBe m serving f undamaged) (λ files both. end_may m serving f undamaged files both.0 both.1) (leaves_two new.facts facts MayStop MayStopWith ends owns)

      pub end_keeps : StepStops order (record { seen = old; memory = memory }) (record { seen = new; memory = after_memory }) next before
          → (IsTrue facts.faithful → LeavesOnly new.facts facts MayStop) → (IsTrue facts.faithful → LeavesOnly new.facts facts MayStopWith)
          → (IsTrue facts.faithful → WritesThenPuts new.facts facts (IsTableName (IsNumberAtHand after.job.outputs)) (string_bytes state.directory.manifest.name) (AreOutputsKept order.cmp after.job new.facts numbers.next)) → KeepsOpen order old last_seen db
      end_keeps stops ends owns puts = record {
        stops = λ f given m s.
            let serving = serving_of order old given db m whole s.stands in
            leaves_both old.facts new.facts facts (λ files. MeansAccepted order files m) ((step_keeps stops).stops (install.faithful f) given m s)
            (leaves_so new.facts facts (MayBe m serving f s.undamaged) (λ files. MeansAccepted order files m)
            (λ files may. means_install order kept one lasts new facts mid (drawing m most new.facts) (on m serving f) after (c m serving f) (none_left m serving f) files may.0) (end_leaves m serving f s.undamaged (ends f) (owns f)));
        loses = λ f given m s unbroken.
            let serving = serving_of order old given db m whole s.stands in
            let behind = install_first order kept one lasts new facts mid (drawing m most new.facts) (on m serving f) after (c m serving f) (none_left m serving f) f install ((on m serving f).origin.undamaged s.undamaged)
            (puts f) (end_leaves m serving f s.undamaged (ends f) (owns f)) in
            first_then order old.facts new.facts facts (ends f).more db m (ends f).calls ((step_keeps stops).found (install.faithful f) given m s unbroken) ((step_keeps stops).loses (install.faithful f) given m s unbroken)
            (λ lost since spares. first_as order lost m (drawing m most new.facts) refl refl (omega arith) (behind lost since spares));
        found = λ f given m s unbroken.
            let serving = serving_of order old given db m whole s.stands in
            let behind = install_found order kept one lasts new facts mid (drawing m most new.facts) (on m serving f) after (c m serving f) (none_left m serving f) f install in
            found_then old.facts new.facts facts db ((step_keeps stops).found (install.faithful f) given m s unbroken) (record { current = behind.current; lock = behind.lock; each = behind.each });
      }

      -- the MANIFEST is synced, and so are the tables that were put in
      abbrev Edited : Type 0
      Edited = IsTrue facts.faithful → IsSynced facts (string_bytes state.directory.manifest.name)

      abbrev PutsSynced : Installed K → Type 0
      PutsSynced installed = InstallSyncs order.cmp after.job new.facts facts numbers.next (string_bytes state.directory.manifest.name) tables (Ok installed)

      abbrev Spares : FlushError → Type 0
      Spares e = SparesManifest {T = Installed K} new.facts facts (string_bytes state.directory.manifest.name) (IsTableName (IsNumberAtHand after.job.outputs)) (Err e)

      -- the outputs replace the inputs
      abbrev pub installed_state : Installed K → DbState K g
      installed_state installed = record (with_job None) { version = installed.version; directory = record state.directory { numbers = numbers; manifest = record state.directory.manifest { end = installed.manifest_end } } }

      -- the names of all but the tables that it writes go on
      abbrev Carried : Type 0
      Carried = IsTrue facts.faithful → CarriesBut new.facts facts (IsTableName (IsNumberAtHand after.job.outputs))

      -- and after it no call came since the last sync
      abbrev Ends : Type 0
      Ends = IsTrue facts.faithful → behind_sync [] facts.calls ≡ []

      pub ends_installed : {T : Type 0} (done : T) (installed : Installed K) → result ≡ Ok installed → AreInOrder order.cmp installed.version.value.tables
          → Edited → PutsSynced installed → AreOldOrOwn after.job.outputs tables installed.version.value.tables → Carried → Ends → LeadsOpen order old last_seen ids db (open_db after_memory (installed_state installed)) (λ m n. IsPiece m most (Ok done) n)
      ends_installed done installed said in_order edited puts own carries ends =
          serves_on order old last_seen ids db (open_db after_memory (installed_state installed)) most (Ok done) whole whole faithful rise undenied
          (λ m f same serving.
          let has = subst (λ (r : Result (Installed K) FlushError). Means m serving f r) said (means m serving f) in (
            draws m most facts,
            once m serving f last_seen (open_db after_memory (installed_state installed))
                (serving_installed order kept one lasts new facts mid (drawing m most new.facts) (on m serving f) after (c m serving f) (none_left m serving f) f install has.has installed.version.value.tables installed.version.value.compact_pointers (installed_state installed).directory in_order has.ends has.free has.listed
                refl refl refl refl refl (edited f)
                (λ placed there apart.
                subst (λ (ts : List PlacedTable). Contains ts placed ⊎ IsTableSynced facts placed.table.number) tables_are (puts f (deep_of order.cmp after) (c m serving f).came (c m serving f).running.may.merging placed there apart))
                (λ placed there. subst (λ (ts : List PlacedTable). Contains ts placed ⊎ IsOwn after.job.outputs placed.table.number) tables_are (own placed there)) (carries f) (ends f)),
          ))

      -- where it has taken all tables, what they have now is needed
      pub ends_needed : (installed : Installed K) → result ≡ Ok installed → TakesAll db before → EndsNeeded order old last_seen db (open_db after_memory (installed_state installed))
      ends_needed installed said all f given m s =
          let serving = serving_of order old given db m whole s.stands in
          let has = subst (λ (r : Result (Installed K) FlushError). Means m serving f r) said (means m serving f) in
          let can = can_end order kept one lasts new facts mid (drawing m most new.facts) (on m serving f) after (c m serving f) (none_left m serving f) in
          let takes = takes_on db db before after plan version snapshots refl refl all in
          subst (λ (fs : Files). HasNeeded order fs (live_sequences (open_db after_memory (installed_state installed)))) (final_whole m serving f s.undamaged)
          (installed_needed order (on m serving f).ideal (final m serving f) (on m serving f).log.directory.directory after state.version.value.tables (c m serving f).running.inputs (c m serving f).running.rest (c m serving f).came can.served.consistent (c m serving f).running.planned can.served.listed
          serving.tables.in_order.levels takes.inputs takes.output takes.version has.has (live_sequences (open_db after_memory (installed_state installed)))
          (λ sequence i. subst (λ (last : ℕ). Contains (last ∷ values_of state.snapshots.entries) sequence) (sym touches.memory.last) (takes.sequences sequence i)))

      -- what must be kept of its inputs' entries is in its outputs
      pub ends_merged : (installed : Installed K) → result ≡ Ok installed → PutsMerged order old last_seen db (open_db after_memory (installed_state installed))
      ends_merged installed said =
          subst (λ (o : Option (OpenJob K g)). MatchOption o ⊥ (λ work. IsTrue facts.faithful → (given : Ids) (m : Machine) → StandsWhole order old given db m → HasMerged order old.facts.files facts.files work db (open_db after_memory (installed_state installed)))) (sym is)
          (λ f given m s.
          let serving = serving_of order old given db m whole s.stands in
          let d = serving.log.directory.directory in
          let ideal_is = serving.origin.undamaged s.undamaged in
          let final_is = final_whole m serving f s.undamaged in
          let has = subst (λ (r : Result (Installed K) FlushError). Means m serving f r) said (means m serving f) in
          let can = can_end order kept one lasts new facts mid (drawing m most new.facts) (on m serving f) after (c m serving f) (none_left m serving f) in
          let running = (c m serving f).running in
          let inputs = running.inputs in
          let rest = running.rest in
          let parted = running.planned.parted in
          let outputs = has.has.outputs in
          let contents = has.has.contents in
          let tables = installed.version.value.tables in
          let came = (c m serving f).came in
          record {
            inputs = inputs;
            outputs = outputs;
            planned = subst (λ (p : JobPlan). IsPermutation p.inputs.items (placed_in inputs)) plan running.planned.planned;
            read = λ input i. subst (λ (fs : Files). HasTable order fs input) ideal_is (one_of_tables order serving.ideal d.tables input serving.log.directory.consistent.tables (from_chosen d.tables inputs rest input parted i));
            written = λ output i.
                let there = from_chosen contents outputs rest output has.has.compaction.new_tables i in (
                  subst (λ (fs : Files). HasTable order fs output) final_is (one_of_tables order (final m serving f) contents output has.has.consistent.tables there),
                  has.has.compaction.levels output i ∙ ap (λ (p : JobPlan). p.output_level) plan,
                  all_contains (Contains tables) (placed_in contents) output.placed has.listed.all (has_placed contents output there),
                );
            others = λ placed i.
                let content = content_at contents placed (contains_among (placed_in contents) placed (all_contains (Contains (placed_in contents)) tables placed has.listed.only i)) in
                elim (in_part contents outputs rest content.0 has.has.compaction.new_tables content.1) [
                  | inl out ↦ inr (subst (λ (p : PlacedTable). Contains (placed_in outputs) p) content.2 (has_placed outputs content.0 out))
                  | inr beside ↦ inl (subst (λ (p : PlacedTable). Contains state.version.value.tables p) content.2
                      (all_contains (Contains state.version.value.tables) (placed_in d.tables) content.0.placed can.served.listed.all (has_placed d.tables content.0 (from_rest d.tables inputs rest content.0 parted beside))))
                ];
            entries = map entry_of came;
            same = can.merged.entries;
            needed = subst (λ (deep : List ℕ → Bool). AreNeeded (map entry_of came) before.job.selection.snapshots deep (tabled outputs)) (deep_same order.cmp after before plan version)
                (subst (λ (ss : List ℕ). AreNeeded (map entry_of came) ss (deep_of order.cmp after) (tabled outputs)) snapshots has.has.put.needed);
          })

      -- no number more is drawn than entries came
      pub ends_counted : {T : Type 0} (budget_is : most ≤ max budget 1) (merged : after.merged ≡ shown (before.merged + progress.merged)) (few : most ≤ progress.merged) (done : T) (installed : Installed K) → result ≡ Ok installed
          → AreInOrder order.cmp installed.version.value.tables → Edited → PutsSynced installed → AreOldOrOwn after.job.outputs tables installed.version.value.tables → Carried → Ends → LeadsOpen order old last_seen ids db (open_db after_memory (installed_state installed)) (λ m n. HasCome budget db m (Ok done) n)
      ends_counted budget_is merged few done installed said in_order edited puts own carries ends =
          let step = ends_installed done installed said in_order edited puts own carries ends in
          record {
            faithful = step.faithful;
            moved = λ f m s.
                let one = step.moved f m s in
                let serving = serving_of order old ids db m whole s in
                let counted : after.merged ≤ entry_count m = job_counted order total new mid (drawing m most new.facts) (on m serving f) after (c m serving f) in
                let within : shown (before.merged + most) ≤ entry_count m = omega (arith, counted, merged, few) in
                (one.0, record { came = most; most = budget_is; piece = one.1; within = subst (λ (o : Option (OpenJob K g)). MatchOption o (Unit {0}) (λ work. shown (work.merged + most) ≤ entry_count m)) (sym is) within }, one.2);
          }

      -- they aren't, and nothing was lost
      uninstalled : {T : Type 0} (e : DbError) → result ≡ Err (Before e) → ((m : Machine) → IsServing order old db m → IsTrue facts.faithful → UpkeepRefused m most e (drawing m most facts))
          → Spares (Before e) → Carried → LeadsOpen order old last_seen ids db (open_db after_memory (with_job None)) (λ m n. IsPiece {T = T} m most (Err e) n)
      uninstalled e said why spares carries =
          serves_on order old last_seen ids db (open_db after_memory (with_job None)) most (Err e) whole whole faithful rise undenied
          (λ m f same serving.
          let has = subst (λ (r : Result (Installed K) FlushError). Means m serving f r) said (means m serving f) in (
            why m serving f,
            once m serving f last_seen (open_db after_memory (with_job None))
                (serving_uninstalled order kept one lasts new facts mid (drawing m most new.facts) (on m serving f) after (c m serving f) (none_left m serving f) f install has.1 (spares f) (carries f)),
          ))

      -- the store failed
      failed : {T : Type 0} → new.facts.failures < facts.failures
          → ((m : Machine) (serving : IsServing order old db m) (f : IsTrue facts.faithful) → IsBroken order facts.files (record (drawing (drawing m most new.facts) 0 facts) { broken = true }))
          → LeadsOpen order old last_seen ids db (open_db after_memory (record (with_job None) { broken = true })) (λ m n. IsPiece {T = T} m most (Err error.Io) n)
      failed rose may =
          breaks order old last_seen ids db (open_db after_memory (record (with_job None) { broken = true })) most (Err error.Io) refl whole refl faithful (let a = touches.writes.failures in omega (arith, a, rose)) undenied
          (λ m f serving. once_broken m serving f (may m serving f))

      -- a failure at the edit puts in tables of the job alone
      abbrev Owns : Type 0
      Owns = OfEach (λ ideal final. EndPutsOwn order new.facts facts ideal final numbers.next sequence state.directory.manifest tables after result) new.facts.files facts.files

      owns_else : (m : Machine) (serving : IsServing order old db m) (f : IsTrue facts.faithful) → Owns → result ≡ Err Edit → (e : Directory) → IsConsistent order (final m serving f) e → (placed : PlacedTable) → Contains e.layout.tables.items placed
          → Contains (on m serving f).log.directory.directory.layout.tables.items placed ⊎ (IsOwn after.job.outputs placed.table.number × ((file : List ℕ) × (get facts.files (table_name placed.table.number) ≡ Some file)))
      owns_else m serving f put said =
          let can = can_end order kept one lasts new facts mid (drawing m most new.facts) (on m serving f) after (c m serving f) (none_left m serving f) in
          let own = subst (λ (n : ℕ). EndPutsOwn order new.facts facts (on m serving f).ideal (final m serving f) numbers.next n state.directory.manifest state.version.value.tables after result) sequence_is
          (subst (λ (ts : List PlacedTable). EndPutsOwn order new.facts facts (on m serving f).ideal (final m serving f) numbers.next sequence state.directory.manifest ts after result) tables_are
          (put (on m serving f).ideal (final m serving f) (on m serving f).origin.differs (final_change m serving f))) in
          own said f (on m serving f).log.directory.directory (c m serving f).came (c m serving f).running.inputs (c m serving f).running.rest can

      unended : {T : Type 0} (e : FlushError) → result ≡ Err e → RefusesEnd order new.facts facts numbers.next sequence state.directory.manifest tables after e
          → Owns → Spares e → Carried → LeadsOpen order old last_seen ids db (open_db after_memory (broken_by (with_job None) (flush_answer e))) (λ m n. IsPiece {T = T} m most (Err (flush_answer e)) n)
      unended (Before error.OutOfMemory) said h put spares carries = uninstalled error.OutOfMemory said (λ m serving f. draws m most facts) spares carries
      unended (Before error.Io) said h put spares carries = failed h (λ m serving f.
          let has = (subst (λ (r : Result (Installed K) FlushError). Means m serving f r) said (means m serving f)).1 in
          broken_uninstalled order kept one lasts new facts mid (drawing m most new.facts) (on m serving f) after (c m serving f) (none_left m serving f) f install has.served.consistent has.kept has.served.free)
      unended (Before (error.Unsupported what)) said h put spares carries =
          uninstalled (error.Unsupported what) said (λ m serving f. (hard_or m (2 ^ 29 ≤ weight m) (λ undamaged. inr (heavy m serving f undamaged (h f))), draws m most facts)) spares carries
        where
          heavy : (m : Machine) (serving : IsServing order old db m) (f : IsTrue facts.faithful) → m.damaged ≡ false
              → ((seen_whole : Whole) (e : Directory) (came : List InternalEntry) → seen_whole.seen.facts ≡ new.facts → CanEnd order seen_whole numbers.next sequence state.directory.manifest tables e after came → AreLarge (map entry_of came)) → 2 ^ 29 ≤ weight m
          heavy m serving f undamaged large =
              let can = can_end_whole order kept one lasts new facts mid (drawing m most new.facts) (on m serving f) after (c m serving f) (none_left m serving f) undamaged in
              let said_can = subst (λ (n : ℕ). CanEnd order (whole_of new mid) numbers.next n state.directory.manifest tables (on m serving f).log.directory.directory after (c m serving f).came) (sym sequence_is)
              (subst (λ (ts : List PlacedTable). CanEnd order (whole_of new mid) numbers.next after_memory.last state.directory.manifest ts (on m serving f).log.directory.directory after (c m serving f).came) (sym tables_are) can) in
              let few = large (whole_of new mid) (on m serving f).log.directory.directory (c m serving f).came refl said_can in
              let all = sym (ap (λ (es : List InternalEntry). (c m serving f).came ++ es) (none_left m serving f) ∙ append-nil (c m serving f).came) in
              job_heavy order total new mid (drawing m most new.facts) (on m serving f) after (c m serving f) (subst (λ (es : List InternalEntry). AreLarge (map entry_of es)) all few)
      unended (Before (error.Corrupt file what)) said h put spares carries = uninstalled (error.Corrupt file what) said (λ m serving f.
          absurd ((subst (λ (r : Result (Installed K) FlushError). Means m serving f r) said (means m serving f)).0 tt)) spares carries
      unended (Before error.NumbersSpent) said h put spares carries = uninstalled error.NumbersSpent said (λ m serving f. ((let below : next ≤ m.numbers = serving.numbers in omega (arith, h, below, upto)), draws m most facts)) spares carries
      unended (Before _) said h put spares carries = absurd h
      unended Edit said h put spares carries = failed h (λ m serving f.
          broken_install order kept one lasts new facts mid (drawing m most new.facts) (on m serving f) after (c m serving f) (none_left m serving f) f install (subst (λ (r : Result (Installed K) FlushError). Means m serving f r) said (means m serving f))
          (owns_else m serving f put said))

      pub ends_unended : {T : Type 0} (e : FlushError) → result ≡ Err e → RefusesEnd order new.facts facts numbers.next sequence state.directory.manifest tables after e
          → Owns → Spares e → Carried → LeadsOpen order old last_seen ids db (open_db after_memory (broken_by (with_job None) (flush_answer e))) (λ m n. IsPiece {T = T} m most (Err (flush_answer e)) n)
      ends_unended e said h put spares carries = unended e said h put spares carries
