-- How a call that begins a compaction ends.
use Rattle.std.proofs.Common.{◌≡◌, ◌≤◌, ◌^◌, ◌++◌, ℕ, false, List, [], map, Contains, Some, None, Ok, Err, IsTrue, inl, inr, refl, sym, subst, arith}
use Rattle.coding.specs.declared.error.DbError.{DbError}
use Rattle.coding.specs.declared.error.DbError.TheVariants as error
use Rattle.std.specs.Cmp.{IsTotalOrder}
use Rattle.std.specs.FinMap.{IsAntisymmetric}
use Rattle.compact.specs.Deeper.{is_covered_below}
use Rattle.compact.specs.Merging.{AreDisjoint}
use Rattle.compact.specs.Outputs.{IsOwn, IsToCome, TablesWritten}
use Rattle.edits.specs.declared.field.PlacedTable.{PlacedTable}
use Rattle.ikey.proofs.SearchedSources.{among_front}
use Rattle.ikey.specs.Entries.{InternalEntry, entry_of}
use Rattle.ikey.specs.Orders.{Order}
use Rattle.ikey.specs.Sources.{SameEntries}
use Rattle.ikey.specs.Views.{AllUpTo, Among}
use Rattle.running_job.proofs.Stepped.{planned_as}
use Rattle.running_job.specs.Running.{MayRun}
use Rattle.running_job.specs.internal.Beginning.{BeginsJob, CanBegin, MayBegin, MayBeginJob, RefusesBegin}
use Rattle.running_job.specs.declared.open_job.OpenJob.{OpenJob}
use Rattle.memtables.specs.Memories.{Memories, logged_in}
use Rattle.recover.proofs.Memberships.{among_chosen}
use Rattle.recover.specs.Directory.{Directory, IsConsistent}
use Rattle.recover.specs.Numbers.{IsFree}
use Rattle.recover.specs.Tables.{TableContent, tabled}
use Rattle.level_cursor.specs.InRows.{ListsNumber}
use Rattle.db_cursor.specs.Places.{LeavesSource}
use Rattle.db_cursor.specs.internal.Scanning.{ScanIsKept}
use Rattle.db_cursor.proofs.Origins.{origins_held}
use Rattle.db_cursor.specs.Scans.{IsOnePastLimit}
use Rattle.db_cursor.specs.Whole.{Whole}
use Rattle.db_cursor.specs.declared.scan.Scan.{Scan}
use Rattle.table_access.specs.Tables.{KeepsOf, Seen}
use Rattle.store.specs.Files.{Files}
use Rattle.directory_writes.proofs.JobTables.{contains_among, content_at}
use Rattle.directory_writes.proofs.PlansMade.{planned_by}
use Rattle.directory_writes.specs.Replacing.{placed_in, IsPlanned}
use Rattle.version_laws.proofs.Version.{part, tabled_again}
use Rattle.version_laws.specs.Places.{HasVersion}
use Rattle.versions.proofs.Inputs.{inputs}
use Rattle.versions.specs.Levels.{AreInOrder, ListsSameTables}
use Rattle.versions.specs.Plans.{IsPlanOf}
use Rattle.versions.specs.declared.plan.JobPlan.{JobPlan}
use Rattle.engine.specs.declared.ids.Ids.{Ids}
use Rattle.engine.specs.declared.state.DbState.{DbState}
use Rattle.engine.specs.internal.Compacting.{IsCompacting, IsRunningOver}
use Rattle.engine.specs.internal.Leading.{LeadsOpen}
use Rattle.engine.specs.OpenDb.{OpenDb, open_db, whole_of}
use Rattle.engine.specs.Reads.{kept_at}
use Rattle.machine.specs.Machine.{Machine, weight}
use Rattle.engine.proofs.Synced.{stays_same}
use Rattle.engine.specs.InUse.{IsJobTable}
use Rattle.engine.specs.internal.Standing.{IsServing}
use Rattle.machine.specs.Upkeep.{UpkeepRefused}
use Rattle.engine.specs.internal.Pieces.{IsPiece, IsHardToRead}
use Rattle.engine.proofs.Compacting.{all_contains, input_number}
use Rattle.engine.proofs.Origins.{origins_in}
use Rattle.engine.proofs.JobCauses.{hard_or, limited_in, not_whole}
use Rattle.engine.proofs.Reading.{GathersRead, KeepsThere, carried_there, read_by, serving_read, synced_read}
use Rattle.engine.proofs.WorkEnds.{undrawn}
use Rattle.engine.proofs.WorkSteps.{drawing, draws, serves_on}

-- ---- the tables of a plan

-- they are some of the version's
pub planned_within : (cmp : _) (tables : List PlacedTable) (plan : JobPlan) (placed : PlacedTable) → IsPlanOf cmp tables plan → Contains plan.inputs.items placed → Contains tables placed
planned_within cmp tables plan placed (inl level) is = all_contains (Contains tables) plan.inputs.items placed level.chosen.inputs.within is
planned_within cmp tables plan placed (inr all) is = subst (λ (ps : List PlacedTable). Contains ps placed) all.inputs is

-- ---- with a job

module _ {K : Type 0} {g : _} (order : Order) (source : Seen) (db : OpenDb K g) (m : Machine) (work : OpenJob K g) where
  -- a database in which one is under way is one in which none was
  pub serving_with : (h : IsServing order source db m) → IsCompacting order m.damaged (whole_of source db) h.ideal db.directory.numbers.next db.snapshots db.iterators h.log.directory.directory work → IsServing order source (record db { job = Some work }) m
  serving_with h c = record {
    whole = h.whole;
    certain = h.certain;
    ideal = h.ideal;
    origin = h.origin;
    contents = h.contents;
    log = record { named = h.log.named; directory = h.log.directory; logs = h.log.logs; knows = h.log.knows };
    tables = record { version = h.tables.version; in_order = h.tables.in_order; sound = h.tables.sound; drawn = h.tables.drawn };
    entries = h.entries;
    snapshots = h.snapshots;
    iterators = h.iterators;
    accounted = h.accounted;
    readable = h.readable;
    numbers = h.numbers;
    synced = h.synced;
    recent = h.recent;
    job = c;
  }

-- ---- what the inputs may have

-- the contents of the inputs of a plan, as they are searched, are those of the tables of the
-- directory
pub plan_parted : (order : Order) (ideal : Files) (d : Directory) (tables : List PlacedTable) (plan : JobPlan) → IsTotalOrder order.cmp → IsAntisymmetric order.cmp → IsConsistent order ideal d → ListsSameTables (placed_in d.tables) tables
    → AreInOrder order.cmp tables → IsPlanOf order.cmp tables plan
    → (inputs : List TableContent) × (rest : List TableContent) × (found : List TableContent) × IsPlanned order (is_covered_below order.cmp plan.output_level tables) plan d.tables inputs rest
    × HasVersion order ideal plan.inputs.items found × SameEntries (tabled found) (tabled inputs)
plan_parted order ideal d tables plan total exact consistent listed in_order is =
    let p = planned_by order ideal d tables plan total exact consistent listed in_order is in
    let inputs_are = inputs order.cmp tables plan total in_order is in
    let found = part order ideal d p.0 p.1 plan.inputs.items total exact consistent p.2.parted p.2.planned inputs_are in
    let again = tabled_again plan.inputs.items found.0 found.1.placed inputs_are.levels in
    (p.0, p.1, found.0, p.2, found.1, λ entry. (λ i. (found.2 entry).0 ((again entry).1 i), λ i. (again entry).0 ((found.2 entry).1 i)))

-- ---- a job is begun

module _ {K : Type 0} {g : _} (order : Order) (total : IsTotalOrder order.cmp) (exact : IsAntisymmetric order.cmp) (kept : (scan : Scan K g) → ScanIsKept order.cmp scan) (old new : Seen) (ids : Ids) (state : DbState K g) (memory after_memory : Memories) (plan : JobPlan)
    (whole : state.broken ≡ false) (none : state.job ≡ None) (tables : List PlacedTable) (tables_are : tables ≡ state.version.value.tables) (is : IsPlanOf order.cmp state.version.value.tables plan)
    (leaves : LeavesSource order.cmp (ListsNumber plan.inputs.items) (record { seen = old; memory = memory }) (record { seen = new; memory = after_memory })) where
  abbrev db : OpenDb K g
  db = open_db memory state

  abbrev before : Whole
  before = record { seen = old; memory = memory }

  abbrev after : Whole
  after = record { seen = new; memory = after_memory }

  module _ (m : Machine) (serving : IsServing order old db m) (f : IsTrue new.facts.faithful) where
    abbrev d : Directory
    d = serving.log.directory.directory

    listed_here : ListsSameTables (placed_in d.tables) state.version.value.tables
    listed_here = subst (λ (contents : List TableContent). ListsSameTables (placed_in contents) state.version.value.tables) serving.log.directory.in_tables serving.tables.version

    unkept_here : AreDisjoint (KeepsOf old) (IsToCome state.directory.numbers.next)
    unkept_here number is_kept come = (let below = (serving.tables.drawn number is_kept).1 in omega (arith, come.0, below))

    -- without damage, over the files
    pub can_begin : m.damaged ≡ false → CanBegin order before state.directory.numbers.next tables d
    can_begin undamaged =
        let same = serving.origin.undamaged undamaged in
        record {
          consistent = subst (λ (fs : Files). IsConsistent order fs d) same serving.log.directory.consistent;
          listed = subst (λ (ts : List PlacedTable). ListsSameTables (placed_in d.tables) ts) (sym tables_are) listed_here;
          sound = serving.tables.sound;
          unkept = unkept_here;
          free = subst (λ (fs : Files). IsFree order fs state.directory.numbers.next) same serving.log.knows.free;
        }

    parted_here : (inputs : List TableContent) × (rest : List TableContent) × (found : List TableContent) × IsPlanned order (is_covered_below order.cmp plan.output_level state.version.value.tables) plan d.tables inputs rest
        × HasVersion order serving.ideal plan.inputs.items found × SameEntries (tabled found) (tabled inputs)
    parted_here = plan_parted order serving.ideal d state.version.value.tables plan total exact serving.log.directory.consistent listed_here serving.tables.in_order is

    -- whichever contents the files may have, those of the directory are some
    may_begin : MayBegin order before state.directory.numbers.next plan parted_here.2
    may_begin = record {
      sound = serving.tables.sound;
      may = origins_held order old.facts.files serving.ideal plan.inputs.items parted_here.2 total parted_here.4 (λ placed there. origins_in order old db m serving placed (planned_within order.cmp state.version.value.tables plan placed is there));
      unkept = unkept_here;
      below = λ number has.
          (input_number order serving.ideal d state.directory.numbers.next plan.inputs.items parted_here.0 parted_here.1 serving.log.directory.consistent serving.log.knows.free parted_here.3.parted parted_here.3.planned number has).1;
    }

    of_version : (number : ℕ) → ListsNumber plan.inputs.items number → ListsNumber state.version.value.tables number
    of_version number has = (has.0, planned_within order.cmp state.version.value.tables plan has.0 is has.1, has.2)

    there : KeepsThere old new
    there = carried_there order.cmp old new leaves.carries f

    -- what is kept anew is of its inputs
    gathers : GathersRead db old new
    gathers number is_kept = elim (leaves.carries.gathered number is_kept) [ inl was ↦ inl was | inr has ↦ inr (inl (of_version number has)) ]

    abbrev read_on : IsServing order new (record db { memory = after_memory }) (read_by new.facts m)
    read_on = serving_read order kept old new db after_memory m (leaves.carries.reads.files f) (leaves.carries.sound f) there gathers leaves.memory (stays_same old.facts new.facts db.log db.directory db.tables (IsJobTable db.job) (leaves.carries.reads.calls f) (leaves.carries.reads.files f) (leaves.carries.reads.synced f))
        (synced_read old.facts new.facts (leaves.carries.reads.synced f)) serving

    -- none was drawn
    pub on : IsServing order new (record db { memory = after_memory }) (drawing m 0 new.facts)
    on = undrawn order new (record db { memory = after_memory }) m new.facts read_on

    refused : (e : DbError) → m.failures ≡ old.facts.failures → RefusesBegin order tables plan before after e → UpkeepRefused m 0 e (drawing m 0 new.facts)
    refused error.OutOfMemory same h = draws m 0 new.facts
    refused error.Io same h = (omega (arith, h, same), (omega arith, omega arith), refl)
    refused (error.Corrupt file what) same h = (not_whole m (λ undamaged. h f state.directory.numbers.next d (can_begin undamaged)), draws m 0 new.facts)
    refused (error.Unsupported what) same h = (hard_or m (2 ^ 29 ≤ weight m) (λ undamaged. inl (limited (h f state.directory.numbers.next d (can_begin undamaged)))), draws m 0 new.facts)
      where
        limited : IsOnePastLimit order.cmp plan.inputs.items before → IsHardToRead m
        limited past =
            let at : Contains state.version.value.tables past.0 = planned_within order.cmp state.version.value.tables plan past.0 is past.1 in
            let listed = all_contains (Contains (placed_in serving.contents)) state.version.value.tables past.0 serving.tables.version.only at in
            let content = content_at d.tables past.0 (contains_among (placed_in d.tables) past.0 (subst (λ (cs : List TableContent). Contains (placed_in cs) past.0) serving.log.directory.in_tables listed)) in
            limited_in order old db m serving content.0 content.1 past.0 content.2 past.2 past.3 past.4
    refused error.NumbersSpent same h = absurd h
    refused _ same h = absurd h

    module _ (work : OpenJob K g) (begins : BeginsJob order tables before after work) (may : MayBeginJob order plan before after work) (plan_is : work.job.plan ≡ plan) (version : work.version.value.tables ≡ state.version.value.tables) (empty : work.job.outputs ≡ record { closed = []; at_hand = None }) (kept_last : Contains work.job.selection.snapshots memory.last)
        (kept_each : (id sequence : ℕ) → kept_at state.snapshots id ≡ Some sequence → Contains work.job.selection.snapshots sequence) where
      owns_none : (number : ℕ) → IsOwn work.job.outputs number → ⊥
      owns_none number own = elim (subst (λ (w : TablesWritten). IsOwn w number) empty own) [
        | inl at ↦ absurd at
        | inr closed ↦ absurd (omega (arith, closed.2))
      ]

      same_last : after_memory.last ≡ memory.last
      same_last = leaves.memory.last

      abbrev begun_entries : (left : List InternalEntry) × MayRun order after state.directory.numbers.next parted_here.2 work [] left
      begun_entries = may f state.directory.numbers.next parted_here.2 may_begin

      -- over those of the directory
      begun_may : MayRun order after state.directory.numbers.next parted_here.0 work [] begun_entries.0
      begun_may =
          let r = begun_entries.1 in
          record {
            entries = λ entry. (λ i. (parted_here.5 entry).0 ((r.entries entry).0 i), λ i. (r.entries entry).1 ((parted_here.5 entry).1 i));
            own_sequences = r.own_sequences;
            merging = r.merging;
            goes_on = r.goes_on;
            stands = r.stands;
            no_memory = r.no_memory;
            over = r.over;
            outside = r.outside;
            unkept = r.unkept;
            numbered = r.numbered;
            drawn = r.drawn;
            counted = r.counted;
            limits = r.limits;
            torn = r.torn;
          }

      running_here : IsRunningOver order m.damaged after read_on.ideal state.directory.numbers.next d work [] begun_entries.0
      running_here = record {
        inputs = parted_here.0;
        rest = parted_here.1;
        planned = planned_as order d parted_here.0 parted_here.1 plan work.job.plan state.version.value.tables work.version.value.tables plan_is version parted_here.3;
        unused = λ number own. absurd (owns_none number own);
        may = begun_may;
        same = λ number own. absurd (owns_none number own);
        intact = λ undamaged. (begins f state.directory.numbers.next d (can_begin undamaged)).1.intact;
      }

      begun_job : IsCompacting order m.damaged after read_on.ideal state.directory.numbers.next state.snapshots state.iterators d work
      begun_job =
          let left = begun_entries.0 in
          let above : AllUpTo memory.last (map entry_of ([] ++ left)) = λ entry i.
          let in_tables = among_chosen d.tables parted_here.0 parted_here.1 entry parted_here.3.parted ((begun_may.entries entry).0 i) in
          serving.entries.bounded entry (among_front (tabled serving.contents) (logged_in memory) entry (subst (λ (cs : List TableContent). Among (tabled cs) entry) (sym serving.log.directory.in_tables) in_tables)) in
          record {
            came = [];
            left = left;
            running = running_here;
            reach = memory.last;
            begun = record { kept = kept_last; used = omega (arith, same_last); above = above };
            seen = λ id sequence there. (sequence, kept_each id sequence there, omega arith, λ entry i le. le);
            unread = λ id scan there number has own. owns_none number own;
            since = λ number own. absurd (owns_none number own);
          }

      pub serving_begun : IsServing order new (record (open_db after_memory state) { job = Some work }) (drawing m 0 new.facts)
      serving_begun = undrawn order new (record (open_db after_memory state) { job = Some work }) m new.facts (serving_with order new (open_db after_memory state) (read_by new.facts m) work read_on begun_job)

  pub ends_begun : {T : Type 0} (done : T) (work : OpenJob K g) → BeginsJob order tables before after work → MayBeginJob order plan before after work → work.job.plan ≡ plan → work.version.value.tables ≡ state.version.value.tables → work.job.outputs ≡ record { closed = []; at_hand = None } → Contains work.job.selection.snapshots memory.last
      → ((id sequence : ℕ) → kept_at state.snapshots id ≡ Some sequence → Contains work.job.selection.snapshots sequence)
      → LeadsOpen order old new ids db (open_db after_memory (record state { job = Some work })) (λ m n. IsPiece m 0 (Ok done) n)
  ends_begun done work begins may plan_is version empty last each =
      serves_on order old new ids db (open_db after_memory (record state { job = Some work })) 0 (Ok done) whole whole leaves.carries.reads.faithful leaves.carries.reads.failures leaves.carries.reads.denials
      (λ m f same serving. (draws m 0 new.facts, serving_begun m serving f work begins may plan_is version empty last each))

  pub ends_unbegun : {T : Type 0} (e : DbError) → RefusesBegin order tables plan before after e → LeadsOpen order old new ids db (open_db after_memory state) (λ m n. IsPiece {T = T} m 0 (Err e) n)
  ends_unbegun e h =
      serves_on order old new ids db (open_db after_memory state) 0 (Err e) whole whole leaves.carries.reads.faithful leaves.carries.reads.failures leaves.carries.reads.denials
      (λ m f same serving. (refused m serving f e same h, on m serving f))
