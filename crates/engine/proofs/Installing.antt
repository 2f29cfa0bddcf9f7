-- What the end of a compaction leaves of an open database.
use Rattle.std.proofs.Common.{true, false, ◌≡◌, ◌≢◌, ◌⊎◌, ◌<◌, ℕ, ◌+◌, ◌≤◌, List, Contains, [], ◌∷◌, ◌++◌, map, Option, Some, None, IsTrue, inl, inr, refl, sym, ap, subst, ◌∙◌, append-nil, arith, string_bytes}
use Rattle.std.specs.FinMap.{get}
use Rattle.cache.specs.Tables.{table_at}
use Rattle.compact.specs.Laws.{AreNewerOrDeep, SeesAsOne}
use Rattle.compact.specs.Outputs.{IsNumberAtHand, IsOwn, IsTableName, table_name}
use Rattle.edits.specs.Edit.{HasPastLimit}
use Rattle.edits.specs.Layout.{fields_of}
use Rattle.edits.specs.Names.{name_of, IsFileName, IsNumbered}
use Rattle.edits.specs.declared.field.Field.{Field}
use Rattle.edits.specs.declared.field.PlacedTable.{PlacedTable}
use Rattle.edits.specs.declared.names.FileName.{FileName}
use Rattle.edits.specs.declared.names.FileName.TheVariants.{Log, Manifest, Table, OldTable}
use Rattle.ikey.proofs.SearchedSources.{among_split, among_front, among_back}
use Rattle.ikey.specs.Entries.{InternalEntry, entry_of}
use Rattle.ikey.specs.Orders.{Order}
use Rattle.ikey.specs.Sources.{SameEntries}
use Rattle.ikey.specs.Views.{Among, AllUpTo, Contents, IsView}
use Rattle.ikey.specs.declared.entry.Entry.{Entry}
use Rattle.running_job.specs.internal.Ending.{CanEnd, CanEndOver}
use Rattle.running_job.specs.Running.{MayRun, deep_of}
use Rattle.running_job.specs.declared.open_job.OpenJob.{OpenJob}
use Rattle.memtables.specs.Memories.{logged_in}
use Rattle.memtables.specs.PlaceLaws.{left_kept}
use Rattle.recover.proofs.Memberships.{among_chosen, among_contents, among_rest}
use Rattle.recover.proofs.NewLogs.{log_there}
use Rattle.recover.specs.internal.Changes.{ManifestEndsAt, compacted}
use Rattle.recover.specs.Directory.{Directory, IsConsistent, entries_in}
use Rattle.recover.specs.internal.Laws.{OneDirectoryLaw}
use Rattle.recover.specs.Logs.{InLogs, logged}
use Rattle.recover.specs.Numbers.{IsFree}
use Rattle.recover.specs.Report.{IsLongTable, AnyHasBytes}
use Rattle.recover.specs.Tables.{TableContent, tabled}
use Rattle.db_cursor.specs.internal.Scanning.{ScanIsKept}
use Rattle.db_cursor.specs.Scans.{KeepsScan}
use Rattle.db_cursor.specs.declared.scan.Scan.{Scan}
use Rattle.table_access.proofs.Sounding.{same_file, same_table}
use Rattle.table_access.specs.Tables.{IsSound, KeepsOf, Seen, SoundLasts}
use Rattle.store.specs.Files.{Facts, Files}
use Rattle.store.specs.Losses.{CarriesBut, behind_sync}
use Rattle.directory_writes.proofs.PlansMade.{planned_apart}
use Rattle.directory_writes.specs.Replacing.{placed_in}
use Rattle.directory_writes.specs.internal.Flush.{KeepsLogsAndTables, PassesNoLimit}
use Rattle.directory_writes.specs.internal.Calls.{LeavesFile}
use Rattle.directory_writes.specs.internal.Install.{HasInstalled, InstallTouches, IsServed, IsTableSynced, IsUninstalled, MayBeInstalled}
use Rattle.directory_writes.specs.Differing.{DiffersInTables, IsSameChange}
use Rattle.directory_writes.proofs.JobTables.{contains_among, content_at}
use Rattle.directory_writes.proofs.SameChanges.{also, one_change, same_change}
use Rattle.directory_writes.specs.internal.Removal.{table_number}
use Rattle.versions.specs.Levels.{AreInOrder, ListsSameTables}
use Rattle.opening.specs.declared.directory.DirectoryState.{DirectoryState}
use Rattle.engine.specs.internal.Accounted.{AreAccounted}
use Rattle.engine.specs.internal.Compacting.{IsCompacting, IsRunningOver}
use Rattle.engine.specs.Origins.{ComesFrom}
use Rattle.engine.proofs.Origins.{comes_on}
use Rattle.opening.specs.internal.Directories.{CanAppend}
use Rattle.engine.specs.internal.Directory.{IsReadable, MeansAccepted}
use Rattle.engine.specs.OpenDb.{OpenDb, whole_of}
use Rattle.engine.specs.internal.Standing.{entries_of, HasLog, IsBroken, IsServing}
use Rattle.engine.specs.Reads.{kept_at}
use Rattle.engine.specs.internal.Live.{AreSnapshots, IsLiveWalk, IsSnapshot}
use Rattle.machine.specs.Machine as machine
use Rattle.machine.specs.Machine.{Machine, Walk, entry_count, view_at, weight}
use Rattle.opening.specs.Durable.{IsSynced}
use Rattle.opening.specs.Losses.{IsKept, IsTableKept}
use Rattle.engine.specs.internal.Recent.{AreRecent}
use Rattle.engine.specs.internal.Synced.{IsSyncedBut}
use Rattle.engine.proofs.Compacting.{all_contains, listed_number, own_number, running_whole, unowned, version_number, version_unowned}
use Rattle.engine.proofs.FrontSyncing.{same_or_other}
use Rattle.engine.proofs.StayedNames.{SparesRead, first_least, spares_tables, stayed_behind, stayed_on, undrawn_still}
use Rattle.engine.proofs.Synced.{kept_still, no_table, one_number, synced_still, synced_with, table_still, table_synced}
use Rattle.engine.proofs.WriteSynced.{kept_synced}
use Rattle.engine.proofs.RecentInstalls.{parts_seen, recent_installed}
use Rattle.engine.proofs.RecentWrites.{recent_same}
use Rattle.engine.proofs.Pieces.{free_up, live_each, made_still, rests_seen, walks_each}
use Rattle.opening.proofs.Reopening.{files_apart, long_back}
use Rattle.engine.proofs.WorkSteps.{drawing}

module _ {K : Type 0} {g : _} (order : Order) (kept : (scan : Scan K g) → ScanIsKept order.cmp scan) (one : OneDirectoryLaw) (lasts : SoundLasts)
    (old : Seen) (facts : Facts) (db : OpenDb K g) (m : Machine) (serving : IsServing order old db m) (work : OpenJob K g)
    (c : IsCompacting order m.damaged (whole_of old db) serving.ideal db.directory.numbers.next db.snapshots db.iterators serving.log.directory.directory work) (ended : c.left ≡ []) where
  abbrev pub next : ℕ
  next = db.directory.numbers.next

  abbrev new : Seen
  new = record old { facts = facts }

  abbrev pub a : CanAppend order serving.ideal db.log.number db.log.end serving.contents (logged_in db.memory) db.memory.last
  a = serving.log.directory

  abbrev pub d : Directory
  d = a.directory

  pub ended_may : MayRun order (whole_of old db) next c.running.inputs work c.came []
  ended_may = subst (λ (es : List InternalEntry). MayRun order (whole_of old db) next c.running.inputs work c.came es) ended c.running.may

  abbrev ended_over : IsRunningOver order m.damaged (whole_of old db) serving.ideal next d work c.came []
  ended_over =
      let r = c.running in
      record { inputs = r.inputs; rest = r.rest; planned = r.planned; unused = r.unused; may = ended_may; same = r.same; intact = r.intact }

  abbrev pub can_end : CanEndOver order old.facts serving.ideal next db.memory.last db.directory.manifest db.tables d work c.came c.running.inputs c.running.rest
  can_end =
      let knows = serving.log.knows in
      record {
        served = record {
          consistent = a.consistent;
          number = knows.number;
          named = knows.named;
          ends = knows.ends;
          free = knows.free;
          listed = subst (λ (contents : List TableContent). ListsSameTables (placed_in contents) db.tables) a.in_tables serving.tables.version;
        };
        merged = record { planned = c.running.planned; entries = subst (λ (es : List InternalEntry). SameEntries (map entry_of es) (tabled c.running.inputs)) (append-nil c.came) ended_may.entries; merging = ended_may.merging; drawn = ended_may.drawn; unused = c.running.unused };
        outputs = c.running.same;
        used = a.spent;
      }

  -- without damage, over the files
  abbrev pub can_end_whole : m.damaged ≡ false → CanEnd order (whole_of old db) next db.memory.last db.directory.manifest db.tables d work c.came
  can_end_whole undamaged = record {
    served = subst (λ (fs : Files). IsServed order fs next db.directory.manifest db.tables d) (serving.origin.undamaged undamaged) can_end.served;
    running = running_whole order m.damaged (whole_of old db) serving.ideal next d work c.came [] undamaged ended_over;
    used = a.spent;
  }

  -- the same change to the directory
  pub end_change : (after : Files) × IsSameChange old.facts.files facts.files serving.ideal after × DiffersInTables facts.files after
  end_change = same_change old.facts.files facts.files serving.ideal serving.origin.differs

  abbrev pub ended_as : Files
  ended_as = end_change.0

  -- without damage it is what the files are
  pub end_whole : m.damaged ≡ false → ended_as ≡ facts.files
  end_whole undamaged =
      let one_law = one_change old.facts.files facts.files in
      let other : IsSameChange old.facts.files facts.files old.facts.files ended_as = subst (λ (fs : Files). IsSameChange old.facts.files facts.files fs ended_as) (serving.origin.undamaged undamaged) end_change.1 in
      one_law.2 old.facts.files ended_as facts.files other one_law.1

  entries_are : entries_of serving.contents db ≡ entries_in d
  entries_are = λ i. tabled (a.in_tables i) ++ a.in_logs i

  -- the machine after it
  abbrev pub ended_by : Machine
  ended_by = drawing m 0 facts

  -- ---- the outputs replace the inputs

  module _ (files : Files) (has : HasInstalled order (deep_of order.cmp work) work.job.plan.output_level work.job.selection.snapshots serving.ideal files c.came d c.running.inputs c.running.rest) where
    abbrev installed_as : Directory
    installed_as = compacted d (d.edits ++ has.edit ∷ []) has.next has.contents

    -- every entry was there before
    fewer : (entry : Entry) → Among (entries_in installed_as) entry → Among (entries_in d) entry
    fewer entry i = elim (among_split (tabled has.contents) (logged d.logs) entry i) [
      | inl in_tables ↦ among_front (tabled d.tables) (logged d.logs) entry (elim (among_contents has.contents has.outputs c.running.rest entry has.compaction.new_tables in_tables) [
        | inl out ↦ among_chosen d.tables c.running.inputs c.running.rest entry has.compaction.old_tables (has.compaction.taken entry out)
        | inr rest ↦ among_rest d.tables c.running.inputs c.running.rest entry has.compaction.old_tables rest
      ])
      | inr in_logs ↦ among_back (tabled d.tables) (logged d.logs) entry in_logs
    ]

    fewer_held : (entry : Entry) → Among (entries_in installed_as) entry → Among (entries_of serving.contents db) entry
    fewer_held entry i = subst (λ (es : List Entry). Among es entry) (sym entries_are) (fewer entry i)

    apart : AreNewerOrDeep (tabled c.running.inputs) (tabled c.running.rest ++ logged d.logs) (deep_of order.cmp work)
    apart = planned_apart order serving.ideal (deep_of order.cmp work) work.job.plan d c.running.inputs c.running.rest a.consistent c.running.planned

    -- a reader that sees of what came what one of its sequence numbers sees, sees the same
    seen_same : (p : ℕ) (contents : Contents) → SeesAsOne (map entry_of (c.came ++ c.left)) work.job.selection.snapshots p → IsView (entries_of serving.contents db) p contents → IsView (entries_in installed_as) p contents
    seen_same p contents sees view =
        has.alike apart p contents (sees.0, sees.1, sees.2, λ entry i le. sees.3 entry (came_of entry i) le)
        (subst (λ (es : List Entry). IsView es p contents) entries_are view)
      where
        came_of : (entry : Entry) → Among (tabled c.running.inputs) entry → Among (map entry_of (c.came ++ c.left)) entry
        came_of entry i = (c.running.may.entries entry).1 i

    -- the same for one at a sequence number above all that the tables had
    pub seen_above_tables : (p : ℕ) (contents : Contents) → AllUpTo p (tabled d.tables) → IsView (entries_in d) p contents → IsView (entries_in installed_as) p contents
    seen_above_tables p contents bounded view =
        parts_seen d.tables c.running.inputs c.running.rest has.outputs has.contents (logged d.logs) c.came work.job.selection.snapshots (deep_of order.cmp work) p c.reach contents
        has.compaction.old_tables has.compaction.new_tables can_end.merged.entries has.put.needed apart c.begun.kept
        (subst (λ (es : List InternalEntry). AllUpTo c.reach (map entry_of es)) (ap (λ (es : List InternalEntry). c.came ++ es) ended ∙ append-nil c.came) c.begun.above) bounded view

    -- no table has an entry that none had
    pub fewer_tabled : (entry : Entry) → Among (tabled has.contents) entry → Among (tabled serving.contents) entry
    fewer_tabled entry i = subst (λ (contents : List TableContent). Among (tabled contents) entry) (sym a.in_tables) (elim (among_contents has.contents has.outputs c.running.rest entry has.compaction.new_tables i) [
      | inl out ↦ among_chosen d.tables c.running.inputs c.running.rest entry has.compaction.old_tables (has.compaction.taken entry out)
      | inr rest ↦ among_rest d.tables c.running.inputs c.running.rest entry has.compaction.old_tables rest
    ])

    now_seen : SeesAsOne (map entry_of (c.came ++ c.left)) work.job.selection.snapshots db.memory.last
    now_seen = (c.reach, c.begun.kept, c.begun.used, λ entry i le. c.begun.above entry i)

    current_view : IsView (entries_in installed_as) db.memory.last (machine.current m)
    current_view = seen_same db.memory.last (machine.current m) now_seen serving.entries.view

    snapshots_on : AreSnapshots (entries_in installed_as) db.memory.last m db.snapshots
    snapshots_on = live_each (IsSnapshot (entries_of serving.contents db) db.memory.last m) (IsSnapshot (entries_in installed_as) db.memory.last m) db.snapshots m.snapshots
        (λ id sequence count there is. (is.0, is.1, seen_same sequence (view_at m count) (c.seen id sequence there) is.2)) serving.snapshots

    accounted_on : AreAccounted (entries_in installed_as) (entry_count m) (weight m)
    accounted_on = let h = serving.accounted in record { all = h.all; within = λ entry i. h.within entry (fewer_held entry i); count = h.count; weight = h.weight }

    logged_now : tabled has.contents ++ logged_in db.memory ≡ entries_in installed_as
    logged_now = ap (λ (es : List Entry). tabled has.contents ++ es) a.in_logs

    -- the files are what the machine stands for
    pub means_installed : MeansAccepted order files m
    means_installed = rests_seen order old db m serving files installed_as has.consistent current_view accounted_on (has.used ∙ sym a.spent)

  -- they are or aren't
  pub means_install : (files : Files) → MayBeInstalled order (deep_of order.cmp work) work.job.plan.output_level work.job.selection.snapshots serving.ideal files next c.came d c.running.inputs c.running.rest → MeansAccepted order files m
  means_install files may = elim may.either [
    | inl still ↦ rests_seen order old db m serving files d still.0 (subst (λ (es : List Entry). IsView es db.memory.last (machine.current m)) entries_are serving.entries.view)
        (subst (λ (es : List Entry). AreAccounted es (entry_count m) (weight m)) entries_are serving.accounted) (sym a.spent)
    | inr done ↦ means_installed files done
  ]

  -- ---- the files

  module _ (f : IsTrue facts.faithful) (touches : InstallTouches old.facts facts work.job.outputs (string_bytes db.directory.manifest.name)) where
    pub at_hand : (number : ℕ) → IsNumberAtHand work.job.outputs number → IsNumbered number
    at_hand number at = let n = own_number work.job.outputs next number c.running.may.numbered (inl at) in (n.0, (let below = n.1 in let fits = db.directory.numbers.in_range.1 in omega (arith, below, fits)))

    other_file : (name : List ℕ) → ((number : ℕ) → IsNumberAtHand work.job.outputs number → name ≢ name_of (Table number)) → name ≢ name_of (Manifest d.manifest) → get facts.files name ≡ get old.facts.files name
    other_file name apart other = touches.others f name apart (λ e. other (e ∙ serving.log.knows.named))

    newer_same : (n : ℕ) → IsNumbered n → (IsNumberAtHand work.job.outputs n → ⊥) → get facts.files (name_of (Table n)) ≡ get old.facts.files (name_of (Table n))
    newer_same n numbered apart =
        other_file (name_of (Table n)) (λ number at. files_apart (Table n) (Table number) numbered (at_hand number at) (λ e. apart (let is : number ≡ n = cc in subst (IsNumberAtHand work.job.outputs) is at)))
        (files_apart (Table n) (Manifest d.manifest) numbered a.consistent.manifest.numbered (λ e. cc))

    older_same : (n : ℕ) → IsNumbered n → get facts.files (name_of (OldTable n)) ≡ get old.facts.files (name_of (OldTable n))
    older_same n numbered =
        other_file (name_of (OldTable n)) (λ number at. files_apart (OldTable n) (Table number) numbered (at_hand number at) (λ e. cc))
        (files_apart (OldTable n) (Manifest d.manifest) numbered a.consistent.manifest.numbered (λ e. cc))

    -- a file with none of these names, and what of it is synced
    pub leaves_file : (file : FileName) → IsFileName file → ((number : ℕ) → IsNumberAtHand work.job.outputs number → file ≢ Table number) → name_of file ≢ string_bytes db.directory.manifest.name → LeavesFile old.facts facts (name_of file)
    leaves_file file is apart other =
        let named : (number : ℕ) → IsNumberAtHand work.job.outputs number → name_of file ≢ name_of (Table number) = λ number at. files_apart file (Table number) is (at_hand number at) (apart number at) in
        (touches.others f (name_of file) named other, touches.synced f (name_of file) named other)

    -- none of the tables that it writes is read
    abbrev pub Written : List ℕ → Type 0
    Written = IsTableName (IsNumberAtHand work.job.outputs)

    pub spares_written : SparesRead Written old.facts.files db.directory db.tables
    spares_written =
        spares_tables Written old.facts.files db.log db.directory db.tables serving.synced.names (λ file is none one. files_apart file (Table one.0) is (at_hand one.0 one.1) (no_table file one.0 none) one.2)
        (λ p there known. (
          λ one.
              files_apart (Table p.table.number) (Table one.0) known.0 (at_hand one.0 one.1)
              (λ e.
              version_unowned work.job.outputs order serving.ideal d serving.contents db.tables p.table.number a.consistent a.in_tables serving.tables.version c.running.unused (p, there, refl)
              (inl (subst (IsNumberAtHand work.job.outputs) (one_number e) one.1))) one.2,
          λ one. files_apart (OldTable p.table.number) (Table one.0) known.0 (at_hand one.0 one.1) (λ e. cc) one.2,
        ))

    -- the tables that the version had
    old_synced : (p : PlacedTable) → Contains db.tables p → IsTableKept old.facts p.table.number → IsTableKept facts p.table.number
    old_synced p there kept_whole =
        let known = serving.synced.names.placed p there in
        let unowned_here = version_unowned work.job.outputs order serving.ideal d serving.contents db.tables p.table.number a.consistent a.in_tables serving.tables.version c.running.unused (p, there, refl) in
        let manifest = serving.synced.names.manifest in
        table_still old.facts facts p.table.number
        (leaves_file (Table p.table.number) known.0 (λ number at e. unowned_here (inl (subst (IsNumberAtHand work.job.outputs) (one_number e) at)))
        (λ e. files_apart (Table p.table.number) (Manifest db.directory.manifest.number) known.0 manifest.0 (λ same. cc) (e ∙ manifest.1)))
        (leaves_file (OldTable p.table.number) known.0 (λ number at e. cc)
        (λ e. files_apart (OldTable p.table.number) (Manifest db.directory.manifest.number) known.0 manifest.0 (λ same. cc) (e ∙ manifest.1))) kept_whole

    -- and all else, by what became of the MANIFEST
    beside_synced : (IsKept old.facts (string_bytes db.directory.manifest.name) → IsKept facts (string_bytes db.directory.manifest.name)) → (file : FileName) → IsFileName file → table_number file ≡ None → IsKept old.facts (name_of file) → IsKept facts (name_of file)
    beside_synced manifest file is none kept_whole = elim (same_or_other (name_of file) (string_bytes db.directory.manifest.name)) [
      | inl it ↦ subst (IsKept facts) (sym it) (manifest (subst (IsKept old.facts) it kept_whole))
      | inr other ↦ kept_still old.facts facts (name_of file) (leaves_file file is (λ number at. no_table file number none) other) kept_whole
    ]

    -- the logs are as they were
    logs_left : (n : ℕ) → InLogs d.logs n → LeavesFile old.facts facts (name_of (Log n))
    logs_left n i =
        let numbered = (log_there serving.ideal d.logs n a.consistent.logs i).0 in
        let manifest = serving.synced.names.manifest in
        leaves_file (Log n) numbered (λ number at e. cc) (λ e. files_apart (Log n) (Manifest db.directory.manifest.number) numbered manifest.0 (λ same. cc) (e ∙ manifest.1))

    recent_left : AreRecent facts db.directory.manifest.number serving.contents (entries_of serving.contents db) d.logs m
    recent_left = recent_same old.facts facts db.directory.manifest.number serving.contents (entries_of serving.contents db) d.logs m logs_left serving.recent

    table_same : (n : ℕ) → IsNumbered n → (IsNumberAtHand work.job.outputs n → ⊥) → table_at facts.files n ≡ table_at old.facts.files n
    table_same n numbered apart = same_table old.facts.files facts.files n (newer_same n numbered apart) (older_same n numbered)

    -- nothing is kept of the table at hand
    kept_apart : (number : ℕ) → KeepsOf old number → IsNumberAtHand work.job.outputs number → ⊥
    kept_apart number is at = c.running.may.unkept number is (inl at)

    sound_on : IsSound order.cmp new
    sound_on =
        lasts order.cmp old facts
        (λ kept_one file is there.
        let known = serving.tables.drawn kept_one.number (inl (kept_one, is, refl)) in
        let apart = kept_apart kept_one.number (inl (kept_one, is, refl)) in (
          sym (table_same kept_one.number known.0 apart) ∙ there,
          λ has. same_file old.facts.files facts.files kept_one.number kept_one.table.name (serving.tables.sound.tables kept_one is).0 (newer_same kept_one.number known.0 apart) (older_same kept_one.number known.0) ∙ has,
        ))
        (λ block file is there. let known = serving.tables.drawn block.file (inr (block, is, refl)) in sym (table_same block.file known.0 (kept_apart block.file (inr (block, is, refl)))) ∙ there) serving.tables.sound

    keeps_each : (id : ℕ) (scan : Scan K g) (walk : Walk) → kept_at db.iterators id ≡ Some scan → IsLiveWalk order.cmp m.over_limit m.damaged (whole_of old db) scan walk
        → KeepsScan order.cmp scan (whole_of old db) (record { seen = new; memory = db.memory })
    keeps_each id scan walk there is = record {
      memory = λ cursor reads within. left_kept order.cmp cursor db.memory db.memory (record { inserts = refl; last = refl; generation = refl; sealed = refl; older = λ generation. refl });
      files = λ number reads. let table = is.tables number reads in table_same number table.1 (λ at. c.unread id scan there number table.0 (inl at));
      sound = λ h. sound_on;
    }

    -- a table of the directory has a number below those that are free
    listed_numbered : (placed : PlacedTable) → Contains d.layout.tables.items placed → IsNumbered placed.table.number
    listed_numbered placed there =
        let content = content_at d.tables placed (contains_among (placed_in d.tables) placed (subst (λ (ps : List PlacedTable). Contains ps placed) (sym a.consistent.placed) there)) in
        subst (λ (p : PlacedTable). IsNumbered p.table.number) content.2 (listed_number order serving.ideal d next content.0 a.consistent serving.log.knows.free content.1).0

    -- each table of what is left is one of before, or one that the job wrote, whose file is there
    abbrev pub OwnsElse : Directory → Type 0
    OwnsElse e = (placed : PlacedTable) → Contains e.layout.tables.items placed
        → Contains d.layout.tables.items placed ⊎ (IsOwn work.job.outputs placed.table.number × ((file : List ℕ) × (get facts.files (table_name placed.table.number) ≡ Some file)))

    -- So the files come from it.
    origin_as : (e : Directory) → IsConsistent order ended_as e → OwnsElse e → ComesFrom order m.damaged facts.files ended_as
    origin_as e good owns =
        comes_on order one m.damaged old.facts.files facts.files serving.ideal ended_as d e serving.origin end_change.1 a.consistent good
        (λ placed there. elim (owns placed there) [
          | inl was ↦ (
              let numbered = listed_numbered placed was in
              let unowned_here = unowned work.job.outputs d.layout.tables.items placed.table.number c.running.unused (placed, was, refl) in
              inl (was, (newer_same placed.table.number numbered (λ at. unowned_here (inl at)), older_same placed.table.number numbered))
              )
          | inr own ↦ inr (
            own.1.0,
            own.1.1,
            also old.facts.files facts.files serving.ideal ended_as serving.origin.differs end_change.1 (table_name placed.table.number) (c.running.same placed.table.number own.0),
          )
        ])

    readable_as : (e : Directory) → IsConsistent order ended_as e → (PassesNoLimit order serving.ideal d → PassesNoLimit order ended_as e) → IsFree order ended_as next → IsReadable order ended_as ended_by
    readable_as e good passes freed = record {
      made = made_still order serving.ideal ended_as d e m a.consistent good serving.readable.made;
      numbers = (let below : next ≤ m.numbers = serving.numbers in free_more m.numbers (omega (arith, below)));
      limits = λ is x good_x past.
          let none = passes (λ old_past. serving.readable.limits is d a.consistent old_past) in
          let same = one order ended_as x e good_x good in
          none (elim past [
            | inl numbers ↦ inl (subst (λ (edits : List (List Field)). HasPastLimit (fields_of edits)) same.1 numbers)
            | inr long ↦ inr (subst (λ (tables : List TableContent). AnyHasBytes (IsLongTable order) ended_as tables) same.3 long)
          ]);
    }
      where
        free_more : (k : ℕ) → next ≤ k → IsFree order ended_as (k + 0)
        free_more k le = free_up order ended_as next (k + 0) (omega (arith, le)) freed

    module _ (has : HasInstalled order (deep_of order.cmp work) work.job.plan.output_level work.job.selection.snapshots serving.ideal ended_as c.came d c.running.inputs c.running.rest) where
      abbrev e : Directory
      e = compacted d (d.edits ++ has.edit ∷ []) has.next has.contents

      module _ (tables : List PlacedTable) (pointers : List (Option (List ℕ))) (state : DirectoryState) (in_order : AreInOrder order.cmp tables) (ends : ManifestEndsAt order ended_as d.manifest state.manifest.end (d.edits ++ has.edit ∷ []) has.next) (free : IsFree order ended_as next)
          (listed : ListsSameTables (placed_in has.contents) tables) (number : state.manifest.number ≡ db.directory.manifest.number) (name : state.manifest.name ≡ db.directory.manifest.name) (first_log : state.first_log ≡ db.directory.first_log)
          (previous_log : state.previous_log ≡ db.directory.previous_log) (next_is : state.numbers.next ≡ next) (edited : IsSynced facts (string_bytes db.directory.manifest.name))
          (put : (placed : PlacedTable) → Contains tables placed → name_of (Table placed.table.number) ≢ string_bytes db.directory.manifest.name → Contains db.tables placed ⊎ IsTableSynced facts placed.table.number)
          (owned : (placed : PlacedTable) → Contains tables placed → Contains db.tables placed ⊎ IsOwn work.job.outputs placed.table.number)
          (carries : CarriesBut old.facts facts (IsTableName (IsNumberAtHand work.job.outputs))) (synced_last : behind_sync [] facts.calls ≡ []) where
        abbrev pub installed_db : OpenDb K g
        installed_db = record db { tables = tables; compact_pointers = pointers; directory = state; job = None }

        abbrev log_installed : HasLog order ended_as has.contents installed_db
        log_installed =
            let knows = serving.log.knows in
            let logs = serving.log.logs in
            record {
              named = serving.log.named;
              directory = record {
                directory = e;
                consistent = has.consistent;
                ends = has.kept.ends db.log.number db.log.end a.ends;
                in_tables = refl;
                in_logs = a.in_logs;
                spent = a.spent ∙ sym has.used;
              };
              logs = record { sealed = logs.sealed; current = logs.current; logs = logs.logs; number = logs.number; sealed_are = logs.sealed_are; current_are = logs.current_are; front = logs.front; some = logs.some };
              knows = record {
                first_log = has.compaction.log_number ∙ knows.first_log ∙ sym first_log;
                forward = (let forward = knows.forward in omega (arith, forward, first_log));
                previous_log = has.compaction.previous_log_number ∙ knows.previous_log ∙ sym previous_log;
                number = number ∙ knows.number;
                named = ap string_bytes name ∙ knows.named;
                ends = ends;
                free = subst (λ (k : ℕ). IsFree order ended_as k) (sym next_is) free;
              };
            }

        named_now : (p : PlacedTable) → Contains tables p → IsNumbered p.table.number × (p.table.number < state.numbers.next)
        named_now p there = (let known = version_number order ended_as e next has.contents tables p.table.number has.consistent free refl listed (p, there, refl) in (known.0, (let less = known.1 in omega (arith, less, next_is))))

        put_apart : (p : PlacedTable) → Contains tables p → Contains db.tables p ⊎ IsTableSynced facts p.table.number
        put_apart p there =
            let manifest = serving.synced.names.manifest in
            put p there (λ e. files_apart (Table p.table.number) (Manifest db.directory.manifest.number) (named_now p there).0 manifest.0 (λ same. cc) (e ∙ manifest.1))

        -- a table of the version is one of the directory
        was_listed : (p : PlacedTable) → Contains db.tables p → Contains d.layout.tables.items p
        was_listed p there = subst (λ (ps : List PlacedTable). Contains ps p) (ap placed_in a.in_tables ∙ a.consistent.placed) (all_contains (Contains (placed_in serving.contents)) db.tables p serving.tables.version.only there)

        owns_else : OwnsElse e
        owns_else p there =
            let in_version = all_contains (Contains tables) (placed_in has.contents) p listed.all (subst (λ (ps : List PlacedTable). Contains ps p) (sym has.consistent.placed) there) in
            elim (owned p in_version) [
              | inl was ↦ inl (was_listed p was)
              | inr own ↦ elim (put_apart p in_version) [
                | inl was ↦ inl (was_listed p was)
                | inr whole ↦ inr (own, (whole.0, whole.1))
              ]
            ]

        placed_now : (p : PlacedTable) → Contains tables p → db.directory.manifest.number ≤ p.table.number → IsTableKept facts p.table.number
        placed_now p there from = elim (put_apart p there) [
          | inl was ↦ old_synced p was (serving.synced.synced.placed p was from)
          | inr whole ↦ table_synced facts p.table.number whole
        ]

        synced_installed : IsSyncedBut facts db.log state tables
        synced_installed =
            synced_with old.facts facts db.log db.directory state db.tables tables number name first_log previous_log (omega (arith, next_is))
            (beside_synced (λ kept_whole. kept_synced facts (string_bytes db.directory.manifest.name) edited)) serving.synced placed_now named_now
            (stayed_behind facts state tables synced_last
            (undrawn_still old.facts facts Written db.directory db.tables state.numbers.next carries (λ n num one. files_apart (Log n) (Table one.0) num (at_hand one.0 one.1) (λ e. cc) one.2) (omega (arith, next_is)) serving.synced.stayed))

        recent_now : AreRecent facts state.manifest.number has.contents (entries_of has.contents installed_db) d.logs m
        recent_now = subst (λ (n : ℕ). AreRecent facts n has.contents (tabled has.contents ++ logged_in db.memory) d.logs m) (sym number)
            (recent_installed facts db.directory.manifest.number serving.contents has.contents (entries_of serving.contents db) (tabled has.contents ++ logged_in db.memory) d.logs m (fewer_tabled ended_as has)
            (λ p contents bounded view. subst (λ (es : List Entry). IsView es p contents) (sym (logged_now ended_as has))
            (seen_above_tables ended_as has p contents (subst (λ (cs : List TableContent). AllUpTo p (tabled cs)) a.in_tables bounded) (subst (λ (es : List Entry). IsView es p contents) entries_are view))) recent_left)

        pub serving_installed : IsServing order new installed_db ended_by
        serving_installed = record {
          whole = serving.whole;
          certain = serving.certain;
          ideal = ended_as;
          origin = origin_as e has.consistent owns_else;
          contents = has.contents;
          log = log_installed;
          tables = record { version = listed; in_order = in_order; sound = sound_on; drawn = λ n is. let known = serving.tables.drawn n is in (known.0, (let less = known.1 in omega (arith, less, next_is))) };
          entries = record {
            used = serving.entries.used;
            fits = serving.entries.fits;
            view = subst (λ (es : List Entry). IsView es db.memory.last (machine.current m)) (sym (logged_now ended_as has)) (current_view ended_as has);
            bounded = λ entry i. serving.entries.bounded entry (fewer_held ended_as has entry (subst (λ (es : List Entry). Among es entry) (logged_now ended_as has) i));
          };
          snapshots = subst (λ (es : List Entry). AreSnapshots es db.memory.last m db.snapshots) (sym (logged_now ended_as has)) (snapshots_on ended_as has);
          iterators = walks_each order kept (whole_of old db) (whole_of new installed_db) db.iterators m keeps_each (omega arith) serving.iterators;
          accounted = subst (λ (es : List Entry). AreAccounted es (entry_count m) (weight m)) (sym (logged_now ended_as has)) (accounted_on ended_as has);
          readable = readable_as e has.consistent has.limits free;
          numbers = (let below : next ≤ m.numbers = serving.numbers in omega (arith, next_is, below));
          synced = synced_installed;
          recent = recent_now;
          job = tt;
        }

      -- where it is in doubt, too
      pub broken_installed : OwnsElse e → IsFree order ended_as next → IsBroken order facts.files (record ended_by { broken = true })
      broken_installed owns free =
          let readable = readable_as e has.consistent has.limits free in
          record {
            broken = refl;
            rest = record {
              ideal = ended_as;
              origin = origin_as e has.consistent owns;
              meaning = means_installed ended_as has;
              readable = record { made = readable.made; numbers = readable.numbers; limits = readable.limits };
            };
          }

    -- ---- they aren't, and nothing was lost

    passes_still : KeepsLogsAndTables serving.ideal ended_as d d → PassesNoLimit order serving.ideal d → PassesNoLimit order ended_as d
    passes_still parts none past = none (elim past [
      | inl numbers ↦ inl numbers
      | inr long ↦ inr (long_back order serving.ideal ended_as d.tables parts.beside.tables long)
    ])

    module _ (has : IsUninstalled order serving.ideal ended_as next db.directory.manifest db.tables d)
        (spares : (IsTableName (IsNumberAtHand work.job.outputs) (string_bytes db.directory.manifest.name) → ⊥) → LeavesFile old.facts facts (string_bytes db.directory.manifest.name))
        (carries : CarriesBut old.facts facts (IsTableName (IsNumberAtHand work.job.outputs))) where
      abbrev pub uninstalled_db : OpenDb K g
      uninstalled_db = record db { job = None }

      abbrev log_uninstalled : HasLog order ended_as serving.contents uninstalled_db
      log_uninstalled =
          let knows = serving.log.knows in
          let logs = serving.log.logs in
          record {
            named = serving.log.named;
            directory = record { directory = d; consistent = has.served.consistent; ends = has.kept.ends db.log.number db.log.end a.ends; in_tables = a.in_tables; in_logs = a.in_logs; spent = a.spent };
            logs = record { sealed = logs.sealed; current = logs.current; logs = logs.logs; number = logs.number; sealed_are = logs.sealed_are; current_are = logs.current_are; front = logs.front; some = logs.some };
            knows = record {
              first_log = knows.first_log;
              forward = knows.forward;
              previous_log = knows.previous_log;
              number = knows.number;
              named = knows.named;
              ends = has.served.ends;
              free = has.served.free;
            };
          }

      -- the MANIFEST is no table
      manifest_left : LeavesFile old.facts facts (string_bytes db.directory.manifest.name)
      manifest_left = (let manifest = serving.synced.names.manifest in spares (λ is.
          files_apart (Manifest db.directory.manifest.number) (Table is.0) manifest.0 (at_hand is.0 is.1) (λ same. cc) (sym manifest.1 ∙ is.2)))

      synced_uninstalled : IsSyncedBut facts db.log db.directory db.tables
      synced_uninstalled =
          synced_still old.facts facts db.log db.directory db.directory db.tables refl refl refl refl (omega arith) serving.synced
          (beside_synced (kept_still old.facts facts (string_bytes db.directory.manifest.name) manifest_left)) (λ p there known. old_synced p there)
          (stayed_on old.facts facts Written db.directory db.directory db.tables refl refl refl (omega arith) (first_least db.log db.directory db.tables serving.synced.names) carries spares_written serving.synced.stayed)

      pub serving_uninstalled : IsServing order new uninstalled_db ended_by
      serving_uninstalled = record {
        whole = serving.whole;
        certain = serving.certain;
        ideal = ended_as;
        origin = origin_as d has.served.consistent (λ placed there. inl there);
        contents = serving.contents;
        log = log_uninstalled;
        tables = record { version = serving.tables.version; in_order = serving.tables.in_order; sound = sound_on; drawn = serving.tables.drawn };
        entries = record { used = serving.entries.used; fits = serving.entries.fits; view = serving.entries.view; bounded = serving.entries.bounded };
        snapshots = serving.snapshots;
        iterators = walks_each order kept (whole_of old db) (whole_of new uninstalled_db) db.iterators m keeps_each (omega arith) serving.iterators;
        accounted = serving.accounted;
        readable = readable_as d has.served.consistent (passes_still has.kept) has.served.free;
        numbers = (let below : next ≤ m.numbers = serving.numbers in omega (arith, below));
        synced = synced_uninstalled;
        recent = recent_left;
        job = tt;
      }

    -- ---- they are or aren't

    pub broken_uninstalled : IsConsistent order ended_as d → KeepsLogsAndTables serving.ideal ended_as d d → IsFree order ended_as next → IsBroken order facts.files (record ended_by { broken = true })
    broken_uninstalled good kept_parts free =
        let readable = readable_as d good (passes_still kept_parts) free in
        record {
          broken = refl;
          rest = record {
            ideal = ended_as;
            origin = origin_as d good (λ placed there. inl there);
            meaning = means_install ended_as (record { either = inl (good, kept_parts); free = free });
            readable = record { made = readable.made; numbers = readable.numbers; limits = readable.limits };
          };
        }

    pub broken_install : MayBeInstalled order (deep_of order.cmp work) work.job.plan.output_level work.job.selection.snapshots serving.ideal ended_as next c.came d c.running.inputs c.running.rest
        → ((e : Directory) → IsConsistent order ended_as e → OwnsElse e) → IsBroken order facts.files (record ended_by { broken = true })
    broken_install may owns = elim may.either [
      | inl still ↦ broken_uninstalled still.0 still.1 may.free
      | inr done ↦ broken_installed done (owns (e done) done.consistent) may.free
    ]
