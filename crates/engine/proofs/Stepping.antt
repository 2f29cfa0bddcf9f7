-- What a step of a compaction leaves of an open database.
use Rattle.std.proofs.Common.{◌≡◌, ◌≢◌, ◌⊎◌, ◌<◌, ◌≤◌, ◌+◌, ◌++◌, ℕ, true, false, List, [], map, Contains, Option, Some, IsTrue, MatchOption, inl, inr, refl, sym, ap, subst, ◌∙◌, arith}
use Rattle.std.proofs.lemmas.List.{append_assoc}
use Rattle.compact.specs.Laws.{SeesAsOne}
use Rattle.compact.specs.Merging.{IsStepOf}
use Rattle.compact.specs.Outputs.{IsMineUpTo, IsOwn, IsTableName}
use Rattle.compact.specs.declared.job.Progress.{Progress}
use Rattle.edits.specs.declared.numbers.FileNumbers.{FileNumbers}
use Rattle.edits.specs.Names.{IsFileName, IsNumbered, name_of}
use Rattle.edits.specs.declared.field.PlacedTable.{PlacedTable}
use Rattle.edits.specs.declared.names.FileName.{FileName}
use Rattle.edits.specs.declared.names.FileName.TheVariants.{Log, OldTable, Table}
use Rattle.directory_writes.specs.internal.Calls.{LeavesFile}
use Rattle.ikey.specs.Entries.{InternalEntry, entry_of}
use Rattle.ikey.specs.Orders.{Order}
use Rattle.ikey.specs.declared.entry.Entry.{Entry}
use Rattle.ikey.specs.Views.{AllUpTo}
use Rattle.running_job.specs.Running.{CanStep, MayRun}
use Rattle.running_job.proofs.Stepped.{planned_as}
use Rattle.running_job.specs.internal.Stepping.{GoesOn, KeepsSound, MayGoOn, StepTouches}
use Rattle.running_job.specs.declared.open_job.OpenJob.{OpenJob}
use Rattle.memtables.specs.Memories.{Memories, logged_in}
use Rattle.memtables.specs.PlaceLaws.{left_kept, left_logged, left_sealed}
use Rattle.recover.specs.Directory.{Directory, IsConsistent}
use Rattle.recover.specs.Logs.{InLogs}
use Rattle.recover.specs.Numbers.{IsFree}
use Rattle.recover.specs.internal.Laws.{OneDirectoryLaw}
use Rattle.recover.specs.Tables.{InTables, TableContent, tabled}
use Rattle.recover.proofs.Adding.{table_of}
use Rattle.recover.proofs.NewLogs.{log_there}
use Rattle.level_cursor.specs.InRows.{ListsNumber}
use Rattle.db_cursor.specs.internal.Scanning.{ScanIsKept}
use Rattle.db_cursor.specs.Scans.{KeepsScan, reads_table, tables_of}
use Rattle.db_cursor.specs.Whole.{Whole}
use Rattle.db_cursor.specs.declared.scan.Scan.{Scan}
use Rattle.table_access.specs.Tables.{IsSound, KeepsOf, Seen}
use Rattle.table_access.proofs.Sounding.{same_table}
use Rattle.cache.specs.Tables.{table_at}
use Rattle.store.proofs.Carrying.{carries_writes}
use Rattle.store.specs.Files.{Files}
use Rattle.directory_writes.specs.Differing.{DiffersInTables, IsSameChange}
use Rattle.directory_writes.specs.Replacing.{placed_in}
use Rattle.directory_writes.specs.internal.JobWrites.{KeepsOtherTables}
use Rattle.directory_writes.proofs.JobsEach.{job_writes_each, same_outputs}
use Rattle.directory_writes.proofs.JobTables.{contains_among, content_at}
use Rattle.directory_writes.proofs.JobWritten.{free_number}
use Rattle.directory_writes.proofs.SameChanges.{same_change}
use Rattle.engine.specs.internal.Compacting.{IsCompacting, IsRunningOver}
use Rattle.engine.specs.internal.Live.{IsLiveWalk}
use Rattle.engine.specs.Origins.{ComesFrom}
use Rattle.engine.proofs.Origins.{StaysUnder, comes_on}
use Rattle.opening.specs.internal.Directories.{CanAppend}
use Rattle.engine.specs.OpenDb.{OpenDb, whole_of}
use Rattle.engine.specs.Reads.{kept_at}
use Rattle.machine.specs.Machine.{Machine, Walk}
use Rattle.engine.specs.internal.Recent.{AreRecent}
use Rattle.engine.specs.internal.Standing.{HasLog, IsServing, entries_of}
use Rattle.engine.specs.internal.Synced.{IsSyncedBut}
use Rattle.opening.proofs.Reopening.{files_apart}
use Rattle.engine.proofs.Compacting.{input_number, listed_number, manifest_below, own_number, running_whole, unowned, version_unowned}
use Rattle.engine.proofs.RecentWrites.{recent_same}
use Rattle.engine.proofs.StayedNames.{SparesRead, first_least, spares_tables, stayed_on}
use Rattle.engine.proofs.Synced.{kept_still, no_table, one_number, synced_still, table_still}
use Rattle.engine.proofs.Pieces.{free_up, limits_stay, made_still, walks_each}
use Rattle.engine.proofs.Reading.{below_next, has_placed, live_of}
use Rattle.engine.proofs.WorkSteps.{drawing}

-- what is so where there is one
pub the_one : {X : Type 0} (P : X → Type 0) (o : Option X) (x : X) → o ≡ Some x → MatchOption o (Unit {0}) P → P x
the_one P o x is h = subst (λ (p : Option _). MatchOption p (Unit {0}) P) is h

module _ {K : Type 0} {g : _} (order : Order) (kept : (scan : Scan K g) → ScanIsKept order.cmp scan) (one : OneDirectoryLaw)
    (old new : Seen) (db : OpenDb K g) (memory : Memories) (numbers : FileNumbers) (most : ℕ) (before after : OpenJob K g) (is : db.job ≡ Some before)
    (le : db.directory.numbers.next ≤ numbers.next) (upto : numbers.next ≤ db.directory.numbers.next + most)
    (touches : StepTouches (whole_of old db) (record { seen = new; memory = memory }) db.directory.numbers.next numbers.next before after)
    (keeps : KeepsSound order (whole_of old db) (record { seen = new; memory = memory }) db.directory.numbers.next before) where
  abbrev pub next : ℕ
  next = db.directory.numbers.next

  abbrev pub stepped_whole : Whole
  stepped_whole = record { seen = new; memory = memory }

  abbrev pub stepped_db : Option (OpenJob K g) → OpenDb K g
  stepped_db job = record db { memory = memory; directory = record db.directory { numbers = numbers }; job = job }

  module _ (m : Machine) (serving : IsServing order old db m) where
    abbrev pub a : CanAppend order serving.ideal db.log.number db.log.end serving.contents (logged_in db.memory) db.memory.last
    a = serving.log.directory

    abbrev pub d : Directory
    d = a.directory

    pub the_job : IsCompacting order m.damaged (whole_of old db) serving.ideal next db.snapshots db.iterators d before
    the_job = the_one (IsCompacting order m.damaged (whole_of old db) serving.ideal next db.snapshots db.iterators d) db.job before is serving.job

    -- without damage the job goes over what the files have
    pub can_step : m.damaged ≡ false → CanStep order (whole_of old db) next d before the_job.came the_job.left
    can_step undamaged =
        let same = serving.origin.undamaged undamaged in
        record {
          consistent = subst (λ (fs : Files). IsConsistent order fs d) same a.consistent;
          sound = serving.tables.sound;
          free = subst (λ (fs : Files). IsFree order fs next) same serving.log.knows.free;
          running = running_whole order m.damaged (whole_of old db) serving.ideal next d before the_job.came the_job.left undamaged the_job.running;
        }

    -- the same change to the directory
    pub change : (after : Files) × IsSameChange old.facts.files new.facts.files serving.ideal after × DiffersInTables new.facts.files after
    change = same_change old.facts.files new.facts.files serving.ideal serving.origin.differs

    abbrev pub after_ideal : Files
    after_ideal = change.0

    -- a table that isn't the job's has a number below those that are drawn
    pub not_mine : (number : ℕ) → number < next → (IsOwn before.job.outputs number → ⊥) → IsMineUpTo before.job.outputs next numbers.next number → ⊥
    not_mine number below other (inl at) = other (inl at)
    not_mine number below other (inr drawn) = absurd (omega (arith, drawn.0, below))

    pub listed_apart : (content : TableContent) → InTables d.tables content → IsMineUpTo before.job.outputs next numbers.next content.placed.table.number → ⊥
    listed_apart content i =
        not_mine content.placed.table.number (listed_number order serving.ideal d next content a.consistent serving.log.knows.free i).1
        (λ own. unowned before.job.outputs d.layout.tables.items content.placed.table.number the_job.running.unused
        (content.placed, subst (λ ps. Contains ps content.placed) a.consistent.placed (has_placed d.tables content i), refl) own)

    placed_apart : (placed : PlacedTable) → Contains d.layout.tables.items placed → IsNumbered placed.table.number × (IsMineUpTo before.job.outputs next numbers.next placed.table.number → ⊥)
    placed_apart placed there =
        let content = content_at d.tables placed (contains_among (placed_in d.tables) placed (subst (λ (ps : List PlacedTable). Contains ps placed) (sym a.consistent.placed) there)) in
        subst (λ (p : PlacedTable). IsNumbered p.table.number × (IsMineUpTo before.job.outputs next numbers.next p.table.number → ⊥)) content.2
        ((listed_number order serving.ideal d next content.0 a.consistent serving.log.knows.free content.1).0, listed_apart content.0 content.1)

    module _ (f : IsTrue new.facts.faithful) where
      pub others : KeepsOtherTables order serving.ideal after_ideal (IsMineUpTo before.job.outputs next numbers.next) numbers.next d
      others =
          job_writes_each order old.facts new.facts before.job.outputs next numbers.next d f touches.writes le numbers.in_range.1 the_job.running.may.numbered the_job.running.unused
          serving.ideal after_ideal serving.origin.differs change.1 a.consistent serving.log.knows.free

      pub sound_stepped : IsSound order.cmp new
      sound_stepped = keeps f the_job.running.inputs the_job.came the_job.left the_job.running.may serving.tables.sound

      pub inserts : logged_in memory ≡ logged_in db.memory
      inserts = left_logged db.memory memory touches.memory

      pub last : memory.last ≡ db.memory.last
      last = touches.memory.last

      abbrev pub log_stepped : (job : Option (OpenJob K g)) → HasLog order after_ideal serving.contents (stepped_db job)
      log_stepped job =
          let knows = serving.log.knows in
          let logs = serving.log.logs in
          record {
            named = serving.log.named;
            directory = record {
              directory = d;
              consistent = others.consistent;
              ends = others.log db.log.number db.log.end a.ends;
              in_tables = a.in_tables;
              in_logs = inserts ∙ a.in_logs;
              spent = last ∙ a.spent;
            };
            logs = record {
              sealed = logs.sealed;
              current = logs.current;
              logs = logs.logs;
              number = logs.number;
              sealed_are = left_sealed db.memory memory touches.memory ∙ logs.sealed_are;
              current_are = touches.memory.inserts ∙ logs.current_are;
              front = λ none. logs.front (sym touches.memory.sealed ∙ none);
              some = λ none. touches.memory.sealed ∙ logs.some (sym (left_sealed db.memory memory touches.memory) ∙ none);
            };
            knows = record {
              first_log = knows.first_log;
              forward = knows.forward;
              previous_log = knows.previous_log;
              number = knows.number;
              named = knows.named;
              ends = others.manifest db.directory.manifest.end d.edits d.layout knows.ends;
              free = others.free;
            };
          }

      -- what it keeps anew is of its inputs
      pub drawn_stepped : (number : ℕ) → KeepsOf new number → IsNumbered number × (number < numbers.next)
      drawn_stepped number is_kept = elim (touches.gathered number is_kept) [
        | inl was ↦ (let known = serving.tables.drawn number was in (known.0, (let less = known.1 in omega (arith, less, le))))
        | inr over ↦ (
            let running = the_job.running in
            let known = input_number order serving.ideal d next before.job.plan.inputs.items running.inputs running.rest a.consistent serving.log.knows.free running.planned.parted running.planned.planned number (running.may.over number over) in
            (known.0, (let less = known.1 in omega (arith, less, le)))
            )
      ]

      pub read_number : (id : ℕ) (scan : Scan K g) → kept_at db.iterators id ≡ Some scan → (number : ℕ) → reads_table scan number → ListsNumber (tables_of scan) number × IsNumbered number × (number < next)
      read_number id scan there number reads =
          let walk = live_of (IsLiveWalk order.cmp m.over_limit m.damaged (whole_of old db)) db.iterators m.iterators id scan there serving.iterators in
          let table = walk.1.tables number reads in
          (table.0, table.1, below_next order old.facts.files serving.ideal next number serving.origin.differs serving.log.knows.free table.1 table.2)

      -- it writes tables of its own numbers alone
      pub mine_numbered : (number : ℕ) → IsMineUpTo before.job.outputs next numbers.next number → IsNumbered number
      mine_numbered number (inl at) = (let known = own_number before.job.outputs next number the_job.running.may.numbered (inl at) in let fits = db.directory.numbers.in_range.1 in (known.0, (let less = known.1 in omega (arith, less, fits))))
      mine_numbered number (inr drawn) =
          let some = serving.log.knows.free.some in
          let fits = numbers.in_range.1 in
          let least = drawn.0 in
          let most = drawn.1 in
          (omega (arith, some, least), omega (arith, most, fits))

      beside_mine : (file : FileName) → IsFileName file → ((number : ℕ) → IsMineUpTo before.job.outputs next numbers.next number → file ≢ Table number) → LeavesFile old.facts new.facts (name_of file)
      beside_mine file is apart =
          let other : (number : ℕ) → IsMineUpTo before.job.outputs next numbers.next number → name_of file ≢ name_of (Table number) = λ number mine. files_apart file (Table number) is (mine_numbered number mine) (apart number mine) in
          (touches.writes.others f (name_of file) other, touches.writes.synced f (name_of file) other)

      -- the files of a table that isn't the job's stay
      stays_under : (number : ℕ) → IsNumbered number → (IsMineUpTo before.job.outputs next numbers.next number → ⊥) → StaysUnder old.facts.files new.facts.files number
      stays_under number numbered apart = (
        (beside_mine (Table number) numbered (λ k mine e. apart (subst (IsMineUpTo before.job.outputs next numbers.next) (one_number e) mine))).0,
        (beside_mine (OldTable number) numbered (λ k mine e. cc)).0,
      )

      pub table_same : (number : ℕ) → IsNumbered number → (IsMineUpTo before.job.outputs next numbers.next number → ⊥) → table_at new.facts.files number ≡ table_at old.facts.files number
      table_same number numbered apart = let both = stays_under number numbered apart in same_table old.facts.files new.facts.files number both.0 both.1

      pub keeps_each : (id : ℕ) (scan : Scan K g) (walk : Walk) → kept_at db.iterators id ≡ Some scan → IsLiveWalk order.cmp m.over_limit m.damaged (whole_of old db) scan walk → KeepsScan order.cmp scan (whole_of old db) stepped_whole
      keeps_each id scan walk there known = record {
        memory = λ cursor reads within. left_kept order.cmp cursor db.memory memory touches.memory;
        files = λ number reads.
            let table = read_number id scan there number reads in
            table_same number table.1 (not_mine number table.2 (the_job.unread id scan there number table.0));
        sound = λ h. sound_stepped;
      }

      -- the files come from what the same change makes of the directory
      pub origin_stepped : ComesFrom order m.damaged new.facts.files after_ideal
      origin_stepped =
          comes_on order one m.damaged old.facts.files new.facts.files serving.ideal after_ideal d d serving.origin change.1 a.consistent others.consistent
          (λ placed there. let apart = placed_apart placed there in inl (there, stays_under placed.table.number apart.0 apart.1))

      unowned_here : (p : PlacedTable) → Contains db.tables p → IsOwn before.job.outputs p.table.number → ⊥
      unowned_here p there = version_unowned before.job.outputs order serving.ideal d serving.contents db.tables p.table.number a.consistent a.in_tables serving.tables.version the_job.running.unused (p, there, refl)

      -- none of the tables that it writes is read
      abbrev pub Written : List ℕ → Type 0
      Written = IsTableName (IsMineUpTo before.job.outputs next numbers.next)

      pub spares_written : SparesRead Written old.facts.files db.directory db.tables
      spares_written =
          spares_tables Written old.facts.files db.log db.directory db.tables serving.synced.names (λ file is none one. files_apart file (Table one.0) is (mine_numbered one.0 one.1) (no_table file one.0 none) one.2)
          (λ p there known. (
            λ one.
                files_apart (Table p.table.number) (Table one.0) known.0 (mine_numbered one.0 one.1)
                (λ e. not_mine p.table.number known.1 (unowned_here p there) (subst (IsMineUpTo before.job.outputs next numbers.next) (one_number e) one.1)) one.2,
            λ one. files_apart (OldTable p.table.number) (Table one.0) known.0 (mine_numbered one.0 one.1) (λ e. cc) one.2,
          ))

      pub synced_stepped : IsSyncedBut new.facts db.log (record db.directory { numbers = numbers }) db.tables
      synced_stepped =
          synced_still old.facts new.facts db.log db.directory (record db.directory { numbers = numbers }) db.tables refl refl refl refl le serving.synced
          (λ file is none. kept_still old.facts new.facts (name_of file) (beside_mine file is (λ number mine. no_table file number none)))
          (λ p there known. table_still old.facts new.facts p.table.number
          (beside_mine (Table p.table.number) known.0 (λ number mine e. not_mine p.table.number known.1 (unowned_here p there) (subst (IsMineUpTo before.job.outputs next numbers.next) (one_number e) mine)))
          (beside_mine (OldTable p.table.number) known.0 (λ number mine e. cc)))
          (stayed_on old.facts new.facts Written db.directory (record db.directory { numbers = numbers }) db.tables refl refl refl le (first_least db.log db.directory db.tables serving.synced.names)
          (carries_writes old.facts new.facts Written (touches.writes.calls f)) spares_written serving.synced.stayed)

      -- it writes no log
      pub logs_stepped : (n : ℕ) → InLogs d.logs n → LeavesFile old.facts new.facts (name_of (Log n))
      logs_stepped n i = (let numbered = (log_there serving.ideal d.logs n a.consistent.logs i).0 in beside_mine (Log n) numbered (λ number mine e. cc))

      -- whatever becomes of the job
      abbrev pub serving_stepped : (job : Option (OpenJob K g)) → MatchOption job (Unit {0}) (IsCompacting order m.damaged stepped_whole after_ideal numbers.next db.snapshots db.iterators d) → IsServing order new (stepped_db job) (drawing m most new.facts)
      serving_stepped job job_is = record {
        whole = serving.whole;
        certain = serving.certain;
        ideal = after_ideal;
        origin = origin_stepped;
        contents = serving.contents;
        log = log_stepped job;
        tables = record { version = serving.tables.version; in_order = serving.tables.in_order; sound = sound_stepped; drawn = drawn_stepped };
        entries = record {
          used = serving.entries.used ∙ sym last;
          fits = (let fits = serving.entries.fits in omega (arith, fits, last));
          view = rw (inserts, last) serving.entries.view;
          bounded = rw (inserts, last) serving.entries.bounded;
        };
        snapshots = rw (inserts, last) serving.snapshots;
        iterators = walks_each order kept (whole_of old db) stepped_whole db.iterators m keeps_each (omega (arith, last)) serving.iterators;
        accounted = rw (inserts) serving.accounted;
        readable = record {
          made = made_still order serving.ideal after_ideal d d m a.consistent others.consistent serving.readable.made;
          numbers = (let below : next ≤ m.numbers = serving.numbers in free_up order after_ideal numbers.next (m.numbers + most) (omega (arith, below, upto)) others.free);
          limits = λ within. limits_stay order serving.ideal after_ideal d one a.consistent others.consistent
              (λ content i. others.tables content.placed.table.number (table_of order serving.ideal d.tables content a.consistent.tables i) (listed_apart content i)) (serving.readable.limits within);
        };
        numbers = (let below : next ≤ m.numbers = serving.numbers in omega (arith, below, upto));
        synced = synced_stepped;
        recent = subst (λ (es : List Entry). AreRecent new.facts db.directory.manifest.number serving.contents (tabled serving.contents ++ es) d.logs m) (sym inserts)
            (recent_same old.facts new.facts db.directory.manifest.number serving.contents (entries_of serving.contents db) d.logs m logs_stepped serving.recent);
        job = job_is;
      }

      -- ---- the job goes on

      module _ (budget : ℕ) (progress : Progress) (goes : GoesOn order (whole_of old db) stepped_whole next numbers.next budget before after progress)
          (may : MayGoOn order (whole_of old db) stepped_whole next numbers.next budget before after progress) (plan : after.job.plan ≡ before.job.plan) (version : after.version ≡ before.version) (snapshots : after.job.selection.snapshots ≡ before.job.selection.snapshots)
          (owns : (number : ℕ) → IsOwn after.job.outputs number → IsOwn before.job.outputs number ⊎ (next ≤ number)) where
        abbrev gone : (front : List InternalEntry) × (back : List InternalEntry) × (the_job.left ≡ front ++ back) × IsStepOf budget progress front back × MayRun order stepped_whole numbers.next the_job.running.inputs after (the_job.came ++ front) back
        gone = may f the_job.running.inputs the_job.came the_job.left the_job.running.may

        -- what it compacts is the same
        pub all_same : (the_job.came ++ gone.0) ++ gone.1 ≡ the_job.came ++ the_job.left
        all_same = append_assoc the_job.came gone.0 gone.1 ∙ ap (λ (es : List InternalEntry). the_job.came ++ es) (sym gone.2)

        pub still_unread : (id : ℕ) (scan : Scan K g) → kept_at db.iterators id ≡ Some scan → (number : ℕ) → ListsNumber (tables_of scan) number → IsOwn after.job.outputs number → ⊥
        still_unread id scan there number has own = elim (owns number own) [
          | inl was ↦ the_job.unread id scan there number has was
          | inr drawn ↦ absurd (let below = (read_number id scan there number (inl has)).2 in omega (arith, drawn, below))
        ]

        -- the tables that it has written since have numbers that were free
        pub own_since : (number : ℕ) → IsOwn after.job.outputs number → IsOwn before.job.outputs number ⊎ ((next ≤ number) × IsNumbered number)
        own_since number own = elim (owns number own) [
          | inl was ↦ inl was
          | inr drawn ↦ (
              let known = own_number after.job.outputs numbers.next number gone.4.numbered own in
              let fits = numbers.in_range.1 in
              inr (drawn, (known.0, (let less = known.1 in omega (arith, less, fits))))
              )
        ]

        abbrev pub running_on : IsRunningOver order m.damaged stepped_whole after_ideal numbers.next d after (the_job.came ++ gone.0) gone.1
        running_on =
            let r = the_job.running in
            record {
              inputs = r.inputs;
              rest = r.rest;
              planned = planned_as order d r.inputs r.rest before.job.plan after.job.plan before.version.value.tables after.version.value.tables plan (ap (λ v. v.value.tables) version) r.planned;
              unused = λ number own. elim (owns number own) [
                | inl was ↦ r.unused number was
                | inr drawn ↦ free_number order serving.ideal d next number a.consistent serving.log.knows.free drawn
              ];
              may = gone.4;
              same = same_outputs order old.facts.files new.facts.files serving.ideal after_ideal before.job.outputs after.job.outputs next serving.origin.differs change.1 serving.log.knows.free r.same own_since;
              intact = λ undamaged. (goes f d the_job.came the_job.left (can_step undamaged)).4.intact;
            }

        abbrev pub gone_on : IsCompacting order m.damaged stepped_whole after_ideal numbers.next db.snapshots db.iterators d after
        gone_on =
            let c = the_job in
            record {
              came = c.came ++ gone.0;
              left = gone.1;
              running = running_on;
              reach = c.reach;
              begun = record {
                kept = subst (λ (s : List ℕ). Contains s c.reach) (sym snapshots) c.begun.kept;
                used = (let used = c.begun.used in omega (arith, used, last));
                above = subst (λ (es : List InternalEntry). AllUpTo c.reach (map entry_of es)) (sym all_same) c.begun.above;
              };
              seen = λ id sequence there. subst (λ (es : List InternalEntry). SeesAsOne (map entry_of es) after.job.selection.snapshots sequence) (sym all_same)
                  (subst (λ (s : List ℕ). SeesAsOne (map entry_of (c.came ++ c.left)) s sequence) (sym snapshots) (c.seen id sequence there));
              unread = still_unread;
              since = λ number own. elim (owns number own) [
                | inl was ↦ c.since number was
                | inr drawn ↦ (let below = manifest_below order serving.ideal d next a.consistent serving.log.knows.free in omega (arith, drawn, below))
              ];
            }

        -- where it has ended, all came
        pub all_came : progress.ended ≡ true → gone_on.left ≡ []
        all_came ended = gone.3.ended ended
