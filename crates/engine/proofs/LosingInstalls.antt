-- What a power loss leaves of an open database in the middle of the end of a compaction.
use Rattle.std.proofs.Common.{◌≡◌, ◌≢◌, ◌⊎◌, ◌<◌, ◌≤◌, ◌∷◌, ◌++◌, ℕ, List, Contains, [], Some, None, IsTrue, inl, inr, refl, sym, ap, subst, ◌∙◌, arith, string_bytes}
use Rattle.std.specs.FinMap.{get}
use Rattle.compact.specs.Outputs.{IsNumberAtHand, IsOwn, IsTableName}
use Rattle.directory_writes.proofs.JobTables.{contains_among, content_at}
use Rattle.directory_writes.specs.Replacing.{placed_in}
use Rattle.directory_writes.specs.internal.Install.{AreOutputsKept, HasInstalled, InstallTouches, MayBeInstalled, PutsOwn}
use Rattle.directory_writes.specs.internal.Putting.{WritesThenPuts}
use Rattle.edits.specs.Names.{IsFileName, IsNumbered, name_of}
use Rattle.edits.specs.declared.field.PlacedTable.{PlacedTable}
use Rattle.edits.specs.declared.names.FileName.{FileName}
use Rattle.edits.specs.declared.names.FileName.TheVariants.{Current, Lock, Log, Manifest, OldTable, Table}
use Rattle.ikey.specs.Orders.{Order}
use Rattle.ikey.specs.Views.{AllUpTo, Among, Contents, IsView}
use Rattle.ikey.specs.declared.entry.Entry.{Entry}
use Rattle.machine.specs.Machine.{Machine}
use Rattle.opening.proofs.Reopening.{files_apart}
use Rattle.opening.specs.Losses.{AreSpared, IsKept, IsReadIn, IsTableKept}
use Rattle.recover.specs.Directory.{Directory, IsConsistent, entries_in}
use Rattle.recover.specs.Logs.{IsLive, logged}
use Rattle.recover.specs.Tables.{InTables, TableContent, tabled}
use Rattle.recover.specs.internal.Changes.{compacted}
use Rattle.recover.specs.internal.Laws.{OneDirectoryLaw}
use Rattle.running_job.specs.Running.{deep_of}
use Rattle.running_job.specs.declared.open_job.OpenJob.{OpenJob}
use Rattle.db_cursor.specs.internal.Scanning.{ScanIsKept}
use Rattle.db_cursor.specs.declared.scan.Scan.{Scan}
use Rattle.store.specs.Files.{Facts, Files}
use Rattle.store.specs.Losses.{StaysNamed, StaysOrBegins}
use Rattle.store.specs.Stops.{LeavesOnly, WritesOnly}
use Rattle.table_access.specs.Tables.{Seen, SoundLasts}
use Rattle.engine.specs.Reopening.{KeepsFound}
use Rattle.engine.specs.internal.Compacting.{IsCompacting}
use Rattle.engine.proofs.Installing.{at_hand, can_end, fewer_tabled, leaves_file, seen_above_tables, spares_written}
use Rattle.engine.proofs.Losing.{listed, read_live}
use Rattle.engine.proofs.LosingCalls.{can_written, found_by, found_read, found_written, put_first, reads_logs, spared_written, stayed_written, writes_first, written_then}
use Rattle.engine.proofs.LosingFirst.{CanLose}
use Rattle.engine.proofs.Reading.{has_placed}
use Rattle.engine.proofs.RecentInstalls.{recent_installed}
use Rattle.engine.proofs.Synced.{one_number, table_synced}
use Rattle.engine.specs.Losses.{LosesFirst}
use Rattle.engine.specs.OpenDb.{OpenDb, whole_of}
use Rattle.engine.specs.internal.Recent.{AreRecent}
use Rattle.engine.specs.internal.Standing.{IsServing}
use Rattle.engine.specs.internal.Synced.{HaveStayed}

module _ {K : Type 0} {g : _} (order : Order) (kept : (scan : Scan K g) → ScanIsKept order.cmp scan) (one : OneDirectoryLaw) (lasts : SoundLasts)
    (old : Seen) (facts : Facts) (db : OpenDb K g) (m : Machine) (serving : IsServing order old db m) (work : OpenJob K g)
    (c : IsCompacting order m.damaged (whole_of old db) serving.ideal db.directory.numbers.next db.snapshots db.iterators serving.log.directory.directory work) (ended : c.left ≡ []) where
  abbrev pub d : Directory
  d = serving.log.directory.directory

  abbrev pub Written : List ℕ → Type 0
  Written = IsTableName (IsNumberAtHand work.job.outputs)

  abbrev pub Installs : Files → Type 0
  Installs files = HasInstalled order (deep_of order.cmp work) work.job.plan.output_level work.job.selection.snapshots serving.ideal files c.came d c.running.inputs c.running.rest

  -- what a process crash may leave
  abbrev pub MayLeave : Files → Type 0
  MayLeave files =
      MayBeInstalled order (deep_of order.cmp work) work.job.plan.output_level work.job.selection.snapshots serving.ideal files db.directory.numbers.next c.came d c.running.inputs c.running.rest × PutsOwn order work.job.outputs files d

  -- ---- a directory with the outputs instead of the inputs

  module _ (mid : Facts) (can : CanLose order mid db d m) (stayed : HaveStayed mid db.directory db.tables) (same : serving.ideal ≡ old.facts.files) (outputs : AreOutputsKept order.cmp work.job old.facts db.directory.numbers.next mid) where
    whole : (number : ℕ) → IsOwn work.job.outputs number → (file : List ℕ) × (get mid.files (name_of (Table number)) ≡ Some file) × (mid.synced (name_of (Table number)) ≡ Some file)
    whole number own = (outputs (deep_of order.cmp work) c.came (can_end order kept one lasts old facts db m serving work c ended).merged.merging number own).0

    stays : (number : ℕ) → IsOwn work.job.outputs number → StaysNamed mid (name_of (Table number))
    stays number own = (outputs (deep_of order.cmp work) c.came (can_end order kept one lasts old facts db m serving work c ended).merged.merging number own).1

    -- each of its tables is one of before, or one that the job wrote
    abbrev pub OldOrOwn : (files : Files) → Installs files → Type 0
    OldOrOwn files has = (placed : PlacedTable) → Contains has.next.tables.items placed → Contains d.layout.tables.items placed ⊎ IsOwn work.job.outputs placed.table.number

    module _ (files : Files) (has : Installs files) (owns : OldOrOwn files has) where
      abbrev x : Directory
      x = compacted d (d.edits ++ has.edit ∷ []) has.next has.contents

      was_or_own : (content : TableContent) → InTables has.contents content → ((was : TableContent) × InTables d.tables was × (was.placed ≡ content.placed)) ⊎ IsOwn work.job.outputs content.placed.table.number
      was_or_own content among =
          let there : Contains has.next.tables.items content.placed = subst (λ (ps : List PlacedTable). Contains ps content.placed) has.consistent.placed (has_placed has.contents content among) in
          elim (owns content.placed there) [
            | inl was ↦ inl (content_at d.tables content.placed (contains_among (placed_in d.tables) content.placed (subst (λ (ps : List PlacedTable). Contains ps content.placed) (sym serving.log.directory.consistent.placed) was)))
            | inr own ↦ inr own
          ]

      tables_now : (content : TableContent) → InTables has.contents content → db.directory.manifest.number ≤ content.placed.table.number → IsTableKept mid content.placed.table.number
      tables_now content among from = elim (was_or_own content among) [
        | inl was ↦ subst (λ (p : PlacedTable). IsTableKept mid p.table.number) was.2 (can.tables was.0 was.1 (subst (λ (p : PlacedTable). db.directory.manifest.number ≤ p.table.number) (sym was.2) from))
        | inr own ↦ table_synced mid content.placed.table.number (whole content.placed.table.number own)
      ]

      fewer : (e : Entry) → Among (tabled has.contents) e → Among (tabled can.contents) e
      fewer e i = subst (λ (contents : List TableContent). Among (tabled contents) e) (serving.log.directory.in_tables ∙ sym can.listed) (fewer_tabled order kept one lasts old facts db m serving work c ended files has e i)

      alike : (p : ℕ) (contents : Contents) → AllUpTo p (tabled can.contents) → IsView can.entries p contents → IsView (entries_in x) p contents
      alike p contents bounded view =
          let are : can.entries ≡ entries_in d = can.are ∙ ap (λ (tables : List TableContent). tabled tables ++ logged d.logs) can.listed in
          seen_above_tables order kept one lasts old facts db m serving work c ended files has p contents (subst (λ (tables : List TableContent). AllUpTo p (tabled tables)) can.listed bounded)
          (subst (λ (es : List Entry). IsView es p contents) are view)

      recent_now : AreRecent mid db.directory.manifest.number has.contents (entries_in x) d.logs m
      recent_now = recent_installed mid db.directory.manifest.number can.contents has.contents can.entries (entries_in x) d.logs m fewer alike can.recent

      pub can_installed : CanLose order mid db x m
      can_installed = record {
        files = files;
        consistent = has.consistent;
        logs = can.logs;
        current = can.current;
        manifest = can.manifest;
        tables = tables_now;
        contents = has.contents;
        entries = entries_in x;
        listed = refl;
        are = refl;
        recent = recent_now;
        found = found_read mid db has.contents (entries_in x) d.logs m (reads_logs order old db m serving same) recent_now;
      }

      -- its names have stayed
      table_stays : (content : TableContent) → InTables has.contents content → StaysNamed mid (name_of (Table content.placed.table.number)) × (get mid.files (name_of (Table content.placed.table.number)) ≡ None → StaysNamed mid (name_of (OldTable content.placed.table.number)))
      table_stays content among = elim (was_or_own content among) [
        | inl was ↦ stayed.placed content.placed (subst (λ (p : PlacedTable). Contains db.tables p) was.2 (listed order old db m serving was.0 was.1))
        | inr own ↦ (
          stays content.placed.table.number own,
          λ none. let there = whole content.placed.table.number own in absurd (let bad : None ≡ Some there.0 = sym none ∙ there.1 in cc),
        )
      ]

      live_before : (n : ℕ) → IsLive x.layout n → IsLive d.layout n
      live_before n (inl least) = inl (subst (λ (k : ℕ). k ≤ n) has.compaction.log_number least)
      live_before n (inr is) = inr (is.0 ∙ has.compaction.previous_log_number, is.1)

      stays_read : (q : List ℕ) → IsReadIn mid.files x q → StaysNamed mid q
      stays_read q (inl is) = subst (StaysNamed mid) (sym is) stayed.current
      stays_read q (inr (inl is)) = subst (StaysNamed mid) (sym is) (subst (λ (n : ℕ). StaysNamed mid (name_of (Manifest n))) serving.log.knows.number stayed.manifest)
      stays_read q (inr (inr (content, among, inl is))) = subst (StaysNamed mid) (sym is) (table_stays content among).0
      stays_read q (inr (inr (content, among, inr older))) = subst (StaysNamed mid) (sym older.0) ((table_stays content among).1 older.1)

      pub spared_installed : AreSpared mid x
      spared_installed = record {
        reads = stays_read;
        logs = λ q log. subst (StaysOrBegins mid) (sym log.3) (stayed.logs log.0 log.1 (read_live order old db m serving log.0 (live_before log.0 log.2)));
      }

    -- the same directory, or such a one
    abbrev pub IsInstalledOr : Directory → Type 0
    IsInstalledOr x = (x ≡ d) ⊎ ((files : Files) × (has : Installs files) × OldOrOwn files has × (x ≡ compacted d (d.edits ++ has.edit ∷ []) has.next has.contents))

    pub one_installed : (files : Files) → MayLeave files → (x : Directory) × IsInstalledOr x × IsConsistent order files x
    one_installed files may = elim may.0.either [
      | inl still ↦ (d, inl refl, still.0)
      | inr done ↦
          let x = compacted d (d.edits ++ done.edit ∷ []) done.next done.contents in
          (x, inr (files, done, (λ placed there. elim (may.1 x done.consistent placed there) [ inl was ↦ inl was | inr own ↦ inr own.0 ]), refl), done.consistent)
    ]

    pub named_installed : (name : List ℕ) → name ≡ name_of (Manifest d.manifest) → (x : Directory) → IsInstalledOr x → name ≡ name_of (Manifest x.manifest)
    named_installed name named x (inl is) = named ∙ ap (λ (y : Directory). name_of (Manifest y.manifest)) (sym is)
    named_installed name named x (inr (files, has, owns, is)) = named ∙ ap (λ (y : Directory). name_of (Manifest y.manifest)) (sym is)

    pub can_either : (x : Directory) → IsInstalledOr x → CanLose order mid db x m
    can_either x (inl is) = subst (λ (y : Directory). CanLose order mid db y m) (sym is) can
    can_either x (inr (files, has, owns, is)) = subst (λ (y : Directory). CanLose order mid db y m) (sym is) (can_installed files has owns)

    pub spared_either : AreSpared mid d → (x : Directory) → IsInstalledOr x → AreSpared mid x
    spared_either spared x (inl is) = subst (λ (y : Directory). AreSpared mid y) (sym is) spared
    spared_either spared x (inr (files, has, owns, is)) = subst (λ (y : Directory). AreSpared mid y) (sym is) (spared_installed files has owns)

  -- ---- the end

  module _ (f : IsTrue facts.faithful) (touches : InstallTouches old.facts facts work.job.outputs (string_bytes db.directory.manifest.name)) where
    numbered : (number : ℕ) → IsNumberAtHand work.job.outputs number → IsNumbered number
    numbered = at_hand order kept one lasts old facts db m serving work c ended f touches

    beside : (file : FileName) → IsFileName file → ((number : ℕ) → IsNumberAtHand work.job.outputs number → file ≡ Table number → ⊥) → Written (name_of file) → ⊥
    beside file is_file apart mine = files_apart file (Table mine.0) is_file (numbered mine.0 mine.1) (apart mine.0 mine.1) mine.2

    -- it wasn't there before the open
    since : (n number : ℕ) → n < db.directory.manifest.number → IsNumberAtHand work.job.outputs number → Table n ≡ Table number → ⊥
    since n number below at e = (let same : number ≡ n = one_number e in let least = c.since number (inl at) in let number_is = serving.log.knows.number in omega (arith, same, least, below, number_is))

    found_mid : (mid : Facts) → WritesOnly old.facts mid Written → KeepsFound old.facts mid db
    found_mid mid writes =
        found_written old.facts mid db Written writes (beside Current tt (λ number at e. cc)) (beside Lock tt (λ number at e. cc))
        (λ n num below. (
          beside (Table n) num (λ number at. since n number below at),
          beside (OldTable n) num (λ number at e. cc),
          beside (Log n) num (λ number at e. cc),
        ))

    -- the files that were there before the open are as they were
    pub install_found : KeepsFound old.facts facts db
    install_found =
        let manifest = serving.synced.names.manifest in
        let other : (file : FileName) → IsFileName file → file ≢ Manifest db.directory.manifest.number → name_of file ≢ string_bytes db.directory.manifest.name =
        λ file is apart e. files_apart file (Manifest db.directory.manifest.number) is manifest.0 apart (e ∙ manifest.1) in
        let left = leaves_file order kept one lasts old facts db m serving work c ended f touches in
        found_by old.facts facts db (left Current tt (λ number at e. cc) (other Current tt (λ e. cc))).0 (left Lock tt (λ number at e. cc) (other Lock tt (λ e. cc))).0
        (λ n num below. (
          left (Table n) num (λ number at. since n number below at) (other (Table n) num (λ e. cc)),
          left (OldTable n) num (λ number at e. cc) (other (OldTable n) num (λ e. cc)),
          left (Log n) num (λ number at e. cc) (other (Log n) num (λ e. cc)),
        ))

    pub install_first : serving.ideal ≡ old.facts.files → WritesThenPuts old.facts facts Written (string_bytes db.directory.manifest.name) (AreOutputsKept order.cmp work.job old.facts db.directory.numbers.next)
        → LeavesOnly old.facts facts MayLeave → LosesFirst order old.facts facts db m
    install_first same w stops =
        let spares = spares_written order kept one lasts old facts db m serving work c ended f touches in
        let mid = w.mid in
        let can = can_written order old db m serving same mid Written w.writes spares in
        let stayed = stayed_written order old db m serving same mid Written w.writes spares in
        let spared = spared_written order old db m serving same mid Written w.writes spares in
        let named = serving.log.knows.named in
        written_then order old.facts facts db m Written (string_bytes db.directory.manifest.name) (AreOutputsKept order.cmp work.job old.facts db.directory.numbers.next) w
        (writes_first order old db m serving same mid Written w.writes spares) (found_mid mid w.writes)
        (λ edit. put_first order old.facts mid facts w.writes.leaves.more db db.tables m (string_bytes db.directory.manifest.name) edit.bytes MayLeave (IsInstalledOr mid can stayed same edit.kept) w.writes.leaves.calls edit.puts stops
        (one_installed mid can stayed same edit.kept) (named_installed mid can stayed same edit.kept (string_bytes db.directory.manifest.name) named)
        (subst (IsKept mid) (sym named) can.manifest) (spared_either mid can stayed same edit.kept spared) (can_either mid can stayed same edit.kept) stayed)
