-- What a power loss leaves of an open database in the middle of a flush.
use Rattle.std.proofs.Common.{◌≡◌, ◌≢◌, ◌⊎◌, ◌<◌, ◌≤◌, ◌^◌, ◌∷◌, ◌++◌, ℕ, List, [], Some, None, IsTrue, inl, inr, refl, sym, ap, subst, ◌∙◌, arith, string_bytes}
use Rattle.std.specs.FinMap.{get}
use Rattle.directory_writes.specs.internal.Calls.{LeavesFile}
use Rattle.directory_writes.specs.internal.Flush.{FlushTouches, HasFlushed, IsTableKeptNow, MayBeFlushed}
use Rattle.directory_writes.specs.internal.Putting.{WritesThenPuts}
use Rattle.edits.specs.Names.{name_of, IsFileName, IsNumbered}
use Rattle.edits.specs.declared.names.FileName.{FileName}
use Rattle.edits.specs.declared.names.FileName.TheVariants.{Current, Lock, Log, Manifest, OldTable, Table}
use Rattle.ikey.specs.Orders.{Order}
use Rattle.ikey.specs.Sources.{SameEntries}
use Rattle.ikey.specs.Views.{Among}
use Rattle.ikey.specs.declared.entry.Entry.{Entry}
use Rattle.machine.specs.Machine.{Machine}
use Rattle.opening.proofs.LosingEdits.{spared_behind}
use Rattle.opening.proofs.Reopening.{files_apart}
use Rattle.opening.specs.Losses.{IsKept, IsLogRead, IsTableKept}
use Rattle.recover.proofs.Adding.{logs_back}
use Rattle.recover.proofs.Memberships.{in_with}
use Rattle.recover.specs.Directory.{Directory, IsConsistent, entries_in}
use Rattle.recover.specs.Logs.{HasLogs, InLogs, LogContent, logged}
use Rattle.recover.specs.Tables.{InTables, TableContent, tabled}
use Rattle.recover.specs.internal.Changes.{flushed}
use Rattle.store.specs.Files.{Facts, Files}
use Rattle.store.specs.Stops.{LeavesOnly, WritesOnly}
use Rattle.table_access.specs.Tables.{Seen}
use Rattle.engine.proofs.Compacting.{manifest_below}
use Rattle.engine.proofs.LosingCalls.{can_written, found_by, found_read, found_written, put_first, reads_logs, stayed_written, writes_first, written_then}
use Rattle.engine.proofs.LosingFirst.{CanLose}
use Rattle.engine.proofs.RecentFlushes.{recent_flushed, with_logged}
use Rattle.engine.proofs.RecentLosses.{in_second}
use Rattle.engine.proofs.StayedNames.{SparesRead, spares_tables}
use Rattle.engine.proofs.Synced.{no_old_table, no_table, one_number}
use Rattle.engine.specs.Losses.{LosesFirst}
use Rattle.engine.specs.OpenDb.{OpenDb}
use Rattle.engine.specs.Reopening.{KeepsFound}
use Rattle.engine.specs.internal.Recent.{AreRecent}
use Rattle.engine.specs.internal.Standing.{IsServing}

-- ---- a directory with the table that was flushed

module _ {K : Type 0} {g : _} (order : Order) (old : Files) (mid : Facts) (db : OpenDb K g) (d : Directory) (m : Machine) (next after : ℕ) (entries : List Entry) (sealed : List LogContent) (current : LogContent)
    (c : CanLose order mid db d m) (parts : d.logs ≡ sealed ++ current ∷ []) (reads : (n : ℕ) → IsNumbered n → InLogs d.logs n → IsLogRead db.directory n) (whole : IsTableKept mid next) where
  module _ (files : Files) (f : HasFlushed order old files next after entries d sealed current) where
    abbrev x : Directory
    x = flushed d (d.edits ++ f.edit ∷ []) f.next f.content current

    same : SameEntries c.entries (entries_in x)
    same =
        let are : entries_in d ≡ c.entries = ap (λ (contents : List TableContent). tabled contents ++ logged d.logs) (sym c.listed) ∙ sym c.are in
        subst (λ (es : List Entry). SameEntries es (entries_in x)) are (λ e. let one = f.same e in (one.1, one.0))

    moved : (e : Entry) → Among (tabled x.tables) e → Among (tabled c.contents ++ logged sealed) e
    moved = subst (λ (contents : List TableContent). (e : Entry) → Among (tabled x.tables) e → Among (tabled contents ++ logged sealed) e) (sym c.listed) (with_logged d.tables f.content sealed f.flush.entries)

    recent_now : AreRecent mid db.directory.manifest.number x.tables (entries_in x) (current ∷ []) m
    recent_now = recent_flushed mid mid db.directory.manifest.number c.contents x.tables c.entries (entries_in x) sealed current m
        (subst (λ (ls : List LogContent). AreRecent mid db.directory.manifest.number c.contents c.entries ls m) parts c.recent) moved same refl

    reads_now : (n : ℕ) → IsNumbered n → InLogs (current ∷ []) n → IsLogRead db.directory n
    reads_now n numbered i = reads n numbered (subst (λ (ls : List LogContent). InLogs ls n) (sym parts) (in_second n sealed (current ∷ []) i))

    tables_now : (content : TableContent) → InTables x.tables content → db.directory.manifest.number ≤ content.placed.table.number → IsTableKept mid content.placed.table.number
    tables_now content among from = elim (in_with f.content d.tables content among) [
      | inl new ↦ subst (IsTableKept mid) (sym (ap (λ (t : TableContent). t.placed.table.number) new ∙ f.number_is)) whole
      | inr was ↦ c.tables content was from
    ]

    pub can_flushed : CanLose order mid db x m
    can_flushed = record {
      files = files;
      consistent = f.consistent;
      logs = logs_back mid.files sealed (current ∷ []) (subst (HasLogs mid.files) parts c.logs);
      current = c.current;
      manifest = c.manifest;
      tables = tables_now;
      contents = x.tables;
      entries = entries_in x;
      listed = refl;
      are = refl;
      recent = recent_now;
      found = found_read mid db x.tables (entries_in x) (current ∷ []) m reads_now recent_now;
    }

  -- the same directory, or it with the table
  abbrev pub IsFlushedOr : Directory → Type 0
  IsFlushedOr x = (x ≡ d) ⊎ ((files : Files) × (f : HasFlushed order old files next after entries d sealed current) × (x ≡ flushed d (d.edits ++ f.edit ∷ []) f.next f.content current))

  pub one_flushed : (files : Files) → MayBeFlushed order old files next after entries d sealed current → (x : Directory) × IsFlushedOr x × IsConsistent order files x
  one_flushed files may = elim may.either [
    | inl still ↦ (d, inl refl, still.0)
    | inr done ↦ (flushed d (d.edits ++ done.edit ∷ []) done.next done.content current, inr (files, done, refl), done.consistent)
  ]

  pub named_flushed : (name : List ℕ) → name ≡ name_of (Manifest d.manifest) → (x : Directory) → IsFlushedOr x → name ≡ name_of (Manifest x.manifest)
  named_flushed name named x (inl is) = named ∙ ap (λ (y : Directory). name_of (Manifest y.manifest)) (sym is)
  named_flushed name named x (inr (files, f, is)) = named ∙ ap (λ (y : Directory). name_of (Manifest y.manifest)) (sym is)

  pub can_either : (x : Directory) → IsFlushedOr x → CanLose order mid db x m
  can_either x (inl is) = subst (λ (y : Directory). CanLose order mid db y m) (sym is) c
  can_either x (inr (files, f, is)) = subst (λ (y : Directory). CanLose order mid db y m) (sym is) (can_flushed files f)

-- ---- the flush

module _ {K : Type 0} {g : _} (order : Order) (old : Seen) (new : Facts) (db : OpenDb K g) (m : Machine) (serving : IsServing order old db m) (same : serving.ideal ≡ old.facts.files) (next after : ℕ) (next_is : next ≡ db.directory.numbers.next) (few : next < 2 ^ 62)
    (entries : List Entry) where
  abbrev d : Directory
  d = serving.log.directory.directory

  abbrev Written : List ℕ → Type 0
  Written q = q ≡ name_of (Table next)

  numbered_next : IsNumbered next
  numbered_next = (let some = serving.log.knows.free.some in omega (arith, some, next_is), omega (arith, few))

  -- no file that it reads is the new table
  spares : SparesRead Written old.facts.files db.directory db.tables
  spares = spares_tables Written old.facts.files db.log db.directory db.tables serving.synced.names (λ file is none. files_apart file (Table next) is numbered_next (no_table file next none))
      (λ p there known. (
        files_apart (Table p.table.number) (Table next) known.0 numbered_next (λ e. (let number : next ≡ p.table.number = one_number e in let less = known.1 in omega (arith, number, less, next_is))),
        files_apart (OldTable p.table.number) (Table next) known.0 numbered_next (λ e. cc),
      ))

  -- none that was there before the open is
  found_apart : (n : ℕ) → n < db.directory.manifest.number → Table n ≡ Table next → ⊥
  found_apart n below e =
      let least = manifest_below order serving.ideal d db.directory.numbers.next serving.log.directory.consistent serving.log.knows.free in
      let number_is = serving.log.knows.number in
      let number : next ≡ n = one_number e in
      omega (arith, number, below, least, number_is, next_is)

  found_flush : (mid : Facts) → WritesOnly old.facts mid Written → KeepsFound old.facts mid db
  found_flush mid writes = found_written old.facts mid db Written writes (files_apart Current (Table next) tt numbered_next (λ e. cc)) (files_apart Lock (Table next) tt numbered_next (λ e. cc))
      (λ n numbered below. (
        files_apart (Table n) (Table next) numbered numbered_next (found_apart n below),
        files_apart (OldTable n) (Table next) numbered numbered_next (λ e. cc),
        files_apart (Log n) (Table next) numbered numbered_next (λ e. cc),
      ))

  -- nor is it the MANIFEST
  pub found_touched : IsTrue new.faithful → FlushTouches old.facts new (name_of (Table next)) (string_bytes db.directory.manifest.name) → KeepsFound old.facts new db
  found_touched f touches =
      let manifest = serving.synced.names.manifest in
      let left : (file : FileName) → IsFileName file → (file ≡ Table next → ⊥) → (file ≡ Manifest db.directory.manifest.number → ⊥) → LeavesFile old.facts new (name_of file) =
      λ file is apart other.
      let table = files_apart file (Table next) is numbered_next apart in
      let beside : name_of file ≢ string_bytes db.directory.manifest.name = λ e. files_apart file (Manifest db.directory.manifest.number) is manifest.0 other (e ∙ manifest.1) in
      (touches.others f (name_of file) table beside, touches.synced f (name_of file) table beside) in
      found_by old.facts new db (left Current tt (λ e. cc) (λ e. cc)).0 (left Lock tt (λ e. cc) (λ e. cc)).0
      (λ n numbered below. (
        left (Table n) numbered (found_apart n below) (λ e. cc),
        left (OldTable n) numbered (λ e. cc) (λ e. cc),
        left (Log n) numbered (λ e. cc) (λ e. cc),
      ))

  -- the table is there as it was synced, and none under the older name
  table_whole : (mid : Facts) → WritesOnly old.facts mid Written → mid.synced (name_of (Table next)) ≡ get mid.files (name_of (Table next)) → IsTableKept mid next
  table_whole mid writes synced =
      let older = writes.leaves.now (name_of (OldTable next)) (files_apart (OldTable next) (Table next) numbered_next numbered_next (λ e. cc)) in
      let none : get mid.files (name_of (OldTable next)) ≡ None = older ∙ ap (λ (fs : Files). get fs (name_of (OldTable next))) (sym same) ∙ lacks in
      (λ bytes there. synced ∙ there, λ gone bytes there. absurd (let bad : None ≡ Some bytes = sym none ∙ there in cc))
    where
      lacks : get serving.ideal (name_of (OldTable next)) ≡ None
      lacks = subst (λ (n : ℕ). get serving.ideal (name_of (OldTable n)) ≡ None) (sym next_is)
          (no_old_table order serving.ideal db.directory.numbers.next serving.log.knows.free (omega (arith, numbered_next.0, next_is)) (omega (arith, few, next_is)))

  pub flush_first : (manifest : List ℕ) → manifest ≡ string_bytes db.directory.manifest.name → WritesThenPuts old.facts new Written manifest (IsTableKeptNow next)
      → LeavesOnly old.facts new (λ files. MayBeFlushed order serving.ideal files next after entries d serving.log.logs.sealed serving.log.logs.current) → LosesFirst order old.facts new db m
  flush_first manifest manifest_is w stops =
      written_then order old.facts new db m Written manifest (IsTableKeptNow next) w (writes_first order old db m serving same w.mid Written w.writes spares) (found_flush w.mid w.writes)
      (λ edit.
      let mid = w.mid in
      let sealed = serving.log.logs.sealed in
      let current = serving.log.logs.current in
      let can = can_written order old db m serving same mid Written w.writes spares in
      let reads = reads_logs order old db m serving same in
      let whole = table_whole mid w.writes edit.kept.1 in
      let named : manifest ≡ name_of (Manifest d.manifest) = manifest_is ∙ serving.log.knows.named in
      put_first order old.facts mid new w.writes.leaves.more db db.tables m manifest edit.bytes (λ files. MayBeFlushed order serving.ideal files next after entries d sealed current)
      (IsFlushedOr order serving.ideal mid db d m next after entries sealed current can serving.log.logs.logs reads whole) w.writes.leaves.calls edit.puts stops
      (one_flushed order serving.ideal mid db d m next after entries sealed current can serving.log.logs.logs reads whole)
      (named_flushed order serving.ideal mid db d m next after entries sealed current can serving.log.logs.logs reads whole manifest named)
      (subst (IsKept mid) (sym named) can.manifest) (λ x is. spared_behind mid x edit.kept.0)
      (can_either order serving.ideal mid db d m next after entries sealed current can serving.log.logs.logs reads whole) (stayed_written order old db m serving same mid Written w.writes spares))
