-- What a power loss leaves of an open database while calls write files that it doesn't read, and
-- while an edit is put after its MANIFEST.
use Rattle.std.proofs.Common.{◌≡◌, ◌<◌, ◌++◌, ℕ, List, None, inl, inr, refl, sym, ap, subst, ◌∙◌, arith}
use Rattle.std.proofs.lemmas.List.{append_cancel_left}
use Rattle.std.specs.FinMap.{get}
use Rattle.edits.specs.Names.{name_of, IsNumbered}
use Rattle.edits.specs.declared.names.FileName.TheVariants.{Current, Log, Manifest, OldTable, Table}
use Rattle.edits.specs.declared.field.PlacedTable.{PlacedTable}
use Rattle.ikey.specs.Orders.{Order}
use Rattle.ikey.specs.declared.entry.Entry.{Entry}
use Rattle.machine.specs.Machine.{Machine}
use Rattle.directory_writes.specs.internal.Putting.{PutsEdit, WritesThenPuts}
use Rattle.opening.proofs.Cutting.{cut_directory}
use Rattle.opening.proofs.LosingEdits.{loses_put}
use Rattle.opening.proofs.LosingWrites.{loses_writing, numbered_in, spared_at}
use Rattle.opening.proofs.Spared.{left_by_loss}
use Rattle.opening.specs.Losses.{AreSpared, IsKept, IsLogRead, IsReadIn, IsTableKept}
use Rattle.opening.specs.internal.Cuts.{ReadsNone}
use Rattle.recover.proofs.Keeping.{free_change, keep_logs, live_of}
use Rattle.recover.specs.Directory.{Directory, IsConsistent}
use Rattle.recover.specs.Logs.{HasLogs, InLogs, LogContent}
use Rattle.recover.specs.Tables.{InTables, TableContent, tabled}
use Rattle.store.proofs.Carrying.{carries_writes}
use Rattle.store.proofs.LosingOn.{KeepsAt, keeps_now, loses_read, puts_calls}
use Rattle.store.specs.Files.{Call, Disk, Facts, Files, lock_name}
use Rattle.store.specs.Losses.{PutsSynced}
use Rattle.store.specs.Stops.{LeavesOnly, LeftDuring, WritesOnly}
use Rattle.table_access.specs.Tables.{Seen}
use Rattle.directory_writes.specs.internal.Calls.{LeavesFile}
use Rattle.engine.proofs.Losing.{listed, read_live, spared}
use Rattle.engine.proofs.LosingFirst.{CanLose, first_cut, first_one, first_then, found_on, found_put}
use Rattle.engine.proofs.RecentLosses.{in_first}
use Rattle.engine.proofs.RecentWrites.{recent_same}
use Rattle.engine.proofs.StayedNames.{SparesRead, first_least, stayed_on}
use Rattle.engine.proofs.Synced.{kept_still}
use Rattle.engine.specs.Losses.{HoldsFirst, LosesFirst, SparesFound}
use Rattle.engine.specs.OpenDb.{OpenDb}
use Rattle.engine.specs.Reopening.{KeepsFound}
use Rattle.engine.specs.internal.Recent.{AreRecent}
use Rattle.engine.specs.internal.Standing.{IsServing, entries_of}
use Rattle.engine.specs.internal.Synced.{HaveStayed}

-- what is so of all that a process crash leaves, and what else is
pub leaves_two : (old new : Facts) (P Q : Files → Type 0) → LeavesOnly old new P → LeavesOnly old new Q → LeavesOnly old new (λ files. P files × Q files)
leaves_two old new P Q h k = record {
  more = h.more;
  calls = h.calls;
  during = λ files left. (h.during files left, k.during files (subst (λ (calls : List Call). LeftDuring calls files) (append_cancel_left old.calls h.more k.more (sym h.calls ∙ k.calls)) left));
  now = (h.now, k.now);
}

-- a log that was found is one of all
pub found_read : {K : Type 0} {g : _} (facts : Facts) (db : OpenDb K g) (tables : List TableContent) (entries : List Entry) (logs : List LogContent) (m : Machine) → ((n : ℕ) → IsNumbered n → InLogs logs n → IsLogRead db.directory n)
    → (recent : AreRecent facts db.directory.manifest.number tables entries logs m) → (n : ℕ) → IsNumbered n → InLogs recent.parts.found n → IsLogRead db.directory n
found_read facts db tables entries logs m reads recent n numbered i =
    let p = recent.parts in
    reads n numbered (subst (λ (ls : List LogContent). InLogs ls n) (sym p.all) (in_first n (p.found ++ p.kept) p.doubted (in_first n p.found p.kept i)))

-- ---- while files are written that it doesn't read

-- what of them is synced is the same, and so are their names
module _ {K : Type 0} {g : _} (order : Order) (old then : Facts) (db : OpenDb K g) (d : Directory) (m : Machine) (mine : List ℕ → Type 0) (c : CanLose order old db d m)
    (reads : (n : ℕ) → IsNumbered n → InLogs d.logs n → IsLogRead db.directory n) (keeps : KeepsAt old then mine) (apart : ReadsNone old.files d mine) where
  kept_read : (q : List ℕ) → IsReadIn old.files d q → IsKept old q → IsKept then q
  kept_read q read kept bytes there = keeps.synced q (apart q (inl read)) ∙ kept bytes (sym (keeps.files q (apart q (inl read))) ∙ there)

  log_apart : (n : ℕ) → IsNumbered n → InLogs d.logs n → mine (name_of (Log n)) → ⊥
  log_apart n numbered i = apart (name_of (Log n)) (inr (n, numbered, live_of d.layout d.logs n c.consistent.live i, refl))

  numbered_log : (n : ℕ) → InLogs d.logs n → IsNumbered n
  numbered_log n i = numbered_in old.files d.logs n c.logs i

  recent_then : AreRecent then db.directory.manifest.number c.contents c.entries d.logs m
  recent_then = recent_same old then db.directory.manifest.number c.contents c.entries d.logs m
      (λ n i. let other = log_apart n (numbered_log n i) i in (keeps.files (name_of (Log n)) other, keeps.synced (name_of (Log n)) other)) c.recent

  table_then : (content : TableContent) → InTables d.tables content → IsTableKept old content.placed.table.number → IsTableKept then content.placed.table.number
  table_then content among kept =
      let n = content.placed.table.number in
      let newer : IsReadIn old.files d (name_of (Table n)) = inr (inr (content, among, inl refl)) in (
        kept_read (name_of (Table n)) newer kept.0,
        λ none.
            let was : get old.files (name_of (Table n)) ≡ None = sym (keeps.files (name_of (Table n)) (apart (name_of (Table n)) (inl newer))) ∙ none in
            kept_read (name_of (OldTable n)) (inr (inr (content, among, inr (refl, was)))) (kept.1 was),
      )

  pub can_then : CanLose order then db d m
  can_then = record {
    files = c.files;
    consistent = c.consistent;
    logs = keep_logs old.files then.files d.logs (λ n numbered i. keeps.files (name_of (Log n)) (log_apart n numbered i)) c.logs;
    current = kept_read (name_of Current) (inl refl) c.current;
    manifest = kept_read (name_of (Manifest d.manifest)) (inr (inl refl)) c.manifest;
    tables = λ content among from. table_then content among (c.tables content among from);
    contents = c.contents;
    entries = c.entries;
    listed = c.listed;
    are = c.are;
    recent = recent_then;
    found = found_read then db c.contents c.entries d.logs m reads recent_then;
  }

module _ {K : Type 0} {g : _} (order : Order) (source : Seen) (db : OpenDb K g) (m : Machine) (serving : IsServing order source db m) (same : serving.ideal ≡ source.facts.files) where
  abbrev d : Directory
  d = serving.log.directory.directory

  pub reads_logs : (n : ℕ) → IsNumbered n → InLogs d.logs n → IsLogRead db.directory n
  reads_logs n numbered i = read_live order source db m serving n (live_of d.layout d.logs n serving.log.directory.consistent.live i)

  -- so it stands at the begin of a call
  pub can_serving : CanLose order source.facts db d m
  can_serving = record {
    files = serving.ideal;
    consistent = serving.log.directory.consistent;
    logs = subst (λ (fs : Files). HasLogs fs d.logs) same serving.log.directory.consistent.logs;
    current = serving.synced.synced.current;
    manifest = subst (λ (n : ℕ). IsKept source.facts (name_of (Manifest n))) serving.log.knows.number serving.synced.synced.manifest;
    tables = λ content among from. serving.synced.synced.placed content.placed (listed order source db m serving content among) from;
    contents = serving.contents;
    entries = entries_of serving.contents db;
    listed = serving.log.directory.in_tables;
    are = ap (λ (es : List Entry). tabled serving.contents ++ es) serving.log.directory.in_logs;
    recent = serving.recent;
    found = found_read source.facts db serving.contents (entries_of serving.contents db) d.logs m reads_logs serving.recent;
  }

  module _ (new : Facts) (mine : List ℕ → Type 0) (writes : WritesOnly source.facts new mine) (spares : SparesRead mine source.facts.files db.directory db.tables) where
    pub reads_none : ReadsNone source.facts.files d mine
    reads_none q (inl (inl is)) of_mine = spares.current (subst mine is of_mine)
    reads_none q (inl (inr (inl is))) of_mine = spares.manifest (subst mine (is ∙ ap (λ (n : ℕ). name_of (Manifest n)) (sym serving.log.knows.number)) of_mine)
    reads_none q (inl (inr (inr (content, among, inl is)))) of_mine = (spares.placed content.placed (listed order source db m serving content among)).0 (subst mine is of_mine)
    reads_none q (inl (inr (inr (content, among, inr older)))) of_mine = (spares.placed content.placed (listed order source db m serving content among)).1 older.1 (subst mine older.0 of_mine)
    reads_none q (inr log) of_mine = spares.logs log.0 log.1 (read_live order source db m serving log.0 log.2) (subst mine log.3 of_mine)

    -- so it stands after such calls
    pub can_written : CanLose order new db d m
    can_written = can_then order source.facts new db d m mine can_serving reads_logs (keeps_now source.facts new mine writes) reads_none

    pub spared_written : AreSpared new d
    spared_written = spared_at source.facts new d mine (keeps_now source.facts new mine writes) reads_none (spared order source db m serving)

    pub stayed_written : HaveStayed new db.directory db.tables
    stayed_written =
        stayed_on source.facts new mine db.directory db.directory db.tables refl refl refl (omega arith) (first_least db.log db.directory db.tables serving.synced.names) (carries_writes source.facts new mine writes) spares serving.synced.stayed

    -- and at each moment of them the first batches are left
    pub writes_first : LosesFirst order source.facts new db m
    writes_first =
        first_cut order source.facts new db d m can_serving (found_on source.facts db db.tables serving.synced.stayed new mine writes (λ n numbered read. spares.logs n numbered read))
        (loses_writing free_change left_by_loss cut_directory order source.facts new d mine writes reads_none (subst (λ (fs : Files). IsConsistent order fs d) same serving.log.directory.consistent) (spared order source db m serving))

-- ---- the files that were there before the open

-- they are as they were
pub found_by : {K : Type 0} {g : _} (old new : Facts) (db : OpenDb K g) → get new.files (name_of Current) ≡ get old.files (name_of Current) → get new.files lock_name ≡ get old.files lock_name
    → ((n : ℕ) → IsNumbered n → n < db.directory.manifest.number → LeavesFile old new (name_of (Table n)) × LeavesFile old new (name_of (OldTable n)) × LeavesFile old new (name_of (Log n))) → KeepsFound old new db
found_by old new db current lock each = record {
  current = current;
  lock = lock;
  each = λ n numbered below.
      let left = each n numbered below in (
        inr (left.0.0, kept_still old new (name_of (Table n)) left.0),
        inr (left.1.0, kept_still old new (name_of (OldTable n)) left.1),
        inr (left.2.0, kept_still old new (name_of (Log n)) left.2),
      );
}

-- none of the names that are written is one of theirs
pub found_written : {K : Type 0} {g : _} (old new : Facts) (db : OpenDb K g) (mine : List ℕ → Type 0) → WritesOnly old new mine → (mine (name_of Current) → ⊥) → (mine lock_name → ⊥)
    → ((n : ℕ) → IsNumbered n → n < db.directory.manifest.number → (mine (name_of (Table n)) → ⊥) × (mine (name_of (OldTable n)) → ⊥) × (mine (name_of (Log n)) → ⊥)) → KeepsFound old new db
found_written old new db mine writes current lock each =
    let leaves : (q : List ℕ) → (mine q → ⊥) → LeavesFile old new q = λ q apart. (writes.leaves.now q apart, writes.synced q apart) in
    found_by old new db (leaves (name_of Current) current).0 (leaves lock_name lock).0
    (λ n numbered below. let apart = each n numbered below in (leaves (name_of (Table n)) apart.0, leaves (name_of (OldTable n)) apart.1, leaves (name_of (Log n)) apart.2))

-- ---- an edit

-- one of these directories stands for the first batches, whatever of the edit is after the MANIFEST
pub put_first : {K : Type 0} {g : _} (order : Order) (old mid new : Facts) (more : List Call) (db : OpenDb K g) (tables : List PlacedTable) (m : Machine) (name bytes : List ℕ) (P : Files → Type 0) (Q : Directory → Type 0)
    → mid.calls ≡ old.calls ++ more → PutsSynced mid new name bytes → LeavesOnly old new P
    → ((files : Files) → P files → (x : Directory) × Q x × IsConsistent order files x) → ((x : Directory) → Q x → name ≡ name_of (Manifest x.manifest))
    → IsKept mid name → ((x : Directory) → Q x → AreSpared mid x) → ((x : Directory) → Q x → CanLose order mid db x m) → HaveStayed mid db.directory tables → LosesFirst order mid new db m
put_first order old mid new more db tables m name bytes P Q calls puts stops one named whole spares can stayed =
    first_one order mid new db m Q can (found_put mid db tables stayed new name bytes puts) (loses_put left_by_loss cut_directory order old mid new more name bytes P Q calls puts stops one named whole spares)

-- after what was written, or not
pub written_then : {K : Type 0} {g : _} (order : Order) (old new : Facts) (db : OpenDb K g) (m : Machine) (mine : List ℕ → Type 0) (manifest : List ℕ) (is_kept : Facts → Type 0) → (w : WritesThenPuts old new mine manifest is_kept)
    → LosesFirst order old w.mid db m → KeepsFound old w.mid db → (PutsEdit old w.mid new manifest is_kept → LosesFirst order w.mid new db m) → LosesFirst order old new db m
written_then order old new db m mine manifest is_kept w first keeps next = elim w.puts [
  | inl idle ↦ loses_read old w.mid new w.writes.leaves.more (λ lost. SparesFound old db lost → HoldsFirst order lost m) w.writes.leaves.calls idle.0 (ap (λ (disk : Disk). disk.files) idle.1) (ap (λ (disk : Disk). disk.synced) idle.1) first
  | inr edit ↦ (let calls = puts_calls w.mid new manifest edit.bytes edit.puts in first_then order old w.mid new calls.0 db m calls.1 keeps first (next edit))
]
