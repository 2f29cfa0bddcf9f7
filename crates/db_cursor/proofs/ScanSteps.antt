-- What a move of a scan says.
use Rattle.std.proofs.Common.{◌≡◌, ℕ, true, IsTrue, Option, List, Result, Ok, Err, inl, inr, IfErr, OnOk, OnErr, refl, sym, ap, ◌∙◌, subst, arith}
use Rattle.cache.specs.Tables.{table_at}
use Rattle.coding.specs.declared.error.DbError.{DbError}
use Rattle.coding.specs.declared.error.DbError.TheVariants.{OutOfMemory, Io, Corrupt, Unsupported}
use Rattle.cursor.specs.declared.merge.Merge.{Merge}
use Rattle.cursor.specs.Merging.{AnyLimited, AnyTorn, IsMerge, KeepsAll}
use Rattle.cursor.specs.Cuts.{Cut}
use Rattle.cursor.specs.MergeLaws.{any_torn_kept}
use Rattle.cursor.specs.Moves.{Refuses, Stays}
use Rattle.cursor.specs.Places.{Cmp, Listed}
use Rattle.cursor.specs.Views.{Walked}
use Rattle.cursor.specs.Walks.{IsWalk, key_before, walk_after}
use Rattle.edits.specs.declared.field.PlacedTable.{PlacedTable}
use Rattle.ikey.specs.declared.key_order.KeyOrder.{Ghosts}
use Rattle.memtables.specs.Memories.{Memories}
use Rattle.memtables.specs.PlaceLaws.{left_kept}
use Rattle.memtables.specs.Places.{MemoriesPlace, KeepsMemories, LeavesMemories}
use Rattle.db_cursor.specs.declared.scan.Scan.{Scan}
use Rattle.db_cursor.specs.declared.source_cursor.SourceCursor.{SourceCursor}
use Rattle.db_cursor.specs.Places.{KeepsSource, LeavesSource, LimitedSource, ListsSource, OneGoesOver, TornSource}
use Rattle.db_cursor.specs.internal.Scanning.{IsScanned, MayBeIsKept, ReadsAs, ScanIsKept, ScanPastLimit, has_pair}
use Rattle.db_cursor.specs.Scans.{IsOnePastLimit, IsOneTornFile, IsScanTorn, KeepsScan, ListsMerged, reads_memory, reads_table, tables_of}
use Rattle.db_cursor.specs.internal.SourceLaws.{source_kept, source_limits, source_torn}
use Rattle.db_cursor.specs.Whole.{Whole}
use Rattle.store.specs.Files.{Facts}
use Rattle.db_cursor.proofs.Untorn.{intact_scan, may_of}
use Rattle.db_cursor.proofs.KeptMerges.{memory_as}
use Rattle.db_cursor.proofs.ReadTables.{files_kept, read_after, read_before, source_stays, table_before, tables_as, there_kept, there_left}
use Rattle.db_cursor.proofs.Sights.{merged_as, placed_as}
use Rattle.table_access.specs.TableLaws.{carries_more}
use Rattle.table.specs.Reading.{IsStill}

-- ---- a source that is kept

limit_kept : {K : Type 0} {g : Ghosts K} (cmp : Cmp) (scan : Scan K g) (old new : Whole) → KeepsScan cmp scan old new → IsOnePastLimit cmp (tables_of scan) old → IsOnePastLimit cmp (tables_of scan) new
limit_kept cmp scan old new k l = (l.0, l.1, l.2, k.files l.0.table.number (inl (l.0, l.1, refl)) ∙ l.3, l.4)

torn_kept : {K : Type 0} {g : Ghosts K} (cmp : Cmp) (scan : Scan K g) (old new : Whole) (cut : Cut) → KeepsScan cmp scan old new → IsOneTornFile cmp (tables_of scan) old cut → IsOneTornFile cmp (tables_of scan) new cut
torn_kept cmp scan old new cut k t = (t.0, t.1, t.2, k.files t.0.table.number (inl (t.0, t.1, refl)) ∙ t.3, t.4)

-- it comes to no further torn block
torn_before : {K : Type 0} {g : Ghosts K} (cmp : Cmp) (scan : Scan K g) (old new : Whole) (cut : Cut) → KeepsAll (KeepsSource cmp) scan.walk.cursor.children.items old new → IsScanTorn cmp scan new cut → IsScanTorn cmp scan old cut
torn_before cmp scan old new cut k t = any_torn_kept (KeepsSource cmp) (TornSource cmp) (source_torn cmp) scan.walk.cursor.children.items old new cut k t

pub may_kept : {K : Type 0} {g : Ghosts K} (cmp : Cmp) (scan : Scan K g) → MayBeIsKept cmp scan
may_kept cmp scan old new at k h = record {
  there = there_kept cmp (reads_memory scan) (reads_table scan) scan.walk.sequence old new k h.there;
  bound = h.bound;
  limits = λ l. limit_kept cmp scan old new k (h.limits (l.0, l.1, l.2, source_limits cmp l.1.cursor old new (h.bound old new k l.0 l.1 l.2) l.3));
  torn = λ cut t. torn_kept cmp scan old new cut k (h.torn cut (torn_before cmp scan old new cut (h.bound old new k) t));
  walk = (
    h.walk.0,
    h.walk.1,
    placed_as cmp (ListsMerged cmp) (ListsMerged cmp) scan.walk.cursor old new
        (λ at m. merged_as cmp (ListsSource cmp) (ListsSource cmp) old new scan.walk.cursor.children.items scan.walk.cursor.current scan.walk.cursor.target.items at
        (λ i child at is. source_kept cmp child.cursor old new at (h.bound old new k i child is)) m)
        scan.walk.sequence scan.walk.stands scan.walk.position scan.walk.here.key.items scan.walk.here.value.items h.walk.0 at h.walk.2,
  );
}

pub scan_kept : {K : Type 0} {g : Ghosts K} (cmp : Cmp) (scan : Scan K g) → ScanIsKept cmp scan
scan_kept cmp scan old new at k h = intact_scan cmp scan new at (may_kept cmp scan old new at k (may_of cmp scan old at h)) (λ cut t. h.intact cut (torn_before cmp scan old new cut (h.bound old new k) t))

pub past_limit : {K : Type 0} {g : Ghosts K} (cmp : Cmp) (scan : Scan K g) → ScanPastLimit cmp scan
past_limit cmp scan whole at h l = h.limits l

-- ---- refusals

pub refuses_more : (e : DbError) (old new : Facts) (damaged other limited : Type 0) → (damaged → other) → Refuses e old new damaged limited → Refuses e old new other limited
refuses_more OutOfMemory old new damaged other limited f h = h
refuses_more Io old new damaged other limited f h = h
refuses_more (Corrupt file what) old new damaged other limited f h = λ t. f (h t)
refuses_more (Unsupported what) old new damaged other limited f h = λ t. elim (h t) [ inl d ↦ inl (f d) | inr l ↦ inr l ]
refuses_more e old new damaged other limited f h = absurd h

pub if_refuses : (result : Result (Unit {0}) DbError) (old new : Facts) (damaged other limited : Type 0) → (damaged → other) → IfErr result (λ e. Refuses e old new damaged limited) → IfErr result (λ e. Refuses e old new other limited)
if_refuses (Ok done) old new damaged other limited f h = h
if_refuses (Err e) old new damaged other limited f h = refuses_more e old new damaged other limited f h

-- ---- a scan over what the code reads, and over what contracts see of it

module _ {K : Type 0} {g : Ghosts K} {S : Type 0} (cmp : Cmp) (whole_of : S → Whole) where
  abbrev pub ListsOver : Merge K (SourceCursor K g) → S → Listed → Type 0
  ListsOver merge source at = IsMerge cmp (λ cursor s at. ListsSource cmp cursor (whole_of s) at) merge.children.items merge.current merge.target.items source at

  pub seen_whole : (scan : Scan K g) (source : S) (at : Walked) → IsWalk cmp ListsOver scan.walk source at → IsWalk cmp (ListsMerged cmp) scan.walk (whole_of source) at
  seen_whole scan source at h = (
    h.0,
    h.1,
    placed_as cmp ListsOver (ListsMerged cmp) scan.walk.cursor source (whole_of source)
        (λ at m. merged_as cmp (λ cursor s at. ListsSource cmp cursor (whole_of s) at) (ListsSource cmp) source (whole_of source) scan.walk.cursor.children.items scan.walk.cursor.current scan.walk.cursor.target.items at (λ i child at is l. l) m)
        scan.walk.sequence scan.walk.stands scan.walk.position scan.walk.here.key.items scan.walk.here.value.items h.0 at h.2,
  )

  pub read_whole : (scan : Scan K g) (source : S) (at : Walked) → IsWalk cmp (ListsMerged cmp) scan.walk (whole_of source) at → IsWalk cmp ListsOver scan.walk source at
  read_whole scan source at h = (
    h.0,
    h.1,
    placed_as cmp (ListsMerged cmp) ListsOver scan.walk.cursor (whole_of source) source
        (λ at m. merged_as cmp (ListsSource cmp) (λ cursor s at. ListsSource cmp cursor (whole_of s) at) (whole_of source) source scan.walk.cursor.children.items scan.walk.cursor.current scan.walk.cursor.target.items at (λ i child at is l. l) m)
        scan.walk.sequence scan.walk.stands scan.walk.position scan.walk.here.key.items scan.walk.here.value.items h.0 at h.2,
  )

  abbrev Keeps : Merge K (SourceCursor K g) → S → S → Type 0
  Keeps merge s t = KeepsAll (λ cursor s t. KeepsSource cmp cursor (whole_of s) (whole_of t)) merge.children.items s t

  abbrev Limited : Merge K (SourceCursor K g) → S → Type 0
  Limited merge s = AnyLimited (λ cursor s. LimitedSource cmp cursor (whole_of s)) merge.children.items s

  abbrev Torn : Merge K (SourceCursor K g) → S → Cut → Type 0
  Torn merge s cut = AnyTorn (λ cursor s cut. TornSource cmp cursor (whole_of s) cut) merge.children.items s cut

  abbrev Over : Merge K (SourceCursor K g) → ℕ → Type 0
  Over merge number = OneGoesOver merge.children.items number

  module _ (with : S → Memories → S) (with_is : (s : S) (w : Memories) → whole_of (with s w) ≡ record { seen = (whole_of s).seen; memory = w })
      (to : Walked → Option ℕ) (before after : S) (old new : Scan K g) (result : Result (Unit {0}) DbError)
      (moves : IsTrue (whole_of after).seen.facts.faithful → (at : Walked) → IsWalk cmp ListsOver old.walk before at → IsWalk cmp ListsOver new.walk after (walk_after result (to at) at))
      (sequence : new.walk.sequence ≡ old.walk.sequence) (reads : ReadsAs old new)
      (stays : Stays (λ s. (whole_of s).seen.facts) Keeps Limited Torn (λ numbers s t. LeavesSource cmp numbers (whole_of s) (whole_of t)) Over old.walk.cursor new.walk.cursor before after) where
    bound_new : ((s t : Whole) → KeepsScan cmp old s t → KeepsAll (KeepsSource cmp) old.walk.cursor.children.items s t) → (s t : Whole) → KeepsScan cmp new s t → KeepsAll (KeepsSource cmp) new.walk.cursor.children.items s t
    bound_new bound s t k i child is =
        source_stays cmp (reads_table new) child.cursor (whole_of before).seen s t (λ number over. inr (i, child, is, over)) (files_kept cmp (reads_memory new) (reads_table new) new.walk.sequence s t k)
        (memory_as cmp whole_of with with_is before old.walk.cursor.children.items new.walk.cursor.children.items s.memory t.memory stays.same (bound first second both) i child is)
      where
        first : Whole
        first = record { seen = (whole_of before).seen; memory = s.memory }

        second : Whole
        second = record { seen = (whole_of before).seen; memory = t.memory }

        both : KeepsScan cmp old first second
        both = record { memory = λ place named le. k.memory place (read_after old new reads place.generation named) (let same = sequence in omega (arith, le, same)); files = λ number named. refl; sound = λ h. h }

    pub scanned : IsStill (whole_of before).seen.facts (whole_of after).seen.facts result → OnOk result (new.walk.stands ≡ true → has_pair new ≡ true) → OnErr result ((new.walk.stands ≡ old.walk.stands) × (new.walk.here.key.items ≡ old.walk.here.key.items)) → OnOk result (key_before new.walk ≡ old.walk.here.key.items)
        → IfErr result (λ e. Refuses e (whole_of before).seen.facts (whole_of after).seen.facts ((at : Walked) → IsWalk cmp ListsOver old.walk before at → (cut : Cut) × Torn old.walk.cursor before cut) (Limited old.walk.cursor before))
        → IsScanned cmp to (whole_of before) (whole_of after) old new result
    scanned still at_hand stayed left refused = record {
      moves = λ t at h. record {
        there = λ generation named. there_left (whole_of before).memory (whole_of after).memory stays.left.memory generation (h.there generation (read_before old new reads generation named));
        bound = bound_new h.bound;
        limits = λ l.
            let past = h.limits (stays.limit t l) in
            subst (λ (tables : List PlacedTable). IsOnePastLimit cmp tables (whole_of after)) (sym (tables_as old new reads))
            (past.0, past.1, past.2, ap (λ files. table_at files past.0.table.number) (stays.reads.files t) ∙ past.3, past.4);
        torn = λ cut l.
            let torn = h.torn cut (stays.tear t cut l) in
            subst (λ (tables : List PlacedTable). IsOneTornFile cmp tables (whole_of after) cut) (sym (tables_as old new reads))
            (torn.0, torn.1, torn.2, ap (λ files. table_at files torn.0.table.number) (stays.reads.files t) ∙ torn.3, torn.4);
        walk = seen_whole new after _ (moves t at (read_whole old before at h.walk));
      };
      tear = λ t cut l. stays.tear t cut l;
      at_hand = at_hand;
      sequence = sequence;
      reads_as = reads;
      tables = table_before old new reads stays.within;
      keeps = λ t n. record {
        memory = λ place le. stays_left place stays.left.memory;
        files = λ number. ap (λ files. table_at files number) (stays.reads.files t);
        sound = stays.left.carries.sound t;
      };
      memory = stays.left.memory;
      reads = stays.reads;
      carries = carries_more cmp (whole_of before).seen (whole_of after).seen (λ number over. inr over) stays.left.carries;
      still = still;
      stayed = stayed;
      left = left;
      refused = if_refuses result (whole_of before).seen.facts (whole_of after).seen.facts _ _ _ (λ damaged at h. damaged at (read_whole old before at h.walk)) refused;
    }
      where
        stays_left : (place : MemoriesPlace) → LeavesMemories (whole_of before).memory (whole_of after).memory → KeepsMemories cmp place (whole_of before).memory (whole_of after).memory
        stays_left place left = left_kept cmp place (whole_of before).memory (whole_of after).memory left
