-- What merged cursors read of another source.
use Rattle.std.proofs.Common.{◌≡◌, List, sym, subst}
use Rattle.cursor.specs.declared.child.Child.{Child}
use Rattle.cursor.specs.declared.merge.Merge.{Merge}
use Rattle.cursor.specs.Merging.{KeepsAll}
use Rattle.cursor.specs.MergeLaws.{any_limited_kept, any_torn_kept}
use Rattle.cursor.specs.Places.{Cmp}
use Rattle.memtables.specs.Memories.{Memories}
use Rattle.level_cursor.specs.Rows.{rows_tables}
use Rattle.level_cursor.specs.RowLaws.{row_still}
use Rattle.db_cursor.specs.declared.source_cursor.SourceCursor.{SourceCursor}
use Rattle.db_cursor.specs.declared.source_cursor.SourceCursor.TheVariants.{Memory, Row}
use Rattle.db_cursor.specs.internal.Inputs.{MergeIsKept}
use Rattle.db_cursor.specs.Inputs.{ReadsNoMemory}
use Rattle.db_cursor.specs.Places.{KeepsSource, LimitedSource, ListsSource, OneGoesOver, TornSource}
use Rattle.db_cursor.specs.internal.SourceLaws.{source_kept, source_limits, source_torn}
use Rattle.db_cursor.specs.Whole.{Whole}
use Rattle.db_cursor.proofs.ReadTables.{source_stays}
use Rattle.db_cursor.proofs.Sights.{merged_as}
use Rattle.table_access.specs.Tables.{Seen}

-- ---- what a move leaves of what is read of the memtables

abbrev pub KeepsChildren : {K : Type 0} {g : _} {S : Type 0} → Cmp → (S → Whole) → List (Child (SourceCursor K g)) → S → S → Type 0
KeepsChildren {K} {g} cmp whole_of children s t = KeepsAll (λ (cursor : SourceCursor K g) s t. KeepsSource cmp cursor (whole_of s) (whole_of t)) children s t

module _ {K : Type 0} {g : _} {S : Type 0} (cmp : Cmp) (whole_of : S → Whole) (with : S → Memories → S) (with_is : (s : S) (w : Memories) → whole_of (with s w) ≡ record { seen = (whole_of s).seen; memory = w }) where
  -- where each source is read as before, two that differ in their memtables are
  pub memory_as : (before : S) (old new : List (Child (SourceCursor K g))) (m n : Memories) → ((s t : S) → KeepsChildren cmp whole_of old s t → KeepsChildren cmp whole_of new s t)
      → KeepsAll (KeepsSource cmp) old (record { seen = (whole_of before).seen; memory = m }) (record { seen = (whole_of before).seen; memory = n })
      → KeepsAll (KeepsSource cmp) new (record { seen = (whole_of before).seen; memory = m }) (record { seen = (whole_of before).seen; memory = n })
  memory_as before old new m n same k i child is =
      subst (λ (w : Whole). KeepsSource cmp child.cursor first w) (with_is before n)
      (subst (λ (w : Whole). KeepsSource cmp child.cursor w (whole_of (with before n))) (with_is before m) (same (with before m) (with before n) kept i child is))
    where
      first : Whole
      first = record { seen = (whole_of before).seen; memory = m }

      kept : KeepsChildren cmp whole_of old (with before m) (with before n)
      kept j other there = subst (λ (w : Whole). KeepsSource cmp other.cursor w (whole_of (with before n))) (sym (with_is before m))
          (subst (λ (w : Whole). KeepsSource cmp other.cursor first w) (sym (with_is before n)) (k j other there))

-- what is kept of tables makes no difference there
other_seen : {K : Type 0} {g : _} (cmp : Cmp) (cursor : SourceCursor K g) (here there : Seen) (m n : Memories) → KeepsSource cmp cursor (record { seen = here; memory = m }) (record { seen = here; memory = n })
    → KeepsSource cmp cursor (record { seen = there; memory = m }) (record { seen = there; memory = n })
other_seen cmp (Memory cursor) here there m n k = k
other_seen cmp (Row cursor) here there m n k = row_still cmp (rows_tables cursor) cursor.here there

pub moved_read_none : {K : Type 0} {g : _} {S : Type 0} (cmp : Cmp) (whole_of : S → Whole) (with : S → Memories → S) → ((s : S) (w : Memories) → whole_of (with s w) ≡ record { seen = (whole_of s).seen; memory = w })
    → (source : S) (old new : Merge K (SourceCursor K g)) → ((s t : S) → KeepsChildren cmp whole_of old.children.items s t → KeepsChildren cmp whole_of new.children.items s t)
    → ReadsNoMemory cmp old → ReadsNoMemory cmp new
moved_read_none cmp whole_of with with_is source old new same none seen m n i child is =
    other_seen cmp child.cursor (whole_of source).seen seen m n
    (memory_as cmp whole_of with with_is source old.children.items new.children.items m n same (none (whole_of source).seen m n) i child is)

-- ---- files that stay

pub merge_is_kept : {K : Type 0} {g : _} (cmp : Cmp) (merge : Merge K (SourceCursor K g)) → MergeIsKept cmp merge
merge_is_kept {K} {g} cmp merge old new none files = record {
  keeps = keeps;
  lists = λ at m. merged_as cmp (ListsSource cmp) (ListsSource cmp) old new merge.children.items merge.current merge.target.items at (λ i child at is. source_kept cmp child.cursor old new at (keeps i child is)) m;
  limits = λ l. any_limited_kept (KeepsSource cmp) (LimitedSource cmp) (source_limits cmp) merge.children.items old new keeps l;
  torn = λ cut l. any_torn_kept (KeepsSource cmp) (TornSource cmp) (source_torn cmp) merge.children.items old new cut keeps l;
}
  where
    keeps : KeepsAll (KeepsSource cmp) merge.children.items old new
    keeps i child is = source_stays cmp (OneGoesOver merge.children.items) child.cursor old.seen old new (λ number over. (i, child, is, over)) files (none old.seen old.memory new.memory i child is)
