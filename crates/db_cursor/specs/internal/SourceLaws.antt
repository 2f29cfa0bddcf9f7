-- Laws of the cursors that a scan merges.
use Rattle.std.specs.Prelude.{◌≡◌, ◌<◌, ℕ, Some, is_some, length}
use Rattle.std.proofs.Common.{refl, ◌∙◌}
use Rattle.cursor.specs.Cuts.{Cut, SameCut}
use Rattle.cursor.specs.Places.{Cmp, Listed, Rises}
use Rattle.memtables.specs.PlaceLaws.{inside_there, kept_there, left_onward, left_there, lists_rise, placed_there}
use Rattle.level_cursor.specs.RowLaws.{limits_kept, lists_kept as tables_kept, placed_in, row_onward, row_still}
use Rattle.level_cursor.specs.TornRows.{torn_kept, torn_same}
use Rattle.level_cursor.specs.Rows.{rows_tables}
use Rattle.db_cursor.specs.declared.source_cursor.SourceCursor.{SourceCursor}
use Rattle.db_cursor.specs.declared.source_cursor.SourceCursor.TheVariants.{Memory, Row}
use Rattle.db_cursor.specs.Places.{ListsSource, KeepsSource, LeavesSource, LimitedSource, TornSource, source_stands}
use Rattle.db_cursor.specs.Scans.{KeepsUpTo, KeepsWhole}
use Rattle.db_cursor.specs.Whole.{Whole}
use Rattle.table_access.specs.TableLaws.{carries_both, carries_itself, carries_more}

-- what any scan at the sequence number reads, one that reads less of it reads
pub keeps_any : (cmp : Cmp) (generations numbers : ℕ → Type 0) (sequence : ℕ) (old new : Whole) → KeepsUpTo cmp sequence old new → KeepsWhole cmp generations numbers sequence old new
keeps_any cmp generations numbers sequence old new k = record { memory = λ cursor named le. k.memory cursor le; files = λ number named. k.files number; sound = k.sound }

pub source_rises : {K : Type 0} {g : _} (cmp : Cmp) (cursor : SourceCursor K g) (whole : Whole) (at : Listed) → ListsSource cmp cursor whole at → Rises cmp at.entries
source_rises cmp (Memory cursor) whole at h = lists_rise cmp cursor whole.memory at h
source_rises cmp (Row cursor) whole at h = h.rises

pub source_placed : {K : Type 0} {g : _} (cmp : Cmp) (cursor : SourceCursor K g) (whole : Whole) (at : Listed) → ListsSource cmp cursor whole at → source_stands cursor ≡ is_some at.place
source_placed cmp (Memory cursor) whole at h = placed_there cmp cursor whole.memory at h
source_placed cmp (Row cursor) whole at h = placed_in cmp whole.seen h.lists cursor.here at.place h.place

pub source_inside : {K : Type 0} {g : _} (cmp : Cmp) (cursor : SourceCursor K g) (whole : Whole) (at : Listed) (index : ℕ) → ListsSource cmp cursor whole at → at.place ≡ Some index → index < length at.entries
source_inside cmp (Memory cursor) whole at index h e = inside_there cmp cursor whole.memory at index h e
source_inside cmp (Row cursor) whole at index h e = h.inside index e

pub source_kept : {K : Type 0} {g : _} (cmp : Cmp) (cursor : SourceCursor K g) (old new : Whole) (at : Listed) → KeepsSource cmp cursor old new → ListsSource cmp cursor old at → ListsSource cmp cursor new at
source_kept cmp (Memory cursor) old new at k h = kept_there cmp cursor old.memory new.memory at k h
source_kept cmp (Row cursor) old new at k h = tables_kept cmp (rows_tables cursor) cursor.here old.seen new.seen at k h

pub source_still : {K : Type 0} {g : _} (cmp : Cmp) (cursor : SourceCursor K g) (whole : Whole) → KeepsSource cmp cursor whole whole
source_still cmp (Memory cursor) whole = refl
source_still cmp (Row cursor) whole = row_still cmp (rows_tables cursor) cursor.here whole.seen

pub source_onward : {K : Type 0} {g : _} (cmp : Cmp) (cursor : SourceCursor K g) (first second third : Whole) → KeepsSource cmp cursor first second → KeepsSource cmp cursor second third → KeepsSource cmp cursor first third
source_onward cmp (Memory cursor) first second third k l = k ∙ l
source_onward cmp (Row cursor) first second third k l = row_onward cmp (rows_tables cursor) cursor.here first.seen second.seen third.seen k l

pub source_limits : {K : Type 0} {g : _} (cmp : Cmp) (cursor : SourceCursor K g) (old new : Whole) → KeepsSource cmp cursor old new → LimitedSource cmp cursor new → LimitedSource cmp cursor old
source_limits cmp (Memory cursor) old new k l = l
source_limits cmp (Row cursor) old new k l = limits_kept cmp (rows_tables cursor) cursor.here old.seen new.seen k l

pub source_torn : {K : Type 0} {g : _} (cmp : Cmp) (cursor : SourceCursor K g) (old new : Whole) (cut : Cut) → KeepsSource cmp cursor old new → TornSource cmp cursor new cut → TornSource cmp cursor old cut
source_torn cmp (Memory cursor) old new cut k t = t
source_torn cmp (Row cursor) old new cut k t = torn_kept cmp (rows_tables cursor) cursor.here old.seen new.seen cut k t

pub source_same : {K : Type 0} {g : _} (cmp : Cmp) (cursor : SourceCursor K g) (whole : Whole) (at : Listed) (a b : Cut) → ListsSource cmp cursor whole at → SameCut cmp at.entries a b → TornSource cmp cursor whole a
    → TornSource cmp cursor whole b
source_same cmp (Memory cursor) whole at a b h same t = t
source_same cmp (Row cursor) whole at a b h same t = torn_same cmp whole.seen (rows_tables cursor) cursor.here at a b h same t

pub source_left : {numbers : ℕ → Type 0} (cmp : Cmp) (whole : Whole) → LeavesSource cmp numbers whole whole
source_left cmp whole = record { memory = left_there whole.memory; carries = carries_itself cmp whole.seen }

pub source_left_on : {numbers : ℕ → Type 0} (cmp : Cmp) (first second third : Whole) → LeavesSource cmp numbers first second → LeavesSource cmp numbers second third → LeavesSource cmp numbers first third
source_left_on cmp first second third k l = record {
  memory = left_onward first.memory second.memory third.memory k.memory l.memory;
  carries = carries_both cmp first.seen second.seen third.seen k.carries l.carries;
}

pub source_left_more : {fewer more : ℕ → Type 0} (cmp : Cmp) (old new : Whole) → ((number : ℕ) → fewer number → more number) → LeavesSource cmp fewer old new → LeavesSource cmp more old new
source_left_more cmp old new less k = record { memory = k.memory; carries = carries_more cmp old.seen new.seen less k.carries }
