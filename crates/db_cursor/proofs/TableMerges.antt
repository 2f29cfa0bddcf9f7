-- A new merge of cursors over the tables of a version.
use Rattle.std.proofs.Common.{◌≡◌, ℕ, List, Option, None, map, refl, subst, sym}
use Rattle.std.specs.Cmp.{IsTotalOrder}
use Rattle.std.specs.List.{AllByRecursion}
use Rattle.cursor.specs.declared.child.Child.{Child}
use Rattle.cursor.specs.declared.child.Side.TheVariants.{Astray}
use Rattle.cursor.specs.declared.merge.Merge.{Merge}
use Rattle.cursor.specs.Merging.{IsMerge, listed}
use Rattle.edits.specs.declared.field.PlacedTable.{PlacedTable}
use Rattle.ikey.specs.declared.entry.Entry.{Entry}
use Rattle.ikey.specs.declared.key_order.KeyOrder.{Ghosts}
use Rattle.ikey.specs.Entries.{entry_of}
use Rattle.ikey.specs.Orders.{Order}
use Rattle.ikey.specs.Sources.{SameEntries, joined}
use Rattle.ikey.specs.Views.{Among}
use Rattle.level_cursor.specs.InRows.{ListsNumber}
use Rattle.level_cursor.specs.RowLaws.{row_still}
use Rattle.level_cursor.specs.Rows.{rows_tables}
use Rattle.db_cursor.specs.declared.source_cursor.SourceCursor.{SourceCursor}
use Rattle.db_cursor.specs.declared.source_cursor.SourceCursor.TheVariants.{Memory, Row}
use Rattle.db_cursor.specs.internal.Inputs.{BeginsMerge, MayBeginMerge}
use Rattle.db_cursor.specs.Inputs.{ReadsNoMemory}
use Rattle.db_cursor.specs.Places.{KeepsSource, ListsSource, OneGoesOver}
use Rattle.db_cursor.specs.internal.Rows.{spot_of, spots_of}
use Rattle.db_cursor.specs.Whole.{Whole}
use Rattle.db_cursor.proofs.Joining.{all_entries, union_from, union_has}
use Rattle.db_cursor.proofs.NewScans.{HaveUnions, IsNew, RowsBegin, all_limited, all_over, all_rows_listed, all_torn, cursors_of, merge_begun, new_at, new_rows, version_intact}
use Rattle.db_cursor.proofs.OwnSequences.{own_sequences}
use Rattle.db_cursor.proofs.Slices.{all_ranges}
use Rattle.version_laws.specs.Places.{table_sources}
use Rattle.version_laws.proofs.Fitting.{may_have}
use Rattle.version_laws.proofs.Version.{tabled_again}
use Rattle.table_access.specs.Possible.{MayBeTable}
use Rattle.table_access.proofs.Wholes.{may_be}
use Rattle.versions.specs.Levels.{AreInOrder}

-- a new cursor over tables reads no memtable
no_memory : {K : Type 0} {g : Ghosts K} (order : Order) (tables : List PlacedTable) (cursor : SourceCursor K g) (old new : Whole) → IsNew (λ generation. ⊥) 0 tables cursor → old.seen ≡ new.seen → KeepsSource order.cmp cursor old new
no_memory order tables (Memory cursor) old new h same = absurd h.0
no_memory order tables (Row cursor) old new h same = subst (λ seen. KeepsSource order.cmp (Row cursor) old (record new { seen = seen })) same (row_still order.cmp (rows_tables cursor) cursor.here old.seen)

module _ {K : Type 0} {g : Ghosts K} (order : Order) (tables : List PlacedTable) (merge : Merge K (SourceCursor K g))
    (spots : map spot_of (cursors_of merge.children.items) ≡ spots_of tables (all_ranges tables)) where
  abbrev children : List (Child (SourceCursor K g))
  children = merge.children.items

  news : AllByRecursion (IsNew (λ generation. ⊥) 0 tables) (cursors_of children)
  news = new_rows (λ generation. ⊥) 0 tables (all_ranges tables) (cursors_of children) spots

  pub merge_over : (number : ℕ) → OneGoesOver children number → ListsNumber tables number
  merge_over number over = all_over (λ generation. ⊥) 0 tables children news number over

  pub merge_reads_none : ReadsNoMemory order.cmp merge
  merge_reads_none seen old new i child is =
      no_memory order tables child.cursor (record { seen = seen; memory = old }) (record { seen = seen; memory = new }) (new_at (λ generation. ⊥) 0 tables children news i child is) refl

  pub begins_merge : IsTotalOrder order.cmp → HaveUnions order.cmp → RowsBegin K g order → AreInOrder order.cmp tables → merge.current ≡ None
      → AllByRecursion (λ (child : Child (SourceCursor K g)). child.side ≡ Astray) children → MayBeginMerge order tables merge
  begins_merge total unions begins in_order nowhere astray whole contents sound has =
      let rows = all_rows_listed order whole tables contents has in_order sound begins (cursors_of children) spots in
      let start = merge_begun order whole tables contents has in_order sound begins unions children merge.target.items rows.0 astray rows.1 rows.3 in
      let union = start.0 in
      let searched : SameEntries (map entry_of union) (joined (table_sources contents)) = λ e. (
        λ i. subst (λ (es : List Entry). Among es e) rows.2 (union_from order.cmp rows.0 union start.1 e i),
        λ i. union_has order.cmp rows.0 union start.1 e (subst (λ (es : List Entry). Among es e) (sym rows.2) i),
      ) in
      let again = tabled_again tables contents has.fit.placed in_order.levels in
      record {
        entries = union;
        same = λ e. (λ i. (again e).0 ((searched e).0 i), λ i. (searched e).1 ((again e).1 i));
        searched = searched;
        own = own_sequences order (all_entries rows.0) union total rows.3 rows.4 (union_from order.cmp rows.0 union start.1);
        lists = subst (λ (current : Option ℕ). IsMerge order.cmp (ListsSource order.cmp) children current merge.target.items whole (listed union None)) (sym nowhere) start.2;
        limits = λ l. all_limited (λ generation. ⊥) 0 tables children news order.cmp whole rows.0 rows.1 l;
        torn = all_torn (λ generation. ⊥) 0 tables children news order.cmp whole rows.0 rows.1;
      }

-- so it begins over the tables that are there
pub begins_whole : {K : Type 0} {g : Ghosts K} (order : Order) (tables : List PlacedTable) (merge : Merge K (SourceCursor K g)) → IsTotalOrder order.cmp → MayBeginMerge order tables merge → BeginsMerge order tables merge
begins_whole order tables merge total may whole contents sound has =
    let b = may whole contents sound (may_have (MayBeTable order.cmp) order (λ placed file kept table. may_be order.cmp total placed file kept table) whole.seen.facts.files tables contents has) in
    record {
      entries = b.entries;
      same = b.same;
      searched = b.searched;
      own = b.own;
      lists = b.lists;
      limits = b.limits;
      intact = λ cut t. version_intact order total whole tables contents sound has cut (b.torn cut t);
    }
