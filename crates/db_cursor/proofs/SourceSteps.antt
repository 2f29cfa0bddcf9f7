-- What a move of one of a scan's cursors leaves.
use Rattle.std.proofs.Common.{◌≡◌, IsTrue, refl, sym, subst}
use Rattle.cursor.specs.Moves.{Stays}
use Rattle.cursor.specs.Places.{Cmp}
use Rattle.ikey.specs.declared.key_order.KeyOrder.{Ghosts}
use Rattle.memtables.specs.Memories.{Memories}
use Rattle.memtables.specs.PlaceLaws.{left_there}
use Rattle.memtables.specs.Places.{KeepsMemories, LeavesMemories, MemoriesPlace}
use Rattle.level_cursor.specs.declared.row_cursor.RowCursor.{RowCursor}
use Rattle.level_cursor.specs.RowLaws.{row_still}
use Rattle.level_cursor.specs.Rows.{GoesOverRow, KeepsRow, IsRowLimited, IsRowTorn, rows_tables}
use Rattle.db_cursor.specs.declared.source_cursor.SourceCursor.{SourceCursor}
use Rattle.db_cursor.specs.declared.source_cursor.SourceCursor.TheVariants.{Memory, Row}
use Rattle.db_cursor.specs.Places.{GoesOver, KeepsSource, LeavesSource, LimitedSource, TornSource}
use Rattle.db_cursor.specs.Whole.{Whole}
use Rattle.table_access.specs.Memory.{memory_facts}
use Rattle.table_access.specs.Tables.{Seen, Carries}
use Rattle.table_access.specs.TableLaws.{carries_itself}

abbrev pub whole_of : {S T : Type 0} → (T → Seen) → (S → T) → (S → Memories) → S → Whole
whole_of seen_of tables_of memory_of source = record { seen = seen_of (tables_of source); memory = memory_of source }

module _ {K : Type 0} {g : Ghosts K} {S T : Type 0} (cmp : Cmp) (seen_of : T → Seen) (tables_of : S → T) (memory_of : S → Memories) where
  abbrev pub StaysSource : SourceCursor K g → SourceCursor K g → S → S → Type 0
  StaysSource old new before after = Stays (λ source. (whole_of seen_of tables_of memory_of source).seen.facts) (λ cursor s t. KeepsSource cmp cursor (whole_of seen_of tables_of memory_of s) (whole_of seen_of tables_of memory_of t)) (λ cursor source. LimitedSource cmp cursor (whole_of seen_of tables_of memory_of source)) (λ cursor source cut. TornSource cmp cursor (whole_of seen_of tables_of memory_of source) cut)
      (λ numbers s t. LeavesSource cmp numbers (whole_of seen_of tables_of memory_of s) (whole_of seen_of tables_of memory_of t)) (λ cursor number. GoesOver cursor number) old new before after

  -- a move over a memtable
  pub stays_memory : (old new : MemoriesPlace) (before after : S) → seen_of (tables_of after) ≡ seen_of (tables_of before)
      → Stays (λ memories. memory_facts) (λ cursor s t. KeepsMemories cmp cursor s t) (λ cursor memories. ⊥) (λ cursor memories cut. ⊥) (λ numbers s t. LeavesMemories s t) (λ cursor number. ⊥) old new (memory_of before) (memory_of after) → StaysSource (Memory old) (Memory new) before after
  stays_memory old new before after is h =
      let carries = subst (λ (s : Seen). Carries cmp (λ number. ⊥) (seen_of (tables_of before)) s) (sym is) (carries_itself cmp (seen_of (tables_of before))) in
      record {
        reads = carries.reads;
        left = record { memory = h.left; carries = carries };
        others = λ t other. rest other;
        same = λ s t k. h.same (memory_of s) (memory_of t) k;
        limit = λ t l. l;
        tear = λ t cut l. l;
        within = λ number o. o;
      }
    where
      rest : (other : SourceCursor K g) → KeepsSource cmp other (whole_of seen_of tables_of memory_of before) (whole_of seen_of tables_of memory_of after)
      rest (Memory place) = h.others refl place
      rest (Row row) = subst (λ (s : Seen). KeepsRow cmp row (seen_of (tables_of before)) s) (sym is) (row_still cmp (rows_tables row) row.here (seen_of (tables_of before)))

  -- a move over a row of tables
  pub stays_row : (old new : RowCursor K g) (before after : S) → memory_of after ≡ memory_of before
      → Stays (λ tables. (seen_of tables).facts) (λ cursor s t. KeepsRow cmp cursor (seen_of s) (seen_of t)) (λ cursor tables. IsRowLimited cmp (seen_of tables) cursor) (λ cursor tables cut. IsRowTorn cmp (seen_of tables) cursor cut) (λ numbers s t. Carries cmp numbers (seen_of s) (seen_of t)) (λ cursor number. GoesOverRow cursor number) old new (tables_of before) (tables_of after)
      → StaysSource (Row old) (Row new) before after
  stays_row old new before after is h = record {
    reads = h.reads;
    left = record {
      memory = subst (λ (m : Memories). LeavesMemories (memory_of before) m) (sym is) (left_there (memory_of before));
      carries = h.left;
    };
    others = λ t other. rest t other;
    same = λ s t k. h.same (tables_of s) (tables_of t) k;
    limit = h.limit;
    tear = h.tear;
    within = h.within;
  }
    where
      rest : IsTrue (seen_of (tables_of after)).facts.faithful → (other : SourceCursor K g) → KeepsSource cmp other (whole_of seen_of tables_of memory_of before) (whole_of seen_of tables_of memory_of after)
      rest t (Memory place) = subst (λ (m : Memories). KeepsMemories cmp place (memory_of before) m) (sym is) refl
      rest t (Row row) = h.others t row
