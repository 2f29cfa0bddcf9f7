-- The lists that the tables of a row have.
use Rattle.std.proofs.Common.{◌≡◌, ℕ, suc, List, [], ◌∷◌, length, IsTrue, refl, ap}
use Rattle.cursor.specs.Places.{Cmp}
use Rattle.edits.specs.declared.field.PlacedTable.{PlacedTable}
use Rattle.ikey.specs.Entries.{InternalEntry}
use Rattle.level_cursor.specs.InRows.{HasList, HaveLists}
use Rattle.level_cursor.specs.RowLaws.{still_lists}
use Rattle.table_access.specs.Tables.{Seen, Carries}
use Rattle.table_access.proofs.Carrying.{same_table_at}

-- ---- lists

module _ (cmp : Cmp) where
  pub have_length : (source : Seen) (tables : List PlacedTable) (lists : List (List InternalEntry)) → HaveLists cmp source tables lists → length tables ≡ length lists
  have_length source [] [] h = refl
  have_length source [] (list ∷ lists) h = absurd h
  have_length source (placed ∷ tables) [] h = absurd h
  have_length source (placed ∷ tables) (list ∷ lists) h = ap suc (have_length source tables lists h.1)

  -- a call that only reads leaves them
  pub carried_list : {numbers : ℕ → Type 0} (old new : Seen) (placed : PlacedTable) (list : List InternalEntry) → Carries cmp numbers old new → IsTrue new.facts.faithful → HasList cmp old placed list → HasList cmp new placed list
  carried_list old new placed list carries t h = (still_lists cmp old new (placed ∷ []) (list ∷ []) (λ other i. same_table_at cmp old new other.table.number carries t) (carries.sound t) (h, tt)).0

  pub carried_lists : {numbers : ℕ → Type 0} (old new : Seen) (tables : List PlacedTable) (lists : List (List InternalEntry)) → Carries cmp numbers old new → IsTrue new.facts.faithful → HaveLists cmp old tables lists → HaveLists cmp new tables lists
  carried_lists old new tables lists carries t h = still_lists cmp old new tables lists (λ placed i. same_table_at cmp old new placed.table.number carries t) (carries.sound t) h
