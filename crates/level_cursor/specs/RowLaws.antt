-- Laws of cursors over rows of tables.
use Rattle.std.specs.Prelude.{◌≡◌, ◌⊎◌, ℕ, suc, List, [], ◌∷◌, Option, Some, None, Contains, is_some}
use Rattle.std.proofs.Common.{refl, sym, ap, ◌∙◌, arith, inl, inr}
use Rattle.cache.specs.Tables.{table_at}
use Rattle.cursor.specs.Places.{Cmp, Listed}
use Rattle.cursor.specs.Merging.{listed}
use Rattle.edits.specs.declared.field.PlacedTable.{PlacedTable}
use Rattle.ikey.specs.Entries.{InternalEntry}
use Rattle.level_cursor.specs.declared.in_table.InTable.{InTable}
use Rattle.level_cursor.specs.InRows.{HasList, HaveLists, IsOneLimited, IsOpenLimited, IsPlacedRow, KeepsOpen, KeepsTables, ListsTables, table_stands}
use Rattle.table_access.specs.TableLaws.{lists_kept as table_kept, placed_in as table_placed, table_onward, table_still}
use Rattle.table_access.specs.Tables.{Seen, IsSound}

pub placed_in : {K : Type 0} {g : _} (cmp : Cmp) (source : Seen) (lists : List (List InternalEntry)) (here : Option (InTable K g)) (place : Option ℕ) → IsPlacedRow cmp source lists here place → table_stands here ≡ is_some place
placed_in cmp source lists None place h = sym (ap is_some h)
placed_in cmp source lists (Some here) place h = table_placed h.stands.groups here.cursor.here (Some h.inside) h.stands.place ∙ sym (ap is_some h.place_is)

-- ---- what is kept

still_list : (cmp : Cmp) (old new : Seen) (placed : PlacedTable) (list : List InternalEntry) → table_at new.facts.files placed.table.number ≡ table_at old.facts.files placed.table.number → (IsSound cmp old → IsSound cmp new)
    → HasList cmp old placed list → HasList cmp new placed list
still_list cmp old new placed list same sound h = record {
  positive = h.positive;
  file = h.file;
  there = record { sound = sound h.there.sound; file_is = same ∙ h.there.file_is };
  spelled = h.spelled;
  keys = h.keys;
  ends = h.ends;
}

pub still_lists : (cmp : Cmp) (old new : Seen) (tables : List PlacedTable) (lists : List (List InternalEntry))
    → ((placed : PlacedTable) → Contains tables placed → table_at new.facts.files placed.table.number ≡ table_at old.facts.files placed.table.number)
    → (IsSound cmp old → IsSound cmp new) → HaveLists cmp old tables lists → HaveLists cmp new tables lists
still_lists cmp old new [] [] same sound h = h
still_lists cmp old new [] (list ∷ lists) same sound h = absurd h
still_lists cmp old new (placed ∷ tables) [] same sound h = absurd h
still_lists cmp old new (placed ∷ tables) (list ∷ lists) same sound h = (
  still_list cmp old new placed list (same placed (0, omega arith, refl)) sound h.0,
  still_lists cmp old new tables lists (λ other i. same other (suc i.0, (let l = i.1 in omega (arith, l)), i.2)) sound h.1,
)

pub still_placed : {K : Type 0} {g : _} (cmp : Cmp) (old new : Seen) (lists : List (List InternalEntry)) (here : Option (InTable K g)) (place : Option ℕ) → KeepsOpen cmp here old new → IsPlacedRow cmp old lists here place
    → IsPlacedRow cmp new lists here place
still_placed cmp old new lists None place k h = h
still_placed cmp old new lists (Some here) place k h = record {
  list = h.list;
  inside = h.inside;
  list_is = h.list_is;
  stands = table_kept cmp here.cursor.placed here.cursor.table.value.frame here.cursor.here old new (listed h.list (Some h.inside)) k h.stands;
  place_is = h.place_is;
}

pub lists_kept : {K : Type 0} {g : _} (cmp : Cmp) (row : List PlacedTable) (here : Option (InTable K g)) (old new : Seen) (at : Listed) → KeepsTables cmp row here old new → ListsTables cmp old row here at → ListsTables cmp new row here at
lists_kept cmp row here old new at k h = record {
  lists = h.lists;
  sound = k.sound h.sound;
  tables = still_lists cmp old new row h.lists k.same k.sound h.tables;
  entries_are = h.entries_are;
  rises = h.rises;
  inside = h.inside;
  place = still_placed cmp old new h.lists here at.place k.here h.place;
}

open_still : {K : Type 0} {g : _} (cmp : Cmp) (here : Option (InTable K g)) (source : Seen) → KeepsOpen cmp here source source
open_still cmp None source = tt
open_still cmp (Some here) source = table_still cmp here.cursor.placed.table.number source

open_onward : {K : Type 0} {g : _} (cmp : Cmp) (here : Option (InTable K g)) (first second third : Seen) → KeepsOpen cmp here first second → KeepsOpen cmp here second third → KeepsOpen cmp here first third
open_onward cmp None first second third k l = tt
open_onward cmp (Some here) first second third k l = table_onward cmp here.cursor.placed.table.number first second third k l

pub row_still : {K : Type 0} {g : _} (cmp : Cmp) (row : List PlacedTable) (here : Option (InTable K g)) (source : Seen) → KeepsTables cmp row here source source
row_still cmp row here source = record { same = λ placed i. refl; sound = λ h. h; here = open_still cmp here source }

pub row_onward : {K : Type 0} {g : _} (cmp : Cmp) (row : List PlacedTable) (here : Option (InTable K g)) (first second third : Seen) → KeepsTables cmp row here first second → KeepsTables cmp row here second third
    → KeepsTables cmp row here first third
row_onward cmp row here first second third k l = record {
  same = λ placed i. l.same placed i ∙ k.same placed i;
  sound = λ h. l.sound (k.sound h);
  here = open_onward cmp here first second third k.here l.here;
}

pub limits_kept : {K : Type 0} {g : _} (cmp : Cmp) (row : List PlacedTable) (here : Option (InTable K g)) (old new : Seen) → KeepsTables cmp row here old new → IsOneLimited cmp new row ⊎ IsOpenLimited here
    → IsOneLimited cmp old row ⊎ IsOpenLimited here
limits_kept cmp row here old new k (inl one) = inl (one.0, one.1, λ file has. one.2 file (record { sound = k.sound has.sound; file_is = k.same one.0 one.1 ∙ has.file_is }))
limits_kept cmp row here old new k (inr open_one) = inr open_one
