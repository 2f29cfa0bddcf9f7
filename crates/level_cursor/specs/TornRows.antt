-- Laws of torn tables in rows.
use Rattle.std.specs.Prelude.{◌≡◌, ◌⊎◌, ◌+◌, ℕ, List, Option, Some, None, slice_get}
use Rattle.std.proofs.Common.{refl, sym, ap, ◌∙◌, subst, inl, inr}
use Rattle.cursor.specs.Cuts.{Cut, SameCut, is_in_front}
use Rattle.cursor.specs.Merging.{listed}
use Rattle.cursor.specs.Places.{Cmp, Listed}
use Rattle.cursor.proofs.Befores.{get_among}
use Rattle.cursor.proofs.Fronts.{among_get}
use Rattle.edits.specs.declared.field.PlacedTable.{PlacedTable}
use Rattle.ikey.specs.Entries.{InternalEntry}
use Rattle.level_cursor.specs.declared.in_table.InTable.{InTable}
use Rattle.level_cursor.specs.InRows.{HasList, HaveLists, IsOneTorn, IsOpenTorn, IsPlacedRow, IsTornOne, KeepsOpen, KeepsTables, LiesIn, ListsTables, entries_before, joined}
use Rattle.level_cursor.specs.RowLists.{item_in, largest_at, list_at, member_at, smallest_at}
use Rattle.table_access.specs.TableLaws.{torn_kept as table_torn}
use Rattle.table_access.specs.TablePlaces.{ListsTable}
use Rattle.table_access.specs.Tables.{Seen, IsOpenFrame}
use Rattle.table_access.specs.Torn.{HasTorn, TornTable}
use Rattle.table_access.specs.TornLaws.{torn_same as table_same}
use Rattle.table_access.proofs.EndKeys.{data_ends}
use Rattle.table.specs.Frame.{Frame}

-- ---- what is kept

open_torn : {K : Type 0} {g : _} (cmp : Cmp) (row : List PlacedTable) (here : Option (InTable K g)) (old new : Seen) (cut : Cut) → KeepsOpen cmp here old new → IsOpenTorn cmp new row here cut → IsOpenTorn cmp old row here cut
open_torn cmp row None old new cut k t = t
open_torn cmp row (Some here) old new cut k t = (t.0, table_torn cmp here.cursor.placed here.cursor.table.value.frame old new cut k t.1)

pub torn_kept : {K : Type 0} {g : _} (cmp : Cmp) (row : List PlacedTable) (here : Option (InTable K g)) (old new : Seen) (cut : Cut) → KeepsTables cmp row here old new → IsOneTorn cmp new row cut ⊎ IsOpenTorn cmp new row here cut
    → IsOneTorn cmp old row cut ⊎ IsOpenTorn cmp old row here cut
torn_kept cmp row here old new cut k (inl one) = inl (record {
  index = one.index;
  placed = one.placed;
  placed_is = one.placed_is;
  lies = one.lies;
  torn = λ file has. one.torn file (record { sound = k.sound has.sound; file_is = k.same one.placed (member_at row one.index one.placed one.placed_is) ∙ has.file_is });
})
torn_kept cmp row here old new cut k (inr open_one) = inr (open_torn cmp row here old new cut k.here open_one)

-- ---- a torn table lies at each cut that is the same

-- a table that may have this list, where it is open
lists_open : (cmp : Cmp) (source : Seen) (placed : PlacedTable) (frame : Frame) (list : List InternalEntry) (has : HasList cmp source placed list) → IsOpenFrame cmp has.file frame → ListsTable cmp source placed frame None (listed list None)
lists_open cmp source placed frame list has open_is =
    let may = has.spelled.filled frame open_is.0 in
    record {
      groups = may.groups;
      has = record { file = has.file; table = has.there; open_is = open_is; same_length = may.same_length; each = may.each };
      ends = data_ends placed may.groups list may.entries_are has.keys;
      bounds = may.bounds;
      entries_are = may.entries_are;
      rises = has.spelled.rises;
      inside = λ index e. let bad : None ≡ Some index = e in cc;
      place = refl;
    }

pub one_same : (cmp : Cmp) (source : Seen) (placed : PlacedTable) (list : List InternalEntry) (a b : Cut) → HasList cmp source placed list → SameCut cmp list a b → IsTornOne cmp source placed a → IsTornOne cmp source placed b
one_same cmp source placed list a b has same torn file there = elim (torn file there) [
  | inl damaged ↦ inl damaged
  | inr block ↦
      let its : file ≡ has.file = let both : Some has.file ≡ Some file = sym has.there.file_is ∙ there.file_is in cc in
      let lists = lists_open cmp source placed block.0 list has (subst (λ (f : List ℕ). IsOpenFrame cmp f block.0) its block.1) in
      let each : TornTable cmp source placed block.0 a =
      λ other other_there.
      let as_it : file ≡ other = let both : Some file ≡ Some other = sym there.file_is ∙ other_there.file_is in cc in
      subst (λ (f : List ℕ). HasTorn cmp placed f block.0 a) as_it block.2 in
      inr (block.0, block.1, table_same cmp source placed block.0 None (listed list None) lists a b same each file there)
]

module _ (cmp : Cmp) (source : Seen) (row : List PlacedTable) (lists : List (List InternalEntry)) (have : HaveLists cmp source row lists) (a b : Cut) (same : SameCut cmp (joined lists) a b) where
  at_place : (p : ℕ) (entry : InternalEntry) → slice_get (joined lists) p ≡ Some entry → is_in_front cmp a entry.key ≡ is_in_front cmp b entry.key
  at_place p entry at = same entry (among_get (joined lists) p entry at)

  lies_same : (index : ℕ) → LiesIn cmp row index a → LiesIn cmp row index b
  lies_same index lies = record {
    front = λ k placed key less at is.
        let e = largest_at cmp source row lists have k placed key at is in
        ap (is_in_front cmp b) (sym e.4) ∙ sym (at_place e.0 e.1 e.2) ∙ ap (is_in_front cmp a) e.4 ∙ lies.front k placed key less at is;
    back = λ k placed key more at is.
        let e = smallest_at cmp source row lists have k placed key at is in
        ap (is_in_front cmp b) (sym e.4) ∙ sym (at_place e.0 e.1 e.2) ∙ ap (is_in_front cmp a) e.4 ∙ lies.back k placed key more at is;
  }

  its_same : (index : ℕ) (list : List InternalEntry) → slice_get lists index ≡ Some list → SameCut cmp list a b
  its_same index list at entry member = let place = get_among list entry member in same entry (among_get (joined lists) (entries_before lists index + place.0) entry (item_in lists index list place.0 entry at place.1))

  row_same : IsOneTorn cmp source row a → IsOneTorn cmp source row b
  row_same one =
      let its = list_at cmp source row lists one.index one.placed have one.placed_is in
      record {
        index = one.index;
        placed = one.placed;
        placed_is = one.placed_is;
        lies = lies_same one.index one.lies;
        torn = one_same cmp source one.placed its.0 a b its.2 (its_same one.index its.0 its.1) one.torn;
      }

  open_same : {K : Type 0} {g : _} (here : Option (InTable K g)) (place : Option ℕ) → IsPlacedRow cmp source lists here place → IsOpenTorn cmp source row here a → IsOpenTorn cmp source row here b
  open_same None place h torn = torn
  open_same (Some here) place h torn = (
    lies_same here.index torn.0,
    table_same cmp source here.cursor.placed here.cursor.table.value.frame here.cursor.here (listed h.list (Some h.inside)) h.stands a b (its_same here.index h.list h.list_is) torn.1,
  )

pub torn_same : {K : Type 0} {g : _} (cmp : Cmp) (source : Seen) (row : List PlacedTable) (here : Option (InTable K g)) (at : Listed) (a b : Cut) → ListsTables cmp source row here at → SameCut cmp at.entries a b
    → IsOneTorn cmp source row a ⊎ IsOpenTorn cmp source row here a → IsOneTorn cmp source row b ⊎ IsOpenTorn cmp source row here b
torn_same cmp source row here at a b h same torn =
    let all : SameCut cmp (joined h.lists) a b = subst (λ (es : List InternalEntry). SameCut cmp es a b) h.entries_are same in
    elim torn [
      | inl one ↦ inl (row_same cmp source row h.lists h.tables a b all one)
      | inr open_one ↦ inr (open_same cmp source row h.lists h.tables a b all here at.place h.place open_one)
    ]
