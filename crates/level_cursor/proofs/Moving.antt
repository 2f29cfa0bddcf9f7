-- Where the moves of a cursor over a row lead.
use Rattle.std.proofs.Common.{◌≡◌, ◌<◌, ◌≤◌, ◌+◌, ℕ, zero, suc, true, false, List, Option, Some, None, Ok, length, drop, is_some, IsTrue, refl, sym, ap, ◌∙◌, subst, arith, inl, inr}
use Rattle.std.specs.Cmp.{IsTotalOrder}
use Rattle.std.specs.List.{slice_get}
use Rattle.std.specs.Option.{option_and_then}
use Rattle.std.proofs.lemmas.Option.{slice_get_within}
use Rattle.block.specs.Places.{Placed}
use Rattle.cursor.specs.Cuts.{Cut}
use Rattle.cursor.specs.Merging.{listed}
use Rattle.cursor.specs.Places.{Cmp, Listed, Rises, first_from, index_before, index_behind, is_below, leading, to_first, to_key, to_last, to_next, to_prev, within}
use Rattle.cursor.proofs.Leading.{within_cases, within_some}
use Rattle.cursor.proofs.Singles.{before_inside, within_inside}
use Rattle.edits.specs.declared.field.PlacedTable.{PlacedTable}
use Rattle.ikey.specs.Entries.{InternalEntry}
use Rattle.ikey.specs.Keys.{Key, IsKey}
use Rattle.level_cursor.specs.declared.in_table.InTable.{InTable}
use Rattle.level_cursor.specs.InRows.{IsInTable, IsOpenLimited, IsOpenTorn, IsPlacedRow, KeepsOpen, KeepsTables, LiesIn, ListsTables, entries_before, joined}
use Rattle.level_cursor.specs.Searches.{IsFirstTable, IsOneOf, IsSameTable, passes}
use Rattle.level_cursor.specs.RowLists.{before_more, before_zero, item_in, member_at, some_at}
use Rattle.level_cursor.proofs.Having.{carried_lists}
use Rattle.level_cursor.proofs.Lists.{before_end, before_inside as list_inside}
use Rattle.level_cursor.proofs.Reaching.{reaches}
use Rattle.level_cursor.proofs.Searching.{none_leading}
use Rattle.table_access.specs.declared.in_block.InBlock.{InBlock}
use Rattle.table_access.specs.TablePlaces.{KeepsSeenTable, ListsTable, StepsTo}
use Rattle.table_access.specs.TableLaws.{torn_carried}
use Rattle.table_access.specs.Tables.{Seen, Carries}
use Rattle.table_access.specs.Torn.{TornTable}
use Rattle.table_access.proofs.Carrying.{same_table_at}
use Rattle.table.specs.Frame.{AnyLong, Frame, handles}

-- ---- what calls that only read keep

pub open_carried : {K : Type 0} {g : _} {numbers : ℕ → Type 0} (cmp : Cmp) (here : Option (InTable K g)) (old new : Seen) → Carries cmp numbers old new → IsTrue new.facts.faithful → KeepsOpen cmp here old new
open_carried cmp None old new carries t = tt
open_carried cmp (Some here) old new carries t = record { same = same_table_at cmp old new here.cursor.placed.table.number carries t; sound = carries.sound t }

pub row_carried : {K : Type 0} {g : _} {numbers : ℕ → Type 0} (cmp : Cmp) (row : List PlacedTable) (here : Option (InTable K g)) (old new : Seen) → Carries cmp numbers old new → IsTrue new.facts.faithful → KeepsTables cmp row here old new
row_carried cmp row here old new carries t = record {
  same = λ placed i. same_table_at cmp old new placed.table.number carries t;
  sound = carries.sound t;
  here = open_carried cmp here old new carries t;
}

-- a cursor of the row that was opened is kept where the row is
pub opened_kept : {K : Type 0} {g : _} (cmp : Cmp) (row : List PlacedTable) (here : Option (InTable K g)) (found : InTable K g) (old new first second : Seen) → IsOneOf cmp old new row found.index found.cursor.placed found.cursor.table.value.frame
    → KeepsTables cmp row here first second → KeepsTables cmp row (Some found) first second
opened_kept cmp row here found old new first second one k = record {
  same = k.same;
  sound = k.sound;
  here = record { same = k.same found.cursor.placed (member_at row found.index found.cursor.placed one.there); sound = k.sound };
}

pub nothing_kept : {K : Type 0} {g : _} (cmp : Cmp) (row : List PlacedTable) (here : Option (InTable K g)) (first second : Seen) → KeepsTables cmp row here first second → KeepsTables {K = K} {g = g} cmp row None first second
nothing_kept cmp row here first second k = record { same = k.same; sound = k.sound; here = tt }

-- the same table is kept, and has the same limits
pub same_kept : {K : Type 0} {g : _} (cmp : Cmp) (old : Option (InTable K g)) (new : Option (InTable K g)) (first second : Seen) → IsSameTable old new → KeepsOpen cmp old first second → KeepsOpen cmp new first second
same_kept cmp None None first second same k = tt
same_kept cmp None (Some new) first second same k = absurd same
same_kept cmp (Some old) None first second same k = absurd same
same_kept cmp (Some old) (Some new) first second same k = subst (λ (p : PlacedTable). KeepsSeenTable cmp p.table.number first second) (sym same.0) k

pub same_limited : {K : Type 0} {g : _} (old new : Option (InTable K g)) → IsSameTable old new → IsOpenLimited new → IsOpenLimited old
same_limited None None same l = l
same_limited None (Some new) same l = absurd same
same_limited (Some old) None same l = absurd same
same_limited (Some old) (Some new) same l = subst (λ (f : Frame). AnyLong (handles f)) same.1 l

-- a call that only reads leaves no block anew that is none
pub open_torn : {K : Type 0} {g : _} {numbers : ℕ → Type 0} (cmp : Cmp) (row : List PlacedTable) (here : Option (InTable K g)) (old new : Seen) (cut : Cut) → Carries cmp numbers old new → IsTrue new.facts.faithful → IsOpenTorn cmp new row here cut
    → IsOpenTorn cmp old row here cut
open_torn cmp row None old new cut carries t torn = torn
open_torn cmp row (Some here) old new cut carries t torn = (torn.0, torn_carried cmp old new here.cursor.placed here.cursor.table.value.frame cut carries t torn.1)

pub same_torn : {K : Type 0} {g : _} {numbers : ℕ → Type 0} (cmp : Cmp) (row : List PlacedTable) (old new : Seen) (here stepped : Option (InTable K g)) (cut : Cut) → IsSameTable here stepped → Carries cmp numbers old new → IsTrue new.facts.faithful
    → IsOpenTorn cmp new row stepped cut → IsOpenTorn cmp old row here cut
same_torn cmp row old new None None cut same carries t torn = torn
same_torn cmp row old new None (Some its) cut same carries t torn = absurd same
same_torn cmp row old new (Some here) None cut same carries t torn = absurd same
same_torn cmp row old new (Some here) (Some its) cut same carries t torn = (
  subst (λ (index : ℕ). LiesIn cmp row index cut) same.2 torn.0,
  torn_carried cmp old new here.cursor.placed here.cursor.table.value.frame cut carries t
      (subst (λ (p : PlacedTable). TornTable cmp new p here.cursor.table.value.frame cut) same.0 (subst (λ (f : Frame). TornTable cmp new its.cursor.placed f cut) same.1 torn.1)),
)

-- ---- moves

next_inside : (entries : List InternalEntry) (place : Option ℕ) (index : ℕ) → option_and_then (index_behind entries) place ≡ Some index → index < length entries
next_inside entries None index e = absurd (let bad : None ≡ Some index = e in cc)
next_inside entries (Some n) index e = within_inside entries (suc n) index e

prev_inside : (entries : List InternalEntry) (place : Option ℕ) (index : ℕ) → ((n : ℕ) → place ≡ Some n → n < length entries) → option_and_then index_before place ≡ Some index → index < length entries
prev_inside entries None index h e = absurd (let bad : None ≡ Some index = e in cc)
prev_inside entries (Some n) index h e = let l = h n refl in before_inside n (length entries) index (omega (arith, l)) e

module _ {K : Type 0} {g : _} {numbers : ℕ → Type 0} (cmp : Cmp) (old new : Seen) (row : List PlacedTable) (here to_here : Option (InTable K g)) (at : Listed) (carries : Carries cmp numbers old new) (t : IsTrue new.facts.faithful)
    (h : ListsTables cmp old row here at) where
  lists_moved : (to : Option ℕ) → IsPlacedRow cmp new h.lists to_here to → ((index : ℕ) → to ≡ Some index → index < length at.entries) → ListsTables cmp new row to_here (record at { place = to })
  lists_moved to placed inside = record {
    lists = h.lists;
    sound = carries.sound t h.sound;
    tables = carried_lists cmp old new row h.lists carries t h.tables;
    entries_are = h.entries_are;
    rises = h.rises;
    inside = inside;
    place = placed;
  }

  pub stayed : IsPlacedRow cmp new h.lists to_here at.place → ListsTables cmp new row to_here at
  stayed placed = lists_moved at.place placed h.inside

  same_next : option_and_then (index_behind (joined h.lists)) at.place ≡ to_next at
  same_next = ap (λ (es : List InternalEntry). option_and_then (index_behind es) at.place) (sym h.entries_are)

  pub next_here : IsPlacedRow cmp new h.lists to_here (option_and_then (index_behind (joined h.lists)) at.place) → ListsTables cmp new row to_here (record at { place = to_next at })
  next_here placed = lists_moved (to_next at) (subst (IsPlacedRow cmp new h.lists to_here) same_next placed) (λ index e. next_inside at.entries at.place index e)

  pub prev_here : IsPlacedRow cmp new h.lists to_here (option_and_then index_before at.place) → ListsTables cmp new row to_here (record at { place = to_prev at })
  prev_here placed = lists_moved (to_prev at) placed (λ index e. prev_inside at.entries at.place index h.inside e)

  first_sought : (start : ℕ) → entries_before h.lists start + leading (passes cmp None) (joined (drop start h.lists)) ≡ entries_before h.lists start
  first_sought start = let none = none_leading cmp (joined (drop start h.lists)) in omega (arith, none)

  pub first_moved : IsPlacedRow cmp new h.lists to_here (within (joined h.lists) (entries_before h.lists 0 + leading (passes cmp None) (joined (drop 0 h.lists)))) → ListsTables cmp new row to_here (record at { place = to_first at })
  first_moved placed =
      let to : within (joined h.lists) (entries_before h.lists 0 + leading (passes cmp None) (joined (drop 0 h.lists))) ≡ to_first at =
      ap (within (joined h.lists)) (first_sought 0 ∙ before_zero h.lists) ∙ ap (λ (es : List InternalEntry). within es 0) (sym h.entries_are) in
      lists_moved (to_first at) (subst (IsPlacedRow cmp new h.lists to_here) to placed) (λ index e. within_inside at.entries 0 index e)

  pub next_moved : (start : ℕ) → within (joined h.lists) (entries_before h.lists start) ≡ option_and_then (index_behind (joined h.lists)) at.place
      → IsPlacedRow cmp new h.lists to_here (within (joined h.lists) (entries_before h.lists start + leading (passes cmp None) (joined (drop start h.lists))))
      → ListsTables cmp new row to_here (record at { place = to_next at })
  next_moved start follows placed = next_here (subst (IsPlacedRow cmp new h.lists to_here) (ap (within (joined h.lists)) (first_sought start) ∙ follows) placed)

  pub seek_moved : IsTotalOrder cmp → (target : List ℕ) (key : Key) (start : ℕ) → IsKey target key → IsFirstTable cmp target row start
      → IsPlacedRow cmp new h.lists to_here (within (joined h.lists) (entries_before h.lists start + leading (passes cmp (Some key)) (joined (drop start h.lists))))
      → ListsTables cmp new row to_here (record at { place = to_key cmp key at })
  seek_moved total target key start is first placed =
      let n = reaches cmp total key old row h.lists target start is h.tables (subst (Rises cmp) h.entries_are h.rises) first in
      let to : within (joined h.lists) (entries_before h.lists start + leading (passes cmp (Some key)) (joined (drop start h.lists))) ≡ to_key cmp key at =
      ap (within (joined h.lists)) (sym n) ∙ ap (λ (es : List InternalEntry). within es (leading (is_below cmp key) es)) (sym h.entries_are) in
      lists_moved (to_key cmp key at) (subst (IsPlacedRow cmp new h.lists to_here) to placed) (λ index e. within_inside at.entries (first_from cmp key at.entries) index e)

  pub last_moved : (end : ℕ) → end ≡ length h.lists → IsPlacedRow cmp new h.lists to_here (index_before (entries_before h.lists end)) → ListsTables cmp new row to_here (record at { place = to_last at })
  last_moved end e placed =
      let to : index_before (entries_before h.lists end) ≡ to_last at =
      ap index_before (before_end h.lists end (let s = sym e in omega (arith, s)) ∙ ap (length {A = InternalEntry}) (sym h.entries_are)) in
      lists_moved (to_last at) (subst (IsPlacedRow cmp new h.lists to_here) to placed) (λ index e. before_inside (length at.entries) (length at.entries) index (omega arith) e)

  pub prev_moved : (end : ℕ) → index_before (entries_before h.lists end) ≡ option_and_then index_before at.place → IsPlacedRow cmp new h.lists to_here (index_before (entries_before h.lists end))
      → ListsTables cmp new row to_here (record at { place = to_prev at })
  prev_moved end precedes placed = prev_here (subst (IsPlacedRow cmp new h.lists to_here) precedes placed)

-- ---- steps within a table

-- whether the list has a next entry
behind_if : (list : List InternalEntry) (n : ℕ) → is_some (within list n) ≡ true → n < length list
behind_if list n some = elim (within_cases list n) [
  | inl h ↦ h.0
  | inr h ↦ absurd (let none : is_some (within list n) ≡ false = ap is_some h.1 in let bad : true ≡ false = sym some ∙ none in cc)
]

end_if : (list : List InternalEntry) (n : ℕ) → within list n ≡ None → length list ≤ n
end_if list n none = elim (within_cases list n) [
  | inl h ↦ absurd (let bad : Some n ≡ None = sym h.1 ∙ none in cc)
  | inr h ↦ h.0
]

module _ (cmp : Cmp) (old new : Seen) (lists : List (List InternalEntry)) (index : ℕ) (opened to_opened : PlacedTable) (frame to_frame : Frame) (here to_here : Option (InBlock Placed)) (place : Option ℕ) (opened_is : to_opened ≡ opened)
    (frame_is : to_frame ≡ frame) (h : IsInTable cmp old lists index opened frame here place) where
  stands_at : (inside : ℕ) (to : Option ℕ) → ListsTable cmp new opened frame to_here (listed h.list (Some inside)) → to ≡ Some (entries_before lists index + inside) → IsInTable cmp new lists index to_opened to_frame to_here to
  stands_at inside to stands is = record {
    list = h.list;
    inside = inside;
    list_is = h.list_is;
    stands = subst (λ (p : PlacedTable). ListsTable cmp new p to_frame to_here (listed h.list (Some inside))) (sym opened_is)
        (subst (λ (f : Frame). ListsTable cmp new opened f to_here (listed h.list (Some inside))) (sym frame_is) stands);
    place_is = is;
  }

  abbrev here_at : Listed
  here_at = listed h.list (Some h.inside)

  less : h.inside < length h.list
  less = h.stands.inside h.inside refl

  pub stays_put : ListsTable cmp new opened frame to_here (listed h.list (Some h.inside)) → IsInTable cmp new lists index to_opened to_frame to_here place
  stays_put stands = stands_at h.inside place stands h.place_is

  pub went_on : StepsTo (ListsTable cmp new opened frame to_here) to_next (Ok true) (listed h.list (Some h.inside)) → IsInTable cmp new lists index to_opened to_frame to_here (option_and_then (index_behind (joined lists)) place)
  went_on moved =
      let behind = behind_if h.list (suc h.inside) moved.0 in
      let fits = list_inside lists index h.list h.list_is in
      let before : ℕ = entries_before lists index in
      let e : suc (before + h.inside) ≡ before + suc h.inside = omega arith in
      stands_at (suc h.inside) (option_and_then (index_behind (joined lists)) place)
      (subst (λ (p : Option ℕ). ListsTable cmp new opened frame to_here (listed h.list p)) (within_some h.list (suc h.inside) behind) moved.1)
      (ap (option_and_then (index_behind (joined lists))) h.place_is ∙ within_some (joined lists) (suc (before + h.inside)) (omega (arith, behind, fits)) ∙ ap Some e)

  pub ended_on : StepsTo (ListsTable cmp new opened frame to_here) to_next (Ok false) (listed h.list (Some h.inside))
      → IsInTable cmp new lists index to_opened to_frame to_here place × (index + 1 ≤ length lists) × (within (joined lists) (entries_before lists (index + 1)) ≡ option_and_then (index_behind (joined lists)) place)
  ended_on moved =
      let end = end_if h.list (suc h.inside) moved.0 in
      let inside = slice_get_within lists index h.list h.list_is in
      let more = before_more lists index h.list h.list_is in
      let l = less in
      let start : suc index ≡ index + 1 = omega arith in
      let e : entries_before lists (suc index) ≡ suc (entries_before lists index + h.inside) = omega (arith, more, end, l) in (
        stays_put moved.1,
        omega (arith, inside),
        ap (λ (n : ℕ). within (joined lists) (entries_before lists n)) (sym start) ∙ ap (within (joined lists)) e ∙ sym (ap (option_and_then (index_behind (joined lists))) h.place_is),
      )

  one_back : (inside : ℕ) → h.inside ≡ suc inside → ListsTable cmp new opened frame to_here (listed h.list (index_before h.inside)) → IsInTable cmp new lists index to_opened to_frame to_here (option_and_then index_before place)
  one_back inside e moved =
      let sum : entries_before lists index + h.inside ≡ suc (entries_before lists index + inside) = omega (arith, e) in
      stands_at inside (option_and_then index_before place) (subst (λ (p : Option ℕ). ListsTable cmp new opened frame to_here (listed h.list p)) (ap index_before e) moved)
      (ap (option_and_then index_before) (h.place_is ∙ ap Some sum))

  pub went_back : StepsTo (ListsTable cmp new opened frame to_here) to_prev (Ok true) (listed h.list (Some h.inside)) → IsInTable cmp new lists index to_opened to_frame to_here (option_and_then index_before place)
  went_back moved = by h.inside refl where
    by : (n : ℕ) → h.inside ≡ n → IsInTable cmp new lists index to_opened to_frame to_here (option_and_then index_before place)
    by zero e = absurd (let none : is_some (index_before h.inside) ≡ false = ap (λ (n : ℕ). is_some (index_before n)) e in let bad : true ≡ false = sym moved.0 ∙ none in cc)
    by (suc n) e = one_back n e moved.1

  pub ended_back : StepsTo (ListsTable cmp new opened frame to_here) to_prev (Ok false) (listed h.list (Some h.inside))
      → IsInTable cmp new lists index to_opened to_frame to_here place × (index ≤ length lists) × (index_before (entries_before lists index) ≡ option_and_then index_before place)
  ended_back moved = by h.inside refl where
    by : (n : ℕ) → h.inside ≡ n → IsInTable cmp new lists index to_opened to_frame to_here place × (index ≤ length lists) × (index_before (entries_before lists index) ≡ option_and_then index_before place)
    by zero e =
        let inside = slice_get_within lists index h.list h.list_is in
        let sum : entries_before lists index ≡ entries_before lists index + h.inside = omega (arith, e) in
        (stays_put moved.1, omega (arith, inside), ap index_before sum ∙ sym (ap (option_and_then index_before) h.place_is))
    by (suc n) e = absurd (let some : index_before h.inside ≡ Some n = ap index_before e in let bad : None ≡ Some n = sym moved.0 ∙ some in cc)

-- ---- the entry at hand

pub entry_here : {K : Type 0} {g : _} (cmp : Cmp) (source : Seen) (row : List PlacedTable) (open_one : Option (InTable K g)) (here : InTable K g) (at : Listed) (index : ℕ) (entry : InternalEntry) → open_one ≡ Some here
    → ListsTables cmp source row open_one at → at.place ≡ Some index → slice_get at.entries index ≡ Some entry
    → (list : List InternalEntry) × (inside : ℕ) × ListsTable cmp source here.cursor.placed here.cursor.table.value.frame here.cursor.here (listed list (Some inside)) × (slice_get list inside ≡ Some entry)
entry_here {K} {g} cmp source row open_one here at index entry is lists place_is entry_is =
    let h = subst (λ (o : Option (InTable K g)). ListsTables cmp source row o at) is lists in
    let p = h.place in
    let x = some_at p.list p.inside (p.stands.inside p.inside refl) in
    let there = item_in h.lists here.index p.list p.inside x.0 p.list_is x.1 in
    let both : Some (entries_before h.lists here.index + p.inside) ≡ Some index = sym p.place_is ∙ place_is in
    let same : entries_before h.lists here.index + p.inside ≡ index = cc in
    let twice : Some x.0 ≡ Some entry = sym there ∙ ap (slice_get (joined h.lists)) same ∙ (ap (λ (es : List InternalEntry). slice_get es index) (sym h.entries_are) ∙ entry_is) in
    (p.list, p.inside, p.stands, x.1 ∙ twice)
