-- Where the cuts lie to which a cursor over a row moves.
use Rattle.std.proofs.Common.{◌≡◌, ◌⊎◌, ◌<◌, ◌≤◌, ◌+◌, ℕ, zero, suc, true, false, List, Option, Some, None, length, refl, sym, ap, ◌∙◌, subst, arith, inl, inr}
use Rattle.std.specs.Cmp.{IsTotalOrder}
use Rattle.std.specs.List.{slice_get}
use Rattle.std.specs.Option.{option_and_then}
use Rattle.std.proofs.lemmas.Bool.{cases_lt}
use Rattle.std.proofs.lemmas.Option.{slice_get_within}
use Rattle.cursor.specs.Cuts.{Cut, Front, End, Below, SameCut, is_in_front, next_cut, prev_cut}
use Rattle.cursor.specs.Merging.{listed}
use Rattle.cursor.specs.Places.{Cmp, Listed, Rises, first_from, index_before, index_behind, is_below, leading, within}
use Rattle.cursor.proofs.Befores.{get_among}
use Rattle.cursor.proofs.Comparing.{below_is}
use Rattle.cursor.proofs.Cutting.{next_at, prev_at}
use Rattle.cursor.proofs.Leading.{within_cases, within_some}
use Rattle.edits.specs.declared.field.PlacedTable.{PlacedTable}
use Rattle.ikey.specs.Entries.{InternalEntry}
use Rattle.ikey.specs.Keys.{Key, IsKey}
use Rattle.level_cursor.specs.declared.in_table.InTable.{InTable}
use Rattle.level_cursor.specs.InRows.{HaveLists, IsInTable, IsOpenTorn, IsPlacedRow, IsTornHere, LiesIn, ListsTables, entries_before, joined}
use Rattle.level_cursor.specs.Searches.{EndsBackIn, EndsIn, IsFirstTable}
use Rattle.level_cursor.specs.RowLists.{before_more, before_zero, item_in, largest_at, last_of, list_at, smallest_at, some_at}
use Rattle.level_cursor.proofs.Having.{have_length}
use Rattle.level_cursor.proofs.Lists.{before_end, before_inside, before_up, ended_in}
use Rattle.level_cursor.proofs.Reaching.{reaches}
use Rattle.level_cursor.proofs.Searching.{none_leading}
use Rattle.table_access.specs.Tables.{Seen}
use Rattle.table_access.proofs.Splits.{SplitsAt, splits_as, splits_first, splits_key, splits_last, splits_next, splits_prev}

same_before : (a b : ℕ) → index_before a ≡ index_before b → a ≡ b
same_before zero zero e = refl
same_before zero (suc b) e = absurd (let bad : None ≡ Some b = e in cc)
same_before (suc a) zero e = absurd (let bad : Some a ≡ None = e in cc)
same_before (suc a) (suc b) e = let s : a ≡ b = let t : Some a ≡ Some b = e in cc in ap suc s

-- where one fails, no more lead
leading_most : (cmp : Cmp) (key : Key) (list : List InternalEntry) (n : ℕ) (entry : InternalEntry) → SplitsAt cmp list (Below key) (first_from cmp key list) → slice_get list n ≡ Some entry → is_below cmp key entry ≡ false
    → leading (is_below cmp key) list ≤ n
leading_most cmp key list n entry splits at fails = elim (cases_lt n (leading (is_below cmp key) list)) [
  | inr ge ↦ ge
  | inl less ↦ absurd (let bad : true ≡ false = sym ((splits n entry at).0 less) ∙ fails in cc)
]

-- the same place is in the list, or both are after it
same_or_past : (entries : List InternalEntry) (a b : ℕ) → within entries a ≡ within entries b → (a ≡ b) ⊎ ((length entries ≤ a) × (length entries ≤ b))
same_or_past entries a b e = elim (within_cases entries a) [
  | inl x ↦ elim (within_cases entries b) [
    | inl y ↦ inl (let t : Some a ≡ Some b = sym x.1 ∙ e ∙ y.1 in cc)
    | inr y ↦ absurd (let t : Some a ≡ None = sym x.1 ∙ e ∙ y.1 in cc)
  ]
  | inr x ↦ elim (within_cases entries b) [
    | inl y ↦ absurd (let t : None ≡ Some b = sym x.1 ∙ e ∙ y.1 in cc)
    | inr y ↦ inr (x.0, y.0)
  ]
]

splits_there : (cmp : Cmp) (entries : List InternalEntry) (cut : Cut) (a b : ℕ) → within entries a ≡ within entries b → SplitsAt cmp entries cut b → SplitsAt cmp entries cut a
splits_there cmp entries cut a b e splits =
    splits_as cmp entries cut b a
    (λ p fits less. elim (same_or_past entries a b e) [ inl same ↦ omega (arith, less, same) | inr past ↦ (let over = past.1 in omega (arith, fits, over)) ])
    (λ p fits ge. elim (same_or_past entries a b e) [ inl same ↦ omega (arith, ge, same) | inr past ↦ (let over = past.0 in absurd (omega (arith, fits, ge, over))) ]) splits

-- ---- the cut of one list, and that of all

same_cut : (cmp : Cmp) (lists : List (List InternalEntry)) (its cut : Cut) (index count : ℕ) (list : List InternalEntry) → slice_get lists index ≡ Some list → SplitsAt cmp list its count
    → SplitsAt cmp (joined lists) cut (entries_before lists index + count) → SameCut cmp list its cut
same_cut cmp lists its cut index count list at inner outer entry member =
    let place = get_among list entry member in
    let there = item_in lists index list place.0 entry at place.1 in
    elim (cases_lt place.0 count) [
      | inl less ↦ (inner place.0 entry place.1).0 less ∙ sym ((outer (entries_before lists index + place.0) entry there).0 (omega (arith, less)))
      | inr ge ↦ (inner place.0 entry place.1).1 ge ∙ sym ((outer (entries_before lists index + place.0) entry there).1 (omega (arith, ge)))
    ]

module _ (cmp : Cmp) (source : Seen) (row : List PlacedTable) (lists : List (List InternalEntry)) (have : HaveLists cmp source row lists) where
  -- a cut before which so many entries lie
  pub lies_in : (cut : Cut) (index count : ℕ) → entries_before lists index ≤ count → count ≤ entries_before lists (suc index) → SplitsAt cmp (joined lists) cut count → LiesIn cmp row index cut
  lies_in cut index count low high splits = record {
    front = λ k placed key less at is.
        let e = largest_at cmp source row lists have k placed key at is in
        let up = before_up lists (suc k) index (omega (arith, less)) in
        let place = e.3 in
        subst (λ (x : Key). is_in_front cmp cut x ≡ true) e.4 ((splits e.0 e.1 e.2).0 (omega (arith, place, up, low)));
    back = λ k placed key more at is.
        let e = smallest_at cmp source row lists have k placed key at is in
        let up = before_up lists (suc index) k (omega (arith, more)) in
        let place = e.3 in
        subst (λ (x : Key). is_in_front cmp cut x ≡ false) e.4 ((splits e.0 e.1 e.2).1 (omega (arith, place, up, high)));
  }

  -- the list of an index is that of a table, which has some entry
  its_table : (index : ℕ) (list : List InternalEntry) → slice_get lists index ≡ Some list → (placed : PlacedTable) × (slice_get row index ≡ Some placed) × (0 < length list)
  its_table index list at =
      let inside = slice_get_within lists index list at in
      let long = have_length cmp source row lists have in
      let placed = some_at row index (omega (arith, inside, long)) in
      let one = list_at cmp source row lists index placed.0 have placed.1 in
      let same : one.0 ≡ list = let t : Some one.0 ≡ Some list = sym one.1 ∙ at in cc in
      (placed.0, placed.1, subst (λ (l : List InternalEntry). 0 < length l) same one.2.spelled.some)

  -- a search for the first entry from a table on
  ends_first : (cut : Cut) (index : ℕ) (list : List InternalEntry) → slice_get lists index ≡ Some list → SplitsAt cmp (joined lists) cut (entries_before lists index) → EndsIn cmp row index list None cut
  ends_first cut index list at splits =
      let up = before_up lists index (suc index) (omega arith) in
      let none = none_leading cmp list in
      let some = (its_table index list at).2 in
      let count : entries_before lists index ≡ entries_before lists index + 0 = omega arith in
      record {
        lies = lies_in cut index (entries_before lists index) (omega arith) up splits;
        same = same_cut cmp lists Front cut index 0 list at (splits_first cmp list) (subst (λ (n : ℕ). SplitsAt cmp (joined lists) cut n) count splits);
        stops = omega (arith, none, some);
      }

  pub first_ends : (list : List InternalEntry) → slice_get lists 0 ≡ Some list → EndsIn cmp row 0 list None Front
  first_ends list at = ends_first Front 0 list at (subst (λ (n : ℕ). SplitsAt cmp (joined lists) Front n) (sym (before_zero lists)) (splits_first cmp (joined lists)))

  -- a search for the last entry before a table
  ends_back : (cut : Cut) (index : ℕ) (list : List InternalEntry) → slice_get lists index ≡ Some list → SplitsAt cmp (joined lists) cut (entries_before lists (suc index)) → EndsBackIn cmp row index list cut
  ends_back cut index list at splits =
      let up = before_up lists index (suc index) (omega arith) in
      record {
        lies = lies_in cut index (entries_before lists (suc index)) up (omega arith) splits;
        same = same_cut cmp lists End cut index (length list) list at (splits_last cmp list) (subst (λ (n : ℕ). SplitsAt cmp (joined lists) cut n) (before_more lists index list at) splits);
      }

  pub last_ends : (end : ℕ) → end ≡ length lists → (index : ℕ) (list : List InternalEntry) → suc index ≡ end → slice_get lists index ≡ Some list → EndsBackIn cmp row index list End
  last_ends end e index list same at =
      let all = before_end lists (suc index) (omega (arith, same, e)) in
      ends_back End index list at (subst (λ (n : ℕ). SplitsAt cmp (joined lists) End n) (sym all) (splits_last cmp (joined lists)))

  module _ (total : IsTotalOrder cmp) (rises : Rises cmp (joined lists)) where
    pub seek_ends : (target : List ℕ) (key : Key) (start : ℕ) → IsKey target key → IsFirstTable cmp target row start → (list : List InternalEntry) → slice_get lists start ≡ Some list → EndsIn cmp row start list (Some key) (Below key)
    seek_ends target key start is first list at =
        let table = its_table start list at in
        let one = list_at cmp source row lists start table.0 have table.1 in
        let same : one.0 ≡ list = let t : Some one.0 ≡ Some list = sym one.1 ∙ at in cc in
        let last = last_of (length one.0) one.2.spelled.some in
        let long = last.1 in
        let entry = some_at one.0 last.0 (omega (arith, long)) in
        let fails : false ≡ is_below cmp key entry.0 = below_is cmp table.0.table.largest target entry.0.key key false (first.here table.0 table.1) (one.2.keys.last last.0 entry.0 last.1 entry.1) is in
        let most = leading_most cmp key one.0 last.0 entry.0 (splits_key cmp total one.0 one.2.spelled.rises key) entry.1 (sym fails) in
        let less : leading (is_below cmp key) list < length list = subst (λ (l : List InternalEntry). leading (is_below cmp key) l < length l) same (omega (arith, most, long)) in
        let sought = reaches cmp total key source row lists target start is have rises first ∙ ended_in (is_below cmp key) lists start list at less in
        let more = before_more lists start list at in
        record {
          lies = lies_in (Below key) start (first_from cmp key (joined lists)) (omega (arith, sought)) (omega (arith, sought, more, less)) (splits_key cmp total (joined lists) rises key);
          same = λ other member. refl;
          stops = less;
        }

    -- ---- beside the entry on which a cursor stands

    module _ (place : Option ℕ) (n : ℕ) (place_is : place ≡ Some n) (inside : n < length (joined lists)) where
      its_entry : (entry : InternalEntry) × (slice_get (joined lists) n ≡ Some entry)
      its_entry = some_at (joined lists) n inside

      splits_behind : SplitsAt cmp (joined lists) (next_cut (listed (joined lists) place)) (suc n)
      splits_behind =
          subst (λ (cut : Cut). SplitsAt cmp (joined lists) cut (suc n)) (sym (next_at (listed (joined lists) place) n its_entry.0 place_is its_entry.1))
          (splits_next cmp total (joined lists) rises n its_entry.0 its_entry.1)

      splits_in_front : SplitsAt cmp (joined lists) (prev_cut (listed (joined lists) place)) n
      splits_in_front =
          subst (λ (cut : Cut). SplitsAt cmp (joined lists) cut n) (sym (prev_at (listed (joined lists) place) n its_entry.0 place_is its_entry.1))
          (splits_prev cmp total (joined lists) rises n its_entry.0 its_entry.1)

      pub next_ends : (start : ℕ) → within (joined lists) (entries_before lists start) ≡ option_and_then (index_behind (joined lists)) place → (list : List InternalEntry) → slice_get lists start ≡ Some list
          → EndsIn cmp row start list None (next_cut (listed (joined lists) place))
      next_ends start follows list at =
          ends_first (next_cut (listed (joined lists) place)) start list at
          (splits_there cmp (joined lists) (next_cut (listed (joined lists) place)) (entries_before lists start) (suc n) (follows ∙ ap (option_and_then (index_behind (joined lists))) place_is) splits_behind)

      pub prev_ends : (end : ℕ) → index_before (entries_before lists end) ≡ option_and_then index_before place → (index : ℕ) (list : List InternalEntry) → suc index ≡ end → slice_get lists index ≡ Some list
          → EndsBackIn cmp row index list (prev_cut (listed (joined lists) place))
      prev_ends end precedes index list same at =
          let count : entries_before lists (suc index) ≡ n = ap (entries_before lists) same ∙ same_before (entries_before lists end) n (precedes ∙ ap (option_and_then index_before) place_is) in
          ends_back (prev_cut (listed (joined lists) place)) index list at (subst (λ (m : ℕ). SplitsAt cmp (joined lists) (prev_cut (listed (joined lists) place)) m) (sym count) splits_in_front)

    -- within the open table
    pub open_next : {K : Type 0} {g : _} (here : Option (InTable K g)) (place : Option ℕ) → IsPlacedRow cmp source lists here place → IsTornHere cmp source here (next_cut (listed (joined lists) place))
        → IsOpenTorn cmp source row here (next_cut (listed (joined lists) place))
    open_next None place h torn = torn
    open_next (Some here) place h torn =
        let less = h.stands.inside h.inside refl in
        let fits = before_inside lists here.index h.list h.list_is in
        let more = before_more lists here.index h.list h.list_is in
        let n : ℕ = entries_before lists here.index + h.inside in
        (lies_in (next_cut (listed (joined lists) place)) here.index (suc n) (omega arith) (omega (arith, less, more)) (splits_behind place n h.place_is (omega (arith, less, fits))), torn)

    pub open_prev : {K : Type 0} {g : _} (here : Option (InTable K g)) (place : Option ℕ) → IsPlacedRow cmp source lists here place → IsTornHere cmp source here (prev_cut (listed (joined lists) place))
        → IsOpenTorn cmp source row here (prev_cut (listed (joined lists) place))
    open_prev None place h torn = torn
    open_prev (Some here) place h torn =
        let less = h.stands.inside h.inside refl in
        let fits = before_inside lists here.index h.list h.list_is in
        let more = before_more lists here.index h.list h.list_is in
        let n : ℕ = entries_before lists here.index + h.inside in
        (lies_in (prev_cut (listed (joined lists) place)) here.index n (omega arith) (omega (arith, less, more)) (splits_in_front place n h.place_is (omega (arith, less, fits))), torn)

-- ---- the cut beside an entry of one list is that beside it in all

module _ {K : Type 0} {g : _} (cmp : Cmp) (source : Seen) (lists : List (List InternalEntry)) (here : InTable K g) (place : Option ℕ) (h : IsInTable cmp source lists here.index here.cursor.placed here.cursor.table.value.frame here.cursor.here place) where
  its_own : (entry : InternalEntry) × (slice_get h.list h.inside ≡ Some entry)
  its_own = some_at h.list h.inside (h.stands.inside h.inside refl)

  in_all : slice_get (joined lists) (entries_before lists here.index + h.inside) ≡ Some its_own.0
  in_all = item_in lists here.index h.list h.inside its_own.0 h.list_is its_own.1

  pub next_same : next_cut (listed h.list (Some h.inside)) ≡ next_cut (listed (joined lists) place)
  next_same = next_at (listed h.list (Some h.inside)) h.inside its_own.0 refl its_own.1 ∙ sym (next_at (listed (joined lists) place) (entries_before lists here.index + h.inside) its_own.0 h.place_is in_all)

  pub prev_same : prev_cut (listed h.list (Some h.inside)) ≡ prev_cut (listed (joined lists) place)
  prev_same = prev_at (listed h.list (Some h.inside)) h.inside its_own.0 refl its_own.1 ∙ sym (prev_at (listed (joined lists) place) (entries_before lists here.index + h.inside) its_own.0 h.place_is in_all)

-- ---- where a step, and a search after it, fail

module _ {K : Type 0} {g : _} (cmp : Cmp) (source : Seen) (row : List PlacedTable) (total : IsTotalOrder cmp) (here : Option (InTable K g)) (at : Listed) (h : ListsTables cmp source row here at) where
  rises_all : Rises cmp (joined h.lists)
  rises_all = subst (Rises cmp) h.entries_are h.rises

  next_is : next_cut (listed (joined h.lists) at.place) ≡ next_cut at
  next_is = ap (λ (es : List InternalEntry). next_cut (listed es at.place)) (sym h.entries_are)

  prev_is : prev_cut (listed (joined h.lists) at.place) ≡ prev_cut at
  prev_is = ap (λ (es : List InternalEntry). prev_cut (listed es at.place)) (sym h.entries_are)

  pub step_next : IsTornHere cmp source here (next_cut (listed (joined h.lists) at.place)) → IsOpenTorn cmp source row here (next_cut at)
  step_next torn = subst (λ (cut : Cut). IsOpenTorn cmp source row here cut) next_is (open_next cmp source row h.lists h.tables total rises_all here at.place h.place torn)

  pub step_prev : IsTornHere cmp source here (prev_cut (listed (joined h.lists) at.place)) → IsOpenTorn cmp source row here (prev_cut at)
  step_prev torn = subst (λ (cut : Cut). IsOpenTorn cmp source row here cut) prev_is (open_prev cmp source row h.lists h.tables total rises_all here at.place h.place torn)

  place_inside : (n : ℕ) → at.place ≡ Some n → n < length (joined h.lists)
  place_inside n is = subst (λ (es : List InternalEntry). n < length es) h.entries_are (h.inside n is)

  pub search_next : (start : ℕ) → within (joined h.lists) (entries_before h.lists start) ≡ option_and_then (index_behind (joined h.lists)) at.place → (list : List InternalEntry) → slice_get h.lists start ≡ Some list
      → EndsIn cmp row start list None (next_cut at)
  search_next start follows list there = subst (λ (cut : Cut). EndsIn cmp row start list None cut) next_is (by at.place place_inside follows)
    where
      by : (place : Option ℕ) → ((n : ℕ) → place ≡ Some n → n < length (joined h.lists)) → within (joined h.lists) (entries_before h.lists start) ≡ option_and_then (index_behind (joined h.lists)) place
          → EndsIn cmp row start list None (next_cut (listed (joined h.lists) place))
      by None inside e =
          let some = (its_table cmp source row h.lists h.tables start list there).2 in
          let fits = before_inside h.lists start list there in
          absurd (let bad : Some (entries_before h.lists start) ≡ None = sym (within_some (joined h.lists) (entries_before h.lists start) (omega (arith, some, fits))) ∙ e in cc)
      by (Some n) inside e = next_ends cmp source row h.lists h.tables total rises_all (Some n) n refl (inside n refl) start e list there

  pub search_prev : (end : ℕ) → index_before (entries_before h.lists end) ≡ option_and_then index_before at.place → (index : ℕ) (list : List InternalEntry) → suc index ≡ end → slice_get h.lists index ≡ Some list
      → EndsBackIn cmp row index list (prev_cut at)
  search_prev end precedes index list same there = subst (λ (cut : Cut). EndsBackIn cmp row index list cut) prev_is (by at.place place_inside precedes)
    where
      by : (place : Option ℕ) → ((n : ℕ) → place ≡ Some n → n < length (joined h.lists)) → index_before (entries_before h.lists end) ≡ option_and_then index_before place → EndsBackIn cmp row index list (prev_cut (listed (joined h.lists) place))
      by None inside e =
          let some = (its_table cmp source row h.lists h.tables index list there).2 in
          let none : entries_before h.lists end ≡ 0 = same_before (entries_before h.lists end) 0 e in
          let more : entries_before h.lists end ≡ entries_before h.lists index + length list = ap (entries_before h.lists) (sym same) ∙ before_more h.lists index list there in
          absurd (omega (arith, some, none, more))
      by (Some n) inside e = prev_ends cmp source row h.lists h.tables total rises_all (Some n) n refl (inside n refl) end e index list same there
