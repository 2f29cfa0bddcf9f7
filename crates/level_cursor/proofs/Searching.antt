-- Searches over the tables of a row, while a source is read.
use Rattle.std.proofs.Common.{◌≡◌, ◌<◌, ◌≤◌, ◌+◌, ◌-◌, ℕ, suc, Bool, true, false, List, [], ◌∷◌, Option, Some, None, length, drop, is_some, IsTrue, refl, sym, ap, ◌∙◌, subst, arith, inl, inr}
use Rattle.std.specs.List.{slice_get}
use Rattle.std.proofs.lemmas.Bool.{cases_lt}
use Rattle.std.proofs.lemmas.Option.{slice_get_within}
use Rattle.std.specs.Prelude.{Contains}
use Rattle.block.specs.Places.{Placed}
use Rattle.cursor.specs.Cuts.{Cut, Front, End, Below, SameCut}
use Rattle.cursor.specs.Merging.{ahead, listed}
use Rattle.cursor.specs.Places.{Cmp, Listed, index_before, leading, to_first, to_key, within}
use Rattle.cursor.proofs.Leading.{within_cases, within_none, within_some}
use Rattle.edits.specs.declared.field.PlacedTable.{PlacedTable}
use Rattle.ikey.specs.Entries.{InternalEntry}
use Rattle.ikey.specs.Keys.{Key, IsKey}
use Rattle.level_cursor.specs.InRows.{HasList, ListsNumber, HaveLists, IsInTable, LiesIn, entries_before, joined}
use Rattle.level_cursor.specs.Searches.{EndsBackIn, EndsIn, IsAimed, aimed_cut, passes}
use Rattle.level_cursor.specs.declared.row_search.Aim.{Aim}
use Rattle.level_cursor.specs.declared.row_search.Aim.TheVariants.{First, From}
use Rattle.level_cursor.specs.RowLists.{before_more, before_zero, list_at, member_at, some_at}
use Rattle.level_cursor.proofs.Having.{carried_list, have_length}
use Rattle.level_cursor.proofs.Lists.{before_inside, before_up, ended_in, ended_past, passed_list}
use Rattle.table_access.specs.declared.in_block.InBlock.{InBlock}
use Rattle.table_access.specs.TableLaws.{placed_in}
use Rattle.table_access.specs.TablePlaces.{ListsTable, block_stands}
use Rattle.table_access.specs.Tables.{Seen, Carries, Only}
use Rattle.table_access.specs.TableLaws.{carries_both, carries_itself, carries_more}
use Rattle.table.specs.Frame.{Frame}

-- ---- what is kept anew

-- after tables of the row, one of them is read
pub read_one : (cmp : Cmp) (old now new : Seen) (row : List PlacedTable) (placed : PlacedTable) → Contains row placed → Carries cmp (ListsNumber row) old now → Carries cmp (Only placed.table.number) now new → Carries cmp (ListsNumber row) old new
read_one cmp old now new row placed there first second = carries_both cmp old now new first (carries_more cmp now new (λ number same. (placed, there, sym same)) second)

-- a table is opened, and then read
pub read_opened : (cmp : Cmp) (old mid new : Seen) (number opened : ℕ) → opened ≡ number → Carries cmp (Only number) old mid → Carries cmp (Only opened) mid new → Carries cmp (Only number) old new
read_opened cmp old mid new number opened is first second = carries_both cmp old mid new first (carries_more cmp mid new (λ other same. same ∙ is) second)

-- ---- one table

pub none_leading : (cmp : Cmp) (entries : List InternalEntry) → leading (passes cmp None) entries ≡ 0
none_leading cmp [] = refl
none_leading cmp (entry ∷ entries) = refl

stands_if : (cmp : Cmp) (source : Seen) (opened : PlacedTable) (frame : Frame) (here : Option (InBlock Placed)) (at : Listed) → ListsTable cmp source opened frame here at → block_stands here ≡ is_some at.place
stands_if cmp source opened frame here at h = placed_in h.groups here at.place h.place

-- whether the place is in the list
inside_if : (list : List InternalEntry) (n : ℕ) → is_some (within list n) ≡ true → n < length list
inside_if list n stands = elim (within_cases list n) [
  | inl h ↦ h.0
  | inr h ↦ absurd (let none : is_some (within list n) ≡ false = ap is_some h.1 in let bad : true ≡ false = sym stands ∙ none in cc)
]

past_if : (list : List InternalEntry) (n : ℕ) → is_some (within list n) ≡ false → length list ≤ n
past_if list n nowhere = elim (within_cases list n) [
  | inl h ↦ absurd (let some : is_some (within list n) ≡ true = ap is_some h.1 in let bad : false ≡ true = sym nowhere ∙ some in cc)
  | inr h ↦ h.0
]

module _ {numbers : ℕ → Type 0} (cmp : Cmp) (old mid new : Seen) (placed opened : PlacedTable) (frame : Frame) (begun here : Option (InBlock Placed)) (carries : Carries cmp numbers mid new)
    (begins : IsTrue mid.facts.faithful → (list : List InternalEntry) → HasList cmp old placed list → ListsTable cmp mid opened frame begun (listed list None)) (t : IsTrue new.facts.faithful) (list : List InternalEntry)
    (has : HasList cmp old placed list) where
  listed_first : ListsTable cmp mid opened frame begun (listed list None)
  listed_first = begins (carries.reads.faithful t) list has

  pub entered_first : (goal : Option Key) → IsAimed First goal → ((at : Listed) → ListsTable cmp mid opened frame begun at → ListsTable cmp new opened frame here (record at { place = to_first at }))
      → ListsTable cmp new opened frame here (listed list (ahead (passes cmp goal) list))
  entered_first None aimed moves =
      let same : 0 ≡ leading (passes cmp None) list = sym (none_leading cmp list) in
      subst (λ (n : ℕ). ListsTable cmp new opened frame here (listed list (within list n))) same (moves (listed list None) listed_first)
  entered_first (Some key) aimed moves = absurd aimed

  pub entered_key : (target : _) (goal : Option Key) → IsAimed (From target) goal
      → ((key : Key) → IsKey target.now key → (at : Listed) → ListsTable cmp mid opened frame begun at → ListsTable cmp new opened frame here (record at { place = to_key cmp key at }))
      → ListsTable cmp new opened frame here (listed list (ahead (passes cmp goal) list))
  entered_key target None aimed moves = absurd aimed
  entered_key target (Some key) aimed moves = moves key aimed (listed list None) listed_first

pub opened_at : (cmp : Cmp) (new : Seen) (placed opened : PlacedTable) (frame : Frame) (here : Option (InBlock Placed)) (list : List InternalEntry) → opened ≡ placed → here ≡ None → ListsTable cmp new placed frame None (listed list None)
    → ListsTable cmp new opened frame here (listed list None)
opened_at cmp new placed opened frame here list same nowhere h =
    subst (λ (p : PlacedTable). ListsTable cmp new p frame here (listed list None)) (sym same) (subst (λ (o : Option (InBlock Placed)). ListsTable cmp new placed frame o (listed list None)) (sym nowhere) h)

pub first_refused : (cmp : Cmp) (list : List InternalEntry) (goal : Option Key) (cut : Cut) → IsAimed First goal → SameCut cmp list (aimed_cut goal) cut → SameCut cmp list Front cut
first_refused cmp list None cut aimed same = same
first_refused cmp list (Some key) cut aimed same = absurd aimed

pub key_refused : {D : Type 0} (cmp : Cmp) (list : List InternalEntry) (target : _) (goal : Option Key) (cut : Cut) → IsAimed (From target) goal → SameCut cmp list (aimed_cut goal) cut
    → ((key : Key) → IsKey target.now key → SameCut cmp list (Below key) cut → D) → D
key_refused cmp list target None cut aimed same f = absurd aimed
key_refused cmp list target (Some key) cut aimed same f = f key aimed same

-- ---- on

module _ (cmp : Cmp) (aim : Aim) (old now : Seen) (row : List PlacedTable) (start index : ℕ) where
  -- what is sought stands from this table on where it stands from the start on
  pub record IsSearching : Type 0 where
    pub from : start ≤ index
    pub carries : Carries cmp (ListsNumber row) old now
    pub still : now.facts.failures ≡ old.facts.failures
    pub reached : IsTrue now.facts.faithful → (lists : List (List InternalEntry)) → HaveLists cmp old row lists → (goal : Option Key) → IsAimed aim goal
        → entries_before lists start + leading (passes cmp goal) (joined (drop start lists)) ≡ entries_before lists index + leading (passes cmp goal) (joined (drop index lists))

pub searching_begins : (cmp : Cmp) (aim : Aim) (old : Seen) (row : List PlacedTable) (start : ℕ) → IsSearching cmp aim old old row start start
searching_begins cmp aim old row start = record { from = omega arith; carries = carries_itself cmp old; still = refl; reached = λ t lists have goal aimed. refl }

module _ (cmp : Cmp) (aim : Aim) (old now new : Seen) (row : List PlacedTable) (start index : ℕ) (s : IsSearching cmp aim old now row start index) (placed : PlacedTable) (carries : Carries cmp (Only placed.table.number) now new)
    (at : slice_get row index ≡ Some placed) (opened : PlacedTable) (frame : Frame) (here : Option (InBlock Placed))
    (found : IsTrue new.facts.faithful → (list : List InternalEntry) → HasList cmp now placed list → (goal : Option Key) → IsAimed aim goal → ListsTable cmp new opened frame here (listed list (ahead (passes cmp goal) list))) where
  its_list : (lists : List (List InternalEntry)) → HaveLists cmp old row lists → (list : List InternalEntry) × (slice_get lists index ≡ Some list) × HasList cmp old placed list
  its_list lists have = list_at cmp old row lists index placed have at

  its_place : IsTrue new.facts.faithful → (lists : List (List InternalEntry)) (have : HaveLists cmp old row lists) (goal : Option Key) → IsAimed aim goal
      → ListsTable cmp new opened frame here (listed (its_list lists have).0 (ahead (passes cmp goal) (its_list lists have).0))
  its_place t lists have goal aimed = found t (its_list lists have).0 (carried_list cmp old now placed (its_list lists have).0 s.carries (carries.reads.faithful t) (its_list lists have).2) goal aimed

  pub searching_on : block_stands here ≡ false → new.facts.failures ≡ now.facts.failures → IsSearching cmp aim old new row start (index + 1)
  searching_on nowhere stood = record {
    from = (let from = s.from in omega (arith, from));
    carries = read_one cmp old now new row placed (member_at row index placed at) s.carries carries;
    still = stood ∙ s.still;
    reached = λ t lists have goal aimed.
        let one = its_list lists have in
        let test : InternalEntry → Bool = passes cmp goal in
        let lists_it = its_place t lists have goal aimed in
        let none : is_some (ahead test one.0) ≡ false = sym (stands_if cmp new opened frame here (listed one.0 (ahead test one.0)) lists_it) ∙ nowhere in
        let long = past_if one.0 (leading test one.0) none in
        let e : suc index ≡ index + 1 = omega arith in
        subst (λ (n : ℕ). entries_before lists start + leading test (joined (drop start lists)) ≡ entries_before lists n + leading test (joined (drop n lists))) e
        (s.reached (carries.reads.faithful t) lists have goal aimed ∙ passed_list test lists index one.0 one.1 long);
  }

  pub searching_found : block_stands here ≡ true → IsTrue new.facts.faithful → (lists : List (List InternalEntry)) → HaveLists cmp old row lists → (goal : Option Key) → IsAimed aim goal
      → IsInTable cmp new lists index opened frame here (within (joined lists) (entries_before lists start + leading (passes cmp goal) (joined (drop start lists))))
  searching_found stands t lists have goal aimed =
      let one = its_list lists have in
      let test : InternalEntry → Bool = passes cmp goal in
      let lists_it = its_place t lists have goal aimed in
      let some : is_some (ahead test one.0) ≡ true = sym (stands_if cmp new opened frame here (listed one.0 (ahead test one.0)) lists_it) ∙ stands in
      let less = inside_if one.0 (leading test one.0) some in
      let fits = before_inside lists index one.0 one.1 in
      record {
        list = one.0;
        inside = leading test one.0;
        list_is = one.1;
        stands = subst (λ (p : Option ℕ). ListsTable cmp new opened frame here (listed one.0 p)) (within_some one.0 (leading test one.0) less) lists_it;
        place_is = ap (within (joined lists)) (s.reached (carries.reads.faithful t) lists have goal aimed ∙ ended_in test lists index one.0 one.1 less)
            ∙ within_some (joined lists) (entries_before lists index + leading test one.0) (omega (arith, less, fits));
      }

-- A search that was refused came to the table in which it would have ended.
pub searched_torn : (cmp : Cmp) (aim : Aim) (old now : Seen) (row : List PlacedTable) (start index : ℕ) → IsSearching cmp aim old now row start index → IsTrue now.facts.faithful → (placed : PlacedTable) → slice_get row index ≡ Some placed
    → (lists : List (List InternalEntry)) → HaveLists cmp old row lists → (goal : Option Key) → IsAimed aim goal → (cut : Cut) → ((list : List InternalEntry) → slice_get lists start ≡ Some list → EndsIn cmp row start list goal cut)
    → (list : List InternalEntry) × HasList cmp now placed list × LiesIn cmp row index cut × SameCut cmp list (aimed_cut goal) cut
searched_torn cmp aim old now row start index s t placed at lists have goal aimed cut ends =
    let one = list_at cmp old row lists index placed have at in
    let from = s.from in
    let within_row = slice_get_within row index placed at in
    let first = some_at row start (omega (arith, from, within_row)) in
    let its = list_at cmp old row lists start first.0 have first.1 in
    let e = ends its.0 its.1 in
    let same : start ≡ index = elim (cases_lt start index) [
      | inl less ↦
          let reached = s.reached t lists have goal aimed in
          let ended = ended_in (passes cmp goal) lists start its.0 its.1 e.stops in
          let more = before_more lists start its.0 its.1 in
          let up = before_up lists (suc start) index (omega (arith, less)) in
          let stops = e.stops in
          absurd (omega (arith, reached, ended, more, up, stops))
      | inr ge ↦ omega (arith, from, ge)
    ] in
    let is : its.0 ≡ one.0 = let both : Some its.0 ≡ Some one.0 = sym its.1 ∙ (ap (slice_get lists) same ∙ one.1) in cc in (
      one.0,
      carried_list cmp old now placed one.0 s.carries t one.2,
      subst (λ (n : ℕ). LiesIn cmp row n cut) same e.lies,
      subst (λ (l : List InternalEntry). SameCut cmp l (aimed_cut goal) cut) is e.same,
    )

pub searching_none : (cmp : Cmp) (aim : Aim) (old now : Seen) (row : List PlacedTable) (start index : ℕ) → IsSearching cmp aim old now row start index → length row ≤ index
    → IsTrue now.facts.faithful → (lists : List (List InternalEntry)) → HaveLists cmp old row lists → (goal : Option Key) → IsAimed aim goal
    → within (joined lists) (entries_before lists start + leading (passes cmp goal) (joined (drop start lists))) ≡ None
searching_none cmp aim old now row start index s end t lists have goal aimed =
    let l = have_length cmp old row lists have in
    let past : length lists ≤ index = omega (arith, l, end) in
    let test : InternalEntry → Bool = passes cmp goal in
    ap (within (joined lists)) (s.reached t lists have goal aimed ∙ ended_past test lists index past) ∙ within_none (joined lists) (length (joined lists)) (omega arith)

-- ---- back

last_if : (list : List InternalEntry) → is_some (index_before (length list)) ≡ true → (inside : ℕ) × (length list ≡ suc inside)
last_if [] stands = absurd (let bad : false ≡ true = stands in cc)
last_if (x ∷ list) stands = (length list, refl)

none_if : (list : List InternalEntry) → is_some (index_before (length list)) ≡ false → length list ≡ 0
none_if [] nowhere = refl
none_if (x ∷ list) nowhere = absurd (let bad : true ≡ false = nowhere in cc)

before_of : (m n : ℕ) → m ≡ suc n → index_before m ≡ Some n
before_of m n e = ap index_before e

module _ (cmp : Cmp) (old now : Seen) (row : List PlacedTable) (end step : ℕ) where
  -- the tables that were read have no entry
  pub record IsSearchingBack : Type 0 where
    pub carries : Carries cmp (ListsNumber row) old now
    pub still : now.facts.failures ≡ old.facts.failures
    pub same : IsTrue now.facts.faithful → (lists : List (List InternalEntry)) → HaveLists cmp old row lists → end ≤ length lists → entries_before lists (end - step) ≡ entries_before lists end

pub back_begins : (cmp : Cmp) (old : Seen) (row : List PlacedTable) (end : ℕ) → IsSearchingBack cmp old old row end 0
back_begins cmp old row end = record { carries = carries_itself cmp old; still = refl; same = λ t lists have fits. let e : end - 0 ≡ end = omega arith in ap (entries_before lists) e }

module _ (cmp : Cmp) (old now new : Seen) (row : List PlacedTable) (end step index : ℕ) (less : step < end) (its_index : index ≡ end - step - 1) (s : IsSearchingBack cmp old now row end step) (placed : PlacedTable)
    (carries : Carries cmp (Only placed.table.number) now new) (at : slice_get row index ≡ Some placed) (opened : PlacedTable) (frame : Frame) (here : Option (InBlock Placed))
    (found : IsTrue new.facts.faithful → (list : List InternalEntry) → HasList cmp now placed list → ListsTable cmp new opened frame here (listed list (index_before (length list)))) where
  the_list : (lists : List (List InternalEntry)) → HaveLists cmp old row lists → (list : List InternalEntry) × (slice_get lists index ≡ Some list) × HasList cmp old placed list
  the_list lists have = list_at cmp old row lists index placed have at

  the_place : IsTrue new.facts.faithful → (lists : List (List InternalEntry)) (have : HaveLists cmp old row lists)
      → ListsTable cmp new opened frame here (listed (the_list lists have).0 (index_before (length (the_list lists have).0)))
  the_place t lists have = found t (the_list lists have).0 (carried_list cmp old now placed (the_list lists have).0 s.carries (carries.reads.faithful t) (the_list lists have).2)

  ends_here : IsTrue new.facts.faithful → (lists : List (List InternalEntry)) (have : HaveLists cmp old row lists) → end ≤ length lists → entries_before lists end ≡ entries_before lists index + length (the_list lists have).0
  ends_here t lists have fits =
      let e : suc index ≡ end - step = omega (arith, its_index, less) in
      sym (s.same (carries.reads.faithful t) lists have fits) ∙ ap (entries_before lists) (sym e) ∙ before_more lists index (the_list lists have).0 (the_list lists have).1

  pub back_on : block_stands here ≡ false → new.facts.failures ≡ now.facts.failures → IsSearchingBack cmp old new row end (step + 1)
  back_on nowhere stood = record {
    carries = read_one cmp old now new row placed (member_at row index placed at) s.carries carries;
    still = stood ∙ s.still;
    same = λ t lists have fits.
        let one = the_list lists have in
        let none = none_if one.0 (sym (stands_if cmp new opened frame here (listed one.0 (index_before (length one.0))) (the_place t lists have)) ∙ nowhere) in
        let sums = ends_here t lists have fits in
        let e : end - (step + 1) ≡ index = omega (arith, its_index) in
        ap (entries_before lists) e ∙ (let sum : entries_before lists index ≡ entries_before lists end = omega (arith, sums, none) in sum);
  }

  pub back_found : block_stands here ≡ true → IsTrue new.facts.faithful → (lists : List (List InternalEntry)) → HaveLists cmp old row lists → end ≤ length lists
      → IsInTable cmp new lists index opened frame here (index_before (entries_before lists end))
  back_found stands t lists have fits =
      let one = the_list lists have in
      let l = last_if one.0 (sym (stands_if cmp new opened frame here (listed one.0 (index_before (length one.0))) (the_place t lists have)) ∙ stands) in
      let sums = ends_here t lists have fits in
      let long = l.1 in
      record {
        list = one.0;
        inside = l.0;
        list_is = one.1;
        stands = subst (λ (p : Option ℕ). ListsTable cmp new opened frame here (listed one.0 p)) (before_of (length one.0) l.0 long) (the_place t lists have);
        place_is = before_of (entries_before lists end) (entries_before lists index + l.0) (omega (arith, sums, long));
      }

pub back_torn : (cmp : Cmp) (old now : Seen) (row : List PlacedTable) (end step index : ℕ) → step < end → index ≡ end - step - 1 → IsSearchingBack cmp old now row end step → IsTrue now.facts.faithful → (placed : PlacedTable)
    → slice_get row index ≡ Some placed → (lists : List (List InternalEntry)) → HaveLists cmp old row lists → end ≤ length lists → (cut : Cut)
    → ((last : ℕ) (list : List InternalEntry) → suc last ≡ end → slice_get lists last ≡ Some list → EndsBackIn cmp row last list cut)
    → (list : List InternalEntry) × HasList cmp now placed list × LiesIn cmp row index cut × SameCut cmp list End cut
back_torn cmp old now row end step index less its_index s t placed at lists have fits cut ends =
    let one = list_at cmp old row lists index placed have at in
    let none : step ≡ 0 = elim (cases_lt 0 step) [
      | inl some ↦
          let last : ℕ = end - 1 in
          let long = have_length cmp old row lists have in
          let table = some_at row last (omega (arith, less, fits, long)) in
          let its = list_at cmp old row lists last table.0 have table.1 in
          let e : suc last ≡ end = omega (arith, less) in
          let more : entries_before lists end ≡ entries_before lists last + length its.0 = ap (entries_before lists) (sym e) ∙ before_more lists last its.0 its.1 in
          let up = before_up lists (end - step) last (omega (arith, some)) in
          let same = s.same t lists have fits in
          let has = its.2.spelled.some in
          absurd (omega (arith, more, up, same, has))
      | inr le ↦ omega (arith, le)
    ] in
    let e = ends index one.0 (omega (arith, less, its_index, none)) one.1 in
    (one.0, carried_list cmp old now placed one.0 s.carries t one.2, e.lies, e.same)

pub back_none : (cmp : Cmp) (old now : Seen) (row : List PlacedTable) (end step : ℕ) → IsSearchingBack cmp old now row end step → end ≤ step
    → IsTrue now.facts.faithful → (lists : List (List InternalEntry)) → HaveLists cmp old row lists → end ≤ length lists → index_before (entries_before lists end) ≡ None
back_none cmp old now row end step s over t lists have fits =
    let e : end - step ≡ 0 = omega (arith, over) in
    ap index_before (sym (s.same t lists have fits) ∙ ap (entries_before lists) e ∙ before_zero lists)
