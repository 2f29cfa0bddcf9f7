-- Searches over the data blocks of a table, while a source is read.
use Rattle.std.proofs.Common.{◌≡◌, ◌<◌, ◌≤◌, ◌+◌, ◌-◌, ℕ, suc, true, false, List, [], ◌∷◌, Option, Some, None, length, is_some, IsTrue, refl, sym, ap, ◌∙◌, subst, arith, inl, inr}
use Rattle.std.specs.List.{slice_get}
use Rattle.std.proofs.lemmas.Bool.{cases_lt}
use Rattle.std.proofs.lemmas.Option.{slice_get_within}
use Rattle.block.specs.Places.{Placed, within, last_of}
use Rattle.block.proofs.Moves.{within_some, within_none}
use Rattle.cursor.specs.Places.{Cmp, index_before}
use Rattle.cursor.specs.Places.{within as within_list}
use Rattle.edits.specs.declared.field.PlacedTable.{PlacedTable}
use Rattle.ikey.specs.Entries.{Pair}
use Rattle.table_access.specs.TablePlaces.{IsInBlock, StopsAt, joined, pairs_before}
use Rattle.table_access.specs.Ends.{HasIntactIn}
use Rattle.table_access.specs.Tables.{Seen, Carries, HasData, Only, SaysOf}
use Rattle.table_access.specs.Telling.{IsPassed}
use Rattle.table_access.specs.TableLaws.{carries_both, carries_itself}
use Rattle.table_access.proofs.Carrying.{still_data, still_has}
use Rattle.table_access.proofs.Placing.{before_inside, before_more, before_zero}
use Rattle.table_access.proofs.Stopping.{HasPassed, passed_none, passed_block, stops_in, stops_nowhere}
use Rattle.table.specs.Frame.{Frame, IsFrame}

-- where it stands in a block
pub inside_if : (pairs : List Pair) (stop : ℕ) (place : Option ℕ) → place ≡ within pairs stop → is_some place ≡ true → (stop < length pairs) × (place ≡ Some stop)
inside_if pairs stop place is stands = elim (cases_lt stop (length pairs)) [
  | inl less ↦ (less, is ∙ within_some pairs stop less)
  | inr ge ↦ absurd (let none : is_some place ≡ false = ap is_some (is ∙ within_none pairs stop ge) in let bad : true ≡ false = sym stands ∙ none in cc)
]

pub past_if : (pairs : List Pair) (stop : ℕ) (place : Option ℕ) → place ≡ within pairs stop → is_some place ≡ false → length pairs ≤ stop
past_if pairs stop place is nowhere = elim (cases_lt stop (length pairs)) [
  | inl less ↦ absurd (let some : is_some place ≡ true = ap is_some (is ∙ within_some pairs stop less) in let bad : false ≡ true = sym nowhere ∙ some in cc)
  | inr ge ↦ ge
]

pub within_yes : (pairs : List Pair) (n : ℕ) → n < length pairs → within_list pairs n ≡ Some n
within_yes = within_some

pub within_no : (pairs : List Pair) (n : ℕ) → length pairs ≤ n → within_list pairs n ≡ None
within_no = within_none

module _ (cmp : Cmp) (passed : List ℕ → Type 0) (old now : Seen) (placed : PlacedTable) (frame : Frame) (start index : ℕ) where
  -- the blocks before this one are passed
  pub record IsSearching : Type 0 where
    pub carries : Carries cmp (Only placed.table.number) old now
    pub still : now.facts.failures ≡ old.facts.failures
    pub passed_all : IsTrue now.facts.faithful → (groups : List (List Pair)) → HasData cmp old placed frame groups → HasPassed passed groups start index

pub searching_begins : (cmp : Cmp) (passed : List ℕ → Type 0) (old : Seen) (placed : PlacedTable) (frame : Frame) (start : ℕ) → IsSearching cmp passed old old placed frame start start
searching_begins cmp passed old placed frame start = record { carries = carries_itself cmp old; still = refl; passed_all = λ t groups has. passed_none passed groups start }

module _ (cmp : Cmp) (passed : List ℕ → Type 0) (old now new : Seen) (placed : PlacedTable) (frame : Frame) (start index : ℕ) (s : IsSearching cmp passed old now placed frame start index) (carries : Carries cmp (Only placed.table.number) now new)
    (pairs : List Pair) (found : IsTrue new.facts.faithful → (groups : List (List Pair)) → HasData cmp now placed frame groups → slice_get groups index ≡ Some pairs)
    (cursor : Placed) (its : cursor.pairs ≡ pairs) (stops : (stop : ℕ) × StopsAt passed pairs 0 stop × (cursor.place ≡ within pairs stop)) where
  block_there : IsTrue new.facts.faithful → (groups : List (List Pair)) → HasData cmp old placed frame groups → slice_get groups index ≡ Some pairs
  block_there t groups has = let m = carries.reads.faithful t in found t groups (still_data cmp old now placed frame groups s.carries m has)

  pub searching_on : is_some cursor.place ≡ false → new.facts.failures ≡ now.facts.failures → IsSearching cmp passed old new placed frame start (index + 1)
  searching_on nowhere stood = record {
    carries = carries_both cmp old now new s.carries carries;
    still = stood ∙ s.still;
    passed_all = λ t groups has.
        let more = passed_block passed groups start index pairs stops.0 (s.passed_all (carries.reads.faithful t) groups has) (block_there t groups has) stops.1 (past_if pairs stops.0 cursor.place stops.2 nowhere) in
        let e : suc index ≡ index + 1 = omega arith in
        subst (HasPassed passed groups start) e more;
  }

  pub searching_found : is_some cursor.place ≡ true → IsTrue new.facts.faithful → (groups : List (List Pair)) → HasData cmp old placed frame groups
      → (place : ℕ) × StopsAt passed (joined groups) (pairs_before groups start) place × IsInBlock groups index cursor (within_list (joined groups) place)
  searching_found stands t groups has =
      let there = block_there t groups has in
      let inside = inside_if pairs stops.0 cursor.place stops.2 stands in
      let fits = before_inside groups index pairs there in
      let place : ℕ = pairs_before groups index + stops.0 in (
        place,
        stops_in passed groups start index pairs stops.0 (s.passed_all (carries.reads.faithful t) groups has) there stops.1 inside.0,
        record {
          inside = stops.0;
          block_is = there ∙ ap Some (sym its);
          stands = inside.1;
          less = subst (λ (l : List Pair). stops.0 < length l) (sym its) inside.0;
          place_is = within_yes (joined groups) place (let l = inside.0 in omega (arith, l, fits));
        },
      )

pub searching_none : (cmp : Cmp) (passed : List ℕ → Type 0) (old now : Seen) (placed : PlacedTable) (frame : Frame) (start index : ℕ) → IsSearching cmp passed old now placed frame start index → length frame.places ≤ index
    → IsTrue now.facts.faithful → (groups : List (List Pair)) → HasData cmp old placed frame groups → start ≤ length groups
    → (place : ℕ) × StopsAt passed (joined groups) (pairs_before groups start) place × (within_list (joined groups) place ≡ None)
searching_none cmp passed old now placed frame start index s end t groups has fits =
    let l = has.same_length in (
      length (joined groups),
      stops_nowhere passed groups start index (s.passed_all t groups has) fits (omega (arith, l, end)),
      within_no (joined groups) (length (joined groups)) (omega arith),
    )

-- ---- back

last_if : (pairs : List Pair) (place : Option ℕ) → place ≡ last_of pairs → is_some place ≡ true → (inside : ℕ) × (place ≡ Some inside) × (length pairs ≡ suc inside)
last_if [] place is stands = absurd (let none : is_some place ≡ false = ap is_some is in let bad : true ≡ false = sym stands ∙ none in cc)
last_if (x ∷ pairs) place is stands = (length pairs, is, refl)

none_if : (pairs : List Pair) (place : Option ℕ) → place ≡ last_of pairs → is_some place ≡ false → length pairs ≡ 0
none_if [] place is nowhere = refl
none_if (x ∷ pairs) place is nowhere = absurd (let some : is_some place ≡ true = ap is_some is in let bad : false ≡ true = sym nowhere ∙ some in cc)

pub before_of : (m n : ℕ) → m ≡ suc n → index_before m ≡ Some n
before_of m n e = ap index_before e

module _ (cmp : Cmp) (old now : Seen) (placed : PlacedTable) (frame : Frame) (end step : ℕ) where
  -- the blocks that were read have no pair
  pub record IsSearchingBack : Type 0 where
    pub carries : Carries cmp (Only placed.table.number) old now
    pub still : now.facts.failures ≡ old.facts.failures
    pub same : IsTrue now.facts.faithful → (groups : List (List Pair)) → HasData cmp old placed frame groups → pairs_before groups (end - step) ≡ pairs_before groups end
    pub came : SaysOf cmp old now placed.table.number (λ file. IsFrame cmp file frame → (k : ℕ) → end - step ≤ k → k < end → IsPassed cmp (λ (key : List ℕ). ⊥) placed file frame k)

pub back_begins : (cmp : Cmp) (old : Seen) (placed : PlacedTable) (frame : Frame) (end : ℕ) → IsSearchingBack cmp old old placed frame end 0
back_begins cmp old placed frame end = record { carries = carries_itself cmp old; still = refl; same = λ t groups has. let e : end - 0 ≡ end = omega arith in ap (pairs_before groups) e; came = λ t file has is k from less. absurd (omega (arith, from, less)) }

module _ (cmp : Cmp) (old now new : Seen) (placed : PlacedTable) (frame : Frame) (end step index : ℕ) (less : step < end) (its_index : index ≡ end - step - 1) (s : IsSearchingBack cmp old now placed frame end step)
    (carries : Carries cmp (Only placed.table.number) now new) (pairs : List Pair) (found : IsTrue new.facts.faithful → (groups : List (List Pair)) → HasData cmp now placed frame groups → slice_get groups index ≡ Some pairs)
    (cursor : Placed) (its : cursor.pairs ≡ pairs) (last : cursor.place ≡ last_of pairs) where
  ends_here : IsTrue new.facts.faithful → (groups : List (List Pair)) → HasData cmp old placed frame groups → (slice_get groups index ≡ Some pairs) × (pairs_before groups end ≡ pairs_before groups index + length pairs)
  ends_here t groups has =
      let m = carries.reads.faithful t in
      let there = found t groups (still_data cmp old now placed frame groups s.carries m has) in
      let e : suc index ≡ end - step = omega (arith, its_index, less) in
      (there, sym (s.same m groups has) ∙ ap (pairs_before groups) (sym e) ∙ before_more groups index pairs there)

  pub back_on : is_some cursor.place ≡ false → new.facts.failures ≡ now.facts.failures → SaysOf cmp now new placed.table.number (HasIntactIn cmp placed frame index pairs) → IsSearchingBack cmp old new placed frame end (step + 1)
  back_on nowhere stood intact = record {
    carries = carries_both cmp old now new s.carries carries;
    still = stood ∙ s.still;
    same = λ t groups has.
        let h = ends_here t groups has in
        let none = none_if pairs cursor.place last nowhere in
        let e : end - (step + 1) ≡ index = omega (arith, its_index) in
        let sums = h.1 in
        ap (pairs_before groups) e ∙ (let sum : pairs_before groups index ≡ pairs_before groups end = omega (arith, sums, none) in sum);
    came = λ t file has is k from high.
        let m = carries.reads.faithful t in
        let none = none_if pairs cursor.place last nowhere in
        elim (cases_lt index k) [
          | inl past ↦ s.came m file has is k (omega (arith, past, its_index)) high
          | inr ge ↦
              let here : index ≡ k = omega (arith, ge, from, its_index) in
              subst (IsPassed cmp (λ (key : List ℕ). ⊥) placed file frame) here
              (pairs, intact t file (still_has cmp old now placed.table.number file s.carries m has) is, λ n pair at. let w = slice_get_within pairs n pair at in omega (arith, w, none))
        ];
  }

  pub back_found : is_some cursor.place ≡ true → IsTrue new.facts.faithful → (groups : List (List Pair)) → HasData cmp old placed frame groups → IsInBlock groups index cursor (index_before (pairs_before groups end))
  back_found stands t groups has =
      let h = ends_here t groups has in
      let l = last_if pairs cursor.place last stands in
      let sums = h.1 in
      let long = l.2 in
      record {
        inside = l.0;
        block_is = h.0 ∙ ap Some (sym its);
        stands = l.1;
        less = subst (λ (ps : List Pair). l.0 < length ps) (sym its) (omega (arith, long));
        place_is = before_of (pairs_before groups end) (pairs_before groups index + l.0) (omega (arith, sums, long));
      }

pub back_none : (cmp : Cmp) (old now : Seen) (placed : PlacedTable) (frame : Frame) (end step : ℕ) → IsSearchingBack cmp old now placed frame end step → end ≤ step
    → IsTrue now.facts.faithful → (groups : List (List Pair)) → HasData cmp old placed frame groups → index_before (pairs_before groups end) ≡ None
back_none cmp old now placed frame end step s over t groups has =
    let e : end - step ≡ 0 = omega (arith, over) in
    ap index_before (sym (s.same t groups has) ∙ ap (pairs_before groups) e ∙ before_zero groups)
