-- To which block a search over a table comes, whatever else its file holds.
use Rattle.std.proofs.Common.{◌≡◌, ◌≤◌, ◌+◌, ℕ, true, false, List, Option, Some, is_some, length, IsTrue, refl, sym, subst, arith, inl, inr}
use Rattle.std.specs.List.{slice_get}
use Rattle.std.proofs.lemmas.Bool.{cases_lt}
use Rattle.std.proofs.lemmas.Option.{slice_get_within}
use Rattle.block.specs.Places.{Placed, within}
use Rattle.cursor.specs.Places.{Cmp}
use Rattle.edits.specs.declared.field.PlacedTable.{PlacedTable}
use Rattle.ikey.specs.Entries.{InternalEntry, Pair, IsPair}
use Rattle.table_access.specs.Ends.{HasIntactIn, IsIntactIn}
use Rattle.table_access.specs.TablePlaces.{StopsAt}
use Rattle.table_access.specs.Tables.{Seen, Carries, HasData, HasSoundTable, Only, SaysOf}
use Rattle.table_access.specs.Telling.{CameTo, FirstSays, IsFirstFound, IsPassed}
use Rattle.table_access.specs.Values.{SaysOfEntry, StandsOnKey}
use Rattle.table_access.proofs.Carrying.{still_has}
use Rattle.table_access.proofs.Placing.{some_at}
use Rattle.table_access.proofs.Searching.{IsSearching, inside_if, past_if, searching_begins, searching_on}
use Rattle.table.specs.Frame.{Frame, IsFrame}

module _ (cmp : Cmp) (passed : List ℕ → Type 0) (old now : Seen) (placed : PlacedTable) (frame : Frame) (start index : ℕ) where
  -- the blocks before this one are intact, and passed
  pub record IsComing : Type 0 where
    pub reached : start ≤ index
    pub searching : IsSearching cmp passed old now placed frame start index
    pub came : SaysOf cmp old now placed.table.number (λ file. IsFrame cmp file frame → CameTo cmp passed placed file frame start index)

pub coming_begins : (cmp : Cmp) (passed : List ℕ → Type 0) (old : Seen) (placed : PlacedTable) (frame : Frame) (start : ℕ) → IsComing cmp passed old old placed frame start start
coming_begins cmp passed old placed frame start = record {
  reached = omega arith;
  searching = searching_begins cmp passed old placed frame start;
  came = λ t file has is k low high. absurd (omega (arith, low, high));
}

module _ (cmp : Cmp) (passed : List ℕ → Type 0) (old now new : Seen) (placed : PlacedTable) (frame : Frame) (start index : ℕ) (s : IsComing cmp passed old now placed frame start index) (carries : Carries cmp (Only placed.table.number) now new)
    (pairs : List Pair) (intact : SaysOf cmp now new placed.table.number (HasIntactIn cmp placed frame index pairs)) (cursor : Placed) (its : cursor.pairs ≡ pairs) (stops : (stop : ℕ) × StopsAt passed pairs 0 stop × (cursor.place ≡ within pairs stop)) where
  before : IsTrue new.facts.faithful → IsTrue now.facts.faithful
  before t = carries.reads.faithful t

  its_block : IsTrue new.facts.faithful → (file : List ℕ) → HasSoundTable cmp old placed.table.number file → IsFrame cmp file frame → IsIntactIn cmp placed file frame.places index pairs
  its_block t file has is = intact t file (still_has cmp old now placed.table.number file s.searching.carries (before t) has) is

  -- it has no pair that isn't passed
  pub came_on : is_some cursor.place ≡ false → SaysOf cmp old new placed.table.number (λ file. IsFrame cmp file frame → CameTo cmp passed placed file frame start (index + 1))
  came_on nowhere t file has is k low high = elim (cases_lt k index) [
    | inl less ↦ s.came (before t) file has is k low less
    | inr ge ↦
        let same : index ≡ k = omega (arith, ge, high) in
        let past = past_if pairs stops.0 cursor.place stops.2 nowhere in
        let all : (n : ℕ) (pair : Pair) → slice_get pairs n ≡ Some pair → passed pair.key = λ n pair at.
        let inside = slice_get_within pairs n pair at in
        stops.1.front n pair (omega arith) (omega (arith, inside, past)) at in
        subst (IsPassed cmp passed placed file frame) same (pairs, its_block t file has is, all)
  ]

  pub coming_on : is_some cursor.place ≡ false → new.facts.failures ≡ now.facts.failures → (IsTrue new.facts.faithful → (groups : List (List Pair)) → HasData cmp now placed frame groups → slice_get groups index ≡ Some pairs)
      → IsComing cmp passed old new placed frame start (index + 1)
  coming_on nowhere stood found = record {
    reached = (let up = s.reached in omega (arith, up));
    searching = searching_on cmp passed old now new placed frame start index s.searching carries pairs found cursor its stops nowhere stood;
    came = came_on nowhere;
  }

  -- it has one
  pub came_here : is_some cursor.place ≡ true → SaysOf cmp old new placed.table.number (λ file. IsFrame cmp file frame → IsFirstFound cmp passed placed file frame start index cursor.pairs cursor.place)
  came_here stands t file has is =
      let inside = inside_if pairs stops.0 cursor.place stops.2 stands in
      let x = some_at pairs stops.0 inside.0 in
      record {
        reached = s.reached;
        came = s.came (before t) file has is;
        intact = subst (λ (ps : List Pair). IsIntactIn cmp placed file frame.places index ps) (sym its) (its_block t file has is);
        inside = stops.0;
        pair = x.0;
        place_is = inside.1;
        pair_is = subst (λ (ps : List Pair). slice_get ps stops.0 ≡ Some x.0) (sym its) x.1;
        first = subst (λ (ps : List Pair). StopsAt passed ps 0 stops.0) (sym its) stops.1;
      }

-- all blocks are passed
pub came_to_end : (cmp : Cmp) (passed : List ℕ → Type 0) (old now : Seen) (placed : PlacedTable) (frame : Frame) (start index : ℕ) → IsComing cmp passed old now placed frame start index → length frame.places ≤ index
    → SaysOf cmp old now placed.table.number (λ file. IsFrame cmp file frame → CameTo cmp passed placed file frame start (length frame.places))
came_to_end cmp passed old now placed frame start index s end t file has is k low high = s.came t file has is k low (omega (arith, high, end))

-- the entry that was found says this
pub first_says : (cmp : Cmp) (passed : List ℕ → Type 0) (placed : PlacedTable) (file : List ℕ) (frame : Frame) (start index : ℕ) (cursor : Placed) (key : List ℕ) (value : Option (Option (List ℕ)))
    → IsFirstFound cmp passed placed file frame start index cursor.pairs cursor.place
    → ((n : ℕ) (pair : Pair) (entry : InternalEntry) → cursor.place ≡ Some n → slice_get cursor.pairs n ≡ Some pair → IsPair pair entry → SaysOfEntry entry key value) → StandsOnKey cursor
    → FirstSays cmp passed placed file frame start key value
first_says cmp passed placed file frame start index cursor key value found says keyed =
    let its = keyed found.inside found.pair found.place_is found.pair_is in
    let is : IsPair found.pair (record { key = its.0; value = found.pair.value }) = record { key = its.1; value = refl } in
    record {
      index = index;
      pairs = cursor.pairs;
      place = cursor.place;
      found = found;
      entry = record { key = its.0; value = found.pair.value };
      is = is;
      says = says found.inside found.pair (record { key = its.0; value = found.pair.value }) found.place_is found.pair_is is;
    }
