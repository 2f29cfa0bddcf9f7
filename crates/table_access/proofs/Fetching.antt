-- A data block of a table, by its index.
use Rattle.std.proofs.Common.{◌≡◌, ◌⊎◌, ◌<◌, ◌≤◌, ◌^◌, ℕ, zero, suc, List, [], ◌∷◌, Some, None, length, map, IsTrue, refl, sym, ap, ◌∙◌, subst, arith, inl, inr}
use Rattle.std.specs.List.{slice_get}
use Rattle.std.proofs.lemmas.Bool.{cases_lt}
use Rattle.std.proofs.lemmas.Option.{slice_get_within}
use Rattle.cache.specs.Tables.{RefusesTable}
use Rattle.coding.specs.declared.error.DbError.{DbError}
use Rattle.coding.specs.declared.error.DbError.TheVariants.{OutOfMemory, Io, Corrupt, Unsupported}
use Rattle.cursor.specs.Moves.{Refuses}
use Rattle.cursor.specs.Places.{Cmp}
use Rattle.edits.specs.declared.field.PlacedTable.{PlacedTable}
use Rattle.ikey.specs.Entries.{Pair}
use Rattle.table_access.specs.Ends.{HasEnds, HasIntactIn}
use Rattle.table_access.specs.Tables.{Seen, HasSoundTable, HasData, HasIntact, SaysOf, IsBlockDamaged, IsBlockUnsupported}
use Rattle.table_access.specs.Torn.{LacksBlock}
use Rattle.table_access.proofs.Placing.{some_at}
use Rattle.table.specs.Frame.{Frame, AnyLong, handles}
use Rattle.table.specs.Refusals.{IsUnsupported}
use Rattle.table.specs.Table.{HasBlock}
use Rattle.table.specs.declared.handle.Place.{Place}
use Rattle.table.proofs.StoredBlocks.{only_long}

long_one : (places : List Place) (i : ℕ) (place : Place) → slice_get places i ≡ Some place → 2 ^ 30 < place.handle.size → AnyLong (map (λ (p : Place). p.handle) places)
long_one [] i place e long = absurd (let bad : None ≡ Some place = e in cc)
long_one (x ∷ places) zero place e long =
    let s : x ≡ place = let t : Some x ≡ Some place = e in cc in
    inl (subst (λ (p : Place). 2 ^ 30 < p.handle.size) (sym s) long)
long_one (x ∷ places) (suc i) place e long = inr (long_one places i place e long)

same_place : (places : List Place) (index : ℕ) (a b : Place) → slice_get places index ≡ Some a → slice_get places index ≡ Some b → a ≡ b
same_place places index a b h k = let e : Some a ≡ Some b = sym h ∙ k in cc

cases_get : (places : List Place) (index : ℕ) → ((place : Place) × (slice_get places index ≡ Some place)) ⊎ (length places ≤ index)
cases_get [] index = inr (omega arith)
cases_get (place ∷ places) zero = inl (place, refl)
cases_get (place ∷ places) (suc index) = elim (cases_get places index) [
  | inl at ↦ inl at
  | inr end ↦ inr (omega (arith, end))
]

-- with the edit's keys, where it is an end, a block is what its place and the edit say
pub right_ends : (cmp : Cmp) (old new : Seen) (placed : PlacedTable) (frame : Frame) (index count : ℕ) (pairs : List Pair) → SaysOf cmp old new placed.table.number (HasIntact cmp index pairs) → count ≡ length frame.places
    → HasEnds placed count index pairs → SaysOf cmp old new placed.table.number (HasIntactIn cmp placed frame index pairs)
right_ends cmp old new placed frame index count pairs says count_is ends t file has is =
    record { intact = says t file has frame is; ends = subst (λ (n : ℕ). HasEnds placed n index pairs) count_is ends }

-- each list that the table may be has its pairs
pub found_block : (cmp : Cmp) (old new : Seen) (placed : PlacedTable) (frame : Frame) (index : ℕ) (pairs : List Pair) → SaysOf cmp old new placed.table.number (HasIntactIn cmp placed frame index pairs)
    → IsTrue new.facts.faithful → (groups : List (List Pair)) → HasData cmp old placed frame groups → slice_get groups index ≡ Some pairs
found_block cmp old new placed frame index pairs says t groups has =
    let is = says t has.file has.table has.open_is.0 in
    let w = slice_get_within frame.places index is.intact.place is.intact.place_is in
    let long = has.same_length in
    let group = some_at groups index (omega (arith, w, long)) in
    group.1 ∙ ap Some (has.each index group.0 pairs group.1 is)

pub refused_block : (cmp : Cmp) (old new : Seen) (placed : PlacedTable) (frame : Frame) (index : ℕ) → (e : DbError)
    → RefusesTable e old.facts new.facts placed.table.number (λ file. HasSoundTable cmp old placed.table.number file → IsBlockDamaged cmp index file) (λ file. HasSoundTable cmp old placed.table.number file → IsBlockUnsupported cmp index file)
    → Refuses e old.facts new.facts (LacksBlock cmp old placed frame index) (AnyLong (handles frame))
refused_block cmp old new placed frame index OutOfMemory h = tt
refused_block cmp old new placed frame index Io h = h
refused_block cmp old new placed frame index (Corrupt kind what) h = λ t file has open_is pairs intact.
    elim (h t file has.file_is has) [
      | inl damaged ↦ damaged.0 frame open_is.0
      | inr torn ↦ (torn frame open_is.0).0 pairs intact.intact
    ]
refused_block cmp old new placed frame index (Unsupported what) h = λ t. elim (cases_get frame.places index) [
  | inl place ↦ elim (cases_lt (2 ^ 30) place.0.handle.size) [
    | inl long ↦ inr (long_one frame.places index place.0 place.1 long)
    | inr short ↦ inl (λ file has open_is pairs intact.
        elim (h t file has.file_is has) [
          | inl u ↦ open_is.1 u
          | inr u ↦
              let is = u frame open_is.0 in
              let same : is.0 ≡ place.0 = same_place frame.places index is.0 place.0 is.1 place.1 in
              let its : intact.intact.place ≡ place.0 = same_place frame.places index intact.intact.place place.0 intact.intact.place_is place.1 in
              let b = subst (λ (p : Place). HasBlock cmp file p.handle pairs) its intact.intact.has in
              let long = only_long file place.0.handle b.0 b.1 (subst (λ (p : Place). IsUnsupported file p.handle) same is.2) in
              absurd (omega (arith, long, short))
        ])
  ]
  | inr end ↦ inl (λ file has open_is pairs intact. let w = slice_get_within frame.places index intact.intact.place intact.intact.place_is in absurd (omega (arith, end, w)))
]
refused_block cmp old new placed frame index e h = absurd h
