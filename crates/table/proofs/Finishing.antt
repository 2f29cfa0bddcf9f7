-- The whole file of a table that was written.
use Rattle.std.proofs.Common.{◌≡◌, ◌≤◌, ◌<◌, ◌+◌, ◌^◌, inl, inr, ℕ, List, [], ◌∷◌, ◌++◌, Option, Some, None, is_some, true, false, length, map, refl, sym, ap, ◌∙◌, subst, append_assoc, append-nil, arith}
use Rattle.std.proofs.lemmas.List.{length-append}
use Rattle.std.specs.List.{AllByRecursion}
use Rattle.std.specs.Cmp.{IsTotalOrder}
use Rattle.std.specs.declared.cmp.Ordering.{Ordering}
use Rattle.block.specs.Block.{IsBlock, AreAbove}
use Rattle.block.specs.Written.{last_key, last_key_from}
use Rattle.filter.specs.Builder.{IsWritten, HasFilters}
use Rattle.ikey.specs.Below.{IsBelowInternal, internal_transitive}
use Rattle.ikey.specs.Entries.{InternalEntry, Pair}
use Rattle.ikey.specs.Keys.{Key, IsKey}
use Rattle.table.specs.declared.handle.Handle.{Handle}
use Rattle.table.specs.declared.handle.Place.{Place}
use Rattle.table.specs.Building.{Building, AddsHashes, AddsAllHashes, AreInLine, AreEnded, IsPart}
use Rattle.table.specs.Frame.{Frame, IsFrame, AnyLong, filter_name}
use Rattle.table.specs.Stored.{DoNotOverlap, AreApart, AreSeparate, stored, end_of}
use Rattle.table.specs.Table.{ArePairs, AreBounds}
use Rattle.table.specs.Writing.{AreEnds, IsTableOf}
use Rattle.table.proofs.DataBlocks.{joined}
use Rattle.table.proofs.Growing.{stored_here, data_on, length-stored}
use Rattle.table.proofs.Hashed.{AddedLaw, all_admitted, all_hashed}
use Rattle.table.proofs.Rising.{above_parts, all_above, all_to_last, last_append}

-- what `filter` says of its blocks
abbrev pub WrittenLaw : Type 0
WrittenLaw = (groups : List (List ℕ)) (bytes : List ℕ) → IsWritten groups bytes → length bytes < 2 ^ 32 → HasFilters groups bytes

-- ---- blocks in a line

abbrev handles_in : List Place → List Handle
handles_in places = map (λ (place : Place). place.handle) places

line_rises : (start : ℕ) (places : List Place) (end : ℕ) → AreInLine start places end → start ≤ end
line_rises start [] end h = omega (arith, h)
line_rises start (place ∷ places) end h = omega (arith, h.0, line_rises (end_of place.handle) places end h.2)

line_inside : (start : ℕ) (places : List Place) (end before : ℕ) → AreInLine start places end → end ≤ before → AllByRecursion (λ (handle : Handle). end_of handle ≤ before) (handles_in places)
line_inside start [] end before h within = tt
line_inside start (place ∷ places) end before h within =
    (omega (arith, within, line_rises (end_of place.handle) places end h.2), line_inside (end_of place.handle) places end before h.2 within)

-- a block before the line, and one after it
line_from : (start : ℕ) (places : List Place) (end : ℕ) (handle : Handle) → AreInLine start places end → end_of handle ≤ start → AllByRecursion (DoNotOverlap handle) (handles_in places)
line_from start [] end handle h front = tt
line_from start (place ∷ places) end handle h front =
    (inl (omega (arith, h.0, front)), line_from (end_of place.handle) places end handle h.2 (omega (arith, h.0, front)))

line_to : (start : ℕ) (places : List Place) (end : ℕ) (handle : Handle) → AreInLine start places end → end ≤ handle.offset → AllByRecursion (DoNotOverlap handle) (handles_in places)
line_to start [] end handle h behind = tt
line_to start (place ∷ places) end handle h behind =
    (inr (omega (arith, behind, line_rises (end_of place.handle) places end h.2)), line_to (end_of place.handle) places end handle h.2 behind)

line_apart : (start : ℕ) (places : List Place) (end : ℕ) → AreInLine start places end → AreApart (handles_in places)
line_apart start [] end h = tt
line_apart start (place ∷ places) end h =
    (line_from (end_of place.handle) places end place.handle h.2 (omega arith), line_apart (end_of place.handle) places end h.2)

line_short : (start : ℕ) (places : List Place) (end : ℕ) → AreInLine start places end → AnyLong (handles_in places) → ⊥
line_short start [] end h long = long
line_short start (place ∷ places) end h (inl long) = absurd (omega (arith, h.1, long))
line_short start (place ∷ places) end h (inr long) = line_short (end_of place.handle) places end h.2 long

-- ---- bounds and entries

module _ (cmp : List ℕ → List ℕ → Ordering) (order : IsTotalOrder cmp) where
  bounds : (previous : Option (List ℕ)) (places : List Place) (blocks : List (List Pair)) → AreEnded places blocks → AreAbove (IsBelowInternal cmp) previous (joined blocks) → AreBounds cmp places blocks
  bounds previous [] [] h rises = tt
  bounds previous [] (pairs ∷ blocks) h rises = absurd h
  bounds previous (place ∷ places) [] h rises = absurd h
  bounds previous (place ∷ places) (pairs ∷ []) h rises =
      let below = IsBelowInternal cmp in
      let parts = above_parts below (internal_transitive cmp order) previous pairs [] rises in
      (all_to_last below (internal_transitive cmp order) previous pairs place.key parts.0 h.0, bounds None places [] h.1 tt)
  bounds previous (place ∷ places) (pairs ∷ (next ∷ blocks)) h rises =
      let below = IsBelowInternal cmp in
      let trans = internal_transitive cmp order in
      let parts = above_parts below trans previous pairs (joined (next ∷ blocks)) rises in
      let last : last_key_from previous pairs ≡ Some place.key = last_append previous [] pairs place.key h.0 in
      let rest = subst (λ (o : Option (List ℕ)). AreAbove below o (joined (next ∷ blocks))) last parts.1 in
      let first = above_parts below trans (Some place.key) next (joined blocks) rest in
      ((all_to_last below trans previous pairs place.key parts.0 h.0, all_above below trans place.key next first.0), bounds (Some place.key) places (next ∷ blocks) h.1 rest)

entries_of : (pairs : List Pair) → AllByRecursion (λ (pair : Pair). (key : Key) × IsKey pair.key key) pairs → (entries : List InternalEntry) × ArePairs pairs entries
entries_of [] h = ([], tt)
entries_of (pair ∷ pairs) h =
    let rest = entries_of pairs h.1 in
    (record { key = h.0.0; value = pair.value } ∷ rest.0, (record { key = h.0.1; value = refl }, rest.1))

some_entries : (pairs : List Pair) (entries : List InternalEntry) → ArePairs pairs entries → is_some (last_key pairs) ≡ true → 0 < length entries
some_entries [] entries h some = let t : false ≡ true = some in cc
some_entries (pair ∷ pairs) [] h some = absurd h
some_entries (pair ∷ pairs) (entry ∷ entries) h some = omega arith

-- ---- the file

module _ (cmp : List ℕ → List ℕ → Ordering) (order : IsTotalOrder cmp) (added : AddedLaw) (read : WrittenLaw)
    (b : Building) (file filter index tail : List ℕ) (pairs : List Pair)
    (h : IsPart cmp b file pairs) (ends : AreEnds b.offset filter index tail) (no_block : b.block ≡ [])
    (filter_is : IsWritten b.hashes filter) (filter_short : length filter ≤ 2 ^ 30)
    (index_is : IsBlock (IsBelowInternal cmp) index b.index) (index_short : length index ≤ 2 ^ 30) where
  abbrev named : Handle
  named = record { offset = b.offset; size = length filter }

  abbrev metaindex_at : Handle
  metaindex_at = record { offset = b.offset + (length filter + 5); size = length ends.metaindex }

  abbrev index_at : Handle
  index_at = record { offset = b.offset + (length filter + 5) + (length ends.metaindex + 5); size = length index }

  abbrev before : ℕ
  before = end_of index_at

  abbrev with_filter : List ℕ
  with_filter = file ++ stored filter

  abbrev with_metaindex : List ℕ
  with_metaindex = with_filter ++ stored ends.metaindex

  abbrev with_index : List ℕ
  with_index = with_metaindex ++ stored index

  whole : file ++ tail ≡ file ++ (stored filter ++ (stored ends.metaindex ++ (stored index ++ ends.footer)))
  whole = ap (λ (v : List ℕ). file ++ v) ends.parts

  behind_filter : file ++ tail ≡ with_filter ++ (stored ends.metaindex ++ (stored index ++ ends.footer))
  behind_filter = whole ∙ sym (append_assoc file (stored filter) (stored ends.metaindex ++ (stored index ++ ends.footer)))

  behind_metaindex : file ++ tail ≡ with_metaindex ++ (stored index ++ ends.footer)
  behind_metaindex = behind_filter ∙ sym (append_assoc with_filter (stored ends.metaindex) (stored index ++ ends.footer))

  behind_index : file ++ tail ≡ with_index ++ ends.footer
  behind_index = behind_metaindex ∙ sym (append_assoc with_metaindex (stored index) ends.footer)

  length-filtered : length with_filter ≡ b.offset + (length filter + 5)
  length-filtered = omega (arith, h.long, length-append file (stored filter), length-stored filter)

  length-named : length with_metaindex ≡ b.offset + (length filter + 5) + (length ends.metaindex + 5)
  length-named = omega (arith, length-filtered, length-append with_filter (stored ends.metaindex), length-stored ends.metaindex)

  length-indexed : length with_index ≡ before
  length-indexed = omega (arith, length-named, length-append with_metaindex (stored index), length-stored index)

  filters : HasFilters b.hashes filter
  filters = read b.hashes filter filter_is (omega (arith, filter_short))

  abbrev frame : Frame
  frame = record { places = h.places; filter = Some filter }

  data_apart : AllByRecursion (DoNotOverlap metaindex_at) (handles_in h.places) × AllByRecursion (DoNotOverlap index_at) (handles_in h.places) × AllByRecursion (DoNotOverlap named) (handles_in h.places)
  data_apart = (
    line_to 0 h.places b.offset metaindex_at h.line (omega arith),
    line_to 0 h.places b.offset index_at h.line (omega arith),
    line_to 0 h.places b.offset named h.line (omega arith),
  )

  separate : AreSeparate before (metaindex_at ∷ index_at ∷ named ∷ handles_in h.places)
  separate = (
    (omega arith, (omega arith, (omega arith, line_inside 0 h.places b.offset before h.line (omega arith)))),
    ((inl (omega arith), (inr (omega arith), data_apart.0)), ((inr (omega arith), data_apart.1), (data_apart.2, line_apart 0 h.places b.offset h.line))),
  )

  abbrev framed : IsFrame cmp (file ++ tail) frame
  framed = record {
    before = before;
    metaindex = metaindex_at;
    index = index_at;
    filter_handle = Some named;
    footer = record { body = with_index; footer = ends.footer; parts = behind_index; before_is = length-indexed; footer_is = ends.footer_is };
    metaindex_is = (
      ends.metaindex,
      record { key = filter_name; value = ends.value } ∷ [],
      stored_here (file ++ tail) with_filter (stored index ++ ends.footer) ends.metaindex metaindex_at behind_filter (sym length-filtered) refl,
      ends.metaindex_is,
      ([], [], ends.value, tt, ends.value_is, refl),
    );
    index_is = (index, b.index, stored_here (file ++ tail) with_metaindex ends.footer index index_at behind_metaindex (sym length-named) refl, index_is, h.index_is);
    filter_is = (stored_here (file ++ tail) file (stored ends.metaindex ++ (stored index ++ ends.footer)) filter named whole (sym h.long) refl, filters.block);
    separate = separate;
  }

  all_joined : joined h.blocks ≡ pairs
  all_joined = sym (h.all ∙ ap (λ (v : List Pair). joined h.blocks ++ v) no_block ∙ append-nil (joined h.blocks))

  joined_rises : AreAbove (IsBelowInternal cmp) None (joined h.blocks)
  joined_rises = subst (AreAbove (IsBelowInternal cmp) None) (sym all_joined) h.rises

  -- no hash is of the block at hand, which has no pair
  every_hash : AddsAllHashes [] h.places h.blocks b.hashes
  every_hash =
      let none : b.hashes ≡ h.ended_hashes = subst (λ (v : List Pair). AddsHashes h.ended_hashes b.offset v b.hashes) no_block h.block_hashed in
      subst (λ (g : List (List ℕ)). AddsAllHashes [] h.places h.blocks g) (sym none) h.hashed

  pub finished : is_some (last_key pairs) ≡ true → IsTableOf cmp (file ++ tail) pairs
  finished some =
      let entries = entries_of pairs h.keys in
      record {
        entries = entries.0;
        pairs_are = entries.1;
        frame = frame;
        frame_is = framed;
        filled = record {
          blocks = h.blocks;
          data_is = data_on cmp file tail h.places h.blocks h.data_is;
          bounds = bounds cmp order None h.places h.blocks h.ended joined_rises;
          entries_are = subst (λ (v : List Pair). ArePairs v entries.0) (sym all_joined) entries.1;
          some = some_entries pairs entries.0 entries.1 some;
          rises = joined_rises;
          admitted = all_admitted added b.hashes filter h.places h.blocks filters (all_hashed [] b.hashes h.places h.blocks every_hash);
        };
        hashes = b.hashes;
        hashed = every_hash;
        filter = filter;
        filter_is = refl;
        filter_written = filter_is;
        ends_short = λ long.
            elim long [
              | inl one ↦ absurd (omega (arith, one, ends.metaindex_short))
              | inr others ↦ elim others [
                | inl two ↦ absurd (omega (arith, two, index_short))
                | inr rest ↦ elim rest [
                  | inl three ↦ absurd (omega (arith, three, filter_short))
                  | inr none ↦ none
                ]
              ]
            ];
        data_short = line_short 0 h.places b.offset h.line;
      }
