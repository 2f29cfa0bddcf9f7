-- What a table's blocks tell of a key is so of each list that the table may be.
use Rattle.std.proofs.Common.{◌≡◌, ◌≤◌, ◌+◌, ℕ, List, Option, Some, None, length, map, sym, ap, ◌∙◌, subst, arith, inl, inr}
use Rattle.std.specs.Cmp.{IsTotalOrder}
use Rattle.std.specs.FinMap.{IsAntisymmetric}
use Rattle.std.specs.List.{slice_get}
use Rattle.std.proofs.lemmas.Option.{slice_get_within}
use Rattle.cursor.specs.Places.{Cmp}
use Rattle.cursor.proofs.Singles.{pairs_length}
use Rattle.edits.specs.declared.field.PlacedTable.{PlacedTable}
use Rattle.ikey.specs.Below.{IsBelowInternal, same_key}
use Rattle.ikey.specs.Entries.{InternalEntry, Pair, IsPair, entry_of}
use Rattle.ikey.specs.Keys.{IsFirstKey}
use Rattle.table_access.specs.Possible.{MayHave}
use Rattle.table_access.specs.TablePlaces.{joined, pairs_before}
use Rattle.table_access.specs.Telling.{CameTo, FirstSays, Tells, TellsOfKey}
use Rattle.table_access.specs.Values.{IsDenied, IsLookUp, SaysOfEntry}
use Rattle.table_access.proofs.Entering.{pair_at}
use Rattle.table_access.proofs.Filling.{filling_may}
use Rattle.table_access.proofs.Passed.{came_passed}
use Rattle.table_access.proofs.Placing.{item_in, some_at}
use Rattle.table_access.proofs.Searching.{within_no}
use Rattle.table_access.proofs.Stopping.{HasPassed, stops_in, stops_nowhere}
use Rattle.table_access.proofs.Valuing.{denied_unseen, none_found, one_said}
use Rattle.table.specs.Frame.{Frame, IsFrame}
use Rattle.table.specs.Refusals.{IsFirstPlace}
use Rattle.table.proofs.FrameParts.{one_frame}

-- no pair is two entries
one_entry : (pair : Pair) (a b : InternalEntry) → IsPair pair a → IsPair pair b → a ≡ b
one_entry pair a b h k = let key = same_key pair.key a.key b.key h.key k.key in let value = sym h.value ∙ k.value in λ i. record { key = key i; value = value i }

module _ (cmp : Cmp) (placed : PlacedTable) (file : List ℕ) (frame : Frame) (entries : List InternalEntry) (may : MayHave cmp placed file frame entries) where
  -- the blocks that were passed are passed in the list
  passed_to : (passed : List ℕ → Type 0) (start index : ℕ) → CameTo cmp passed placed file frame start index → start ≤ index → index ≤ length may.groups → HasPassed passed may.groups start index
  passed_to passed start index came low high = came_passed cmp placed file frame may.groups may.each passed start index came low high

  module _ (total : IsTotalOrder cmp) (exact : IsAntisymmetric cmp) (is : IsFrame cmp file frame) (key : List ℕ) (sequence : ℕ) where
    -- the filter denies the key
    denied_told : (value : Option (Option (List ℕ))) → IsDenied cmp frame key sequence → value ≡ None → IsLookUp (map entry_of entries) sequence key value
    denied_told value d e =
        subst (IsLookUp (map entry_of entries) sequence key) (sym e)
        (denied_unseen cmp total exact file frame entries is may.groups (filling_may cmp placed file frame entries may) key sequence d.target d.target_is d.start d.start_is d.denies)

    module _ (target : List ℕ) (start : ℕ) (target_is : IsFirstKey key sequence target) (first : IsFirstPlace cmp target frame.places start) where
      abbrev Below : List ℕ → Type 0
      Below other = IsBelowInternal cmp other target

      -- all blocks are passed
      end_told : (value : Option (Option (List ℕ))) → CameTo cmp Below placed file frame start (length frame.places) → value ≡ None → IsLookUp (map entry_of entries) sequence key value
      end_told value came e =
          let inside = first.inside in
          let long = may.same_length in
          let passed = passed_to Below start (length frame.places) came inside (omega (arith, long)) in
          let stops = stops_nowhere Below may.groups start (length frame.places) passed (omega (arith, inside, long)) (omega (arith, long)) in
          subst (IsLookUp (map entry_of entries) sequence key) (sym e)
          (none_found cmp total exact file frame entries is may.groups (filling_may cmp placed file frame entries may) key sequence target target_is start first (length (joined may.groups)) stops
          (within_no (joined may.groups) (length (joined may.groups)) (omega arith)))

      -- one has the first entry that isn't below
      entry_told : (value : Option (Option (List ℕ))) → FirstSays cmp Below placed file frame start key value → IsLookUp (map entry_of entries) sequence key value
      entry_told value says =
          let found = says.found in
          let at_place = slice_get_within frame.places says.index found.intact.intact.place found.intact.intact.place_is in
          let long = may.same_length in
          let g = some_at may.groups says.index (omega (arith, at_place, long)) in
          let same = may.each says.index g.0 says.pairs g.1 found.intact in
          let its = ap Some same in
          let here : slice_get may.groups says.index ≡ Some says.pairs = g.1 ∙ its in
          let passed = passed_to Below start says.index found.came found.reached (omega (arith, at_place, long)) in
          let less = slice_get_within says.pairs found.inside found.pair found.pair_is in
          let stops = stops_in Below may.groups start says.index says.pairs found.inside passed here found.first less in
          let n : ℕ = pairs_before may.groups says.index + found.inside in
          let there = item_in may.groups says.index says.pairs found.inside found.pair here found.pair_is in
          let count = pairs_length (joined may.groups) entries may.entries_are in
          let w = slice_get_within (joined may.groups) n found.pair there in
          let x = some_at entries n (omega (arith, w, count)) in
          let entry = one_entry found.pair says.entry x.0 says.is (pair_at (joined may.groups) entries n found.pair x.0 may.entries_are there x.1) in
          one_said cmp total exact file frame entries is may.groups (filling_may cmp placed file frame entries may) key sequence target target_is start first n stops x.0 x.1 value
          (subst (λ (y : InternalEntry). SaysOfEntry y key value) entry says.says)

    pub told_is : (value : Option (Option (List ℕ))) → TellsOfKey cmp placed key sequence value file → IsLookUp (map entry_of entries) sequence key value
    told_is value told =
        let same = one_frame cmp file told.0 frame told.1 is in
        elim told.2 [
          | inl denied ↦ denied_told value (subst (λ (f : Frame). IsDenied cmp f key sequence) same denied.0) denied.1
          | inr tells ↦
              let t = subst (λ (f : Frame). Tells cmp placed file f key sequence value) same tells in
              elim t.told [
                | inl end ↦ end_told t.target t.start t.target_is t.start_is value end.0 end.1
                | inr one ↦ entry_told t.target t.start t.target_is t.start_is value one
              ]
        ]
