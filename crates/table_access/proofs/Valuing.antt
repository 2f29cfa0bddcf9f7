-- What a search over a table's blocks says of a user key.
use Rattle.std.proofs.Common.{◌≡◌, ◌<◌, ◌+◌, ◌-◌, ℕ, suc, List, Option, Some, None, map, sym, ap, ◌∙◌, subst, arith, inl, inr}
use Rattle.std.specs.Cmp.{IsTotalOrder}
use Rattle.std.specs.FinMap.{IsAntisymmetric}
use Rattle.std.specs.List.{slice_get}
use Rattle.std.specs.declared.cmp.Ordering.TheVariants.{Less}
use Rattle.std.proofs.lemmas.Bool.{cases_lt}
use Rattle.std.proofs.lemmas.Option.{slice_get_within, get_or_from_slice_get}
use Rattle.block.specs.Places.{Placed}
use Rattle.cursor.specs.Places.{Cmp, Rises, within}
use Rattle.cursor.proofs.Befores.{before_cases}
use Rattle.cursor.proofs.Leading.{within_cases}
use Rattle.cursor.proofs.Singles.{pairs_length}
use Rattle.filter.specs.Hash.{hash_of}
use Rattle.ikey.specs.Below.{IsBelowInternal, same_key}
use Rattle.ikey.specs.Entries.{InternalEntry, Pair, IsPair, entry_of}
use Rattle.ikey.specs.Keys.{Key, IsKey, IsFirstKey, key_cmp}
use Rattle.ikey.specs.Views.{IsUnseen}
use Rattle.table_access.specs.declared.in_block.InBlock.{InBlock}
use Rattle.table_access.specs.TablePlaces.{IsInBlock, StopsAt, joined, pairs_before}
use Rattle.table_access.specs.Values.{DeniesKey, IsLookUp, SaysOfEntry, StandsOnNone}
use Rattle.table_access.proofs.Denying.{above_bound, admitted_at, bounds_rise}
use Rattle.table_access.proofs.Entering.{pair_at}
use Rattle.table_access.proofs.LookingUp.{below_by_user, found_there, nothing_there, seen_not_below, unseen}
use Rattle.table_access.proofs.Opening.{entries_rise}
use Rattle.table_access.proofs.Filling.{IsFilling, filling_front}
use Rattle.table_access.proofs.Placing.{before_more, item_in, some_at}
use Rattle.table_access.proofs.Stopping.{here}
use Rattle.table.proofs.Checked.{denied}
use Rattle.table.specs.Frame.{Frame, IsFrame, TableAdmits}
use Rattle.table.specs.Refusals.{IsFirstPlace}

to_less : (cmp : Cmp) (a b : List ℕ) (k l : Key) → IsBelowInternal cmp a b → IsKey a k → IsKey b l → key_cmp cmp k l ≡ Less
to_less cmp a b k l h is other =
    let left = same_key a h.0 k h.2 is in
    let right = same_key b h.1 l h.3 other in
    sym (λ i. key_cmp cmp (left i) (right i)) ∙ h.4

from_less : (cmp : Cmp) (a b : List ℕ) (k l : Key) → key_cmp cmp k l ≡ Less → IsKey a k → IsKey b l → IsBelowInternal cmp a b
from_less cmp a b k l h is other = (k, l, is, other, h)

module _ (cmp : Cmp) (total : IsTotalOrder cmp) (exact : IsAntisymmetric cmp) (file : List ℕ) (frame : Frame) (entries : List InternalEntry) (is : IsFrame cmp file frame) (groups : List (List Pair)) (filling : IsFilling cmp frame groups entries)
    (user : List ℕ) (sequence : ℕ) (target : List ℕ) (h : IsFirstKey user sequence target) (start : ℕ) (first : IsFirstPlace cmp target frame.places start) where
  rising : Rises cmp entries
  rising = entries_rise cmp total (joined groups) entries filling.rises filling.entries_are

  pair_of_entry : (k : ℕ) (x : InternalEntry) → slice_get entries k ≡ Some x → (pair : Pair) × (slice_get (joined groups) k ≡ Some pair) × IsPair pair x
  pair_of_entry k x at =
      let count = pairs_length (joined groups) entries filling.entries_are in
      let p = some_at (joined groups) k (let w = slice_get_within entries k x at in omega (arith, w, count)) in
      (p.0, p.1, pair_at (joined groups) entries k p.0 x filling.entries_are p.1 at)

  front_below : (k : ℕ) (x : InternalEntry) → k < pairs_before groups start → slice_get entries k ≡ Some x → key_cmp cmp x.key h.key ≡ Less
  front_below k x less at =
      let p = pair_of_entry k x at in
      to_less cmp p.0.key target x.key h.key (filling_front cmp total target file frame groups entries start is first filling k p.0 less p.1) p.2.key h.encoded

  pub denied_unseen : DeniesKey frame start user → IsUnseen (map entry_of entries) sequence user
  denied_unseen d = unseen cmp total exact user sequence target h entries rising (λ k x at same seen.
      let p = pair_of_entry k x at in
      let b = some_at groups start (let w = slice_get_within frame.places start d.place d.place_is in let long = filling.same_length in omega (arith, w, long)) in
      let more = before_more groups start b.0 b.1 in
      elim (cases_lt k (pairs_before groups start)) [
        | inl l ↦ seen_not_below cmp total exact user sequence target h x.key same seen (front_below k x l at)
        | inr ge ↦ elim (cases_lt k (pairs_before groups (suc start))) [
          | inl l ↦
              let inside = here (λ (key : List ℕ). ⊥) groups start b.0 k p.0 b.1 ge (omega (arith, l, more)) p.1 in
              let admits = admitted_at frame.filter frame.places groups start d.place b.0 filling.admitted d.place_is b.1 (k - pairs_before groups start) p.0 x.key inside p.2.key in
              denied frame.filter d.place.handle.offset (hash_of user) d.denied (subst (λ (a : List ℕ). TableAdmits frame.filter d.place.handle.offset (hash_of a)) same admits)
          | inr over ↦
              let rise = bounds_rise cmp total is.index_is.1 frame.places is.index_is.3.2.rises is.index_is.4 in
              let above = above_bound cmp total frame.places groups start d.place filling.bounds rise d.place_is k p.0 over p.1 in
              let less = to_less cmp d.place.key p.0.key d.bound x.key above d.bound_is p.2.key in
              elim (before_cases cmp total exact d.bound x.key less) [
                | inl lower ↦
                    let under = below_by_user cmp total exact d.bound h.key (subst (λ (a : List ℕ). cmp d.bound.user a ≡ Less) (same ∙ sym h.user_is) lower) in
                    let got = get_or_from_slice_get frame.places start d.place d.place d.place_is in
                    first.found d.place (slice_get_within frame.places start d.place d.place_is)
                    (subst (λ q. IsBelowInternal cmp q.key target) (sym got) (from_less cmp d.place.key target d.bound h.key under d.bound_is h.encoded))
                | inr s ↦ d.other (s.0 ∙ same)
              ]
        ]
      ])

  module _ (n : ℕ) (stops : StopsAt (λ (key : List ℕ). IsBelowInternal cmp key target) (joined groups) (pairs_before groups start) n) where
    all_front : (k : ℕ) (x : InternalEntry) → k < n → slice_get entries k ≡ Some x → key_cmp cmp x.key h.key ≡ Less
    all_front k x less at = elim (cases_lt k (pairs_before groups start)) [
      | inl l ↦ front_below k x l at
      | inr ge ↦ let p = pair_of_entry k x at in to_less cmp p.0.key target x.key h.key (stops.front k p.0 ge less p.1) p.2.key h.encoded
    ]

    stops_here : (x : InternalEntry) → slice_get entries n ≡ Some x → key_cmp cmp x.key h.key ≡ Less → ⊥
    stops_here x at less = let p = pair_of_entry n x at in stops.stop p.0 p.1 (from_less cmp p.0.key target x.key h.key less p.2.key h.encoded)

    pub none_found : within (joined groups) n ≡ None → IsUnseen (map entry_of entries) sequence user
    none_found e = elim (within_cases (joined groups) n) [
      | inl y ↦ absurd (let bad : Some n ≡ None = sym y.1 ∙ e in cc)
      | inr y ↦
          let count = pairs_length (joined groups) entries filling.entries_are in
          nothing_there cmp total exact user sequence target h entries rising n all_front stops_here (let l = y.0 in omega (arith, l, count))
    ]

    -- the entry there says it
    pub one_said : (x : InternalEntry) → slice_get entries n ≡ Some x → (value : Option (Option (List ℕ))) → SaysOfEntry x user value → IsLookUp (map entry_of entries) sequence user value
    one_said x at value says = found_there cmp total exact user sequence target h entries rising n all_front stops_here x at value says

    -- it stands on an entry's key
    pub stands_on_key : (in_block : InBlock Placed) → IsInBlock groups in_block.index in_block.cursor (within (joined groups) n) → StandsOnNone in_block.cursor → ⊥
    stands_on_key in_block at none = elim (within_cases (joined groups) n) [
      | inr y ↦ absurd (let bad : None ≡ Some (pairs_before groups in_block.index + at.inside) = sym y.1 ∙ at.place_is in cc)
      | inl y ↦
          let both : Some n ≡ Some (pairs_before groups in_block.index + at.inside) = sym y.1 ∙ at.place_is in
          let same : n ≡ pairs_before groups in_block.index + at.inside = cc in
          let count = pairs_length (joined groups) entries filling.entries_are in
          let x = some_at entries n (let l = y.0 in omega (arith, l, count)) in
          let p = some_at in_block.cursor.pairs at.inside at.less in
          let there = ap (slice_get (joined groups)) same ∙ item_in groups in_block.index in_block.cursor.pairs at.inside p.0 at.block_is p.1 in
          none at.inside p.0 x.0.key at.stands p.1 (pair_at (joined groups) entries n p.0 x.0 filling.entries_are there x.1).key
    ]

    pub one_found : (in_block : InBlock Placed) (value : Option (Option (List ℕ))) → IsInBlock groups in_block.index in_block.cursor (within (joined groups) n)
        → ((index : ℕ) (pair : Pair) (entry : InternalEntry) → in_block.cursor.place ≡ Some index → slice_get in_block.cursor.pairs index ≡ Some pair → IsPair pair entry → SaysOfEntry entry user value)
        → IsLookUp (map entry_of entries) sequence user value
    one_found in_block value at says = elim (within_cases (joined groups) n) [
      | inr y ↦ absurd (let bad : None ≡ Some (pairs_before groups in_block.index + at.inside) = sym y.1 ∙ at.place_is in cc)
      | inl y ↦
          let both : Some n ≡ Some (pairs_before groups in_block.index + at.inside) = sym y.1 ∙ at.place_is in
          let same : n ≡ pairs_before groups in_block.index + at.inside = cc in
          let count = pairs_length (joined groups) entries filling.entries_are in
          let x = some_at entries n (let l = y.0 in omega (arith, l, count)) in
          let p = some_at in_block.cursor.pairs at.inside at.less in
          let there = ap (slice_get (joined groups)) same ∙ item_in groups in_block.index in_block.cursor.pairs at.inside p.0 at.block_is p.1 in
          found_there cmp total exact user sequence target h entries rising n all_front stops_here x.0 x.1 value
          (says at.inside p.0 x.0 at.stands p.1 (pair_at (joined groups) entries n p.0 x.0 filling.entries_are there x.1))
    ]
