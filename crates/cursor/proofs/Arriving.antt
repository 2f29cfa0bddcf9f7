-- A merge whose children have arrived.
use Rattle.std.proofs.Common.{◌≡◌, ◌⊎◌, ◌<◌, ◌≤◌, ℕ, zero, suc, Bool, false, List, Option, Some, None, length, refl, sym, ap, ◌∙◌, subst, arith, inl, inr}
use Rattle.std.specs.List.{slice_get}
use Rattle.std.proofs.lemmas.Option.{slice_get_within}
use Rattle.std.specs.Cmp.{IsTotalOrder}
use Rattle.ikey.specs.Entries.{InternalEntry}
use Rattle.cursor.specs.declared.child.Child.{Child}
use Rattle.cursor.specs.declared.child.Side.TheVariants as side
use Rattle.cursor.specs.declared.children.End.{End}
use Rattle.cursor.specs.declared.children.End.TheVariants.{Least, Greatest}
use Rattle.cursor.specs.Places.{Cmp, Listed, is_below, within, index_before, leading}
use Rattle.ikey.specs.Views.{Among}
use Rattle.cursor.specs.Merging.{IsUnion, IsMerge, IsBeside, listed}
use Rattle.cursor.specs.Motions.{Arrives, IsBest, StandAt, HasSides, IsInitial, end_place, entry_at, better_key, side_beside}
use Rattle.cursor.proofs.Leading.{within_cases, leading_le}
use Rattle.cursor.proofs.Fronts.{among_get, first_failing, entry_ahead, last_passing, entry_behind}
use Rattle.cursor.proofs.Moving.{slice_get_first}
use Rattle.cursor.proofs.Unions.{same_leading, least_failing, greatest_passing, no_failing, no_passing, below_least, below_greatest}

-- such a place is one of the list, or none
behind_there : (list : List InternalEntry) (n : ℕ) → n ≤ length list → ((m : ℕ) × (entry : InternalEntry) × (index_before n ≡ Some m) × (slice_get list m ≡ Some entry)) ⊎ (index_before n ≡ None)
behind_there list zero h = inr refl
behind_there list (suc n) h = let at = slice_get_first list n (omega arith) in inl (n, at.0, refl, at.1)

pub place_there : (end : End) (test : InternalEntry → Bool) (list : List InternalEntry)
    → ((m : ℕ) × (entry : InternalEntry) × (end_place end test list ≡ Some m) × (slice_get list m ≡ Some entry)) ⊎ (end_place end test list ≡ None)
place_there Least test list = elim (within_cases list (leading test list)) [
  | inl h ↦ let at = slice_get_first list (leading test list) h.0 in inl (leading test list, at.0, h.1, at.1)
  | inr h ↦ inr h.1
]
place_there Greatest test list = behind_there list (leading test list) (leading_le test list)

-- where there is an entry, its place is there
pub place_of_entry : (end : End) (test : InternalEntry → Bool) (list : List InternalEntry) (entry : InternalEntry) → entry_at list (end_place end test list) ≡ Some entry
    → (m : ℕ) × (end_place end test list ≡ Some m) × (slice_get list m ≡ Some entry)
place_of_entry end test list entry e = elim (place_there end test list) [
  | inl h ↦ (h.0, h.2, sym (ap (entry_at list) h.2) ∙ e)
  | inr h ↦ let bad : None ≡ Some entry = sym (ap (entry_at list) h) ∙ e in absurd cc
]

pub no_place_of : (end : End) (test : InternalEntry → Bool) (list : List InternalEntry) → entry_at list (end_place end test list) ≡ None → end_place end test list ≡ None
no_place_of end test list e = elim (place_there end test list) [
  | inl h ↦ let bad : None ≡ Some h.1 = sym e ∙ (ap (entry_at list) h.2 ∙ h.3) in absurd cc
  | inr h ↦ h
]

-- ---- the entry that the union has there

chosen_is : (end : End) (test : InternalEntry → Bool) (list : List InternalEntry) → Option InternalEntry
chosen_is Least test list = first_failing test list
chosen_is Greatest test list = last_passing test list

module _ (cmp : Cmp) (total : IsTotalOrder cmp) (all : List (List InternalEntry)) (union : List InternalEntry) (u : IsUnion cmp all union) (test : InternalEntry → Bool) (initial : IsInitial cmp test union) where
  union_entry : (end : End) (best : ℕ) (list : List InternalEntry) (entry : InternalEntry) → slice_get all best ≡ Some list → entry_at list (end_place end test list) ≡ Some entry
      → ((i : ℕ) (other : List InternalEntry) (rival : InternalEntry) → slice_get all i ≡ Some other → entry_at other (end_place end test other) ≡ Some rival → better_key cmp end rival.key entry.key ≡ false)
      → entry_at union (end_place end test union) ≡ Some entry
  union_entry Least best list entry li e rest =
      entry_ahead test union ∙ least_failing cmp total all union u test best list entry li (sym (entry_ahead test list) ∙ e) (λ i other rival lj r. rest i other rival lj (entry_ahead test other ∙ r))
  union_entry Greatest best list entry li e rest =
      entry_behind test union ∙ greatest_passing cmp total all union u test initial best list entry li (sym (entry_behind test list) ∙ e) (λ i other rival lj r. rest i other rival lj (entry_behind test other ∙ r))

  union_none : (end : End) → ((i : ℕ) (list : List InternalEntry) → slice_get all i ≡ Some list → end_place end test list ≡ None) → end_place end test union ≡ None
  union_none Least none = no_place_of Least test union (entry_ahead test union ∙ no_failing cmp total all union u test (λ i list li. sym (entry_ahead test list) ∙ ap (entry_at list) (none i list li)))
  union_none Greatest none = no_place_of Greatest test union (entry_behind test union ∙ no_passing cmp total all union u test initial (λ i list li. sym (entry_behind test list) ∙ ap (entry_at list) (none i list li)))

  -- another list's child stands beside the entry
  beside_entry : {C S : Type 0} (lists : C → S → Listed → Type 0) (source : S) (cursor : C) (end : End) (best : ℕ) (mine : List InternalEntry) (entry : InternalEntry) → slice_get all best ≡ Some mine → Among mine entry
      → entry_at union (end_place end test union) ≡ Some entry → (i : ℕ) (list : List InternalEntry) → slice_get all i ≡ Some list → (i ≡ best → ⊥)
      → lists cursor source (listed list (end_place end test list)) → IsBeside cmp lists source entry.key list cursor (side_beside (Some best) end)
  beside_entry lists source cursor Least best mine entry mi am e i list li apart h =
      subst (λ (n : ℕ). lists cursor source (listed list (within list n)))
      (same_leading test (is_below cmp entry.key) list (λ x m. sym (below_least cmp total all union u test initial entry (sym (entry_ahead test union) ∙ e) x (u.covers i list x li m)))) h
  beside_entry lists source cursor Greatest best mine entry mi am e i list li apart h =
      subst (λ (n : ℕ). lists cursor source (listed list (index_before n)))
      (same_leading test (is_below cmp entry.key) list (λ x m. sym (below_greatest cmp total all union u test initial entry (sym (entry_behind test union) ∙ e) x (u.covers i list x li m)
      (λ same. apart (u.apart i best list mine x entry li mi m am (ap (λ (w : InternalEntry). w.key) same)))))) h

-- the side beside the best isn't astray
not_astray : (best : ℕ) (end : End) → side_beside (Some best) end ≡ side.Astray → ⊥
not_astray best Least e = cc
not_astray best Greatest e = cc

pub arrived : {C S : Type 0} (cmp : Cmp) → IsTotalOrder cmp → (lists : C → S → Listed → Type 0) (end : End) (children new : List (Child C)) (source : S) (union : List InternalEntry) (place best : Option ℕ) (target : List ℕ)
    → Arrives cmp lists end children source union place
    → ((all : List (List InternalEntry)) (to : List InternalEntry → Option ℕ) → StandAt lists children source all to → IsBest cmp end all to (length children) best)
    → HasSides (side_beside best end) children new → IsMerge cmp lists new best target source (listed union place)
arrived {C} cmp total lists end children new source union place None target a b s =
    let none = b a.all (end_place end a.test) a.stand in (
      a.all,
      a.union_is,
      record {
        place_is = a.place_is ∙ union_none cmp total a.all union a.union_is a.test a.initial end (λ i list li. none i list (let w = slice_get_within a.all i list li in let l = a.stand.same_length in omega (arith, w, l)) li);
        beside = λ key. record {
          same_length = s.same_length ∙ a.stand.same_length;
          each = λ i child list ci li out.
              let old = s.each i child ci in
              subst (λ (x : Child C). IsBeside cmp lists source key list x.cursor x.side) (sym old.2) (end_place end a.test list, a.stand.each i old.0 list old.1 li);
        };
      },
    )
arrived {C} cmp total lists end children new source union place (Some best) target a b s =
    let won = b a.all (end_place end a.test) a.stand in
    let within_ = λ (i : ℕ) (list : List InternalEntry) (li : slice_get a.all i ≡ Some list). (let w = slice_get_within a.all i list li in let l = a.stand.same_length in let less : i < length children = omega (arith, w, l) in less) in
    let e = union_entry cmp total a.all union a.union_is a.test a.initial end best won.0 won.1 won.2 won.3 (λ i other rival lj r. won.4 i other rival (within_ i other lj) lj r) in
    let at = place_of_entry end a.test union won.1 e in
    let mine = place_of_entry end a.test won.0 won.1 won.3 in
    let child = slice_get_first new best (let w = slice_get_within a.all best won.0 won.2 in let l = a.stand.same_length in let k = s.same_length in omega (arith, w, l, k)) in
    let old = s.each best child.0 child.1 in (
      a.all,
      a.union_is,
      record {
        index = at.0;
        entry = won.1;
        place_is = a.place_is ∙ at.1;
        entry_is = at.2;
        child = child.0;
        list = won.0;
        within_list = mine.0;
        child_is = child.1;
        list_is = won.2;
        same = mine.2;
        on = subst (λ (x : Child C). lists x.cursor source (listed won.0 (Some mine.0))) (sym old.2)
            (subst (λ (o : Option ℕ). lists old.0.cursor source (listed won.0 o)) mine.1 (a.stand.each best old.0 won.0 old.1 won.2));
        beside = record {
          same_length = s.same_length ∙ a.stand.same_length;
          each = λ i x list ci li out.
              let before = s.each i x ci in
              subst (λ (y : Child C). IsBeside cmp lists source won.1.key list y.cursor y.side) (sym before.2)
              (beside_entry cmp total a.all union a.union_is a.test a.initial lists source before.0.cursor end best won.0 won.1 won.2 (among_get won.0 mine.0 won.1 mine.2) e i list li (λ same. out (ap Some same))
              (a.stand.each i before.0 list before.1 li));
        };
        target_is = λ i x ci astray. let before = s.each i x ci in
            absurd (not_astray best end (sym (ap (λ (y : Child C). y.side) before.2) ∙ astray));
      },
    )
