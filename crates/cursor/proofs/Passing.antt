-- A merge that leaves its entry.
use Rattle.std.proofs.Common.{◌≡◌, ℕ, zero, suc, Bool, true, false, not, cond, List, [], ◌∷◌, Some, slice_set, refl, sym, ap, ◌∙◌, subst, inl, inr}
use Rattle.std.specs.List.{slice_get}
use Rattle.std.specs.Option.{option_and_then}
use Rattle.std.proofs.lemmas.Option.{slice_get_within}
use Rattle.std.specs.declared.cmp.Ordering.TheVariants.{Less}
use Rattle.std.specs.Cmp.{IsTotalOrder}
use Rattle.ikey.specs.Entries.{InternalEntry}
use Rattle.ikey.specs.Keys.{Key, key_cmp}
use Rattle.cursor.specs.declared.child.Child.{Child}
use Rattle.cursor.specs.declared.children.End.TheVariants.{Least, Greatest}
use Rattle.cursor.specs.Places.{Cmp, Listed, Rises, is_less, is_below, within, index_before, index_behind, leading, to_next, to_prev}
use Rattle.ikey.specs.Views.{Among}
use Rattle.cursor.specs.Merging.{IsUnion, AreBeside, Each, StandsOn, IsTarget, listed, ahead, behind}
use Rattle.cursor.specs.Motions.{Arrives, IsInitial}
use Rattle.cursor.proofs.Fronts.{among_get, all_among, rises_cases}
use Rattle.cursor.proofs.Orders.{true_or_false, is_less_of, less_then_less}
use Rattle.cursor.proofs.Unions.{same_leading, not_less_itself, no_less}
use Rattle.cursor.proofs.Moving.{get_set_cases, get_set_same, length-slice_set}
use Rattle.cursor.proofs.Turns.{beside_moved}

some_same : (i k : ℕ) → Some i ≡ Some k → i ≡ k
some_same i k e = cc

-- ---- how many stand before an entry

-- the entry isn't after the key
abbrev pub is_up_to : Cmp → Key → InternalEntry → Bool
is_up_to cmp key entry = not (is_less (key_cmp cmp key entry.key))

pub below_initial : (cmp : Cmp) → IsTotalOrder cmp → (key : Key) (list : List InternalEntry) → IsInitial cmp (is_below cmp key) list
below_initial cmp o key list x y m n less below = less_then_less cmp o x.key y.key key (is_less_of (key_cmp cmp x.key y.key) less) below

up_to_initial : (cmp : Cmp) → IsTotalOrder cmp → (key : Key) (list : List InternalEntry) → IsInitial cmp (is_up_to cmp key) list
up_to_initial cmp o key list x y m n less up = elim (true_or_false (is_less (key_cmp cmp key x.key))) [
  | inl t ↦
      let above = less_then_less cmp o key x.key y.key t (is_less_of (key_cmp cmp x.key y.key) less) in
      let bad : false ≡ true = sym (ap not above) ∙ up in absurd cc
  | inr f ↦ ap not f
]

pub none_leading : (test : InternalEntry → Bool) (list : List InternalEntry) → ((x : InternalEntry) → Among list x → test x ≡ false) → leading test list ≡ 0
none_leading test [] h = refl
none_leading test (x ∷ list) h = ap (λ (b : Bool). cond b (suc (leading test list)) zero) (h x (inl refl))

pub leading_before : (cmp : Cmp) → IsTotalOrder cmp → (list : List InternalEntry) (n : ℕ) (entry : InternalEntry) → Rises cmp list → slice_get list n ≡ Some entry → leading (is_below cmp entry.key) list ≡ n
leading_before cmp o [] n entry r e = absurd cc
leading_before cmp o (x ∷ list) zero entry r e =
    let s : x ≡ entry = cc in
    ap (λ (b : Bool). cond b (suc (leading (is_below cmp entry.key) list)) zero) (ap (λ (w : InternalEntry). is_less (key_cmp cmp w.key entry.key)) s ∙ not_less_itself cmp o entry.key)
leading_before cmp o (x ∷ list) (suc n) entry r e =
    ap (λ (b : Bool). cond b (suc (leading (is_below cmp entry.key) list)) zero)
    (is_less_of (key_cmp cmp x.key entry.key) (all_among (λ (later : InternalEntry). key_cmp cmp x.key later.key ≡ Less) list entry r.0 (among_get list n entry e)))
    ∙ ap suc (leading_before cmp o list n entry r.1 e)

pub leading_past : (cmp : Cmp) → IsTotalOrder cmp → (list : List InternalEntry) (n : ℕ) (entry : InternalEntry) → Rises cmp list → slice_get list n ≡ Some entry → leading (is_up_to cmp entry.key) list ≡ suc n
leading_past cmp o [] n entry r e = absurd cc
leading_past cmp o (x ∷ list) zero entry r e =
    let s : x ≡ entry = cc in
    ap (λ (b : Bool). cond b (suc (leading (is_up_to cmp entry.key) list)) zero) (ap (λ (w : InternalEntry). not (is_less (key_cmp cmp entry.key w.key))) s ∙ ap not (not_less_itself cmp o entry.key))
    ∙ ap suc (none_leading (is_up_to cmp entry.key) list (λ y m. ap not
    (is_less_of (key_cmp cmp entry.key y.key) (subst (λ (w : InternalEntry). key_cmp cmp w.key y.key ≡ Less) s (all_among (λ (later : InternalEntry). key_cmp cmp x.key later.key ≡ Less) list y r.0 m)))))
leading_past cmp o (x ∷ list) (suc n) entry r e =
    ap (λ (b : Bool). cond b (suc (leading (is_up_to cmp entry.key) list)) zero)
    (ap not (no_less cmp o x.key entry.key (is_less_of (key_cmp cmp x.key entry.key) (all_among (λ (later : InternalEntry). key_cmp cmp x.key later.key ≡ Less) list entry r.0 (among_get list n entry e)))))
    ∙ ap suc (leading_past cmp o list n entry r.1 e)

-- in a list that hasn't the entry, as many stand up to it as below it
apart_leading : (cmp : Cmp) → IsTotalOrder cmp → (union list : List InternalEntry) (entry : InternalEntry) → Rises cmp union → Among union entry → ((x : InternalEntry) → Among list x → Among union x)
    → ((x : InternalEntry) → Among list x → x ≡ entry → ⊥) → leading (is_below cmp entry.key) list ≡ leading (is_up_to cmp entry.key) list
apart_leading cmp o union list entry r m from out = same_leading (is_below cmp entry.key) (is_up_to cmp entry.key) list (λ x n.
    elim (rises_cases cmp union x entry r (from x n) m) [
      | inl s ↦ absurd (out x n s)
      | inr other ↦ elim other [
        | inl less ↦ less ∙ sym (ap not (no_less cmp o x.key entry.key less))
        | inr more ↦ no_less cmp o entry.key x.key more ∙ sym (ap not more)
      ]
    ])

-- ---- a merge that stays where it is

module _ {C S : Type 0} (cmp : Cmp) (lists : C → S → Listed → Type 0) (all : List (List InternalEntry)) (index : ℕ) (target : List ℕ) (at : Listed) where
  -- the other children have moved, or some of them
  abbrev pub others_moved : (before now : List (Child C)) (s t : S) (m : StandsOn cmp lists before index target s all at)
      → AreBeside cmp lists now (Some index) t m.entry.key all → slice_get now index ≡ slice_get before index → IsTarget now target m.entry.key
      → ((a : Listed) → lists m.child.cursor s a → lists m.child.cursor t a) → StandsOn cmp lists now index target t all at
  others_moved before now s t m beside left aims kept = record {
    index = m.index;
    entry = m.entry;
    place_is = m.place_is;
    entry_is = m.entry_is;
    child = m.child;
    list = m.list;
    within_list = m.within_list;
    child_is = left ∙ m.child_is;
    list_is = m.list_is;
    same = m.same;
    on = kept (listed m.list (Some m.within_list)) m.on;
    beside = beside;
    target_is = aims;
  }

  -- its own child has been moved, and stands where it stood
  pub own_moved : (now : List (Child C)) (s t : S) (m : StandsOn cmp lists now index target s all at) (new : Child C) → new.side ≡ m.child.side
      → ((a : Listed) → lists m.child.cursor s a → lists new.cursor t a) → ((cursor : C) (a : Listed) → lists cursor s a → lists cursor t a)
      → StandsOn cmp lists (slice_set now index new) index target t all at
  own_moved now s t m new side own others =
      let within = slice_get_within now index m.child m.child_is in
      record {
        index = m.index;
        entry = m.entry;
        place_is = m.place_is;
        entry_is = m.entry_is;
        child = new;
        list = m.list;
        within_list = m.within_list;
        child_is = get_set_same now index new within;
        list_is = m.list_is;
        same = m.same;
        on = own (listed m.list (Some m.within_list)) m.on;
        beside = record {
          same_length = length-slice_set now index new ∙ m.beside.same_length;
          each = λ i child list ci li out. elim (get_set_cases now index i new child within ci) [
            | inl e ↦ absurd (out (ap Some e.0))
            | inr e ↦ beside_moved cmp lists s t m.entry.key list child.cursor child.cursor child.side (others child.cursor) (m.beside.each i child list e.1 li out)
          ];
        };
        target_is = λ i child ci astray. elim (get_set_cases now index i new child within ci) [
          | inl e ↦ m.target_is index m.child m.child_is (sym side ∙ (sym (ap (λ (x : Child C). x.side) e.1) ∙ astray))
          | inr e ↦ m.target_is i child e.1 astray
        ];
      }

  -- ---- a merge that goes on

  pub passed_next : IsTotalOrder cmp → (now : List (Child C)) (s t : S) (u : IsUnion cmp all at.entries) (m : StandsOn cmp lists now index target s all at) (new : Child C)
      → Each now all (λ i child list. (Some i ≡ Some index → ⊥) → lists child.cursor s (listed list (ahead (is_below cmp m.entry.key) list)))
      → lists new.cursor t (listed m.list (index_behind m.list m.within_list)) → ((cursor : C) (a : Listed) → lists cursor s a → lists cursor t a)
      → Arrives cmp lists Least (slice_set now index new) t at.entries (to_next at)
  passed_next o now s t u m new gone own others =
      let within_now = slice_get_within now index m.child m.child_is in
      let among = among_get at.entries m.index m.entry m.entry_is in
      record {
        all = all;
        test = is_up_to cmp m.entry.key;
        union_is = u;
        initial = up_to_initial cmp o m.entry.key at.entries;
        place_is = ap (option_and_then (index_behind at.entries)) m.place_is ∙ ap (within at.entries) (sym (leading_past cmp o at.entries m.index m.entry u.rises m.entry_is));
        stand = record {
          same_length = length-slice_set now index new ∙ m.beside.same_length;
          each = λ i child list ci li. elim (get_set_cases now index i new child within_now ci) [
            | inl e ↦
                let both : Some m.list ≡ Some list = sym m.list_is ∙ (ap (slice_get all) (sym e.0) ∙ li) in
                let same : m.list ≡ list = cc in
                subst (λ (x : Child C). lists x.cursor t (listed list (ahead (is_up_to cmp m.entry.key) list))) (sym e.1)
                (subst (λ (l : List InternalEntry). lists new.cursor t (listed l (ahead (is_up_to cmp m.entry.key) l))) same
                (subst (λ (n : ℕ). lists new.cursor t (listed m.list (within m.list n))) (sym (leading_past cmp o m.list m.within_list m.entry (u.each_rises index m.list m.list_is) m.same)) own))
            | inr e ↦
                let other : Some i ≡ Some index → ⊥ = λ same. e.0 (some_same i index same) in
                subst (λ (n : ℕ). lists child.cursor t (listed list (within list n)))
                (apart_leading cmp o at.entries list m.entry u.rises among (λ x mx. u.covers i list x li mx)
                (λ x mx same. e.0 (u.apart i index list m.list x m.entry li m.list_is mx (among_get m.list m.within_list m.entry m.same) (ap (λ (w : InternalEntry). w.key) same))))
                (others child.cursor (listed list (ahead (is_below cmp m.entry.key) list)) (gone.each i child list e.1 li other))
          ];
        };
      }

  pub passed_prev : IsTotalOrder cmp → (now : List (Child C)) (s t : S) (u : IsUnion cmp all at.entries) (m : StandsOn cmp lists now index target s all at) (new : Child C)
      → Each now all (λ i child list. (Some i ≡ Some index → ⊥) → lists child.cursor s (listed list (behind (is_below cmp m.entry.key) list)))
      → lists new.cursor t (listed m.list (index_before m.within_list)) → ((cursor : C) (a : Listed) → lists cursor s a → lists cursor t a)
      → Arrives cmp lists Greatest (slice_set now index new) t at.entries (to_prev at)
  passed_prev o now s t u m new gone own others =
      let within_now = slice_get_within now index m.child m.child_is in
      record {
        all = all;
        test = is_below cmp m.entry.key;
        union_is = u;
        initial = below_initial cmp o m.entry.key at.entries;
        place_is = ap (option_and_then index_before) m.place_is ∙ ap index_before (sym (leading_before cmp o at.entries m.index m.entry u.rises m.entry_is));
        stand = record {
          same_length = length-slice_set now index new ∙ m.beside.same_length;
          each = λ i child list ci li. elim (get_set_cases now index i new child within_now ci) [
            | inl e ↦
                let both : Some m.list ≡ Some list = sym m.list_is ∙ (ap (slice_get all) (sym e.0) ∙ li) in
                let same : m.list ≡ list = cc in
                subst (λ (x : Child C). lists x.cursor t (listed list (behind (is_below cmp m.entry.key) list))) (sym e.1)
                (subst (λ (l : List InternalEntry). lists new.cursor t (listed l (behind (is_below cmp m.entry.key) l))) same
                (subst (λ (n : ℕ). lists new.cursor t (listed m.list (index_before n))) (sym (leading_before cmp o m.list m.within_list m.entry (u.each_rises index m.list m.list_is) m.same)) own))
            | inr e ↦
                let other : Some i ≡ Some index → ⊥ = λ same. e.0 (some_same i index same) in
                others child.cursor (listed list (behind (is_below cmp m.entry.key) list)) (gone.each i child list e.1 li other)
          ];
        };
      }
