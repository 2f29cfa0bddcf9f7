-- A search back, entry by entry.
use Rattle.std.proofs.Common.{◌≡◌, ◌⊎◌, ◌<◌, ◌≤◌, ℕ, suc, Bool, true, false, List, Some, None, refl, sym, ap, ◌∙◌, subst, arith, inl, inr}
use Rattle.std.specs.List.{slice_get}
use Rattle.std.specs.FinMap.{IsAntisymmetric}
use Rattle.std.specs.Cmp.{IsTotalOrder}
use Rattle.std.specs.declared.cmp.Ordering.TheVariants.{Less}
use Rattle.std.proofs.lemmas.Bool.{cases_lt}
use Rattle.std.proofs.lemmas.Option.{slice_get_within}
use Rattle.ikey.specs.declared.internal_key.Kind.TheVariants.{Delete, Put}
use Rattle.ikey.specs.Entries.{InternalEntry}
use Rattle.cursor.specs.Places.{Cmp, Listed, Rises, is_less, index_before, leading}
use Rattle.cursor.specs.Merging.{listed}
use Rattle.cursor.specs.Views.{IsVisible, is_user_below}
use Rattle.cursor.specs.Searches.{IsCandidate, HasPassedNone, SearchesBack, FoundBack, AnswersBack, LooksBack}
use Rattle.cursor.proofs.Orders.{is_less_of}
use Rattle.cursor.proofs.Fronts.{among_get}
use Rattle.cursor.proofs.Singles.{leading_at}
use Rattle.cursor.proofs.Befores.{get_among, same_get, rises_get, itself, later_older, put_behind_delete, later_no_lower, no_lower_cases, less_or_not, no_less_itself}
use Rattle.cursor.proofs.Onwards.{true_not_false}

-- the index is this one or after it
from_cases : (k n : ℕ) → n ≤ k → (k ≡ n) ⊎ (suc n ≤ k)
from_cases k n h = elim (cases_lt n k) [ inl l ↦ inr (omega (arith, l)) | inr le ↦ inl (omega (arith, h, le)) ]

module _ (cmp : Cmp) (total : IsTotalOrder cmp) (exact : IsAntisymmetric cmp) (entries : List InternalEntry) (rises : Rises cmp entries) (sequence : ℕ) (test : List ℕ → Bool) where
  -- what stands from the candidate's index on decides, where all before it have lower user keys
  found_back : {C S : Type 0} (lists : C → S → Listed → Type 0) (cursor : C) (source : S) (n : ℕ) (key value : List ℕ) (h : IsCandidate cmp entries sequence test n key value)
      → ((k : ℕ) (entry : InternalEntry) → k < n → slice_get entries k ≡ Some entry → cmp entry.key.user h.entry.key.user ≡ Less)
      → lists cursor source (listed entries (index_before n)) → FoundBack cmp lists cursor source entries sequence test key value
  found_back {C} {S} lists cursor source n key value h lower on = record {
    entry = h.entry;
    beneath = subst (λ (m : ℕ). lists cursor source (listed entries (index_before m))) count on;
    key_is = h.key_is;
    value_is = h.value_is;
    visible = (
      record {
        member = among_get entries h.place h.entry h.entry_is;
        seen = h.seen;
        greatest = λ other member user seen.
            let place = get_among entries other member in
            elim (cases_lt place.0 n) [
              | inl l ↦ absurd (itself cmp total exact h.entry.key.user (subst (λ (a : List ℕ). cmp a h.entry.key.user ≡ Less) user (lower place.0 other l place.1)))
              | inr ge ↦ h.newest place.0 other ge place.1 user seen
            ];
      },
      h.put,
    );
    passes = h.passes;
    greatest = λ other v t.
        let place = get_among entries other v.0.member in
        elim (cases_lt place.0 n) [
          | inl l ↦ less_or_not cmp total exact other.key.user h.entry.key.user (lower place.0 other l place.1)
          | inr ge ↦ ap (λ (a : List ℕ). is_less (cmp h.entry.key.user a)) (h.only place.0 other ge place.1 v t) ∙ no_less_itself cmp total exact h.entry.key.user
        ];
  }
    where
      count : n ≡ leading (is_user_below cmp h.entry.key.user) entries
      count =
          leading_at (is_user_below cmp h.entry.key.user) entries n
          (λ k e less at. is_less_of (cmp e.key.user h.entry.key.user) (lower k e less at))
          (λ e at. h.lowest n e (omega arith) at)
          (let w = slice_get_within entries h.place h.entry h.entry_is in let i = h.inside in omega (arith, w, i))

  module _ (n : ℕ) (x : InternalEntry) (at : slice_get entries n ≡ Some x) where
    is_x : (k : ℕ) (other : InternalEntry) → k ≡ n → slice_get entries k ≡ Some other → other ≡ x
    is_x k other s e = same_get entries n other x (subst (λ (i : ℕ). slice_get entries i ≡ Some other) s e) at

    -- the entry before the candidate has another user key
    pub ends_back : {C S : Type 0} (lists : C → S → Listed → Type 0) (cursor : C) (source : S) (key value : List ℕ) → IsCandidate cmp entries sequence test (suc n) key value
        → (x.key.user ≡ key → ⊥) → lists cursor source (listed entries (Some n)) → FoundBack cmp lists cursor source entries sequence test key value
    ends_back lists cursor source key value h other on =
        let above = rises_get cmp entries n h.place x h.entry rises (let i = h.inside in omega (arith, i)) at h.entry_is in
        let below : cmp x.key.user h.entry.key.user ≡ Less = elim (no_lower_cases cmp total exact x.key.user h.entry.key.user (later_no_lower cmp total exact x.key h.entry.key above)) [
          | inl s ↦ absurd (other (s ∙ sym h.key_is))
          | inr l ↦ l
        ] in
        found_back lists cursor source (suc n) key value h
        (λ k entry less e. elim (cases_lt k n) [
          | inl l ↦
              let front = later_no_lower cmp total exact entry.key x.key (rises_get cmp entries k n entry x rises l e at) in
              elim (no_lower_cases cmp total exact entry.key.user x.key.user front) [
                | inl s ↦ subst (λ (a : List ℕ). cmp a h.entry.key.user ≡ Less) (sym s) below
                | inr lower ↦ total.trans entry.key.user x.key.user h.entry.key.user lower below
              ]
          | inr ge ↦ subst (λ (y : InternalEntry). cmp y.key.user h.entry.key.user ≡ Less) (sym (is_x k entry (omega (arith, less, ge)) e)) below
        ])
        on

    only_same : (has : Bool) (key value : List ℕ) → SearchesBack cmp entries sequence test (suc n) has key value → (has ≡ true → x.key.user ≡ key)
        → (k : ℕ) (other : InternalEntry) → suc n ≤ k → slice_get entries k ≡ Some other → IsVisible entries sequence other → test other.key.user ≡ true → other.key.user ≡ x.key.user
    only_same true key value h same k other le e v t = h.only k other le e v t ∙ (sym h.key_is ∙ sym (same refl))
    only_same false key value h same k other le e v t = absurd (h k other le e v t)

    replaces_same : (has : Bool) (key value : List ℕ) → SearchesBack cmp entries sequence test (suc n) has key value → (has ≡ true → x.key.user ≡ key)
        → x.key.sequence ≤ sequence → test x.key.user ≡ true → x.key.kind ≡ Put → (key_now value_now : List ℕ) → key_now ≡ x.key.user → value_now ≡ x.value → IsCandidate cmp entries sequence test n key_now value_now
    replaces_same has key value h same seen passes put key_now value_now key_is value_is = record {
      place = n;
      entry = x;
      inside = omega arith;
      entry_is = at;
      key_is = key_is;
      value_is = value_is;
      seen = seen;
      put = put;
      passes = passes;
      newest = λ k other le e user s. elim (from_cases k n le) [
        | inl i ↦ let long : other.key.sequence ≡ x.key.sequence = ap (λ (y : InternalEntry). y.key.sequence) (is_x k other i e) in omega (arith, long)
        | inr g ↦ later_older cmp total exact x.key other.key (rises_get cmp entries n k x other rises (omega (arith, g)) at e) (sym user)
      ];
      lowest = λ k other le e. elim (from_cases k n le) [
        | inl i ↦ ap (λ (y : InternalEntry). is_less (cmp y.key.user x.key.user)) (is_x k other i e) ∙ no_less_itself cmp total exact x.key.user
        | inr g ↦ later_no_lower cmp total exact x.key other.key (rises_get cmp entries n k x other rises (omega (arith, g)) at e)
      ];
      only = λ k other le e v t. elim (from_cases k n le) [
        | inl i ↦ ap (λ (y : InternalEntry). y.key.user) (is_x k other i e)
        | inr g ↦ only_same has key value h same k other g e v t
      ];
    }

    clears_same : (has : Bool) (key value : List ℕ) → SearchesBack cmp entries sequence test (suc n) has key value → (has ≡ true → x.key.user ≡ key)
        → x.key.sequence ≤ sequence → x.key.kind ≡ Delete → HasPassedNone entries sequence test n
    clears_same has key value h same seen delete = λ k other le e v t. elim (from_cases k n le) [
      | inl i ↦
          let put : x.key.kind ≡ Put = subst (λ (y : InternalEntry). y.key.kind ≡ Put) (is_x k other i e) v.1 in
          let bad : Put ≡ Delete = sym put ∙ delete in cc
      | inr g ↦
          let user = only_same has key value h same k other g e v t in
          let older = put_behind_delete cmp total exact x.key other.key (rises_get cmp entries n k x other rises (omega (arith, g)) at e) (sym user) delete v.1 in
          let newest = v.0.greatest x (among_get entries n x at) (sym user) seen in
          omega (arith, older, newest)
    ]

    not_visible : (sequence < x.key.sequence) ⊎ (test x.key.user ≡ false) → IsVisible entries sequence x → test x.key.user ≡ true → ⊥
    not_visible (inl new) v t = let s = v.0.seen in omega (arith, new, s)
    not_visible (inr f) v t = true_not_false (test x.key.user) t f

    skips_same : (has : Bool) (key value : List ℕ) → SearchesBack cmp entries sequence test (suc n) has key value → (has ≡ true → x.key.user ≡ key)
        → (sequence < x.key.sequence) ⊎ (test x.key.user ≡ false) → SearchesBack cmp entries sequence test n has key value
    skips_same false key value h same why = λ k other le e v t. elim (from_cases k n le) [
      | inl i ↦ let s = is_x k other i e in not_visible why (subst (IsVisible entries sequence) s v) (sym (ap (λ (y : InternalEntry). test y.key.user) s) ∙ t)
      | inr g ↦ h k other g e v t
    ]
    skips_same true key value h same why =
        let user : x.key.user ≡ h.entry.key.user = same refl ∙ h.key_is in
        record {
          place = h.place;
          entry = h.entry;
          inside = (let i = h.inside in omega (arith, i));
          entry_is = h.entry_is;
          key_is = h.key_is;
          value_is = h.value_is;
          seen = h.seen;
          put = h.put;
          passes = h.passes;
          newest = λ k other le e u s. elim (from_cases k n le) [
            | inl i ↦ absurd (elim why [
              | inl new ↦ let long : other.key.sequence ≡ x.key.sequence = ap (λ (y : InternalEntry). y.key.sequence) (is_x k other i e) in omega (arith, new, s, long)
              | inr f ↦ true_not_false (test x.key.user) (ap test user ∙ h.passes) f
            ])
            | inr g ↦ h.newest k other g e u s
          ];
          lowest = λ k other le e. elim (from_cases k n le) [
            | inl i ↦ ap (λ (y : InternalEntry). is_less (cmp y.key.user h.entry.key.user)) (is_x k other i e) ∙ (ap (λ (a : List ℕ). is_less (cmp a h.entry.key.user)) user ∙ no_less_itself cmp total exact h.entry.key.user)
            | inr g ↦ h.lowest k other g e
          ];
          only = λ k other le e v t. elim (from_cases k n le) [
            | inl i ↦ ap (λ (y : InternalEntry). y.key.user) (is_x k other i e) ∙ user
            | inr g ↦ h.only k other g e v t
          ];
        }

    -- one entry further back
    pub looks_back : (has has_now : Bool) (key value key_now value_now : List ℕ) → SearchesBack cmp entries sequence test (suc n) has key value
        → LooksBack x.key x.value sequence test has key value has_now key_now value_now false → SearchesBack cmp entries sequence test n has_now key_now value_now
    looks_back has has_now key value key_now value_now h (inl p) =
        subst (λ (b : Bool). SearchesBack cmp entries sequence test n b key_now value_now) (sym p.has_is) (replaces_same has key value h p.same p.seen p.passes p.put key_now value_now p.found_is p.value_is)
    looks_back has has_now key value key_now value_now h (inr (inl p)) =
        subst (λ (b : Bool). SearchesBack cmp entries sequence test n b key_now value_now) (sym p.has_is) (clears_same has key value h p.same p.seen p.delete)
    looks_back has has_now key value key_now value_now h (inr (inr p)) =
        subst (λ (b : Bool). SearchesBack cmp entries sequence test n b key_now value_now) (sym p.has_is)
        (subst (λ (u : List ℕ). SearchesBack cmp entries sequence test n has u value_now) (sym p.found_is)
        (subst (λ (w : List ℕ). SearchesBack cmp entries sequence test n has key w) (sym p.value_is) (skips_same has key value h p.same p.why)))

  -- before the first entry
  pub front_back : {C S : Type 0} (lists : C → S → Listed → Type 0) (cursor : C) (source : S) (has : Bool) (key value : List ℕ) → SearchesBack cmp entries sequence test 0 has key value → lists cursor source (listed entries None)
      → AnswersBack cmp lists cursor source entries sequence test key value has
  front_back lists cursor source true key value h on = found_back lists cursor source 0 key value h (λ k entry less e. absurd (omega (arith, less))) on
  front_back lists cursor source false key value h on = λ entry v t. let place = get_among entries entry v.0.member in h place.0 entry (omega arith) place.1 v t
