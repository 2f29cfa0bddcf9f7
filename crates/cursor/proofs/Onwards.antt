-- A search forth, entry by entry.
use Rattle.std.proofs.Common.{◌≡◌, ◌⊎◌, ◌<◌, ◌≤◌, ℕ, suc, Bool, true, false, List, Some, length, refl, sym, ap, ◌∙◌, subst, arith, inl, inr}
use Rattle.std.specs.List.{slice_get}
use Rattle.std.specs.FinMap.{IsAntisymmetric}
use Rattle.std.specs.Cmp.{IsTotalOrder}
use Rattle.std.proofs.lemmas.Bool.{cases_lt}
use Rattle.std.proofs.lemmas.Option.{slice_get_within}
use Rattle.ikey.specs.declared.internal_key.Kind.{Kind}
use Rattle.ikey.specs.declared.internal_key.Kind.TheVariants.{Delete, Put}
use Rattle.ikey.specs.Entries.{InternalEntry}
use Rattle.cursor.specs.Places.{Cmp, Listed, Rises, is_less}
use Rattle.cursor.specs.Merging.{listed}
use Rattle.cursor.specs.Views.{IsVisible}
use Rattle.cursor.specs.Searches.{SearchesOn, FoundOn, Hidden, Takes, Hides, Passes}
use Rattle.cursor.proofs.Fronts.{among_get}
use Rattle.cursor.proofs.Befores.{get_among, same_get, rises_get, later_older, put_behind_delete, later_no_lower, neither_below, no_lower_cases, no_less_itself}

-- an index is before, the same or after
pub index_cases : (k n : ℕ) → (k < n) ⊎ ((k ≡ n) ⊎ (suc n ≤ k))
index_cases k n = elim (cases_lt k n) [
  | inl l ↦ inl l
  | inr ge ↦ elim (cases_lt n k) [ inl l ↦ inr (inr (omega (arith, l))) | inr le ↦ inr (inl (omega (arith, ge, le))) ]
]

put_or_delete : (k : Kind) → k ≡ Put → k ≡ Delete → ⊥
put_or_delete k p d = let bad : Put ≡ Delete = sym p ∙ d in cc

pub true_not_false : (b : Bool) → b ≡ true → b ≡ false → ⊥
true_not_false b t f = let bad : true ≡ false = sym t ∙ f in cc

module _ (cmp : Cmp) (total : IsTotalOrder cmp) (exact : IsAntisymmetric cmp) (entries : List InternalEntry) (rises : Rises cmp entries) (sequence : ℕ) (test : List ℕ → Bool) where
  passes_same : (n : ℕ) (hides : Bool) (hidden : List ℕ) (x : InternalEntry) → slice_get entries n ≡ Some x → (sequence < x.key.sequence) ⊎ Hidden hides hidden x.key.user
      → SearchesOn cmp entries sequence test n hides hidden → SearchesOn cmp entries sequence test (suc n) hides hidden
  passes_same n hides hidden x at why h = record {
    lower = h.lower;
    passed = λ k entry less e v. elim (index_cases k n) [
      | inl l ↦ h.passed k entry l e v
      | inr (inl s) ↦
          let same : entry ≡ x = same_get entries n entry x (subst (λ (i : ℕ). slice_get entries i ≡ Some entry) s e) at in
          elim why [
            | inl new ↦ let seen : x.key.sequence ≤ sequence = subst (λ (y : InternalEntry). y.key.sequence ≤ sequence) same v.0.seen in absurd (omega (arith, new, seen))
            | inr hid ↦ h.hiding hid.0 entry v (ap (λ (y : InternalEntry). y.key.user) same ∙ sym hid.1)
          ]
      | inr (inr g) ↦ absurd (omega (arith, less, g))
    ];
    left = λ k entry le e t. h.left k entry (omega (arith, le)) e t;
    apart = λ k entry less e j later le f seen user. elim (index_cases k n) [
      | inl l ↦ h.apart k entry l e j later (omega (arith, le)) f seen user
      | inr (inl s) ↦
          let same : entry ≡ x = same_get entries n entry x (subst (λ (i : ℕ). slice_get entries i ≡ Some entry) s e) at in
          elim why [
            | inl new ↦ let old : x.key.sequence ≤ sequence = subst (λ (y : InternalEntry). y.key.sequence ≤ sequence) same seen in absurd (omega (arith, new, old))
            | inr hid ↦ (hid.0, sym user ∙ (ap (λ (y : InternalEntry). y.key.user) same ∙ sym hid.1))
          ]
      | inr (inr g) ↦ absurd (omega (arith, less, g))
    ];
    hiding = h.hiding;
  }

  pub passes_on : (n : ℕ) (hides now : Bool) (hidden hidden_now : List ℕ) (x : InternalEntry) → slice_get entries n ≡ Some x → Passes x.key sequence hides hidden now hidden_now
      → SearchesOn cmp entries sequence test n hides hidden → SearchesOn cmp entries sequence test (suc n) now hidden_now
  passes_on n hides now hidden hidden_now x at p h =
      subst (λ (b : Bool). SearchesOn cmp entries sequence test (suc n) b hidden_now) (sym p.hides_is)
      (subst (λ (u : List ℕ). SearchesOn cmp entries sequence test (suc n) hides u) (sym p.hidden_is) (passes_same n hides hidden x at p.why h))

  module _ (n : ℕ) (hides : Bool) (hidden : List ℕ) (x : InternalEntry) (at : slice_get entries n ≡ Some x) (h : SearchesOn cmp entries sequence test n hides hidden) where
    hides_same : x.key.sequence ≤ sequence → (Hidden hides hidden x.key.user → ⊥) → x.key.kind ≡ Delete → SearchesOn cmp entries sequence test (suc n) true x.key.user
    hides_same seen shown delete = record {
      lower = h.lower;
      passed = λ k entry less e v. elim (index_cases k n) [
        | inl l ↦ h.passed k entry l e v
        | inr (inl s) ↦
            let same : entry ≡ x = same_get entries n entry x (subst (λ (i : ℕ). slice_get entries i ≡ Some entry) s e) at in
            absurd (put_or_delete x.key.kind (subst (λ (y : InternalEntry). y.key.kind ≡ Put) same v.1) delete)
        | inr (inr g) ↦ absurd (omega (arith, less, g))
      ];
      left = λ k entry le e t.
          let above = rises_get cmp entries n k x entry rises (omega (arith, le)) at e in
          let passes : test x.key.user ≡ true = elim (no_lower_cases cmp total exact x.key.user entry.key.user (later_no_lower cmp total exact x.key entry.key above)) [
            | inl s ↦ ap test s ∙ t
            | inr l ↦ h.lower x.key.user entry.key.user l t
          ] in
          let hid = h.left n x (omega arith) at passes in
          absurd (shown (hid.0, sym hid.1));
      apart = λ k entry less e j later le f old user. elim (index_cases k n) [
        | inl l ↦
            let first = later_no_lower cmp total exact entry.key x.key (rises_get cmp entries k n entry x rises l e at) in
            let second = later_no_lower cmp total exact x.key later.key (rises_get cmp entries n j x later rises (omega (arith, le)) at f) in
            let same : entry.key.user ≡ x.key.user = neither_below cmp total exact entry.key.user x.key.user (ap (λ (a : List ℕ). is_less (cmp a x.key.user)) user ∙ second) first in
            let hid = h.apart k entry l e n x (omega arith) at old same in
            absurd (shown (hid.0, sym hid.1))
        | inr (inl s) ↦
            let same : entry ≡ x = same_get entries n entry x (subst (λ (i : ℕ). slice_get entries i ≡ Some entry) s e) at in
            (refl, sym user ∙ ap (λ (y : InternalEntry). y.key.user) same)
        | inr (inr g) ↦ absurd (omega (arith, less, g))
      ];
      hiding = λ _ entry v user.
          let place = get_among entries entry v.0.member in
          absurd (elim (index_cases place.0 n) [
            | inl l ↦ let hid = h.apart place.0 entry l place.1 n x (omega arith) at v.0.seen user in shown (hid.0, sym hid.1)
            | inr (inl s) ↦
                let same : entry ≡ x = same_get entries n entry x (subst (λ (i : ℕ). slice_get entries i ≡ Some entry) s place.1) at in
                put_or_delete x.key.kind (subst (λ (y : InternalEntry). y.key.kind ≡ Put) same v.1) delete
            | inr (inr g) ↦
                let older = put_behind_delete cmp total exact x.key entry.key (rises_get cmp entries n place.0 x entry rises (omega (arith, g)) at place.1) (sym user) delete v.1 in
                let newest = v.0.greatest x (among_get entries n x at) (sym user) seen in
                omega (arith, older, newest)
          ]);
    }

    pub hides_on : (now : Bool) (hidden_now : List ℕ) → Hides x.key sequence hides hidden now hidden_now → SearchesOn cmp entries sequence test (suc n) now hidden_now
    hides_on now hidden_now p =
        subst (λ (b : Bool). SearchesOn cmp entries sequence test (suc n) b hidden_now) (sym p.hides_is)
        (subst (λ (u : List ℕ). SearchesOn cmp entries sequence test (suc n) true u) (sym p.hidden_is) (hides_same p.seen p.shown p.delete))

    pub takes_on : {C S : Type 0} (lists : C → S → Listed → Type 0) (cursor : C) (source : S) (found : List ℕ) → lists cursor source (listed entries (Some n)) → Takes x.key sequence hides hidden found
        → FoundOn cmp lists cursor source entries sequence test found
    takes_on lists cursor source found on p = record {
      index = n;
      entry = x;
      entry_is = at;
      on = on;
      key_is = p.found_is;
      visible = (
        record {
          member = among_get entries n x at;
          seen = p.seen;
          greatest = λ other member user seen.
              let place = get_among entries other member in
              elim (index_cases place.0 n) [
                | inl l ↦ let hid = h.apart place.0 other l place.1 n x (omega arith) at seen user in absurd (p.shown (hid.0, sym hid.1))
                | inr (inl s) ↦
                    let same : other ≡ x = same_get entries n other x (subst (λ (i : ℕ). slice_get entries i ≡ Some other) s place.1) at in
                    let long : other.key.sequence ≡ x.key.sequence = ap (λ (y : InternalEntry). y.key.sequence) same in
                    omega (arith, long)
                | inr (inr g) ↦ later_older cmp total exact x.key other.key (rises_get cmp entries n place.0 x other rises (omega (arith, g)) at place.1) (sym user)
              ];
        },
        p.put,
      );
      fails = fails (test x.key.user) refl;
      least = λ other v f.
          let place = get_among entries other v.0.member in
          elim (index_cases place.0 n) [
            | inl l ↦ absurd (true_not_false (test other.key.user) (h.passed place.0 other l place.1 v) f)
            | inr (inl s) ↦
                let same : other ≡ x = same_get entries n other x (subst (λ (i : ℕ). slice_get entries i ≡ Some other) s place.1) at in
                ap (λ (y : InternalEntry). is_less (cmp y.key.user x.key.user)) same ∙ no_less_itself cmp total exact x.key.user
            | inr (inr g) ↦ later_no_lower cmp total exact x.key other.key (rises_get cmp entries n place.0 x other rises (omega (arith, g)) at place.1)
          ];
    }
      where
        fails : (b : Bool) → test x.key.user ≡ b → test x.key.user ≡ false
        fails true e = let hid = h.left n x (omega arith) at e in absurd (p.shown (hid.0, sym hid.1))
        fails false e = e

  -- after the last entry
  pub none_on : (n : ℕ) (hides : Bool) (hidden : List ℕ) → length entries ≤ n → SearchesOn cmp entries sequence test n hides hidden → (entry : InternalEntry) → IsVisible entries sequence entry → test entry.key.user ≡ true
  none_on n hides hidden long h entry v =
      let place = get_among entries entry v.0.member in
      let less = slice_get_within entries place.0 entry place.1 in
      h.passed place.0 entry (omega (arith, less, long)) place.1 v
