-- Cuts beside the places to which moves lead.
use Rattle.std.proofs.Common.{◌≡◌, ℕ, true, false, not, List, Option, None, Some, is_some, refl, sym, ap, ◌∙◌, subst, inl, inr}
use Rattle.std.specs.List.{slice_get}
use Rattle.std.specs.Cmp.{IsTotalOrder}
use Rattle.ikey.specs.Entries.{InternalEntry}
use Rattle.ikey.specs.Keys.{Key, key_cmp}
use Rattle.ikey.specs.Views.{Among}
use Rattle.cursor.specs.Cuts.{Front, End as EndCut, Below, Above, SameCut, behind_entry, in_front_of_entry, next_cut, prev_cut}
use Rattle.cursor.specs.Places.{Cmp, Listed, Rises, is_less, is_below}
use Rattle.cursor.specs.Merging.{listed, ahead, behind}
use Rattle.cursor.specs.Motions.{entry_at}
use Rattle.cursor.proofs.Best.{no_place}
use Rattle.cursor.proofs.Fronts.{entry_ahead, entry_behind, failing_fails, failing_least, first_failing, last_passing, none_failing, none_passing, passing_greatest, passing_passes, rises_cases}
use Rattle.cursor.proofs.Orders.{less_is, true_or_false}
use Rattle.cursor.proofs.Passing.{below_initial}
use Rattle.cursor.proofs.Unions.{no_less, not_less_itself}

module _ (cmp : Cmp) (o : IsTotalOrder cmp) (place : Key) (list : List InternalEntry) (rises : Rises cmp list) where
  -- after the last entry that comes before a key
  behind_last : (last : Option InternalEntry) → last_passing (is_below cmp place) list ≡ last → SameCut cmp list (behind_entry last) (Below place)
  behind_last None e x m = sym (none_passing cmp (is_below cmp place) list x rises (below_initial cmp o place list) e m)
  behind_last (Some last) e x m = elim (true_or_false (is_less (key_cmp cmp x.key place))) [
    | inl t ↦ elim (passing_greatest cmp (is_below cmp place) list last x rises (below_initial cmp o place list) e m t) [
      | inl same ↦ ap not (ap (λ (w : InternalEntry). is_less (key_cmp cmp last.key w.key)) same ∙ not_less_itself cmp o last.key) ∙ sym t
      | inr less ↦ ap not (no_less cmp o x.key last.key less) ∙ sym t
    ]
    | inr f ↦
        let p = passing_passes (is_below cmp place) list last e in
        elim (rises_cases cmp list x last rises m p.1) [
          | inl same ↦ let bad : true ≡ false = sym p.0 ∙ (ap (is_below cmp place) (sym same) ∙ f) in absurd cc
          | inr other ↦ elim other [
            | inl less ↦ let bad : true ≡ false = sym (below_initial cmp o place list x last m p.1 (less_is (key_cmp cmp x.key last.key) less) p.0) ∙ f in absurd cc
            | inr more ↦ ap not more ∙ sym f
          ]
        ]
  ]

  pub next_behind : SameCut cmp list (next_cut (listed list (behind (is_below cmp place) list))) (Below place)
  next_behind = subst (λ (last : Option InternalEntry). SameCut cmp list (behind_entry last) (Below place)) (sym (entry_behind (is_below cmp place) list)) (behind_last (last_passing (is_below cmp place) list) refl)

  -- before the first entry that doesn't
  in_front_of_first : (first : Option InternalEntry) → first_failing (is_below cmp place) list ≡ first → SameCut cmp list (in_front_of_entry first) (Below place)
  in_front_of_first None e x m = sym (none_failing (is_below cmp place) list x e m)
  in_front_of_first (Some first) e x m = elim (true_or_false (is_less (key_cmp cmp x.key place))) [
    | inr f ↦ elim (failing_least cmp (is_below cmp place) list first x rises e m f) [
      | inl same ↦ ap (λ (w : InternalEntry). is_less (key_cmp cmp w.key first.key)) same ∙ (not_less_itself cmp o first.key ∙ sym f)
      | inr more ↦ no_less cmp o first.key x.key more ∙ sym f
    ]
    | inl t ↦
        let p = failing_fails (is_below cmp place) list first e in
        elim (rises_cases cmp list x first rises m p.1) [
          | inl same ↦ let bad : true ≡ false = sym t ∙ (ap (is_below cmp place) same ∙ p.0) in absurd cc
          | inr other ↦ elim other [
            | inl less ↦ less ∙ sym t
            | inr more ↦ let bad : true ≡ false = sym (below_initial cmp o place list first x p.1 m (less_is (key_cmp cmp first.key x.key) more) t) ∙ p.0 in absurd cc
          ]
        ]
  ]

  pub prev_ahead : SameCut cmp list (prev_cut (listed list (ahead (is_below cmp place) list))) (Below place)
  prev_ahead = subst (λ (first : Option InternalEntry). SameCut cmp list (in_front_of_entry first) (Below place)) (sym (entry_ahead (is_below cmp place) list)) (in_front_of_first (first_failing (is_below cmp place) list) refl)

-- beside an entry that the list hasn't
pub beside_same : (cmp : Cmp) → IsTotalOrder cmp → (union list : List InternalEntry) (entry : InternalEntry) → Rises cmp union → Among union entry → ((x : InternalEntry) → Among list x → Among union x)
    → ((x : InternalEntry) → Among list x → x ≡ entry → ⊥) → SameCut cmp list (Below entry.key) (Above entry.key)
beside_same cmp o union list entry r m from out x n = elim (rises_cases cmp union x entry r (from x n) m) [
  | inl s ↦ absurd (out x n s)
  | inr other ↦ elim other [
    | inl less ↦ less ∙ sym (ap not (no_less cmp o x.key entry.key less))
    | inr more ↦ no_less cmp o entry.key x.key more ∙ sym (ap not more)
  ]
]

-- beside the entry on which a cursor stands
pub next_at : (at : Listed) (index : ℕ) (entry : InternalEntry) → at.place ≡ Some index → slice_get at.entries index ≡ Some entry → next_cut at ≡ Above entry.key
next_at at index entry p e = ap (λ (place : Option ℕ). behind_entry (entry_at at.entries place)) p ∙ ap behind_entry e

pub prev_at : (at : Listed) (index : ℕ) (entry : InternalEntry) → at.place ≡ Some index → slice_get at.entries index ≡ Some entry → prev_cut at ≡ Below entry.key
prev_at at index entry p e = ap (λ (place : Option ℕ). in_front_of_entry (entry_at at.entries place)) p ∙ ap in_front_of_entry e

-- where it stands on none
pub next_nowhere : (at : Listed) → is_some at.place ≡ false → next_cut at ≡ Front
next_nowhere at none = ap (λ (place : Option ℕ). behind_entry (entry_at at.entries place)) (no_place at.place none)

pub prev_nowhere : (at : Listed) → is_some at.place ≡ false → prev_cut at ≡ EndCut
prev_nowhere at none = ap (λ (place : Option ℕ). in_front_of_entry (entry_at at.entries place)) (no_place at.place none)
