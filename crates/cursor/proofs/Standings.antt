-- The cursor beneath a walk comes beside the walk's pair.
use Rattle.std.proofs.Common.{◌≡◌, ℕ, zero, suc, Bool, true, false, List, Option, Some, None, is_some, refl, sym, ap, ◌∙◌, subst, arith, inl, inr}
use Rattle.std.specs.List.{slice_get}
use Rattle.std.specs.FinMap.{IsAntisymmetric}
use Rattle.std.specs.Cmp.{IsTotalOrder}
use Rattle.std.proofs.lemmas.Option.{slice_get_within}
use Rattle.ikey.specs.Entries.{InternalEntry}
use Rattle.ikey.specs.Keys.{IsFirstKey}
use Rattle.cursor.specs.Places.{Cmp, Listed, Rises, is_less, within, index_before, index_behind, leading, first_from, to_first, to_next, to_key}
use Rattle.cursor.specs.Merging.{listed, ahead, behind}
use Rattle.cursor.specs.Motions.{entry_at}
use Rattle.cursor.specs.Views.{IsVisible, is_user_below}
use Rattle.cursor.specs.Searches.{StandsBetween, FromOn}
use Rattle.cursor.proofs.Leading.{within_some}
use Rattle.cursor.proofs.Beginnings.{at_entry, behind_entry, user_between, again_at}
use Rattle.cursor.proofs.Befores.{same_get, no_less_itself}
use Rattle.cursor.proofs.Onwards.{index_cases}

-- from the last before to the first after
pub ahead_next : {A : Type 0} (xs : List A) (n : ℕ) → is_some (index_before n) ≡ true → (i : ℕ) × (index_before n ≡ Some i) × (within xs n ≡ index_behind xs i)
ahead_next xs zero e = absurd cc
ahead_next xs (suc n) e = (n, refl, refl)

pub ahead_first : (n : ℕ) → is_some (index_before n) ≡ false → n ≡ 0
ahead_first zero e = refl
ahead_first (suc n) e = absurd cc

pub entry_place : (entries : List InternalEntry) (place : Option ℕ) (entry : InternalEntry) → entry_at entries place ≡ Some entry → (i : ℕ) × (place ≡ Some i) × (slice_get entries i ≡ Some entry)
entry_place entries None entry e = absurd cc
entry_place entries (Some i) entry e = (i, refl, e)

module _ {C S : Type 0} (cmp : Cmp) (total : IsTotalOrder cmp) (exact : IsAntisymmetric cmp) (lists : C → S → Listed → Type 0) (stands : C → Bool)
    (rises : (cursor : C) (source : S) (at : Listed) → lists cursor source at → Rises cmp at.entries)
    (placed : (cursor : C) (source : S) (at : Listed) → lists cursor source at → stands cursor ≡ is_some at.place)
    (c d : C) (s t : S) (entries : List InternalEntry) where
  -- ---- one step

  pub stepped_next : (test : InternalEntry → Bool) → stands c ≡ true → ((at : Listed) → lists c s at → lists d t (record at { place = to_next at }))
      → lists c s (listed entries (behind test entries)) → lists d t (listed entries (ahead test entries))
  stepped_next test yes_ next l =
      let e = ahead_next entries (leading test entries) (sym (placed c s (listed entries (behind test entries)) l) ∙ yes_) in
      subst (λ (place : Option ℕ). lists d t (listed entries place)) (sym e.2) (next (listed entries (Some e.0)) (subst (λ (place : Option ℕ). lists c s (listed entries place)) e.1 l))

  pub stepped_first : (test : InternalEntry → Bool) → stands c ≡ false → ((at : Listed) → lists c s at → lists d t (record at { place = to_first at }))
      → lists c s (listed entries (behind test entries)) → lists d t (listed entries (ahead test entries))
  stepped_first test no_ first l =
      let e = ahead_first (leading test entries) (sym (placed c s (listed entries (behind test entries)) l) ∙ no_) in
      subst (λ (n : ℕ). lists d t (listed entries (within entries n))) (sym e) (first (listed entries (behind test entries)) l)

  -- ---- beside the pair

  module _ (sequence : ℕ) (entry : InternalEntry) (user : List ℕ) (same : user ≡ entry.key.user) where
    pub here_ahead : (place : Option ℕ) → lists c s (listed entries place) → entry_at entries place ≡ Some entry → (index : ℕ) × lists c s (listed entries (within entries index)) × StandsBetween cmp entries index user
    here_ahead place l e =
        let at = entry_place entries place entry e in
        let less = slice_get_within entries at.0 entry at.2 in (
          at.0,
          subst (λ (p : Option ℕ). lists c s (listed entries p)) (at.1 ∙ sym (within_some entries at.0 less)) l,
          subst (StandsBetween cmp entries at.0) (sym same) (at_entry cmp total exact entries (rises c s (listed entries place) l) sequence at.0 entry at.2),
        )

    -- from the entry itself to the one after it
    pub here_past : (place : Option ℕ) (i : ℕ) → lists c s (listed entries place) → slice_get entries i ≡ Some entry → lists d t (listed entries (within entries (suc i)))
        → (index : ℕ) × lists d t (listed entries (within entries index)) × StandsBetween cmp entries index user
    here_past place i l e behind =
        let h = at_entry cmp total exact entries (rises c s (listed entries place) l) sequence i entry e in (
          suc i,
          behind,
          subst (StandsBetween cmp entries (suc i)) (sym same) (record {
            front = λ k other less f. elim (index_cases k i) [
              | inl before ↦ h.front k other before f
              | inr (inl is) ↦
                  let it : other ≡ entry = same_get entries i other entry (subst (λ (n : ℕ). slice_get entries n ≡ Some other) is f) e in
                  ap (λ (y : InternalEntry). is_less (cmp entry.key.user y.key.user)) it ∙ no_less_itself cmp total exact entry.key.user
              | inr (inr after) ↦ absurd (omega (arith, less, after))
            ];
            rest = λ k other le f. h.rest k other (omega (arith, le)) f;
          }),
        )

    pub here_behind : (place : Option ℕ) → lists c s (listed entries place) → entry_at entries place ≡ Some entry
        → (index : ℕ) × lists c s (listed entries (index_before index)) × FromOn entries index (λ (other : InternalEntry). is_less (cmp other.key.user user) ≡ false)
    here_behind place l e =
        let at = entry_place entries place entry e in (
          suc at.0,
          subst (λ (p : Option ℕ). lists c s (listed entries p)) at.1 l,
          subst (λ (u : List ℕ). FromOn entries (suc at.0) (λ (other : InternalEntry). is_less (cmp other.key.user u) ≡ false)) (sym same)
              (behind_entry cmp total exact entries (rises c s (listed entries place) l) sequence at.0 entry at.2),
        )

    pub ahead_there : lists c s (listed entries (ahead (is_user_below cmp entry.key.user) entries)) → (index : ℕ) × lists c s (listed entries (within entries index)) × StandsBetween cmp entries index user
    ahead_there l = (
      leading (is_user_below cmp entry.key.user) entries,
      l,
      subst (StandsBetween cmp entries (leading (is_user_below cmp entry.key.user) entries)) (sym same)
          (user_between cmp total exact entries (rises c s (listed entries (ahead (is_user_below cmp entry.key.user) entries)) l) sequence entry.key.user),
    )

    pub behind_there : lists c s (listed entries (behind (is_user_below cmp entry.key.user) entries))
        → (index : ℕ) × lists c s (listed entries (index_before index)) × FromOn entries index (λ (other : InternalEntry). is_less (cmp other.key.user user) ≡ false)
    behind_there l = (
      leading (is_user_below cmp entry.key.user) entries,
      l,
      subst (λ (u : List ℕ). FromOn entries (leading (is_user_below cmp entry.key.user) entries) (λ (other : InternalEntry). is_less (cmp other.key.user u) ≡ false)) (sym same)
          (user_between cmp total exact entries (rises c s (listed entries (behind (is_user_below cmp entry.key.user) entries)) l) sequence entry.key.user).rest,
    )

    -- what is sought again is there
    pub sought_again : (bytes : List ℕ) (h : IsFirstKey user sequence bytes) (index : ℕ) (place : Option ℕ) → IsVisible entries sequence entry → slice_get entries index ≡ Some entry
        → ((at : Listed) → lists c s at → lists d t (record at { place = to_key cmp h.key at })) → lists c s (listed entries place) → lists d t (listed entries (Some index))
    sought_again bytes h index place v e seek l =
        let r = rises c s (listed entries place) l in
        let is : index ≡ first_from cmp h.key entries = again_at cmp total exact entries r sequence user bytes h index entry e v same in
        let less = slice_get_within entries index entry e in
        subst (λ (p : Option ℕ). lists d t (listed entries p)) (ap (within entries) (sym is) ∙ within_some entries index less) (seek (listed entries place) l)
