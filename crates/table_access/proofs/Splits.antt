-- How many entries of a list lie before a cut.
use Rattle.std.proofs.Common.{◌≡◌, ◌<◌, ◌≤◌, ℕ, zero, suc, Bool, true, false, not, cond, List, [], ◌∷◌, Some, length, refl, sym, ap, ◌∙◌, subst, arith, inl, inr}
use Rattle.std.specs.Cmp.{IsTotalOrder}
use Rattle.std.specs.List.{slice_get}
use Rattle.std.proofs.lemmas.Bool.{cases_lt}
use Rattle.std.proofs.lemmas.Option.{slice_get_within}
use Rattle.cursor.specs.Cuts.{Cut, Front, End, Below, Above, is_in_front}
use Rattle.cursor.specs.Places.{Cmp, Rises, first_from, is_below, is_less, leading}
use Rattle.cursor.proofs.Befores.{rises_get, same_get}
use Rattle.cursor.proofs.Fronts.{failing_fails, get_leading, on_test}
use Rattle.cursor.proofs.Orders.{is_less_of, less_then_less, true_or_false}
use Rattle.cursor.proofs.Unions.{no_less, not_less_itself}
use Rattle.ikey.specs.Entries.{InternalEntry}
use Rattle.ikey.specs.Keys.{Key, key_cmp}

-- so many lie before it
abbrev pub SplitsAt : Cmp → List InternalEntry → Cut → ℕ → Type 0
SplitsAt cmp entries cut count = (p : ℕ) (entry : InternalEntry) → slice_get entries p ≡ Some entry
    → (p < count → is_in_front cmp cut entry.key ≡ true) × (count ≤ p → is_in_front cmp cut entry.key ≡ false)

pub splits_first : (cmp : Cmp) (entries : List InternalEntry) → SplitsAt cmp entries Front 0
splits_first cmp entries p entry at = (λ less. absurd (omega (arith, less)), λ ge. refl)

pub splits_last : (cmp : Cmp) (entries : List InternalEntry) → SplitsAt cmp entries End (length entries)
splits_last cmp entries p entry at = (λ less. refl, λ ge. let w = slice_get_within entries p entry at in absurd (omega (arith, ge, w)))

-- the same entries lie in front
pub splits_as : (cmp : Cmp) (entries : List InternalEntry) (cut : Cut) (count other : ℕ) → ((p : ℕ) → p < length entries → p < other → p < count) → ((p : ℕ) → p < length entries → other ≤ p → count ≤ p)
    → SplitsAt cmp entries cut count → SplitsAt cmp entries cut other
splits_as cmp entries cut count other front back h p entry at =
    let w = slice_get_within entries p entry at in
    (λ less. (h p entry at).0 (front p w less), λ ge. (h p entry at).1 (back p w ge))

passes_leading : (test : InternalEntry → Bool) (entries : List InternalEntry) (p : ℕ) (entry : InternalEntry) → p < leading test entries → slice_get entries p ≡ Some entry → test entry ≡ true
passes_leading test [] p entry less at = absurd (omega (arith, less))
passes_leading test (x ∷ entries) p entry less at =
    on_test (test x) (λ b. (test x ≡ b) → p < cond b (suc (leading test entries)) zero → test entry ≡ true)
    (λ t same l. by (λ q. passes_leading test entries q entry) p l at same)
    (λ t same l. absurd (omega (arith, l)))
    refl less
  where
    by : ((q : ℕ) → q < leading test entries → slice_get entries q ≡ Some entry → test entry ≡ true) → (p : ℕ) → p < suc (leading test entries) → slice_get (x ∷ entries) p ≡ Some entry → test x ≡ true → test entry ≡ true
    by more zero l e same = let s : x ≡ entry = let t : Some x ≡ Some entry = e in cc in subst (λ (y : InternalEntry). test y ≡ true) s same
    by more (suc p) l e same = more p (omega (arith, l)) e

module _ (cmp : Cmp) (total : IsTotalOrder cmp) (entries : List InternalEntry) (rises : Rises cmp entries) where
  pub splits_key : (key : Key) → SplitsAt cmp entries (Below key) (first_from cmp key entries)
  splits_key key p entry at = (
    λ less. passes_leading (is_below cmp key) entries p entry less at,
    λ ge. elim (true_or_false (is_below cmp key entry)) [
      | inr f ↦ f
      | inl t ↦
          let n : ℕ = leading (is_below cmp key) entries in
          let w = slice_get_within entries p entry at in
          let x = there entries n (omega (arith, ge, w)) in
          let fails = (failing_fails (is_below cmp key) entries x.0 (sym (get_leading (is_below cmp key) entries) ∙ x.1)).0 in
          elim (cases_lt n p) [
            | inl less ↦
                let under = rises_get cmp entries n p x.0 entry rises less x.1 at in
                let bad : true ≡ false = sym (less_then_less cmp total x.0.key entry.key key (is_less_of (key_cmp cmp x.0.key entry.key) under) t) ∙ fails in absurd cc
            | inr over ↦
                let same : n ≡ p = omega (arith, over, ge) in
                let one = same_get entries p x.0 entry (ap (slice_get entries) (sym same) ∙ x.1) at in
                let bad : true ≡ false = sym t ∙ (ap (is_below cmp key) (sym one) ∙ fails) in absurd cc
          ]
    ],
  )
    where
      there : (xs : List InternalEntry) (n : ℕ) → n < length xs → (x : InternalEntry) × (slice_get xs n ≡ Some x)
      there [] n h = absurd (omega (arith, h))
      there (x ∷ xs) zero h = (x, refl)
      there (x ∷ xs) (suc n) h = there xs n (omega (arith, h))

  module _ (n : ℕ) (here : InternalEntry) (here_is : slice_get entries n ≡ Some here) where
    pub splits_next : SplitsAt cmp entries (Above here.key) (suc n)
    splits_next p entry at = (
      λ less. elim (cases_lt p n) [
        | inl l ↦ ap not (no_less cmp total entry.key here.key (is_less_of (key_cmp cmp entry.key here.key) (rises_get cmp entries p n entry here rises l at here_is)))
        | inr ge ↦
            let same : p ≡ n = omega (arith, ge, less) in
            let one = same_get entries n entry here (ap (slice_get entries) (sym same) ∙ at) here_is in
            ap not (ap (λ (e : InternalEntry). is_less (key_cmp cmp here.key e.key)) one ∙ not_less_itself cmp total here.key)
      ],
      λ ge. ap not (is_less_of (key_cmp cmp here.key entry.key) (rises_get cmp entries n p here entry rises (omega (arith, ge)) here_is at)),
    )

    pub splits_prev : SplitsAt cmp entries (Below here.key) n
    splits_prev p entry at = (
      λ less. is_less_of (key_cmp cmp entry.key here.key) (rises_get cmp entries p n entry here rises less at here_is),
      λ ge. elim (cases_lt n p) [
        | inl l ↦ no_less cmp total here.key entry.key (is_less_of (key_cmp cmp here.key entry.key) (rises_get cmp entries n p here entry rises l here_is at))
        | inr le ↦
            let same : p ≡ n = omega (arith, ge, le) in
            let one = same_get entries n entry here (ap (slice_get entries) (sym same) ∙ at) here_is in
            ap (λ (e : InternalEntry). is_less (key_cmp cmp e.key here.key)) one ∙ not_less_itself cmp total here.key
      ],
    )
