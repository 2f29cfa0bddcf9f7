-- The entry of a union that is the best of its lists' entries.
use Rattle.std.proofs.Common.{◌≡◌, ℕ, zero, suc, Bool, true, false, cond, List, [], ◌∷◌, Some, None, refl, sym, ap, ◌∙◌, inl, inr}
use Rattle.std.specs.List.{slice_get}
use Rattle.std.specs.Cmp.{IsTotalOrder}
use Rattle.ikey.specs.Entries.{InternalEntry}
use Rattle.ikey.specs.Keys.{Key, key_cmp}
use Rattle.cursor.specs.Places.{Cmp, Rises, is_less, is_below, leading}
use Rattle.ikey.specs.Views.{Among}
use Rattle.cursor.specs.Merging.{IsUnion}
use Rattle.cursor.specs.Motions.{IsInitial}
use Rattle.cursor.proofs.Orders.{true_or_false, less_is, never_below_itself, less_then_less}
use Rattle.cursor.proofs.Fronts.{rises_cases, first_failing, failing_fails, none_failing, failing_least, last_passing, passing_passes, option_cases, none_passing, passing_greatest}

-- tests that agree on a list have as many entries in front
pub same_leading : (test other : InternalEntry → Bool) (list : List InternalEntry) → ((x : InternalEntry) → Among list x → test x ≡ other x) → leading test list ≡ leading other list
same_leading test other [] h = refl
same_leading test other (x ∷ list) h = λ i. cond (h x (inl refl) i) (suc (same_leading test other list (λ y m. h y (inr m)) i)) zero

pub no_less : (cmp : Cmp) → IsTotalOrder cmp → (k l : Key) → is_less (key_cmp cmp k l) ≡ true → is_less (key_cmp cmp l k) ≡ false
no_less cmp o k l p = elim (true_or_false (is_less (key_cmp cmp l k))) [
  | inl t ↦ absurd (never_below_itself cmp o k (less_is (key_cmp cmp k k) (less_then_less cmp o k l k p t)))
  | inr f ↦ f
]

pub not_less_itself : (cmp : Cmp) → IsTotalOrder cmp → (k : Key) → is_less (key_cmp cmp k k) ≡ false
not_less_itself cmp o k = elim (true_or_false (is_less (key_cmp cmp k k))) [ inl t ↦ absurd (never_below_itself cmp o k (less_is (key_cmp cmp k k) t)) | inr f ↦ f ]

failing_there : (test : InternalEntry → Bool) (list : List InternalEntry) (x : InternalEntry) → Among list x → test x ≡ false → (e : InternalEntry) × (first_failing test list ≡ Some e)
failing_there test list x m f = elim (option_cases (first_failing test list)) [
  | inl none ↦ let bad : false ≡ true = sym f ∙ none_failing test list x none m in absurd cc
  | inr some ↦ some
]

passing_there : (cmp : Cmp) (test : InternalEntry → Bool) (list : List InternalEntry) (x : InternalEntry) → Rises cmp list → IsInitial cmp test list → Among list x → test x ≡ true → (e : InternalEntry) × (last_passing test list ≡ Some e)
passing_there cmp test list x r h m p = elim (option_cases (last_passing test list)) [
  | inl none ↦ let bad : true ≡ false = sym p ∙ none_passing cmp test list x r h none m in absurd cc
  | inr some ↦ some
]

module _ (cmp : Cmp) (total : IsTotalOrder cmp) (all : List (List InternalEntry)) (union : List InternalEntry) (u : IsUnion cmp all union) where
  pub initial_in : (test : InternalEntry → Bool) (i : ℕ) (list : List InternalEntry) → slice_get all i ≡ Some list → IsInitial cmp test union → IsInitial cmp test list
  initial_in test i list li h a b m n = h a b (u.covers i list a li m) (u.covers i list b li n)

  -- the least of the lists' first entries that fail is the union's
  pub least_failing : (test : InternalEntry → Bool) (best : ℕ) (list : List InternalEntry) (entry : InternalEntry) → slice_get all best ≡ Some list → first_failing test list ≡ Some entry
      → ((i : ℕ) (other : List InternalEntry) (rival : InternalEntry) → slice_get all i ≡ Some other → first_failing test other ≡ Some rival → is_less (key_cmp cmp rival.key entry.key) ≡ false)
      → first_failing test union ≡ Some entry
  least_failing test best list entry li e rest =
      let h = failing_fails test list entry e in
      let in_union = u.covers best list entry li h.1 in
      let some = failing_there test union entry in_union h.0 in
      let f = failing_fails test union some.0 some.1 in
      elim (failing_least cmp test union some.0 entry u.rises some.1 in_union h.0) [
        | inl same ↦ some.1 ∙ ap Some (sym same)
        | inr below ↦
            let place = u.found some.0 f.1 in
            let first = failing_there test place.1 some.0 place.3 f.0 in
            let not_less = rest place.0 place.1 first.0 place.2 first.1 in
            elim (failing_least cmp test place.1 first.0 some.0 (u.each_rises place.0 place.1 place.2) first.1 place.3 f.0) [
              | inl s ↦ let bad : true ≡ false = sym below ∙ (ap (λ (x : InternalEntry). is_less (key_cmp cmp x.key entry.key)) s ∙ not_less) in absurd cc
              | inr r ↦ let bad : true ≡ false = sym (less_then_less cmp total first.0.key some.0.key entry.key r below) ∙ not_less in absurd cc
            ]
      ]

  -- the greatest of the lists' last entries that pass is the union's
  pub greatest_passing : (test : InternalEntry → Bool) → IsInitial cmp test union → (best : ℕ) (list : List InternalEntry) (entry : InternalEntry) → slice_get all best ≡ Some list → last_passing test list ≡ Some entry
      → ((i : ℕ) (other : List InternalEntry) (rival : InternalEntry) → slice_get all i ≡ Some other → last_passing test other ≡ Some rival → is_less (key_cmp cmp entry.key rival.key) ≡ false)
      → last_passing test union ≡ Some entry
  greatest_passing test initial best list entry li e rest =
      let h = passing_passes test list entry e in
      let in_union = u.covers best list entry li h.1 in
      let some = passing_there cmp test union entry u.rises initial in_union h.0 in
      let f = passing_passes test union some.0 some.1 in
      elim (passing_greatest cmp test union some.0 entry u.rises initial some.1 in_union h.0) [
        | inl same ↦ some.1 ∙ ap Some (sym same)
        | inr above ↦
            let place = u.found some.0 f.1 in
            let ri = u.each_rises place.0 place.1 place.2 in
            let ini = initial_in test place.0 place.1 place.2 initial in
            let last = passing_there cmp test place.1 some.0 ri ini place.3 f.0 in
            let not_less = rest place.0 place.1 last.0 place.2 last.1 in
            elim (passing_greatest cmp test place.1 last.0 some.0 ri ini last.1 place.3 f.0) [
              | inl s ↦ let bad : true ≡ false = sym above ∙ (ap (λ (x : InternalEntry). is_less (key_cmp cmp entry.key x.key)) s ∙ not_less) in absurd cc
              | inr r ↦ let bad : true ≡ false = sym (less_then_less cmp total entry.key some.0.key last.0.key above r) ∙ not_less in absurd cc
            ]
      ]

  -- where no list has an entry that fails, or passes, nor has the union
  pub no_failing : (test : InternalEntry → Bool) → ((i : ℕ) (list : List InternalEntry) → slice_get all i ≡ Some list → first_failing test list ≡ None) → first_failing test union ≡ None
  no_failing test none = elim (option_cases (first_failing test union)) [
    | inl e ↦ e
    | inr some ↦
        let f = failing_fails test union some.0 some.1 in
        let place = u.found some.0 f.1 in
        let bad : false ≡ true = sym f.0 ∙ none_failing test place.1 some.0 (none place.0 place.1 place.2) place.3 in absurd cc
  ]

  pub no_passing : (test : InternalEntry → Bool) → IsInitial cmp test union → ((i : ℕ) (list : List InternalEntry) → slice_get all i ≡ Some list → last_passing test list ≡ None) → last_passing test union ≡ None
  no_passing test initial none = elim (option_cases (last_passing test union)) [
    | inl e ↦ e
    | inr some ↦
        let f = passing_passes test union some.0 some.1 in
        let place = u.found some.0 f.1 in
        let bad : true ≡ false = sym f.0 ∙ none_passing cmp test place.1 some.0 (u.each_rises place.0 place.1 place.2) (initial_in test place.0 place.1 place.2 initial) (none place.0 place.1 place.2) place.3 in absurd cc
  ]

  -- ---- beside the entry that is reached

  -- what fails isn't below the least that does, and what passes is
  pub below_least : (test : InternalEntry → Bool) → IsInitial cmp test union → (entry : InternalEntry) → first_failing test union ≡ Some entry → (x : InternalEntry) → Among union x → is_below cmp entry.key x ≡ test x
  below_least test initial entry e x m =
      let h = failing_fails test union entry e in
      elim (true_or_false (test x)) [
        | inl t ↦ elim (rises_cases cmp union x entry u.rises m h.1) [
          | inl same ↦ let bad : true ≡ false = sym t ∙ (ap test same ∙ h.0) in absurd cc
          | inr other ↦ elim other [
            | inl less ↦ less ∙ sym t
            | inr more ↦ let bad : true ≡ false = sym (initial entry x h.1 m (less_is (key_cmp cmp entry.key x.key) more) t) ∙ h.0 in absurd cc
          ]
        ]
        | inr f ↦ elim (failing_least cmp test union entry x u.rises e m f) [
          | inl same ↦ ap (λ (w : InternalEntry). is_less (key_cmp cmp w.key entry.key)) same ∙ (not_less_itself cmp total entry.key ∙ sym f)
          | inr less ↦ no_less cmp total entry.key x.key less ∙ sym f
        ]
      ]

  -- but for the greatest that passes itself, what passes is below it, and what fails isn't
  pub below_greatest : (test : InternalEntry → Bool) → IsInitial cmp test union → (entry : InternalEntry) → last_passing test union ≡ Some entry → (x : InternalEntry) → Among union x → (x ≡ entry → ⊥) → is_below cmp entry.key x ≡ test x
  below_greatest test initial entry e x m apart =
      let h = passing_passes test union entry e in
      elim (true_or_false (test x)) [
        | inl t ↦ elim (passing_greatest cmp test union entry x u.rises initial e m t) [
          | inl same ↦ absurd (apart same)
          | inr less ↦ less ∙ sym t
        ]
        | inr f ↦ elim (true_or_false (is_less (key_cmp cmp x.key entry.key))) [
          | inl less ↦ let bad : true ≡ false = sym (initial x entry m h.1 (less_is (key_cmp cmp x.key entry.key) less) h.0) ∙ f in absurd cc
          | inr not_less ↦ not_less ∙ sym f
        ]
      ]
