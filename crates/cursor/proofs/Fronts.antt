-- What stands before the first entry that fails a test, and which entry that is.
use Rattle.std.proofs.Common.{◌≡◌, ◌⊎◌, ◌<◌, ◌≤◌, ℕ, zero, suc, Bool, true, false, cond, unwrap_or, List, [], ◌∷◌, Option, Some, None, length, refl, sym, ap, ◌∙◌, subst, arith, inl, inr}
use Rattle.std.specs.List.{slice_get, AllByRecursion}
use Rattle.std.proofs.lemmas.Option.{slice_get_past}
use Rattle.std.specs.declared.cmp.Ordering.TheVariants.{Less}
use Rattle.ikey.specs.Entries.{InternalEntry}
use Rattle.ikey.specs.Keys.{key_cmp}
use Rattle.cursor.specs.Places.{Cmp, Rises, is_less, within, index_before, leading}
use Rattle.ikey.specs.Views.{Among}
use Rattle.cursor.specs.Merging.{ahead, behind}
use Rattle.cursor.specs.Motions.{entry_at, IsInitial}
use Rattle.cursor.proofs.Leading.{within_cases, leading_le}
use Rattle.cursor.proofs.Orders.{true_or_false, is_less_of}

-- ---- members

pub among_get : (list : List InternalEntry) (n : ℕ) (entry : InternalEntry) → slice_get list n ≡ Some entry → Among list entry
among_get [] n entry e = absurd cc
among_get (x ∷ list) zero entry e = inl (let s : x ≡ entry = cc in sym s)
among_get (x ∷ list) (suc n) entry e = inr (among_get list n entry e)

pub all_among : (P : InternalEntry → Type 0) (list : List InternalEntry) (entry : InternalEntry) → AllByRecursion P list → Among list entry → P entry
all_among P [] entry h m = absurd m
all_among P (x ∷ list) entry h (inl e) = subst P (sym e) h.0
all_among P (x ∷ list) entry h (inr m) = all_among P list entry h.1 m

-- two members of a list that rises
pub rises_cases : (cmp : Cmp) (list : List InternalEntry) (x y : InternalEntry) → Rises cmp list → Among list x → Among list y
    → (x ≡ y) ⊎ ((is_less (key_cmp cmp x.key y.key) ≡ true) ⊎ (is_less (key_cmp cmp y.key x.key) ≡ true))
rises_cases cmp [] x y h m n = absurd m
rises_cases cmp (z ∷ list) x y h (inl e) (inl f) = inl (e ∙ sym f)
rises_cases cmp (z ∷ list) x y h (inl e) (inr n) =
    inr (inl (is_less_of (key_cmp cmp x.key y.key) (subst (λ (w : InternalEntry). key_cmp cmp w.key y.key ≡ Less) (sym e) (all_among (λ (later : InternalEntry). key_cmp cmp z.key later.key ≡ Less) list y h.0 n))))
rises_cases cmp (z ∷ list) x y h (inr m) (inl f) =
    inr (inr (is_less_of (key_cmp cmp y.key x.key) (subst (λ (w : InternalEntry). key_cmp cmp w.key x.key ≡ Less) (sym f) (all_among (λ (later : InternalEntry). key_cmp cmp z.key later.key ≡ Less) list x h.0 m))))
rises_cases cmp (z ∷ list) x y h (inr m) (inr n) = rises_cases cmp list x y h.1 m n

-- ---- a test of each entry, by cases

pub on_test : (b : Bool) (P : Bool → Type 0) → (b ≡ true → P true) → (b ≡ false → P false) → P b
on_test true P yes_ no_ = yes_ refl
on_test false P yes_ no_ = no_ refl

-- ---- the first that fails

abbrev pub first_failing : (InternalEntry → Bool) → List InternalEntry → Option InternalEntry
first_failing test [] = None
first_failing test (x ∷ list) = cond (test x) (first_failing test list) (Some x)

pub get_leading : (test : InternalEntry → Bool) (list : List InternalEntry) → slice_get list (leading test list) ≡ first_failing test list
get_leading test [] = refl
get_leading test (x ∷ list) = on_test (test x) (λ b. slice_get (x ∷ list) (cond b (suc (leading test list)) zero) ≡ cond b (first_failing test list) (Some x)) (λ e. get_leading test list) (λ e. refl)

pub entry_within : (list : List InternalEntry) (n : ℕ) → entry_at list (within list n) ≡ slice_get list n
entry_within list n = elim (within_cases list n) [
  | inl h ↦ ap (entry_at list) h.1
  | inr h ↦ ap (entry_at list) h.1 ∙ sym (slice_get_past list n h.0)
]

pub entry_ahead : (test : InternalEntry → Bool) (list : List InternalEntry) → entry_at list (ahead test list) ≡ first_failing test list
entry_ahead test list = entry_within list (leading test list) ∙ get_leading test list

pub failing_fails : (test : InternalEntry → Bool) (list : List InternalEntry) (entry : InternalEntry) → first_failing test list ≡ Some entry → (test entry ≡ false) × Among list entry
failing_fails test [] entry e = absurd cc
failing_fails test (x ∷ list) entry e =
    on_test (test x) (λ b. (test x ≡ b) → cond b (first_failing test list) (Some x) ≡ Some entry → (test entry ≡ false) × Among (x ∷ list) entry)
    (λ t same f. let h = failing_fails test list entry f in (h.0, inr h.1))
    (λ t same f. let s : x ≡ entry = cc in (subst (λ (w : InternalEntry). test w ≡ false) s same, inl (sym s)))
    refl e

pub none_failing : (test : InternalEntry → Bool) (list : List InternalEntry) (entry : InternalEntry) → first_failing test list ≡ None → Among list entry → test entry ≡ true
none_failing test [] entry e m = absurd m
none_failing test (x ∷ list) entry e m =
    on_test (test x) (λ b. (test x ≡ b) → cond b (first_failing test list) (Some x) ≡ None → test entry ≡ true)
    (λ t same f. elim m [ inl s ↦ ap test s ∙ same | inr n ↦ none_failing test list entry f n ])
    (λ t same f. absurd cc)
    refl e

-- the first that fails is the least that does
pub failing_least : (cmp : Cmp) (test : InternalEntry → Bool) (list : List InternalEntry) (entry other : InternalEntry) → Rises cmp list → first_failing test list ≡ Some entry → Among list other → test other ≡ false
    → (other ≡ entry) ⊎ (is_less (key_cmp cmp entry.key other.key) ≡ true)
failing_least cmp test [] entry other h e m f = absurd m
failing_least cmp test (x ∷ list) entry other h e m f =
    on_test (test x) (λ b. (test x ≡ b) → cond b (first_failing test list) (Some x) ≡ Some entry → (other ≡ entry) ⊎ (is_less (key_cmp cmp entry.key other.key) ≡ true))
    (λ t same g. elim m [
      | inl s ↦ let bad : false ≡ true = sym f ∙ (ap test s ∙ same) in absurd cc
      | inr n ↦ failing_least cmp test list entry other h.1 g n f
    ])
    (λ t same g. let s : x ≡ entry = cc in elim m [
      | inl r ↦ inl (r ∙ s)
      | inr n ↦ inr (is_less_of (key_cmp cmp entry.key other.key) (subst (λ (w : InternalEntry). key_cmp cmp w.key other.key ≡ Less) s (all_among (λ (later : InternalEntry). key_cmp cmp x.key later.key ≡ Less) list other h.0 n)))
    ])
    refl e

-- ---- the last that passes, of those at the front

abbrev pub last_passing : (InternalEntry → Bool) → List InternalEntry → Option InternalEntry
last_passing test [] = None
last_passing test (x ∷ list) = cond (test x) (Some (unwrap_or (last_passing test list) x)) None

get_some : (xs : List InternalEntry) (k : ℕ) → k < length xs → slice_get xs k ≡ None → ⊥
get_some [] k less f = absurd (omega arith)
get_some (z ∷ xs) zero less f = cc
get_some (z ∷ xs) (suc k) less f = get_some xs k (omega arith) f

last_at : (x : InternalEntry) (list : List InternalEntry) (n : ℕ) (last : Option InternalEntry) → n ≤ length list → entry_at list (index_before n) ≡ last → slice_get (x ∷ list) n ≡ Some (unwrap_or last x)
last_at x list zero None h e = refl
last_at x list zero (Some z) h e = absurd cc
last_at x [] (suc n) last h e = absurd (omega arith)
last_at x (y ∷ list) (suc n) None h e = absurd (get_some (y ∷ list) n (omega arith) e)
last_at x (y ∷ list) (suc n) (Some z) h e = e

pub entry_behind : (test : InternalEntry → Bool) (list : List InternalEntry) → entry_at list (behind test list) ≡ last_passing test list
entry_behind test [] = refl
entry_behind test (x ∷ list) =
    on_test (test x) (λ b. entry_at (x ∷ list) (index_before (cond b (suc (leading test list)) zero)) ≡ cond b (Some (unwrap_or (last_passing test list) x)) None)
    (λ e. last_at x list (leading test list) (last_passing test list) (leading_le test list) (entry_behind test list)) (λ e. refl)

pub option_cases : {A : Type 0} (o : Option A) → (o ≡ None) ⊎ ((x : A) × (o ≡ Some x))
option_cases None = inl refl
option_cases (Some x) = inr (x, refl)

-- the last that passes, of a list with one more in front
last_more : (x entry : InternalEntry) (o : Option InternalEntry) → Some (unwrap_or o x) ≡ Some entry → ((o ≡ None) × (x ≡ entry)) ⊎ (o ≡ Some entry)
last_more x entry None e = inl (refl, let s : x ≡ entry = cc in s)
last_more x entry (Some y) e = inr e

pub passing_passes : (test : InternalEntry → Bool) (list : List InternalEntry) (entry : InternalEntry) → last_passing test list ≡ Some entry → (test entry ≡ true) × Among list entry
passing_passes test [] entry e = absurd cc
passing_passes test (x ∷ list) entry e =
    on_test (test x) (λ b. (test x ≡ b) → cond b (Some (unwrap_or (last_passing test list) x)) None ≡ Some entry → (test entry ≡ true) × Among (x ∷ list) entry)
    (λ t same f. elim (last_more x entry (last_passing test list) f) [
      | inl h ↦ (subst (λ (w : InternalEntry). test w ≡ true) h.1 same, inl (sym h.1))
      | inr h ↦ let r = passing_passes test list entry h in (r.0, inr r.1)
    ])
    (λ t same f. absurd cc)
    refl e

initial_rest : (cmp : Cmp) (test : InternalEntry → Bool) (x : InternalEntry) (list : List InternalEntry) → IsInitial cmp test (x ∷ list) → IsInitial cmp test list
initial_rest cmp test x list h a b m n = h a b (inr m) (inr n)

pub none_passing : (cmp : Cmp) (test : InternalEntry → Bool) (list : List InternalEntry) (entry : InternalEntry) → Rises cmp list → IsInitial cmp test list → last_passing test list ≡ None → Among list entry → test entry ≡ false
none_passing cmp test [] entry r h e m = absurd m
none_passing cmp test (x ∷ list) entry r h e m =
    on_test (test x) (λ b. (test x ≡ b) → cond b (Some (unwrap_or (last_passing test list) x)) None ≡ None → test entry ≡ false)
    (λ t same f. absurd cc)
    (λ t same f. elim m [
      | inl s ↦ ap test s ∙ same
      | inr n ↦ elim (true_or_false (test entry)) [
        | inl t ↦ let bad : true ≡ false = sym (h x entry (inl refl) (inr n) (all_among (λ (later : InternalEntry). key_cmp cmp x.key later.key ≡ Less) list entry r.0 n) t) ∙ same in absurd cc
        | inr no_ ↦ no_
      ]
    ])
    refl e

-- the last that passes is the greatest that does
pub passing_greatest : (cmp : Cmp) (test : InternalEntry → Bool) (list : List InternalEntry) (entry other : InternalEntry) → Rises cmp list → IsInitial cmp test list → last_passing test list ≡ Some entry → Among list other → test other ≡ true
    → (other ≡ entry) ⊎ (is_less (key_cmp cmp other.key entry.key) ≡ true)
passing_greatest cmp test [] entry other r h e m p = absurd m
passing_greatest cmp test (x ∷ list) entry other r h e m p =
    on_test (test x) (λ b. (test x ≡ b) → cond b (Some (unwrap_or (last_passing test list) x)) None ≡ Some entry → (other ≡ entry) ⊎ (is_less (key_cmp cmp other.key entry.key) ≡ true))
    (λ t same f. elim (last_more x entry (last_passing test list) f) [
      | inl k ↦ elim m [
        | inl s ↦ inl (s ∙ k.1)
        | inr n ↦ let bad : false ≡ true = sym (none_passing cmp test list other r.1 (initial_rest cmp test x list h) k.0 n) ∙ p in absurd cc
      ]
      | inr k ↦ elim m [
        | inl s ↦ inr (subst (λ (w : InternalEntry). is_less (key_cmp cmp w.key entry.key) ≡ true) (sym s)
            (is_less_of (key_cmp cmp x.key entry.key) (all_among (λ (later : InternalEntry). key_cmp cmp x.key later.key ≡ Less) list entry r.0 (passing_passes test list entry k).1)))
        | inr n ↦ passing_greatest cmp test list entry other r.1 (initial_rest cmp test x list h) k n p
      ]
    ])
    (λ t same f. absurd cc)
    refl e
