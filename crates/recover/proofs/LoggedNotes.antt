-- What is logged, by key and by sequence number.
use Rattle.std.proofs.Common.{◌≡◌, ◌⊎◌, inl, inr, ◌<◌, ◌≤◌, ◌+◌, ℕ, zero, suc, Bool, true, false, MatchBool, List, [], ◌∷◌, ◌++◌, length, take, get_or, Some, refl, sym, ap, ◌∙◌, subst, arith, IsPermutation, All, IsSortedBy}
use Rattle.std.proofs.lemmas.Bool.{cases_lt, cases_eq}
use Rattle.std.proofs.lemmas.List.Elements.{All-from_recursion, recursion_from_All}
use Rattle.std.proofs.lemmas.List.Sorted.{IsPermutation-sym, All-permutation, sorted_far, ranks_by}
use Rattle.std.proofs.lemmas.Option.{slice_get_within, slice_get-get_or, get_or_from_slice_get}
use Rattle.std.specs.Prelude.{slice_get, nat_lt}
use Rattle.std.specs.FinMap.{IsAntisymmetric}
use Rattle.std.specs.List.{AllByRecursion}
use Rattle.std.specs.Cmp.{IsTotalOrder, IsStrictWeakOrder, tied_itself, then_total, on_total, nat_cmp_total, nat_cmp_is}
use Rattle.std.specs.Ordering.{nat_cmp, is_lt, ordering_then, ordering_reverse}
use Rattle.std.specs.declared.cmp.Ordering.{Ordering}
use Rattle.std.specs.declared.cmp.Ordering.TheVariants.{Less, Equal, Greater}
use Rattle.std.proofs.lemmas.Bool.Decides.{nat_tests}
use Rattle.ikey.specs.Orders.{Order}
use Rattle.ikey.specs.declared.entry.Entry.{Entry}
use Rattle.ikey.specs.Views.{Among}
use Rattle.recover.specs.declared.logged.Logged.{Logged}
use Rattle.recover.specs.internal.Merging.{age_cmp, AreByAge, IsNoteOf, AreNotesOf, IsLogged, IsOlderThanAll, IsNotOlder}

-- ---- one more

notes_next : (entries : List Entry) (notes : List Logged) (i : ℕ) (entry : Entry) (note : Logged) → i < length entries → entry ≡ get_or entries i entry → IsNoteOf entry note
    → AreNotesOf (take i entries) notes → AreNotesOf (take (suc i) entries) (notes ++ note ∷ [])
notes_next [] notes i entry note lt is here h = absurd (omega (arith, lt))
notes_next (first ∷ entries) [] zero entry note lt is here h = (subst (λ (e : Entry). IsNoteOf e note) is here, tt)
notes_next (first ∷ entries) (n ∷ notes) zero entry note lt is here h = absurd h
notes_next (first ∷ entries) [] (suc i) entry note lt is here h = absurd h
notes_next (first ∷ entries) (n ∷ notes) (suc i) entry note lt is here h = (h.0, notes_next entries notes i entry note (omega (arith, lt)) is here h.1)

pub notes_more : (entries : List Entry) (notes : List Logged) (i : ℕ) (entry : Entry) (note : Logged) → i < length entries → entry ≡ get_or entries i entry → IsNoteOf entry note
    → AreNotesOf (take i entries) notes → AreNotesOf (take (i + 1) entries) (notes ++ note ∷ [])
notes_more entries notes i entry note lt is here h =
    let P : ℕ → Type 0 = λ n. AreNotesOf (take n entries) (notes ++ note ∷ []) in
    let next : suc i ≡ i + 1 = omega arith in
    subst P next (notes_next entries notes i entry note lt is here h)

-- ---- the same ones, sorted

-- the note stands somewhere among these
abbrev Stands : List Logged → Logged → Type 0
Stands logged note = (i : ℕ) × (slice_get logged i ≡ Some note)

-- it is of one of these entries
abbrev IsOfOne : List Entry → Logged → Type 0
IsOfOne entries note = (entry : Entry) × Among entries entry × IsNoteOf entry note

of_one : (entries : List Entry) (notes : List Logged) → AreNotesOf entries notes → AllByRecursion (IsOfOne entries) notes
of_one entries notes h = by entries notes (λ e i. i) h
  where
    by : (some : List Entry) (ns : List Logged) → ((e : Entry) → Among some e → Among entries e) → AreNotesOf some ns → AllByRecursion (IsOfOne entries) ns
    by [] [] within h = tt
    by [] (n ∷ ns) within h = absurd h
    by (e ∷ some) [] within h = absurd h
    by (e ∷ some) (n ∷ ns) within h = ((e, within e (inl refl), h.0), by some ns (λ f i. within f (inr i)) h.1)

each_noted : (P : Logged → Type 0) (entries : List Entry) (notes : List Logged) → AreNotesOf entries notes → AllByRecursion P notes → (entry : Entry) → Among entries entry
    → (note : Logged) × P note × IsNoteOf entry note
each_noted P [] [] h all entry i = absurd i
each_noted P [] (n ∷ notes) h all entry i = absurd h
each_noted P (e ∷ entries) [] h all entry i = absurd h
each_noted P (e ∷ entries) (n ∷ notes) h all entry (inl same) = let N : Entry → Type 0 = λ f. IsNoteOf f n in (n, all.0, subst N (sym same) h.0)
each_noted P (e ∷ entries) (n ∷ notes) h all entry (inr i) = each_noted P entries notes h.1 all.1 entry i

module _ (order : Order) (o : IsTotalOrder order.cmp) where
  abbrev less : Logged → Logged → Bool
  less a b = is_lt (age_cmp order.cmp a b)

  age_total : IsTotalOrder (age_cmp order.cmp)
  age_total = then_total (on_total (λ (l : Logged). l.key.now) o) (on_total (λ (l : Logged). l.sequence) nat_cmp_total)

  pub is_lawful : IsStrictWeakOrder less
  is_lawful = ranks_by age_total (λ (l : Logged). l)

  -- the second isn't before the first
  in_turn : IsAntisymmetric order.cmp → (a b : Logged) → less b a ≡ false → (order.cmp a.key.now b.key.now ≡ Less) ⊎ ((a.key.now ≡ b.key.now) × (a.sequence ≤ b.sequence))
  in_turn exact a b not = by (order.cmp b.key.now a.key.now) refl
    where
      first : (r : Ordering) → order.cmp b.key.now a.key.now ≡ r → is_lt (ordering_then r (nat_cmp b.sequence a.sequence)) ≡ false
      first r e = ap (λ (x : Ordering). is_lt (ordering_then x (nat_cmp b.sequence a.sequence))) (sym e) ∙ not

      by : (r : Ordering) → order.cmp b.key.now a.key.now ≡ r → (order.cmp a.key.now b.key.now ≡ Less) ⊎ ((a.key.now ≡ b.key.now) × (a.sequence ≤ b.sequence))
      by Less e = let bad : true ≡ false = first Less e in absurd cc
      by Equal e = elim (cases_lt b.sequence a.sequence) [
        | inl lt ↦ (let bad : true ≡ false = ap is_lt (nat_cmp_is b.sequence a.sequence Less lt) ∙ first Equal e in absurd cc)
        | inr le ↦ inr (sym (exact b.key.now a.key.now e), le)
      ]
      by Greater e = inl (o.antisymm a.key.now b.key.now ∙ ap ordering_reverse e)

  by_age : IsAntisymmetric order.cmp → (sorted : List Logged) → IsSortedBy less sorted → AreByAge order sorted
  by_age exact sorted up i j a b lt x y =
      let first : get_or sorted i a ≡ a = get_or_from_slice_get sorted i a a x in
      let second : get_or sorted j a ≡ b = get_or_from_slice_get sorted j b a y in
      let far : less (get_or sorted j a) (get_or sorted i a) ≡ false = sorted_far less is_lawful sorted up i j a (omega (arith, lt)) (slice_get_within sorted j b y) in
      let P : Logged → Type 0 = λ m. less m (get_or sorted i a) ≡ false in
      let Q : Logged → Type 0 = λ n. less b n ≡ false in
      in_turn exact a b (subst Q first (subst P second far))

  pub logged_of : IsAntisymmetric order.cmp → (entries : List Entry) (notes sorted : List Logged) → AreNotesOf entries notes → IsPermutation notes sorted → IsSortedBy less sorted → IsLogged order entries sorted
  logged_of exact entries notes sorted h same up = record { sorted = by_age exact sorted up; all = all; only = only }
    where
      all : (entry : Entry) → Among entries entry → (i : ℕ) × (note : Logged) × (slice_get sorted i ≡ Some note) × IsNoteOf entry note
      all entry i =
          let there : All (Stands sorted) sorted = λ k d lt. (k, slice_get-get_or sorted k d lt) in
          let each = All-permutation (Stands sorted) sorted notes (IsPermutation-sym notes sorted same) there in
          let one = each_noted (Stands sorted) entries notes h (recursion_from_All (Stands sorted) notes each) entry i in
          (one.1.0, one.0, one.1.1, one.2)

      only : (i : ℕ) (note : Logged) → slice_get sorted i ≡ Some note → IsOfOne entries note
      only i note x =
          let each = All-permutation (IsOfOne entries) notes sorted same (All-from_recursion (IsOfOne entries) notes (of_one entries notes h)) in
          subst (IsOfOne entries) (get_or_from_slice_get sorted i note note x) (each i note (slice_get_within sorted i note x))

-- ---- the oldest of a key

module _ (order : Order) (o : IsTotalOrder order.cmp) (logged : List Logged) (key : List ℕ) (at : ℕ) (h : AreByAge order logged) (le : at ≤ length logged)
    (low : (i : ℕ) (d : Logged) → at ≡ i + 1 → order.cmp (get_or logged i d).key.now key ≡ Less) where
  never_less : (k l : List ℕ) → order.cmp k l ≡ Less → k ≡ l → ⊥
  never_less k l lt same =
      let P : List ℕ → Type 0 = λ m. order.cmp k m ≡ Less in
      let t : Equal ≡ Less = sym (tied_itself o k) ∙ subst P (sym same) lt in cc

  -- what stands before the place is below the key
  front_lower : (i : ℕ) (note : Logged) → slice_get logged i ≡ Some note → i < at → order.cmp note.key.now key ≡ Less
  front_lower i note x lt = by at refl
    where
      by : (n : ℕ) → at ≡ n → order.cmp note.key.now key ≡ Less
      by zero e = absurd (omega (arith, lt, e))
      by (suc m) e =
          let last = get_or logged m note in
          let last_is : slice_get logged m ≡ Some last = slice_get-get_or logged m note (omega (arith, le, e)) in
          let below : order.cmp last.key.now key ≡ Less = low m note (omega (arith, e)) in
          elim (cases_eq i m) [
            | inl same ↦ let P : Logged → Type 0 = λ l. order.cmp l.key.now key ≡ Less in subst P (get_or_from_slice_get logged m note note (ap (slice_get logged) (sym same) ∙ x)) below
            | inr other ↦ elim (h i m note last (omega (arith, lt, e, other)) x last_is) [
              | inl lower ↦ o.trans note.key.now last.key.now key lower below
              | inr tie ↦ let P : List ℕ → Type 0 = λ k. order.cmp k key ≡ Less in subst P (sym tie.0) below
            ]
          ]

  pub older_none : (sequence : ℕ) → length logged ≤ at → IsOlderThanAll logged key sequence
  older_none sequence end i note x same = absurd (never_less note.key.now key (front_lower i note x (let within = slice_get_within logged i note x in omega (arith, within, end))) same)

  module _ (first : Logged) (is : slice_get logged at ≡ Some first) (found : (d : Logged) → at < length logged → order.cmp (get_or logged at d).key.now key ≡ Less → ⊥) where
    not_lower : order.cmp first.key.now key ≡ Less → ⊥
    not_lower below =
        let P : Logged → Type 0 = λ l. order.cmp l.key.now key ≡ Less in
        found first (slice_get_within logged at first is) (subst P (sym (get_or_from_slice_get logged at first first is)) below)

    -- it stands at the place, or after it
    at_place : (i : ℕ) (note : Logged) → slice_get logged i ≡ Some note → note.key.now ≡ key → (note ≡ first) ⊎ ((first.key.now ≡ key) × (first.sequence ≤ note.sequence))
    at_place i note x same = elim (cases_lt i at) [
      | inl lt ↦ absurd (never_less note.key.now key (front_lower i note x lt) same)
      | inr ge ↦ elim (cases_eq i at) [
        | inl e ↦ (let both : Some note ≡ Some first = sym x ∙ ap (slice_get logged) e ∙ is in inl cc)
        | inr other ↦ elim (h at i first note (omega (arith, ge, other)) is x) [
          | inl lower ↦ let P : List ℕ → Type 0 = λ k. order.cmp first.key.now k ≡ Less in absurd (not_lower (subst P same lower))
          | inr tie ↦ inr (tie.0 ∙ same, tie.1)
        ]
      ]
    ]

    pub older_other : (sequence : ℕ) → (first.key.now ≡ key → ⊥) → IsOlderThanAll logged key sequence
    older_other sequence none i note x same = elim (at_place i note x same) [
      | inl e ↦ absurd (none (ap (λ (l : Logged). l.key.now) (sym e) ∙ same))
      | inr tie ↦ absurd (none tie.0)
    ]

    pub older_by_test : (sequence : ℕ) → first.key.now ≡ key → MatchBool (nat_lt sequence first.sequence) (IsOlderThanAll logged key sequence) (IsNotOlder logged key sequence)
    older_by_test sequence same = by (nat_lt sequence first.sequence) refl
      where
        by : (b : Bool) → nat_lt sequence first.sequence ≡ b → MatchBool b (IsOlderThanAll logged key sequence) (IsNotOlder logged key sequence)
        by true e = λ i note x mine. elim (at_place i note x mine) [
          | inl one ↦ (let newer : sequence < first.sequence = grind (arith, nat_tests) in omega (arith, newer, ap (λ (l : Logged). l.sequence) one))
          | inr tie ↦ (let newer : sequence < first.sequence = grind (arith, nat_tests) in omega (arith, newer, tie.1))
        ]
        by false e = (at, first, is, same, grind (arith, nat_tests))
