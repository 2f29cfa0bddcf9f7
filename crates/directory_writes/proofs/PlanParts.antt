-- Tables parted into those that are chosen and the rest, and what is known of the entries of some
-- of them.
use Rattle.std.proofs.Common.{◌≡◌, ◌≢◌, ◌⊎◌, inl, inr, ◌<◌, ℕ, suc, Bool, true, false, cond, Some, None, List, [], ◌∷◌, ◌++◌, length, get_or, map, refl, sym, ap, ◌∙◌, subst, arith, AllPairs}
use Rattle.std.proofs.lemmas.List.Sorted.{IsPermutation-refl, IsPermutation-sym, IsPermutation-trans, IsPermutation-cons, IsPermutation-middle}
use Rattle.std.specs.List.{AllByRecursion}
use Rattle.std.specs.List.Sorted.{IsPermutation}
use Rattle.edits.specs.declared.field.PlacedTable.{PlacedTable}
use Rattle.ikey.specs.declared.entry.Entry.{Entry}
use Rattle.ikey.specs.declared.internal_key.Kind.{Kind}
use Rattle.ikey.specs.declared.internal_key.Kind.TheVariants.{Delete, Put}
use Rattle.ikey.specs.Entries.{InternalEntry, entry_of, value_of}
use Rattle.ikey.specs.Views.{Among}
use Rattle.recover.specs.Tables.{TableContent, InTables, tabled}
use Rattle.recover.specs.Replacing.{AreParted, AreDistinct}
use Rattle.recover.proofs.Adding.{among_split}
use Rattle.recover.proofs.Memberships.{from_chosen, from_rest, among_front, among_back, among_chosen}
use Rattle.compact.specs.JobEdits.{AreOnce}
use Rattle.directory_writes.specs.Replacing.{placed_in}
use Rattle.directory_writes.specs.internal.Planned.{OwnSequencesLaw}
use Rattle.directory_writes.proofs.JobTables.{InRow}

-- ---- the tables that pass a test, and the others

abbrev pub chosen_by : (PlacedTable → Bool) → List TableContent → List TableContent
chosen_by test [] = []
chosen_by test (c ∷ contents) = cond (test c.placed) (c ∷ chosen_by test contents) (chosen_by test contents)

abbrev pub left_by : (PlacedTable → Bool) → List TableContent → List TableContent
left_by test [] = []
left_by test (c ∷ contents) = cond (test c.placed) (left_by test contents) (c ∷ left_by test contents)

pub parted_by : (test : PlacedTable → Bool) (contents : List TableContent) → AreParted contents (chosen_by test contents) (left_by test contents)
parted_by test [] = (refl, refl)
parted_by test (c ∷ contents) = by (parted_by test contents) (test c.placed)
  where
    by : AreParted contents (chosen_by test contents) (left_by test contents) → (b : Bool) → AreParted (c ∷ contents) (cond b (c ∷ chosen_by test contents) (chosen_by test contents)) (cond b (left_by test contents) (c ∷ left_by test contents))
    by rest true = inl (chosen_by test contents, refl, rest)
    by rest false = inr (left_by test contents, refl, rest)

pub is_chosen : (test : PlacedTable → Bool) (contents : List TableContent) (x : TableContent) → InTables (chosen_by test contents) x → test x.placed ≡ true
is_chosen test [] x i = absurd i
is_chosen test (c ∷ contents) x i = by (is_chosen test contents x) (test c.placed) refl i
  where
    by : (InTables (chosen_by test contents) x → test x.placed ≡ true) → (b : Bool) → test c.placed ≡ b → InTables (cond b (c ∷ chosen_by test contents) (chosen_by test contents)) x → test x.placed ≡ true
    by rest true e (inl same) = ap (λ (t : TableContent). test t.placed) same ∙ e
    by rest true e (inr j) = rest j
    by rest false e j = rest j

pub choose : (test : PlacedTable → Bool) (contents : List TableContent) (x : TableContent) → InTables contents x → test x.placed ≡ true → InTables (chosen_by test contents) x
choose test [] x i e = absurd i
choose test (c ∷ contents) x i e = by (λ j. choose test contents x j e) (test c.placed) refl i
  where
    by : (InTables contents x → InTables (chosen_by test contents) x) → (b : Bool) → test c.placed ≡ b → InTables (c ∷ contents) x → InTables (cond b (c ∷ chosen_by test contents) (chosen_by test contents)) x
    by rest true f (inl same) = inl same
    by rest true f (inr j) = inr (rest j)
    by rest false f (inl same) = let t : true ≡ false = sym e ∙ ap (λ (t : TableContent). test t.placed) same ∙ f in absurd cc
    by rest false f (inr j) = rest j

-- ---- tables of distinct numbers

each_in : {X : Type 0} (P : X → Type 0) (xs : List X) (x : X) → AllByRecursion P xs → Among xs x → P x
each_in P [] x h i = absurd i
each_in P (y ∷ xs) x h (inl e) = subst P (sym e) h.0
each_in P (y ∷ xs) x h (inr i) = each_in P xs x h.1 i

all_of : {X : Type 0} (P : X → Type 0) (xs : List X) → ((x : X) → Among xs x → P x) → AllByRecursion P xs
all_of P [] h = tt
all_of P (x ∷ xs) h = (h x (inl refl), all_of P xs (λ y i. h y (inr i)))

abbrev Differs : PlacedTable → PlacedTable → Type 0
Differs a b = a.table.number ≢ b.table.number

among_in : (contents : List TableContent) (p : PlacedTable) → Among (placed_in contents) p → (c : TableContent) × InTables contents c × (c.placed ≡ p)
among_in [] p i = absurd i
among_in (c ∷ contents) p (inl e) = (c, inl refl, sym e)
among_in (c ∷ contents) p (inr i) = let r = among_in contents p i in (r.0, inr r.1, r.2)

pub once_chosen : (contents chosen rest : List TableContent) → AreParted contents chosen rest → InRow contents → AreOnce (placed_in chosen)
once_chosen [] chosen rest h row = subst (λ (ts : List TableContent). AreOnce (placed_in ts)) (sym h.0) tt
once_chosen (c ∷ contents) chosen rest (inl h) row =
    subst (λ (ts : List TableContent). AreOnce (placed_in ts)) (sym h.1) (
      all_of (Differs c.placed) (placed_in h.0) (λ p i.
          let x = among_in h.0 p i in
          subst (Differs c.placed) x.2 (row.0 x.0 (from_chosen contents h.0 rest x.0 h.2 x.1)).1),
      once_chosen contents h.0 rest h.2 row.1,
    )
once_chosen (c ∷ contents) chosen rest (inr h) row = once_chosen contents chosen h.0 h.2 row.1

-- a table that is chosen isn't left
pub parts_apart : (contents chosen rest : List TableContent) (a b : TableContent) → AreParted contents chosen rest → InRow contents → InTables chosen a → InTables rest b → a.placed.table.number ≢ b.placed.table.number
parts_apart [] chosen rest a b h row i j = absurd (subst (λ (ts : List TableContent). InTables ts a) h.0 i)
parts_apart (c ∷ contents) chosen rest a b (inl h) row i j =
    let here : (a ≡ c) ⊎ InTables h.0 a = subst (λ (ts : List TableContent). InTables ts a) h.1 i in
    elim here [
      | inl e ↦ subst (λ (t : TableContent). t.placed.table.number ≢ b.placed.table.number) (sym e) (row.0 b (from_rest contents h.0 rest b h.2 j)).1
      | inr k ↦ parts_apart contents h.0 rest a b h.2 row.1 k j
    ]
parts_apart (c ∷ contents) chosen rest a b (inr h) row i j =
    let here : (b ≡ c) ⊎ InTables h.0 b = subst (λ (ts : List TableContent). InTables ts b) h.1 j in
    elim here [
      | inl e ↦ λ same. (row.0 a (from_chosen contents chosen h.0 a h.2 i)).1 (sym (same ∙ ap (λ (t : TableContent). t.placed.table.number) e))
      | inr k ↦ parts_apart contents chosen h.0 a b h.2 row.1 i k
    ]

pub once_listed : (xs : List PlacedTable) → AllPairs (λ a b. a.table.number ≢ b.table.number) xs → AreOnce xs
once_listed [] h = tt
once_listed (x ∷ xs) h = (
  rec_at (Differs x) xs (λ k d lt. h 0 (suc k) d (omega arith) (omega (arith, lt))),
  once_listed xs (λ i j d lt le. h (suc i) (suc j) d (omega (arith, lt)) (omega (arith, le))),
)
  where
    rec_at : (P : PlacedTable → Type 0) (ys : List PlacedTable) → ((k : ℕ) (d : PlacedTable) → k < length ys → P (get_or ys k d)) → AllByRecursion P ys
    rec_at P [] g = tt
    rec_at P (y ∷ ys) g = (g 0 y (omega arith), rec_at P ys (λ k d lt. g (suc k) d (omega (arith, lt))))

-- ---- the same tables in another order

split_at : (xs : List PlacedTable) (p : PlacedTable) → Among xs p → (front : List PlacedTable) × (back : List PlacedTable) × (xs ≡ front ++ p ∷ back)
split_at [] p i = absurd i
split_at (x ∷ xs) p (inl e) = ([], xs, ap (λ (q : PlacedTable). q ∷ xs) (sym e))
split_at (x ∷ xs) p (inr i) = let r = split_at xs p i in (x ∷ r.0, r.1, ap (λ (ts : List PlacedTable). x ∷ ts) r.2)

from_middle : (front back : List PlacedTable) (p q : PlacedTable) → Among (front ++ p ∷ back) q → (q ≡ p) ⊎ Among (front ++ back) q
from_middle [] back p q i = i
from_middle (x ∷ front) back p q (inl e) = inr (inl e)
from_middle (x ∷ front) back p q (inr i) = elim (from_middle front back p q i) [ inl e ↦ inl e | inr j ↦ inr (inr j) ]

to_middle : (front back : List PlacedTable) (p q : PlacedTable) → Among (front ++ back) q → Among (front ++ p ∷ back) q
to_middle [] back p q i = inr i
to_middle (x ∷ front) back p q (inl e) = inl e
to_middle (x ∷ front) back p q (inr i) = inr (to_middle front back p q i)

in_middle : (front back : List PlacedTable) (p : PlacedTable) → Among (front ++ p ∷ back) p
in_middle [] back p = inl refl
in_middle (x ∷ front) back p = inr (in_middle front back p)

once_middle : (front back : List PlacedTable) (p : PlacedTable) → AreOnce (front ++ p ∷ back) → AreOnce (front ++ back) × ((q : PlacedTable) → Among (front ++ back) q → Differs q p)
once_middle [] back p h = (h.1, λ q i e. each_in (Differs p) back q h.0 i (sym e))
once_middle (x ∷ front) back p h =
    let rest = once_middle front back p h.1 in (
      (all_of (Differs x) (front ++ back) (λ q i. each_in (Differs x) (front ++ p ∷ back) q h.0 (to_middle front back p q i)), rest.0),
      λ q i. elim i [
        | inl e ↦ subst (λ (t : PlacedTable). Differs t p) (sym e) (each_in (Differs x) (front ++ p ∷ back) p h.0 (in_middle front back p))
        | inr j ↦ rest.1 q j
      ],
    )

pub permuted : (xs ys : List PlacedTable) → AreOnce xs → AreOnce ys → ((p : PlacedTable) → Among xs p → Among ys p) → ((p : PlacedTable) → Among ys p → Among xs p) → IsPermutation xs ys
permuted [] [] h g to back = IsPermutation-refl []
permuted [] (y ∷ ys) h g to back = absurd (back y (inl refl))
permuted (x ∷ xs) ys h g to back =
    let s = split_at ys x (to x (inl refl)) in
    let others : List PlacedTable = s.0 ++ s.1 in
    let apart = once_middle s.0 s.1 x (subst AreOnce s.2 g) in
    let number : PlacedTable → ℕ = λ t. t.table.number in
    let rest = permuted xs others h.1 apart.0
    (λ p i. elim (from_middle s.0 s.1 x p (subst (λ (ts : List PlacedTable). Among ts p) s.2 (to p (inr i)))) [
      | inl e ↦ absurd (each_in (Differs x) xs p h.0 i (ap number (sym e)))
      | inr j ↦ j
    ])
    (λ p i. let there : (p ≡ x) ⊎ Among xs p = back p (subst (λ (ts : List PlacedTable). Among ts p) (sym s.2) (to_middle s.0 s.1 x p i)) in
    elim there [
      | inl e ↦ absurd (apart.1 p i (ap number e))
      | inr j ↦ j
    ]) in
    IsPermutation-trans (x ∷ xs) (x ∷ others) ys (IsPermutation-cons x xs others rest)
    (subst (λ (ts : List PlacedTable). IsPermutation (x ∷ others) ts) (sym s.2) (IsPermutation-sym (s.0 ++ x ∷ s.1) (x ∷ others) (IsPermutation-middle s.0 x s.1)))

-- ---- distinct entries

abbrev Differ : Entry → Entry → Type 0
Differ e f = e.key ≡ f.key → e.sequence ≢ f.sequence

distinct_parts : (xs ys : List Entry) → AreDistinct (xs ++ ys) → AreDistinct xs × AreDistinct ys × ((e f : Entry) → Among xs e → Among ys f → Differ e f)
distinct_parts [] ys h = (tt, h, λ e f i j. absurd i)
distinct_parts (x ∷ xs) ys h =
    let rest = distinct_parts xs ys h.1 in (
      (λ f i. h.0 f (among_front xs ys f i), rest.0),
      rest.1,
      λ e f i j. elim i [
        | inl s ↦ subst (λ (g : Entry). Differ g f) (sym s) (h.0 f (among_back xs ys f j))
        | inr k ↦ rest.2 e f k j
      ],
    )

distinct_both : (xs ys : List Entry) → AreDistinct xs → AreDistinct ys → ((e f : Entry) → Among xs e → Among ys f → Differ e f) → AreDistinct (xs ++ ys)
distinct_both [] ys h k cross = k
distinct_both (x ∷ xs) ys h k cross = (
  λ f i. elim (among_split xs ys f i) [ inl j ↦ h.0 f j | inr j ↦ cross x f (inl refl) j ],
  distinct_both xs ys h.1 k (λ e f i j. cross e f (inr i) j),
)

pub distinct_front : (xs ys : List Entry) → AreDistinct (xs ++ ys) → AreDistinct xs
distinct_front xs ys h = (distinct_parts xs ys h).0

pub distinct_chosen : (contents chosen rest : List TableContent) → AreParted contents chosen rest → AreDistinct (tabled contents) → AreDistinct (tabled chosen)
distinct_chosen [] chosen rest h d = subst (λ (ts : List TableContent). AreDistinct (tabled ts)) (sym h.0) tt
distinct_chosen (c ∷ contents) chosen rest (inl h) d =
    let parts = distinct_parts c.entries (tabled contents) d in
    subst (λ (ts : List TableContent). AreDistinct (tabled ts)) (sym h.1)
    (distinct_both c.entries (tabled h.0) parts.0 (distinct_chosen contents h.0 rest h.2 parts.1) (λ e f i j. parts.2 e f i (among_chosen contents h.0 rest f h.2 j)))
distinct_chosen (c ∷ contents) chosen rest (inr h) d = distinct_chosen contents chosen h.0 h.2 (distinct_parts c.entries (tabled contents) d).1

same_entry : (xs : List Entry) (e f : Entry) → AreDistinct xs → Among xs e → Among xs f → e.key ≡ f.key → e.sequence ≡ f.sequence → e ≡ f
same_entry [] e f h i j key sequence = absurd i
same_entry (x ∷ xs) e f h (inl p) (inl q) key sequence = p ∙ sym q
same_entry (x ∷ xs) e f h (inl p) (inr j) key sequence =
    absurd (h.0 f j (ap (λ (g : Entry). g.key) (sym p) ∙ key) (ap (λ (g : Entry). g.sequence) (sym p) ∙ sequence))
same_entry (x ∷ xs) e f h (inr i) (inl q) key sequence =
    absurd (h.0 e i (ap (λ (g : Entry). g.key) (sym q) ∙ sym key) (ap (λ (g : Entry). g.sequence) (sym q) ∙ sym sequence))
same_entry (x ∷ xs) e f h (inr i) (inr j) key sequence = same_entry xs e f h.1 i j key sequence

same_kind : (k l : Kind) (a b : List ℕ) → value_of k a ≡ value_of l b → k ≡ l
same_kind Delete Delete a b e = refl
same_kind Put Put a b e = refl
same_kind Delete Put a b e = let t : None ≡ Some b = e in absurd cc
same_kind Put Delete a b e = let t : Some a ≡ None = e in absurd cc

as_entry : (merged : List InternalEntry) (entry : InternalEntry) → Among merged entry → Among (map entry_of merged) (entry_of entry)
as_entry [] entry i = absurd i
as_entry (x ∷ merged) entry (inl e) = inl (ap entry_of e)
as_entry (x ∷ merged) entry (inr i) = inr (as_entry merged entry i)

pub own_sequences : OwnSequencesLaw
own_sequences entries merged h from a b i j user sequence =
    let same : entry_of a ≡ entry_of b = same_entry entries (entry_of a) (entry_of b) h (from (entry_of a) (as_entry merged a i)) (from (entry_of b) (as_entry merged b j)) user sequence in
    same_kind a.key.kind b.key.kind a.value b.value (ap (λ (e : Entry). e.value) same)
