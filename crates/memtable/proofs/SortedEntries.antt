-- Entries that are sorted stand in the order of their inserts one after the other.
use Rattle.std.proofs.Common.{◌≡◌, ◌≢◌, ◌==◌, ◌+◌, ◌-◌, ◌<◌, ◌≤◌, ℕ, zero, suc, Bool, true, false, cond, nat_lt, Some, List, [], ◌∷◌, ◌++◌, length, get_or, map, sum_by, IsPermutation, IsSortedBy, inl, inr, refl, sym, ap, subst, ◌∙◌, arith, append_assoc, length-append, eqb-true}
use Rattle.std.proofs.lemmas.Bool.{cases_eq, cond_both, eq-eqb}
use Rattle.std.proofs.lemmas.List.{append-nil}
use Rattle.std.proofs.lemmas.List.Elements.{All-from_recursion, recursion_from_All}
use Rattle.std.proofs.lemmas.List.Sums.{sum_by-cons}
use Rattle.std.proofs.lemmas.List.Sorted.{IsPermutation-map, IsPermutation-sym, IsPermutation-trans, All-permutation, sum_by-IsPermutation, sorted_far, ranks_by}
use Rattle.std.specs.List.{AllByRecursion, slice_get}
use Rattle.std.specs.Cmp.{IsTotalOrder, IsStrictWeakOrder, then_total, on_total, back_total, nat_cmp_total}
use Rattle.std.specs.FinMap.{IsAntisymmetric}
use Rattle.std.specs.Ordering.{nat_cmp, is_lt, ordering_then, match_ordering}
use Rattle.std.specs.declared.cmp.Ordering.{Ordering}
use Rattle.std.specs.declared.cmp.Ordering.TheVariants.{Less, Equal, Greater}
use Rattle.ikey.specs.declared.entry.Entry.{Entry}
use Rattle.ikey.specs.Views.{Among}
use Rattle.memtable.specs.Levels.{AreNumbers, count_to}
use Rattle.memtable.specs.Newest.{IsNew, AllDiffer}
use Rattle.memtable.specs.Order.{is_before, Placed, put_in, ordered, nodes_of, Rises}
use Rattle.memtable.specs.internal.Ranks.{HasRank, number_of, ranked_cmp, no_entry}
use Rattle.memtable.specs.declared.ranked.Ranked.{Ranked}
use Rattle.memtable.proofs.Numbers.{numbers-permute}
use Rattle.memtable.proofs.Orders.{HasNumber, all-back, all-among, all-ordered, all-numbered, ordered-push, ordered-split, rises-split, split-at}
use Rattle.memtable.proofs.TableSteps.{nodes-append}

-- ---- a row that rises strictly is the only sorted one of its numbers

abbrev one : ℕ → ℕ → ℕ
one x y = cond (y == x) 1 0

abbrev many : ℕ → List ℕ → ℕ
many x xs = sum_by (one x) xs

one-same : (x : ℕ) → one x x ≡ 1
one-same x = ap (λ (b : Bool). cond b 1 0) (eq-eqb x x refl)

one-other : (x y : ℕ) → y ≢ x → one x y ≡ 0
one-other x y other = cond_both (y == x) 1 0 (λ n. n ≡ 0) (λ e. absurd (other (eqb-true y x e))) (λ _. refl)

holds-of : (P : ℕ → Type 0) (x : ℕ) (xs : List ℕ) → AllByRecursion P xs → 0 < many x xs → P x
holds-of P x [] h some = absurd (omega (arith, some))
holds-of P x (y ∷ xs) h some = elim (cases_eq y x) [
  | inl e ↦ subst P e h.0
  | inr other ↦ holds-of P x xs h.1 (omega (arith, some, sum_by-cons (one x) y xs, one-other x y other))
]

module _ (less : ℕ → ℕ → Bool) (lawful : IsStrictWeakOrder less) where
  abbrev pub Ascends : List ℕ → Type 0
  Ascends [] = Unit {0}
  Ascends (x ∷ xs) = AllByRecursion (λ (y : ℕ). less x y ≡ true) xs × Ascends xs

  least-first : (y : ℕ) (ys : List ℕ) → IsSortedBy less (y ∷ ys) → AllByRecursion (λ (z : ℕ). less z y ≡ false) ys
  least-first y ys sorted =
      recursion_from_All (λ (z : ℕ). less z y ≡ false) ys (λ k d lt. sorted_far less lawful (y ∷ ys) sorted 0 (suc k) d (omega arith) (omega (arith, lt)))

  sorted-tail : (y : ℕ) (ys : List ℕ) → IsSortedBy less (y ∷ ys) → IsSortedBy less ys
  sorted-tail y ys sorted = λ k d p q. rw Rattle.std.proofs.Common.add-one (rw Rattle.std.proofs.Common.add-one at (sorted (suc k) d (omega arith) (omega (arith, q))))

  same-head : (x y : ℕ) (xs ys : List ℕ) → AllByRecursion (λ (z : ℕ). less x z ≡ true) xs → AllByRecursion (λ (z : ℕ). less z y ≡ false) ys
      → ((z : ℕ) → many z (x ∷ xs) ≡ many z (y ∷ ys)) → y ≡ x
  same-head x y xs ys up least same = elim (cases_eq y x) [
    | inl e ↦ e
    | inr other ↦ (
        let above : less x y ≡ true = holds-of (λ (z : ℕ). less x z ≡ true) y xs up
        (omega (arith, same y, sum_by-cons (one y) x xs, sum_by-cons (one y) y ys, one-same y, one-other y x (λ e. other (sym e)))) in
        let behind : less x y ≡ false = holds-of (λ (z : ℕ). less z y ≡ false) x ys least
        (omega (arith, same x, sum_by-cons (one x) x xs, sum_by-cons (one x) y ys, one-same x, one-other x y other)) in
        let both : true ≡ false = sym above ∙ behind in absurd cc
        )
  ]

  same-row : (xs ys : List ℕ) → Ascends xs → IsSortedBy less ys → ((z : ℕ) → many z xs ≡ many z ys) → ys ≡ xs
  same-row [] [] up sorted same = refl
  same-row [] (y ∷ ys) up sorted same = absurd (omega (arith, same y, sum_by-cons (one y) y ys, one-same y))
  same-row (x ∷ xs) [] up sorted same = absurd (omega (arith, same x, sum_by-cons (one x) x xs, one-same x))
  same-row (x ∷ xs) (y ∷ ys) up sorted same =
      let head : y ≡ x = same-head x y xs ys up.0 (least-first y ys sorted) same in
      let tail : ys ≡ xs = same-row xs ys up.1 (sorted-tail y ys sorted)
      (λ z. omega (arith, same z, sum_by-cons (one z) x xs, sum_by-cons (one z) y ys, ap (one z) head)) in
      λ i. head i ∷ tail i

  pub sorted-once : (xs ys : List ℕ) → Ascends xs → IsPermutation xs ys → IsSortedBy less ys → ys ≡ xs
  sorted-once xs ys up permuted sorted = same-row xs ys up sorted (λ z. sym (sum_by-IsPermutation (one z) xs ys permuted))

-- ---- entries of which no two have the same key and sequence number

middle-among : (front : List Entry) (entry : Entry) (back : List Entry) → Among (front ++ entry ∷ back) entry
middle-among [] entry back = inl refl
middle-among (first ∷ front) entry back = inr (middle-among front entry back)

-- each is new after those in front
differ-new : (front : List Entry) (entry : Entry) (back : List Entry) → AllDiffer (front ++ entry ∷ back) → IsNew front entry.key entry.sequence
differ-new [] entry back h = λ other member k s. absurd member
differ-new (first ∷ front) entry back h = λ other member k s. elim member [
  | inl is ↦ h.0 entry (middle-among front entry back) (sym k ∙ ap (λ (e : Entry). e.key) is) (sym s ∙ ap (λ (e : Entry). e.sequence) is)
  | inr later ↦ differ-new front entry back h.1 other later k s
]

module _ (cmp : List ℕ → List ℕ → Ordering) where
  put-parts : (new : Placed) (placed : List Placed) → (front : List Placed) × (back : List Placed) × (placed ≡ front ++ back) × (put_in cmp new placed ≡ front ++ new ∷ back)
  put-parts new [] = ([], [], refl, refl)
  put-parts new (first ∷ later) =
      cond_both (is_before cmp new.entry.key new.entry.sequence first.entry) (first ∷ put_in cmp new later) (new ∷ first ∷ later)
      (λ v. (front : List Placed) × (back : List Placed) × (first ∷ later ≡ front ++ back) × (v ≡ front ++ new ∷ back))
      (λ _. let h = put-parts new later in (first ∷ h.0, h.1, ap (λ v. first ∷ v) h.2, ap (λ v. first ∷ v) h.3))
      (λ _. ([], first ∷ later, refl, refl))

  -- the nodes have the numbers of the inserts
  number-more : (done : List Entry) (entry : Entry) → AreNumbers (length done) (nodes_of (ordered cmp done))
      → AreNumbers (length (done ++ entry ∷ [])) (nodes_of (ordered cmp (done ++ entry ∷ [])))
  number-more done entry h =
      let new : Placed = record { node = length done + 1; entry = entry } in
      let p = put-parts new (ordered cmp done) in
      let long : length (done ++ entry ∷ []) ≡ suc (length done) = omega (arith, length-append done (entry ∷ [])) in
      let number : length done + 1 ≡ suc (length done) = omega arith in
      let nodes : nodes_of (ordered cmp (done ++ entry ∷ [])) ≡ nodes_of p.0 ++ suc (length done) ∷ nodes_of p.1 =
      ap nodes_of (ordered-push cmp done entry ∙ p.3) ∙ nodes-append p.0 (new ∷ p.1) ∙ ap (λ (n : ℕ). nodes_of p.0 ++ n ∷ nodes_of p.1) number in
      subst (λ (n : ℕ). AreNumbers n (nodes_of (ordered cmp (done ++ entry ∷ [])))) (sym long)
      (nodes_of p.0, nodes_of p.1, nodes, subst (AreNumbers (length done)) (ap nodes_of p.2 ∙ nodes-append p.0 p.1) h)

  number-all : (done entries : List Entry) → AreNumbers (length done) (nodes_of (ordered cmp done)) → AreNumbers (length (done ++ entries)) (nodes_of (ordered cmp (done ++ entries)))
  number-all done [] h = subst (λ (v : List Entry). AreNumbers (length v) (nodes_of (ordered cmp v))) (sym (append-nil done)) h
  number-all done (entry ∷ entries) h =
      subst (λ (v : List Entry). AreNumbers (length v) (nodes_of (ordered cmp v))) (append_assoc done (entry ∷ []) entries)
      (number-all (done ++ entry ∷ []) entries (number-more done entry h))

  pub nodes-numbered : (entries : List Entry) → AreNumbers (length entries) (nodes_of (ordered cmp entries))
  nodes-numbered entries = number-all [] entries refl

  module _ (total : IsTotalOrder cmp) (exact : IsAntisymmetric cmp) where
    rise-more : (done : List Entry) (entry : Entry) → Rises cmp (ordered cmp done) → IsNew done entry.key entry.sequence → Rises cmp (ordered cmp (done ++ entry ∷ []))
    rise-more done entry h new =
        let s = split-at cmp total exact entry.key entry.sequence (ordered cmp done) h in
        let P = λ (e : Entry). e.key ≡ entry.key → e.sequence ≡ entry.sequence → ⊥ in
        let apart = subst (AllByRecursion (λ (one : Placed). P one.entry)) s.2 (all-ordered cmp P done (all-among P done new)) in
        subst (Rises cmp) (sym (ordered-split cmp done entry s.0 s.1 s.2 s.3 s.4))
        (rises-split cmp total exact (record { node = length done + 1; entry = entry }) s.0 s.1 (subst (Rises cmp) s.2 h) s.3 s.4 (all-back (λ (one : Placed). P one.entry) s.0 s.1 apart))

    rise-all : (done entries : List Entry) → Rises cmp (ordered cmp done) → AllDiffer (done ++ entries) → Rises cmp (ordered cmp (done ++ entries))
    rise-all done [] h new = subst (λ (v : List Entry). Rises cmp (ordered cmp v)) (sym (append-nil done)) h
    rise-all done (entry ∷ entries) h new =
        let whole = append_assoc done (entry ∷ []) entries in
        subst (λ (v : List Entry). Rises cmp (ordered cmp v)) whole
        (rise-all (done ++ entry ∷ []) entries (rise-more done entry h (differ-new done entry entries new)) (subst AllDiffer (sym whole) new))

    pub all-rise : (entries : List Entry) → AllDiffer entries → Rises cmp (ordered cmp entries)
    all-rise entries new = rise-all [] entries tt new

-- ---- how numbers compare

module _ (cmp : List ℕ → List ℕ → Ordering) (total : IsTotalOrder cmp) where
  abbrev pub ranked_less : Ranked → Ranked → Bool
  ranked_less a b = is_lt (ranked_cmp cmp a b)

  pub is_lawful : IsStrictWeakOrder ranked_less
  is_lawful = ranks_by (then_total (on_total (λ (one : Ranked). one.key.now) total) (back_total (on_total (λ (one : Ranked). one.sequence) nat_cmp_total))) (λ (one : Ranked). one)

  module _ (entries : List Entry) where
    abbrev entry_of : ℕ → Entry
    entry_of number = get_or entries (number - 1) no_entry

    abbrev entry_cmp : Entry → Entry → Ordering
    entry_cmp a b = ordering_then (cmp a.key b.key) (nat_cmp b.sequence a.sequence)

    abbrev number_cmp : ℕ → ℕ → Ordering
    number_cmp m n = entry_cmp (entry_of m) (entry_of n)

    abbrev less : ℕ → ℕ → Bool
    less m n = is_lt (number_cmp m n)

    numbers-lawful : IsStrictWeakOrder less
    numbers-lawful =
        ranks_by (then_total (on_total (λ (n : ℕ). (entry_of n).key) total) (back_total (on_total (λ (n : ℕ). (entry_of n).sequence) nat_cmp_total))) (λ (n : ℕ). n)

    ranked-as : (a b : Ranked) → HasRank entries a → HasRank entries b → ranked_cmp cmp a b ≡ number_cmp a.number b.number
    ranked-as a b h k = λ i. ordering_then (cmp (sym h.0 i) (sym k.0 i)) (nat_cmp (sym k.1 i) (sym h.1 i))

    sorted-behind : (x y : ℕ) (ys : List ℕ) → less y x ≡ false → IsSortedBy less (y ∷ ys) → IsSortedBy less (x ∷ y ∷ ys)
    sorted-behind x y ys h sorted zero d p q = h
    sorted-behind x y ys h sorted (suc k) d p q =
        rw Rattle.std.proofs.Common.add-one (rw Rattle.std.proofs.Common.add-one at (sorted k d (omega arith) (omega (arith, q))))

    numbers-sorted : (ranked : List Ranked) → AllByRecursion (HasRank entries) ranked → IsSortedBy ranked_less ranked → IsSortedBy less (map number_of ranked)
    numbers-sorted [] h sorted = λ k d p q. absurd (omega (arith, q))
    numbers-sorted (first ∷ []) h sorted = λ k d p q. absurd (omega (arith, q))
    numbers-sorted (first ∷ second ∷ ranked) h sorted =
        let rest : IsSortedBy less (map number_of (second ∷ ranked)) =
        numbers-sorted (second ∷ ranked) h.1
        (λ m e r s. rw Rattle.std.proofs.Common.add-one (rw Rattle.std.proofs.Common.add-one at (sorted (suc m) e (omega arith) (omega (arith, s))))) in
        sorted-behind (number_of first) (number_of second) (map number_of ranked) (ap is_lt (sym (ranked-as second first h.1.0 h.0)) ∙ sorted 0 first (omega arith) (omega arith)) rest

    by-order : (order : Ordering) (a b : ℕ) → match_ordering order true (nat_lt b a) false ≡ true → is_lt (ordering_then order (nat_cmp b a)) ≡ true
    by-order Less a b h = refl
    by-order Equal a b h = ap (λ (t : Bool). is_lt (cond t Less (cond (b == a) Equal Greater))) h
    by-order Greater a b h = let no : false ≡ true = h in cc

    entry-numbered : (xs : List Entry) (i : ℕ) (entry : Entry) → slice_get xs i ≡ Some entry → get_or xs i no_entry ≡ entry
    entry-numbered [] i entry e = cc
    entry-numbered (first ∷ xs) zero entry e = cc
    entry-numbered (first ∷ xs) (suc i) entry e = entry-numbered xs i entry e

    less-all : (first : Placed) (later : List Placed) → HasNumber entries first → AllByRecursion (HasNumber entries) later
        → AllByRecursion (λ (one : Placed). is_before cmp one.entry.key one.entry.sequence first.entry ≡ true) later → AllByRecursion (λ (n : ℕ). less first.node n ≡ true) (nodes_of later)
    less-all first [] p h b = tt
    less-all first (one ∷ later) p h b =
        let a = entry-numbered entries (first.node - 1) first.entry p.0 in
        let c = entry-numbered entries (one.node - 1) one.entry h.0.0 in
        ((λ i. is_lt (entry_cmp (a i) (c i))) ∙ by-order (cmp first.entry.key one.entry.key) first.entry.sequence one.entry.sequence b.0, less-all first later p h.1 b.1)

    nodes-ascend : (placed : List Placed) → AllByRecursion (HasNumber entries) placed → Rises cmp placed → Ascends less numbers-lawful (nodes_of placed)
    nodes-ascend [] h up = tt
    nodes-ascend (first ∷ later) h up = (less-all first later h.0 h.1 up.0, nodes-ascend later h.1 up.1)

    -- what is sorted has the order of the list
    pub sorted-nodes : IsAntisymmetric cmp → AllDiffer entries → (ranked row : List Ranked) → map number_of ranked ≡ count_to (length entries) → AllByRecursion (HasRank entries) ranked
        → IsPermutation ranked row → IsSortedBy ranked_less row → map number_of row ≡ nodes_of (ordered cmp entries)
    sorted-nodes exact new ranked row numbers ranks permuted sorted =
        let nodes = nodes_of (ordered cmp entries) in
        let rows : AllByRecursion (HasRank entries) row = recursion_from_All (HasRank entries) row (All-permutation (HasRank entries) ranked row permuted (All-from_recursion (HasRank entries) ranked ranks)) in
        let counted : IsPermutation (count_to (length entries)) (map number_of row) = subst (λ (v : List ℕ). IsPermutation v (map number_of row)) numbers (IsPermutation-map number_of ranked row permuted) in
        let same : IsPermutation nodes (map number_of row) =
        IsPermutation-trans nodes (count_to (length entries)) (map number_of row) (IsPermutation-sym (count_to (length entries)) nodes (numbers-permute (length entries) nodes (nodes-numbered cmp entries))) counted in
        sorted-once less numbers-lawful nodes (map number_of row) (nodes-ascend (ordered cmp entries) (all-numbered cmp entries) (all-rise cmp total exact entries new)) same (numbers-sorted row rows sorted)
