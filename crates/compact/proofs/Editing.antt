-- The edit of a compaction can be written.
use Rattle.std.proofs.Common.{◌≡◌, ◌≢◌, ◌==◌, ◌<◌, ◌≤◌, ◌+◌, ◌*◌, ◌^◌, ◌-◌, ℕ, zero, suc, Bool, cond, Option, Some, None, List, [], ◌∷◌, ◌++◌, map, length, inl, inr, refl, sym, ap, subst, arith}
use Rattle.std.proofs.lemmas.Bool.{cases_lt, cases_eq, eq-eqb, ne_eqb}
use Rattle.std.proofs.lemmas.List.Sums.{sum_by-cons}
use Rattle.std.proofs.lemmas.List.Sorted.{All-permutation, sum_by-IsPermutation}
use Rattle.std.specs.Prelude.{All, Any, MatchOption}
use Rattle.std.specs.List.{AllByRecursion, sum_by}
use Rattle.std.specs.List.Sorted.{IsNonDecreasingBy}
use Rattle.edits.specs.declared.field.Field.{Field}
use Rattle.edits.specs.declared.field.Field.TheVariants.{NextFileNumber, LastSequence, CompactPointer}
use Rattle.edits.specs.declared.field.PlacedTable.{PlacedTable}
use Rattle.edits.specs.declared.field.TableFile.{TableFile}
use Rattle.edits.specs.Edit.{IsInternal, IsProper, IsInOrder, IsTableProper, IsPlacedBefore, field_tag}
use Rattle.edits.proofs.Folds.{all_append}
use Rattle.edits.proofs.Snapshots.{all_from}
use Rattle.versions.specs.declared.plan.JobPlan.{JobPlan}
use Rattle.compact.specs.JobEdits.{IsEditOf, IsPlanProper, IsOwnIn, AreOnce, gone, placed_at, pointer_fields, rank_of}
use Rattle.compact.specs.Outputs.{TablesWritten, IsOwn, TableNumbersRise}

-- ---- no number twice

abbrev one_if : ℕ → PlacedTable → ℕ
one_if n placed = cond (placed.table.number == n) 1 0

one_here : (n : ℕ) (placed : PlacedTable) → placed.table.number ≡ n → one_if n placed ≡ 1
one_here n placed e = ap (λ (b : Bool). cond b 1 0) (eq-eqb placed.table.number n e)

one_other : (n : ℕ) (placed : PlacedTable) → placed.table.number ≢ n → one_if n placed ≡ 0
one_other n placed apart = ap (λ (b : Bool). cond b 1 0) (ne_eqb placed.table.number n apart)

none_count : (n : ℕ) (xs : List PlacedTable) → AllByRecursion (λ (other : PlacedTable). n ≢ other.table.number) xs → sum_by (one_if n) xs ≡ 0
none_count n [] h = refl
none_count n (x ∷ xs) h = (let here = one_other n x (λ e. h.0 (sym e)) in let rest = none_count n xs h.1 in let all = sum_by-cons (one_if n) x xs in omega (arith, here, rest, all))

once_count : (xs : List PlacedTable) → AreOnce xs → (n : ℕ) → sum_by (one_if n) xs ≤ 1
once_count [] h n = omega arith
once_count (x ∷ xs) h n =
    let all = sum_by-cons (one_if n) x xs in
    elim (cases_eq x.table.number n) [
      | inl e ↦
          let here = one_here n x e in
          let rest = none_count n xs (subst (λ (m : ℕ). AllByRecursion (λ (other : PlacedTable). m ≢ other.table.number) xs) e h.0) in
          omega (arith, all, here, rest)
      | inr apart ↦ let here = one_other n x apart in let rest = once_count xs h.1 n in omega (arith, all, here, rest)
    ]

-- ---- the order of the fields

rank_before : (l m n k : ℕ) → l * 2 ^ 64 + m ≤ n * 2 ^ 64 + k → m < 2 ^ 64 → k < 2 ^ 64 → (m ≡ k → ⊥) → IsPlacedBefore (l, m) (n, k)
rank_before l m n k le fits fit apart = elim (cases_lt l n) [
  | inl lt ↦ inl lt
  | inr ge ↦
      let same : l ≡ n = omega (arith, le, fits, fit, ge) in
      elim (cases_lt m k) [
        | inl lt ↦ inr (same, lt)
        | inr high ↦ absurd (apart (omega (arith, le, same, high)))
      ]
]

abbrev InRange : PlacedTable → Type 0
InRange placed = (placed.level < 7) × (placed.table.number < 2 ^ 64)

gone_order : (ys : List PlacedTable) → IsNonDecreasingBy rank_of ys → All InRange ys → ((n : ℕ) → sum_by (one_if n) ys ≤ 1) → IsInOrder (map gone ys)
gone_order [] h range once = tt
gone_order (y ∷ []) h range once = tt
gone_order (y ∷ z ∷ ys) h range once =
    let n : ℕ = y.table.number in
    let apart : y.table.number ≡ z.table.number → ⊥ = λ e.
    (let two = once n in let first = one_here n y refl in let second = one_here n z (sym e) in
    let a = sum_by-cons (one_if n) y (z ∷ ys) in let b = sum_by-cons (one_if n) z ys in omega (arith, two, first, second, a, b)) in (
      inr (refl, rank_before y.level y.table.number z.level z.table.number (h 0 1 y (omega arith) (omega arith)) (range 0 y (omega arith)).1 (range 1 y (omega arith)).1 apart),
      gone_order (z ∷ ys) (λ i j d le lt. h (suc i) (suc j) d (omega (arith, le)) (omega (arith, lt))) (λ k d lt. range (suc k) d (omega (arith, lt)))
          (λ m. let all = sum_by-cons (one_if m) y (z ∷ ys) in let most = once m in omega (arith, all, most)),
    )

new_order : (level : ℕ) (tables : List TableFile) → TableNumbersRise tables → IsInOrder (map (placed_at level) tables)
new_order level [] h = tt
new_order level (t ∷ []) h = tt
new_order level (t ∷ u ∷ tables) h = (inr (refl, inr (refl, h.0.0)), new_order level (u ∷ tables) h.1)

files_order : (level : ℕ) (ys : List PlacedTable) (tables : List TableFile) → IsInOrder (map gone ys) → IsInOrder (map (placed_at level) tables) → IsInOrder (map gone ys ++ map (placed_at level) tables)
files_order level [] tables h k = k
files_order level (y ∷ []) [] h k = tt
files_order level (y ∷ []) (t ∷ tables) h k = (inl (omega arith), k)
files_order level (y ∷ z ∷ ys) tables h k = (h.0, files_order level (z ∷ ys) tables h.1 k)

behind : (level : ℕ) (f : Field) (ys : List PlacedTable) (tables : List TableFile) → field_tag f < 6 → IsInOrder (map gone ys ++ map (placed_at level) tables) → IsInOrder (f ∷ (map gone ys ++ map (placed_at level) tables))
behind level f [] [] lt h = tt
behind level f [] (t ∷ tables) lt h = (inl (omega (arith, lt)), h)
behind level f (y ∷ ys) tables lt h = (inl (omega (arith, lt)), h)

front_order : (level next last : ℕ) (pointer : Option (List ℕ)) (ys : List PlacedTable) (tables : List TableFile) → IsInOrder (map gone ys ++ map (placed_at level) tables)
    → IsInOrder ((NextFileNumber next ∷ LastSequence last ∷ pointer_fields level pointer) ++ (map gone ys ++ map (placed_at level) tables))
front_order level next last None ys tables h = (inl (omega arith), behind level (LastSequence last) ys tables (omega arith) h)
front_order level next last (Some key) ys tables h = (inl (omega arith), (inl (omega arith), behind level (CompactPointer (level - 1) key) ys tables (omega arith) h))

pub in_order : (plan : JobPlan) (tables : List TableFile) (next last : ℕ) (edit : List Field) → IsEditOf plan.output_level plan.inputs.items plan.compact_pointer tables next last edit
    → IsPlanProper plan → TableNumbersRise tables → IsInOrder edit
in_order plan tables next last edit is planned rise =
    let range : All InRange is.sorted = All-permutation InRange plan.inputs.items is.sorted is.inputs_are planned.inputs in
    let once : (n : ℕ) → sum_by (one_if n) is.sorted ≤ 1 = λ n.
    (let same = sum_by-IsPermutation (one_if n) plan.inputs.items is.sorted is.inputs_are in let most = once_count plan.inputs.items planned.once n in omega (arith, same, most)) in
    subst IsInOrder (sym is.fields_are)
    (front_order plan.output_level next last plan.compact_pointer is.sorted tables
    (files_order plan.output_level is.sorted tables (gone_order is.sorted is.ranked range once) (new_order plan.output_level tables rise)))

-- ---- fields in range

gone_proper : (ys : List PlacedTable) → All InRange ys → AllByRecursion IsProper (map gone ys)
gone_proper [] h = tt
gone_proper (y ∷ ys) h = (h 0 y (omega arith), gone_proper ys (λ k d lt. h (suc k) d (omega (arith, lt))))

new_proper : (level : ℕ) (tables : List TableFile) → level < 7 → AllByRecursion IsTableProper tables → AllByRecursion IsProper (map (placed_at level) tables)
new_proper level [] fits h = tt
new_proper level (t ∷ tables) fits h = ((fits, h.0), new_proper level tables fits h.1)

front_proper : (plan : JobPlan) (next last : ℕ) (pointer : Option (List ℕ)) → plan.compact_pointer ≡ pointer → IsPlanProper plan → next < 2 ^ 64 → last < 2 ^ 56 → AllByRecursion IsProper (NextFileNumber next ∷ LastSequence last ∷ pointer_fields plan.output_level pointer)
front_proper plan next last None is planned fits small = (fits, (small, tt))
front_proper plan next last (Some key) is planned fits small =
    let held : (length key < 2 ^ 32) × IsInternal key = subst (λ (o : Option (List ℕ)). MatchOption o (Unit {0}) (λ (k : List ℕ). (length k < 2 ^ 32) × IsInternal k)) is planned.pointer in
    (fits, (small, ((omega (arith, planned.output), held.0, held.1), tt)))

pub proper : (plan : JobPlan) (tables : List TableFile) (next last : ℕ) (edit : List Field) → IsEditOf plan.output_level plan.inputs.items plan.compact_pointer tables next last edit
    → IsPlanProper plan → AllByRecursion IsTableProper tables → next < 2 ^ 64 → last < 2 ^ 56 → All IsProper edit
proper plan tables next last edit is planned said fits small =
    let range : All InRange is.sorted = All-permutation InRange plan.inputs.items is.sorted is.inputs_are planned.inputs in
    let front = NextFileNumber next ∷ LastSequence last ∷ pointer_fields plan.output_level plan.compact_pointer in
    let files = map gone is.sorted ++ map (placed_at plan.output_level) tables in
    let all : AllByRecursion IsProper (front ++ files) =
    all_append IsProper front files (front_proper plan next last plan.compact_pointer refl planned fits small)
    (all_append IsProper (map gone is.sorted) (map (placed_at plan.output_level) tables) (gone_proper is.sorted range) (new_proper plan.output_level tables planned.output said)) in
    all_from IsProper edit (subst (AllByRecursion IsProper) (sym is.fields_are) all)

-- ---- whose tables it puts in

each_own : (w : TablesWritten) (level : ℕ) (tables : List TableFile) → ((n : ℕ) → Any (λ (table : TableFile). table.number ≡ n) tables → IsOwn w n) → AllByRecursion (IsOwnIn w) (map (placed_at level) tables)
each_own w level [] h = tt
each_own w level (t ∷ tables) h = (h t.number (zero, t, omega arith, refl, refl), each_own w level tables (λ n any. h n (suc any.0, any.1, omega (arith, any.2), any.3, any.4)))

gone_own : (w : TablesWritten) (ys : List PlacedTable) → AllByRecursion (IsOwnIn w) (map gone ys)
gone_own w [] = tt
gone_own w (y ∷ ys) = (tt, gone_own w ys)

front_own : (w : TablesWritten) (level next last : ℕ) (pointer : Option (List ℕ)) → AllByRecursion (IsOwnIn w) (NextFileNumber next ∷ LastSequence last ∷ pointer_fields level pointer)
front_own w level next last None = (tt, (tt, tt))
front_own w level next last (Some key) = (tt, (tt, (tt, tt)))

pub own : (w : TablesWritten) (level next last : ℕ) (inputs : List PlacedTable) (pointer : Option (List ℕ)) (tables : List TableFile) (edit : List Field) → IsEditOf level inputs pointer tables next last edit
    → ((n : ℕ) → Any (λ (table : TableFile). table.number ≡ n) tables → IsOwn w n) → AllByRecursion (IsOwnIn w) edit
own w level next last inputs pointer tables edit is h =
    subst (AllByRecursion (IsOwnIn w)) (sym is.fields_are)
    (all_append (IsOwnIn w) (NextFileNumber next ∷ LastSequence last ∷ pointer_fields level pointer) (map gone is.sorted ++ map (placed_at level) tables) (front_own w level next last pointer)
    (all_append (IsOwnIn w) (map gone is.sorted) (map (placed_at level) tables) (gone_own w is.sorted) (each_own w level tables h)))
