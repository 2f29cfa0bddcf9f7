-- What each plan takes of the tables of a directory.
use Rattle.std.proofs.Common.{◌≡◌, inl, inr, ◌+◌, ◌<◌, ◌^◌, ℕ, zero, suc, Bool, true, Option, None, MatchOption, List, [], ◌∷◌, length, refl, sym, ap, ◌∙◌, subst, arith, All, Contains}
use Rattle.std.proofs.lemmas.List.Elements.{All-contains, All-contains_itself}
use Rattle.std.specs.Cmp.{IsTotalOrder}
use Rattle.std.specs.FinMap.{IsAntisymmetric}
use Rattle.std.specs.List.{AllByRecursion}
use Rattle.std.specs.List.Sorted.{IsPermutation}
use Rattle.std.specs.declared.cmp.Ordering.{Ordering}
use Rattle.edits.proofs.Orders.{unused}
use Rattle.edits.specs.Edit.{IsInternal}
use Rattle.edits.specs.Layout.{is_used}
use Rattle.edits.specs.Snapshot.{AreInPlace, IsKept, IsPlacedProper}
use Rattle.edits.specs.declared.field.PlacedTable.{PlacedTable}
use Rattle.ikey.specs.Orders.{Order}
use Rattle.ikey.specs.Views.{Among}
use Rattle.store.specs.Files.{Files}
use Rattle.recover.specs.Tables.{TableContent, InTables, tabled}
use Rattle.recover.specs.Directory.{Directory, IsConsistent}
use Rattle.recover.specs.Replacing.{AreParted, MayReplace}
use Rattle.recover.specs.Logs.{logged}
use Rattle.recover.proofs.Adding.{among_split}
use Rattle.recover.proofs.Closed.{closed}
use Rattle.recover.proofs.Distinct.{distinct}
use Rattle.recover.proofs.Flushing.{kept_by}
use Rattle.recover.proofs.Memberships.{from_tabled, from_chosen, from_rest, among_front, among_chosen, one_of_tables}
use Rattle.compact.specs.Deeper.{is_covered_below}
use Rattle.compact.specs.JobEdits.{IsPlanProper}
use Rattle.compact.specs.Laws.{AreNewerOrDeep}
use Rattle.versions.specs.declared.plan.JobPlan.{JobPlan}
use Rattle.versions.specs.Levels.{ListsSameTables, AreInOrder}
use Rattle.versions.specs.Plans.{IsPlanFromLevel, IsWholePlan, IsPlanOf, MovesPointer}
use Rattle.versions.proofs.Inputs.{inputs, same_number}
use Rattle.versions.proofs.Keys.{true_or_false}
use Rattle.versions.proofs.Pairs.{all_contained}
use Rattle.versions.proofs.Sets.{used_in}
use Rattle.directory_writes.specs.Replacing.{placed_in, IsPlanned}
use Rattle.directory_writes.specs.internal.Planned.{PlannedLaw, PlannedApartLaw}
use Rattle.directory_writes.proofs.JobTables.{InRow, row_of, among_placed, content_at, among_contains, contains_among}
use Rattle.directory_writes.proofs.JobsDeep.{deep}
use Rattle.directory_writes.proofs.JobsPut.{job_apart}
use Rattle.directory_writes.proofs.PlanParts.{chosen_by, left_by, parted_by, is_chosen, choose, once_chosen, once_listed, parts_apart, permuted, distinct_front, distinct_chosen}
use Rattle.directory_writes.proofs.PlansClosed.{closed_plan}

-- ---- a pointer

-- an edit can hold the key
abbrev Fits : List ℕ → Type 0
Fits key = (length key < 2 ^ 32) × IsInternal key

some_pointer : (cmp : List ℕ → List ℕ → Ordering) (level : ℕ) (plan : JobPlan) → MovesPointer cmp level plan → ((p : PlacedTable) → Contains plan.inputs.items p → Fits p.table.largest)
    → MatchOption plan.compact_pointer (Unit {0}) Fits
some_pointer cmp zero plan none fit = subst (λ (p : Option (List ℕ)). MatchOption p (Unit {0}) Fits) (sym none) tt
some_pointer cmp (suc above) plan (key, is, greatest) fit =
    let one = greatest.0 in
    let fits : Fits one.1.table.largest = fit one.1 (one.0, one.2, one.3) in
    let fits_key : Fits key = subst Fits one.4.1 fits in
    subst (λ (p : Option (List ℕ)). MatchOption p (Unit {0}) Fits) (sym is) fits_key

no_pointer : (plan : JobPlan) → plan.compact_pointer ≡ None → MatchOption plan.compact_pointer (Unit {0}) Fits
no_pointer plan none = subst (λ (p : Option (List ℕ)). MatchOption p (Unit {0}) Fits) (sym none) tt

each_at : {X : Type 0} (P : X → Type 0) (xs : List X) (x : X) → AllByRecursion P xs → Among xs x → P x
each_at P [] x h i = absurd i
each_at P (y ∷ xs) x h (inl e) = subst P (sym e) h.0
each_at P (y ∷ xs) x h (inr i) = each_at P xs x h.1 i

-- ---- the tables that a plan takes

module _ (order : Order) (files : Files) (d : Directory) (tables : List PlacedTable) (plan : JobPlan) (o : IsTotalOrder order.cmp) (exact : IsAntisymmetric order.cmp)
    (h : IsConsistent order files d) (lists : ListsSameTables (placed_in d.tables) tables) (in_order : AreInOrder order.cmp tables) (of : IsPlanOf order.cmp tables plan) where
  abbrev chosen : List PlacedTable
  chosen = plan.inputs.items

  abbrev takes : PlacedTable → Bool
  takes p = is_used p.table.number chosen

  abbrev taken : List TableContent
  taken = chosen_by takes d.tables

  abbrev left : List TableContent
  left = left_by takes d.tables

  abbrev deep_keys : List ℕ → Bool
  deep_keys = is_covered_below order.cmp plan.output_level tables

  kept : IsKept d.layout
  kept = kept_by order files d.manifest d.edits d.layout h.manifest

  row : InRow d.tables
  row = row_of d.tables (subst (λ (ts : List PlacedTable). AreInPlace ts) (sym h.placed) kept.in_place)

  ordered : AreInOrder order.cmp chosen
  ordered = inputs order.cmp tables plan o in_order of

  within_by : IsPlanOf order.cmp tables plan → All (Contains tables) chosen
  within_by (inl some) = some.chosen.inputs.within
  within_by (inr all) = subst (λ (ts : List PlacedTable). All (Contains tables) ts) (sym all.inputs) (All-contains_itself tables)

  in_version : (p : PlacedTable) → Contains chosen p → Contains tables p
  in_version p c = All-contains (Contains tables) chosen p (within_by of) c

  in_directory : (p : PlacedTable) → Contains chosen p → Among (placed_in d.tables) p
  in_directory p c = contains_among (placed_in d.tables) p (All-contains (Contains (placed_in d.tables)) tables p lists.only (in_version p c))

  there : (x : TableContent) → InTables d.tables x → Contains tables x.placed
  there x i = All-contains (Contains tables) (placed_in d.tables) x.placed lists.all (among_contains (placed_in d.tables) x.placed (among_placed d.tables x i))

  takes_chosen : (p : PlacedTable) → Contains chosen p → takes p ≡ true
  takes_chosen p c = elim (true_or_false (takes p)) [
    | inl passes ↦ passes
    | inr fails ↦ absurd (each_at (λ (q : PlacedTable). p.table.number ≡ q.table.number → ⊥) chosen p (unused p.table.number chosen fails) (contains_among chosen p c) refl)
  ]

  chosen_taken : (p : PlacedTable) → Contains tables p → takes p ≡ true → Contains chosen p
  chosen_taken p c e =
      let u = used_in p.table.number chosen e in
      subst (Contains chosen) (same_number tables u.0 p in_order.numbers (in_version u.0 u.1) c u.2) u.1

  parted : AreParted d.tables taken left
  parted = parted_by takes d.tables

  planned : IsPermutation chosen (placed_in taken)
  planned = permuted chosen (placed_in taken) (once_listed chosen ordered.numbers) (once_chosen d.tables taken left parted row)
      (λ p i.
      let c = among_contains chosen p i in
      let x = content_at d.tables p (in_directory p c) in
      subst (λ (q : PlacedTable). Among (placed_in taken) q) x.2 (among_placed taken x.0 (choose takes d.tables x.0 x.1 (ap takes x.2 ∙ takes_chosen p c))))
      (λ p i.
      let x = content_at taken p i in
      subst (λ (q : PlacedTable). Among chosen q) x.2
      (contains_among chosen x.0.placed (chosen_taken x.0.placed (there x.0 (from_chosen d.tables taken left x.0 parted x.1)) (is_chosen takes d.tables x.0 x.1))))

  -- ---- its edit

  proper_of : (p : PlacedTable) → Contains chosen p → IsPlacedProper p
  proper_of p c = each_at IsPlacedProper (placed_in d.tables) p (subst (λ (ts : List PlacedTable). AllByRecursion IsPlacedProper ts) (sym h.placed) kept.proper) (in_directory p c)

  pointer_by : IsPlanOf order.cmp tables plan → MatchOption plan.compact_pointer (Unit {0}) Fits
  pointer_by (inr all) = no_pointer plan all.pointer
  pointer_by (inl some) = elim some.moves [
    | inl none ↦ no_pointer plan none
    | inr moves ↦ some_pointer order.cmp some.level plan moves (λ p c. ((proper_of p c).1.4, (proper_of p c).1.6))
  ]

  output_by : IsPlanOf order.cmp tables plan → (0 < plan.output_level) × (plan.output_level < 7)
  output_by (inr all) = (omega (arith, all.output), omega (arith, all.output))
  output_by (inl some) = (omega (arith, some.chosen.output), omega (arith, some.chosen.output, some.within))

  proper : IsPlanProper plan
  proper = record {
    output = (output_by of).1;
    inputs = all_contained (λ (p : PlacedTable). (p.level < 7) × (p.table.number < 2 ^ 64)) chosen (λ p c. ((proper_of p c).0, (proper_of p c).1.1));
    once = once_listed chosen ordered.numbers;
    pointer = pointer_by of;
  }

  -- ---- what it leaves

  abbrev May : Type 0
  May = MayReplace order taken left plan.output_level × AreNewerOrDeep (tabled taken) (tabled left) deep_keys

  level_may : (c : IsPlanFromLevel order.cmp tables plan) → May
  level_may c =
      let shut = closed_plan order files d tables plan taken left o exact h lists in_order c parted planned in
      let may = closed order files d taken left c.level o h parted shut in
      let all = job_apart order files d taken left c.level (is_covered_below order.cmp (c.level + 1) tables) o h parted shut
      (λ stays entry i lt a. let here = from_rest d.tables taken left stays parted i in
      deep order files stays entry (c.level + 1) tables o (one_of_tables order files d.tables stays h.tables here) a lt (there stays here)) in
      subst (λ (level : ℕ). MayReplace order taken left level × AreNewerOrDeep (tabled taken) (tabled left) (is_covered_below order.cmp level tables)) (sym c.chosen.output)
      (may, λ entry other i j same. all entry other i (among_front (tabled left) (logged d.logs) other j) same)

  none_left : IsWholePlan tables plan → (x : TableContent) → InTables left x → ⊥
  none_left all x i =
      let here = from_rest d.tables taken left x parted i in
      let c : Contains chosen x.placed = subst (λ (ts : List PlacedTable). Contains ts x.placed) (sym all.inputs) (there x here) in
      parts_apart d.tables taken left x x parted row (choose takes d.tables x here (takes_chosen x.placed c)) i refl

  may_by : IsPlanOf order.cmp tables plan → May
  may_by (inl some) = level_may some
  may_by (inr all) = (
    record {
      newer = λ stays input i j lt. absurd (none_left all stays i);
      older = λ stays input i j lt. absurd (none_left all stays i);
      beside = λ stays i at. absurd (none_left all stays i);
    },
    λ entry other i j same. absurd (none_left all (from_tabled left other j).0 (from_tabled left other j).1),
  )

  made : IsPlanned order deep_keys plan d.tables taken left
  made = record {
    parted = parted;
    planned = planned;
    positive = (output_by of).0;
    replaceable = (may_by of).0;
    apart = (may_by of).1;
    distinct = distinct_chosen d.tables taken left parted (distinct_front (tabled d.tables) (logged d.logs) (distinct order files d o h));
    proper = proper;
  }

pub planned_by : PlannedLaw
planned_by order files d tables plan o exact h lists in_order of =
    (chosen_by (λ (p : PlacedTable). is_used p.table.number plan.inputs.items) d.tables, left_by (λ (p : PlacedTable). is_used p.table.number plan.inputs.items) d.tables, made order files d tables plan o exact h lists in_order of)

pub planned_apart : PlannedApartLaw
planned_apart order files known plan d inputs rest h p entry other i j same = elim (among_split (tabled rest) (logged d.logs) other j) [
  | inl k ↦ p.apart entry other i k same
  | inr k ↦ inl (h.newer other entry k (among_chosen d.tables inputs rest entry p.parted i) same)
]
