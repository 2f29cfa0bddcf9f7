-- The inputs of a plan for a level bring no further table along.
use Rattle.std.proofs.Common.{◌≡◌, ◌⊎◌, ◌==◌, ◌||◌, inl, inr, ◌+◌, ◌<◌, ℕ, zero, suc, Bool, true, false, List, get_or, refl, sym, ap, ◌∙◌, subst, arith, filter, All, AllPairs, Any, Contains}
use Rattle.std.proofs.lemmas.Bool.{cases_lt, or_cases, eq-eqb, eqb-true, false≢true}
use Rattle.std.proofs.lemmas.List.{get_or_default}
use Rattle.std.proofs.lemmas.List.Elements.{All-contains}
use Rattle.std.proofs.lemmas.List.Folds.{Any-from_list_any, list_any-from_Any}
use Rattle.std.specs.Cmp.{IsTotalOrder}
use Rattle.std.specs.FinMap.{IsAntisymmetric}
use Rattle.std.specs.List.{list_any}
use Rattle.std.specs.List.Sorted.{IsPermutation}
use Rattle.std.specs.Ordering.{is_le, ordering_reverse}
use Rattle.std.specs.declared.cmp.Ordering.{Ordering}
use Rattle.std.specs.declared.cmp.Ordering.TheVariants.{Less, Equal, Greater}
use Rattle.std.proofs.lemmas.List.Sorted.{IsPermutation-sym}
use Rattle.edits.specs.declared.field.PlacedTable.{PlacedTable}
use Rattle.edits.specs.Snapshot.{AreInPlace}
use Rattle.ikey.specs.Entries.{internal_key_of}
use Rattle.ikey.specs.Keys.{IsKey}
use Rattle.ikey.specs.Orders.{Order}
use Rattle.store.specs.Files.{Files}
use Rattle.recover.specs.Tables.{TableContent, HasTable, InTables}
use Rattle.recover.specs.Directory.{Directory, IsConsistent}
use Rattle.recover.specs.Replacing.{AreParted}
use Rattle.recover.specs.internal.Changes.{HasLowerKeys}
use Rattle.recover.proofs.Flushing.{kept_by}
use Rattle.recover.proofs.Memberships.{from_chosen, from_rest, one_of_tables}
use Rattle.recover.proofs.TableFacts.{key_is, fits_of}
use Rattle.versions.specs.declared.plan.JobPlan.{JobPlan}
use Rattle.versions.specs.Levels.{ListsSameTables, AreInOrder, StandsBefore, IsFirstAt, tables_at}
use Rattle.versions.specs.Plans.{IsPlanFromLevel, IsBrought, IsLeastClosed}
use Rattle.versions.specs.Plans as plans
use Rattle.versions.specs.Ranges.{first_user, last_user, is_up_to, SharesBoundary}
use Rattle.ikey.specs.Below.{IsBelowInternal}
use Rattle.versions.proofs.Closures.{of_level}
use Rattle.versions.proofs.Keys.{true_or_false, up_both, user_of_key, below_up}
use Rattle.versions.proofs.Pairs.{filtered, unfiltered, all_contained}
use Rattle.directory_writes.specs.Replacing.{placed_in}
use Rattle.directory_writes.specs.internal.Planned.{ClosedPlanLaw}
use Rattle.directory_writes.proofs.JobTables.{InRow, row_of, among_placed, content_at, among_contains, contains_among, same_among}
use Rattle.directory_writes.proofs.PlanParts.{parts_apart}

-- ---- what a closed set of tables has

-- a test of one of the tables fails for each, or passes for some
some_or_all : (test : PlacedTable → Bool) (tables : List PlacedTable) → Any (λ p. test p ≡ true) tables ⊎ ((p : PlacedTable) → Contains tables p → test p ≡ false)
some_or_all test tables = elim (true_or_false (list_any test tables)) [
  | inl some ↦ inl (Any-from_list_any test tables some)
  | inr none ↦ inr (λ p c. elim (true_or_false (test p)) [
    | inl passes ↦ absurd (false≢true (sym none ∙ list_any-from_Any test tables (c.0, p, c.1, c.2, passes)))
    | inr fails ↦ fails
  ])
]

is_greater : (o : Ordering) → is_le o ≡ false → o ≡ Greater
is_greater Less e = let t : true ≡ false = e in absurd cc
is_greater Equal e = let t : true ≡ false = e in absurd cc
is_greater Greater e = refl

turned : (order : Order) → IsTotalOrder order.cmp → (a b : List ℕ) → is_up_to order.cmp a b ≡ false → order.cmp b a ≡ Less
turned order o a b e = o.antisymm b a ∙ ap ordering_reverse (is_greater (order.cmp a b) e)

-- where one table doesn't begin before the other ends, all its keys are above
pub lower_of : (order : Order) (files : Files) (a b : TableContent) → IsTotalOrder order.cmp → HasTable order files a → HasTable order files b
    → is_up_to order.cmp (first_user b.placed) (last_user a.placed) ≡ false → HasLowerKeys order a.placed b.placed
lower_of order files a b o h g e =
    let last = h.largest.0 in
    let first = g.smallest.0 in
    let k = internal_key_of last in
    let l = internal_key_of first in
    let is_last : IsKey a.placed.table.largest k = subst (λ (bytes : List ℕ). IsKey bytes k) h.largest.2 (key_is last (fits_of order h.bytes a.entries last h.spelled h.largest.1)) in
    let is_first : IsKey b.placed.table.smallest l = subst (λ (bytes : List ℕ). IsKey bytes l) g.smallest.2 (key_is first (fits_of order g.bytes b.entries first g.spelled g.smallest.1)) in
    let x : first_user b.placed ≡ l.user = user_of_key b.placed.table.smallest l is_first in
    let y : last_user a.placed ≡ k.user = user_of_key a.placed.table.largest k is_last in
    let f : is_up_to order.cmp l.user k.user ≡ false = (λ i. is_up_to order.cmp (sym x i) (sym y i)) ∙ e in
    (k, l, is_last, is_first, turned order o l.user k.user f)

-- ---- the levels of the inputs

abbrev is_near : ℕ → PlacedTable → Bool
is_near level p = p.level == level || p.level == level + 1

left_or : (a b : Bool) → a ≡ true → (a || b) ≡ true
left_or a b e = ap (λ (x : Bool). x || b) e

right_or : (a b : Bool) → b ≡ true → (a || b) ≡ true
right_or true b e = refl
right_or false b e = e

module _ (cmp : List ℕ → List ℕ → Ordering) (level : ℕ) (tables start chosen : List PlacedTable) (least : IsLeastClosed cmp level tables start chosen) (own : All (Contains (tables_at level tables)) start) where
  near_start : All (Contains (filter (is_near level) tables)) start
  near_start = all_contained (Contains (filter (is_near level) tables)) start (λ p c.
      let at = unfiltered (λ (t : PlacedTable). t.level == level) p tables (All-contains (Contains (tables_at level tables)) start p own c) in
      filtered (is_near level) p tables at.0 (left_or (p.level == level) (p.level == level + 1) at.1))

  near_closed : plans.IsClosed cmp level tables (filter (is_near level) tables)
  near_closed p c brought = elim brought [
    | inl same ↦ filtered (is_near level) p tables c (left_or (p.level == level) (p.level == level + 1) (eq-eqb p.level level same.0))
    | inr met ↦ filtered (is_near level) p tables c (right_or (p.level == level) (p.level == level + 1) (eq-eqb p.level (level + 1) met.0))
  ]

  pub near : (p : PlacedTable) → Contains chosen p → (p.level ≡ level) ⊎ (p.level ≡ level + 1)
  near p c =
      let all = least.least (filter (is_near level) tables) near_start near_closed in
      let at = unfiltered (is_near level) p tables (All-contains (Contains (filter (is_near level) tables)) chosen p all c) in
      elim (or_cases (p.level == level) (p.level == level + 1) at.1) [
        | inl e ↦ inl (eqb-true p.level level e)
        | inr e ↦ inr (eqb-true p.level (level + 1) e)
      ]

-- ---- two tables of a version

-- of two tables one comes first, or they are the same
one_first : (cmp : List ℕ → List ℕ → Ordering) (tables : List PlacedTable) (a b : PlacedTable) → AllPairs (StandsBefore cmp) tables → Contains tables a → Contains tables b
    → (a ≡ b) ⊎ (StandsBefore cmp a b ⊎ StandsBefore cmp b a)
one_first cmp tables a b places (k, lt, e) (m, less, f) =
    let f' : get_or tables m a ≡ b = get_or_default tables m a b less ∙ f in
    elim (cases_lt k m) [
      | inl before ↦ inr (inl (subst (λ (p : PlacedTable). StandsBefore cmp p b) e (subst (λ (p : PlacedTable). StandsBefore cmp (get_or tables k a) p) f' (places k m a before less))))
      | inr rest ↦ elim (cases_lt m k) [
        | inl behind ↦ inr (inr (subst (λ (p : PlacedTable). StandsBefore cmp b p) e (subst (λ (p : PlacedTable). StandsBefore cmp p (get_or tables k a)) f' (places m k a behind lt))))
        | inr last ↦ let at : k ≡ m = omega (arith, rest, last) in inl (sym e ∙ ap (λ (n : ℕ). get_or tables n a) at ∙ f')
      ]
    ]

below_first : (cmp : List ℕ → List ℕ → Ordering) (level : ℕ) (a b : PlacedTable) → 0 < level → a.level ≡ level → b.level ≡ level → StandsBefore cmp a b → IsBelowInternal cmp a.table.largest b.table.smallest
below_first cmp zero a b some x y h = absurd (omega (arith, some))
below_first cmp (suc n) a b some x y (inl lt) = absurd (omega (arith, x, y, lt))
below_first cmp (suc n) a b some x y (inr h) = subst (λ (l : ℕ). IsFirstAt cmp l a b) x h.1

-- ---- closed inputs

module _ (order : Order) (files : Files) (d : Directory) (o : IsTotalOrder order.cmp) (exact : IsAntisymmetric order.cmp) (h : IsConsistent order files d)
    (tables : List PlacedTable) (lists : ListsSameTables (placed_in d.tables) tables) (in_order : AreInOrder order.cmp tables) (plan : JobPlan) (c : IsPlanFromLevel order.cmp tables plan)
    (inputs rest : List TableContent) (parted : AreParted d.tables inputs rest) (planned : IsPermutation plan.inputs.items (placed_in inputs)) where
  abbrev chosen : List PlacedTable
  chosen = plan.inputs.items

  row : InRow d.tables
  row = row_of d.tables (subst (λ (ts : List PlacedTable). AreInPlace ts) (sym h.placed) (kept_by order files d.manifest d.edits d.layout h.manifest).in_place)

  has_input : (x : TableContent) → InTables inputs x → HasTable order files x
  has_input x i = one_of_tables order files d.tables x h.tables (from_chosen d.tables inputs rest x parted i)

  has_rest : (x : TableContent) → InTables rest x → HasTable order files x
  has_rest x i = one_of_tables order files d.tables x h.tables (from_rest d.tables inputs rest x parted i)

  in_version : (x : TableContent) → InTables d.tables x → Contains tables x.placed
  in_version x i = All-contains (Contains tables) (placed_in d.tables) x.placed lists.all (among_contains (placed_in d.tables) x.placed (among_placed d.tables x i))

  picks : (x : TableContent) → InTables inputs x → Contains chosen x.placed
  picks x i = among_contains chosen x.placed (same_among (placed_in inputs) chosen x.placed (IsPermutation-sym chosen (placed_in inputs) planned) (among_placed inputs x i))

  leaves : (x : TableContent) → InTables rest x → Contains chosen x.placed → ⊥
  leaves x i there =
      let a = content_at inputs x.placed (same_among chosen (placed_in inputs) x.placed planned (contains_among chosen x.placed there)) in
      parts_apart d.tables inputs rest a.0 x parted row a.1 i (ap (λ (p : PlacedTable). p.table.number) a.2)

  stays_in : (x : TableContent) → InTables rest x → Contains tables x.placed
  stays_in x i = in_version x (from_rest d.tables inputs rest x parted i)

  input_in : (x : TableContent) → InTables inputs x → Contains tables x.placed
  input_in x i = in_version x (from_chosen d.tables inputs rest x parted i)

  -- what the inputs bring along is one of them
  not_brought : (x : TableContent) → InTables rest x → IsBrought order.cmp c.level chosen x.placed → ⊥
  not_brought x i brought = leaves x i (c.chosen.inputs.closed x.placed (stays_in x i) brought)

  whole : (x : TableContent) → InTables rest x → x.placed.level ≡ c.level → 0 < c.level
  whole x i at = elim (cases_lt 0 c.level) [
    | inl some ↦ some
    | inr none ↦
        let top : c.level ≡ 0 = omega (arith, none) in
        let mine = of_level 0 tables x.placed (stays_in x i) (at ∙ top) in
        let begun = subst (λ (ts : List PlacedTable). Contains ts x.placed) (sym (c.whole top)) mine in
        absurd (leaves x i (All-contains (Contains chosen) c.start x.placed c.chosen.inputs.begins begun))
  ]

  -- the first ends before the other begins, since they share no user key
  wholly_lower : (a b : TableContent) → HasTable order files a → HasTable order files b → 0 < c.level → a.placed.level ≡ c.level → b.placed.level ≡ c.level
      → StandsBefore order.cmp a.placed b.placed → (last_user a.placed ≡ first_user b.placed → ⊥) → HasLowerKeys order a.placed b.placed
  wholly_lower a b has there some x y before shared =
      let up = below_up order.cmp a.placed.table.largest b.placed.table.smallest (below_first order.cmp c.level a.placed b.placed some x y before) in
      lower_of order files a b o has there (elim (true_or_false (is_up_to order.cmp (first_user b.placed) (last_user a.placed))) [
        | inl back ↦ absurd (shared (up_both order.cmp o exact (last_user a.placed) (first_user b.placed) up back))
        | inr fails ↦ fails
      ])

  shares : (x input : TableContent) → InTables rest x → InTables inputs input → x.placed.level ≡ c.level → input.placed.level ≡ c.level → SharesBoundary input.placed x.placed → ⊥
  shares x input i j at there boundary =
      let p = picks input j in
      not_brought x i (inl (at, (p.0, input.placed, p.1, p.2, (there, boundary))))

  same : (x input : TableContent) → InTables rest x → InTables inputs input → x.placed.level ≡ c.level → input.placed.level ≡ c.level → HasLowerKeys order x.placed input.placed ⊎ HasLowerKeys order input.placed x.placed
  same x input i j at there =
      let some = whole x i at in
      elim (one_first order.cmp tables x.placed input.placed in_order.places (stays_in x i) (input_in input j)) [
        | inl one ↦ absurd (leaves x i (subst (Contains chosen) (sym one) (picks input j)))
        | inr first ↦ elim first [
          | inl before ↦ inl (wholly_lower x input (has_rest x i) (has_input input j) some at there before (λ e. shares x input i j at there (inl (inr (sym e)))))
          | inr behind ↦ inr (wholly_lower input x (has_input input j) (has_rest x i) some there at behind (λ e. shares x input i j at there (inr (inl e))))
        ]
      ]

  next : (x : TableContent) → InTables rest x → x.placed.level ≡ c.level + 1
      → ((input : TableContent) → InTables inputs input → HasLowerKeys order x.placed input.placed) ⊎ ((input : TableContent) → InTables inputs input → HasLowerKeys order input.placed x.placed)
  next x i at =
      elim (some_or_all (λ (p : PlacedTable). is_up_to order.cmp (first_user p) (last_user x.placed)) chosen) [
        | inl begins ↦ elim (some_or_all (λ (p : PlacedTable). is_up_to order.cmp (first_user x.placed) (last_user p)) chosen) [
          | inl ends ↦ absurd (not_brought x i (inr (at, (begins, ends))))
          | inr none ↦ inr (λ input j. lower_of order files input x o (has_input input j) (has_rest x i) (none input.placed (picks input j)))
        ]
        | inr none ↦ inl (λ input j. lower_of order files x input o (has_rest x i) (has_input input j) (none input.placed (picks input j)))
      ]

pub closed_plan : ClosedPlanLaw
closed_plan order files d tables plan inputs rest o exact h lists in_order c parted planned = record {
  levels = λ input j. near order.cmp c.level tables c.start plan.inputs.items c.chosen.inputs c.own input.placed (picks order files d o exact h tables lists in_order plan c inputs rest parted planned input j);
  whole = whole order files d o exact h tables lists in_order plan c inputs rest parted planned;
  same = same order files d o exact h tables lists in_order plan c inputs rest parted planned;
  next = next order files d o exact h tables lists in_order plan c inputs rest parted planned;
}
