-- The tables of a consistent directory, as a version has them.
use Rattle.std.proofs.Common.{◌≡◌, ◌≢◌, ◌⊎◌, inl, inr, ◌==◌, ◌<◌, ℕ, zero, suc, Bool, true, false, cond, List, [], ◌∷◌, ◌++◌, map, reverse, refl, sym, ap, ◌∙◌, subst, append_assoc, arith, get_or, All, Contains}
use Rattle.std.proofs.lemmas.Bool.{cases_lt, eq-eqb, eqb-true}
use Rattle.std.proofs.lemmas.Grind.{reverse_onto}
use Rattle.std.proofs.lemmas.List.Elements.{Contains-get_or}
use Rattle.std.proofs.lemmas.List.Sorted.{Contains-permutation, IsPermutation-sym}
use Rattle.std.specs.List.{AllByRecursion}
use Rattle.std.specs.Cmp.{IsTotalOrder}
use Rattle.std.specs.FinMap.{IsAntisymmetric}
use Rattle.ikey.specs.declared.entry.Entry.{Entry}
use Rattle.ikey.specs.Below.{IsBelowInternal}
use Rattle.ikey.specs.Orders.{Order}
use Rattle.ikey.specs.Sources.{IsNewerThan, SameEntries, joined, AreSearchedByTwo, ComesAllBefore, AreInRow}
use Rattle.ikey.specs.Views.{Among}
use Rattle.ikey.proofs.SearchedSources as sources
use Rattle.store.specs.Files.{Files}
use Rattle.edits.specs.Snapshot.{AreInPlace}
use Rattle.edits.specs.declared.field.PlacedTable.{PlacedTable}
use Rattle.recover.specs.Directory.{Directory, IsConsistent}
use Rattle.recover.specs.Tables.{TableContent, HasTable, InTables, tabled}
use Rattle.recover.proofs.Flushing.{kept_by}
use Rattle.recover.proofs.Keeping.{keep_tables}
use Rattle.recover.proofs.Memberships.{from_chosen, from_tabled, to_tabled, each_table, one_of_tables}
use Rattle.recover.proofs.OneMeaning.{same_table_content}
use Rattle.versions.specs.Levels.{StandsBefore, IsFirstAt, AreInOrder}
use Rattle.version_laws.specs.Places.{contents_at, lists_of, table_sources, HasVersion}
use Rattle.version_laws.specs.Laws.{VersionLaw, PartLaw, KeptLaw}
use Rattle.version_laws.proofs.Orders.{placed_of, ForTwo, all_rec, for_two, two_placed, newer_levels, newer_numbers, apart_in, wholly_before}

abbrev source_of : List TableContent → ℕ → List Entry
source_of contents level = joined (lists_of (contents_at level contents))

-- ---- members

find_placed : (contents : List TableContent) (p : PlacedTable) → Contains (placed_of contents) p → (c : TableContent) × InTables contents c × (c.placed ≡ p)
find_placed [] p (k, lt, e) = absurd (omega (arith, lt))
find_placed (c ∷ contents) p (zero, lt, e) = (c, inl refl, e)
find_placed (c ∷ contents) p (suc k, lt, e) = let rest = find_placed contents p (k, omega (arith, lt), e) in (rest.0, inr rest.1, rest.2)

has_placed : (contents : List TableContent) (c : TableContent) → InTables contents c → Contains (placed_of contents) c.placed
has_placed [] c i = absurd i
has_placed (x ∷ contents) c (inl e) = (0, omega arith, ap (λ (t : TableContent). t.placed) (sym e))
has_placed (x ∷ contents) c (inr i) = let rest = has_placed contents c i in (suc rest.0, omega (arith, rest.1), rest.2)

-- the contents of these tables, one for each
gather : (some : List TableContent) (ps : List PlacedTable) → AllByRecursion (Contains (placed_of some)) ps → (contents : List TableContent) × (placed_of contents ≡ ps) × ((c : TableContent) → InTables contents c → InTables some c)
gather some [] g = ([], refl, λ c i. absurd i)
gather some (p ∷ ps) g =
    let one = find_placed some p g.0 in
    let rest = gather some ps g.1 in
    (one.0 ∷ rest.0, (λ i. one.2 i ∷ rest.1 i), λ c i. elim i [ inl e ↦ subst (λ (t : TableContent). InTables some t) (sym e) one.1 | inr j ↦ rest.2 c j ])

-- an entry of a level is one of a table of it
find_in : (level : ℕ) (contents : List TableContent) (e : Entry) → Among (source_of contents level) e → (c : TableContent) × InTables contents c × (c.placed.level ≡ level) × Among c.entries e
find_in level [] e i = absurd i
find_in level (c ∷ contents) e i = by (λ j. let rest = find_in level contents e j in (rest.0, inr rest.1, rest.2, rest.3)) (c.placed.level == level) refl i
  where
    by : (Among (source_of contents level) e → (x : TableContent) × InTables (c ∷ contents) x × (x.placed.level ≡ level) × Among x.entries e) → (b : Bool) → (c.placed.level == level) ≡ b
        → Among (joined (lists_of (cond b (c ∷ contents_at level contents) (contents_at level contents)))) e → (x : TableContent) × InTables (c ∷ contents) x × (x.placed.level ≡ level) × Among x.entries e
    by later true is j = elim (sources.among_split c.entries (source_of contents level) e j) [
      | inl k ↦ (c, inl refl, eqb-true c.placed.level level is, k)
      | inr k ↦ later k
    ]
    by later false is j = later j

put_in : (level : ℕ) (contents : List TableContent) (c : TableContent) (e : Entry) → InTables contents c → c.placed.level ≡ level → Among c.entries e → Among (source_of contents level) e
put_in level [] c e i is a = absurd i
put_in level (x ∷ contents) c e i is a = by (λ j. put_in level contents c e j is a) (x.placed.level == level) refl i
  where
    by : (InTables contents c → Among (source_of contents level) e) → (b : Bool) → (x.placed.level == level) ≡ b → InTables (x ∷ contents) c → Among (joined (lists_of (cond b (x ∷ contents_at level contents) (contents_at level contents)))) e
    by later true at (inl same) = sources.among_front x.entries (source_of contents level) e (subst (λ (t : TableContent). Among t.entries e) same a)
    by later true at (inr j) = sources.among_back x.entries (source_of contents level) e (later j)
    by later false at (inl same) = let t : true ≡ false = sym (eq-eqb x.placed.level level (ap (λ (t : TableContent). t.placed.level) (sym same) ∙ is)) ∙ at in absurd cc
    by later false at (inr j) = later j

-- ---- turned lists

turn : (x : List Entry) (xs acc : List (List Entry)) → reverse (x ∷ xs) ++ acc ≡ reverse xs ++ x ∷ acc
turn x xs acc = ap (λ (r : List (List Entry)). r ++ acc) (reverse_onto xs x []) ∙ append_assoc (reverse xs) (x ∷ []) acc

two_turned : (xs acc : List (List Entry)) → ForTwo (λ (a b : List Entry). IsNewerThan b a) xs → AllByRecursion (λ (x : List Entry). AllByRecursion (IsNewerThan x) acc) xs → AreSearchedByTwo acc → AreSearchedByTwo (reverse xs ++ acc)
two_turned [] acc h g k = k
two_turned (x ∷ xs) acc h g k = subst (λ (ls : List (List Entry)). AreSearchedByTwo ls) (sym (turn x xs acc)) (two_turned xs (x ∷ acc) h.1 (both xs h.0 g.1) (g.0, k))
  where
    both : (ys : List (List Entry)) → AllByRecursion (λ (y : List Entry). IsNewerThan y x) ys → AllByRecursion (λ (y : List Entry). AllByRecursion (IsNewerThan y) acc) ys → AllByRecursion (λ (y : List Entry). AllByRecursion (IsNewerThan y) (x ∷ acc)) ys
    both [] p q = tt
    both (y ∷ ys) p q = ((p.0, q.0), both ys p.1 q.1)

from_turned : (xs acc : List (List Entry)) (e : Entry) → Among (joined (reverse xs ++ acc)) e → Among (joined xs) e ⊎ Among (joined acc) e
from_turned [] acc e i = inr i
from_turned (x ∷ xs) acc e i = elim (from_turned xs (x ∷ acc) e (subst (λ (ls : List (List Entry)). Among (joined ls) e) (turn x xs acc) i)) [
  | inl j ↦ inl (sources.among_back x (joined xs) e j)
  | inr j ↦ elim (sources.among_split x (joined acc) e j) [ inl k ↦ inl (sources.among_front x (joined xs) e k) | inr k ↦ inr k ]
]

to_turned : (xs acc : List (List Entry)) (e : Entry) → Among (joined xs) e ⊎ Among (joined acc) e → Among (joined (reverse xs ++ acc)) e
to_turned [] acc e (inl i) = absurd i
to_turned [] acc e (inr i) = i
to_turned (x ∷ xs) acc e (inl i) = subst (λ (ls : List (List Entry)). Among (joined ls) e) (sym (turn x xs acc)) (elim (sources.among_split x (joined xs) e i) [
  | inl j ↦ to_turned xs (x ∷ acc) e (inr (sources.among_front x (joined acc) e j))
  | inr j ↦ to_turned xs (x ∷ acc) e (inl j)
])
to_turned (x ∷ xs) acc e (inr i) = subst (λ (ls : List (List Entry)). Among (joined ls) e) (sym (turn x xs acc)) (to_turned xs (x ∷ acc) e (inr (sources.among_back x (joined acc) e i)))

-- ---- levels

abbrev deep : List TableContent → List (List Entry)
deep contents = map (source_of contents) (1 ∷ 2 ∷ 3 ∷ 4 ∷ 5 ∷ 6 ∷ [])

levels_rise : ForTwo (λ (l m : ℕ). l < m) (1 ∷ 2 ∷ 3 ∷ 4 ∷ 5 ∷ 6 ∷ [])
levels_rise = (
  (omega arith, (omega arith, (omega arith, (omega arith, (omega arith, tt))))),
  ((omega arith, (omega arith, (omega arith, (omega arith, tt)))), ((omega arith, (omega arith, (omega arith, tt))), ((omega arith, (omega arith, tt)), ((omega arith, tt), (tt, tt))))),
)

in_levels : (contents : List TableContent) (levels : List ℕ) (e : Entry) → Among (joined (map (source_of contents) levels)) e → (level : ℕ) × Among (source_of contents level) e
in_levels contents [] e i = absurd i
in_levels contents (l ∷ levels) e i = elim (sources.among_split (source_of contents l) (joined (map (source_of contents) levels)) e i) [
  | inl j ↦ (l, j)
  | inr j ↦ in_levels contents levels e j
]

to_levels : (contents : List TableContent) (levels : List ℕ) (level : ℕ) (e : Entry) → Among levels level → Among (source_of contents level) e → Among (joined (map (source_of contents) levels)) e
to_levels contents [] level e i a = absurd i
to_levels contents (l ∷ levels) level e (inl same) a = sources.among_front (source_of contents l) (joined (map (source_of contents) levels)) e (subst (λ (n : ℕ). Among (source_of contents n) e) same a)
to_levels contents (l ∷ levels) level e (inr i) a = sources.among_back (source_of contents l) (joined (map (source_of contents) levels)) e (to_levels contents levels level e i a)

one_of_six : (level : ℕ) → 0 < level → level < 7 → Among (1 ∷ 2 ∷ 3 ∷ 4 ∷ 5 ∷ 6 ∷ []) level
one_of_six zero h k = absurd (omega (arith, h))
one_of_six (suc zero) h k = inl refl
one_of_six (suc (suc zero)) h k = inr (inl refl)
one_of_six (suc (suc (suc zero))) h k = inr (inr (inl refl))
one_of_six (suc (suc (suc (suc zero)))) h k = inr (inr (inr (inl refl)))
one_of_six (suc (suc (suc (suc (suc zero))))) h k = inr (inr (inr (inr (inl refl))))
one_of_six (suc (suc (suc (suc (suc (suc zero)))))) h k = inr (inr (inr (inr (inr (inl refl)))))
one_of_six (suc (suc (suc (suc (suc (suc (suc n))))))) h k = absurd (omega (arith, k))

-- ---- a version

module _ (order : Order) (files : Files) (d : Directory) (o : IsTotalOrder order.cmp) (exact : IsAntisymmetric order.cmp) (h : IsConsistent order files d) where
  in_place : AreInPlace (placed_of d.tables)
  in_place = subst (λ (ts : List PlacedTable). AreInPlace ts) (sym h.placed) (kept_by order files d.manifest d.edits d.layout h.manifest).in_place

  has : (c : TableContent) → InTables d.tables c → HasTable order files c
  has c i = one_of_tables order files d.tables c h.tables i

  -- ---- rows

  first_below : (level : ℕ) (a b : PlacedTable) → 0 < level → IsFirstAt order.cmp level a b → IsBelowInternal order.cmp a.table.largest b.table.smallest
  first_below zero a b some is = absurd (omega (arith, some))
  first_below (suc n) a b some is = is

  comes_before : (a b : TableContent) (level : ℕ) → InTables d.tables a → InTables d.tables b → 0 < level → a.placed.level ≡ level → b.placed.level ≡ level → StandsBefore order.cmp a.placed b.placed → a.placed.table.number ≢ b.placed.table.number → ComesAllBefore order a.entries b.entries
  comes_before a b level i j some x y (inl lt) other = absurd (omega (arith, x, y, lt))
  comes_before a b level i j some x y (inr k) other =
      wholly_before order files a b o exact (has a i) (has b j) (apart_in order d.tables a b h.apart i j (x ∙ sym y) (omega (arith, some, x)) other)
      (first_below level a.placed b.placed some (subst (λ (n : ℕ). IsFirstAt order.cmp n a.placed b.placed) x k.1))

  front_row : (level : ℕ) (c : TableContent) (contents : List TableContent) → 0 < level → InTables d.tables c → c.placed.level ≡ level → ((x : TableContent) → InTables contents x → InTables d.tables x)
      → AllByRecursion (λ (x : TableContent). StandsBefore order.cmp c.placed x.placed) contents → AllByRecursion (λ (x : TableContent). c.placed.table.number ≢ x.placed.table.number) contents
      → AllByRecursion (ComesAllBefore order c.entries) (lists_of (contents_at level contents))
  front_row level c [] some i is all before other = tt
  front_row level c (x ∷ contents) some i is all before other = by (x.placed.level == level) refl (front_row level c contents some i is (λ y j. all y (inr j)) before.1 other.1)
    where
      by : (b : Bool) → (x.placed.level == level) ≡ b → AllByRecursion (ComesAllBefore order c.entries) (lists_of (contents_at level contents)) → AllByRecursion (ComesAllBefore order c.entries) (lists_of (cond b (x ∷ contents_at level contents) (contents_at level contents)))
      by true at rest = (comes_before c x level i (all x (inl refl)) some is (eqb-true x.placed.level level at) before.0 other.0, rest)
      by false at rest = rest

  rows_of : (level : ℕ) (contents : List TableContent) → 0 < level → ((x : TableContent) → InTables contents x → InTables d.tables x)
      → ForTwo (λ (a b : TableContent). StandsBefore order.cmp a.placed b.placed) contents → ForTwo (λ (a b : TableContent). a.placed.table.number ≢ b.placed.table.number) contents
      → AreInRow order (lists_of (contents_at level contents))
  rows_of level [] some all before other = tt
  rows_of level (c ∷ contents) some all before other = by (c.placed.level == level) refl (rows_of level contents some (λ y j. all y (inr j)) before.1 other.1)
    where
      by : (b : Bool) → (c.placed.level == level) ≡ b → AreInRow order (lists_of (contents_at level contents)) → AreInRow order (lists_of (cond b (c ∷ contents_at level contents) (contents_at level contents)))
      by true at rest = ((has c (all c (inl refl))).sorted, front_row level c contents some (all c (inl refl)) (eqb-true c.placed.level level at) (λ y j. all y (inr j)) before.0 other.0, rest)
      by false at rest = rest

  -- ---- searched

  newest_two : (contents : List TableContent) → ((x : TableContent) → InTables contents x → InTables d.tables x) → ForTwo (λ (a b : TableContent). StandsBefore order.cmp a.placed b.placed) contents
      → ForTwo (λ (a b : List Entry). IsNewerThan b a) (lists_of (contents_at 0 contents))
  newest_two [] all before = tt
  newest_two (c ∷ contents) all before = by (c.placed.level == 0) refl (newest_two contents (λ y j. all y (inr j)) before.1)
    where
      front : (xs : List TableContent) → c.placed.level ≡ 0 → ((x : TableContent) → InTables xs x → InTables d.tables x) → AllByRecursion (λ (x : TableContent). StandsBefore order.cmp c.placed x.placed) xs → AllByRecursion (λ (b : List Entry). IsNewerThan b c.entries) (lists_of (contents_at 0 xs))
      front [] is all' g = tt
      front (x ∷ xs) is all' g = at_x (x.placed.level == 0) refl (front xs is (λ y j. all' y (inr j)) g.1)
        where
          newer : x.placed.level ≡ 0 → StandsBefore order.cmp c.placed x.placed → IsNewerThan x.entries c.entries
          newer zero_x (inl lt) = absurd (omega (arith, lt, zero_x, is))
          newer zero_x (inr k) = newer_numbers order d.tables c x in_place h.apart (all c (inl refl)) (all' x (inl refl)) is zero_x (subst (λ (n : ℕ). IsFirstAt order.cmp n c.placed x.placed) is k.1)

          at_x : (b : Bool) → (x.placed.level == 0) ≡ b → AllByRecursion (λ (b : List Entry). IsNewerThan b c.entries) (lists_of (contents_at 0 xs)) → AllByRecursion (λ (b : List Entry). IsNewerThan b c.entries) (lists_of (cond b (x ∷ contents_at 0 xs) (contents_at 0 xs)))
          at_x true at rest = (newer (eqb-true x.placed.level 0 at) g.0, rest)
          at_x false at rest = rest

      by : (b : Bool) → (c.placed.level == 0) ≡ b → ForTwo (λ (a b : List Entry). IsNewerThan b a) (lists_of (contents_at 0 contents)) → ForTwo (λ (a b : List Entry). IsNewerThan b a) (lists_of (cond b (c ∷ contents_at 0 contents) (contents_at 0 contents)))
      by true at rest = (front contents (eqb-true c.placed.level 0 at) (λ y j. all y (inr j)) before.0, rest)
      by false at rest = rest

  module _ (contents : List TableContent) (all : (x : TableContent) → InTables contents x → InTables d.tables x) where
    newer_source : (c : TableContent) (level : ℕ) → InTables d.tables c → c.placed.level < level → IsNewerThan c.entries (source_of contents level)
    newer_source c level i lt a b p q key =
        let x = find_in level contents b q in
        newer_levels order d.tables c x.0 in_place h.apart i (all x.0 x.1) (omega (arith, lt, x.2)) a b p x.3 key

    newer_sources : (l m : ℕ) → l < m → IsNewerThan (source_of contents l) (source_of contents m)
    newer_sources l m lt a b p q key =
        let x = find_in l contents a p in
        newer_source x.0 m (all x.0 x.1) (omega (arith, lt, x.2)) a b x.3 q key

    above_all : (entries : List Entry) (low : ℕ) → ((m : ℕ) → low < m → IsNewerThan entries (source_of contents m)) → (levels : List ℕ) → AllByRecursion (λ (m : ℕ). low < m) levels → AllByRecursion (IsNewerThan entries) (map (source_of contents) levels)
    above_all entries low newer [] g = tt
    above_all entries low newer (m ∷ levels) g = (newer m g.0, above_all entries low newer levels g.1)

    deep_two : (levels : List ℕ) → ForTwo (λ (l m : ℕ). l < m) levels → AreSearchedByTwo (map (source_of contents) levels)
    deep_two [] g = tt
    deep_two (l ∷ levels) g = (above_all (source_of contents l) l (λ m lt. newer_sources l m lt) levels g.0, deep_two levels g.1)

    newest_above : (own : List TableContent) → ((x : TableContent) → InTables own x → InTables d.tables x) → AllByRecursion (λ (x : List Entry). AllByRecursion (IsNewerThan x) (deep contents)) (lists_of (contents_at 0 own))
    newest_above [] mine = tt
    newest_above (c ∷ own) mine = by (c.placed.level == 0) refl (newest_above own (λ y j. mine y (inr j)))
      where
        by : (b : Bool) → (c.placed.level == 0) ≡ b → AllByRecursion (λ (x : List Entry). AllByRecursion (IsNewerThan x) (deep contents)) (lists_of (contents_at 0 own)) → AllByRecursion (λ (x : List Entry). AllByRecursion (IsNewerThan x) (deep contents)) (lists_of (cond b (c ∷ contents_at 0 own) (contents_at 0 own)))
        by true at rest =
            let is = eqb-true c.placed.level 0 at in
            (above_all c.entries 0 (λ m lt. newer_source c m (mine c (inl refl)) (omega (arith, lt, is))) (1 ∷ 2 ∷ 3 ∷ 4 ∷ 5 ∷ 6 ∷ []) (omega arith, (omega arith, (omega arith, (omega arith, (omega arith, (omega arith, tt)))))), rest)
        by false at rest = rest

all_of : (P : PlacedTable → Type 0) (ps : List PlacedTable) → All P ps → (p : PlacedTable) → Contains ps p → P p
all_of P ps a p (k, lt, e) = subst P e (a k p lt)

place : (contents : List TableContent) (c : TableContent) (e : Entry) → InTables contents c → c.placed.level < 7 → Among c.entries e → Among (joined (lists_of (contents_at 0 contents))) e ⊎ Among (joined (deep contents)) e
place contents c e i few a = elim (cases_lt 0 c.placed.level) [
  | inl some ↦ inr (to_levels contents (1 ∷ 2 ∷ 3 ∷ 4 ∷ 5 ∷ 6 ∷ []) c.placed.level e (one_of_six c.placed.level some few) (put_in c.placed.level contents c e i refl a))
  | inr none ↦ inl (put_in 0 contents c e i (omega (arith, none)) a)
]

-- the places where a version is searched have the entries of its tables, and no others
pub tabled_again : (tables : List PlacedTable) (contents : List TableContent) → placed_of contents ≡ tables → All (λ (p : PlacedTable). p.level < 7) tables → SameEntries (joined (table_sources contents)) (tabled contents)
tabled_again tables contents placed levels e = (
  λ i. elim (from_turned (lists_of (contents_at 0 contents)) (deep contents) e i) [
    | inl j ↦ let x = find_in 0 contents e j in to_tabled contents x.0 e x.1 x.3
    | inr j ↦
        let l = in_levels contents (1 ∷ 2 ∷ 3 ∷ 4 ∷ 5 ∷ 6 ∷ []) e j in
        let x = find_in l.0 contents e l.1 in
        to_tabled contents x.0 e x.1 x.3
  ],
  λ i.
      let x = from_tabled contents e i in
      let few = all_of (λ (p : PlacedTable). p.level < 7) tables levels x.0.placed (subst (λ (ps : List PlacedTable). Contains ps x.0.placed) placed (has_placed contents x.0 x.1)) in
      to_turned (lists_of (contents_at 0 contents)) (deep contents) e (place contents x.0 e x.1 few x.2),
)

-- a version that lists some of the directory's tables
version_of : (order : Order) (files : Files) (d : Directory) (some : List TableContent) (tables : List PlacedTable) → IsTotalOrder order.cmp → IsAntisymmetric order.cmp → IsConsistent order files d
    → ((c : TableContent) → InTables some c → InTables d.tables c) → ((p : PlacedTable) → Contains tables p → Contains (placed_of some) p) → ((p : PlacedTable) → Contains (placed_of some) p → Contains tables p)
    → AreInOrder order.cmp tables → (contents : List TableContent) × HasVersion order files tables contents × SameEntries (joined (table_sources contents)) (tabled some)
version_of order files d some tables o exact h mine only every in_order =
    let members = all_rec (Contains (placed_of some)) tables (λ k p lt. only (get_or tables k p) (Contains-get_or tables k p lt)) in
    let g = gather some tables members in
    let contents = g.0 in
    let known : (c : TableContent) → InTables contents c → InTables d.tables c = λ c i. mine c (g.2 c i) in
    let before = two_placed (λ (a b : PlacedTable). StandsBefore order.cmp a b) contents (subst (λ (ps : List PlacedTable). ForTwo (λ (a b : PlacedTable). StandsBefore order.cmp a b) ps) (sym g.1) (for_two (StandsBefore order.cmp) tables in_order.places)) in
    let other = two_placed (λ (a b : PlacedTable). a.table.number ≢ b.table.number) contents
    (subst (λ (ps : List PlacedTable). ForTwo (λ (a b : PlacedTable). a.table.number ≢ b.table.number) ps) (sym g.1) (for_two (λ (a b : PlacedTable). a.table.number ≢ b.table.number) tables in_order.numbers)) in
    let again = tabled_again tables contents g.1 in_order.levels in (
      contents,
      record {
        placed = g.1;
        are = each_table order files contents (λ c i. has order files d o exact h c (known c i));
        searched = (sources.by_two (table_sources contents)).1
            (two_turned (lists_of (contents_at 0 contents)) (deep contents) (newest_two order files d o exact h contents known before)
            (newest_above order files d o exact h contents known contents known) (deep_two order files d o exact h contents known (1 ∷ 2 ∷ 3 ∷ 4 ∷ 5 ∷ 6 ∷ []) levels_rise));
        rows = λ level deeper. rows_of order files d o exact h level contents deeper known before other;
      },
      λ e. (
        λ i. let x = from_tabled contents e ((again e).0 i) in to_tabled some x.0 e (g.2 x.0 x.1) x.2,
        λ i.
            let t = from_tabled some e i in
            let in_version = every t.0.placed (has_placed some t.0 t.1) in
            let x = find_placed contents t.0.placed (subst (λ (ps : List PlacedTable). Contains ps t.0.placed) (sym g.1) in_version) in
            let same = same_table_content order files x.0 t.0 x.2 (has order files d o exact h x.0 (known x.0 x.1)) (has order files d o exact h t.0 (mine t.0 t.1)) in
            let own : Among x.0.entries e = subst (λ (c : TableContent). Among c.entries e) (sym same) t.2 in
            let few : t.0.placed.level < 7 = all_of (λ (p : PlacedTable). p.level < 7) tables in_order.levels t.0.placed in_version in
            let few' : x.0.placed.level < 7 = subst (λ (p : PlacedTable). p.level < 7) (sym x.2) few in
            to_turned (lists_of (contents_at 0 contents)) (deep contents) e (place contents x.0 e x.1 few' own),
      ),
    )

pub version : VersionLaw
version order files d tables o exact h lists in_order =
    let listed : d.layout.tables.items ≡ placed_of d.tables = sym h.placed in
    version_of order files d d.tables tables o exact h (λ c i. i)
    (all_of (Contains (placed_of d.tables)) tables (subst (λ (ps : List PlacedTable). All (Contains ps) tables) listed lists.only))
    (all_of (Contains tables) (placed_of d.tables) (subst (λ (ps : List PlacedTable). All (Contains tables) ps) listed lists.all)) in_order

pub part : PartLaw
part order files d chosen rest tables o exact h parted same in_order =
    version_of order files d chosen tables o exact h (λ c i. from_chosen d.tables chosen rest c parted i)
    (λ p c. Contains-permutation tables (placed_of chosen) p same c)
    (λ p c. Contains-permutation (placed_of chosen) tables p (IsPermutation-sym tables (placed_of chosen) same) c) in_order

pub kept : KeptLaw
kept order old new tables contents v same = record {
  placed = v.placed;
  are = keep_tables order old new contents same v.are;
  searched = v.searched;
  rows = v.rows;
}
