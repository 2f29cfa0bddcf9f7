-- The tables after a job are such that a version can have.
use Rattle.std.proofs.Common.{◌≡◌, ◌≢◌, ◌⊎◌, ◌<◌, ◌^◌, ℕ, zero, suc, List, [], ◌∷◌, ◌++◌, inl, inr, refl, sym, ap, subst, ◌∙◌, arith}
use Rattle.std.proofs.lemmas.Bool.{cases_lt}
use Rattle.std.specs.List.{AllByRecursion}
use Rattle.std.specs.Cmp.{IsTotalOrder, tied_itself, nat_cmp_is}
use Rattle.std.specs.Ordering.{nat_cmp, ordering_then}
use Rattle.std.specs.declared.cmp.Ordering.{Ordering}
use Rattle.std.specs.declared.cmp.Ordering.TheVariants.{Less}
use Rattle.store.specs.Files.{Files}
use Rattle.ikey.specs.Below.{IsBelowInternal}
use Rattle.ikey.specs.Entries.{internal_key_of}
use Rattle.ikey.specs.Keys.{Key, IsKey, key_cmp, tag, tag_of}
use Rattle.ikey.specs.Orders.{Order}
use Rattle.ikey.specs.Sources.{ComesBefore, AreSorted}
use Rattle.ikey.specs.Views.{Among}
use Rattle.ikey.specs.declared.entry.Entry.{Entry}
use Rattle.ikey.specs.declared.internal_key.Kind.{Kind}
use Rattle.ikey.specs.declared.internal_key.Kind.TheVariants.{Delete, Put}
use Rattle.edits.specs.Snapshot.{IsFollowedBy, AreInPlace}
use Rattle.edits.specs.declared.field.PlacedTable.{PlacedTable}
use Rattle.edits.specs.declared.layout.Layout.{Layout}
use Rattle.versions.specs.Levels.{IsRange, IsFirstAt, StandsBefore}
use Rattle.versions.specs.Levels as levels
use Rattle.recover.specs.Tables.{TableContent, HasTable, InTables, tabled, internal_key, LieApart, AreTwoTables, AreTables}
use Rattle.recover.specs.Directory.{Directory}
use Rattle.recover.specs.internal.Changes.{IsCompaction}
use Rattle.recover.proofs.Memberships.{among_back, from_rest, in_part, to_tabled}
use Rattle.recover.proofs.TableFacts.{key_is, fits_of}
use Rattle.directory_writes.specs.Replacing.{placed_in}
use Rattle.directory_writes.proofs.AfterEdits.{ForTwo, all_at, two_at, distinct}
use Rattle.directory_writes.proofs.JobOutputs.{sorted_back}

-- ---- tables of one level lie apart

turned : (order : Order) (a b : TableContent) → LieApart order a b → LieApart order b a
turned order a b (inl h) = inr (λ e f i j. h f e j i)
turned order a b (inr h) = inl (λ e f i j. h f e j i)

two_of : (order : Order) (ts : List TableContent) (a b : TableContent) → AreTables order ts → InTables ts a → InTables ts b → a.placed.table.number ≢ b.placed.table.number → AreTwoTables order a b ⊎ AreTwoTables order b a
two_of order [] a b h i j apart = absurd i
two_of order (c ∷ ts) a b h (inl e) (inl k) apart = absurd (apart (ap (λ (t : TableContent). t.placed.table.number) (e ∙ sym k)))
two_of order (c ∷ ts) a b h (inl e) (inr j) apart = let P : TableContent → Type 0 = λ t. AreTwoTables order t b in inl (subst P (sym e) (h.0 b j))
two_of order (c ∷ ts) a b h (inr i) (inl k) apart = let P : TableContent → Type 0 = λ t. AreTwoTables order t a in inr (subst P (sym k) (h.0 a i))
two_of order (c ∷ ts) a b h (inr i) (inr j) apart = two_of order ts a b h.1 i j apart

sorted_before : (order : Order) (xs ys : List Entry) (e f : Entry) → AreSorted order (xs ++ ys) → Among xs e → Among ys f → ComesBefore order e f
sorted_before order [] ys e f h i j = absurd i
sorted_before order (x ∷ xs) ys e f h (inl s) j = let P : Entry → Type 0 = λ g. ComesBefore order g f in subst P (sym s) (h.0 f (among_back xs ys f j))
sorted_before order (x ∷ xs) ys e f h (inr i) j = sorted_before order xs ys e f h.1 i j

in_row : (order : Order) (ts : List TableContent) (a b : TableContent) → AreSorted order (tabled ts) → InTables ts a → InTables ts b → a.placed.table.number ≢ b.placed.table.number → LieApart order a b
in_row order [] a b h i j apart = absurd i
in_row order (c ∷ ts) a b h (inl e) (inl k) apart = absurd (apart (ap (λ (t : TableContent). t.placed.table.number) (e ∙ sym k)))
in_row order (c ∷ ts) a b h (inl e) (inr j) apart =
    let P : TableContent → Type 0 = λ t. LieApart order t b in
    subst P (sym e) (inl (λ x y p q. sorted_before order c.entries (tabled ts) x y h p (to_tabled ts b y j q)))
in_row order (c ∷ ts) a b h (inr i) (inl k) apart =
    let P : TableContent → Type 0 = λ t. LieApart order a t in
    subst P (sym k) (inr (λ x y p q. sorted_before order c.entries (tabled ts) y x h q (to_tabled ts a x i p)))
in_row order (c ∷ ts) a b h (inr i) (inr j) apart = in_row order ts a b (sorted_back order c.entries (tabled ts) h) i j apart

module _ (order : Order) (d : Directory) (next : Layout) (inputs rest outputs contents : List TableContent) (level : ℕ) (c : IsCompaction order d next inputs rest outputs contents level) (tables : AreTables order d.tables) where
  beside : (output stays : TableContent) → InTables outputs output → InTables rest stays → stays.placed.level ≡ level → LieApart order output stays
  beside output stays i j same = elim (c.replaceable.beside stays j same) [
    | inl below ↦ inr (λ e f p q. below f e q (c.taken e (to_tabled outputs output e i p)))
    | inr above ↦ inl (λ e f p q. above f e q (c.taken e (to_tabled outputs output e i p)))
  ]

  pub lie_apart : (a b : TableContent) → InTables contents a → InTables contents b → a.placed.table.number ≢ b.placed.table.number → a.placed.level ≡ b.placed.level → 0 < a.placed.level → LieApart order a b
  lie_apart a b i j apart same some = elim (in_part contents outputs rest a c.new_tables i) [
    | inl o ↦ elim (in_part contents outputs rest b c.new_tables j) [
      | inl p ↦ in_row order outputs a b c.sorted o p apart
      | inr p ↦ beside a b o p (sym same ∙ c.levels a o)
    ]
    | inr o ↦ elim (in_part contents outputs rest b c.new_tables j) [
      | inl p ↦ turned order b a (beside b a p o (same ∙ c.levels b p))
      | inr p ↦ elim (two_of order d.tables a b tables (from_rest d.tables inputs rest a c.old_tables o) (from_rest d.tables inputs rest b c.old_tables p) apart) [
        | inl two ↦ two.1 same some
        | inr two ↦ turned order b a (two.1 (sym same) (omega (arith, some, same)))
      ]
    ]
  ]

-- ---- so do the keys of their edits

module _ (order : Order) (total : IsTotalOrder order.cmp) where
  newer_tag : (m n : ℕ) (k l : Kind) → n < m → tag n l < tag m k
  newer_tag m n Delete Delete h = omega (arith, h)
  newer_tag m n Delete Put h = omega (arith, h)
  newer_tag m n Put Delete h = omega (arith, h)
  newer_tag m n Put Put h = omega (arith, h)

  key_less : (k l : Key) → (order.cmp k.user l.user ≡ Less) ⊎ ((k.user ≡ l.user) × (l.sequence < k.sequence)) → key_cmp order.cmp k l ≡ Less
  key_less k l (inl less) = ap (λ (x : Ordering). ordering_then x (nat_cmp (tag_of l) (tag_of k))) less
  key_less k l (inr newer) =
      ap (λ (x : Ordering). ordering_then x (nat_cmp (tag_of l) (tag_of k))) (ap (λ (a : List ℕ). order.cmp a l.user) newer.0 ∙ tied_itself total l.user)
      ∙ sym (nat_cmp_is (tag_of l) (tag_of k) Less (newer_tag k.sequence l.sequence k.kind l.kind newer.1))

  below_entries : (e f : Entry) (a b : List ℕ) → internal_key e ≡ a → internal_key f ≡ b → e.sequence < 2 ^ 56 → f.sequence < 2 ^ 56 → ComesBefore order e f → IsBelowInternal order.cmp a b
  below_entries e f a b p q x y h =
      let P : List ℕ → Type 0 = λ k. IsKey k (internal_key_of e) in
      let Q : List ℕ → Type 0 = λ k. IsKey k (internal_key_of f) in
      (internal_key_of e, internal_key_of f, subst P p (key_is e x), subst Q q (key_is f y), key_less (internal_key_of e) (internal_key_of f) h)

  module _ (files : Files) where
    range_by : (t : TableContent) (h : HasTable order files t) → (h.largest.0 ≡ h.smallest.0) ⊎ ComesBefore order h.smallest.0 h.largest.0 → IsRange order.cmp t.placed
    range_by t h (inl same) = inl (sym h.smallest.2 ∙ ap internal_key (sym same) ∙ h.largest.2)
    range_by t h (inr before) =
        inr (below_entries h.smallest.0 h.largest.0 t.placed.table.smallest t.placed.table.largest h.smallest.2 h.largest.2
        (fits_of order h.bytes t.entries h.smallest.0 h.spelled h.smallest.1) (fits_of order h.bytes t.entries h.largest.0 h.spelled h.largest.1) before)

    ends_before : (a b : TableContent) → HasTable order files a → HasTable order files b → ((e f : Entry) → Among a.entries e → Among b.entries f → ComesBefore order e f) → IsBelowInternal order.cmp a.placed.table.largest b.placed.table.smallest
    ends_before a b h g all =
        below_entries h.largest.0 g.smallest.0 a.placed.table.largest b.placed.table.smallest h.largest.2 g.smallest.2
        (fits_of order h.bytes a.entries h.largest.0 h.spelled h.largest.1) (fits_of order g.bytes b.entries g.smallest.0 g.spelled g.smallest.1)
        (all h.largest.0 g.smallest.0 h.largest.1 g.smallest.1)

    first_at : (level : ℕ) (a b : PlacedTable) → 0 < level → IsBelowInternal order.cmp a.table.largest b.table.smallest → IsFirstAt order.cmp level a b
    first_at zero a b some h = absurd (omega (arith, some))
    first_at (suc level) a b some h = h

    number_at : (level : ℕ) (a b : PlacedTable) → level ≡ 0 → a.table.number < b.table.number → IsFirstAt order.cmp level a b
    number_at zero a b none h = h
    number_at (suc level) a b none h = absurd (omega (arith, none))

    abbrev AreTwo : PlacedTable → PlacedTable → Type 0
    AreTwo a b = StandsBefore order.cmp a b ⊎ StandsBefore order.cmp b a

    module _ (contents : List TableContent) (has : (t : TableContent) → InTables contents t → HasTable order files t)
        (lap : (a b : TableContent) → InTables contents a → InTables contents b → a.placed.table.number ≢ b.placed.table.number → a.placed.level ≡ b.placed.level → 0 < a.placed.level → LieApart order a b) where
      place_two : (a b : TableContent) → InTables contents a → InTables contents b → IsFollowedBy a.placed b.placed → AreTwo a.placed b.placed
      place_two a b i j (inl above, other) = inl (inl above)
      place_two a b i j (inr same, other) = elim (cases_lt 0 a.placed.level) [
        | inl deep ↦ elim (lap a b i j other same.0 deep) [
          | inl all ↦ inl (inr (same.0, first_at a.placed.level a.placed b.placed deep (ends_before a b (has a i) (has b j) all)))
          | inr all ↦ inr (inr (sym same.0, first_at b.placed.level b.placed a.placed (omega (arith, deep, same.0)) (ends_before b a (has b j) (has a i) (λ f e q p. all e f p q))))
        ]
        | inr top ↦ inl (inr (same.0, number_at a.placed.level a.placed b.placed (omega (arith, top)) same.1))
      ]

      place_all : (a : TableContent) (others : List TableContent) → InTables contents a → ((t : TableContent) → InTables others t → InTables contents t) → AllByRecursion (IsFollowedBy a.placed) (placed_in others)
          → AllByRecursion (AreTwo a.placed) (placed_in others)
      place_all a [] i within h = tt
      place_all a (b ∷ others) i within h = (place_two a b i (within b (inl refl)) h.0, place_all a others i (λ t k. within t (inr k)) h.1)

      places_of : (others : List TableContent) → ((t : TableContent) → InTables others t → InTables contents t) → AreInPlace (placed_in others) → ForTwo AreTwo (placed_in others)
      places_of [] within h = tt
      places_of (a ∷ others) within h = (place_all a others (within a (inl refl)) (λ t k. within t (inr k)) h.0, places_of others (λ t k. within t (inr k)) h.1)

      ranges_of : (others : List TableContent) → ((t : TableContent) → InTables others t → InTables contents t) → AllByRecursion (IsRange order.cmp) (placed_in others)
      ranges_of [] within = tt
      ranges_of (a ∷ others) within =
          let h = has a (within a (inl refl)) in
          (range_by a h (h.smallest.3 h.largest.0 h.largest.1), ranges_of others (λ t k. within t (inr k)))

      pub are_apart : AllByRecursion (λ (p : PlacedTable). p.level < 7) (placed_in contents) → AreInPlace (placed_in contents) → levels.AreTablesApart order.cmp (placed_in contents)
      are_apart low in_place = record {
        levels = all_at (λ (p : PlacedTable). p.level < 7) (placed_in contents) low;
        ranges = all_at (IsRange order.cmp) (placed_in contents) (ranges_of contents (λ t i. i));
        numbers = distinct (placed_in contents) in_place;
        places = two_at AreTwo (placed_in contents) (places_of contents (λ t i. i) in_place);
      }
