-- That the tables of a layout whose ranges were tested are those of a version.
use Rattle.std.proofs.Common.{◌≡◌, ◌≢◌, ◌⊎◌, inl, inr, ◌<◌, ℕ, zero, suc, List, [], ◌∷◌, ap, ◌∙◌, sym, arith, All, AllPairs}
use Rattle.std.proofs.lemmas.Bool.{cases_lt}
use Rattle.std.specs.List.{AllByRecursion}
use Rattle.std.specs.Cmp.{IsTotalOrder, tied_itself, nat_cmp_is}
use Rattle.std.specs.Ordering.{nat_cmp, ordering_then}
use Rattle.std.specs.declared.cmp.Ordering.{Ordering}
use Rattle.std.specs.declared.cmp.Ordering.TheVariants.{Less}
use Rattle.ikey.specs.Below.{IsBelowInternal}
use Rattle.ikey.specs.Keys.{Key, key_cmp, tag, tag_of}
use Rattle.ikey.specs.Orders.{Order}
use Rattle.ikey.specs.declared.internal_key.Kind.{Kind}
use Rattle.ikey.specs.declared.internal_key.Kind.TheVariants.{Delete, Put}
use Rattle.edits.specs.Snapshot.{IsKept, IsPlacedProper, IsFollowedBy, AreInPlace}
use Rattle.edits.specs.declared.field.PlacedTable.{PlacedTable}
use Rattle.edits.specs.declared.layout.Layout.{Layout}
use Rattle.recover.specs.Ranges.{IsKeyBefore, HasRange, RangesDoNotOverlap, HaveRanges}
use Rattle.recover.specs.Ranges as ranges
use Rattle.versions.specs.Levels.{IsRange, IsFirstAt, StandsBefore, AreTablesApart}

-- ---- keys

newer_tag : (m n : ℕ) (k l : Kind) → n < m → tag n l < tag m k
newer_tag m n Delete Delete h = omega (arith, h)
newer_tag m n Delete Put h = omega (arith, h)
newer_tag m n Put Delete h = omega (arith, h)
newer_tag m n Put Put h = omega (arith, h)

key_less : (order : Order) (k l : Key) → IsTotalOrder order.cmp → IsKeyBefore order k l → key_cmp order.cmp k l ≡ Less
key_less order k l total (inl less) = ap (λ (x : Ordering). ordering_then x (nat_cmp (tag_of l) (tag_of k))) less
key_less order k l total (inr newer) =
    ap (λ (x : Ordering). ordering_then x (nat_cmp (tag_of l) (tag_of k))) (ap (λ (a : List ℕ). order.cmp a l.user) newer.0 ∙ tied_itself total l.user)
    ∙ sym (nat_cmp_is (tag_of l) (tag_of k) Less (newer_tag k.sequence l.sequence k.kind l.kind newer.1))

below_of : (order : Order) (a b : List ℕ) → IsTotalOrder order.cmp → ranges.IsBeforeInternal order a b → IsBelowInternal order.cmp a b
below_of order a b total h = (h.0, h.1, h.2, h.3, key_less order h.0 h.1 total h.4)

-- ---- lists

all_at : {X : Type 0} (P : X → Type 0) (xs : List X) → AllByRecursion P xs → All P xs
all_at P [] h k d lt = absurd (omega (arith, lt))
all_at P (x ∷ xs) h zero d lt = h.0
all_at P (x ∷ xs) h (suc k) d lt = all_at P xs h.1 k d (omega (arith, lt))

abbrev ForTwo : {X : Type 0} → (X → X → Type 0) → List X → Type 0
ForTwo R [] = Unit {0}
ForTwo R (x ∷ xs) = AllByRecursion (R x) xs × ForTwo R xs

two_at : {X : Type 0} (R : X → X → Type 0) (xs : List X) → ForTwo R xs → AllPairs R xs
two_at R [] h i j d lt le = absurd (omega (arith, le))
two_at R (x ∷ xs) h zero zero d lt le = absurd (omega (arith, lt))
two_at R (x ∷ xs) h zero (suc j) d lt le = all_at (R x) xs h.0 j d (omega (arith, le))
two_at R (x ∷ xs) h (suc i) zero d lt le = absurd (omega (arith, lt))
two_at R (x ∷ xs) h (suc i) (suc j) d lt le = two_at R xs h.1 i j d (omega (arith, lt)) (omega (arith, le))

-- ---- tables

module _ (order : Order) (total : IsTotalOrder order.cmp) where
  levels_of : (tables : List PlacedTable) → AllByRecursion IsPlacedProper tables → AllByRecursion (λ (placed : PlacedTable). placed.level < 7) tables
  levels_of [] h = tt
  levels_of (placed ∷ tables) h = (h.0.0, levels_of tables h.1)

  range_of : (placed : PlacedTable) → HasRange order placed.table → IsRange order.cmp placed
  range_of placed (inl one) = inl one.2
  range_of placed (inr h) = inr (below_of order placed.table.smallest placed.table.largest total h)

  ranges_of : (tables : List PlacedTable) → HaveRanges order tables → AllByRecursion (IsRange order.cmp) tables
  ranges_of [] h = tt
  ranges_of (placed ∷ tables) h = (range_of placed h.0, ranges_of tables h.2)

  first_at : (level : ℕ) (a b : PlacedTable) → 0 < level → IsBelowInternal order.cmp a.table.largest b.table.smallest → IsFirstAt order.cmp level a b
  first_at zero a b some h = absurd (omega (arith, some))
  first_at (suc level) a b some h = h

  number_at : (level : ℕ) (a b : PlacedTable) → level ≡ 0 → a.table.number < b.table.number → IsFirstAt order.cmp level a b
  number_at zero a b none h = h
  number_at (suc level) a b none h = absurd (omega (arith, none))

  place_of : (a b : PlacedTable) → IsFollowedBy a b → RangesDoNotOverlap order a b → StandsBefore order.cmp a b ⊎ StandsBefore order.cmp b a
  place_of a b (inl above, other) apart = inl (inl above)
  place_of a b (inr same, other) apart = elim (cases_lt 0 a.level) [
    | inl deep ↦ elim (apart same.0 deep) [
      | inl before ↦ inl (inr (same.0, first_at a.level a b deep (below_of order a.table.largest b.table.smallest total before)))
      | inr behind ↦ inr (inr (sym same.0, first_at b.level b a (omega (arith, deep, same.0)) (below_of order b.table.largest a.table.smallest total behind)))
    ]
    | inr top ↦ inl (inr (same.0, number_at a.level a b (omega (arith, top)) same.1))
  ]

  place_all : (a : PlacedTable) (tables : List PlacedTable) → AllByRecursion (IsFollowedBy a) tables → AllByRecursion (RangesDoNotOverlap order a) tables
      → AllByRecursion (λ (b : PlacedTable). StandsBefore order.cmp a b ⊎ StandsBefore order.cmp b a) tables
  place_all a [] h g = tt
  place_all a (b ∷ tables) h g = (place_of a b h.0 g.0, place_all a tables h.1 g.1)

  places_of : (tables : List PlacedTable) → AreInPlace tables → HaveRanges order tables → ForTwo (λ (a b : PlacedTable). StandsBefore order.cmp a b ⊎ StandsBefore order.cmp b a) tables
  places_of [] h g = tt
  places_of (a ∷ tables) h g = (place_all a tables h.0 g.1, places_of tables h.1 g.2)

  other_all : (a : PlacedTable) (tables : List PlacedTable) → AllByRecursion (IsFollowedBy a) tables → AllByRecursion (λ (b : PlacedTable). a.table.number ≢ b.table.number) tables
  other_all a [] h = tt
  other_all a (b ∷ tables) h = (h.0.1, other_all a tables h.1)

  others_of : (tables : List PlacedTable) → AreInPlace tables → ForTwo (λ (a b : PlacedTable). a.table.number ≢ b.table.number) tables
  others_of [] h = tt
  others_of (a ∷ tables) h = (other_all a tables h.0, others_of tables h.1)

  pub version_apart : (layout : Layout) → IsKept layout → HaveRanges order layout.tables.items → AreTablesApart order.cmp layout.tables.items
  version_apart layout kept h =
      let tables = layout.tables.items in
      record {
        levels = all_at (λ (placed : PlacedTable). placed.level < 7) tables (levels_of tables kept.proper);
        ranges = all_at (IsRange order.cmp) tables (ranges_of tables h);
        numbers = two_at (λ (a b : PlacedTable). a.table.number ≢ b.table.number) tables (others_of tables kept.in_place);
        places = two_at (λ (a b : PlacedTable). StandsBefore order.cmp a b ⊎ StandsBefore order.cmp b a) tables (places_of tables kept.in_place h);
      }
