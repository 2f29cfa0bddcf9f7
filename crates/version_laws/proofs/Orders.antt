-- How the tables of a consistent directory stand to one another.
use Rattle.std.proofs.Common.{◌≡◌, ◌≢◌, ◌⊎◌, inl, inr, ◌^◌, ◌<◌, ◌≤◌, ℕ, suc, List, [], ◌∷◌, length, map, get_or, refl, sym, ap, ◌∙◌, subst, arith, AllPairs}
use Rattle.std.specs.List.{AllByRecursion}
use Rattle.std.specs.Cmp.{IsTotalOrder, tied_itself}
use Rattle.std.specs.FinMap.{IsAntisymmetric}
use Rattle.std.specs.declared.cmp.Ordering.TheVariants.{Less, Equal}
use Rattle.ikey.specs.declared.entry.Entry.{Entry}
use Rattle.ikey.specs.Entries.{internal_key_of, kind_of}
use Rattle.ikey.specs.Keys.{IsKey, key_cmp, tag_of}
use Rattle.ikey.specs.Below.{IsBelowInternal, same_key}
use Rattle.ikey.specs.Orders.{Order}
use Rattle.ikey.specs.Sources.{ComesBefore, ComesAllBefore}
use Rattle.store.specs.Files.{Files}
use Rattle.edits.specs.Snapshot.{AreInPlace, IsFollowedBy}
use Rattle.edits.specs.declared.field.PlacedTable.{PlacedTable}
use Rattle.recover.specs.Tables.{TableContent, HasTable, InTables, internal_key, LieApart, AreNewer, AreTables}
use Rattle.recover.proofs.Closed.{not_above}
use Rattle.recover.proofs.TableFacts.{key_is, fits_of}
use Rattle.version_laws.proofs.Sought.{less_parts, kind_at_most}

abbrev pub placed_of : List TableContent → List PlacedTable
placed_of contents = map (λ (content : TableContent). content.placed) contents

-- ---- each with all after it

abbrev pub ForTwo : {X : Type 0} → (X → X → Type 0) → List X → Type 0
ForTwo R [] = Unit {0}
ForTwo R (x ∷ xs) = AllByRecursion (R x) xs × ForTwo R xs

pub all_rec : {X : Type 0} (P : X → Type 0) (xs : List X) → ((k : ℕ) (d : X) → k < length xs → P (get_or xs k d)) → AllByRecursion P xs
all_rec P [] h = tt
all_rec P (x ∷ xs) h = (h 0 x (omega arith), all_rec P xs (λ k d lt. h (suc k) d (omega (arith, lt))))

pub for_two : {X : Type 0} (R : X → X → Type 0) (xs : List X) → AllPairs R xs → ForTwo R xs
for_two R [] h = tt
for_two R (x ∷ xs) h = (all_rec (R x) xs (λ k d lt. h 0 (suc k) d (omega arith) (omega (arith, lt))), for_two R xs (λ i j d lt le. h (suc i) (suc j) d (omega (arith, lt)) (omega (arith, le))))

all_placed : (P : PlacedTable → Type 0) (contents : List TableContent) → AllByRecursion P (placed_of contents) → AllByRecursion (λ (c : TableContent). P c.placed) contents
all_placed P [] h = tt
all_placed P (c ∷ contents) h = (h.0, all_placed P contents h.1)

pub two_placed : (R : PlacedTable → PlacedTable → Type 0) (contents : List TableContent) → ForTwo R (placed_of contents) → ForTwo (λ (a b : TableContent). R a.placed b.placed) contents
two_placed R [] h = tt
two_placed R (c ∷ contents) h = (all_placed (R c.placed) contents h.0, two_placed R contents h.1)

-- ---- two tables of a consistent directory

pub newer_levels : (order : Order) (contents : List TableContent) (a b : TableContent) → AreInPlace (placed_of contents) → AreTables order contents
    → InTables contents a → InTables contents b → a.placed.level < b.placed.level → AreNewer a b
newer_levels order [] a b p h i j lt = absurd i
newer_levels order (c ∷ contents) a b p h (inl e) (inl f) lt =
    let x : a.placed.level ≡ c.placed.level = ap (λ (t : TableContent). t.placed.level) e in
    let y : b.placed.level ≡ c.placed.level = ap (λ (t : TableContent). t.placed.level) f in
    absurd (omega (arith, x, y, lt))
newer_levels order (c ∷ contents) a b p h (inl e) (inr j) lt =
    let P : TableContent → Type 0 = λ t. t.placed.level < b.placed.level → AreNewer t b in subst P (sym e) (h.0 b j).0 lt
newer_levels order (c ∷ contents) a b p h (inr i) (inl f) lt =
    let le : c.placed.level ≤ a.placed.level = not_above c contents a p.0 i in
    let y : b.placed.level ≡ c.placed.level = ap (λ (t : TableContent). t.placed.level) f in
    absurd (omega (arith, le, y, lt))
newer_levels order (c ∷ contents) a b p h (inr i) (inr j) lt = newer_levels order contents a b p.1 h.1 i j lt

not_lower : (c : TableContent) (contents : List TableContent) (other : TableContent) → AllByRecursion (IsFollowedBy c.placed) (placed_of contents) → InTables contents other → c.placed.level ≡ other.placed.level → c.placed.table.number < other.placed.table.number
not_lower c [] other h i same = absurd i
not_lower c (x ∷ contents) other h (inl e) same =
    let l : other.placed.level ≡ x.placed.level = ap (λ (t : TableContent). t.placed.level) e in
    let n : other.placed.table.number ≡ x.placed.table.number = ap (λ (t : TableContent). t.placed.table.number) e in
    elim h.0.0 [ inl lt ↦ absurd (omega (arith, lt, l, same)) | inr k ↦ omega (arith, k.1, n) ]
not_lower c (x ∷ contents) other h (inr i) same = not_lower c contents other h.1 i same

pub newer_numbers : (order : Order) (contents : List TableContent) (a b : TableContent) → AreInPlace (placed_of contents) → AreTables order contents
    → InTables contents a → InTables contents b → a.placed.level ≡ 0 → b.placed.level ≡ 0 → a.placed.table.number < b.placed.table.number → AreNewer b a
newer_numbers order [] a b p h i j x y lt = absurd i
newer_numbers order (c ∷ contents) a b p h (inl e) (inl f) x y lt =
    let m : a.placed.table.number ≡ c.placed.table.number = ap (λ (t : TableContent). t.placed.table.number) e in
    let n : b.placed.table.number ≡ c.placed.table.number = ap (λ (t : TableContent). t.placed.table.number) f in
    absurd (omega (arith, m, n, lt))
newer_numbers order (c ∷ contents) a b p h (inl e) (inr j) x y lt =
    let P : TableContent → Type 0 = λ t. t.placed.level ≡ 0 → AreNewer b t in subst P (sym e) (λ z. (h.0 b j).2 z y) x
newer_numbers order (c ∷ contents) a b p h (inr i) (inl f) x y lt =
    let z : c.placed.level ≡ a.placed.level = ap (λ (t : TableContent). t.placed.level) (sym f) ∙ y ∙ sym x in
    let below = not_lower c contents a p.0 i z in
    let n : b.placed.table.number ≡ c.placed.table.number = ap (λ (t : TableContent). t.placed.table.number) f in
    absurd (omega (arith, below, n, lt))
newer_numbers order (c ∷ contents) a b p h (inr i) (inr j) x y lt = newer_numbers order contents a b p.1 h.1 i j x y lt

-- two of one level from 1 on lie apart
pub apart_in : (order : Order) (contents : List TableContent) (a b : TableContent) → AreTables order contents → InTables contents a → InTables contents b → a.placed.level ≡ b.placed.level → 0 < a.placed.level → a.placed.table.number ≢ b.placed.table.number
    → LieApart order a b ⊎ LieApart order b a
apart_in order [] a b h i j same some other = absurd i
apart_in order (c ∷ contents) a b h (inl e) (inl f) same some other = absurd (other (ap (λ (t : TableContent). t.placed.table.number) (e ∙ sym f)))
apart_in order (c ∷ contents) a b h (inl e) (inr j) same some other =
    let P : TableContent → Type 0 = λ t. t.placed.level ≡ b.placed.level → 0 < t.placed.level → LieApart order t b in inl (subst P (sym e) (h.0 b j).1 same some)
apart_in order (c ∷ contents) a b h (inr i) (inl f) same some other =
    let P : TableContent → Type 0 = λ t. t.placed.level ≡ a.placed.level → 0 < t.placed.level → LieApart order t a in inr (subst P (sym f) (h.0 a i).1 (sym same) (omega (arith, same, some)))
apart_in order (c ∷ contents) a b h (inr i) (inr j) same some other = apart_in order contents a b h.1 i j same some other

pub not_itself : (order : Order) (a b : List ℕ) → IsTotalOrder order.cmp → a ≡ b → order.cmp a b ≡ Less → ⊥
not_itself order a b o same less =
    let t : Equal ≡ Less = sym (tied_itself o b) ∙ subst (λ (k : List ℕ). order.cmp k b ≡ Less) same less in
    cc

-- of two entries the one whose internal key is below the other's doesn't come after it
not_behind : (order : Order) (x y : Entry) → IsTotalOrder order.cmp → IsAntisymmetric order.cmp → key_cmp order.cmp (internal_key_of x) (internal_key_of y) ≡ Less → ComesBefore order y x → ⊥
not_behind order x y o exact less behind =
    elim (less_parts (order.cmp x.key y.key) (tag_of (internal_key_of y)) (tag_of (internal_key_of x)) less) [
      | inl lt ↦ elim behind [
        | inl back ↦ not_itself order x.key x.key o refl (o.trans x.key y.key x.key lt back)
        | inr h ↦ not_itself order x.key y.key o (sym h.0) lt
      ]
      | inr tied ↦
          let same = exact x.key y.key tied.0 in
          elim behind [
            | inl back ↦ not_itself order y.key x.key o (sym same) back
            | inr h ↦
                let most = kind_at_most (kind_of x.value) in
                omega (arith, tied.1, h.1, most)
          ]
    ]

below_entries : (order : Order) (x y : Entry) (a b : List ℕ) → internal_key x ≡ a → internal_key y ≡ b → x.sequence < 2 ^ 56 → y.sequence < 2 ^ 56 → IsBelowInternal order.cmp a b → key_cmp order.cmp (internal_key_of x) (internal_key_of y) ≡ Less
below_entries order x y a b e f p q below =
    let k : below.0 ≡ internal_key_of x = same_key a below.0 (internal_key_of x) below.2 (subst (λ (v : List ℕ). IsKey v (internal_key_of x)) e (key_is x p)) in
    let l : below.1 ≡ internal_key_of y = same_key b below.1 (internal_key_of y) below.3 (subst (λ (v : List ℕ). IsKey v (internal_key_of y)) f (key_is y q)) in
    (λ i. key_cmp order.cmp (sym k i) (sym l i)) ∙ below.4

-- the one that ends below where the other begins comes wholly before it
pub wholly_before : (order : Order) (files : Files) (a b : TableContent) → IsTotalOrder order.cmp → IsAntisymmetric order.cmp → HasTable order files a → HasTable order files b → LieApart order a b ⊎ LieApart order b a
    → IsBelowInternal order.cmp a.placed.table.largest b.placed.table.smallest → ComesAllBefore order a.entries b.entries
wholly_before order files a b o exact h g apart below =
    let last = h.largest.0 in
    let first = g.smallest.0 in
    let less = below_entries order last first a.placed.table.largest b.placed.table.smallest h.largest.2 g.smallest.2
    (fits_of order h.bytes a.entries last h.spelled h.largest.1) (fits_of order g.bytes b.entries first g.spelled g.smallest.1) below in
    let no_back : ComesBefore order first last → ⊥ = not_behind order last first o exact less in
    elim apart [
      | inl (inl all) ↦ all
      | inl (inr all) ↦ absurd (no_back (all last first h.largest.1 g.smallest.1))
      | inr (inl all) ↦ absurd (no_back (all first last g.smallest.1 h.largest.1))
      | inr (inr all) ↦ λ e f i j. all f e j i
    ]
