-- Which inputs of a compaction may be replaced.
use Rattle.std.proofs.Common.{◌≡◌, ◌⊎◌, inl, inr, List, [], ◌∷◌, ◌++◌, ℕ, ◌+◌, ◌<◌, ◌≤◌, length, map, sym, ap, ◌∙◌, subst, arith}
use Rattle.std.specs.List.{AllByRecursion}
use Rattle.std.specs.Cmp.{IsTotalOrder, tied_itself}
use Rattle.std.specs.declared.cmp.Ordering.TheVariants.{Less, Equal}
use Rattle.std.proofs.lemmas.Bool.{cases_lt}
use Rattle.std.proofs.lemmas.List.{length-append}
use Rattle.coding.specs.Fixed.{fixed64}
use Rattle.coding.proofs.Fronts.{same_front}
use Rattle.ikey.specs.Orders.{Order}
use Rattle.ikey.specs.Keys.{Key, IsKey, tag_of}
use Rattle.ikey.specs.Entries.{internal_key_of}
use Rattle.ikey.specs.declared.entry.Entry.{Entry}
use Rattle.store.specs.Files.{Files}
use Rattle.edits.specs.Snapshot.{AreInPlace, IsFollowedBy}
use Rattle.edits.specs.declared.field.PlacedTable.{PlacedTable}
use Rattle.ikey.specs.Views.{Among}
use Rattle.ikey.specs.Sources.{ComesBefore}
use Rattle.recover.specs.Tables.{TableContent, HasTable, InTables, tabled, internal_key, AreNewer, AreTables}
use Rattle.recover.specs.Directory.{Directory, IsConsistent}
use Rattle.recover.specs.Replacing.{AreParted, LiesBelow, LiesAbove}
use Rattle.recover.specs.internal.Changes.{HasLowerKeys, AreClosedInputs, ClosedLaw}
use Rattle.recover.proofs.Memberships.{from_tabled, one_of_tables, from_chosen, from_rest}
use Rattle.recover.proofs.Flushing.{kept_by}

-- ---- two tables of two levels

pub not_above : (c : TableContent) (contents : List TableContent) (other : TableContent) → AllByRecursion (IsFollowedBy c.placed) (map (λ (t : TableContent). t.placed) contents) → InTables contents other → c.placed.level ≤ other.placed.level
not_above c [] other h i = absurd i
not_above c (x ∷ contents) other h (inl e) =
    let here : c.placed.level ≤ x.placed.level = elim h.0.0 [ inl lt ↦ omega (arith, lt) | inr same ↦ omega (arith, same.0) ] in
    omega (arith, here, ap (λ (t : TableContent). t.placed.level) e)
not_above c (x ∷ contents) other h (inr i) = not_above c contents other h.1 i

newer_pair : (order : Order) (contents : List TableContent) (a b : TableContent) → AreInPlace (map (λ (t : TableContent). t.placed) contents) → AreTables order contents
    → InTables contents a → InTables contents b → a.placed.level < b.placed.level → AreNewer a b
newer_pair order [] a b p h i j lt = absurd i
newer_pair order (c ∷ contents) a b p h (inl e) (inl f) lt =
    let x : a.placed.level ≡ c.placed.level = ap (λ (t : TableContent). t.placed.level) e in
    let y : b.placed.level ≡ c.placed.level = ap (λ (t : TableContent). t.placed.level) f in
    absurd (omega (arith, x, y, lt))
newer_pair order (c ∷ contents) a b p h (inl e) (inr j) lt =
    let P : TableContent → Type 0 = λ t. t.placed.level < b.placed.level → AreNewer t b in subst P (sym e) (h.0 b j).0 lt
newer_pair order (c ∷ contents) a b p h (inr i) (inl f) lt =
    let le : c.placed.level ≤ a.placed.level = not_above c contents a p.0 i in
    let y : b.placed.level ≡ c.placed.level = ap (λ (t : TableContent). t.placed.level) f in
    absurd (omega (arith, le, y, lt))
newer_pair order (c ∷ contents) a b p h (inr i) (inr j) lt = newer_pair order contents a b p.1 h.1 i j lt

-- ---- keys

pub user_of : (entry : Entry) (bytes : List ℕ) (k : Key) → internal_key entry ≡ bytes → IsKey bytes k → entry.key ≡ k.user
user_of entry bytes k e is =
    let whole : entry.key ++ fixed64 (tag_of (internal_key_of entry)) ≡ k.user ++ fixed64 (tag_of k) = e ∙ is.parts in
    let long : length entry.key ≡ length k.user = omega (arith, ap length whole, length-append entry.key (fixed64 (tag_of (internal_key_of entry))), length-append k.user (fixed64 (tag_of k))) in
    (same_front entry.key k.user (fixed64 (tag_of (internal_key_of entry))) (fixed64 (tag_of k)) long whole).0

-- through an entry that is the same, or before
pub below_by : (order : Order) (e f : Entry) (key : List ℕ) → (e ≡ f) ⊎ ComesBefore order e f → IsTotalOrder order.cmp → order.cmp f.key key ≡ Less → order.cmp e.key key ≡ Less
below_by order e f key (inl same) o lt = let P : Entry → Type 0 = λ g. order.cmp g.key key ≡ Less in subst P (sym same) lt
below_by order e f key (inr (inl before)) o lt = o.trans e.key f.key key before lt
below_by order e f key (inr (inr newer)) o lt = let P : List ℕ → Type 0 = λ k. order.cmp k key ≡ Less in subst P (sym newer.0) lt

pub above_by : (order : Order) (e f : Entry) (key : List ℕ) → (e ≡ f) ⊎ ComesBefore order f e → IsTotalOrder order.cmp → order.cmp key f.key ≡ Less → order.cmp key e.key ≡ Less
above_by order e f key (inl same) o lt = let P : Entry → Type 0 = λ g. order.cmp key g.key ≡ Less in subst P (sym same) lt
above_by order e f key (inr (inl before)) o lt = o.trans key f.key e.key lt before
above_by order e f key (inr (inr newer)) o lt = let P : List ℕ → Type 0 = λ k. order.cmp key k ≡ Less in subst P newer.0 lt

pub all_lower : (order : Order) (files : Files) (a b : TableContent) (e f : Entry) → IsTotalOrder order.cmp → HasTable order files a → HasTable order files b → HasLowerKeys order a.placed b.placed → Among a.entries e → Among b.entries f → order.cmp e.key f.key ≡ Less
all_lower order files a b e f o h g low i j =
    let last = h.largest.0 in
    let first = g.smallest.0 in
    let x : last.key ≡ low.0.user = user_of last a.placed.table.largest low.0 h.largest.2 low.2 in
    let y : first.key ≡ low.1.user = user_of first b.placed.table.smallest low.1 g.smallest.2 low.3 in
    let middle : order.cmp last.key first.key ≡ Less = (λ n. order.cmp (x n) (y n)) ∙ low.4 in
    let right : order.cmp last.key f.key ≡ Less = above_by order f first last.key (g.smallest.3 f j) o middle in
    below_by order e last f.key (h.largest.3 e i) o right

pub no_same : (order : Order) (e f : Entry) → IsTotalOrder order.cmp → order.cmp e.key f.key ≡ Less → e.key ≡ f.key → ⊥
no_same order e f o lt same =
    let P : List ℕ → Type 0 = λ k. order.cmp e.key k ≡ Less in
    let t : Equal ≡ Less = sym (tied_itself o e.key) ∙ subst P (sym same) lt in cc

pub newer_apart : (order : Order) (files : Files) (a b : TableContent) → IsTotalOrder order.cmp → HasTable order files a → HasTable order files b → HasLowerKeys order a.placed b.placed ⊎ HasLowerKeys order b.placed a.placed → AreNewer a b
newer_apart order files a b o h g (inl low) e f i j key = absurd (no_same order e f o (all_lower order files a b e f o h g low i j) key)
newer_apart order files a b o h g (inr low) e f i j key = absurd (no_same order f e o (all_lower order files b a f e o g h low j i) (sym key))

-- ---- all of it

module _ (order : Order) (files : Files) (d : Directory) (inputs rest : List TableContent) (level : ℕ) (o : IsTotalOrder order.cmp)
    (h : IsConsistent order files d) (p : AreParted d.tables inputs rest) (c : AreClosedInputs order inputs rest level) where
  stays_there : (t : TableContent) → InTables rest t → InTables d.tables t
  stays_there t i = from_rest d.tables inputs rest t p i

  input_there : (t : TableContent) → InTables inputs t → InTables d.tables t
  input_there t i = from_chosen d.tables inputs rest t p i

  has : (t : TableContent) → InTables d.tables t → HasTable order files t
  has t i = one_of_tables order files d.tables t h.tables i

  pair : (a b : TableContent) → InTables d.tables a → InTables d.tables b → a.placed.level < b.placed.level → AreNewer a b
  pair a b i j lt =
      let I : List PlacedTable → Type 0 = λ ts. AreInPlace ts in
      newer_pair order d.tables a b (subst I (sym h.placed) (kept_by order files d.manifest d.edits d.layout h.manifest).in_place) h.apart i j lt

  newer_by : (stays input : TableContent) → InTables rest stays → InTables inputs input → stays.placed.level < level + 1 → (stays.placed.level < input.placed.level) ⊎ (input.placed.level ≤ stays.placed.level) → AreNewer stays input
  newer_by stays input i j lt (inl deeper) = pair stays input (stays_there stays i) (input_there input j) deeper
  newer_by stays input i j lt (inr le) =
      elim (c.levels input j) [
        | inl at ↦ newer_apart order files stays input o (has stays (stays_there stays i)) (has input (input_there input j)) (c.same stays input i j (omega (arith, lt, le, at)) at)
        | inr at ↦ absurd (omega (arith, lt, le, at))
      ]

  older_by : (stays input : TableContent) → InTables rest stays → InTables inputs input → level + 1 < stays.placed.level → AreNewer input stays
  older_by stays input i j lt =
      let deeper : input.placed.level < stays.placed.level = elim (c.levels input j) [ inl at ↦ omega (arith, lt, at) | inr at ↦ omega (arith, lt, at) ] in
      pair input stays (input_there input j) (stays_there stays i) deeper

  beside_by : (stays : TableContent) → InTables rest stays → stays.placed.level ≡ level + 1 → LiesBelow order stays (tabled inputs) ⊎ LiesAbove order stays (tabled inputs)
  beside_by stays i at =
      elim (c.next stays i at) [
        | inl low ↦ inl (λ e f k l. let t = from_tabled inputs f l in
            inl (all_lower order files stays t.0 e f o (has stays (stays_there stays i)) (has t.0 (input_there t.0 t.1)) (low t.0 t.1) k t.2))
        | inr high ↦ inr (λ e f k l. let t = from_tabled inputs f l in
            inl (all_lower order files t.0 stays f e o (has t.0 (input_there t.0 t.1)) (has stays (stays_there stays i)) (high t.0 t.1) t.2 k))
      ]

pub closed : ClosedLaw
closed order files d inputs rest level o h p c = record {
  newer = λ stays input i j lt. newer_by order files d inputs rest level o h p c stays input i j lt (split stays.placed.level input.placed.level);
  older = older_by order files d inputs rest level o h p c;
  beside = beside_by order files d inputs rest level o h p c;
}
  where
    split : (m n : ℕ) → (m < n) ⊎ (n ≤ m)
    split m n = cases_lt m n
