-- What the tables of a consistent directory say of the edits that name them.
use Rattle.std.proofs.Common.{◌≡◌, ◌⊎◌, inl, inr, ℕ, ◌<◌, ◌^◌, List, [], ◌∷◌, map, refl, sym, ap, ◌∙◌, subst, arith}
use Rattle.std.specs.List.{AllByRecursion}
use Rattle.ikey.specs.Orders.{Order}
use Rattle.ikey.specs.Keys.{IsKey}
use Rattle.ikey.specs.Entries.{InternalEntry, Pair, internal_key_of, entry_of}
use Rattle.ikey.specs.declared.entry.Entry.{Entry}
use Rattle.store.specs.Files.{Files}
use Rattle.table.specs.Table.{ArePairs}
use Rattle.edits.specs.declared.field.PlacedTable.{PlacedTable}
use Rattle.ikey.specs.Views.{Among}
use Rattle.ikey.specs.Sources.{ComesBefore}
use Rattle.recover.specs.Tables.{IsTableFile, TableContent, HasTable, HasTables, InTables, internal_key, AreTwoTables, AreTables}
use Rattle.recover.specs.Ranges.{IsBeforeInternal, HasRange, RangesDoNotOverlap, HaveRanges, HaveTableFiles}
use Rattle.recover.specs.Directory.{Directory, IsConsistent}

-- ---- internal keys

pub key_is : (entry : Entry) → entry.sequence < 2 ^ 56 → IsKey (internal_key entry) (internal_key_of entry)
key_is entry fits = record { sequence_fits = fits; parts = refl }

fits_in : (pairs : List Pair) (kept : List InternalEntry) (entry : Entry) → ArePairs pairs kept → Among (map entry_of kept) entry → entry.sequence < 2 ^ 56
fits_in [] [] entry h i = absurd i
fits_in [] (k ∷ kept) entry h i = absurd h
fits_in (p ∷ pairs) [] entry h i = absurd h
fits_in (p ∷ pairs) (k ∷ kept) entry h (inl e) = let fits = h.0.key.sequence_fits in omega (arith, fits, ap (λ (x : Entry). x.sequence) e)
fits_in (p ∷ pairs) (k ∷ kept) entry h (inr i) = fits_in pairs kept entry h.1 i

pub fits_of : (order : Order) (bytes : List ℕ) (entries : List Entry) (entry : Entry) → IsTableFile order bytes entries → Among entries entry → entry.sequence < 2 ^ 56
fits_of order bytes entries entry h i =
    let P : List Entry → Type 0 = λ es. Among es entry in
    fits_in _ h.0 entry h.1.2.entries_are (subst P h.2 i)

-- ---- ranges

-- the bytes are the internal keys of two entries, one before the other
before_of : (order : Order) (e f : Entry) (a b : List ℕ) → internal_key e ≡ a → internal_key f ≡ b → e.sequence < 2 ^ 56 → f.sequence < 2 ^ 56 → ComesBefore order e f → IsBeforeInternal order a b
before_of order e f a b p q x y h =
    let P : List ℕ → Type 0 = λ k. IsKey k (internal_key_of e) in
    let Q : List ℕ → Type 0 = λ k. IsKey k (internal_key_of f) in
    (internal_key_of e, internal_key_of f, subst P p (key_is e x), subst Q q (key_is f y), h)

range_by : (order : Order) (files : Files) (t : TableContent) (h : HasTable order files t) → (h.largest.0 ≡ h.smallest.0) ⊎ ComesBefore order h.smallest.0 h.largest.0 → HasRange order t.placed.table
range_by order files t h (inl same) =
    let first = h.smallest.0 in
    let P : List ℕ → Type 0 = λ k. IsKey k (internal_key_of first) in
    inl (internal_key_of first, subst P h.smallest.2 (key_is first (fits_of order h.bytes t.entries first h.spelled h.smallest.1)), sym h.smallest.2 ∙ ap internal_key (sym same) ∙ h.largest.2)
range_by order files t h (inr before) =
    inr (before_of order h.smallest.0 h.largest.0 t.placed.table.smallest t.placed.table.largest h.smallest.2 h.largest.2
    (fits_of order h.bytes t.entries h.smallest.0 h.spelled h.smallest.1) (fits_of order h.bytes t.entries h.largest.0 h.spelled h.largest.1) before)

pub has_range : (order : Order) (files : Files) (t : TableContent) → HasTable order files t → HasRange order t.placed.table
has_range order files t h = range_by order files t h (h.smallest.3 h.largest.0 h.largest.1)

ends_before : (order : Order) (files : Files) (a b : TableContent) → HasTable order files a → HasTable order files b → ((e f : Entry) → Among a.entries e → Among b.entries f → ComesBefore order e f)
    → IsBeforeInternal order a.placed.table.largest b.placed.table.smallest
ends_before order files a b h g all =
    before_of order h.largest.0 g.smallest.0 a.placed.table.largest b.placed.table.smallest h.largest.2 g.smallest.2
    (fits_of order h.bytes a.entries h.largest.0 h.spelled h.largest.1) (fits_of order g.bytes b.entries g.smallest.0 g.spelled g.smallest.1)
    (all h.largest.0 g.smallest.0 h.largest.1 g.smallest.1)

apart_of : (order : Order) (files : Files) (a b : TableContent) → HasTable order files a → HasTable order files b → AreTwoTables order a b → RangesDoNotOverlap order a.placed b.placed
apart_of order files a b h g two = λ same some. elim (two.1 same some) [
  | inl all ↦ inl (ends_before order files a b h g all)
  | inr all ↦ inr (ends_before order files b a g h (λ f e j i. all e f i j))
]

apart_from : (order : Order) (files : Files) (a : TableContent) (contents : List TableContent) → HasTable order files a → HasTables order files contents → ((other : TableContent) → InTables contents other → AreTwoTables order a other)
    → AllByRecursion (RangesDoNotOverlap order a.placed) (map (λ (t : TableContent). t.placed) contents)
apart_from order files a [] h g two = tt
apart_from order files a (c ∷ contents) h g two = (apart_of order files a c h g.0 (two c (inl refl)), apart_from order files a contents h g.1 (λ o i. two o (inr i)))

ranges_of : (order : Order) (files : Files) (contents : List TableContent) → HasTables order files contents → AreTables order contents → HaveRanges order (map (λ (t : TableContent). t.placed) contents)
ranges_of order files [] h g = tt
ranges_of order files (c ∷ contents) h g = (has_range order files c h.0, apart_from order files c contents h.0 h.1 g.0, ranges_of order files contents h.1 g.1)

pub consistent_ranges : (order : Order) (files : Files) (d : Directory) → IsConsistent order files d → HaveRanges order d.layout.tables.items
consistent_ranges order files d h = let P : List PlacedTable → Type 0 = λ ts. HaveRanges order ts in subst P h.placed (ranges_of order files d.tables h.tables h.apart)

-- ---- files

files_of : (order : Order) (files : Files) (contents : List TableContent) → HasTables order files contents → HaveTableFiles files (map (λ (t : TableContent). t.placed) contents)
files_of order files [] h = tt
files_of order files (c ∷ contents) h = ((h.0.numbered, (h.0.bytes, h.0.there, h.0.size)), files_of order files contents h.1)

pub consistent_files : (order : Order) (files : Files) (d : Directory) → IsConsistent order files d → HaveTableFiles files d.layout.tables.items
consistent_files order files d h = let P : List PlacedTable → Type 0 = λ ts. HaveTableFiles files ts in subst P h.placed (files_of order files d.tables h.tables)
