-- No two entries of a consistent directory share a key and a sequence number.
use Rattle.std.proofs.Common.{◌≡◌, ◌≢◌, inl, inr, ℕ, ◌<◌, ◌≤◌, List, [], ◌∷◌, ◌++◌, map, refl, sym, subst, arith}
use Rattle.std.specs.Cmp.{IsTotalOrder}
use Rattle.std.proofs.lemmas.Bool.{cases_lt}
use Rattle.ikey.specs.Orders.{Order}
use Rattle.ikey.specs.Views.{Among}
use Rattle.ikey.specs.declared.entry.Entry.{Entry}
use Rattle.store.specs.Files.{Files}
use Rattle.edits.specs.Snapshot.{AreInPlace}
use Rattle.edits.specs.declared.field.PlacedTable.{PlacedTable}
use Rattle.recover.specs.Entries.{RiseAbove}
use Rattle.ikey.specs.Sources.{ComesBefore, AreSorted}
use Rattle.recover.specs.Tables.{TableContent, HasTables, tabled, AreTwoTables, AreTables}
use Rattle.recover.specs.Logs.{logged}
use Rattle.recover.specs.Replacing.{AreDistinct}
use Rattle.recover.specs.internal.Changes.{DistinctLaw}
use Rattle.recover.proofs.Adding.{above, among_split}
use Rattle.recover.proofs.Memberships.{from_tabled}
use Rattle.recover.proofs.Flushing.{kept_by}
use Rattle.recover.proofs.Closed.{not_above, no_same}

-- of the same key they have other sequence numbers
abbrev Differ : Entry → Entry → Type 0
Differ e f = e.key ≡ f.key → e.sequence ≢ f.sequence

before_differ : (order : Order) (e f : Entry) → IsTotalOrder order.cmp → ComesBefore order e f → Differ e f
before_differ order e f o (inl less) key same = no_same order e f o less key
before_differ order e f o (inr newer) key same = omega (arith, newer.1, same)

behind_differ : (order : Order) (e f : Entry) → IsTotalOrder order.cmp → ComesBefore order f e → Differ e f
behind_differ order e f o h key same = before_differ order f e o h (sym key) (sym same)

distinct-append : (xs ys : List Entry) → AreDistinct xs → AreDistinct ys → ((e f : Entry) → Among xs e → Among ys f → Differ e f) → AreDistinct (xs ++ ys)
distinct-append [] ys h k cross = k
distinct-append (x ∷ xs) ys h k cross = (
  λ f i. elim (among_split xs ys f i) [ inl j ↦ h.0 f j | inr j ↦ cross x f (inl refl) j ],
  distinct-append xs ys h.1 k (λ e f i j. cross e f (inr i) j),
)

distinct_sorted : (order : Order) (es : List Entry) → IsTotalOrder order.cmp → AreSorted order es → AreDistinct es
distinct_sorted order [] o h = tt
distinct_sorted order (e ∷ es) o h = (λ f i. before_differ order e f o (h.0 f i), distinct_sorted order es o h.1)

distinct_rise : (low : ℕ) (es : List Entry) → RiseAbove low es → AreDistinct es
distinct_rise low [] h = tt
distinct_rise low (e ∷ es) h = (λ f i key same. let lt : e.sequence < f.sequence = above e.sequence es f h.1 i in omega (arith, lt, same), distinct_rise e.sequence es h.1)

-- ---- tables

two_differ : (order : Order) (a b : TableContent) (e f : Entry) → IsTotalOrder order.cmp → AreTwoTables order a b → a.placed.level ≤ b.placed.level → Among a.entries e → Among b.entries f → Differ e f
two_differ order a b e f o two le i j =
    elim (cases_lt a.placed.level b.placed.level) [
      | inl lt ↦ (λ key same. let newer : f.sequence < e.sequence = two.0 lt e f i j key in omega (arith, newer, same))
      | inr ge ↦ elim (cases_lt 0 a.placed.level) [
        | inl deep ↦ elim (two.1 (omega (arith, le, ge)) deep) [
          | inl before ↦ before_differ order e f o (before e f i j)
          | inr behind ↦ behind_differ order e f o (behind e f i j)
        ]
        | inr top ↦ (λ key same. let newer : e.sequence < f.sequence = two.2 (omega (arith, top)) (omega (arith, top, le, ge)) f e j i (sym key) in omega (arith, newer, same))
      ]
    ]

distinct_tables : (order : Order) (files : Files) (contents : List TableContent) → IsTotalOrder order.cmp → HasTables order files contents → AreInPlace (map (λ (t : TableContent). t.placed) contents) → AreTables order contents
    → AreDistinct (tabled contents)
distinct_tables order files [] o h place two = tt
distinct_tables order files (c ∷ contents) o h place two =
    distinct-append c.entries (tabled contents) (distinct_sorted order c.entries o h.0.sorted) (distinct_tables order files contents o h.1 place.1 two.1)
    (λ e f i j.
    let t = from_tabled contents f j in
    two_differ order c t.0 e f o (two.0 t.0 t.1) (not_above c contents t.0 place.0 t.1) i t.2)

-- ---- the whole

pub distinct : DistinctLaw
distinct order files d o h =
    let I : List PlacedTable → Type 0 = λ ts. AreInPlace ts in
    let place = subst I (sym h.placed) (kept_by order files d.manifest d.edits d.layout h.manifest).in_place in
    distinct-append (tabled d.tables) (logged d.logs) (distinct_tables order files d.tables o h.tables place h.apart) (distinct_rise 0 (logged d.logs) h.sequences)
    (λ e f i j key same. let newer : e.sequence < f.sequence = h.newer f e j i (sym key) in omega (arith, newer, same))
