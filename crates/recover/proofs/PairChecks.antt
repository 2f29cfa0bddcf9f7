-- Two tables, compared.
use Rattle.std.proofs.Common.{◌≡◌, ◌⊎◌, inl, inr, ◌<◌, ◌^◌, ℕ, List, [], ◌∷◌, refl, sym, subst}
use Rattle.std.specs.Cmp.{IsTotalOrder}
use Rattle.ikey.specs.Below.{same_key}
use Rattle.ikey.specs.Orders.{Order}
use Rattle.ikey.specs.Keys.{Key, IsKey}
use Rattle.ikey.specs.Entries.{internal_key_of}
use Rattle.ikey.specs.declared.entry.Entry.{Entry}
use Rattle.store.specs.Files.{Files}
use Rattle.recover.specs.internal.Checks.{AreNewerThan}
use Rattle.ikey.specs.Views.{Among}
use Rattle.recover.specs.Ranges.{IsKeyBefore, IsBeforeInternal}
use Rattle.ikey.specs.Sources.{ComesBefore}
use Rattle.recover.specs.Tables.{TableContent, HasTable, internal_key, LieApart}
use Rattle.recover.proofs.EntryOrder.{before_trans}
use Rattle.recover.proofs.TableFacts.{key_is, fits_of}

-- ---- keys

-- the entries come as their keys do
comes_of : (order : Order) (e f : Entry) (a b : List ℕ) → internal_key e ≡ a → internal_key f ≡ b → e.sequence < 2 ^ 56 → f.sequence < 2 ^ 56 → IsBeforeInternal order a b → ComesBefore order e f
comes_of order e f a b p q x y h =
    let first : h.0 ≡ internal_key_of e = same_key a h.0 (internal_key_of e) h.2 (subst (λ (k : List ℕ). IsKey k (internal_key_of e)) p (key_is e x)) in
    let second : h.1 ≡ internal_key_of f = same_key b h.1 (internal_key_of f) h.3 (subst (λ (k : List ℕ). IsKey k (internal_key_of f)) q (key_is f y)) in
    subst (λ (l : Key). IsKeyBefore order (internal_key_of e) l) second (subst (λ (k : Key). IsKeyBefore order k h.1) first h.4)

through : (order : Order) → IsTotalOrder order.cmp → (e last first f : Entry) → (e ≡ last) ⊎ ComesBefore order e last → ComesBefore order last first → (f ≡ first) ⊎ ComesBefore order first f → ComesBefore order e f
through order o e last first f left middle right =
    let half : ComesBefore order e first = elim left [ inl same ↦ subst (λ (x : Entry). ComesBefore order x first) (sym same) middle | inr before ↦ before_trans order o e last first before middle ] in
    elim right [ inl same ↦ subst (λ (x : Entry). ComesBefore order e x) (sym same) half | inr before ↦ before_trans order o e first f half before ]

all_before : (order : Order) → IsTotalOrder order.cmp → (files : Files) (a b : TableContent) → HasTable order files a → HasTable order files b → IsBeforeInternal order a.placed.table.largest b.placed.table.smallest
    → (e f : Entry) → Among a.entries e → Among b.entries f → ComesBefore order e f
all_before order o files a b h g before e f i j =
    let last = h.largest.0 in
    let first = g.smallest.0 in
    let middle = comes_of order last first a.placed.table.largest b.placed.table.smallest h.largest.2 g.smallest.2
    (fits_of order h.bytes a.entries last h.spelled h.largest.1) (fits_of order g.bytes b.entries first g.spelled g.smallest.1) before in
    through order o e last first f (h.largest.3 e i) middle (g.smallest.3 f j)

pub apart_by : (order : Order) → IsTotalOrder order.cmp → (files : Files) (a b : TableContent) → HasTable order files a → HasTable order files b
    → IsBeforeInternal order a.placed.table.largest b.placed.table.smallest ⊎ IsBeforeInternal order b.placed.table.largest a.placed.table.smallest → LieApart order a b
apart_by order o files a b h g (inl before) = inl (all_before order o files a b h g before)
apart_by order o files a b h g (inr before) = inr (λ e f i j. all_before order o files b a g h before f e j i)

-- ---- which are newer

pub newer_from : (xs ys : List Entry) → AreNewerThan xs ys → (e f : Entry) → Among xs e → Among ys f → e.key ≡ f.key → f.sequence < e.sequence
newer_from [] ys h e f i j key = absurd i
newer_from (x ∷ xs) ys h e f (inl same) j key = let P : Entry → Type 0 = λ z. z.key ≡ f.key → f.sequence < z.sequence in subst P (sym same) (h.0 f j) key
newer_from (x ∷ xs) ys h e f (inr i) j key = newer_from xs ys h.1 e f i j key

pub newer_to : (xs ys : List Entry) → ((e f : Entry) → Among xs e → Among ys f → e.key ≡ f.key → f.sequence < e.sequence) → AreNewerThan xs ys
newer_to [] ys h = tt
newer_to (x ∷ xs) ys h = ((λ f j key. h x f (inl refl) j key), newer_to xs ys (λ e f i j key. h e f (inr i) j key))
