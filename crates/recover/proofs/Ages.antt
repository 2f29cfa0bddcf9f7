-- Tables whose merged entries come as they may are as old as they have to be, and the other way
-- round.
use Rattle.std.proofs.Common.{◌≡◌, ◌⊎◌, inl, inr, ◌<◌, ◌≤◌, ℕ, zero, suc, List, [], ◌∷◌, Some, None, refl, sym, ap, ◌∙◌, subst, arith}
use Rattle.std.proofs.lemmas.Bool.{cases_lt, cases_eq}
use Rattle.std.specs.Prelude.{slice_get}
use Rattle.std.specs.List.{AllByRecursion}
use Rattle.std.specs.Cmp.{IsTotalOrder}
use Rattle.std.specs.declared.cmp.Ordering.TheVariants.{Less}
use Rattle.edits.specs.declared.field.PlacedTable.{PlacedTable}
use Rattle.ikey.specs.Orders.{Order}
use Rattle.ikey.specs.declared.entry.Entry.{Entry}
use Rattle.ikey.specs.Views.{Among}
use Rattle.ikey.specs.Sources.{ComesBefore}
use Rattle.store.specs.Files.{Files}
use Rattle.recover.specs.internal.Checks.{content_of, IsOlder, AreGood}
use Rattle.recover.specs.internal.Merging.{Came, IsNoNewer, IsBroken, ComesBehind, HaveCome, IsOldEntry, IsOfTable, WasMerged, AreByLevel}
use Rattle.recover.specs.Ranges.{RangesDoNotOverlap, HaveRanges}
use Rattle.recover.specs.Tables.{TableContent, HasTable, InTables, AreTwoTables, LieApart}
use Rattle.recover.proofs.Closed.{no_same}
use Rattle.recover.proofs.PairChecks.{apart_by, newer_from, newer_to}

-- ---- one after another

no_newer_trans : (l p m q n r : ℕ) → IsNoNewer l p m q → IsNoNewer m q n r → IsNoNewer l p n r
no_newer_trans l p m q n r (inl x) (inl y) = inl (omega (arith, x, y))
no_newer_trans l p m q n r (inl x) (inr y) = inl (omega (arith, x, y.0))
no_newer_trans l p m q n r (inr x) (inl y) = inl (omega (arith, x.0, y))
no_newer_trans l p m q n r (inr (e, inl some)) (inr (f, y)) = inr (e ∙ f, inl some)
no_newer_trans l p m q n r (inr (e, inr le)) (inr (f, inl some)) = inr (e ∙ f, inl (omega (arith, e, some)))
no_newer_trans l p m q n r (inr (e, inr le)) (inr (f, inr more)) = inr (e ∙ f, inr (omega (arith, le, more)))

behind_trans : (order : Order) → IsTotalOrder order.cmp → (a b c : Came) → ComesBehind order a b → ComesBehind order b c → ComesBehind order a c
behind_trans order o a b c (inl x) (inl y) = inl (o.trans a.entry.key b.entry.key c.entry.key x y)
behind_trans order o a b c (inl x) (inr y) = let P : List ℕ → Type 0 = λ k. order.cmp a.entry.key k ≡ Less in inl (subst P y.0 x)
behind_trans order o a b c (inr x) (inl y) = let P : List ℕ → Type 0 = λ k. order.cmp k c.entry.key ≡ Less in inl (subst P (sym x.0) y)
behind_trans order o a b c (inr x) (inr y) =
    let newer : c.entry.sequence < a.entry.sequence = omega (arith, x.1.0, y.1.0) in
    inr (x.0 ∙ y.0, (newer, no_newer_trans a.level a.place b.level b.place c.level c.place x.1.1 y.1.1))

-- the next one that comes
pub come_more : (order : Order) → IsTotalOrder order.cmp → (before : List Came) (last next : Came) → HaveCome order (last ∷ before) → ComesBehind order last next → HaveCome order (next ∷ (last ∷ before))
come_more order o before last next h k = (each, h)
  where
    each : (a : Came) → Among (last ∷ before) a → ComesBehind order a next
    each a (inl same) = let P : Came → Type 0 = λ c. ComesBehind order c next in subst P (sym same) k
    each a (inr i) = behind_trans order o a last next (h.0 a i) k

pub two_of : (order : Order) (came : List Came) (a b : Came) → HaveCome order came → Among came a → Among came b → (a ≡ b) ⊎ (ComesBehind order a b ⊎ ComesBehind order b a)
two_of order [] a b h i j = absurd i
two_of order (last ∷ before) a b h (inl e) (inl f) = inl (e ∙ sym f)
two_of order (last ∷ before) a b h (inl e) (inr j) = let P : Came → Type 0 = λ c. ComesBehind order b c in inr (inr (subst P (sym e) (h.0 b j)))
two_of order (last ∷ before) a b h (inr i) (inl f) = let P : Came → Type 0 = λ c. ComesBehind order a c in inr (inl (subst P (sym f) (h.0 a i)))
two_of order (last ∷ before) a b h (inr i) (inr j) = two_of order before a b h.1 i j

-- the table of the first has to be newer
abbrev HasNewer : Came → Came → Type 0
HasNewer a b = (a.level < b.level) ⊎ ((a.level ≡ 0) × (b.level ≡ 0) × (b.place < a.place))

newer_other : (a b : Came) → HasNewer a b → a ≡ b → ⊥
newer_other a b (inl lt) e = omega (arith, lt, ap (λ (c : Came). c.level) e)
newer_other a b (inr h) e = omega (arith, h.2, ap (λ (c : Came). c.place) e)

newer_not : (a b : Came) → HasNewer a b → IsNoNewer b.level b.place a.level a.place → ⊥
newer_not a b (inl lt) (inl k) = omega (arith, lt, k)
newer_not a b (inl lt) (inr k) = omega (arith, lt, k.0)
newer_not a b (inr h) (inl k) = omega (arith, h.0, k)
newer_not a b (inr h) (inr (e, inl some)) = omega (arith, h.1, some)
newer_not a b (inr h) (inr (e, inr le)) = omega (arith, h.2, le)

newer_of : (order : Order) → IsTotalOrder order.cmp → (came : List Came) (a b : Came) → HaveCome order came → Among came a → Among came b → HasNewer a b → a.entry.key ≡ b.entry.key → b.entry.sequence < a.entry.sequence
newer_of order o came a b h i j newer key = elim (two_of order came a b h i j) [
  | inl same ↦ absurd (newer_other a b newer same)
  | inr (inl (inl less)) ↦ absurd (no_same order a.entry b.entry o less key)
  | inr (inl (inr k)) ↦ k.1.0
  | inr (inr (inl less)) ↦ absurd (no_same order b.entry a.entry o less (sym key))
  | inr (inr (inr k)) ↦ absurd (newer_not a b newer k.1.1)
]

-- ---- what was merged is good

module _ (order : Order) (o : IsTotalOrder order.cmp) (files : Files) (came : List Came) (h : HaveCome order came) where
  two_merged : (i j : ℕ) (a b : PlacedTable) (xs ys : List Entry) → i < j → a.level ≤ b.level → RangesDoNotOverlap order a b → WasMerged order files came i a xs → WasMerged order files came j b ys
      → AreTwoTables order (content_of a xs) (content_of b ys)
  two_merged i j a b xs ys lt le apart x y = (shallower, beside, first)
    where
      shallower : a.level < b.level → (e f : Entry) → Among xs e → Among ys f → e.key ≡ f.key → f.sequence < e.sequence
      shallower below e f p q key = newer_of order o came (record { place = i; level = a.level; entry = e }) (record { place = j; level = b.level; entry = f }) h (x.come e p) (y.come f q) (inl below) key

      beside : a.level ≡ b.level → 0 < a.level → LieApart order (content_of a xs) (content_of b ys)
      beside same some = apart_by order o files (content_of a xs) (content_of b ys) x.has y.has (apart same some)

      first : a.level ≡ 0 → b.level ≡ 0 → (e f : Entry) → Among ys e → Among xs f → e.key ≡ f.key → f.sequence < e.sequence
      first zero_a zero_b e f p q key =
          newer_of order o came (record { place = j; level = b.level; entry = e }) (record { place = i; level = a.level; entry = f }) h (y.come e p) (x.come f q) (inr (zero_b, zero_a, lt)) key

  -- each of these tables, whose first stands at this place, was merged
  abbrev pub AreMerged : ℕ → List PlacedTable → Type 0
  AreMerged at [] = Unit {0}
  AreMerged at (placed ∷ tables) = ((entries : List Entry) × WasMerged order files came at placed entries) × AreMerged (suc at) tables

  abbrev pub contents_of : (at : ℕ) (tables : List PlacedTable) → AreMerged at tables → List TableContent
  contents_of at [] m = []
  contents_of at (placed ∷ tables) m = content_of placed m.0.0 ∷ contents_of (suc at) tables m.1

  two_all : (i at : ℕ) (a : PlacedTable) (xs : List Entry) (tables : List PlacedTable) (m : AreMerged at tables) → i < at → AllByRecursion (λ (other : PlacedTable). a.level ≤ other.level) tables
      → AllByRecursion (RangesDoNotOverlap order a) tables → WasMerged order files came i a xs → (other : TableContent) → InTables (contents_of at tables m) other → AreTwoTables order (content_of a xs) other
  two_all i at a xs [] m lt le apart x other k = absurd k
  two_all i at a xs (b ∷ tables) m lt le apart x other (inl same) =
      let P : TableContent → Type 0 = λ c. AreTwoTables order (content_of a xs) c in
      subst P (sym same) (two_merged i at a b xs m.0.0 lt le.0 apart.0 x m.0.1)
  two_all i at a xs (b ∷ tables) m lt le apart x other (inr k) = two_all i (suc at) a xs tables m.1 (omega (arith, lt)) le.1 apart.1 x other k

  older_of : (logged : List Entry) (recorded : ℕ) (old : (c : Came) → Among came c → IsOldEntry logged recorded c.entry) (at : ℕ) (placed : PlacedTable) (entries : List Entry) → WasMerged order files came at placed entries
      → IsOlder logged recorded (content_of placed entries)
  older_of logged recorded old at placed entries m = record {
    newer = newer_to logged entries (λ e f p q key. (old (record { place = at; level = placed.level; entry = f }) (m.come f q)).newer e p key);
    sequences = each entries (λ e p. (old (record { place = at; level = placed.level; entry = e }) (m.come e p)).sequence);
  }
    where
      each : (xs : List Entry) → ((e : Entry) → Among xs e → e.sequence ≤ recorded) → AllByRecursion (λ (e : Entry). e.sequence ≤ recorded) xs
      each [] f = tt
      each (x ∷ xs) f = (f x (inl refl), each xs (λ e p. f e (inr p)))

  pub good_of : (logged : List Entry) (recorded : ℕ) (old : (c : Came) → Among came c → IsOldEntry logged recorded c.entry) (at : ℕ) (tables : List PlacedTable) (m : AreMerged at tables) → AreByLevel tables → HaveRanges order tables
      → AreGood order files logged recorded tables (contents_of at tables m)
  good_of logged recorded old at [] m levels ranges = tt
  good_of logged recorded old at (placed ∷ tables) m levels ranges = (
    refl,
    m.0.1.has,
    older_of logged recorded old at placed m.0.0 m.0.1,
    two_all at (suc at) placed m.0.0 tables m.1 (omega arith) levels.0 ranges.1 m.0.1,
    good_of logged recorded old (suc at) tables m.1 levels.1 ranges.2,
  )

-- ---- what isn't so of any contents

level_at : (tables : List PlacedTable) (i j : ℕ) (a b : PlacedTable) → AreByLevel tables → i < j → slice_get tables i ≡ Some a → slice_get tables j ≡ Some b → a.level ≤ b.level
level_at [] i j a b h lt x y = let bad : None ≡ Some a = x in absurd cc
level_at (t ∷ tables) zero zero a b h lt x y = absurd (omega (arith, lt))
level_at (t ∷ tables) (suc i) zero a b h lt x y = absurd (omega (arith, lt))
level_at (t ∷ tables) (suc i) (suc j) a b h lt x y = level_at tables i j a b h.1 (omega (arith, lt)) x y
level_at (t ∷ tables) zero (suc j) a b h lt x y =
    let same : t ≡ a = let both : Some t ≡ Some a = x in cc in
    let L : PlacedTable → Type 0 = λ p. p.level ≤ b.level in
    subst L same (behind tables j h.0 y)
  where
    behind : (ts : List PlacedTable) (k : ℕ) → AllByRecursion (λ (other : PlacedTable). t.level ≤ other.level) ts → slice_get ts k ≡ Some b → t.level ≤ b.level
    behind [] k all z = let bad : None ≡ Some b = z in absurd cc
    behind (u ∷ ts) zero all z =
        let same : u ≡ b = let both : Some u ≡ Some b = z in cc in
        let M : PlacedTable → Type 0 = λ p. t.level ≤ p.level in
        subst M same all.0
    behind (u ∷ ts) (suc k) all z = behind ts k all.1 z

module _ (order : Order) (files : Files) (logged : List Entry) (recorded : ℕ) where
  abbrev Good : List PlacedTable → List TableContent → Type 0
  Good = AreGood order files logged recorded

  -- the content of the table at a place
  record IsContentAt (contents : List TableContent) (at : ℕ) (placed : PlacedTable) : Type 0 where
    content : TableContent
    content_is : slice_get contents at ≡ Some content
    has : HasTable order files (content_of placed content.entries)
    level : content.placed.level ≡ placed.level
    older : IsOlder logged recorded content

  content_at : (tables : List PlacedTable) (contents : List TableContent) (at : ℕ) (placed : PlacedTable) → Good tables contents → slice_get tables at ≡ Some placed → IsContentAt contents at placed
  content_at [] contents at placed g x = let bad : None ≡ Some placed = x in absurd cc
  content_at (t ∷ tables) [] at placed g x = absurd g
  content_at (t ∷ tables) (c ∷ contents) zero placed g x =
      let same : t ≡ placed = let both : Some t ≡ Some placed = x in cc in
      let e : c.placed ≡ placed = g.0 ∙ same in
      let H : TableContent → Type 0 = λ d. HasTable order files d in
      let whole : c ≡ content_of placed c.entries = (λ i. record { placed = e i; entries = c.entries }) in
      record { content = c; content_is = refl; has = subst H whole g.1; level = ap (λ (p : PlacedTable). p.level) e; older = g.2 }
  content_at (t ∷ tables) (c ∷ contents) (suc at) placed g x =
      let r = content_at tables contents at placed g.4 x in
      record { content = r.content; content_is = r.content_is; has = r.has; level = r.level; older = r.older }

  in_at : (contents : List TableContent) (at : ℕ) (c : TableContent) → slice_get contents at ≡ Some c → InTables contents c
  in_at [] at c x = let bad : None ≡ Some c = x in absurd cc
  in_at (d ∷ contents) zero c x = let both : Some d ≡ Some c = x in inl cc
  in_at (d ∷ contents) (suc at) c x = inr (in_at contents at c x)

  two_at : (tables : List PlacedTable) (contents : List TableContent) (i j : ℕ) (a b : TableContent) → Good tables contents → i < j → slice_get contents i ≡ Some a → slice_get contents j ≡ Some b → AreTwoTables order a b
  two_at [] [] i j a b g lt x y = let bad : None ≡ Some a = x in absurd cc
  two_at [] (c ∷ contents) i j a b g lt x y = absurd g
  two_at (t ∷ tables) [] i j a b g lt x y = absurd g
  two_at (t ∷ tables) (c ∷ contents) zero zero a b g lt x y = absurd (omega (arith, lt))
  two_at (t ∷ tables) (c ∷ contents) (suc i) zero a b g lt x y = absurd (omega (arith, lt))
  two_at (t ∷ tables) (c ∷ contents) zero (suc j) a b g lt x y =
      let same : c ≡ a = let both : Some c ≡ Some a = x in cc in
      let P : TableContent → Type 0 = λ d. AreTwoTables order d b in
      subst P same (g.3 b (in_at contents j b y))
  two_at (t ∷ tables) (c ∷ contents) (suc i) (suc j) a b g lt x y = two_at tables contents i j a b g.4 (omega (arith, lt)) x y

  pub not_recorded : (tables : List PlacedTable) (contents : List TableContent) (came : Came) → IsOfTable order files tables came → (came.entry.sequence ≤ recorded → ⊥) → Good tables contents → ⊥
  not_recorded tables contents came of none g =
      let c = content_at tables contents came.place of.placed g of.placed_is in
      none (each c.content.entries came.entry c.older.sequences (of.inside c.content.entries c.has))
    where
      each : (xs : List Entry) (e : Entry) → AllByRecursion (λ (x : Entry). x.sequence ≤ recorded) xs → Among xs e → e.sequence ≤ recorded
      each [] e h i = absurd i
      each (x ∷ xs) e h (inl same) = let P : Entry → Type 0 = λ y. y.sequence ≤ recorded in subst P (sym same) h.0
      each (x ∷ xs) e h (inr i) = each xs e h.1 i

  pub not_older : (tables : List PlacedTable) (contents : List TableContent) (came : Came) (l : Entry) → IsOfTable order files tables came → Among logged l → l.key ≡ came.entry.key → (came.entry.sequence < l.sequence → ⊥)
      → Good tables contents → ⊥
  not_older tables contents came l of i key none g =
      let c = content_at tables contents came.place of.placed g of.placed_is in
      none (newer_from logged c.content.entries c.older.newer l came.entry i (of.inside c.content.entries c.has) key)

  -- `b` doesn't come before `a`, and may not follow it
  pub not_behind : IsTotalOrder order.cmp → (tables : List PlacedTable) (contents : List TableContent) (a b : Came) → AreByLevel tables → IsOfTable order files tables a → IsOfTable order files tables b
      → (a.place ≡ b.place → ComesBefore order a.entry b.entry) → (ComesBefore order b.entry a.entry → ⊥) → IsBroken a b → Good tables contents → ⊥
  not_behind o tables contents a b levels of_a of_b beside front broken g = elim (cases_eq a.place b.place) [
    | inl same ↦ alone same
    | inr other ↦ elim (cases_lt a.place b.place) [
      | inl lt ↦ above lt
      | inr le ↦ below (omega (arith, le, other))
    ]
  ]
    where
      key : a.entry.key ≡ b.entry.key
      key = broken.0

      ca : IsContentAt contents a.place of_a.placed
      ca = content_at tables contents a.place of_a.placed g of_a.placed_is

      cb : IsContentAt contents b.place of_b.placed
      cb = content_at tables contents b.place of_b.placed g of_b.placed_is

      in_a : Among ca.content.entries a.entry
      in_a = of_a.inside ca.content.entries ca.has

      in_b : Among cb.content.entries b.entry
      in_b = of_b.inside cb.content.entries cb.has

      -- it isn't newer, or it would come in front
      not_newer : a.entry.sequence < b.entry.sequence → ⊥
      not_newer lt = front (inr (sym key, lt))

      level_a : ca.content.placed.level ≡ a.level
      level_a = ca.level ∙ of_a.level

      level_b : cb.content.placed.level ≡ b.level
      level_b = cb.level ∙ of_b.level

      alone : a.place ≡ b.place → ⊥
      alone same =
          let placed : of_a.placed ≡ of_b.placed = let both : Some of_a.placed ≡ Some of_b.placed = sym of_a.placed_is ∙ ap (slice_get tables) same ∙ of_b.placed_is in cc in
          let level : a.level ≡ b.level = sym of_a.level ∙ ap (λ (p : PlacedTable). p.level) placed ∙ of_b.level in
          elim (beside same) [
            | inl less ↦ no_same order a.entry b.entry o less key
            | inr older ↦ broken.1 (older.1, inr (level, inr (omega (arith, same))))
          ]

      apart : LieApart order ca.content cb.content → b.entry.sequence < a.entry.sequence
      apart (inl all) = elim (all a.entry b.entry in_a in_b) [ inl less ↦ absurd (no_same order a.entry b.entry o less key) | inr older ↦ older.1 ]
      apart (inr all) = elim (all a.entry b.entry in_a in_b) [ inl less ↦ absurd (no_same order b.entry a.entry o less (sym key)) | inr newer ↦ absurd (not_newer newer.1) ]

      apart_back : LieApart order cb.content ca.content → b.entry.sequence < a.entry.sequence
      apart_back (inl all) = elim (all b.entry a.entry in_b in_a) [ inl less ↦ absurd (no_same order b.entry a.entry o less (sym key)) | inr newer ↦ absurd (not_newer newer.1) ]
      apart_back (inr all) = elim (all b.entry a.entry in_b in_a) [ inl less ↦ absurd (no_same order a.entry b.entry o less key) | inr older ↦ older.1 ]

      above : a.place < b.place → ⊥
      above lt =
          let two = two_at tables contents a.place b.place ca.content cb.content g lt ca.content_is cb.content_is in
          let le : a.level ≤ b.level = let x = level_at tables a.place b.place of_a.placed of_b.placed levels lt of_a.placed_is of_b.placed_is in omega (arith, x, of_a.level, of_b.level) in
          elim (cases_lt a.level b.level) [
            | inl below ↦ broken.1 (two.0 (omega (arith, below, level_a, level_b)) a.entry b.entry in_a in_b key, inl below)
            | inr not ↦ elim (cases_lt 0 a.level) [
              | inl some ↦ broken.1 (apart (two.1 (omega (arith, le, not, level_a, level_b)) (omega (arith, some, level_a))), inr (omega (arith, le, not), inl some))
              | inr none ↦ not_newer (two.2 (omega (arith, none, level_a)) (omega (arith, none, not, level_b)) b.entry a.entry in_b in_a (sym key))
            ]
          ]

      below : b.place < a.place → ⊥
      below lt =
          let two = two_at tables contents b.place a.place cb.content ca.content g lt cb.content_is ca.content_is in
          let le : b.level ≤ a.level = let x = level_at tables b.place a.place of_b.placed of_a.placed levels lt of_b.placed_is of_a.placed_is in omega (arith, x, of_a.level, of_b.level) in
          elim (cases_lt b.level a.level) [
            | inl deeper ↦ not_newer (two.0 (omega (arith, deeper, level_a, level_b)) b.entry a.entry in_b in_a (sym key))
            | inr not ↦ elim (cases_lt 0 a.level) [
              | inl some ↦ broken.1 (apart_back (two.1 (omega (arith, le, not, level_a, level_b)) (omega (arith, some, le, not, level_b))), inr (omega (arith, le, not), inl some))
              | inr none ↦ broken.1 (two.2 (omega (arith, none, not, level_b)) (omega (arith, none, level_a)) a.entry b.entry in_a in_b key, inr (omega (arith, le, not), inr (omega (arith, lt))))
            ]
          ]
