-- The rows of tables that cursors are over, and the sources in which a version is searched.
use Rattle.std.proofs.Common.{◌≡◌, ◌⊎◌, inl, inr, ◌+◌, ◌-◌, ◌++◌, ◌<◌, ◌≤◌, ◌==◌, ℕ, zero, suc, Bool, true, false, cond, List, [], ◌∷◌, drop, length, map, reverse, take, refl, sym, ap, ◌∙◌, subst, arith, append_assoc}
use Rattle.std.specs.Prelude.{nat_lt}
use Rattle.std.specs.List.{AllByRecursion}
use Rattle.std.proofs.lemmas.Bool.{cases_lt}
use Rattle.std.proofs.lemmas.Bool.Decides.{nat_tests}
use Rattle.std.proofs.lemmas.List.{append-nil, length-map, map-append, reverse-append}
use Rattle.edits.specs.declared.field.PlacedTable.{PlacedTable}
use Rattle.ikey.specs.declared.entry.Entry.{Entry}
use Rattle.ikey.specs.Orders.{Order}
use Rattle.ikey.specs.Sources.{AreInRow, AreSearched, IsNewerThan, joined}
use Rattle.recover.specs.Tables.{TableContent}
use Rattle.level_cursor.specs.Rows.{MayBeTables}
use Rattle.table_access.specs.Possible.{MayBeTable}
use Rattle.db_cursor.specs.internal.Rows.{OfRow, Spot, below, deeper_ranges, newest_ranges, range_kept, spots_of}
use Rattle.db_cursor.proofs.Ranges.{level_fits}
use Rattle.version_laws.specs.Places.{FitsEdit, MayHold, contents_at, lists_of, table_sources}
use Rattle.store.specs.Files.{Files}
use Rattle.versions.specs.Levels.{tables_at}

abbrev pub placed_of : List TableContent → List PlacedTable
placed_of contents = map (λ (content : TableContent). content.placed) contents

-- from one index to another
abbrev pub slice : {A : Type 0} → ℕ × ℕ → List A → List A
slice range xs = take (range.1 - range.0) (drop range.0 xs)

-- the entries of the tables there
abbrev pub entries_in : List TableContent → ℕ × ℕ → List Entry
entries_in contents range = joined (lists_of (slice range contents))

-- ---- a list of sources without some that are empty

abbrev pub Kept : List (List Entry) → List (List Entry) → Type 0
Kept xs [] = xs ≡ []
Kept xs (y ∷ ys) = ((y ≡ []) × Kept xs ys) ⊎ ((rest : List (List Entry)) × (xs ≡ y ∷ rest) × Kept rest ys)

kept_all : (xs : List (List Entry)) → Kept xs xs
kept_all [] = refl
kept_all (x ∷ xs) = inr (xs, refl, kept_all xs)

kept_both : (xs ys us vs : List (List Entry)) → Kept xs ys → Kept us vs → Kept (xs ++ us) (ys ++ vs)
kept_both xs [] us vs h k = subst (λ (zs : List (List Entry)). Kept (zs ++ us) vs) (sym h) k
kept_both xs (y ∷ ys) us vs (inl h) k = inl (h.0, kept_both xs ys us vs h.1 k)
kept_both xs (y ∷ ys) us vs (inr h) k = inr (h.0 ++ us, ap (λ (zs : List (List Entry)). zs ++ us) h.1, kept_both h.0 ys us vs h.2 k)

pub kept_joined : (xs ys : List (List Entry)) → Kept xs ys → joined xs ≡ joined ys
kept_joined xs [] h = ap joined h
kept_joined xs (y ∷ ys) (inl h) = kept_joined xs ys h.1 ∙ ap (λ (es : List Entry). es ++ joined ys) (sym h.0)
kept_joined xs (y ∷ ys) (inr h) = ap joined h.1 ∙ ap (λ (es : List Entry). y ++ es) (kept_joined h.0 ys h.2)

pub kept_searched : (xs ys : List (List Entry)) → Kept xs ys → AreSearched ys → AreSearched xs
kept_searched xs [] h s = subst AreSearched (sym h) tt
kept_searched xs (y ∷ ys) (inl h) s = kept_searched xs ys h.1 s.1
kept_searched xs (y ∷ ys) (inr h) s =
    subst AreSearched (sym h.1) (subst (λ (es : List Entry). IsNewerThan y es) (sym (kept_joined h.0 ys h.2)) s.0, kept_searched h.0 ys h.2 s.1)

-- ---- levels

-- the levels rise
abbrev pub LevelsRise : List TableContent → Type 0
LevelsRise [] = Unit {0}
LevelsRise (content ∷ contents) = AllByRecursion (λ (other : TableContent). content.placed.level ≤ other.placed.level) contents × LevelsRise contents

none_below : (low level : ℕ) (contents : List TableContent) → level ≤ low → AllByRecursion (λ (other : TableContent). low ≤ other.placed.level) contents → below level (placed_of contents) ≡ 0
none_below low level [] le h = refl
none_below low level (c ∷ contents) le h =
    let no_less : nat_lt c.placed.level level ≡ false = (let at = h.0 in grind (arith, nat_tests, at, le)) in
    ap (λ (b : Bool). cond b (suc (below level (placed_of contents))) (below level (placed_of contents))) no_less ∙ none_below low level contents le h.1

none_at : (low level : ℕ) (contents : List TableContent) → level < low → AllByRecursion (λ (other : TableContent). low ≤ other.placed.level) contents → contents_at level contents ≡ []
none_at low level [] le h = refl
none_at low level (c ∷ contents) le h =
    let other : (c.placed.level == level) ≡ false = (let at = h.0 in grind (arith, nat_tests, at, le)) in
    ap (λ (b : Bool). cond b (c ∷ contents_at level contents) (contents_at level contents)) other ∙ none_at low level contents le h.1

drop_none : {A : Type 0} (xs : List A) → drop 0 xs ≡ xs
drop_none [] = refl
drop_none (x ∷ xs) = refl

take_none : {A : Type 0} (xs : List A) → take 0 xs ≡ []
take_none [] = refl
take_none (x ∷ xs) = refl

-- the tables of a level come after those of lower ones
pub level_slice : (level : ℕ) (contents : List TableContent) → LevelsRise contents → take (length (contents_at level contents)) (drop (below level (placed_of contents)) contents) ≡ contents_at level contents
level_slice level [] h = refl
level_slice level (c ∷ contents) h = at (level_slice level contents h.1) (nat_lt c.placed.level level) (c.placed.level == level) (grind (arith, nat_tests)) (grind (arith, nat_tests)) (grind (arith, nat_tests))
  where
    at : take (length (contents_at level contents)) (drop (below level (placed_of contents)) contents) ≡ contents_at level contents → (less same : Bool) → (less ≡ true → same ≡ false) → (same ≡ true → level ≤ c.placed.level) → (less ≡ false → same ≡ false → level < c.placed.level)
        → take (length (cond same (c ∷ contents_at level contents) (contents_at level contents))) (drop (cond less (suc (below level (placed_of contents))) (below level (placed_of contents))) (c ∷ contents)) ≡ cond same (c ∷ contents_at level contents) (contents_at level contents)
    at rest true true f g k = let bad : true ≡ false = f refl in absurd cc
    at rest true false f g k = rest
    at rest false true f g k =
        let none = none_below c.placed.level level contents (g refl) h.0 in
        let behind = ap (λ (n : ℕ). take (length (contents_at level contents)) (drop n contents)) (sym none) ∙ rest in
        let front = ap (λ (ts : List TableContent). take (length (contents_at level contents)) ts) (sym (drop_none contents)) ∙ behind in
        ap (λ (n : ℕ). take (suc (length (contents_at level contents))) (drop n (c ∷ contents))) none ∙ ap (λ (ts : List TableContent). c ∷ ts) front
    at rest false false f g k =
        let none = none_at c.placed.level level contents (k refl refl) h.0 in
        ap (λ (ts : List TableContent). take (length ts) (drop (below level (placed_of contents)) (c ∷ contents))) none ∙ take_none (drop (below level (placed_of contents)) (c ∷ contents)) ∙ sym none

-- ---- one table of level 0

pub one_more : {A : Type 0} (xs : List A) (n : ℕ) → n < length xs → (x : A) × (drop n xs ≡ x ∷ drop (suc n) xs) × (take (suc n) xs ≡ take n xs ++ x ∷ [])
one_more [] n less = absurd (omega (arith, less))
one_more (x ∷ xs) zero less = (x, ap (λ (ys : List _). x ∷ ys) (sym (drop_none xs)), ap (λ (ys : List _). x ∷ ys) (take_none xs))
one_more (x ∷ xs) (suc n) less = let rest = one_more xs n (omega (arith, less)) in (rest.0, rest.1, ap (λ (ys : List _). x ∷ ys) rest.2)

single : {A : Type 0} (xs : List A) (n : ℕ) (x : A) → drop n xs ≡ x ∷ drop (suc n) xs → slice (n, suc n) xs ≡ x ∷ []
single xs n x is =
    let one : suc n - n ≡ 1 = omega arith in
    (λ i. take (one i) (is i)) ∙ ap (λ (ys : List _). x ∷ ys) (take_none (drop (suc n) xs))

newest_sources : (contents : List TableContent) (n : ℕ) → n ≤ length contents → map (entries_in contents) (newest_ranges n) ≡ reverse (lists_of (take n contents))
newest_sources contents zero le = sym (ap (λ (ts : List TableContent). reverse (lists_of ts)) (take_none contents))
newest_sources contents (suc n) le =
    let one = one_more contents n (omega (arith, le)) in
    let c = one.0 in
    let here : entries_in contents (n, suc n) ≡ c.entries = ap (λ (ts : List TableContent). joined (lists_of ts)) (single contents n c one.1) ∙ append-nil c.entries in
    let whole : reverse (lists_of (take (suc n) contents)) ≡ c.entries ∷ reverse (lists_of (take n contents)) =
    ap (λ (ts : List TableContent). reverse (lists_of ts)) one.2 ∙ ap reverse (map-append (λ (t : TableContent). t.entries) (take n contents) (c ∷ [])) ∙ reverse-append (lists_of (take n contents)) (c.entries ∷ []) in
    (λ i. here i ∷ newest_sources contents n (omega (arith, le)) i) ∙ sym whole

-- ---- a whole level

-- the levels up to this one, without the first
abbrev deeper_levels : ℕ → List ℕ
deeper_levels zero = []
deeper_levels (suc level) = deeper_levels level ++ suc level ∷ []

abbrev pub level_entries : List TableContent → ℕ → List Entry
level_entries contents level = joined (lists_of (contents_at level contents))

-- the tables between the levels below and those above
abbrev pub level_range : List TableContent → ℕ → ℕ × ℕ
level_range contents level = (below level (placed_of contents), below level (placed_of contents) + length (tables_at level (placed_of contents)))

placed_at : (level : ℕ) (contents : List TableContent) → length (tables_at level (placed_of contents)) ≡ length (contents_at level contents)
placed_at level [] = refl
placed_at level (c ∷ contents) = by (c.placed.level == level) (placed_at level contents)
  where
    by : (b : Bool) → length (tables_at level (placed_of contents)) ≡ length (contents_at level contents)
        → length (cond b (c.placed ∷ tables_at level (placed_of contents)) (tables_at level (placed_of contents))) ≡ length (cond b (c ∷ contents_at level contents) (contents_at level contents))
    by true e = ap suc e
    by false e = e

pub level_is : (level : ℕ) (contents : List TableContent) → LevelsRise contents → slice (level_range contents level) contents ≡ contents_at level contents
level_is level contents h =
    let b = below level (placed_of contents) in
    let n = length (tables_at level (placed_of contents)) in
    let long : b + n - b ≡ length (contents_at level contents) = (let same = placed_at level contents in omega (arith, same)) in
    ap (λ (m : ℕ). take m (drop b contents)) long ∙ level_slice level contents h

kept_range : (contents : List TableContent) (from end : ℕ) → Kept (map (entries_in contents) (range_kept from end)) (entries_in contents (from, end) ∷ [])
kept_range contents from end = elim (cases_lt from end) [
  | inl less ↦
      let some : nat_lt from end ≡ true = grind (arith, nat_tests, less) in
      subst (λ (b : Bool). Kept (map (entries_in contents) (cond b ((from, end) ∷ []) [])) (entries_in contents (from, end) ∷ [])) (sym some) (inr ([], refl, refl))
  | inr le ↦
      let none : nat_lt from end ≡ false = grind (arith, nat_tests, le) in
      let empty : end - from ≡ 0 = omega (arith, le) in
      subst (λ (b : Bool). Kept (map (entries_in contents) (cond b ((from, end) ∷ []) [])) (entries_in contents (from, end) ∷ [])) (sym none)
      (inl (ap (λ (n : ℕ). joined (lists_of (take n (drop from contents)))) empty ∙ ap (λ (ts : List TableContent). joined (lists_of ts)) (take_none (drop from contents)), refl))
]

kept_deeper : (contents : List TableContent) (level : ℕ) → LevelsRise contents → Kept (map (entries_in contents) (deeper_ranges (placed_of contents) level)) (map (level_entries contents) (deeper_levels level))
kept_deeper contents zero h = refl
kept_deeper contents (suc level) h =
    let range = level_range contents (suc level) in
    let own = subst (λ (es : List Entry). Kept (map (entries_in contents) (range_kept range.0 range.1)) (es ∷ [])) (ap (λ (ts : List TableContent). joined (lists_of ts)) (level_is (suc level) contents h)) (kept_range contents range.0 range.1) in
    let both = kept_both _ _ _ _ (kept_deeper contents level h) own in
    subst (λ (xs : List (List Entry)). Kept xs (map (level_entries contents) (deeper_levels (suc level)))) (sym (map-append (entries_in contents) (deeper_ranges (placed_of contents) level) (range_kept range.0 range.1)))
    (subst (λ (ys : List (List Entry)). Kept (map (entries_in contents) (deeper_ranges (placed_of contents) level) ++ map (entries_in contents) (range_kept range.0 range.1)) ys)
    (sym (map-append (level_entries contents) (deeper_levels level) (suc level ∷ []))) both)

-- ---- all of them

few_newest : (contents : List TableContent) → length (tables_at 0 (placed_of contents)) ≤ length contents
few_newest contents = let few = level_fits 0 (placed_of contents) in let long = length-map contents (λ (t : TableContent). t.placed) in omega (arith, few, long)

abbrev pub all_ranges : List PlacedTable → List (ℕ × ℕ)
all_ranges tables = newest_ranges (length (tables_at 0 tables)) ++ deeper_ranges tables 6

-- spots that are added one after another: some, those of the newest tables, and those of the deeper
-- levels
pub spots_together : (tables : List PlacedTable) (front begun added all : List Spot) → begun ≡ front → added ≡ begun ++ spots_of tables (newest_ranges (length (tables_at 0 tables)))
    → all ≡ added ++ spots_of tables (deeper_ranges tables 6) → all ≡ front ++ spots_of tables (all_ranges tables)
spots_together tables front begun added all first second third =
    let newest = newest_ranges (length (tables_at 0 tables)) in
    let deeper = deeper_ranges tables 6 in
    third
    ∙ ap (λ (spots : List Spot). spots ++ spots_of tables deeper) (second ∙ ap (λ (spots : List Spot). spots ++ spots_of tables newest) first)
    ∙ append_assoc front (spots_of tables newest) (spots_of tables deeper)
    ∙ ap (λ (spots : List Spot). front ++ spots) (sym (map-append (λ (range : ℕ × ℕ). OfRow tables range.0 range.1 false) newest deeper))

-- over these ranges lie the sources of a search, but for empty levels
pub kept_sources : (contents : List TableContent) → LevelsRise contents → Kept (map (entries_in contents) (all_ranges (placed_of contents))) (table_sources contents)
kept_sources contents h =
    let n = length (tables_at 0 (placed_of contents)) in
    let same = placed_at 0 contents in
    let none : below 0 (placed_of contents) ≡ 0 = none_below 0 0 contents (omega arith) (all_low contents) in
    let front : take n contents ≡ contents_at 0 contents =
    (λ i. take (same i) (sym (drop_none contents) i)) ∙ ap (λ (m : ℕ). take (length (contents_at 0 contents)) (drop m contents)) (sym none) ∙ level_slice 0 contents h in
    let few : n ≤ length contents = few_newest contents in
    let newest = newest_sources contents n few ∙ ap (λ (ts : List TableContent). reverse (lists_of ts)) front in
    subst (λ (xs : List (List Entry)). Kept xs (table_sources contents)) (sym (map-append (entries_in contents) (newest_ranges n) (deeper_ranges (placed_of contents) 6)))
    (kept_both _ _ _ _ (subst (λ (xs : List (List Entry)). Kept xs (reverse (lists_of (contents_at 0 contents)))) (sym newest) (kept_all (reverse (lists_of (contents_at 0 contents)))))
    (kept_deeper contents 6 h))
  where
    all_low : (ts : List TableContent) → AllByRecursion (λ (other : TableContent). 0 ≤ other.placed.level) ts
    all_low [] = tt
    all_low (t ∷ ts) = (omega arith, all_low ts)

-- ---- what lies over a range

pub may_be_each : (order : Order) (files : Files) (contents : List TableContent) → AllByRecursion (MayHold (MayBeTable order.cmp) files) contents → AllByRecursion (FitsEdit order) contents → MayBeTables order files contents
may_be_each order files [] may fit = tt
may_be_each order files (c ∷ contents) may fit = ((may.0, fit.0), may_be_each order files contents may.1 fit.1)

abbrev pub IsRow : Order → Files → List TableContent → ℕ × ℕ → Type 0
IsRow order files contents range = MayBeTables order files (slice range contents) × AreInRow order (lists_of (slice range contents))

has_front : (order : Order) (files : Files) (contents : List TableContent) (n : ℕ) → MayBeTables order files contents → MayBeTables order files (take n contents)
has_front order files contents zero h = subst (λ (ts : List TableContent). MayBeTables order files ts) (sym (take_none contents)) tt
has_front order files [] (suc n) h = h
has_front order files (c ∷ contents) (suc n) h = (h.0, has_front order files contents n h.1)

has_rest : (order : Order) (files : Files) (contents : List TableContent) (n : ℕ) → MayBeTables order files contents → MayBeTables order files (drop n contents)
has_rest order files contents zero h = subst (λ (ts : List TableContent). MayBeTables order files ts) (sym (drop_none contents)) h
has_rest order files [] (suc n) h = h
has_rest order files (c ∷ contents) (suc n) h = has_rest order files contents n h.1

has_slice : (order : Order) (files : Files) (contents : List TableContent) (range : ℕ × ℕ) → MayBeTables order files contents → MayBeTables order files (slice range contents)
has_slice order files contents range h = has_front order files (drop range.0 contents) (range.1 - range.0) (has_rest order files contents range.0 h)

newest_rows : (order : Order) (files : Files) (contents : List TableContent) (n : ℕ) → n ≤ length contents → MayBeTables order files contents → AllByRecursion (IsRow order files contents) (newest_ranges n)
newest_rows order files contents zero le h = tt
newest_rows order files contents (suc n) le h =
    let one = one_more contents n (omega (arith, le)) in
    let is = single contents n one.0 one.1 in
    let has = has_slice order files contents (n, suc n) h in
    let own = subst (λ (ts : List TableContent). MayBeTables order files ts) is has in (
      (has, subst (λ (ts : List TableContent). AreInRow order (lists_of ts)) (sym is) (own.0.1.sorted, tt, tt)),
      newest_rows order files contents n (omega (arith, le)) h,
    )

all_both : {A : Type 0} (P : A → Type 0) (xs ys : List A) → AllByRecursion P xs → AllByRecursion P ys → AllByRecursion P (xs ++ ys)
all_both P [] ys h k = k
all_both P (x ∷ xs) ys h k = (h.0, all_both P xs ys h.1 k)

deeper_rows : (order : Order) (files : Files) (contents : List TableContent) (level : ℕ) → LevelsRise contents → MayBeTables order files contents → ((above : ℕ) → 0 < above → AreInRow order (lists_of (contents_at above contents)))
    → AllByRecursion (IsRow order files contents) (deeper_ranges (placed_of contents) level)
deeper_rows order files contents zero rise h rows = tt
deeper_rows order files contents (suc level) rise h rows =
    let range = level_range contents (suc level) in
    let own : IsRow order files contents range = (
      has_slice order files contents range h,
      subst (λ (ts : List TableContent). AreInRow order (lists_of ts)) (sym (level_is (suc level) contents rise)) (rows (suc level) (omega arith)),
    ) in
    all_both (IsRow order files contents) (deeper_ranges (placed_of contents) level) (range_kept range.0 range.1) (deeper_rows order files contents level rise h rows) (by (nat_lt range.0 range.1) own)
  where
    by : (b : Bool) → IsRow order files contents (level_range contents (suc level)) → AllByRecursion (IsRow order files contents) (cond b (level_range contents (suc level) ∷ []) [])
    by true own = (own, tt)
    by false own = tt

pub all_rows : (order : Order) (files : Files) (contents : List TableContent) → LevelsRise contents → MayBeTables order files contents → ((above : ℕ) → 0 < above → AreInRow order (lists_of (contents_at above contents)))
    → AllByRecursion (IsRow order files contents) (all_ranges (placed_of contents))
all_rows order files contents rise h rows =
    let n = length (tables_at 0 (placed_of contents)) in
    all_both (IsRow order files contents) (newest_ranges n) (deeper_ranges (placed_of contents) 6) (newest_rows order files contents n (few_newest contents) h) (deeper_rows order files contents 6 rise h rows)
