-- What a search by places finds in the sources of a version.
use Rattle.std.proofs.Common.{◌≡◌, ◌⊎◌, inl, inr, ◌==◌, ◌+◌, ◌-◌, ◌<◌, ◌≤◌, ℕ, zero, suc, Bool, true, false, cond, Option, None, List, [], ◌∷◌, ◌++◌, length, map, reverse, get_or, refl, sym, ap, ◌∙◌, subst, arith}
use Rattle.std.proofs.lemmas.Bool.{cases_lt, and_from}
use Rattle.std.proofs.lemmas.List.{get_or_append_left, get_or-append-add, get_or-reverse, length-reverse, length-map, length-append, map-append}
use Rattle.std.specs.List.{AllByRecursion, AllWithin}
use Rattle.std.specs.Cmp.{IsTotalOrder}
use Rattle.std.specs.FinMap.{IsAntisymmetric}
use Rattle.std.specs.Ordering.{is_le}
use Rattle.ikey.specs.declared.entry.Entry.{Entry}
use Rattle.ikey.specs.Entries.{internal_key_of}
use Rattle.ikey.specs.Keys.{IsFirstKey}
use Rattle.ikey.specs.Orders.{Order}
use Rattle.ikey.specs.Sources.{joined, IsAnswer, AreInRow, ComesBefore, ComesBeforeSought}
use Rattle.ikey.specs.Views.{Among, IsUnseen}
use Rattle.ikey.proofs.SearchedSources as sources
use Rattle.edits.specs.declared.field.PlacedTable.{PlacedTable}
use Rattle.recover.specs.internal.Checks.{content_of}
use Rattle.recover.specs.Tables.{TableContent, InTables}
use Rattle.versions.specs.Levels.{tables_at}
use Rattle.versions.specs.Ranges.{covers, is_up_to, user_of, first_user, last_user}
use Rattle.versions.specs.Searches.{EndsBelow, IsTableFor, IsSearchedAt}
use Rattle.versions.proofs.Keys.{user_of_key, up_refl, true_or_false}
use Rattle.version_laws.specs.Laws.{SearchedLaw, AnsweredLaw, PassedLaw}
use Rattle.version_laws.specs.Places.{contents_at, lists_of, table_sources, FitVersion, FitsEdit}
use Rattle.version_laws.proofs.Orders.{placed_of, not_itself}
use Rattle.version_laws.proofs.Sought.{all_before, last_not, ends_or_not}

-- ---- tables and their contents, side by side

placed_at : (level : ℕ) (contents : List TableContent) → placed_of (contents_at level contents) ≡ tables_at level (placed_of contents)
placed_at level [] = refl
placed_at level (c ∷ contents) = by (c.placed.level == level) (placed_at level contents)
  where
    by : (b : Bool) → placed_of (contents_at level contents) ≡ tables_at level (placed_of contents)
        → placed_of (cond b (c ∷ contents_at level contents) (contents_at level contents)) ≡ cond b (c.placed ∷ tables_at level (placed_of contents)) (tables_at level (placed_of contents))
    by true e = ap (λ (ps : List PlacedTable). c.placed ∷ ps) e
    by false e = e

abbrev Fit : Order → List TableContent → Type 0
Fit order contents = AllByRecursion (FitsEdit order) contents

fit_at : (order : Order) (level : ℕ) (contents : List TableContent) → Fit order contents → Fit order (contents_at level contents)
fit_at order level [] h = tt
fit_at order level (c ∷ contents) h = by (c.placed.level == level) (fit_at order level contents h.1)
  where
    by : (b : Bool) → Fit order (contents_at level contents) → Fit order (cond b (c ∷ contents_at level contents) (contents_at level contents))
    by true g = (h.0, g)
    by false g = g

-- a table of a level is one of all
in_all : (level : ℕ) (contents : List TableContent) (c : TableContent) → InTables (contents_at level contents) c → InTables contents c
in_all level [] c i = i
in_all level (x ∷ contents) c i = by (x.placed.level == level) (in_all level contents c) i
  where
    by : (b : Bool) → (InTables (contents_at level contents) c → InTables contents c) → InTables (cond b (x ∷ contents_at level contents) (contents_at level contents)) c → InTables (x ∷ contents) c
    by true rest (inl e) = inl e
    by true rest (inr j) = inr (rest j)
    by false rest j = inr (rest j)

in_middle : (before : List TableContent) (c : TableContent) (behind : List TableContent) → InTables (before ++ c ∷ behind) c
in_middle [] c behind = inl refl
in_middle (t ∷ before) c behind = inr (in_middle before c behind)

-- the table between those in front and those after is one of all
in_parted : (level : ℕ) (contents before : List TableContent) (c : TableContent) (behind : List TableContent) → contents_at level contents ≡ before ++ c ∷ behind → InTables contents c
in_parted level contents before c behind e = in_all level contents c (subst (λ (ts : List TableContent). InTables ts c) (sym e) (in_middle before c behind))

-- the table at an index, those before it, and those after it
split_at : (P : PlacedTable → Type 0) (own : List TableContent) (i : ℕ) → i < length (placed_of own) → AllWithin P (placed_of own) 0 i
    → (before : List TableContent) × (c : TableContent) × (behind : List TableContent) × (own ≡ before ++ c ∷ behind) × ((d : PlacedTable) → get_or (placed_of own) i d ≡ c.placed) × ((d : List Entry) → get_or (lists_of own) i d ≡ c.entries) × AllByRecursion (λ (t : TableContent). P t.placed) before
split_at P [] i lt within = absurd (omega (arith, lt))
split_at P (c ∷ own) zero lt within = ([], c, own, refl, λ d. refl, λ d. refl, tt)
split_at P (c ∷ own) (suc i) lt within =
    let rest = split_at P own i (omega (arith, lt)) (λ k d low high. within (suc k) d (omega arith) (omega (arith, high))) in
    (c ∷ rest.0, rest.1, rest.2, ap (λ (ts : List TableContent). c ∷ ts) rest.3, rest.4, rest.5, (within 0 c.placed (omega arith) (omega arith), rest.6))

holds_front : (before : List TableContent) (c : TableContent) (behind : List TableContent) (d : PlacedTable) → get_or (placed_of (before ++ c ∷ behind)) (length before) d ≡ c.placed
holds_front [] c behind d = refl
holds_front (t ∷ before) c behind d = holds_front before c behind d

within_front : (P : PlacedTable → Type 0) (before : List TableContent) (c : TableContent) (behind : List TableContent) → AllByRecursion (λ (t : TableContent). P t.placed) before → AllWithin P (placed_of (before ++ c ∷ behind)) 0 (length before)
within_front P [] c behind h k d low high = absurd (omega (arith, high))
within_front P (t ∷ before) c behind h zero d low high = h.0
within_front P (t ∷ before) c behind h (suc k) d low high = within_front P before c behind h.1 k d (omega arith) (omega (arith, high))

front_length : (before : List TableContent) (c : TableContent) (behind : List TableContent) → length before < length (placed_of (before ++ c ∷ behind))
front_length [] c behind = omega arith
front_length (t ∷ before) c behind = omega (arith, front_length before c behind)

fit_front : (order : Order) (before : List TableContent) (c : TableContent) (behind : List TableContent) → Fit order (before ++ c ∷ behind) → Fit order before × FitsEdit order c
fit_front order [] c behind h = (tt, h.0)
fit_front order (t ∷ before) c behind h = let rest = fit_front order before c behind h.1 in ((h.0, rest.0), rest.1)

-- ---- the six deeper levels

deeper : (f : ℕ → List Entry) (n : ℕ) → n < 6 → get_or (map f (1 ∷ 2 ∷ 3 ∷ 4 ∷ 5 ∷ 6 ∷ [])) n [] ≡ f (n + 1)
deeper f zero h = refl
deeper f (suc zero) h = refl
deeper f (suc (suc zero)) h = refl
deeper f (suc (suc (suc zero))) h = refl
deeper f (suc (suc (suc (suc zero)))) h = refl
deeper f (suc (suc (suc (suc (suc zero))))) h = refl
deeper f (suc (suc (suc (suc (suc (suc n)))))) h = absurd (omega (arith, h))

abbrev level_source : List TableContent → ℕ → List Entry
level_source contents level = joined (lists_of (contents_at level contents))

newest_length : (contents : List TableContent) → length (reverse (lists_of (contents_at 0 contents))) ≡ length (tables_at 0 (placed_of contents))
newest_length contents =
    let own = contents_at 0 contents in
    length-reverse (lists_of own) ∙ length-map own (λ (t : TableContent). t.entries) ∙ sym (length-map own (λ (t : TableContent). t.placed)) ∙ ap length (placed_at 0 contents)

-- the source of a deeper level
at_deeper : (contents : List TableContent) (place above : ℕ) → above < 6 → place ≡ length (tables_at 0 (placed_of contents)) + above → get_or (table_sources contents) place [] ≡ level_source contents (above + 1)
at_deeper contents place above few e =
    let newest = reverse (lists_of (contents_at 0 contents)) in
    let rest = map (level_source contents) (1 ∷ 2 ∷ 3 ∷ 4 ∷ 5 ∷ 6 ∷ []) in
    let at : place ≡ length newest + above = e ∙ ap (λ (n : ℕ). n + above) (sym (newest_length contents)) in
    ap (λ (n : ℕ). get_or (newest ++ rest) n []) at ∙ get_or-append-add newest rest above [] ∙ deeper (level_source contents) above few

-- the source of a table of level 0
at_newest : (contents : List TableContent) (place : ℕ) → place < length (tables_at 0 (placed_of contents))
    → get_or (table_sources contents) place [] ≡ get_or (lists_of (contents_at 0 contents)) (length (tables_at 0 (placed_of contents)) - 1 - place) []
at_newest contents place lt =
    let own = lists_of (contents_at 0 contents) in
    let rest = map (level_source contents) (1 ∷ 2 ∷ 3 ∷ 4 ∷ 5 ∷ 6 ∷ []) in
    let long : length own ≡ length (tables_at 0 (placed_of contents)) = sym (length-reverse own) ∙ newest_length contents in
    get_or_append_left (reverse own) rest [] place (omega (arith, lt, newest_length contents))
    ∙ get_or-reverse own place [] (omega (arith, lt, long))
    ∙ ap (λ (n : ℕ). get_or own (n - 1 - place) []) long

-- ---- keys of a table

-- an entry's key lies between those of its table
up_to : (order : Order) → IsTotalOrder order.cmp → (a b : Entry) → (b ≡ a) ⊎ ComesBefore order a b → is_up_to order.cmp a.key b.key ≡ true
up_to order o a b (inl same) = ap (λ (e : Entry). is_up_to order.cmp a.key e.key) same ∙ up_refl order.cmp o a.key
up_to order o a b (inr (inl less)) = ap is_le less
up_to order o a b (inr (inr h)) = ap (λ (k : List ℕ). is_up_to order.cmp a.key k) (sym h.0) ∙ up_refl order.cmp o a.key

from_up : (order : Order) → IsTotalOrder order.cmp → (a b : Entry) → (a ≡ b) ⊎ ComesBefore order a b → is_up_to order.cmp a.key b.key ≡ true
from_up order o a b (inl same) = up_to order o a b (inl (sym same))
from_up order o a b (inr h) = up_to order o a b (inr h)

covered : (order : Order) (content : TableContent) (user key : List ℕ) (e : Entry) → IsTotalOrder order.cmp → user_of key ≡ user → FitsEdit order content → Among content.entries e → e.key ≡ user
    → covers order.cmp content.placed (user_of key) ≡ true
covered order content user key e o is h i same =
    let low = h.smallest.0 in
    let high = h.largest.0 in
    let at : user_of key ≡ e.key = is ∙ sym same in
    let first : first_user content.placed ≡ low.key = user_of_key content.placed.table.smallest (internal_key_of low) h.smallest.2 in
    let last : last_user content.placed ≡ high.key = user_of_key content.placed.table.largest (internal_key_of high) h.largest.2 in
    and_from (is_up_to order.cmp (first_user content.placed) (user_of key)) (is_up_to order.cmp (user_of key) (last_user content.placed))
    ((λ j. is_up_to order.cmp (first j) (at j)) ∙ up_to order o low e (h.smallest.3 e i))
    ((λ j. is_up_to order.cmp (at j) (last j)) ∙ from_up order o e high (h.largest.3 e i))

-- a table that doesn't cover the key has no entry of it
not_covered : (order : Order) (content : TableContent) (user key : List ℕ) (sequence : ℕ) → IsTotalOrder order.cmp → user_of key ≡ user → FitsEdit order content → covers order.cmp content.placed (user_of key) ≡ false
    → IsUnseen content.entries sequence user
not_covered order content user key sequence o is h no' e i same = let t : false ≡ true = sym no' ∙ covered order content user key e o is h i same in cc

-- ---- one level below 0

module _ (order : Order) (o : IsTotalOrder order.cmp) (exact : IsAntisymmetric order.cmp) (user : List ℕ) (sequence : ℕ) (key : List ℕ) (first : IsFirstKey user sequence key) where
  every : (P : Entry → Type 0) (es : List Entry) → ((e : Entry) → Among es e → P e) → AllByRecursion P es
  every P [] h = tt
  every P (e ∷ es) h = (h e (inl refl), every P es (λ f i. h f (inr i)))

  -- tables that end below the key have none but entries that come before what is sought
  passed_tables : (own : List TableContent) → Fit order own → AllByRecursion (λ (t : TableContent). EndsBelow order.cmp key t.placed) own → AllByRecursion (AllByRecursion (ComesBeforeSought order sequence user)) (lists_of own)
  passed_tables [] h g = tt
  passed_tables (t ∷ own) h g = (every (ComesBeforeSought order sequence user) t.entries (all_before order o exact user sequence key first t h.0 g.0), passed_tables own h.1 g.1)

  parts : (before : List TableContent) (c : TableContent) (behind : List TableContent) → lists_of (before ++ c ∷ behind) ≡ lists_of before ++ c.entries ∷ lists_of behind
  parts before c behind = map-append (λ (t : TableContent). t.entries) before (c ∷ behind)

  -- the first table that doesn't end below the key answers for the level
  answered_at : (before : List TableContent) (c : TableContent) (behind : List TableContent) (answer : Option (Option (List ℕ))) → Fit order (before ++ c ∷ behind) → AreInRow order (lists_of (before ++ c ∷ behind))
      → AllByRecursion (λ (t : TableContent). EndsBelow order.cmp key t.placed) before → (EndsBelow order.cmp key c.placed → ⊥) → IsAnswer c.entries sequence user answer
      → IsAnswer (joined (lists_of (before ++ c ∷ behind))) sequence user answer
  answered_at before c behind answer has row below none h =
      let both = fit_front order before c behind has in
      let whole = parts before c behind in
      let Q : List (List Entry) → Type 0 = λ lists. IsAnswer (joined lists) sequence user answer in
      subst Q (sym whole) (sources.row_answer order (lists_of before) c.entries (lists_of behind) both.1.largest.0 sequence user answer o
      (subst (λ (lists : List (List Entry)). AreInRow order lists) whole row) (passed_tables before both.0 below) both.1.largest.1
      (last_not order o exact user sequence key first c both.1 none) h)

  -- the first that doesn't end below the key, if there is one
  find_first : (own : List TableContent) → Fit order own → AllByRecursion (λ (t : TableContent). EndsBelow order.cmp key t.placed) own
      ⊎ ((before : List TableContent) × (c : TableContent) × (behind : List TableContent) × (own ≡ before ++ c ∷ behind) × AllByRecursion (λ (t : TableContent). EndsBelow order.cmp key t.placed) before × (EndsBelow order.cmp key c.placed → ⊥))
  find_first [] h = inl tt
  find_first (t ∷ own) h =
      elim (ends_or_not order o exact user sequence key first t h.0) [
        | inr none ↦ inr ([], t, own, refl, tt, none)
        | inl below ↦ elim (find_first own h.1) [
          | inl all ↦ inl (below, all)
          | inr f ↦ inr (t ∷ f.0, f.1, f.2, ap (λ (ts : List TableContent). t ∷ ts) f.3, (below, f.4), f.5)
        ]
      ]

-- ---- the laws

searched_in : (order : Order) (level i : ℕ) (tables : List PlacedTable) (contents : List TableContent) (placed : PlacedTable) → FitVersion order tables contents → i < length (tables_at level tables)
    → ((d : PlacedTable) → get_or (tables_at level tables) i d ≡ placed) → (entries : List Entry) × InTables contents (content_of placed entries)
searched_in order level i tables contents placed v lt at =
    let own = contents_at level contents in
    let same : placed_of own ≡ tables_at level tables = placed_at level contents ∙ ap (λ (ps : List PlacedTable). tables_at level ps) v.placed in
    let one = split_at (λ (t : PlacedTable). Unit {0}) own i (omega (arith, lt, ap length same)) (λ k d low high. tt) in
    let c = one.1 in
    let here : c.placed ≡ placed = sym (one.4 placed) ∙ ap (λ (ps : List PlacedTable). get_or ps i placed) same ∙ at placed in
    let content : c ≡ content_of placed c.entries = (λ j. record { placed = here j; entries = c.entries }) in
    (c.entries, subst (λ (t : TableContent). InTables contents t) content (in_parted level contents one.0 c one.2 one.3))

pub searched_table : SearchedLaw
searched_table order tables contents key place placed v (inl h, cover) =
    searched_in order 0 (length (tables_at 0 tables) - 1 - place) tables contents placed v (omega (arith, h.0)) h.1
searched_table order tables contents key place placed v (inr h, cover) = searched_in order (h.0 + 1) h.3.0 tables contents placed v h.3.1 h.3.2

pub answered : AnsweredLaw
answered order tables contents user sequence key place placed answer o exact v first (inl h, cover) says =
    let own = contents_at 0 contents in
    let n = length (tables_at 0 tables) in
    let same : placed_of own ≡ tables_at 0 tables = placed_at 0 contents ∙ ap (λ (ps : List PlacedTable). tables_at 0 ps) v.placed in
    let count : length (tables_at 0 (placed_of contents)) ≡ n = ap (λ (ps : List PlacedTable). length (tables_at 0 ps)) v.placed in
    let inside : n - 1 - place < length (placed_of own) = omega (arith, h.0, ap length same) in
    let one = split_at (λ (t : PlacedTable). Unit {0}) own (n - 1 - place) inside (λ k d low high. tt) in
    let c = one.1 in
    let here : c.placed ≡ placed = sym (one.4 placed) ∙ ap (λ (ps : List PlacedTable). get_or ps (n - 1 - place) placed) same ∙ h.1 placed in
    let content : c ≡ content_of placed c.entries = (λ j. record { placed = here j; entries = c.entries }) in
    let mine = subst (λ (t : TableContent). InTables contents t) content (in_parted 0 contents one.0 c one.2 one.3) in
    let at : get_or (table_sources contents) place [] ≡ c.entries =
    at_newest contents place (omega (arith, h.0, count)) ∙ ap (λ (m : ℕ). get_or (lists_of own) (m - 1 - place) []) count ∙ one.5 [] in
    subst (λ (es : List Entry). IsAnswer es sequence user answer) (sym at) (says c.entries mine)
answered order tables contents user sequence key place placed answer o exact v first (inr h, cover) says =
    let above = h.0 in
    let level = above + 1 in
    let own = contents_at level contents in
    let same : placed_of own ≡ tables_at level tables = placed_at level contents ∙ ap (λ (ps : List PlacedTable). tables_at level ps) v.placed in
    let f = subst (λ (ps : List PlacedTable). IsTableFor order.cmp key ps placed) (sym same) h.3 in
    let one = split_at (EndsBelow order.cmp key) own f.0 f.1 f.4 in
    let c = one.1 in
    let here : c.placed ≡ placed = sym (one.4 placed) ∙ f.2 placed in
    let parted = one.3 in
    let whole = subst (λ (ts : List TableContent). Fit order ts) parted (fit_at order level contents v.each) in
    let content : c ≡ content_of placed c.entries = (λ j. record { placed = here j; entries = c.entries }) in
    let mine = subst (λ (t : TableContent). InTables contents t) content (in_parted level contents one.0 c one.2 parted) in
    let row = subst (λ (ts : List TableContent). AreInRow order (lists_of ts)) parted (v.rows level (omega arith)) in
    let none = subst (λ (p : PlacedTable). EndsBelow order.cmp key p → ⊥) (sym here) f.3 in
    let all = answered_at order o exact user sequence key first one.0 c one.2 answer whole row one.6 none (says c.entries mine) in
    let at : get_or (table_sources contents) place [] ≡ joined (lists_of own) = at_deeper contents place above h.1 (h.2 ∙ ap (λ (ps : List PlacedTable). length (tables_at 0 ps) + above) (sym v.placed)) in
    subst (λ (es : List Entry). IsAnswer es sequence user answer) (sym at) (subst (λ (ts : List TableContent). IsAnswer (joined (lists_of ts)) sequence user answer) (sym parted) all)

joined_all : (P : Entry → Type 0) (lists : List (List Entry)) → AllByRecursion (AllByRecursion P) lists → (e : Entry) → Among (joined lists) e → P e
joined_all P [] h e i = absurd i
joined_all P (xs ∷ lists) h e i = elim (sources.among_split xs (joined lists) e i) [
  | inl j ↦ one xs h.0 j
  | inr j ↦ joined_all P lists h.1 e j
]
  where
    one : (es : List Entry) → AllByRecursion P es → Among es e → P e
    one [] g k = absurd k
    one (x ∷ es) g (inl same) = subst P (sym same) g.0
    one (x ∷ es) g (inr k) = one es g.1 k

past : (xs : List (List Entry)) (i : ℕ) → length xs ≤ i → get_or xs i [] ≡ []
past [] i le = refl
past (x ∷ xs) zero le = absurd (omega (arith, le))
past (x ∷ xs) (suc i) le = past xs i (omega (arith, le))

source_count : (contents : List TableContent) → length (table_sources contents) ≡ length (tables_at 0 (placed_of contents)) + 6
source_count contents =
    length-append (reverse (lists_of (contents_at 0 contents))) (map (level_source contents) (1 ∷ 2 ∷ 3 ∷ 4 ∷ 5 ∷ 6 ∷ [])) ∙ ap (λ (n : ℕ). n + 6) (newest_length contents)

-- a table of level 0 that isn't searched
passed_newest : (order : Order) (tables : List PlacedTable) (contents : List TableContent) (user : List ℕ) (sequence : ℕ) (key : List ℕ) (place : ℕ) → IsTotalOrder order.cmp → FitVersion order tables contents
    → user_of key ≡ user → ((placed : PlacedTable) → IsSearchedAt order.cmp key tables place placed → ⊥) → place < length (tables_at 0 tables) → IsUnseen (get_or (table_sources contents) place []) sequence user
passed_newest order tables contents user sequence key place o v is none lt =
    let own = contents_at 0 contents in
    let n = length (tables_at 0 tables) in
    let same : placed_of own ≡ tables_at 0 tables = placed_at 0 contents ∙ ap (λ (ps : List PlacedTable). tables_at 0 ps) v.placed in
    let count : length (tables_at 0 (placed_of contents)) ≡ n = ap (λ (ps : List PlacedTable). length (tables_at 0 ps)) v.placed in
    let inside : n - 1 - place < length (placed_of own) = omega (arith, lt, ap length same) in
    let one = split_at (λ (t : PlacedTable). Unit {0}) own (n - 1 - place) inside (λ k d low high. tt) in
    let c = one.1 in
    let mine = (fit_front order one.0 c one.2 (subst (λ (ts : List TableContent). Fit order ts) one.3 (fit_at order 0 contents v.each))).1 in
    let at : get_or (table_sources contents) place [] ≡ c.entries =
    at_newest contents place (omega (arith, lt, count)) ∙ ap (λ (m : ℕ). get_or (lists_of own) (m - 1 - place) []) count ∙ one.5 [] in
    subst (λ (es : List Entry). IsUnseen es sequence user) (sym at) (elim (true_or_false (covers order.cmp c.placed (user_of key))) [
      | inl cover ↦ absurd (none c.placed (inl (lt, λ d. ap (λ (ps : List PlacedTable). get_or ps (n - 1 - place) d) (sym same) ∙ one.4 d), cover))
      | inr other ↦ not_covered order c user key sequence o is mine other
    ])

-- a deeper level of which no table is searched
passed_level : (order : Order) (tables : List PlacedTable) (contents : List TableContent) (user : List ℕ) (sequence : ℕ) (key : List ℕ) (place above : ℕ) → IsTotalOrder order.cmp → IsAntisymmetric order.cmp → FitVersion order tables contents
    → IsFirstKey user sequence key → user_of key ≡ user → ((placed : PlacedTable) → IsSearchedAt order.cmp key tables place placed → ⊥) → above < 6 → place ≡ length (tables_at 0 tables) + above
    → IsUnseen (level_source contents (above + 1)) sequence user
passed_level order tables contents user sequence key place above o exact v first is none few e =
    let level = above + 1 in
    let own = contents_at level contents in
    let same : placed_of own ≡ tables_at level tables = placed_at level contents ∙ ap (λ (ps : List PlacedTable). tables_at level ps) v.placed in
    let hasown = fit_at order level contents v.each in
    elim (find_first order o exact user sequence key first own hasown) [
      | inl all ↦ λ entry i is_user.
          elim (joined_all (ComesBeforeSought order sequence user) (lists_of own) (passed_tables order o exact user sequence key first own hasown all) entry i) [
            | inl less ↦ absurd (not_itself order entry.key user o is_user less)
            | inr h ↦ h.1
          ]
      | inr f ↦
          let before = f.0 in
          let c = f.1 in
          let behind = f.2 in
          let parted = f.3 in
          let whole = subst (λ (ts : List TableContent). Fit order ts) parted hasown in
          let row = subst (λ (ts : List TableContent). AreInRow order (lists_of ts)) parted (v.rows level (omega arith)) in
          let mine = (fit_front order before c behind whole).1 in
          let here : placed_of (before ++ c ∷ behind) ≡ tables_at level tables = ap placed_of (sym parted) ∙ same in
          let found : IsTableFor order.cmp key (tables_at level tables) c.placed =
          subst (λ (ps : List PlacedTable). IsTableFor order.cmp key ps c.placed) here
          (length before, front_length before c behind, holds_front before c behind, f.5, within_front (EndsBelow order.cmp key) before c behind f.4) in
          let unseen : IsUnseen c.entries sequence user = elim (true_or_false (covers order.cmp c.placed (user_of key))) [
            | inl cover ↦ absurd (none c.placed (inr (above, few, e, found), cover))
            | inr other ↦ not_covered order c user key sequence o is mine other
          ] in
          subst (λ (ts : List TableContent). IsUnseen (joined (lists_of ts)) sequence user) (sym parted)
          (answered_at order o exact user sequence key first before c behind None whole row f.4 f.5 unseen)
    ]

pub passed : PassedLaw
passed order tables contents user sequence key place o exact v first none =
    let is : user_of key ≡ user = user_of_key key first.key first.encoded ∙ first.user_is in
    let n = length (tables_at 0 tables) in
    let count : length (tables_at 0 (placed_of contents)) ≡ n = ap (λ (ps : List PlacedTable). length (tables_at 0 ps)) v.placed in
    elim (cases_lt place n) [
      | inl lt ↦ passed_newest order tables contents user sequence key place o v is none lt
      | inr le ↦ elim (cases_lt (place - n) 6) [
        | inl few ↦
            let e : place ≡ n + (place - n) = omega (arith, le) in
            subst (λ (es : List Entry). IsUnseen es sequence user) (sym (at_deeper contents place (place - n) few (omega (arith, le, count))))
            (passed_level order tables contents user sequence key place (place - n) o exact v first is none few e)
        | inr many ↦ subst (λ (es : List Entry). IsUnseen es sequence user) (sym (past (table_sources contents) place (omega (arith, le, many, count, source_count contents)))) (λ entry i same. absurd i)
      ]
    ]
