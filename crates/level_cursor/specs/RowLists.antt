-- The lists of tables in a row, and the entries in them.
use Rattle.std.specs.Prelude.{◌≡◌, ◌<◌, ◌+◌, ◌++◌, ℕ, zero, suc, List, [], ◌∷◌, Some, None, Contains, length}
use Rattle.std.specs.List.{slice_get}
use Rattle.std.proofs.Common.{refl, ap, ◌∙◌, subst, arith}
use Rattle.cursor.specs.Places.{Cmp}
use Rattle.edits.specs.declared.field.PlacedTable.{PlacedTable}
use Rattle.ikey.specs.Below.{same_key}
use Rattle.ikey.specs.Entries.{InternalEntry}
use Rattle.ikey.specs.Keys.{Key, IsKey}
use Rattle.level_cursor.specs.InRows.{HasList, HaveLists, entries_before, joined}
use Rattle.table_access.specs.Tables.{Seen}

-- ---- one list

pub is_first : {A : Type 0} (x : A) (xs : List A) → Contains (x ∷ xs) x
is_first x xs = (0, omega arith, refl)

pub is_later : {A : Type 0} (x y : A) (xs : List A) → Contains xs y → Contains (x ∷ xs) y
is_later x y xs i = (suc i.0, (let l = i.1 in omega (arith, l)), i.2)

pub member_at : {A : Type 0} (xs : List A) (n : ℕ) (x : A) → slice_get xs n ≡ Some x → Contains xs x
member_at [] n x e = absurd (let bad : None ≡ Some x = e in cc)
member_at {A} (y ∷ xs) zero x e = let s : y ≡ x = let t : Some y ≡ Some x = e in cc in subst (λ (z : A). Contains (y ∷ xs) z) s (is_first y xs)
member_at (y ∷ xs) (suc n) x e = is_later y x xs (member_at xs n x e)

pub some_at : {A : Type 0} (xs : List A) (n : ℕ) → n < length xs → (x : A) × (slice_get xs n ≡ Some x)
some_at [] n h = absurd (omega (arith, h))
some_at (x ∷ xs) zero h = (x, refl)
some_at (x ∷ xs) (suc n) h = some_at xs n (omega (arith, h))

pub in_front : {A : Type 0} (xs ys : List A) (n : ℕ) (x : A) → slice_get xs n ≡ Some x → slice_get (xs ++ ys) n ≡ Some x
in_front [] ys n x e = absurd (let bad : None ≡ Some x = e in cc)
in_front (y ∷ xs) ys zero x e = e
in_front (y ∷ xs) ys (suc n) x e = in_front xs ys n x e

pub behind : {A : Type 0} (xs ys : List A) (n m : ℕ) → m ≡ length xs + n → slice_get (xs ++ ys) m ≡ slice_get ys n
behind [] ys n m e = ap (slice_get ys) (let t : m ≡ n = omega (arith, e) in t)
behind (x ∷ xs) ys n zero e = absurd (omega (arith, e))
behind (x ∷ xs) ys n (suc m) e = behind xs ys n m (omega (arith, e))

-- the number of the last of some
pub last_of : (n : ℕ) → 0 < n → (m : ℕ) × (suc m ≡ n)
last_of zero h = absurd (omega (arith, h))
last_of (suc m) h = (m, refl)

-- ---- all lists

pub before_zero : (lists : List (List InternalEntry)) → entries_before lists 0 ≡ 0
unfolding entries_before
before_zero [] = refl
before_zero (list ∷ lists) = refl

pub before_more : (lists : List (List InternalEntry)) (i : ℕ) (list : List InternalEntry) → slice_get lists i ≡ Some list → entries_before lists (suc i) ≡ entries_before lists i + length list
unfolding entries_before
before_more [] i list e = absurd (let bad : None ≡ Some list = e in cc)
before_more (x ∷ lists) zero list e =
    let s : x ≡ list = let t : Some x ≡ Some list = e in cc in
    omega (arith, before_zero lists, ap (length {A = InternalEntry}) s)
before_more (x ∷ lists) (suc i) list e = let h = before_more lists i list e in omega (arith, h)

pub item_in : (lists : List (List InternalEntry)) (i : ℕ) (list : List InternalEntry) (j : ℕ) (entry : InternalEntry) → slice_get lists i ≡ Some list → slice_get list j ≡ Some entry
    → slice_get (joined lists) (entries_before lists i + j) ≡ Some entry
unfolding entries_before
item_in [] i list j entry e f = absurd (let bad : None ≡ Some list = e in cc)
item_in (x ∷ lists) zero list j entry e f =
    let s : x ≡ list = let t : Some x ≡ Some list = e in cc in
    let start : 0 + j ≡ j = omega arith in
    ap (slice_get (x ++ joined lists)) start ∙ in_front x (joined lists) j entry (ap (λ (l : List InternalEntry). slice_get l j) s ∙ f)
item_in (x ∷ lists) (suc i) list j entry e f =
    behind x (joined lists) (entries_before lists i + j) (length x + entries_before lists i + j) (omega arith) ∙ item_in lists i list j entry e f

-- ---- the lists of tables

module _ (cmp : Cmp) where
  pub list_at : (source : Seen) (tables : List PlacedTable) (lists : List (List InternalEntry)) (i : ℕ) (placed : PlacedTable) → HaveLists cmp source tables lists → slice_get tables i ≡ Some placed
      → (list : List InternalEntry) × (slice_get lists i ≡ Some list) × HasList cmp source placed list
  list_at source [] [] i placed h e = absurd (let bad : None ≡ Some placed = e in cc)
  list_at source [] (list ∷ lists) i placed h e = absurd h
  list_at source (p ∷ tables) [] i placed h e = absurd h
  list_at source (p ∷ tables) (list ∷ lists) zero placed h e =
      let s : p ≡ placed = let t : Some p ≡ Some placed = e in cc in
      (list, refl, subst (λ (q : PlacedTable). HasList cmp source q list) s h.0)
  list_at source (p ∷ tables) (list ∷ lists) (suc i) placed h e = list_at source tables lists i placed h.1 e

module _ (cmp : Cmp) (source : Seen) (row : List PlacedTable) (lists : List (List InternalEntry)) (have : HaveLists cmp source row lists) where
  -- the keys of a table's edit are those of entries
  pub largest_at : (k : ℕ) (placed : PlacedTable) (key : Key) → slice_get row k ≡ Some placed → IsKey placed.table.largest key
      → (p : ℕ) × (entry : InternalEntry) × (slice_get (joined lists) p ≡ Some entry) × (suc p ≡ entries_before lists (suc k)) × (entry.key ≡ key)
  largest_at k placed key at is =
      let one = list_at cmp source row lists k placed have at in
      let last = last_of (length one.0) one.2.spelled.some in
      let long = last.1 in
      let entry = some_at one.0 last.0 (omega (arith, long)) in
      let more = before_more lists k one.0 one.1 in (
        entries_before lists k + last.0,
        entry.0,
        item_in lists k one.0 last.0 entry.0 one.1 entry.1,
        omega (arith, more, long),
        same_key placed.table.largest entry.0.key key (one.2.keys.last last.0 entry.0 last.1 entry.1) is,
      )

  pub smallest_at : (k : ℕ) (placed : PlacedTable) (key : Key) → slice_get row k ≡ Some placed → IsKey placed.table.smallest key
      → (p : ℕ) × (entry : InternalEntry) × (slice_get (joined lists) p ≡ Some entry) × (p ≡ entries_before lists k) × (entry.key ≡ key)
  smallest_at k placed key at is =
      let one = list_at cmp source row lists k placed have at in
      let entry = some_at one.0 0 one.2.spelled.some in (
        entries_before lists k + 0,
        entry.0,
        item_in lists k one.0 0 entry.0 one.1 entry.1,
        omega arith,
        same_key placed.table.smallest entry.0.key key (one.2.keys.first entry.0 entry.1) is,
      )
