-- Where the entries of a table stand below a key, and those before it.
use Rattle.std.proofs.Common.{◌≡◌, ◌<◌, ◌+◌, ◌++◌, ℕ, zero, suc, true, false, List, [], ◌∷◌, Some, None, length, drop, refl, sym, ap, ◌∙◌, subst, arith}
use Rattle.std.specs.Cmp.{IsTotalOrder}
use Rattle.std.specs.List.{slice_get, AllByRecursion}
use Rattle.std.specs.Ordering.{ordering_reverse}
use Rattle.std.specs.declared.cmp.Ordering.{Ordering}
use Rattle.std.specs.declared.cmp.Ordering.TheVariants.{Less, Equal, Greater}
use Rattle.cursor.specs.Places.{Cmp, Rises, is_below, is_less, leading}
use Rattle.edits.specs.declared.field.PlacedTable.{PlacedTable}
use Rattle.ikey.specs.Below.{IsBelowInternal, key_total, same_key}
use Rattle.ikey.specs.Entries.{InternalEntry}
use Rattle.ikey.specs.Keys.{Key, IsKey, key_cmp}
use Rattle.level_cursor.specs.InRows.{EndsBy, HasList, HaveLists, entries_before, joined}
use Rattle.level_cursor.specs.Searches.{IsFirstTable}
use Rattle.level_cursor.specs.RowLists.{before_zero, item_in, list_at, some_at}
use Rattle.level_cursor.proofs.Lists.{all_at, all_behind, all_pass, leading_through}
use Rattle.table_access.specs.Tables.{Seen}

less_is : (o : Ordering) → is_less o ≡ true → o ≡ Less
less_is Less e = refl
less_is Equal e = let bad : false ≡ true = e in absurd cc
less_is Greater e = let bad : false ≡ true = e in absurd cc

module _ (cmp : Cmp) (total : IsTotalOrder cmp) (key : Key) where
  abbrev IsBelow : InternalEntry → Type 0
  IsBelow entry = is_below cmp key entry ≡ true

  -- what isn't above a key that is below another is below that
  not_above : (a b : Key) → (key_cmp cmp a b ≡ Less → ⊥) → key_cmp cmp a key ≡ Less → key_cmp cmp b key ≡ Less
  not_above a b other less = by (key_cmp cmp a b) refl
    where
      order : IsTotalOrder (key_cmp cmp)
      order = key_total cmp total

      by : (o : Ordering) → key_cmp cmp a b ≡ o → key_cmp cmp b key ≡ Less
      by Less e = absurd (other e)
      by Equal e = sym (order.congr a b key e) ∙ less
      by Greater e = order.trans b a key (order.antisymm b a ∙ ap ordering_reverse e) less

  ends_below : (largest target : List ℕ) (entries : List InternalEntry) → IsKey target key → IsBelowInternal cmp largest target → EndsBy cmp largest entries
      → AllByRecursion (λ (entry : InternalEntry). (bytes : List ℕ) × IsKey bytes entry.key) entries → AllByRecursion IsBelow entries
  ends_below largest target [] is below ends bytes = tt
  ends_below largest target (entry ∷ entries) is below ends bytes =
      let same : below.1 ≡ key = same_key target below.1 key below.3 is in
      let less : key_cmp cmp below.0 key ≡ Less = subst (λ (k : Key). key_cmp cmp below.0 k ≡ Less) same below.4 in
      let first = not_above below.0 entry.key (λ e. ends.0 bytes.0.0 bytes.0.1 (below.0, entry.key, below.2, bytes.0.1, e)) less in
      (ap is_less first, ends_below largest target entries is below ends.1 bytes.1)

  pub list_below : (source : Seen) (placed : PlacedTable) (target : List ℕ) (list : List InternalEntry) → IsKey target key → IsBelowInternal cmp placed.table.largest target → HasList cmp source placed list
      → AllByRecursion IsBelow list
  list_below source placed target list is below h =
      ends_below placed.table.largest target list is below h.ends h.spelled.keyed

  -- ---- those in front

  rises_apart : (xs ys : List InternalEntry) (i j : ℕ) (e f : InternalEntry) → Rises cmp (xs ++ ys) → slice_get xs i ≡ Some e → slice_get ys j ≡ Some f → key_cmp cmp e.key f.key ≡ Less
  rises_apart [] ys i j e f h at there = absurd (let bad : None ≡ Some e = at in cc)
  rises_apart (x ∷ xs) ys zero j e f h at there =
      let s : x ≡ e = let t : Some x ≡ Some e = at in cc in
      let less = all_at (λ (later : InternalEntry). key_cmp cmp x.key later.key ≡ Less) ys j f (all_behind (λ (later : InternalEntry). key_cmp cmp x.key later.key ≡ Less) xs ys h.0) there in
      subst (λ (y : InternalEntry). key_cmp cmp y.key f.key ≡ Less) s less
  rises_apart (x ∷ xs) ys (suc i) j e f h at there = rises_apart xs ys i j e f h.1 at there

  rises_behind : (xs ys : List InternalEntry) → Rises cmp (xs ++ ys) → Rises cmp ys
  rises_behind [] ys h = h
  rises_behind (x ∷ xs) ys h = rises_behind xs ys h.1

  all_of : (xs : List InternalEntry) → ((i : ℕ) (e : InternalEntry) → slice_get xs i ≡ Some e → IsBelow e) → AllByRecursion IsBelow xs
  all_of [] h = tt
  all_of (x ∷ xs) h = (h 0 x refl, all_of xs (λ i e at. h (suc i) e at))

  -- Where the entries of a list that has some are below the key, so are all before it.
  pub front_below : (lists : List (List InternalEntry)) (k : ℕ) (list : List InternalEntry) → Rises cmp (joined lists) → slice_get lists k ≡ Some list → 0 < length list → AllByRecursion IsBelow list
      → leading (is_below cmp key) (joined lists) ≡ entries_before lists (suc k) + leading (is_below cmp key) (joined (drop (suc k) lists))
  unfolding entries_before
  front_below [] k list rises e some all = absurd (let bad : None ≡ Some list = e in cc)
  front_below (x ∷ lists) zero list rises e some all =
      let s : list ≡ x = let t : Some x ≡ Some list = e in cc in
      let whole = leading_through (is_below cmp key) x (joined lists) (all_pass (is_below cmp key) x (subst (AllByRecursion IsBelow) s all)) in
      let none = before_zero lists in
      omega (arith, whole, none)
  front_below (x ∷ lists) (suc k) list rises e some all =
      let f = some_at list 0 some in
      let there = item_in lists k list 0 f.0 e f.1 in
      let below : key_cmp cmp f.0.key key ≡ Less = less_is (key_cmp cmp f.0.key key) (all_at IsBelow list 0 f.0 all f.1) in
      let each = all_of x (λ i entry at. ap is_less ((key_total cmp total).trans entry.key f.0.key key (rises_apart x (joined lists) i (entries_before lists k + 0) entry f.0 rises at there) below)) in
      let whole = leading_through (is_below cmp key) x (joined lists) (all_pass (is_below cmp key) x each) in
      let rest = front_below lists k list (rises_behind x (joined lists) rises) e some all in
      omega (arith, whole, rest)

  -- A seek that begins at the first table that doesn't end below the key finds the first entry that
  -- isn't below it.
  pub reaches : (source : Seen) (row : List PlacedTable) (lists : List (List InternalEntry)) (target : List ℕ) (start : ℕ) → IsKey target key → HaveLists cmp source row lists → Rises cmp (joined lists)
      → IsFirstTable cmp target row start → leading (is_below cmp key) (joined lists) ≡ entries_before lists start + leading (is_below cmp key) (joined (drop start lists))
  reaches source row lists target zero is have rises first = let none = before_zero lists in omega (arith, none)
  reaches source row lists target (suc k) is have rises first =
      let inside = first.inside in
      let placed = some_at row k (omega (arith, inside)) in
      let one = list_at cmp source row lists k placed.0 have placed.1 in
      front_below lists k one.0 rises one.1 one.2.spelled.some (list_below source placed.0 target one.0 is (first.front k placed.0 refl placed.1) one.2)
