-- A table that is read from its front.
use Rattle.std.proofs.Common.{◌≡◌, ◌⊎◌, inl, inr, ◌<◌, ◌≤◌, ◌+◌, ℕ, zero, suc, List, [], ◌∷◌, ◌++◌, length, drop, map, Option, Some, None, refl, sym, ap, ◌∙◌, subst, arith, append_assoc}
use Rattle.std.specs.Prelude.{slice_get}
use Rattle.std.specs.Cmp.{IsTotalOrder}
use Rattle.std.specs.declared.cmp.Ordering.TheVariants.{Less}
use Rattle.block.specs.Written.{last_key_from}
use Rattle.edits.specs.declared.field.PlacedTable.{PlacedTable}
use Rattle.ikey.specs.Below.{same_key}
use Rattle.ikey.specs.Entries.{InternalEntry, Pair, IsPair, entry_of}
use Rattle.ikey.specs.Keys.{Key, IsKey}
use Rattle.ikey.specs.Orders.{Order}
use Rattle.ikey.specs.Sources.{ComesBefore, AreSorted}
use Rattle.ikey.specs.Views.{Among}
use Rattle.ikey.specs.declared.entry.Entry.{Entry}
use Rattle.store.specs.Files.{Files}
use Rattle.table.specs.Blocks.{IsBegun}
use Rattle.table.specs.Frame.{Opened}
use Rattle.table.specs.Table.{IsTable, ArePairs}
use Rattle.table.proofs.Begun.{begun_first, begun_whole}
use Rattle.recover.specs.declared.walking.Head.{Head}
use Rattle.recover.specs.declared.walking.TableWalk.{TableWalk}
use Rattle.recover.specs.internal.Checks.{content_of, first_key, Never, IsOnly}
use Rattle.recover.specs.internal.Walking.{stamp, IsHead, IsKeyAt, IsSmallest, AreFirst, Passes, GoesOn}
use Rattle.recover.specs.Tables.{HasTable, internal_key}
use Rattle.recover.proofs.EntryOrder.{before_trans}
use Rattle.recover.proofs.WholeTables.{WasRead, first_is, table_by, spanned_of}

-- ---- pairs and their entries

one_pair : (pair : Pair) (a b : InternalEntry) → IsPair pair a → IsPair pair b → a ≡ b
one_pair pair a b h k =
    let key = same_key pair.key a.key b.key h.key k.key in
    let value : a.value ≡ b.value = sym h.value ∙ k.value in
    λ i. record { key = key i; value = value i }

prefix : (front : List Pair) (kept : List InternalEntry) (tail : List Pair) (all : List InternalEntry) → ArePairs front kept → ArePairs (front ++ tail) all → (others : List InternalEntry) × (all ≡ kept ++ others) × ArePairs tail others
prefix [] [] tail all h k = (all, refl, k)
prefix [] (e ∷ kept) tail all h k = absurd h
prefix (p ∷ front) [] tail all h k = absurd h
prefix (p ∷ front) (e ∷ kept) tail [] h k = absurd k
prefix (p ∷ front) (e ∷ kept) tail (f ∷ all) h k =
    let r = prefix front kept tail all h.1 k.1 in
    let same : f ≡ e = one_pair p f e k.0 h.0 in
    (r.0, (let rest = r.1 in λ i. same i ∷ rest i), r.2)

map_both : (xs ys : List InternalEntry) → map entry_of (xs ++ ys) ≡ map entry_of xs ++ map entry_of ys
map_both [] ys = refl
map_both (x ∷ xs) ys = ap (λ (es : List Entry). entry_of x ∷ es) (map_both xs ys)

pub drop_at : {A : Type 0} (xs : List A) (n : ℕ) (x : A) → slice_get xs n ≡ Some x → drop n xs ≡ x ∷ drop (suc n) xs
drop_at [] n x h = let bad : None ≡ Some x = h in absurd cc
drop_at (y ∷ xs) zero x h = let same : y ≡ x = let both : Some y ≡ Some x = h in cc in λ i. same i ∷ xs
drop_at (y ∷ xs) (suc n) x h = drop_at xs n x h

drop_past : {A : Type 0} (xs : List A) (n : ℕ) → length xs ≤ n → drop n xs ≡ []
drop_past [] zero h = refl
drop_past [] (suc n) h = refl
drop_past (x ∷ xs) zero h = absurd (omega (arith, h))
drop_past (x ∷ xs) (suc n) h = drop_past xs n (omega (arith, h))

-- ---- whatever entries the table has

-- the pairs that were read are the first of them
first_pairs : (order : Order) (files : Files) (placed : PlacedTable) (table : Opened) (next : ℕ) (found : List Pair) (entries : List Entry) → AreFirst order files placed table next found → HasTable order files (content_of placed entries)
    → (kept : List InternalEntry) × (entries ≡ map entry_of kept) × ((rest : List Pair) × ArePairs (found ++ rest) kept)
first_pairs order files placed table next found entries f h =
    let bytes : h.bytes ≡ f.bytes = let both : Some h.bytes ≡ Some f.bytes = sym h.there ∙ f.there in cc in
    let kept = h.spelled.0 in
    let is : IsTable order.cmp f.bytes kept = subst (λ (b : List ℕ). IsTable order.cmp b kept) bytes h.spelled.1 in
    (kept, h.spelled.2, begun_first order.cmp f.bytes table.frame next found kept f.frame f.begun is)

split_first : (pair : Pair) (entry : InternalEntry) (behind : List Pair) (os : List InternalEntry) (xs entries : List Entry) → IsPair pair entry → ArePairs (pair ∷ behind) os → entries ≡ xs ++ map entry_of os
    → (others : List InternalEntry) × (entries ≡ xs ++ entry_of entry ∷ map entry_of others) × ArePairs behind others
split_first pair entry behind [] xs entries is h e = absurd h
split_first pair entry behind (o ∷ os) xs entries is h e =
    let one : o ≡ entry = one_pair pair o entry h.0 is in
    (os, e ∙ ap (λ (x : InternalEntry). xs ++ entry_of x ∷ map entry_of os) one, h.1)

-- what was passed stands before the entry at hand, and what follows after it
around : (order : Order) (files : Files) (placed : PlacedTable) (table : Opened) (next : ℕ) (front : List Pair) (pair : Pair) (tail : List Pair) (kept : List InternalEntry) (entry : InternalEntry) (entries : List Entry)
    → AreFirst order files placed table next (front ++ pair ∷ tail) → ArePairs front kept → IsPair pair entry → HasTable order files (content_of placed entries)
    → (others : List InternalEntry) × (entries ≡ map entry_of kept ++ entry_of entry ∷ map entry_of others) × ((rest : List Pair) × ArePairs (tail ++ rest) others)
around order files placed table next front pair tail kept entry entries f kept_are entry_is h =
    let p = first_pairs order files placed table next (front ++ pair ∷ tail) entries f h in
    let rest = p.2.0 in
    let all : ArePairs (front ++ pair ∷ (tail ++ rest)) p.0 = subst (λ (ps : List Pair). ArePairs ps p.0) (append_assoc front (pair ∷ tail) rest) p.2.1 in
    let r = prefix front kept (pair ∷ (tail ++ rest)) p.0 kept_are all in
    let s = split_first pair entry (tail ++ rest) r.0 (map entry_of kept) entries entry_is r.2 (p.1 ∙ ap (map entry_of) r.1 ∙ map_both kept r.0) in
    (s.0, s.1, (rest, s.2))

among_at : (xs : List Entry) (x : Entry) (ys : List Entry) → Among (xs ++ x ∷ ys) x
among_at [] x ys = inl refl
among_at (y ∷ xs) x ys = inr (among_at xs x ys)

-- so the entry at hand is one of them
pub passes_inside : {K : Type 0} (order : Order) (files : Files) (placed : PlacedTable) (walk : TableWalk K) (passed : List Entry) (here : Entry) → Passes order files placed walk passed here
    → (entries : List Entry) → HasTable order files (content_of placed entries) → Among entries here
passes_inside order files placed walk passed here h entries table =
    let pairs = walk.block.pairs in
    let tail = drop (suc h.at) pairs in
    let F : List Pair → Type 0 = λ ps. AreFirst order files placed walk.table walk.next (h.front ++ ps) in
    let a = around order files placed walk.table walk.next h.front h.pair tail h.kept h.entry entries (subst F (drop_at pairs h.at h.pair h.pair_is) h.first) h.kept_are h.entry_is table in
    let there : Among (map entry_of h.kept ++ entry_of h.entry ∷ map entry_of a.0) (entry_of h.entry) = among_at (map entry_of h.kept) (entry_of h.entry) (map entry_of a.0) in
    let P : Entry → Type 0 = λ e. Among entries e in
    subst P (sym h.here_is) (subst (λ (es : List Entry). Among es (entry_of h.entry)) (sym a.1) there)

-- ---- the next entry

before_head : (order : Order) (head : Head) (here f : Entry) → IsHead head here → ComesBefore order here f → ComesBefore order (stamp head.user.items head.sequence) f
before_head order head here f k (inl less) = let P : List ℕ → Type 0 = λ x. order.cmp x f.key ≡ Less in inl (subst P k.0 less)
before_head order head here f k (inr older) = inr (sym k.0 ∙ older.0, omega (arith, k.1, older.1))

after_head : (order : Order) (head : Head) (here f : Entry) → IsHead head here → ComesBefore order (stamp head.user.items head.sequence) f → ComesBefore order here f
after_head order head here f k (inl less) = let P : List ℕ → Type 0 = λ x. order.cmp x f.key ≡ Less in inl (subst P (sym k.0) less)
after_head order head here f k (inr older) = inr (k.0 ∙ older.0, omega (arith, k.1, older.1))

sorted_at : (order : Order) (xs : List Entry) (a b : Entry) (ys : List Entry) → AreSorted order (xs ++ a ∷ (b ∷ ys)) → ComesBefore order a b
sorted_at order [] a b ys h = h.0 b (inl refl)
sorted_at order (x ∷ xs) a b ys h = sorted_at order xs a b ys h.1

no_rise_by : (order : Order) (placed : PlacedTable) (other : Pair) (behind : List Pair) (xs entries : List Entry) (entry : InternalEntry) (head : Head) (os : List InternalEntry) → ArePairs (other ∷ behind) os
    → entries ≡ xs ++ entry_of entry ∷ map entry_of os → AreSorted order entries → IsHead head (entry_of entry)
    → ((key : Key) → IsKey other.key key → ComesBefore order (stamp head.user.items head.sequence) (stamp key.user key.sequence) → ⊥) → ⊥
no_rise_by order placed other behind xs entries entry head [] k e sorted is none = k
no_rise_by order placed other behind xs entries entry head (o ∷ os) k e sorted is none =
    let s : AreSorted order (xs ++ entry_of entry ∷ (entry_of o ∷ map entry_of os)) = subst (λ (es : List Entry). AreSorted order es) e sorted in
    none o.key k.0.key (before_head order head (entry_of entry) (entry_of o) is (sorted_at order xs (entry_of entry) (entry_of o) (map entry_of os) s))

-- where the next pair's key doesn't come after that at hand, there is no such table
no_rise : (order : Order) (files : Files) (placed : PlacedTable) (table : Opened) (next : ℕ) (front : List Pair) (pair other : Pair) (tail : List Pair) (kept : List InternalEntry) (entry : InternalEntry) (head : Head)
    → AreFirst order files placed table next (front ++ pair ∷ (other ∷ tail)) → ArePairs front kept → IsPair pair entry → IsHead head (entry_of entry)
    → ((key : Key) → IsKey other.key key → ComesBefore order (stamp head.user.items head.sequence) (stamp key.user key.sequence) → ⊥) → IsOnly Never order files placed
no_rise order files placed table next front pair other tail kept entry head f kept_are entry_is is none entries h =
    let a = around order files placed table next front pair (other ∷ tail) kept entry entries f kept_are entry_is h in
    absurd (no_rise_by order placed other (tail ++ a.2.0) (map entry_of kept) entries entry head a.0 a.2.1 a.1 h.sorted is none)

sorted_each : (order : Order) → IsTotalOrder order.cmp → (x a b : Entry) (es : List Entry) → ((other : Entry) → Among es other → ComesBefore order x other) → ComesBefore order x a → ComesBefore order a b
    → (other : Entry) → Among (es ++ b ∷ []) other → ComesBefore order x other
sorted_each order o x a b [] f g k other (inl e) = let P : Entry → Type 0 = λ y. ComesBefore order x y in subst P (sym e) (before_trans order o x a b g k)
sorted_each order o x a b [] f g k other (inr none) = absurd none
sorted_each order o x a b (e ∷ es) f g k other (inl same) = f other (inl same)
sorted_each order o x a b (e ∷ es) f g k other (inr i) = sorted_each order o x a b es (λ y j. f y (inr j)) g k other i

sorted_push : (order : Order) → IsTotalOrder order.cmp → (xs : List Entry) (a b : Entry) → AreSorted order (xs ++ a ∷ []) → ComesBefore order a b → AreSorted order ((xs ++ a ∷ []) ++ b ∷ [])
sorted_push order o [] a b h k = ((λ other i. elim i [ inl e ↦ (let P : Entry → Type 0 = λ f. ComesBefore order a f in subst P (sym e) k) | inr none ↦ absurd none ]), ((λ other i. absurd i), tt))
sorted_push order o (x ∷ xs) a b h k = (sorted_each order o x a b (xs ++ a ∷ []) h.0 (h.0 a (among_at xs a [])) k, sorted_push order o xs a b h.1 k)

first_push : (front : List Pair) (pair other : Pair) (key : List ℕ) → first_key (front ++ pair ∷ []) ≡ Some key → first_key ((front ++ pair ∷ []) ++ other ∷ []) ≡ Some key
first_push [] pair other key h = h
first_push (p ∷ front) pair other key h = h

pairs_push : (front : List Pair) (kept : List InternalEntry) (pair : Pair) (entry : InternalEntry) → ArePairs front kept → IsPair pair entry → ArePairs (front ++ pair ∷ []) (kept ++ entry ∷ [])
pairs_push [] [] pair entry h k = (k, tt)
pairs_push [] (e ∷ kept) pair entry h k = absurd h
pairs_push (p ∷ front) [] pair entry h k = absurd h
pairs_push (p ∷ front) (e ∷ kept) pair entry h k = (h.0, pairs_push front kept pair entry h.1 k)

length_push : (xs : List Entry) (x : Entry) → length (xs ++ x ∷ []) ≡ length xs + 1
length_push [] x = refl
length_push (y ∷ xs) x = let rest : length (xs ++ x ∷ []) ≡ length xs + 1 = length_push xs x in omega (arith, rest)

pub passed_length : (m n : ℕ) (xs : List Entry) (x : Entry) → m ≡ length xs → n ≡ m + 1 → n ≡ length (xs ++ x ∷ [])
passed_length m n xs x h e = let long : length (xs ++ x ∷ []) ≡ length xs + 1 = length_push xs x in omega (arith, h, e, long)

-- where it does, the walk has passed one more
goes_on : {K : Type 0} (order : Order) (o : IsTotalOrder order.cmp) (files : Files) (placed : PlacedTable) (walk new : TableWalk K) (passed : List Entry) (here : Entry) (h : Passes order files placed walk passed here) (other : Pair) (key : Key)
    → (n : ℕ) → new.block.place ≡ Some n → AreFirst order files placed new.table new.next ((h.front ++ h.pair ∷ []) ++ drop n new.block.pairs) → slice_get new.block.pairs n ≡ Some other → IsKey other.key key
    → key.user ≡ new.head.user.items → key.sequence ≡ new.head.sequence → new.passed ≡ walk.passed + 1
    → ComesBefore order (stamp walk.head.user.items walk.head.sequence) (stamp key.user key.sequence) → GoesOn order files placed new passed here
goes_on {K} order o files placed walk new passed here h other key n place first at is user sequence count rises =
    let kept : InternalEntry = record { key = key; value = other.value } in
    let next : Entry = entry_of kept in
    let behind : ComesBefore order here next = after_head order walk.head here next h.head rises in
    let e : passed ++ here ∷ [] ≡ map entry_of (h.kept ++ h.entry ∷ []) = (let a = h.passed_are in let b = h.here_is in λ i. a i ++ b i ∷ []) ∙ sym (map_both h.kept (h.entry ∷ [])) in (
      next,
      record {
        front = h.front ++ h.pair ∷ [];
        at = n;
        at_is = place;
        first = first;
        kept = h.kept ++ h.entry ∷ [];
        kept_are = pairs_push h.front h.kept h.pair h.entry h.kept_are h.entry_is;
        passed_are = e;
        pair = other;
        pair_is = at;
        entry = kept;
        entry_is = record { key = is; value = refl };
        here_is = refl;
        head = (user, sequence);
        sorted = sorted_push order o passed here next h.sorted behind;
        smallest = first_push h.front h.pair other placed.table.smallest h.smallest;
        count = count ∙ ap (λ (n : ℕ). n + 1) h.count ∙ sym (length_push passed here);
      },
      behind,
    )

-- ---- the end

last_push : (previous : Option (List ℕ)) (front : List Pair) (pair : Pair) → last_key_from previous (front ++ pair ∷ []) ≡ Some pair.key
last_push previous [] pair = refl
last_push previous (p ∷ front) pair = last_push (Some p.key) front pair

long_push : (front : List Pair) (pair : Pair) → 0 < length (front ++ pair ∷ [])
long_push [] pair = omega arith
long_push (p ∷ front) pair = omega arith

no_others : (os : List InternalEntry) → ArePairs [] os → os ≡ []
no_others [] h = refl
no_others (x ∷ os) h = absurd h

module _ (order : Order) (o : IsTotalOrder order.cmp) (files : Files) (placed : PlacedTable) (table : Opened) (next : ℕ) (front : List Pair) (pair : Pair) (f : AreFirst order files placed table next (front ++ pair ∷ []))
    (all : length table.frame.places ≤ next) (kept : List InternalEntry) (kept_are : ArePairs front kept) (entry : InternalEntry) (entry_is : IsPair pair entry) where
  -- all of it was read
  was_passed : WasRead order files placed (front ++ pair ∷ []) (map entry_of kept ++ entry_of entry ∷ [])
  was_passed =
      let whole = begun_whole order.cmp f.bytes table.frame next (front ++ pair ∷ []) o all (long_push front pair) f.frame f.begun in
      let r = prefix front kept (pair ∷ []) whole.0 kept_are whole.2 in
      let s = split_first pair entry [] r.0 (map entry_of kept) (map entry_of whole.0) entry_is r.2 (ap (map entry_of) r.1 ∙ map_both kept r.0) in
      let same : map entry_of whole.0 ≡ map entry_of kept ++ entry_of entry ∷ [] = s.1 ∙ ap (λ (os : List InternalEntry). map entry_of kept ++ entry_of entry ∷ map entry_of os) (no_others s.0 s.2) in
      record { numbered = f.numbered; bytes = f.bytes; there = f.there; size = f.size; kept = whole.0; table = whole.1; pairs_are = whole.2; entries_are = sym same }

  whole_table : AreSorted order (map entry_of kept ++ entry_of entry ∷ []) → first_key (front ++ pair ∷ []) ≡ Some placed.table.smallest → pair.key ≡ placed.table.largest
      → HasTable order files (content_of placed (map entry_of kept ++ entry_of entry ∷ []))
  whole_table sorted smallest largest =
      table_by order files placed (front ++ pair ∷ []) (map entry_of kept ++ entry_of entry ∷ []) was_passed (long_push front pair) sorted (smallest, last_push None front pair ∙ ap (λ (k : List ℕ). Some k) largest)

  no_largest : (pair.key ≡ placed.table.largest → ⊥) → IsOnly Never order files placed
  no_largest none entries h =
      let spanned = spanned_of order o files placed (front ++ pair ∷ []) (map entry_of kept ++ entry_of entry ∷ []) entries was_passed h in
      let both : Some pair.key ≡ Some placed.table.largest = sym (last_push None front pair) ∙ spanned.1 in
      let same : pair.key ≡ placed.table.largest = cc in
      absurd (none same)

-- ---- the beginning

first_more : (found rest : List Pair) → 0 < length found → first_key (found ++ rest) ≡ first_key found
first_more [] rest some = absurd (omega (arith, some))
first_more (p ∷ found) rest some = refl

pub no_smallest : (order : Order) → IsTotalOrder order.cmp → (files : Files) (placed : PlacedTable) (table : Opened) (next : ℕ) (found : List Pair) → AreFirst order files placed table next found → 0 < length found
    → (first_key found ≡ Some placed.table.smallest → ⊥) → IsOnly Never order files placed
no_smallest order o files placed table next found f some none entries h =
    let p = first_pairs order files placed table next found entries f h in
    let E : List Entry → Type 0 = λ es. (x : Entry) × Among es x × (internal_key x ≡ placed.table.smallest) × ((other : Entry) → Among es other → (other ≡ x) ⊎ ComesBefore order x other) in
    let first = subst E p.1 h.smallest in
    let sorted : AreSorted order (map entry_of p.0) = subst (λ (es : List Entry). AreSorted order es) p.1 h.sorted in
    let key = first_is order o (found ++ p.2.0) p.0 first.0 p.2.1 sorted first.1 first.3 in
    absurd (none (sym (first_more found p.2.0 some) ∙ key ∙ ap (λ (k : List ℕ). Some k) first.2))

pub no_first_key : (order : Order) (files : Files) (placed : PlacedTable) (table : Opened) (next : ℕ) (found : List Pair) → AreFirst order files placed table next found → 0 < length found
    → ((key : Key) → IsKeyAt found 0 key → ⊥) → IsOnly Never order files placed
no_first_key order files placed table next [] f some none entries h = absurd (omega (arith, some))
no_first_key order files placed table next (p ∷ found) f some none entries h = let a = first_pairs order files placed table next (p ∷ found) entries f h in absurd (by a.0 a.2.0 a.2.1)
  where
    by : (kept : List InternalEntry) (rest : List Pair) → ArePairs (p ∷ (found ++ rest)) kept → ⊥
    by [] rest k = k
    by (e ∷ kept) rest k = none e.key (p, refl, k.0.key)

pub begins : {K : Type 0} (order : Order) (files : Files) (placed : PlacedTable) (walk : TableWalk K) (key : Key) → AreFirst order files placed walk.table walk.next walk.block.pairs → walk.block.place ≡ Some 0 → walk.passed ≡ 0
    → first_key walk.block.pairs ≡ Some placed.table.smallest → IsKeyAt walk.block.pairs 0 key → key.user ≡ walk.head.user.items → key.sequence ≡ walk.head.sequence
    → (here : Entry) × Passes order files placed walk [] here × IsSmallest placed here
begins order files placed walk key first at count smallest is user sequence = by walk.block.pairs refl is smallest
  where
    by : (found : List Pair) → found ≡ walk.block.pairs → IsKeyAt found 0 key → first_key found ≡ Some placed.table.smallest → (here : Entry) × Passes order files placed walk [] here × IsSmallest placed here
    by [] e is small = absurd (let bad : None ≡ Some is.0 = is.1 in cc)
    by (p ∷ found) e is small =
        let same : p ≡ is.0 = let both : Some p ≡ Some is.0 = is.1 in cc in
        let kept : InternalEntry = record { key = key; value = p.value } in
        let here_key : IsKey p.key key = subst (λ (q : Pair). IsKey q.key key) (sym same) is.2 in
        let smallest : p.key ≡ placed.table.smallest = let both : Some p.key ≡ Some placed.table.smallest = small in cc in (
          entry_of kept,
          record {
            front = [];
            at = 0;
            at_is = at;
            first = first;
            kept = [];
            kept_are = tt;
            passed_are = refl;
            pair = p;
            pair_is = ap (λ (ps : List Pair). slice_get ps 0) (sym e);
            entry = kept;
            entry_is = record { key = here_key; value = refl };
            here_is = refl;
            head = (user, sequence);
            sorted = ((λ other i. absurd i), tt);
            smallest = small;
            count = count;
          },
          (key, subst (λ (k : List ℕ). IsKey k key) smallest here_key, refl, refl),
        )

-- ---- the steps of an iteration

module _ {K : Type 0} (order : Order) (o : IsTotalOrder order.cmp) (files : Files) (placed : PlacedTable) (walk : TableWalk K) (passed : List Entry) (here : Entry) (h : Passes order files placed walk passed here) where
  abbrev Pairs : List Pair
  Pairs = walk.block.pairs

  is_head : IsHead walk.head (entry_of h.entry)
  is_head = let P : Entry → Type 0 = λ e. IsHead walk.head e in subst P h.here_is h.head

  -- the next pair of the block
  within : (other : Pair) → slice_get Pairs (h.at + 1) ≡ Some other → AreFirst order files placed walk.table walk.next (h.front ++ h.pair ∷ drop (h.at + 1) Pairs)
  within other at =
      let e : suc h.at ≡ h.at + 1 = omega arith in
      let F : List Pair → Type 0 = λ ps. AreFirst order files placed walk.table walk.next (h.front ++ ps) in
      subst F (drop_at Pairs h.at h.pair h.pair_is ∙ ap (λ (n : ℕ). h.pair ∷ drop n Pairs) e) h.first

  pub stays_within : ((key : Key) → IsKeyAt Pairs (h.at + 1) key → ComesBefore order (stamp walk.head.user.items walk.head.sequence) (stamp key.user key.sequence) → ⊥) → h.at + 1 < length Pairs → IsOnly Never order files placed
  stays_within none lt =
      let at = there Pairs (h.at + 1) lt in
      let F : List Pair → Type 0 = λ ps. AreFirst order files placed walk.table walk.next (h.front ++ h.pair ∷ ps) in
      no_rise order files placed walk.table walk.next h.front h.pair at.0 (drop (suc (h.at + 1)) Pairs) h.kept h.entry walk.head (subst F (drop_at Pairs (h.at + 1) at.0 at.1) (within at.0 at.1)) h.kept_are h.entry_is is_head
      (λ key is. none key (at.0, at.1, is))
    where
      there : (xs : List Pair) (n : ℕ) → n < length xs → (x : Pair) × (slice_get xs n ≡ Some x)
      there [] n lt = absurd (omega (arith, lt))
      there (x ∷ xs) zero lt = (x, refl)
      there (x ∷ xs) (suc n) lt = there xs n (omega (arith, lt))

  pub goes_within : (new : TableWalk K) (key : Key) → new.table ≡ walk.table → new.next ≡ walk.next → new.block.pairs ≡ Pairs → new.block.place ≡ Some (h.at + 1) → new.passed ≡ walk.passed + 1 → IsKeyAt Pairs (h.at + 1) key
      → key.user ≡ new.head.user.items → key.sequence ≡ new.head.sequence → ComesBefore order (stamp walk.head.user.items walk.head.sequence) (stamp key.user key.sequence) → GoesOn order files placed new passed here
  goes_within new key table next pairs at count is user sequence rises =
      let F : Opened → ℕ → List Pair → Type 0 = λ t n ps. AreFirst order files placed t n ((h.front ++ h.pair ∷ []) ++ drop (h.at + 1) ps) in
      let first : F walk.table walk.next Pairs = subst (λ (ps : List Pair). AreFirst order files placed walk.table walk.next ps) (sym (append_assoc h.front (h.pair ∷ []) (drop (h.at + 1) Pairs))) (within is.0 is.1) in
      goes_on order o files placed walk new passed here h is.0 key (h.at + 1) at
      (subst (λ (t : Opened). F t new.next new.block.pairs) (sym table) (subst (λ (n : ℕ). F walk.table n new.block.pairs) (sym next) (subst (λ (ps : List Pair). F walk.table walk.next ps) (sym pairs) first)))
      (subst (λ (ps : List Pair). slice_get ps (h.at + 1) ≡ Some is.0) (sym pairs) is.1) is.2 user sequence count rises

  -- the next block
  across : (next : ℕ) (more : List Pair) → length Pairs ≤ h.at + 1 → ((found : List Pair) → IsBegun order.cmp h.first.bytes walk.table.frame walk.next found → IsBegun order.cmp h.first.bytes walk.table.frame next (found ++ more))
      → AreFirst order files placed walk.table next (h.front ++ h.pair ∷ more)
  across next more past grows =
      let f = h.first in
      let tail : drop (suc h.at) Pairs ≡ [] = drop_past Pairs (suc h.at) (omega (arith, past)) in
      let found : (h.front ++ drop h.at Pairs) ++ more ≡ h.front ++ h.pair ∷ more =
      append_assoc h.front (drop h.at Pairs) more ∙ ap (λ (ps : List Pair). h.front ++ (ps ++ more)) (drop_at Pairs h.at h.pair h.pair_is ∙ ap (λ (ps : List Pair). h.pair ∷ ps) tail) in
      record { numbered = f.numbered; bytes = f.bytes; there = f.there; size = f.size; named = f.named; frame = f.frame; begun = subst (λ (ps : List Pair). IsBegun order.cmp f.bytes walk.table.frame next ps) found (grows (h.front ++ drop h.at Pairs) f.begun) }

  -- none that has pairs follows
  pub ends : (next : ℕ) → length Pairs ≤ h.at + 1 → ((found : List Pair) → IsBegun order.cmp h.first.bytes walk.table.frame walk.next found → IsBegun order.cmp h.first.bytes walk.table.frame next (found ++ [])) → length walk.table.frame.places ≤ next
      → ((pair : Pair) → slice_get Pairs h.at ≡ Some pair → pair.key ≡ placed.table.largest) → HasTable order files (content_of placed (passed ++ here ∷ []))
  ends next past grows all largest =
      let e : passed ++ here ∷ [] ≡ map entry_of h.kept ++ entry_of h.entry ∷ [] = (let a = h.passed_are in let b = h.here_is in λ i. a i ++ b i ∷ []) in
      subst (λ (es : List Entry). HasTable order files (content_of placed es)) (sym e)
      (whole_table order o files placed walk.table next h.front h.pair (across next [] past grows) all h.kept h.kept_are h.entry h.entry_is (subst (λ (es : List Entry). AreSorted order es) e h.sorted) h.smallest (largest h.pair h.pair_is))

  pub ends_not : (next : ℕ) → length Pairs ≤ h.at + 1 → ((found : List Pair) → IsBegun order.cmp h.first.bytes walk.table.frame walk.next found → IsBegun order.cmp h.first.bytes walk.table.frame next (found ++ [])) → length walk.table.frame.places ≤ next
      → ((pair : Pair) → slice_get Pairs h.at ≡ Some pair → pair.key ≡ placed.table.largest → ⊥) → IsOnly Never order files placed
  ends_not next past grows all other = no_largest order o files placed walk.table next h.front h.pair (across next [] past grows) all h.kept h.kept_are h.entry h.entry_is (other h.pair h.pair_is)

  pub stays_across : (next : ℕ) (more : List Pair) → length Pairs ≤ h.at + 1 → ((found : List Pair) → IsBegun order.cmp h.first.bytes walk.table.frame walk.next found → IsBegun order.cmp h.first.bytes walk.table.frame next (found ++ more))
      → 0 < length more → ((key : Key) → IsKeyAt more 0 key → ComesBefore order (stamp walk.head.user.items walk.head.sequence) (stamp key.user key.sequence) → ⊥) → IsOnly Never order files placed
  stays_across next [] past grows some none = absurd (omega (arith, some))
  stays_across next (p ∷ more) past grows some none =
      no_rise order files placed walk.table next h.front h.pair p more h.kept h.entry walk.head (across next (p ∷ more) past grows) h.kept_are h.entry_is is_head (λ key is. none key (p, refl, is))

  pub goes_across : (new : TableWalk K) (key : Key) → length Pairs ≤ h.at + 1
      → ((found : List Pair) → IsBegun order.cmp h.first.bytes walk.table.frame walk.next found → IsBegun order.cmp h.first.bytes walk.table.frame new.next (found ++ new.block.pairs))
      → new.table ≡ walk.table → new.block.place ≡ Some 0 → new.passed ≡ walk.passed + 1 → IsKeyAt new.block.pairs 0 key
      → key.user ≡ new.head.user.items → key.sequence ≡ new.head.sequence → ComesBefore order (stamp walk.head.user.items walk.head.sequence) (stamp key.user key.sequence) → GoesOn order files placed new passed here
  goes_across new key past grows table at count is user sequence rises =
      let more = new.block.pairs in
      let F : Opened → Type 0 = λ t. AreFirst order files placed t new.next ((h.front ++ h.pair ∷ []) ++ more) in
      let first : F walk.table = subst (λ (ps : List Pair). AreFirst order files placed walk.table new.next ps) (sym (append_assoc h.front (h.pair ∷ []) more)) (across new.next more past grows) in
      goes_on order o files placed walk new passed here h is.0 key 0 at (subst F (sym table) first) is.1 is.2 user sequence count rises
