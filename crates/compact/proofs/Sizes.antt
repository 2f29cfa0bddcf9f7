-- How many bytes the parts of a table file take, at most.
use Rattle.std.proofs.Common.{◌≡◌, ◌<◌, ◌≤◌, ◌+◌, ◌-◌, ◌*◌, ◌/◌, ◌%◌, ◌==◌, ◌^◌, ◌⊎◌, ℕ, zero, suc, Bool, true, false, cond, nat_lt, Option, Some, None, List, [], ◌∷◌, ◌++◌, length, take, replicate, get_or, set, flat_map, inl, inr, refl, ap, ◌∙◌, arith, length-append}
use Rattle.std.proofs.lemmas.Bool.{cond_both}
use Rattle.std.specs.List.{concat}
use Rattle.std.specs.declared.cmp.Ordering.{Ordering}
use Rattle.block.specs.Block.{IsEntry, IsKeyBehind, AreEntries, IsBlock, TakesRestart, trailer}
use Rattle.block.specs.Built.{entry_length, entries_length, restart_count, at_least_one}
use Rattle.block.specs.Written.{last_key, last_key_from, shared_at}
use Rattle.coding.specs.Fixed.{fixed32}
use Rattle.coding.specs.Varint.{IsVarint, varint_length}
use Rattle.coding.proofs.Varints.{length-varint}
use Rattle.filter.specs.Bloom.{IsFilter}
use Rattle.filter.specs.Blocks.{filter_index}
use Rattle.filter.specs.Builder.{IsWritten, AreFilters, with_empty, with_hash, starts_of}
use Rattle.filter.specs.Hash.{hash_of}
use Rattle.ikey.specs.Below.{IsBelowInternal}
use Rattle.ikey.specs.Entries.{Pair}
use Rattle.store.specs.Files.{Facts}
use Rattle.table.specs.declared.handle.Place.{Place}
use Rattle.table.specs.Building.{Building, Builds, AreInLine, AreEnded, AddsHashes, AddsAllHashes, data_length, index_length}
use Rattle.table.specs.Frame.{ArePlaces}
use Rattle.table.specs.Stored.{end_of}
use Rattle.table.specs.Table.{AreData}
use Rattle.table.specs.Writing.{NeedsLongIndex, NeedsLongBlock, NeedsLongEnds}
use Rattle.table.proofs.Footers.{short_handle}
use Rattle.compact.specs.Rooms.{load}

pub load-append : (more : ℕ) (xs ys : List Pair) → load more (xs ++ ys) ≡ load more xs + load more ys
unfolding load
load-append more [] ys = omega arith
load-append more (x ∷ xs) ys = (let rest = load-append more xs ys in omega (arith, rest))

load_more : (few many : ℕ) (pairs : List Pair) → few ≤ many → load few pairs ≤ load many pairs
unfolding load
load_more few many [] le = omega arith
load_more few many (x ∷ xs) le = (let rest = load_more few many xs le in omega (arith, rest, le))

-- ---- what a builder says of a block

varint_most : (n : ℕ) → varint_length n ≤ 5
varint_most n =
    cond_both (nat_lt n (2 ^ 7)) 1 _ (λ (v : ℕ). v ≤ 5) (λ _. omega arith)
    (λ _. cond_both (nat_lt n (2 ^ 14)) 2 _ (λ (v : ℕ). v ≤ 5) (λ _. omega arith)
    (λ _. cond_both (nat_lt n (2 ^ 21)) 3 _ (λ (v : ℕ). v ≤ 5) (λ _. omega arith)
    (λ _. cond_both (nat_lt n (2 ^ 28)) 4 5 (λ (v : ℕ). v ≤ 5) (λ _. omega arith) (λ _. omega arith))))

entry_most : (shared : ℕ) (pair : Pair) → entry_length shared pair ≤ length pair.key + length pair.value + 15
entry_most shared pair =
    let a = varint_most shared in
    let b = varint_most (length pair.key - shared) in
    let c = varint_most (length pair.value) in
    omega (arith, a, b, c)

one_most : (b : Bool) → cond b 1 0 ≤ 1
one_most true = omega arith
one_most false = omega arith

both_most : (interval index : ℕ) (previous : List ℕ) (pairs : List Pair) → entries_length interval index previous pairs + 4 * restart_count interval index pairs ≤ load 19 pairs
unfolding load
both_most interval index previous [] = omega arith
both_most interval index previous (pair ∷ pairs) =
    let rest = both_most interval (suc index) pair.key pairs in
    let here = entry_most (shared_at interval index previous pair.key) pair in
    let one = one_most (index % interval == 0) in
    omega (arith, rest, here, one)

least_most : (n : ℕ) → at_least_one n ≤ n + 1
least_most zero = omega arith
least_most (suc n) = omega arith

pub data_most : (pairs : List Pair) → data_length pairs ≤ load 19 pairs + 8
data_most pairs =
    let both = both_most 16 0 [] pairs in
    let least = least_most (restart_count 16 0 pairs) in
    omega (arith, both, least)

index_most : (pairs : List Pair) → index_length pairs ≤ load 19 pairs + 8
index_most pairs =
    let both = both_most 1 0 [] pairs in
    let least = least_most (restart_count 1 0 pairs) in
    omega (arith, both, least)

-- ---- a block in the file

varint_short : (bytes : List ℕ) (n : ℕ) → IsVarint bytes n → n < 2 ^ 32 → length bytes ≤ 5
varint_short bytes n h fits = (let long = length-varint bytes n h fits in let most = varint_most n in omega (arith, long, most))

entry_short : (previous key : List ℕ) (shared : ℕ) (rest value bytes : List ℕ) → IsEntry shared rest value bytes → IsKeyBehind previous shared rest key → length bytes ≤ length key + length value + 15
entry_short previous key shared rest value bytes e k =
    let a = varint_short e.first shared e.shared_number e.shared_fits in
    let b = varint_short e.second (length rest) e.rest_number e.rest_fits in
    let c = varint_short e.third (length value) e.value_number e.value_fits in
    let whole : length bytes ≡ length e.first + (length e.second + (length e.third + (length rest + length value))) =
    ap length e.parts ∙ length-append e.first (e.second ++ (e.third ++ (rest ++ value)))
    ∙ ap (λ (n : ℕ). length e.first + n) (length-append e.second (e.third ++ (rest ++ value)) ∙ ap (λ (n : ℕ). length e.second + n) (length-append e.third (rest ++ value) ∙ ap (λ (n : ℕ). length e.third + n) (length-append rest value))) in
    let within : length key ≡ length (take shared previous) + length rest = ap length k.1 ∙ length-append (take shared previous) rest in
    omega (arith, a, b, c, whole, within)

restart_short : (offset shared : ℕ) (restarts later : List ℕ) → TakesRestart offset shared restarts later → length restarts ≤ length later + 1
restart_short offset shared restarts later (inl e) = omega (arith, ap length e)
restart_short offset shared restarts later (inr h) = omega (arith, ap length h.1)

entries_short : (offset : ℕ) (previous : List ℕ) (pairs : List Pair) (restarts bytes : List ℕ) → AreEntries offset previous pairs restarts bytes → length bytes + 4 * length restarts ≤ load 19 pairs
unfolding load
entries_short offset previous [] restarts bytes h = omega (arith, ap length h.0, ap length h.1)
entries_short offset previous (pair ∷ pairs) restarts bytes (shared, rest, entry, behind, later, is, key, parts, restart, more) =
    let here = entry_short previous pair.key shared rest pair.value entry is key in
    let one = restart_short offset shared restarts later restart in
    let others = entries_short (offset + length entry) pair.key pairs later behind more in
    let whole : length bytes ≡ length entry + length behind = ap length parts ∙ length-append entry behind in
    omega (arith, here, one, others, whole)

fixed32s : (xs : List ℕ) → length (flat_map fixed32 xs) ≡ 4 * length xs
fixed32s [] = omega arith
fixed32s (x ∷ xs) = (let rest = fixed32s xs in let here : length (flat_map fixed32 (x ∷ xs)) ≡ 4 + length (flat_map fixed32 xs) = length-append (fixed32 x) (flat_map fixed32 xs) in omega (arith, rest, here))

block_short : (below : List ℕ → List ℕ → Type 0) (bytes : List ℕ) (pairs : List Pair) → IsBlock below bytes pairs → length bytes ≤ load 19 pairs + 8
unfolding load
block_short below bytes [] (body, restarts, is) =
    let whole : length bytes ≡ length body + (length (flat_map fixed32 restarts) + 4) = ap length is.parts ∙ length-append body (trailer restarts) ∙ ap (λ (n : ℕ). length body + n) (length-append (flat_map fixed32 restarts) (fixed32 (length restarts))) in
    omega (arith, whole, fixed32s restarts, ap length is.entries.0, ap length is.entries.1)
block_short below bytes (pair ∷ pairs) (body, restarts, is) =
    let whole : length bytes ≡ length body + (length (flat_map fixed32 restarts) + 4) = ap length is.parts ∙ length-append body (trailer restarts) ∙ ap (λ (n : ℕ). length body + n) (length-append (flat_map fixed32 restarts) (fixed32 (length restarts))) in
    let all = entries_short 0 [] (pair ∷ pairs) restarts body is.entries.2 in
    omega (arith, whole, fixed32s restarts, all)

-- ---- the index

key_most : (previous : Option (List ℕ)) (pairs : List Pair) (key : List ℕ) → last_key_from previous pairs ≡ Some key → (previous ≡ Some key) ⊎ (length key + 39 ≤ load 39 pairs)
unfolding load
key_most previous [] key e = inl e
key_most previous (pair ∷ pairs) key e = elim (key_most (Some pair.key) pairs key e) [
  | inl same ↦ inr (let is : pair.key ≡ key = (let t : Some pair.key ≡ Some key = same in cc) in omega (arith, ap length is))
  | inr most ↦ inr (omega (arith, most))
]

last_most : (pairs : List Pair) (key : List ℕ) → last_key pairs ≡ Some key → length key + 39 ≤ load 39 pairs
last_most pairs key e = elim (key_most None pairs key e) [
  | inl none ↦ (let t : None ≡ Some key = none in absurd cc)
  | inr most ↦ most
]

abbrev joined : List (List Pair) → List Pair
joined blocks = flat_map (λ (block : List Pair). block) blocks

places_most : (index : List Pair) (places : List Place) (blocks : List (List Pair)) → ArePlaces index places → AreEnded places blocks → load 19 index ≤ load 39 (joined blocks)
unfolding load
places_most [] [] [] h k = omega arith
places_most [] [] (block ∷ blocks) h k = absurd k
places_most [] (place ∷ places) blocks h k = absurd h
places_most (pair ∷ index) [] blocks h k = absurd h
places_most (pair ∷ index) (place ∷ places) [] h k = absurd k
places_most (pair ∷ index) (place ∷ places) (block ∷ blocks) h k =
    let rest = places_most index places blocks h.2 k.1 in
    let key = last_most block place.key k.0 in
    let value = short_handle pair.value place.handle h.1 in
    let same : length pair.key ≡ length place.key = ap length h.0 in
    let all = load-append 39 block (joined blocks) in
    omega (arith, rest, key, value, same, all)

-- ---- where the data blocks end

line_most : (cmp : List ℕ → List ℕ → Ordering) (file : List ℕ) (offset : ℕ) (places : List Place) (blocks : List (List Pair)) (end : ℕ) → AreData cmp file places blocks → AreEnded places blocks → AreInLine offset places end
    → end ≤ offset + load 39 (joined blocks)
unfolding load
line_most cmp file offset [] [] end d k l = omega (arith, l)
line_most cmp file offset [] (block ∷ blocks) end d k l = absurd d
line_most cmp file offset (place ∷ places) [] end d k l = absurd d
line_most cmp file offset (place ∷ places) (block ∷ blocks) end d k l =
    let rest = line_most cmp file (end_of place.handle) places blocks end d.1 k.1 l.2 in
    let short = block_short (IsBelowInternal cmp) d.0.0 block d.0.2 in
    let size = d.0.1.size in
    let some = some_more block place.key k.0 in
    let all = load-append 39 block (joined blocks) in
    omega (arith, rest, short, size, some, all, l.0)
  where
    few_more : (pairs : List Pair) → load 19 pairs + 20 * length pairs ≡ load 39 pairs
    few_more [] = omega arith
    few_more (pair ∷ pairs) = (let rest = few_more pairs in omega (arith, rest))

    some_more : (pairs : List Pair) (key : List ℕ) → last_key pairs ≡ Some key → load 19 pairs + 20 ≤ load 39 pairs
    some_more [] key e = (let t : None ≡ Some key = e in absurd cc)
    some_more (pair ∷ pairs) key e = (let more = few_more (pair ∷ pairs) in omega (arith, more))

-- ---- the filters

pub hash_count : List (List ℕ) → ℕ
hash_count [] = 0
hash_count (group ∷ groups) = length group + hash_count groups

count-empty : (groups : List (List ℕ)) (n : ℕ) → hash_count (groups ++ replicate n []) ≡ hash_count groups
unfolding hash_count
count-empty [] zero = refl
count-empty [] (suc n) = (let rest = count-empty [] n in omega (arith, rest))
count-empty (group ∷ groups) n = ap (λ (k : ℕ). length group + k) (count-empty groups n)

length-empty : (n : ℕ) → length (replicate {A = List ℕ} n []) ≡ n
length-empty zero = refl
length-empty (suc n) = ap suc (length-empty n)

count-set : (groups : List (List ℕ)) (i h : ℕ) → i < length groups → hash_count (set groups i (get_or groups i [] ++ h ∷ [])) ≡ hash_count groups + 1
unfolding hash_count
count-set [] i h lt = absurd (omega (arith, lt))
count-set (group ∷ groups) zero h lt = (let long : length (group ++ h ∷ []) ≡ length group + 1 = length-append group (h ∷ []) in omega (arith, long))
count-set (group ∷ groups) (suc i) h lt = (let rest = count-set groups i h (omega (arith, lt)) in omega (arith, rest))

set_long : (groups : List (List ℕ)) (i : ℕ) (group : List ℕ) → length (set groups i group) ≡ length groups
set_long [] i group = refl
set_long (g ∷ groups) zero group = refl
set_long (g ∷ groups) (suc i) group = ap suc (set_long groups i group)

empty_long : (groups : List (List ℕ)) (i : ℕ) → length (with_empty groups i) ≡ length groups + (i + 1 - length groups)
empty_long groups i = length-append groups (replicate (i + 1 - length groups) []) ∙ ap (λ (n : ℕ). length groups + n) (length-empty (i + 1 - length groups))

one_hash : (groups : List (List ℕ)) (i h : ℕ) → hash_count (with_hash groups i h) ≡ hash_count groups + 1
one_hash groups i h =
    let long = empty_long groups i in
    count-set (with_empty groups i) i h (omega (arith, long)) ∙ ap (λ (n : ℕ). n + 1) (count-empty groups (i + 1 - length groups))

hash_long : (groups : List (List ℕ)) (i h : ℕ) → length (with_hash groups i h) ≡ length groups + (i + 1 - length groups)
hash_long groups i h = set_long (with_empty groups i) i _ ∙ empty_long groups i

-- how many hashes there are, and filters up to a place in the file
pub record Counted (groups : List (List ℕ)) (count end : ℕ) : Type 0 where
  pub count_is : hash_count groups ≡ count
  pub few : length groups ≤ end / 2048 + 1

adds_counted : (old : List (List ℕ)) (offset : ℕ) (pairs : List Pair) (new : List (List ℕ)) (count end : ℕ) → AddsHashes old offset pairs new → offset ≤ end → Counted old count end → Counted new (count + length pairs) end
adds_counted old offset [] new count end h le c = record { count_is = ap hash_count h ∙ c.count_is ∙ omega arith; few = (let f = c.few in omega (arith, f, ap length h)) }
adds_counted old offset (pair ∷ pairs) new count end h le c =
    let i = filter_index offset in
    let long = hash_long old (filter_index offset) (hash_of h.0.user) in
    let few = c.few in
    let next : Counted (with_hash old (filter_index offset) (hash_of h.0.user)) (count + 1) end = record { count_is = one_hash old (filter_index offset) (hash_of h.0.user) ∙ ap (λ (n : ℕ). n + 1) c.count_is; few = omega (arith, long, few, le) } in
    let rest = adds_counted (with_hash old (filter_index offset) (hash_of h.0.user)) offset pairs new (count + 1) end h.2 le next in
    record { count_is = rest.count_is ∙ omega arith; few = rest.few }

line_behind : (offset : ℕ) (places : List Place) (end : ℕ) → AreInLine offset places end → offset ≤ end
line_behind offset [] end l = omega (arith, l)
line_behind offset (place ∷ places) end l = (let rest = line_behind (end_of place.handle) places end l.2 in omega (arith, rest, l.0))

all_counted : (old : List (List ℕ)) (offset : ℕ) (places : List Place) (blocks : List (List Pair)) (new : List (List ℕ)) (count last : ℕ) → AddsAllHashes old places blocks new → AreInLine offset places last
    → Counted old count last → Counted new (count + length (joined blocks)) last
all_counted old offset [] [] new count last h l c = record { count_is = ap hash_count h ∙ c.count_is ∙ omega arith; few = (let f = c.few in omega (arith, f, ap length h)) }
all_counted old offset [] (block ∷ blocks) new count last h l c = absurd h
all_counted old offset (place ∷ places) [] new count last h l c = absurd h
all_counted old offset (place ∷ places) (block ∷ blocks) new count last h l c =
    let le = line_behind (end_of place.handle) places last l.2 in
    let here = adds_counted old place.handle.offset block h.0 count last h.1 (omega (arith, le)) c in
    let rest = all_counted h.0 (end_of place.handle) places blocks new (count + length block) last h.2 l.2 here in
    let long : length (joined (block ∷ blocks)) ≡ length block + length (joined blocks) = length-append block (joined blocks) in
    record { count_is = rest.count_is ∙ omega (arith, long); few = rest.few }

filter_short : (hashes filter : List ℕ) → IsFilter hashes filter → length filter ≤ 12 * length hashes
filter_short [] filter h = omega (arith, ap length h)
filter_short (x ∷ hashes) filter (array, is, parts) =
    let whole : length filter ≡ length array + 1 = ap length parts ∙ length-append array (6 ∷ []) in
    let long = is.long in
    omega (arith, whole, long)

filters_short : (groups filters : List (List ℕ)) → AreFilters groups filters → (length (concat filters) ≤ 12 * hash_count groups) × (length (starts_of 0 filters) ≡ length groups)
unfolding hash_count
filters_short groups filters h = by 0 groups filters h
  where
    by : (start : ℕ) (groups filters : List (List ℕ)) → AreFilters groups filters → (length (concat filters) ≤ 12 * hash_count groups) × (length (starts_of start filters) ≡ length groups)
    by start [] [] h = (omega arith, refl)
    by start [] (filter ∷ filters) h = absurd h
    by start (group ∷ groups) [] h = absurd h
    by start (group ∷ groups) (filter ∷ filters) h =
        let rest = by (start + length filter) groups filters h.1 in
        let here = filter_short group filter h.0 in
        let long : length (concat (filter ∷ filters)) ≡ length filter + length (concat filters) = length-append filter (concat filters) in
        (omega (arith, rest.0, here, long), ap suc rest.1)

written_short : (groups : List (List ℕ)) (bytes : List ℕ) (count last : ℕ) → IsWritten groups bytes → Counted groups count last → length bytes ≤ 12 * count + 4 * (last / 2048 + 1) + 5
written_short groups bytes count last w c =
    let both = filters_short groups w.filters w.each in
    let starts = flat_map fixed32 (starts_of 0 w.filters) in
    let long : length starts ≡ 4 * length (starts_of 0 w.filters) = fixed32s (starts_of 0 w.filters) in
    let tail : length (starts ++ (fixed32 (length (concat w.filters)) ++ 11 ∷ [])) ≡ length starts + 5 = length-append starts (fixed32 (length (concat w.filters)) ++ 11 ∷ []) in
    let whole : length bytes ≡ length (concat w.filters) + length (starts ++ (fixed32 (length (concat w.filters)) ++ 11 ∷ [])) = ap length w.parts ∙ length-append (concat w.filters) _ in
    let is = c.count_is in
    let few = c.few in
    omega (arith, both.0, both.1, long, tail, whole, is, few)

-- ---- a table that is being built

load_count : (pairs : List Pair) → load 39 pairs + 17 * length pairs ≡ load 56 pairs
unfolding load
load_count [] = omega arith
load_count (pair ∷ pairs) = (let rest = load_count pairs in omega (arith, rest))

module _ (cmp : List ℕ → List ℕ → Ordering) (b : Building) (facts : Facts) (pairs : List Pair) (h : Builds cmp b facts pairs) where
  whole : load 39 pairs ≡ load 39 (joined h.2.blocks) + load 39 b.block
  whole = ap (load 39) h.2.all ∙ load-append 39 (joined h.2.blocks) b.block

  -- the index with the block at hand ended
  index_long : (last : List Pair) → NeedsLongIndex b last → 2 ^ 30 < load 39 (joined h.2.blocks) + load 39 last + 8
  unfolding load
  index_long last (place, key, value, long) =
      let most = index_most (b.index ++ place ∷ []) in
      let parts = load-append 19 b.index (place ∷ []) in
      let front = places_most b.index h.2.places h.2.blocks h.2.index_is h.2.ended in
      let here = last_most last place.key key in
      let short = short_handle place.value _ value in
      omega (arith, long, most, parts, front, here, short)

  pub long_block : (pair : Pair) → NeedsLongBlock b pair → 2 ^ 30 < load 56 (pairs ++ pair ∷ [])
  long_block pair (inl long) =
      let most = data_most (b.block ++ pair ∷ []) in
      let more = load_more 19 39 (b.block ++ pair ∷ []) (omega arith) in
      let parts = load-append 39 b.block (pair ∷ []) in
      let all = load-append 39 pairs (pair ∷ []) in
      let count = load_count (pairs ++ pair ∷ []) in
      let some : length (pairs ++ pair ∷ []) ≡ length pairs + 1 = length-append pairs (pair ∷ []) in
      omega (arith, long, most, more, parts, all, whole, count, some)
  long_block pair (inr long) =
      let most = index_long (b.block ++ pair ∷ []) long in
      let parts = load-append 39 b.block (pair ∷ []) in
      let all = load-append 39 pairs (pair ∷ []) in
      let count = load_count (pairs ++ pair ∷ []) in
      let some : length (pairs ++ pair ∷ []) ≡ length pairs + 1 = length-append pairs (pair ∷ []) in
      omega (arith, most, parts, all, whole, count, some)

  pub long_ends : 0 < length pairs → NeedsLongEnds b → 2 ^ 30 < load 56 pairs
  unfolding load hash_count
  long_ends some (inl long) =
      let most = index_long b.block long in
      let count = load_count pairs in
      omega (arith, most, whole, count, some)
  long_ends some (inr (bytes, written, long)) =
      let p = h.2 in
      let last = line_most cmp h.0 0 p.places p.blocks b.offset p.data_is p.ended p.line in
      let none : Counted [] 0 b.offset = record { count_is = refl; few = omega arith } in
      let ended = all_counted [] 0 p.places p.blocks p.ended_hashes 0 b.offset p.hashed p.line none in
      let all = adds_counted p.ended_hashes b.offset b.block b.hashes (0 + length (joined p.blocks)) b.offset p.block_hashed (omega arith) ended in
      let most = written_short b.hashes bytes (0 + length (joined p.blocks) + length b.block) b.offset written all in
      let long_is : length pairs ≡ length (joined p.blocks) + length b.block = ap length p.all ∙ length-append (joined p.blocks) b.block in
      let count = load_count pairs in
      let each = load_least pairs in
      omega (arith, last, most, long, long_is, whole, count, each, some)
    where
      load_least : (ps : List Pair) → 39 * length ps ≤ load 39 ps
      load_least [] = omega arith
      load_least (pair ∷ ps) = (let rest = load_least ps in omega (arith, rest))
