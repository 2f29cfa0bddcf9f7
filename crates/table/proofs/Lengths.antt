-- How many bytes blocks take.
use Rattle.std.proofs.Common.{◌≡◌, ◌≤◌, ◌<◌, ◌+◌, ◌-◌, ◌*◌, ◌%◌, ◌^◌, ℕ, zero, suc, Bool, true, false, cond, eqb, ltb, List, [], ◌∷◌, ◌++◌, length, sym, ap, arith}
use Rattle.std.proofs.lemmas.List.{length-append}
use Rattle.std.proofs.lemmas.List.Sums.{common_prefix_len-le}
use Rattle.std.specs.List.{common_prefix_len}
use Rattle.std.specs.Prelude.{nat_eq}
use Rattle.coding.specs.Varint.{varint_length}
use Rattle.block.specs.Built.{entry_length, entries_length, restart_count, at_least_one, written_length}
use Rattle.block.specs.Written.{Added, shared_at, key_behind}
use Rattle.ikey.specs.Entries.{Pair}
use Rattle.table.specs.Steps.{with_pair}

one_or_more : (a b c d : Bool) → 1 ≤ cond a 1 (cond b 2 (cond c 3 (cond d 4 5)))
one_or_more true b c d = omega arith
one_or_more false true c d = omega arith
one_or_more false false true d = omega arith
one_or_more false false false true = omega arith
one_or_more false false false false = omega arith

varint_some : (n : ℕ) → 1 ≤ varint_length n
varint_some n = one_or_more (ltb n (2 ^ 7)) (ltb n (2 ^ 14)) (ltb n (2 ^ 21)) (ltb n (2 ^ 28))

entry_some : (shared : ℕ) (pair : Pair) → 3 + (length pair.key - shared) + length pair.value ≤ entry_length shared pair
entry_some shared pair = omega (arith, varint_some shared, varint_some (length pair.key - shared), varint_some (length pair.value))

-- one entry more
entries_push : (interval index : ℕ) (previous : List ℕ) (pairs : List Pair) (pair : Pair)
    → entries_length interval index previous (pairs ++ pair ∷ []) ≡ entries_length interval index previous pairs + entry_length (shared_at interval (index + length pairs) (key_behind previous pairs) pair.key) pair
entries_push interval index previous [] pair =
    let same : index + 0 ≡ index = omega arith in
    let e : entry_length (shared_at interval index previous pair.key) pair ≡ entry_length (shared_at interval (index + 0) previous pair.key) pair = ap (λ (n : ℕ). entry_length (shared_at interval n previous pair.key) pair) (sym same) in
    omega (arith, e)
entries_push interval index previous (other ∷ pairs) pair =
    let next : suc index + length pairs ≡ index + suc (length pairs) = omega arith in
    let e = ap (λ (n : ℕ). entry_length (shared_at interval n (key_behind other.key pairs) pair.key) pair) next in
    omega (arith, e, entries_push interval (suc index) other.key pairs pair)

restarts_push : (interval index : ℕ) (pairs : List Pair) (pair : Pair) → restart_count interval index pairs ≤ restart_count interval index (pairs ++ pair ∷ [])
restarts_push interval index [] pair = omega arith
restarts_push interval index (other ∷ pairs) pair = omega (arith, restarts_push interval (suc index) pairs pair)

at_least : (m n : ℕ) → m ≤ n → at_least_one m ≤ at_least_one n
at_least zero zero le = omega arith
at_least zero (suc n) le = omega arith
at_least (suc m) zero le = absurd (omega (arith, le))
at_least (suc m) (suc n) le = omega (arith, le)

-- a shared front is no longer than the key before
shared_within : (b : Bool) (n : ℕ) (previous : List ℕ) → n ≤ length previous → cond b 0 n ≤ length previous
shared_within true n previous le = omega arith
shared_within false n previous le = le

prefix_within : (a b : List ℕ) → common_prefix_len nat_eq a b ≤ length a
prefix_within a b = (common_prefix_len-le nat_eq a b).0

shared_le : (interval index : ℕ) (previous key : List ℕ) → shared_at interval index previous key ≤ length previous
shared_le interval index previous key = shared_within (eqb (index % interval) 0) (common_prefix_len nat_eq previous key) previous (prefix_within previous key)

-- no key is longer than the entries before it
key_within : (interval index : ℕ) (previous : List ℕ) (pairs : List Pair) → length (key_behind previous pairs) ≤ length previous + entries_length interval index previous pairs
key_within interval index previous [] = omega arith
key_within interval index previous (pair ∷ pairs) =
    omega (arith, key_within interval (suc index) pair.key pairs, entry_some (shared_at interval index previous pair.key) pair, shared_le interval index previous pair.key)

pub few_pairs : (interval index : ℕ) (previous : List ℕ) (pairs : List Pair) → 3 * length pairs ≤ entries_length interval index previous pairs
few_pairs interval index previous [] = omega arith
few_pairs interval index previous (pair ∷ pairs) =
    omega (arith, few_pairs interval (suc index) pair.key pairs, entry_some (shared_at interval index previous pair.key) pair)

-- with one pair more a block is longer, and longer than that pair
pub longer : (old : Added) (pair : Pair) → (written_length old ≤ written_length (with_pair old pair)) × (length pair.key + length pair.value ≤ written_length (with_pair old pair))
longer old pair =
    let shared = shared_at old.interval (0 + length old.pairs) (key_behind [] old.pairs) pair.key in
    let more = entries_push old.interval 0 [] old.pairs pair in
    let restarts = at_least (restart_count old.interval 0 old.pairs) (restart_count old.interval 0 (old.pairs ++ pair ∷ [])) (restarts_push old.interval 0 old.pairs pair) in
    let entry = entry_some shared pair in
    let front = shared_le old.interval (0 + length old.pairs) (key_behind [] old.pairs) pair.key in
    let key = key_within old.interval 0 [] old.pairs in
    (omega (arith, more, restarts), omega (arith, more, entry, front, key))

pub too_long : (old : Added) (pair : Pair) → 2 ^ 31 < written_length old + length pair.key + length pair.value → 2 ^ 30 < written_length (with_pair old pair)
too_long old pair long = let l = longer old pair in omega (arith, l.0, l.1, long)

pub few_more : (old new : Added) (pair : Pair) → new ≡ with_pair old pair → written_length old + length pair.key + length pair.value ≤ 2 ^ 31 → length new.pairs ≤ 2 ^ 31
few_more old new pair e room =
    omega (arith, ap (λ (v : Added). length v.pairs) e, length-append old.pairs (pair ∷ []), few_pairs old.interval 0 [] old.pairs, room)

five_or_less : (a b c d : Bool) → cond a 1 (cond b 2 (cond c 3 (cond d 4 5))) ≤ 5
five_or_less true b c d = omega arith
five_or_less false true c d = omega arith
five_or_less false false true d = omega arith
five_or_less false false false true = omega arith
five_or_less false false false false = omega arith

varint_most : (n : ℕ) → varint_length n ≤ 5
varint_most n = five_or_less (ltb n (2 ^ 7)) (ltb n (2 ^ 14)) (ltb n (2 ^ 21)) (ltb n (2 ^ 28))

-- a block of one short pair
pub one_short : (pair : Pair) → length pair.key + length pair.value ≤ 2 ^ 20 → written_length (record { interval = 16; pairs = pair ∷ [] }) ≤ 2 ^ 30
one_short pair short = omega (arith, short, varint_most 0, varint_most (length pair.key - 0), varint_most (length pair.value))
