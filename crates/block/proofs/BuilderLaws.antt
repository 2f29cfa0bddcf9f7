-- What is written is a block, and how long it is.
use Rattle.std.proofs.Common.{◌≡◌, ℕ, suc, ◌+◌, ◌-◌, ◌*◌, ◌%◌, ◌^◌, ◌<◌, ◌≤◌, inl, inr, Bool, true, false, cond, eqb, ltb, Option, Some, None, List, [], ◌∷◌, ◌++◌, length, take, drop, refl, sym, ap, ◌∙◌, subst, append_assoc, arith}
use Rattle.std.proofs.lemmas.List.{length-append, length-take, append-nil}
use Rattle.std.proofs.lemmas.Bool.{eq-eqb, ne_eqb, eqb-true}
use Rattle.std.specs.Option.{ForSome}
use Rattle.std.specs.Prelude.{nat_eq, MatchBool}
use Rattle.std.specs.List.{flat_map, common_prefix_len}
use Rattle.coding.specs.Fixed.{fixed32}
use Rattle.coding.specs.Varint.{IsVarint}
use Rattle.coding.proofs.Varints.{length-varint}
use Rattle.ikey.specs.Entries.{Pair}
use Rattle.block.specs.Block.{IsEntry, IsKeyBehind, TakesRestart, AreEntries, IsBody, IsBlock, AreAbove, trailer}
use Rattle.block.specs.Reading.{pairs_of}
use Rattle.block.specs.Written.{AreWritten, IsWritten, shared_at, or_first, last_key_from, last_key, key_behind}
use Rattle.block.specs.Built.{IsBuilt, PushesEntry, restart_of, entry_length, entries_length, restart_count, at_least_one, written_length}
use Rattle.block.proofs.EntryLaws.{pairs_found, entry_some}
use Rattle.block.specs.Reading.{pairs_behind}
use Rattle.block.proofs.BlockLaws.{length-restarts}

takes_from : (b : Bool) (offset n : ℕ) (restarts later : List ℕ) → restarts ≡ cond b (offset ∷ later) later → TakesRestart offset (cond b 0 n) restarts later
takes_from true offset n restarts later e = inr (refl, e)
takes_from false offset n restarts later e = inl e

pub written_entries : (interval index offset : ℕ) (previous : List ℕ) (pairs : List Pair) (restarts bytes : List ℕ) → AreWritten interval index offset previous pairs restarts bytes → AreEntries offset previous pairs restarts bytes
written_entries interval index offset previous [] restarts bytes h = h
written_entries interval index offset previous (pair ∷ pairs) restarts bytes h = (
  shared_at interval index previous pair.key,
  h.0,
  h.1,
  h.2,
  h.3,
  h.4,
  h.5,
  h.6,
  takes_from (eqb (index % interval) 0) offset _ restarts h.3 h.7,
  written_entries interval (suc index) (offset + length h.1) pair.key pairs h.3 h.2 h.8,
)

pub written_pairs : (interval : ℕ) (pairs : List Pair) (restarts bytes : List ℕ) → AreWritten interval 0 0 [] pairs restarts bytes → pairs_of bytes ≡ pairs
unfolding pairs_of
written_pairs interval pairs restarts bytes h = pairs_found 0 (length bytes) [] pairs restarts bytes (written_entries interval 0 0 [] pairs restarts bytes h) (omega arith)

-- one entry more
pub written_push : (interval index offset : ℕ) (previous : List ℕ) (pairs : List Pair) (restarts bytes : List ℕ) (pair : Pair) (rest entry : List ℕ)
    → AreWritten interval index offset previous pairs restarts bytes
    → IsEntry (shared_at interval (index + length pairs) (key_behind previous pairs) pair.key) rest pair.value entry
    → IsKeyBehind (key_behind previous pairs) (shared_at interval (index + length pairs) (key_behind previous pairs) pair.key) rest pair.key
    → AreWritten interval index offset previous (pairs ++ pair ∷ []) (restarts ++ cond (eqb ((index + length pairs) % interval) 0) ((offset + length bytes) ∷ []) []) (bytes ++ entry)
written_push interval index offset previous [] restarts bytes pair rest entry h e k =
    let same : index + 0 ≡ index = omega arith in
    let e' = subst (λ (n : ℕ). IsEntry (shared_at interval n previous pair.key) rest pair.value entry) same e in
    let k' = subst (λ (n : ℕ). IsKeyBehind previous (shared_at interval n previous pair.key) rest pair.key) same k in
    let at : offset + length bytes ≡ offset = omega (arith, ap length h.0) in (
      rest,
      entry,
      [],
      [],
      e',
      k',
      ap (λ (v : List ℕ). v ++ entry) h.0 ∙ sym (append-nil entry),
      ap (λ (v : List ℕ). v ++ cond (eqb ((index + 0) % interval) 0) ((offset + length bytes) ∷ []) []) h.1 ∙ (λ i. cond (eqb (same i % interval) 0) (at i ∷ []) []),
      (refl, refl),
    )
written_push interval index offset previous (p ∷ pairs) restarts bytes pair rest entry h e k =
    let same : index + suc (length pairs) ≡ suc index + length pairs = omega arith in
    let e' = subst (λ (n : ℕ). IsEntry (shared_at interval n (key_behind p.key pairs) pair.key) rest pair.value entry) same e in
    let k' = subst (λ (n : ℕ). IsKeyBehind (key_behind p.key pairs) (shared_at interval n (key_behind p.key pairs) pair.key) rest pair.key) same k in
    let at : offset + length h.1 + length h.2 ≡ offset + length bytes = omega (arith, ap length h.6, length-append h.1 h.2) in
    let new = cond (eqb ((index + suc (length pairs)) % interval) 0) ((offset + length bytes) ∷ []) [] in
    let new_is : cond (eqb ((suc index + length pairs) % interval) 0) ((offset + length h.1 + length h.2) ∷ []) [] ≡ new = (λ i. cond (eqb (sym same i % interval) 0) (at i ∷ []) []) in
    let tail = written_push interval (suc index) (offset + length h.1) p.key pairs h.3 h.2 pair rest entry h.8 e' k' in (
      h.0,
      h.1,
      h.2 ++ entry,
      h.3 ++ new,
      h.4,
      h.5,
      ap (λ (v : List ℕ). v ++ entry) h.6 ∙ append_assoc h.1 h.2 entry,
      ap (λ (v : List ℕ). v ++ new) h.7 ∙ more (eqb (index % interval) 0) offset h.3 new,
      subst (λ (v : List ℕ). AreWritten interval (suc index) (offset + length h.1) p.key (pairs ++ pair ∷ []) (h.3 ++ v) (h.2 ++ entry)) new_is tail,
    )
  where
    more : (b : Bool) (offset : ℕ) (later new : List ℕ) → cond b (offset ∷ later) later ++ new ≡ cond b (offset ∷ later ++ new) (later ++ new)
    more true offset later new = refl
    more false offset later new = refl

-- ---- keys

pub above_push : (below : List ℕ → List ℕ → Type 0) (previous : Option (List ℕ)) (pairs : List Pair) (pair : Pair) → AreAbove below previous pairs → ForSome (last_key_from previous pairs) (λ last. below last pair.key) → AreAbove below previous (pairs ++ pair ∷ [])
above_push below None [] pair h l = tt
above_push below (Some key) [] pair h l = (l key refl, tt)
above_push below None (p ∷ pairs) pair h l = above_push below (Some p.key) pairs pair h l
above_push below (Some key) (p ∷ pairs) pair h l = (h.0, above_push below (Some p.key) pairs pair h.1 l)

pub key_behind-push : (previous : List ℕ) (pairs : List Pair) (pair : Pair) → key_behind previous (pairs ++ pair ∷ []) ≡ pair.key
key_behind-push previous [] pair = refl
key_behind-push previous (p ∷ pairs) pair = key_behind-push p.key pairs pair

last_from : (key : List ℕ) (pairs : List Pair) → last_key_from (Some key) pairs ≡ Some (key_behind key pairs)
last_from key [] = refl
last_from key (p ∷ ps) = last_from p.key ps

last_some : (pairs : List Pair) → 0 < length pairs → last_key pairs ≡ Some (key_behind [] pairs)
last_some [] h = absurd (omega (arith, h))
last_some (p ∷ ps) h = last_from p.key ps

pub rises_to_first : (below : List ℕ → List ℕ → Type 0) (pairs : List Pair) (key : List ℕ) → length pairs ≡ 0 → ForSome (last_key pairs) (λ (last : List ℕ). below last key)
rises_to_first below [] key none last e = absurd cc
rises_to_first below (p ∷ ps) key none last e = absurd (omega (arith, none))

pub rises_to : (below : List ℕ → List ℕ → Type 0) (pairs : List Pair) (key : List ℕ) (b : Bool) → 0 < length pairs → MatchBool b (below (key_behind [] pairs) key) (below (key_behind [] pairs) key → ⊥)
    → MatchBool b (ForSome (last_key pairs) (λ (last : List ℕ). below last key)) (ForSome (last_key pairs) (λ (last : List ℕ). below last key) → ⊥)
rises_to below pairs key true some h = λ last e.
    let both : Some (key_behind [] pairs) ≡ Some last = sym (last_some pairs some) ∙ e in
    let same : key_behind [] pairs ≡ last = cc in
    subst (λ (k : List ℕ). below k key) same h
rises_to below pairs key false some h = λ f. h (f (key_behind [] pairs) (last_some pairs some))

-- ---- lengths

length-entry : (previous : List ℕ) (shared : ℕ) (rest entry : List ℕ) (pair : Pair) → IsEntry shared rest pair.value entry → IsKeyBehind previous shared rest pair.key → length entry ≡ entry_length shared pair
length-entry previous shared rest entry pair h k =
    let key : length pair.key ≡ shared + length rest = omega (arith, ap length k.1, length-append (take shared previous) rest, length-take shared previous, k.0) in
    let short : length pair.key - shared ≡ length rest = omega (arith, key) in
    rw short (omega (
      arith,
      ap length h.parts,
      length-append h.first (h.second ++ (h.third ++ (rest ++ pair.value))),
      length-append h.second (h.third ++ (rest ++ pair.value)),
      length-append h.third (rest ++ pair.value),
      length-append rest pair.value,
      length-varint h.first shared h.shared_number h.shared_fits,
      length-varint h.second (length rest) h.rest_number h.rest_fits,
      length-varint h.third (length pair.value) h.value_number h.value_fits,
    ))

pub length-written : (interval index offset : ℕ) (previous : List ℕ) (pairs : List Pair) (restarts bytes : List ℕ) → AreWritten interval index offset previous pairs restarts bytes → length bytes ≡ entries_length interval index previous pairs
length-written interval index offset previous [] restarts bytes h = ap length h.0
length-written interval index offset previous (pair ∷ pairs) restarts bytes h =
    let first = length-entry previous (shared_at interval index previous pair.key) h.0 h.1 pair h.4 h.5 in
    let tail = length-written interval (suc index) (offset + length h.1) pair.key pairs h.3 h.2 h.8 in
    ap length h.6 ∙ length-append h.1 h.2 ∙ (λ i. first i + tail i)

restart_more : (b : Bool) (offset : ℕ) (later : List ℕ) → length (cond b (offset ∷ later) later) ≡ cond b 1 0 + length later
restart_more true offset later = omega arith
restart_more false offset later = omega arith

pub count-written : (interval index offset : ℕ) (previous : List ℕ) (pairs : List Pair) (restarts bytes : List ℕ) → AreWritten interval index offset previous pairs restarts bytes → length restarts ≡ restart_count interval index pairs
count-written interval index offset previous [] restarts bytes h = ap length h.1
count-written interval index offset previous (pair ∷ pairs) restarts bytes h =
    ap length h.7 ∙ restart_more (eqb (index % interval) 0) offset h.3 ∙ ap (λ (n : ℕ). cond (eqb (index % interval) 0) 1 0 + n) (count-written interval (suc index) (offset + length h.1) pair.key pairs h.3 h.2 h.8)

length-or_first : (restarts : List ℕ) → length (or_first restarts) ≡ at_least_one (length restarts)
length-or_first [] = refl
length-or_first (r ∷ restarts) = refl

pub length-block : (interval : ℕ) (pairs : List Pair) (bytes : List ℕ) → IsWritten interval pairs bytes → length bytes ≡ written_length (record { interval = interval; pairs = pairs })
length-block interval pairs bytes h =
    let body = length-written interval 0 0 [] pairs h.restarts h.body h.written in
    let count = length-or_first h.restarts ∙ ap at_least_one (count-written interval 0 0 [] pairs h.restarts h.body h.written) in
    let all : length bytes ≡ length h.body + (4 * length (or_first h.restarts) + 4) = omega (arith, ap length h.parts, length-append h.body (trailer (or_first h.restarts)), length-append (flat_map fixed32 (or_first h.restarts)) (fixed32 (length (or_first h.restarts))), length-restarts (or_first h.restarts)) in
    all ∙ (λ i. body i + (4 * count i + 4)) ∙ omega arith

-- ---- what a builder keeps is the block so far

pub built_written : (below : List ℕ → List ℕ → Type 0) (out restarts last : List ℕ) (count interval : ℕ) (bytes : List ℕ) (h : IsBuilt below out restarts last count interval) → bytes ≡ out ++ trailer (0 ∷ restarts) → IsWritten interval (pairs_of out) bytes
built_written below out restarts last count interval bytes h e =
    record { body = out; restarts = h.all; written = h.written; parts = e ∙ ap (λ (v : List ℕ). out ++ trailer v) (sym h.restarts_are) }

zero_rem : (n : ℕ) → 0 < n → 0 % n ≡ 0
zero_rem n h = omega (arith, h)

no_restart : (b : Bool) (later : List ℕ) → b ≡ true → [] ≡ cond b (0 ∷ later) later → ⊥
no_restart true later t e = absurd (omega (arith, ap length e))
no_restart false later t e = cc

body_of : (interval : ℕ) (pairs : List Pair) (all restarts out : List ℕ) → 0 < interval → AreWritten interval 0 0 [] pairs all out → or_first all ≡ 0 ∷ restarts → IsBody pairs (0 ∷ restarts) out
body_of interval [] all restarts out some h e = (h.0, sym e ∙ ap or_first h.1)
body_of interval (pair ∷ pairs) [] restarts out some h e = absurd (no_restart (eqb (0 % interval) 0) h.3 (eq-eqb (0 % interval) 0 (zero_rem interval some)) h.7)
body_of interval (pair ∷ pairs) (r ∷ all) restarts out some h e =
    (restarts, refl, subst (λ (v : List ℕ). AreEntries 0 [] (pair ∷ pairs) v out) e (written_entries interval 0 0 [] (pair ∷ pairs) (r ∷ all) out h))

pub built_block : (below : List ℕ → List ℕ → Type 0) (out restarts last : List ℕ) (count interval : ℕ) (bytes : List ℕ) (h : IsBuilt below out restarts last count interval) → bytes ≡ out ++ trailer (0 ∷ restarts) → IsBlock below bytes (pairs_of out)
built_block below out restarts last count interval bytes h e = (
  out,
  0 ∷ restarts,
  record {
    fits = omega (arith, h.small, ap length e, length-append out (trailer (0 ∷ restarts)), length-append (flat_map fixed32 (0 ∷ restarts)) (fixed32 (length (0 ∷ restarts))), length-restarts (0 ∷ restarts));
    parts = e;
    entries = body_of interval (pairs_of out) h.all restarts out h.interval_is h.written h.restarts_are;
    rises = h.rises;
  },
)

pub built_size : (below : List ℕ → List ℕ → Type 0) (out restarts last : List ℕ) (count interval : ℕ) (h : IsBuilt below out restarts last count interval) → length out + 4 * length restarts + 8 ≡ written_length (record { interval = interval; pairs = pairs_of out })
built_size below out restarts last count interval h =
    let body = length-written interval 0 0 [] (pairs_of out) h.all out h.written in
    let number : suc (length restarts) ≡ at_least_one (restart_count interval 0 (pairs_of out)) = sym (ap length h.restarts_are) ∙ length-or_first h.all ∙ ap at_least_one (count-written interval 0 0 [] (pairs_of out) h.all out h.written) in
    let first : length out + 4 * length restarts + 8 ≡ length out + 4 * suc (length restarts) + 4 = omega arith in
    first ∙ (λ i. body i + 4 * number i + 4)

pub no_pairs_yet : pairs_of [] ≡ []
unfolding pairs_of pairs_behind
no_pairs_yet = refl

pub built_new : (below : List ℕ → List ℕ → Type 0) (interval : ℕ) → 0 < interval → IsBuilt below [] [] [] 0 interval
unfolding pairs_of pairs_behind
built_new below interval some = record {
  interval_is = some;
  all = [];
  written = (refl, refl);
  restarts_are = refl;
  count_is = refl;
  last_is = refl;
  rises = tt;
  small = omega arith;
}

restart_pushed : (b : Bool) (offset : ℕ) → cond b (offset ∷ []) [] ≡ restart_of b false offset
restart_pushed true offset = refl
restart_pushed false offset = refl

none_first : (b : Bool) (offset : ℕ) → restart_of b true offset ≡ []
none_first true offset = refl
none_first false offset = refl

first_pushed : (b : Bool) (all restarts : List ℕ) (offset : ℕ) → b ≡ true → offset ≡ 0 → all ≡ [] → or_first all ≡ 0 ∷ restarts → or_first (all ++ cond b (offset ∷ []) []) ≡ 0 ∷ (restarts ++ restart_of b true offset)
first_pushed true all restarts offset t zero-is none e =
    ap (λ (v : List ℕ). or_first (v ++ offset ∷ [])) none ∙ (λ i. zero-is i ∷ []) ∙ sym (ap or_first none) ∙ e ∙ ap (λ (v : List ℕ). 0 ∷ v) (sym (append-nil restarts))
first_pushed false all restarts offset t zero-is none e = cc

restarts_push : (interval : ℕ) (pairs : List Pair) (all restarts out : List ℕ) → 0 < interval → AreWritten interval 0 0 [] pairs all out → or_first all ≡ 0 ∷ restarts
    → or_first (all ++ cond (eqb (length pairs % interval) 0) (length out ∷ []) []) ≡ 0 ∷ (restarts ++ restart_of (eqb (length pairs % interval) 0) (eqb (length pairs) 0) (length out))
restarts_push interval [] all restarts out some h e =
    first_pushed (eqb (0 % interval) 0) all restarts (length out) (eq-eqb (0 % interval) 0 (zero_rem interval some)) (ap length h.0) h.1 e
restarts_push interval (pair ∷ pairs) [] restarts out some h e = absurd (no_restart (eqb (0 % interval) 0) h.3 (eq-eqb (0 % interval) 0 (zero_rem interval some)) h.7)
restarts_push interval (pair ∷ pairs) (r ∷ all) restarts out some h e =
    let b = eqb (suc (length pairs) % interval) 0 in
    let later : eqb (suc (length pairs)) 0 ≡ false = ne_eqb (suc (length pairs)) 0 (λ z. omega (arith, z)) in
    ap (λ (v : List ℕ). v ++ cond b (length out ∷ []) []) e ∙ ap (λ (v : List ℕ). 0 ∷ (restarts ++ v)) (restart_pushed b (length out) ∙ ap (λ (v : Bool). restart_of b v (length out)) (sym later))

at_most_five : (a b c d : Bool) → cond a 1 (cond b 2 (cond c 3 (cond d 4 5))) ≤ 5
at_most_five true b c d = omega arith
at_most_five false true c d = omega arith
at_most_five false false true d = omega arith
at_most_five false false false true = omega arith
at_most_five false false false false = omega arith

short_number : (a : List ℕ) (n : ℕ) → IsVarint a n → n < 2 ^ 32 → length a ≤ 5
short_number a n p fits = subst (λ (m : ℕ). m ≤ 5) (sym (length-varint a n p fits)) (at_most_five (ltb n (2 ^ 7)) (ltb n (2 ^ 14)) (ltb n (2 ^ 21)) (ltb n (2 ^ 28)))

entry_at_most : (shared : ℕ) (rest value entry : List ℕ) → IsEntry shared rest value entry → length entry ≤ 15 + length rest + length value
entry_at_most shared rest value entry h =
    omega (
      arith,
      ap length h.parts,
      length-append h.first (h.second ++ (h.third ++ (rest ++ value))),
      length-append h.second (h.third ++ (rest ++ value)),
      length-append h.third (rest ++ value),
      length-append rest value,
      short_number h.first shared h.shared_number h.shared_fits,
      short_number h.second (length rest) h.rest_number h.rest_fits,
      short_number h.third (length value) h.value_number h.value_fits,
    )

restart_at_most : (a b : Bool) (offset : ℕ) → length (restart_of a b offset) ≤ 1
restart_at_most true true offset = omega arith
restart_at_most true false offset = omega arith
restart_at_most false b offset = omega arith

pub built_push : (below : List ℕ → List ℕ → Type 0) (out restarts last : List ℕ) (count interval : ℕ) (new news : List ℕ) (pair : Pair) (h : IsBuilt below out restarts last count interval)
    → PushesEntry (eqb (count % interval) 0) last pair.key pair.value out new → news ≡ restarts ++ restart_of (eqb (count % interval) 0) (eqb count 0) (length out)
    → ForSome (last_key (pairs_of out)) (λ key. below key pair.key) → written_length (record { interval = interval; pairs = pairs_of out }) + length pair.key + length pair.value ≤ 2 ^ 31
    → IsBuilt below new news pair.key (count + 1) interval × (pairs_of new ≡ pairs_of out ++ pair ∷ [])
built_push below out restarts last count interval new news pair h p r rises room =
    let pairs = pairs_of out in
    let index : count ≡ 0 + length pairs = omega (arith, h.count_is) in
    let e = subst (λ (n : ℕ). IsEntry (shared_at interval n (key_behind [] pairs) pair.key) p.0 pair.value p.1) index (subst (λ (k : List ℕ). IsEntry (shared_at interval count k pair.key) p.0 pair.value p.1) h.last_is p.2) in
    let k = subst (λ (n : ℕ). IsKeyBehind (key_behind [] pairs) (shared_at interval n (key_behind [] pairs) pair.key) p.0 pair.key) index (subst (λ (v : List ℕ). IsKeyBehind v (shared_at interval count v pair.key) p.0 pair.key) h.last_is p.3) in
    let pushed = written_push interval 0 0 [] pairs h.all out pair p.0 p.1 h.written e k in
    let all = h.all ++ cond (eqb ((0 + length pairs) % interval) 0) ((0 + length out) ∷ []) [] in
    let here = subst (λ (v : List ℕ). AreWritten interval 0 0 [] (pairs ++ pair ∷ []) all v) (sym p.4) pushed in
    let same = written_pairs interval (pairs ++ pair ∷ []) all new here in
    let zero-count : 0 + length pairs ≡ length pairs = omega arith in
    let zero-out : 0 + length out ≡ length out = omega arith in
    let back : length pairs ≡ count = sym h.count_is in
    let restarts_is = (λ i. or_first (h.all ++ cond (eqb (zero-count i % interval) 0) (zero-out i ∷ []) [])) ∙ restarts_push interval pairs h.all restarts out h.interval_is h.written h.restarts_are
    ∙ (λ i. 0 ∷ (restarts ++ restart_of (eqb (back i % interval) 0) (eqb (back i) 0) (length out))) ∙ ap (λ (v : List ℕ). 0 ∷ v) (sym r) in (
      record {
        interval_is = h.interval_is;
        all = all;
        written = subst (λ (ps : List Pair). AreWritten interval 0 0 [] ps all new) (sym same) here;
        restarts_are = restarts_is;
        count_is = omega (arith, h.count_is, ap (length {A = Pair}) same, length-append pairs (pair ∷ []));
        last_is = sym (ap (key_behind []) same ∙ key_behind-push [] pairs pair);
        rises = subst (AreAbove below None) (sym same) (above_push below None pairs pair h.rises rises);
        small = omega (
          arith,
          room,
          built_size below out restarts last count interval h,
          ap length p.4,
          length-append out p.1,
          entry_at_most (shared_at interval count last pair.key) p.0 pair.value p.1 p.2,
          ap length p.3.1,
          length-append (take (shared_at interval count last pair.key) last) p.0,
          ap length r,
          length-append restarts (restart_of (eqb (count % interval) 0) (eqb count 0) (length out)),
          restart_at_most (eqb (count % interval) 0) (eqb count 0) (length out),
        );
      },
      same,
    )

pub pairs_fit : (offset : ℕ) (previous : List ℕ) (pairs : List Pair) (restarts bytes : List ℕ) → AreEntries offset previous pairs restarts bytes → length pairs ≤ length bytes
pairs_fit offset previous [] restarts bytes h = omega arith
pairs_fit offset previous (pair ∷ pairs) restarts bytes h =
    omega (arith, ap length h.7, length-append h.2 h.3, entry_some h.0 h.1 pair.value h.2 h.5, pairs_fit (offset + length h.2) pair.key pairs h.4 h.3 h.9)

pub count_small : (below : List ℕ → List ℕ → Type 0) (out restarts last : List ℕ) (count interval : ℕ) (h : IsBuilt below out restarts last count interval) → count < 2 ^ 32
count_small below out restarts last count interval h =
    omega (arith, h.count_is, h.small, pairs_fit 0 [] (pairs_of out) h.all out (written_entries interval 0 0 [] (pairs_of out) h.all out h.written))

-- ---- what is shared

one_more : (t : Bool) (x y : ℕ) (a b : List ℕ) → eqb x y ≡ t → take (common_prefix_len nat_eq a b) a ++ drop (common_prefix_len nat_eq a b) b ≡ b
    → take (cond t (1 + common_prefix_len nat_eq a b) 0) (x ∷ a) ++ drop (cond t (1 + common_prefix_len nat_eq a b) 0) (y ∷ b) ≡ y ∷ b
one_more true x y a b e rest =
    let n = common_prefix_len nat_eq a b in
    let one : 1 + n ≡ suc n = omega arith in
    let same : x ≡ y = eqb-true x y e in
    ap (λ (m : ℕ). take m (x ∷ a) ++ drop m (y ∷ b)) one ∙ (λ i. same i ∷ rest i)
one_more false x y a b e rest = refl

front_and_rest : (a b : List ℕ) → take (common_prefix_len nat_eq a b) a ++ drop (common_prefix_len nat_eq a b) b ≡ b
front_and_rest [] b = refl
front_and_rest (x ∷ a) [] = refl
front_and_rest (x ∷ a) (y ∷ b) = one_more (eqb x y) x y a b refl (front_and_rest a b)

pub key_shared : (is_restart : Bool) (previous key : List ℕ) (shared : ℕ) → shared ≡ cond is_restart 0 (common_prefix_len nat_eq previous key) → shared ≤ length previous → IsKeyBehind previous (cond is_restart 0 (common_prefix_len nat_eq previous key)) (drop shared key) key
key_shared true previous key shared e le = (omega arith, ap (λ (n : ℕ). drop n key) (sym e))
key_shared false previous key shared e le =
    (subst (λ (n : ℕ). n ≤ length previous) e le, sym (front_and_rest previous key) ∙ ap (λ (n : ℕ). take (common_prefix_len nat_eq previous key) previous ++ drop n key) (sym e))

pub pushes : (is_restart : Bool) (previous key value rest old new : List ℕ) (shared : ℕ) → shared ≡ cond is_restart 0 (common_prefix_len nat_eq previous key) → shared ≤ length previous → rest ≡ drop shared key
    → ((entry : List ℕ) × IsEntry shared rest value entry × (new ≡ old ++ entry)) → PushesEntry is_restart previous key value old new
pushes is_restart previous key value rest old new shared e le r w =
    (rest, w.0, subst (λ (n : ℕ). IsEntry n rest value w.0) e w.1, subst (λ (v : List ℕ). IsKeyBehind previous (cond is_restart 0 (common_prefix_len nat_eq previous key)) v key) (sym r) (key_shared is_restart previous key shared e le), w.2)

-- the front of the key before and the rest are the key
pub key_is : (is_restart : Bool) (previous key rest : List ℕ) (shared : ℕ) → shared ≡ cond is_restart 0 (common_prefix_len nat_eq previous key) → shared ≤ length previous → rest ≡ drop shared key
    → take shared previous ++ rest ≡ key
key_is is_restart previous key rest shared e le r =
    (λ i. take (e i) previous ++ r i) ∙ sym (key_shared is_restart previous key shared e le).1

-- ---- whether there is an entry

some_pairs : (byte : ℕ) (bytes : List ℕ) → pairs_of (byte ∷ bytes) ≡ [] → ⊥
unfolding pairs_of pairs_behind
some_pairs byte bytes e = cc

pub none_if : (out : List ℕ) (r : Bool) → r ≡ eqb (length out) 0 → MatchBool r (pairs_of out ≡ []) (pairs_of out ≡ [] → ⊥)
none_if [] r e = subst (λ (b : Bool). MatchBool b (pairs_of [] ≡ []) (pairs_of [] ≡ [] → ⊥)) (sym e) no_pairs_yet
none_if (byte ∷ bytes) r e =
    subst (λ (b : Bool). MatchBool b (pairs_of (byte ∷ bytes) ≡ []) (pairs_of (byte ∷ bytes) ≡ [] → ⊥)) (sym (e ∙ ne_eqb (suc (length bytes)) 0 (λ h. absurd (omega (arith, h))))) (some_pairs byte bytes)
