-- Where one entry ends and the next begins.
use Rattle.std.proofs.Common.{◌≡◌, ℕ, zero, suc, ◌+◌, ◌-◌, ◌<◌, ◌≤◌, inl, inr, Some, List, [], ◌∷◌, ◌++◌, length, take, drop, refl, sym, ap, ◌∙◌, subst, append_assoc, arith}
use Rattle.std.proofs.lemmas.List.{length-append, length-drop, length-take-le, append-nil, take_at, drop_at, take-append-drop, drop-drop, take_all}
use Rattle.std.proofs.lemmas.Bool.{cases_lt}
use Rattle.std.proofs.Math.Seq.{take-add}
use Rattle.std.specs.List.{slice_get}
use Rattle.ikey.specs.Entries.{Pair}
use Rattle.block.specs.Block.{IsEntry, IsKeyBehind, AreEntries, IsBody}
use Rattle.block.specs.Reading.{pairs_of}
use Rattle.block.specs.Spots.{IsReadable, IsRead, IsFront, IsBefore, IsSpot}
use Rattle.block.specs.Written.{key_behind}
use Rattle.block.proofs.BuilderLaws.{key_behind-push, pairs_fit}
use Rattle.block.proofs.EntryLaws.{entry_front, entry_some, pairs_found, spread}
use Rattle.block.proofs.Rests.{nothing_left, opened}

-- ---- a list of pairs, cut at an index

pub record IsCut (pairs : List Pair) (index : ℕ) (pair : Pair) (more : List Pair) : Type 0 where
  pub front : take (suc index) pairs ≡ take index pairs ++ pair ∷ []
  pub behind : drop (suc index) pairs ≡ more
  pub found : slice_get pairs index ≡ Some pair
  pub inside : suc index ≤ length pairs

pub cut_at : (pairs : List Pair) (index : ℕ) (pair : Pair) (more : List Pair) → drop index pairs ≡ pair ∷ more → IsCut pairs index pair more
cut_at [] zero pair more e = absurd cc
cut_at [] (suc index) pair more e = absurd cc
cut_at (p ∷ ps) zero pair more e =
    let same : p ≡ pair = cc in
    let rest : ps ≡ more = cc in
    record { front = ap (λ (q : Pair). q ∷ []) same; behind = rest; found = ap Some same; inside = omega arith }
cut_at (p ∷ ps) (suc index) pair more e =
    let c = cut_at ps index pair more e in
    record { front = ap (λ (qs : List Pair). p ∷ qs) c.front; behind = c.behind; found = c.found; inside = omega (arith, c.inside) }

-- ---- entries before an offset

entries_push : (offset : ℕ) (previous : List ℕ) (pairs : List Pair) (restarts bytes : List ℕ) (pair : Pair) (shared : ℕ) (rest entry : List ℕ)
    → AreEntries offset previous pairs restarts bytes → IsEntry shared rest pair.value entry → IsKeyBehind (key_behind previous pairs) shared rest pair.key
    → AreEntries offset previous (pairs ++ pair ∷ []) restarts (bytes ++ entry)
entries_push offset previous [] restarts bytes pair shared rest entry h i k =
    (shared, rest, entry, [], restarts, i, k, ap (λ (v : List ℕ). v ++ entry) h.0 ∙ sym (append-nil entry), inl refl, (refl, h.1))
entries_push offset previous (p ∷ ps) restarts bytes pair shared rest entry h i k = (
  h.0,
  h.1,
  h.2,
  h.3 ++ entry,
  h.4,
  h.5,
  h.6,
  ap (λ (v : List ℕ). v ++ entry) h.7 ∙ append_assoc h.2 h.3 entry,
  h.8,
  entries_push (offset + length h.2) p.key ps h.4 h.3 pair shared rest entry h.9 i k,
)

no_restarts : (offset : ℕ) (previous : List ℕ) (pairs : List Pair) (restarts bytes : List ℕ) → AreEntries offset previous pairs restarts bytes → AreEntries offset previous pairs [] bytes
no_restarts offset previous [] restarts bytes h = (h.0, refl)
no_restarts offset previous (p ∷ ps) restarts bytes h =
    (h.0, h.1, h.2, h.3, [], h.5, h.6, h.7, inl refl, no_restarts (offset + length h.2) p.key ps h.4 h.3 h.9)

-- the entry at an offset is passed
pub record IsPassed (body : List ℕ) (pairs : List Pair) (index offset : ℕ) (entry behind : List ℕ) (pair : Pair) (more : List Pair) : Type 0 where
  pub cut : IsCut pairs index pair more
  pub front : IsFront body pairs (suc index) (offset + length entry)
  pub behind_is : drop (offset + length entry) body ≡ behind
  pub key : key_behind [] (take (suc index) pairs) ≡ pair.key

pub passed : (body : List ℕ) (pairs : List Pair) (index offset : ℕ) (pair : Pair) (more : List Pair) (shared : ℕ) (rest entry behind : List ℕ)
    → IsFront body pairs index offset → drop index pairs ≡ pair ∷ more → IsEntry shared rest pair.value entry → IsKeyBehind (key_behind [] (take index pairs)) shared rest pair.key
    → drop offset body ≡ entry ++ behind → IsPassed body pairs index offset entry behind pair more
passed body pairs index offset pair more shared rest entry behind h e i k p =
    let c = cut_at pairs index pair more e in
    let pushed = entries_push 0 [] (take index pairs) [] (take offset body) pair shared rest entry h.entries i k in
    let longer : take (offset + length entry) body ≡ take offset body ++ entry =
    take-add offset (length entry) body ∙ ap (λ (v : List ℕ). take offset body ++ v) (ap (take (length entry)) p ∙ take_at entry behind (length entry) refl) in
    record {
      cut = c;
      front = record {
        inside = omega (arith, h.inside, ap length p, length-append entry behind, length-drop offset body);
        counted = c.inside;
        entries = subst (λ (ps : List Pair). AreEntries 0 [] ps [] (take (offset + length entry) body)) (sym c.front)
            (subst (λ (v : List ℕ). AreEntries 0 [] (take index pairs ++ pair ∷ []) [] v) (sym longer) pushed);
      };
      behind_is = sym (drop-drop (length entry) offset body) ∙ ap (drop (length entry)) p ∙ drop_at entry behind (length entry) refl;
      key = ap (key_behind []) c.front ∙ key_behind-push [] (take index pairs) pair;
    }

-- ---- reading an entry

regroup : (a b c d e : List ℕ) → a ++ (b ++ (c ++ (d ++ e))) ≡ (a ++ (b ++ (c ++ d))) ++ e
regroup a b c d e = sym (append_assoc a (b ++ (c ++ d)) e ∙ ap (λ (v : List ℕ). a ++ v) (append_assoc b (c ++ d) e ∙ ap (λ (v : List ℕ). b ++ v) (append_assoc c d e)))

-- where the value lies
value_at : (body : List ℕ) (offset shared : ℕ) (rest value_bytes entry : List ℕ) (value next : ℕ) → IsEntry shared rest value_bytes entry → next ≡ offset + length entry → value + length value_bytes ≡ next
    → drop offset body ≡ entry ++ drop next body → take (next - value) (drop value body) ≡ value_bytes
value_at body offset shared rest value_bytes entry value next i n v p =
    let head = i.first ++ (i.second ++ (i.third ++ rest)) in
    let whole : drop offset body ≡ head ++ (value_bytes ++ drop next body) = p ∙ spread shared rest value_bytes entry (drop next body) i ∙ regroup i.first i.second i.third rest (value_bytes ++ drop next body) in
    let parts : entry ≡ head ++ value_bytes = i.parts ∙ regroup i.first i.second i.third rest value_bytes in
    let at : value ≡ offset + length head = omega (arith, n, v, ap length parts, length-append head value_bytes) in
    let long : next - value ≡ length value_bytes = omega (arith, v) in
    ap (λ (m : ℕ). take (next - value) (drop m body)) at
    ∙ ap (take (next - value)) (sym (drop-drop (length head) offset body) ∙ ap (drop (length head)) whole ∙ drop_at head (value_bytes ++ drop next body) (length head) refl)
    ∙ ap (λ (m : ℕ). take m (value_bytes ++ drop next body)) long ∙ take_at value_bytes (drop next body) (length value_bytes) refl

spot_of : (body : List ℕ) (pairs : List Pair) (index : ℕ) (previous : List ℕ) (offset : ℕ) (key : List ℕ) (start value next : ℕ) (ps : List Pair) (later : List ℕ)
    → IsFront body pairs index offset → IsRead body previous offset key start value next → drop index pairs ≡ ps
    → AreEntries offset (key_behind [] (take index pairs)) ps later (drop offset body) → AreEntries offset previous ps later (drop offset body) → IsSpot body pairs index key start value next
spot_of body pairs index previous offset key start value next [] later f r e b h =
    absurd (nothing_left offset previous later (drop offset body) r.entry (drop next body) r.parts (entry_some r.shared r.rest r.value_bytes r.entry r.encoded) h)
spot_of body pairs index previous offset key start value next (pair ∷ more) later f r e b h =
    let o = opened offset previous r.shared r.rest r.value_bytes r.entry (drop next body) later (drop offset body) pair more r.encoded r.parts h in
    let t = opened offset (key_behind [] (take index pairs)) r.shared r.rest r.value_bytes r.entry (drop next body) later (drop offset body) pair more r.encoded r.parts b in
    let m = passed body pairs index offset pair more r.shared r.rest r.entry (drop next body) f e (subst (λ (v : List ℕ). IsEntry r.shared r.rest v r.entry) o.value_is r.encoded) t.key r.parts in
    let same : key ≡ pair.key = r.key_is.1 ∙ sym o.key.1 in
    let moved : (k : List ℕ) → pair.key ≡ k → AreEntries next k (drop (suc index) pairs) t.next (drop next body) = λ k q.
    subst (λ (ps : List Pair). AreEntries next k ps t.next (drop next body)) (sym m.cut.behind)
    (subst (λ (z : List ℕ). AreEntries next z more t.next (drop next body)) q (subst (λ (n : ℕ). AreEntries n pair.key more t.next (drop next body)) (sym r.next_is) t.entries)) in
    record {
      pair = pair;
      pair_is = m.cut.found;
      key_is = same;
      front = subst (λ (n : ℕ). IsFront body pairs index n) (sym r.start_is) f;
      ordered = omega (arith, r.value_is);
      value_is = value_at body offset r.shared r.rest r.value_bytes r.entry value next r.encoded r.next_is r.value_is r.parts ∙ o.value_is;
      before = record {
        front = subst (λ (n : ℕ). IsFront body pairs (suc index) n) (sym r.next_is) m.front;
        later = t.next;
        behind = moved (key_behind [] (take (suc index) pairs)) (sym m.key);
        readable = moved key (sym same);
      };
    }

pub spot_read : (body : List ℕ) (pairs : List Pair) (index : ℕ) (previous : List ℕ) (offset : ℕ) (key : List ℕ) (start value next : ℕ) → IsBefore body pairs index previous offset
    → IsRead body previous offset key start value next → IsSpot body pairs index key start value next
spot_read body pairs index previous offset key start value next h r = spot_of body pairs index previous offset key start value next (drop index pairs) h.later h.front r refl h.behind h.readable

readable_of : (body previous : List ℕ) (offset : ℕ) (ps : List Pair) (later : List ℕ) → offset < length body → AreEntries offset previous ps later (drop offset body) → IsReadable body previous offset
readable_of body previous offset [] later some h = absurd (omega (arith, some, ap length h.0, length-drop offset body))
readable_of body previous offset (pair ∷ ps) later some h = (h.0, h.1, pair.value, h.2, h.3, h.5, h.6.0, omega (arith, some), h.7)

pub readable_before : (body : List ℕ) (pairs : List Pair) (index : ℕ) (previous : List ℕ) (offset : ℕ) → IsBefore body pairs index previous offset → offset < length body → IsReadable body previous offset
readable_before body pairs index previous offset h some = readable_of body previous offset (drop index pairs) h.later some h.readable

-- ---- the end

pub at_end : (body : List ℕ) (pairs : List Pair) (index : ℕ) (previous : List ℕ) (offset : ℕ) → IsBefore body pairs index previous offset → length body ≤ offset → index ≡ length pairs
at_end body pairs index previous offset h none =
    omega (arith, none, h.front.counted, pairs_fit offset previous (drop index pairs) h.later (drop offset body) h.readable, length-drop index pairs, length-drop offset body)

some_pair : (body previous : List ℕ) (pairs : List Pair) (index offset : ℕ) (ps : List Pair) (later : List ℕ) → offset < length body → drop index pairs ≡ ps → AreEntries offset previous ps later (drop offset body) → index < length pairs
some_pair body previous pairs index offset [] later some e h = absurd (omega (arith, some, ap length h.0, length-drop offset body))
some_pair body previous pairs index offset (pair ∷ ps) later some e h = let c = cut_at pairs index pair ps e in omega (arith, c.inside)

pub not_at_end : (body : List ℕ) (pairs : List Pair) (index : ℕ) (previous : List ℕ) (offset : ℕ) → IsBefore body pairs index previous offset → offset < length body → index < length pairs
not_at_end body pairs index previous offset h some = some_pair body previous pairs index offset (drop index pairs) h.later some refl h.readable

-- ---- offsets rise with the indexes

fronts : (offset : ℕ) (previous : List ℕ) (i k : ℕ) (pairs : List Pair) (r s a b x y : List ℕ) → AreEntries offset previous (take i pairs) r a → AreEntries offset previous (take k pairs) s b
    → a ++ x ≡ b ++ y → i ≤ k → k ≤ length pairs → length a + (k - i) ≤ length b
fronts offset previous zero k pairs r s a b x y h j e le fits =
    omega (arith, ap length h.0, pairs_fit offset previous (take k pairs) s b j, length-take-le k pairs fits)
fronts offset previous (suc i) zero pairs r s a b x y h j e le fits = absurd (omega (arith, le))
fronts offset previous (suc i) (suc k) [] r s a b x y h j e le fits = absurd (omega (arith, fits))
fronts offset previous (suc i) (suc k) (p ∷ ps) r s a b x y h j e le fits =
    let whole : h.2 ++ (h.3 ++ x) ≡ j.2 ++ (j.3 ++ y) = sym (append_assoc h.2 h.3 x) ∙ ap (λ (v : List ℕ). v ++ x) (sym h.7) ∙ e ∙ ap (λ (v : List ℕ). v ++ y) j.7 ∙ append_assoc j.2 j.3 y in
    let t = entry_front h.0 j.0 h.1 j.1 p.value p.value h.2 j.2 (h.3 ++ x) (j.3 ++ y) h.5 j.5 whole in
    let same : length j.2 ≡ length h.2 = omega (arith, ap length whole, length-append h.2 (h.3 ++ x), length-append j.2 (j.3 ++ y), ap length t.3) in
    let rest = fronts (offset + length h.2) p.key i k ps h.4 j.4 h.3 j.3 x y h.9 (subst (λ (n : ℕ). AreEntries (offset + n) p.key (take k ps) j.4 j.3) same j.9) t.3 (omega (arith, le)) (omega (arith, fits)) in
    omega (arith, ap length h.7, length-append h.2 h.3, ap length j.7, length-append j.2 j.3, same, rest)

pub front_order : (body : List ℕ) (pairs : List Pair) (i k m n : ℕ) → IsFront body pairs i m → IsFront body pairs k n → i ≤ k → m + (k - i) ≤ n
front_order body pairs i k m n h j le =
    let f = fronts 0 [] i k pairs [] [] (take m body) (take n body) (drop m body) (drop n body) h.entries j.entries (take-append-drop m body ∙ sym (take-append-drop n body)) le j.counted in
    omega (arith, f, length-take-le m body h.inside, length-take-le n body j.inside)

pub front_below : (body : List ℕ) (pairs : List Pair) (i k m n : ℕ) → IsFront body pairs i m → IsFront body pairs k n → m < n → i < k
front_below body pairs i k m n h j less =
    elim (cases_lt i k) [
      | inl below ↦ below
      | inr above ↦ absurd (omega (arith, front_order body pairs k i n m j h above, less))
    ]

pub same_index : (body : List ℕ) (pairs : List Pair) (i k n : ℕ) → IsFront body pairs i n → IsFront body pairs k n → i ≡ k
same_index body pairs i k n h j =
    elim (cases_lt i k) [
      | inl below ↦ omega (arith, front_order body pairs i k n n h j (omega (arith, below)))
      | inr above ↦ omega (arith, front_order body pairs k i n n j h above)
    ]

-- ---- the whole body

body_entries : (pairs : List Pair) (restarts body : List ℕ) → IsBody pairs restarts body → AreEntries 0 [] pairs [] body
body_entries [] restarts body h = (h.0, refl)
body_entries (pair ∷ pairs) restarts body h = no_restarts 0 [] (pair ∷ pairs) restarts body h.2

pub whole_front : (pairs : List Pair) (restarts body : List ℕ) → IsBody pairs restarts body → IsFront body pairs (length pairs) (length body)
whole_front pairs restarts body h =
    record {
      inside = omega arith;
      counted = omega arith;
      entries = subst (λ (ps : List Pair). AreEntries 0 [] ps [] (take (length body) body)) (sym (take_all (length pairs) pairs (omega arith)))
          (subst (λ (v : List ℕ). AreEntries 0 [] pairs [] v) (sym (take_all (length body) body (omega arith))) (body_entries pairs restarts body h));
    }

pub front_zero : (body : List ℕ) (pairs : List Pair) → IsFront body pairs 0 0
front_zero body pairs = record { inside = omega arith; counted = omega arith; entries = (refl, refl) }

pub before_first : (pairs : List Pair) (restarts body : List ℕ) → IsBody pairs restarts body → IsBefore body pairs 0 [] 0
before_first pairs restarts body h =
    let e = body_entries pairs restarts body h in
    record { front = front_zero body pairs; later = []; behind = e; readable = e }

pub front_pairs : (body : List ℕ) (pairs : List Pair) (index offset : ℕ) → IsFront body pairs index offset → pairs_of (take offset body) ≡ take index pairs
unfolding pairs_of
front_pairs body pairs index offset h = pairs_found 0 (length (take offset body)) [] (take index pairs) [] (take offset body) h.entries (omega arith)

pub front_index : (body : List ℕ) (pairs : List Pair) (index offset : ℕ) → IsFront body pairs index offset → length (pairs_of (take offset body)) ≡ index
front_index body pairs index offset h = ap (length {A = Pair}) (front_pairs body pairs index offset h) ∙ length-take-le index pairs h.counted

-- an entry before which bytes stand has an index above 0
pub index_some : (body : List ℕ) (pairs : List Pair) (index offset : ℕ) → IsFront body pairs index offset → 0 < offset → 0 < index
index_some body pairs zero offset h some = absurd (omega (arith, some, ap length h.entries.0, length-take-le offset body h.inside))
index_some body pairs (suc index) offset h some = omega arith
