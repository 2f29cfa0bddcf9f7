-- Reading entries one after the other.
use Rattle.std.proofs.Common.{◌≡◌, ℕ, zero, suc, ◌+◌, ◌-◌, ◌<◌, ◌≤◌, ◌⊎◌, inl, inr, Some, List, [], ◌∷◌, ◌++◌, length, take, drop, refl, sym, ap, ◌∙◌, subst, arith}
use Rattle.std.proofs.lemmas.Bool.{cases_lt}
use Rattle.std.proofs.lemmas.List.{length-append, length-drop, drop_at, drop-drop, take_all}
use Rattle.std.specs.List.{slice_get}
use Rattle.ikey.specs.Entries.{Pair}
use Rattle.block.specs.Block.{IsEntry}
use Rattle.block.specs.Spots.{IsReadable, IsRead, IsFront, IsBefore, IsSpot, AreBelow, IsFound}
use Rattle.block.proofs.EntryLaws.{entry_front, entry_some}
use Rattle.block.proofs.Fronts.{spot_read, front_order, front_below, at_end}
use Rattle.block.proofs.Seeks.{below_push}

-- ---- one entry

pub shares_enough : (body previous : List ℕ) (offset s : ℕ) (r v front behind : List ℕ) → IsReadable body previous offset → IsEntry s r v front → drop offset body ≡ front ++ behind → s ≤ length previous
shares_enough body previous offset s r v front behind q i e =
    let t = entry_front q.0 s q.1 r q.2 v q.3 front q.4 behind q.5 i (sym q.8 ∙ e) in
    omega (arith, t.0, q.6)

pub is_read : (body previous : List ℕ) (offset : ℕ) (key : List ℕ) (s : ℕ) (r v front behind : List ℕ) → IsReadable body previous offset → IsEntry s r v front → drop offset body ≡ front ++ behind
    → key ≡ take s previous ++ r → IsRead body previous offset key offset (length body - length behind - length v) (length body - length behind)
is_read body previous offset key s r v front behind q i e k =
    let inside : offset ≤ length body = q.7 in
    let whole : length body - offset ≡ length front + length behind = omega (arith, ap length e, length-append front behind, length-drop offset body) in
    let next : length body - length behind ≡ offset + length front = omega (arith, whole, inside) in
    let long : length v ≤ length front = omega (arith, ap length i.parts, length-append i.first (i.second ++ (i.third ++ (r ++ v))), length-append i.second (i.third ++ (r ++ v)), length-append i.third (r ++ v), length-append r v) in
    let rest : drop (length body - length behind) body ≡ behind = ap (λ (n : ℕ). drop n body) next ∙ sym (drop-drop (length front) offset body) ∙ ap (drop (length front)) e ∙ drop_at front behind (length front) refl in
    record {
      shared = s;
      rest = r;
      entry = front;
      value_bytes = v;
      start_is = refl;
      encoded = i;
      key_is = (shares_enough body previous offset s r v front behind q i e, k);
      inside = omega arith;
      next_is = next;
      value_is = omega (arith, next, long);
      parts = e ∙ ap (λ (z : List ℕ). front ++ z) (sym rest);
    }

pub read_further : (body previous : List ℕ) (offset : ℕ) (key : List ℕ) (start value next : ℕ) → IsRead body previous offset key start value next → offset < next
read_further body previous offset key start value next r = omega (arith, r.next_is, entry_some r.shared r.rest r.value_bytes r.entry r.encoded)

-- ---- up to an end

pub record Walks (body : List ℕ) (pairs : List Pair) (end : ℕ) (key : List ℕ) (start value next : ℕ) : Type 0 where
  pub index : ℕ
  pub last : ℕ
  pub before : IsBefore body pairs index key next
  pub ends : IsFront body pairs (suc last) end
  pub within : index ≤ suc last
  pub stands : (next < end) ⊎ IsSpot body pairs last key start value next

pub walk_on : (body : List ℕ) (pairs : List Pair) (end : ℕ) (key : List ℕ) (start value next : ℕ) (key' : List ℕ) (start' value' next' : ℕ) → Walks body pairs end key start value next → next < end
    → IsRead body key next key' start' value' next' → Walks body pairs end key' start' value' next'
walk_on body pairs end key start value next key' start' value' next' w less r =
    let spot = spot_read body pairs w.index key next key' start' value' next' w.before r in
    let up = front_below body pairs w.index (suc w.last) next end w.before.front w.ends less in
    let stands : (next' < end) ⊎ IsSpot body pairs w.last key' start' value' next' = elim (cases_lt w.index w.last) [
      | inl below ↦ inl (omega (arith, below, front_order body pairs (suc w.index) (suc w.last) next' end spot.before.front w.ends (omega (arith, below))))
      | inr above ↦ inr (let same : w.index ≡ w.last = omega (arith, above, up) in subst (λ (n : ℕ). IsSpot body pairs n key' start' value' next') same spot)
    ] in
    record { index = suc w.index; last = w.last; before = spot.before; ends = w.ends; within = omega (arith, up); stands = stands }

pub walked : (body : List ℕ) (pairs : List Pair) (end : ℕ) (key : List ℕ) (start value next : ℕ) → Walks body pairs end key start value next → end ≤ next
    → (last : ℕ) × IsFront body pairs (suc last) end × IsSpot body pairs last key start value next
walked body pairs end key start value next w done = (
  w.last,
  w.ends,
  elim w.stands [
    | inl less ↦ absurd (omega (arith, less, done))
    | inr spot ↦ spot
  ],
)

-- ---- up to a target

taken : (pairs : List Pair) (index : ℕ) (pair : Pair) → slice_get pairs index ≡ Some pair → take (suc index) pairs ≡ take index pairs ++ pair ∷ []
taken [] zero pair e = absurd cc
taken [] (suc index) pair e = absurd cc
taken (p ∷ ps) zero pair e = let same : p ≡ pair = cc in ap (λ (q : Pair). q ∷ []) same
taken (p ∷ ps) (suc index) pair e = ap (λ (qs : List Pair). p ∷ qs) (taken ps index pair e)

pub record Passes (below : List ℕ → List ℕ → Type 0) (target body : List ℕ) (pairs : List Pair) (key : List ℕ) (next : ℕ) : Type 0 where
  pub index : ℕ
  pub before : IsBefore body pairs index key next
  pub fronts : AreBelow below target (take index pairs)

pub pass_on : (below : List ℕ → List ℕ → Type 0) (target body : List ℕ) (pairs : List Pair) (key : List ℕ) (next : ℕ) (key' : List ℕ) (start' value' next' : ℕ) → Passes below target body pairs key next
    → IsRead body key next key' start' value' next' → below key' target → Passes below target body pairs key' next'
pass_on below target body pairs key next key' start' value' next' p r b =
    let spot = spot_read body pairs p.index key next key' start' value' next' p.before r in
    record {
      index = suc p.index;
      before = spot.before;
      fronts = subst (AreBelow below target) (sym (taken pairs p.index spot.pair spot.pair_is))
          (below_push below target (take p.index pairs) spot.pair p.fronts (subst (λ (k : List ℕ). below k target) spot.key_is b));
    }

pub stops : (below : List ℕ → List ℕ → Type 0) (target body : List ℕ) (pairs : List Pair) (key : List ℕ) (next : ℕ) (key' : List ℕ) (start' value' next' : ℕ) → Passes below target body pairs key next
    → IsRead body key next key' start' value' next' → (below key' target → ⊥) → IsFound below target body pairs key' start' value' next'
stops below target body pairs key next key' start' value' next' p r above = (p.index, spot_read body pairs p.index key next key' start' value' next' p.before r, p.fronts, above)

pub all_pass : (below : List ℕ → List ℕ → Type 0) (target body : List ℕ) (pairs : List Pair) (key : List ℕ) (next : ℕ) → Passes below target body pairs key next → length body ≤ next → AreBelow below target pairs
all_pass below target body pairs key next p done =
    subst (AreBelow below target) (take_all p.index pairs (omega (arith, at_end body pairs p.index key next p.before done))) p.fronts
