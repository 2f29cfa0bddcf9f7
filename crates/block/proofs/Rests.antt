-- What is left of a block, entry by entry.
use Rattle.std.proofs.Common.{◌≡◌, ℕ, zero, suc, ◌+◌, ◌^◌, ◌<◌, ◌≤◌, inl, inr, false, eqb, Option, Some, None, List, [], ◌∷◌, ◌++◌, length, take, refl, sym, ap, ◌∙◌, subst, arith}
use Rattle.std.proofs.lemmas.List.{length-append}
use Rattle.std.specs.List.{flat_map}
use Rattle.coding.specs.Fixed.{fixed32}
use Rattle.coding.proofs.Fronts.{fixed32_front}
use Rattle.ikey.specs.Entries.{Pair}
use Rattle.block.specs.Block.{IsEntry, IsKeyBehind, TakesRestart, AreEntries, AreAbove, IsBody, last_key_from}
use Rattle.block.proofs.EntryLaws.{entry_front, entry_some}

-- the key before this offset, if there is one
abbrev pub key_before : ℕ → List ℕ → Option (List ℕ)
key_before zero previous = None
key_before (suc offset) previous = Some previous

-- from an offset on the bytes are entries whose keys rise, at some of whose offsets the waiting
-- restarts stand
abbrev pub RestOf : (List ℕ → List ℕ → Type 0) → ℕ → List ℕ → List ℕ → List ℕ → Type 0
RestOf below offset previous waiting rest =
    (pairs : List Pair) × (later : List ℕ) × (waiting ≡ flat_map fixed32 later) × AreEntries offset previous pairs later rest × AreAbove below (key_before offset previous) pairs

-- and the last of their keys is this one, if there is one, or else the one before
abbrev pub RestEnds : (List ℕ → List ℕ → Type 0) → ℕ → List ℕ → List ℕ → List ℕ → List ℕ → Type 0
RestEnds below offset previous waiting rest last = (h : RestOf below offset previous waiting rest) × (last_key_from previous h.0 ≡ last)

head_at : (offset x : ℕ) (later xs : List ℕ) → offset ∷ later ≡ x ∷ xs → offset ≡ x
head_at offset x later xs e = cc

head_of : (offset shared n : ℕ) (restarts later xs : List ℕ) (x : ℕ) → TakesRestart offset shared restarts later → restarts ≡ x ∷ xs → offset ≤ n → n < 2 ^ 32 → (later ≡ x ∷ xs → (n ≤ x) × (x < 2 ^ 32)) → (offset ≤ x) × (x < 2 ^ 32)
head_of offset shared n restarts later xs x (inl same) e le small f = let r = f (sym same ∙ e) in (omega (arith, le, r.0), r.1)
head_of offset shared n restarts later xs x (inr taken) e le small f =
    let at : offset ≡ x = head_at offset x later xs (sym taken.1 ∙ e) in (omega (arith, at), omega (arith, at, le, small))

head_fits : (offset : ℕ) (previous : List ℕ) (pairs : List Pair) (restarts bytes : List ℕ) (x : ℕ) (xs : List ℕ) → restarts ≡ x ∷ xs → AreEntries offset previous pairs restarts bytes → offset + length bytes < 2 ^ 32 → (offset ≤ x) × (x < 2 ^ 32)
head_fits offset previous [] restarts bytes x xs e h fits = absurd (omega (arith, ap length (sym e ∙ h.1)))
head_fits offset previous (pair ∷ pairs) restarts bytes x xs e h fits =
    let whole : length bytes ≡ length h.2 + length h.3 = ap length h.7 ∙ length-append h.2 h.3 in
    head_of offset h.0 (offset + length h.2) restarts h.4 xs x h.8 e (omega arith) (omega (arith, whole, fits))
    (λ t. head_fits (offset + length h.2) pair.key pairs h.4 h.3 x xs t h.9 (omega (arith, whole, fits)))

pub nothing_left : (offset : ℕ) (previous later rest front behind : List ℕ) → rest ≡ front ++ behind → 1 ≤ length front → AreEntries offset previous [] later rest → ⊥
nothing_left offset previous later rest front behind e some h = omega (arith, ap length (sym h.0 ∙ e), length-append front behind, some)

-- the entry at the front is the first pair's
pub record Opened (offset : ℕ) (previous : List ℕ) (shared : ℕ) (rest_of_key value front behind later : List ℕ) (pair : Pair) (pairs : List Pair) : Type 0 where
  pub next : List ℕ
  pub key : IsKeyBehind previous shared rest_of_key pair.key
  pub value_is : value ≡ pair.value
  pub takes : TakesRestart offset shared later next
  pub entries : AreEntries (offset + length front) pair.key pairs next behind

pub opened : (offset : ℕ) (previous : List ℕ) (s : ℕ) (r v front behind later rest : List ℕ) (pair : Pair) (pairs : List Pair) → IsEntry s r v front → rest ≡ front ++ behind → AreEntries offset previous (pair ∷ pairs) later rest
    → Opened offset previous s r v front behind later pair pairs
opened offset previous s r v front behind later rest pair pairs i e h =
    let t = entry_front s h.0 r h.1 v pair.value front h.2 behind h.3 i h.5 (sym e ∙ h.7) in
    let long : length h.2 ≡ length front = omega (arith, ap length (sym e ∙ h.7), length-append front behind, length-append h.2 h.3, ap length t.3) in
    record {
      next = h.4;
      key = (subst (λ (n : ℕ). n ≤ length previous) (sym t.0) h.6.0, h.6.1 ∙ (λ i. take (sym t.0 i) previous ++ sym t.1 i));
      value_is = t.2;
      takes = subst (λ (n : ℕ). TakesRestart offset n later h.4) (sym t.0) h.8;
      entries = subst (λ (b : List ℕ). AreEntries (offset + length front) pair.key pairs h.4 b) (sym t.3) (subst (λ (n : ℕ). AreEntries (offset + n) pair.key pairs h.4 h.3) long h.9);
    }

pub above_tail : (below : List ℕ → List ℕ → Type 0) (previous : Option (List ℕ)) (pair : Pair) (pairs : List Pair) → AreAbove below previous (pair ∷ pairs) → AreAbove below (Some pair.key) pairs
above_tail below None pair pairs h = h
above_tail below (Some key) pair pairs h = h.1

before_some : (offset : ℕ) (key : List ℕ) → 0 < offset → key_before offset key ≡ Some key
before_some zero key h = absurd (omega (arith, h))
before_some (suc offset) key h = refl

-- ---- why there is no rest

pub no_entry : (below : List ℕ → List ℕ → Type 0) (offset : ℕ) (previous waiting rest : List ℕ) → 0 < length rest → ((shared : ℕ) (key value front behind : List ℕ) → IsEntry shared key value front → rest ≡ front ++ behind → ⊥) → RestOf below offset previous waiting rest → ⊥
no_entry below offset previous waiting rest some none ([], later, w, h, a) = omega (arith, some, ap length h.0)
no_entry below offset previous waiting rest some none (pair ∷ pairs, later, w, h, a) = none h.0 h.1 pair.value h.2 h.3 h.5 h.7

pub shares_too_much : (below : List ℕ → List ℕ → Type 0) (offset : ℕ) (previous waiting rest : List ℕ) (s : ℕ) (r v front behind : List ℕ) → IsEntry s r v front → rest ≡ front ++ behind → length previous < s → RestOf below offset previous waiting rest → ⊥
shares_too_much below offset previous waiting rest s r v front behind i e much ([], later, w, h, a) = nothing_left offset previous later rest front behind e (entry_some s r v front i) h
shares_too_much below offset previous waiting rest s r v front behind i e much (pair ∷ pairs, later, w, h, a) =
    let o = opened offset previous s r v front behind later rest pair pairs i e h in omega (arith, much, o.key.0)

not_above : (below : List ℕ → List ℕ → Type 0) (offset : ℕ) (previous key : List ℕ) (pair : Pair) (pairs : List Pair) → 0 < offset → key ≡ pair.key → (below previous key → ⊥) → AreAbove below (key_before offset previous) (pair ∷ pairs) → ⊥
not_above below zero previous key pair pairs some k none a = absurd (omega (arith, some))
not_above below (suc offset) previous key pair pairs some k none a = none (subst (below previous) (sym k) a.0)

pub does_not_rise : (below : List ℕ → List ℕ → Type 0) (offset : ℕ) (previous waiting rest : List ℕ) (s : ℕ) (r v front behind key : List ℕ) → IsEntry s r v front → rest ≡ front ++ behind → key ≡ take s previous ++ r → 0 < offset → (below previous key → ⊥) → RestOf below offset previous waiting rest → ⊥
does_not_rise below offset previous waiting rest s r v front behind key i e k some none ([], later, w, h, a) = nothing_left offset previous later rest front behind e (entry_some s r v front i) h
does_not_rise below offset previous waiting rest s r v front behind key i e k some none (pair ∷ pairs, later, w, h, a) =
    let o = opened offset previous s r v front behind later rest pair pairs i e h in
    not_above below offset previous key pair pairs some (k ∙ sym o.key.1) none a

-- ---- a restart that stands here is this entry's

waits_here : (offset n : ℕ) (key : List ℕ) (pairs : List Pair) (next behind waiting more : List ℕ) → waiting ≡ fixed32 offset ++ more → waiting ≡ flat_map fixed32 next → AreEntries n key pairs next behind → offset < n → n + length behind < 2 ^ 32 → ⊥
waits_here offset n key pairs [] behind waiting more here w h less fits = omega (arith, ap length (sym here ∙ w), length-append (fixed32 offset) more)
waits_here offset n key pairs (x ∷ next) behind waiting more here w h less fits =
    let head = head_fits n key pairs (x ∷ next) behind x next refl h fits in
    let same = fixed32_front offset x more (flat_map fixed32 next) (omega (arith, less, fits)) head.1 (sym here ∙ w) in
    omega (arith, same.0, head.0, less)

taken_by : (offset s n : ℕ) (key : List ℕ) (pairs : List Pair) (later next behind waiting more : List ℕ) → TakesRestart offset s later next → waiting ≡ fixed32 offset ++ more → waiting ≡ flat_map fixed32 later → AreEntries n key pairs next behind → offset < n → n + length behind < 2 ^ 32 → (s ≡ 0) × (more ≡ flat_map fixed32 next)
taken_by offset s n key pairs later next behind waiting more (inl same) here w h less fits = absurd (waits_here offset n key pairs next behind waiting more here (w ∙ ap (flat_map fixed32) same) h less fits)
taken_by offset s n key pairs later next behind waiting more (inr taken) here w h less fits =
    (taken.0, (fixed32_front offset offset more (flat_map fixed32 next) (omega (arith, less, fits)) (omega (arith, less, fits)) (sym here ∙ w ∙ ap (flat_map fixed32) taken.1)).1)

skipped_by : (offset s : ℕ) (later next waiting : List ℕ) → TakesRestart offset s later next → ((more : List ℕ) → waiting ≡ fixed32 offset ++ more → ⊥) → waiting ≡ flat_map fixed32 later → waiting ≡ flat_map fixed32 next
skipped_by offset s later next waiting (inl same) none w = w ∙ ap (flat_map fixed32) same
skipped_by offset s later next waiting (inr taken) none w = absurd (none (flat_map fixed32 next) (w ∙ ap (flat_map fixed32) taken.1))

-- ---- one entry on, and back

onward : (below : List ℕ → List ℕ → Type 0) (offset : ℕ) (previous waiting rest : List ℕ) (s : ℕ) (r v front behind key more : List ℕ) → IsEntry s r v front → rest ≡ front ++ behind → key ≡ take s previous ++ r
    → ((pairs : List Pair) (k later next : List ℕ) → TakesRestart offset s later next → waiting ≡ flat_map fixed32 later → AreEntries (offset + length front) k pairs next behind → more ≡ flat_map fixed32 next)
    → RestOf below offset previous waiting rest → RestOf below (offset + length front) key more behind
onward below offset previous waiting rest s r v front behind key more i e k f ([], later, w, h, a) = absurd (nothing_left offset previous later rest front behind e (entry_some s r v front i) h)
onward below offset previous waiting rest s r v front behind key more i e k f (pair ∷ pairs, later, w, h, a) =
    let o = opened offset previous s r v front behind later rest pair pairs i e h in
    let same : pair.key ≡ key = o.key.1 ∙ sym k in
    let some : 0 < offset + length front = omega (arith, entry_some s r v front i) in (
      pairs,
      o.next,
      f pairs pair.key later o.next o.takes w o.entries,
      subst (λ (z : List ℕ). AreEntries (offset + length front) z pairs o.next behind) same o.entries,
      subst (λ (z : Option (List ℕ)). AreAbove below z pairs) (ap Some same ∙ sym (before_some (offset + length front) key some)) (above_tail below (key_before offset previous) pair pairs a),
    )

pub on_taken : (below : List ℕ → List ℕ → Type 0) (offset : ℕ) (previous waiting rest : List ℕ) (s : ℕ) (r v front behind key more : List ℕ) → IsEntry s r v front → rest ≡ front ++ behind → key ≡ take s previous ++ r
    → offset + length rest < 2 ^ 32 → waiting ≡ fixed32 offset ++ more → RestOf below offset previous waiting rest → RestOf below (offset + length front) key more behind
on_taken below offset previous waiting rest s r v front behind key more i e k fits here =
    onward below offset previous waiting rest s r v front behind key more i e k
    (λ pairs z later next t w h. (taken_by offset s (offset + length front) z pairs later next behind waiting more t here w h (omega (arith, entry_some s r v front i)) (omega (arith, fits, ap length e, length-append front behind))).1)

pub on_skipped : (below : List ℕ → List ℕ → Type 0) (offset : ℕ) (previous waiting rest : List ℕ) (s : ℕ) (r v front behind key : List ℕ) → IsEntry s r v front → rest ≡ front ++ behind → key ≡ take s previous ++ r
    → ((more : List ℕ) → waiting ≡ fixed32 offset ++ more → ⊥) → RestOf below offset previous waiting rest → RestOf below (offset + length front) key waiting behind
on_skipped below offset previous waiting rest s r v front behind key i e k none =
    onward below offset previous waiting rest s r v front behind key waiting i e k (λ pairs z later next t w h. skipped_by offset s later next waiting t none w)

pub shares_at_restart : (below : List ℕ → List ℕ → Type 0) (offset : ℕ) (previous waiting rest : List ℕ) (s : ℕ) (r v front behind more : List ℕ) → IsEntry s r v front → rest ≡ front ++ behind
    → offset + length rest < 2 ^ 32 → waiting ≡ fixed32 offset ++ more → 0 < s → RestOf below offset previous waiting rest → ⊥
shares_at_restart below offset previous waiting rest s r v front behind more i e fits here some ([], later, w, h, a) = nothing_left offset previous later rest front behind e (entry_some s r v front i) h
shares_at_restart below offset previous waiting rest s r v front behind more i e fits here some (pair ∷ pairs, later, w, h, a) =
    let o = opened offset previous s r v front behind later rest pair pairs i e h in
    let t = taken_by offset s (offset + length front) pair.key pairs later o.next behind waiting more o.takes here w o.entries (omega (arith, entry_some s r v front i)) (omega (arith, fits, ap length e, length-append front behind)) in
    omega (arith, some, t.0)

above_more : (below : List ℕ → List ℕ → Type 0) (offset : ℕ) (previous key value : List ℕ) (pairs : List Pair) → (0 < offset → below previous key) → AreAbove below (Some key) pairs → AreAbove below (key_before offset previous) (record { key = key; value = value } ∷ pairs)
above_more below zero previous key value pairs f a = a
above_more below (suc offset) previous key value pairs f a = (f (omega arith), a)

back : (below : List ℕ → List ℕ → Type 0) (offset : ℕ) (previous waiting rest : List ℕ) (s : ℕ) (r v front behind key more : List ℕ) → IsEntry s r v front → rest ≡ front ++ behind → s ≤ length previous → key ≡ take s previous ++ r → (0 < offset → below previous key)
    → ((later : List ℕ) → more ≡ flat_map fixed32 later → (all : List ℕ) × (waiting ≡ flat_map fixed32 all) × TakesRestart offset s all later)
    → (last : List ℕ) → RestEnds below (offset + length front) key more behind last → RestEnds below offset previous waiting rest last
back below offset previous waiting rest s r v front behind key more i e le k up f last (h, is_last) =
    let some : 0 < offset + length front = omega (arith, entry_some s r v front i) in
    let all = f h.1 h.2 in (
      (
        record { key = key; value = v } ∷ h.0,
        all.0,
        all.1,
        (s, r, front, behind, h.1, i, (le, k), e, all.2, h.3),
        above_more below offset previous key v h.0 up (subst (λ (z : Option (List ℕ)). AreAbove below z h.0) (before_some (offset + length front) key some) h.4),
      ),
      is_last,
    )

pub back_taken : (below : List ℕ → List ℕ → Type 0) (offset : ℕ) (previous waiting rest : List ℕ) (s : ℕ) (r v front behind key more : List ℕ) → IsEntry s r v front → rest ≡ front ++ behind → s ≤ length previous → key ≡ take s previous ++ r → (0 < offset → below previous key)
    → s ≡ 0 → waiting ≡ fixed32 offset ++ more → (last : List ℕ) → RestEnds below (offset + length front) key more behind last → RestEnds below offset previous waiting rest last
back_taken below offset previous waiting rest s r v front behind key more i e le k up zero-shared here =
    back below offset previous waiting rest s r v front behind key more i e le k up (λ later w. (offset ∷ later, here ∙ ap (λ (z : List ℕ). fixed32 offset ++ z) w, inr (zero-shared, refl)))

pub back_skipped : (below : List ℕ → List ℕ → Type 0) (offset : ℕ) (previous waiting rest : List ℕ) (s : ℕ) (r v front behind key : List ℕ) → IsEntry s r v front → rest ≡ front ++ behind → s ≤ length previous → key ≡ take s previous ++ r → (0 < offset → below previous key)
    → (last : List ℕ) → RestEnds below (offset + length front) key waiting behind last → RestEnds below offset previous waiting rest last
back_skipped below offset previous waiting rest s r v front behind key i e le k up =
    back below offset previous waiting rest s r v front behind key waiting i e le k up (λ later w. (later, w, inl refl))

-- ---- the whole, and the end

pub rest_of_body : (below : List ℕ → List ℕ → Type 0) (restarts body : List ℕ) (pairs : List Pair) (list : List ℕ) → 0 < length body → restarts ≡ flat_map fixed32 list → IsBody pairs list body → AreAbove below None pairs → RestOf below 0 [] restarts body
rest_of_body below restarts body [] list some w h a = absurd (omega (arith, some, ap length h.0))
rest_of_body below restarts body (pair ∷ pairs) list some w h a = (pair ∷ pairs, list, w, h.2, a)

pub body_of_rest : (below : List ℕ → List ℕ → Type 0) (restarts body behind last : List ℕ) → 0 < length body → length body < 2 ^ 32 → restarts ≡ fixed32 0 ++ behind → RestEnds below 0 [] restarts body last
    → (pairs : List Pair) × (list : List ℕ) × (restarts ≡ flat_map fixed32 list) × IsBody pairs list body × AreAbove below None pairs × (last_key_from [] pairs ≡ last)
body_of_rest below restarts body behind last some fits first (([], list, w, h, a), is_last) = absurd (omega (arith, some, ap length h.0))
body_of_rest below restarts body behind last some fits first ((pair ∷ pairs, [], w, h, a), is_last) = absurd (omega (arith, ap length (sym first ∙ w), length-append (fixed32 0) behind))
body_of_rest below restarts body behind last some fits first ((pair ∷ pairs, x ∷ xs, w, h, a), is_last) =
    let head = head_fits 0 [] (pair ∷ pairs) (x ∷ xs) body x xs refl h (omega (arith, fits)) in
    let same = fixed32_front 0 x behind (flat_map fixed32 xs) (omega arith) head.1 (sym first ∙ w) in
    (pair ∷ pairs, x ∷ xs, w, (xs, (λ i. sym same.0 i ∷ xs), h), a, is_last)

pub rest_at_end : (below : List ℕ → List ℕ → Type 0) (offset : ℕ) (previous : List ℕ) → RestEnds below offset previous [] [] previous
rest_at_end below offset previous = (([], [], refl, (refl, refl), tt), refl)

pub none_at_end : (below : List ℕ → List ℕ → Type 0) (offset : ℕ) (previous waiting : List ℕ) → 0 < length waiting → RestOf below offset previous waiting [] → ⊥
none_at_end below offset previous waiting some ([], later, w, h, a) = omega (arith, some, ap length (w ∙ ap (flat_map fixed32) h.1))
none_at_end below offset previous waiting some (pair ∷ pairs, later, w, h, a) = omega (arith, ap length h.7, length-append h.2 h.3, entry_some h.0 h.1 pair.value h.2 h.5)

pub some_left : (xs : List ℕ) → eqb (length xs) 0 ≡ false → 0 < length xs
some_left [] e = absurd cc
some_left (x ∷ xs) e = omega arith
