-- The pairs that entries are.
use Rattle.std.proofs.Common.{◌≡◌, ℕ, zero, suc, ◌+◌, ◌-◌, ◌*◌, ◌≤◌, List, [], ◌∷◌, ◌++◌, length, take, refl, sym, ap, ◌∙◌, append_assoc, arith, take_at, drop_at}
use Rattle.std.proofs.lemmas.List.{length-append}
use Rattle.std.proofs.lemmas.Bool.{cond_below, cond_above}
use Rattle.coding.specs.Varint.{IsVarint}
use Rattle.coding.proofs.Fronts.{varint_front, same_front}
use Rattle.ikey.specs.Entries.{Pair}
use Rattle.block.specs.Block.{IsEntry, AreEntries}
use Rattle.block.specs.Reading.{number_at, pairs_behind}

-- an entry's parts, with what follows it
pub spread : (shared : ℕ) (rest value bytes x : List ℕ) (h : IsEntry shared rest value bytes) → bytes ++ x ≡ h.first ++ (h.second ++ (h.third ++ (rest ++ (value ++ x))))
spread shared rest value bytes x h =
    ap (λ (v : List ℕ). v ++ x) h.parts ∙ append_assoc h.first (h.second ++ (h.third ++ (rest ++ value))) x
    ∙ ap (λ (v : List ℕ). h.first ++ v) (append_assoc h.second (h.third ++ (rest ++ value)) x
    ∙ ap (λ (v : List ℕ). h.second ++ v) (append_assoc h.third (rest ++ value) x
    ∙ ap (λ (v : List ℕ). h.third ++ v) (append_assoc rest value x)))

-- what stands at the front of bytes is one entry
pub entry_front : (s t : ℕ) (r q v w a b x y : List ℕ) → IsEntry s r v a → IsEntry t q w b → a ++ x ≡ b ++ y → (s ≡ t) × (r ≡ q) × (v ≡ w) × (x ≡ y)
entry_front s t r q v w a b x y h k e =
    let whole = sym (spread s r v a x h) ∙ e ∙ spread t q w b y k in
    let one = varint_front h.first k.first (h.second ++ (h.third ++ (r ++ (v ++ x)))) (k.second ++ (k.third ++ (q ++ (w ++ y)))) s t h.shared_number k.shared_number whole in
    let two = varint_front h.second k.second (h.third ++ (r ++ (v ++ x))) (k.third ++ (q ++ (w ++ y))) (length r) (length q) h.rest_number k.rest_number one.1 in
    let three = varint_front h.third k.third (r ++ (v ++ x)) (q ++ (w ++ y)) (length v) (length w) h.value_number k.value_number two.1 in
    let four = same_front r q (v ++ x) (w ++ y) two.0 three.1 in
    let five = same_front v w x y three.0 four.1 in
    (one.0, four.0, five.0, five.1)

varint_some : (a : List ℕ) (n : ℕ) → IsVarint a n → 1 ≤ length a
varint_some [] n p = absurd p
varint_some (b ∷ a) n p = omega arith

-- an entry has bytes
pub entry_some : (shared : ℕ) (rest value bytes : List ℕ) → IsEntry shared rest value bytes → 1 ≤ length bytes
entry_some shared rest value bytes h =
    omega (arith, ap length h.parts, length-append h.first (h.second ++ (h.third ++ (rest ++ value))), varint_some h.first shared h.shared_number)

number_at-encoded : (a x : List ℕ) (n : ℕ) → IsVarint a n → number_at (a ++ x) ≡ (n, x)
unfolding number_at
number_at-encoded [] x n p = absurd p
number_at-encoded (b ∷ []) x n p = sym (cond_below b 128 (b, x) _ p.0) ∙ (λ i. (sym p.1 i, x))
number_at-encoded (b ∷ c ∷ a) x n p =
    let r = number_at-encoded (c ∷ a) x p.2 p.5 in
    let e : b - 128 + 128 * p.2 ≡ n = omega (arith, p.0, p.4) in
    sym (cond_above b 128 _ _ _ p.0 refl) ∙ ap (λ (v : ℕ × List ℕ). (b - 128 + 128 * v.0, v.1)) r ∙ (λ i. (e i, x))

pub pairs_step : (most shared : ℕ) (previous first second third rest value behind : List ℕ) → IsVarint first shared → IsVarint second (length rest) → IsVarint third (length value)
    → pairs_behind (suc most) previous (first ++ (second ++ (third ++ (rest ++ (value ++ behind))))) ≡ record { key = take shared previous ++ rest; value = value } ∷ pairs_behind most (take shared previous ++ rest) behind
unfolding pairs_behind
pairs_step most shared previous [] second third rest value behind p q r = absurd p
pairs_step most shared previous (c ∷ cs) second third rest value behind p q r =
    rw (
      number_at-encoded (c ∷ cs) (second ++ (third ++ (rest ++ (value ++ behind)))) shared p,
      number_at-encoded second (third ++ (rest ++ (value ++ behind))) (length rest) q,
      number_at-encoded third (rest ++ (value ++ behind)) (length value) r,
      take_at rest (value ++ behind) (length rest) refl,
      drop_at rest (value ++ behind) (length rest) refl,
      take_at value behind (length value) refl,
      drop_at value behind (length value) refl,
    ) refl

no_pairs : (most : ℕ) (previous : List ℕ) → pairs_behind most previous [] ≡ []
unfolding pairs_behind
no_pairs zero previous = refl
no_pairs (suc most) previous = refl

-- entries are the pairs that are read from them
pub pairs_found : (offset most : ℕ) (previous : List ℕ) (pairs : List Pair) (restarts bytes : List ℕ) → AreEntries offset previous pairs restarts bytes → length bytes ≤ most → pairs_behind most previous bytes ≡ pairs
pairs_found offset most previous [] restarts bytes h le = ap (pairs_behind most previous) h.0 ∙ no_pairs most previous
pairs_found offset zero previous (pair ∷ pairs) restarts bytes h le =
    absurd (omega (arith, le, ap length h.7, length-append h.2 h.3, entry_some h.0 h.1 pair.value h.2 h.5))
pairs_found offset (suc most) previous (pair ∷ pairs) restarts bytes h le =
    let whole = h.7 ∙ spread h.0 h.1 pair.value h.2 h.3 h.5 in
    let less : length h.3 ≤ most = omega (arith, le, ap length h.7, length-append h.2 h.3, entry_some h.0 h.1 pair.value h.2 h.5) in
    let step = pairs_step most h.0 previous h.5.first h.5.second h.5.third h.1 pair.value h.3 h.5.shared_number h.5.rest_number h.5.value_number in
    let key : take h.0 previous ++ h.1 ≡ pair.key = sym h.6.1 in
    let tail = pairs_found (offset + length h.2) most pair.key pairs h.4 h.3 h.9 less in
    ap (pairs_behind (suc most) previous) whole ∙ step ∙ (λ i. record { key = key i; value = pair.value } ∷ pairs_behind most (key i) h.3) ∙ ap (λ (ps : List Pair). pair ∷ ps) tail
