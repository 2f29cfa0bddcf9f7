-- No spelling of a number begins another.
use Rattle.std.proofs.Common.{◌≡◌, ◌<◌, ◌≤◌, ◌+◌, ◌-◌, ◌*◌, ◌/◌, ◌%◌, ◌^◌, ℕ, zero, suc, List, [], ◌∷◌, ◌++◌, refl, sym, ap, ◌∙◌, arith, take, drop, length, get_or}
use Rattle.std.proofs.lemmas.Bool.{cond_below, cond_above}
use Rattle.std.proofs.lemmas.List.{take-append-drop, take-append-le, length-append, length-take}
use Rattle.coding.specs.Varint.{IsVarint, IsString, varint_length, string_length}

pub one_spelling : (a b x y : List ℕ) (m n : ℕ) → IsVarint a m → IsVarint b n → a ++ x ≡ b ++ y → (a ≡ b) × (m ≡ n)
one_spelling [] b x y m n p q e = absurd p
one_spelling (c ∷ []) [] x y m n p q e = absurd q
one_spelling (c ∷ d ∷ a) [] x y m n p q e = absurd q
one_spelling (c ∷ []) (c' ∷ []) x y m n p q e =
    let h : c ≡ c' = cc in
    (ap (λ (v : ℕ). v ∷ []) h, omega (arith, h, p.1, q.1))
one_spelling (c ∷ []) (c' ∷ d' ∷ b) x y m n p q e =
    let h : c ≡ c' = cc in absurd (omega (arith, h, p.0, q.0))
one_spelling (c ∷ d ∷ a) (c' ∷ []) x y m n p q e =
    let h : c ≡ c' = cc in absurd (omega (arith, h, p.0, q.0))
one_spelling (c ∷ d ∷ a) (c' ∷ d' ∷ b) x y m n p q e =
    let h : c ≡ c' = cc in
    let t : (d ∷ a) ++ x ≡ (d' ∷ b) ++ y = cc in
    let r = one_spelling (d ∷ a) (d' ∷ b) x y p.2 q.2 p.5 q.5 t in
    (cc, omega (arith, h, r.1, p.4, q.4))

-- two numbers at the front of the same bytes are one
pub one_at_front : (bytes : List ℕ) (i j m n : ℕ) → IsVarint (take i bytes) m → IsVarint (take j bytes) n → m ≡ n
one_at_front bytes i j m n p q =
    (one_spelling (take i bytes) (take j bytes) (drop i bytes) (drop j bytes) m n p q (take-append-drop i bytes ∙ sym (take-append-drop j bytes))).1

-- after a byte that isn't the last stands a number
behind : (b : ℕ) (rest : List ℕ) (n : ℕ) → 128 ≤ b → IsVarint (b ∷ rest) n → (high : ℕ) × (0 < high) × (n + 128 ≡ b + 128 * high) × IsVarint rest high
behind b [] n more p = absurd (omega (arith, p.0, more))
behind b (c ∷ rest) n more p = (p.2, p.3, p.4, p.5)

pub none_behind : (bytes : List ℕ) (limit : ℕ) → 1 ≤ length bytes → 128 ≤ get_or bytes 0 0
    → ((value used : ℕ) → 0 < value → value ≤ (limit - (get_or bytes 0 0 - 128)) / 128 → IsVarint (take used (drop 1 bytes)) value → ⊥)
    → (value used : ℕ) → value ≤ limit → IsVarint (take used bytes) value → ⊥
none_behind [] limit some more none value used le p = absurd (omega arith)
none_behind (b ∷ rest) limit some more none value zero le p = absurd p
none_behind (b ∷ rest) limit some more none value (suc used) le p =
    let h = behind b (take used rest) value more p in
    none h.0 used h.1 (omega (arith, h.2, h.1)) h.3

-- a byte that isn't the last, and what stands for the rest
pub low_in_front : (rest : ℕ) (tail : List ℕ) → 128 ≤ rest → IsVarint tail (rest / 128) → IsVarint ((rest % 128 + 128) ∷ tail) rest
low_in_front rest [] more p = absurd p
low_in_front rest (c ∷ tail) more p = (omega arith, omega arith, rest / 128, omega arith, omega arith, p)

-- a front stays while bytes are added after it
pub front_stays : (front bytes more : List ℕ) → take (length front) bytes ≡ front → take (length front) (bytes ++ more) ≡ front
front_stays front bytes more e =
    let fits : length front ≤ length bytes = omega (arith, length-take (length front) bytes, ap length e) in
    take-append-le (length front) bytes more fits ∙ e

-- how many bytes a number takes
pub length-varint : (a : List ℕ) (n : ℕ) → IsVarint a n → n < 2 ^ 32 → length a ≡ varint_length n
length-varint [] n p small = absurd p
length-varint (b ∷ []) n p small = cond_below n (2 ^ 7) 1 _ (omega arith)
length-varint (b ∷ c ∷ []) n p small = cond_above n (2 ^ 7) 1 _ 2 (omega arith) (cond_below n (2 ^ 14) 2 _ (omega arith))
length-varint (b ∷ c ∷ d ∷ []) n p small =
    cond_above n (2 ^ 7) 1 _ 3 (omega arith) (cond_above n (2 ^ 14) 2 _ 3 (omega arith) (cond_below n (2 ^ 21) 3 _ (omega arith)))
length-varint (b ∷ c ∷ d ∷ e ∷ []) n p small =
    cond_above n (2 ^ 7) 1 _ 4 (omega arith) (cond_above n (2 ^ 14) 2 _ 4 (omega arith) (cond_above n (2 ^ 21) 3 _ 4 (omega arith) (cond_below n (2 ^ 28) 4 _ (omega arith))))
length-varint (b ∷ c ∷ d ∷ e ∷ f ∷ []) n p small =
    cond_above n (2 ^ 7) 1 _ 5 (omega arith) (cond_above n (2 ^ 14) 2 _ 5 (omega arith) (cond_above n (2 ^ 21) 3 _ 5 (omega arith) (cond_above n (2 ^ 28) 4 _ 5 (omega arith) refl)))
length-varint (b ∷ c ∷ d ∷ e ∷ f ∷ g ∷ rest) n p small = absurd (omega arith)

pub length-string : (bytes text : List ℕ) → IsString bytes text → length bytes ≡ string_length text
length-string bytes text s = omega (arith, ap length s.parts, length-append s.front text, length-varint s.front (length text) s.number s.fits)
