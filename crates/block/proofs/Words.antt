-- What two lists of bytes share, by words of eight.
use Rattle.std.proofs.Common.{◌≡◌, ◌+◌, ◌-◌, ◌*◌, ◌/◌, ◌%◌, ◌^◌, ◌<◌, ◌≤◌, ℕ, zero, suc, List, [], ◌∷◌, length, take, drop, get_or, refl, sym, ap, ◌∙◌, arith, ◌⊎◌, inl, inr, bit_xor}
use Rattle.std.proofs.lemmas.Bool.{cases_lt, cases_eq, eq-eqb, ne_eqb, cond-true, cond-false}
use Rattle.std.proofs.lemmas.Nat.{pow-add, shr-shr, shr_split, xor_lt, le_bytes_8}
use Rattle.std.proofs.lemmas.List.{get_or-drop, drop-drop, length-drop, length-take}
use Rattle.std.proofs.lemmas.Nat.Bits.{bit_at_cat_low, bit_at-zero, bit_at_xor, bit_at-lt, bit_at-trailing_zeros, same_from_bits, same_from_bits_below}
use Rattle.std.proofs.Math.Nat.{pow-suc}
use Rattle.std.specs.Int.{bit_at, byte_at, bytes_low_first, trailing_zeros, from_le_bytes, w64}
use Rattle.std.specs.Prelude.{nat_eq}
use Rattle.std.specs.List.{common_prefix_len}
use Rattle.coding.specs.Fixed.{fixed64}

-- after a front that both have, they go on sharing as what is left does
behind_front : (k : ℕ) (xs ys : List ℕ) → k ≤ length xs → k ≤ length ys → take k xs ≡ take k ys
    → common_prefix_len nat_eq xs ys ≡ k + common_prefix_len nat_eq (drop k xs) (drop k ys)
behind_front zero xs ys p q e = omega arith
behind_front (suc k) [] ys p q e = absurd (omega (arith, p))
behind_front (suc k) (x ∷ xs) [] p q e = absurd (omega (arith, q))
behind_front (suc k) (x ∷ xs) (y ∷ ys) p q e =
    let h : x ≡ y = cc in
    let t : take k xs ≡ take k ys = cc in
    cond-true (nat_eq x y) (1 + common_prefix_len nat_eq xs ys) 0 (eq-eqb x y h)
    ∙ omega (arith, behind_front k xs ys (omega (arith, p)) (omega (arith, q)) t)

-- where fronts share less than all, the whole shares as much
in_front : (k : ℕ) (xs ys : List ℕ) → common_prefix_len nat_eq (take k xs) (take k ys) < k → k ≤ length xs → k ≤ length ys
    → common_prefix_len nat_eq xs ys ≡ common_prefix_len nat_eq (take k xs) (take k ys)
in_front zero xs ys less p q = absurd (omega (arith, less))
in_front (suc k) [] ys less p q = absurd (omega (arith, p))
in_front (suc k) (x ∷ xs) [] less p q = absurd (omega (arith, q))
in_front (suc k) (x ∷ xs) (y ∷ ys) less p q = by (cases_eq x y) (λ rest. in_front k xs ys rest (omega (arith, p)) (omega (arith, q)))
  where
    by : (x ≡ y) ⊎ (x ≡ y → ⊥)
        → (common_prefix_len nat_eq (take k xs) (take k ys) < k → common_prefix_len nat_eq xs ys ≡ common_prefix_len nat_eq (take k xs) (take k ys))
        → common_prefix_len nat_eq (x ∷ xs) (y ∷ ys) ≡ common_prefix_len nat_eq (take (suc k) (x ∷ xs)) (take (suc k) (y ∷ ys))
    by (inl e) rest =
        let whole = cond-true (nat_eq x y) (1 + common_prefix_len nat_eq xs ys) 0 (eq-eqb x y e) in
        let front = cond-true (nat_eq x y) (1 + common_prefix_len nat_eq (take k xs) (take k ys)) 0 (eq-eqb x y e) in
        whole ∙ ap (λ (n : ℕ). 1 + n) (rest (omega (arith, less, front))) ∙ sym front
    by (inr d) rest =
        cond-false (nat_eq x y) (1 + common_prefix_len nat_eq xs ys) 0 (ne_eqb x y d)
        ∙ sym (cond-false (nat_eq x y) (1 + common_prefix_len nat_eq (take k xs) (take k ys)) 0 (ne_eqb x y d))

-- bytes from place i on, of which the one at place t is the first that differs
first_differs : (k i t x y : ℕ) → i ≤ t → t < i + k → ((j : ℕ) → j < t → byte_at j x ≡ byte_at j y) → (byte_at t x ≡ byte_at t y → ⊥)
    → common_prefix_len nat_eq (bytes_low_first i k x) (bytes_low_first i k y) ≡ t - i
first_differs zero i t x y le lt same not = absurd (omega (arith, le, lt))
first_differs (suc k) i t x y le lt same not = by (cases_lt i t) (λ l. first_differs k (suc i) t x y (omega (arith, l)) (omega (arith, lt)) same not)
  where
    rest : ℕ
    rest = common_prefix_len nat_eq (bytes_low_first (suc i) k x) (bytes_low_first (suc i) k y)

    by : (i < t) ⊎ (t ≤ i) → (i < t → rest ≡ t - suc i) → common_prefix_len nat_eq (bytes_low_first i (suc k) x) (bytes_low_first i (suc k) y) ≡ t - i
    by (inl l) more =
        cond-true (nat_eq (byte_at i x) (byte_at i y)) (1 + rest) 0 (eq-eqb (byte_at i x) (byte_at i y) (same i l))
        ∙ omega (arith, l, more l)
    by (inr g) more =
        let here : i ≡ t = omega (arith, le, g) in
        cond-false (nat_eq (byte_at i x) (byte_at i y)) (1 + rest) 0 (ne_eqb (byte_at i x) (byte_at i y) (rw here not))
        ∙ omega (arith, g)

bytes_as_bits : (i : ℕ) → 256 ^ i ≡ 2 ^ (8 * i)
bytes_as_bits zero = refl
bytes_as_bits (suc i) =
    let next : 8 * i + 8 ≡ 8 * suc i = omega arith in
    pow-suc 256 i ∙ ap (λ (v : ℕ). v * 256) (bytes_as_bits i) ∙ sym (pow-add 2 (8 * i) 8) ∙ ap (λ (v : ℕ). 2 ^ v) next

byte_is : (i n : ℕ) → byte_at i n ≡ n / 2 ^ (8 * i) % 2 ^ 8
byte_is zero n = omega arith
byte_is (suc i) n = ap (λ (v : ℕ). n / v % 256) (bytes_as_bits (suc i))

-- a bit of a byte is one of the number
bit_of_byte : (i b n : ℕ) → b < 8 → bit_at (byte_at i n) b ≡ bit_at n (8 * i + b)
bit_of_byte i b n h =
    let m : ℕ = n / 2 ^ (8 * i) in
    ap (λ (v : ℕ). bit_at v b) (byte_is i n)
    ∙ sym (bit_at_cat_low (m / 2 ^ 8) 8 (m % 2 ^ 8) b h)
    ∙ ap (λ (v : ℕ). bit_at v b) (shr_split m 8)
    ∙ ap (λ (v : ℕ). v % 2) (shr-shr n (8 * i) b)

byte_below : (i n : ℕ) → byte_at i n < 2 ^ 8
byte_below i n = rw (byte_is i n) (omega arith)

same_bit : (a b sum : ℕ) → a < 2 → b < 2 → sum ≡ (a + b) % 2 → sum ≡ 0 → a ≡ b
same_bit a b sum p q e zero-is = omega arith

other_bit : (a b sum : ℕ) → sum ≡ (a + b) % 2 → sum ≡ 1 → a ≡ b → ⊥
other_bit a b sum e one same = omega arith

-- the lowest bit that differs stands in the first byte that does
lowest_bit : (x y t : ℕ) → t < 64 → bit_at (bit_xor x y) t ≡ 1 → ((i : ℕ) → i < t → bit_at (bit_xor x y) i ≡ 0)
    → common_prefix_len nat_eq (fixed64 x) (fixed64 y) ≡ t / 8
lowest_bit x y t small one none = first_differs 8 0 (t / 8) x y (omega arith) (omega (arith, small)) before at ∙ omega arith
  where
    before : (j : ℕ) → j < t / 8 → byte_at j x ≡ byte_at j y
    before j below = same_from_bits_below 8 (byte_at j x) (byte_at j y) (byte_below j x) (byte_below j y)
        (λ b h. let i : ℕ = 8 * j + b in
        bit_of_byte j b x h ∙ same_bit (bit_at x i) (bit_at y i) (bit_at (bit_xor x y) i) (bit_at-lt x i) (bit_at-lt y i) (bit_at_xor x y i) (none i (omega (arith, below, h))) ∙ sym (bit_of_byte j b y h))

    place : 8 * (t / 8) + t % 8 ≡ t
    place = omega arith

    at : byte_at (t / 8) x ≡ byte_at (t / 8) y → ⊥
    at e =
        let h : t % 8 < 8 = omega arith in
        other_bit (bit_at x t) (bit_at y t) (bit_at (bit_xor x y) t) (bit_at_xor x y t) one
        (sym (bit_of_byte (t / 8) (t % 8) x h ∙ ap (bit_at x) place) ∙ ap (λ (v : ℕ). bit_at v (t % 8)) e ∙ bit_of_byte (t / 8) (t % 8) y h ∙ ap (bit_at y) place)

-- two words that differ share the bytes below their lowest bit that differs
pub shared_below : (x y : ℕ) → x < 2 ^ 64 → y < 2 ^ 64 → (x ≡ y → ⊥)
    → (trailing_zeros w64 (bit_xor x y) / 8 < 8) × (common_prefix_len nat_eq (fixed64 x) (fixed64 y) ≡ trailing_zeros w64 (bit_xor x y) / 8)
shared_below x y p q differ = by (cases_lt 0 (bit_xor x y))
  where
    by : (0 < bit_xor x y) ⊎ (bit_xor x y ≤ 0)
        → (trailing_zeros w64 (bit_xor x y) / 8 < 8) × (common_prefix_len nat_eq (fixed64 x) (fixed64 y) ≡ trailing_zeros w64 (bit_xor x y) / 8)
    by (inl l) =
        let low = bit_at-trailing_zeros w64 (bit_xor x y) l (xor_lt 64 x y p q) in
        (omega (arith, low.0), lowest_bit x y (trailing_zeros w64 (bit_xor x y)) low.0 low.1 low.2)
    by (inr g) =
        let none : bit_xor x y ≡ 0 = omega (arith, g) in
        absurd (differ (same_from_bits x y (λ i. same_bit (bit_at x i) (bit_at y i) (bit_at (bit_xor x y) i) (bit_at-lt x i) (bit_at-lt y i) (bit_at_xor x y i) (ap (λ (v : ℕ). bit_at v i) none ∙ bit_at-zero i))))

abbrev pub AreBytes : List ℕ → Type 0
AreBytes bytes = (i : ℕ) → get_or bytes i 0 < 256

bytes_of_front : (k : ℕ) (bytes : List ℕ) → AreBytes bytes → AreBytes (take k bytes)
bytes_of_front zero bytes h i = omega arith
bytes_of_front (suc k) [] h i = omega arith
bytes_of_front (suc k) (b ∷ bytes) h zero = h zero
bytes_of_front (suc k) (b ∷ bytes) h (suc i) = bytes_of_front k bytes (λ j. h (suc j)) i

bytes_behind : (k : ℕ) (bytes : List ℕ) → AreBytes bytes → AreBytes (drop k bytes)
bytes_behind k bytes h i = rw (get_or-drop k bytes i 0) (h (k + i))

-- eight bytes are those of the number that they spell
pub word_is : (bytes : List ℕ) (start word : ℕ) → AreBytes bytes → start + 8 ≤ length bytes → word ≡ from_le_bytes w64 (take 8 (drop start bytes))
    → take 8 (drop start bytes) ≡ fixed64 word
word_is bytes start word h fits e =
    let front = take 8 (drop start bytes) in
    sym (le_bytes_8 front word (omega (arith, fits, length-take 8 (drop start bytes), length-drop start bytes)) (bytes_of_front 8 (drop start bytes) (bytes_behind start bytes h)) e)

-- at two words that differ, what is shared ends in them
pub ends_in_words : (a b : List ℕ) (i x y n : ℕ) → (i + 8 ≤ length a) × (take 8 (drop i a) ≡ fixed64 x) → (i + 8 ≤ length b) × (take 8 (drop i b) ≡ fixed64 y)
    → n < 8 → n ≡ common_prefix_len nat_eq (fixed64 x) (fixed64 y) → common_prefix_len nat_eq (drop i a) (drop i b) ≡ n
ends_in_words a b i x y n p q small e =
    let same : common_prefix_len nat_eq (take 8 (drop i a)) (take 8 (drop i b)) ≡ n = (λ k. common_prefix_len nat_eq (p.1 k) (q.1 k)) ∙ sym e in
    in_front 8 (drop i a) (drop i b) (rw same small) (omega (arith, p.0, length-drop i a)) (omega (arith, q.0, length-drop i b)) ∙ same

-- two words that are the same are shared whole
pub goes_on : (a b : List ℕ) (i x y : ℕ) → (i + 8 ≤ length a) × (take 8 (drop i a) ≡ fixed64 x) → (i + 8 ≤ length b) × (take 8 (drop i b) ≡ fixed64 y) → x ≡ y
    → common_prefix_len nat_eq (drop i a) (drop i b) ≡ 8 + common_prefix_len nat_eq (drop (i + 8) a) (drop (i + 8) b)
goes_on a b i x y p q e =
    behind_front 8 (drop i a) (drop i b) (omega (arith, p.0, length-drop i a)) (omega (arith, q.0, length-drop i b)) (p.1 ∙ ap fixed64 e ∙ sym q.1)
    ∙ (λ k. 8 + common_prefix_len nat_eq (drop-drop 8 i a k) (drop-drop 8 i b k))
