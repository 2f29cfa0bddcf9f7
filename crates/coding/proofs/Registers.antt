-- The register of CRC-32C: a sum of two registers moves on as its parts, and shifts add up.
use Rattle.std.proofs.Common.{◌≡◌, ℕ, zero, suc, ◌+◌, ◌*◌, ◌/◌, ◌%◌, ◌^◌, ◌<◌, cond, eqb, List, [], ◌∷◌, ◌++◌, refl, sym, ap, ◌∙◌, arith, bit_xor}
use Rattle.std.proofs.Math.Nat.{pow-suc, mul_assoc}
use Rattle.std.proofs.lemmas.Nat.{xor_comm, xor_shr, xor_mod, shl-shr}
use Rattle.std.proofs.lemmas.Nat.Bits.{same_from_bits, bit_at_xor}
use Rattle.coding.specs.Checksum.{polynomial, shifted, shifted_by, register_after}

pub xor_assoc : (a b c : ℕ) → bit_xor (bit_xor a b) c ≡ bit_xor a (bit_xor b c)
xor_assoc a b c = same_from_bits _ _ (λ i.
    rw (bit_at_xor (bit_xor a b) c i, bit_at_xor a b i, bit_at_xor a (bit_xor b c) i, bit_at_xor b c i) (omega arith))

pub xor_zero : (a : ℕ) → bit_xor a 0 ≡ a
xor_zero a = xor_comm a 0

pub xor_swap : (a b c d : ℕ) → bit_xor (bit_xor a b) (bit_xor c d) ≡ bit_xor (bit_xor a c) (bit_xor b d)
xor_swap a b c d =
    let inner : bit_xor b (bit_xor c d) ≡ bit_xor c (bit_xor b d) = sym (xor_assoc b c d) ∙ ap (λ (v : ℕ). bit_xor v d) (xor_comm b c) ∙ xor_assoc c b d in
    xor_assoc a b (bit_xor c d) ∙ ap (bit_xor a) inner ∙ sym (xor_assoc a c (bit_xor b d))

-- what is taken off the register for the bit that falls out of it
taken : ℕ → ℕ
taken zero = 0
taken (suc n) = polynomial

shifted_is : (a : ℕ) → shifted a ≡ bit_xor (a / 2) (taken (a % 2))
unfolding taken
shifted_is a = by_bit (a % 2) (omega arith)
  where
    by_bit : (bit : ℕ) → bit < 2 → cond (eqb bit 0) (a / 2) (bit_xor (a / 2) polynomial) ≡ bit_xor (a / 2) (taken bit)
    by_bit zero h = sym (xor_zero (a / 2))
    by_bit (suc zero) h = refl
    by_bit (suc (suc n)) h = absurd (omega arith)

taken_xor : (p q : ℕ) → p < 2 → q < 2 → taken (bit_xor p q) ≡ bit_xor (taken p) (taken q)
unfolding taken
taken_xor zero zero h k = refl
taken_xor zero (suc zero) h k = refl
taken_xor (suc zero) zero h k = refl
taken_xor (suc zero) (suc zero) h k = refl
taken_xor (suc (suc p)) q h k = absurd (omega arith)
taken_xor p (suc (suc q)) h k = absurd (omega arith)

shifted_linear : (a b : ℕ) → shifted (bit_xor a b) ≡ bit_xor (shifted a) (shifted b)
shifted_linear a b =
    let low : taken (bit_xor a b % 2) ≡ bit_xor (taken (a % 2)) (taken (b % 2)) = ap taken (xor_mod a b 1) ∙ taken_xor (a % 2) (b % 2) (omega arith) (omega arith) in
    let halves : bit_xor a b / 2 ≡ bit_xor (a / 2) (b / 2) = xor_shr a b 1 in
    shifted_is (bit_xor a b)
    ∙ ap (λ (v : ℕ). bit_xor v (taken (bit_xor a b % 2))) halves
    ∙ ap (bit_xor (bit_xor (a / 2) (b / 2))) low
    ∙ xor_swap (a / 2) (b / 2) (taken (a % 2)) (taken (b % 2))
    ∙ ap (λ (v : ℕ). bit_xor v (bit_xor (b / 2) (taken (b % 2)))) (sym (shifted_is a))
    ∙ ap (bit_xor (shifted a)) (sym (shifted_is b))

-- the register after the sum of two is the sum of the registers
pub linear : (n a b : ℕ) → shifted_by n (bit_xor a b) ≡ bit_xor (shifted_by n a) (shifted_by n b)
unfolding shifted_by
linear zero a b = refl
linear (suc n) a b = ap (shifted_by n) (shifted_linear a b) ∙ linear n (shifted a) (shifted b)

pub shifted_by-add : (n m a : ℕ) → shifted_by (n + m) a ≡ shifted_by m (shifted_by n a)
unfolding shifted_by
shifted_by-add zero m a =
    let e : 0 + m ≡ m = omega arith in
    ap (λ (k : ℕ). shifted_by k a) e
shifted_by-add (suc n) m a =
    let e : suc n + m ≡ suc (n + m) = omega arith in
    ap (λ (k : ℕ). shifted_by k a) e ∙ shifted_by-add n m (shifted a)

pub shifts_commute : (n m a : ℕ) → shifted_by n (shifted_by m a) ≡ shifted_by m (shifted_by n a)
shifts_commute n m a =
    let e : m + n ≡ n + m = omega arith in
    sym (shifted_by-add m n a) ∙ ap (λ (k : ℕ). shifted_by k a) e ∙ shifted_by-add n m a

-- what stands n bits up comes down to the low end, since none of its bits falls out before
halved : (n b : ℕ) → b * 2 ^ suc n ≡ b * 2 ^ n * 2
halved n b = rw (pow-suc 2 n) (sym (mul_assoc b (2 ^ n) 2))

shifted_even : (b : ℕ) → shifted (b * 2) ≡ b
unfolding taken
shifted_even b =
    let even : b * 2 % 2 ≡ 0 = omega arith in
    shifted_is (b * 2) ∙ ap (λ (bit : ℕ). bit_xor (b * 2 / 2) (taken bit)) even ∙ xor_zero (b * 2 / 2) ∙ shl-shr b 1

shifted_down : (n b : ℕ) → shifted_by n (b * 2 ^ n) ≡ b
unfolding shifted_by
shifted_down zero b = omega arith
shifted_down (suc n) b = rw (halved n b) (ap (shifted_by n) (shifted_even (b * 2 ^ n)) ∙ shifted_down n b)

pub shifted_by_xor : (n a b : ℕ) → shifted_by n (bit_xor a (b * 2 ^ n)) ≡ bit_xor (shifted_by n a) b
shifted_by_xor n a b = linear n a (b * 2 ^ n) ∙ ap (bit_xor (shifted_by n a)) (shifted_down n b)

-- the bytes of two lists, one after the other
pub register_after-append : (register : ℕ) (front back : List ℕ) → register_after register (front ++ back) ≡ register_after (register_after register front) back
unfolding register_after
register_after-append register [] back = refl
register_after-append register (byte ∷ front) back = register_after-append (shifted_by 8 (bit_xor register byte)) front back
