-- Turning the bits of a number one way and back.
use Rattle.std.proofs.Common.{◌≡◌, ℕ, ◌+◌, ◌-◌, ◌*◌, ◌/◌, ◌%◌, ◌^◌, ◌<◌, ap, ◌∙◌, arith}
use Rattle.std.proofs.lemmas.Nat.{or_shifted, or_comm, shr_split, shr_high, mod_low}
use Rattle.std.specs.Int.{rotate_left, rotate_right, w32}
use Rattle.coding.specs.Checksum.{masked}

-- what is turned left by 15 bits: the low 17 bits come above the high 15
turned_left : (y : ℕ) → y < 2 ^ 32 → rotate_left w32 y 15 ≡ y % 2 ^ 17 * 2 ^ 15 + y / 2 ^ 17
turned_left y fits =
    let high : y / 2 ^ 17 < 2 ^ 15 = omega arith in
    let low : y * 2 ^ 15 % 2 ^ 32 ≡ y % 2 ^ 17 * 2 ^ 15 = omega arith in
    rw low (or_shifted (y % 2 ^ 17) 15 (y / 2 ^ 17) high)

turned_right : (z : ℕ) → z < 2 ^ 32 → rotate_right w32 z 15 ≡ z % 2 ^ 15 * 2 ^ 17 + z / 2 ^ 15
turned_right z fits =
    let high : z / 2 ^ 15 < 2 ^ 17 = omega arith in
    let low : z * 2 ^ 17 % 2 ^ 32 ≡ z % 2 ^ 15 * 2 ^ 17 = omega arith in
    or_comm (z / 2 ^ 15) (z * 2 ^ 17 % 2 ^ 32) ∙ rw low (or_shifted (z % 2 ^ 15) 17 (z / 2 ^ 15) high)

pub turned_back : (y : ℕ) → y < 2 ^ 32 → rotate_right w32 (rotate_left w32 y 15) 15 ≡ y
turned_back y fits =
    let z : ℕ = y % 2 ^ 17 * 2 ^ 15 + y / 2 ^ 17 in
    let high : y / 2 ^ 17 < 2 ^ 15 = omega arith in
    let z-fits : z < 2 ^ 32 = omega arith in
    ap (λ (v : ℕ). rotate_right w32 v 15) (turned_left y fits) ∙ turned_right z z-fits ∙ rw (mod_low (y % 2 ^ 17) 15 (y / 2 ^ 17) high, shr_high (y % 2 ^ 17) 15 (y / 2 ^ 17) high) (shr_split y 17)

pub unmasked : (stored : ℕ) → stored < 2 ^ 32 → masked (rotate_left w32 ((stored + (2 ^ 32 - 0xA282_EAD8)) % 2 ^ 32) 15) ≡ stored
unmasked stored fits =
    ap (λ (v : ℕ). (v + 0xA282_EAD8) % 2 ^ 32) (turned_back ((stored + (2 ^ 32 - 0xA282_EAD8)) % 2 ^ 32) (omega arith)) ∙ omega arith
