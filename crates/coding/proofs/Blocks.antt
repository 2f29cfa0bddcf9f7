-- The register of CRC-32C over blocks of four words, and the four streams of words.
use Rattle.std.specs.Simd.{first_chunks}
use Rattle.std.proofs.Common.{◌≡◌, ◌<◌, ◌≤◌, ℕ, zero, suc, ◌+◌, ◌*◌, List, ◌++◌, get_or, length, take, drop, flat_map, append_assoc, suc-mul, sym, ap, ◌∙◌, arith, bit_xor}
use Rattle.std.proofs.lemmas.List.{take-append-drop, get_or-drop, drop-drop, length-drop, nil_from_length}
use Rattle.coding.specs.Checksum.{shifted_by, register_after}
use Rattle.coding.specs.Streams.{register_over_words}
use Rattle.coding.proofs.Registers.{xor_assoc, xor_swap, linear, shifted_by-add, shifts_commute}
use Rattle.coding.proofs.Words.{word_at, over_word}

-- the register after four bytes in the midst of others
over_word_at : (bytes : List ℕ) (i register word : ℕ) → i + 4 ≤ length bytes → ((k : ℕ) → get_or bytes k 0 < 256) → word ≡ word_at bytes i
    → register_after register (drop i bytes) ≡ register_after (shifted_by 32 (bit_xor register word)) (drop (i + 4) bytes)
over_word_at bytes i register word long fits e =
    let byte = λ (k : ℕ). get_or-drop i bytes k 0 in
    over_word register word (drop i bytes) (omega (arith, length-drop i bytes)) (rw (byte 0) (fits (i + 0))) (rw (byte 1) (fits (i + 1))) (rw (byte 2) (fits (i + 2))) (rw (byte 0, byte 1, byte 2, byte 3) e)
    ∙ ap (register_after (shifted_by 32 (bit_xor register word))) (drop-drop 4 i bytes)

-- the register after the four words of a block
pub over_block : (bytes : List ℕ) (first second third fourth : ℕ) → length bytes ≡ 16 → ((k : ℕ) → get_or bytes k 0 < 256)
    → first ≡ word_at bytes 0 → second ≡ word_at bytes 4 → third ≡ word_at bytes 8 → fourth ≡ word_at bytes 12
    → (register : ℕ) → register_after register bytes ≡ register_over_words (bit_xor register first) second third fourth
unfolding register_after
over_block bytes first second third fourth len fits e0 e1 e2 e3 register =
    let r1 : ℕ = shifted_by 32 (bit_xor register first) in
    let r2 : ℕ = shifted_by 32 (bit_xor r1 second) in
    let r3 : ℕ = shifted_by 32 (bit_xor r2 third) in
    let r4 : ℕ = shifted_by 32 (bit_xor r3 fourth) in
    over_word_at bytes 0 register first (omega arith) fits e0
    ∙ over_word_at bytes 4 r1 second (omega arith) fits e1
    ∙ over_word_at bytes 8 r2 third (omega arith) fits e2
    ∙ over_word_at bytes 12 r3 fourth (omega arith) fits e3
    ∙ ap (register_after r4) (nil_from_length (drop 16 bytes) (omega (arith, length-drop 16 bytes)))

-- A register is moved over a block and has a word added to it, and so has the word after it. Four
-- bytes further, the two sums are the sum of what each part leads to.
next_words : (register word next after : ℕ) → shifted_by 32 (bit_xor (bit_xor (shifted_by 128 register) word) (bit_xor (shifted_by 128 next) after)) ≡ bit_xor (shifted_by 128 (shifted_by 32 (bit_xor register next))) (shifted_by 32 (bit_xor word after))
next_words register word next after =
    ap (shifted_by 32) (xor_swap (shifted_by 128 register) word (shifted_by 128 next) after ∙ ap (λ (v : ℕ). bit_xor v (bit_xor word after)) (sym (linear 128 register next)))
    ∙ linear 32 (shifted_by 128 (bit_xor register next)) (bit_xor word after)
    ∙ ap (λ (v : ℕ). bit_xor v (shifted_by 32 (bit_xor word after))) (shifts_commute 32 128 (bit_xor register next))

-- where a sum has a word after it, the word stays with one of its parts
parted : (register words word : ℕ) → shifted_by 32 (bit_xor (bit_xor register words) word) ≡ bit_xor (shifted_by 32 register) (shifted_by 32 (bit_xor words word))
parted register words word = ap (shifted_by 32) (xor_assoc register words word) ∙ linear 32 register (bit_xor words word)

-- four times four bytes are a block
block_ahead : (register : ℕ) → shifted_by 32 (shifted_by 32 (shifted_by 32 (shifted_by 32 register))) ≡ shifted_by 128 register
block_ahead register =
    ap (λ (v : ℕ). shifted_by 32 (shifted_by 32 v)) (sym (shifted_by-add 32 32 register))
    ∙ ap (shifted_by 32) (sym (shifted_by-add 64 32 register))
    ∙ sym (shifted_by-add 96 32 register)

-- a register and the block after it: a sum of what each leads to
apart : (register w0 w1 w2 w3 : ℕ) → register_over_words (bit_xor register w0) w1 w2 w3 ≡ bit_xor (shifted_by 128 register) (register_over_words w0 w1 w2 w3)
apart register w0 w1 w2 w3 =
    let r1 : ℕ = shifted_by 32 register in
    let r2 : ℕ = shifted_by 32 r1 in
    let r3 : ℕ = shifted_by 32 r2 in
    let v1 : ℕ = shifted_by 32 w0 in
    let v2 : ℕ = shifted_by 32 (bit_xor v1 w1) in
    let v3 : ℕ = shifted_by 32 (bit_xor v2 w2) in
    let v4 : ℕ = shifted_by 32 (bit_xor v3 w3) in
    let next = λ (w v : ℕ). shifted_by 32 (bit_xor v w) in
    ap (λ (v : ℕ). next w3 (next w2 (next w1 v))) (linear 32 register w0)
    ∙ ap (λ (v : ℕ). next w3 (next w2 v)) (parted r1 v1 w1)
    ∙ ap (next w3) (parted r2 v2 w2)
    ∙ parted r3 v3 w3
    ∙ ap (λ (v : ℕ). bit_xor v v4) (block_ahead register)

-- Streams that are moved over a block, with its words added, lead where the block leads from what
-- they led to before.
pub words_ahead : (a b c d w0 w1 w2 w3 : ℕ) → register_over_words (bit_xor (shifted_by 128 a) w0) (bit_xor (shifted_by 128 b) w1) (bit_xor (shifted_by 128 c) w2) (bit_xor (shifted_by 128 d) w3) ≡ register_over_words (bit_xor (register_over_words a b c d) w0) w1 w2 w3
words_ahead a b c d w0 w1 w2 w3 =
    let r1 : ℕ = shifted_by 32 a in
    let r2 : ℕ = shifted_by 32 (bit_xor r1 b) in
    let r3 : ℕ = shifted_by 32 (bit_xor r2 c) in
    let r4 : ℕ = shifted_by 32 (bit_xor r3 d) in
    let v1 : ℕ = shifted_by 32 w0 in
    let v2 : ℕ = shifted_by 32 (bit_xor v1 w1) in
    let v3 : ℕ = shifted_by 32 (bit_xor v2 w2) in
    let first : shifted_by 32 (bit_xor (shifted_by 128 a) w0) ≡ bit_xor (shifted_by 128 r1) v1 = linear 32 (shifted_by 128 a) w0 ∙ ap (λ (v : ℕ). bit_xor v v1) (shifts_commute 32 128 a) in
    let next = λ (moved w v : ℕ). shifted_by 32 (bit_xor v (bit_xor (shifted_by 128 moved) w)) in
    ap (λ (v : ℕ). next d w3 (next c w2 (next b w1 v))) first
    ∙ ap (λ (v : ℕ). next d w3 (next c w2 v)) (next_words r1 v1 b w1)
    ∙ ap (next d w3) (next_words r2 v2 c w2)
    ∙ next_words r3 v3 d w3
    ∙ sym (apart r4 w0 w1 w2 w3)

-- the chunks of a list and what is left of it are the list
pub chunks_joined : (n k : ℕ) (bytes : List ℕ) → flat_map (λ (chunk : List ℕ). chunk) (first_chunks n k bytes) ++ drop (k * n) bytes ≡ bytes
chunks_joined n zero bytes =
    let e : 0 * n ≡ 0 = omega arith in
    ap (λ (v : ℕ). drop v bytes) e
chunks_joined n (suc k) bytes =
    let e : suc k * n ≡ n + k * n = rw (suc-mul k n) (omega arith) in
    ap (λ (v : ℕ). flat_map (λ (chunk : List ℕ). chunk) (first_chunks n (suc k) bytes) ++ drop v bytes) e
    ∙ append_assoc (take n bytes) (flat_map (λ (chunk : List ℕ). chunk) (first_chunks n k (drop n bytes))) (drop (n + k * n) bytes)
    ∙ ap (λ (v : List ℕ). take n bytes ++ (flat_map (λ (chunk : List ℕ). chunk) (first_chunks n k (drop n bytes)) ++ v)) (sym (drop-drop (k * n) n bytes))
    ∙ ap (λ (v : List ℕ). take n bytes ++ v) (chunks_joined n k (drop n bytes))
    ∙ take-append-drop n bytes
