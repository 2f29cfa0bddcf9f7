-- What stands at the front of the same bytes is the same, and so is what stands after it.
use Rattle.std.proofs.Common.{◌≡◌, ℕ, ◌+◌, ◌^◌, ◌<◌, ◌≤◌, List, ◌++◌, length, take, drop, refl, sym, ap, ◌∙◌, append_assoc, arith}
use Rattle.std.specs.Int.{w32, w64, from_le_bytes}
use Rattle.std.proofs.lemmas.List.{take_at, drop_at, append_cancel_left, length-append, length-take, take-append-drop}
use Rattle.std.proofs.lemmas.Nat.{from_le_bytes-to_le_bytes_4, from_le_bytes-to_le_bytes_8}
use Rattle.coding.specs.Fixed.{fixed32, fixed64}
use Rattle.coding.specs.Varint.{IsVarint, IsString}
use Rattle.coding.proofs.Varints.{one_spelling}

-- fronts of one length
pub same_front : (a b x y : List ℕ) → length a ≡ length b → a ++ x ≡ b ++ y → (a ≡ b) × (x ≡ y)
same_front a b x y len e = (
  sym (take_at a x (length b) len) ∙ ap (take (length b)) e ∙ take_at b y (length b) refl,
  sym (drop_at a x (length b) len) ∙ ap (drop (length b)) e ∙ drop_at b y (length b) refl,
)

pub fixed64_front : (m n : ℕ) (x y : List ℕ) → m < 2 ^ 64 → n < 2 ^ 64 → fixed64 m ++ x ≡ fixed64 n ++ y → (m ≡ n) × (x ≡ y)
fixed64_front m n x y p q e =
    let s = same_front (fixed64 m) (fixed64 n) x y refl e in
    (sym (from_le_bytes-to_le_bytes_8 m p) ∙ ap (from_le_bytes w64) s.0 ∙ from_le_bytes-to_le_bytes_8 n q, s.1)

pub fixed32_front : (m n : ℕ) (x y : List ℕ) → m < 2 ^ 32 → n < 2 ^ 32 → fixed32 m ++ x ≡ fixed32 n ++ y → (m ≡ n) × (x ≡ y)
fixed32_front m n x y p q e =
    let s = same_front (fixed32 m) (fixed32 n) x y refl e in
    (sym (from_le_bytes-to_le_bytes_4 m p) ∙ ap (from_le_bytes w32) s.0 ∙ from_le_bytes-to_le_bytes_4 n q, s.1)

pub varint_front : (a b x y : List ℕ) (m n : ℕ) → IsVarint a m → IsVarint b n → a ++ x ≡ b ++ y → (m ≡ n) × (x ≡ y)
varint_front a b x y m n p q e =
    let s = one_spelling a b x y m n p q e in
    (s.1, append_cancel_left b x y (ap (λ (v : List ℕ). v ++ x) (sym s.0) ∙ e))

pub string_front : (a b x y t u : List ℕ) → IsString a t → IsString b u → a ++ x ≡ b ++ y → (t ≡ u) × (x ≡ y)
string_front a b x y t u p q e =
    let left : a ++ x ≡ p.front ++ (t ++ x) = ap (λ (v : List ℕ). v ++ x) p.parts ∙ append_assoc p.front t x in
    let right : b ++ y ≡ q.front ++ (u ++ y) = ap (λ (v : List ℕ). v ++ y) q.parts ∙ append_assoc q.front u y in
    let s = varint_front p.front q.front (t ++ x) (u ++ y) (length t) (length u) p.number q.number (sym left ∙ e ∙ right) in
    same_front t u x y s.0 s.1

-- a number at the front and the text after it are a string
pub made_string : (bytes : List ℕ) (used len : ℕ) → used ≤ length bytes → len ≤ length (drop used bytes) → len < 2 ^ 32 → IsVarint (take used bytes) len
    → (front : List ℕ) × IsString front (take len (drop used bytes)) × (bytes ≡ front ++ drop len (drop used bytes))
made_string bytes used len within fits small number =
    let text = take len (drop used bytes) in
    let text_len : len ≡ length text = omega (arith, length-take len (drop used bytes)) in (
      take used bytes ++ text,
      record { front = take used bytes; number = rw (← text_len) number; fits = omega (arith, small); parts = refl },
      sym (append_assoc (take used bytes) text (drop len (drop used bytes)) ∙ ap (λ (v : List ℕ). take used bytes ++ v) (take-append-drop len (drop used bytes)) ∙ take-append-drop used bytes),
    )

-- the number at the front of a string
pub number_of_string : (bytes front text rest : List ℕ) (s : IsString front text) → bytes ≡ front ++ rest → IsVarint (take (length s.front) bytes) (length text)
number_of_string bytes front text rest s e =
    let whole : bytes ≡ s.front ++ (text ++ rest) = e ∙ ap (λ (v : List ℕ). v ++ rest) s.parts ∙ append_assoc s.front text rest in
    rw (whole, take_at s.front (text ++ rest) (length s.front) refl) s.number

-- a string isn't longer than the bytes at whose front it is
pub room_for_string : (bytes front text rest : List ℕ) (used len : ℕ) → used ≤ length bytes → IsVarint (take used bytes) len → IsString front text → bytes ≡ front ++ rest → used + len ≤ length bytes
room_for_string bytes front text rest used len within number s e =
    let whole : bytes ≡ s.front ++ (text ++ rest) = e ∙ ap (λ (v : List ℕ). v ++ rest) s.parts ∙ append_assoc s.front text rest in
    let same = one_spelling (take used bytes) s.front (drop used bytes) (text ++ rest) len (length text) number s.number (take-append-drop used bytes ∙ whole) in
    omega (arith, ap length whole, length-append s.front (text ++ rest), length-append text rest, ap length same.0, length-take used bytes, same.1)
