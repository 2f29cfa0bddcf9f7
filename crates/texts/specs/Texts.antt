-- Byte strings as text, written and read.
use Rattle.std.specs.Prelude.{◌≡◌, ◌↔◌, ◌<◌, ◌+◌, ◌*◌, ◌++◌, ◌&&◌, ◌==◌, ℕ, nat_le, if◌then◌else◌, List, [], ◌∷◌}
use Rattle.std.specs.Prelude.{All, Option, Some, None}
use Rattle.hex.specs.Hex.{encode_lower, hex_digit_value}

-- ---- written

-- a backslash as two, any other byte from ' ' to '~' as it is, and the rest as \x with two digits
abbrev pub escaped_byte : ℕ → List ℕ
escaped_byte byte =
    if byte == 92 then 92 ∷ 92 ∷ []
    else if nat_le 32 byte && nat_le byte 126 then byte ∷ [] else 92 ∷ 120 ∷ encode_lower (byte ∷ [])

abbrev pub escaped : List ℕ → List ℕ
escaped [] = []
escaped (byte ∷ bytes) = escaped_byte byte ++ escaped bytes

-- as one word of a line: a space as \x20
abbrev pub word_byte : ℕ → List ℕ
word_byte byte = if byte == 32 then 92 ∷ 120 ∷ 50 ∷ 48 ∷ [] else escaped_byte byte

abbrev pub escaped_word : List ℕ → List ℕ
escaped_word [] = []
escaped_word (byte ∷ bytes) = word_byte byte ++ escaped_word bytes

-- ---- read: the byte that a text begins with, and the text behind it

abbrev pub byte_of_values : Option ℕ → Option ℕ → List ℕ → Option (ℕ × List ℕ)
byte_of_values (Some high) (Some low) rest = Some (high * 16 + low, rest)
byte_of_values (Some high) None rest = None
byte_of_values None low rest = None

-- two hexadecimal digits
abbrev pub of_digits : List ℕ → Option (ℕ × List ℕ)
of_digits [] = None
of_digits (high ∷ []) = None
of_digits (high ∷ low ∷ rest) = byte_of_values (hex_digit_value high) (hex_digit_value low) rest

-- another backslash, or an x and two digits
abbrev pub behind_backslash : List ℕ → Option (ℕ × List ℕ)
behind_backslash [] = None
behind_backslash (kind ∷ rest) = if kind == 92 then Some (92, rest) else if kind == 120 then of_digits rest else None

abbrev pub front_of : List ℕ → Option (ℕ × List ℕ)
front_of [] = None
front_of (byte ∷ rest) = if byte == 92 then behind_backslash rest else Some (byte, rest)

-- the text spells these bytes, one after the other
abbrev pub IsText : List ℕ → List ℕ → Type 0
IsText text [] = text ≡ []
IsText text (byte ∷ bytes) = (rest : List ℕ) × (front_of text ≡ Some (byte, rest)) × IsText rest bytes

-- the text of some bytes is one of them, and of nothing else
abbrev pub TextLaw : Type 0
TextLaw = (bytes : List ℕ) → All (λ byte. byte < 256) bytes
    → (other : List ℕ) → IsText (escaped bytes) other ↔ (other ≡ bytes)

-- no byte is a space
abbrev pub HasNoSpace : List ℕ → Type 0
HasNoSpace [] = Unit {0}
HasNoSpace (byte ∷ bytes) = (byte ≡ 32 → ⊥) × HasNoSpace bytes

-- the word of some bytes is one, and a text of them and of nothing else
abbrev pub WordLaw : Type 0
WordLaw = (bytes : List ℕ) → All (λ byte. byte < 256) bytes
    → HasNoSpace (escaped_word bytes) × ((other : List ℕ) → IsText (escaped_word bytes) other ↔ (other ≡ bytes))
