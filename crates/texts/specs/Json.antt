-- Pairs of byte strings as JSON objects (RFC 8259): the tokens that are written, and what they say.
use Rattle.std.specs.Prelude.{◌≡◌, ◌≢◌, ◌⊎◌, ◌↔◌, ◌<◌, ◌++◌, ℕ, if◌then◌else◌, List, [], ◌∷◌, All, Ok, codes}
use Rattle.std.specs.Str.{is_utf8}
use Rattle.hex.specs.Hex.{decode_of, encode_lower}
use Rattle.json.specs.Token.{Token, begin_object, end_object, key, string}
use Rattle.json.specs.Lex.{tokens}
use Rattle.json.specs.Print.{print}
use Rattle.json.specs.Written.{Written}

-- ---- written

-- a member with bytes: their text if they are UTF-8, and else, under another name, their digits
abbrev pub member_of : List ℕ → List ℕ → List ℕ → List Token
member_of name digits_name bytes =
    if is_utf8 bytes then key name ∷ string bytes ∷ [] else key digits_name ∷ string (encode_lower bytes) ∷ []

-- {"key":"k"} · {"key_hex":"ff"}
abbrev pub key_tokens : List ℕ → List Token
key_tokens bytes = begin_object ∷ (member_of (codes "key") (codes "key_hex") bytes ++ end_object ∷ [])

-- {"key":"k","value":"v"}
abbrev pub pair_tokens : List ℕ → List ℕ → List Token
pair_tokens bytes value =
    begin_object ∷ (member_of (codes "key") (codes "key_hex") bytes
    ++ (member_of (codes "value") (codes "value_hex") value ++ end_object ∷ []))

-- a writer goes on after what it has written
abbrev pub Extends : Written → Written → List Token → Type 0
Extends old new more = (new.before ≡ old.before) × (new.tokens ≡ old.tokens ++ more)

-- ---- read

-- The tokens of a member have these bytes: as text, or as digits if its name says so.
abbrev pub IsMember : List ℕ → List ℕ → List Token → List ℕ → Type 0
IsMember name digits_name member bytes =
    (member ≡ key name ∷ string bytes ∷ [])
    ⊎ ((digits : List ℕ) × (member ≡ key digits_name ∷ string digits ∷ []) × (decode_of digits ≡ Ok bytes))

-- A reader of JSON finds in an object's text its tokens. Those of a member have the bytes that were
-- written, and no others.
pub record JsonLaw : Type 0 where
  pub keys : (bytes : List ℕ) → tokens (print (key_tokens bytes)) ≡ key_tokens bytes
  pub pairs : (bytes value : List ℕ) → tokens (print (pair_tokens bytes value)) ≡ pair_tokens bytes value
  pub members : (name digits_name bytes : List ℕ) → name ≢ digits_name → All (λ byte. byte < 256) bytes
      → (other : List ℕ) → IsMember name digits_name (member_of name digits_name bytes) other ↔ (other ≡ bytes)
