-- What a reader of JSON finds in what is written.
use Rattle.std.proofs.Common.{◌≡◌, ◌≢◌, ◌<◌, ℕ, zero, suc, Bool, true, false, cond, List, [], ◌∷◌, ◌++◌, All, inl, inr, refl, sym, ap, subst, ◌∙◌, append_assoc, arith}
use Rattle.std.specs.Prelude.{Ok, codes}
use Rattle.std.specs.Str.{IsUtf8, is_utf8}
use Rattle.std.proofs.lemmas.Str.{IsUtf8-from_is_utf8, is_utf8-from_IsUtf8}
use Rattle.std.proofs.lemmas.List.Elements.{All-head, All-tail}
use Rattle.hex.specs.Hex.{IsBytes, decode_of, encode_lower}
use Rattle.hex.proofs.HexLemmas.{decode_of-encode_lower, decode_of-same}
use Rattle.json.specs.Token.{Token, begin_object, end_object, key, string}
use Rattle.json.specs.Print.{ArePrintable, print}
use Rattle.json.specs.Written.{Written}
use Rattle.texts.specs.Json.{Extends, IsMember, key_tokens, member_of, pair_tokens}

-- ---- printable tokens

member_then : (name digits_name bytes : List ℕ) (more : List Token) (test : Bool) → ArePrintable more
    → ArePrintable (cond test (key name ∷ string bytes ∷ []) (key digits_name ∷ string (encode_lower bytes) ∷ []) ++ more)
unfolding ArePrintable
member_then name digits_name bytes more true h = (tt, (tt, h))
member_then name digits_name bytes more false h = (tt, (tt, h))

end_alone : ArePrintable (end_object ∷ [])
unfolding ArePrintable
end_alone = (tt, tt)

begun : (more : List Token) → ArePrintable more → ArePrintable (begin_object ∷ more)
unfolding ArePrintable
begun more h = (tt, h)

pub key_printable : (bytes : List ℕ) → ArePrintable (key_tokens bytes)
key_printable bytes = begun _ (member_then (codes "key") (codes "key_hex") bytes (end_object ∷ []) (is_utf8 bytes) end_alone)

pub pair_printable : (bytes value : List ℕ) → ArePrintable (pair_tokens bytes value)
pair_printable bytes value =
    begun _ (member_then (codes "key") (codes "key_hex") bytes _ (is_utf8 bytes) (member_then (codes "value") (codes "value_hex") value (end_object ∷ []) (is_utf8 value) end_alone))

-- ---- members

abbrev name_in : Token → List ℕ
name_in (key name) = name
name_in _ = []

abbrev text_in : Token → List ℕ
text_in (string text) = text
text_in _ = []

abbrev first_in : List Token → List ℕ
first_in (token ∷ rest) = name_in token
first_in [] = []

abbrev second_in : List Token → List ℕ
second_in (first ∷ second ∷ rest) = text_in second
second_in _ = []

are_bytes : (bytes : List ℕ) → All (λ (byte : ℕ). byte < 256) bytes → IsBytes bytes
are_bytes [] all i = omega arith
are_bytes (byte ∷ bytes) all zero = All-head (λ (b : ℕ). b < 256) byte bytes all
are_bytes (byte ∷ bytes) all (suc i) = are_bytes bytes (All-tail (λ (b : ℕ). b < 256) byte bytes all) i

module _ (name digits_name bytes : List ℕ) (differ : name ≢ digits_name) (all : All (λ (byte : ℕ). byte < 256) bytes) where
  has : (test : Bool) → IsMember name digits_name (cond test (key name ∷ string bytes ∷ []) (key digits_name ∷ string (encode_lower bytes) ∷ [])) bytes
  has true = inl refl
  has false = inr (encode_lower bytes, refl, decode_of-encode_lower bytes (are_bytes bytes all))

  only : (test : Bool) (other : List ℕ) → IsMember name digits_name (cond test (key name ∷ string bytes ∷ []) (key digits_name ∷ string (encode_lower bytes) ∷ [])) other → other ≡ bytes
  only true other (inl is) = sym (ap second_in is)
  only true other (inr h) = absurd (differ (ap first_in h.1))
  only false other (inl is) = absurd (differ (sym (ap first_in is)))
  only false other (inr h) =
      decode_of-same h.0 other bytes h.2 (subst (λ (digits : List ℕ). decode_of digits ≡ Ok bytes) (ap second_in h.1) (decode_of-encode_lower bytes (are_bytes bytes all)))

  pub member_is_read : (other : List ℕ) → (IsMember name digits_name (member_of name digits_name bytes) other → other ≡ bytes) × (other ≡ bytes → IsMember name digits_name (member_of name digits_name bytes) other)
  member_is_read other = (only (is_utf8 bytes) other, λ is. subst (IsMember name digits_name (member_of name digits_name bytes)) (sym is) (has (is_utf8 bytes)))

-- ---- written

none : (bytes : List ℕ) (test : Bool) → (IsUtf8 bytes → ⊥) → is_utf8 bytes ≡ test → test ≡ false
none bytes true never is = absurd (never (IsUtf8-from_is_utf8 bytes is))
none bytes false never is = refl

module _ (name digits_name bytes : List ℕ) where
  abbrev by : Bool → List Token
  by test = cond test (key name ∷ string bytes ∷ []) (key digits_name ∷ string (encode_lower bytes) ∷ [])

  pub as_text : (text : List ℕ) → text ≡ bytes → IsUtf8 bytes → key name ∷ string text ∷ [] ≡ member_of name digits_name bytes
  as_text text is utf8 = ap (λ (t : List ℕ). key name ∷ string t ∷ []) is ∙ sym (ap by (is_utf8-from_IsUtf8 bytes utf8))

  pub as_digits : (IsUtf8 bytes → ⊥) → key digits_name ∷ string (encode_lower bytes) ∷ [] ≡ member_of name digits_name bytes
  as_digits never = sym (ap by (none bytes (is_utf8 bytes) never refl))

extended : (w1 w2 w3 : Written) (first second : List Token) → Extends w1 w2 first → Extends w2 w3 second → Extends w1 w3 (first ++ second)
extended w1 w2 w3 first second h g = (g.0 ∙ h.0, g.1 ∙ ap (λ (ts : List Token). ts ++ second) h.1 ∙ append_assoc w1.tokens first second)

-- an object with these members was written
module _ (w0 w1 w2 w3 : Written) (before items : List ℕ) (begins : w0.before ≡ before) (none : w0.tokens ≡ []) (opens : w1.before ≡ w0.before) (first : w1.tokens ≡ w0.tokens ++ begin_object ∷ [])
    (closes : w3.before ≡ w2.before) (last : w3.tokens ≡ w2.tokens ++ end_object ∷ []) (gives : items ≡ w3.before ++ print w3.tokens) where
  pub one_member : (member : List Token) → Extends w1 w2 member → items ≡ before ++ print (begin_object ∷ (member ++ end_object ∷ []))
  one_member member h =
      let all : w3.tokens ≡ begin_object ∷ (member ++ end_object ∷ []) =
      last ∙ ap (λ (ts : List Token). ts ++ end_object ∷ []) (h.1 ∙ ap (λ (ts : List Token). ts ++ member) (first ∙ ap (λ (ts : List Token). ts ++ begin_object ∷ []) none)) in
      gives ∙ ap (λ (front : List ℕ). front ++ print w3.tokens) (closes ∙ h.0 ∙ opens ∙ begins) ∙ ap (λ (ts : List Token). before ++ print ts) all

  pub two_members : (w : Written) (member next : List Token) → Extends w1 w member → Extends w w2 next → items ≡ before ++ print (begin_object ∷ (member ++ (next ++ end_object ∷ [])))
  two_members w member next h g =
      one_member (member ++ next) (extended w1 w w2 member next h g)
      ∙ ap (λ (ts : List Token). before ++ print (begin_object ∷ ts)) (append_assoc member next (end_object ∷ []))
