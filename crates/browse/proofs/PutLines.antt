-- The line that puts a pair, as a script reads it.
use Rattle.std.proofs.Common.{◌≡◌, ◌==◌, ◌<◌, ◌/◌, ◌%◌, ℕ, zero, suc, Bool, false, cond, List, [], ◌∷◌, ◌++◌, All, codes, length, slice_index, Some, inl, inr, refl, sym, ap, subst, ◌∙◌, arith}
use Rattle.std.specs.List.{onto_first, slice_split}
use Rattle.std.proofs.lemmas.Bool.{ne_eqb}
use Rattle.std.proofs.lemmas.List.Elements.{All-head, All-tail}
use Rattle.hex.specs.Hex.{IsBytes, encode_lower, encode_with, hex_digit_value, lower_digits}
use Rattle.hex.proofs.HexLemmas.{IsDigits, IsDigits-lower_digits, decode_of-encode_lower}
use Rattle.batch.specs.declared.operation.Operation.{Operation}
use Rattle.batch.specs.declared.operation.Operation.TheVariants.{Put}
use Rattle.machine.specs.declared.command.Op.{Op}
use Rattle.script.specs.declared.verb.Verb.TheVariants as verb
use Rattle.script.specs.Verbs.{name_of}
use Rattle.script.specs.Words.{IsByteString, text_of_bytes, words_of}
use Rattle.script.specs.Script.{AreCommand, IsPut, IsWrite, Says, Spells}
use Rattle.script.proofs.Lines.{head, tail}
use Rattle.script.proofs.Batches.{one_put}
use Rattle.script.proofs.Uniques.{one_verb}

-- ---- words

-- no byte is a space
abbrev HasNoSpace : List ℕ → Type 0
HasNoSpace [] = Unit {0}
HasNoSpace (byte ∷ bytes) = (byte ≡ 32 → ⊥) × HasNoSpace bytes

not_split : (byte : ℕ) (bytes : List ℕ) → (byte ≡ 32 → ⊥) → slice_split (λ (b : ℕ). b == 32) (byte ∷ bytes) ≡ onto_first byte (slice_split (λ (b : ℕ). b == 32) bytes)
not_split byte bytes other = ap (λ (t : Bool). cond t ([] ∷ slice_split (λ (b : ℕ). b == 32) bytes) (onto_first byte (slice_split (λ (b : ℕ). b == 32) bytes))) (ne_eqb byte 32 other)

one_word : (word : List ℕ) → HasNoSpace word → words_of word ≡ word ∷ []
one_word [] h = refl
one_word (byte ∷ word) h = not_split byte word h.0 ∙ ap (onto_first byte) (one_word word h.1)

word_in_front : (word rest : List ℕ) → HasNoSpace word → words_of (word ++ 32 ∷ rest) ≡ word ∷ words_of rest
word_in_front [] rest h = refl
word_in_front (byte ∷ word) rest h = not_split byte (word ++ 32 ∷ rest) h.0 ∙ ap (onto_first byte) (word_in_front word rest h.1)

-- ---- digits

space_is_none : (d : ℕ) → hex_digit_value 32 ≡ Some d → ⊥
space_is_none d is = cc

no_space_in : (digits : List ℕ) (d byte : ℕ) → IsDigits digits → d < 16 → byte ≡ slice_index digits d → byte ≡ 32 → ⊥
no_space_in digits d byte are low is space = space_is_none d (ap hex_digit_value (sym space ∙ is) ∙ are d low)

digits_apart : (digits bytes : List ℕ) → IsDigits digits → All (λ (byte : ℕ). byte < 256) bytes → HasNoSpace (encode_with digits bytes)
unfolding encode_with
digits_apart digits [] are all = tt
digits_apart digits (byte ∷ bytes) are all =
    let small : byte < 256 = All-head (λ (b : ℕ). b < 256) byte bytes all in (
      no_space_in digits (byte / 16) _ are (omega (arith, small)) refl,
      (no_space_in digits (byte % 16) _ are (omega arith) refl, digits_apart digits bytes are (All-tail (λ (b : ℕ). b < 256) byte bytes all)),
    )

text_apart : (bytes : List ℕ) → All (λ (byte : ℕ). byte < 256) bytes → HasNoSpace (text_of_bytes bytes)
text_apart [] all = (λ is. let never : 45 ≡ 32 = is in omega (arith, never), tt)
text_apart (byte ∷ bytes) all = digits_apart lower_digits (byte ∷ bytes) IsDigits-lower_digits all

are_bytes : (bytes : List ℕ) → All (λ (byte : ℕ). byte < 256) bytes → IsBytes bytes
are_bytes [] all i = omega arith
are_bytes (byte ∷ bytes) all zero = All-head (λ (b : ℕ). b < 256) byte bytes all
are_bytes (byte ∷ bytes) all (suc i) = are_bytes bytes (All-tail (λ (b : ℕ). b < 256) byte bytes all) i

-- the text of bytes says them
says_bytes : (bytes : List ℕ) → All (λ (byte : ℕ). byte < 256) bytes → IsByteString (text_of_bytes bytes) bytes
unfolding encode_with
says_bytes [] all = inl (refl, refl)
says_bytes (byte ∷ bytes) all = inr (λ none. (let n : length (encode_lower (byte ∷ bytes)) ≡ 0 = ap length none in omega (arith, n)), decode_of-encode_lower (byte ∷ bytes) (are_bytes (byte ∷ bytes) all))

-- ---- the line

module _ (key value : List ℕ) (keys : All (λ (byte : ℕ). byte < 256) key) (values : All (λ (byte : ℕ). byte < 256) value) where
  abbrev spelled : List (List ℕ)
  spelled = text_of_bytes key ∷ text_of_bytes value ∷ []

  words_are : words_of (text_of_bytes key ++ 32 ∷ text_of_bytes value) ≡ spelled
  words_are = word_in_front (text_of_bytes key) (text_of_bytes value) (text_apart key keys) ∙ ap (λ (ws : List (List ℕ)). text_of_bytes key ∷ ws) (one_word (text_of_bytes value) (text_apart value values))

  puts : IsPut (text_of_bytes key) (text_of_bytes value) (Put key value)
  puts = (key, value, says_bytes key keys, says_bytes value values, refl)

  says_put : (command : Op) → IsWrite (Put key value ∷ []) false command → AreCommand (codes "put" ∷ spelled) command
  says_put command written = (verb.Put, spelled, refl, (text_of_bytes key, text_of_bytes value, Put key value, refl, puts, written))

  spells_put : (rest : List (List ℕ)) (command : Op) → rest ≡ spelled → Spells verb.Put rest command → IsWrite (Put key value ∷ []) false command
  spells_put rest command is h =
      let e : h.0 ∷ h.1 ∷ [] ≡ spelled = sym h.3 ∙ is in
      let first : h.0 ≡ text_of_bytes key = head h.0 (text_of_bytes key) (h.1 ∷ []) (text_of_bytes value ∷ []) e in
      let second : h.1 ≡ text_of_bytes value = head h.1 (text_of_bytes value) [] [] (tail h.0 (text_of_bytes key) (h.1 ∷ []) (text_of_bytes value ∷ []) e) in
      let put : IsPut (text_of_bytes key) (text_of_bytes value) h.2 = subst (λ (w : List ℕ). IsPut w (text_of_bytes value) h.2) first (subst (λ (w : List ℕ). IsPut h.0 w h.2) second h.4) in
      subst (λ (o : Operation). IsWrite (o ∷ []) false command) (one_put (text_of_bytes key) (text_of_bytes value) h.2 (Put key value) put puts) h.5

  only_put : (command : Op) → AreCommand (codes "put" ∷ spelled) command → IsWrite (Put key value ∷ []) false command
  only_put command h =
      let named = one_verb verb.Put h.0 (head (codes "put") (name_of h.0) spelled h.1 h.2) in
      spells_put h.1 command (sym (tail (codes "put") (name_of h.0) spelled h.1 h.2)) (subst (λ v. Spells v h.1 command) (sym named) h.3)

  pub line_says : (command : Op) → (Says (codes "put " ++ text_of_bytes key ++ 32 ∷ text_of_bytes value) command → IsWrite (Put key value ∷ []) false command)
      × (IsWrite (Put key value ∷ []) false command → Says (codes "put " ++ text_of_bytes key ++ 32 ∷ text_of_bytes value) command)
  line_says command = (
    λ h. only_put command (subst (λ (ws : List (List ℕ)). AreCommand (codes "put" ∷ ws) command) words_are h),
    λ h. subst (λ (ws : List (List ℕ)). AreCommand (codes "put" ∷ ws) command) (sym words_are) (says_put command h),
  )
