-- Texts that are written byte by byte.
use Rattle.std.proofs.Common.{◌≡◌, ◌++◌, ◌∷◌, [], ◌+◌, ◌<◌, ℕ, List, sym, ap, ◌∙◌, append-nil, append_assoc, take, length, get_or}
use Rattle.std.proofs.lemmas.List.{take_more}
use Rattle.texts.specs.Texts.{escaped, escaped_byte, escaped_word, word_byte}

module _ (all : List ℕ → List ℕ) (one : ℕ → List ℕ) (push : (bytes : List ℕ) (byte : ℕ) → all (bytes ++ byte ∷ []) ≡ all bytes ++ one byte) where
  -- a further byte
  more : (bytes : List ℕ) (i : ℕ) (before now new : List ℕ) → i < length bytes → now ≡ before ++ all (take i bytes) → new ≡ now ++ one (get_or bytes i 0) → new ≡ before ++ all (take (i + 1) bytes)
  more bytes i before now new lt so_far is =
      is ∙ ap (λ (t : List ℕ). t ++ one (get_or bytes i 0)) so_far ∙ append_assoc before (all (take i bytes)) (one (get_or bytes i 0))
      ∙ ap (λ (t : List ℕ). before ++ t) (sym (ap all (take_more bytes i 0 lt) ∙ push (take i bytes) (get_or bytes i 0)))

escaped-push : (bytes : List ℕ) (byte : ℕ) → escaped (bytes ++ byte ∷ []) ≡ escaped bytes ++ escaped_byte byte
escaped-push [] byte = append-nil (escaped_byte byte)
escaped-push (first ∷ bytes) byte = ap (λ (t : List ℕ). escaped_byte first ++ t) (escaped-push bytes byte) ∙ sym (append_assoc (escaped_byte first) (escaped bytes) (escaped_byte byte))

word-push : (bytes : List ℕ) (byte : ℕ) → escaped_word (bytes ++ byte ∷ []) ≡ escaped_word bytes ++ word_byte byte
word-push [] byte = append-nil (word_byte byte)
word-push (first ∷ bytes) byte = ap (λ (t : List ℕ). word_byte first ++ t) (word-push bytes byte) ∙ sym (append_assoc (word_byte first) (escaped_word bytes) (word_byte byte))

pub escapes_more : (bytes : List ℕ) (i : ℕ) (before now new : List ℕ) → i < length bytes → now ≡ before ++ escaped (take i bytes) → new ≡ now ++ escaped_byte (get_or bytes i 0) → new ≡ before ++ escaped (take (i + 1) bytes)
escapes_more = more escaped escaped_byte escaped-push

pub word_more : (bytes : List ℕ) (i : ℕ) (before now new : List ℕ) → i < length bytes → now ≡ before ++ escaped_word (take i bytes) → new ≡ now ++ word_byte (get_or bytes i 0) → new ≡ before ++ escaped_word (take (i + 1) bytes)
word_more = more escaped_word word_byte word-push
