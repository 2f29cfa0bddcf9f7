-- How byte strings and pairs are printed.
use Rattle.std.specs.Prelude.{ℕ, ◌++◌, List, [], ◌∷◌, codes}
use Rattle.script.specs.Words.{text_of_bytes}
use Rattle.texts.specs.Texts.{escaped}
use Rattle.engine.specs.Ranges.{Pair}
use Rattle.browse.specs.declared.form.Form.{Form}
use Rattle.browse.specs.declared.form.Form.TheVariants.{Hex, Text}
use Rattle.browse.specs.declared.style.Style.{Style}
use Rattle.browse.specs.declared.style.Style.TheVariants.{Keys, Pairs, JsonKeys, JsonPairs, Puts}

-- ---- byte strings

-- two hexadecimal digits a byte, `-` for none; or as text
abbrev pub text_in : Form → List ℕ → List ℕ
text_in Hex bytes = text_of_bytes bytes
text_in Text bytes = escaped bytes

-- the digits alone, which are none for no bytes
abbrev pub digits_of : List ℕ → List ℕ
digits_of [] = []
digits_of (byte ∷ bytes) = text_of_bytes (byte ∷ bytes)

-- ---- lines

-- K · K V · {"key":"6b"} · {"key":"6b","value":"76"} · put K V, as a script has it
abbrev pub line_in : Style → Pair → List ℕ
line_in (Keys form) pair = text_in form pair.0
line_in (Pairs form) pair = text_in form pair.0 ++ 32 ∷ text_in form pair.1
line_in JsonKeys pair = codes "{\"key\":\"" ++ digits_of pair.0 ++ codes "\"}"
line_in JsonPairs pair = codes "{\"key\":\"" ++ digits_of pair.0 ++ codes "\",\"value\":\"" ++ digits_of pair.1 ++ codes "\"}"
line_in Puts pair = codes "put " ++ text_of_bytes pair.0 ++ 32 ∷ text_of_bytes pair.1

-- each of the pairs on a line of its own
abbrev pub lines_in : Style → List Pair → List ℕ
lines_in style [] = []
lines_in style (pair ∷ pairs) = line_in style pair ++ 10 ∷ lines_in style pairs
