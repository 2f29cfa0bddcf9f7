use Rattle.std.proofs.Common.{◌≡◌, ◌++◌, take}
use Rattle.texts.specs.Texts.{escaped_word}
use Rattle.texts.proofs.writing.push_word.Given as goal

-- the bytes so far stand behind the text
abbrev pub invariant-loop-byte : goal.invariant-loop-byte
invariant-loop-byte l = l.text.items ≡ l.fn.text.items ++ escaped_word (take l.byte-index l.bytes)
