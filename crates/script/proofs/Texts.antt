-- The lines of answers are ASCII.
use Rattle.std.proofs.Common.{◌≡◌, ◌<◌, ◌^◌, ℕ, Bool, true, nat_lt, ◌&&◌, List, [], ◌∷◌, ◌++◌, codes, refl, arith}
use Rattle.std.specs.Prelude.{Option, Some, None}
use Rattle.std.specs.Str.{IsAscii}
use Rattle.std.specs.Fmt.{decimal}
use Rattle.std.proofs.lemmas.Bool.{and_parts}
use Rattle.std.proofs.lemmas.Fmt.{IsAscii-decimal}
use Rattle.std.proofs.lemmas.Str.{IsAscii-append}
use Rattle.std.proofs.lemmas.Str.Ascii.{IsAscii-nil, IsAscii-cons}
use Rattle.coding.specs.declared.error.DbError.{DbError}
use Rattle.coding.specs.declared.error.DbError.TheVariants as refused
use Rattle.hex.specs.Hex.{lower_digits}
use Rattle.hex.proofs.HexLemmas.{IsAscii-encode_with}
use Rattle.script.specs.Words.{text_of_bytes}
use Rattle.machine.specs.declared.command.Answer.TheVariants as answer
use Rattle.script.specs.Script.{line_of, refusal_of}

-- a test that computes at a literal
abbrev all_below : List ℕ → Bool
all_below [] = true
all_below (byte ∷ bytes) = nat_lt byte 128 && all_below bytes

ascii : (bytes : List ℕ) → all_below bytes ≡ true → IsAscii bytes
ascii [] passes = IsAscii-nil
ascii (byte ∷ bytes) passes =
    let parts = and_parts (nat_lt byte 128) (all_below bytes) passes in
    IsAscii-cons byte bytes (grind (arith, parts.0)) (ascii bytes parts.1)

ascii_bytes : (bytes : List ℕ) → IsAscii (text_of_bytes bytes)
ascii_bytes [] = ascii (codes "-") refl
ascii_bytes (byte ∷ bytes) = IsAscii-encode_with lower_digits (byte ∷ bytes) (ascii lower_digits refl)

refusal : (number : ℕ) (name : List ℕ) → number < 2 ^ 64 → all_below name ≡ true → IsAscii (codes "refused " ++ decimal number ++ 32 ∷ name)
refusal number name below passes =
    IsAscii-append (codes "refused ") (decimal number ++ 32 ∷ name) (ascii (codes "refused ") refl)
    (IsAscii-append (decimal number) (32 ∷ name) (IsAscii-decimal number below) (IsAscii-cons 32 name (omega arith) (ascii name passes)))

pub ascii_refusal : (e : DbError) → IsAscii (refusal_of e)
ascii_refusal refused.OutOfMemory = refusal 1 (codes "OutOfMemory") (omega arith) refl
ascii_refusal refused.Io = refusal 2 (codes "Io") (omega arith) refl
ascii_refusal refused.NoDatabase = refusal 3 (codes "NoDatabase") (omega arith) refl
ascii_refusal refused.Exists = refusal 4 (codes "Exists") (omega arith) refl
ascii_refusal (refused.Corrupt file what) = refusal 5 (codes "Corrupt") (omega arith) refl
ascii_refusal (refused.Unsupported what) = refusal 6 (codes "Unsupported") (omega arith) refl
ascii_refusal refused.Broken = refusal 7 (codes "Broken") (omega arith) refl
ascii_refusal refused.NoSnapshot = refusal 8 (codes "NoSnapshot") (omega arith) refl
ascii_refusal refused.NoIterator = refusal 9 (codes "NoIterator") (omega arith) refl
ascii_refusal refused.NoPlace = refusal 10 (codes "NoPlace") (omega arith) refl
ascii_refusal refused.KeyTooLong = refusal 11 (codes "KeyTooLong") (omega arith) refl
ascii_refusal refused.ValueTooLong = refusal 12 (codes "ValueTooLong") (omega arith) refl
ascii_refusal refused.BatchTooLarge = refusal 13 (codes "BatchTooLarge") (omega arith) refl
ascii_refusal refused.SequenceFull = refusal 14 (codes "SequenceFull") (omega arith) refl
ascii_refusal refused.NumbersSpent = refusal 15 (codes "NumbersSpent") (omega arith) refl
ascii_refusal refused.NotOpen = refusal 16 (codes "NotOpen") (omega arith) refl
ascii_refusal refused.AlreadyOpen = refusal 17 (codes "AlreadyOpen") (omega arith) refl
ascii_refusal refused.Locked = refusal 18 (codes "Locked") (omega arith) refl
ascii_refusal refused.BadLevel = refusal 19 (codes "BadLevel") (omega arith) refl
ascii_refusal refused.BadLine = refusal 20 (codes "BadLine") (omega arith) refl

pub ascii_value : (found : Option (List ℕ)) → IsAscii (line_of (answer.Value found))
ascii_value None = ascii (codes "none") refl
ascii_value (Some value) = IsAscii-append (codes "value ") (text_of_bytes value) (ascii (codes "value ") refl) (ascii_bytes value)

pub ascii_pair : (found : Option (List ℕ × List ℕ)) → IsAscii (line_of (answer.Pair found))
ascii_pair None = ascii (codes "end") refl
ascii_pair (Some (key, value)) =
    IsAscii-append (codes "at ") (text_of_bytes key ++ 32 ∷ text_of_bytes value) (ascii (codes "at ") refl)
    (IsAscii-append (text_of_bytes key) (32 ∷ text_of_bytes value) (ascii_bytes key) (IsAscii-cons 32 (text_of_bytes value) (omega arith) (ascii_bytes value)))

pub ascii_snapshot : (id : ℕ) → id < 2 ^ 64 → IsAscii (codes "snapshot " ++ decimal id)
ascii_snapshot id below = IsAscii-append (codes "snapshot ") (decimal id) (ascii (codes "snapshot ") refl) (IsAscii-decimal id below)

pub ascii_iterator : (id : ℕ) → id < 2 ^ 64 → IsAscii (codes "iter " ++ decimal id)
ascii_iterator id below = IsAscii-append (codes "iter ") (decimal id) (ascii (codes "iter ") refl) (IsAscii-decimal id below)
