-- What C sees of each kind of answer: a number, and what is written through its pointers.
use Rattle.std.specs.Prelude.{◌≡◌, ◌+◌, ◌-◌, ◌^◌, ◌++◌, ℕ, ℤ, pos, negsuc, min, nat_lt, MatchBool, Option, Some, None}
use Rattle.std.specs.Prelude.{Result, Ok, Err, List, length}
use Rattle.coding.specs.Errors.{number_of}
use Rattle.coding.specs.declared.error.DbError.{DbError}
use Rattle.coding.specs.declared.error.DbError.TheVariants.{NoIterator}
use Rattle.edits.specs.declared.field.PlacedTable.{PlacedTable}
use Rattle.engine.specs.declared.pace.Pace.{Pace}
use Rattle.engine.specs.declared.pace.Pace.TheVariants as pace
use Rattle.engine.specs.declared.work.Progress.{Progress}
use Rattle.engine.specs.declared.work.Progress.TheVariants.{Worked, Idle}
use Rattle.versions.specs.Levels.{tables_at}
use Rattle.c_calls.specs.Codes.{written}
use Rattle.c_calls.specs.declared.room.Pair.{Pair}

-- the number of an error
abbrev pub number : DbError → ℤ
number error = pos (number_of error)

-- 0 if work keeps up, the number of an error if the write failed, and 256 more if only work did
abbrev pub paced : Result Pace DbError → ℤ
paced (Ok pace.KeepsUp) = pos 0
paced (Ok (pace.Refused error)) = pos (256 + number_of error)
paced (Err error) = number error

-- A value: its length, and as many of its bytes as have room. No value is -1, and leaves the room.
abbrev pub ValueTold : Result (Option (List ℕ)) DbError → List ℕ → List ℕ → ℕ → ℤ → Type 0
ValueTold (Ok (Some value)) before after count code = (code ≡ pos 0) × (count ≡ length value) ×
    (after ≡ written value before)
ValueTold (Ok None) before after count code = (code ≡ negsuc 0) × (count ≡ 0) × (after ≡ before)
ValueTold (Err error) before after count code = (code ≡ number error) × (count ≡ 0) × (after ≡ before)

-- A pair: its lengths, and as many bytes of the key and the value after it as have room.
abbrev pub PairTold : Result (Option (List ℕ × List ℕ)) DbError → List ℕ → List ℕ → Pair → ℤ → Type 0
PairTold (Ok (Some pair)) before after counts code =
    (code ≡ pos 0) × (counts.key_length ≡ length pair.0) × (counts.value_length ≡ length pair.1) × (after ≡ written
    (pair.0 ++ pair.1) before)
PairTold (Ok None) before after counts code = (code ≡ negsuc 0) × (counts.key_length ≡ 0) ×
    (counts.value_length ≡ 0) × (after ≡ before)
PairTold (Err error) before after counts code = (code ≡ number error) × (counts.key_length ≡ 0) ×
    (counts.value_length ≡ 0) × (after ≡ before)

-- what is told of the pair on which an iterator stands, or that there is no such iterator
abbrev pub StandingTold : Option (Option (List ℕ × List ℕ)) → List ℕ → List ℕ → Pair → ℤ → Type 0
StandingTold (Some pair) before after counts code = PairTold (Ok pair) before after counts code
StandingTold None before after counts code = PairTold (Err NoIterator) before after counts code

-- an id, which stays alone if there is none
abbrev pub IdTold : Result ℕ DbError → ℕ → ℕ → ℤ → Type 0
IdTold (Ok id) before after code = (code ≡ pos 0) × (after ≡ id)
IdTold (Err error) before after code = (code ≡ number error) × (after ≡ before)

-- whether there was nothing to do
abbrev pub ProgressTold : Result Progress DbError → ℕ → ℤ → Type 0
ProgressTold (Ok Worked) idle code = (code ≡ pos 0) × (idle ≡ 0)
ProgressTold (Ok Idle) idle code = (code ≡ pos 0) × (idle ≡ 1)
ProgressTold (Err error) idle code = (code ≡ number error) × (idle ≡ 0)

-- how many tables a level has, counted up to 2^63 - 1, or -1 if there is no such level
abbrev pub TablesTold : ℕ → List PlacedTable → ℤ → Type 0
TablesTold level tables code =
    MatchBool (nat_lt level 7) (code ≡ pos (min (length (tables_at level tables)) (2 ^ 63 - 1))) (code ≡ negsuc 0)
