-- What C sees of an answer: a number, and bytes in its own room.
use Rattle.std.specs.Prelude.{◌≡◌, ℕ, zero, ℤ, pos, Option, Some, None, MatchOption}
use Rattle.std.specs.Prelude.{Result, Ok, Err, IsOkUnless, OnErr, OnOk}
use Rattle.std.specs.Prelude.{List, [], ◌∷◌, ◌++◌, length, take, drop}
use Rattle.batch.specs.Batch.{refusal_of}
use Rattle.batch.specs.declared.operation.Operation.{Operation}
use Rattle.coding.specs.Errors.{number_of}
use Rattle.coding.specs.declared.error.DbError.{DbError}
use Rattle.coding.specs.declared.error.DbError.TheVariants.{OutOfMemory}

-- 0 for what was done, and else the number of the refusal
abbrev pub told : {A : Type 0} → Result A DbError → ℤ
told (Ok done) = pos 0
told (Err error) = pos (number_of error)

-- the id of a snapshot, where 0 is none
abbrev pub snapshot_in : ℕ → Option ℕ
snapshot_in zero = None
snapshot_in id = Some id

-- a room after these bytes were written to its front, as many as have room
abbrev pub written : List ℕ → List ℕ → List ℕ
written bytes room = take (length room) bytes ++ drop (length bytes) room

-- what adding an operation to a batch did, whose answer this was (`Batch::put` and `Batch::delete`)
pub record Adds (next : Operation) (old new : List Operation) (answer : Result (Unit {0}) DbError) : Type 0 where
  pub done : OnOk answer (new ≡ old ++ next ∷ [])
  pub refused : OnErr answer (new ≡ old)
  pub cause : MatchOption (refusal_of old next) (IsOkUnless answer OutOfMemory) (λ e. answer ≡ Err e)

-- what C sees of it
abbrev pub AddsTold : Operation → List Operation → List Operation → ℤ → Type 0
AddsTold next old new code = (answer : Result (Unit {0}) DbError) × (code ≡ told answer) × Adds next old new answer
