-- What a piece of work does to the machine.
use Rattle.std.specs.Prelude.{◌≡◌, ◌⊎◌, ◌≤◌, ℕ, Bool, true, false, if◌then◌else◌, List, Contains, Result, MatchResult}
use Rattle.cache.specs.Tables.{KeptTable}
use Rattle.coding.specs.declared.error.DbError.{DbError}
use Rattle.coding.specs.declared.error.DbError.TheVariants as error
use Rattle.memtables.specs.Memories.{Memories, sealed_inserts}
use Rattle.directory_writes.specs.declared.flush.FlushError.{FlushError}
use Rattle.directory_writes.specs.declared.flush.FlushError.TheVariants.{Before, Edit}
use Rattle.engine.specs.declared.state.DbState.{DbState}
use Rattle.machine.specs.Machine.{Machine}
use Rattle.machine.specs.Upkeep.{Draws, UpkeepRefused}

-- What is read as it should be is neither past a limit nor damaged.
abbrev pub IsHardToRead : Machine → Type 0
IsHardToRead m = (m.over_limit ≡ true) ⊎ (m.damaged ≡ true)

-- It draws so many numbers at most, and changes nothing else, or is refused.
pub record IsPiece {T : Type 0} (old : Machine) (most : ℕ) (result : Result T DbError) (new : Machine) : Type 0 where
  pub failures : old.failures ≤ new.failures
  pub denials : new.denials ≡ old.denials
  pub what : MatchResult result (λ done. Draws old most new) (λ e. UpkeepRefused old most e new)

-- What a piece may be refused with. Corrupt comes only of a store that isn't faithful.
abbrev pub MayRefusePiece : DbError → Type 0
MayRefusePiece error.OutOfMemory = Unit {0}
MayRefusePiece error.Io = Unit {0}
MayRefusePiece (error.Corrupt file what) = Unit {0}
MayRefusePiece (error.Unsupported what) = Unit {0}
MayRefusePiece error.NumbersSpent = Unit {0}
MayRefusePiece _ = ⊥

-- Out of memory is answered as a failure of the store where a file couldn't be removed either.
abbrev pub refused_as : Bool → DbError → DbError
refused_as complete error.OutOfMemory = if complete then error.OutOfMemory else error.Io
refused_as complete e = e

-- The current and the sealed table have the same entries, and what is sealed is so still.
pub record IsSameMemory (old new : Memories) : Type 0 where
  pub current : new.current ≡ old.current
  pub sealed : new.sealed ≡ old.sealed
  pub sealed_are : sealed_inserts new ≡ sealed_inserts old

-- a failure of the store at the edit is one too
abbrev pub flush_answer : FlushError → DbError
flush_answer (Before e) = e
flush_answer Edit = error.Io

-- A failure of the store in a call that changes the directory breaks the database.
abbrev pub broken_by : {K : Type 0} {g : _} → DbState K g → DbError → DbState K g
broken_by state error.Io = record state { broken = true }
broken_by state _ = state

-- How an error is answered, and what it leaves: as it is, if no write of the store failed
-- meanwhile. Else it is answered with Io, and the database is broken.
abbrev pub settled_as : Bool → DbError → DbError
settled_as true e = e
settled_as false e = error.Io

abbrev pub settled_by : {K : Type 0} {g : _} → Bool → DbState K g → DbState K g
settled_by true state = state
settled_by false state = record state { broken = true }

-- Nothing more is kept, and nothing under these numbers.
pub record ClosesTables (old new : List KeptTable) (numbers : List ℕ) : Type 0 where
  pub kept : (kept : KeptTable) → Contains new kept → Contains old kept
  pub closed : (kept : KeptTable) → Contains new kept → Contains numbers kept.number → ⊥
