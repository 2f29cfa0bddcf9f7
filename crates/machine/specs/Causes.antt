-- Why a command is refused for what it asks and for what is open. It has at most one such refusal:
-- the first of its causes, in the order in which they stand here.
use Rattle.std.specs.Prelude.{ℕ, ◌+◌, ◌-◌, ◌^◌, nat_eq, nat_lt, if◌then◌else◌, Bool, true, false, Option, Some, None, is_some, List, [], ◌∷◌, length}
use Rattle.std.specs.Map.{lookup}
use Rattle.std.specs.Option.{option_or}
use Rattle.batch.specs.Batch.{first_refusal}
use Rattle.batch.specs.declared.operation.Operation.{Operation}
use Rattle.coding.specs.declared.error.DbError.{DbError}
use Rattle.coding.specs.declared.error.DbError.TheVariants as error
use Rattle.machine.specs.declared.command.Op.{Op}
use Rattle.machine.specs.declared.command.Op.TheVariants as op
use Rattle.machine.specs.Machine.{Machine, walk_under}

-- ---- what causes are read from

-- The machine has it, and so has an open database.
pub record Status : Type 0 where
  pub opened : Bool
  pub broken : Bool
  pub used : ℕ
  -- whether a snapshot of this id is live, or an iterator, and whether that stands on a pair
  pub sees : ℕ → Bool
  pub iterates : ℕ → Bool
  pub stands : ℕ → Bool
  pub last_snapshot : ℕ
  pub last_iterator : ℕ

abbrev pub status_of : Machine → Status
status_of m = record {
  opened = m.opened;
  broken = m.broken;
  used = m.used;
  sees = λ id. is_some (lookup (nat_eq id) m.snapshots);
  iterates = λ id. is_some (lookup (nat_eq id) m.iterators);
  stands = λ id. is_some (walk_under m id).place;
  last_snapshot = m.last_snapshot;
  last_iterator = m.last_iterator;
}

-- ---- causes that more than one command has

abbrev pub not_serving : Status → Option DbError
not_serving s = if s.opened then (if s.broken then Some error.Broken else None) else Some error.NotOpen

abbrev pub no_snapshot : Status → Option ℕ → Option DbError
no_snapshot s None = None
no_snapshot s (Some id) = if s.sees id then None else Some error.NoSnapshot

abbrev pub no_iterator : Status → ℕ → Option DbError
no_iterator s id = if s.iterates id then None else Some error.NoIterator

-- ids are below 2^64, and none is given twice
abbrev pub spent : ℕ → Option DbError
spent last = if nat_lt (last + 1) (2 ^ 64) then None else Some error.NumbersSpent

-- ---- motions

-- where an iterator is moved
pub data Motion : Type 0 where
  ToFirst : Motion
  ToLast : Motion
  -- to the first pair whose key doesn't come before this one
  ToKey : List ℕ → Motion
  ToNext : Motion
  ToPrev : Motion

abbrev pub needs_place : Motion → Bool
needs_place ToNext = true
needs_place ToPrev = true
needs_place _ = false

-- why it is refused to what stands somewhere, or nowhere
abbrev pub lacks_place : Bool → Motion → Option DbError
lacks_place stands motion = if needs_place motion then (if stands then None else Some error.NoPlace) else None

-- ---- the first cause of each command

abbrev pub open_cause : Status → Option DbError
open_cause s = if s.opened then (if s.broken then Some error.Broken else Some error.AlreadyOpen) else None

-- sequence numbers are below 2^56
abbrev pub full : Status → List Operation → Option DbError
full s [] = None
full s (operation ∷ operations) = if nat_lt (2 ^ 56 - 1) (s.used + length (operation ∷ operations)) then Some error.SequenceFull else None

abbrev pub write_cause : Status → List Operation → Option DbError
write_cause s operations = option_or (first_refusal [] operations) (option_or (not_serving s) (full s operations))

abbrev pub get_cause : Status → Option ℕ → Option DbError
get_cause s snapshot = option_or (not_serving s) (no_snapshot s snapshot)

abbrev pub snapshot_cause : Status → Option DbError
snapshot_cause s = option_or (not_serving s) (spent s.last_snapshot)

abbrev pub release_cause : Status → ℕ → Option DbError
release_cause s id = option_or (not_serving s) (no_snapshot s (Some id))

abbrev pub iterate_cause : Status → Option ℕ → Option DbError
iterate_cause s snapshot = option_or (not_serving s) (option_or (no_snapshot s snapshot) (spent s.last_iterator))

abbrev pub move_cause : Status → ℕ → Motion → Option DbError
move_cause s id motion = option_or (not_serving s) (option_or (no_iterator s id) (lacks_place (s.stands id) motion))

abbrev pub drop_cause : Status → ℕ → Option DbError
drop_cause s id = option_or (not_serving s) (no_iterator s id)

-- the last level, 6, has none below it
abbrev pub level_cause : Status → ℕ → Option DbError
level_cause s level = option_or (not_serving s) (if nat_lt level 6 then None else Some error.BadLevel)

abbrev pub close_cause : Status → Option DbError
close_cause s = if s.opened then None else Some error.NotOpen

-- the refusal that a command has to have
abbrev pub cause_of : Op → Status → Option DbError
cause_of (op.Open mode) s = open_cause s
cause_of (op.Write operations sync) s = write_cause s operations.items
cause_of (op.Get key snapshot) s = get_cause s snapshot
cause_of op.Snapshot s = snapshot_cause s
cause_of (op.Release id) s = release_cause s id
cause_of (op.Iterate snapshot) s = iterate_cause s snapshot
cause_of (op.First id) s = move_cause s id ToFirst
cause_of (op.Last id) s = move_cause s id ToLast
cause_of (op.Seek id key) s = move_cause s id (ToKey key)
cause_of (op.Next id) s = move_cause s id ToNext
cause_of (op.Prev id) s = move_cause s id ToPrev
cause_of (op.DropIterator id) s = drop_cause s id
cause_of (op.Work budget) s = not_serving s
cause_of (op.CompactLevel level) s = level_cause s level
cause_of op.CompactAll s = not_serving s
cause_of op.Close s = close_cause s
