-- Walks through a range, in the order of the keys or backwards.
use Rattle.std.specs.Prelude.{◌≡◌, ◌<◌, ℕ, Bool, true, false, List, [], ◌∷◌, length, reverse, take, drop, Option, Some, None, Result, Ok, Err, OnOk, IfErr, IsTrue}
use Rattle.coding.specs.declared.error.DbError.{DbError}
use Rattle.coding.specs.declared.error.DbError.TheVariants as error
use Rattle.store.specs.Files.{Facts}
use Rattle.table.specs.Reading.{Reads}
use Rattle.machine.specs.Machine.{Walk}
use Rattle.engine.specs.Ranges.{Cmp, Pair, start_of}
use Rattle.reader.specs.declared.reader.Reader.{Reader}
use Rattle.reader.specs.declared.reader.ReaderWalk.{ReaderWalk}
use Rattle.reader.specs.Readers.{facts_of, scan_of, whole_of}
use Rattle.reader.specs.internal.Iterators.{IsWalk}
use Rattle.browse.specs.declared.choice.Choice.{Choice}
use Rattle.browse.specs.Refusals.{HasLongTable}
use Rattle.browse.specs.internal.Lists.{behind, end_of, starting}

-- the walk of a reader is this one
abbrev pub Stands : {S K : Type 0} {g : _} → Cmp → (S → Facts) → Reader S K → ReaderWalk K g → Walk → Type 0
Stands cmp facts reader walk at = IsWalk cmp true (whole_of facts reader) (scan_of walk) at

-- what the walk comes to by its next move: where it hasn't begun its start, from either end of the
-- range,
abbrev pub StartsForwards : Cmp → Option (List ℕ) → Walk → List Pair → Type 0
StartsForwards cmp from at ahead = ahead ≡ drop (start_of cmp from at.pairs) at.pairs

abbrev pub StartsBackwards : Cmp → Option (List ℕ) → Walk → List Pair → Type 0
StartsBackwards cmp to at ahead = ahead ≡ reverse (take (end_of cmp to at.pairs) at.pairs)

-- and else what is behind its place
abbrev pub StandsBefore : Bool → Walk → List Pair → Type 0
StandsBefore backwards at ahead = (i : ℕ) × (at.place ≡ Some i) × (i < length at.pairs) × (ahead ≡ behind backwards i at.pairs)

abbrev pub Ahead : Cmp → Choice → Bool → Walk → List Pair → Type 0
Ahead cmp choice false at ahead = ahead ≡ starting cmp choice at.pairs
Ahead cmp choice true at ahead = StandsBefore choice.backwards at ahead

-- Why a move is refused; `Of P` says that P is so of whatever the reader and its walk stand for.
abbrev pub RefusesMove : Cmp → DbError → Facts → Facts → (Type 0 → Type 0) → Type 0
RefusesMove cmp error.OutOfMemory old new Of = new.failures ≡ old.failures
RefusesMove cmp error.Io old new Of = old.failures < new.failures
RefusesMove cmp error.NoPlace old new Of = IsTrue new.faithful → Of ⊥
RefusesMove cmp (error.Corrupt file what) old new Of = IsTrue new.faithful → Of ⊥
RefusesMove cmp (error.Unsupported what) old new Of = IsTrue new.faithful → Of (HasLongTable cmp old.files)
RefusesMove cmp _ old new Of = ⊥

-- The walk stands on the first of those that were ahead, as far as `part` has them, and the others
-- are behind it; none came where there is none.
abbrev pub Arrives : {S K : Type 0} {g : _} → Cmp → (S → Facts) → Bool → (List Pair → List Pair) → Reader S K → ReaderWalk K g → List Pair → List Pair → Result (Option Pair) DbError → Type 0
Arrives cmp facts backwards part reader walk pairs ahead (Ok None) = part ahead ≡ []
Arrives cmp facts backwards part reader walk pairs ahead (Ok (Some pair)) =
    (i : ℕ) × (i < length pairs) × Stands cmp facts reader walk (record { pairs = pairs; place = Some i }) × (part ahead ≡ pair ∷ part (behind backwards i pairs))
Arrives cmp facts backwards part reader walk pairs ahead (Err e) = Unit {0}

-- A walk of which this is known is moved.
pub record Moves {S K : Type 0} {g : _} (cmp : Cmp) (facts : S → Facts) (backwards : Bool) (Before : Walk → List Pair → Type 0) (part : List Pair → List Pair) (old new : Reader S K) (before after : ReaderWalk K g) (result : Result (Option Pair) DbError) : Type 0 where
  pub reads : Reads (facts_of facts old) (facts_of facts new)
  pub stood : OnOk result ((facts_of facts new).failures ≡ (facts_of facts old).failures)
  pub moves : IsTrue (facts_of facts new).faithful → (at : Walk) (ahead : List Pair) → Stands cmp facts old before at → Before at ahead
      → Arrives cmp facts backwards part new after at.pairs ahead result
  pub refused : IfErr result (λ e. RefusesMove cmp e (facts_of facts old) (facts_of facts new) (λ P. (at : Walk) (ahead : List Pair) → Stands cmp facts old before at → Before at ahead → P))
