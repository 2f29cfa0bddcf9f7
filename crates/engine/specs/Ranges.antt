-- Iterations over the pairs whose keys lie in a range (LevelDB's include/leveldb/db.h, `Range`, and
-- iterator.h).
use Rattle.std.specs.Prelude.{◌≡◌, ◌⊎◌, ◌&&◌, ◌+◌, ℕ, Bool, true, not, nat_eq, nat_lt, if◌then◌else◌, Option, Some, None, Result, Ok, Err, OnOk, IfErr, MatchBool, MatchOption, List, [], ◌∷◌, ◌++◌, take, drop}
use Rattle.std.specs.List.{filter}
use Rattle.std.specs.Map.{lookup}
use Rattle.std.specs.Ordering.{is_lt}
use Rattle.std.specs.declared.cmp.Ordering.{Ordering}
use Rattle.coding.specs.declared.error.DbError.{DbError}
use Rattle.coding.specs.declared.error.DbError.TheVariants as error
use Rattle.ikey.specs.Orders.{Order}
use Rattle.machine.specs.declared.command.Answer.TheVariants.{Iterator, Refused}
use Rattle.machine.specs.Machine.{Machine, Walk}
use Rattle.machine.specs.Serving.{◌≈◌, ReadRefused, visible}
use Rattle.machine.specs.Causes.{Motion, ToFirst, ToKey, ToNext, not_serving, status_of}
use Rattle.machine.specs.Views.{AreSortedPairs, Iterates, without_id, without_iterator}
use Rattle.machine.specs.Walks.{count_below}
use Rattle.engine.specs.Outcomes.{MayRefuseMove}
use Rattle.engine.specs.declared.ranges.KeyRange.{KeyRange}
use Rattle.engine.specs.declared.ranges.RangeWalk.{RangeWalk}
use Rattle.engine.specs.declared.ranges.Stage.{Stage}
use Rattle.engine.specs.declared.ranges.Stage.TheVariants.{Ahead, Within, Over}

abbrev pub Cmp : Type 0
Cmp = List ℕ → List ℕ → Ordering

-- a key and its value
abbrev pub Pair : Type 0
Pair = List ℕ × List ℕ

-- ---- which keys

abbrev pub is_from : Cmp → Option (List ℕ) → List ℕ → Bool
is_from cmp None key = true
is_from cmp (Some from) key = not (is_lt (cmp key from))

abbrev pub is_before_end : Cmp → Option (List ℕ) → List ℕ → Bool
is_before_end cmp None key = true
is_before_end cmp (Some to) key = is_lt (cmp key to)

-- a key of the range doesn't come before its first, and comes before its end
abbrev pub is_in_range : Cmp → KeyRange → List ℕ → Bool
is_in_range cmp keys key = is_from cmp keys.from key && is_before_end cmp keys.to key

-- the pairs of the range, in their order
abbrev pub pairs_within : Cmp → KeyRange → List Pair → List Pair
pairs_within cmp keys pairs = filter (λ (pair : Pair). is_in_range cmp keys pair.0) pairs

-- In the order of bytes, what comes first after all keys that begin so: its last byte below 255 is
-- raised, and nothing stands after it.
abbrev pub end_of : ℕ → Option (List ℕ) → Option (List ℕ)
end_of byte (Some end) = Some (byte ∷ end)
end_of byte None = if nat_lt byte 255 then Some ((byte + 1) ∷ []) else None

abbrev pub prefix_end : List ℕ → Option (List ℕ)
prefix_end [] = None
prefix_end (byte ∷ bytes) = end_of byte (prefix_end bytes)

abbrev pub BeginsWith : List ℕ → List ℕ → Type 0
BeginsWith prefix key = (rest : List ℕ) × (key ≡ prefix ++ rest)

-- ---- where an iteration stands

-- how many pairs at the front come before the range
abbrev pub start_of : Cmp → Option (List ℕ) → List Pair → ℕ
start_of cmp None pairs = 0
start_of cmp (Some from) pairs = count_below cmp from pairs

-- those at the front that come before the end
abbrev pub up_to : Cmp → Option (List ℕ) → List Pair → List Pair
up_to cmp to [] = []
up_to cmp to (pair ∷ pairs) = if is_before_end cmp to pair.0 then pair ∷ up_to cmp to pairs else []

-- what is left of an iteration whose iterator stands so: all of the range if it hasn't begun, and
-- else what is after its place
abbrev pub LeftAt : Cmp → Stage → KeyRange → Walk → List Pair → Type 0
LeftAt cmp Ahead keys at rest = rest ≡ up_to cmp keys.to (drop (start_of cmp keys.from at.pairs) at.pairs)
LeftAt cmp Within keys at rest = (i : ℕ) × (at.place ≡ Some i) × (rest ≡ up_to cmp keys.to (drop (i + 1) at.pairs))
LeftAt cmp Over keys at rest = rest ≡ []

-- In this state of the machine the iteration has an iterator, and these pairs are still to come.
pub record HasLeft (order : Order) (m : Machine) (walk : RangeWalk) (rest : List Pair) : Type 0 where
  pub at : Walk
  pub found : lookup (nat_eq walk.id) m.iterators ≡ Some at
  pub left : LeftAt order.cmp walk.stage walk.keys at rest

-- Of all that the machine has, only this iterator isn't as before.
abbrev pub OnlyWalks : ℕ → Machine → Machine → Type 0
OnlyWalks id old new = (without_id id new.iterators ≡ without_id id old.iterators) × (new ≈ record old { iterators = new.iterators })

-- ---- an iteration begins

-- It has all pairs of the range before it that the view of an iterator made now has.
abbrev pub Begins : Order → Machine → KeyRange → Option ℕ → Result RangeWalk DbError → Machine → Type 0
Begins order old keys snapshot (Ok walk) new =
    (pairs : List Pair) × AreSortedPairs order.cmp (visible old snapshot) pairs × HasLeft order new walk (pairs_within order.cmp keys pairs)
    × Iterates order old snapshot (Iterator walk.id) new
Begins order old keys snapshot (Err e) new = Iterates order old snapshot (Refused e) new

-- ---- a step of an iteration

-- how the iterator is moved
abbrev pub start_motion : Option (List ℕ) → Motion
start_motion None = ToFirst
start_motion (Some from) = ToKey from

abbrev pub next_motion : Stage → KeyRange → Motion
next_motion Ahead keys = start_motion keys.from
next_motion Within keys = ToNext
next_motion Over keys = ToNext

-- What the iteration makes of the pair that its iterator came to: a pair at the end or after it is
-- none of its own.
abbrev pub Settles : Cmp → RangeWalk → Option Pair → RangeWalk → Option Pair → Type 0
Settles cmp old None new result = (result ≡ None) × (new ≡ record old { stage = Over })
Settles cmp old (Some pair) new result = MatchBool (is_before_end cmp old.keys.to pair.0)
    ((result ≡ Some pair) × (new ≡ record old { stage = Within }))
    ((result ≡ None) × (new ≡ record old { stage = Over }))

-- The first of these is returned, and the others are left; None if none was left. An error leaves
-- all.
abbrev pub GivesFirst : List Pair → Result (Option Pair) DbError → (List Pair → Type 0) → Type 0
GivesFirst rest (Ok None) Left = (rest ≡ []) × Left []
GivesFirst rest (Ok (Some pair)) Left = (more : List Pair) × (rest ≡ pair ∷ more) × Left more
GivesFirst rest (Err e) Left = Left rest

-- An iteration that has something left fails as a read does.
abbrev pub RefusesWalk : Machine → DbError → Machine → Type 0
RefusesWalk old e new = MatchOption (not_serving (status_of old)) (ReadRefused old e new) (λ cause. (e ≡ cause) × (new ≈ old))

pub record Steps (order : Order) (old : Machine) (before : RangeWalk) (result : Result (Option Pair) DbError) (new : Machine) (after : RangeWalk) : Type 0 where
  pub gives : (rest : List Pair) → HasLeft order old before rest → GivesFirst rest result (HasLeft order new after)
  pub refused : IfErr result (λ e. (rest : List Pair) → HasLeft order old before rest → RefusesWalk old e new)
  pub others : OnlyWalks before.id old new

-- it is the same iteration, over the same keys
abbrev pub SameWalk : RangeWalk → RangeWalk → Type 0
SameWalk old new = (new.id ≡ old.id) × (new.keys ≡ old.keys)

-- ---- several steps

-- They fail as one does, and also out of memory for what came.
abbrev pub RefusesFill : Machine → DbError → Machine → Type 0
RefusesFill old e new = RefusesWalk old e new ⊎ ((e ≡ error.OutOfMemory) × (new ≈ old))

-- As many as there are, and no more than this, are appended to those that were there. If it fails,
-- those that came are there too, and the others are left.
pub record Fills (order : Order) (limit : ℕ) (old : Machine) (before : RangeWalk) (had : List Pair) (result : Result (Unit {0}) DbError) (new : Machine) (after : RangeWalk) (has : List Pair) : Type 0 where
  pub gives : (rest : List Pair) → HasLeft order old before rest →
      (came left : List Pair) × (has ≡ had ++ came) × (rest ≡ came ++ left) × HasLeft order new after left × OnOk result (came ≡ take limit rest)
  pub refused : IfErr result (λ e. (rest : List Pair) → HasLeft order old before rest → (between : Machine) × OnlyWalks before.id old between × RefusesFill between e new)
  pub others : OnlyWalks before.id old new

-- ---- a whole range at once

-- an iterator was made and released
abbrev pub walked : Machine → Machine
walked m = without_iterator (record m { last_iterator = m.last_iterator + 1 }) (m.last_iterator + 1)

-- The pairs of the range that the view has, as many as may be; and no iterator stays.
abbrev pub Scans : Order → Machine → KeyRange → Option ℕ → ℕ → List Pair → Machine → Type 0
Scans order old keys snapshot limit found new =
    (pairs : List Pair) × AreSortedPairs order.cmp (visible old snapshot) pairs × (found ≡ take limit (pairs_within order.cmp keys pairs)) × (new ≈ walked old)

-- It fails as an iterator does, or as a read by the one that was made; none stays either.
abbrev pub RefusesScan : Order → Machine → Option ℕ → DbError → Machine → Type 0
RefusesScan order old snapshot e new = Iterates order old snapshot (Refused e) new ⊎ ((between : Machine) × (between ≈ walked old) × ReadRefused between e new)

abbrev pub MayRefuseScan : DbError → Type 0
MayRefuseScan error.NoSnapshot = Unit {0}
MayRefuseScan error.NumbersSpent = Unit {0}
MayRefuseScan e = MayRefuseMove ToNext e
