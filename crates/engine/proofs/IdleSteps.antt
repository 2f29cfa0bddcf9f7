-- Steps of a machine that doesn't serve, since none is open or it is broken: refused for that, or a
-- close. And what is so after steps of one that serves.
use Rattle.std.proofs.Common.{◌≡◌, ◌⊎◌, ◌+◌, ◌++◌, ◌∷◌, Bool, true, false, List, [], length, Option, Some, None, IsSome, MatchOption, inl, inr, refl, sym, ap, ◌∙◌, if◌then◌else◌}
use Rattle.std.specs.Option.{option_or}
use Rattle.batch.specs.Batch.{first_refusal}
use Rattle.batch.specs.declared.operation.Operation.{Operation}
use Rattle.coding.specs.declared.error.DbError.{DbError}
use Rattle.coding.specs.declared.error.DbError.TheVariants as error
use Rattle.ikey.specs.Orders.{Order}
use Rattle.machine.specs.Access.{accepted, doubted, WriteRefused, Writes, Written}
use Rattle.machine.specs.Causes.{Status, cause_of, full, not_serving, open_cause, status_of, write_cause}
use Rattle.machine.specs.Lifetime.{Closed, Closes, OpenAnswered, Opened, Opens, Settles}
use Rattle.machine.specs.Machine.{Machine}
use Rattle.machine.specs.Serving.{◌≈◌, Serves}
use Rattle.machine.specs.Step.{Step}
use Rattle.machine.specs.declared.command.Answer.{Answer}
use Rattle.machine.specs.declared.command.Answer.TheVariants.{Done, Refused}
use Rattle.machine.specs.declared.command.Mode.{Mode}
use Rattle.machine.specs.declared.command.Op.{Op}
use Rattle.machine.specs.declared.command.Op.TheVariants.{Open, Write, Get, Snapshot, Release, Iterate, First, Last, Seek, Next, Prev, DropIterator, Work, CompactLevel, CompactAll, Close}

-- none is open, or it is broken
abbrev pub IsIdle : Machine → Type 0
IsIdle m = (m.opened ≡ false) ⊎ (m.broken ≡ true)

-- ---- causes of refusals

either_first : (a b : Option DbError) → IsSome a → IsSome (option_or a b)
either_first None b some = absurd (cc)
either_first (Some e) b some = refl

either_second : (a b : Option DbError) → IsSome b → IsSome (option_or a b)
either_second None b some = some
either_second (Some e) b some = refl

-- it is no open and no close
abbrev IsInside : Op → Type 0
IsInside (Open mode) = ⊥
IsInside Close = ⊥
IsInside op = Unit {0}

inside_caused : (op : Op) (s : Status) → IsSome (not_serving s) → IsInside op → IsSome (cause_of op s)
inside_caused (Open mode) s some inside = absurd inside
inside_caused (Write operations sync) s some inside = either_second (first_refusal [] operations.items) _ (either_first (not_serving s) (full s operations.items) some)
inside_caused (Get key snapshot) s some inside = either_first (not_serving s) _ some
inside_caused Snapshot s some inside = either_first (not_serving s) _ some
inside_caused (Release id) s some inside = either_first (not_serving s) _ some
inside_caused (Iterate snapshot) s some inside = either_first (not_serving s) _ some
inside_caused (First id) s some inside = either_first (not_serving s) _ some
inside_caused (Last id) s some inside = either_first (not_serving s) _ some
inside_caused (Seek id key) s some inside = either_first (not_serving s) _ some
inside_caused (Next id) s some inside = either_first (not_serving s) _ some
inside_caused (Prev id) s some inside = either_first (not_serving s) _ some
inside_caused (DropIterator id) s some inside = either_first (not_serving s) _ some
inside_caused (Work budget) s some inside = some
inside_caused (CompactLevel level) s some inside = either_first (not_serving s) _ some
inside_caused CompactAll s some inside = some
inside_caused Close s some inside = absurd inside

shut_cause : (s : Status) → s.opened ≡ false → IsSome (not_serving s)
shut_cause s shut = at s.opened s.broken shut
  where
    at : (opened broken : Bool) → opened ≡ false → IsSome (if opened then (if broken then Some error.Broken else None) else Some error.NotOpen)
    at false broken shut = refl
    at true broken shut = absurd (cc)

broken_cause : (s : Status) → s.opened ≡ true → s.broken ≡ true → IsSome (not_serving s)
broken_cause s opens broken = at s.opened s.broken opens broken
  where
    at : (opened broken : Bool) → opened ≡ true → broken ≡ true → IsSome (if opened then (if broken then Some error.Broken else None) else Some error.NotOpen)
    at true true opens broken = refl
    at true false opens broken = absurd (cc)
    at false broken opens is = absurd (cc)

opened_cause : (s : Status) → s.opened ≡ true → IsSome (open_cause s)
opened_cause s opens = at s.opened s.broken opens
  where
    at : (opened broken : Bool) → opened ≡ true → IsSome (if opened then (if broken then Some error.Broken else Some error.AlreadyOpen) else None)
    at true true opens = refl
    at true false opens = refl
    at false broken opens = absurd (cc)

closed_cause : (opened : Bool) → opened ≡ false → IsSome {T = DbError} (if opened then None else Some error.NotOpen)
closed_cause false shut = refl
closed_cause true shut = absurd (cc)

-- Where none is open, all but an open is refused.
pub opens_or_caused : (op : Op) → ((mode : Mode) × (op ≡ Open mode)) ⊎ ((s : Status) → s.opened ≡ false → IsSome (cause_of op s))
opens_or_caused (Open mode) = inl (mode, refl)
opens_or_caused Close = inr (λ s shut. closed_cause s.opened shut)
opens_or_caused op = inr (λ s shut. inside_caused op s (shut_cause s shut) tt)

-- Where one is open that is broken, all but a close is.
pub closes_or_caused : (op : Op) → (op ≡ Close) ⊎ ((s : Status) → s.opened ≡ true → s.broken ≡ true → IsSome (cause_of op s))
closes_or_caused Close = inl refl
closes_or_caused (Open mode) = inr (λ s opens broken. opened_cause s opens)
closes_or_caused op = inr (λ s opens broken. inside_caused op s (broken_cause s opens broken) tt)

-- ---- refused steps

still : (cause : Option DbError) (m n : Machine) (a : Answer) (served : Type 0) → IsSome cause → Serves cause m a n served → n ≈ m
still None m n a served some h = absurd (cc)
still (Some e) m n a served some h = h.1.1

-- One with a cause changes nothing.
pub caused_still : (order : Order) (m n : Machine) (op : Op) (a : Answer) → IsSome (cause_of op (status_of m)) → Step order m op a n → n ≈ m
caused_still order m n (Open mode) a some h = still _ m n a _ some h
caused_still order m n (Write operations sync) a some h = still _ m n a _ some h
caused_still order m n (Get key snapshot) a some h = still _ m n a _ some h
caused_still order m n Snapshot a some h = still _ m n a _ some h
caused_still order m n (Release id) a some h = still _ m n a _ some h
caused_still order m n (Iterate snapshot) a some h = still _ m n a _ some h
caused_still order m n (First id) a some h = still _ m n a _ some h
caused_still order m n (Last id) a some h = still _ m n a _ some h
caused_still order m n (Seek id key) a some h = still _ m n a _ some h
caused_still order m n (Next id) a some h = still _ m n a _ some h
caused_still order m n (Prev id) a some h = still _ m n a _ some h
caused_still order m n (DropIterator id) a some h = still _ m n a _ some h
caused_still order m n (Work budget) a some h = still _ m n a _ some h
caused_still order m n (CompactLevel level) a some h = still _ m n a _ some h
caused_still order m n CompactAll a some h = still _ m n a _ some h
caused_still order m n Close a some h = still _ m n a _ some h

-- what is but for the counts one that is idle is so itself
pub idle_still : (m n : Machine) → n ≈ m → IsIdle m → IsIdle n
idle_still m n is (inl shut) = inl (ap (λ (x : Machine). x.opened) is ∙ shut)
idle_still m n is (inr broken) = inr (ap (λ (x : Machine). x.broken) is ∙ broken)

-- and one that serves isn't idle
pub serves_unidle : {T : Type 0} (n : Machine) → n.opened ≡ true → n.broken ≡ false → IsIdle n → T
serves_unidle n opens whole (inl shut) = absurd (let bad : false ≡ true = sym shut ∙ opens in cc)
serves_unidle n opens whole (inr broken) = absurd (let bad : true ≡ false = sym broken ∙ whole in cc)

pub unidle : {T : Type 0} (m n : Machine) → n ≈ m → m.opened ≡ true → m.broken ≡ false → IsIdle n → T
unidle m n is opens whole idle = serves_unidle n (ap (λ (x : Machine). x.opened) is ∙ opens) (ap (λ (x : Machine). x.broken) is ∙ whole) idle

-- ---- steps of one that serves

-- An open is refused then.
pub reopened_still : (m n : Machine) (mode : Mode) (a : Answer) → m.opened ≡ true → Opens m mode a n → n ≈ m
reopened_still m n mode a opens h = still (open_cause (status_of m)) m n a _ (opened_cause (status_of m) opens) h

written_refused : (m n : Machine) (operations : List Operation) (e : DbError) → WriteRefused m operations e n → (n ≈ m) ⊎ (n ≈ doubted m operations)
written_refused m n operations error.OutOfMemory h = inl h.1
written_refused m n operations error.Io h = inr h.2
written_refused m n operations _ h = absurd h

-- After a write nothing has changed, or its batch is accepted, or in doubt.
pub written_to : (m n : Machine) (operations : List Operation) (sync : Bool) (a : Answer) → Writes m operations sync a n → (n ≈ m) ⊎ (n ≈ accepted m operations sync) ⊎ (n ≈ doubted m operations)
written_to m n operations sync a h = at (write_cause (status_of m) operations) a h
  where
    written : (a : Answer) → Written m operations sync a n → (n ≈ m) ⊎ (n ≈ accepted m operations sync) ⊎ (n ≈ doubted m operations)
    written Done h = inr (inl h)
    written (Refused e) h = elim (written_refused m n operations e h) [ inl same ↦ inl same | inr doubt ↦ inr (inr doubt) ]
    written _ h = absurd h

    at : (cause : Option DbError) (a : Answer) → Serves cause m a n (Written m operations sync a n) → (n ≈ m) ⊎ (n ≈ accepted m operations sync) ⊎ (n ≈ doubted m operations)
    at None a h = written a h.1
    at (Some e) a h = inl h.1.1

accepted_opened : (m : Machine) (operations : List Operation) (sync : Bool) → (accepted m operations sync).opened ≡ m.opened
accepted_opened m [] sync = refl
accepted_opened m (operation ∷ operations) sync = refl

accepted_broken : (m : Machine) (operations : List Operation) (sync : Bool) → (accepted m operations sync).broken ≡ m.broken
accepted_broken m [] sync = refl
accepted_broken m (operation ∷ operations) sync = refl

-- Where it is idle after it, the batch is in doubt.
pub written_doubt : (m n : Machine) (operations : List Operation) (sync : Bool) (a : Answer) → m.opened ≡ true → m.broken ≡ false → Writes m operations sync a n → IsIdle n → n ≈ doubted m operations
written_doubt m n operations sync a opens whole h idle = elim (written_to m n operations sync a h) [
  | inl same ↦ unidle m n same opens whole idle
  | inr rest ↦ elim rest [
    | inl done ↦ unidle (accepted m operations sync) n done (accepted_opened m operations sync ∙ opens) (accepted_broken m operations sync ∙ whole) idle
    | inr doubt ↦ doubt
  ]
]

-- ---- a close

closed_to : (m n : Machine) (a : Answer) → Closed m a n → n.opened ≡ false
closed_to m n Done h = ap (λ (x : Machine). x.opened) h
closed_to m n _ h = absurd h

-- None is open after one.
pub closed_idle : (m n : Machine) (a : Answer) → Closes m a n → n.opened ≡ false
closed_idle m n a h = at m.opened refl h
  where
    at : (opened : Bool) → m.opened ≡ opened → Serves (if opened then None else Some error.NotOpen) m a n (Closed m a n) → n.opened ≡ false
    at true is h = closed_to m n a h.1
    at false is h = ap (λ (x : Machine). x.opened) h.1.1 ∙ is

-- ---- an open

-- where none is open
pub opens_answered : (m n : Machine) (mode : Mode) (a : Answer) → m.opened ≡ false → Opens m mode a n → OpenAnswered m mode a n
opens_answered m n mode a shut h = at m.opened m.broken shut h
  where
    at : (opened broken : Bool) → opened ≡ false → Serves (if opened then (if broken then Some error.Broken else Some error.AlreadyOpen) else None) m a n (OpenAnswered m mode a n) → OpenAnswered m mode a n
    at false broken shut h = h.1
    at true broken shut h = absurd (cc)

settles_broken : (m s : Machine) → Settles m s → s.broken ≡ m.broken
settles_broken m s h = at m.in_doubt h
  where
    at : (o : Option (List Operation)) → MatchOption o (s ≡ m) (λ operations.
        (s ≡ record m { in_doubt = None })
        ⊎ (s ≡ record m { in_doubt = None; batches = m.batches ++ operations ∷ []; used = m.used + length operations })) → s.broken ≡ m.broken
    at None is = ap (λ (x : Machine). x.broken) is
    at (Some operations) (inl is) = ap (λ (x : Machine). x.broken) is
    at (Some operations) (inr is) = ap (λ (x : Machine). x.broken) is

-- One that succeeded serves.
pub opened_serves : (m n : Machine) → Opened m n → (n.opened ≡ true) × (n.broken ≡ m.broken)
opened_serves m n h = (ap (λ (x : Machine). x.opened) h.3, ap (λ (x : Machine). x.broken) h.3 ∙ settles_broken m h.0 h.1)
