-- What steps change of a machine: none whether a table of the first directory may be damaged, and
-- none but an open and a write what was accepted.
use Rattle.std.proofs.Common.{◌≡◌, ◌⊎◌, ℕ, ◌+◌, Bool, true, false, List, [], ◌∷◌, ◌++◌, length, Option, Some, None, MatchOption, Result, Ok, Err, inl, inr, refl, ap, ◌∙◌}
use Rattle.batch.specs.declared.operation.Operation.{Operation}
use Rattle.coding.specs.declared.error.DbError.{DbError}
use Rattle.coding.specs.declared.error.DbError.TheVariants as error
use Rattle.ikey.specs.Orders.{Order}
use Rattle.ikey.specs.Views.{Contents}
use Rattle.machine.specs.Access.{accepted, Got, WriteRefused, Writes, Written}
use Rattle.machine.specs.Causes.{Motion, ToFirst, ToKey, ToLast, ToNext, ToPrev}
use Rattle.machine.specs.Lifetime.{Closed, Interrupted, Opened, OpenAnswered, OpenRefused, Opens, Settles}
use Rattle.machine.specs.Machine.{Machine, walk_under}
use Rattle.machine.specs.Serving.{◌≈◌, ReadRefused, Serves}
use Rattle.machine.specs.Step.{Run, Step}
use Rattle.machine.specs.Upkeep.{Compacted, Draws, UpkeepRefused, WorkDone, Works}
use Rattle.machine.specs.Views.{Dropped, Iterated, Released, Taken, with_iterator, with_snapshot, without_iterator, without_snapshot}
use Rattle.machine.specs.Walks.{moved, place_after, Moved}
use Rattle.machine.specs.declared.command.Answer.{Answer}
use Rattle.machine.specs.declared.command.Answer.TheVariants as answer
use Rattle.machine.specs.declared.command.Mode.{Mode}
use Rattle.machine.specs.declared.command.Op.{Op}
use Rattle.machine.specs.declared.command.Op.TheVariants.{Open, Write, Get, Snapshot, Release, Iterate, First, Last, Seek, Next, Prev, DropIterator, Work, CompactLevel, CompactAll, Close}
use Rattle.engine.specs.internal.Pieces.{IsPiece}

-- what was accepted, which batch is in doubt, and whether a table may be damaged
pub record Kept : Type 0 where
  pub base : Contents
  pub batches : List (List Operation)
  pub synced : ℕ
  pub in_doubt : Option (List Operation)
  pub damaged : Bool

abbrev pub kept_of : Machine → Kept
kept_of m = record { base = m.base; batches = m.batches; synced = m.synced; in_doubt = m.in_doubt; damaged = m.damaged }

-- that of the machine is that of what it is but for the store's counts
pub same_kept : (target n : Machine) → n ≈ target → kept_of n ≡ kept_of target
same_kept target n h = ap (λ (x : Machine). kept_of x) h

pub flag_of : (m n : Machine) → kept_of n ≡ kept_of m → n.damaged ≡ m.damaged
flag_of m n h = ap (λ (kept : Kept). kept.damaged) h

same_flag : (target n : Machine) → n ≈ target → n.damaged ≡ target.damaged
same_flag target n h = ap (λ (x : Machine). x.damaged) h

-- a command that is refused with its cause changes nothing, and one that is served keeps it too
serves_kept : (cause : Option DbError) (m n : Machine) (a : Answer) (served : Type 0) → (served → kept_of n ≡ kept_of m) → Serves cause m a n served → kept_of n ≡ kept_of m
serves_kept None m n a served keeps h = keeps h.1
serves_kept (Some e) m n a served keeps h = same_kept m n h.1.1

serves_flag : (cause : Option DbError) (m n : Machine) (a : Answer) (served : Type 0) → (served → n.damaged ≡ m.damaged) → Serves cause m a n served → n.damaged ≡ m.damaged
serves_flag None m n a served keeps h = keeps h.1
serves_flag (Some e) m n a served keeps h = same_flag m n h.1.1

-- ---- opening and closing

settles_flag : (m s : Machine) → Settles m s → s.damaged ≡ m.damaged
settles_flag m s h = at m.in_doubt h
  where
    at : (o : Option (List Operation)) → MatchOption o (s ≡ m) (λ operations.
        (s ≡ record m { in_doubt = None })
        ⊎ (s ≡ record m { in_doubt = None; batches = m.batches ++ operations ∷ []; used = m.used + length operations })) → s.damaged ≡ m.damaged
    at None is = ap (λ (x : Machine). x.damaged) is
    at (Some operations) (inl is) = ap (λ (x : Machine). x.damaged) is
    at (Some operations) (inr is) = ap (λ (x : Machine). x.damaged) is

opened_flag : (m n : Machine) → Opened m n → n.damaged ≡ m.damaged
opened_flag m n h = same_flag (record h.0 { made = true; opened = true; numbers = n.numbers }) n h.3 ∙ settles_flag m h.0 h.1

interrupted_kept : (m n : Machine) → Interrupted m n → kept_of n ≡ kept_of m
interrupted_kept m n h = same_kept (record m { made = n.made; numbers = n.numbers }) n h.2

pub open_refused_kept : (m n : Machine) (mode : Mode) (e : DbError) → OpenRefused m mode e n → kept_of n ≡ kept_of m
open_refused_kept m n mode error.OutOfMemory h = interrupted_kept m n h
open_refused_kept m n mode error.Io h = interrupted_kept m n h.1
open_refused_kept m n mode error.NoDatabase h = same_kept m n h.2
open_refused_kept m n mode error.Exists h = same_kept m n h.2
open_refused_kept m n mode error.Locked h = same_kept m n h.1
open_refused_kept m n mode error.NumbersSpent h = same_kept m n h.1
open_refused_kept m n mode (error.Corrupt file what) h = same_kept m n h.1
open_refused_kept m n mode (error.Unsupported limit) h = same_kept m n h.1
open_refused_kept m n mode _ h = absurd h

open_flag : (m n : Machine) (mode : Mode) (a : Answer) → OpenAnswered m mode a n → n.damaged ≡ m.damaged
open_flag m n mode answer.Done h = opened_flag m n h.1
open_flag m n mode (answer.Refused e) h = flag_of m n (open_refused_kept m n mode e h)
open_flag m n mode _ h = absurd h

pub opens_flag : (m n : Machine) (mode : Mode) (a : Answer) → Opens m mode a n → n.damaged ≡ m.damaged
opens_flag m n mode a h = serves_flag _ m n a (OpenAnswered m mode a n) (open_flag m n mode a) h

closed_kept : (m n : Machine) (a : Answer) → Closed m a n → kept_of n ≡ kept_of m
closed_kept m n answer.Done h = same_kept (record m { opened = false; broken = false; snapshots = []; iterators = [] }) n h
closed_kept m n _ h = absurd h

-- ---- reading and writing

accepted_flag : (m : Machine) (operations : List Operation) (sync : Bool) → (accepted m operations sync).damaged ≡ m.damaged
accepted_flag m [] sync = refl
accepted_flag m (operation ∷ operations) sync = refl

write_refused_flag : (m n : Machine) (operations : List Operation) (e : DbError) → WriteRefused m operations e n → n.damaged ≡ m.damaged
write_refused_flag m n operations error.OutOfMemory h = same_flag m n h.1
write_refused_flag m n operations error.Io h = same_flag (record m { broken = true; in_doubt = Some operations }) n h.2
write_refused_flag m n operations _ h = absurd h

write_flag : (m n : Machine) (operations : List Operation) (sync : Bool) (a : Answer) → Written m operations sync a n → n.damaged ≡ m.damaged
write_flag m n operations sync answer.Done h = same_flag (accepted m operations sync) n h ∙ accepted_flag m operations sync
write_flag m n operations sync (answer.Refused e) h = write_refused_flag m n operations e h
write_flag m n operations sync _ h = absurd h

pub writes_flag : (m n : Machine) (operations : List Operation) (sync : Bool) (a : Answer) → Writes m operations sync a n → n.damaged ≡ m.damaged
writes_flag m n operations sync a h = serves_flag _ m n a _ (write_flag m n operations sync a) h

read_refused_kept : (m n : Machine) (e : DbError) → ReadRefused m e n → kept_of n ≡ kept_of m
read_refused_kept m n error.OutOfMemory h = same_kept m n h
read_refused_kept m n error.Io h = same_kept m n h.1
read_refused_kept m n (error.Corrupt file what) h = same_kept m n h.1
read_refused_kept m n (error.Unsupported limit) h = same_kept m n h.1
read_refused_kept m n _ h = absurd h

get_kept : (m n : Machine) (key : List ℕ) (snapshot : Option ℕ) (a : Answer) → Got m key snapshot a n → kept_of n ≡ kept_of m
get_kept m n key snapshot (answer.Value value) h = same_kept m n h.1
get_kept m n key snapshot (answer.Refused e) h = read_refused_kept m n e h
get_kept m n key snapshot _ h = absurd h

-- ---- views

taken_kept : (m n : Machine) (a : Answer) → Taken m a n → kept_of n ≡ kept_of m
taken_kept m n (answer.Snapshot id) h = same_kept (with_snapshot m) n h.1
taken_kept m n (answer.Refused e) h = same_kept m n h.1
taken_kept m n _ h = absurd h

released_kept : (m n : Machine) (id : ℕ) (a : Answer) → Released m id a n → kept_of n ≡ kept_of m
released_kept m n id answer.Done h = same_kept (without_snapshot m id) n h
released_kept m n id _ h = absurd h

iterated_kept : (order : Order) (m n : Machine) (snapshot : Option ℕ) (a : Answer) → Iterated order m snapshot a n → kept_of n ≡ kept_of m
iterated_kept order m n snapshot (answer.Iterator id) h = same_kept (with_iterator m h.0) n h.3
iterated_kept order m n snapshot (answer.Refused e) h = read_refused_kept m n e h
iterated_kept order m n snapshot _ h = absurd h

dropped_kept : (m n : Machine) (id : ℕ) (a : Answer) → Dropped m id a n → kept_of n ≡ kept_of m
dropped_kept m n id answer.Done h = same_kept (without_iterator m id) n h
dropped_kept m n id _ h = absurd h

moved_kept : (order : Order) (m n : Machine) (id : ℕ) (motion : Motion) (a : Answer) → Moved order m id motion a n → kept_of n ≡ kept_of m
moved_kept order m n id motion (answer.Pair pair) h = same_kept (moved m id (place_after order.cmp motion (walk_under m id))) n h.1
moved_kept order m n id motion (answer.Refused e) h = read_refused_kept m n e h
moved_kept order m n id motion _ h = absurd h

-- ---- upkeep

draws_kept : (m n : Machine) (most : ℕ) → Draws m most n → kept_of n ≡ kept_of m
draws_kept m n most h = same_kept (record m { numbers = n.numbers }) n h.1

pub draws_flag : (m n : Machine) (most : ℕ) → Draws m most n → n.damaged ≡ m.damaged
draws_flag m n most h = flag_of m n (draws_kept m n most h)

upkeep_refused_kept : (m n : Machine) (most : ℕ) (e : DbError) → UpkeepRefused m most e n → kept_of n ≡ kept_of m
upkeep_refused_kept m n most error.OutOfMemory h = draws_kept m n most h
upkeep_refused_kept m n most error.Io h = same_kept (record m { numbers = n.numbers; broken = n.broken }) n h.2
upkeep_refused_kept m n most error.NumbersSpent h = draws_kept m n most h.1
upkeep_refused_kept m n most (error.Corrupt file what) h = draws_kept m n most h.1
upkeep_refused_kept m n most (error.Unsupported limit) h = draws_kept m n most h.1
upkeep_refused_kept m n most _ h = absurd h

pub piece_flag : {T : Type 0} (m n : Machine) (most : ℕ) (result : Result T DbError) → IsPiece m most result n → n.damaged ≡ m.damaged
piece_flag m n most (Ok x) h = draws_flag m n most h.what
piece_flag m n most (Err e) h = flag_of m n (upkeep_refused_kept m n most e h.what)

work_kept : (m n : Machine) (most : ℕ) (a : Answer) → WorkDone m most a n → kept_of n ≡ kept_of m
work_kept m n most answer.Worked h = draws_kept m n most h
work_kept m n most answer.Idle h = draws_kept m n most h
work_kept m n most (answer.Refused e) h = upkeep_refused_kept m n most e h
work_kept m n most _ h = absurd h

pub works_flag : (m n : Machine) (budget : ℕ) (a : Answer) → Works m budget a n → n.damaged ≡ m.damaged
works_flag m n budget a h = flag_of m n (serves_kept _ m n a _ (work_kept m n _ a) h)

compacted_kept : (m n : Machine) (a : Answer) → Compacted m a n → kept_of n ≡ kept_of m
compacted_kept m n answer.Done h = draws_kept m n _ h
compacted_kept m n (answer.Refused e) h = upkeep_refused_kept m n _ e h
compacted_kept m n _ h = absurd h

-- ---- a step, and a run

-- what a command leaves
abbrev pub KeepsBy : Op → Machine → Machine → Type 0
KeepsBy (Open mode) m n = n.damaged ≡ m.damaged
KeepsBy (Write operations sync) m n = n.damaged ≡ m.damaged
KeepsBy op m n = kept_of n ≡ kept_of m

pub step_keeps : (order : Order) (m n : Machine) (op : Op) (a : Answer) → Step order m op a n → KeepsBy op m n
step_keeps order m n (Open mode) a h = opens_flag m n mode a h
step_keeps order m n (Write operations sync) a h = writes_flag m n operations.items sync a h
step_keeps order m n (Get key snapshot) a h = serves_kept _ m n a _ (get_kept m n key snapshot a) h
step_keeps order m n Snapshot a h = serves_kept _ m n a _ (taken_kept m n a) h
step_keeps order m n (Release id) a h = serves_kept _ m n a _ (released_kept m n id a) h
step_keeps order m n (Iterate snapshot) a h = serves_kept _ m n a _ (iterated_kept order m n snapshot a) h
step_keeps order m n (First id) a h = serves_kept _ m n a _ (moved_kept order m n id ToFirst a) h
step_keeps order m n (Last id) a h = serves_kept _ m n a _ (moved_kept order m n id ToLast a) h
step_keeps order m n (Seek id key) a h = serves_kept _ m n a _ (moved_kept order m n id (ToKey key) a) h
step_keeps order m n (Next id) a h = serves_kept _ m n a _ (moved_kept order m n id ToNext a) h
step_keeps order m n (Prev id) a h = serves_kept _ m n a _ (moved_kept order m n id ToPrev a) h
step_keeps order m n (DropIterator id) a h = serves_kept _ m n a _ (dropped_kept m n id a) h
step_keeps order m n (Work budget) a h = serves_kept _ m n a _ (work_kept m n _ a) h
step_keeps order m n (CompactLevel level) a h = serves_kept _ m n a _ (compacted_kept m n a) h
step_keeps order m n CompactAll a h = serves_kept _ m n a _ (compacted_kept m n a) h
step_keeps order m n Close a h = serves_kept _ m n a _ (closed_kept m n a) h

keeps_flag : (m n : Machine) (op : Op) → KeepsBy op m n → n.damaged ≡ m.damaged
keeps_flag m n (Open mode) h = h
keeps_flag m n (Write operations sync) h = h
keeps_flag m n _ h = flag_of m n h

pub step_flag : (order : Order) (m n : Machine) (op : Op) (a : Answer) → Step order m op a n → n.damaged ≡ m.damaged
step_flag order m n op a h = keeps_flag m n op (step_keeps order m n op a h)

pub run_flag : (order : Order) (m n : Machine) (ops : List Op) (answers : List Answer) → Run order m ops answers n → n.damaged ≡ m.damaged
run_flag order m n [] [] is = ap (λ (x : Machine). x.damaged) is
run_flag order m n (op ∷ ops) (a ∷ answers) h = run_flag order h.0 n ops answers h.2 ∙ step_flag order m h.0 op a h.1
run_flag order m n [] (a ∷ answers) h = absurd h
run_flag order m n (op ∷ ops) [] h = absurd h
