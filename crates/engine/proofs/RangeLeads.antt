-- Calls that walk over a range, and several of them.
use Rattle.std.proofs.Common.{◌≡◌, ℕ, ◌+◌, ◌≤◌, IsTrue, List, [], ◌∷◌, ◌++◌, Option, Some, None, Result, Ok, Err, refl, sym, ap, subst, ◌∙◌}
use Rattle.coding.specs.declared.error.DbError.{DbError}
use Rattle.coding.specs.declared.error.DbError.TheVariants as error
use Rattle.ikey.specs.Orders.{Order}
use Rattle.store.specs.Files.{Facts}
use Rattle.machine.specs.declared.command.Answer.{Answer}
use Rattle.machine.specs.declared.command.Answer.TheVariants.{Refused, Pair as Paired}
use Rattle.machine.specs.Causes.{ToFirst, ToKey, ToNext}
use Rattle.machine.specs.Machine.{Machine}
use Rattle.machine.specs.Views.{Drops}
use Rattle.machine.specs.Walks.{Moves}
use Rattle.engine.specs.Follows.{Leads}
use Rattle.engine.specs.Outcomes.{MayRefuseIterate, MayRefuseMove}
use Rattle.engine.specs.Touching.{LeavesStore}
use Rattle.engine.specs.declared.ranges.KeyRange.{KeyRange}
use Rattle.engine.specs.declared.ranges.RangeWalk.{RangeWalk}
use Rattle.engine.specs.declared.ranges.Stage.{Stage}
use Rattle.engine.specs.declared.ranges.Stage.TheVariants.{Ahead, Within, Over}
use Rattle.engine.specs.Ranges.{Pair, Begins, Fills, GivesFirst, HasLeft, LeftAt, MayRefuseScan, RefusesScan, Scans, Settles, Steps, next_motion, start_motion}
use Rattle.engine.proofs.RangeSteps.{goes_on, left_refused, moves_only, only_same, refused_walk}
use Rattle.engine.proofs.RangeRuns.{HasFilled, filled_all, filled_ended, filled_more, filled_refused, filled_starved, scanned_all, scanned_refused}

-- ---- calls

pub leads_as : {a b : Facts} {P Q : Machine → Type 0} {M N : Machine → Machine → Type 0} → ((m n : Machine) → M m n → N m n) → Leads a b P Q M → Leads a b P Q N
leads_as f h = record { faithful = h.faithful; moved = λ faithful m before. let after = h.moved faithful m before in (after.0, f m after.0 after.1, after.2) }

-- no call
pub leads_stay : {a : Facts} {P : Machine → Type 0} {M : Machine → Machine → Type 0} → ((m : Machine) → M m m) → Leads a a P P M
leads_stay f = record { faithful = λ faithful. faithful; moved = λ faithful m before. (m, f m, before) }

-- one after the other
pub leads_then : {a b c : Facts} {P Q R : Machine → Type 0} {M N O : Machine → Machine → Type 0} → ((m n o : Machine) → M m n → N n o → O m o) → Leads a b P Q M → Leads b c Q R N → Leads a c P R O
leads_then f first second = record {
  faithful = λ faithful. first.faithful (second.faithful faithful);
  moved = λ faithful m before.
      let one = first.moved (second.faithful faithful) m before in
      let two = second.moved faithful one.0 one.2 in
      (two.0, f m one.0 two.0 one.1 two.1, two.2);
}

pub leaves_itself : (facts : Facts) → LeavesStore facts facts
leaves_itself facts = record { writes = refl; files = λ faithful. refl; synced = λ faithful. refl; locked = refl; calls = λ faithful. refl }

pub leaves_then : (a b c : Facts) → (IsTrue c.faithful → IsTrue b.faithful) → LeavesStore a b → LeavesStore b c → LeavesStore a c
leaves_then a b c faithful first second = record {
  writes = second.writes ∙ first.writes;
  files = λ is. second.files is ∙ first.files (faithful is);
  synced = λ is. second.synced is ∙ first.synced (faithful is);
  locked = second.locked ∙ first.locked;
  calls = λ is. second.calls is ∙ first.calls (faithful is);
}

-- ---- motions

pub first_motion : (stage : Stage) (keys : KeyRange) → stage ≡ Ahead → keys.from ≡ None → ToFirst ≡ next_motion stage keys
first_motion stage keys ahead from = sym (ap (λ (s : Stage). next_motion s keys) ahead ∙ ap start_motion from)

pub seek_motion : (stage : Stage) (keys : KeyRange) (key slice : List ℕ) → stage ≡ Ahead → keys.from ≡ Some key → slice ≡ key → ToKey slice ≡ next_motion stage keys
seek_motion stage keys key slice ahead from is = ap ToKey is ∙ sym (ap (λ (s : Stage). next_motion s keys) ahead ∙ ap start_motion from)

pub within_motion : (stage : Stage) (keys : KeyRange) → stage ≡ Within → ToNext ≡ next_motion stage keys
within_motion stage keys within = sym (ap (λ (s : Stage). next_motion s keys) within)

pub over_motion : (stage : Stage) (keys : KeyRange) → stage ≡ Over → ToNext ≡ next_motion stage keys
over_motion stage keys over = sym (ap (λ (s : Stage). next_motion s keys) over)

start_refuses : (from : Option (List ℕ)) (e : DbError) → MayRefuseMove (start_motion from) e → MayRefuseMove ToNext e
start_refuses None error.OutOfMemory may = tt
start_refuses None error.Io may = tt
start_refuses None (error.Corrupt file what) may = tt
start_refuses None (error.Unsupported what) may = tt
start_refuses None error.Broken may = tt
start_refuses None error.NoIterator may = tt
start_refuses None error.NoPlace may = refl
start_refuses None error.NotOpen may = tt
start_refuses None _ may = absurd may
start_refuses (Some from) error.OutOfMemory may = tt
start_refuses (Some from) error.Io may = tt
start_refuses (Some from) (error.Corrupt file what) may = tt
start_refuses (Some from) (error.Unsupported what) may = tt
start_refuses (Some from) error.Broken may = tt
start_refuses (Some from) error.NoIterator may = tt
start_refuses (Some from) error.NoPlace may = refl
start_refuses (Some from) error.NotOpen may = tt
start_refuses (Some from) _ may = absurd may

pub may_refuse_next : (stage : Stage) (keys : KeyRange) (e : DbError) → MayRefuseMove (next_motion stage keys) e → MayRefuseMove ToNext e
may_refuse_next Ahead keys e may = start_refuses keys.from e may
may_refuse_next Within keys e may = may
may_refuse_next Over keys e may = may

-- ---- a step

module _ (order : Order) (m : Machine) (walk : RangeWalk) (over : walk.stage ≡ Over) where
  none_left : (rest : List Pair) → HasLeft order m walk rest → GivesFirst rest (Ok None) (HasLeft order m walk)
  none_left rest left =
      let at = left.at in
      let empty : rest ≡ [] = subst (λ (s : Stage). LeftAt order.cmp s walk.keys at rest) over left.left in
      (empty, subst (λ (xs : List Pair). HasLeft order m walk xs) empty left)

  pub steps_over : Steps order m walk (Ok None) m walk
  steps_over = record { gives = none_left; refused = tt; others = only_same walk.id m m refl }

module _ (order : Order) (m n : Machine) (walk : RangeWalk) (goes : walk.stage ≡ Over → ⊥) where
  pub steps_settled : (next : RangeWalk) (found result : Option Pair) → Settles order.cmp walk found next result → Moves order m walk.id (next_motion walk.stage walk.keys) (Paired found) n → Steps order m walk (Ok result) n next
  steps_settled next found result settles moves = record {
    gives = λ rest left. goes_on order m n walk next goes found result rest settles moves left;
    refused = tt;
    others = moves_only order m n walk.id _ _ moves;
  }

  pub steps_refused : (e : DbError) → Moves order m walk.id (next_motion walk.stage walk.keys) (Refused e) n → Steps order m walk (Err e) n walk
  steps_refused e moves = record {
    gives = λ rest left. left_refused order m n walk goes e rest moves left;
    refused = λ rest left. refused_walk order m n walk goes e rest moves left;
    others = moves_only order m n walk.id _ _ moves;
  }

-- ---- several steps

module _ {a b : Facts} {P Q : Machine → Type 0} (order : Order) (count limit : ℕ) (before here : RangeWalk) (had has kept : List Pair) (is : kept ≡ has)
    (so_far : Leads a b P Q (λ m n. HasFilled order count m before had n here has)) where
  as_kept : (result : Result (Unit {0}) DbError) (m n : Machine) (after : RangeWalk) → Fills order limit m before had result n after has → Fills order limit m before had result n after kept
  as_kept result m n after h = subst (λ (xs : List Pair). Fills order limit m before had result n after xs) (sym is) h

  pub fill_starved : Leads a b P Q (λ m n. Fills order limit m before had (Err error.OutOfMemory) n here kept)
  fill_starved = leads_as (λ m n h. as_kept (Err error.OutOfMemory) m n here (filled_starved order count limit m before had n here has h)) so_far

  pub fill_all : count ≡ limit → Leads a b P Q (λ m n. Fills order limit m before had (Ok tt) n here kept)
  fill_all all = leads_as (λ m n h. as_kept (Ok tt) m n here (filled_all order count limit m before had n here has h all)) so_far

  module _ {c : Facts} {R : Machine → Type 0} (same : here.id ≡ before.id) (after : RangeWalk) where
    pub fill_ended : count ≤ limit → Leads b c Q R (λ m n. Steps order m here (Ok None) n after) → Leads a c P R (λ m n. Fills order limit m before had (Ok tt) n after kept)
    fill_ended within step = leads_then (λ m at n h k. as_kept (Ok tt) m n after (filled_ended order count m before had at here has h same n after limit within k)) so_far step

    pub fill_refused : (e : DbError) → Leads b c Q R (λ m n. Steps order m here (Err e) n after) → Leads a c P R (λ m n. Fills order limit m before had (Err e) n after kept)
    fill_refused e step = leads_then (λ m at n h k. as_kept (Err e) m n after (filled_refused order count m before had at here has h same n after limit e k)) so_far step

    pub fill_more : (pair : Pair) (more : List Pair) → more ≡ kept ++ pair ∷ [] → Leads b c Q R (λ m n. Steps order m here (Ok (Some pair)) n after) → Leads a c P R (λ m n. HasFilled order (count + 1) m before had n after more)
    fill_more pair more pushed step = leads_then (λ m at n h k.
        subst (λ (xs : List Pair). HasFilled order (count + 1) m before had n after xs) (sym (pushed ∙ ap (λ (xs : List Pair). xs ++ pair ∷ []) is)) (filled_more order count m before had at here has h same n after pair k)) so_far step

-- ---- a scan

pub may_scan_move : (e : DbError) → MayRefuseMove ToNext e → MayRefuseScan e
may_scan_move error.NoSnapshot may = tt
may_scan_move error.NumbersSpent may = tt
may_scan_move _ may = may

pub may_scan_iterate : (e : DbError) → MayRefuseIterate e → MayRefuseScan e
may_scan_iterate error.OutOfMemory may = tt
may_scan_iterate error.Broken may = tt
may_scan_iterate error.NoSnapshot may = tt
may_scan_iterate error.NumbersSpent may = tt
may_scan_iterate error.NotOpen may = tt
may_scan_iterate _ may = absurd may

module _ {a b c d : Facts} {P Q R T : Machine → Type 0} (order : Order) (keys : KeyRange) (snapshot : Option ℕ) (limit : ℕ) (walk ended : RangeWalk) (had found : List Pair) (empty : had ≡ []) (same : ended.id ≡ walk.id)
    (begun : Leads a b P Q (λ m n. Begins order m keys snapshot (Ok walk) n)) (given_up : Leads c d R T (λ m n. (answer : Answer) × Drops m ended.id answer n)) where
  over_none : (result : Result (Unit {0}) DbError) (m n : Machine) → Fills order limit m walk had result n ended found → Fills order limit m walk [] result n ended found
  over_none result m n h = subst (λ (xs : List Pair). Fills order limit m walk xs result n ended found) empty h

  pub scan_all : Leads b c Q R (λ m n. Fills order limit m walk had (Ok tt) n ended found) → Leads a d P T (λ m n. Scans order m keys snapshot limit found n)
  scan_all filled = leads_then (λ m last n h k. scanned_all order m keys snapshot limit h.0 walk h.1 last ended found n k.0 (over_none (Ok tt) h.0 last h.2) same k.1)
      (leads_then {O = λ m last. (at : Machine) × Begins order m keys snapshot (Ok walk) at × Fills order limit at walk had (Ok tt) last ended found} (λ m at last h k. (at, h, k)) begun filled) given_up

  pub scan_refused : (e : DbError) → Leads b c Q R (λ m n. Fills order limit m walk had (Err e) n ended found) → Leads a d P T (λ m n. RefusesScan order m snapshot e n)
  scan_refused e filled = leads_then (λ m last n h k. scanned_refused order m keys snapshot limit h.0 walk h.1 last ended found e n k.0 (over_none (Err e) h.0 last h.2) same k.1)
      (leads_then {O = λ m last. (at : Machine) × Begins order m keys snapshot (Ok walk) at × Fills order limit at walk had (Err e) last ended found} (λ m at last h k. (at, h, k)) begun filled) given_up
