use Rattle.std.proofs.Common.{◌++◌, ℕ, Bool, false, List, map, drop}
use Rattle.logfile.specs.Log.{Join}
use Rattle.logfile.specs.Faults.{IsOutOfOrder}
use Rattle.logfile.specs.Views.{views}
use Rattle.logfile.proofs.Joins.{JoinFrom, NoJoin}
use Rattle.logfile.proofs.joining.records_of.Given as goal

-- The records so far, and those that the rest joins to, are those of all. If the rest joins to
-- none, all does.
abbrev pub invariant-loop-fragment : goal.invariant-loop-fragment
invariant-loop-fragment l = record {
  grows : (more : List (List ℕ)) (begun : Bool) → JoinFrom l.inside l.unfinished.items (views (drop l.fragment-index l.fragments)) more begun → Join false (views l.fragments) (map (λ r. r.items) l.records.items ++ more) begun;
  faulty : IsOutOfOrder l.inside (views (drop l.fragment-index l.fragments)) → IsOutOfOrder false (views l.fragments);
  none : NoJoin l.inside l.unfinished.items (views (drop l.fragment-index l.fragments)) → (records : List (List ℕ)) (begun : Bool) → Join false (views l.fragments) records begun → ⊥;
}
