use Rattle.std.proofs.Common.{IsTrue, take}
use Rattle.store.specs.Stops.{LeavesOnly}
use Rattle.mending.specs.Losing.{HaveNamesStayed, LosesBy}
use Rattle.mending.specs.Mending.{AreBetween, AreBetweenLost, AreDone}
use Rattle.mending.specs.Replacing.{Writes}
use Rattle.mending.proofs.applying.apply.Given as goal

-- The files so far have their fronts.
abbrev pub invariant-loop-cut : goal.invariant-loop-cut
invariant-loop-cut g l =
    Writes (g.S.Store.facts l.fn.store) (g.S.Store.facts l.store)
    × (IsTrue (g.S.Store.facts l.store).faithful → LeavesOnly (g.S.Store.facts l.fn.store) (g.S.Store.facts l.store) (AreBetween l.cuts (g.S.Store.facts l.fn.store).files))
    × (IsTrue (g.S.Store.facts l.store).faithful → AreDone l.cuts (take l.cut-index l.cuts) (g.S.Store.facts l.store).files)
    × (IsTrue (g.S.Store.facts l.store).faithful → HaveNamesStayed (g.S.Store.facts l.fn.store)
    → LosesBy (g.S.Store.facts l.fn.store) (g.S.Store.facts l.store) (AreBetweenLost l.cuts) × HaveNamesStayed (g.S.Store.facts l.store))
