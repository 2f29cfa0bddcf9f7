use Rattle.std.proofs.Common.{IsTrue, take}
use Rattle.mending.specs.Calls.{Reads}
use Rattle.mending.specs.Mending.{AreLogged}
use Rattle.mending.specs.Plans.{PlansLogs}
use Rattle.mending.proofs.planning.plan_logs.Given as goal

-- What was planned of the logs so far.
abbrev pub invariant-loop-n : goal.invariant-loop-n
invariant-loop-n g l =
    Reads (g.S.Store.facts l.fn.store) (g.S.Store.facts l.store)
    × (AreLogged l.fn.cuts.items → AreLogged l.cuts.items)
    × (IsTrue (g.S.Store.facts l.store).faithful → PlansLogs l.ends (g.S.Store.facts l.fn.store).files (take l.n-index l.logs) l.fn.cuts.items l.cuts.items)
