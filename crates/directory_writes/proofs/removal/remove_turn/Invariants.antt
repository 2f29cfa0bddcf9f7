use Rattle.std.proofs.Common.{IsTrue, take, map, string_bytes}
use Rattle.std.specs.Prelude.{Contains}
use Rattle.store.specs.Calls.{FailsNoWrite}
use Rattle.store.specs.Stops.{LeavesOnly, WritesOnly}
use Rattle.directory_writes.specs.internal.Calls.{Touches}
use Rattle.directory_writes.specs.internal.Removal.{IsLeft, LeavesFew, LosesDeadOnly, RemovesNamed}
use Rattle.directory_writes.specs.Removal.{IsDead, IsLiveFile}
use Rattle.directory_writes.proofs.FewLeft.{Among, NoneWaits}
use Rattle.directory_writes.proofs.removal.remove_turn.Given as goal

abbrev pub invariant-loop-name : goal.invariant-loop-name
invariant-loop-name g l = record {
  call : Touches (g.S.Store.facts l.fn.store) (g.S.Store.facts l.store);
  fails : FailsNoWrite (g.S.Store.facts l.fn.store) (g.S.Store.facts l.store);
  removes : RemovesNamed (g.S.Store.facts l.fn.store) (g.S.Store.facts l.store) (IsLeft (IsLiveFile l.numbers (g.L.LiveTables.has l.live) (λ n. Contains l.both n)) (λ n. Contains l.both n) l.last) (map string_bytes (take l.name-index l.names)) l.gone;
  few : LeavesFew (g.S.Store.facts l.fn.store) (g.S.Store.facts l.store) (IsLeft (IsLiveFile l.numbers (g.L.LiveTables.has l.live) (λ n. Contains l.both n)) (λ n. Contains l.both n) l.last) NoneWaits (Among (map string_bytes (take l.name-index l.names)));
  stops : IsTrue (g.S.Store.facts l.store).faithful → LeavesOnly (g.S.Store.facts l.fn.store) (g.S.Store.facts l.store) (LosesDeadOnly (g.S.Store.facts l.fn.store).files (IsLiveFile l.numbers (g.L.LiveTables.has l.live) (λ n. Contains l.both n)));
  only : IsTrue (g.S.Store.facts l.store).faithful → WritesOnly (g.S.Store.facts l.fn.store) (g.S.Store.facts l.store) (IsDead (IsLiveFile l.numbers (g.L.LiveTables.has l.live) (λ n. Contains l.both n)));
}
