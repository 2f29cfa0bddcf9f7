use Rattle.std.proofs.Common.{take, map, string_bytes}
use Rattle.engine.proofs.FrontSyncing.{SyncsSoFar}
use Rattle.engine.proofs.log.sync_front.Given as goal

-- the files so far
abbrev pub invariant-loop-name : goal.invariant-loop-name
invariant-loop-name g l = SyncsSoFar (map string_bytes (take l.name-index l.names)) (g.S.Store.facts l.fn.store) (g.S.Store.facts l.store)
