use Rattle.std.proofs.Common.{◌≡◌, ◌<◌, ◌*◌, length}
use Rattle.c_calls.specs.Filling.{FillsSoFar}
use Rattle.c_calls.specs.Calls.{bytewise}
use Rattle.c_calls.specs.Motions.{way_of}
use Rattle.c_calls.proofs.handle.Handle.fill.Given as goal

-- so many pairs were copied as there were steps, and they can't fill more than the room
abbrev pub invariant-loop : goal.invariant-loop
invariant-loop g l =
    FillsSoFar bytewise g.S.Store.facts l.id (way_of l.backwards) l.fn.room l.room l.filled l.fn.self l.self
    × (l.counter ≡ l.filled.pairs) × (length l.fn.room < 8 * l.most)
