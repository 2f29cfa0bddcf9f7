use Rattle.std.proofs.Common.{take, map, string_bytes}
use Rattle.directory_writes.specs.internal.Removal.{AreToClose}
use Rattle.directory_writes.proofs.removal.tables_to_close.Given as goal

abbrev pub invariant-loop-name : goal.invariant-loop-name
invariant-loop-name g l = AreToClose (g.L.LiveTables.has l.live) l.both (map string_bytes (take l.name-index l.names)) l.numbers.items
