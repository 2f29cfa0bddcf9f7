use Rattle.std.proofs.Common.{take, map, string_bytes}
use Rattle.directory_writes.specs.internal.Removal.{AreBoth}
use Rattle.directory_writes.proofs.removal.doubled_tables.Given as goal

abbrev pub invariant-loop-name : goal.invariant-loop-name
invariant-loop-name l = AreBoth l.older (map string_bytes (take l.name-index l.names)) l.numbers.items
