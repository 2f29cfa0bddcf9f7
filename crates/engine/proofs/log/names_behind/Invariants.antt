use Rattle.std.proofs.Common.{◌≡◌, map, take, string_bytes}
use Rattle.engine.proofs.log.names_behind.Given as goal

-- the names so far
abbrev pub invariant-loop-name : goal.invariant-loop-name
invariant-loop-name l = map string_bytes l.names.items ≡ map string_bytes (take l.name-index l.log.front.items)
