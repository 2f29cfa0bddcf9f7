use Rattle.std.proofs.Common.{take, map, string_bytes}
use Rattle.mending.specs.Plans.{AreLogsOf}
use Rattle.mending.proofs.planning.live_logs.Given as goal

abbrev pub invariant-loop-name : goal.invariant-loop-name
invariant-loop-name l = AreLogsOf l.layout (map string_bytes (take l.name-index l.names)) l.logs.items
