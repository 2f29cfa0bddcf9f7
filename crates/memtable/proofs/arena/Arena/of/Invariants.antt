use Rattle.std.proofs.Common.{◌≡◌, ◌+◌, length, take}
use Rattle.memtable.proofs.arena.Arena.of.Given as goal

abbrev pub invariant-loop-entry : goal.invariant-loop-entry
invariant-loop-entry l = (l.arena.inserts ≡ take l.entry-index l.entries) × (l.arena.entry_room + l.entry-index ≡ length l.entries)
