use Rattle.std.proofs.Common.{◌≡◌, IsTrue, take}
use Rattle.std.specs.List.{filter}
use Rattle.recover.specs.internal.Parts.{HaveLengths, IsUnchanged, is_live}
use Rattle.recover.proofs.overview.live_lengths.Given as goal

abbrev pub invariant-loop-number : goal.invariant-loop-number
invariant-loop-number g l =
    IsUnchanged (g.S.Store.facts l.fn.store) (g.S.Store.facts l.store)
    × ((g.S.Store.facts l.store).failures ≡ (g.S.Store.facts l.fn.store).failures)
    × (IsTrue (g.S.Store.facts l.store).faithful → HaveLengths (g.S.Store.facts l.fn.store).files (filter (is_live l.layout) (take l.number-index l.logs)) l.found.items)
