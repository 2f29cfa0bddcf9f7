use Rattle.std.proofs.Common.{take}
use Rattle.table.specs.Frame.{HasOtherNames}
use Rattle.table.specs.Views.{pairs_of}
use Rattle.table.proofs.metaindex.find_filter.Given as goal

abbrev pub invariant-loop-pair : goal.invariant-loop-pair
invariant-loop-pair l = HasOtherNames (pairs_of (take l.pair-index l.pairs))
