use Rattle.std.proofs.Common.{sym, ◌∙◌, arith}
use Rattle.table.proofs.Comparing.{same_lists}
use Rattle.table.proofs.Metaindexes.{named, none_names}
use Rattle.table.proofs.metaindex.find_filter.Goals as goal

pub returns-in-Some-clause-found : goal.returns-in-Some-clause-found
returns-in-Some-clause-found c =
    named c.args.pairs.now c.loop-pair.pair-index c.pair-item.result c.in-Some.handle (omega arith) c.pair-item.is c.loop-pair.invariant
    (sym c.as_slice.ensures ∙ same_lists c.as_slice.result.now c.as_bytes.result.now c.if-eq.ensures ∙ c.as_bytes.ensures.value) (rw (← c.as_slice-then-eq.ensures) c.in-Some.ensures)

pub returns-in-None-clause-refused : goal.returns-in-None-clause-refused
returns-in-None-clause-refused c =
    none_names c.args.pairs.now c.loop-pair.pair-index c.pair-item.result (omega arith) c.pair-item.is c.loop-pair.invariant
    (sym c.as_slice.ensures ∙ same_lists c.as_slice.result.now c.as_bytes.result.now c.if-eq.ensures ∙ c.as_bytes.ensures.value) (rw (← c.as_slice-then-eq.ensures) c.in-None.ensures)
