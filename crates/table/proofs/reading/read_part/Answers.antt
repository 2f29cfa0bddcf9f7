use Rattle.table.proofs.Steps.{reads_by}
use Rattle.table.proofs.reading.read_part.Goals as goal

pub returns-then-len-count-clause-reads : goal.returns-then-len-count-clause-reads
returns-then-len-count-clause-reads g c = rw c.refuse_cut.ensures.same (reads_by _ _ _ c.read_into.ensures.counts c.read_into.ensures.writes c.read_into.ensures.undenied c.read_into.ensures.lock c.read_into.ensures.same c.read_into.ensures.synced c.read_into.ensures.calls)

pub returns-else-len-count-clause-reads : goal.returns-else-len-count-clause-reads
returns-else-len-count-clause-reads g c = reads_by _ _ _ c.read_into.ensures.counts c.read_into.ensures.writes c.read_into.ensures.undenied c.read_into.ensures.lock c.read_into.ensures.same c.read_into.ensures.synced c.read_into.ensures.calls

pub returns-in-Err-clause-reads : goal.returns-in-Err-clause-reads
returns-in-Err-clause-reads g c = rw c.refuse_call.ensures.same (reads_by _ _ _ c.read_into.ensures.counts c.read_into.ensures.writes c.read_into.ensures.undenied c.read_into.ensures.lock c.read_into.ensures.same c.read_into.ensures.synced c.read_into.ensures.calls)
