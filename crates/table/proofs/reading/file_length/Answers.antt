use Rattle.table.proofs.Steps.{reads_by}
use Rattle.table.proofs.reading.file_length.Goals as goal

pub returns-in-Ok-clause-reads : goal.returns-in-Ok-clause-reads
returns-in-Ok-clause-reads g c = reads_by _ _ _ c.len.ensures.counts c.len.ensures.writes c.len.ensures.undenied c.len.ensures.lock c.len.ensures.same c.len.ensures.synced c.len.ensures.calls

pub returns-in-Err-clause-reads : goal.returns-in-Err-clause-reads
returns-in-Err-clause-reads g c = rw c.refuse_call.ensures.same (reads_by _ _ _ c.len.ensures.counts c.len.ensures.writes c.len.ensures.undenied c.len.ensures.lock c.len.ensures.same c.len.ensures.synced c.len.ensures.calls)
