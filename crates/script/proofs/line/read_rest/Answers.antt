use Rattle.script.specs.Words.{texts_of}
use Rattle.machine.specs.declared.command.Op.TheVariants as op
use Rattle.script.proofs.Made.{made_of_number, made_of_snapshot}
use Rattle.script.proofs.line.read_rest.Goals as goal

pub returns-in-Release : goal.returns-in-Release
returns-in-Release c = rw c.in-Release.is (made_of_number 64 op.Release (texts_of c.args.words.now) c.read_number_alone.result c.map-in-Release.result c.read_number_alone.ensures c.map-in-Release.ensures.cases)

pub returns-in-First : goal.returns-in-First
returns-in-First c = rw c.in-First.is (made_of_number 64 op.First (texts_of c.args.words.now) c.read_number_alone-in-First.result c.map-in-First.result c.read_number_alone-in-First.ensures c.map-in-First.ensures.cases)

pub returns-in-Last : goal.returns-in-Last
returns-in-Last c = rw c.in-Last.is (made_of_number 64 op.Last (texts_of c.args.words.now) c.read_number_alone-in-Last.result c.map-in-Last.result c.read_number_alone-in-Last.ensures c.map-in-Last.ensures.cases)

pub returns-in-Next : goal.returns-in-Next
returns-in-Next c = rw c.in-Next.is (made_of_number 64 op.Next (texts_of c.args.words.now) c.read_number_alone-in-Next.result c.map-in-Next.result c.read_number_alone-in-Next.ensures c.map-in-Next.ensures.cases)

pub returns-in-Prev : goal.returns-in-Prev
returns-in-Prev c = rw c.in-Prev.is (made_of_number 64 op.Prev (texts_of c.args.words.now) c.read_number_alone-in-Prev.result c.map-in-Prev.result c.read_number_alone-in-Prev.ensures c.map-in-Prev.ensures.cases)

pub returns-in-Drop : goal.returns-in-Drop
returns-in-Drop c = rw c.in-Drop.is (made_of_number 64 op.DropIterator (texts_of c.args.words.now) c.read_number_alone-in-Drop.result c.map-in-Drop.result c.read_number_alone-in-Drop.ensures c.map-in-Drop.ensures.cases)

pub returns-in-Work : goal.returns-in-Work
returns-in-Work c = rw c.in-Work.is (made_of_number 32 op.Work (texts_of c.args.words.now) c.read_small_number_alone.result c.map-in-Work.result c.read_small_number_alone.ensures c.map-in-Work.ensures.cases)

pub returns-in-Iter : goal.returns-in-Iter
returns-in-Iter c = rw c.in-Iter.is (made_of_snapshot (texts_of c.args.words.now) c.read_snapshot.result c.map-in-Iter.result c.read_snapshot.ensures c.map-in-Iter.ensures.cases)

pub returns-in-Compact : goal.returns-in-Compact
returns-in-Compact c = rw c.in-Compact.is c.read_compaction.ensures
