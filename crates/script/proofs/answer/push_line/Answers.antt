use Rattle.std.proofs.Common.{arith}
use Rattle.script.proofs.Texts.{ascii_value, ascii_pair, ascii_snapshot, ascii_iterator, ascii_refusal}
use Rattle.script.proofs.answer.push_line.Goals as goal

pub returns-in-Value-Some-clause-ascii : goal.returns-in-Value-Some-clause-ascii
returns-in-Value-Some-clause-ascii c = rw c.in-Value-Some.is (ascii_value c.in-Value-Some.field-0)

pub returns-in-Pair-Some-clause-ascii : goal.returns-in-Pair-Some-clause-ascii
returns-in-Pair-Some-clause-ascii c = rw c.in-Pair-Some.is (ascii_pair c.in-Pair-Some.field-0)

pub returns-in-Snapshot-clause-ascii : goal.returns-in-Snapshot-clause-ascii
returns-in-Snapshot-clause-ascii c = rw c.in-Snapshot.is (ascii_snapshot _ (omega arith))

pub returns-in-Iterator-clause-ascii : goal.returns-in-Iterator-clause-ascii
returns-in-Iterator-clause-ascii c = rw c.in-Iterator.is (ascii_iterator _ (omega arith))

pub returns-in-Refused-clause-ascii : goal.returns-in-Refused-clause-ascii
returns-in-Refused-clause-ascii c = rw c.in-Refused.is (ascii_refusal _)
