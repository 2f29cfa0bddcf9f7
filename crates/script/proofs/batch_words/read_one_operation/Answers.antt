use Rattle.std.proofs.Common.{[]}
use Rattle.script.proofs.Batches.{more_words, no_more_words}
use Rattle.script.proofs.batch_words.read_one_operation.Goals as goal

pub returns-in_default : goal.returns-in_default
returns-in_default c = let none = rw c.in_default.is at c.in_ok-operation.ensures.none in λ operation h. none operation [] h

pub returns-then-used-words : goal.returns-then-used-words
returns-then-used-words c = more_words c.args.words.now c.in-Some.operation c.in-Some.used (rw c.in-Some.is at c.in_ok-operation.ensures.found) c.if-used-words.true

pub returns : goal.returns
returns c = no_more_words c.args.words.now c.in-Some.operation c.in-Some.used (rw c.in-Some.is at c.in_ok-operation.ensures.found) c.if-used-words.false
