use Rattle.std.proofs.Common.{rules, tests, ap, ◌∙◌}
use Rattle.std.proofs.lemmas.Iterator.{items_from_drains}
use Rattle.std.proofs.lemmas.Iterator.Consumers.{YieldsList-at}
use Rattle.std.proofs.lemmas.Iterator.Splits.{YieldsList-from_slice_split}
use Rattle.script.specs.Words.{texts_of}
use Rattle.script.proofs.word.few_words.Goals as goal

pub returns-clause-words : goal.returns-clause-words
returns-clause-words c =
    ap texts_of c.loop-word.invariant.1
    ∙ items_from_drains c.loop-word.yielded (c.loop-word.word-iterator, c.loop-word.yielded_by, (λ ended. (c.next.new.self, c.in-None.ensures.steps)))
    (YieldsList-at c.into_iter-word-iterator.ensures.into_iter_gives
    (YieldsList-from_slice_split _ _ c.args.line.now c.split-word-items.ensures.rest c.split-word-items.ensures.done c.split-word-items.ensures.closure (λ x r q k. search (rules, tests))))
