use Rattle.texts.proofs.Pushed.{word_more}
use Rattle.texts.proofs.writing.push_word.Goals as goal

pub loop-byte-preserved : goal.loop-byte-preserved
loop-byte-preserved c =
    word_more c.args.bytes.now c.loop-byte.byte-index c.args.text.now.items c.loop-byte.text.items c.push_word_byte.new.text.items c.loop-byte-test.true c.loop-byte.invariant c.in_ok-push_word_byte.ensures
