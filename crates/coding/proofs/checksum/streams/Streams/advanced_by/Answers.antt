use Rattle.std.proofs.Common.{sym, ◌∙◌}
use Rattle.coding.specs.Streams.{register_of}
use Rattle.coding.proofs.Blocks.{words_ahead}
use Rattle.coding.proofs.checksum.streams.Streams.advanced_by.Goals as goal

pub returns : goal.returns
returns c =
    let words = c.words_of-words.result in
    let streams = c.args.self in
    rw (c.shifted_by_128.ensures, c.shifted_by_128-2.ensures, c.shifted_by_128-3.ensures, c.shifted_by_128-4.ensures)
    (words_ahead streams.first streams.second streams.third streams.fourth words.first words.second words.third words.fourth ∙ sym (c.words_of-words.ensures (register_of streams)))
