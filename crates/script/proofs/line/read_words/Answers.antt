use Rattle.std.proofs.Common.{get_or, length, take, drop, ◌-◌}
use Rattle.std.proofs.lemmas.Result.{IfOk-weaker}
use Rattle.script.specs.Words.{texts_of}
use Rattle.script.proofs.Slices.{front, missing}
use Rattle.script.proofs.Uniques.{says_by}
use Rattle.script.proofs.line.read_words.Goals as goal

pub returns : goal.returns
returns c =
    let words = c.args.words.now in
    IfOk-weaker c.read_rest.result _ _
    (λ read. says_by (texts_of words) (get_or words 0 missing).now (texts_of (take (length words - 1) (drop 1 words))) c.in-Some.verb read (front words missing c.in-len1-up.len_at_least) c.in-Some.ensures) c.read_rest.ensures
