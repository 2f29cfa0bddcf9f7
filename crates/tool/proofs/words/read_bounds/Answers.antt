use Rattle.tool.proofs.words.read_bounds.Goals as goal

pub returns : goal.returns
returns c = record {
  from = c.read_word.ensures;
  to = c.read_word-2.ensures;
  prefix = c.in_ok-prefix.ensures.given;
  ranged = c.in_ok-prefix.ensures.ranged;
}
