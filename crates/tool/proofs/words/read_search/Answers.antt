use Rattle.tool.proofs.words.read_search.Goals as goal

pub returns : goal.returns
returns c = record {
  bounds = c.in_ok-bounds.ensures;
  limit = c.in_ok-limit.ensures;
  reverse = c.in_ok-reverse.ensures;
  count = c.in_ok-count.ensures;
  style = c.in_ok-style.ensures;
}
