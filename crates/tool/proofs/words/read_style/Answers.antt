use Rattle.tool.proofs.words.read_style.Goals as goal

pub returns : goal.returns
returns c = record {
  notation = c.in_ok-notation.notation;
  values = c.in_ok-values.values;
  noted = c.in_ok-notation.ensures;
  values_given = c.in_ok-values.ensures;
  style = c.style_of-style.ensures;
}
