use Rattle.std.proofs.Common.{sym}
use Rattle.tool.proofs.words.read_notation.Goals as goal

pub returns : goal.returns
returns c = record {
  text = c.in_ok-text.text;
  json = c.in_ok-json.json;
  text_given = c.in_ok-text.ensures;
  json_given = c.in_ok-json.ensures;
  asked = sym c.in_ok-notation.ensures;
}
