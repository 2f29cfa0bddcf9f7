use Rattle.std.specs.Prelude.{codes}
use Rattle.clap.specs.Words.{found_of}
use Rattle.tool.proofs.Found.{word_by_rows}
use Rattle.tool.proofs.words.read_named.Goals as goal

pub returns : goal.returns
returns c = record {
  key = word_by_rows (found_of c.args.found.now) (codes "KEY") c.in_ok-key.key.now c.in_ok-key.ensures;
  text = c.in_ok-text.text;
  given = c.in_ok-text.ensures;
  form = c.form_of-form.ensures;
}
