use Rattle.std.specs.Prelude.{codes}
use Rattle.clap.specs.Words.{found_of}
use Rattle.tool.proofs.Found.{word_by_rows}
use Rattle.tool.proofs.words.read_place.Goals as goal

pub returns : goal.returns
returns c = record {
  order = c.in_ok-order.ensures;
  folder = word_by_rows (found_of c.args.found.now) (codes "DIR") c.in_ok-folder.folder.now c.in_ok-folder.ensures;
}
