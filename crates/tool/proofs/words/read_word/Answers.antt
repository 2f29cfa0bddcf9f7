use Rattle.clap.specs.Words.{found_of}
use Rattle.tool.proofs.Found.{word_given}
use Rattle.tool.proofs.words.read_word.Goals as goal

pub returns : goal.returns
returns c = word_given (found_of c.args.found.now) c.args.name.now c.get_str.result c.get_str.ensures
