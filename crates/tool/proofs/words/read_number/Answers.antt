use Rattle.std.specs.Str.Parse.{ParsesUnsigned, ExplainsUnsignedError, HasUnsignedDigitsIfOk}
use Rattle.clap.specs.Words.{found_of}
use Rattle.tool.proofs.Found.{number_found}
use Rattle.tool.proofs.words.read_number.Goals as goal

pub returns : goal.returns
returns c =
    number_found _ (λ bs r. ParsesUnsigned 64 10 bs r × ExplainsUnsignedError 10 bs r × HasUnsignedDigitsIfOk bs r) (found_of c.args.found.now) c.args.name.now c.get_one.result (λ t n g. g.0)
    c.get_one.ensures.none c.get_one.ensures.value
