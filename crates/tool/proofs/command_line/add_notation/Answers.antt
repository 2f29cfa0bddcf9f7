use Rattle.tool.proofs.Commands.{add_arg}
use Rattle.tool.proofs.command_line.add_notation.Goals as goal

pub returns : goal.returns
returns c = λ app was.
    let first = add_arg c.args.command c.in_ok-first.first c.flag.result app _ was c.flag.ensures c.in_ok-first.ensures in
    add_arg c.in_ok-first.first c.in_ok-whole.whole c.flag-2.result _ _ first c.flag-2.ensures c.in_ok-whole.ensures
