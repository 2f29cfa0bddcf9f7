use Rattle.tool.proofs.Commands.{add_arg}
use Rattle.tool.proofs.command_line.add_style.Goals as goal

pub returns : goal.returns
returns c = λ app was.
    let first = add_arg c.args.command c.in_ok-first.first c.flag.result app _ was c.flag.ensures c.in_ok-first.ensures in
    c.in_ok-whole.ensures _ first
