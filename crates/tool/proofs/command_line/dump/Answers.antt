use Rattle.tool.proofs.Commands.{add_arg}
use Rattle.tool.proofs.command_line.dump.Goals as goal

pub returns : goal.returns
returns c =
    let noted = c.in_ok-noted.ensures _ c.named-bare.ensures in
    let second = add_arg c.in_ok-noted.noted c.in_ok-second.second c.flag.result _ _ noted c.flag.ensures c.in_ok-second.ensures in
    c.in_ok-whole.ensures _ second
