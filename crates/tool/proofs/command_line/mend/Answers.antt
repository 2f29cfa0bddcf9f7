use Rattle.tool.proofs.Commands.{add_arg}
use Rattle.tool.proofs.command_line.mend.Goals as goal

pub returns : goal.returns
returns c =
    let first = add_arg c.named-bare.result c.in_ok-first.first c.flag.result _ _ c.named-bare.ensures c.flag.ensures c.in_ok-first.ensures in
    let second = add_arg c.in_ok-first.first c.in_ok-second.second c.flag-2.result _ _ first c.flag-2.ensures c.in_ok-second.ensures in
    c.in_ok-whole.ensures _ second
