use Rattle.tool.proofs.Commands.{add_arg}
use Rattle.tool.proofs.command_line.check.Goals as goal

pub returns : goal.returns
returns c =
    let first = add_arg c.named-bare.result c.in_ok-first.first c.flag.result _ _ c.named-bare.ensures c.flag.ensures c.in_ok-first.ensures in
    c.in_ok-whole.ensures _ first
