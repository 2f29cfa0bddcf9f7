use Rattle.tool.proofs.Commands.{add_arg}
use Rattle.tool.proofs.command_line.get.Goals as goal

pub returns : goal.returns
returns c =
    let first = add_arg c.named-bare.result c.in_ok-first.first c.flag.result _ _ c.named-bare.ensures c.flag.ensures c.in_ok-first.ensures in
    let second = add_arg c.in_ok-first.first c.in_ok-second.second c.flag-2.result _ _ first c.flag-2.ensures c.in_ok-second.ensures in
    let placed = c.in_ok-placed.ensures _ second in
    add_arg c.in_ok-placed.placed c.in_ok-whole.whole c.keys.result _ _ placed c.keys.ensures c.in_ok-whole.ensures
