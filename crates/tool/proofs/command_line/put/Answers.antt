use Rattle.tool.proofs.Commands.{add_arg}
use Rattle.tool.proofs.command_line.put.Goals as goal

pub returns : goal.returns
returns c =
    let first = add_arg c.named-bare.result c.in_ok-first.first c.flag.result _ _ c.named-bare.ensures c.flag.ensures c.in_ok-first.ensures in
    let placed = c.in_ok-placed.ensures _ first in
    let second = add_arg c.in_ok-placed.placed c.in_ok-second.second c.given.result _ _ placed c.given.ensures c.in_ok-second.ensures in
    add_arg c.in_ok-second.second c.in_ok-whole.whole c.given-2.result _ _ second c.given-2.ensures c.in_ok-whole.ensures
