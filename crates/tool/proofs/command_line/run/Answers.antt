use Rattle.tool.proofs.Commands.{add_arg}
use Rattle.tool.proofs.command_line.run.Goals as goal

pub returns : goal.returns
returns c =
    let first = add_arg c.named-bare.result c.in_ok-first.first c.work.result _ _ c.named-bare.ensures c.work.ensures c.in_ok-first.ensures in
    let second = add_arg c.in_ok-first.first c.in_ok-second.second c.flag.result _ _ first c.flag.ensures c.in_ok-second.ensures in
    let third = add_arg c.in_ok-second.second c.in_ok-third.third c.flag-2.result _ _ second c.flag-2.ensures c.in_ok-third.ensures in
    let numbered = c.in_ok-numbered.ensures _ third in
    c.in_ok-whole.ensures _ numbered
