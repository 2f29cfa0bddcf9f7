use Rattle.tool.proofs.Commands.{add_arg}
use Rattle.tool.proofs.command_line.add_range.Goals as goal

pub returns : goal.returns
returns c = λ app was.
    let bounded = c.in_ok-bounded.ensures app was in
    let second = add_arg c.in_ok-bounded.bounded c.in_ok-second.second c.limit.result _ _ bounded c.limit.ensures c.in_ok-second.ensures in
    add_arg c.in_ok-second.second c.in_ok-whole.whole c.flag.result _ _ second c.flag.ensures c.in_ok-whole.ensures
