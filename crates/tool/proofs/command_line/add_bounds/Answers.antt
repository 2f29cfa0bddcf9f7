use Rattle.tool.proofs.Commands.{add_arg}
use Rattle.tool.proofs.command_line.add_bounds.Goals as goal

pub returns : goal.returns
returns c = λ app was.
    let first = add_arg c.args.command c.in_ok-first.first c.bound.result app _ was c.bound.ensures c.in_ok-first.ensures in
    let second = add_arg c.in_ok-first.first c.in_ok-second.second c.bound-2.result _ _ first c.bound-2.ensures c.in_ok-second.ensures in
    add_arg c.in_ok-second.second c.in_ok-whole.whole c.bound-3.result _ _ second c.bound-3.ensures c.in_ok-whole.ensures
