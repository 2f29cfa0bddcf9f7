use Rattle.tool.proofs.Commands.{add_arg}
use Rattle.tool.proofs.command_line.add_place.Goals as goal

pub returns : goal.returns
returns c = λ app was.
    let ordered = add_arg c.args.command c.in_ok-ordered.ordered c.order.result app _ was c.order.ensures c.in_ok-ordered.ensures in
    add_arg c.in_ok-ordered.ordered c.in_ok-whole.whole c.folder.result _ _ ordered c.folder.ensures c.in_ok-whole.ensures
