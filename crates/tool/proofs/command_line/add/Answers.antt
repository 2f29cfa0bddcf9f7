use Rattle.tool.proofs.Commands.{add_subcommand}
use Rattle.tool.proofs.command_line.add.Goals as goal

pub returns : goal.returns
returns c = λ app inner was is. add_subcommand c.args.command c.in_ok-subcommand.subcommand c.in_ok-whole.whole app inner was (rw c.in_ok-subcommand.was at is) c.in_ok-whole.ensures
