use Rattle.tool.specs.CommandLine.{IsCommand}
use Rattle.clap.specs.Words.{new_app}
use Rattle.tool.proofs.Commands.{with_about, with_after_help}
use Rattle.tool.proofs.command_line.named.Goals as goal

pub returns : goal.returns
returns c =
    let fresh : IsCommand c.new.result (new_app c.args.name.now) = record { reads = c.new.ensures.app; local = c.new.ensures.local } in
    with_after_help c.about.result c.after_help.result (new_app c.args.name.now) _ (with_about c.new.result c.about.result (new_app c.args.name.now) _ fresh c.about.ensures) c.after_help.ensures
