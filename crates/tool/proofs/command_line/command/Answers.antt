use Rattle.std.proofs.Common.{true}
use Rattle.std.specs.Prelude.{codes}
use Rattle.tool.specs.CommandLine.{IsCommand}
use Rattle.clap.specs.Words.{new_app}
use Rattle.tool.proofs.Commands.{with_about, with_after_help, with_required, with_help_else, with_version}
use Rattle.tool.proofs.command_line.command.Goals as goal

pub returns : goal.returns
returns c =
    let app = new_app (codes "ldbtool") in
    let fresh : IsCommand c.new.result app = record { reads = c.new.ensures.app; local = c.new.ensures.local } in
    let dated = with_version c.new.result c.version.result app _ fresh c.version.ensures in
    let told = with_after_help c.about.result c.after_help.result _ _ (with_about c.version.result c.about.result _ _ dated c.about.ensures) c.after_help.ensures in
    let bare = with_help_else c.subcommand_required.result c.arg_required_else_help-bare.result _ true (with_required c.after_help.result c.subcommand_required.result _ true told c.subcommand_required.ensures) c.arg_required_else_help-bare.ensures in
    let reads = c.in_ok-reads.ensures _ bare in
    c.in_ok-whole.ensures _ reads
