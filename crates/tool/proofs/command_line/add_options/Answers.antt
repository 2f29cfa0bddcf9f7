use Rattle.tool.proofs.Commands.{add_arg}
use Rattle.tool.proofs.command_line.add_options.Goals as goal

pub returns : goal.returns
returns c = λ app was.
    let first = add_arg c.args.command c.in_ok-first.first c.write_buffer.result app _ was c.write_buffer.ensures c.in_ok-first.ensures in
    let second = add_arg c.in_ok-first.first c.in_ok-second.second c.block_bytes.result _ _ first c.block_bytes.ensures c.in_ok-second.ensures in
    let third = add_arg c.in_ok-second.second c.in_ok-third.third c.file_bytes.result _ _ second c.file_bytes.ensures c.in_ok-third.ensures in
    let fourth = add_arg c.in_ok-third.third c.in_ok-fourth.fourth c.level0_files.result _ _ third c.level0_files.ensures c.in_ok-fourth.ensures in
    let fifth = add_arg c.in_ok-fourth.fourth c.in_ok-fifth.fifth c.base_bytes.result _ _ fourth c.base_bytes.ensures c.in_ok-fifth.ensures in
    add_arg c.in_ok-fifth.fifth c.in_ok-whole.whole c.cache_blocks.result _ _ fifth c.cache_blocks.ensures c.in_ok-whole.ensures
