use Rattle.tool.proofs.Commands.{add_arg}
use Rattle.tool.proofs.command_line.scan.Goals as goal

pub returns : goal.returns
returns c =
    let ranged = c.in_ok-ranged.ensures _ c.named-bare.ensures in
    let counted = add_arg c.in_ok-ranged.ranged c.in_ok-counted.counted c.flag.result _ _ ranged c.flag.ensures c.in_ok-counted.ensures in
    let styled = c.in_ok-styled.ensures _ counted in
    c.in_ok-whole.ensures _ styled
