use Rattle.tool.proofs.command_line.export.Goals as goal

pub returns : goal.returns
returns c =
    let bounded = c.in_ok-bounded.ensures _ c.named-bare.ensures in
    c.in_ok-whole.ensures _ bounded
