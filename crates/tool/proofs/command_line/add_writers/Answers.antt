use Rattle.tool.proofs.command_line.add_writers.Goals as goal

pub returns : goal.returns
returns c = λ app was.
    let first = c.in_ok-first.ensures app _ was c.run.ensures in
    let second = c.in_ok-second.ensures _ _ first c.import.ensures in
    let third = c.in_ok-third.ensures _ _ second c.compact.ensures in
    let fourth = c.in_ok-fourth.ensures _ _ third c.put.ensures in
    let fifth = c.in_ok-fifth.ensures _ _ fourth c.del.ensures in
    c.in_ok-whole.ensures _ _ fifth c.mend.ensures
