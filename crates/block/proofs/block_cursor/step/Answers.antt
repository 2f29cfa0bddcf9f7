use Rattle.std.proofs.Common.{◌∙◌}
use Rattle.std.proofs.lemmas.List.{take_rest}
use Rattle.block.proofs.Walks.{shares_enough, is_read}
use Rattle.block.proofs.block_cursor.step.Goals as goal

pub put_behind-requires : goal.put_behind-requires
put_behind-requires c =
    let body = c.args.body.now in
    let e = c.in-Some.ensures.found in
    shares_enough body c.args.key.now.items c.args.at.now.next c.in-Some.entry.shared c.in-Some.entry.rest.now c.in-Some.entry.value.now e.0 c.in-Some.behind.now c.requires e.1
    (rw (take_rest body c.args.at.now.next) at e.2)

pub unreachable-requires : goal.unreachable-requires
unreachable-requires c =
    let q = c.requires in
    c.in-None.ensures.none q.0 q.1 q.2 q.3 q.4 q.5 (take_rest c.args.body.now c.args.at.now.next ∙ q.8)

pub returns-clause-read : goal.returns-clause-read
returns-clause-read c =
    let body = c.args.body.now in
    let e = c.in-Some.ensures.found in
    is_read body c.args.key.now.items c.args.at.now.next c.put_behind.new.key.items c.in-Some.entry.shared c.in-Some.entry.rest.now c.in-Some.entry.value.now e.0 c.in-Some.behind.now c.requires e.1
    (rw (take_rest body c.args.at.now.next) at e.2) c.in_ok-put_behind-in-Some.ensures.ok
