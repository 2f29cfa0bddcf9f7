use Rattle.std.proofs.Common.{◌∙◌, ◌++◌, drop, take, refl, arith}
use Rattle.std.proofs.lemmas.List.{take_rest, length-drop}
use Rattle.block.proofs.Walks.{shares_enough, is_read}
use Rattle.block.proofs.block_cursor.step_beside.Goals as goal

pub put_beside-requires : goal.put_beside-requires
put_beside-requires c =
    let body = c.args.body.now in
    let keys = c.args.keys.now.items in
    let e = c.in-Some.ensures.found in
    let fits = shares_enough body (drop c.args.last keys) c.args.at.now.next c.in-Some.entry.shared c.in-Some.entry.rest.now c.in-Some.entry.value.now e.0 c.in-Some.behind.now c.requires.readable e.1
    (rw (take_rest body c.args.at.now.next) at e.2) in
    omega (arith, fits, length-drop c.args.last keys, c.requires.inside)

pub unreachable-requires : goal.unreachable-requires
unreachable-requires c =
    let q = c.requires.readable in
    c.in-None.ensures.none q.0 q.1 q.2 q.3 q.4 q.5 (take_rest c.args.body.now c.args.at.now.next ∙ q.8)

pub returns-clause-read : goal.returns-clause-read
returns-clause-read c =
    let body = c.args.body.now in
    let previous = drop c.args.last c.args.keys.now.items in
    let entry = c.in-Some.entry in
    let e = c.in-Some.ensures.found in
    let key = take entry.shared previous ++ entry.rest.now in (
      key,
      c.in_ok-put_beside-in-Some.ensures.ok,
      is_read body previous c.args.at.now.next key entry.shared entry.rest.now entry.value.now e.0 c.in-Some.behind.now c.requires.readable e.1
          (rw (take_rest body c.args.at.now.next) at e.2) refl,
    )
