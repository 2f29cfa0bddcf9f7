use Rattle.std.proofs.Common.{[], ◌∙◌}
use Rattle.std.proofs.lemmas.List.{take_rest}
use Rattle.block.specs.Reading.{pairs_of}
use Rattle.block.proofs.Fronts.{readable_before}
use Rattle.block.proofs.Seeks.{restart_compared}
use Rattle.block.proofs.block_cursor.is_restart_below.Goals as goal

pub unreachable-requires : goal.unreachable-requires
unreachable-requires g c =
    let s = c.requires.starts in
    let q = readable_before c.args.body.now (pairs_of c.args.body.now) s.0 [] c.args.restart s.1 s.2 in
    c.in-None.ensures.none q.0 q.1 q.2 q.3 q.4 q.5 (take_rest c.args.body.now c.args.restart ∙ q.8)

pub returns : goal.returns
returns g c =
    let body = c.args.body.now in
    let s = c.requires.starts in
    let e = c.in-Some.ensures.found in
    let entry = c.in-Some.entry in
    restart_compared g.O.EntryOrder.below g.met.O.EntryOrder.transitive c.args.target.now body s.0 c.args.restart entry.shared entry.rest.now entry.value.now e.0 c.in-Some.field-0-1.now c.is_below.result s.1 c.requires.rises e.1
    (rw (take_rest body c.args.restart) at e.2) c.is_below.ensures
