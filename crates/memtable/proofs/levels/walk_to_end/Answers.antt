use Rattle.std.proofs.Common.{refl, sym, ◌∙◌, arith}
use Rattle.memtable.proofs.Steps.{ended, stepped, last-of-none}
use Rattle.memtable.proofs.levels.walk_to_end.Goals as goal

pub loop-init : goal.loop-init
loop-init c = λ rest h. (rest, h, refl, omega arith)

pub returns-then-next-eq0 : goal.returns-then-next-eq0
returns-then-next-eq0 c = λ rest h le.
    let w = c.loop.invariant rest h in ended c.args.links.now c.loop.at w.0 w.1 (sym c.link-next.ensures.next ∙ c.if-next-eq0.true) ∙ w.2

pub loop-preserved : goal.loop-preserved
loop-preserved c = λ rest h.
    let w = c.loop.invariant rest h in
    let t = stepped c.args.links.now c.loop.at c.link-next.result w.0 c.link-next.ensures.next w.1 c.if-next-eq0.false in
    (t.0, t.1, t.2 ∙ w.2, omega (arith, t.3, w.3))

pub returns : goal.returns
returns c = λ rest h le.
    let w = c.loop.invariant rest h in
    sym (last-of-none c.loop.at w.0 (omega (arith, w.3, le))) ∙ w.2
