use Rattle.std.proofs.Common.{◌∙◌, ◌++◌, ◌∷◌, [], ◌/◌, ℕ, List, get_or, take, ap, sym, refl, arith}
use Rattle.std.proofs.lemmas.List.{take_more}
use Rattle.memtable.specs.Levels.{quarter}
use Rattle.memtable.proofs.Quarters.{quarter-on, quarter-past}
use Rattle.memtable.proofs.linking.quarter_of.Goals as goal

pub loop-node-preserved : goal.loop-node-preserved
loop-node-preserved c =
    let i = c.loop-node.node-index in
    let nodes = c.args.nodes.now in
    let x = get_or nodes i 0 in
    c.in_ok-push.ensures.items ∙ ap (λ (v : List ℕ). v ++ x / 4 ∷ []) c.loop-node.invariant ∙ sym (ap quarter (take_more nodes i 0 c.loop-node-test.true) ∙ quarter-on (take i nodes) x (x / 4) (omega (arith, c.if-node-ne0.false)) refl)

pub loop-node-preserved-then-node-ne0 : goal.loop-node-preserved-then-node-ne0
loop-node-preserved-then-node-ne0 c =
    let i = c.loop-node.node-index in
    let nodes = c.args.nodes.now in
    c.loop-node.invariant ∙ sym (ap quarter (take_more nodes i 0 c.loop-node-test.true) ∙ quarter-past (take i nodes) (get_or nodes i 0) c.if-node-ne0.true)
