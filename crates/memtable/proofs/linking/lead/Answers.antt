use Rattle.std.proofs.Common.{refl, ◌∙◌, arith}
use Rattle.std.proofs.lemmas.List.{length-set}
use Rattle.memtable.proofs.Leading.{last-inside, led-on, led-whole}
use Rattle.memtable.proofs.linking.lead.Goals as goal

pub bounds-links-before : goal.bounds-links-before
bounds-links-before c =
    let i = c.loop-node.invariant in
    omega (arith, i.1, last-inside c.args.nodes.now c.loop-node.links c.requires.numbers i.2 c.loop-node.node-index)

pub offset_bounds-links-before : goal.offset_bounds-links-before
offset_bounds-links-before c =
    let i = c.loop-node.invariant in
    omega (arith, i.1, i.2, c.requires.few, last-inside c.args.nodes.now c.loop-node.links c.requires.numbers i.2 c.loop-node.node-index)

pub loop-node-preserved : goal.loop-node-preserved
loop-node-preserved c =
    let i = c.loop-node.invariant in
    let on = led-on c.args.nodes.now c.loop-node.links c.requires.numbers i.2 c.loop-node.node-index c.loop-node.before _ c.loop-node-test.true i.0 i.1 refl in
    (on.0, on.1, length-set c.loop-node.links c.loop-node.before _ ∙ i.2)

pub bounds-links-before-2 : goal.bounds-links-before-2
bounds-links-before-2 c =
    let i = c.loop-node.invariant in
    omega (arith, i.1, last-inside c.args.nodes.now c.loop-node.links c.requires.numbers i.2 c.loop-node.node-index)

pub offset_bounds-links-before-2 : goal.offset_bounds-links-before-2
offset_bounds-links-before-2 c =
    let i = c.loop-node.invariant in
    omega (arith, i.1, i.2, c.requires.few, last-inside c.args.nodes.now c.loop-node.links c.requires.numbers i.2 c.loop-node.node-index)

pub returns : goal.returns
returns c =
    let i = c.loop-node.invariant in
    led-whole c.args.nodes.now c.loop-node.links c.requires.numbers i.2 c.loop-node.node-index c.loop-node.before c.loop-node-test.false i.0 i.1
