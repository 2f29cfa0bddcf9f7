use Rattle.std.proofs.Common.{◌∙◌, ℕ, List, subst, sym}
use Rattle.std.specs.Vec.{with_items}
use Rattle.memtable.specs.Chains.{IsChain}
use Rattle.memtable.proofs.Leading.{level-led}
use Rattle.std.proofs.lemmas.List.{with_items_is}
use Rattle.memtable.proofs.linking.level_over.Goals as goal

pub returns : goal.returns
returns c =
    level-led (with_items c.resize.new.self c.lead.new.links) c.args.nodes.now c.in_ok-resize.ensures.len
    (subst (λ (v : List ℕ). IsChain v 0 c.args.nodes.now) (sym (with_items_is c.resize.new.self c.lead.new.links (c.lead.auto.links ∙ c.deref_mut.ensures.len))) c.lead.ensures)
