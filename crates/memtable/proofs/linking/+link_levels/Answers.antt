use Rattle.std.proofs.Common.{rules, ◌∙◌, ◌<◌, ◌^◌, ℕ, List, length, ap, arith}
use Rattle.memtable.proofs.UpperLevels.{not-empty}
use Rattle.memtable.proofs.Leading.{upper-many, upper-numbers, levels-led, ends-led}
use Rattle.memtable.proofs.linking.+link_levels.Goals as goal

pub link_levels-requires : goal.link_levels-requires
link_levels-requires t c =
    let is = c.deref.ensures.value ∙ c.in_ok-upper.ensures in
    let few : length c.deref.result.now < 2 ^ 32 = omega (arith, c.requires.few, ap (λ (v : List ℕ). length v) is, upper-many c.args.nodes.now c.requires.numbers) in
    (search rules, (search rules, (upper-numbers c.args.nodes.now c.deref.result.now is c.requires.numbers, few)))

pub returns : goal.returns
returns t c =
    let some = not-empty (length c.args.levels.now) c.if-is_empty.ensures in
    let is = c.deref.ensures.value ∙ c.in_ok-upper.ensures in
    let above = c.in_ok-link_levels.ensures in (
      levels-led c.args.levels.now c.link_levels.new.levels c.in_ok-levels.field-0 c.args.nodes.now c.deref.result.now some c.requires.numbers is c.in_ok-levels.ensures above.0,
      ends-led c.args.ends.now c.link_levels.new.ends c.last_of.result c.args.nodes.now c.deref.result.now (omega (arith, some, c.requires.ends)) c.last_of.ensures is above.1,
    )
