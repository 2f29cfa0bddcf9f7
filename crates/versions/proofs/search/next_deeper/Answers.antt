use Rattle.std.proofs.Common.{◌<◌, List, length, sym, subst, arith}
use Rattle.edits.specs.declared.field.PlacedTable.{PlacedTable}
use Rattle.versions.specs.Searches.{IsTableFor}
use Rattle.versions.proofs.InLevels.{levels_rise}
use Rattle.versions.proofs.Deeper.{IsRest, rest_begins, rest_level, rest_found, rest_goes_on, rest_ends, own_rise, none_first, behind_shorter}
use Rattle.versions.proofs.search.next_deeper.Goals as goal

pub split_levels-requires : goal.split_levels-requires
split_levels-requires g c = levels_rise g.K.KeyOrder.cmp c.args.tables.now c.requires.order.places

pub loop-first-init : goal.loop-first-init
loop-first-init g c = rw c.split_levels.ensures.from (rest_begins g.K.KeyOrder.cmp c.args.key.now c.args.tables.now c.args.from c.requires.order)

pub overflow_add-first : goal.overflow_add-first
overflow_add-first g c =
    omega (arith, rest_level g.K.KeyOrder.cmp c.args.key.now c.args.tables.now c.loop-first.rest.now c.args.from c.in-Some.first.now c.in-Some.ensures.value c.loop-first.invariant)

pub split_levels-requires-in-Some : goal.split_levels-requires-in-Some
split_levels-requires-in-Some g c = levels_rise g.K.KeyOrder.cmp c.loop-first.rest.now c.loop-first.invariant.order.places

pub in_level-requires : goal.in_level-requires
in_level-requires g c =
    rw c.split_levels-in-Some.ensures.before (own_rise g.K.KeyOrder.cmp c.args.key.now c.args.tables.now c.loop-first.rest.now c.args.from c.in-Some.first.now c.in-Some.ensures.value c.loop-first.invariant g.met.K.KeyOrder.total c.requires.low)

pub returns-in-Some-in_level : goal.returns-in-Some-in_level
returns-in-Some-in_level g c =
    let cmp = g.K.KeyOrder.cmp in
    let placed = c.in-Some-in_level.placed.now in
    let found = rw c.in-Some-in_level.is at c.in_level.ensures in
    rest_found cmp c.args.key.now c.args.tables.now c.loop-first.rest.now c.args.from c.in-Some.first.now c.in-Some.ensures.value c.loop-first.invariant placed
    (subst (λ own. IsTableFor cmp c.args.key.now own placed) c.split_levels-in-Some.ensures.before found.0) found.1

pub loop-first-smaller : goal.loop-first-smaller
loop-first-smaller g c =
    subst (λ (ts : List PlacedTable). length ts < length c.loop-first.rest.now) (sym c.split_levels-in-Some.ensures.from) (behind_shorter c.loop-first.rest.now c.in-Some.first.now c.in-Some.ensures.value)

pub loop-first-preserved : goal.loop-first-preserved
loop-first-preserved g c =
    let cmp = g.K.KeyOrder.cmp in
    let none = rw c.in_default-in_level.is at c.in_level.ensures in
    subst (λ ts. IsRest cmp c.args.key.now c.args.tables.now c.args.from ts) (sym c.split_levels-in-Some.ensures.from)
    (rest_goes_on cmp c.args.key.now c.args.tables.now c.loop-first.rest.now c.args.from c.in-Some.first.now c.in-Some.ensures.value c.loop-first.invariant
    (λ placed found covered. none placed (subst (λ own. IsTableFor cmp c.args.key.now own placed) (sym c.split_levels-in-Some.ensures.before) found) covered))

pub returns : goal.returns
returns g c = rest_ends g.K.KeyOrder.cmp c.args.key.now c.args.tables.now c.loop-first.rest.now c.args.from c.loop-first.invariant (none_first c.loop-first.rest.now c.in_default.ensures.value)
