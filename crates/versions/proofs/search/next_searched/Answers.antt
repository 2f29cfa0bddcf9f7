use Rattle.std.proofs.Common.{◌+◌, arith}
use Rattle.versions.specs.Searches.{IsSearchedAt}
use Rattle.versions.proofs.InLevels.{levels_rise}
use Rattle.versions.proofs.Deeper.{from_in_order}
use Rattle.versions.proofs.Searched.{newest_next, newest_none, none_more, none_behind, deeper_none, deeper_next}
use Rattle.versions.proofs.search.next_searched.Goals as goal

pub split_levels-requires : goal.split_levels-requires
split_levels-requires g c = levels_rise g.K.KeyOrder.cmp c.args.tables.now c.requires.places

pub returns-in-Some : goal.returns-in-Some
returns-in-Some g c =
    let found = rw c.in-Some.is at c.in_level_0.ensures in
    newest_next g.K.KeyOrder.cmp c.args.key.now c.args.tables.now c.split_levels.result.0.now c.split_levels.ensures.before c.args.from c.loop-place.place c.in-Some.placed.now (omega arith) c.loop-place-test.true found.0 found.1 c.loop-place.invariant

pub loop-place-preserved : goal.loop-place-preserved
loop-place-preserved g c =
    let cmp = g.K.KeyOrder.cmp in
    let none = rw c.in_default.is at c.in_level_0.ensures in
    none_more (IsSearchedAt cmp c.args.key.now c.args.tables.now) c.args.from c.loop-place.place c.loop-place.invariant
    (newest_none cmp c.args.key.now c.args.tables.now c.split_levels.result.0.now c.split_levels.ensures.before c.loop-place.place c.loop-place-test.true none)

pub returns-then-above : goal.returns-then-above
returns-then-above g c =
    none_behind g.K.KeyOrder.cmp c.args.key.now c.args.tables.now c.split_levels.result.0.now c.split_levels.ensures.before c.split_levels.result.1.now c.split_levels.ensures.from c.args.from c.loop-place.place (omega (arith, c.loop-place-test.false)) c.loop-place.invariant
    c.saturating_sub-above.result c.saturating_sub-above.ensures (omega (arith, c.if-above.true))

pub next_deeper-requires-clause-order : goal.next_deeper-requires-clause-order
next_deeper-requires-clause-order g c = rw c.split_levels.ensures.from (from_in_order g.K.KeyOrder.cmp c.args.tables.now 1 c.requires)

pub returns-in_default-next_deeper : goal.returns-in_default-next_deeper
returns-in_default-next_deeper g c =
    deeper_none g.K.KeyOrder.cmp c.args.key.now c.args.tables.now c.split_levels.result.0.now c.split_levels.ensures.before c.split_levels.result.1.now c.split_levels.ensures.from c.args.from c.loop-place.place (omega (arith, c.loop-place-test.false)) c.loop-place.invariant
    _ (omega (arith, c.saturating_sub-above.ensures)) (rw c.in_default-next_deeper.is at c.next_deeper.ensures)

pub returns : goal.returns
returns g c =
    deeper_next g.K.KeyOrder.cmp c.args.key.now c.args.tables.now c.split_levels.result.0.now c.split_levels.ensures.before c.split_levels.result.1.now c.split_levels.ensures.from c.args.from c.loop-place.place (omega (arith, c.loop-place-test.false)) c.loop-place.invariant
    (c.saturating_sub-above.result + 1) c.in-Some-next_deeper.level c.in-Some-next_deeper.placed.now (omega (arith, c.saturating_sub-above.ensures)) (rw c.in-Some-next_deeper.is at c.next_deeper.ensures)
