use Rattle.std.proofs.Common.{rules, ◌≡◌, ◌+◌, ℤ, w32, to_z, of_z, sym, subst, arith}
use Rattle.c_calls.specs.Filling.{FillServed}
use Rattle.c_calls.specs.Calls.{bytewise}
use Rattle.c_calls.specs.Motions.{way_of}
use Rattle.c_calls.proofs.Fills.{fills_full, fills_nowhere, fills_on, fills_refused}
use Rattle.c_calls.proofs.handle.Handle.fill.Goals as goal

pub loop-preserved : goal.loop-preserved
loop-preserved g c =
    let one = c.in-Copied.ensures in
    let count : c.loop.counter + 1 ≡ c.fill_one.new.filled.pairs = omega (arith, c.loop.invariant.1, one.0.2.pairs) in (
      fills_on bytewise g.S.Store.facts c.args.id (way_of c.args.backwards) c.args.room.now c.loop.room c.fill_one.new.room
          c.loop.filled c.fill_one.new.filled c.args.self.now c.loop.self c.fill_one.new.self one.0.0 c.loop.invariant.0
          one.0.1 one.0.2 one.1,
      count,
      c.loop.invariant.2,
    )

pub returns-in-Full : goal.returns-in-Full
returns-in-Full g c =
    let one = c.in-Full.ensures in
    fills_full bytewise g.S.Store.facts c.args.id (way_of c.args.backwards) c.args.room.now c.loop.room c.fill_one.new.room
    c.loop.filled c.fill_one.new.filled c.args.self.now c.loop.self c.fill_one.new.self one.0.0 c.loop.invariant.0
    one.0.1 one.0.2 one.1

pub returns-in-Ended : goal.returns-in-Ended
returns-in-Ended g c =
    let one = c.in-Ended.ensures in
    let code : to_z w32 (of_z w32 c.in-Ended.code) ≡ c.in-Ended.code = search rules in
    subst (λ (n : ℤ). FillServed bytewise g.S.Store.facts c.args.id (way_of c.args.backwards) c.args.room.now
    c.fill_one.new.room c.fill_one.new.filled c.args.self.now c.fill_one.new.self n) (sym code)
    (fills_nowhere bytewise g.S.Store.facts c.args.id (way_of c.args.backwards) c.args.room.now c.loop.room
    c.fill_one.new.room c.loop.filled c.fill_one.new.filled c.args.self.now c.loop.self c.fill_one.new.self c.in-Ended.code
    c.loop.invariant.0 one.0.0 one.0.1 one.0.2 one.1)

pub returns-in-Refused : goal.returns-in-Refused
returns-in-Refused g c =
    let one = c.in-Refused.ensures in
    let code : to_z w32 (of_z w32 c.in-Refused.code) ≡ c.in-Refused.code = search rules in
    subst (λ (n : ℤ). FillServed bytewise g.S.Store.facts c.args.id (way_of c.args.backwards) c.args.room.now
    c.fill_one.new.room c.fill_one.new.filled c.args.self.now c.fill_one.new.self n) (sym code)
    (fills_refused bytewise g.S.Store.facts c.args.id (way_of c.args.backwards) c.args.room.now c.loop.room
    c.fill_one.new.room c.loop.filled c.fill_one.new.filled c.args.self.now c.loop.self c.fill_one.new.self one.0.0
    c.in-Refused.code c.loop.invariant.0 one.0.1 one.0.2 one.1)
