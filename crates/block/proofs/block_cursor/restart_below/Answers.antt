use Rattle.std.proofs.Common.{◌≡◌, ◌/◌, ℕ, suc, [], length, ap, sym, ◌∙◌, subst, arith}
use Rattle.std.specs.List.{slice_get}
use Rattle.block.specs.Reading.{pairs_of}
use Rattle.block.specs.Spots.{IsBefore}
use Rattle.block.proofs.BlockLaws.{length-restarts}
use Rattle.block.proofs.Fronts.{before_first}
use Rattle.block.proofs.Restarts.{first_restart, later_restart, past_restarts, restarts_long}
use Rattle.block.proofs.block_cursor.restart_below.Goals as goal

pub loop-low-init : goal.loop-low-init
loop-low-init g c =
    let body = c.args.body.now in
    let restarts = c.args.restarts.now in
    let some = restarts_long body restarts c.requires.restarts in
    record {
      ordered = omega (arith, some);
      inside = omega arith;
      below = λ h restart at.
          (0, subst (λ (n : ℕ). IsBefore body (pairs_of body) 0 [] n) (first_restart (pairs_of body) h.list body restart h.entries at) (before_first (pairs_of body) h.list body h.entries), tt);
      above = λ h restart at. absurd (past_restarts body restarts h (length restarts / 4) restart (omega (arith, ap length h.encoded, length-restarts h.list)) at);
    }

pub is_restart_below-requires-clause-starts : goal.is_restart_below-requires-clause-starts
is_restart_below-requires-clause-starts g c =
    let h = c.requires.restarts in
    later_restart (pairs_of c.args.body.now) h.list c.args.body.now _ c.restart_at.result h.entries (c.restart_at.ensures h.list h.small h.encoded) (omega arith)

pub returns : goal.returns
returns g c =
    let h = c.requires.restarts in
    let low = c.loop-low.low in
    let found = c.restart_at-2.ensures h.list h.small h.encoded in
    let next : suc low ≡ c.loop-low.high = omega (arith, c.loop-low.invariant.ordered, c.loop-low-test.false) in
    record {
      starts = c.loop-low.invariant.below h c.restart_at-2.result found;
      has = h;
      index = low;
      found = found;
      above = λ restart at. c.loop-low.invariant.above h restart (ap (slice_get h.list) (sym next) ∙ at);
    }
