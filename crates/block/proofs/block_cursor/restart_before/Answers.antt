use Rattle.std.proofs.Common.{◌≡◌, ◌/◌, suc, length, ap, sym, ◌∙◌, arith}
use Rattle.std.specs.List.{slice_get}
use Rattle.block.specs.Reading.{pairs_of}
use Rattle.block.proofs.BlockLaws.{length-restarts}
use Rattle.block.proofs.Restarts.{first_restart, past_restarts, restart_before_entry}
use Rattle.block.proofs.block_cursor.restart_before.Goals as goal

pub loop-low-init : goal.loop-low-init
loop-low-init c =
    let restarts = c.args.restarts.now in
    record {
      ordered = omega (arith, c.requires.some);
      inside = omega arith;
      below = λ body h restart at. omega (arith, c.requires.offset, first_restart (pairs_of body) h.list body restart h.entries at);
      above = λ body h restart at. absurd (past_restarts body restarts h (length restarts / 4) restart (omega (arith, ap length h.encoded, length-restarts h.list)) at);
    }

pub returns : goal.returns
returns c body h =
    let r = c.restart_at-2.result in
    let low = c.loop-low.low in
    let found = c.restart_at-2.ensures h.list h.small h.encoded in
    let next : suc low ≡ c.loop-low.high = omega (arith, c.loop-low.invariant.ordered, c.loop-low-test.false) in
    record {
      starts = restart_before_entry (pairs_of body) h.list body low r h.entries found;
      less = c.loop-low.invariant.below body h r found;
      index = low;
      found = found;
      above = λ restart at. c.loop-low.invariant.above body h restart (ap (slice_get h.list) (sym next) ∙ at);
    }
