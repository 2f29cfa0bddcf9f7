use Rattle.std.proofs.Common.{◌≡◌, ◌+◌, ◌-◌, ◌%◌, ◌++◌, take, drop, ap, ◌∙◌, subst, arith, List, ℕ, [], false}
use Rattle.logfile.specs.Log.{AreBlocks}
use Rattle.logfile.specs.Mending.{HasNoPiece}
use Rattle.logfile.proofs.Cutting.{longest_here}
use Rattle.logfile.proofs.LeadingOn.{nothing_there, room_at, take_two, piece_leads}
use Rattle.logfile.proofs.mending.whole_front.Goals as goal

pub loop-at-init : goal.loop-at-init
loop-at-init c = ([], omega arith, nothing_there)

pub loop-at-preserved : goal.loop-at-preserved
loop-at-preserved c =
    let bytes = c.args.bytes.now in
    let at = c.loop-at.at in
    let n = c.in-Some.n in
    let so_far = c.loop-at.invariant in
    let rest = c.split_at.result.1.now in
    let back : rest ≡ drop at bytes = c.split_at.ensures.back in
    let step = c.in-Some.ensures in
    let next = piece_leads (32768 - at % 32768) (take n rest) step.2 (take at bytes) so_far.0 (room_at bytes at so_far.1) so_far.2 in
    let same : take at bytes ++ take n rest ≡ take (at + n) bytes = ap (λ (v : List ℕ). take at bytes ++ take n v) back ∙ take_two bytes at n so_far.1 in
    (so_far.0 ++ next.0, omega (arith, step.1, c.split_at.ensures.back_len), subst (λ (v : List ℕ). AreBlocks v (so_far.0 ++ next.0) false) same next.1)

pub returns-in-None : goal.returns-in-None
returns-in-None c =
    let bytes = c.args.bytes.now in
    let at = c.loop-at.at in
    let so_far = c.loop-at.invariant in
    let back : c.split_at.result.1.now ≡ drop at bytes = c.split_at.ensures.back in
    longest_here bytes at so_far.0 so_far.1 so_far.2
    (subst (λ (n : ℕ). HasNoPiece n (drop at bytes)) (room_at bytes at so_far.1) (subst (λ (v : List ℕ). HasNoPiece (32768 - at % 32768) v) back c.in-None.ensures))
