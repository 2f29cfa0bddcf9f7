use Rattle.std.proofs.Common.{◌≡◌, ◌-◌, ◌%◌, drop, sym, subst, List, ℕ}
use Rattle.logfile.specs.Mending.{IsBroken}
use Rattle.logfile.proofs.Cutting.{no_cut}
use Rattle.logfile.proofs.LeadingOn.{room_at}
use Rattle.logfile.proofs.mending.broken_at.Goals as goal

pub returns-else-is_broken : goal.returns-else-is_broken
returns-else-is_broken c =
    let bytes = c.args.bytes.now in
    let at = c.whole_front-at.result in
    let back : c.split_at.result.1.now ≡ drop at bytes = c.split_at.ensures.back in
    no_cut bytes at (32768 - at % 32768) (room_at bytes at c.whole_front-at.ensures.fits) c.whole_front-at.ensures
    (λ bad. c.if-is_broken.ensures (subst (λ (v : List ℕ). IsBroken (32768 - at % 32768) v) (sym back) bad))
