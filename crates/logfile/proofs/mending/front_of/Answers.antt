use Rattle.std.proofs.Common.{◌≡◌, drop, sym, subst}
use Rattle.logfile.specs.Mending.{EndsInZeros}
use Rattle.logfile.proofs.Cutting.{not_mended, none_mended}
use Rattle.logfile.proofs.mending.front_of.Goals as goal

pub returns-else-ends_in_zeros : goal.returns-else-ends_in_zeros
returns-else-ends_in_zeros c =
    let bytes = c.args.bytes.now in
    let at = c.in-Some.at in
    let back : c.split_at.result.1.now ≡ drop at bytes = c.split_at.ensures.back in
    not_mended bytes at c.in-Some.ensures.0 c.in-Some.ensures.1 (λ zeros. c.if-ends_in_zeros.ensures (subst EndsInZeros (sym back) zeros))

pub returns-in-None : goal.returns-in-None
returns-in-None c = none_mended c.args.bytes.now c.in-None.ensures
