use Rattle.std.proofs.Common.{length, arith}
use Rattle.coding.proofs.Fronts.{made_string, number_of_string, room_for_string}
use Rattle.coding.proofs.string.get_string.Goals as goal

pub returns-in_err-len-clause-none : goal.returns-in_err-len-clause-none
returns-in_err-len-clause-none c =
    rw c.from_residual.ensures (λ front text rest s e. c.in_err-len.ensures.none (length text) (length s.front) s.fits (number_of_string c.args.bytes.now front text rest s e))

pub returns-then-behind-len-clause-none : goal.returns-then-behind-len-clause-none
returns-then-behind-len-clause-none c = λ front text rest s e.
    omega (arith, c.split_at.ensures.back_len, room_for_string c.args.bytes.now front text rest c.in_ok-len.used c.in_ok-len.len c.in_ok-len.ensures.length c.in_ok-len.ensures.found s e)

pub returns-clause-found : goal.returns-clause-found
returns-clause-found c =
    let behind = c.split_at.ensures.back in
    rw (c.split_at-2.ensures.front, c.split_at-2.ensures.back, behind)
    (made_string c.args.bytes.now c.in_ok-len.used c.in_ok-len.len c.in_ok-len.ensures.length (rw (← behind) (omega arith)) (omega arith) c.in_ok-len.ensures.found)
