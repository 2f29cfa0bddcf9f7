use Rattle.std.proofs.Common.{List, ℕ, length, ◌≤◌, ap, ◌∙◌, take, drop, ◌-◌, arith}
use Rattle.std.proofs.lemmas.Grind.{common_steps}
use Rattle.c_calls.specs.Codes.{written}
use Rattle.c_calls.proofs.Pairs.{pair_sliced}
use Rattle.c_calls.proofs.room.copy_pair.Goals as goal

pub returns-then-len-room-clause-bytes : goal.returns-then-len-room-clause-bytes
returns-then-len-room-clause-bytes c =
    let mid = c.copy_into.new.room in
    let k = c.len-then-len-room.result in
    let fits : length c.args.key.now ≤ length c.args.room.now = grind (arith, common_steps) in
    pair_sliced c.args.key.now c.args.value.now c.args.room.now mid c.copy_into-then-len-room.new.room k c.len-then-len-room.ensures fits
    (c.copy_into.ensures ∙ ap (λ (bytes : List ℕ). written bytes c.args.room.now) c.as_slice.ensures)
    (c.copy_into-then-len-room.ensures ∙ ap (λ (bytes : List ℕ). written bytes (take (length mid - k) (drop k mid))) c.as_slice-then-len-room.ensures)
