use Rattle.std.proofs.Common.{◌≡◌, ◌≤◌, ◌∙◌, ap, length, arith}
use Rattle.std.proofs.lemmas.Grind.{common_steps}
use Rattle.std.specs.List.{remove}
use Rattle.c_calls.specs.Standings.{place}
use Rattle.c_calls.proofs.Places.{gone_at, gone_nowhere}
use Rattle.c_calls.proofs.standings.forget.Goals as goal

pub returns-then-at-len : goal.returns-then-at-len
returns-then-at-len c =
    let xs = c.args.iterators.now.items in
    let at : c.place_of-at.result ≡ place c.args.id xs = c.place_of-at.ensures ∙ ap (place c.args.id) c.as_slice.ensures.value in
    c.remove-gone.ensures.items ∙ ap (remove xs) at ∙ gone_at c.args.id xs

pub returns-else-at-len : goal.returns-else-at-len
returns-else-at-len c =
    let xs = c.args.iterators.now.items in
    let at : c.place_of-at.result ≡ place c.args.id xs = c.place_of-at.ensures ∙ ap (place c.args.id) c.as_slice.ensures.value in
    let past : length xs ≤ place c.args.id xs = grind (arith, common_steps, at) in
    gone_nowhere c.args.id xs past
