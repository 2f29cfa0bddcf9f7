use Rattle.std.proofs.Common.{◌≡◌, ◌≤◌, ◌∙◌, ℕ, ap, length, slice_index_or, slice_set, arith}
use Rattle.std.proofs.lemmas.Grind.{common_steps}
use Rattle.c_calls.specs.Standings.{place}
use Rattle.c_calls.specs.declared.standings.Standing.{Standing}
use Rattle.c_calls.proofs.Places.{moved_at, stays}
use Rattle.c_calls.proofs.standings.keep.Goals as goal

pub returns-then-at-len : goal.returns-then-at-len
returns-then-at-len c =
    let xs = c.args.iterators.now.items in
    let d = c.index_mut.result.now in
    let at : c.place_of-at.result ≡ place c.args.id xs = c.place_of-at.ensures ∙ ap (place c.args.id) c.as_slice.ensures.value in
    ap (λ (s : Standing). slice_set xs c.place_of-at.result (record { id = s.id; pair = c.args.found })) c.index_mut.ensures.value
    ∙ ap (λ (n : ℕ). slice_set xs n (record { id = (slice_index_or xs n d).id; pair = c.args.found })) at
    ∙ moved_at c.args.id c.args.found xs d

pub returns-else-at-len : goal.returns-else-at-len
returns-else-at-len c =
    let xs = c.args.iterators.now.items in
    let at : c.place_of-at.result ≡ place c.args.id xs = c.place_of-at.ensures ∙ ap (place c.args.id) c.as_slice.ensures.value in
    let past : length xs ≤ place c.args.id xs = grind (arith, common_steps, at) in
    stays c.args.id c.args.found xs past
