use Rattle.std.proofs.Common.{◌≡◌, ◌<◌, ◌≤◌, ◌∙◌, ℕ, Some, sym, ap, length, slice_index_or, arith}
use Rattle.std.proofs.lemmas.Grind.{common_steps}
use Rattle.c_calls.specs.Standings.{place}
use Rattle.c_calls.specs.declared.standings.Standing.{Standing}
use Rattle.c_calls.proofs.Places.{found_at, nowhere}
use Rattle.c_calls.proofs.standings.find.Goals as goal

pub returns-then-at-iterators : goal.returns-then-at-iterators
returns-then-at-iterators c =
    let xs = c.args.iterators.now in
    let d = c.index-iterators-at.result in
    let at : c.place_of-at.result ≡ place c.args.id xs = c.place_of-at.ensures in
    let within : place c.args.id xs < length xs = grind (arith, common_steps, at) in
    found_at c.args.id xs d within ∙ ap (λ (n : ℕ). Some (slice_index_or xs n d).pair) (sym at)
    ∙ ap (λ (s : Standing). Some s.pair) (sym c.index-iterators-at.is)

pub returns : goal.returns
returns c =
    let xs = c.args.iterators.now in
    let at : c.place_of-at.result ≡ place c.args.id xs = c.place_of-at.ensures in
    let past : length xs ≤ place c.args.id xs = grind (arith, common_steps, at) in
    nowhere c.args.id xs past
