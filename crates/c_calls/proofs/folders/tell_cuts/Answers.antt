use Rattle.std.proofs.Common.{◌≡◌, ◌<◌, ◌+◌, ◌++◌, ℕ, suc, List, length, map, take, drop, slice_index_or, slice_set, ap, sym, ◌∙◌, arith}
use Rattle.std.proofs.lemmas.Grind.{common_steps}
use Rattle.std.proofs.lemmas.List.{length-map}
use Rattle.c_calls.specs.Folders.{told_cut}
use Rattle.c_calls.specs.declared.folders.CutFile.{CutFile}
use Rattle.c_calls.proofs.Cuts.{map_at, one_more}
use Rattle.c_calls.proofs.folders.tell_cuts.Goals as goal

pub loop-place-preserved : goal.loop-place-preserved
loop-place-preserved c =
    let found = c.args.found.now in
    let told : List CutFile = map told_cut found in
    let room = c.args.cuts.now in
    let i : ℕ = c.loop-place.place in
    let x = c.index-found-place.result in
    let many : length told ≡ length found = length-map found told_cut in
    let seen : i < length found = grind (arith, common_steps) in
    let fits : i < length room = grind (arith, common_steps) in
    let within : i < length told = omega (arith, many, seen) in
    let next : suc i ≡ i + 1 = omega arith in
    let value : c.told_of.result ≡ slice_index_or told i (told_cut x) =
    c.told_of.ensures ∙ ap told_cut c.index-found-place.is ∙ sym (map_at found i x) in
    (λ k. slice_set (c.loop-place.invariant k) i (value k)) ∙ one_more told room i (told_cut x) within fits
    ∙ ap (λ (n : ℕ). take n told ++ drop n room) next
