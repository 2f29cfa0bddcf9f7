use Rattle.std.proofs.Common.{◌∙◌, nat_lt, nat_le, get_or}
use Rattle.std.proofs.lemmas.Bool.{lt-ltb, le-ltb, le-leb, lt-leb}
use Rattle.versions.proofs.Slices.{filter_front, filter_back}
use Rattle.versions.proofs.searching.split_levels.Goals as goal

pub returns-clause-before : goal.returns-clause-before
returns-clause-before c =
    let tables = c.args.tables.now in
    let level = c.args.level in
    let start = c.level_start in
    c.split_at.ensures.front ∙ filter_front (λ p. nat_lt p.level level) tables start.result start.ensures.within
    (λ k d low high. lt-ltb (get_or tables k d).level level (start.ensures.lower k d low high)) (λ k d low high. le-ltb (get_or tables k d).level level (start.ensures.higher k d low high))

pub returns-clause-from : goal.returns-clause-from
returns-clause-from c =
    let tables = c.args.tables.now in
    let level = c.args.level in
    let start = c.level_start in
    c.split_at.ensures.back ∙ filter_back (λ p. nat_le level p.level) tables start.result start.ensures.within
    (λ k d low high. lt-leb level (get_or tables k d).level (start.ensures.lower k d low high)) (λ k d low high. le-leb level (get_or tables k d).level (start.ensures.higher k d low high))
