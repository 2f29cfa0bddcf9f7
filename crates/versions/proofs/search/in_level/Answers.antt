use Rattle.std.proofs.Common.{sym, ap, ◌∙◌}
use Rattle.versions.specs.Ranges.{covers}
use Rattle.versions.proofs.Searched.{none_found, not_searched}
use Rattle.versions.proofs.search.in_level.Goals as goal

pub returns-in_default : goal.returns-in_default
returns-in_default g c = λ placed found yes'. none_found g.K.KeyOrder.cmp c.args.key.now c.args.own.now placed (rw c.in_default.is at c.find_in.ensures) found

pub returns-then-not-covers : goal.returns-then-not-covers
returns-then-not-covers g c = λ placed found yes'.
    not_searched g.K.KeyOrder.cmp c.args.key.now _ c.args.own.now c.in-Some.found.now placed (rw c.in-Some.is at c.find_in.ensures) (ap (λ user. covers g.K.KeyOrder.cmp c.in-Some.found.now user) (sym c.user_of.ensures) ∙ sym c.covers.ensures ∙ c.if-not-covers.true) found yes'
