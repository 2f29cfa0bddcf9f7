use Rattle.std.proofs.Common.{subst}
use Rattle.std.specs.Prelude.{MatchBool}
use Rattle.versions.specs.Levels.{HasNumber, Placement}
use Rattle.versions.proofs.OwnNumbers.{has_number}
use Rattle.versions.proofs.version.Version.has_number.Goals as goal

pub returns : goal.returns
returns g c =
    let n = c.args.number in
    let b = c.self.inside in
    subst (λ (v : Placement). MatchBool c.is_among.result (HasNumber n v.tables) (HasNumber n v.tables → ⊥)) c.self.view_is
    (has_number c.is_among.result n b.tables.items b.numbers.items c.self.invariant.numbered (rw c.deref.ensures.value at c.is_among.ensures))
