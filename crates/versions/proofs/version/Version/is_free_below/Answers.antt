use Rattle.std.proofs.Common.{◌≡◌, ◌<◌, All, Any, IsTrue, false, subst}
use Rattle.std.specs.Prelude.{MatchBool}
use Rattle.versions.specs.Levels.{Placement}
use Rattle.versions.specs.Ranges.{covers}
use Rattle.versions.proofs.version.Version.is_free_below.Goals as goal

pub returns : goal.returns
returns g c =
    let cmp = g.K.KeyOrder.cmp in
    subst (λ (v : Placement). MatchBool c.is_free_below.result
    (All (λ placed. c.args.level < placed.level → covers cmp placed c.args.user.now ≡ false) v.tables)
    (Any (λ placed. (c.args.level < placed.level) × IsTrue (covers cmp placed c.args.user.now)) v.tables)) c.self.view_is
    (rw c.deref.ensures.value at c.is_free_below.ensures)
