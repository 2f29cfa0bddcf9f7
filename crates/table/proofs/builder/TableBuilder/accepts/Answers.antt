use Rattle.std.proofs.Common.{subst}
use Rattle.std.specs.Prelude.{MatchBool}
use Rattle.ikey.specs.KeyViews.{key_of}
use Rattle.table.specs.Building.{Building, MayFollow}
use Rattle.table.proofs.Kept.{found_key, follows_block}
use Rattle.table.proofs.builder.TableBuilder.accepts.Goals as goal

pub returns : goal.returns
returns g c =
    let cmp = g.K.KeyOrder.cmp in
    let key = c.args.key.now in
    let r = c.is_above_last-2.result in
    let found = found_key c.unpack.result _ c.if-is_none.ensures c.unpack.ensures.found in
    subst (λ (v : Building). MatchBool r (MayFollow cmp v key) (MayFollow cmp v key → ⊥)) c.self.view_is
    (follows_block cmp _ key r c.if-is_empty.ensures (key_of found.0, found.1) c.is_above_last-2.ensures)
