use Rattle.std.proofs.Common.{subst}
use Rattle.std.specs.Option.{IsSome}
use Rattle.block.specs.Written.{last_key}
use Rattle.table.specs.Building.{Building}
use Rattle.table.proofs.Adding.{whole_ended}
use Rattle.table.proofs.Rising.{last_there}
use Rattle.table.proofs.Storing.{writes_none}
use Rattle.table.proofs.builder.TableBuilder.end_last_block.Goals as goal

pub end_block-requires : goal.end_block-requires
end_block-requires g c =
    record { some = subst (λ (v : Building). IsSome (last_key v.block)) c.self.view_is (last_there c.self.inside.block.pairs c.if-is_empty.ensures) }

pub returns-clause-whole : goal.returns-clause-whole
returns-clause-whole g c = λ pairs t some h.
    whole_ended g.K.KeyOrder.cmp (g.S.Store.facts c.args.store.now) (g.S.Store.facts c.end_block.new.store) c.args.self.now c.end_block.new.self pairs t c.in_ok-end_block.ensures.ended some h

pub returns-then-is_empty-clause-writes : goal.returns-then-is_empty-clause-writes
returns-then-is_empty-clause-writes g c = writes_none (g.S.Store.facts c.args.store.now) c.args.self.now.name
