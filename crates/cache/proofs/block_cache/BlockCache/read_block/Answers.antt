use Rattle.std.proofs.Common.{refl, ap, inl, inr}
use Rattle.cache.proofs.Holding.{answered, answered_if, holds_more, reads_any, refused_any}
use Rattle.cache.proofs.block_cache.BlockCache.read_block.Goals as goal

pub returns-clause-found : goal.returns-clause-found
returns-clause-found g c = λ content holds is t. answered_if g.K.KeyOrder.cmp content c.args.file c.args.index _
    (answered g.K.KeyOrder.cmp content c.args.self.now.blocks c.args.file c.args.index c.args.table.now (g.S.Store.facts c.args.store.now) (g.S.Store.facts c.fetch.new.source) _ _ _ refl c.fetch.ensures.answer holds is t)

pub returns-clause-holds : goal.returns-clause-holds
returns-clause-holds g c = λ content holds is t. holds_more g.K.KeyOrder.cmp content c.args.self.now.blocks c.fetch.new.self.blocks c.args.file c.args.index _ c.fetch.ensures.kept holds
    (answered g.K.KeyOrder.cmp content c.args.self.now.blocks c.args.file c.args.index c.args.table.now (g.S.Store.facts c.args.store.now) (g.S.Store.facts c.fetch.new.source) _ _ _ refl c.fetch.ensures.answer holds is t)

pub returns-clause-reads : goal.returns-clause-reads
returns-clause-reads g c = reads_any g.K.KeyOrder.cmp c.args.index c.args.table.now (g.S.Store.facts c.args.store.now) (g.S.Store.facts c.fetch.new.source) _ _ (ap g.S.Store.facts) _ c.fetch.ensures.answer

pub returns-clause-refused : goal.returns-clause-refused
returns-clause-refused g c = refused_any g.K.KeyOrder.cmp c.args.index c.args.table.now (g.S.Store.facts c.args.store.now) (g.S.Store.facts c.fetch.new.source) _ _ (ap g.S.Store.facts) _ c.fetch.ensures.answer

pub returns-clause-kept : goal.returns-clause-kept
returns-clause-kept g c = λ kept h. elim (c.fetch.ensures.kept kept h) [
  | inl was ↦ inl was
  | inr new ↦ inr new.0
]
