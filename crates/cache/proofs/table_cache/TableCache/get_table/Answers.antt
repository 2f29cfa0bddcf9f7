use Rattle.std.proofs.Common.{refl, ap}
use Rattle.cache.proofs.HoldingTables.{reads_fetched, refused_fetched, told_fetched, fetched, fetched_if, holds_fetched}
use Rattle.cache.proofs.table_cache.TableCache.get_table.Goals as goal

pub returns-clause-reads : goal.returns-clause-reads
returns-clause-reads g c = reads_fetched g.K.KeyOrder.cmp c.args.number (g.S.Store.facts c.args.store.now) (g.S.Store.facts c.fetch.new.store) _ _ (ap g.S.Store.facts) _ c.fetch.ensures.answer

pub returns-clause-refused : goal.returns-clause-refused
returns-clause-refused g c = refused_fetched g.K.KeyOrder.cmp c.args.number (g.S.Store.facts c.args.store.now) (g.S.Store.facts c.fetch.new.store) _ _ (ap g.S.Store.facts) _ c.fetch.ensures.answer

pub returns-clause-told : goal.returns-clause-told
returns-clause-told g c = told_fetched g.K.KeyOrder.cmp c.args.number (g.S.Store.facts c.args.store.now) (g.S.Store.facts c.fetch.new.store) _ _ (ap g.S.Store.facts) _ c.fetch.ensures.answer

pub returns-clause-found : goal.returns-clause-found
returns-clause-found g c = λ content holds has t. fetched_if g.K.KeyOrder.cmp c.args.number (g.S.Store.facts c.args.store.now) (g.S.Store.facts c.fetch.new.store) _ _ (ap g.S.Store.facts) content c.args.self.now.tables
    (fetched g.K.KeyOrder.cmp c.args.number (g.S.Store.facts c.args.store.now) (g.S.Store.facts c.fetch.new.store) _ _ (ap g.S.Store.facts) content c.args.self.now.tables _ refl c.fetch.ensures.answer holds has t)

pub returns-clause-holds : goal.returns-clause-holds
returns-clause-holds g c = λ content holds has t. holds_fetched g.K.KeyOrder.cmp c.args.number (g.S.Store.facts c.args.store.now) (g.S.Store.facts c.fetch.new.store) _ _ (ap g.S.Store.facts) content c.args.self.now.tables c.fetch.new.self.tables c.fetch.ensures.kept holds
    (reads_fetched g.K.KeyOrder.cmp c.args.number (g.S.Store.facts c.args.store.now) (g.S.Store.facts c.fetch.new.store) _ _ (ap g.S.Store.facts) _ c.fetch.ensures.answer) t
    (fetched g.K.KeyOrder.cmp c.args.number (g.S.Store.facts c.args.store.now) (g.S.Store.facts c.fetch.new.store) _ _ (ap g.S.Store.facts) content c.args.self.now.tables _ refl c.fetch.ensures.answer holds has t)
