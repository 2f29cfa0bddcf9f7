use Rattle.std.proofs.Common.{refl, arith}
use Rattle.cache.specs.Tables.{table_at}
use Rattle.table_access.specs.Tables.{seen}
use Rattle.table_access.proofs.Knowing.{gathered_opened, hit_opened, kept_opened, known_if}
use Rattle.table_access.proofs.Sounding.{sound_opened, says_open}
use Rattle.table_access.proofs.tables.Tables.get_table.Goals as goal

pub returns-clause-carries : goal.returns-clause-carries
returns-clause-carries g c =
    let old = seen (g.S.Store.facts c.args.self.now.store) c.args.self.now.tables c.args.self.now.blocks in
    record {
      reads = c.get_table.ensures.reads;
      sound = λ t h. sound_opened g.K.KeyOrder.cmp old (g.S.Store.facts c.get_table.new.store) c.get_table.new.self.tables c.get_table.ensures.reads t
          (c.get_table.ensures.holds (table_at old.facts.files) h.tables (λ file there. there) t) h;
      kept = kept_opened g.K.KeyOrder.cmp old (g.S.Store.facts c.get_table.new.store) c.args.number (c.requires, omega arith) _ _ c.get_table.ensures.answer c.get_table.new.self.tables c.get_table.ensures.kept c.get_table.ensures.reads;
      gathered = gathered_opened old (g.S.Store.facts c.get_table.new.store) c.args.number _ c.get_table.new.self.tables c.get_table.ensures.kept;
    }

pub returns-clause-found : goal.returns-clause-found
returns-clause-found g c =
    let old = seen (g.S.Store.facts c.args.self.now.store) c.args.self.now.tables c.args.self.now.blocks in
    let new = seen (g.S.Store.facts c.get_table.new.store) c.get_table.new.self c.args.self.now.blocks in
    says_open g.K.KeyOrder.cmp old new c.args.number _ (λ sound t. c.get_table.ensures.found (table_at old.facts.files) sound.tables (λ file there. there) t)

pub returns-clause-known : goal.returns-clause-known
returns-clause-known g c =
    let old = seen (g.S.Store.facts c.args.self.now.store) c.args.self.now.tables c.args.self.now.blocks in
    known_if g.K.KeyOrder.cmp old (g.S.Store.facts c.get_table.new.store) c.args.number (c.requires, omega arith) _ _ c.get_table.result refl c.get_table.ensures.answer

pub returns-clause-hit : goal.returns-clause-hit
returns-clause-hit g c =
    let old = seen (g.S.Store.facts c.args.self.now.store) c.args.self.now.tables c.args.self.now.blocks in
    hit_opened g.K.KeyOrder.cmp old (g.S.Store.facts c.get_table.new.store) c.args.number (c.requires, omega arith) _ _ _ c.get_table.ensures.answer
