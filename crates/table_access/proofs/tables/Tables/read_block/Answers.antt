use Rattle.std.proofs.Common.{refl, sym, subst}
use Rattle.std.proofs.lemmas.Result.{err_from_is_err_and}
use Rattle.table_access.specs.Tables.{seen, SaysOf, IsOpenFrame}
use Rattle.table.specs.Frame.{Opened}
use Rattle.table.specs.Reading.{HasFile}
use Rattle.table_access.proofs.Carrying.{reads_both}
use Rattle.table_access.proofs.Knowing.{gathered_read, kept_read}
use Rattle.table_access.proofs.Sounding.{carries_block, no_block_of, no_table, says_block}
use Rattle.table_access.proofs.tables.Tables.read_block.Goals as goal

pub returns-in_err-table-clause-refused : goal.returns-in_err-table-clause-refused
returns-in_err-table-clause-refused g c =
    let old = seen (g.S.Store.facts c.args.self.now.store) c.args.self.now.tables c.args.self.now.blocks in
    let new = seen (g.S.Store.facts c.get_table.new.self.store) c.get_table.new.self.tables c.get_table.new.self.blocks in
    let p = err_from_is_err_and c.from_residual.result c.from_residual.ensures.1 in
    rw (p.1, p.2) (no_table g.K.KeyOrder.cmp c.in_err-table.field-0.0 old new c.args.number c.args.index c.in_err-table.ensures.refused)

pub returns-clause-carries : goal.returns-clause-carries
returns-clause-carries g c =
    let old = seen (g.S.Store.facts c.args.self.now.store) c.args.self.now.tables c.args.self.now.blocks in
    let mid = seen (g.S.Store.facts c.get_table.new.self.store) c.get_table.new.self.tables c.get_table.new.self.blocks in
    let new = seen (g.S.Store.facts c.read_block.new.store) c.get_table.new.self.tables c.read_block.new.self in
    let says = subst (λ (table : Opened). SaysOf g.K.KeyOrder.cmp old mid c.args.number (λ file. HasFile mid.facts table.name file × IsOpenFrame g.K.KeyOrder.cmp file table.frame)) (sym c.deref.ensures) c.in_ok-table.ensures.found in
    record {
      reads = reads_both old.facts mid.facts new.facts c.get_table.ensures.carries.reads c.read_block.ensures.reads;
      sound = λ t h. carries_block g.K.KeyOrder.cmp old mid new c.args.number c.args.index c.deref.result.now c.get_table.ensures.carries c.in_ok-table.ensures.stood c.read_block.ensures.reads says
          c.read_block.new.self.blocks refl c.read_block.ensures.holds t h;
      kept = λ t. kept_read g.K.KeyOrder.cmp old mid new.facts c.args.number c.read_block.new.self.blocks c.get_table.ensures.carries c.read_block.ensures.reads t
          (c.in_ok-table.ensures.known (c.read_block.ensures.reads.faithful t)) c.read_block.ensures.kept;
      gathered = gathered_read g.K.KeyOrder.cmp old mid new.facts c.args.number c.read_block.new.self.blocks c.get_table.ensures.carries c.read_block.ensures.kept;
    }

pub returns-clause-found : goal.returns-clause-found
returns-clause-found g c =
    let old = seen (g.S.Store.facts c.args.self.now.store) c.args.self.now.tables c.args.self.now.blocks in
    let mid = seen (g.S.Store.facts c.get_table.new.self.store) c.get_table.new.self.tables c.get_table.new.self.blocks in
    let new = seen (g.S.Store.facts c.read_block.new.store) c.get_table.new.self.tables c.read_block.new.self in
    let says = subst (λ (table : Opened). SaysOf g.K.KeyOrder.cmp old mid c.args.number (λ file. HasFile mid.facts table.name file × IsOpenFrame g.K.KeyOrder.cmp file table.frame)) (sym c.deref.ensures) c.in_ok-table.ensures.found in
    says_block g.K.KeyOrder.cmp old mid new c.args.number c.args.index c.deref.result.now _ c.get_table.ensures.carries c.read_block.ensures.reads says c.read_block.ensures.found

pub returns-clause-refused : goal.returns-clause-refused
returns-clause-refused g c =
    let old = seen (g.S.Store.facts c.args.self.now.store) c.args.self.now.tables c.args.self.now.blocks in
    let mid = seen (g.S.Store.facts c.get_table.new.self.store) c.get_table.new.self.tables c.get_table.new.self.blocks in
    let new = seen (g.S.Store.facts c.read_block.new.store) c.get_table.new.self.tables c.read_block.new.self in
    let says = subst (λ (table : Opened). SaysOf g.K.KeyOrder.cmp old mid c.args.number (λ file. HasFile mid.facts table.name file × IsOpenFrame g.K.KeyOrder.cmp file table.frame)) (sym c.deref.ensures) c.in_ok-table.ensures.found in
    no_block_of g.K.KeyOrder.cmp old mid new c.args.number c.args.index c.deref.result.now c.get_table.ensures.carries c.in_ok-table.ensures.stood c.read_block.ensures.reads says _ c.read_block.ensures.refused
