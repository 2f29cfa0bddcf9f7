use Rattle.std.proofs.Common.{List, ℕ, sym, subst}
use Rattle.ikey.specs.Keys.{IsKey}
use Rattle.table_access.specs.Tables.{seen}
use Rattle.table_access.proofs.Entering.{standing_pair}
use Rattle.table_access.proofs.table_cursor.TableCursorCursorTables.key.Goals as goal

pub returns : goal.returns
returns g c = λ at index entry lists place_is entry_is.
    let p = standing_pair g.K.KeyOrder.cmp (seen (g.S.Store.facts c.args.source.now.store) c.args.source.now.tables c.args.source.now.blocks) c.args.self.now.placed c.args.self.now.table.value.frame c.args.self.now.here
    c.in-Some.here at index entry c.in-Some.is lists place_is entry_is in
    subst (λ (bytes : List ℕ). IsKey bytes entry.key) (sym (c.key.ensures p.inside p.pair p.stands p.pair_is)) p.is.key
