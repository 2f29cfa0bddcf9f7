use Rattle.std.proofs.Common.{ℕ, List, Option, Some, None, subst, arith}
use Rattle.std.proofs.lemmas.Result.{err_from_is_err_and}
use Rattle.ikey.specs.Orders.{order_of}
use Rattle.ikey.specs.Sources.{IsAnswer}
use Rattle.cursor.specs.Moves.{Refuses}
use Rattle.memtables.specs.Memories.{logged_in}
use Rattle.memtables.specs.PlaceLaws.{left_there}
use Rattle.version_get.specs.Gets.{HasNoTablesOf, IsOneTooLong, SaysOfEach}
use Rattle.db_cursor.proofs.ScanSteps.{may_kept, scan_kept}
use Rattle.db_cursor.specs.Whole.{Whole, whole_in}
use Rattle.table_access.specs.Tables.{seen}
use Rattle.versions.specs.Levels.{Placement}
use Rattle.reader.proofs.MayShown.{may_answer, may_be_kept, may_read, shown_may, tables_may_answer}
use Rattle.reader.proofs.Shown.{keeps_read, shown_read, tables_refused, walks_kept}
use Rattle.reader.proofs.reading.value_of.Goals as goal

pub returns-in-Some-clause-may : goal.returns-in-Some-clause-may
returns-in-Some-clause-may g c = λ f contents shown.
    let whole = whole_in g.S.Store.facts c.args.source.now in
    let A = λ (n : ℕ). IsAnswer (logged_in whole.memory) n c.args.key.now (Some c.in-Some.value) in
    let a = subst A c.last-last.ensures.is (subst (λ (o : Option (Option (List ℕ))). IsAnswer (logged_in whole.memory) c.last-last.result c.args.key.now o) c.in-Some.is c.in_ok-value.ensures) in
    may_answer (order_of g.K.KeyOrder.name g.K.KeyOrder.cmp) whole c.args.version.now.value.tables contents shown c.newest_in_front.ensures c.args.key.now c.in-Some.value a

pub returns-in-Some-clause-found : goal.returns-in-Some-clause-found
returns-in-Some-clause-found g c = λ f contents shown.
    let order = order_of g.K.KeyOrder.name g.K.KeyOrder.cmp in
    let whole = whole_in g.S.Store.facts c.args.source.now in
    returns-in-Some-clause-may g c f contents (shown_may order whole c.args.version.now.value.tables contents c.same_view.ensures c.version_of_directory.ensures g.met.K.KeyOrder.total g.met.K.KeyOrder.exact shown)

pub returns-in_err-value-2-clause-shows : goal.returns-in_err-value-2-clause-shows
returns-in_err-value-2-clause-shows g c = λ f contents shown.
    let order = order_of g.K.KeyOrder.name g.K.KeyOrder.cmp in
    let whole = whole_in g.S.Store.facts c.args.source.now in
    let tables = c.args.version.now.value.tables in
    let read = c.value_in_tables.new.source in
    let new : Whole = record { seen = seen (g.S.Store.facts read.store) read.tables read.blocks; memory = whole.memory } in
    shown_read order whole tables contents shown new c.value_in_tables.ensures.carries (left_there whole.memory) f

pub returns-in_err-value-2-clause-may_show : goal.returns-in_err-value-2-clause-may_show
returns-in_err-value-2-clause-may_show g c = λ f contents shown.
    let order = order_of g.K.KeyOrder.name g.K.KeyOrder.cmp in
    let whole = whole_in g.S.Store.facts c.args.source.now in
    let tables = c.args.version.now.value.tables in
    let read = c.value_in_tables.new.source in
    let new : Whole = record { seen = seen (g.S.Store.facts read.store) read.tables read.blocks; memory = whole.memory } in
    may_read order whole tables contents shown new c.value_in_tables.ensures.carries (left_there whole.memory) f

pub returns-in_err-value-2-clause-walks : goal.returns-in_err-value-2-clause-walks
returns-in_err-value-2-clause-walks g c = λ f scan.
    let cmp = g.K.KeyOrder.cmp in
    let whole = whole_in g.S.Store.facts c.args.source.now in
    let read = c.value_in_tables.new.source in
    let new : Whole = record { seen = seen (g.S.Store.facts read.store) read.tables read.blocks; memory = whole.memory } in
    walks_kept cmp (λ scan. scan_kept cmp scan) whole new (keeps_read cmp whole new c.value_in_tables.ensures.carries (left_there whole.memory) f) (omega arith) scan

pub returns-in_err-value-2-clause-may_walk : goal.returns-in_err-value-2-clause-may_walk
returns-in_err-value-2-clause-may_walk g c = λ f scan.
    let cmp = g.K.KeyOrder.cmp in
    let whole = whole_in g.S.Store.facts c.args.source.now in
    let read = c.value_in_tables.new.source in
    let new : Whole = record { seen = seen (g.S.Store.facts read.store) read.tables read.blocks; memory = whole.memory } in
    may_be_kept cmp (λ scan. may_kept cmp scan) whole new (keeps_read cmp whole new c.value_in_tables.ensures.carries (left_there whole.memory) f) (omega arith) scan

pub returns-in_err-value-2-clause-refused : goal.returns-in_err-value-2-clause-refused
returns-in_err-value-2-clause-refused g c =
    let p = err_from_is_err_and c.from_residual-in_err-value-2.result c.from_residual-in_err-value-2.ensures.1 in
    let order = order_of g.K.KeyOrder.name g.K.KeyOrder.cmp in
    let whole = whole_in g.S.Store.facts c.args.source.now in
    let tables = c.args.version.now.value.tables in
    let read = c.value_in_tables.new.source in
    let new : Whole = record { seen = seen (g.S.Store.facts read.store) read.tables read.blocks; memory = whole.memory } in
    let refused = subst (λ (v : Placement). Refuses c.in_err-value-2.field-0.0 whole.seen.facts new.seen.facts (HasNoTablesOf order whole.seen v.tables) (IsOneTooLong order whole.seen v.tables)) c.deref.ensures c.in_err-value-2.ensures.refused in
    rw (p.1, p.2) (tables_refused order c.version_of_directory.ensures g.met.K.KeyOrder.total g.met.K.KeyOrder.exact whole tables new c.in_err-value-2.field-0.0 c.in_err-value-2.ensures.still refused)

pub returns-in-Some-2-clause-may : goal.returns-in-Some-2-clause-may
returns-in-Some-2-clause-may g c = λ f contents shown.
    let order = order_of g.K.KeyOrder.name g.K.KeyOrder.cmp in
    let whole = whole_in g.S.Store.facts c.args.source.now in
    let tables = c.args.version.now.value.tables in
    let read = c.value_in_tables.new.source in
    let new : Whole = record { seen = seen (g.S.Store.facts read.store) read.tables read.blocks; memory = whole.memory } in
    let L = λ (n : ℕ). IsAnswer (logged_in whole.memory) n c.args.key.now None in
    let T = λ (n : ℕ). SaysOfEach order whole.seen new.seen tables c.args.key.now n (Some c.in-Some-2.value) in
    let unseen = subst L c.last-last.ensures.is (subst (λ (o : Option (Option (List ℕ))). IsAnswer (logged_in whole.memory) c.last-last.result c.args.key.now o) c.in_default.is c.in_ok-value.ensures) in
    let says = subst (λ (v : Placement). SaysOfEach order whole.seen new.seen v.tables c.args.key.now c.last-last.result c.in_ok-value-2.field-0) c.deref.ensures c.in_ok-value-2.ensures.may in
    tables_may_answer order whole tables contents shown c.unseen_in_front.ensures c.args.key.now new.seen (Some c.in-Some-2.value) f unseen (subst T c.last-last.ensures.is (subst (λ (o : Option (Option (List ℕ))). SaysOfEach order whole.seen new.seen tables c.args.key.now c.last-last.result o) c.in-Some-2.is says))

pub returns-in-Some-2-clause-found : goal.returns-in-Some-2-clause-found
returns-in-Some-2-clause-found g c = λ f contents shown.
    let order = order_of g.K.KeyOrder.name g.K.KeyOrder.cmp in
    let whole = whole_in g.S.Store.facts c.args.source.now in
    returns-in-Some-2-clause-may g c f contents (shown_may order whole c.args.version.now.value.tables contents c.same_view.ensures c.version_of_directory.ensures g.met.K.KeyOrder.total g.met.K.KeyOrder.exact shown)

pub returns-in-Some-2-clause-shows : goal.returns-in-Some-2-clause-shows
returns-in-Some-2-clause-shows g c = λ f contents shown.
    let order = order_of g.K.KeyOrder.name g.K.KeyOrder.cmp in
    let whole = whole_in g.S.Store.facts c.args.source.now in
    let tables = c.args.version.now.value.tables in
    let read = c.value_in_tables.new.source in
    let new : Whole = record { seen = seen (g.S.Store.facts read.store) read.tables read.blocks; memory = whole.memory } in
    shown_read order whole tables contents shown new c.value_in_tables.ensures.carries (left_there whole.memory) f

pub returns-in-Some-2-clause-may_show : goal.returns-in-Some-2-clause-may_show
returns-in-Some-2-clause-may_show g c = λ f contents shown.
    let order = order_of g.K.KeyOrder.name g.K.KeyOrder.cmp in
    let whole = whole_in g.S.Store.facts c.args.source.now in
    let tables = c.args.version.now.value.tables in
    let read = c.value_in_tables.new.source in
    let new : Whole = record { seen = seen (g.S.Store.facts read.store) read.tables read.blocks; memory = whole.memory } in
    may_read order whole tables contents shown new c.value_in_tables.ensures.carries (left_there whole.memory) f

pub returns-in-Some-2-clause-walks : goal.returns-in-Some-2-clause-walks
returns-in-Some-2-clause-walks g c = λ f scan.
    let cmp = g.K.KeyOrder.cmp in
    let whole = whole_in g.S.Store.facts c.args.source.now in
    let read = c.value_in_tables.new.source in
    let new : Whole = record { seen = seen (g.S.Store.facts read.store) read.tables read.blocks; memory = whole.memory } in
    walks_kept cmp (λ scan. scan_kept cmp scan) whole new (keeps_read cmp whole new c.value_in_tables.ensures.carries (left_there whole.memory) f) (omega arith) scan

pub returns-in-Some-2-clause-may_walk : goal.returns-in-Some-2-clause-may_walk
returns-in-Some-2-clause-may_walk g c = λ f scan.
    let cmp = g.K.KeyOrder.cmp in
    let whole = whole_in g.S.Store.facts c.args.source.now in
    let read = c.value_in_tables.new.source in
    let new : Whole = record { seen = seen (g.S.Store.facts read.store) read.tables read.blocks; memory = whole.memory } in
    may_be_kept cmp (λ scan. may_kept cmp scan) whole new (keeps_read cmp whole new c.value_in_tables.ensures.carries (left_there whole.memory) f) (omega arith) scan

pub returns-in-None-clause-may : goal.returns-in-None-clause-may
returns-in-None-clause-may g c = λ f contents shown.
    let order = order_of g.K.KeyOrder.name g.K.KeyOrder.cmp in
    let whole = whole_in g.S.Store.facts c.args.source.now in
    let tables = c.args.version.now.value.tables in
    let read = c.value_in_tables.new.source in
    let new : Whole = record { seen = seen (g.S.Store.facts read.store) read.tables read.blocks; memory = whole.memory } in
    let L = λ (n : ℕ). IsAnswer (logged_in whole.memory) n c.args.key.now None in
    let T = λ (n : ℕ). SaysOfEach order whole.seen new.seen tables c.args.key.now n None in
    let unseen = subst L c.last-last.ensures.is (subst (λ (o : Option (Option (List ℕ))). IsAnswer (logged_in whole.memory) c.last-last.result c.args.key.now o) c.in_default.is c.in_ok-value.ensures) in
    let says = subst (λ (v : Placement). SaysOfEach order whole.seen new.seen v.tables c.args.key.now c.last-last.result c.in_ok-value-2.field-0) c.deref.ensures c.in_ok-value-2.ensures.may in
    tables_may_answer order whole tables contents shown c.unseen_in_front.ensures c.args.key.now new.seen None f unseen (subst T c.last-last.ensures.is (subst (λ (o : Option (Option (List ℕ))). SaysOfEach order whole.seen new.seen tables c.args.key.now c.last-last.result o) c.in-None.is says))

pub returns-in-None-clause-found : goal.returns-in-None-clause-found
returns-in-None-clause-found g c = λ f contents shown.
    let order = order_of g.K.KeyOrder.name g.K.KeyOrder.cmp in
    let whole = whole_in g.S.Store.facts c.args.source.now in
    returns-in-None-clause-may g c f contents (shown_may order whole c.args.version.now.value.tables contents c.same_view.ensures c.version_of_directory.ensures g.met.K.KeyOrder.total g.met.K.KeyOrder.exact shown)

pub returns-in-None-clause-shows : goal.returns-in-None-clause-shows
returns-in-None-clause-shows g c = λ f contents shown.
    let order = order_of g.K.KeyOrder.name g.K.KeyOrder.cmp in
    let whole = whole_in g.S.Store.facts c.args.source.now in
    let tables = c.args.version.now.value.tables in
    let read = c.value_in_tables.new.source in
    let new : Whole = record { seen = seen (g.S.Store.facts read.store) read.tables read.blocks; memory = whole.memory } in
    shown_read order whole tables contents shown new c.value_in_tables.ensures.carries (left_there whole.memory) f

pub returns-in-None-clause-may_show : goal.returns-in-None-clause-may_show
returns-in-None-clause-may_show g c = λ f contents shown.
    let order = order_of g.K.KeyOrder.name g.K.KeyOrder.cmp in
    let whole = whole_in g.S.Store.facts c.args.source.now in
    let tables = c.args.version.now.value.tables in
    let read = c.value_in_tables.new.source in
    let new : Whole = record { seen = seen (g.S.Store.facts read.store) read.tables read.blocks; memory = whole.memory } in
    may_read order whole tables contents shown new c.value_in_tables.ensures.carries (left_there whole.memory) f

pub returns-in-None-clause-walks : goal.returns-in-None-clause-walks
returns-in-None-clause-walks g c = λ f scan.
    let cmp = g.K.KeyOrder.cmp in
    let whole = whole_in g.S.Store.facts c.args.source.now in
    let read = c.value_in_tables.new.source in
    let new : Whole = record { seen = seen (g.S.Store.facts read.store) read.tables read.blocks; memory = whole.memory } in
    walks_kept cmp (λ scan. scan_kept cmp scan) whole new (keeps_read cmp whole new c.value_in_tables.ensures.carries (left_there whole.memory) f) (omega arith) scan

pub returns-in-None-clause-may_walk : goal.returns-in-None-clause-may_walk
returns-in-None-clause-may_walk g c = λ f scan.
    let cmp = g.K.KeyOrder.cmp in
    let whole = whole_in g.S.Store.facts c.args.source.now in
    let read = c.value_in_tables.new.source in
    let new : Whole = record { seen = seen (g.S.Store.facts read.store) read.tables read.blocks; memory = whole.memory } in
    may_be_kept cmp (λ scan. may_kept cmp scan) whole new (keeps_read cmp whole new c.value_in_tables.ensures.carries (left_there whole.memory) f) (omega arith) scan
