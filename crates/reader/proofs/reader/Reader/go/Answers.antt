use Rattle.std.proofs.Common.{arith}
use Rattle.ikey.specs.Orders.{order_of}
use Rattle.db_cursor.proofs.ScanSteps.{may_kept, scan_kept}
use Rattle.db_cursor.specs.Whole.{whole_in}
use Rattle.reader.specs.ReadOnly.{looked_at}
use Rattle.reader.specs.Readers.{tables_of, whole_of}
use Rattle.reader.proofs.MayShown.{may_be_kept, may_read}
use Rattle.reader.proofs.Shown.{shown_read, walks_kept}
use Rattle.reader.proofs.reader.Reader.go.Goals as goal

pub returns-clause-shows : goal.returns-clause-shows
returns-clause-shows g c = λ f contents shown.
    let new = whole_in (looked_at g.S.Store.facts) c.move_iterator.new.source in
    let moved = c.move_iterator.ensures.moved in
    shown_read (order_of g.K.KeyOrder.name g.K.KeyOrder.cmp) (whole_of g.S.Store.facts c.args.self.now) (tables_of c.args.self.now) contents shown new moved.carries moved.memory f

pub returns-clause-walks : goal.returns-clause-walks
returns-clause-walks g c = λ f scan.
    let new = whole_in (looked_at g.S.Store.facts) c.move_iterator.new.source in
    let moved = c.move_iterator.ensures.moved in
    walks_kept g.K.KeyOrder.cmp (λ scan. scan_kept g.K.KeyOrder.cmp scan) (whole_of g.S.Store.facts c.args.self.now) new (moved.keeps f) (omega (arith, moved.memory.last)) scan

pub returns-clause-may_show : goal.returns-clause-may_show
returns-clause-may_show g c = λ f contents shown.
    let new = whole_in (looked_at g.S.Store.facts) c.move_iterator.new.source in
    let moved = c.move_iterator.ensures.moved in
    may_read (order_of g.K.KeyOrder.name g.K.KeyOrder.cmp) (whole_of g.S.Store.facts c.args.self.now) (tables_of c.args.self.now) contents shown new moved.carries moved.memory f

pub returns-clause-may_walk : goal.returns-clause-may_walk
returns-clause-may_walk g c = λ f scan.
    let new = whole_in (looked_at g.S.Store.facts) c.move_iterator.new.source in
    let moved = c.move_iterator.ensures.moved in
    may_be_kept g.K.KeyOrder.cmp (λ scan. may_kept g.K.KeyOrder.cmp scan) (whole_of g.S.Store.facts c.args.self.now) new (moved.keeps f) (omega (arith, moved.memory.last)) scan
