use Rattle.std.proofs.Common.{sym, subst}
use Rattle.reader.specs.declared.movement.Movement.{Movement}
use Rattle.db_cursor.specs.Whole.{whole_in}
use Rattle.reader.specs.internal.Iterators.{destination}
use Rattle.reader.specs.internal.Motions.{motion_of}
use Rattle.db_cursor.specs.internal.Scanning.{IsScanned}
use Rattle.reader.proofs.moving.move_scan.Goals as goal

pub returns-in-First : goal.returns-in-First
returns-in-First g c =
    subst (λ (m : Movement). IsScanned g.K.KeyOrder.cmp (destination g.K.KeyOrder.cmp (motion_of m)) (whole_in g.S.Store.facts c.args.source.now) (whole_in g.S.Store.facts c.first.new.source) c.args.scan.now c.first.new.self c.first.result)
    (sym c.in-First.is) c.first.ensures

pub returns-in-Last : goal.returns-in-Last
returns-in-Last g c =
    subst (λ (m : Movement). IsScanned g.K.KeyOrder.cmp (destination g.K.KeyOrder.cmp (motion_of m)) (whole_in g.S.Store.facts c.args.source.now) (whole_in g.S.Store.facts c.last.new.source) c.args.scan.now c.last.new.self c.last.result)
    (sym c.in-Last.is) c.last.ensures

pub returns-in-Seek : goal.returns-in-Seek
returns-in-Seek g c =
    subst (λ (m : Movement). IsScanned g.K.KeyOrder.cmp (destination g.K.KeyOrder.cmp (motion_of m)) (whole_in g.S.Store.facts c.args.source.now) (whole_in g.S.Store.facts c.seek.new.source) c.args.scan.now c.seek.new.self c.seek.result)
    (sym c.in-Seek.is) c.seek.ensures

pub returns-in-Next : goal.returns-in-Next
returns-in-Next g c =
    subst (λ (m : Movement). IsScanned g.K.KeyOrder.cmp (destination g.K.KeyOrder.cmp (motion_of m)) (whole_in g.S.Store.facts c.args.source.now) (whole_in g.S.Store.facts c.next.new.source) c.args.scan.now c.next.new.self c.next.result)
    (sym c.in-Next.is) c.next.ensures

pub returns-in-Prev : goal.returns-in-Prev
returns-in-Prev g c =
    subst (λ (m : Movement). IsScanned g.K.KeyOrder.cmp (destination g.K.KeyOrder.cmp (motion_of m)) (whole_in g.S.Store.facts c.args.source.now) (whole_in g.S.Store.facts c.prev.new.source) c.args.scan.now c.prev.new.self c.prev.result)
    (sym c.in-Prev.is) c.prev.ensures
