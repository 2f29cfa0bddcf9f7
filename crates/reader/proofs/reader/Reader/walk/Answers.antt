use Rattle.std.proofs.Common.{ℕ, subst, arith}
use Rattle.ikey.specs.Orders.{order_of}
use Rattle.db_cursor.specs.Scans.{BeginsScan, MayBeginScan}
use Rattle.reader.specs.Readers.{tables_of, whole_of}
use Rattle.reader.proofs.MayShown.{may_start}
use Rattle.reader.proofs.Starting.{starts_walk}
use Rattle.reader.proofs.reader.Reader.walk.Goals as goal

pub returns-clause-begins : goal.returns-clause-begins
returns-clause-begins g c = λ contents shown.
    let order = order_of g.K.KeyOrder.name g.K.KeyOrder.cmp in
    let whole = whole_of g.S.Store.facts c.args.self.now in
    let tables = tables_of c.args.self.now in
    let scan = c.in_ok-scan.scan in
    let made = c.in_ok-scan.ensures in
    let begins = subst (λ (n : ℕ). BeginsScan order tables n whole scan) c.last-last.ensures.is made.begins in
    starts_walk order whole tables scan contents c.same_view.ensures c.version_of_directory.ensures g.met.K.KeyOrder.total g.met.K.KeyOrder.exact (omega (arith, made.sequence)) begins made.tables made.within shown

pub returns-clause-may : goal.returns-clause-may
returns-clause-may g c = λ contents shown.
    let order = order_of g.K.KeyOrder.name g.K.KeyOrder.cmp in
    let whole = whole_of g.S.Store.facts c.args.self.now in
    let tables = tables_of c.args.self.now in
    let scan = c.in_ok-scan.scan in
    let made = c.in_ok-scan.ensures in
    may_start order whole tables scan contents (omega (arith, made.sequence)) (subst (λ (n : ℕ). MayBeginScan order tables n whole scan) c.last-last.ensures.is made.may) shown
