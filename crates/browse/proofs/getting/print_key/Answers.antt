use Rattle.std.proofs.Common.{List, ℕ, refl, subst}
use Rattle.ikey.specs.Orders.{order_of}
use Rattle.reader.specs.Readers.{facts_of}
use Rattle.browse.specs.Browsing.{IsRead}
use Rattle.browse.specs.declared.showing.Showing.TheVariants.{EachLine}
use Rattle.browse.proofs.Scanned.{is_read}
use Rattle.browse.proofs.Values.{gets_so, reads_none, still_open}
use Rattle.browse.proofs.getting.print_key.Goals as goal

pub returns-clause-told : goal.returns-clause-told
returns-clause-told g c =
    let order = order_of g.K.KeyOrder.name g.K.KeyOrder.cmp in
    let facts = g.S.Store.facts in
    let reader = c.args.reader.now in
    let old = facts_of facts reader in
    let new = c.get-answer.new.self in
    gets_so c.print_value.result order old (facts_of facts new) c.args.key.now (EachLine c.args.form) (g.W.Write.contents c.args.writer.now) (g.W.Write.contents c.print_value.new.writer) c.get-answer.result
    (subst (λ (key : List ℕ). IsRead order old (facts_of facts new) key c.get-answer.result) c.as_slice.ensures
    (is_read order g.met.K.KeyOrder.total facts old reader (reads_none old) refl c.requires.stands.shows c.requires.stands.there new c.get-answer.ensures.reads c.as_slice.result.now c.get-answer.result c.get-answer.ensures.found c.get-answer.ensures.refused))
    c.print_value.ensures.written c.print_value.ensures.ended

pub returns-clause-stands : goal.returns-clause-stands
returns-clause-stands g c =
    still_open (order_of g.K.KeyOrder.name g.K.KeyOrder.cmp) g.S.Store.facts c.args.reader.now c.get-answer.new.self c.requires.stands c.get-answer.ensures.reads c.get-answer.ensures.shows
