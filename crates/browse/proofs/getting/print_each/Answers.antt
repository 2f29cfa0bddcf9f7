use Rattle.std.proofs.Common.{List, ℕ, get_or, refl, sym, subst}
use Rattle.std.proofs.lemmas.List.{drop_all}
use Rattle.ikey.specs.Orders.{order_of}
use Rattle.table.proofs.Steps.{reads_then}
use Rattle.reader.specs.Readers.{facts_of}
use Rattle.browse.specs.Browsing.{Gets, GetsEach}
use Rattle.browse.specs.declared.showing.Showing.TheVariants.{EachLine}
use Rattle.browse.proofs.Values.{goes_on, reads_none, stopped_at}
use Rattle.browse.proofs.getting.print_each.Goals as goal

pub loop-key-init : goal.loop-key-init
loop-key-init g c = record { stands = c.requires.stands; reads = reads_none (facts_of g.S.Store.facts c.args.reader.now); leads = λ new after status h. h }

pub loop-key-preserved : goal.loop-key-preserved
loop-key-preserved g c =
    let order = order_of g.K.KeyOrder.name g.K.KeyOrder.cmp in
    let facts = g.S.Store.facts in
    let old = facts_of facts c.loop-key.reader in
    let mid = facts_of facts c.print_key.new.reader in
    let before = g.W.Write.contents c.loop-key.writer in
    let between = g.W.Write.contents c.print_key.new.writer in
    record {
      stands = c.print_key.ensures.stands;
      reads = reads_then (facts_of facts c.args.reader.now) old mid c.loop-key.invariant.reads c.print_key.ensures.reads;
      leads = λ new after status rest. c.loop-key.invariant.leads new after status
          (goes_on order c.args.form c.args.keys.now c.loop-key.key-index c.key-item.result c.loop-key-test.true c.loop-key.worst old new before after status mid between c.in_ok-one.one c.max-worst.result
          (subst (λ (key : List ℕ). Gets order old mid key (EachLine c.args.form) before between c.in_ok-one.one) c.key-item.is c.in_ok-one.ensures.told)
          c.print_key.ensures.reads c.if-is_refused.ensures c.max-worst.ensures rest);
    }

pub returns-then-is_refused-clause-told : goal.returns-then-is_refused-clause-told
returns-then-is_refused-clause-told g c =
    let order = order_of g.K.KeyOrder.name g.K.KeyOrder.cmp in
    let facts = g.S.Store.facts in
    let old = facts_of facts c.loop-key.reader in
    let mid = facts_of facts c.print_key.new.reader in
    let before = g.W.Write.contents c.loop-key.writer in
    let between = g.W.Write.contents c.print_key.new.writer in
    let told = subst (λ (key : List ℕ). Gets order old mid key (EachLine c.args.form) before between c.in_ok-one.one) c.key-item.is c.in_ok-one.ensures.told in
    c.loop-key.invariant.leads mid between 1
    (stopped_at order c.args.form c.args.keys.now c.loop-key.key-index c.key-item.result c.loop-key-test.true c.loop-key.worst old mid before between 1
    (subst (λ (n : ℕ). Gets order old mid (get_or c.args.keys.now c.loop-key.key-index c.key-item.result) (EachLine c.args.form) before between n) c.if-is_refused.ensures told) refl)

pub returns-clause-told : goal.returns-clause-told
returns-clause-told g c =
    let order = order_of g.K.KeyOrder.name g.K.KeyOrder.cmp in
    let now = facts_of g.S.Store.facts c.loop-key.reader in
    let written = g.W.Write.contents c.loop-key.writer in
    c.loop-key.invariant.leads now written c.loop-key.worst
    (subst (λ (ks : List (List ℕ)). GetsEach order c.args.form ks c.loop-key.worst now now written written c.loop-key.worst) (sym (drop_all c.loop-key.key-index c.args.keys.now c.loop-key-test.false)) (refl, refl, refl))
