use Rattle.std.proofs.Common.{rules, ap, refl, List, ◌≡◌, subst}
use Rattle.std.proofs.lemmas.Fn.{always_returns_same}
use Rattle.std.proofs.lemmas.List.{take_all}
use Rattle.std.specs.Ordering.{is_lt}
use Rattle.ikey.specs.Orders.{order_of}
use Rattle.ikey.specs.declared.entry.Entry.{Entry}
use Rattle.recover.specs.internal.Merging.{age_cmp, AreNotesOf}
use Rattle.recover.proofs.LoggedNotes.{is_lawful, logged_of, notes_more}
use Rattle.recover.proofs.logged.oldest_first.Goals as goal

pub returns : goal.returns
returns g c =
    let order = order_of g.K.KeyOrder.name g.K.KeyOrder.cmp in
    let total = g.met.K.KeyOrder.total in
    let sorted = c.sort_unstable_by.ensures.sorted (λ a b. is_lt (age_cmp g.K.KeyOrder.cmp a b)) (is_lawful order total)
    (always_returns_same _ (λ a r. is_lt r ≡ is_lt (age_cmp g.K.KeyOrder.cmp a.0.now a.1.0.now)) _
    (λ a r f' k. let both : (r ≡ age_cmp g.K.KeyOrder.cmp a.0.now a.1.0.now) × (f' ≡ _) = search rules in (ap is_lt both.0, both.1))) in
    let N : List Entry → Type 0 = λ entries. AreNotesOf entries c.loop-entry.logged.items in
    let noted = subst N (take_all c.loop-entry.entry-index c.args.entries.now c.loop-entry-test.false) c.loop-entry.invariant in
    logged_of order total g.met.K.KeyOrder.exact c.args.entries.now c.loop-entry.logged.items c.sort_unstable_by.new.self.items noted c.sort_unstable_by.ensures.permutation sorted

pub loop-entry-preserved : goal.loop-entry-preserved
loop-entry-preserved g c =
    rw c.in_ok-push.ensures.items (notes_more c.args.entries.now c.loop-entry.logged.items c.loop-entry.entry-index c.entry-item.result _
    c.loop-entry-test.true c.entry-item.is (c.as_slice.ensures, refl) c.loop-entry.invariant)
