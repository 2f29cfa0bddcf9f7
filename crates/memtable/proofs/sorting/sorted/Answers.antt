use Rattle.std.proofs.Common.{rules, ap, map, List, ◌≡◌, ◌∙◌}
use Rattle.std.proofs.lemmas.Fn.{always_returns_same}
use Rattle.std.specs.Ordering.{is_lt}
use Rattle.memtable.specs.internal.Ranks.{number_of, ranked_cmp}
use Rattle.memtable.specs.declared.ranked.Ranked.{Ranked}
use Rattle.memtable.proofs.SortedEntries.{is_lawful, sorted-nodes}
use Rattle.memtable.proofs.sorting.sorted.Goals as goal

pub returns : goal.returns
returns g c =
    let cmp = g.K.KeyOrder.cmp in
    let total = g.met.K.KeyOrder.total in
    let sorted = c.sort_unstable_by.ensures.sorted (λ a b. is_lt (ranked_cmp cmp a b)) (is_lawful cmp total)
    (always_returns_same _ (λ a r. is_lt r ≡ is_lt (ranked_cmp cmp a.0.now a.1.0.now)) _
    (λ a r f' k. let both : (r ≡ ranked_cmp cmp a.0.now a.1.0.now) × (f' ≡ _) = search rules in (ap is_lt both.0, both.1))) in
    c.in_ok-nodes.ensures ∙ ap (λ (v : List Ranked). map number_of v) c.deref.ensures.value
    ∙ sorted-nodes cmp total c.args.entries.now g.met.K.KeyOrder.exact c.requires.new c.in_ok-ranked.ranked.items c.sort_unstable_by.new.self.items c.in_ok-ranked.ensures.numbers c.in_ok-ranked.ensures.entries
    c.sort_unstable_by.ensures.permutation sorted
