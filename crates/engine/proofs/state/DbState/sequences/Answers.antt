use Rattle.std.proofs.Common.{◌∙◌}
use Rattle.std.proofs.lemmas.List.Sorted.{IsNonDecreasingBy-from_sort}
use Rattle.engine.proofs.Sequences.{each_kept, last_kept, live_kept, only_kept}
use Rattle.engine.proofs.state.DbState.sequences.Goals as goal

pub returns-clause-rising : goal.returns-clause-rising
returns-clause-rising g c = IsNonDecreasingBy-from_sort (λ x. x) c.sort_unstable.new.self.items c.sort_unstable.ensures.sorted

pub returns-clause-last : goal.returns-clause-last
returns-clause-last g c = last_kept c.loop-sequence.sequences.items c.push-2.new.self.items c.sort_unstable.new.self.items c.args.last c.in_ok-push-2.ensures.items c.sort_unstable.ensures.permutation

pub returns-clause-live : goal.returns-clause-live
returns-clause-live g c =
    live_kept c.args.self.now.snapshots c.loop-sequence.yielded _ _ _ c.next.result c.loop-sequence.sequences.items c.push-2.new.self.items c.sort_unstable.new.self.items c.args.last c.loop-sequence.invariant
    (c.into_iter-sequence-iterator.ensures.into_iter_gives ∙ c.values-sequence-items.ensures.rest) c.loop-sequence.yielded_by c.in-None.is c.next.ensures.steps c.in_ok-push-2.ensures.items c.sort_unstable.ensures.permutation

pub returns-clause-only : goal.returns-clause-only
returns-clause-only g c =
    only_kept c.args.self.now.snapshots c.loop-sequence.yielded _ _ _ c.next.result c.loop-sequence.sequences.items c.push-2.new.self.items c.sort_unstable.new.self.items c.args.last c.loop-sequence.invariant
    (c.into_iter-sequence-iterator.ensures.into_iter_gives ∙ c.values-sequence-items.ensures.rest) c.loop-sequence.yielded_by c.in-None.is c.next.ensures.steps c.in_ok-push-2.ensures.items c.sort_unstable.ensures.permutation

pub returns-clause-each : goal.returns-clause-each
returns-clause-each g c =
    each_kept c.args.self.now.snapshots c.loop-sequence.yielded _ _ _ c.next.result c.loop-sequence.sequences.items c.push-2.new.self.items c.sort_unstable.new.self.items c.args.last c.loop-sequence.invariant
    (c.into_iter-sequence-iterator.ensures.into_iter_gives ∙ c.values-sequence-items.ensures.rest) c.loop-sequence.yielded_by c.in-None.is c.next.ensures.steps c.in_ok-push-2.ensures.items c.sort_unstable.ensures.permutation
