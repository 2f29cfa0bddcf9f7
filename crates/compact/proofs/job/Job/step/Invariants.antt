use Rattle.std.proofs.Common.{◌≡◌, ◌≤◌, ◌+◌, ◌++◌, List, IsTrue, length}
use Rattle.cursor.specs.Cuts.{Cut}
use Rattle.ikey.specs.Entries.{InternalEntry}
use Rattle.compact.specs.Leaving.{LeavesOthers}
use Rattle.compact.specs.Merging.{IsBetween, IsLimited, KeepsMine}
use Rattle.compact.specs.Outputs.{IsMineUpTo, NumbersOn, WritesTables}
use Rattle.compact.proofs.job.Job.step.Given as goal

abbrev pub invariant-loop-merged : goal.invariant-loop-merged
invariant-loop-merged g l =
    (l.initial.numbers.next ≤ l.numbers.next)
    × (l.self.selection.snapshots ≡ l.initial.self.selection.snapshots)
    × ((came : List InternalEntry) (rest : List InternalEntry) → IsTrue (g.S.Store.facts (g.H.HasStore.store_of l.source)).faithful
    → IsBetween g.K.KeyOrder.cmp (g.D.DeeperFiles.covers l.deeper) g.S.Store g.H.HasStore g.C.Cursor
    l.initial.self l.initial.source l.initial.numbers.next came rest
    → (front : List InternalEntry) × (back : List InternalEntry) × (rest ≡ front ++ back) × (length front ≡ l.merged)
    × IsBetween g.K.KeyOrder.cmp (g.D.DeeperFiles.covers l.deeper) g.S.Store g.H.HasStore g.C.Cursor
    l.self l.source l.numbers.next (came ++ front) back
    × (IsLimited g.C.Cursor.limited l.self l.source → IsLimited g.C.Cursor.limited l.initial.self l.initial.source)
    × ((cut : Cut) → g.C.Cursor.torn l.self.cursor l.source cut → g.C.Cursor.torn l.initial.self.cursor l.initial.source cut))
    × KeepsMine l.initial.self.outputs l.initial.numbers.next l.self.outputs l.numbers.next
    × WritesTables (g.S.Store.facts (g.H.HasStore.store_of l.initial.source)) (g.S.Store.facts (g.H.HasStore.store_of l.source)) (IsMineUpTo l.initial.self.outputs l.initial.numbers.next l.numbers.next)
    × (l.self.plan ≡ l.initial.self.plan)
    × (l.numbers.next ≤ l.initial.numbers.next + l.merged)
    × NumbersOn l.initial.self.outputs l.initial.numbers.next l.self.outputs l.numbers.next
    × ((g.S.Store.facts (g.H.HasStore.store_of l.source)).failures ≡ (g.S.Store.facts (g.H.HasStore.store_of l.initial.source)).failures)
    × LeavesOthers g.S.Store.facts g.H.HasStore.store_of g.H.HasStore.with_store g.C.Cursor.keeps g.C.Cursor.leaves g.C.Cursor.over (IsMineUpTo l.initial.self.outputs l.initial.numbers.next l.numbers.next) l.initial.self.cursor l.self.cursor l.initial.source l.source
