use Rattle.std.proofs.Common.{◌&&◌, ◌∙◌, refl, ℕ, List, String, map, take, subst, string_bytes}
use Rattle.std.specs.Prelude.{Contains}
use Rattle.std.specs.declared.alloc.Global.{Global}
use Rattle.std.proofs.lemmas.List.{take_all}
use Rattle.edits.specs.declared.names.FileName.{FileName}
use Rattle.directory_writes.specs.internal.Removal.{IsLeft, LeavesFew, RemovesNamed}
use Rattle.directory_writes.specs.Removal.{IsDead, IsLiveFile}
use Rattle.store.proofs.Stopping.{others_both, others_same}
use Rattle.directory_writes.proofs.StoreCalls.{touches_none, touches_both}
use Rattle.directory_writes.proofs.Cleaning.{removes_none, removes_more, names_more}
use Rattle.directory_writes.proofs.Losing.{loses_both, loses_none}
use Rattle.directory_writes.proofs.FewLeft.{Among, NoneWaits, few_more, few_none}
use Rattle.directory_writes.proofs.removal.remove_turn.Goals as goal

pub loop-name-init : goal.loop-name-init
loop-name-init g c =
    let left : FileName → Type 0 = IsLeft (IsLiveFile c.args.numbers.now (g.L.LiveTables.has c.args.live.now) (λ n. Contains c.args.both.now n)) (λ n. Contains c.args.both.now n) c.args.last in
    record { call = touches_none (g.S.Store.facts c.args.store.now); fails = refl; removes = removes_none (g.S.Store.facts c.args.store.now) left; few = few_none (g.S.Store.facts c.args.store.now) left; stops = λ f. loses_none (IsLiveFile c.args.numbers.now (g.L.LiveTables.has c.args.live.now) (λ n. Contains c.args.both.now n)) (g.S.Store.facts c.args.store.now); only = λ f. others_same (g.S.Store.facts c.args.store.now) (g.S.Store.facts c.args.store.now) (IsDead (IsLiveFile c.args.numbers.now (g.L.LiveTables.has c.args.live.now) (λ n. Contains c.args.both.now n))) refl refl refl }

pub loop-name-preserved : goal.loop-name-preserved
loop-name-preserved g c =
    let old = g.S.Store.facts c.args.store.now in
    let mid = g.S.Store.facts c.loop-name.store in
    let new = g.S.Store.facts c.remove_dead-removed.new.store in
    let left : FileName → Type 0 = IsLeft (IsLiveFile c.args.numbers.now (g.L.LiveTables.has c.args.live.now) (λ n. Contains c.args.both.now n)) (λ n. Contains c.args.both.now n) c.args.last in
    let done : List (List ℕ) = map string_bytes (take c.loop-name.name-index c.args.names.now) in
    let more = names_more c.args.names.now c.loop-name.name-index c.name-item.result c.as_str.result.now c.loop-name-test.true c.name-item.is c.as_str.ensures.value in
    record {
      call = touches_both old mid new c.loop-name.invariant.call c.remove_dead-removed.ensures.call;
      fails = c.remove_dead-removed.ensures.fails ∙ c.loop-name.invariant.fails;
      removes = subst (λ (names : List (List ℕ)). RemovesNamed old new left names (c.loop-name.gone && c.remove_dead-removed.result))
          more
          (removes_more old mid new left c.loop-name.invariant.call c.remove_dead-removed.ensures.call done c.as_str.result.now c.loop-name.gone c.remove_dead-removed.result
          c.loop-name.invariant.removes c.remove_dead-removed.ensures.removes);
      few = subst (λ (names : List (List ℕ)). LeavesFew old new left NoneWaits (Among names)) more
          (few_more old mid new left c.loop-name.invariant.call c.remove_dead-removed.ensures.call done c.as_str.result.now c.remove_dead-removed.result
          c.loop-name.invariant.few c.remove_dead-removed.ensures.few c.remove_dead-removed.ensures.removes);
      stops = λ f. loses_both (IsLiveFile c.args.numbers.now (g.L.LiveTables.has c.args.live.now) (λ n. Contains c.args.both.now n)) old mid new
          (c.loop-name.invariant.stops (c.remove_dead-removed.ensures.call.faithful f)) (c.remove_dead-removed.ensures.stops f);
      only = λ f. others_both old mid new (IsDead (IsLiveFile c.args.numbers.now (g.L.LiveTables.has c.args.live.now) (λ n. Contains c.args.both.now n)))
          (c.loop-name.invariant.only (c.remove_dead-removed.ensures.call.faithful f)) (c.remove_dead-removed.ensures.only f);
    }

pub returns-clause-call : goal.returns-clause-call
returns-clause-call g c = c.loop-name.invariant.call

pub returns-clause-removes : goal.returns-clause-removes
returns-clause-removes g c =
    let left : FileName → Type 0 = IsLeft (IsLiveFile c.args.numbers.now (g.L.LiveTables.has c.args.live.now) (λ n. Contains c.args.both.now n)) (λ n. Contains c.args.both.now n) c.args.last in
    subst (λ (names : List (String Global)). RemovesNamed (g.S.Store.facts c.args.store.now) (g.S.Store.facts c.loop-name.store) left (map string_bytes names) c.loop-name.gone)
    (take_all c.loop-name.name-index c.args.names.now c.loop-name-test.false) c.loop-name.invariant.removes

pub returns-clause-few : goal.returns-clause-few
returns-clause-few g c =
    let left : FileName → Type 0 = IsLeft (IsLiveFile c.args.numbers.now (g.L.LiveTables.has c.args.live.now) (λ n. Contains c.args.both.now n)) (λ n. Contains c.args.both.now n) c.args.last in
    subst (λ (names : List (String Global)). LeavesFew (g.S.Store.facts c.args.store.now) (g.S.Store.facts c.loop-name.store) left NoneWaits (Among (map string_bytes names)))
    (take_all c.loop-name.name-index c.args.names.now c.loop-name-test.false) c.loop-name.invariant.few

pub returns-clause-fails : goal.returns-clause-fails
returns-clause-fails g c = c.loop-name.invariant.fails

pub returns-clause-stops : goal.returns-clause-stops
returns-clause-stops g c = c.loop-name.invariant.stops

pub returns-clause-only : goal.returns-clause-only
returns-clause-only g c = c.loop-name.invariant.only
