use Rattle.std.proofs.Common.{map, string_bytes}
use Rattle.std.specs.Prelude.{Contains}
use Rattle.edits.specs.declared.names.FileName.{FileName}
use Rattle.directory_writes.specs.Removal.{IsDead, IsLiveFile}
use Rattle.store.proofs.Stopping.{others_both}
use Rattle.directory_writes.proofs.Cleaning.{both_turns, first_turn, table_both, table_first}
use Rattle.directory_writes.proofs.Losing.{loses_both}
use Rattle.directory_writes.proofs.FewLeft.{few_both, few_first}
use Rattle.directory_writes.proofs.removal.remove_listed.Goals as goal

pub returns-then-not-remove_turn-clause-removes : goal.returns-then-not-remove_turn-clause-removes
returns-then-not-remove_turn-clause-removes g c =
    let live : FileName → Type 0 = IsLiveFile c.args.numbers.now (g.L.LiveTables.has c.args.live.now) (λ n. Contains c.args.both.now n) in
    first_turn live (λ n. Contains c.args.both.now n) (g.S.Store.facts c.args.store.now) (g.S.Store.facts c.remove_turn.new.store) (map string_bytes c.args.names.now) c.remove_turn.result
    c.if-not-remove_turn.true c.remove_turn.ensures.removes

pub returns-then-not-remove_turn-clause-tables : goal.returns-then-not-remove_turn-clause-tables
returns-then-not-remove_turn-clause-tables g c knows lists f n num =
    table_first c.args.numbers.now (g.L.LiveTables.has c.args.live.now) (map string_bytes c.args.names.now) c.args.both.now n num
    (g.S.Store.facts c.args.store.now) (g.S.Store.facts c.remove_turn.new.store) c.remove_turn.result c.remove_turn.ensures.removes knows f

pub returns-clause-removes : goal.returns-clause-removes
returns-clause-removes g c =
    let live : FileName → Type 0 = IsLiveFile c.args.numbers.now (g.L.LiveTables.has c.args.live.now) (λ n. Contains c.args.both.now n) in
    both_turns live (λ n. Contains c.args.both.now n) (g.S.Store.facts c.args.store.now) (g.S.Store.facts c.remove_turn.new.store) (g.S.Store.facts c.remove_turn-2.new.store) (map string_bytes c.args.names.now)
    c.remove_turn.ensures.call c.remove_turn-2.ensures.call c.remove_turn.result c.remove_turn-2.result c.if-not-remove_turn.false c.remove_turn.ensures.removes c.remove_turn-2.ensures.removes

pub returns-clause-tables : goal.returns-clause-tables
returns-clause-tables g c knows lists f n num =
    let old = g.S.Store.facts c.args.store.now in
    let mid = g.S.Store.facts c.remove_turn.new.store in
    let new = g.S.Store.facts c.remove_turn-2.new.store in
    let removes = returns-clause-removes g c in
    table_both c.args.numbers.now (g.L.LiveTables.has c.args.live.now) (map string_bytes c.args.names.now) c.args.both.now n num old mid new
    c.remove_turn-2.ensures.call c.remove_turn.result c.remove_turn-2.result c.if-not-remove_turn.false c.remove_turn.ensures.removes c.remove_turn-2.ensures.removes removes.files knows lists f

pub returns-then-not-remove_turn-clause-few : goal.returns-then-not-remove_turn-clause-few
returns-then-not-remove_turn-clause-few g c =
    let live : FileName → Type 0 = IsLiveFile c.args.numbers.now (g.L.LiveTables.has c.args.live.now) (λ n. Contains c.args.both.now n) in
    few_first live (λ n. Contains c.args.both.now n) (g.S.Store.facts c.args.store.now) (g.S.Store.facts c.remove_turn.new.store) (map string_bytes c.args.names.now) c.remove_turn.result
    c.if-not-remove_turn.true c.remove_turn.ensures.call c.remove_turn.ensures.removes c.remove_turn.ensures.few

pub returns-clause-few : goal.returns-clause-few
returns-clause-few g c =
    let live : FileName → Type 0 = IsLiveFile c.args.numbers.now (g.L.LiveTables.has c.args.live.now) (λ n. Contains c.args.both.now n) in
    few_both live (λ n. Contains c.args.both.now n) (g.S.Store.facts c.args.store.now) (g.S.Store.facts c.remove_turn.new.store) (g.S.Store.facts c.remove_turn-2.new.store) (map string_bytes c.args.names.now)
    c.remove_turn-2.result c.remove_turn.ensures.call c.remove_turn-2.ensures.call c.remove_turn.ensures.few c.remove_turn-2.ensures.few c.remove_turn-2.ensures.removes

pub returns-then-not-remove_turn-clause-stops : goal.returns-then-not-remove_turn-clause-stops
returns-then-not-remove_turn-clause-stops g c = c.remove_turn.ensures.stops

pub returns-clause-stops : goal.returns-clause-stops
returns-clause-stops g c f =
    loses_both (IsLiveFile c.args.numbers.now (g.L.LiveTables.has c.args.live.now) (λ n. Contains c.args.both.now n)) (g.S.Store.facts c.args.store.now) (g.S.Store.facts c.remove_turn.new.store) (g.S.Store.facts c.remove_turn-2.new.store)
    (c.remove_turn.ensures.stops (c.remove_turn-2.ensures.call.faithful f)) (c.remove_turn-2.ensures.stops f)

pub returns-then-not-remove_turn-clause-only : goal.returns-then-not-remove_turn-clause-only
returns-then-not-remove_turn-clause-only g c = c.remove_turn.ensures.only

pub returns-clause-only : goal.returns-clause-only
returns-clause-only g c f =
    others_both (g.S.Store.facts c.args.store.now) (g.S.Store.facts c.remove_turn.new.store) (g.S.Store.facts c.remove_turn-2.new.store)
    (IsDead (IsLiveFile c.args.numbers.now (g.L.LiveTables.has c.args.live.now) (λ n. Contains c.args.both.now n)))
    (c.remove_turn.ensures.only (c.remove_turn-2.ensures.call.faithful f)) (c.remove_turn-2.ensures.only f)
