use Rattle.std.proofs.Common.{ℕ, List, [], String, map, take, sym, subst, string_bytes}
use Rattle.std.specs.declared.alloc.Global.{Global}
use Rattle.std.proofs.lemmas.List.{take_all}
use Rattle.directory_writes.specs.internal.Removal.{AreToClose}
use Rattle.directory_writes.proofs.Cleaning.{none_to_close, names_more}
use Rattle.directory_writes.proofs.removal.tables_to_close.Goals as goal

pub loop-name-init : goal.loop-name-init
loop-name-init g c =
    let used : ℕ → Type 0 = g.L.LiveTables.has c.args.live.now in
    subst (λ (numbers : List ℕ). AreToClose used c.args.both.now [] numbers) (sym c.new-numbers.ensures.items) (none_to_close used c.args.both.now)

pub loop-name-preserved : goal.loop-name-preserved
loop-name-preserved g c =
    let used : ℕ → Type 0 = g.L.LiveTables.has c.args.live.now in
    subst (λ (names : List (List ℕ)). AreToClose used c.args.both.now names c.push_to_close.new.numbers.items)
    (names_more c.args.names.now c.loop-name.name-index c.name-item.result c.as_bytes.result.now c.loop-name-test.true c.name-item.is c.as_bytes.ensures.value)
    (c.in_ok-push_to_close.ensures (map string_bytes (take c.loop-name.name-index c.args.names.now)) c.loop-name.invariant)

pub returns : goal.returns
returns g c =
    let used : ℕ → Type 0 = g.L.LiveTables.has c.args.live.now in
    subst (λ (names : List (String Global)). AreToClose used c.args.both.now (map string_bytes names) c.loop-name.numbers.items) (take_all c.loop-name.name-index c.args.names.now c.loop-name-test.false) c.loop-name.invariant
