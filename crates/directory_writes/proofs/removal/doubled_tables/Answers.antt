use Rattle.std.proofs.Common.{ℕ, List, [], String, map, take, sym, subst, string_bytes}
use Rattle.std.specs.declared.alloc.Global.{Global}
use Rattle.std.proofs.lemmas.List.{take_all}
use Rattle.directory_writes.specs.internal.Removal.{AreBoth}
use Rattle.directory_writes.proofs.Cleaning.{none_both, names_more}
use Rattle.directory_writes.proofs.removal.doubled_tables.Goals as goal

pub loop-name-init : goal.loop-name-init
loop-name-init c = subst (λ (numbers : List ℕ). AreBoth c.args.older.now [] numbers) (sym c.new-numbers.ensures.items) (none_both c.args.older.now)

pub loop-name-preserved : goal.loop-name-preserved
loop-name-preserved c =
    subst (λ (names : List (List ℕ)). AreBoth c.args.older.now names c.push_doubled.new.numbers.items)
    (names_more c.args.names.now c.loop-name.name-index c.name-item.result c.as_bytes.result.now c.loop-name-test.true c.name-item.is c.as_bytes.ensures.value)
    (c.in_ok-push_doubled.ensures (map string_bytes (take c.loop-name.name-index c.args.names.now)) c.loop-name.invariant)

pub returns : goal.returns
returns c =
    subst (λ (names : List (String Global)). AreBoth c.args.older.now (map string_bytes names) c.loop-name.numbers.items) (take_all c.loop-name.name-index c.args.names.now c.loop-name-test.false) c.loop-name.invariant
