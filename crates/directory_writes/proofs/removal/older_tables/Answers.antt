use Rattle.std.proofs.Common.{ℕ, List, [], String, map, take, sym, subst, string_bytes}
use Rattle.std.specs.declared.alloc.Global.{Global}
use Rattle.std.proofs.lemmas.List.{take_all}
use Rattle.directory_writes.specs.internal.Removal.{AreOlder}
use Rattle.directory_writes.proofs.Cleaning.{no_numbers, names_more}
use Rattle.directory_writes.proofs.removal.older_tables.Goals as goal

pub loop-name-init : goal.loop-name-init
loop-name-init c = subst (λ (numbers : List ℕ). AreOlder [] numbers) (sym c.new-numbers.ensures.items) no_numbers

pub loop-name-preserved : goal.loop-name-preserved
loop-name-preserved c =
    subst (λ (names : List (List ℕ)). AreOlder names c.push_older.new.numbers.items)
    (names_more c.args.names.now c.loop-name.name-index c.name-item.result c.as_bytes.result.now c.loop-name-test.true c.name-item.is c.as_bytes.ensures.value)
    (c.in_ok-push_older.ensures (map string_bytes (take c.loop-name.name-index c.args.names.now)) c.loop-name.invariant)

pub returns : goal.returns
returns c =
    subst (λ (names : List (String Global)). AreOlder (map string_bytes names) c.loop-name.numbers.items) (take_all c.loop-name.name-index c.args.names.now c.loop-name-test.false) c.loop-name.invariant
