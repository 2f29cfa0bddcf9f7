use Rattle.std.proofs.Common.{◌≡◌, Bool, true, false, sym}
use Rattle.std.specs.Bool.{MatchBool}
use Rattle.std.proofs.lemmas.List.Sorted.{non_decreasing_from_is_sorted}
use mathlib.Core.Bool.{true≢false}
use Rattle.table_tests.proofs.compactions.is_rising.Goals as goal

match-true : {A : Type 0} (B : Type 0) (r : Bool) → MatchBool r A B → r ≡ true → A
match-true B true h e = h
match-true B false h e = absurd (true≢false (sym e))

pub returns : goal.returns
returns c = λ e. match-true _ c.is_sorted.result (non_decreasing_from_is_sorted c.args.numbers.now c.is_sorted.result c.is_sorted.ensures.cases) e
