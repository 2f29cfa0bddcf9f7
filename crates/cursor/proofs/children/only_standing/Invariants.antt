use Rattle.std.proofs.Common.{◌≡◌, ◌<◌, ℕ, Some, true}
use Rattle.std.specs.Option.{ForSome}
use Rattle.cursor.specs.Merging.{child_stands}
use Rattle.cursor.proofs.children.only_standing.Given as goal

abbrev pub invariant-loop-index : goal.invariant-loop-index
invariant-loop-index g l = record {
  stands : ForSome l.only (λ (i : ℕ). child_stands g.C.Cursor.stands l.children (Some i) ≡ true);
  others : (i : ℕ) → i < l.index → child_stands g.C.Cursor.stands l.children (Some i) ≡ true → l.only ≡ Some i;
}
