use Rattle.std.proofs.Common.{rules, List, Some, sym, subst, ◌≡◌, ◌∙◌}
use Rattle.ikey.specs.Below.{IsBelowInternal}
use Rattle.ikey.specs.Entries.{Pair}
use Rattle.table.specs.Seeking.{IsFirstOf}
use Rattle.table.proofs.Seeks.{found_here}
use Rattle.table.proofs.seeking.seek_in.Goals as goal

pub returns : goal.returns
returns g c =
    let pairs : c.new-cursor.result.pairs ≡ c.args.block.pairs = search rules in
    subst (λ (t : List Pair). IsFirstOf (IsBelowInternal g.K.KeyOrder.cmp) c.args.target.now t (Some (record { key = c.in_ok-key.key; value = c.in_ok-value.value }))) pairs
    (found_here (IsBelowInternal g.K.KeyOrder.cmp) c.args.target.now c.new-cursor.result.pairs c.seek.new.self c.in_ok-key.key c.in_ok-value.value c.in_ok-seek.ensures.pairs c.in_ok-seek.ensures.ok (sym c.if-not-stands.ensures)
    (λ index pair x y. c.in_ok-key.ensures ∙ c.key.ensures index pair x y) (λ index pair x y. c.in_ok-value.ensures ∙ c.value.ensures index pair x y))
