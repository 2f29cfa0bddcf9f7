use Rattle.std.proofs.Common.{◌≡◌, ℕ, Some, true, get_or, sym, ◌∙◌, arith}
use Rattle.std.proofs.lemmas.Option.{slice_get-get_or}
use Rattle.cursor.specs.Merging.{child_stands}
use Rattle.cursor.proofs.Best.{for_some, stands_there, one_more}
use Rattle.cursor.proofs.children.only_standing.Goals as goal

pub loop-index-preserved : goal.loop-index-preserved
loop-index-preserved g c =
    let child = get_or c.args.children.now c.loop-index.index c.index-children-index.result in
    let at = slice_get-get_or c.args.children.now c.loop-index.index c.index-children-index.result (let b = c.loop-index-test.true in omega (arith, b)) in
    record {
      stands = for_some (λ (i : ℕ). child_stands g.C.Cursor.stands c.args.children.now (Some i) ≡ true) c.loop-index.index
          (stands_there g.C.Cursor.stands c.args.children.now c.loop-index.index child at (sym c.stands.ensures ∙ c.if-not-stands.false));
      others = one_more g.C.Cursor.stands c.args.children.now c.loop-index.index child at c.loop-index.only c.loop-index.invariant.others (sym c.is_some.ensures ∙ c.if-is_some.false);
    }
