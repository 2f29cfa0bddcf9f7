use Rattle.std.proofs.Common.{◌∙◌, ℕ, List, length, refl, sym, ap, subst}
use Rattle.std.proofs.lemmas.Option.{slice_get_read}
use Rattle.edits.specs.declared.field.PlacedTable.{PlacedTable}
use Rattle.ikey.specs.Keys.{IsKey}
use Rattle.ikey.specs.KeyViews.{key_of}
use Rattle.recover.specs.declared.waiting.Waiting.{Waiting}
use Rattle.recover.proofs.Smallest.{one_more}
use Rattle.recover.proofs.waiting.waiting_in.Goals as goal

pub loop-place-preserved : goal.loop-place-preserved
loop-place-preserved c =
    let tables = c.args.tables.now in
    let placed = c.index-tables-place.result in
    let is = slice_get_read tables (length tables) c.loop-place.place placed refl c.loop-place-test.true c.index-tables-place.is in
    let I : List ℕ → Type 0 = λ k. IsKey k (key_of c.in-Some.smallest) in
    let w : Waiting = record { place = c.loop-place.place; smallest = c.in-Some.smallest } in
    rw c.in_ok-push.ensures.items
    (one_more tables c.loop-place.place placed is c.loop-place.waiting.items c.loop-place.invariant w refl
    (subst I (c.as_slice.ensures ∙ ap (λ (t : PlacedTable). t.table.smallest) (sym c.index-tables-place.is)) c.in-Some.ensures.found))
