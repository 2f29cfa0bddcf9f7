use Rattle.std.proofs.Common.{◌≡◌, ◌∙◌, ℕ, List, Option, Result, Err, inl, inr, sym, subst, rules}
use Rattle.coding.specs.declared.error.DbError.{DbError}
use Rattle.db_cursor.specs.Whole.{whole_in}
use Rattle.reader.specs.Moving.{IsMoved}
use Rattle.reader.specs.internal.Motions.{motion_of}
use Rattle.reader.proofs.Iterations.{has_place, moved_err, moved_ok, taken_back}
use Rattle.reader.proofs.moving.move_iterator.Goals.{then-needs_place+else-not-stood, else-needs_place}
use Rattle.reader.proofs.moving.move_iterator.Goals as goal

pub returns-in_err-move_scan-clause-moved : goal.returns-in_err-move_scan-clause-moved
returns-in_err-move_scan-clause-moved g c =
    let motion = motion_of c.args.movement in
    let e = c.in_err-move_scan.field-0.0 in
    let placed = has_place motion c.args.scan.now.walk.stands (elim c.if-needs_place.branch [ then-needs_place+else-not-stood w ↦ inr (sym c.stands-stood.ensures ∙ w.if-not-stood.false) | else-needs_place w ↦ inl (sym c.needs_place.ensures ∙ w.if-needs_place.false) ]) in
    let is : c.from_residual.result ≡ Err e = search rules in
    subst (λ (r : Result (Option (List ℕ × List ℕ)) DbError). IsMoved g.K.KeyOrder.cmp motion (whole_in g.S.Store.facts c.args.source.now) (whole_in g.S.Store.facts c.move_scan.new.source) c.args.scan.now c.move_scan.new.scan r) (sym is)
    (moved_err g.K.KeyOrder.cmp motion (whole_in g.S.Store.facts c.args.source.now) (whole_in g.S.Store.facts c.move_scan.new.source) c.args.scan.now c.move_scan.new.scan placed e c.in_err-move_scan.ensures)

pub returns-in_default-clause-moved : goal.returns-in_default-clause-moved
returns-in_default-clause-moved g c =
    let motion = motion_of c.args.movement in
    let back = c.take_back.ensures in
    let placed = has_place motion c.args.scan.now.walk.stands (elim c.if-needs_place.branch [ then-needs_place+else-not-stood w ↦ inr (sym c.stands-stood.ensures ∙ w.if-not-stood.false) | else-needs_place w ↦ inl (sym c.needs_place.ensures ∙ w.if-needs_place.false) ]) in
    taken_back g.K.KeyOrder.cmp motion (whole_in g.S.Store.facts c.args.source.now) (whole_in g.S.Store.facts c.move_scan.new.source) c.args.scan.now c.move_scan.new.scan placed
    c.stands-stood.result c.take_back.new.self c.stands-stood.ensures back.cursor back.back back.sequence back.stands back.key back.reads_as back.within c.in_ok-move_scan.ensures

pub returns-clause-moved : goal.returns-clause-moved
returns-clause-moved g c =
    let motion = motion_of c.args.movement in
    let placed = has_place motion c.args.scan.now.walk.stands (elim c.if-needs_place.branch [ then-needs_place+else-not-stood w ↦ inr (sym c.stands-stood.ensures ∙ w.if-not-stood.false) | else-needs_place w ↦ inl (sym c.needs_place.ensures ∙ w.if-needs_place.false) ]) in
    moved_ok g.K.KeyOrder.cmp motion (whole_in g.S.Store.facts c.args.source.now) (whole_in g.S.Store.facts c.move_scan.new.source) c.args.scan.now c.move_scan.new.scan placed
    c.in-Ok.pair c.in-Ok.ensures c.in_ok-move_scan.ensures
