use Rattle.std.proofs.lemmas.Result.{err_from_is_err_and}
use Rattle.ikey.specs.Orders.{order_of}
use Rattle.edits.specs.declared.field.PlacedTable.{PlacedTable}
use Rattle.store.specs.Files.{Files}
use Rattle.recover.specs.internal.Checks.{Never}
use Rattle.recover.specs.internal.Walking.{IsToldOf, IsOnlyOf}
use Rattle.recover.specs.Report.{IsLongTable}
use Rattle.recover.proofs.NotSupported.{told_bytes}
use Rattle.recover.proofs.Refused.{refuses_bytes}
use Rattle.recover.proofs.walking.TableWalk.go_on.Goals as goal

pub returns-in_err-step-clause-refused : goal.returns-in_err-step-clause-refused
returns-in_err-step-clause-refused g c =
    let order = order_of g.K.KeyOrder.name g.K.KeyOrder.cmp in
    let a = g.S.Store.facts c.args.store.now in
    let placed = c.args.placed.now in
    let walk = c.args.self.now in
    let p = err_from_is_err_and c.from_residual.result c.from_residual.ensures.1 in
    rw (p.1, p.2) (refuses_bytes c.in_err-step.field-0.0 a (g.S.Store.facts c.step.new.store) ((files : Files) (place : PlacedTable) → IsOnlyOf Never order files place walk) ⊥ (IsOnlyOf Never order a.files placed walk) (IsOnlyOf (IsLongTable order) order a.files placed walk)
    (λ t none. none a.files placed) (λ t none. absurd none) c.in_err-step.ensures.refused)

pub returns-in_err-step-clause-told : goal.returns-in_err-step-clause-told
returns-in_err-step-clause-told g c =
    let order = order_of g.K.KeyOrder.name g.K.KeyOrder.cmp in
    let placed = c.args.placed.now in
    let walk = c.args.self.now in
    let p = err_from_is_err_and c.from_residual.result c.from_residual.ensures.1 in
    rw (p.1, p.2) (told_bytes c.in_err-step.field-0.0 (g.S.Store.facts c.step.new.store) ((files : Files) (place : PlacedTable) → IsOnlyOf Never order files place walk) (IsToldOf order (g.S.Store.facts c.args.store.now).files placed walk) c.in_err-step.ensures.refused)
