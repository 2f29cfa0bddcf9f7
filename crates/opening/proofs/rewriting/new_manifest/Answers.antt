use Rattle.ikey.specs.Orders.{order_of}
use Rattle.std.proofs.Common.{◌≡◌, List, ℕ, sym, subst, ◌∙◌}
use Rattle.edits.specs.Edit.{IsEdit}
use Rattle.opening.proofs.NewManifests.{Folds, HasFields, manifest_written}
use Rattle.opening.proofs.rewriting.new_manifest.Goals as goal

pub returns-clause-written : goal.returns-clause-written
returns-clause-written g c =
    let found = c.args.found.now in
    let from = c.live_logs-logs.result.from in
    let previous = c.live_logs-logs.result.previous in
    let edit = c.in_ok-edit.ensures in
    let named : c.as_bytes.result.now ≡ g.K.KeyOrder.name = c.as_bytes.ensures.value ∙ c.name.ensures in
    manifest_written (order_of g.K.KeyOrder.name g.K.KeyOrder.cmp) found c.requires from previous c.in_ok-edit.edit c.deref.result.now c.encode.result c.live_logs-logs.ensures
    (subst (λ (name : List ℕ). HasFields name found from previous c.in_ok-edit.edit) named edit.fields)
    (subst (λ (name : List ℕ). Folds name found from previous c.in_ok-edit.edit) named edit.folds)
    edit.limit (subst (λ (bytes : List ℕ). IsEdit bytes c.in_ok-edit.edit) (sym c.deref.ensures.value) c.in_ok-payload.ensures) c.encode.ensures.appends
