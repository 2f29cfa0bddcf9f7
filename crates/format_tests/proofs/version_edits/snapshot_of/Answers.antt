use Rattle.std.proofs.Common.{[], ◌∷◌}
use Rattle.format_tests.proofs.version_edits.snapshot_of.Goals as goal

pub snapshot_edit-requires-clause-kept : goal.snapshot_edit-requires-clause-kept
snapshot_edit-requires-clause-kept c =
    c.layouts_are_kept.ensures _ (c.in-Ok.edit ∷ []) c.in-Ok-fold_edits.layout ((c.args.bytes.now, c.in-Ok.ensures.found.0), tt) c.in-Ok-fold_edits.ensures.found
