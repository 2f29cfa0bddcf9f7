use Rattle.edits.proofs.Kept.{kept_layout}
use Rattle.edits.proofs.snapshot.layouts_are_kept.Goals as goal

pub returns : goal.returns
returns c = kept_layout
