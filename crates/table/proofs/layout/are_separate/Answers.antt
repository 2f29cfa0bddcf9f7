use Rattle.table.proofs.Apart.{answer_moved}
use Rattle.table.proofs.layout.are_separate.Goals as goal

pub returns : goal.returns
returns c = answer_moved c.sorted_are_separate.result c.args.end c.args.handles.now c.sort_by_offset.new.handles c.sort_by_offset.ensures.moved c.sorted_are_separate.ensures
