use Rattle.std.proofs.Common.{rules, List, ◌++◌, map, ap, ◌∙◌}
use Rattle.std.proofs.lemmas.List.Sorted.{IsNonDecreasingBy-from_sort_by_key}
use Rattle.edits.specs.declared.field.PlacedTable.{PlacedTable}
use Rattle.compact.specs.JobEdits.{gone, rank_of}
use Rattle.compact.proofs.job_edit.push_inputs.Goals as goal

pub returns : goal.returns
returns c = (
  c.sort_by_key.new.self.items,
  c.in_ok-sort_by_key.ensures.permutation,
  IsNonDecreasingBy-from_sort_by_key rank_of _ c.in_ok-sort_by_key.ensures.sorted (λ a r q k. search rules),
  c.in_ok-push_gone.ensures ∙ ap (λ (ts : List PlacedTable). c.args.edit.now ++ map gone ts) c.deref.ensures.value,
)
