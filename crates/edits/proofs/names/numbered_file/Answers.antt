use Rattle.std.proofs.Common.{◌∙◌}
use Rattle.edits.proofs.FileNames.{split_name, none_then}
use Rattle.edits.proofs.names.numbered_file.Goals as goal

pub returns-in_err-number_of-clause-none : goal.returns-in_err-number_of-clause-none
returns-in_err-number_of-clause-none c = rw c.from_residual.ensures (λ n ending h end e.
    let parts = split_name c.args.name.now ending n c.digits_in_front.result h end e c.digits_in_front.ensures.within c.digits_in_front.ensures.digits c.digits_in_front.ensures.end in
    c.in_err-number_of.ensures.value n h (c.split_at.ensures.front ∙ parts.0))

pub returns-clause-none : goal.returns-clause-none
returns-clause-none c = none_then c.file_of.result c.file_of.ensures.none (λ none n ending h end e.
    let parts = split_name c.args.name.now ending n c.digits_in_front.result h end e c.digits_in_front.ensures.within c.digits_in_front.ensures.digits c.digits_in_front.ensures.end in
    none (rw (c.split_at.ensures.back, parts.1) end))
