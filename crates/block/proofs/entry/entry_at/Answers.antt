use Rattle.block.proofs.EntryParts.{no_second, no_third, no_rest, no_value, read_entry}
use Rattle.block.proofs.entry.entry_at.Goals as goal

pub returns-in_err-rest_length-clause-none : goal.returns-in_err-rest_length-clause-none
returns-in_err-rest_length-clause-none c =
    rw c.from_residual-in_err-rest_length.ensures (no_second c.args.bytes.now c.in_ok-shared.behind.now c.in_ok-shared.shared c.in_ok-shared.ensures.found c.in_err-rest_length.ensures.none)

pub returns-in_err-value_length-clause-none : goal.returns-in_err-value_length-clause-none
returns-in_err-value_length-clause-none c =
    rw c.from_residual-in_err-value_length.ensures (no_third c.args.bytes.now c.in_ok-shared.behind.now c.in_ok-rest_length.behind.now c.in_ok-shared.shared c.in_ok-rest_length.rest_length
    c.in_ok-shared.ensures.found c.in_ok-rest_length.ensures.found c.in_err-value_length.ensures.none)

pub returns-in_err-rest-clause-none : goal.returns-in_err-rest-clause-none
returns-in_err-rest-clause-none c =
    rw c.from_residual-in_err-rest.ensures (no_rest c.args.bytes.now c.in_ok-shared.behind.now c.in_ok-rest_length.behind.now c.in_ok-value_length.behind.now c.in_ok-shared.shared c.in_ok-rest_length.rest_length c.in_ok-value_length.value_length
    c.in_ok-shared.ensures.found c.in_ok-rest_length.ensures.found c.in_ok-value_length.ensures.found c.in_err-rest.ensures.none)

pub returns-in_err-value-clause-none : goal.returns-in_err-value-clause-none
returns-in_err-value-clause-none c =
    rw c.from_residual-in_err-value.ensures (no_value c.args.bytes.now c.in_ok-shared.behind.now c.in_ok-rest_length.behind.now c.in_ok-value_length.behind.now c.in_ok-rest.rest.now c.in_ok-rest.behind.now c.in_ok-shared.shared c.in_ok-rest_length.rest_length c.in_ok-value_length.value_length
    c.in_ok-shared.ensures.found c.in_ok-rest_length.ensures.found c.in_ok-value_length.ensures.found c.in_ok-rest.ensures.found c.in_err-value.ensures.none)

pub returns-clause-found : goal.returns-clause-found
returns-clause-found c =
    read_entry c.args.bytes.now c.in_ok-shared.behind.now c.in_ok-rest_length.behind.now c.in_ok-value_length.behind.now c.in_ok-rest.rest.now c.in_ok-rest.behind.now c.in_ok-value.value.now c.in_ok-value.behind.now c.in_ok-shared.shared c.in_ok-rest_length.rest_length c.in_ok-value_length.value_length
    c.in_ok-shared.ensures.found c.in_ok-rest_length.ensures.found c.in_ok-value_length.ensures.found c.in_ok-rest.ensures.found c.in_ok-value.ensures.found c.in_ok-shared.ensures.range c.in_ok-rest_length.ensures.range c.in_ok-value_length.ensures.range
