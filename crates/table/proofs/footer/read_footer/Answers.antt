use Rattle.std.proofs.Common.{sym, ◌∙◌, arith}
use Rattle.table.proofs.Comparing.{ne_lists, eq_lists}
use Rattle.table.proofs.Footers.{footer_read, no_first, no_second, no_zeros, no_magic, length-footer}
use Rattle.table.proofs.footer.read_footer.Goals as goal

pub returns-then-bytes-ne-FOOTER_LENGTH-clause-refused : goal.returns-then-bytes-ne-FOOTER_LENGTH-clause-refused
returns-then-bytes-ne-FOOTER_LENGTH-clause-refused c = λ m i h. omega (arith, length-footer c.args.bytes.now m i h)

pub returns-then-ne-clause-refused : goal.returns-then-ne-clause-refused
returns-then-ne-clause-refused c = λ m i h.
    no_magic c.split_at.result.0.now c.split_at.result.1.now c.args.bytes.now m i c.split_at.ensures.by_index.0 c.split_at.ensures.front_len (λ e. ne_lists c.split_at.result.1.now c.as_slice.result.now c.if-ne.ensures (e ∙ sym c.as_slice.ensures)) h

pub returns-in_default-clause-refused : goal.returns-in_default-clause-refused
returns-in_default-clause-refused c = λ m i h.
    no_first c.split_at.result.0.now c.split_at.result.1.now c.args.bytes.now m i c.split_at.ensures.by_index.0 c.split_at.ensures.front_len c.in_default.ensures.none h

pub returns-in_default-handle_at-clause-refused : goal.returns-in_default-handle_at-clause-refused
returns-in_default-handle_at-clause-refused c = λ m i h.
    no_second c.split_at.result.0.now c.split_at.result.1.now c.args.bytes.now c.in-Some.behind.now c.in-Some.metaindex m i c.split_at.ensures.by_index.0 c.split_at.ensures.front_len
    c.in-Some.ensures.found c.in_default-handle_at.ensures.none h

pub returns-then-not-are_zeros-clause-refused : goal.returns-then-not-are_zeros-clause-refused
returns-then-not-are_zeros-clause-refused c = λ m i h.
    no_zeros c.split_at.result.0.now c.split_at.result.1.now c.args.bytes.now c.in-Some.behind.now c.in-Some-handle_at.padding.now c.in-Some.metaindex c.in-Some-handle_at.index m i
    c.split_at.ensures.by_index.0 c.split_at.ensures.front_len c.in-Some.ensures.found c.in-Some-handle_at.ensures.found c.if-not-are_zeros.ensures h

pub returns-clause-found : goal.returns-clause-found
returns-clause-found c =
    footer_read c.split_at.result.0.now c.split_at.result.1.now c.args.bytes.now c.in-Some.behind.now c.in-Some-handle_at.padding.now c.in-Some.metaindex c.in-Some-handle_at.index
    c.split_at.ensures.by_index.0 c.split_at.ensures.front_len (eq_lists c.split_at.result.1.now c.as_slice.result.now c.if-ne.ensures ∙ c.as_slice.ensures) c.in-Some.ensures.found c.in-Some-handle_at.ensures.found c.if-not-are_zeros.ensures
