use Rattle.std.proofs.Common.{sym, ◌∙◌}
use Rattle.recover.proofs.NoCurrent.{table_there, log_there}
use Rattle.recover.proofs.listing.see_empty.Goals as goal

pub returns-then-listing-clause-refused : goal.returns-then-listing-clause-refused
returns-then-listing-clause-refused c = λ files l none. table_there files c.args.listing.now l c.if-listing.true

pub returns-then-not-is_empty-clause-refused : goal.returns-then-not-is_empty-clause-refused
returns-then-not-is_empty-clause-refused c = λ files l none. log_there files c.args.listing.now l (sym c.is_empty.ensures ∙ c.if-not-is_empty.true)
