use Rattle.reader.proofs.reader.Reader.open.Goals as goal

pub returns-in-Ok-clause-shows : goal.returns-in-Ok-clause-shows
returns-in-Ok-clause-shows g c = rw c.sources_over-source.ensures at c.in-Ok.ensures.shows

pub returns-in-Ok-clause-found : goal.returns-in-Ok-clause-found
returns-in-Ok-clause-found g c = rw c.sources_over-source.ensures at c.in-Ok.ensures.found

pub returns-in-Ok-clause-holds : goal.returns-in-Ok-clause-holds
returns-in-Ok-clause-holds g c =
    let directory = rw c.sources_over-source.ensures at c.in-Ok.ensures.holds in
    record { directory = directory; cache = c.in-Ok.ensures.cached }
