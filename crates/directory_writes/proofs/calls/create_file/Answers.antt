use Rattle.std.proofs.Common.{Err}
use Rattle.directory_writes.proofs.StoreCalls.{created, created_only, created_unsynced, not_created}
use Rattle.store.specs.Files.{Creation}
use Rattle.store.proofs.Stopping.{noted_left}
use Rattle.directory_writes.proofs.calls.create_file.Goals as goal

pub returns-in-Ok-clause-creates : goal.returns-in-Ok-clause-creates
returns-in-Ok-clause-creates g c =
    created (g.S.Store.facts c.args.store.now) (g.S.Store.facts c.create.new.self) c.args.name.now c.in-Ok.ensures.files.ok c.in-Ok.ensures.synced.ok

pub returns-in-Err-clause-creates : goal.returns-in-Err-clause-creates
returns-in-Err-clause-creates g c =
    not_created (g.S.Store.facts c.args.store.now) (g.S.Store.facts c.create.new.self) c.args.name.now c.in-Err.error c.refusal_of.result
    c.in-Err.ensures.files c.in-Err.ensures.synced c.refusal_of.ensures (λ e. c.in-Err.ensures.missing (λ i. Err (e i)))

pub returns-in-Ok-clause-stops : goal.returns-in-Ok-clause-stops
returns-in-Ok-clause-stops g c f = noted_left (g.S.Store.facts c.args.store.now) (g.S.Store.facts c.create.new.self) (Creation c.args.name.now) (c.create.ensures.calls.noted f)

pub returns-in-Err-clause-stops : goal.returns-in-Err-clause-stops
returns-in-Err-clause-stops g c f = noted_left (g.S.Store.facts c.args.store.now) (g.S.Store.facts c.create.new.self) (Creation c.args.name.now) (c.create.ensures.calls.noted f)

pub returns-in-Ok-clause-only : goal.returns-in-Ok-clause-only
returns-in-Ok-clause-only g c f =
    created_only (g.S.Store.facts c.args.store.now) (g.S.Store.facts c.create.new.self) c.args.name.now ((returns-in-Ok-clause-creates g c).synced f) (c.create.ensures.calls.noted f)

pub returns-in-Err-clause-only : goal.returns-in-Err-clause-only
returns-in-Err-clause-only g c f =
    created_only (g.S.Store.facts c.args.store.now) (g.S.Store.facts c.create.new.self) c.args.name.now ((returns-in-Err-clause-creates g c).synced f) (c.create.ensures.calls.noted f)

pub returns-in-Ok-clause-unsynced : goal.returns-in-Ok-clause-unsynced
returns-in-Ok-clause-unsynced g c f =
    created_unsynced (g.S.Store.facts c.args.store.now) (g.S.Store.facts c.create.new.self) c.args.name.now (c.in-Ok.ensures.synced.ok f)
