use Rattle.edits.specs.declared.names.FileName.TheVariants.{Log}
use Rattle.mending.proofs.PlanSteps.{plans_found, logged_found}
use Rattle.mending.proofs.planning.plan_log.Goals as goal

pub returns-clause-found : goal.returns-clause-found
returns-clause-found g c f =
    plans_found c.args.ends (g.S.Store.facts c.args.store.now).files (Log c.args.n) c.args.cuts.now.items c.push_cut.new.cuts.items c.in_ok-found.found c.in_ok-push_cut.ensures (c.in_ok-found.ensures.found f)

pub returns-clause-logged : goal.returns-clause-logged
returns-clause-logged g c all =
    logged_found c.args.cuts.now.items c.push_cut.new.cuts.items (Log c.args.n) c.in_ok-found.found c.in_ok-push_cut.ensures c.in_ok-found.ensures.named c.requires all
