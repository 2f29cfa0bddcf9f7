use Rattle.std.proofs.Common.{[], ℕ, List, String, map, take, string_bytes, sym, subst}
use Rattle.std.specs.declared.alloc.Global.{Global}
use Rattle.std.proofs.lemmas.List.{take_all}
use Rattle.mending.specs.Plans.{AreLogsOf}
use Rattle.mending.proofs.Saying.{records-more}
use Rattle.mending.proofs.PlannedCuts.{no_logs, logs_sorted}
use Rattle.mending.proofs.planning.live_logs.Goals as goal

pub loop-name-init : goal.loop-name-init
loop-name-init c = subst (λ (ns : List ℕ). AreLogsOf c.args.layout.now [] ns) (sym c.new-logs.ensures.items) (no_logs c.args.layout.now)

pub loop-name-preserved : goal.loop-name-preserved
loop-name-preserved c =
    let P : List (List ℕ) → Type 0 = λ names. AreLogsOf c.args.layout.now names c.push_log.new.logs.items in
    subst P (records-more string_bytes c.args.names.now c.loop-name.name-index c.name-item.result c.as_bytes.result.now c.loop-name-test.true c.name-item.is c.as_bytes.ensures.value)
    (c.in_ok-push_log.ensures (map string_bytes (take c.loop-name.name-index c.args.names.now)) c.loop-name.invariant)

pub returns : goal.returns
returns c =
    let P : List (String Global) → Type 0 = λ names. AreLogsOf c.args.layout.now (map string_bytes names) c.loop-name.logs.items in
    logs_sorted c.args.layout.now (map string_bytes c.args.names.now) c.loop-name.logs.items c.sort_unstable.new.self.items c.sort_unstable.ensures.permutation
    (subst P (take_all c.loop-name.name-index c.args.names.now c.loop-name-test.false) c.loop-name.invariant)
