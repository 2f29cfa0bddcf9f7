use Rattle.std.proofs.Common.{◌≡◌, ◌∙◌, ◌++◌, ◌∷◌, [], ℕ, List, sym, ap, subst}
use Rattle.edits.specs.Names.{name_of, IsNumbered, IsFileName}
use Rattle.mending.specs.Plans.{AreLogsOf, IsLive}
use Rattle.edits.specs.declared.names.FileName.TheVariants.{Log}
use Rattle.edits.proofs.FileNames.{one_file}
use Rattle.mending.proofs.PlannedCuts.{logs_same, logs_more, same_log_number}
use Rattle.mending.proofs.planning.push_log.Goals as goal

pub returns-in_default : goal.returns-in_default
returns-in_default c = λ names h.
    logs_same c.args.layout.now names c.args.name.now c.args.logs.now.items (λ n is live e. c.in_default.ensures.none (Log n) is e) h

pub returns-in_default-file : goal.returns-in_default-file
returns-in_default-file c = λ names h.
    let found = c.in-Some.ensures.found in
    logs_same c.args.layout.now names c.args.name.now c.args.logs.now.items (λ n is live e. c.in_default-file.not-Log n (one_file c.in-Some.file (Log n) found.0 is (sym found.1 ∙ e))) h

pub returns-then-not-is_live : goal.returns-then-not-is_live
returns-then-not-is_live c = λ names h.
    let found = c.in-Some.ensures.found in
    let dead : (n : ℕ) → IsNumbered n → IsLive c.args.layout.now n → c.args.name.now ≡ name_of (Log n) → ⊥ = λ n is live e.
    let same : Log c.in-Log.number ≡ Log n = sym c.in-Log.is ∙ one_file c.in-Some.file (Log n) found.0 is (sym found.1 ∙ e) in
    c.if-not-is_live.ensures (subst (λ (m : ℕ). IsLive c.args.layout.now m) (sym (same_log_number c.in-Log.number n same)) live) in
    logs_same c.args.layout.now names c.args.name.now c.args.logs.now.items dead h

pub returns : goal.returns
returns c = λ names h.
    let found = c.in-Some.ensures.found in
    let numbered : IsNumbered c.in-Log.number = subst IsFileName c.in-Log.is found.0 in
    let named : c.args.name.now ≡ name_of (Log c.in-Log.number) = found.1 ∙ ap name_of c.in-Log.is in
    subst (λ (ns : List ℕ). AreLogsOf c.args.layout.now (names ++ c.args.name.now ∷ []) ns) (sym c.in_ok-push.ensures.items)
    (logs_more c.args.layout.now names c.args.name.now c.args.logs.now.items c.in-Log.number numbered c.if-not-is_live.ensures named h)
