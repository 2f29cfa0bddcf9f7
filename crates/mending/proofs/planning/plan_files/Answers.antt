use Rattle.std.proofs.Common.{inl, inr, ℕ, List, String, map, string_bytes, subst}
use Rattle.std.specs.declared.alloc.Global.{Global}
use Rattle.std.specs.Prelude.{Contains}
use Rattle.std.proofs.lemmas.Result.{err_from_is_err_and}
use Rattle.edits.specs.declared.names.FileName.TheVariants.{Log, Manifest}
use Rattle.store.specs.Files.{Files, Lists}
use Rattle.mending.specs.Plans.{AreLogsOf, HasNoLayout, HasNoPlan, HasBeyond, HasNoFront, PlansFile, PlansLogs}
use Rattle.mending.specs.declared.finding.Cut.{Cut}
use Rattle.mending.proofs.Saying.{reads_itself, reads_both, refuses_later}
use Rattle.mending.proofs.PlannedCuts.{planned}
use Rattle.mending.proofs.planning.plan_files.Goals as goal

pub plan_logs-requires : goal.plan_logs-requires
plan_logs-requires g c = λ n i. (c.in_ok-logs.ensures.0 n (subst (λ (ns : List ℕ). Contains ns n) c.deref-2.ensures.value i)).0

pub returns-in_err-layout-clause-refused : goal.returns-in_err-layout-clause-refused
returns-in_err-layout-clause-refused g c =
    let p = err_from_is_err_and c.from_residual.result c.from_residual.ensures.1 in
    let old = g.S.Store.facts c.args.store.now in
    let new = g.S.Store.facts c.plan_manifest.new.store in
    let name = g.K.KeyOrder.name in
    rw (p.1, p.2) (refuses_later c.in_err-layout.field-0.0 old old new (HasNoLayout name c.args.ends old.files c.args.number) (HasBeyond name c.args.ends old.files c.args.number)
    (HasNoPlan name c.args.ends old.files c.args.number) (HasBeyond name c.args.ends old.files c.args.number)
    (reads_itself old) (λ f d. inl d) (λ f u. u) c.in_err-layout.ensures.refused)

pub returns-in_err-names-clause-reads : goal.returns-in_err-names-clause-reads
returns-in_err-names-clause-reads g c =
    reads_both (g.S.Store.facts c.args.store.now) (g.S.Store.facts c.plan_manifest.new.store) (g.S.Store.facts c.list_names.new.store) c.in_ok-layout.ensures.reads c.in_err-names.ensures.reads

pub returns-in_err-names-clause-refused : goal.returns-in_err-names-clause-refused
returns-in_err-names-clause-refused g c =
    let p = err_from_is_err_and c.from_residual-in_err-names.result c.from_residual-in_err-names.ensures.1 in
    let old = g.S.Store.facts c.args.store.now in
    let name = g.K.KeyOrder.name in
    rw (p.1, p.2) (refuses_later c.in_err-names.field-0.0 old (g.S.Store.facts c.plan_manifest.new.store) (g.S.Store.facts c.list_names.new.store) ⊥ ⊥
    (HasNoPlan name c.args.ends old.files c.args.number) (HasBeyond name c.args.ends old.files c.args.number)
    c.in_ok-layout.ensures.reads (λ f d. absurd d) (λ f u. absurd u) c.in_err-names.ensures.refused)

pub returns-in_err-logs-clause-reads : goal.returns-in_err-logs-clause-reads
returns-in_err-logs-clause-reads g c =
    reads_both (g.S.Store.facts c.args.store.now) (g.S.Store.facts c.plan_manifest.new.store) (g.S.Store.facts c.list_names.new.store) c.in_ok-layout.ensures.reads c.in_ok-names.ensures.reads

pub returns-in_err-plan_logs-clause-reads : goal.returns-in_err-plan_logs-clause-reads
returns-in_err-plan_logs-clause-reads g c =
    let old = g.S.Store.facts c.args.store.now in
    let b = g.S.Store.facts c.list_names.new.store in
    reads_both old b (g.S.Store.facts c.plan_logs.new.store)
    (reads_both old (g.S.Store.facts c.plan_manifest.new.store) b c.in_ok-layout.ensures.reads c.in_ok-names.ensures.reads) c.in_err-plan_logs.ensures.reads

pub returns-in_err-plan_logs-clause-refused : goal.returns-in_err-plan_logs-clause-refused
returns-in_err-plan_logs-clause-refused g c =
    let p = err_from_is_err_and c.from_residual-in_err-plan_logs.result c.from_residual-in_err-plan_logs.ensures.1 in
    let old = g.S.Store.facts c.args.store.now in
    let a = g.S.Store.facts c.plan_manifest.new.store in
    let b = g.S.Store.facts c.list_names.new.store in
    let d = g.S.Store.facts c.plan_logs.new.store in
    let name = g.K.KeyOrder.name in
    let first = c.in_ok-layout.ensures in
    let both = reads_both old a b first.reads c.in_ok-names.ensures.reads in
    let layout = c.in_ok-layout.layout in
    rw (p.1, p.2) (refuses_later c.in_err-plan_logs.field-0.0 old b d ((n : ℕ) × Contains c.deref-2.result.now n × HasNoFront c.args.ends b.files (Log n)) ⊥
    (HasNoPlan name c.args.ends old.files c.args.number) (HasBeyond name c.args.ends old.files c.args.number) both
    (λ f h.
    let fb = c.in_err-plan_logs.ensures.reads.faithful f in
    let fa = c.in_ok-names.ensures.reads.faithful fb in
    let i = subst (λ (ns : List ℕ). Contains ns h.0) c.deref-2.ensures.value h.1 in
    inr (layout, h.0, (first.found fa).0, c.in_ok-logs.ensures.0 h.0 i, subst (λ (fs : Files). HasNoFront c.args.ends fs (Log h.0)) (both.same fb) h.2))
    (λ f u. absurd u) c.in_err-plan_logs.ensures.refused)

pub returns-clause-reads : goal.returns-clause-reads
returns-clause-reads g c =
    let old = g.S.Store.facts c.args.store.now in
    let b = g.S.Store.facts c.list_names.new.store in
    reads_both old b (g.S.Store.facts c.plan_logs.new.store)
    (reads_both old (g.S.Store.facts c.plan_manifest.new.store) b c.in_ok-layout.ensures.reads c.in_ok-names.ensures.reads) c.in_ok-plan_logs.ensures.reads

pub returns-clause-found : goal.returns-clause-found
returns-clause-found g c f =
    let old = g.S.Store.facts c.args.store.now in
    let a = g.S.Store.facts c.plan_manifest.new.store in
    let b = g.S.Store.facts c.list_names.new.store in
    let first = c.in_ok-layout.ensures in
    let both = reads_both old a b first.reads c.in_ok-names.ensures.reads in
    let layout = c.in_ok-layout.layout in
    let fb = c.in_ok-plan_logs.ensures.reads.faithful f in
    let fa = c.in_ok-names.ensures.reads.faithful fb in
    let here = first.found fa in
    let names = map string_bytes c.in_ok-names.names.items in
    let lists : Lists old.files names = subst (λ (fs : Files). Lists fs names) (first.reads.same fa) (c.in_ok-names.ensures.names fb) in
    let N : List (String Global) → Type 0 = λ ns. AreLogsOf layout (map string_bytes ns) c.in_ok-logs.logs.items in
    let logs : AreLogsOf layout names c.in_ok-logs.logs.items = subst N c.deref.ensures.value c.in_ok-logs.ensures in
    let L : List ℕ → Type 0 = λ ns. PlansLogs c.args.ends old.files ns c.plan_manifest.new.cuts.items c.plan_logs.new.cuts.items in
    let plans : L c.in_ok-logs.logs.items = subst L c.deref-2.ensures.value (subst (λ (fs : Files). PlansLogs c.args.ends fs c.deref-2.result.now c.plan_manifest.new.cuts.items c.plan_logs.new.cuts.items) (both.same fb) (c.in_ok-plan_logs.ensures.found f)) in
    (layout, here.0, planned c.args.ends old.files c.args.number layout names c.in_ok-logs.logs.items c.plan_manifest.new.cuts.items c.plan_logs.new.cuts.items lists logs (subst (λ (cs : List Cut). PlansFile c.args.ends old.files (Manifest c.args.number) cs c.plan_manifest.new.cuts.items) c.new-cuts.ensures.items here.1) plans)
