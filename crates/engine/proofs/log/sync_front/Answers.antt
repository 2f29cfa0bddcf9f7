use Rattle.std.proofs.Common.{ℕ, List, map, take, drop, sym, ap, subst, ◌∙◌, string_bytes}
use Rattle.std.proofs.lemmas.List.{take_all, take-append-drop, map-append}
use Rattle.directory_writes.proofs.Cleaning.{names_more}
use Rattle.engine.proofs.FrontSyncing.{SyncsSoFar, so_far_none, so_far_more, so_far_carried, so_far_each, so_far_failed, so_far_left, all_so_far}
use Rattle.engine.proofs.log.sync_front.Goals as goal

pub loop-name-init : goal.loop-name-init
loop-name-init g c = so_far_none (g.S.Store.facts c.args.store.now)

pub loop-name-preserved : goal.loop-name-preserved
loop-name-preserved g c =
    let old = g.S.Store.facts c.args.store.now in
    let mid = g.S.Store.facts c.loop-name.store in
    let new = g.S.Store.facts c.sync.new.self in
    let names = c.args.names.now in
    subst (λ (n : List (List ℕ)). SyncsSoFar n old new)
    (names_more names c.loop-name.name-index c.name-item.result c.as_str.result.now c.loop-name-test.true c.name-item.is c.as_str.ensures.value)
    (so_far_more (map string_bytes (take c.loop-name.name-index names)) c.as_str.result.now old mid new c.sync.result (sym c.is_err.ensures.value ∙ c.if-is_err.false)
    c.sync.ensures.counts c.sync.ensures.writes c.sync.ensures.undenied c.sync.ensures.lock c.sync.ensures.same c.sync.ensures.synced c.sync.ensures.unsynced c.sync.ensures.calls c.loop-name.invariant)

pub returns-clause-syncs : goal.returns-clause-syncs
returns-clause-syncs g c =
    all_so_far (map string_bytes c.args.names.now) (map string_bytes (take c.loop-name.name-index c.args.names.now)) (g.S.Store.facts c.args.store.now) (g.S.Store.facts c.loop-name.store)
    (ap (map string_bytes) (take_all c.loop-name.name-index c.args.names.now c.loop-name-test.false)) c.loop-name.invariant

pub returns-clause-stops : goal.returns-clause-stops
returns-clause-stops g c = c.loop-name.invariant.left

pub returns-clause-carries : goal.returns-clause-carries
returns-clause-carries g c = c.loop-name.invariant.carried

pub returns-then-is_err-clause-syncs : goal.returns-then-is_err-clause-syncs
returns-then-is_err-clause-syncs g c =
    let old = g.S.Store.facts c.args.store.now in
    let mid = g.S.Store.facts c.loop-name.store in
    let new = g.S.Store.facts c.sync.new.self in
    let names = c.args.names.now in
    let i = c.loop-name.name-index in
    so_far_failed (map string_bytes names) (map string_bytes (take i names)) (map string_bytes (drop i names)) c.as_str.result.now old mid new c.sync.result
    (ap (map string_bytes) (sym (take-append-drop i names)) ∙ map-append string_bytes (take i names) (drop i names)) (sym c.is_err.ensures.value ∙ c.if-is_err.true)
    c.sync.ensures.missing c.sync.ensures.memory c.sync.ensures.counts c.sync.ensures.writes c.sync.ensures.undenied c.sync.ensures.lock c.sync.ensures.same c.sync.ensures.unsynced c.loop-name.invariant

pub returns-then-is_err-clause-stops : goal.returns-then-is_err-clause-stops
returns-then-is_err-clause-stops g c = λ f.
    so_far_left (map string_bytes (take c.loop-name.name-index c.args.names.now)) c.as_str.result.now (g.S.Store.facts c.args.store.now) (g.S.Store.facts c.loop-name.store) (g.S.Store.facts c.sync.new.self) c.sync.result f
    c.sync.ensures.counts c.sync.ensures.same c.sync.ensures.calls c.loop-name.invariant

pub returns-then-is_err-clause-carries : goal.returns-then-is_err-clause-carries
returns-then-is_err-clause-carries g c = λ f.
    so_far_carried (map string_bytes (take c.loop-name.name-index c.args.names.now)) c.as_str.result.now (g.S.Store.facts c.args.store.now) (g.S.Store.facts c.loop-name.store) (g.S.Store.facts c.sync.new.self) c.sync.result f
    c.sync.ensures.counts c.sync.ensures.same c.sync.ensures.unsynced c.sync.ensures.calls c.loop-name.invariant

pub returns-clause-each : goal.returns-clause-each
returns-clause-each g c f = (map string_bytes (take c.loop-name.name-index c.args.names.now), c.loop-name.invariant.each f, ap (map string_bytes) (take_all c.loop-name.name-index c.args.names.now c.loop-name-test.false))

pub returns-then-is_err-clause-each : goal.returns-then-is_err-clause-each
returns-then-is_err-clause-each g c f =
    let names = map string_bytes (take c.loop-name.name-index c.args.names.now) in (
      names,
      so_far_each names c.as_str.result.now (g.S.Store.facts c.args.store.now) (g.S.Store.facts c.loop-name.store) (g.S.Store.facts c.sync.new.self) c.sync.result f (sym c.is_err.ensures.value ∙ c.if-is_err.true)
          c.sync.ensures.counts c.sync.ensures.same c.sync.ensures.unsynced c.sync.ensures.calls c.loop-name.invariant,
      tt,
    )
