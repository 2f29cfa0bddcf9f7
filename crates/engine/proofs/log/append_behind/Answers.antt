use Rattle.std.proofs.Common.{◌∙◌, ℕ, List, ap, map, subst, string_bytes}
use Rattle.std.specs.FinMap.{get}
use Rattle.store.proofs.Carrying.{carries_both}
use Rattle.store.specs.Files.{Files}
use Rattle.engine.proofs.FrontSyncing.{beside_front, fails_both, left_behind, memory_keeps, puts_behind, stood_behind, syncs_behind, unput_behind}
use Rattle.engine.specs.internal.Logs.{SyncsEach}
use Rattle.engine.proofs.log.append_behind.Goals as goal

pub returns-in-Ok-clause-syncs : goal.returns-in-Ok-clause-syncs
returns-in-Ok-clause-syncs g c =
    syncs_behind c.args.sync (g.S.Store.facts c.args.store.now) (g.S.Store.facts c.sync_front.new.store) (g.S.Store.facts c.append_record.new.store) (map string_bytes c.args.front.now) c.args.name.now c.args.bytes.now c.append_record.result
    c.in-Ok.ensures.syncs c.append_record.ensures.appends c.append_record.ensures.syncs

pub returns-in-Ok-clause-memory : goal.returns-in-Ok-clause-memory
returns-in-Ok-clause-memory g c = λ memory. c.append_record.ensures.memory memory ∙ c.in-Ok.ensures.syncs.done

pub returns-in-Ok-clause-stops : goal.returns-in-Ok-clause-stops
returns-in-Ok-clause-stops g c = λ f.
    let a = c.append_record.ensures.appends in
    left_behind (g.S.Store.facts c.args.store.now) (g.S.Store.facts c.sync_front.new.store) (g.S.Store.facts c.append_record.new.store) c.args.name.now c.args.bytes.now
    (c.in-Ok.ensures.syncs.these.files (a.faithful f)) (c.in-Ok.ensures.stops (a.faithful f)) (c.append_record.ensures.stops f)

pub returns-in-Ok-clause-keeps : goal.returns-in-Ok-clause-keeps
returns-in-Ok-clause-keeps g c =
    memory_keeps c.args.sync (g.S.Store.facts c.args.store.now) (g.S.Store.facts c.sync_front.new.store) (g.S.Store.facts c.append_record.new.store) (map string_bytes c.args.front.now) c.args.name.now c.args.bytes.now c.append_record.result
    c.in-Ok.ensures.syncs.these c.append_record.ensures.appends c.append_record.ensures.syncs

pub returns-in-Err-clause-keeps : goal.returns-in-Err-clause-keeps
returns-in-Err-clause-keeps g c = λ f memory q. c.in-Err.ensures.syncs.these.keeps f q

pub returns-in-Ok-clause-carries : goal.returns-in-Ok-clause-carries
returns-in-Ok-clause-carries g c = λ f.
    carries_both (g.S.Store.facts c.args.store.now) (g.S.Store.facts c.sync_front.new.store) (g.S.Store.facts c.append_record.new.store) (λ (q : List ℕ). ⊥)
    (c.in-Ok.ensures.carries (c.append_record.ensures.appends.faithful f)) (c.append_record.ensures.carries f)

pub returns-in-Ok-clause-stood : goal.returns-in-Ok-clause-stood
returns-in-Ok-clause-stood g c =
    stood_behind (g.S.Store.facts c.args.store.now) (g.S.Store.facts c.sync_front.new.store) (g.S.Store.facts c.append_record.new.store) c.append_record.result c.in-Ok.ensures.syncs.done c.append_record.ensures.stood

pub returns-in-Ok-clause-fails : goal.returns-in-Ok-clause-fails
returns-in-Ok-clause-fails g c = fails_both (g.S.Store.facts c.args.store.now) (g.S.Store.facts c.sync_front.new.store) (g.S.Store.facts c.append_record.new.store) c.in-Ok.ensures.syncs.these.writes c.append_record.ensures.fails

pub returns-in-Ok-clause-beside : goal.returns-in-Ok-clause-beside
returns-in-Ok-clause-beside g c =
    beside_front (g.S.Store.facts c.args.store.now) (g.S.Store.facts c.sync_front.new.store) (g.S.Store.facts c.append_record.new.store) (map string_bytes c.args.front.now) c.args.name.now
    c.in-Ok.ensures.syncs.these c.append_record.ensures.appends.faithful c.append_record.ensures.beside

pub returns-in-Err-clause-beside : goal.returns-in-Err-clause-beside
returns-in-Err-clause-beside g c = λ f q apart. ap (λ (fs : Files). get fs q) (c.in-Err.ensures.syncs.these.files f)

pub returns-in-Err-clause-fails : goal.returns-in-Err-clause-fails
returns-in-Err-clause-fails g c = c.in-Err.ensures.syncs.these.writes

pub returns-in-Err-clause-carries : goal.returns-in-Err-clause-carries
returns-in-Err-clause-carries g c = c.in-Err.ensures.carries

pub returns-in-Ok-clause-puts : goal.returns-in-Ok-clause-puts
returns-in-Ok-clause-puts g c f =
    let old = g.S.Store.facts c.args.store.now in
    let mid = g.S.Store.facts c.sync_front.new.store in
    let each = c.in-Ok.ensures.each (c.append_record.ensures.appends.faithful f) in
    puts_behind (map string_bytes c.args.front.now) old mid (g.S.Store.facts c.append_record.new.store) c.args.name.now c.args.bytes.now (subst (λ (names : List (List ℕ)). SyncsEach names old mid) each.2 each.1) (c.append_record.ensures.puts f)

pub returns-in-Err-clause-puts : goal.returns-in-Err-clause-puts
returns-in-Err-clause-puts g c f =
    let each = c.in-Err.ensures.each f in
    unput_behind (map string_bytes c.args.front.now) each.0 (g.S.Store.facts c.args.store.now) (g.S.Store.facts c.sync_front.new.store) _ each.1
