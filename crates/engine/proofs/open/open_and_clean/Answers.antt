use Rattle.ikey.specs.Orders.{order_of}
use Rattle.std.proofs.Common.{◌≡◌, false, is_err, map, Result, Ok, Err, IfErr, IsTrue, inl, inr, refl, sym, ap, subst, ◌∙◌, arith, rules, string_bytes}
use Rattle.cache.specs.Blocks.{BlockCache}
use Rattle.coding.specs.declared.error.DbError.{DbError}
use Rattle.coding.specs.declared.error.DbError.TheVariants.{OutOfMemory}
use Rattle.store.specs.Files.{Facts, Files}
use Rattle.store.specs.Stops.{LeavesOnly}
use Rattle.opening.specs.Losses.{BeginsSpared, HaveNamesStayed}
use Rattle.opening.specs.internal.Begun.{IsUnwritten}
use Rattle.opening.specs.internal.Durable.{HasDurable, Spares}
use Rattle.opening.specs.internal.Opening.{IsContinued}
use Rattle.engine.specs.declared.ids.Ids.{Ids}
use Rattle.engine.specs.declared.state.DbState.{DbState}
use Rattle.machine.specs.Lifetime.{Opens}
use Rattle.machine.specs.Machine.{Machine}
use Rattle.machine.specs.declared.command.Answer.TheVariants.{Done}
use Rattle.engine.specs.Stands.{no_ids}
use Rattle.engine.specs.Follows.{Leads, unit_answer}
use Rattle.engine.specs.OpenDb.{open_db as db_of}
use Rattle.engine.specs.Reopening.{HasKeptLogs, LosesOn}
use Rattle.db_cursor.specs.Whole.{seen_of}
use Rattle.engine.specs.internal.Directory.{MeansAccepted}
use Rattle.engine.specs.internal.Logs.{SyncsFront}
use Rattle.engine.specs.internal.Resting.{LosesMeaning, Rests, StandsResult}
use Rattle.engine.specs.internal.Standing.{StandsOpen}
use Rattle.directory_writes.specs.Differing.{OfEach}
use Rattle.engine.proofs.KeptFronts.{durable_kept, durable_refused, found_cleaned, found_kept, front_done, front_refused, grown_sound, is_memory, leads_kept, meaning_kept, on_kept, outcome_refused, outcome_starved, refused_kept, spared_kept, stops_kept, went}
use Rattle.engine.proofs.OpenMachine.{means_whole, open_refused}
use Rattle.engine.proofs.Opened.{durable_cleaned, opened_cleaned, spared_cleaned}
use Rattle.engine.proofs.LosingOpened.{begun_kept, opened_loses}
use Rattle.engine.proofs.StopSteps.{opened_keeps}
use Rattle.engine.proofs.ReopeningRemovals.{opened_on}
use Rattle.engine.proofs.open.open_and_clean.Given.{Over}
use Rattle.engine.proofs.open.open_and_clean.Goals.{After-keep_front}
use Rattle.engine.proofs.open.open_and_clean.Goals as goal

pub returns-in_err-state-clause-step : goal.returns-in_err-state-clause-step
returns-in_err-state-clause-step g c ids =
    let order = order_of g.K.KeyOrder.name g.K.KeyOrder.cmp in
    let facts = g.S.Store.facts in
    let old = facts c.args.source.now.tables.store in
    let mid = c.open_locked.new.source in
    let e = c.in_err-state.field-0.0 in
    let is : c.from_residual.result ≡ Err e = search rules in
    subst (λ (r : Result (DbState _ _) DbError). Leads old (facts mid.tables.store) (Rests order old ids) (StandsResult order (seen_of facts mid) mid.memory ids r) (λ m n. Opens m c.args.mode (unit_answer r) n)) (sym is) (c.in_err-state.ensures.step ids)

pub returns-in_err-state-clause-stops : goal.returns-in_err-state-clause-stops
returns-in_err-state-clause-stops g c f ids m undamaged r =
    c.in_err-state.ensures.stops f m (means_whole (order_of g.K.KeyOrder.name g.K.KeyOrder.cmp) (g.S.Store.facts c.args.source.now.tables.store).files m undamaged r.rest)

pub returns-in_err-state-clause-loses : goal.returns-in_err-state-clause-loses
returns-in_err-state-clause-loses g c f ids m undamaged r =
    c.in_err-state.ensures.loses f m (means_whole (order_of g.K.KeyOrder.name g.K.KeyOrder.cmp) (g.S.Store.facts c.args.source.now.tables.store).files m undamaged r.rest)

pub returns-in_err-state-clause-loses_on : goal.returns-in_err-state-clause-loses_on
returns-in_err-state-clause-loses_on g c f ids m undamaged r = c.in_err-state.ensures.loses_on f

-- ---- after the syncs of the logs in front, whether they succeed or not

abbrev old_in : (g : Over) → After-keep_front g → Facts
old_in g c = g.S.Store.facts c.args.source.now.tables.store

abbrev mid_in : (g : Over) → After-keep_front g → Facts
mid_in g c = g.S.Store.facts c.open_locked.new.source.tables.store

abbrev kept_in : (g : Over) → After-keep_front g → Facts
kept_in g c = g.S.Store.facts c.keep_front.new.store

stops_in : (g : Over) (c : After-keep_front g) → IsTrue (kept_in g c).faithful → (m : Machine) → MeansAccepted (order_of g.K.KeyOrder.name g.K.KeyOrder.cmp) (old_in g c).files m
    → LeavesOnly (old_in g c) (kept_in g c) (λ files. MeansAccepted (order_of g.K.KeyOrder.name g.K.KeyOrder.cmp) files m)
stops_in g c f m means =
    let k = c.keep_front.ensures in
    stops_kept (order_of g.K.KeyOrder.name g.K.KeyOrder.cmp) (old_in g c) (mid_in g c) (kept_in g c) m (c.in_ok-state.ensures.stops (k.syncs.these.faithful f) m means) (k.stops f)

meaning_in : (g : Over) (c : After-keep_front g) → IsTrue (kept_in g c).faithful → (m : Machine) → MeansAccepted (order_of g.K.KeyOrder.name g.K.KeyOrder.cmp) (old_in g c).files m → HaveNamesStayed (old_in g c)
    → LosesMeaning (order_of g.K.KeyOrder.name g.K.KeyOrder.cmp) (old_in g c) (kept_in g c) m
meaning_in g c f m means names =
    let k = c.keep_front.ensures in
    let o = c.in_ok-state.ensures in
    let back = k.syncs.these.faithful f in
    let first = o.stops back m means in
    let each = k.each f in
    meaning_kept (order_of g.K.KeyOrder.name g.K.KeyOrder.cmp) each.0 (old_in g c) (mid_in g c) (kept_in g c) first.more first.calls each.1 c.synced_law.ensures m (o.loses back m means names)

on_in : (g : Over) (c : After-keep_front g) → IsTrue (kept_in g c).faithful → (m : Machine) → MeansAccepted (order_of g.K.KeyOrder.name g.K.KeyOrder.cmp) (old_in g c).files m
    → LosesOn (order_of g.K.KeyOrder.name g.K.KeyOrder.cmp) (old_in g c) (kept_in g c)
on_in g c f m means =
    let k = c.keep_front.ensures in
    let o = c.in_ok-state.ensures in
    let these = k.syncs.these in
    let back = these.faithful f in
    let first = o.stops back m means in
    let each = k.each f in
    on_kept (order_of g.K.KeyOrder.name g.K.KeyOrder.cmp) each.0 (old_in g c) (mid_in g c) (kept_in g c) first.more first.calls each.1 c.synced_law.ensures (these.files f) (these.keeps f) (o.loses_on back)

spared_in : (g : Over) (c : After-keep_front g) → IsTrue (kept_in g c).faithful → Spares (old_in g c) (kept_in g c)
spared_in g c f =
    let these = c.keep_front.ensures.syncs.these in
    let o = c.in_ok-state.ensures in
    let log = c.in_ok-state.state.log in
    spared_kept (old_in g c) (mid_in g c) (kept_in g c) log.number (map string_bytes log.front.items) these (o.begins (these.faithful f)).logs.front f (o.spared (these.faithful f))

-- ---- one of them was refused

pub returns-then-is_err-clause-step : goal.returns-then-is_err-clause-step
returns-then-is_err-clause-step g c ids =
    let behind = (goal.at.returns-then-is_err-clause-step g c).After-keep_front in
    let o = c.in_ok-state.ensures in
    let syncs = c.keep_front.ensures.syncs in
    let names = map string_bytes c.in_ok-state.state.log.front.items in
    refused_kept (order_of g.K.KeyOrder.name g.K.KeyOrder.cmp) {ids = ids} (old_in g behind) (mid_in g behind) (kept_in g behind) c.args.mode names syncs.these
    (front_refused names (mid_in g behind) (kept_in g behind) c.keep_front.result (sym c.is_err.ensures.value ∙ c.if-is_err.true) syncs) (o.step no_ids).faithful o.outcome.failures (o.outcome.undenied (λ is. cc)) o.continued_each

pub returns-then-is_err-clause-outcome : goal.returns-then-is_err-clause-outcome
returns-then-is_err-clause-outcome g c =
    let behind = (goal.at.returns-then-is_err-clause-outcome g c).After-keep_front in
    let o = c.in_ok-state.ensures in
    let syncs = c.keep_front.ensures.syncs in
    let names = map string_bytes c.in_ok-state.state.log.front.items in
    outcome_refused {T = DbState _ _} (old_in g behind) (mid_in g behind) (kept_in g behind) names syncs.these
    (front_refused names (mid_in g behind) (kept_in g behind) c.keep_front.result (sym c.is_err.ensures.value ∙ c.if-is_err.true) syncs) o.outcome.failures (o.outcome.undenied (λ is. cc))

pub returns-then-is_err-clause-lock : goal.returns-then-is_err-clause-lock
returns-then-is_err-clause-lock g c = c.keep_front.ensures.syncs.these.locked ∙ c.in_ok-state.ensures.lock

pub returns-then-is_err-clause-durable : goal.returns-then-is_err-clause-durable
returns-then-is_err-clause-durable g c =
    let behind = (goal.at.returns-then-is_err-clause-durable g c).After-keep_front in
    let state = c.in_ok-state.state in
    durable_refused {T = DbState _ _} state.directory.manifest.number (old_in g behind) (mid_in g behind) (kept_in g behind) (map string_bytes state.log.front.items) c.keep_front.ensures.syncs.these c.in_ok-state.ensures.current

pub returns-then-is_err-clause-spared : goal.returns-then-is_err-clause-spared
returns-then-is_err-clause-spared g c =
    let behind = (goal.at.returns-then-is_err-clause-spared g c).After-keep_front in
    spared_in g behind

pub returns-then-is_err-clause-stops : goal.returns-then-is_err-clause-stops
returns-then-is_err-clause-stops g c f ids m undamaged r =
    let behind = (goal.at.returns-then-is_err-clause-stops g c).After-keep_front in
    stops_in g behind f m (means_whole (order_of g.K.KeyOrder.name g.K.KeyOrder.cmp) (old_in g behind).files m undamaged r.rest)

pub returns-then-is_err-clause-loses : goal.returns-then-is_err-clause-loses
returns-then-is_err-clause-loses g c f ids m undamaged r =
    let behind = (goal.at.returns-then-is_err-clause-loses g c).After-keep_front in
    meaning_in g behind f m (means_whole (order_of g.K.KeyOrder.name g.K.KeyOrder.cmp) (old_in g behind).files m undamaged r.rest)

pub returns-then-is_err-clause-loses_on : goal.returns-then-is_err-clause-loses_on
returns-then-is_err-clause-loses_on g c f ids m undamaged r =
    let behind = (goal.at.returns-then-is_err-clause-loses_on g c).After-keep_front in
    on_in g behind f m (means_whole (order_of g.K.KeyOrder.name g.K.KeyOrder.cmp) (old_in g behind).files m undamaged r.rest)

-- ---- all of them succeeded

syncs_in : (g : Over) (c : After-keep_front g) → is_err c.keep_front.result ≡ false → SyncsFront (map string_bytes c.in_ok-state.state.log.front.items) (mid_in g c) (kept_in g c) (Ok tt)
syncs_in g c test =
    front_done (map string_bytes c.in_ok-state.state.log.front.items) (mid_in g c) (kept_in g c) c.keep_front.result test c.keep_front.ensures.syncs

leads_in : (g : Over) (c : After-keep_front g) → is_err c.keep_front.result ≡ false → (ids : Ids) → Leads (old_in g c) (kept_in g c) (Rests (order_of g.K.KeyOrder.name g.K.KeyOrder.cmp) (old_in g c) ids)
    (StandsOpen (order_of g.K.KeyOrder.name g.K.KeyOrder.cmp) (record (seen_of g.S.Store.facts c.open_locked.new.source) { facts = kept_in g c }) ids (record (db_of c.open_locked.new.source.memory c.in_ok-state.state) { log = c.keep_front.new.log }))
    (λ m n. Opens m c.args.mode Done n)
leads_in g c test ids =
    let k = c.keep_front.ensures in
    leads_kept (order_of g.K.KeyOrder.name g.K.KeyOrder.cmp) c.sound_stays.ensures (old_in g c) (seen_of g.S.Store.facts c.open_locked.new.source) (kept_in g c) (db_of c.open_locked.new.source.memory c.in_ok-state.state)
    c.keep_front.new.log c.args.mode ids tt (syncs_in g c test) k.carries k.same.0 k.same.1 k.same.2 (went c.keep_front.result test k.front) (c.in_ok-state.ensures.step ids)

durable_in : (g : Over) (c : After-keep_front g) → IsTrue (kept_in g c).faithful → HasDurable c.in_ok-state.state.directory.manifest.number (kept_in g c)
durable_in g c f =
    let these = c.keep_front.ensures.syncs.these in
    durable_kept c.in_ok-state.state.directory.manifest.number (mid_in g c) (kept_in g c) (these.files f) (these.keeps f) (c.in_ok-state.ensures.current (these.faithful f))

logs_in : (g : Over) (c : After-keep_front g) → is_err c.keep_front.result ≡ false → IsTrue (kept_in g c).faithful → HasKeptLogs (kept_in g c) c.in_ok-state.state.directory
logs_in g c test f =
    let these = c.keep_front.ensures.syncs.these in
    let back = these.faithful f in
    let o = c.in_ok-state.ensures in
    let state = c.in_ok-state.state in
    found_kept (order_of g.K.KeyOrder.name g.K.KeyOrder.cmp) (old_in g c) (mid_in g c) (kept_in g c) state.log state.directory (o.begins back) (o.renewed back) o.named (these.files f) ((syncs_in g c test).kept f)

begun_in : (g : Over) (c : After-keep_front g) → IsTrue (kept_in g c).faithful → BeginsSpared (kept_in g c) (string_bytes c.keep_front.new.log.name)
begun_in g c f =
    let k = c.keep_front.ensures in
    let each = k.each f in
    let log = c.in_ok-state.state.log in
    subst (λ name. BeginsSpared (kept_in g c) (string_bytes name)) (sym k.same.1) (begun_kept each.0 (mid_in g c) (kept_in g c) (string_bytes log.name) (c.in_ok-state.ensures.since (k.syncs.these.faithful f)) each.1)

-- ---- what could be removed is gone

pub returns-in-Ok-clause-step : goal.returns-in-Ok-clause-step
returns-in-Ok-clause-step g c ids =
    let behind = (goal.at.returns-in-Ok-clause-step g c).After-keep_front in
    let test : is_err c.keep_front.result ≡ false = sym c.is_err.ensures.value ∙ c.if-is_err.false in
    let order = order_of g.K.KeyOrder.name g.K.KeyOrder.cmp in
    let facts = g.S.Store.facts in
    let mid = seen_of facts c.open_locked.new.source in
    let cleared = record (db_of c.open_locked.new.source.memory c.in_ok-state.state) { log = c.keep_front.new.log } in
    opened_cleaned order (old_in g behind) (record mid { facts = kept_in g behind }) (seen_of facts c.clean.new.source) ids cleared (record cleared { memory = c.clean.new.source.memory }) (Rests order (old_in g behind) ids) c.args.mode c.clean.result
    c.in_ok-state.ensures.whole c.in_ok-state.ensures.whole (leads_in g behind test ids) (c.clean.ensures.step ids)

pub returns-in-Ok-clause-durable : goal.returns-in-Ok-clause-durable
returns-in-Ok-clause-durable g c =
    let behind = (goal.at.returns-in-Ok-clause-durable g c).After-keep_front in
    let state = record c.in_ok-state.state { log = c.keep_front.new.log } in
    durable_cleaned (old_in g behind) (kept_in g behind) (g.S.Store.facts c.clean.new.source.tables.store) (db_of c.clean.new.source.memory state) state (c.clean.ensures.step no_ids).faithful c.clean.ensures.removes (durable_in g behind)

pub returns-in-Ok-clause-spared : goal.returns-in-Ok-clause-spared
returns-in-Ok-clause-spared g c =
    let behind = (goal.at.returns-in-Ok-clause-spared g c).After-keep_front in
    let state = record c.in_ok-state.state { log = c.keep_front.new.log } in
    spared_cleaned (old_in g behind) (kept_in g behind) (g.S.Store.facts c.clean.new.source.tables.store) (db_of c.clean.new.source.memory state) (c.clean.ensures.step no_ids).faithful c.clean.ensures.removes (spared_in g behind)

pub returns-in-Ok-clause-tells : goal.returns-in-Ok-clause-tells
returns-in-Ok-clause-tells g c = λ f. c.in_ok-state.ensures.tells (c.keep_front.ensures.syncs.these.faithful ((c.clean.ensures.step no_ids).faithful f))

pub returns-in-Ok-clause-kept : goal.returns-in-Ok-clause-kept
returns-in-Ok-clause-kept g c = λ f.
    let behind = (goal.at.returns-in-Ok-clause-kept g c).After-keep_front in
    let test : is_err c.keep_front.result ≡ false = sym c.is_err.ensures.value ∙ c.if-is_err.false in
    let state = record c.in_ok-state.state { log = c.keep_front.new.log } in
    found_cleaned (kept_in g behind) (g.S.Store.facts c.clean.new.source.tables.store) (db_of c.clean.new.source.memory state) state.directory (c.clean.ensures.removes f) (logs_in g behind test ((c.clean.ensures.step no_ids).faithful f))

pub returns-in-Ok-clause-stops : goal.returns-in-Ok-clause-stops
returns-in-Ok-clause-stops g c =
    let behind = (goal.at.returns-in-Ok-clause-stops g c).After-keep_front in
    let test : is_err c.keep_front.result ≡ false = sym c.is_err.ensures.value ∙ c.if-is_err.false in
    let facts = g.S.Store.facts in
    opened_keeps (order_of g.K.KeyOrder.name g.K.KeyOrder.cmp) (old_in g behind) (record (seen_of facts c.open_locked.new.source) { facts = kept_in g behind }) (seen_of facts c.clean.new.source)
    (record (db_of c.open_locked.new.source.memory c.in_ok-state.state) { log = c.keep_front.new.log }) c.args.mode (c.clean.ensures.step no_ids).faithful (leads_in g behind test) (stops_in g behind) c.clean.ensures.stops

pub returns-in-Ok-clause-loses : goal.returns-in-Ok-clause-loses
returns-in-Ok-clause-loses g c =
    let behind = (goal.at.returns-in-Ok-clause-loses g c).After-keep_front in
    let test : is_err c.keep_front.result ≡ false = sym c.is_err.ensures.value ∙ c.if-is_err.false in
    let facts = g.S.Store.facts in
    let mid = seen_of facts c.open_locked.new.source in
    let db = db_of c.open_locked.new.source.memory c.in_ok-state.state in
    let o = c.in_ok-state.ensures in
    let k = c.keep_front.ensures in
    opened_loses (order_of g.K.KeyOrder.name g.K.KeyOrder.cmp) (old_in g behind) mid (record mid { facts = kept_in g behind }) (seen_of facts c.clean.new.source) db (record db { log = c.keep_front.new.log }) c.args.mode
    (c.clean.ensures.step no_ids).faithful k.syncs.these.faithful (leads_in g behind test) (meaning_in g behind) o.begins (begun_in g behind) k.syncs.these.files k.syncs.these.keeps k.same.0 refl (k.same.2 ∙ o.empty) o.whole c.clean.ensures.only

pub returns-in-Ok-clause-loses_on : goal.returns-in-Ok-clause-loses_on
returns-in-Ok-clause-loses_on g c f ids m undamaged r =
    let behind = (goal.at.returns-in-Ok-clause-loses_on g c).After-keep_front in
    let test : is_err c.keep_front.result ≡ false = sym c.is_err.ensures.value ∙ c.if-is_err.false in
    let order = order_of g.K.KeyOrder.name g.K.KeyOrder.cmp in
    let facts = g.S.Store.facts in
    let mid = seen_of facts c.open_locked.new.source in
    let db = db_of c.open_locked.new.source.memory c.in_ok-state.state in
    let cleared = record db { log = c.keep_front.new.log } in
    let o = c.in_ok-state.ensures in
    let k = c.keep_front.ensures in
    let back = (c.clean.ensures.step no_ids).faithful in
    let these = k.syncs.these in
    opened_on order (old_in g behind) mid (record mid { facts = kept_in g behind }) (seen_of facts c.clean.new.source) db cleared (record cleared { memory = c.clean.new.source.memory }) c.args.mode
    back these.faithful (leads_in g behind test) (λ early. on_in g behind early m (means_whole order (old_in g behind).files m undamaged r.rest))
    (grown_sound (mid_in g behind) (kept_in g behind) (these.files (back f)) (these.keeps (back f)) c.synced_law.ensures) o.renewed (λ early. let each = k.each early in (each.0, each.1)) k.same.0 o.whole c.clean.ensures.only c.clean.ensures.removes f ids m undamaged r

-- ---- the store couldn't list them

pub returns-else-lacks_memory-clause-step : goal.returns-else-lacks_memory-clause-step
returns-else-lacks_memory-clause-step g c ids =
    let behind = (goal.at.returns-else-lacks_memory-clause-step g c).After-keep_front in
    let test : is_err c.keep_front.result ≡ false = sym c.is_err.ensures.value ∙ c.if-is_err.false in
    let order = order_of g.K.KeyOrder.name g.K.KeyOrder.cmp in
    let facts = g.S.Store.facts in
    let mid = seen_of facts c.open_locked.new.source in
    let cleared = record (db_of c.open_locked.new.source.memory c.in_ok-state.state) { log = c.keep_front.new.log } in
    opened_cleaned order (old_in g behind) (record mid { facts = kept_in g behind }) (seen_of facts c.clean.new.source) ids cleared (record cleared { memory = c.clean.new.source.memory }) (Rests order (old_in g behind) ids) c.args.mode c.clean.result
    c.in_ok-state.ensures.whole c.in_ok-state.ensures.whole (leads_in g behind test ids) (c.clean.ensures.step ids)

pub returns-else-lacks_memory-clause-durable : goal.returns-else-lacks_memory-clause-durable
returns-else-lacks_memory-clause-durable g c =
    let behind = (goal.at.returns-else-lacks_memory-clause-durable g c).After-keep_front in
    let state = record c.in_ok-state.state { log = c.keep_front.new.log } in
    durable_cleaned (old_in g behind) (kept_in g behind) (g.S.Store.facts c.clean.new.source.tables.store) (db_of c.clean.new.source.memory state) state (c.clean.ensures.step no_ids).faithful c.clean.ensures.removes (durable_in g behind)

pub returns-else-lacks_memory-clause-spared : goal.returns-else-lacks_memory-clause-spared
returns-else-lacks_memory-clause-spared g c =
    let behind = (goal.at.returns-else-lacks_memory-clause-spared g c).After-keep_front in
    let state = record c.in_ok-state.state { log = c.keep_front.new.log } in
    spared_cleaned (old_in g behind) (kept_in g behind) (g.S.Store.facts c.clean.new.source.tables.store) (db_of c.clean.new.source.memory state) (c.clean.ensures.step no_ids).faithful c.clean.ensures.removes (spared_in g behind)

pub returns-else-lacks_memory-clause-tells : goal.returns-else-lacks_memory-clause-tells
returns-else-lacks_memory-clause-tells g c = λ f. c.in_ok-state.ensures.tells (c.keep_front.ensures.syncs.these.faithful ((c.clean.ensures.step no_ids).faithful f))

pub returns-else-lacks_memory-clause-kept : goal.returns-else-lacks_memory-clause-kept
returns-else-lacks_memory-clause-kept g c = λ f.
    let behind = (goal.at.returns-else-lacks_memory-clause-kept g c).After-keep_front in
    let test : is_err c.keep_front.result ≡ false = sym c.is_err.ensures.value ∙ c.if-is_err.false in
    let state = record c.in_ok-state.state { log = c.keep_front.new.log } in
    found_cleaned (kept_in g behind) (g.S.Store.facts c.clean.new.source.tables.store) (db_of c.clean.new.source.memory state) state.directory (c.clean.ensures.removes f) (logs_in g behind test ((c.clean.ensures.step no_ids).faithful f))

pub returns-else-lacks_memory-clause-stops : goal.returns-else-lacks_memory-clause-stops
returns-else-lacks_memory-clause-stops g c =
    let behind = (goal.at.returns-else-lacks_memory-clause-stops g c).After-keep_front in
    let test : is_err c.keep_front.result ≡ false = sym c.is_err.ensures.value ∙ c.if-is_err.false in
    let facts = g.S.Store.facts in
    opened_keeps (order_of g.K.KeyOrder.name g.K.KeyOrder.cmp) (old_in g behind) (record (seen_of facts c.open_locked.new.source) { facts = kept_in g behind }) (seen_of facts c.clean.new.source)
    (record (db_of c.open_locked.new.source.memory c.in_ok-state.state) { log = c.keep_front.new.log }) c.args.mode (c.clean.ensures.step no_ids).faithful (leads_in g behind test) (stops_in g behind) c.clean.ensures.stops

pub returns-else-lacks_memory-clause-loses : goal.returns-else-lacks_memory-clause-loses
returns-else-lacks_memory-clause-loses g c =
    let behind = (goal.at.returns-else-lacks_memory-clause-loses g c).After-keep_front in
    let test : is_err c.keep_front.result ≡ false = sym c.is_err.ensures.value ∙ c.if-is_err.false in
    let facts = g.S.Store.facts in
    let mid = seen_of facts c.open_locked.new.source in
    let db = db_of c.open_locked.new.source.memory c.in_ok-state.state in
    let o = c.in_ok-state.ensures in
    let k = c.keep_front.ensures in
    opened_loses (order_of g.K.KeyOrder.name g.K.KeyOrder.cmp) (old_in g behind) mid (record mid { facts = kept_in g behind }) (seen_of facts c.clean.new.source) db (record db { log = c.keep_front.new.log }) c.args.mode
    (c.clean.ensures.step no_ids).faithful k.syncs.these.faithful (leads_in g behind test) (meaning_in g behind) o.begins (begun_in g behind) k.syncs.these.files k.syncs.these.keeps k.same.0 refl (k.same.2 ∙ o.empty) o.whole c.clean.ensures.only

pub returns-else-lacks_memory-clause-loses_on : goal.returns-else-lacks_memory-clause-loses_on
returns-else-lacks_memory-clause-loses_on g c f ids m undamaged r =
    let behind = (goal.at.returns-else-lacks_memory-clause-loses_on g c).After-keep_front in
    let test : is_err c.keep_front.result ≡ false = sym c.is_err.ensures.value ∙ c.if-is_err.false in
    let order = order_of g.K.KeyOrder.name g.K.KeyOrder.cmp in
    let facts = g.S.Store.facts in
    let mid = seen_of facts c.open_locked.new.source in
    let db = db_of c.open_locked.new.source.memory c.in_ok-state.state in
    let cleared = record db { log = c.keep_front.new.log } in
    let o = c.in_ok-state.ensures in
    let k = c.keep_front.ensures in
    let back = (c.clean.ensures.step no_ids).faithful in
    let these = k.syncs.these in
    opened_on order (old_in g behind) mid (record mid { facts = kept_in g behind }) (seen_of facts c.clean.new.source) db cleared (record cleared { memory = c.clean.new.source.memory }) c.args.mode
    back these.faithful (leads_in g behind test) (λ early. on_in g behind early m (means_whole order (old_in g behind).files m undamaged r.rest))
    (grown_sound (mid_in g behind) (kept_in g behind) (these.files (back f)) (these.keeps (back f)) c.synced_law.ensures) o.renewed (λ early. let each = k.each early in (each.0, each.1)) k.same.0 o.whole c.clean.ensures.only c.clean.ensures.removes f ids m undamaged r

-- ---- there was no memory to list them: the directory says what it said

pub returns-then-lacks_memory-clause-stood : goal.returns-then-lacks_memory-clause-stood
returns-then-lacks_memory-clause-stood g c = λ is.
    let behind = (goal.at.returns-then-lacks_memory-clause-stood g c).After-keep_front in
    let test : is_err c.keep_front.result ≡ false = sym c.is_err.ensures.value ∙ c.if-is_err.false in
    let memory = is_memory c.in-Err.error (sym c.lacks_memory.ensures ∙ c.if-lacks_memory.true) in
    c.in-Err.ensures.outcome.memory (λ i. Err (memory i)) ∙ (syncs_in g behind test).done ∙ c.in_ok-state.ensures.unfailed

pub returns-then-lacks_memory-clause-outcome : goal.returns-then-lacks_memory-clause-outcome
returns-then-lacks_memory-clause-outcome g c =
    let behind = (goal.at.returns-then-lacks_memory-clause-outcome g c).After-keep_front in
    let test : is_err c.keep_front.result ≡ false = sym c.is_err.ensures.value ∙ c.if-is_err.false in
    let o = c.in_ok-state.ensures in
    let memory = is_memory c.in-Err.error (sym c.lacks_memory.ensures ∙ c.if-lacks_memory.true) in
    outcome_starved {T = DbState _ _} (old_in g behind) (g.S.Store.facts c.clean.new.source.tables.store) (c.in-Err.ensures.outcome.memory (λ i. Err (memory i)) ∙ (syncs_in g behind test).done ∙ o.unfailed)
    (c.clean.ensures.outcome.denials ∙ c.keep_front.ensures.syncs.these.denials ∙ o.outcome.undenied (λ is. cc))

pub returns-then-lacks_memory-clause-step : goal.returns-then-lacks_memory-clause-step
returns-then-lacks_memory-clause-step g c ids =
    let behind = (goal.at.returns-then-lacks_memory-clause-step g c).After-keep_front in
    let order = order_of g.K.KeyOrder.name g.K.KeyOrder.cmp in
    let old = old_in g behind in
    let o = c.in_ok-state.ensures in
    let these = c.keep_front.ensures.syncs.these in
    let back = (c.clean.ensures.step no_ids).faithful in
    let first = o.outcome.failures in
    let synced = these.failures in
    let next = c.clean.ensures.outcome.failures in
    open_refused order {ids = ids} old (g.S.Store.facts c.clean.new.source.tables.store) c.args.mode OutOfMemory (λ f. (o.step no_ids).faithful (these.faithful (back f))) (omega (arith, first, synced, next))
    (c.clean.ensures.outcome.denials ∙ these.denials ∙ o.outcome.undenied (λ is. cc))
    (λ f. subst (λ (fs : Files). OfEach (λ whole left. IsContinued order whole left) old.files fs) (sym (c.in-Err.ensures.unlisted f ∙ these.files (back f))) (o.continued_each (these.faithful (back f)))) tt (inr (inl refl))

pub returns-then-lacks_memory-clause-durable : goal.returns-then-lacks_memory-clause-durable
returns-then-lacks_memory-clause-durable g c =
    let behind = (goal.at.returns-then-lacks_memory-clause-durable g c).After-keep_front in
    let state = record c.in_ok-state.state { log = c.keep_front.new.log } in
    let done = durable_cleaned (old_in g behind) (kept_in g behind) (g.S.Store.facts c.clean.new.source.tables.store) (db_of c.clean.new.source.memory state) state (c.clean.ensures.step no_ids).faithful c.clean.ensures.removes (durable_in g behind) in
    record { ok = λ f. tt; err = λ f. inr (done.ok f) }

pub returns-then-lacks_memory-clause-spared : goal.returns-then-lacks_memory-clause-spared
returns-then-lacks_memory-clause-spared g c =
    let behind = (goal.at.returns-then-lacks_memory-clause-spared g c).After-keep_front in
    let state = record c.in_ok-state.state { log = c.keep_front.new.log } in
    spared_cleaned (old_in g behind) (kept_in g behind) (g.S.Store.facts c.clean.new.source.tables.store) (db_of c.clean.new.source.memory state) (c.clean.ensures.step no_ids).faithful c.clean.ensures.removes (spared_in g behind)

pub returns-then-lacks_memory-clause-stops : goal.returns-then-lacks_memory-clause-stops
returns-then-lacks_memory-clause-stops g c =
    let behind = (goal.at.returns-then-lacks_memory-clause-stops g c).After-keep_front in
    let test : is_err c.keep_front.result ≡ false = sym c.is_err.ensures.value ∙ c.if-is_err.false in
    let facts = g.S.Store.facts in
    opened_keeps (order_of g.K.KeyOrder.name g.K.KeyOrder.cmp) (old_in g behind) (record (seen_of facts c.open_locked.new.source) { facts = kept_in g behind }) (seen_of facts c.clean.new.source)
    (record (db_of c.open_locked.new.source.memory c.in_ok-state.state) { log = c.keep_front.new.log }) c.args.mode (c.clean.ensures.step no_ids).faithful (leads_in g behind test) (stops_in g behind) c.clean.ensures.stops

pub returns-then-lacks_memory-clause-loses : goal.returns-then-lacks_memory-clause-loses
returns-then-lacks_memory-clause-loses g c =
    let behind = (goal.at.returns-then-lacks_memory-clause-loses g c).After-keep_front in
    let test : is_err c.keep_front.result ≡ false = sym c.is_err.ensures.value ∙ c.if-is_err.false in
    let facts = g.S.Store.facts in
    let mid = seen_of facts c.open_locked.new.source in
    let db = db_of c.open_locked.new.source.memory c.in_ok-state.state in
    let o = c.in_ok-state.ensures in
    let k = c.keep_front.ensures in
    opened_loses (order_of g.K.KeyOrder.name g.K.KeyOrder.cmp) (old_in g behind) mid (record mid { facts = kept_in g behind }) (seen_of facts c.clean.new.source) db (record db { log = c.keep_front.new.log }) c.args.mode
    (c.clean.ensures.step no_ids).faithful k.syncs.these.faithful (leads_in g behind test) (meaning_in g behind) o.begins (begun_in g behind) k.syncs.these.files k.syncs.these.keeps k.same.0 refl (k.same.2 ∙ o.empty) o.whole c.clean.ensures.only

pub returns-then-lacks_memory-clause-loses_on : goal.returns-then-lacks_memory-clause-loses_on
returns-then-lacks_memory-clause-loses_on g c f ids m undamaged r =
    let behind = (goal.at.returns-then-lacks_memory-clause-loses_on g c).After-keep_front in
    let test : is_err c.keep_front.result ≡ false = sym c.is_err.ensures.value ∙ c.if-is_err.false in
    let order = order_of g.K.KeyOrder.name g.K.KeyOrder.cmp in
    let facts = g.S.Store.facts in
    let mid = seen_of facts c.open_locked.new.source in
    let db = db_of c.open_locked.new.source.memory c.in_ok-state.state in
    let cleared = record db { log = c.keep_front.new.log } in
    let o = c.in_ok-state.ensures in
    let k = c.keep_front.ensures in
    let back = (c.clean.ensures.step no_ids).faithful in
    let these = k.syncs.these in
    opened_on order (old_in g behind) mid (record mid { facts = kept_in g behind }) (seen_of facts c.clean.new.source) db cleared (record cleared { memory = c.clean.new.source.memory }) c.args.mode
    back these.faithful (leads_in g behind test) (λ early. on_in g behind early m (means_whole order (old_in g behind).files m undamaged r.rest))
    (grown_sound (mid_in g behind) (kept_in g behind) (these.files (back f)) (these.keeps (back f)) c.synced_law.ensures) o.renewed (λ early. let each = k.each early in (each.0, each.1)) k.same.0 o.whole c.clean.ensures.only c.clean.ensures.removes f ids m undamaged r

-- ---- what a refusal leaves

pub returns-in_err-state-clause-unwritten : goal.returns-in_err-state-clause-unwritten
returns-in_err-state-clause-unwritten g c =
    let facts = g.S.Store.facts in
    let is : c.from_residual.result ≡ Err c.in_err-state.field-0.0 = search rules in
    subst (λ (r : Result (DbState _ _) DbError). IfErr r (λ e. IsUnwritten e (facts c.args.source.now.tables.store) (facts c.open_locked.new.source.tables.store))) (sym is) c.in_err-state.ensures.unwritten

pub returns-then-is_err-clause-unwritten : goal.returns-then-is_err-clause-unwritten
returns-then-is_err-clause-unwritten g c = inr (inr refl)

pub returns-then-lacks_memory-clause-unwritten : goal.returns-then-lacks_memory-clause-unwritten
returns-then-lacks_memory-clause-unwritten g c = inr (inl refl)

-- ---- what is kept of its tables

pub returns-in-Ok-clause-cached : goal.returns-in-Ok-clause-cached
returns-in-Ok-clause-cached g c = ap (λ (blocks : BlockCache). blocks.capacity) c.clean.ensures.blocks ∙ c.in_ok-state.ensures.cached

pub returns-else-lacks_memory-clause-cached : goal.returns-else-lacks_memory-clause-cached
returns-else-lacks_memory-clause-cached g c = ap (λ (blocks : BlockCache). blocks.capacity) c.clean.ensures.blocks ∙ c.in_ok-state.ensures.cached
