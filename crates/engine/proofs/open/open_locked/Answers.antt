use Rattle.ikey.specs.Orders.{order_of}
use Rattle.std.proofs.Common.{◌≡◌, ◌⊎◌, inl, inr, Result, Err, IfErr, refl, sym, ap, subst, ◌∙◌, arith, rules}
use Rattle.coding.specs.declared.error.DbError.{DbError}
use Rattle.coding.specs.declared.error.DbError.TheVariants.{OutOfMemory}
use Rattle.table_access.specs.Tables.{seen}
use Rattle.machine.specs.declared.command.Answer.TheVariants.{Refused}
use Rattle.engine.specs.declared.state.DbState.{DbState}
use Rattle.machine.specs.Lifetime.{Opens}
use Rattle.engine.specs.Follows.{Leads, unit_answer}
use Rattle.engine.specs.internal.Resting.{LosesMeaning, Rests, StandsResult}
use Rattle.engine.specs.internal.Standing.{StandsClosed}
use Rattle.opening.specs.Telling.{IsOpenable}
use Rattle.directory_writes.specs.Differing.{OfEach}
use Rattle.edits.specs.Names.{name_of}
use Rattle.edits.specs.declared.names.FileName.TheVariants.{Current}
use Rattle.opening.specs.Durable.{IsDurable, LeavesDurable, LeavesFile}
use Rattle.opening.specs.Losses.{HaveNamesStayed}
use Rattle.opening.specs.internal.Begun.{BeginsSynced, IsUnwritten}
use Rattle.opening.specs.internal.Durable.{Spares}
use Rattle.opening.specs.internal.Opening.{IsContinued}
use Rattle.opening.proofs.BegunSteps.{continued_itself}
use Rattle.opening.proofs.FoundEach.{unwritten_each}
use Rattle.engine.proofs.LiveIds.{none_kept}
use Rattle.engine.proofs.OpenMachine.{open_refused, open_finished, leads_from, sound_empty, nothing_kept}
use Rattle.engine.proofs.LosingOpened.{continued_loses, unwritten_means}
use Rattle.engine.proofs.StopSteps.{continued_keeps}
use Rattle.store.proofs.Stopping.{leaves_same}
use Rattle.engine.specs.internal.Directory.{MeansAccepted}
use Rattle.store.specs.Stops.{LeavesOnly}
use Rattle.engine.proofs.ReopeningRenewals.{renews_on}
use Rattle.engine.proofs.ReopeningSteps.{on_here}
use Rattle.engine.specs.Reopening.{LosesOn}
use Rattle.store.specs.Losses.{SyncsBeginnings}
use Rattle.opening.specs.internal.Renewing.{RenewsWhole}
use Rattle.engine.proofs.open.open_locked.Goals as goal

pub returns-in_err-begin-clause-step : goal.returns-in_err-begin-clause-step
returns-in_err-begin-clause-step g c ids =
    let order = order_of g.K.KeyOrder.name g.K.KeyOrder.cmp in
    let old = g.S.Store.facts c.args.source.now.tables.store in
    let is : c.from_residual.result ≡ Err OutOfMemory = search rules in
    subst (λ (r : Result (DbState _ _) DbError). Leads old (g.S.Store.facts c.begin.new.self.store) (Rests order old ids)
    (StandsResult order (seen (g.S.Store.facts c.begin.new.self.store) c.begin.new.self.tables c.begin.new.self.blocks) c.args.source.now.memory ids r) (λ m n. Opens m c.args.mode (unit_answer r) n)) (sym is)
    (subst (λ s. Leads old (g.S.Store.facts s) (Rests order old ids) (StandsClosed order (g.S.Store.facts s) ids) (λ m n. Opens m c.args.mode (Refused OutOfMemory) n)) (sym c.in_err-begin.ensures.store)
    (open_refused order old old c.args.mode OutOfMemory (λ f. f) (omega arith) refl (λ f. unwritten_each order old.files old.files refl) tt (inl (λ f. refl))))

pub returns-in_err-begun-clause-step : goal.returns-in_err-begun-clause-step
returns-in_err-begun-clause-step g c ids =
    let order = order_of g.K.KeyOrder.name g.K.KeyOrder.cmp in
    let old = g.S.Store.facts c.args.source.now.tables.store in
    let mid = g.S.Store.facts c.begin.new.self.store in
    let new = g.S.Store.facts c.begin-2.new.store in
    let e = c.in_err-begun.field-0.0 in
    let is : c.from_residual-in_err-begun.result ≡ Err e = search rules in
    let b = c.in_err-begun.ensures in
    subst (λ (r : Result (DbState _ _) DbError). Leads old new (Rests order old ids)
    (StandsResult order (seen new c.begin.new.self.tables c.begin.new.self.blocks) c.args.source.now.memory ids r) (λ m n. Opens m c.args.mode (unit_answer r) n)) (sym is)
    (leads_from order old mid new (StandsClosed order new ids) (λ m n. Opens m c.args.mode (Refused e) n) (ap (λ s. g.S.Store.facts s) c.in_ok-begin.ensures.store)
    (open_refused order mid new c.args.mode e b.faithful b.outcome.failures b.denials b.continued_each b.refused b.unwritten))

pub returns-clause-step : goal.returns-clause-step
returns-clause-step g c ids =
    let order = order_of g.K.KeyOrder.name g.K.KeyOrder.cmp in
    let b = c.in_ok-begun.ensures in
    leads_from order (g.S.Store.facts c.args.source.now.tables.store) (g.S.Store.facts c.begin.new.self.store) (g.S.Store.facts c.begin-2.new.store) _ _ (ap (λ s. g.S.Store.facts s) c.in_ok-begin.ensures.store)
    (open_finished order (g.S.Store.facts c.begin.new.self.store) (seen (g.S.Store.facts c.begin-2.new.store) c.begin.new.self.tables c.begin.new.self.blocks) c.args.mode c.in_ok-begun.begun c.new.result c.new-2.result
    b.faithful b.outcome.failures b.denials b.whole b.begun_each b.continued_each
    (sound_empty order.cmp (g.S.Store.facts c.begin-2.new.store) c.begin.new.self.tables.tables c.begin.new.self.blocks.blocks c.empty_is_sound.ensures c.in_ok-begin.ensures.tables c.in_ok-begin.ensures.blocks)
    (nothing_kept (g.S.Store.facts c.begin-2.new.store) c.begin.new.self.tables.tables c.begin.new.self.blocks.blocks c.in_ok-begin.ensures.tables c.in_ok-begin.ensures.blocks)
    b.current b.synced b.since (none_kept c.new.result c.new.ensures.empty) (none_kept c.new-2.result c.new-2.ensures.empty))

pub returns-clause-tells : goal.returns-clause-tells
returns-clause-tells g c = λ f.
    subst (λ s. IsOpenable (order_of g.K.KeyOrder.name g.K.KeyOrder.cmp) (g.S.Store.facts s).files) c.in_ok-begin.ensures.store (c.in_ok-begun.ensures.tells f)

pub returns-in_err-begin-clause-continued : goal.returns-in_err-begin-clause-continued
returns-in_err-begin-clause-continued g c = λ f.
    let order = order_of g.K.KeyOrder.name g.K.KeyOrder.cmp in
    let old = g.S.Store.facts c.args.source.now.tables.store in
    subst (λ s. IsContinued order old.files (g.S.Store.facts s).files) (sym c.in_err-begin.ensures.store) (continued_itself order old.files)

pub returns-in_err-begin-clause-continued_each : goal.returns-in_err-begin-clause-continued_each
returns-in_err-begin-clause-continued_each g c = λ f.
    let order = order_of g.K.KeyOrder.name g.K.KeyOrder.cmp in
    let old = g.S.Store.facts c.args.source.now.tables.store in
    subst (λ s. OfEach (λ whole after. IsContinued order whole after) old.files (g.S.Store.facts s).files) (sym c.in_err-begin.ensures.store) (unwritten_each order old.files old.files refl)

-- ---- what a process crash leaves

pub returns-in_err-begin-clause-stops : goal.returns-in_err-begin-clause-stops
returns-in_err-begin-clause-stops g c f m means =
    let order = order_of g.K.KeyOrder.name g.K.KeyOrder.cmp in
    let old = g.S.Store.facts c.args.source.now.tables.store in
    subst (λ s. LeavesOnly old (g.S.Store.facts s) (λ files. MeansAccepted order files m)) (sym c.in_err-begin.ensures.store) (leaves_same old old (λ files. MeansAccepted order files m) refl refl means)

pub returns-in_err-begun-clause-stops : goal.returns-in_err-begun-clause-stops
returns-in_err-begun-clause-stops g c f m means =
    let order = order_of g.K.KeyOrder.name g.K.KeyOrder.cmp in
    let mid = g.S.Store.facts c.begin.new.self.store in
    let new = g.S.Store.facts c.begin-2.new.store in
    subst (λ s. MeansAccepted order (g.S.Store.facts s).files m → LeavesOnly (g.S.Store.facts s) new (λ files. MeansAccepted order files m)) c.in_ok-begin.ensures.store
    (λ there. continued_keeps order mid new m there (c.in_err-begun.ensures.stops f)) means

pub returns-clause-stops : goal.returns-clause-stops
returns-clause-stops g c f m means =
    let order = order_of g.K.KeyOrder.name g.K.KeyOrder.cmp in
    let mid = g.S.Store.facts c.begin.new.self.store in
    let new = g.S.Store.facts c.begin-2.new.store in
    subst (λ s. MeansAccepted order (g.S.Store.facts s).files m → LeavesOnly (g.S.Store.facts s) new (λ files. MeansAccepted order files m)) c.in_ok-begin.ensures.store
    (λ there. continued_keeps order mid new m there (c.in_ok-begun.ensures.stops f)) means

-- ---- what a power loss leaves

pub returns-in_err-begin-clause-loses : goal.returns-in_err-begin-clause-loses
returns-in_err-begin-clause-loses g c f m means stays =
    let order = order_of g.K.KeyOrder.name g.K.KeyOrder.cmp in
    let old = g.S.Store.facts c.args.source.now.tables.store in
    subst (λ s. LosesMeaning order old (g.S.Store.facts s) m) (sym c.in_err-begin.ensures.store) (unwritten_means order old m means stays)

pub returns-in_err-begun-clause-loses : goal.returns-in_err-begun-clause-loses
returns-in_err-begun-clause-loses g c f m means stays =
    let order = order_of g.K.KeyOrder.name g.K.KeyOrder.cmp in
    let mid = g.S.Store.facts c.begin.new.self.store in
    let new = g.S.Store.facts c.begin-2.new.store in
    subst (λ s. MeansAccepted order (g.S.Store.facts s).files m → HaveNamesStayed (g.S.Store.facts s) → LosesMeaning order (g.S.Store.facts s) new m) c.in_ok-begin.ensures.store
    (λ there names. continued_loses order mid new m there (c.in_err-begun.ensures.loses f names)) means stays

pub returns-clause-loses : goal.returns-clause-loses
returns-clause-loses g c f m means stays =
    let order = order_of g.K.KeyOrder.name g.K.KeyOrder.cmp in
    let mid = g.S.Store.facts c.begin.new.self.store in
    let new = g.S.Store.facts c.begin-2.new.store in
    subst (λ s. MeansAccepted order (g.S.Store.facts s).files m → HaveNamesStayed (g.S.Store.facts s) → LosesMeaning order (g.S.Store.facts s) new m) c.in_ok-begin.ensures.store
    (λ there names. continued_loses order mid new m there (c.in_ok-begun.ensures.loses f names)) means stays

pub returns-clause-begins : goal.returns-clause-begins
returns-clause-begins g c = λ f.
    subst (λ s. BeginsSynced (g.S.Store.facts s) (g.S.Store.facts c.begin-2.new.store) c.in_ok-begun.begun.log c.in_ok-begun.begun.directory) c.in_ok-begin.ensures.store (c.in_ok-begun.ensures.synced f)

pub returns-clause-since : goal.returns-clause-since
returns-clause-since g c = c.in_ok-begun.ensures.since

pub returns-clause-named : goal.returns-clause-named
returns-clause-named g c = c.in_ok-begun.ensures.whole.named

pub returns-clause-empty : goal.returns-clause-empty
returns-clause-empty g c = c.in_ok-begun.ensures.whole.empty

-- ---- what is spared

pub returns-clause-spared : goal.returns-clause-spared
returns-clause-spared g c = λ f.
    subst (λ s. Spares (g.S.Store.facts s) (g.S.Store.facts c.begin-2.new.store)) c.in_ok-begin.ensures.store (c.in_ok-begun.ensures.spared f)

-- ---- what is synced

pub returns-in_err-begun-clause-durable : goal.returns-in_err-begun-clause-durable
returns-in_err-begun-clause-durable g c =
    let new = g.S.Store.facts c.begin-2.new.store in
    let e = c.in_err-begun.field-0.0 in
    let is : c.from_residual-in_err-begun.result ≡ Err e = search rules in
    subst (λ (r : Result (DbState _ _) DbError). LeavesDurable (g.S.Store.facts c.args.source.now.tables.store) new r) (sym is)
    (record { ok = λ f. tt; err = λ f. subst (λ s. LeavesFile (g.S.Store.facts s) new (name_of Current) ⊎ IsDurable new) c.in_ok-begin.ensures.store (c.in_err-begun.ensures.durable.err f) })

-- ---- after other calls of the same store

pub returns-in_err-begin-clause-loses_on : goal.returns-in_err-begin-clause-loses_on
returns-in_err-begin-clause-loses_on g c f =
    let order = order_of g.K.KeyOrder.name g.K.KeyOrder.cmp in
    let old = g.S.Store.facts c.args.source.now.tables.store in
    subst (λ s. LosesOn order old (g.S.Store.facts s)) (sym c.in_err-begin.ensures.store) (on_here order old)

pub returns-in_err-begun-clause-loses_on : goal.returns-in_err-begun-clause-loses_on
returns-in_err-begun-clause-loses_on g c f =
    let order = order_of g.K.KeyOrder.name g.K.KeyOrder.cmp in
    let mid = g.S.Store.facts c.begin.new.self.store in
    let new = g.S.Store.facts c.begin-2.new.store in
    subst (λ s. SyncsBeginnings (g.S.Store.facts s) → LosesOn order (g.S.Store.facts s) new) c.in_ok-begin.ensures.store (λ sound. renews_on order mid new sound (c.in_err-begun.ensures.renews f)) c.synced_law.ensures

pub returns-clause-loses_on : goal.returns-clause-loses_on
returns-clause-loses_on g c f =
    let order = order_of g.K.KeyOrder.name g.K.KeyOrder.cmp in
    let mid = g.S.Store.facts c.begin.new.self.store in
    let new = g.S.Store.facts c.begin-2.new.store in
    subst (λ s. SyncsBeginnings (g.S.Store.facts s) → LosesOn order (g.S.Store.facts s) new) c.in_ok-begin.ensures.store (λ sound. renews_on order mid new sound (c.in_ok-begun.ensures.renews f)) c.synced_law.ensures

pub returns-clause-renewed : goal.returns-clause-renewed
returns-clause-renewed g c = λ f.
    let order = order_of g.K.KeyOrder.name g.K.KeyOrder.cmp in
    subst (λ s. RenewsWhole order (g.S.Store.facts s) (g.S.Store.facts c.begin-2.new.store) c.in_ok-begun.begun.log c.in_ok-begun.begun.directory) c.in_ok-begin.ensures.store (c.in_ok-begun.ensures.renewed f)

-- ---- what a refusal leaves

pub returns-in_err-begin-clause-unwritten : goal.returns-in_err-begin-clause-unwritten
returns-in_err-begin-clause-unwritten g c =
    let old = g.S.Store.facts c.args.source.now.tables.store in
    let new = g.S.Store.facts c.begin.new.self.store in
    let is : c.from_residual.result ≡ Err OutOfMemory = search rules in
    subst (λ (r : Result (DbState _ _) DbError). IfErr r (λ e. IsUnwritten e old new)) (sym is) (inr (inl refl))

pub returns-in_err-begun-clause-unwritten : goal.returns-in_err-begun-clause-unwritten
returns-in_err-begun-clause-unwritten g c =
    let new = g.S.Store.facts c.begin-2.new.store in
    let e = c.in_err-begun.field-0.0 in
    let is : c.from_residual-in_err-begun.result ≡ Err e = search rules in
    subst (λ (r : Result (DbState _ _) DbError). IfErr r (λ x. IsUnwritten x (g.S.Store.facts c.args.source.now.tables.store) new)) (sym is)
    (subst (λ s. IsUnwritten e (g.S.Store.facts s) new) c.in_ok-begin.ensures.store c.in_err-begun.ensures.unwritten)

-- ---- what is kept of its tables

pub returns-clause-cached : goal.returns-clause-cached
returns-clause-cached g c = c.in_ok-begin.ensures.capacity.1 ∙ c.cache_blocks.ensures
