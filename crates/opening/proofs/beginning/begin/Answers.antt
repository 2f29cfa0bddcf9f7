use Rattle.ikey.specs.Orders.{order_of}
use Rattle.std.proofs.Common.{◌≡◌, ◌<◌, ◌+◌, ℕ, List, length, map, string_bytes, Result, Err, inl, inr, refl, sym, subst, arith, rules}
use Rattle.coding.specs.declared.error.DbError.{DbError}
use Rattle.ikey.specs.declared.entry.Entry.{Entry}
use Rattle.opening.specs.Looking.{IsSealedOf}
use Rattle.opening.specs.internal.Durable.{HasDurable, SparesBeside}
use Rattle.opening.specs.Durable.{LeavesDurable}
use Rattle.opening.specs.declared.beginning.Begun.{Begun}
use Rattle.opening.proofs.BegunSteps.{behind_stops, continued_same, continued_behind, begins, unwritten_stops}
use Rattle.opening.proofs.FoundEach.{begins_each, behind_each, stops_behind_each, stops_unwritten_each, unwritten_each}
use Rattle.opening.specs.internal.Outcome.{OpenOutcome}
use Rattle.opening.specs.Telling.{Tells}
use Rattle.opening.proofs.Telling.{found_openable, store_tells}
use Rattle.opening.proofs.AfterReading.{behind_read, beside_behind, met_behind, outcome_behind, refused_behind, spared_behind, spared_same, stood_behind, unwritten_behind}
use Rattle.opening.proofs.InDoubt.{entries_or_none, in_doubt, logs_found, tables_found}
use Rattle.opening.proofs.LosingOpens.{behind_loses, unwritten_loses}
use Rattle.opening.proofs.RenewSteps.{all_behind, renews_behind}
use Rattle.opening.proofs.Reopening.{numbered_of, next_of}
use Rattle.opening.proofs.Since.{found_behind}
use Rattle.opening.proofs.Syncing.{spares_of, spares_tables}
use Rattle.opening.proofs.beginning.begin.Goals as goal

pub returns-in_err-found-clause-continued : goal.returns-in_err-found-clause-continued
returns-in_err-found-clause-continued g c = λ f.
    continued_same (order_of g.K.KeyOrder.name g.K.KeyOrder.cmp) (g.S.Store.facts c.args.store.now).files (g.S.Store.facts c.find.new.store).files (c.in_err-found.ensures.store.same f)

pub returns-in_err-version-clause-continued : goal.returns-in_err-version-clause-continued
returns-in_err-version-clause-continued g c = λ f.
    continued_same (order_of g.K.KeyOrder.name g.K.KeyOrder.cmp) (g.S.Store.facts c.args.store.now).files (g.S.Store.facts c.find.new.store).files (c.in_ok-found.ensures.store.same f)

pub returns-in_err-rewrite-clause-continued : goal.returns-in_err-rewrite-clause-continued
returns-in_err-rewrite-clause-continued g c = λ f.
    continued_same (order_of g.K.KeyOrder.name g.K.KeyOrder.cmp) (g.S.Store.facts c.args.store.now).files (g.S.Store.facts c.find.new.store).files (c.in_ok-found.ensures.store.same f)

pub returns-in_err-memory-clause-continued : goal.returns-in_err-memory-clause-continued
returns-in_err-memory-clause-continued g c = λ f.
    continued_same (order_of g.K.KeyOrder.name g.K.KeyOrder.cmp) (g.S.Store.facts c.args.store.now).files (g.S.Store.facts c.find.new.store).files (c.in_ok-found.ensures.store.same f)

pub returns-in_err-rewrite_directory-clause-durable : goal.returns-in_err-rewrite_directory-clause-durable
returns-in_err-rewrite_directory-clause-durable g c =
    let old = g.S.Store.facts c.args.store.now in
    let mid = g.S.Store.facts c.find.new.store in
    let new = g.S.Store.facts c.rewrite_directory.new.store in
    let e = c.in_err-rewrite_directory.field-0.0 in
    let is : c.from_residual-in_err-rewrite_directory.result ≡ Err e = search rules in
    subst (λ (r : Result (Begun _) DbError). LeavesDurable old new r) (sym is)
    (behind_read {T = Unit {0}} {U = Begun _} old mid new e c.in_err-rewrite_directory.ensures.files.call.faithful c.in_ok-found.ensures.store.same c.in_ok-found.ensures.store.synced c.in_err-rewrite_directory.ensures.durable)

pub returns-in_err-rewrite_directory-clause-tells : goal.returns-in_err-rewrite_directory-clause-tells
returns-in_err-rewrite_directory-clause-tells g c =
    let order = order_of g.K.KeyOrder.name g.K.KeyOrder.cmp in
    let files = (g.S.Store.facts c.args.store.now).files in
    let e = c.in_err-rewrite_directory.field-0.0 in
    let is : c.from_residual-in_err-rewrite_directory.result ≡ Err e = search rules in
    λ f. subst (λ (r : Result (Begun _) DbError). Tells order files r) (sym is) (store_tells order files e c.in_err-rewrite_directory.ensures.files.call.errors)

pub returns-in_err-rewrite_directory-clause-continued : goal.returns-in_err-rewrite_directory-clause-continued
returns-in_err-rewrite_directory-clause-continued g c =
    continued_behind (order_of g.K.KeyOrder.name g.K.KeyOrder.cmp) (g.S.Store.facts c.args.store.now) (g.S.Store.facts c.find.new.store) (g.S.Store.facts c.rewrite_directory.new.store) c.in_ok-found.found (length c.in_ok-rewrite.rewrite.manifest.items) _
    c.in_ok-found.ensures.store.same c.in_ok-found.ensures.found c.in_err-rewrite_directory.ensures.files

pub returns-clause-begun : goal.returns-clause-begun
returns-clause-begun g c =
    begins (order_of g.K.KeyOrder.name g.K.KeyOrder.cmp) c.args.mode (g.S.Store.facts c.args.store.now) (g.S.Store.facts c.find.new.store) (g.S.Store.facts c.rewrite_directory.new.store) c.in_ok-found.found
    (string_bytes c.in_ok-rewrite.rewrite.manifest_name) (length c.in_ok-rewrite.rewrite.manifest.items) _
    c.recovered_law.ensures c.in_ok-found.ensures.store.same c.in_ok-found.ensures.found c.in_ok-found.ensures.allowed c.in_ok-rewrite_directory.ensures.files (record {
      memory = subst (λ (es : List Entry). IsSealedOf c.in_ok-memory.memory es c.in_ok-found.found.used) c.deref.ensures.value c.in_ok-memory.ensures;
      lists = c.in_ok-version.ensures.found.tables;
      number = refl;
      empty = refl;
      named = c.in_ok-rewrite.ensures.planned.manifest_name;
      known = let k = c.known_after.ensures in record { number = k.number; named = k.named; ends = omega (arith, k.ends, c.len-end.ensures, c.in_ok-rewrite.rewrite.manifest.ok.0); next = k.next; logs = k.logs };
    })

pub returns-clause-continued : goal.returns-clause-continued
returns-clause-continued g c =
    continued_behind (order_of g.K.KeyOrder.name g.K.KeyOrder.cmp) (g.S.Store.facts c.args.store.now) (g.S.Store.facts c.find.new.store) (g.S.Store.facts c.rewrite_directory.new.store) c.in_ok-found.found (length c.in_ok-rewrite.rewrite.manifest.items) _
    c.in_ok-found.ensures.store.same c.in_ok-found.ensures.found c.in_ok-rewrite_directory.ensures.files

pub returns-clause-tells : goal.returns-clause-tells
returns-clause-tells g c = λ f.
    found_openable (order_of g.K.KeyOrder.name g.K.KeyOrder.cmp) (g.S.Store.facts c.args.store.now).files c.in_ok-found.found (c.in_ok-found.ensures.found (c.in_ok-rewrite_directory.ensures.files.call.faithful f))

pub returns-clause-current : goal.returns-clause-current
returns-clause-current g c = λ f. subst (λ (n : ℕ). HasDurable n (g.S.Store.facts c.rewrite_directory.new.store)) (sym c.known_after.ensures.number) (c.in_ok-rewrite_directory.ensures.current f)

-- ---- which files are spared

pub returns-in_err-found-clause-spared : goal.returns-in_err-found-clause-spared
returns-in_err-found-clause-spared g c = λ f. spared_same (g.S.Store.facts c.args.store.now) (g.S.Store.facts c.find.new.store) (c.in_err-found.ensures.store.same f) (c.in_err-found.ensures.store.synced f)

pub returns-in_err-version-clause-spared : goal.returns-in_err-version-clause-spared
returns-in_err-version-clause-spared g c = λ f. spared_same (g.S.Store.facts c.args.store.now) (g.S.Store.facts c.find.new.store) (c.in_ok-found.ensures.store.same f) (c.in_ok-found.ensures.store.synced f)

pub returns-in_err-rewrite-clause-spared : goal.returns-in_err-rewrite-clause-spared
returns-in_err-rewrite-clause-spared g c = λ f. spared_same (g.S.Store.facts c.args.store.now) (g.S.Store.facts c.find.new.store) (c.in_ok-found.ensures.store.same f) (c.in_ok-found.ensures.store.synced f)

pub returns-in_err-memory-clause-spared : goal.returns-in_err-memory-clause-spared
returns-in_err-memory-clause-spared g c = λ f. spared_same (g.S.Store.facts c.args.store.now) (g.S.Store.facts c.find.new.store) (c.in_ok-found.ensures.store.same f) (c.in_ok-found.ensures.store.synced f)

pub returns-in_err-rewrite_directory-clause-spared : goal.returns-in_err-rewrite_directory-clause-spared
returns-in_err-rewrite_directory-clause-spared g c = λ f.
    let back = c.in_err-rewrite_directory.ensures.files.call.faithful f in
    let found = c.in_ok-found.found in
    let usable = c.in_ok-found.ensures.usable in
    let mid = g.S.Store.facts c.find.new.store in
    let new = g.S.Store.facts c.rewrite_directory.new.store in
    spared_behind (g.S.Store.facts c.args.store.now) mid new (c.in_ok-found.ensures.store.same back) (c.in_ok-found.ensures.store.synced back)
    (spares_of found.number mid new (numbered_of found usable) (next_of found usable) (c.in_err-rewrite_directory.ensures.spared f))

pub returns-clause-spared : goal.returns-clause-spared
returns-clause-spared g c = λ f.
    let back = c.in_ok-rewrite_directory.ensures.files.call.faithful f in
    let found = c.in_ok-found.found in
    let usable = c.in_ok-found.ensures.usable in
    let mid = g.S.Store.facts c.find.new.store in
    let new = g.S.Store.facts c.rewrite_directory.new.store in
    spared_behind (g.S.Store.facts c.args.store.now) mid new (c.in_ok-found.ensures.store.same back) (c.in_ok-found.ensures.store.synced back)
    (spares_of found.number mid new (numbered_of found usable) (next_of found usable) (c.in_ok-rewrite_directory.ensures.spared f))

pub returns-clause-synced : goal.returns-clause-synced
returns-clause-synced g c = λ f.
    let order = order_of g.K.KeyOrder.name g.K.KeyOrder.cmp in
    let back = c.in_ok-rewrite_directory.ensures.files.call.faithful f in
    let found = c.in_ok-found.found in
    let usable = c.in_ok-found.ensures.usable in
    let old = g.S.Store.facts c.args.store.now in
    let mid = g.S.Store.facts c.find.new.store in
    let new = g.S.Store.facts c.rewrite_directory.new.store in
    let num = numbered_of found usable in
    let next = next_of found usable in
    let spares = beside_behind found.number old mid new (c.in_ok-found.ensures.store.same back) (c.in_ok-found.ensures.store.synced back) (c.in_ok-rewrite_directory.ensures.spared f) in
    record {
      logs = in_doubt order old new found usable (c.in_ok-found.ensures.found back) (map string_bytes c.in_ok-rewrite.rewrite.front.items) c.in_ok-rewrite.ensures.front spares _ _ refl c.in_ok-rewrite.ensures.planned.log_name refl c.known_after.ensures.logs
          (entries_or_none found.entries.items);
      tables = spares_tables found.number old new num next spares;
      beside = subst (λ (k : ℕ). SparesBeside k old new) (sym c.known_after.ensures.number) spares;
      found = λ n is there. subst (λ (k : ℕ). n < k) (sym c.known_after.ensures.number) (tables_found order old new found (c.in_ok-found.ensures.found back) (spares_tables found.number old new num next spares) n is there);
      begun = λ n is apart there. subst (λ (k : ℕ). n < k) (sym c.known_after.ensures.number)
          (logs_found order old new found usable (c.in_ok-found.ensures.found back) (map string_bytes c.in_ok-rewrite.rewrite.front.items) c.in_ok-rewrite.ensures.front spares (found.number + 1) refl n is apart there);
      since = subst (λ (k : ℕ). k < found.number + 1) (sym c.known_after.ensures.number) (omega arith);
    }

-- ---- where the writing fails

pub returns-in_err-rewrite_directory-clause-outcome : goal.returns-in_err-rewrite_directory-clause-outcome
returns-in_err-rewrite_directory-clause-outcome g c =
    let old = g.S.Store.facts c.args.store.now in
    let mid = g.S.Store.facts c.find.new.store in
    let new = g.S.Store.facts c.rewrite_directory.new.store in
    let e = c.in_err-rewrite_directory.field-0.0 in
    let is : c.from_residual-in_err-rewrite_directory.result ≡ Err e = search rules in
    subst (λ (r : Result (Begun _) DbError). OpenOutcome old new r) (sym is)
    (outcome_behind {T = Unit {0}} {U = Begun _} old mid new e c.in_ok-found.ensures.store c.in_ok-found.ensures.counted c.in_err-rewrite_directory.ensures.files.call)

pub returns-in_err-rewrite_directory-clause-met : goal.returns-in_err-rewrite_directory-clause-met
returns-in_err-rewrite_directory-clause-met g c =
    let mid = g.S.Store.facts c.find.new.store in
    let new = g.S.Store.facts c.rewrite_directory.new.store in
    let e = c.in_err-rewrite_directory.field-0.0 in
    let is : c.from_residual-in_err-rewrite_directory.result ≡ Err e = search rules in
    met_behind mid new e _ is c.in_err-rewrite_directory.ensures.files.call

pub returns-in_err-rewrite_directory-clause-stood : goal.returns-in_err-rewrite_directory-clause-stood
returns-in_err-rewrite_directory-clause-stood g c =
    let old = g.S.Store.facts c.args.store.now in
    let mid = g.S.Store.facts c.find.new.store in
    let new = g.S.Store.facts c.rewrite_directory.new.store in
    let e = c.in_err-rewrite_directory.field-0.0 in
    let is : c.from_residual-in_err-rewrite_directory.result ≡ Err e = search rules in
    stood_behind old mid new e _ is c.in_ok-found.ensures.counted c.in_err-rewrite_directory.ensures.files.call

pub returns-in_err-rewrite_directory-clause-refused : goal.returns-in_err-rewrite_directory-clause-refused
returns-in_err-rewrite_directory-clause-refused g c =
    let old = g.S.Store.facts c.args.store.now in
    let mid = g.S.Store.facts c.find.new.store in
    let new = g.S.Store.facts c.rewrite_directory.new.store in
    let e = c.in_err-rewrite_directory.field-0.0 in
    let is : c.from_residual-in_err-rewrite_directory.result ≡ Err e = search rules in
    refused_behind (order_of g.K.KeyOrder.name g.K.KeyOrder.cmp) c.args.mode old mid new e _ is c.in_ok-found.ensures.counted c.in_err-rewrite_directory.ensures.files.call

pub returns-in_err-rewrite_directory-clause-unwritten : goal.returns-in_err-rewrite_directory-clause-unwritten
returns-in_err-rewrite_directory-clause-unwritten g c =
    let old = g.S.Store.facts c.args.store.now in
    let mid = g.S.Store.facts c.find.new.store in
    let new = g.S.Store.facts c.rewrite_directory.new.store in
    let e = c.in_err-rewrite_directory.field-0.0 in
    let is : c.from_residual-in_err-rewrite_directory.result ≡ Err e = search rules in
    unwritten_behind old mid new e _ is c.in_err-rewrite_directory.ensures.files.call

-- ---- what a process crash leaves

pub returns-in_err-found-clause-stops : goal.returns-in_err-found-clause-stops
returns-in_err-found-clause-stops g c f =
    unwritten_stops (order_of g.K.KeyOrder.name g.K.KeyOrder.cmp) (g.S.Store.facts c.args.store.now) (g.S.Store.facts c.find.new.store) (c.in_err-found.ensures.store.calls f) (c.in_err-found.ensures.store.same f)

pub returns-in_err-version-clause-stops : goal.returns-in_err-version-clause-stops
returns-in_err-version-clause-stops g c f =
    unwritten_stops (order_of g.K.KeyOrder.name g.K.KeyOrder.cmp) (g.S.Store.facts c.args.store.now) (g.S.Store.facts c.find.new.store) (c.in_ok-found.ensures.store.calls f) (c.in_ok-found.ensures.store.same f)

pub returns-in_err-rewrite-clause-stops : goal.returns-in_err-rewrite-clause-stops
returns-in_err-rewrite-clause-stops g c f =
    unwritten_stops (order_of g.K.KeyOrder.name g.K.KeyOrder.cmp) (g.S.Store.facts c.args.store.now) (g.S.Store.facts c.find.new.store) (c.in_ok-found.ensures.store.calls f) (c.in_ok-found.ensures.store.same f)

pub returns-in_err-memory-clause-stops : goal.returns-in_err-memory-clause-stops
returns-in_err-memory-clause-stops g c f =
    unwritten_stops (order_of g.K.KeyOrder.name g.K.KeyOrder.cmp) (g.S.Store.facts c.args.store.now) (g.S.Store.facts c.find.new.store) (c.in_ok-found.ensures.store.calls f) (c.in_ok-found.ensures.store.same f)

pub returns-in_err-rewrite_directory-clause-stops : goal.returns-in_err-rewrite_directory-clause-stops
returns-in_err-rewrite_directory-clause-stops g c f =
    let m = c.in_err-rewrite_directory.ensures.files.call.faithful f in
    behind_stops (order_of g.K.KeyOrder.name g.K.KeyOrder.cmp) (g.S.Store.facts c.args.store.now) (g.S.Store.facts c.find.new.store) (g.S.Store.facts c.rewrite_directory.new.store) c.in_ok-found.found
    (c.in_ok-found.ensures.store.calls m) (c.in_ok-found.ensures.store.same m) (c.in_ok-found.ensures.found m) (c.in_err-rewrite_directory.ensures.stops f)

pub returns-clause-stops : goal.returns-clause-stops
returns-clause-stops g c f =
    let m = c.in_ok-rewrite_directory.ensures.files.call.faithful f in
    behind_stops (order_of g.K.KeyOrder.name g.K.KeyOrder.cmp) (g.S.Store.facts c.args.store.now) (g.S.Store.facts c.find.new.store) (g.S.Store.facts c.rewrite_directory.new.store) c.in_ok-found.found
    (c.in_ok-found.ensures.store.calls m) (c.in_ok-found.ensures.store.same m) (c.in_ok-found.ensures.found m) (c.in_ok-rewrite_directory.ensures.stops f)

-- ---- what a power loss leaves

pub returns-in_err-found-clause-loses : goal.returns-in_err-found-clause-loses
returns-in_err-found-clause-loses g c f stays =
    unwritten_loses (order_of g.K.KeyOrder.name g.K.KeyOrder.cmp) (g.S.Store.facts c.args.store.now) (g.S.Store.facts c.find.new.store) (c.in_err-found.ensures.store.calls f) (c.in_err-found.ensures.store.same f) (c.in_err-found.ensures.store.synced f) stays

pub returns-in_err-version-clause-loses : goal.returns-in_err-version-clause-loses
returns-in_err-version-clause-loses g c f stays =
    unwritten_loses (order_of g.K.KeyOrder.name g.K.KeyOrder.cmp) (g.S.Store.facts c.args.store.now) (g.S.Store.facts c.find.new.store) (c.in_ok-found.ensures.store.calls f) (c.in_ok-found.ensures.store.same f) (c.in_ok-found.ensures.store.synced f) stays

pub returns-in_err-rewrite-clause-loses : goal.returns-in_err-rewrite-clause-loses
returns-in_err-rewrite-clause-loses g c f stays =
    unwritten_loses (order_of g.K.KeyOrder.name g.K.KeyOrder.cmp) (g.S.Store.facts c.args.store.now) (g.S.Store.facts c.find.new.store) (c.in_ok-found.ensures.store.calls f) (c.in_ok-found.ensures.store.same f) (c.in_ok-found.ensures.store.synced f) stays

pub returns-in_err-memory-clause-loses : goal.returns-in_err-memory-clause-loses
returns-in_err-memory-clause-loses g c f stays =
    unwritten_loses (order_of g.K.KeyOrder.name g.K.KeyOrder.cmp) (g.S.Store.facts c.args.store.now) (g.S.Store.facts c.find.new.store) (c.in_ok-found.ensures.store.calls f) (c.in_ok-found.ensures.store.same f) (c.in_ok-found.ensures.store.synced f) stays

pub returns-in_err-rewrite_directory-clause-loses : goal.returns-in_err-rewrite_directory-clause-loses
returns-in_err-rewrite_directory-clause-loses g c f stays =
    let order = order_of g.K.KeyOrder.name g.K.KeyOrder.cmp in
    let old = g.S.Store.facts c.args.store.now in
    let mid = g.S.Store.facts c.find.new.store in
    let wrote = c.in_err-rewrite_directory.ensures in
    let m = wrote.files.call.faithful f in
    let reads = c.in_ok-found.ensures.store in
    let finds = c.in_ok-found.ensures.found m in
    let stopped = wrote.stops f (found_behind order old mid c.in_ok-found.found (reads.same m) finds) in
    behind_loses order old mid (g.S.Store.facts c.rewrite_directory.new.store) stopped.more c.in_ok-found.found (reads.calls m) (reads.same m) (reads.synced m) finds stays stopped.calls (wrote.loses f)

pub returns-clause-loses : goal.returns-clause-loses
returns-clause-loses g c f stays =
    let order = order_of g.K.KeyOrder.name g.K.KeyOrder.cmp in
    let old = g.S.Store.facts c.args.store.now in
    let mid = g.S.Store.facts c.find.new.store in
    let wrote = c.in_ok-rewrite_directory.ensures in
    let m = wrote.files.call.faithful f in
    let reads = c.in_ok-found.ensures.store in
    let finds = c.in_ok-found.ensures.found m in
    let stopped = wrote.stops f (found_behind order old mid c.in_ok-found.found (reads.same m) finds) in
    behind_loses order old mid (g.S.Store.facts c.rewrite_directory.new.store) stopped.more c.in_ok-found.found (reads.calls m) (reads.same m) (reads.synced m) finds stays stopped.calls (wrote.loses f)

-- ---- in each directory that differs in tables alone

pub returns-in_err-found-clause-continued_each : goal.returns-in_err-found-clause-continued_each
returns-in_err-found-clause-continued_each g c = λ f. unwritten_each (order_of g.K.KeyOrder.name g.K.KeyOrder.cmp) (g.S.Store.facts c.args.store.now).files (g.S.Store.facts c.find.new.store).files (c.in_err-found.ensures.store.same f)

pub returns-in_err-found-clause-stops_each : goal.returns-in_err-found-clause-stops_each
returns-in_err-found-clause-stops_each g c f = stops_unwritten_each (order_of g.K.KeyOrder.name g.K.KeyOrder.cmp) (g.S.Store.facts c.args.store.now) (g.S.Store.facts c.find.new.store) (c.in_err-found.ensures.store.calls f) (c.in_err-found.ensures.store.same f)

pub returns-in_err-version-clause-continued_each : goal.returns-in_err-version-clause-continued_each
returns-in_err-version-clause-continued_each g c = λ f. unwritten_each (order_of g.K.KeyOrder.name g.K.KeyOrder.cmp) (g.S.Store.facts c.args.store.now).files (g.S.Store.facts c.find.new.store).files (c.in_ok-found.ensures.store.same f)

pub returns-in_err-version-clause-stops_each : goal.returns-in_err-version-clause-stops_each
returns-in_err-version-clause-stops_each g c f = stops_unwritten_each (order_of g.K.KeyOrder.name g.K.KeyOrder.cmp) (g.S.Store.facts c.args.store.now) (g.S.Store.facts c.find.new.store) (c.in_ok-found.ensures.store.calls f) (c.in_ok-found.ensures.store.same f)

pub returns-in_err-rewrite-clause-continued_each : goal.returns-in_err-rewrite-clause-continued_each
returns-in_err-rewrite-clause-continued_each g c = λ f. unwritten_each (order_of g.K.KeyOrder.name g.K.KeyOrder.cmp) (g.S.Store.facts c.args.store.now).files (g.S.Store.facts c.find.new.store).files (c.in_ok-found.ensures.store.same f)

pub returns-in_err-rewrite-clause-stops_each : goal.returns-in_err-rewrite-clause-stops_each
returns-in_err-rewrite-clause-stops_each g c f = stops_unwritten_each (order_of g.K.KeyOrder.name g.K.KeyOrder.cmp) (g.S.Store.facts c.args.store.now) (g.S.Store.facts c.find.new.store) (c.in_ok-found.ensures.store.calls f) (c.in_ok-found.ensures.store.same f)

pub returns-in_err-memory-clause-continued_each : goal.returns-in_err-memory-clause-continued_each
returns-in_err-memory-clause-continued_each g c = λ f. unwritten_each (order_of g.K.KeyOrder.name g.K.KeyOrder.cmp) (g.S.Store.facts c.args.store.now).files (g.S.Store.facts c.find.new.store).files (c.in_ok-found.ensures.store.same f)

pub returns-in_err-memory-clause-stops_each : goal.returns-in_err-memory-clause-stops_each
returns-in_err-memory-clause-stops_each g c f = stops_unwritten_each (order_of g.K.KeyOrder.name g.K.KeyOrder.cmp) (g.S.Store.facts c.args.store.now) (g.S.Store.facts c.find.new.store) (c.in_ok-found.ensures.store.calls f) (c.in_ok-found.ensures.store.same f)

pub returns-in_err-rewrite_directory-clause-continued_each : goal.returns-in_err-rewrite_directory-clause-continued_each
returns-in_err-rewrite_directory-clause-continued_each g c =
    behind_each (order_of g.K.KeyOrder.name g.K.KeyOrder.cmp) (g.S.Store.facts c.args.store.now) (g.S.Store.facts c.find.new.store) (g.S.Store.facts c.rewrite_directory.new.store) c.in_ok-found.found (length c.in_ok-rewrite.rewrite.manifest.items) _
    c.in_ok-found.ensures.store.same c.in_ok-found.ensures.found c.in_err-rewrite_directory.ensures.files.call.faithful c.in_err-rewrite_directory.ensures.files_each

pub returns-in_err-rewrite_directory-clause-stops_each : goal.returns-in_err-rewrite_directory-clause-stops_each
returns-in_err-rewrite_directory-clause-stops_each g c f =
    let m = c.in_err-rewrite_directory.ensures.files.call.faithful f in
    stops_behind_each (order_of g.K.KeyOrder.name g.K.KeyOrder.cmp) (g.S.Store.facts c.args.store.now) (g.S.Store.facts c.find.new.store) (g.S.Store.facts c.rewrite_directory.new.store) c.in_ok-found.found
    (c.in_ok-found.ensures.store.calls m) (c.in_ok-found.ensures.store.same m) (c.in_ok-found.ensures.found m) (c.in_err-rewrite_directory.ensures.stops_each f)

pub returns-clause-continued_each : goal.returns-clause-continued_each
returns-clause-continued_each g c =
    behind_each (order_of g.K.KeyOrder.name g.K.KeyOrder.cmp) (g.S.Store.facts c.args.store.now) (g.S.Store.facts c.find.new.store) (g.S.Store.facts c.rewrite_directory.new.store) c.in_ok-found.found (length c.in_ok-rewrite.rewrite.manifest.items) _
    c.in_ok-found.ensures.store.same c.in_ok-found.ensures.found c.in_ok-rewrite_directory.ensures.files.call.faithful c.in_ok-rewrite_directory.ensures.files_each

pub returns-clause-stops_each : goal.returns-clause-stops_each
returns-clause-stops_each g c f =
    let m = c.in_ok-rewrite_directory.ensures.files.call.faithful f in
    stops_behind_each (order_of g.K.KeyOrder.name g.K.KeyOrder.cmp) (g.S.Store.facts c.args.store.now) (g.S.Store.facts c.find.new.store) (g.S.Store.facts c.rewrite_directory.new.store) c.in_ok-found.found
    (c.in_ok-found.ensures.store.calls m) (c.in_ok-found.ensures.store.same m) (c.in_ok-found.ensures.found m) (c.in_ok-rewrite_directory.ensures.stops_each f)

pub returns-clause-begun_each : goal.returns-clause-begun_each
returns-clause-begun_each g c =
    begins_each (order_of g.K.KeyOrder.name g.K.KeyOrder.cmp) c.args.mode (g.S.Store.facts c.args.store.now) (g.S.Store.facts c.find.new.store) (g.S.Store.facts c.rewrite_directory.new.store) c.in_ok-found.found
    (string_bytes c.in_ok-rewrite.rewrite.manifest_name) (length c.in_ok-rewrite.rewrite.manifest.items) _
    c.recovered_law.ensures c.in_ok-found.ensures.store.same c.in_ok-found.ensures.found c.in_ok-found.ensures.allowed c.in_ok-rewrite_directory.ensures.files.call.faithful c.in_ok-rewrite_directory.ensures.files_each (record {
      memory = subst (λ (es : List Entry). IsSealedOf c.in_ok-memory.memory es c.in_ok-found.found.used) c.deref.ensures.value c.in_ok-memory.ensures;
      lists = c.in_ok-version.ensures.found.tables;
      number = refl;
      empty = refl;
      named = c.in_ok-rewrite.ensures.planned.manifest_name;
      known = let k = c.known_after.ensures in record { number = k.number; named = k.named; ends = omega (arith, k.ends, c.len-end.ensures, c.in_ok-rewrite.rewrite.manifest.ok.0); next = k.next; logs = k.logs };
    })

-- ---- since the last sync

pub returns-clause-since : goal.returns-clause-since
returns-clause-since g c = λ f.
    let back = c.in_ok-rewrite_directory.ensures.files.call.faithful f in
    c.in_ok-rewrite_directory.ensures.since f (found_behind (order_of g.K.KeyOrder.name g.K.KeyOrder.cmp) (g.S.Store.facts c.args.store.now) (g.S.Store.facts c.find.new.store) c.in_ok-found.found (c.in_ok-found.ensures.store.same back) (c.in_ok-found.ensures.found back))

-- ---- call by call

pub returns-in_err-found-clause-renews : goal.returns-in_err-found-clause-renews
returns-in_err-found-clause-renews g c f =
    let reads = c.in_err-found.ensures.store in
    inl (reads.calls f, λ i. record { files = reads.same f i; synced = reads.synced f i })

pub returns-in_err-version-clause-renews : goal.returns-in_err-version-clause-renews
returns-in_err-version-clause-renews g c f =
    let reads = c.in_ok-found.ensures.store in
    inl (reads.calls f, λ i. record { files = reads.same f i; synced = reads.synced f i })

pub returns-in_err-rewrite-clause-renews : goal.returns-in_err-rewrite-clause-renews
returns-in_err-rewrite-clause-renews g c f =
    let reads = c.in_ok-found.ensures.store in
    inl (reads.calls f, λ i. record { files = reads.same f i; synced = reads.synced f i })

pub returns-in_err-memory-clause-renews : goal.returns-in_err-memory-clause-renews
returns-in_err-memory-clause-renews g c f =
    let reads = c.in_ok-found.ensures.store in
    inl (reads.calls f, λ i. record { files = reads.same f i; synced = reads.synced f i })

pub returns-in_err-rewrite_directory-clause-renews : goal.returns-in_err-rewrite_directory-clause-renews
returns-in_err-rewrite_directory-clause-renews g c f =
    let old = g.S.Store.facts c.args.store.now in
    let mid = g.S.Store.facts c.find.new.store in
    let wrote = c.in_err-rewrite_directory.ensures in
    let m = wrote.files.call.faithful f in
    let reads = c.in_ok-found.ensures.store in
    let rewrite = c.in_ok-rewrite.rewrite in
    inr (record {
      found = c.in_ok-found.found;
      rewrite = rewrite;
      usable = c.in_ok-found.ensures.usable;
      finds = c.in_ok-found.ensures.found m;
      planned = c.in_ok-rewrite.ensures.planned;
      renews = renews_behind old mid (g.S.Store.facts c.rewrite_directory.new.store) (string_bytes rewrite.manifest_name) rewrite.manifest.items (string_bytes rewrite.temporary_name) rewrite.current.items (string_bytes rewrite.log_name)
          (reads.calls m, λ i. record { files = reads.same m i; synced = reads.synced m i }) (wrote.renews f);
    })

pub returns-clause-renews : goal.returns-clause-renews
returns-clause-renews g c f =
    let old = g.S.Store.facts c.args.store.now in
    let mid = g.S.Store.facts c.find.new.store in
    let wrote = c.in_ok-rewrite_directory.ensures in
    let m = wrote.files.call.faithful f in
    let reads = c.in_ok-found.ensures.store in
    let rewrite = c.in_ok-rewrite.rewrite in
    inr (record {
      found = c.in_ok-found.found;
      rewrite = rewrite;
      usable = c.in_ok-found.ensures.usable;
      finds = c.in_ok-found.ensures.found m;
      planned = c.in_ok-rewrite.ensures.planned;
      renews = renews_behind old mid (g.S.Store.facts c.rewrite_directory.new.store) (string_bytes rewrite.manifest_name) rewrite.manifest.items (string_bytes rewrite.temporary_name) rewrite.current.items (string_bytes rewrite.log_name)
          (reads.calls m, λ i. record { files = reads.same m i; synced = reads.synced m i }) (wrote.renews f);
    })

pub returns-clause-renewed : goal.returns-clause-renewed
returns-clause-renewed g c f =
    let order = order_of g.K.KeyOrder.name g.K.KeyOrder.cmp in
    let old = g.S.Store.facts c.args.store.now in
    let mid = g.S.Store.facts c.find.new.store in
    let wrote = c.in_ok-rewrite_directory.ensures in
    let m = wrote.files.call.faithful f in
    let reads = c.in_ok-found.ensures.store in
    let found = c.in_ok-found.found in
    let rewrite = c.in_ok-rewrite.rewrite in
    let finds = c.in_ok-found.ensures.found m in
    record {
      found = found;
      rewrite = rewrite;
      usable = c.in_ok-found.ensures.usable;
      finds = finds;
      planned = c.in_ok-rewrite.ensures.planned;
      renews = all_behind old mid (g.S.Store.facts c.rewrite_directory.new.store) (string_bytes rewrite.manifest_name) rewrite.manifest.items (string_bytes rewrite.temporary_name) rewrite.current.items (string_bytes rewrite.log_name)
          (reads.calls m, λ i. record { files = reads.same m i; synced = reads.synced m i }) (wrote.renewed f (found_behind order old mid found (reads.same m) finds));
      log_number = refl;
      manifest_number = c.known_after.ensures.number;
    }
