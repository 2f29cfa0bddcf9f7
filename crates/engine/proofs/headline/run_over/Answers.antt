use Rattle.std.proofs.Common.{◌≡◌, ◌∙◌, ◌≤◌, Bool, IsTrue, List, Option, Some, None, Result, Ok, Err, OnOk, inl, inr, sym, ap, subst, arith}
use Rattle.std.proofs.lemmas.List.{append_cancel_left}
use Rattle.coding.specs.declared.error.DbError.{DbError}
use Rattle.ikey.specs.Orders.{Order, order_of}
use Rattle.machine.specs.Lifetime.{EndsClosed}
use Rattle.machine.specs.Machine.{Machine}
use Rattle.machine.specs.declared.command.Answer.{Answer}
use Rattle.store.specs.Files.{Facts, Files}
use Rattle.store.specs.Losses.{SyncsBeginnings}
use Rattle.table_access.specs.Tables.{Seen}
use Rattle.engine.specs.declared.ids.Ids.{Ids}
use Rattle.engine.specs.Applied.{AllApplied}
use Rattle.engine.specs.LosesRun.{LosesEach}
use Rattle.engine.specs.OpenDb.{OpenDb}
use Rattle.engine.specs.Stands.{StandsOver, ids_of, open_in, seen_in, store_of}
use Rattle.engine.specs.Stops.{StopsEach}
use Rattle.engine.specs.Touching.{CloseTouches}
use Rattle.engine.specs.Origins.{ComesFrom}
use Rattle.engine.proofs.Beginnings.{comes_from_itself}
use Rattle.engine.proofs.Flags.{run_flag}
use Rattle.engine.proofs.Lasting.{first_itself}
use Rattle.engine.proofs.RunLosses.{Between}
use Rattle.engine.proofs.SessionLosses.{closed_begin, loses_each}
use Rattle.engine.proofs.Stopping.{stops_each}
use Rattle.engine.proofs.headline.run_over.Goals as goal

on_both : {A B C : Type 0} (result : Result (Unit {0}) DbError) → (A → B → C) → OnOk result A → OnOk result B → OnOk result C
on_both (Ok x) f a b = f a b
on_both (Err e) f a b = a

-- ---- a close

-- It calls nothing that changes a file.
closes_calls : {K : Type 0} {g : _} (o : Option (OpenDb K g)) (old new : Facts) → CloseTouches o old new → IsTrue new.faithful → (new.calls ≡ old.calls) × (new.files ≡ old.files)
closes_calls None old new touches f = (touches.calls f, touches.files f)
closes_calls (Some db) old new touches f = (touches.calls f, touches.files f)

closes_synced : {K : Type 0} {g : _} (o : Option (OpenDb K g)) (old new : Facts) → CloseTouches o old new → IsTrue new.faithful → new.synced ≡ old.synced
closes_synced None old new touches f = touches.synced f
closes_synced (Some db) old new touches f = touches.synced f

-- a machine has counted the failures of the store
counted_over : {K : Type 0} {g : _} (order : Order) (source : Seen) (ids : Ids) (o : Option (OpenDb K g)) (m : Machine) → StandsOver order source ids o m → m.failures ≡ source.facts.failures
counted_over order source ids None m s = s.counts.failures
counted_over order source ids (Some db) m s = s.counts.failures

-- which don't become fewer by a close
ended_failures : (m n : Machine) → EndsClosed m n → m.failures ≤ n.failures
ended_failures m n (inl shut) = (let same : n.failures ≡ m.failures = ap (λ (x : Machine). x.failures) shut.1 in omega (arith, same))
ended_failures m n (inr closes) = closes.0.failures

-- ---- a run

pub returns-clause-promised : goal.returns-clause-promised
returns-clause-promised g c =
    let order : Order = order_of g.K.KeyOrder.name g.K.KeyOrder.cmp in
    let facts = g.S.Store.facts in
    let old = facts c.args.store in
    let new = facts c.into_store.result in
    let begun = c.new-session.result in
    let ended = c.run-result.new.self in
    let parted = c.into_store.ensures.step in
    let touches = c.into_store.ensures.touches in
    on_both c.run-result.result
    (λ run each.
    let same : each.0 ≡ run.0 = append_cancel_left c.args.sink.now.items each.0 run.0 (sym each.1 ∙ run.1) in
    let applied = subst (λ (answers : List Answer). AllApplied order facts c.args.ops.now answers begun ended) same each.2 in (
      run.0,
      run.1,
      record {
        headline = λ faithful ideal first from is.
            let start = c.from_files.ensures.each order old ideal first from is in
            let before = c.new-session.ensures.stands first start in
            let reached = run.3.moved (parted.faithful faithful) first before in
            let last = parted.moved faithful reached.0 reached.2 in
            let end = c.to_files.ensures.each order new _ reached.0 last.0 last.1 last.2 in
            let still : reached.0.damaged ≡ first.damaged = run_flag order first reached.0 c.args.ops.now run.0 reached.1 in
            (reached.0, end.0, reached.1, subst (λ (b : Bool). ComesFrom order b new.files end.0) still end.1, end.2);
        stops = λ faithful first is undamaged.
            let start = c.from_files.ensures.each order old old.files first (comes_from_itself order first.damaged old.files) (first_itself order old first is) in
            let before = c.new-session.ensures.stands first start in
            let between = parted.faithful faithful in
            let closed = closes_calls (open_in ended) (facts (store_of ended)) new touches faithful in
            subst (λ (store : _). StopsEach order first (facts store) new c.args.ops.now run.0) c.new-session.ensures.kept
            (stops_each order facts c.args.ops.now run.0 begun ended new applied between closed.0 closed.1 first undamaged before);
        loses = λ faithful lock device first is undamaged.
            let start = c.from_files.ensures.each order old old.files first (comes_from_itself order first.damaged old.files) (first_itself order old first is) in
            let before = c.new-session.ensures.stands first start in
            let between = parted.faithful faithful in
            let closed = closes_calls (open_in ended) (facts (store_of ended)) new touches faithful in
            let synced = closes_synced (open_in ended) (facts (store_of ended)) new touches faithful in
            let sound = subst (λ (store : _). SyncsBeginnings (facts store)) c.store.ensures c.synced_law.ensures in
            let stood = run.3.moved between first before in
            let shut = parted.moved faithful stood.0 stood.2 in
            let failures : (facts (store_of ended)).failures ≤ new.failures =
            (let one = counted_over order (seen_in facts ended) (ids_of ended) (open_in ended) stood.0 stood.2 in let two = shut.2.counts.failures in let least = ended_failures stood.0 shut.0 shut.1 in omega (arith, one, two, least)) in
            let spares : Files → Type 0 = λ lost. Unit {0} in
            let begin = subst (λ (store : _). Between order (facts store) (open_in begun) first spares) (sym c.new-session.ensures.kept)
            (subst (λ (o : Option (OpenDb _ _)). Between order old o first spares) (sym c.new-session.ensures.shut) (closed_begin order old first device is lock)) in
            subst (λ (store : _). LosesEach order spares first (facts store) new c.args.ops.now run.0) c.new-session.ensures.kept
            (loses_each order facts c.args.ops.now run.0 begun ended new applied between sound closed.0 closed.1 synced failures first undamaged before spares begin);
      },
    ))
    c.run-result.ensures.run c.run-result.ensures.each
