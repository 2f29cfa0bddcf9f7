-- What a power loss leaves in the middle of the calls of a database, and of the commands of a
-- session.
use Rattle.std.proofs.Common.{◌≡◌, ◌≤◌, ℕ, Bool, true, false, List, [], ◌∷◌, length, Option, Some, None, IsTrue, refl, sym, ap, subst, ◌∙◌, arith}
use Rattle.batch.specs.declared.operation.Operation.{Operation}
use Rattle.ikey.specs.Orders.{Order}
use Rattle.machine.specs.Access.{Writes, accepted}
use Rattle.machine.specs.Machine.{Machine}
use Rattle.machine.specs.declared.command.Answer.{Answer}
use Rattle.machine.specs.declared.command.Answer.TheVariants.{Done}
use Rattle.opening.specs.Losses.{LeavesUncut}
use Rattle.store.specs.Files.{Facts}
use Rattle.store.specs.Losses.{LosesOnly, StaysNamed}
use Rattle.table_access.specs.Tables.{Seen}
use Rattle.engine.proofs.Flags.{writes_flag}
use Rattle.engine.proofs.LosingFirst.{first_then, found_then}
use Rattle.engine.proofs.LosingPieces.{first_behind, first_same, found_behind, found_same}
use Rattle.engine.proofs.Stopping.{done_by}
use Rattle.engine.specs.Headline.{HoldsAccepted}
use Rattle.engine.specs.Losses.{DbLoses, DbLosesWrite, LosesOver, OpensOver}
use Rattle.engine.specs.OpenDb.{OpenDb}
use Rattle.engine.specs.Pace.{OnlyDraws}
use Rattle.engine.specs.Reopening.{DbKeepsFound, FoundOver, KeepsFound}
use Rattle.engine.specs.Stands.{StandsOver}
use Rattle.engine.specs.StandsDb.{FollowsDb, db_ids_of, db_store_of, open_by, seen_by}
use Rattle.engine.specs.Stops.{DbStops}
use Rattle.engine.specs.Touching.{CloseTouches, OpenTouches}
use Rattle.engine.specs.declared.db.Db.{Db}
use Rattle.engine.specs.declared.ids.Ids.{Ids}
use Rattle.engine.specs.internal.Standing.{StandsWhole}
use Rattle.engine.specs.internal.Stopping.{KeepsOpen}

-- ---- calls of a database

-- with sync or without, the same was accepted
same_accepted : (m : Machine) (sync : Bool) (operations : List Operation)
    → ((accepted m operations sync).base ≡ (accepted m operations false).base) × ((accepted m operations sync).batches ≡ (accepted m operations false).batches) × ((accepted m operations sync).broken ≡ m.broken)
same_accepted m sync [] = (refl, refl, refl)
same_accepted m sync (operation ∷ operations) = (refl, refl, refl)

more_synced : (m : Machine) (sync : Bool) (operations : List Operation) → m.synced ≤ length m.batches → (accepted m operations false).synced ≤ (accepted m operations sync).synced
more_synced m sync [] reached = omega arith
more_synced m true (operation ∷ operations) reached = (let most : m.synced ≤ length m.batches = reached in omega (arith, most))
more_synced m false (operation ∷ operations) reached = omega arith

module _ {S K : Type 0} {g : _} (order : Order) (facts : S → Facts) where
  pub db_loses_none : (db : Db S K g) → DbLoses order facts db db
  db_loses_none db f m undamaged s whole = first_same order (seen_by facts db) (db_ids_of db) (open_by db) m (facts (db_store_of db)) (record { stands = s; undamaged = undamaged }) whole refl refl refl

  pub db_found_none : (db : Db S K g) → DbKeepsFound order facts db db
  db_found_none db f m undamaged s whole = found_same (facts (db_store_of db)) (facts (db_store_of db)) (open_by db) refl refl

  module _ (old mid new : Db S K g) (back : IsTrue (facts (db_store_of new)).faithful → IsTrue (facts (db_store_of mid)).faithful) (found : DbKeepsFound order facts old mid) where
    -- work, one after the other
    module _ (steps : FollowsDb order facts old mid OnlyDraws) where
      pub db_loses_then : DbStops order facts mid new → DbLoses order facts old mid → DbLoses order facts mid new → DbLoses order facts old new
      db_loses_then stops first next f m undamaged s whole =
          let one = steps.moved (back f) m s in
          let n = one.0 in
          let still : n.damaged ≡ false = ap (λ (x : Machine). x.damaged) one.1.0.1 ∙ undamaged in
          let kept = found (back f) m undamaged s whole in
          let later = stops f n still one.2 in
          first_then order (facts (db_store_of old)) (facts (db_store_of mid)) (facts (db_store_of new)) later.more (open_by old) m later.calls kept (first (back f) m undamaged s whole)
          (first_behind order (seen_by facts old) (seen_by facts mid) (db_ids_of old) (db_ids_of mid) (open_by old) (open_by mid) m n (record { stands = s; undamaged = undamaged }) whole (record { stands = one.2; undamaged = still }) one.1.1 kept
          m (ap (λ (x : Machine). x.base) one.1.0.1) (ap (λ (x : Machine). x.batches) one.1.0.1) (let same = ap (λ (x : Machine). x.synced) one.1.0.1 in omega (arith, same)) (facts (db_store_of new)) (λ unbroken. next f n still one.2 unbroken))

      pub db_found_then : DbKeepsFound order facts mid new → DbKeepsFound order facts old new
      db_found_then next f m undamaged s whole =
          let one = steps.moved (back f) m s in
          let n = one.0 in
          let still : n.damaged ≡ false = ap (λ (x : Machine). x.damaged) one.1.0.1 ∙ undamaged in
          let kept = found (back f) m undamaged s whole in
          found_then (facts (db_store_of old)) (facts (db_store_of mid)) (facts (db_store_of new)) (open_by old) kept
          (found_behind order (seen_by facts old) (seen_by facts mid) (db_ids_of old) (db_ids_of mid) (open_by old) (open_by mid) m n (record { stands = s; undamaged = undamaged }) whole (record { stands = one.2; undamaged = still }) one.1.1 kept
          (facts (db_store_of new)) (λ unbroken. next f n still one.2 unbroken))

    -- work after a write
    module _ (operations : List Operation) (sync : Bool) (step : FollowsDb order facts old mid (λ m n. Writes m operations sync Done n)) where
      pub db_loses_written : DbStops order facts mid new → DbLosesWrite order facts operations old mid → DbLoses order facts mid new → DbLosesWrite order facts operations old new
      db_loses_written stops first next f m undamaged s whole =
          let one = step.moved (back f) m s in
          let n = one.0 in
          let is = (done_by m n operations sync one.1).1 in
          let same = same_accepted m sync operations in
          let still : n.damaged ≡ false = writes_flag m n operations sync Done one.1 ∙ undamaged in
          let kept = found (back f) m undamaged s whole in
          let later = stops f n still one.2 in
          let least = more_synced m sync operations s.reached in
          let synced = ap (λ (x : Machine). x.synced) is in
          first_then order (facts (db_store_of old)) (facts (db_store_of mid)) (facts (db_store_of new)) later.more (open_by old) (accepted m operations false) later.calls kept (first (back f) m undamaged s whole)
          (first_behind order (seen_by facts old) (seen_by facts mid) (db_ids_of old) (db_ids_of mid) (open_by old) (open_by mid) m n (record { stands = s; undamaged = undamaged }) whole (record { stands = one.2; undamaged = still })
          (ap (λ (x : Machine). x.broken) is ∙ same.2) kept (accepted m operations false) (ap (λ (x : Machine). x.base) is ∙ same.0) (ap (λ (x : Machine). x.batches) is ∙ same.1) (omega (arith, least, synced))
          (facts (db_store_of new)) (λ unbroken. next f n still one.2 unbroken))

      pub db_found_written : DbKeepsFound order facts mid new → DbKeepsFound order facts old new
      db_found_written next f m undamaged s whole =
          let one = step.moved (back f) m s in
          let n = one.0 in
          let is = (done_by m n operations sync one.1).1 in
          let same = same_accepted m sync operations in
          let still : n.damaged ≡ false = writes_flag m n operations sync Done one.1 ∙ undamaged in
          let kept = found (back f) m undamaged s whole in
          found_then (facts (db_store_of old)) (facts (db_store_of mid)) (facts (db_store_of new)) (open_by old) kept
          (found_behind order (seen_by facts old) (seen_by facts mid) (db_ids_of old) (db_ids_of mid) (open_by old) (open_by mid) m n (record { stands = s; undamaged = undamaged }) whole (record { stands = one.2; undamaged = still })
          (ap (λ (x : Machine). x.broken) is ∙ same.2) kept (facts (db_store_of new)) (λ unbroken. next f n still one.2 unbroken))

-- ---- commands of a session

-- one that changes nothing
pub loses_standing : {K : Type 0} {g : _} (order : Order) (source : Seen) (ids : Ids) (o : Option (OpenDb K g)) (new : Facts) → (IsTrue new.faithful → new.calls ≡ source.facts.calls) → (IsTrue new.faithful → new.files ≡ source.facts.files)
    → (IsTrue new.faithful → new.synced ≡ source.facts.synced) → IsTrue new.faithful → (m : Machine) → m.damaged ≡ false → StandsOver order source ids o m → LosesOver order source.facts new o m
loses_standing order source ids None new calls files synced f m undamaged s = tt
loses_standing order source ids (Some db) new calls files synced f m undamaged s = λ whole. first_same order source ids db m new (record { stands = s; undamaged = undamaged }) whole (calls f) (files f) (synced f)

-- an open, where a database is open
pub opens_already : {K : Type 0} {g : _} (order : Order) (source : Seen) (ids : Ids) (o : Option (OpenDb K g)) (db : OpenDb K g) (m : Machine) → o ≡ Some db → m.damaged ≡ false → StandsOver order source ids o m
    → OpensOver order source.facts source.facts o m
opens_already order source ids o db m is undamaged s =
    subst (λ (x : Option (OpenDb _ _)). OpensOver order source.facts source.facts x m) (sym is)
    (λ whole. first_same order source ids db m source.facts (record { stands = subst (λ (x : Option (OpenDb _ _)). StandsOver order source ids x m) is s; undamaged = undamaged }) whole refl refl refl)

-- where none is
pub opens_none : {K : Type 0} {g : _} (order : Order) (old new : Facts) (o : Option (OpenDb K g)) (m : Machine) → o ≡ None
    → (((name : List ℕ) → StaysNamed old name) → LosesOnly old new (λ lost. LeavesUncut old lost → HoldsAccepted order lost m)) → OpensOver order old new o m
opens_none order old new o m is h = subst (λ (x : Option (OpenDb _ _)). OpensOver order old new x m) (sym is) h

pub loses_closed : {K : Type 0} {g : _} (order : Order) (source : Seen) (ids : Ids) (o : Option (OpenDb K g)) (new : Facts) → CloseTouches o source.facts new
    → IsTrue new.faithful → (m : Machine) → m.damaged ≡ false → StandsOver order source ids o m → LosesOver order source.facts new o m
loses_closed {K} {g} order source ids None new touches = loses_standing {K = K} {g = g} order source ids None new touches.calls touches.files touches.synced
loses_closed {K} {g} order source ids (Some db) new touches = loses_standing {K = K} {g = g} order source ids (Some db) new touches.calls touches.files touches.synced

-- one that an open database did
pub loses_lent : {K : Type 0} {g : _} (order : Order) (source new : Seen) (ids : Ids) (o : Option (OpenDb K g)) (db : OpenDb K g) → o ≡ Some db → KeepsOpen order source new db
    → IsTrue new.facts.faithful → (m : Machine) → m.damaged ≡ false → StandsOver order source ids o m → LosesOver order source.facts new.facts o m
loses_lent order source new ids o db is keeps f m undamaged s =
    subst (λ (x : Option (OpenDb _ _)). LosesOver order source.facts new.facts x m) (sym is)
    (λ whole. keeps.loses f ids m (record { stands = subst (λ (x : Option (OpenDb _ _)). StandsOver order source ids x m) is s; undamaged = undamaged }) whole)

-- ---- what stays of the files that the open found

-- after a command that changes nothing
pub found_standing : {K : Type 0} {g : _} (o : Option (OpenDb K g)) (old new : Facts) → (IsTrue new.faithful → new.files ≡ old.files) → (IsTrue new.faithful → new.synced ≡ old.synced) → IsTrue new.faithful → FoundOver old new o
found_standing None old new files synced f = tt
found_standing (Some db) old new files synced f = λ whole. found_same old new db (files f) (synced f)

-- an open, which changes nothing where a database is open
pub found_opened : {K : Type 0} {g : _} (o : Option (OpenDb K g)) (old new : Facts) (answer : Answer) → OpenTouches o old new answer → IsTrue new.faithful → FoundOver old new o
found_opened None old new answer touches f = tt
found_opened (Some db) old new answer touches f = λ whole. found_same old new db (touches.files f) (touches.synced f)

pub found_closed : {K : Type 0} {g : _} (o : Option (OpenDb K g)) (old new : Facts) → CloseTouches o old new → IsTrue new.faithful → FoundOver old new o
found_closed None old new touches f = tt
found_closed (Some db) old new touches f = λ whole. found_same old new db (touches.files f) (touches.synced f)

-- one that an open database did
pub found_lent : {K : Type 0} {g : _} (order : Order) (source : Seen) (new : Facts) (ids : Ids) (o : Option (OpenDb K g)) (db : OpenDb K g) → o ≡ Some db
    → (IsTrue new.faithful → (ids : Ids) (m : Machine) → StandsWhole order source ids db m → db.broken ≡ false → KeepsFound source.facts new db)
    → IsTrue new.faithful → (m : Machine) → m.damaged ≡ false → StandsOver order source ids o m → FoundOver source.facts new o
found_lent order source new ids o db is keeps f m undamaged s =
    subst (λ (x : Option (OpenDb _ _)). FoundOver source.facts new x) (sym is)
    (λ whole. keeps f ids m (record { stands = subst (λ (x : Option (OpenDb _ _)). StandsOver order source ids x m) is s; undamaged = undamaged }) whole)
