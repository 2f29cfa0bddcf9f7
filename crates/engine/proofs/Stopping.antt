-- What a process crash leaves in the middle of a write, and of a run.
use Rattle.std.proofs.Common.{Bool, true, false, Option, Some, None, MatchBool, MatchOption, ◌≡◌, ◌⊎◌, ℕ, List, [], ◌∷◌, IsTrue, Err, inl, inr, refl, sym, ap, ◌∙◌, subst, arith, if◌then◌else◌}
use Rattle.std.specs.Option.{option_or}
use Rattle.store.specs.Files.{Facts, Files, AppendsBeginning}
use Rattle.store.specs.Stops.{LeavesOnly, stopped_at}
use Rattle.store.proofs.Stopping.{leaves_same, leaves_so}
use Rattle.engine.specs.declared.log.LogError.TheVariants.{Device}
use Rattle.engine.specs.internal.Logs.{AppendsRecord}
use Rattle.ikey.specs.Orders.{Order}
use Rattle.batch.specs.Batch.{first_refusal}
use Rattle.batch.specs.declared.operation.Operation.{Operation}
use Rattle.coding.specs.declared.error.DbError.{DbError}
use Rattle.coding.specs.declared.error.DbError.TheVariants as error
use Rattle.table_access.specs.Tables.{Seen}
use Rattle.machine.specs.Access.{accepted, doubted, Writes}
use Rattle.machine.specs.Causes.{full, not_serving, status_of}
use Rattle.machine.specs.Machine.{Machine}
use Rattle.machine.specs.Serving.{◌≈◌}
use Rattle.machine.specs.declared.command.Answer.{Answer}
use Rattle.machine.specs.declared.command.Answer.TheVariants.{Done, Refused}
use Rattle.machine.specs.declared.command.Op.{Op}
use Rattle.engine.specs.Applied.{AllApplied}
use Rattle.engine.specs.Headline.{Holds, HoldsAccepted}
use Rattle.engine.specs.OpenDb.{OpenDb}
use Rattle.engine.specs.Stops.{LeftByWrite, StopsEach}
use Rattle.engine.specs.internal.Directory.{IsAtRest}
use Rattle.engine.specs.internal.Standing.{IsBroken, IsServing, StandsOpen}
use Rattle.engine.specs.Stands.{Stands, StandsOver, ids_of, open_in, seen_in, store_of}
use Rattle.engine.specs.declared.ids.Ids.{Ids}
use Rattle.engine.specs.declared.session.Session.{Session}
use Rattle.engine.proofs.Flags.{step_flag}
use Rattle.engine.proofs.Lasting.{held, holds_current, holds_with}
use Rattle.engine.proofs.OpenMachine.{means_whole}
use Rattle.engine.proofs.Steps.{serving_of}
use Rattle.engine.proofs.StopSteps.{means_over}

-- ---- the record of a batch

-- what is left is what a failure of the store leaves
pub stopped_append : (old : Facts) (files : Files) (name bytes : List ℕ) → IsTrue old.faithful → AppendsBeginning old.files files name bytes → AppendsRecord old (stopped_at old files) name bytes (Err Device)
stopped_append old files name bytes faithful left = record {
  faithful = λ f. faithful;
  failures = omega arith;
  denials = refl;
  ok = λ f. tt;
  device = λ f e. left;
  counted = λ e. omega arith;
  memory = λ f e. absurd (cc);
}

-- ---- which files a write leaves

pub unbroken : {K : Type 0} {g : _} → (order : Order) (b : Bool) (source : Seen) (db : OpenDb K g) (m : Machine) → MatchBool b (IsBroken order source.facts.files m) (IsServing order source db m) → m.broken ≡ false → b ≡ false
unbroken order true source db m rest whole = absurd (let broken : m.broken ≡ true = rest.broken in cc)
unbroken order false source db m rest whole = refl

-- not by one that is open and serves
left_else : (order : Order) (m : Machine) (operations : List Operation) (files : Files) → m.opened ≡ false ⊎ m.broken ≡ true → HoldsAccepted order files m → LeftByWrite order m operations files
left_else order m operations files why holds = at m.broken m.opened why
  where
    at : (broken opened : Bool) → opened ≡ false ⊎ broken ≡ true
        → MatchBool broken (HoldsAccepted order files m) (MatchBool opened (Holds order files m ⊎ Holds order files (accepted m operations false)) (HoldsAccepted order files m))
    at true opened why = holds
    at false false why = holds
    at false true (inl shut) = absurd (cc)
    at false true (inr broken) = absurd (cc)

left_serving : (order : Order) (m : Machine) (operations : List Operation) (files : Files) → m.opened ≡ true → m.broken ≡ false → Holds order files m ⊎ Holds order files (accepted m operations false) → LeftByWrite order m operations files
left_serving order m operations files opens whole holds = at m.broken m.opened whole opens
  where
    at : (broken opened : Bool) → broken ≡ false → opened ≡ true
        → MatchBool broken (HoldsAccepted order files m) (MatchBool opened (Holds order files m ⊎ Holds order files (accepted m operations false)) (HoldsAccepted order files m))
    at true opened whole opens = absurd (cc)
    at false false whole opens = absurd (cc)
    at false true whole opens = holds

holds_doubted : (order : Order) (files : Files) (m : Machine) (operations : List Operation) → m.damaged ≡ false → IsAtRest order files (doubted m operations) → Holds order files m ⊎ Holds order files (accepted m operations false)
holds_doubted order files m operations undamaged rest = elim (means_whole order files (doubted m operations) undamaged rest) [
  | inl means ↦ inl (holds_current order files m means)
  | inr means ↦ inr (holds_with order files m operations means)
]

-- where no call was made
left_unwritten : {K : Type 0} {g : _} → (order : Order) (source : Seen) (ids : Ids) (o : Option (OpenDb K g)) (operations : List Operation) (m : Machine) → m.damaged ≡ false → StandsOver order source ids o m → LeftByWrite order m operations source.facts.files
left_unwritten {K} {g} order source ids None operations m undamaged s =
    left_else order m operations source.facts.files (inl s.opened) (held order source.facts.files m m.in_doubt (means_whole order source.facts.files m undamaged s.rest))
left_unwritten {K} {g} order source ids (Some db) operations m undamaged s = at db.broken s.rest
  where
    at : (b : Bool) → MatchBool b (IsBroken order source.facts.files m) (IsServing order source db m) → LeftByWrite order m operations source.facts.files
    at true rest = left_else order m operations source.facts.files (inr rest.broken) (held order source.facts.files m m.in_doubt (means_whole order source.facts.files m undamaged rest.rest))
    at false serving = left_serving order m operations source.facts.files s.opened serving.whole
        (subst (λ (doubt : Option (List Operation)). MatchOption doubt (Holds order source.facts.files m) (λ batch. Holds order source.facts.files m ⊎ Holds order source.facts.files (accepted m batch false)) → Holds order source.facts.files m ⊎ Holds order source.facts.files (accepted m operations false))
        (sym serving.certain) (λ holds. inl holds) (held order source.facts.files m m.in_doubt (means_over order source ids (Some db) m undamaged s)))

pub stops_unwritten : {K : Type 0} {g : _} → (order : Order) (source : Seen) (ids : Ids) (o : Option (OpenDb K g)) (operations : List Operation) (m : Machine) → m.damaged ≡ false → StandsOver order source ids o m
    → LeavesOnly source.facts source.facts (λ files. LeftByWrite order m operations files)
stops_unwritten order source ids o operations m undamaged s =
    leaves_same source.facts source.facts (λ files. LeftByWrite order m operations files) refl refl (left_unwritten order source ids o operations m undamaged s)

-- one that an open database did, which makes no call where it is broken
pub stops_written : {K : Type 0} {g : _} → (order : Order) (source : Seen) (ids : Ids) (db : OpenDb K g) (operations : List Operation) (new : Facts) (m : Machine) → m.damaged ≡ false → StandsOpen order source ids db m
    → (db.broken ≡ true → new ≡ source.facts) → (db.broken ≡ false → LeavesOnly source.facts new (λ files. IsAtRest order files (doubted m operations)))
    → LeavesOnly source.facts new (λ files. LeftByWrite order m operations files)
stops_written order source ids db operations new m undamaged s idle stops = at db.broken refl
  where
    at : (b : Bool) → db.broken ≡ b → LeavesOnly source.facts new (λ files. LeftByWrite order m operations files)
    at true is = subst (λ (f : Facts). LeavesOnly source.facts f (λ files. LeftByWrite order m operations files)) (sym (idle is)) (stops_unwritten order source ids (Some db) operations m undamaged s)
    at false is =
        leaves_so source.facts new (λ files. IsAtRest order files (doubted m operations)) (λ files. LeftByWrite order m operations files)
        (λ files rest. left_serving order m operations files s.opened (serving_of order source ids db m is s).whole (holds_doubted order files m operations undamaged rest)) (stops is)

-- ---- work after a write

-- a write that was done had no cause against it
served : (o s f : Option DbError) (A : Type 0) (B : DbError → Type 0) → ((e : DbError) → B e → ⊥) → MatchOption (option_or o (option_or s f)) A B → (s ≡ None) × A
served None None None A B never h = (refl, h)
served (Some e) s f A B never h = absurd (never e h)
served None (Some e) f A B never h = absurd (never e h)
served None None (Some e) A B never h = absurd (never e h)

never_done : (e : DbError) (P : Type 0) → (Done ≡ Refused e) × P → ⊥
never_done e P h = let is = h.0 in absurd (cc)

holds_written : (order : Order) (files : Files) (m n : Machine) (operations : List Operation) (sync : Bool) → m.in_doubt ≡ None → n ≈ accepted m operations sync → HoldsAccepted order files n → Holds order files (accepted m operations false)
holds_written order files m n [] sync certain is holds =
    let at = subst (λ (doubt : Option (List Operation)). MatchOption doubt (Holds order files (record m { failures = n.failures; denials = n.denials })) (λ batch. Holds order files (record m { failures = n.failures; denials = n.denials }) ⊎ Holds order files (accepted (record m { failures = n.failures; denials = n.denials }) batch false)))
    certain (subst (λ (x : Machine). HoldsAccepted order files x) is holds) in
    record { entries = at.entries; directory = at.directory; view = at.view }
holds_written order files m n (operation ∷ operations) sync certain is holds =
    let after = record (accepted m (operation ∷ operations) sync) { failures = n.failures; denials = n.denials } in
    let at = subst (λ (doubt : Option (List Operation)). MatchOption doubt (Holds order files after) (λ batch. Holds order files after ⊎ Holds order files (accepted after batch false)))
    certain (subst (λ (x : Machine). HoldsAccepted order files x) is holds) in
    record { entries = at.entries; directory = at.directory; view = at.view }

whole_of : (opened broken : Bool) → (if opened then (if broken then Some error.Broken else None) else Some error.NotOpen) ≡ None → broken ≡ false
whole_of true true free = absurd (cc)
whole_of true false free = refl
whole_of false broken free = absurd (cc)

-- what files held after a write they were left by it
pub done_by : (m n : Machine) (operations : List Operation) (sync : Bool) → Writes m operations sync Done n → (not_serving (status_of m) ≡ None) × (n ≈ accepted m operations sync)
done_by m n operations sync writes = served (first_refusal [] operations) (not_serving (status_of m)) (full (status_of m) operations) _ _ (λ e h. never_done e _ h) writes.1

pub written_back : {K : Type 0} {g : _} → (order : Order) (source : Seen) (ids : Ids) (db : OpenDb K g) (m n : Machine) (operations : List Operation) (sync : Bool) → StandsOpen order source ids db m → Writes m operations sync Done n
    → (files : Files) → HoldsAccepted order files n → LeftByWrite order m operations files
written_back order source ids db m n operations sync s writes files holds = at db.broken s.rest
  where
    done : (not_serving (status_of m) ≡ None) × (n ≈ accepted m operations sync)
    done = done_by m n operations sync writes

    at : (b : Bool) → MatchBool b (IsBroken order source.facts.files m) (IsServing order source db m) → LeftByWrite order m operations files
    at true rest = absurd (let broken : m.broken ≡ true = rest.broken in let whole : m.broken ≡ false = whole_of m.opened m.broken done.0 in cc)
    at false serving = left_serving order m operations files s.opened serving.whole (inr (holds_written order files m n operations sync serving.certain done.1 holds))

-- ---- a run

pub faithful_before : {S K : Type 0} {g : _} (order : Order) (facts : S → Facts) (ops : List Op) (answers : List Answer) (old new : Session S K g) → AllApplied order facts ops answers old new
    → IsTrue (facts (store_of new)).faithful → IsTrue (facts (store_of old)).faithful
faithful_before {S} {K} {g} order facts [] [] old new same f = subst (λ (s : Session S K g). IsTrue (facts (store_of s)).faithful) same f
faithful_before order facts (op ∷ ops) (answer ∷ answers) old new h f = h.1.step.faithful (faithful_before order facts ops answers h.0 new h.2 f)
faithful_before order facts [] (answer ∷ answers) old new h f = absurd h
faithful_before order facts (op ∷ ops) [] old new h f = absurd h

-- each command leaves what it may in the state that those before it led to; at last no call was
-- made
pub stops_each : {S K : Type 0} {g : _} (order : Order) (facts : S → Facts) (ops : List Op) (answers : List Answer) (old new : Session S K g) (last : Facts) → AllApplied order facts ops answers old new
    → IsTrue (facts (store_of new)).faithful → last.calls ≡ (facts (store_of new)).calls → last.files ≡ (facts (store_of new)).files → (m : Machine) → m.damaged ≡ false → Stands order facts old m
    → StopsEach order m (facts (store_of old)) last ops answers
stops_each {S} {K} {g} order facts [] [] old new last same f calls files m undamaged s =
    leaves_same (facts (store_of old)) last (λ files. HoldsAccepted order files m) (calls ∙ ap (λ (x : Session S K g). (facts (store_of x)).calls) same) (files ∙ ap (λ (x : Session S K g). (facts (store_of x)).files) same)
    (held order (facts (store_of old)).files m m.in_doubt (means_over order (seen_in facts old) (ids_of old) (open_in old) m undamaged s))
stops_each order facts (op ∷ ops) (answer ∷ answers) old new last h f calls files m undamaged s =
    let between = faithful_before order facts ops answers h.0 new h.2 f in
    let one = h.1.step.moved between m s in
    (facts (store_of h.0), h.1.stops between m undamaged s, (one.0, one.1, stops_each order facts ops answers h.0 new last h.2 f calls files one.0 (step_flag order m one.0 op answer one.1 ∙ undamaged) one.2))
stops_each order facts [] (answer ∷ answers) old new last h f calls files m undamaged s = absurd h
stops_each order facts (op ∷ ops) [] old new last h f calls files m undamaged s = absurd h
