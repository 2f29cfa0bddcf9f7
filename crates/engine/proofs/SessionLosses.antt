-- What a power loss leaves at any moment of a run of a session, by what each of its commands
-- promises. And what it leaves at its begin, of an open database or of files that are durable.
use Rattle.std.proofs.Common.{◌≡◌, ◌≤◌, ℕ, Bool, true, false, List, [], ◌∷◌, take, Option, Some, None, is_some, IsSome, IsTrue, inl, inr, refl, sym, ap, subst, ◌∙◌, append-nil, arith}
use Rattle.std.specs.FinMap.{get}
use Rattle.batch.specs.declared.operation.Operation.{Operation}
use Rattle.coding.specs.declared.error.DbError.{DbError}
use Rattle.ikey.specs.Orders.{Order}
use Rattle.ikey.specs.Views.{IsView}
use Rattle.machine.specs.Causes.{cause_of, status_of}
use Rattle.machine.specs.Lifetime.{OpenAnswered}
use Rattle.machine.specs.Machine.{Machine, after_batches}
use Rattle.machine.specs.Step.{Step}
use Rattle.machine.specs.declared.command.Answer.{Answer}
use Rattle.machine.specs.declared.command.Answer.TheVariants.{Done, Refused}
use Rattle.machine.specs.declared.command.Mode.{Mode}
use Rattle.machine.specs.declared.command.Op.{Op}
use Rattle.machine.specs.declared.command.Op.TheVariants.{Open, Write, Close}
use Rattle.opening.proofs.Losing.{none_of}
use Rattle.opening.proofs.Spared.{ReadsLeft, reads_left}
use Rattle.store.specs.Files.{Facts, Files, lock_name}
use Rattle.store.specs.Losses.{Lost, SyncsBeginnings, behind_sync}
use Rattle.store.specs.Stops.{moment}
use Rattle.store.proofs.LosingOn.{loses_same, lost_here}
use Rattle.engine.proofs.Flags.{open_refused_kept, same_kept, step_flag, step_keeps}
use Rattle.engine.proofs.HoldingOn.{agree_same, holds_agreeing}
use Rattle.engine.proofs.IdleSteps.{IsIdle, caused_still, closed_idle, closes_or_caused, idle_still, opened_serves, opens_answered, opens_or_caused, serves_unidle}
use Rattle.engine.proofs.LostRemovals.{left_kept}
use Rattle.engine.proofs.RunLosses.{Between, GoesOn, accepted_goes, begin_anew, certain_doubted, idle_goes, idle_or_serves, refused_goes, serving_goes}
use Rattle.engine.proofs.Steps.{broken_of, serving_of}
use Rattle.engine.proofs.Stopping.{faithful_before}
use Rattle.engine.specs.Applied.{AllApplied, Applied}
use Rattle.engine.specs.Causes.{IsCaused, status_in}
use Rattle.engine.specs.Headline.{IsFirst}
use Rattle.engine.specs.LosesRun.{IsOnDevice, LosesEach, SessionLosesRun, sparing, with_doubted}
use Rattle.engine.specs.Losses.{HoldsFirst, LosesBy, LosesFirst, LosesOver, OpensOver, SparesFound, with_written}
use Rattle.engine.specs.OpenDb.{OpenDb}
use Rattle.engine.specs.Outcomes.{KeepsBy, keeps_of}
use Rattle.engine.specs.Opened.{OpenedTidy}
use Rattle.engine.specs.Reopening.{FoundOver, FreshOver, KeptOver, LeavesFirst}
use Rattle.engine.specs.Stands.{Stands, StandsOver, ids_of, open_in, seen_in, store_of}
use Rattle.engine.specs.Touching.{CloseTouches, OpenTouches}
use Rattle.engine.specs.declared.session.Session.{Session}
use Rattle.engine.specs.internal.Standing.{StandsClosed, StandsOpen}

-- ---- a command

module _ {S K : Type 0} {g : _} (order : Order) (facts : S → Facts) (old new : Session S K g) (faithful : IsTrue (facts (store_of new)).faithful) (m n : Machine) (undamaged : m.damaged ≡ false) (s : Stands order facts old m) where
  abbrev before : Facts
  before = facts (store_of old)

  abbrev after : Facts
  after = facts (store_of new)

  -- what is lost in the middle of one on an open database that isn't broken
  loses_over : (op : Op) → LosesBy op order facts old new → (db : OpenDb K g) → open_in old ≡ Some db → db.broken ≡ false → LosesFirst order before after db (with_written m op)
  loses_over (Open mode) h db is whole = subst (λ (o : Option (OpenDb K g)). OpensOver order before after o m) is (h faithful m undamaged s) whole
  loses_over (Write operations sync) h db is whole = subst (λ (o : Option (OpenDb K g)). LosesOver order before after o (with_written m (Write operations sync))) is (h faithful m undamaged s) whole
  loses_over _ h db is whole = subst (λ (o : Option (OpenDb K g)). LosesOver order before after o m) is (h faithful m undamaged s) whole

  -- ---- one that serves

  serves : (op : Op) (a : Answer) (spares : Files → Type 0) → Applied order facts op old new a → Step order m op a n → Stands order facts new n
      → (db : OpenDb K g) → open_in old ≡ Some db → db.broken ≡ false → (b : Between order before (open_in old) m spares) → db.directory.manifest.number ≡ b.bound → GoesOn order before after (open_in new) m n op a spares
  serves op a spares h step later db is whole b number =
      let stands = subst (λ (o : Option (OpenDb K g)). StandsOver order (seen_in facts old) (ids_of old) o m) is s in
      let stops = h.stops faithful m undamaged s in
      let keeps = subst (λ (o : Option (OpenDb K g)). FoundOver before after o) is (h.found faithful m undamaged s) whole in
      serving_goes order (seen_in facts old) (seen_in facts new) (ids_of old) (ids_of new) db (open_in new) m n op a spares stands undamaged whole step later (step_flag order m n op a step ∙ undamaged)
      stops.more stops.calls (loses_over op h.loses db is whole) keeps b.lock b.since b.bound b.found b.spared number

  -- ---- one that is refused for its state

  same_store : (op : Op) (a : Answer) → Applied order facts op old new a → (o : Option (OpenDb K g)) → open_in old ≡ o → IsSome (cause_of op (status_in (ids_of old) o)) → store_of new ≡ store_of old
  same_store op a h o is some = at (cause_of op (status_in (ids_of old) o)) some (subst (λ (x : Option (OpenDb K g)). IsCaused (cause_of op (status_in (ids_of old) x)) (store_of old) (store_of new) a) is h.caused)
    where
      at : (cause : Option DbError) → IsSome cause → IsCaused cause (store_of old) (store_of new) a → store_of new ≡ store_of old
      at None some caused = absurd (cc)
      at (Some e) some caused = caused.1

  refused : (op : Op) (a : Answer) (spares : Files → Type 0) → Applied order facts op old new a → Step order m op a n → Between order before (open_in old) m spares → IsIdle m
      → (o : Option (OpenDb K g)) → open_in old ≡ o → IsSome (cause_of op (status_in (ids_of old) o)) → IsSome (cause_of op (status_of m)) → GoesOn order before after (open_in new) m n op a spares
  refused op a spares h step b idle o is some caused =
      let same = same_store op a h o is some in
      let machine = caused_still order m n op a caused step in
      idle_goes order before after (open_in old) (open_in new) m n op a spares b (ap (λ (x : S). (facts x).calls) same) (ap (λ (x : S). (facts x).files) same) (ap (λ (x : S). (facts x).synced) same) (same_kept m n machine) (idle_still m n machine idle)

  -- ---- an open

  opens : (mode : Mode) (a : Answer) (spares : Files → Type 0) → SyncsBeginnings after → Applied order facts (Open mode) old new a → OpenAnswered m mode a n → Stands order facts new n → n.damaged ≡ false → Between order before (open_in old) m spares → open_in old ≡ None → m.broken ≡ false
      → OpenTouches {K = K} {g = g} None before after a → GoesOn order before after (open_in new) m n (Open mode) a spares
  opens mode Done spares sound h step later still b none whole touches =
      let serves = opened_serves m n step.1 in
      let stops = h.stops faithful m undamaged s in
      let loses = h.loses_on faithful b.lock m undamaged s in
      elim (idle_or_serves order (seen_in facts new) (ids_of new) (open_in new) n later) [
        | inl idle ↦ serves_unidle n serves.0 (serves.1 ∙ whole) idle
        | inr some ↦
            let kept = subst (λ (o : Option (OpenDb K g)). KeptOver after o Done) some.1 h.kept faithful in
            let fresh = subst (λ (o : Option (OpenDb K g)). FreshOver o Done) some.1 h.fresh.fresh in
            let tidy = subst (λ (o : Option (OpenDb K g)). OpenedTidy (seen_in facts old) (seen_in facts new) o Done) some.1 h.works faithful in
            let stands = subst (λ (o : Option (OpenDb K g)). StandsOver order (seen_in facts new) (ids_of new) o n) some.1 later in
            subst (λ (o : Option (OpenDb K g)). GoesOn order before after o m n (Open mode) Done spares) (sym some.1)
            (accepted_goes order before (seen_in facts new) (ids_of new) (open_in old) some.0 m n mode spares b stops.more stops.calls loses sound kept fresh (touches.lock_file.there faithful) h.outcome.counted.failures tidy still stands some.2)
      ]
  opens mode (Refused e) spares sound h step later still b none whole touches =
      let stops = h.stops faithful m undamaged s in
      let loses = h.loses_on faithful b.lock m undamaged s in
      let lock = subst (λ (file : Option (List ℕ)). IsSome file) (sym (touches.lock_file.stays faithful b.lock).0) b.lock in
      let shut : open_in new ≡ None = subst (λ (o : Option (OpenDb K g)). KeepsBy (keeps_of (Open mode)) before after o (open_in new)) none (h.outcome.refused e refl).1 in
      let closed = subst (λ (o : Option (OpenDb K g)). StandsOver order (seen_in facts new) (ids_of new) o n) shut later in
      refused_goes order before after (open_in old) (open_in new) m n mode (Refused e) spares b stops.more stops.calls loses lock (open_refused_kept m n mode e step) (inl closed.opened)
  opens mode _ spares sound h step later still b none whole touches = absurd step

  -- ---- all

  -- where none is open
  none_goes : (op : Op) (a : Answer) (spares : Files → Type 0) → SyncsBeginnings after → Applied order facts op old new a → Step order m op a n → Stands order facts new n → Between order before (open_in old) m spares → open_in old ≡ None
      → GoesOn order before after (open_in new) m n op a spares
  none_goes op a spares sound h step later b none =
      let closed : StandsClosed order before (ids_of old) m = subst (λ (o : Option (OpenDb K g)). StandsOver order (seen_in facts old) (ids_of old) o m) none s in
      elim (opens_or_caused op) [
        | inl is ↦
            let G : Op → Type 0 = λ op. Applied order facts op old new a → Step order m op a n → GoesOn order before after (open_in new) m n op a spares in
            let opening : G (Open is.0) = λ h step.
            opens is.0 a spares sound h (opens_answered m n is.0 a closed.opened step) later (step_flag order m n (Open is.0) a step ∙ undamaged) b none closed.broken (subst (λ (o : Option (OpenDb K g)). OpenTouches o before after a) none h.touches) in
            subst G (sym is.1) opening h step
        | inr caused ↦ refused op a spares h step b (inl closed.opened) None none (caused (status_in {K = K} {g = g} (ids_of old) None) refl) (caused (status_of m) closed.opened)
      ]

  -- where one is that is broken
  broken_goes : (op : Op) (a : Answer) (spares : Files → Type 0) → Applied order facts op old new a → Step order m op a n → Between order before (open_in old) m spares → (db : OpenDb K g) → open_in old ≡ Some db → db.broken ≡ true
      → GoesOn order before after (open_in new) m n op a spares
  broken_goes op a spares h step b db is broken =
      let stands : StandsOpen order (seen_in facts old) (ids_of old) db m = subst (λ (o : Option (OpenDb K g)). StandsOver order (seen_in facts old) (ids_of old) o m) is s in
      let idle = broken_of order (seen_in facts old) (ids_of old) db m broken stands in
      elim (closes_or_caused op) [
        | inl closes ↦
            let G : Op → Type 0 = λ op. Applied order facts op old new a → Step order m op a n → GoesOn order before after (open_in new) m n op a spares in
            let closing : G Close = λ h step.
            let touches = subst (λ (o : Option (OpenDb K g)). CloseTouches o before after) is h.touches in
            idle_goes order before after (open_in old) (open_in new) m n Close a spares b (touches.calls faithful) (touches.files faithful) (touches.synced faithful) (step_keeps order m n Close a step) (inl (closed_idle m n a step)) in
            subst G (sym closes) closing h step
        | inr caused ↦ refused op a spares h step b (inr idle.broken) (Some db) is (caused (status_in (ids_of old) (Some db)) refl broken) (caused (status_of m) stands.opened idle.broken)
      ]

  -- Any command.
  pub command_goes : (op : Op) (a : Answer) (spares : Files → Type 0) → SyncsBeginnings after → Applied order facts op old new a → Step order m op a n → Stands order facts new n → Between order before (open_in old) m spares → GoesOn order before after (open_in new) m n op a spares
  command_goes op a spares sound h step later b = elim b.state [
    | inl idle ↦ at (open_in old) refl
    | inr state ↦ serves op a spares h step later state.0 state.1 state.2 b state.3
  ]
    where
      at : (o : Option (OpenDb K g)) → open_in old ≡ o → GoesOn order before after (open_in new) m n op a spares
      at None none = none_goes op a spares sound h step later b none
      at (Some db) is = with_broken db.broken refl
        where
          with_broken : (broken : Bool) → db.broken ≡ broken → GoesOn order before after (open_in new) m n op a spares
          with_broken true broken = broken_goes op a spares h step b db is broken
          with_broken false whole =
              let stands : StandsOpen order (seen_in facts old) (ids_of old) db m = subst (λ (o : Option (OpenDb K g)). StandsOver order (seen_in facts old) (ids_of old) o m) is s in
              let serving = serving_of order (seen_in facts old) (ids_of old) db m whole stands in
              elim b.state [ inl idle ↦ serves_unidle m stands.opened serving.whole idle | inr state ↦ serves op a spares h step later state.0 state.1 state.2 b state.3 ]

-- ---- a run

-- what is synced is a beginning before each command
sound_before : {S K : Type 0} {g : _} (order : Order) (facts : S → Facts) (ops : List Op) (answers : List Answer) (old new : Session S K g) → AllApplied order facts ops answers old new → SyncsBeginnings (facts (store_of new)) → SyncsBeginnings (facts (store_of old))
sound_before {S} {K} {g} order facts [] [] old new same sound = subst (λ (session : Session S K g). SyncsBeginnings (facts (store_of session))) same sound
sound_before order facts (op ∷ ops) (answer ∷ answers) old new h sound = h.1.sound
sound_before order facts [] (answer ∷ answers) old new h sound = absurd h
sound_before order facts (op ∷ ops) [] old new h sound = absurd h

-- at last nothing is changed
pub loses_each : {S K : Type 0} {g : _} (order : Order) (facts : S → Facts) (ops : List Op) (answers : List Answer) (old new : Session S K g) (last : Facts) → AllApplied order facts ops answers old new
    → IsTrue (facts (store_of new)).faithful → SyncsBeginnings (facts (store_of new)) → last.calls ≡ (facts (store_of new)).calls → last.files ≡ (facts (store_of new)).files → last.synced ≡ (facts (store_of new)).synced
    → (facts (store_of new)).failures ≤ last.failures → (m : Machine) → m.damaged ≡ false → Stands order facts old m → (spares : Files → Type 0) → Between order (facts (store_of old)) (open_in old) m spares → LosesEach order spares m (facts (store_of old)) last ops answers
loses_each {S} {K} {g} order facts [] [] old new last same f sound calls files synced failures m undamaged s spares b =
    let still : last.calls ≡ (facts (store_of old)).calls = calls ∙ ap (λ (x : Session S K g). (facts (store_of x)).calls) same in
    record {
      more = [];
      calls = still ∙ sym (append-nil (facts (store_of old)).calls);
      failures = subst (λ (x : Session S K g). (facts (store_of x)).failures ≤ last.failures) same failures;
      each = λ lost h left. loses_same (facts (store_of old)) last (LeavesFirst order b.since b.bound (with_doubted m)) still (files ∙ ap (λ (x : Session S K g). (facts (store_of x)).files) same)
          (synced ∙ ap (λ (x : Session S K g). (facts (store_of x)).synced) same) b.here lost h (b.spared lost left);
    }
loses_each order facts (op ∷ ops) (answer ∷ answers) old new last h f sound calls files synced failures m undamaged s spares b =
    let mid = h.0 in
    let between = faithful_before order facts ops answers mid new h.2 f in
    let one = h.1.step.moved between m s in
    let stops = h.1.stops between m undamaged s in
    let goes = command_goes order facts old mid between m one.0 undamaged s op answer spares (sound_before order facts ops answers mid new h.2 sound) h.1 one.1 one.2 b in (
      facts (store_of mid),
      record { more = stops.more; calls = stops.calls; failures = h.1.outcome.counted.failures; each = goes.0 },
      (
        one.0,
        one.1,
        loses_each order facts ops answers mid new last h.2 f sound calls files synced failures one.0 (step_flag order m one.0 op answer one.1 ∙ undamaged) one.2 (sparing order op answer (facts (store_of old)) (facts (store_of mid)) spares) goes.1,
      ),
    )
loses_each order facts [] (answer ∷ answers) old new last h f sound calls files synced failures m undamaged s spares b = absurd h
loses_each order facts (op ∷ ops) [] old new last h f sound calls files synced failures m undamaged s spares b = absurd h

-- From an open database that isn't broken.
pub session_loses : {S K : Type 0} {g : _} (order : Order) (facts : S → Facts) (ops : List Op) (answers : List Answer) (old new : Session S K g) → AllApplied order facts ops answers old new → SyncsBeginnings (facts (store_of new)) → SessionLosesRun order facts ops answers old new
session_loses {S} {K} {g} order facts ops answers old new all sound f lock db is whole m undamaged s =
    let now = facts (store_of old) in
    let stands = subst (λ (o : Option (OpenDb K g)). StandsOver order (seen_in facts old) (ids_of old) o m) is s in
    loses_each order facts ops answers old new (facts (store_of new)) all f sound refl refl refl (omega arith) m undamaged s (SparesFound now db)
    (subst (λ (o : Option (OpenDb K g)). Between order now o m (SparesFound now db)) (sym is) (begin_anew order (seen_in facts old) (ids_of old) db m (SparesFound now db) undamaged stands whole lock (λ lost spares. spares)))

-- ---- files that are durable

-- each loss until the next call leaves each file
device_lost : (facts : Facts) → IsOnDevice facts → (lost : Files) → Lost facts (moment facts) lost → (q : List ℕ) → get lost q ≡ get facts.files q
device_lost facts device lost h q = at (get facts.files q) refl
  where
    left : ReadsLeft facts lost q
    left = reads_left facts lost q (behind_sync [] facts.calls) (device.names q) (lost_here facts lost h)

    at : (o : Option (List ℕ)) → get facts.files q ≡ o → get lost q ≡ get facts.files q
    at None none = none_of (get lost q) (left.name ∙ ap is_some none) ∙ sym none
    at (Some bytes) there = left_kept facts lost q bytes left there (device.files q bytes there) ∙ sym there

-- they hold all that the first machine has accepted, which is nothing
first_holds : (order : Order) (facts : Facts) (m : Machine) → IsFirst order facts m → HoldsFirst order facts.files m
first_holds order facts m is =
    let none : m.batches ≡ take 0 m.batches = is.accepted.0 ∙ sym (ap (λ (bs : List (List Operation)). take 0 bs) is.accepted.0) in
    record {
      count = 0;
      within = omega arith;
      enough = (let synced : m.synced ≡ 0 = is.accepted.2 in omega (arith, synced));
      used = m.used;
      holds = record {
        entries = is.holds.entries;
        directory = is.holds.directory;
        view = subst (λ (bs : List (List Operation)). IsView is.holds.entries m.used (after_batches m.base bs)) none is.holds.view;
      };
    }

pub closed_begin : {K : Type 0} {g : _} (order : Order) (facts : Facts) (m : Machine) → IsOnDevice facts → IsFirst order facts m → IsSome (get facts.files lock_name) → Between {K = K} {g = g} order facts None m (λ (lost : Files). Unit {0})
closed_begin order facts m device is lock = record {
  since = facts;
  bound = 0;
  found = record { from = inl refl; each = λ n num below. absurd (omega (arith, below)) };
  lock = lock;
  here = λ lost h left.
      let same = device_lost facts device lost h in
      subst (λ (x : Machine). HoldsFirst order lost x) (sym (certain_doubted m is.accepted.1)) (holds_agreeing order m facts.files lost (first_holds order facts m is) (λ d good. agree_same facts.files lost d same) (λ none. record {
        current = same _ ∙ none.current;
        no_log = λ n num. same _ ∙ none.no_log n num;
        no_table = λ n num. same _ ∙ none.no_table n num;
        no_old_table = λ n num. same _ ∙ none.no_old_table n num;
      }));
  spared = λ lost left n num below. absurd (omega (arith, below));
  state = inl (inl is.closed.0);
}
