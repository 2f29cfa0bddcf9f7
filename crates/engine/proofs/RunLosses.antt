-- What a power loss leaves at any moment of a run: of what is so between two commands, and of the
-- next command, what is so after that.
use Rattle.std.proofs.Common.{◌≡◌, ◌⊎◌, ◌<◌, ◌≤◌, ◌++◌, ◌∷◌, ℕ, Bool, true, false, List, [], Option, Some, None, IsSome, MatchBool, inl, inr, refl, sym, ap, subst, ◌∙◌, append-nil, arith}
use Rattle.std.proofs.lemmas.Bool.{cases_lt}
use Rattle.std.specs.FinMap.{get}
use Rattle.std.specs.Option.{option_map_or}
use Rattle.batch.specs.declared.operation.Operation.{Operation}
use Rattle.edits.specs.Names.{name_of, IsNumbered}
use Rattle.edits.specs.declared.names.FileName.TheVariants.{Log, OldTable, Table}
use Rattle.ikey.specs.Orders.{Order}
use Rattle.machine.specs.Access.{accepted, doubted}
use Rattle.machine.specs.Machine.{Machine}
use Rattle.machine.specs.Serving.{◌≈◌}
use Rattle.machine.specs.Step.{Step}
use Rattle.machine.specs.declared.command.Answer.{Answer}
use Rattle.machine.specs.declared.command.Answer.TheVariants.{Done}
use Rattle.machine.specs.declared.command.Mode.{Mode}
use Rattle.machine.specs.declared.command.Op.{Op}
use Rattle.machine.specs.declared.command.Op.TheVariants.{Open, Write}
use Rattle.opening.specs.Losses.{IsKept}
use Rattle.recover.proofs.OneMeaning.{same_current}
use Rattle.recover.specs.Logs.{IsLive}
use Rattle.store.specs.Files.{Call, Facts, Files, lock_name}
use Rattle.store.specs.Losses.{LosesOnly, SyncsBeginnings}
use Rattle.store.proofs.LosingOn.{loses_later, loses_same}
use Rattle.table_access.specs.Tables.{Seen}
use Rattle.engine.proofs.Flags.{Kept, KeepsBy, kept_of, step_keeps}
use Rattle.engine.proofs.IdleSteps.{IsIdle, reopened_still, unidle, written_doubt}
use Rattle.engine.proofs.KeptTables.{spared_open}
use Rattle.engine.proofs.Losing.{names_open, read_live}
use Rattle.engine.proofs.LosingFirst.{first_accepted, first_as, left_on}
use Rattle.engine.proofs.LosingPieces.{first_serving, serving_whole}
use Rattle.engine.proofs.ReopeningSteps.{stays_still, stays_through}
use Rattle.engine.proofs.TidyOpens.{tidy_unread}
use Rattle.engine.specs.Losses.{HoldsFirst, LosesFirst, SparesBelow, SparesFound, with_written}
use Rattle.engine.specs.LosesRun.{SparesUnread, sparing, with_doubted}
use Rattle.engine.specs.OpenDb.{OpenDb}
use Rattle.engine.specs.Reopening.{HasKeptLogs, IsFresh, KeepsFound, LeavesFirst, LosesOn, StayBelow, StaysFound, StaysOrGoes}
use Rattle.engine.specs.Stands.{StandsOver}
use Rattle.engine.specs.Working.{HasLiveOnly}
use Rattle.engine.specs.declared.ids.Ids.{Ids}
use Rattle.engine.specs.internal.Standing.{IsBroken, IsServing, StandsOpen}

-- ---- the in-doubt batch

-- what is left of one more batch, of any machine that has accepted the same
accepted_as : (order : Order) (lost : Files) (m n : Machine) (operations : List Operation) → n.base ≡ m.base → n.batches ≡ m.batches → m.synced ≤ n.synced → HoldsFirst order lost (accepted n operations false) → HoldsFirst order lost (accepted m operations false)
accepted_as order lost m n [] base batches synced h = first_as order lost m n base batches synced h
accepted_as order lost m n (operation ∷ operations) base batches synced h =
    first_as order lost (accepted m (operation ∷ operations) false) (accepted n (operation ∷ operations) false) base (ap (λ (bs : List (List Operation)). bs ++ (operation ∷ operations) ∷ []) batches) synced h

-- the machine with this in-doubt batch
abbrev doubting : Machine → Option (List Operation) → Machine
doubting m o = option_map_or (λ (operations : List Operation). accepted m operations false) o m

pub certain_doubted : (m : Machine) → m.in_doubt ≡ None → with_doubted m ≡ m
certain_doubted m certain = ap (λ (o : Option (List Operation)). doubting m o) certain

-- what accepted and doubts the same leaves the same
doubted_as : (order : Order) (lost : Files) (m n : Machine) → kept_of n ≡ kept_of m → HoldsFirst order lost (with_doubted m) → HoldsFirst order lost (with_doubted n)
doubted_as order lost m n kept h = subst (λ (o : Option (List Operation)). HoldsFirst order lost (doubting n o)) (sym (ap (λ (k : Kept). k.in_doubt) kept)) (at m.in_doubt h)
  where
    base : m.base ≡ n.base
    base = sym (ap (λ (k : Kept). k.base) kept)

    batches : m.batches ≡ n.batches
    batches = sym (ap (λ (k : Kept). k.batches) kept)

    synced : n.synced ≤ m.synced
    synced = (let same : n.synced ≡ m.synced = ap (λ (k : Kept). k.synced) kept in omega (arith, same))

    at : (o : Option (List Operation)) → HoldsFirst order lost (doubting m o) → HoldsFirst order lost (doubting n o)
    at None h = first_as order lost n m base batches synced h
    at (Some operations) h = accepted_as order lost n m operations base batches synced h

-- a batch that is written may be the last of them
written_first : (order : Order) (lost : Files) (m : Machine) (op : Op) → HoldsFirst order lost m → HoldsFirst order lost (with_written m op)
written_first order lost m (Write operations sync) h = first_accepted order lost m operations.items h
written_first order lost m _ h = h

-- where a write has left the database idle, its batch is in doubt
doubt_first : (order : Order) (lost : Files) (m n : Machine) (operations : List Operation) → n ≈ doubted m operations → HoldsFirst order lost (accepted m operations false) → HoldsFirst order lost (with_doubted n)
doubt_first order lost m n operations is h =
    let base : n.base ≡ m.base = ap (λ (x : Machine). x.base) is in
    let batches : n.batches ≡ m.batches = ap (λ (x : Machine). x.batches) is in
    let synced : n.synced ≡ m.synced = ap (λ (x : Machine). x.synced) is in
    let doubt : n.in_doubt ≡ Some operations = ap (λ (x : Machine). x.in_doubt) is in
    subst (λ (o : Option (List Operation)). HoldsFirst order lost (doubting n o)) (sym doubt) (accepted_as order lost n m operations (sym base) (sym batches) (omega (arith, synced)) h)

-- What is left in the middle of a command that has left the database idle is left after it.
ended_first : (order : Order) (m n : Machine) (op : Op) (a : Answer) → m.opened ≡ true → m.broken ≡ false → m.in_doubt ≡ None → Step order m op a n → IsIdle n → (lost : Files) → HoldsFirst order lost (with_written m op) → HoldsFirst order lost (with_doubted n)
ended_first order m n op a opens whole certain step idle lost = at op step (step_keeps order m n op a step)
  where
    same : kept_of n ≡ kept_of m → HoldsFirst order lost m → HoldsFirst order lost (with_doubted n)
    same kept h = doubted_as order lost m n kept (subst (λ (x : Machine). HoldsFirst order lost x) (sym (certain_doubted m certain)) h)

    at : (op : Op) → Step order m op a n → KeepsBy op m n → HoldsFirst order lost (with_written m op) → HoldsFirst order lost (with_doubted n)
    at (Open mode) step kept h = unidle m n (reopened_still m n mode a opens step) opens whole idle
    at (Write operations sync) step kept h = doubt_first order lost m n operations.items (written_doubt m n operations.items sync a opens whole step idle) h
    at _ step kept h = same kept h

-- ---- between two commands

-- the database is open and isn't broken, and its MANIFEST has this number
abbrev pub ServesFrom : {K : Type 0} {g : _} → Option (OpenDb K g) → ℕ → Type 0
ServesFrom {K} {g} o bound = (db : OpenDb K g) × (o ≡ Some db) × (db.broken ≡ false) × (db.directory.manifest.number ≡ bound)

-- Each loss until the next call leaves a prefix of the batches, if it spares what is to be spared:
-- all below a number that was there at some moment. The number is that of the MANIFEST of one that
-- serves.
pub record Between {K : Type 0} {g : _} (order : Order) (now : Facts) (o : Option (OpenDb K g)) (m : Machine) (spares : Files → Type 0) : Type 0 where
  pub since : Facts
  pub bound : ℕ
  pub found : StaysFound since now bound
  pub lock : IsSome (get now.files lock_name)
  pub here : LosesOnly now now (LeavesFirst order since bound (with_doubted m))
  pub spared : (lost : Files) → spares lost → SparesBelow since bound lost
  pub state : IsIdle m ⊎ ServesFrom o bound

-- what was spared since then was so before
spares_now : (since now : Facts) (bound : ℕ) (lost : Files) → StayBelow since now bound → SparesBelow since bound lost → SparesBelow now bound lost
spares_now since now bound lost stays spares n num below =
    let stay = stays n num below in
    let was = spares n num below in
    (left_on since now lost (name_of (Table n)) stay.0 was.0, left_on since now lost (name_of (OldTable n)) stay.1 was.1, left_on since now lost (name_of (Log n)) stay.2 was.2)

-- it is idle, or serves
pub idle_or_serves : {K : Type 0} {g : _} (order : Order) (source : Seen) (ids : Ids) (o : Option (OpenDb K g)) (m : Machine) → StandsOver order source ids o m → IsIdle m ⊎ ((db : OpenDb K g) × (o ≡ Some db) × (db.broken ≡ false))
idle_or_serves order source ids None m s = inl (inl s.opened)
idle_or_serves {K} {g} order source ids (Some db) m s = at db.broken refl s.rest
  where
    at : (b : Bool) → db.broken ≡ b → MatchBool b (IsBroken order source.facts.files m) (IsServing order source db m) → IsIdle m ⊎ ((other : OpenDb K g) × (Some db ≡ Some other) × (other.broken ≡ false))
    at true is rest = inl (inr rest.broken)
    at false is rest = inr (db, refl, is)

-- each loss until the next call, of one that serves
serving_here : {K : Type 0} {g : _} (order : Order) (source : Seen) (ids : Ids) (db : OpenDb K g) (m : Machine) → m.damaged ≡ false → StandsOpen order source ids db m → db.broken ≡ false
    → LosesOnly source.facts source.facts (LeavesFirst order source.facts db.directory.manifest.number (with_doubted m))
serving_here order source ids db m undamaged s whole =
    let serving = serving_whole order source ids db m (record { stands = s; undamaged = undamaged }) whole in
    subst (λ (x : Machine). LosesOnly source.facts source.facts (LeavesFirst order source.facts db.directory.manifest.number x)) (sym (certain_doubted m serving.certain)) (first_serving order source db m serving refl)

-- with the same bound as before
serving_within : {K : Type 0} {g : _} (order : Order) (source : Seen) (ids : Ids) (db : OpenDb K g) (m : Machine) (since : Facts) (bound : ℕ) → m.damaged ≡ false → StandsOpen order source ids db m → db.broken ≡ false → db.directory.manifest.number ≡ bound
    → StayBelow since source.facts bound → LosesOnly source.facts source.facts (LeavesFirst order since bound (with_doubted m))
serving_within order source ids db m since bound undamaged s whole is stays lost h spares =
    serving_here order source ids db m undamaged s whole lost h (subst (λ (n : ℕ). SparesBelow source.facts n lost) (sym is) (spares_now since source.facts bound lost stays spares))

-- After an open that succeeded, and at the begin.
pub begin_anew : {K : Type 0} {g : _} (order : Order) (source : Seen) (ids : Ids) (db : OpenDb K g) (m : Machine) (spares : Files → Type 0) → m.damaged ≡ false → StandsOpen order source ids db m → db.broken ≡ false → IsSome (get source.facts.files lock_name)
    → ((lost : Files) → spares lost → SparesFound source.facts db lost) → Between order source.facts (Some db) m spares
begin_anew order source ids db m spares undamaged s whole lock spared =
    let same : (q : List ℕ) → StaysOrGoes source.facts source.facts q = λ q. inr (refl, λ kept. kept) in
    record {
      since = source.facts;
      bound = db.directory.manifest.number;
      found = record {
        from = inr (db.directory.manifest.number, names_open order source ids db m undamaged s whole, omega arith);
        each = λ n num below. (same (name_of (Table n)), same (name_of (OldTable n)), same (name_of (Log n)));
      };
      lock = lock;
      here = serving_here order source ids db m undamaged s whole;
      spared = spared;
      state = inr (db, refl, whole, refl);
    }

-- with more to spare
more_spared : {K : Type 0} {g : _} (order : Order) (now : Facts) (o : Option (OpenDb K g)) (m : Machine) (spares more : Files → Type 0) → ((lost : Files) → more lost → spares lost) → Between order now o m spares → Between order now o m more
more_spared order now o m spares more less b = record { since = b.since; bound = b.bound; found = b.found; lock = b.lock; here = b.here; spared = λ lost h. b.spared lost (less lost h); state = b.state }

-- each command has as much to spare after it, and an open more
pub spared_less : (order : Order) (op : Op) (a : Answer) (old new : Facts) (spares : Files → Type 0) (lost : Files) → sparing order op a old new spares lost → spares lost
spared_less order (Open mode) Done old new spares lost h = h.0
spared_less order (Open mode) _ old new spares lost h = h
spared_less order _ a old new spares lost h = h

-- What is so at each moment of a command, and after it.
abbrev pub GoesOn : {K : Type 0} {g : _} → Order → Facts → Facts → Option (OpenDb K g) → Machine → Machine → Op → Answer → (Files → Type 0) → Type 0
GoesOn order old new o m n op a spares =
    LosesOnly old new (λ lost. spares lost → HoldsFirst order lost (with_written (with_doubted m) op)) × Between order new o n (sparing order op a old new spares)

-- ---- a command on one that serves

module _ {K : Type 0} {g : _} (order : Order) (old new : Seen) (ids given : Ids) (db : OpenDb K g) (after : Option (OpenDb K g)) (m n : Machine) (op : Op) (a : Answer) (spares : Files → Type 0)
    (s : StandsOpen order old ids db m) (undamaged : m.damaged ≡ false) (whole : db.broken ≡ false) (step : Step order m op a n) (later : StandsOver order new given after n) (still : n.damaged ≡ false)
    (more : List Call) (calls : new.facts.calls ≡ old.facts.calls ++ more) (loses : LosesFirst order old.facts new.facts db (with_written m op)) (keeps : KeepsFound old.facts new.facts db) (lock : IsSome (get old.facts.files lock_name))
    (since : Facts) (bound : ℕ) (found : StaysFound since old.facts bound) (spared : (lost : Files) → spares lost → SparesBelow since bound lost) (number : db.directory.manifest.number ≡ bound) where
  serving_before : IsServing order old db m
  serving_before = serving_whole order old ids db m (record { stands = s; undamaged = undamaged }) whole

  -- what is spared was found
  spares_found : (lost : Files) → SparesBelow since bound lost → SparesFound old.facts db lost
  spares_found lost h = subst (λ (k : ℕ). SparesBelow old.facts k lost) (sym number) (spares_now since old.facts bound lost found.each h)

  within : LosesOnly old.facts new.facts (LeavesFirst order since bound (with_written m op))
  within lost h left = loses lost h (spares_found lost left)

  at_each : LosesOnly old.facts new.facts (λ lost. spares lost → HoldsFirst order lost (with_written (with_doubted m) op))
  at_each lost h left = subst (λ (x : Machine). HoldsFirst order lost (with_written x op)) (sym (certain_doubted m serving_before.certain)) (within lost h (spared lost left))

  found_still : StaysFound since new.facts bound
  found_still = stays_through since old.facts new.facts bound keeps.current (subst (λ (k : ℕ). StayBelow old.facts new.facts k) number keeps.each) found

  -- one that serves after it has the same MANIFEST
  same_bound : (other : OpenDb K g) → after ≡ Some other → other.broken ≡ false → StandsOpen order new given other n → other.directory.manifest.number ≡ bound
  same_bound other is serves t =
      let one = names_open order old ids db m undamaged s whole in
      let two = names_open order new given other n still t serves in
      sym (same_current old.facts.files db.directory.manifest.number other.directory.manifest.number one.0 two.0 one.1 (sym keeps.current ∙ two.1)) ∙ number

  behind : IsIdle n ⊎ ((other : OpenDb K g) × (after ≡ Some other) × (other.broken ≡ false)) → LosesOnly new.facts new.facts (LeavesFirst order since bound (with_doubted n)) × (IsIdle n ⊎ ServesFrom after bound)
  behind (inl idle) = (
    λ lost h left. ended_first order m n op a s.opened serving_before.whole serving_before.certain step idle lost (loses_later old.facts new.facts more (LeavesFirst order since bound (with_written m op)) calls within lost h left),
    inl idle,
  )
  behind (inr serves) =
      let t = subst (λ (o : Option (OpenDb K g)). StandsOver order new given o n) serves.1 later in
      let is = same_bound serves.0 serves.1 serves.2 t in
      (serving_within order new given serves.0 n since bound still t serves.2 is found_still.each, inr (serves.0, serves.1, serves.2, is))

  pub serving_goes : GoesOn order old.facts new.facts after m n op a spares
  serving_goes =
      let state = behind (idle_or_serves order new given after n later) in (
        at_each,
        record {
          since = since;
          bound = bound;
          found = found_still;
          lock = subst (λ (file : Option (List ℕ)). IsSome file) (sym keeps.lock) lock;
          here = state.0;
          spared = λ lost h. spared lost (spared_less order op a old.facts new.facts spares lost h);
          state = state.1;
        },
      )

-- ---- a command that changes nothing of one that is idle

pub idle_goes : {K : Type 0} {g : _} (order : Order) (old new : Facts) (before after : Option (OpenDb K g)) (m n : Machine) (op : Op) (a : Answer) (spares : Files → Type 0) → Between order old before m spares
    → new.calls ≡ old.calls → new.files ≡ old.files → new.synced ≡ old.synced → kept_of n ≡ kept_of m → IsIdle n → GoesOn order old new after m n op a spares
idle_goes order old new before after m n op a spares b calls files synced kept idle = (
  λ lost h left. written_first order lost (with_doubted m) op (loses_same old new (LeavesFirst order b.since b.bound (with_doubted m)) calls files synced b.here lost h (b.spared lost left)),
  record {
    since = b.since;
    bound = b.bound;
    found = stays_still b.since old new b.bound files synced b.found;
    lock = subst (λ (fs : Files). IsSome (get fs lock_name)) (sym files) b.lock;
    here = λ lost h left. doubted_as order lost m n kept (at lost h left);
    spared = λ lost h. b.spared lost (spared_less order op a old new spares lost h);
    state = inl idle;
  },
)
  where
    at : LosesOnly new new (LeavesFirst order b.since b.bound (with_doubted m))
    at = loses_later old new [] (LeavesFirst order b.since b.bound (with_doubted m)) (calls ∙ sym (append-nil old.calls)) (loses_same old new (LeavesFirst order b.since b.bound (with_doubted m)) calls files synced b.here)

-- ---- an open where none is open

-- one that was refused
pub refused_goes : {K : Type 0} {g : _} (order : Order) (old new : Facts) (before after : Option (OpenDb K g)) (m n : Machine) (mode : Mode) (a : Answer) (spares : Files → Type 0) → Between order old before m spares → (more : List Call) → new.calls ≡ old.calls ++ more
    → LosesOn order old new → IsSome (get new.files lock_name) → kept_of n ≡ kept_of m → IsIdle n → GoesOn order old new after m n (Open mode) a spares
refused_goes order old new before after m n mode a spares b more calls loses lock kept idle =
    let P = LeavesFirst order b.since b.bound (with_doubted m) in
    let each = loses b.since b.bound (with_doubted m) b.found b.here in (
      λ lost h left. each.0 lost h (b.spared lost left),
      record {
        since = b.since;
        bound = b.bound;
        found = each.1;
        lock = lock;
        here = λ lost h left. doubted_as order lost m n kept (loses_later old new more P calls each.0 lost h left);
        spared = λ lost h. b.spared lost (spared_less order (Open mode) a old new spares lost h);
        state = inl idle;
      },
    )

-- one that succeeded, where a loss has to spare what it couldn't remove
pub accepted_goes : {K : Type 0} {g : _} (order : Order) (old : Facts) (new : Seen) (given : Ids) (before : Option (OpenDb K g)) (db : OpenDb K g) (m n : Machine) (mode : Mode) (spares : Files → Type 0) → Between order old before m spares
    → (more : List Call) → new.facts.calls ≡ old.calls ++ more → LosesOn order old new.facts → SyncsBeginnings new.facts → HasKeptLogs new.facts db.directory → IsFresh db → IsSome (get new.facts.files lock_name)
    → old.failures ≤ new.facts.failures → (new.facts.failures ≡ old.failures → HasLiveOnly new.facts.files db)
    → n.damaged ≡ false → StandsOpen order new given db n → db.broken ≡ false → GoesOn order old new.facts (Some db) m n (Open mode) Done spares
accepted_goes order old new given before db m n mode spares b more calls loses sound kept fresh lock failures tidy undamaged s whole =
    let P = LeavesFirst order b.since b.bound (with_doubted m) in
    let each = loses b.since b.bound (with_doubted m) b.found b.here in
    let serving = serving_whole order new given db n (record { stands = s; undamaged = undamaged }) whole in
    let d = serving.log.directory.directory in
    let number : db.directory.manifest.number ≡ d.manifest = serving.log.knows.number in
    let logs : (k : ℕ) → IsNumbered k → k < d.manifest → IsLive d.layout k → IsKept new.facts (name_of (Log k)) = λ k num below live.
    kept k num (subst (λ (i : ℕ). k < i) (sym number) below) (read_live order new db n serving k live) in
    let unread : (lost : Files) → (old.failures < new.facts.failures → SparesUnread order new.facts lost) → SparesUnread order new.facts lost = λ lost h. elim (cases_lt old.failures new.facts.failures) [
      | inl rose ↦ h rose
      | inr stood ↦ tidy_unread order new db n serving refl fresh (tidy (omega (arith, failures, stood))) lost
    ] in (
      λ lost h left. each.0 lost h (b.spared lost left),
      begin_anew order new given db n (sparing order (Open mode) Done old new.facts spares) undamaged s whole lock (λ lost h.
          subst (λ (i : ℕ). SparesBelow new.facts i lost) (sym number)
          (spared_open order b.since new.facts b.bound (with_doubted m) d sound each.1 (loses_later old new.facts more P calls each.0) serving.log.directory.consistent logs lost (b.spared lost h.0) (unread lost h.1))),
    )
