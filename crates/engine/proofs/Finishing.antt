-- Compactions that are brought to their end: how their steps compose.
use Rattle.std.proofs.Common.{◌≡◌, ◌<◌, ◌≤◌, ◌+◌, ◌^◌, ◌-◌, ℕ, true, false, max, List, Contains, Option, IsTrue, Some, None, IsSome, MatchOption, Result, Ok, Err, MatchResult, OnOk, inl, inr, refl, sym, ap, subst, ◌∙◌, arith}
use Rattle.std.specs.Cmp.{IsTotalOrder}
use Rattle.coding.specs.declared.error.DbError.{DbError}
use Rattle.coding.specs.declared.error.DbError.TheVariants as error
use Rattle.edits.specs.declared.field.PlacedTable.{PlacedTable}
use Rattle.ikey.specs.Orders.{Order}
use Rattle.running_job.specs.Running.{shown}
use Rattle.running_job.specs.declared.open_job.OpenJob.{OpenJob}
use Rattle.memtables.specs.PlaceLaws.{left_onward, left_there}
use Rattle.memtables.specs.Places.{LeavesMemories}
use Rattle.table_access.specs.Tables.{Seen}
use Rattle.store.specs.Calls.{FailsNoWrite}
use Rattle.store.specs.Files.{Facts}
use Rattle.directory_writes.specs.Replacing.{ReplacesInputs}
use Rattle.versions.specs.Levels.{HasNumber}
use Rattle.versions.specs.declared.plan.JobPlan.{JobPlan}
use Rattle.engine.specs.declared.ids.Ids.{Ids}
use Rattle.engine.specs.internal.Compacting.{IsCompacting}
use Rattle.engine.specs.Finishing.{CompactOutcome}
use Rattle.engine.specs.internal.JobsToEnd.{EndsJob, HasCome, ServesOn}
use Rattle.engine.specs.internal.Leading.{LeadsOpen}
use Rattle.engine.specs.OpenDb.{OpenDb, whole_of}
use Rattle.machine.specs.Machine.{Machine, entry_count}
use Rattle.engine.specs.internal.TakingAll.{IsTakingAll}
use Rattle.engine.specs.Outcomes.{DbOutcome, IsSame, KeepsViews, MayRefuseLevel, MayRefuseWork}
use Rattle.engine.specs.Stands.{no_ids}
use Rattle.engine.specs.internal.Standing.{StandsOpen, StandsWhole}
use Rattle.engine.specs.internal.Stopping.{KeepsOpen}
use Rattle.machine.specs.Upkeep.{Draws}
use Rattle.engine.specs.Working.{GoesOn, IsFurther}
use Rattle.engine.specs.internal.Pieces.{IsPiece, MayRefusePiece}
use Rattle.engine.specs.WrittenTables.{HasMerged, KeepsTableFiles, PutsMerged}
use Rattle.engine.proofs.Flags.{piece_flag}
use Rattle.engine.proofs.InUse.{as_used}
use Rattle.engine.proofs.JobCauses.{inputs_listed, job_counted}
use Rattle.engine.proofs.JobEnds.{merged_on}
use Rattle.engine.proofs.Steps.{serving_of}
use Rattle.engine.proofs.StopSteps.{keeps_none, keeps_then}
use Rattle.engine.proofs.WorkAnswers.{then_piece}
use Rattle.engine.proofs.WorkSteps.{piece_done, piece_more, pieces_on, stands_whole}

-- ---- over any store

pub views_same : {K : Type 0} {g : _} (db : OpenDb K g) → KeepsViews db db
views_same db = record { sequence = refl; snapshots = λ id. refl; iterators = λ id. refl }

pub views_on : {K : Type 0} {g : _} (before between after : OpenDb K g) → KeepsViews before between → KeepsViews between after → KeepsViews before after
views_on before between after first next = record {
  sequence = next.sequence ∙ first.sequence;
  snapshots = λ id. next.snapshots id ∙ first.snapshots id;
  iterators = λ id. next.iterators id ∙ first.iterators id;
}

pub serves_then : {K : Type 0} {g : _} (old mid new : Facts) (before between after : OpenDb K g) → ServesOn old mid before between → ServesOn mid new between after → ServesOn old new before after
serves_then old mid new before between after first next = record {
  stood = next.stood ∙ first.stood;
  unwritten = next.unwritten ∙ first.unwritten;
  undenied = next.undenied ∙ first.undenied;
  locked = next.locked ∙ first.locked;
  whole = next.whole;
  views = views_on before between after first.views next.views;
}

pub serves_same : {K : Type 0} {g : _} (facts : Facts) (db : OpenDb K g) → db.broken ≡ false → ServesOn facts facts db db
serves_same facts db whole = record { stood = refl; unwritten = refl; undenied = refl; locked = refl; whole = whole; views = views_same db }

abbrev SameAnswer : {T : Type 0} → Result T DbError → Result T DbError → Type 0
SameAnswer a b = a ≡ b

refusal_in : {T : Type 0} {e x : DbError} → SameAnswer {T = T} (Err e) (Err x) → e ≡ x
refusal_in is = cc

never_refused : {T : Type 0} {done : T} {e : DbError} → SameAnswer {T = T} (Ok done) (Err e) → ⊥
never_refused is = cc

-- a compaction that is done
pub outcome_done : {T K : Type 0} {g : _} (may : DbError → Type 0) (old new : Facts) (before after : OpenDb K g) (done : T) → before.broken ≡ false → ServesOn old new before after → CompactOutcome may old new before after (Ok done)
outcome_done may old new before after done whole h = record {
  failures = (let stood = h.stood in omega (arith, stood));
  denials = h.undenied;
  locked = h.locked;
  io = λ is. absurd (never_refused is);
  memory = λ is. h.stood;
  allowed = tt;
  views = h.views;
  broken = inl (h.whole ∙ sym whole);
}

-- one after steps that were done
pub outcome_then : {T K : Type 0} {g : _} (may : DbError → Type 0) (old mid new : Facts) (before between after : OpenDb K g) (result : Result T DbError) → before.broken ≡ false → ServesOn old mid before between → CompactOutcome may mid new between after result
    → CompactOutcome may old new before after result
outcome_then may old mid new before between after result whole first h = record {
  failures = (let stood = first.stood in let rise = h.failures in omega (arith, stood, rise));
  denials = h.denials ∙ first.undenied;
  locked = h.locked ∙ first.locked;
  io = λ is. (let stood = first.stood in let less = h.io is in omega (arith, stood, less));
  memory = λ is. h.memory is ∙ first.stood;
  allowed = h.allowed;
  views = views_on before between after first.views h.views;
  broken = elim h.broken [ inl still ↦ inl (still ∙ first.whole ∙ sym whole) | inr b ↦ inr (b.0, (let stood = first.stood in let less = b.1 in omega (arith, stood, less))) ];
}

-- what a refused step leaves
pub outcome_of : {T U K : Type 0} {g : _} (old new : Facts) (before after : OpenDb K g) (e : DbError) → new.locked ≡ old.locked → DbOutcome {T = T} MayRefusePiece old new before after (Err e) → CompactOutcome {T = U} MayRefusePiece old new before after (Err e)
outcome_of {T} {U} old new before after e held h = record {
  failures = h.failures;
  denials = h.denials;
  locked = held;
  io = λ is. h.io (as_other is);
  memory = λ is. h.memory (as_other is);
  allowed = h.allowed;
  views = (let same = h.refused.0 in record { sequence = same.sequence; snapshots = same.snapshots; iterators = same.iterators });
  broken = h.refused.1;
}
  where
    as_other : {x : DbError} → SameAnswer {T = U} (Err e) (Err x) → SameAnswer {T = T} (Err e) (Err x)
    as_other is = (let inner = refusal_in is in ap (λ (r : DbError). Err r) inner)

-- a refusal that takes nothing but memory
pub outcome_full : {T K : Type 0} {g : _} (facts : Facts) (db : OpenDb K g) → CompactOutcome {T = T} MayRefusePiece facts facts db db (Err error.OutOfMemory)
outcome_full facts db = record {
  failures = omega arith;
  denials = refl;
  locked = refl;
  io = λ is. absurd (let bad : error.OutOfMemory ≡ error.Io = refusal_in is in cc);
  memory = λ is. refl;
  allowed = tt;
  views = views_same db;
  broken = inl refl;
}

-- by what a step says of both its ways
pub outcome_by : {T K : Type 0} {g : _} (old new : Facts) (before after : OpenDb K g) (result : Result T DbError) → before.broken ≡ false → new.locked ≡ old.locked → DbOutcome MayRefusePiece old new before after result → OnOk result (ServesOn old new before after)
    → CompactOutcome MayRefusePiece old new before after result
outcome_by old new before after (Ok done) whole held h serves = outcome_done MayRefusePiece old new before after done whole serves
outcome_by old new before after (Err e) whole held h serves = outcome_of old new before after e held h

-- what the first step of a compaction leaves
pub serves_begun : {K : Type 0} {g : _} (old new : Facts) (before after : OpenDb K g) → new.failures ≡ old.failures → FailsNoWrite old new → new.denials ≡ old.denials → new.locked ≡ old.locked → after.broken ≡ false → IsSame before after → ServesOn old new before after
serves_begun old new before after stood none undenied held whole same = record {
  stood = stood;
  unwritten = none;
  undenied = undenied;
  locked = held;
  whole = whole;
  views = record { sequence = same.sequence; snapshots = same.snapshots; iterators = same.iterators };
}

-- a refusal that shows in the state
pub outcome_stays : {K : Type 0} {g : _} (may_be : DbError → Type 0) (facts : Facts) (db : OpenDb K g) (e : DbError) → (e ≡ error.Io → ⊥) → may_be e → CompactOutcome {T = Unit {0}} may_be facts facts db db (Err e)
outcome_stays may_be facts db e other may = record {
  failures = omega arith;
  denials = refl;
  locked = refl;
  io = λ is. absurd (other (refusal_in is));
  memory = λ is. refl;
  allowed = may;
  views = views_same db;
  broken = inl refl;
}

may_refuse_work : (e : DbError) → MayRefusePiece e → MayRefuseWork e
may_refuse_work error.OutOfMemory h = tt
may_refuse_work error.Io h = tt
may_refuse_work (error.Corrupt file what) h = tt
may_refuse_work (error.Unsupported what) h = tt
may_refuse_work error.NumbersSpent h = tt
may_refuse_work _ h = absurd h

may_refuse_level : (e : DbError) → MayRefusePiece e → MayRefuseLevel e
may_refuse_level error.OutOfMemory h = tt
may_refuse_level error.Io h = tt
may_refuse_level (error.Corrupt file what) h = tt
may_refuse_level (error.Unsupported what) h = tt
may_refuse_level error.NumbersSpent h = tt
may_refuse_level _ h = absurd h

as_may : {T K : Type 0} {g : _} (may more : DbError → Type 0) → ((e : DbError) → may e → more e) → (old new : Facts) (before after : OpenDb K g) (result : Result T DbError) → CompactOutcome may old new before after result → CompactOutcome more old new before after result
as_may {T} may more widens old new before after result h =
    record { failures = h.failures; denials = h.denials; locked = h.locked; io = h.io; memory = h.memory; allowed = at result h.allowed; views = h.views; broken = h.broken }
  where
    at : (r : Result T DbError) → MatchResult r (λ x. Unit {0}) may → MatchResult r (λ x. Unit {0}) more
    at (Ok x) is = tt
    at (Err e) is = widens e is

module _ {T K : Type 0} {g : _} (old new : Facts) (before after : OpenDb K g) (result : Result T DbError) where
  pub outcome_all_as : CompactOutcome MayRefusePiece old new before after result → CompactOutcome MayRefuseWork old new before after result
  outcome_all_as h = as_may MayRefusePiece MayRefuseWork may_refuse_work old new before after result h

  pub outcome_level_as : CompactOutcome MayRefusePiece old new before after result → CompactOutcome MayRefuseLevel old new before after result
  outcome_level_as h = as_may MayRefusePiece MayRefuseLevel may_refuse_level old new before after result h

-- ---- the machine

same_count : (m n : Machine) (k : ℕ) → Draws m k n → entry_count n ≡ entry_count m
same_count m n k drawn = ap entry_count drawn.1

module _ {K : Type 0} {g : _} (order : Order) (old mid new : Seen) (ids : Ids) (before between after : OpenDb K g) where
  -- bounds by the number of entries add up
  pub then_bound : {T U : Type 0} (few most : ℕ → ℕ) (done : T) (result : Result U DbError) → LeadsOpen order old mid ids before between (λ m n. IsPiece m (few (entry_count m)) (Ok done) n)
      → LeadsOpen order mid new ids between after (λ m n. IsPiece m (most (entry_count m)) result n) → LeadsOpen order old new ids before after (λ m n. IsPiece m (few (entry_count m) + most (entry_count m)) result n)
  then_bound few most done result first next = record {
    faithful = λ f. first.faithful (next.faithful f);
    moved = λ f m s.
        let one = first.moved (next.faithful f) m s in
        let two = next.moved f one.0 one.2 in
        let same = same_count m one.0 (few (entry_count m)) one.1.what in
        (two.0, pieces_on m one.0 two.0 (few (entry_count m)) (most (entry_count m)) done result one.1 (subst (λ (e : ℕ). IsPiece one.0 (most e) result two.0) same two.1), two.2);
  }

module _ {K : Type 0} {g : _} (order : Order) (old new : Seen) (ids : Ids) (before after : OpenDb K g) where
  pub within_bound : {T : Type 0} (few most : ℕ → ℕ) (result : Result T DbError) → ((e : ℕ) → few e ≤ most e) → LeadsOpen order old new ids before after (λ m n. IsPiece m (few (entry_count m)) result n)
      → LeadsOpen order old new ids before after (λ m n. IsPiece m (most (entry_count m)) result n)
  within_bound few most result le step = record {
    faithful = step.faithful;
    moved = λ f m s. let one = step.moved f m s in (one.0, piece_more m one.0 (few (entry_count m)) (most (entry_count m)) result (le (entry_count m)) one.1, one.2);
  }

  pub refused_bound : {T U : Type 0} (most : ℕ → ℕ) (e : DbError) → LeadsOpen order old new ids before after (λ m n. IsPiece {T = T} m (most (entry_count m)) (Err e) n) → LeadsOpen order old new ids before after (λ m n. IsPiece {T = U} m (most (entry_count m)) (Err e) n)
  refused_bound most e step = record {
    faithful = step.faithful;
    moved = λ f m s. let one = step.moved f m s in (one.0, record { failures = one.1.failures; denials = one.1.denials; what = one.1.what }, one.2);
  }

-- where nothing is done, the machine stays
pub stays_done : {T K : Type 0} {g : _} (order : Order) (source : Seen) (ids : Ids) (db : OpenDb K g) (most : ℕ → ℕ) (done : T) → LeadsOpen order source source ids db db (λ m n. IsPiece m (most (entry_count m)) (Ok done) n)
stays_done order source ids db most done = record { faithful = λ f. f; moved = λ f m s. (m, record { failures = omega arith; denials = refl; what = ((omega arith, omega arith), refl) }, s) }

pub stays_full : {T K : Type 0} {g : _} (order : Order) (source : Seen) (ids : Ids) (db : OpenDb K g) (most : ℕ → ℕ) → LeadsOpen order source source ids db db (λ m n. IsPiece {T = T} m (most (entry_count m)) (Err error.OutOfMemory) n)
stays_full order source ids db most = record { faithful = λ f. f; moved = λ f m s. (m, record { failures = omega arith; denials = refl; what = ((omega arith, omega arith), refl) }, s) }

-- ---- one step after the other

-- what came to the compaction under way is no more than there is
stands_counted : {K : Type 0} {g : _} (order : Order) (total : IsTotalOrder order.cmp) (source : Seen) (ids : Ids) (db : OpenDb K g) (m : Machine) (work : OpenJob K g) → db.broken ≡ false → db.job ≡ Some work → StandsOpen order source ids db m
    → work.merged ≤ entry_count m
stands_counted {K} {g} order total source ids db m work whole is s =
    let serving = serving_of order source ids db m whole s in
    let c = subst (λ (o : Option (OpenJob K g)). MatchOption o (Unit {0}) (IsCompacting order m.damaged (whole_of source db) serving.ideal db.directory.numbers.next db.snapshots db.iterators serving.log.directory.directory)) is serving.job in
    job_counted order total source db m serving work c

-- its inputs are tables of the version
stands_listed : {K : Type 0} {g : _} (order : Order) (total : IsTotalOrder order.cmp) (source : Seen) (ids : Ids) (db : OpenDb K g) (m : Machine) (work : OpenJob K g) → db.broken ≡ false → db.job ≡ Some work → StandsOpen order source ids db m
    → (placed : PlacedTable) → Contains work.job.plan.inputs.items placed → Contains db.tables placed
stands_listed {K} {g} order total source ids db m work whole is s =
    let serving = serving_of order source ids db m whole s in
    let c = subst (λ (o : Option (OpenJob K g)). MatchOption o (Unit {0}) (IsCompacting order m.damaged (whole_of source db) serving.ideal db.directory.numbers.next db.snapshots db.iterators serving.log.directory.directory)) is serving.job in
    inputs_listed order total source db m serving work c

-- So many steps were taken, and the compaction is under way still.
pub record Taken {K : Type 0} {g : _} (order : Order) (old new : Seen) (before after : OpenDb K g) (steps : ℕ) : Type 0 where
  pub work : OpenJob K g
  pub was : before.job ≡ Some work
  pub more : OpenJob K g
  pub now : after.job ≡ Some more
  pub plan : more.job.plan ≡ work.job.plan
  pub snapshots : more.job.selection.snapshots ≡ work.job.selection.snapshots
  pub version : more.version ≡ work.version
  pub merged : shown steps ≤ more.merged
  pub tables : after.tables ≡ before.tables
  pub files : IsTrue new.facts.faithful → KeepsTableFiles order old new before
  pub serves : ServesOn old.facts new.facts before after
  pub memory : LeavesMemories before.memory after.memory
  pub all : IsTakingAll before → IsTakingAll after
  pub step : (ids : Ids) → LeadsOpen order old new ids before after (λ m n. IsPiece m steps (Ok (tt {0})) n)
  pub stops : KeepsOpen order old new before

pub taken_none : {K : Type 0} {g : _} (order : Order) (source : Seen) (db : OpenDb K g) (work : OpenJob K g) → db.broken ≡ false → db.job ≡ Some work → Taken order source source db db 0
taken_none order source db work whole is = record {
  work = work;
  was = is;
  more = work;
  now = is;
  plan = refl;
  snapshots = refl;
  version = refl;
  merged = omega arith;
  tables = refl;
  files = λ f ids m s number has. refl;
  serves = serves_same source.facts db whole;
  memory = left_there db.memory;
  all = λ h. h;
  step = λ ids. stays_done order source ids db (λ e. 0) (tt {0});
  stops = keeps_none order source db;
}

pub job_there : {X : Type 0} (o : Option X) → IsSome o → (x : X) × (o ≡ Some x)
job_there None some = absurd (cc)
job_there (Some x) some = (x, refl)

job_in : {X : Type 0} (a b : X) → Some a ≡ Some b → a ≡ b
job_in a b is = cc

module _ {K : Type 0} {g : _} (order : Order) (old mid new : Seen) (before between after : OpenDb K g) (steps : ℕ) (t : Taken order old mid before between steps) where
  pub taken_more : GoesOn 1 between after → IsSome after.job → ServesOn mid.facts new.facts between after → LeavesMemories between.memory after.memory → (IsTakingAll between → IsTakingAll after)
      → (IsTrue new.facts.faithful → KeepsTableFiles order mid new between) → ((ids : Ids) → LeadsOpen order mid new ids between after (λ m n. IsPiece m 1 (Ok false) n)) → KeepsOpen order mid new between → Taken order old new before after (steps + 1)
  taken_more goes some serves memory all beside step stops = at after.job refl goes.on some
    where
      at : (o : Option (OpenJob K g)) → after.job ≡ o → MatchOption o (ReplacesInputs goes.work.job.plan between.tables after.tables) (λ more. IsFurther goes.work (max 1 1) more × (after.tables ≡ between.tables)) → IsSome o → Taken order old new before after (steps + 1)
      at None is on some = absurd (cc)
      at (Some more) is on some =
          let same = job_in goes.work t.more (sym goes.was ∙ t.now) in
          record {
            work = t.work;
            was = t.was;
            more = more;
            now = is;
            plan = on.0.0 ∙ ap (λ (w : OpenJob K g). w.job.plan) same ∙ t.plan;
            snapshots = on.0.2 ∙ ap (λ (w : OpenJob K g). w.job.selection.snapshots) same ∙ t.snapshots;
            version = on.0.3 ∙ ap (λ (w : OpenJob K g). w.version) same ∙ t.version;
            merged = (let a = on.0.1 in let b = t.merged in let s = ap (λ (w : OpenJob K g). w.merged) same in omega (arith, a, b, s));
            tables = on.1 ∙ t.tables;
            files = λ f ids m s number has.
                let still = (step ids).faithful f in
                let one = (t.step ids).moved still m s.stands in
                beside f ids one.0 (stands_whole order mid ids between m one.0 s.undamaged (piece_flag m one.0 steps (Ok (tt {0})) one.1) one.2) number (subst (HasNumber number) (sym t.tables) has) ∙ t.files still ids m s number has;
            serves = serves_then old.facts mid.facts new.facts before between after t.serves serves;
            memory = left_onward before.memory between.memory after.memory t.memory memory;
            all = λ h. all (t.all h);
            step = λ ids. piece_done order old new ids before after (steps + 1) false (tt {0}) (then_piece order old mid new ids before between after steps 1 (tt {0}) (Ok false) (t.step ids) (step ids));
            stops = keeps_then order old mid new before between (λ m. steps) (tt {0}) t.step (step no_ids).faithful t.stops stops;
          }

  -- all came, and the outputs replace the inputs
  pub taken_done : GoesOn 1 between after → after.job ≡ None → MatchOption before.job (Unit {0}) (λ work. ReplacesInputs work.job.plan before.tables after.tables)
  taken_done goes none =
      let same = job_in goes.work t.more (sym goes.was ∙ t.now) in
      let done = subst (λ (o : Option (OpenJob K g)). MatchOption o (ReplacesInputs goes.work.job.plan between.tables after.tables) (λ more. IsFurther goes.work (max 1 1) more × (after.tables ≡ between.tables))) none goes.on in
      let plan : goes.work.job.plan ≡ t.work.job.plan = ap (λ (w : OpenJob K g). w.job.plan) same ∙ t.plan in
      subst (λ (o : Option (OpenJob K g)). MatchOption o (Unit {0}) (λ work. ReplacesInputs work.job.plan before.tables after.tables)) (sym t.was)
      (subst (λ (p : JobPlan). ReplacesInputs p before.tables after.tables) plan (subst (λ (ts : List PlacedTable). ReplacesInputs goes.work.job.plan ts after.tables) t.tables done))

  -- and what must be kept of the inputs' entries is in them
  pub taken_merged : {P : Machine → Machine → Type 0} (total : IsTotalOrder order.cmp) → before.broken ≡ false → ((ids : Ids) → LeadsOpen order mid new ids between after P) → PutsMerged order mid new between after → PutsMerged order old new before after
  taken_merged total whole next merged =
      subst (λ (o : Option (OpenJob K g)). MatchOption o ⊥ (λ work. IsTrue new.facts.faithful → (ids : Ids) (m : Machine) → StandsWhole order old ids before m → HasMerged order old.facts.files new.facts.files work before after)) (sym t.was)
      (λ f ids m s.
      let still = (next ids).faithful f in
      let one = (t.step ids).moved still m s.stands in
      let inner = subst (λ (o : Option (OpenJob K g)). MatchOption o ⊥ (λ work. IsTrue new.facts.faithful → (given : Ids) (n : Machine) → StandsWhole order mid given between n → HasMerged order mid.facts.files new.facts.files work between after)) t.now merged in
      merged_on order old.facts.files mid.facts.files new.facts.files t.work t.more before between after t.plan t.snapshots t.version t.tables
      (λ placed i.
      t.files still ids m s placed.table.number
      (as_used before.tables placed.table.number (placed, stands_listed order total old ids before m t.work whole t.was s.stands placed i, refl)))
      (inner f ids one.0 (stands_whole order mid ids between m one.0 s.undamaged (piece_flag m one.0 steps (Ok (tt {0})) one.1) one.2)))

  pub taken_ended : (ids : Ids) → steps < 2 ^ 64 - 1 → LeadsOpen order mid new ids between after (λ m n. HasCome 1 between m (Ok true) n) → LeadsOpen order old new ids before after (λ m n. EndsJob m (Ok (tt {0})) n)
  taken_ended ids below next = record {
    faithful = λ f. (t.step ids).faithful (next.faithful f);
    moved = λ f m s.
        let one = (t.step ids).moved (next.faithful f) m s in
        let two = next.moved f one.0 one.2 in
        let h = two.1 in
        let within = subst (λ (o : Option (OpenJob K g)). MatchOption o (Unit {0}) (λ work. shown (work.merged + h.came) ≤ entry_count one.0)) t.now h.within in
        let same = same_count m one.0 steps one.1.what in
        let le : steps + h.came ≤ entry_count m + 0 = (let a = t.merged in let b = h.most in omega (arith, a, b, within, same, below)) in
        let both = pieces_on m one.0 two.0 steps h.came (tt {0}) (Ok true) one.1 h.piece in
        let wide = piece_more m two.0 (steps + h.came) (entry_count m + 0) (Ok true) le both in
        (two.0, record { failures = wide.failures; denials = wide.denials; what = wide.what }, two.2);
  }

  pub taken_refused : {T : Type 0} (total : IsTotalOrder order.cmp) (ids : Ids) (e : DbError) → steps < 2 ^ 64 - 1 → LeadsOpen order mid new ids between after (λ m n. IsPiece {T = T} m 1 (Err e) n)
      → LeadsOpen order old new ids before after (λ m n. EndsJob {T = Unit {0}} m (Err e) n)
  taken_refused {T} total ids e below next = record {
    faithful = λ f. (t.step ids).faithful (next.faithful f);
    moved = λ f m s.
        let one = (t.step ids).moved (next.faithful f) m s in
        let two = next.moved f one.0 one.2 in
        let counted = stands_counted order total mid ids between one.0 t.more t.serves.whole t.now one.2 in
        let same = same_count m one.0 steps one.1.what in
        let le : steps + 1 ≤ entry_count m + 1 = (let a = t.merged in omega (arith, a, counted, same, below)) in
        let both = pieces_on m one.0 two.0 steps 1 (tt {0}) (Err e) one.1 two.1 in
        let wide = piece_more m two.0 (steps + 1) (entry_count m + 1) (Err e) le both in
        (two.0, record { failures = wide.failures; denials = wide.denials; what = wide.what }, two.2);
  }

-- no database has so many entries
pub taken_all : {K : Type 0} {g : _} (order : Order) (total : IsTotalOrder order.cmp) (old new : Seen) (before after : OpenDb K g) (steps : ℕ) → Taken order old new before after steps → steps ≡ 2 ^ 64 - 1 → (ids : Ids)
    → LeadsOpen order old new ids before after (λ m n. EndsJob {T = Unit {0}} m (Err error.OutOfMemory) n)
taken_all order total old new before after steps t all ids = record {
  faithful = (t.step ids).faithful;
  moved = λ f m s.
      let one = (t.step ids).moved f m s in
      let counted = stands_counted order total new ids after one.0 t.more t.serves.whole t.now one.2 in
      let same = same_count m one.0 steps one.1.what in
      let le : steps ≤ entry_count m + 1 = (let a = t.merged in omega (arith, a, counted, same, all)) in
      let wide = piece_more m one.0 steps (entry_count m + 1) (Ok (tt {0})) le one.1 in
      (one.0, record { failures = wide.failures; denials = wide.denials; what = wide.what }, one.2);
}

-- out of memory after all of them
pub outcome_all : {K : Type 0} {g : _} (old new : Facts) (before after : OpenDb K g) → before.broken ≡ false → ServesOn old new before after → CompactOutcome {T = Unit {0}} MayRefusePiece old new before after (Err error.OutOfMemory)
outcome_all old new before after whole serves = outcome_then MayRefusePiece old new new before after after (Err error.OutOfMemory) whole serves (outcome_full new after)
