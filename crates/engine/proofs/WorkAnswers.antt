-- What work answers, of what its pieces do.
use Rattle.std.proofs.Common.{◌≡◌, ◌∷◌, ℕ, ◌+◌, ◌≤◌, ◌<◌, max, Bool, true, false, Option, Some, None, Result, Ok, Err, IsTrue, IsSome, MatchOption, List, inl, inr, refl, sym, ap, subst, ◌∙◌, arith, if◌then◌else◌}
use Rattle.std.proofs.lemmas.Bool.{cases_order}
use Rattle.std.specs.Map.{values_of}
use Rattle.coding.specs.declared.error.DbError.{DbError}
use Rattle.cursor.specs.Places.{Cmp}
use Rattle.coding.specs.declared.error.DbError.TheVariants as error
use Rattle.edits.specs.declared.field.PlacedTable.{PlacedTable}
use Rattle.ikey.specs.Orders.{Order}
use Rattle.running_job.specs.Running.{shown}
use Rattle.running_job.specs.declared.open_job.OpenJob.{OpenJob}
use Rattle.memtables.specs.Memories.{Memories}
use Rattle.memtable.specs.Contents.{size_of}
use Rattle.table_access.specs.Tables.{Seen}
use Rattle.store.specs.Files.{Facts}
use Rattle.directory_writes.specs.Replacing.{ReplacesInputs}
use Rattle.versions.specs.Levels.{Placement}
use Rattle.versions.specs.Plans.{IsPicked}
use Rattle.versions.specs.declared.plan.JobPlan.{JobPlan}
use Rattle.machine.specs.declared.command.Answer.{Answer}
use Rattle.engine.specs.declared.ids.Ids.{Ids}
use Rattle.engine.specs.Applied.{DoneWork, WorksIn}
use Rattle.engine.specs.declared.work.Progress.{Progress}
use Rattle.engine.specs.declared.work.Progress.TheVariants as progress
use Rattle.engine.specs.Causes.{IsCausedIn, open_status}
use Rattle.machine.specs.Causes.{not_serving}
use Rattle.engine.specs.Stands.{no_ids}
use Rattle.opening.specs.Refusals.{IsMet}
use Rattle.engine.specs.internal.Leading.{LeadsOpen}
use Rattle.engine.specs.OpenDb.{OpenDb}
use Rattle.engine.specs.Needed.{IsForLive}
use Rattle.machine.specs.Machine.{Machine}
use Rattle.machine.specs.Causes.{not_serving, status_of}
use Rattle.engine.specs.internal.Standing.{StandsClosed}
use Rattle.machine.specs.Upkeep.{UpkeepRefused, Works}
use Rattle.engine.specs.OptionValues.{OptionValues}
use Rattle.engine.specs.Working.{DoesWork, GoesOn, IsAtEase, IsFurther, work_answer}
use Rattle.engine.specs.internal.Pieces.{IsPiece, IsSameMemory, MayRefusePiece, refused_as}
use Rattle.engine.proofs.NeededEntries.{still_live}
use Rattle.engine.proofs.Steps.{broken_cause, broken_of, by_cause, closed_cause, no_cause, serving_of, stays_open}
use Rattle.engine.proofs.WorkSteps.{piece_failed, pieces_on, works_as}

-- ---- the machine

-- a broken database does none
pub works_broken : {K : Type 0} {g : _} → (order : Order) (source : Seen) (ids : Ids) (db : OpenDb K g) (budget : ℕ) → db.broken ≡ true → LeadsOpen order source source ids db db (λ m n. Works m budget (work_answer (Err error.Broken)) n)
works_broken order source ids db budget is = stays_open order source ids db _ (λ m s. by_cause (not_serving (status_of m)) m error.Broken _ (broken_cause m s.opened (broken_of order source ids db m is s).broken))

-- and where none is open, there is none to do
pub works_closed : (order : Order) (facts : Facts) (ids : Ids) (m : Machine) (budget : ℕ) → StandsClosed order facts ids m → Works m budget (work_answer (Err error.NotOpen)) m
works_closed order facts ids m budget s = by_cause (not_serving (status_of m)) m error.NotOpen _ (closed_cause order facts ids m s)

module _ {K : Type 0} {g : _} (order : Order) (old new : Seen) (ids : Ids) (before after : OpenDb K g) where
  -- a piece is what is answered
  pub works : (budget most : ℕ) (result : Result Progress DbError) → most ≤ max budget 1 → before.broken ≡ false → LeadsOpen order old new ids before after (λ m n. IsPiece m most result n) → LeadsOpen order old new ids before after (λ m n. Works m budget (work_answer result) n)
  works budget most result le whole step = record {
    faithful = step.faithful;
    moved = λ f m s.
        let one = step.moved f m s in
        (one.0, works_as m one.0 budget most result (no_cause m s.opened (serving_of order old ids before m whole s).whole) (omega (arith, le)) one.1, one.2);
  }

-- one piece after the other
module _ {K : Type 0} {g : _} (order : Order) (old mid new : Seen) (ids : Ids) (before between after : OpenDb K g) where
  pub then_piece : {T U : Type 0} (few most : ℕ) (done : T) (result : Result U DbError) → LeadsOpen order old mid ids before between (λ m n. IsPiece m few (Ok done) n) → LeadsOpen order mid new ids between after (λ m n. IsPiece m most result n)
      → LeadsOpen order old new ids before after (λ m n. IsPiece m (few + most) result n)
  then_piece few most done result first next = record {
    faithful = λ f. first.faithful (next.faithful f);
    moved = λ f m s.
        let one = first.moved (next.faithful f) m s in
        let two = next.moved f one.0 one.2 in
        (two.0, pieces_on m one.0 two.0 few most done result one.1 two.1, two.2);
  }

-- out of memory where the store failed
as_failure : {T : Type 0} (m n : Machine) (most : ℕ) (complete : Bool) (e : DbError) → (complete ≡ false → m.failures < n.failures) → IsPiece {T = T} m most (Err e) n → IsPiece {T = T} m most (Err (refused_as complete e)) n
as_failure m n most complete e rose piece = record { failures = piece.failures; denials = piece.denials; what = at e complete rose piece.what }
  where
    at : (e : DbError) (complete : Bool) → (complete ≡ false → m.failures < n.failures) → UpkeepRefused m most e n → UpkeepRefused m most (refused_as complete e) n
    at error.OutOfMemory true rose h = h
    at error.OutOfMemory false rose h = (
      rose refl,
      h.0,
      h.1 ∙ ap (λ (b : Bool). record m { numbers = n.numbers; broken = b; failures = n.failures; denials = n.denials }) (sym (ap (λ (x : Machine). x.broken) h.1)),
    )
    at _ complete rose h = h

module _ {K : Type 0} {g : _} (order : Order) (old mid new : Seen) (ids : Ids) (before between after : OpenDb K g) where
  -- a refusal after a removal
  pub then_refused : {T U : Type 0} (most : ℕ) (complete : Bool) (e : DbError) → (complete ≡ false → old.facts.failures < mid.facts.failures) → mid.facts.failures ≤ new.facts.failures
      → LeadsOpen order old mid ids before between (λ m n. IsPiece m 0 (Ok complete) n) → LeadsOpen order mid new ids between after (λ m n. IsPiece {T = T} m most (Err e) n)
      → LeadsOpen order old new ids before after (λ m n. IsPiece {T = U} m (0 + most) (Err (refused_as complete e)) n)
  then_refused {T} {U} most complete e rose rise first next =
      let refused : LeadsOpen order mid new ids between after (λ m n. IsPiece {T = U} m most (Err e) n) = piece_failed order mid new ids between after most e next in
      let both : LeadsOpen order old new ids before after (λ m n. IsPiece {T = U} m (0 + most) (Err e) n) = then_piece order old mid new ids before between after 0 most complete (Err e) first refused in
      record {
        faithful = both.faithful;
        moved = λ f m s.
            let one = both.moved f m s in
            (one.0, as_failure m one.0 (0 + most) complete e (λ incomplete. let a = rose incomplete in let was = s.counts.failures in let is = one.2.counts.failures in omega (arith, a, rise, was, is)) one.1, one.2);
      }

-- where a file couldn't be removed, the store failed
pub failures_rose : (old new : ℕ) (complete : Bool) → old ≤ new → (new ≡ old → IsTrue complete) → complete ≡ false → old < new
failures_rose old new complete rise unfailed incomplete = elim (cases_order old new) [
  | inl same ↦ absurd (let bad : false ≡ true = subst IsTrue incomplete (unfailed (sym same)) in cc)
  | inr apart ↦ elim apart [ inl less ↦ less | inr more ↦ absurd (omega (arith, rise, more)) ]
]

-- ---- causes

piece_met : (e : DbError) → MayRefusePiece e → IsMet e
piece_met error.OutOfMemory h = tt
piece_met error.Io h = tt
piece_met (error.Corrupt file what) h = tt
piece_met (error.Unsupported what) h = tt
piece_met error.NumbersSpent h = tt
piece_met _ h = absurd h

pub caused_met : {S K : Type 0} {g : _} (db : OpenDb K g) (old new : S) (result : Result Progress DbError) (e : DbError) → result ≡ Err e → db.broken ≡ false → MayRefusePiece e → IsCausedIn (not_serving (open_status no_ids db)) old new result
caused_met db old new result e is whole may =
    subst (λ (cause : Option DbError). IsCausedIn cause old new result) (sym (ap (λ (b : Bool). if b then Some error.Broken else None) whole)) (λ other same. subst IsMet (let inner : e ≡ other = cc in inner) (piece_met e may))

-- ---- which piece it is

at_ease : {K : Type 0} {g : _} (options : OptionValues) (before : OpenDb K g) (memory : Memories) → IsSameMemory before.memory memory → IsAtEase options (record before { memory = memory }) → IsAtEase options before
at_ease options before memory same h = record {
  idle = h.idle;
  none = sym same.sealed ∙ h.none;
  small = (let size : size_of memory.current.inserts ≡ size_of before.memory.current.inserts = ap (λ c. size_of c.inserts) same.current in let least = h.small in omega (arith, size, least));
}

begun_on : {K : Type 0} {g : _} (budget : ℕ) (plan : JobPlan) (before : OpenDb K g) (memory : Memories) (after : OpenDb K g) → memory.last ≡ before.memory.last
    → MatchOption after.job (ReplacesInputs plan before.tables after.tables) (λ work. (work.job.plan ≡ plan) × (work.merged ≡ shown (max budget 1)) × IsForLive work (record before { memory = memory }) × (after.tables ≡ before.tables))
    → MatchOption after.job (ReplacesInputs plan before.tables after.tables) (λ work. (work.job.plan ≡ plan) × (work.merged ≡ shown (max budget 1)) × IsForLive work before × (after.tables ≡ before.tables))
begun_on {K} {g} budget plan before memory after last = at after.job
  where
    at : (o : Option (OpenJob K g))
        → MatchOption o (ReplacesInputs plan before.tables after.tables) (λ work. (work.job.plan ≡ plan) × (work.merged ≡ shown (max budget 1)) × IsForLive work (record before { memory = memory }) × (after.tables ≡ before.tables))
        → MatchOption o (ReplacesInputs plan before.tables after.tables) (λ work. (work.job.plan ≡ plan) × (work.merged ≡ shown (max budget 1)) × IsForLive work before × (after.tables ≡ before.tables))
    at None h = h
    at (Some work) h = (h.0, h.1, still_live work work (record before { memory = memory }) before refl (ap (λ (n : ℕ). n ∷ values_of before.snapshots.entries) (sym last)) h.2, h.3)

pub does_on : {K : Type 0} {g : _} (cmp : Cmp) (before : OpenDb K g) (memory : Memories) (after : OpenDb K g) (options : OptionValues) (budget : ℕ) (result : Result Progress DbError) → IsSameMemory before.memory memory → memory.last ≡ before.memory.last → DoesWork cmp options budget (record before { memory = memory }) after result
    → DoesWork cmp options budget before after result
does_on cmp before memory after options budget (Ok progress.Worked) same last (inl h) = inl (record { work = h.work; was = h.was; on = h.on })
does_on cmp before memory after options budget (Ok progress.Worked) same last (inr (inl h)) = inr (inl (record {
  idle = h.idle;
  was = subst IsSome same.sealed h.was;
  gone = h.gone;
  current = h.current ∙ same.current;
  still = h.still;
  table = elim h.table [ inl none ↦ inl (sym same.sealed_are ∙ none) | inr table ↦ inr table ];
}))
does_on cmp before memory after options budget (Ok progress.Worked) same last (inr (inr (inl h))) = inr (inr (inl (
  (let size : size_of memory.current.inserts ≡ size_of before.memory.current.inserts = ap (λ c. size_of c.inserts) same.current in let most_is = h.0 in omega (arith, size, most_is)),
  record { idle = h.1.idle; none = sym same.sealed ∙ h.1.none; sealed = h.1.sealed ∙ ap (λ c. c.inserts) same.current; is = h.1.is; still = h.1.still; empty = h.1.empty; log = h.1.log; begins = h.1.begins },
)))
does_on cmp before memory after options budget (Ok progress.Worked) same last (inr (inr (inr h))) = inr (inr (inr (record { ease = at_ease options before memory same h.ease; job = record { plan = h.job.plan; picked = h.job.picked; begun = begun_on budget h.job.plan before memory after last h.job.begun } })))
does_on cmp before memory after options budget (Ok progress.Idle) same last h = (record { ease = at_ease options before memory same h.0.ease; unwanted = h.0.unwanted }, h.1)
does_on cmp before memory after options budget (Err e) same last h = tt

-- so many came of those of a compaction that was begun at once, or all
pub begun_further : {K : Type 0} {g : _} (budget : ℕ) (plan : JobPlan) (before mid after : OpenDb K g) → mid.tables ≡ before.tables → MatchOption mid.job ⊥ (λ work. (work.merged ≡ 0) × (work.job.plan ≡ plan)) → MatchOption mid.job ⊥ (λ work. IsForLive work before) → GoesOn budget mid after
    → MatchOption after.job (ReplacesInputs plan before.tables after.tables) (λ work. (work.job.plan ≡ plan) × (work.merged ≡ shown (max budget 1)) × IsForLive work before × (after.tables ≡ before.tables))
begun_further {K} {g} budget plan before mid after same none live goes = at after.job goes.on
  where
    for_live : IsForLive goes.work before
    for_live = subst (λ (o : Option (OpenJob K g)). MatchOption o ⊥ (λ work. IsForLive work before)) goes.was live

    empty : (goes.work.merged ≡ 0) × (goes.work.job.plan ≡ plan)
    empty = subst (λ (o : Option (OpenJob K g)). MatchOption o ⊥ (λ work. (work.merged ≡ 0) × (work.job.plan ≡ plan))) goes.was none

    at : (o : Option (OpenJob K g)) → MatchOption o (ReplacesInputs goes.work.job.plan mid.tables after.tables) (λ more. IsFurther goes.work (max budget 1) more × (after.tables ≡ mid.tables))
        → MatchOption o (ReplacesInputs plan before.tables after.tables) (λ work. (work.job.plan ≡ plan) × (work.merged ≡ shown (max budget 1)) × IsForLive work before × (after.tables ≡ before.tables))
    at None h = subst (λ (p : JobPlan). ReplacesInputs p before.tables after.tables) empty.1 (subst (λ (ts : List PlacedTable). ReplacesInputs goes.work.job.plan ts after.tables) same h)
    at (Some more) h = (h.0.0 ∙ empty.1, (let is = h.0.1 in let first = empty.0 in omega (arith, is, first)), still_live goes.work more before before h.0.2 refl for_live, h.1 ∙ same)

-- ---- which plan is begun

pub of_some : {X : Type 0} (A : Type 0) (P : X → Type 0) (o : Option X) (x : X) → o ≡ Some x → MatchOption o A P → P x
of_some A P o x is h = subst (λ (p : Option _). MatchOption p A P) is h

pub of_none : {X : Type 0} (A : Type 0) (P : X → Type 0) (o : Option X) → o ≡ None → MatchOption o A P → A
of_none A P o is h = subst (λ (p : Option _). MatchOption p A P) is h

-- it is picked for the version, by what the options say
pub picked_for : (cmp : Cmp) (files base level0_files base_bytes : ℕ) (version tables : Placement) (plan : JobPlan) → files ≡ level0_files → base ≡ base_bytes → version ≡ tables → IsPicked cmp files base version plan → IsPicked cmp level0_files base_bytes tables plan
picked_for cmp files base level0_files base_bytes version tables plan files_are base_is same picked =
    subst (λ (n : ℕ). IsPicked cmp n base_bytes tables plan) files_are (subst (λ (n : ℕ). IsPicked cmp files n tables plan) base_is (subst (λ (v : Placement). IsPicked cmp files base v plan) same picked))

-- what work promises, where this was open before and that was answered
pub done_in : {K : Type 0} {g : _} (order : Order) (options : OptionValues) (budget : ℕ) (old new : Seen) (state : Option (OpenDb K g)) (before after : OpenDb K g) (answer : Answer) (result : Result Progress DbError) {shown : Result Progress DbError}
    → result ≡ shown → state ≡ Some before → DoneWork order options budget old new before after result
    → (DoneWork order options budget old new before after shown → WorksIn order options budget old new (Some before) (Some after) answer) → WorksIn order options budget old new state (Some after) answer
done_in order options budget old new state before after answer result is opened done shows =
    subst (λ (o : Option (OpenDb _ _)). WorksIn order options budget old new o (Some after) answer) (sym opened)
    (shows (subst (λ (r : Result Progress DbError). DoneWork order options budget old new before after r) is done))
