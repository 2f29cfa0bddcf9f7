-- What a compaction that has come to its end leaves of the levels, and the machine's answer to it.
use Rattle.std.proofs.Common.{◌≡◌, ◌==◌, ◌<◌, ◌≤◌, ℕ, suc, Bool, true, false, nat_lt, List, [], ◌∷◌, Option, Some, None, MatchOption, Result, Ok, Err, MatchResult, OnOk, Contains, inl, inr, refl, sym, ap, subst, ◌∙◌, arith, if◌then◌else◌}
use Rattle.std.specs.Option.{option_or}
use Rattle.std.specs.declared.cmp.Ordering.{Ordering}
use Rattle.std.proofs.lemmas.Bool.{cond_both, eq-eqb, eqb-true, lt-ltb, le-ltb}
use Rattle.std.proofs.lemmas.List.Elements.{All-contains}
use Rattle.coding.specs.declared.error.DbError.{DbError}
use Rattle.coding.specs.declared.error.DbError.TheVariants as error
use Rattle.cursor.specs.Places.{Cmp}
use Rattle.edits.specs.declared.field.PlacedTable.{PlacedTable}
use Rattle.ikey.specs.Orders.{Order}
use Rattle.running_job.specs.declared.open_job.OpenJob.{OpenJob}
use Rattle.table_access.specs.Tables.{Seen}
use Rattle.store.specs.Files.{Facts}
use Rattle.directory_writes.specs.Replacing.{ReplacesInputs}
use Rattle.versions.proofs.Pairs.{filtered}
use Rattle.versions.specs.Levels.{tables_at}
use Rattle.versions.specs.Plans.{IsLevelPlan, IsWholePlan}
use Rattle.versions.specs.declared.plan.JobPlan.{JobPlan}
use Rattle.memtables.specs.Places.{LeavesMemories}
use Rattle.engine.specs.declared.ids.Ids.{Ids}
use Rattle.engine.specs.Causes.{IsCausedIn, open_status}
use Rattle.engine.specs.Stands.{no_ids}
use Rattle.opening.specs.Refusals.{IsMet}
use Rattle.engine.specs.Finishing.{HasNoMemory, MovesLevel}
use Rattle.engine.specs.internal.JobsToEnd.{beyond}
use Rattle.engine.specs.internal.Leading.{LeadsOpen}
use Rattle.engine.specs.Follows.{unit_answer}
use Rattle.engine.specs.OpenDb.{OpenDb}
use Rattle.machine.specs.Machine.{Machine}
use Rattle.machine.specs.Causes.{not_serving, status_of, level_cause}
use Rattle.engine.specs.internal.Standing.{StandsClosed}
use Rattle.machine.specs.declared.command.Answer.TheVariants.{Refused}
use Rattle.machine.specs.Upkeep.{Compacted, CompactsAll, CompactsLevel, Draws, UpkeepRefused, most_drawn}
use Rattle.engine.specs.internal.Pieces.{IsPiece, MayRefusePiece}
use Rattle.engine.proofs.Steps.{broken_cause, broken_of, by_cause, closed_cause, denies_none, no_cause, serving_of, without_cause, stays_open}

-- ---- levels

-- a level has no table where none of the tables is of that level
none_at : (level : ℕ) (tables : List PlacedTable) → ((placed : PlacedTable) → Contains tables placed → placed.level ≡ level → ⊥) → tables_at level tables ≡ []
none_at level [] none = refl
none_at level (t ∷ tables) none =
    cond_both (t.level == level) (t ∷ tables_at level tables) (tables_at level tables) (λ ts. ts ≡ [])
    (λ here. absurd (none t (0, omega arith, refl) (eqb-true t.level level here)))
    (λ _. none_at level tables (λ placed c is. none placed (suc c.0, (let lt = c.1 in omega (arith, lt)), c.2) is))

pub level_emptied : (cmp : List ℕ → List ℕ → Ordering) (old new : List PlacedTable) (level : ℕ) (plan : JobPlan) → IsLevelPlan cmp old level plan → ReplacesInputs plan old new → tables_at level new ≡ []
level_emptied cmp old new level plan is done = none_at level new (λ placed there at. elim (done.tables placed there) [
  | inl was ↦ was.1 (All-contains (Contains plan.inputs.items) (tables_at level old) placed is.0.inputs.begins (filtered (λ (p : PlacedTable). p.level == level) placed old was.0 (eq-eqb placed.level level at)))
  | inr output ↦ (let to = is.0.output in omega (arith, at, output, to))
])

either_ended : {X A : Type 0} (P : X → Type 0) (job : Option X) → MatchOption job (Unit {0}) P → (job ≡ None → A) → MatchOption job A P
either_ended P None done stays = stays refl
either_ended P (Some work) done stays = done

pub all_last : (old new : List PlacedTable) (plan : JobPlan) → IsWholePlan old plan → ReplacesInputs plan old new → (level : ℕ) → level < 6 → tables_at level new ≡ []
all_last old new plan is done level below = none_at level new (λ placed there at. elim (done.tables placed there) [
  | inl was ↦ was.1 (subst (λ (ts : List PlacedTable). Contains ts placed) (sym is.inputs) was.0)
  | inr output ↦ (let to = is.output in omega (arith, at, output, to, below))
])

pub none_there : (tables : List PlacedTable) → tables ≡ [] → (level : ℕ) → level < 6 → tables_at level tables ≡ []
none_there tables none level below = ap (tables_at level) none

pub memory_left : {K : Type 0} {g : _} (before after : OpenDb K g) → LeavesMemories before.memory after.memory → HasNoMemory before → HasNoMemory after
memory_left before after left h = record { current = left.inserts ∙ h.current; sealed = left.sealed ∙ h.sealed }

-- the first compaction came to its end, and the plan's was the second
pub level_moved : {K : Type 0} {g : _} (cmp : Cmp) (level : ℕ) (before after : OpenDb K g) (between : List PlacedTable) (plan : JobPlan) → MatchOption before.job (Unit {0}) (λ work. ReplacesInputs work.job.plan before.tables between) → (before.job ≡ None → between ≡ before.tables)
    → after.job ≡ None → IsLevelPlan cmp between level plan → ReplacesInputs plan between after.tables → MovesLevel cmp level before after
level_moved cmp level before after between plan done stays idle is replaces =
    record { between = between; ended = either_ended _ before.job done stays; moved = inr (plan, is, replaces); idle = idle }

-- there was no table for a second one
pub level_unmoved : {K : Type 0} {g : _} (cmp : Cmp) (level : ℕ) (before after : OpenDb K g) → MatchOption before.job (Unit {0}) (λ work. ReplacesInputs work.job.plan before.tables after.tables) → (before.job ≡ None → after.tables ≡ before.tables)
    → after.job ≡ None → tables_at level after.tables ≡ [] → MovesLevel cmp level before after
level_unmoved cmp level before after done stays idle none = record { between = after.tables; ended = either_ended _ before.job done stays; moved = inl (none, refl); idle = idle }

-- where it was answered
pub on_ok : {T : Type 0} {P Q : Type 0} (result : Result T DbError) → (P → Q) → OnOk result P → OnOk result Q
on_ok (Ok x) f h = f h
on_ok (Err e) f h = tt

pub always_ok : {T : Type 0} {P : Type 0} (result : Result T DbError) → P → OnOk result P
always_ok (Ok x) h = h
always_ok (Err e) h = tt

pub both_ok : {T : Type 0} {P Q R : Type 0} (result : Result T DbError) → (P → Q → R) → OnOk result P → OnOk result Q → OnOk result R
both_ok (Ok x) f p q = f p q
both_ok (Err e) f p q = tt

-- the compaction of a plan that was begun at once
pub done_of : {T K : Type 0} {g : _} (result : Result T DbError) (job : Option (OpenJob K g)) (plan : JobPlan) (old mid new : List PlacedTable) → mid ≡ old → MatchOption job ⊥ (λ work. (work.merged ≡ 0) × (work.job.plan ≡ plan))
    → OnOk result (MatchOption job (Unit {0}) (λ work. ReplacesInputs work.job.plan mid new)) → OnOk result (ReplacesInputs plan old new)
done_of result None plan old mid new same begun done = absurd begun
done_of result (Some work) plan old mid new same begun done =
    on_ok result (λ h. subst (λ (ts : List PlacedTable). ReplacesInputs plan ts new) same (subst (λ (p : JobPlan). ReplacesInputs p mid new) begun.1 h)) done

pub beyond_most : {T : Type 0} (result : Result T DbError) → beyond result ≤ 1
beyond_most (Ok x) = omega arith
beyond_most (Err e) = omega arith

-- ---- answers

compacted_as : {T : Type 0} (m n : Machine) (result : Result T DbError) → IsPiece m (most_drawn m) result n → Compacted m (unit_answer result) n
compacted_as {T} m n result piece = at result piece.what
  where
    at : (r : Result T DbError) → MatchResult r (λ x. Draws m (most_drawn m) n) (λ e. UpkeepRefused m (most_drawn m) e n) → Compacted m (unit_answer r) n
    at (Ok x) h = h
    at (Err e) h = h

level_free : (m : Machine) (level : ℕ) → not_serving (status_of m) ≡ None → level < 6 → level_cause (status_of m) level ≡ None
level_free m level free below =
    ap (λ (o : Option DbError). option_or o (if nat_lt level 6 then None else Some error.BadLevel)) free ∙ ap (λ (b : Bool). if b then None else Some error.BadLevel) (lt-ltb level 6 below)

level_bad : (m : Machine) (level : ℕ) → not_serving (status_of m) ≡ None → 6 ≤ level → level_cause (status_of m) level ≡ Some error.BadLevel
level_bad m level free above =
    ap (λ (o : Option DbError). option_or o (if nat_lt level 6 then None else Some error.BadLevel)) free ∙ ap (λ (b : Bool). if b then None else Some error.BadLevel) (le-ltb level 6 above)

module _ {K : Type 0} {g : _} (order : Order) (source : Seen) (ids : Ids) (db : OpenDb K g) where
  pub level_broken : (level : ℕ) → db.broken ≡ true → LeadsOpen order source source ids db db (λ m n. CompactsLevel m level (unit_answer {T = Unit {0}} (Err error.Broken)) n)
  level_broken level is = stays_open order source ids db _ (λ m s.
      by_cause (level_cause (status_of m) level) m error.Broken _
      (ap (λ (o : Option DbError). option_or o (if nat_lt level 6 then None else Some error.BadLevel)) (broken_cause m s.opened (broken_of order source ids db m is s).broken)))

  pub level_refused : (level : ℕ) → db.broken ≡ false → 6 ≤ level → LeadsOpen order source source ids db db (λ m n. CompactsLevel m level (unit_answer {T = Unit {0}} (Err error.BadLevel)) n)
  level_refused level whole above = stays_open order source ids db _ (λ m s.
      by_cause (level_cause (status_of m) level) m error.BadLevel _ (level_bad m level (no_cause m s.opened (serving_of order source ids db m whole s).whole) above))

  pub all_broken : db.broken ≡ true → LeadsOpen order source source ids db db (λ m n. CompactsAll m (unit_answer {T = Unit {0}} (Err error.Broken)) n)
  all_broken is = stays_open order source ids db _ (λ m s. by_cause (not_serving (status_of m)) m error.Broken _ (broken_cause m s.opened (broken_of order source ids db m is s).broken))

module _ {K T : Type 0} {g : _} (order : Order) (old new : Seen) (ids : Ids) (before after : OpenDb K g) (result : Result T DbError) (whole : before.broken ≡ false)
    (step : LeadsOpen order old new ids before after (λ m n. IsPiece m (most_drawn m) result n)) where
  pub level_compacted : (level : ℕ) → level < 6 → LeadsOpen order old new ids before after (λ m n. CompactsLevel m level (unit_answer result) n)
  level_compacted level below = record {
    faithful = step.faithful;
    moved = λ f m s.
        let one = step.moved f m s in
        let free = level_free m level (no_cause m s.opened (serving_of order old ids before m whole s).whole) below in
        (one.0, without_cause (level_cause (status_of m) level) m one.0 (unit_answer result) _ free (denies_none m one.0 (unit_answer result) one.1.failures one.1.denials) (compacted_as m one.0 result one.1), one.2);
  }

  pub all_compacted : LeadsOpen order old new ids before after (λ m n. CompactsAll m (unit_answer result) n)
  all_compacted = record {
    faithful = step.faithful;
    moved = λ f m s.
        let one = step.moved f m s in
        let free = no_cause m s.opened (serving_of order old ids before m whole s).whole in
        (one.0, without_cause (not_serving (status_of m)) m one.0 (unit_answer result) _ free (denies_none m one.0 (unit_answer result) one.1.failures one.1.denials) (compacted_as m one.0 result one.1), one.2);
  }

-- none is open
pub level_closed : (order : Order) (facts : Facts) (ids : Ids) (m : Machine) (level : ℕ) → StandsClosed order facts ids m → CompactsLevel m level (Refused error.NotOpen) m
level_closed order facts ids m level s =
    by_cause (level_cause (status_of m) level) m error.NotOpen _ (ap (λ (o : Option DbError). option_or o (if nat_lt level 6 then None else Some error.BadLevel)) (closed_cause order facts ids m s))

pub all_closed : (order : Order) (facts : Facts) (ids : Ids) (m : Machine) → StandsClosed order facts ids m → CompactsAll m (Refused error.NotOpen) m
all_closed order facts ids m s = by_cause (not_serving (status_of m)) m error.NotOpen _ (closed_cause order facts ids m s)

-- ---- causes

piece_met : (e : DbError) → MayRefusePiece e → IsMet e
piece_met error.OutOfMemory h = tt
piece_met error.Io h = tt
piece_met (error.Corrupt file what) h = tt
piece_met (error.Unsupported what) h = tt
piece_met error.NumbersSpent h = tt
piece_met _ h = absurd h

abbrev SameAnswer : {T : Type 0} → Result T DbError → Result T DbError → Type 0
SameAnswer a b = a ≡ b

refusals_met : {T : Type 0} (result : Result T DbError) → MatchResult result (λ x. Unit {0}) MayRefusePiece → (e : DbError) → SameAnswer result (Err e) → IsMet e
refusals_met (Ok x) may e is = absurd (cc)
refusals_met (Err other) may e is = subst IsMet (let inner : other ≡ e = cc in inner) (piece_met other may)

module _ {S K T : Type 0} {g : _} (db : OpenDb K g) (old new : S) (result : Result T DbError) (whole : db.broken ≡ false) (may : MatchResult result (λ x. Unit {0}) MayRefusePiece) where
  pub all_caused : IsCausedIn (not_serving (open_status no_ids db)) old new result
  all_caused = subst (λ (cause : Option DbError). IsCausedIn cause old new result) (sym (ap (λ (b : Bool). if b then Some error.Broken else None) whole)) (refusals_met result may)

  pub level_caused : (level : ℕ) → level < 6 → IsCausedIn (level_cause (open_status no_ids db) level) old new result
  level_caused level below =
      let free : level_cause (open_status no_ids db) level ≡ None =
      ap (λ (b : Bool). option_or (if b then Some error.Broken else None) (if nat_lt level 6 then None else Some error.BadLevel)) whole ∙ ap (λ (b : Bool). if b then None else Some error.BadLevel) (lt-ltb level 6 below) in
      subst (λ (cause : Option DbError). IsCausedIn cause old new result) (sym free) (refusals_met result may)

module _ {S K : Type 0} {g : _} (db : OpenDb K g) (store : S) (level : ℕ) where
  abbrev Answered : DbError → Result (Unit {0}) DbError
  Answered e = Err e

  pub bad_caused : db.broken ≡ false → 6 ≤ level → IsCausedIn (level_cause (open_status no_ids db) level) store store (Answered error.BadLevel)
  bad_caused whole above =
      let is : level_cause (open_status no_ids db) level ≡ Some error.BadLevel =
      ap (λ (b : Bool). option_or (if b then Some error.Broken else None) (if nat_lt level 6 then None else Some error.BadLevel)) whole ∙ ap (λ (b : Bool). if b then None else Some error.BadLevel) (le-ltb level 6 above) in
      subst (λ (cause : Option DbError). IsCausedIn cause store store (Answered error.BadLevel)) (sym is) (refl, refl)

  pub broken_caused : db.broken ≡ true → IsCausedIn (level_cause (open_status no_ids db) level) store store (Answered error.Broken)
  broken_caused is =
      let cause : level_cause (open_status no_ids db) level ≡ Some error.Broken = ap (λ (b : Bool). option_or (if b then Some error.Broken else None) (if nat_lt level 6 then None else Some error.BadLevel)) is in
      subst (λ (c : Option DbError). IsCausedIn c store store (Answered error.Broken)) (sym cause) (refl, refl)

  pub all_broken_caused : db.broken ≡ true → IsCausedIn (not_serving (open_status no_ids db)) store store (Answered error.Broken)
  all_broken_caused is = subst (λ (c : Option DbError). IsCausedIn c store store (Answered error.Broken)) (sym (ap (λ (b : Bool). if b then Some error.Broken else None) is)) (refl, refl)
