-- That a step ends a compaction exactly if no more entries are left than its budget has.
use Rattle.std.proofs.Common.{◌≡◌, ◌++◌, ◌≤◌, ◌<◌, ℕ, Bool, true, false, List, [], ◌∷◌, length, max, Option, Some, None, IsSome, IsTrue, MatchOption, inl, inr, refl, sym, ap, subst, ◌∙◌, arith, append-nil}
use Rattle.std.proofs.lemmas.List.{length-append}
use Rattle.std.specs.FinMap.{contains_key, get}
use Rattle.std.specs.Option.{option_or}
use Rattle.cache.specs.Tables.{table_at}
use Rattle.compact.specs.declared.job.Progress.{Progress as Merged}
use Rattle.cursor.specs.Places.{Cmp}
use Rattle.directory_writes.proofs.Cleaning.{read_newer}
use Rattle.edits.specs.Names.{IsNumbered, name_of}
use Rattle.edits.specs.declared.names.FileName.TheVariants.{OldTable, Table}
use Rattle.ikey.specs.Entries.{InternalEntry}
use Rattle.ikey.specs.Orders.{Order}
use Rattle.running_job.specs.Running.{CanStep}
use Rattle.running_job.specs.internal.Stepping.{GoesOn}
use Rattle.running_job.specs.declared.open_job.OpenJob.{OpenJob}
use Rattle.memtables.specs.Memories.{Memories}
use Rattle.memtable.specs.Contents.{size_of}
use Rattle.recover.specs.Directory.{Directory}
use Rattle.db_cursor.specs.Whole.{Whole}
use Rattle.table_access.specs.Tables.{Seen}
use Rattle.store.specs.Files.{Files}
use Rattle.versions.specs.Levels.{HasNumber}
use Rattle.versions.specs.Levels.{Placement}
use Rattle.versions.specs.Plans.{IsPicked}
use Rattle.versions.specs.declared.plan.JobPlan.{JobPlan}
use Rattle.engine.specs.declared.ids.Ids.{Ids}
use Rattle.engine.specs.internal.Leading.{LeadsOpen}
use Rattle.engine.specs.OpenDb.{OpenDb, version_of, whole_of}
use Rattle.machine.specs.Machine.{Machine}
use Rattle.opening.specs.Durable.{LeavesFile}
use Rattle.engine.specs.OptionValues.{OptionValues}
use Rattle.engine.specs.Needed.{IsForLive, live_sequences}
use Rattle.engine.specs.WithinBudget.{HasLeftAbove, HasLeftBy, HasLeftUpTo, IsNewJob, StepsBy}
use Rattle.engine.specs.InUse.{IsTableUsed}
use Rattle.engine.specs.Working.{IsAtEase, IsLiveIn, LosesDead}
use Rattle.engine.specs.internal.Pieces.{IsSameMemory}
use Rattle.engine.specs.WrittenTables.{KeepsTableFiles, PutsMerged}
use Rattle.engine.proofs.ExactFiles.{table_numbered}
use Rattle.engine.proofs.NeededEntries.{still_live}
use Rattle.engine.proofs.Opened.{live_stays}
use Rattle.engine.proofs.Steps.{serving_of}
use Rattle.engine.proofs.WorkSteps.{KeepsFlag, stands_whole}

-- all that were left came
pub few_left : {K : Type 0} {g : _} (order : Order) (old : Seen) (mid : Whole) (db : OpenDb K g) (work more : OpenJob K g) (next budget : ℕ) (progress : Merged) → db.job ≡ Some work → progress.ended ≡ true
    → GoesOn order (whole_of old db) mid db.directory.numbers.next next budget work more progress → IsTrue mid.seen.facts.faithful → HasLeftUpTo order old db (max budget 1)
few_left {K} {g} order old mid db work more next budget progress is ended goes f =
    let Few : OpenJob K g → Type 0 = λ one. (d : Directory) (came left : List InternalEntry) → CanStep order (whole_of old db) db.directory.numbers.next d one came left → length left ≤ max budget 1 in
    subst (λ (job : Option (OpenJob K g)). MatchOption job ⊥ Few) (sym is) (λ d came left can.
    let s = goes f d came left can in
    let whole : left ≡ s.0 = s.2 ∙ ap (λ (back : List InternalEntry). s.0 ++ back) (s.3.ended ended) ∙ append-nil s.0 in
    let count = ap (λ (entries : List InternalEntry). length entries) whole in
    let long = s.3.long in
    let most = s.3.most in
    omega (arith, count, long, most))

-- more were left than came
pub more_left : {K : Type 0} {g : _} (order : Order) (old : Seen) (mid : Whole) (db : OpenDb K g) (work more : OpenJob K g) (next budget : ℕ) (progress : Merged) → db.job ≡ Some work → progress.ended ≡ false
    → GoesOn order (whole_of old db) mid db.directory.numbers.next next budget work more progress → IsTrue mid.seen.facts.faithful → HasLeftAbove order old db (max budget 1)
more_left {K} {g} order old mid db work more next budget progress is going goes f =
    let Above : OpenJob K g → Type 0 = λ one. (d : Directory) (came left : List InternalEntry) → CanStep order (whole_of old db) db.directory.numbers.next d one came left → max budget 1 < length left in
    subst (λ (job : Option (OpenJob K g)). MatchOption job ⊥ Above) (sym is) (λ d came left can.
    let s = goes f d came left can in
    let count = ap (λ (entries : List InternalEntry). length entries) s.2 ∙ length-append s.0 s.1 in
    let long = s.3.long in
    let exactly = (s.3.going_on going).0 in
    let some : 0 < length s.1 = not_none s.1 (s.3.going_on going).1 in
    omega (arith, count, long, exactly, some))
  where
    not_none : (entries : List InternalEntry) → (entries ≡ [] → ⊥) → 0 < length entries
    not_none [] none = absurd (none refl)
    not_none (x ∷ entries) none = omega arith

-- ---- the files of its tables

-- those of the tables of the version stay where only what is obsolete is removed
pub tables_stay : {K : Type 0} {g : _} (order : Order) (old new : Seen) (before between : OpenDb K g) → between.tables ≡ before.tables → between.job ≡ before.job → between.iterators ≡ before.iterators → before.broken ≡ false
    → LosesDead old.facts new.facts between → KeepsTableFiles order old new before
tables_stay order old new before between tables job iterators whole loses ids m s number has =
    let numbered = table_numbered order old before m (serving_of order old ids before m whole s.stands) number has in
    let live : IsTableUsed between.tables between.job between.iterators number = inl (inl (subst (HasNumber number) (sym tables) has)) in
    let stays = live_stays old.facts new.facts between loses in
    by numbered live (stays (Table number) numbered live).0 (stays (OldTable number) numbered) (contains_key old.facts.files (name_of (Table number))) refl
  where
    by : IsNumbered number → IsTableUsed between.tables between.job between.iterators number → get new.facts.files (name_of (Table number)) ≡ get old.facts.files (name_of (Table number))
        → (IsLiveIn old.facts.files between (OldTable number) → LeavesFile old.facts new.facts (name_of (OldTable number)))
        → (t : Bool) → contains_key old.facts.files (name_of (Table number)) ≡ t → table_at new.facts.files number ≡ table_at old.facts.files number
    by numbered live newer older true there =
        read_newer (get old.facts.files (name_of (Table number))) (get old.facts.files (name_of (OldTable number))) (get new.facts.files (name_of (Table number))) (get new.facts.files (name_of (OldTable number))) newer there
    by numbered live newer older false absent =
        let same = (older (live, λ has. let clash : true ≡ false = sym has.0 ∙ absent in cc)).0 in
        λ i. option_or (newer i) (same i)

-- ---- where it began

pub steps_itself : {K : Type 0} {g : _} (order : Order) (options : OptionValues) (old new : Seen) (db after : OpenDb K g) (most : ℕ) → db.broken ≡ false → HasLeftBy order old db most after.job → (after.job ≡ None → PutsMerged order old new db after) → StepsBy order options old new db after most
steps_itself order options old new db after most whole left merged = (old, db, record { stands = λ ids m s. (m, s); whole = whole; tables = refl; files = λ ids m s number has. refl; job = inl refl }, left, merged)

module _ {K : Type 0} {g : _} (cmp : Cmp) (options : OptionValues) where
  -- one that was begun by the plan that was picked
  new_job : (db : OpenDb K g) (plan : JobPlan) → IsPicked cmp options.level0_files options.base_bytes (version_of db) plan → (o : Option (OpenJob K g)) → MatchOption o ⊥ (λ work. (work.merged ≡ 0) × (work.job.plan ≡ plan)) → MatchOption o ⊥ (λ work. IsForLive work db)
      → MatchOption o ⊥ (IsNewJob cmp options db)
  new_job db plan picked None begun live = begun
  new_job db plan picked (Some work) begun live = record { none = begun.0; picked = subst (λ (p : JobPlan). IsPicked cmp options.level0_files options.base_bytes (version_of db) p) (sym begun.1) picked; live = live }

  -- it is so for a database of the same version that reads at the same sequence numbers
  new_behind : (between before : OpenDb K g) → version_of between ≡ version_of before → live_sequences before ≡ live_sequences between → (o : Option (OpenJob K g)) → MatchOption o ⊥ (IsNewJob cmp options between) → MatchOption o ⊥ (IsNewJob cmp options before)
  new_behind between before version same None h = h
  new_behind between before version same (Some work) h = record {
    none = h.none;
    picked = subst (λ (v : Placement). IsPicked cmp options.level0_files options.base_bytes v work.job.plan) version h.picked;
    live = still_live work work between before refl same h.live;
  }

-- with a compaction that was begun
pub steps_begun : {K : Type 0} {g : _} (order : Order) (options : OptionValues) (old between new : Seen) (before mid after : OpenDb K g) (most : ℕ) (plan : JobPlan) {P : Machine → Machine → Type 0} → ((ids : Ids) → LeadsOpen order old between ids before mid P) → KeepsFlag P → IsTrue between.facts.faithful
    → mid.broken ≡ false → mid.tables ≡ before.tables → between.facts.files ≡ old.facts.files → before.job ≡ None → MatchOption mid.job ⊥ (λ work. (work.merged ≡ 0) × (work.job.plan ≡ plan)) → MatchOption mid.job ⊥ (λ work. IsForLive work before)
    → IsPicked order.cmp options.level0_files options.base_bytes (version_of before) plan → HasLeftBy order between mid most after.job → (after.job ≡ None → PutsMerged order between new mid after) → StepsBy order options old new before after most
steps_begun order options old between new before mid after most plan leads flag f whole tables files none begun live picked left merged = (
  between,
  mid,
  record {
    stands = λ ids m s. let one = (leads ids).moved f m s.stands in (one.0, stands_whole order between ids mid m one.0 s.undamaged (flag m one.0 one.1) one.2);
    whole = whole;
    tables = tables;
    files = λ ids m s number has. ap (λ (there : Files). table_at there number) files;
    job = inr (none, new_job order.cmp options before plan picked mid.job begun live);
  },
  left,
  merged,
)

-- after a piece that leaves tables and compaction
pub steps_behind : {K : Type 0} {g : _} (order : Order) (options : OptionValues) (old mid new : Seen) (before between after : OpenDb K g) (most : ℕ) {P : Machine → Machine → Type 0} → ((ids : Ids) → LeadsOpen order old mid ids before between P) → KeepsFlag P → IsTrue mid.facts.faithful
    → version_of between ≡ version_of before → live_sequences before ≡ live_sequences between → between.job ≡ before.job → KeepsTableFiles order old mid before → StepsBy order options mid new between after most → StepsBy order options old new before after most
steps_behind {K} {g} order options old mid new before between after most leads flag f version sequences same files inner =
    let tables = ap (λ (v : Placement). v.tables) version in (
      inner.0,
      inner.1,
      record {
        stands = λ ids m s. let one = (leads ids).moved f m s.stands in inner.2.stands ids one.0 (stands_whole order mid ids between m one.0 s.undamaged (flag m one.0 one.1) one.2);
        whole = inner.2.whole;
        tables = inner.2.tables ∙ tables;
        files = λ ids m s number has.
            let one = (leads ids).moved f m s.stands in
            inner.2.files ids one.0 (stands_whole order mid ids between m one.0 s.undamaged (flag m one.0 one.1) one.2) number (subst (HasNumber number) (sym tables) has) ∙ files ids m s number has;
        job = elim inner.2.job [ inl is ↦ inl (is ∙ same) | inr begun ↦ inr (sym same ∙ begun.0, new_behind order.cmp options between before version sequences inner.1.job begun.1) ];
      },
      inner.3,
      inner.4,
    )

-- ---- when it is asked

pub at_ease_on : {K : Type 0} {g : _} (options : OptionValues) (before : OpenDb K g) (memory : Memories) → IsSameMemory before.memory memory → IsAtEase options before → IsAtEase options (record before { memory = memory })
at_ease_on options before memory same h = record {
  idle = h.idle;
  none = same.sealed ∙ h.none;
  small = (let size : size_of memory.current.inserts ≡ size_of before.memory.current.inserts = ap (λ c. size_of c.inserts) same.current in let least = h.small in omega (arith, size, least));
}

pub not_some : {X : Type 0} (o : Option X) → o ≡ None → IsSome o → ⊥
not_some None is some = cc
not_some (Some x) is some = cc
