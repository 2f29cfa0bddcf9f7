-- Where a call breaks the database.
use Rattle.std.proofs.Common.{◌≡◌, ◌<◌, ◌≤◌, ℕ, List, Bool, true, false, Option, Some, None, Result, Ok, Err, refl, sym, ap, subst, ◌∙◌, arith, inl, inr}
use Rattle.std.specs.Bool.{nat_eq}
use Rattle.std.proofs.lemmas.Bool.{cases_order, eqb-true, eqb-false}
use Rattle.coding.specs.declared.error.DbError.{DbError}
use Rattle.coding.specs.declared.error.DbError.TheVariants as error
use Rattle.directory_writes.specs.internal.Flush.{RefusesFlush, RefusesNewTable}
use Rattle.directory_writes.specs.declared.flush.FlushError.{FlushError}
use Rattle.directory_writes.specs.declared.flush.FlushError.TheVariants.{Before, Edit}
use Rattle.directory_writes.specs.declared.manifest.CurrentManifest.{CurrentManifest}
use Rattle.edits.specs.declared.field.PlacedTable.{PlacedTable}
use Rattle.edits.specs.declared.numbers.FileNumbers.{FileNumbers}
use Rattle.ikey.specs.Orders.{Order}
use Rattle.ikey.specs.declared.entry.Entry.{Entry}
use Rattle.memtables.specs.Memories.{Memories}
use Rattle.recover.specs.Reading.{IsErrorCounted}
use Rattle.running_job.specs.internal.Ending.{RefusesEnd}
use Rattle.running_job.specs.declared.open_job.OpenJob.{OpenJob}
use Rattle.store.specs.Calls.{FailsAsWrite, FailsNoWrite, FailsSome}
use Rattle.store.specs.Files.{Facts, Files}
use Rattle.table_access.specs.Tables.{Seen}
use Rattle.machine.specs.Machine.{Machine}
use Rattle.machine.specs.declared.command.Answer.{Answer}
use Rattle.machine.specs.declared.command.Answer.TheVariants.{Refused}
use Rattle.machine.specs.Upkeep.{UpkeepRefused}
use Rattle.engine.specs.Breaking.{BreaksExactly, BreaksOpen}
use Rattle.engine.specs.OpenDb.{OpenDb, open_db}
use Rattle.engine.specs.Outcomes.{DbOutcome, IsSame}
use Rattle.engine.specs.declared.ids.Ids.{Ids}
use Rattle.engine.specs.declared.state.DbState.{DbState}
use Rattle.engine.specs.internal.Directory.{IsAtRest}
use Rattle.engine.specs.internal.JobsToEnd.{ServesOn}
use Rattle.engine.specs.internal.Leading.{LeadsOpen}
use Rattle.engine.specs.internal.Pieces.{IsPiece, MayRefusePiece, broken_by, flush_answer, refused_as, settled_as, settled_by}
use Rattle.engine.proofs.Steps.{at_rest}

-- ---- counts

-- where no call failed, none failed that writes
pub unwritten : (old new : Facts) → FailsSome old new → new.failures ≡ old.failures → FailsNoWrite old new
unwritten old new some stood = omega (arith, some.0, some.1, stood)

pub some_as : (old new : Facts) → old.failures ≤ new.failures → FailsAsWrite old new → FailsSome old new
some_as old new rise all = (omega (arith, rise, all), omega (arith, all))

pub as_unwritten : (old new : Facts) → FailsAsWrite old new → new.failures ≡ old.failures → FailsNoWrite old new
as_unwritten old new all stood = omega (arith, all, stood)

pub as_written : (old new : Facts) → FailsAsWrite old new → old.failures < new.failures → old.write_failures < new.write_failures
as_written old new all rose = omega (arith, all, rose)

-- the same after calls that didn't fail
pub some_behind : (old mid new : Facts) → FailsNoWrite old mid → mid.failures ≡ old.failures → FailsSome mid new → FailsSome old new
some_behind old mid new none stood some = (omega (arith, none, some.0), omega (arith, none, stood, some.1))

differs : (m n : ℕ) → (n ≡ m → ⊥) → m ≤ n → m < n
differs m n apart rise = elim (cases_order m n) [
  | inl same ↦ absurd (apart (sym same))
  | inr other ↦ elim other [ inl less ↦ less | inr more ↦ absurd (omega (arith, rise, more)) ]
]

-- where the count is another, it has risen, and with it that of all failures
pub rose : (old new : Facts) (failed : ℕ) → failed ≡ old.write_failures → FailsSome old new → nat_eq new.write_failures failed ≡ false → old.write_failures < new.write_failures
rose old new failed is some other = differs old.write_failures new.write_failures (λ same. eqb-false new.write_failures failed other (same ∙ sym is)) some.0

pub rose_all : (old new : Facts) (failed : ℕ) → failed ≡ old.write_failures → FailsSome old new → nat_eq new.write_failures failed ≡ false → old.failures < new.failures
rose_all old new failed is some other = (let more = rose old new failed is some other in omega (arith, some.1, more))

pub stayed : (old new : Facts) (failed : ℕ) → failed ≡ old.write_failures → nat_eq new.write_failures failed ≡ true → FailsNoWrite old new
stayed old new failed is same = eqb-true new.write_failures failed same ∙ is

-- a failure that is one of a write shows in its count
pub shows : (old new : Facts) (failed : ℕ) → failed ≡ old.write_failures → FailsAsWrite old new → old.failures < new.failures → (b : Bool) → nat_eq new.write_failures failed ≡ b → b ≡ false
shows old new failed is all rose true same = absurd (let still = stayed old new failed is same in omega (arith, all, rose, still))
shows old new failed is all rose false same = refl

-- ---- what a call leaves

-- one that leaves it whole
pub unbroken : {P : Type 0} (old new : Facts) (b : Bool) → b ≡ false → FailsNoWrite old new → BreaksExactly old new b P
unbroken old new b whole same = record { broken = λ is. absurd (let both : true ≡ false = sym is ∙ whole in cc); whole = λ _. same }

pub broken_now : {P : Type 0} (old new : Facts) (b : Bool) → b ≡ true → old.write_failures < new.write_failures → P → BreaksExactly old new b P
broken_now old new b broken rose io = record { broken = λ _. (rose, io); whole = λ is. absurd (let both : true ≡ false = sym broken ∙ is in cc) }

pub serves_breaks : {P K : Type 0} {g : _} (old new : Facts) (before after : OpenDb K g) → ServesOn old new before after → BreaksExactly old new after.broken P
serves_breaks old new before after h = unbroken old new after.broken h.whole h.unwritten

-- one after others in which no write failed
pub breaks_then : {P Q : Type 0} (old mid new : Facts) (b : Bool) → FailsNoWrite old mid → (P → Q) → BreaksExactly mid new b P → BreaksExactly old new b Q
breaks_then old mid new b none so h = record {
  broken = λ is. let both = h.broken is in ((let more = both.0 in omega (arith, none, more)), so both.1);
  whole = λ is. h.whole is ∙ none;
}

pub breaks_as : {P Q : Type 0} (old new : Facts) (b : Bool) → (P → Q) → BreaksExactly old new b P → BreaksExactly old new b Q
breaks_as old new b so h = record { broken = λ is. let both = h.broken is in (both.0, so both.1); whole = h.whole }

abbrev Same : {T : Type 0} → Result T DbError → Result T DbError → Type 0
Same a b = a ≡ b

abbrev pub IsIo : {T : Type 0} → Result T DbError → Type 0
IsIo r = r ≡ Err error.Io

-- one that is done isn't refused
pub is_done : {T P : Type 0} (x : T) → IsIo (Ok x) → P
is_done x is = absurd (let never : ⊥ = cc in never)

inner : {T : Type 0} (e x : DbError) → Same {T = T} (Err e) (Err x) → e ≡ x
inner e x is = cc

-- a refusal that is handed on
pub handed_on : {T U : Type 0} (e : DbError) (r : Result U DbError) → r ≡ Err e → IsIo {T = T} (Err e) → IsIo r
handed_on {T} e r is io = is ∙ ap (λ (x : DbError). Err x) (inner {T = T} e error.Io io)

-- the same holds if a file couldn't be removed either
pub refused_io : {T U : Type 0} (complete : Bool) (e r : DbError) → r ≡ refused_as complete e → IsIo {T = T} (Err e) → IsIo {T = U} (Err r)
refused_io {T} complete e r is io = ap (λ (x : DbError). Err x) (is ∙ ap (refused_as complete) (inner {T = T} e error.Io io))

-- ---- a refusal that is settled

pub breaks_settled : {T K : Type 0} {g : _} (old new : Facts) (failed : ℕ) (state : DbState K g) (e : DbError) → failed ≡ old.write_failures → FailsSome old new → state.broken ≡ false
    → (b : Bool) → nat_eq new.write_failures failed ≡ b → BreaksExactly old new (settled_by b state).broken (IsIo {T = T} (Err (settled_as b e)))
breaks_settled old new failed state e is some whole true same = unbroken old new state.broken whole (stayed old new failed is same)
breaks_settled old new failed state e is some whole false other = broken_now old new true refl (rose old new failed is some other) refl

-- the machine is broken then
as_io : (m n : Machine) (most : ℕ) (e : DbError) → m.failures < n.failures → UpkeepRefused m most e n → UpkeepRefused m most error.Io (record n { broken = true })
as_io m n most error.OutOfMemory rise h = (rise, h.0, ap (λ (x : Machine). record x { broken = true }) h.1)
as_io m n most error.Io rise h = (rise, h.1, ap (λ (x : Machine). record x { broken = true }) h.2)
as_io m n most error.NumbersSpent rise h = (rise, h.1.0, ap (λ (x : Machine). record x { broken = true }) h.1.1)
as_io m n most (error.Corrupt file what) rise h = (rise, h.1.0, ap (λ (x : Machine). record x { broken = true }) h.1.1)
as_io m n most (error.Unsupported limit) rise h = (rise, h.1.0, ap (λ (x : Machine). record x { broken = true }) h.1.1)
as_io m n most _ rise h = absurd h

rests_broken : (order : Order) (files : Files) (m : Machine) → IsAtRest order files m → IsAtRest order files (record m { broken = true })
rests_broken order files m rest = record { ideal = rest.ideal; origin = rest.origin; meaning = rest.meaning; readable = (let r = rest.readable in record { made = r.made; numbers = r.numbers; limits = r.limits }) }

module _ {K : Type 0} {g : _} (order : Order) (old new : Seen) (ids : Ids) (before : OpenDb K g) where
  breaks_behind : {T : Type 0} (after : OpenDb K g) (most : ℕ) (e : DbError) → old.facts.failures < new.facts.failures → LeadsOpen order old new ids before after (λ m n. IsPiece {T = T} m most (Err e) n)
      → LeadsOpen order old new ids before (record after { broken = true }) (λ m n. IsPiece {T = T} m most (Err error.Io) n)
  breaks_behind after most e rise step = record {
    faithful = step.faithful;
    moved = λ f m s.
        let one = step.moved f m s in
        let was = s.counts.failures in
        let is = one.2.counts.failures in (
          record one.0 { broken = true },
          record { failures = one.1.failures; denials = one.1.denials; what = as_io m one.0 most e (omega (arith, was, is, rise)) one.1.what },
          record {
            counts = record { failures = one.2.counts.failures; denials = one.2.counts.denials };
            ids = one.2.ids;
            reached = one.2.reached;
            opened = one.2.opened;
            rest = record { broken = refl; rest = rests_broken order new.facts.files one.0 (at_rest order after.broken new after one.0 one.2.rest) };
          },
        );
  }

  -- a refusal that left it whole
  pub settles : {T : Type 0} (memory : Memories) (state : DbState K g) (most : ℕ) (e : DbError) (b : Bool) → (b ≡ false → old.facts.failures < new.facts.failures)
      → LeadsOpen order old new ids before (open_db memory state) (λ m n. IsPiece {T = T} m most (Err e) n) → LeadsOpen order old new ids before (open_db memory (settled_by b state)) (λ m n. IsPiece {T = T} m most (Err (settled_as b e)) n)
  settles memory state most e true rise step = step
  settles memory state most e false rise step = breaks_behind (open_db memory state) most e (rise refl) step

  -- one that broke it where it is Io
  pub settles_broken : {T : Type 0} (memory : Memories) (state : DbState K g) (most : ℕ) (e : DbError) (b : Bool) → (e ≡ error.Io → b ≡ false) → (b ≡ false → old.facts.failures < new.facts.failures)
      → LeadsOpen order old new ids before (open_db memory (broken_by state e)) (λ m n. IsPiece {T = T} m most (Err e) n) → LeadsOpen order old new ids before (open_db memory (settled_by b state)) (λ m n. IsPiece {T = T} m most (Err (settled_as b e)) n)
  settles_broken memory state most error.Io true shown rise step = absurd (let both : true ≡ false = shown refl in cc)
  settles_broken memory state most error.Io false shown rise step = step
  settles_broken memory state most _ true shown rise step = step
  settles_broken memory state most _ false shown rise step = breaks_behind (open_db memory state) most _ (rise refl) step

module _ {K : Type 0} {g : _} (old new : Facts) (before : OpenDb K g) where
  outcome_behind : {T : Type 0} (after : OpenDb K g) (e : DbError) → old.failures < new.failures → DbOutcome {T = T} MayRefusePiece old new before after (Err e) → DbOutcome {T = T} MayRefusePiece old new before (record after { broken = true }) (Err error.Io)
  outcome_behind {T} after e rise h = record {
    failures = h.failures;
    denials = h.denials;
    io = λ _. rise;
    memory = λ is. absurd (let bad : error.Io ≡ error.OutOfMemory = inner {T = T} error.Io error.OutOfMemory is in cc);
    allowed = tt;
    refused = ((let same = h.refused.0 in record { entries = same.entries; sequence = same.sequence; tables = same.tables; log = same.log; snapshots = same.snapshots; iterators = same.iterators }), inr (refl, rise));
  }

  pub outcome_settles : {T : Type 0} (memory : Memories) (state : DbState K g) (e : DbError) (b : Bool) → (b ≡ false → old.failures < new.failures) → DbOutcome {T = T} MayRefusePiece old new before (open_db memory state) (Err e)
      → DbOutcome {T = T} MayRefusePiece old new before (open_db memory (settled_by b state)) (Err (settled_as b e))
  outcome_settles memory state e true rise h = h
  outcome_settles memory state e false rise h = outcome_behind (open_db memory state) e (rise refl) h

  pub outcome_settles_broken : {T : Type 0} (memory : Memories) (state : DbState K g) (e : DbError) (b : Bool) → (e ≡ error.Io → b ≡ false) → (b ≡ false → old.failures < new.failures) → DbOutcome {T = T} MayRefusePiece old new before (open_db memory (broken_by state e)) (Err e)
      → DbOutcome {T = T} MayRefusePiece old new before (open_db memory (settled_by b state)) (Err (settled_as b e))
  outcome_settles_broken memory state error.Io true shown rise h = absurd (let both : true ≡ false = shown refl in cc)
  outcome_settles_broken memory state error.Io false shown rise h = h
  outcome_settles_broken memory state _ true shown rise h = h
  outcome_settles_broken memory state _ false shown rise h = outcome_behind (open_db memory state) _ (rise refl) h

-- ---- a flush that is refused

module _ {K : Type 0} {g : _} (old new : Facts) (state : DbState K g) (memory : Memories) (numbers : FileNumbers) (rise : old.failures ≤ new.failures) (undenied : new.denials ≡ old.denials) where
  abbrev drawn : DbState K g
  drawn = record state { directory = record state.directory { numbers = numbers } }

  same : IsSame (open_db memory state) (open_db memory drawn)
  same = record { entries = refl; sequence = refl; tables = refl; log = refl; snapshots = λ q. refl; iterators = λ q. refl }

  kept : {T : Type 0} (x : DbError) → (x ≡ error.Io → ⊥) → (x ≡ error.OutOfMemory → new.failures ≡ old.failures) → MayRefusePiece x → DbOutcome {T = T} MayRefusePiece old new (open_db memory state) (open_db memory drawn) (Err x)
  kept {T} x other stood may = record {
    failures = rise;
    denials = undenied;
    io = λ is. absurd (other (inner {T = T} x error.Io is));
    memory = λ is. stood (inner {T = T} x error.OutOfMemory is);
    allowed = may;
    refused = (same, inl refl);
  }

  failed : {T : Type 0} → old.failures < new.failures → DbOutcome {T = T} MayRefusePiece old new (open_db memory state) (open_db memory (record drawn { broken = true })) (Err error.Io)
  failed {T} rose = record {
    failures = rise;
    denials = undenied;
    io = λ _. rose;
    memory = λ is. absurd (let bad : error.Io ≡ error.OutOfMemory = inner {T = T} error.Io error.OutOfMemory is in cc);
    allowed = tt;
    refused = (record { entries = refl; sequence = refl; tables = refl; log = refl; snapshots = λ q. refl; iterators = λ q. refl }, inr (refl, rose));
  }

  pub unflushed_outcome : {T : Type 0} (entries : List Entry) (tables : List PlacedTable) (next after : ℕ) (e : FlushError) → RefusesFlush e old new entries tables next after
      → DbOutcome {T = T} MayRefusePiece old new (open_db memory state) (open_db memory (broken_by drawn (flush_answer e))) (Err (flush_answer e))
  unflushed_outcome entries tables next after (Before error.OutOfMemory) h = kept error.OutOfMemory (λ is. cc) (λ is. h) tt
  unflushed_outcome entries tables next after (Before error.Io) h = failed h
  unflushed_outcome entries tables next after (Before (error.Unsupported what)) h = kept (error.Unsupported what) (λ is. cc) (λ is. absurd (cc)) tt
  unflushed_outcome entries tables next after (Before (error.Corrupt file what)) h = kept (error.Corrupt file what) (λ is. cc) (λ is. absurd (cc)) tt
  unflushed_outcome entries tables next after (Before error.NumbersSpent) h = kept error.NumbersSpent (λ is. cc) (λ is. absurd (cc)) tt
  unflushed_outcome entries tables next after (Before _) h = absurd h
  unflushed_outcome entries tables next after Edit h = failed h

pub flush_io : (old new : Facts) (entries : List Entry) (tables : List PlacedTable) (next after : ℕ) (e : FlushError) → RefusesFlush e old new entries tables next after → flush_answer e ≡ error.Io → old.failures < new.failures
flush_io old new entries tables next after (Before e) h is = subst (λ (x : DbError). RefusesNewTable x old new entries tables next after) is h
flush_io old new entries tables next after Edit h is = h

pub end_io : {K : Type 0} {g : _} (order : Order) (old new : Facts) (next sequence : ℕ) (manifest : CurrentManifest) (tables : List PlacedTable) (work : OpenJob K g) (e : FlushError) → RefusesEnd order old new next sequence manifest tables work e → flush_answer e ≡ error.Io → old.failures < new.failures
end_io order old new next sequence manifest tables work (Before error.Io) h is = h
end_io order old new next sequence manifest tables work Edit h is = h
end_io order old new next sequence manifest tables work (Before error.OutOfMemory) h is = absurd (cc)
end_io order old new next sequence manifest tables work (Before (error.Corrupt file what)) h is = absurd (cc)
end_io order old new next sequence manifest tables work (Before (error.Unsupported what)) h is = absurd (cc)
end_io order old new next sequence manifest tables work (Before error.NumbersSpent) h is = absurd (cc)
end_io order old new next sequence manifest tables work (Before _) h is = absurd h

-- ---- a call that only writes, and answers Io exactly where it failed

pub breaks_counted : {T K : Type 0} {g : _} (old new : Facts) (state : DbState K g) (e : DbError) → state.broken ≡ false → FailsAsWrite old new → IsErrorCounted e old new → BreaksExactly old new (broken_by state e).broken (IsIo {T = T} (Err e))
breaks_counted old new state error.Io whole all rose = broken_now old new true refl (as_written old new all rose) refl
breaks_counted old new state _ whole all stood = unbroken old new state.broken whole (as_unwritten old new all stood)

-- ---- in a session

pub breaks_none : {K : Type 0} {g : _} (old new : Facts) (before after : Option (OpenDb K g)) (answer : Answer) → before ≡ None → BreaksOpen old new before after answer
breaks_none {K} {g} old new before after answer none = subst (λ (o : Option (OpenDb K g)). BreaksOpen old new o after answer) (sym none) tt

pub breaks_closed : {K : Type 0} {g : _} (old new : Facts) (before after : Option (OpenDb K g)) (answer : Answer) → after ≡ None → BreaksOpen old new before after answer
breaks_closed {K} {g} old new before after answer none = subst (λ (o : Option (OpenDb K g)). BreaksOpen old new before o answer) (sym none) (at before)
  where
    at : (o : Option (OpenDb K g)) → BreaksOpen old new o None answer
    at None = tt
    at (Some db) = tt

pub breaks_open : {K : Type 0} {g : _} (old new : Facts) (before after : Option (OpenDb K g)) (db more : OpenDb K g) (answer : Answer) → before ≡ Some db → after ≡ Some more
    → (db.broken ≡ false → BreaksExactly old new more.broken (answer ≡ Refused error.Io)) → BreaksOpen old new before after answer
breaks_open {K} {g} old new before after db more answer is stays h =
    subst (λ (o : Option (OpenDb K g)). BreaksOpen old new o after answer) (sym is) (subst (λ (o : Option (OpenDb K g)). BreaksOpen old new (Some db) o answer) (sym stays) h)

-- a command that leaves all as it is
pub breaks_itself : {K : Type 0} {g : _} (facts : Facts) (before : Option (OpenDb K g)) (answer : Answer) → BreaksOpen facts facts before before answer
breaks_itself facts None answer = tt
breaks_itself facts (Some db) answer = λ whole. unbroken facts facts db.broken whole refl

-- what refuses with Io is answered so
pub told_io : {T : Type 0} (e : DbError) → IsIo {T = T} (Err e) → Refused e ≡ Refused error.Io
told_io {T} e io = ap Refused (inner {T = T} e error.Io io)
