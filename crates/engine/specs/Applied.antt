-- All that is said of a command in a session, and of a list of commands.
use Rattle.std.specs.Prelude.{◌≡◌, ◌⊎◌, ◌≤◌, ℕ, Bool, false, IsTrue, IsSome, map, string_bytes, Option, Some, None, List, [], ◌∷◌, Result, Ok, Err}
use Rattle.batch.specs.declared.operation.Operation.{Operation}
use Rattle.coding.specs.declared.error.DbError.{DbError}
use Rattle.cursor.specs.Places.{Cmp}
use Rattle.store.specs.Files.{Facts}
use Rattle.ikey.specs.Orders.{Order}
use Rattle.machine.specs.declared.command.Op.{Op}
use Rattle.machine.specs.declared.command.Op.TheVariants.{Open, Get, Work, CompactLevel, CompactAll, Close}
use Rattle.machine.specs.declared.command.Answer.{Answer}
use Rattle.machine.specs.declared.command.Answer.TheVariants.{Done, Value, Worked, Refused}
use Rattle.machine.specs.declared.command.Answer.TheVariants as answer
use Rattle.memtable.specs.Contents.{size_of}
use Rattle.engine.specs.ExactFiles.{LeavesExactlyLive}
use Rattle.memtables.specs.Memories.{IsAlone}
use Rattle.memtables.specs.Places.{LeavesMemories}
use Rattle.engine.specs.OpenDb.{OpenDb}
use Rattle.engine.specs.InUse.{HasUsedMemory}
use Rattle.machine.specs.Machine.{Machine}
use Rattle.engine.specs.Needed.{HasOnlyNeeded}
use Rattle.engine.specs.Stands.{StandsWholeIn, store_of, open_in, options_of, seen_in}
use Rattle.table_access.specs.Tables.{Seen}
use Rattle.engine.specs.StandsDb.{db_store_of, open_by, seen_by}
use Rattle.engine.specs.declared.work.Progress.{Progress}
use Rattle.engine.specs.declared.work.Progress.TheVariants.{Idle}
use Rattle.engine.specs.declared.work.Progress.TheVariants as progress
use Rattle.engine.specs.OptionValues.{OptionValues}
use Rattle.engine.specs.Finishing.{CompactOutcome, IsAllCompacted, IsLevelEmpty, MovesLevel}
use Rattle.engine.specs.WithinBudget.{EndsWithin}
use Rattle.engine.specs.WrittenTables.{FlushesSealed, MergesLevel}
use Rattle.engine.specs.Working.{WantsCompaction, DoesWork, HasLiveOnly, LosesDead, HasNoWork}
use Rattle.engine.specs.declared.session.Session.{Session}
use Rattle.engine.specs.declared.db.Db.{Db}
use Rattle.engine.specs.Reads.{sequence_at, ReadsMemory}
use Rattle.machine.specs.Step.{Step}
use Rattle.engine.specs.Follows.{Follows}
use Rattle.engine.specs.Outcomes.{IsAnswerTo, Outcome, Succeeds, keeps_of, stood_of}
use Rattle.machine.specs.Causes.{Status, cause_of}
use Rattle.engine.specs.Opened.{OpenedTidy}
use Rattle.engine.specs.Causes.{IsCaused, IsCausedIn, open_status, status_in}
use Rattle.engine.specs.Losses.{LosesBy}
use Rattle.engine.specs.OpenedWith.{FreshBy}
use Rattle.engine.specs.Reopening.{KeepsLogsBy, LosesOnBy, SessionKeepsFound}
use Rattle.engine.specs.Stops.{StopsBy}
use Rattle.store.specs.Losses.{SyncsBeginnings}
use Rattle.engine.specs.Touching.{SyncsLog, LeavesStore, CloseTouches, Touches}
use Rattle.engine.specs.Telling.{CommandTells}

-- ---- of one command

-- A value that a get answers is what the newest entry of the key in memory put, as far as the read
-- sees.
abbrev pub IsRead : {K : Type 0} {g : _} → List ℕ → Option ℕ → Option (OpenDb K g) → Answer → Type 0
IsRead key snapshot None (Value value) = ⊥
IsRead key snapshot (Some db) (Value value) = (sequence : ℕ) × (sequence_at db snapshot ≡ Some sequence) × ReadsMemory db sequence key value
IsRead key snapshot state _ = Unit {0}

-- Work is done if a compaction is under way, a memtable is sealed or full, or a level wants a
-- compaction; else there is none.
abbrev pub ShowsWork : {K : Type 0} {g : _} → OptionValues → Option (OpenDb K g) → Answer → Type 0
ShowsWork options (Some db) Worked =
    IsSome db.job ⊎ IsSome db.memory.sealed ⊎ (options.write_buffer ≤ size_of db.memory.current.inserts) ⊎ ((level : ℕ) × WantsCompaction options db level)
ShowsWork options (Some db) answer.Idle = HasNoWork options db
ShowsWork options state _ = Unit {0}

abbrev pub Shows : {K : Type 0} {g : _} → OptionValues → Op → Option (OpenDb K g) → Answer → Type 0
Shows options (Get key snapshot) state answer = IsRead key snapshot state answer
Shows options (Work budget) state answer = ShowsWork options state answer
Shows options _ state answer = Unit {0}

-- After a compaction of a level that level has no tables; after one of all, all tables stand in the
-- last level, and nothing is in memory.
abbrev pub EmptiesLevel : {K : Type 0} {g : _} → ℕ → Option (OpenDb K g) → Answer → Type 0
EmptiesLevel level (Some db) Done = IsLevelEmpty level db
EmptiesLevel level None Done = Unit {0}
EmptiesLevel level state _ = Unit {0}

abbrev pub CompactsWhole : {K : Type 0} {g : _} → Option (OpenDb K g) → Answer → Type 0
CompactsWhole (Some db) Done = IsAllCompacted db
CompactsWhole None Done = Unit {0}
CompactsWhole state _ = Unit {0}

abbrev pub Leaves : {K : Type 0} {g : _} → Op → Option (OpenDb K g) → Answer → Type 0
Leaves (CompactLevel level) state answer = EmptiesLevel level state answer
Leaves CompactAll state answer = CompactsWhole state answer
Leaves _ state answer = Unit {0}

-- While the store is faithful, the tables have only what is needed after a compaction of all, in
-- each state that the session could be in.
abbrev pub LeavesOnly : {K : Type 0} {g : _} → Order → Facts → (Machine → Type 0) → Option (OpenDb K g) → Answer → Type 0
LeavesOnly order facts before (Some db) Done = IsTrue facts.faithful → (m : Machine) → before m → HasOnlyNeeded order facts.files db m
LeavesOnly order facts before None Done = Unit {0}
LeavesOnly order facts before state _ = Unit {0}

abbrev pub KeepsOnly : {K : Type 0} {g : _} → Op → Order → Facts → (Machine → Type 0) → Option (OpenDb K g) → Answer → Type 0
KeepsOnly CompactAll order facts before state answer = LeavesOnly order facts before state answer
KeepsOnly _ order facts before state answer = Unit {0}

-- No database is open after a close.
abbrev pub Shuts : {K : Type 0} {g : _} → Op → Option (OpenDb K g) → Type 0
Shuts Close state = state ≡ None
Shuts _ state = Unit {0}

-- What a call of work promises beside its step: which piece of work it was, how far it brought a
-- compaction, and what a table has that it wrote of a memtable. If there was none, the files are
-- exactly those in use, unless one couldn't be removed, and no obsolete memtable is kept.
pub record DoneWork {K : Type 0} {g : _} (order : Order) (options : OptionValues) (budget : ℕ) (old new : Seen) (before after : OpenDb K g) (result : Result Progress DbError) : Type 0 where
  pub does : DoesWork order.cmp options budget before after result
  pub within : EndsWithin order options budget old new before after result
  pub flushes : FlushesSealed order old new before after result
  pub tidy : result ≡ Ok Idle → IsTrue new.facts.faithful → new.facts.failures ≡ old.facts.failures → HasLiveOnly new.facts.files after
  pub removes : result ≡ Ok Idle → IsTrue new.facts.faithful → LosesDead old.facts new.facts after
  pub exact : LeavesExactlyLive order old new before after result
  pub dropped : result ≡ Ok Idle → HasUsedMemory after.memory after.iterators

-- the same of a command to work, where a database is open
abbrev pub WorksIn : {K : Type 0} {g : _} → Order → OptionValues → ℕ → Seen → Seen → Option (OpenDb K g) → Option (OpenDb K g) → Answer → Type 0
WorksIn order options budget old new None state answer = Unit {0}
WorksIn order options budget old new (Some before) (Some after) Worked = DoneWork order options budget old new before after (Ok progress.Worked)
WorksIn order options budget old new (Some before) (Some after) answer.Idle = DoneWork order options budget old new before after (Ok Idle)
WorksIn order options budget old new (Some before) (Some after) (Refused error) = DoneWork order options budget old new before after (Err error)
WorksIn order options budget old new (Some before) state _ = ⊥

-- What a compaction of a level promises that has succeeded: where its tables went, and which of
-- their entries.
pub record DoneLevel {K : Type 0} {g : _} (order : Order) (level : ℕ) (old new : Seen) (before after : OpenDb K g) : Type 0 where
  pub moves : MovesLevel order.cmp level before after
  pub merges : MergesLevel order level old new before after

abbrev pub LevelAnswered : {K : Type 0} {g : _} → Order → ℕ → Seen → Seen → OpenDb K g → OpenDb K g → Answer → Type 0
LevelAnswered order level old new before after Done = DoneLevel order level old new before after
LevelAnswered order level old new before after _ = Unit {0}

-- The same of the command. Whether it succeeds or fails, no entry of a memtable is touched.
abbrev pub LevelIn : {K : Type 0} {g : _} → Order → ℕ → Seen → Seen → Option (OpenDb K g) → Option (OpenDb K g) → Answer → Type 0
LevelIn order level old new (Some before) (Some after) answer = LeavesMemories before.memory after.memory × LevelAnswered order level old new before after answer
LevelIn order level old new (Some before) None answer = ⊥
LevelIn order level old new None state Done = ⊥
LevelIn order level old new None state _ = Unit {0}

abbrev pub WorksAs : {K : Type 0} {g : _} → Op → Order → OptionValues → Seen → Seen → Option (OpenDb K g) → Option (OpenDb K g) → Answer → Type 0
WorksAs (Open mode) order options old new before after answer = OpenedTidy old new after answer
WorksAs (Work budget) order options old new before after answer = WorksIn order options budget old new before after answer
WorksAs (CompactLevel level) order options old new before after answer = LevelIn order level old new before after answer
WorksAs _ order options old new before after answer = Unit {0}

-- ---- of two sessions

abbrev pub CausedBy : {S K : Type 0} {g : _} → (Status → Option DbError) → Session S K g → Session S K g → Answer → Type 0
CausedBy cause old new answer = IsCaused (cause (status_in old.ids (open_in old))) (store_of old) (store_of new) answer

abbrev pub TouchedBy : {S K : Type 0} {g : _} → (Option (OpenDb K g) → Facts → Facts → Answer → Type 0) → (S → Facts) → Session S K g → Session S K g → Answer → Type 0
TouchedBy touches facts old new answer = touches (open_in old) (facts (store_of old)) (facts (store_of new)) answer

abbrev pub ToldBy : {S K : Type 0} {g : _} → Op → Order → (S → Facts) → Session S K g → Session S K g → Answer → Type 0
ToldBy op order facts old new answer = CommandTells op order (open_in old) (facts (store_of old)) (facts (store_of new)) answer

abbrev pub WorkDoneBy : {S K : Type 0} {g : _} → Op → Order → (S → Facts) → Session S K g → Session S K g → Answer → Type 0
WorkDoneBy op order facts old new answer = WorksAs op order old.options (seen_in facts old) (seen_in facts new) (open_in old) (open_in new) answer

abbrev pub ShownBy : {S K : Type 0} {g : _} → Op → Session S K g → Answer → Type 0
ShownBy op old answer = Shows old.options op (open_in old) answer

abbrev pub LeavesBy : {S K : Type 0} {g : _} → Op → Session S K g → Answer → Type 0
LeavesBy op new answer = Leaves op (open_in new) answer

abbrev pub NeededBy : {S K : Type 0} {g : _} → Op → Order → (S → Facts) → Session S K g → Session S K g → Answer → Type 0
NeededBy op order facts old new answer = KeepsOnly op order (facts (store_of new)) (StandsWholeIn order facts old) (open_in new) answer

abbrev pub OutcomeBy : {S K : Type 0} {g : _} → Op → (S → Facts) → Session S K g → Session S K g → Answer → Type 0
OutcomeBy {S} {K} {g} op facts old new answer = Outcome (IsAnswerTo op) (stood_of op) (keeps_of {K = K} {g = g} op) (facts (store_of old)) (facts (store_of new)) old.ids new.ids (open_in old) (open_in new) answer

abbrev pub IsShut : {S K : Type 0} {g : _} → Session S K g → Type 0
IsShut session = open_in session ≡ None

-- what closing does to the store
abbrev pub Parted : {S K : Type 0} {g : _} → Session S K g → Facts → Facts → Type 0
Parted session old new = CloseTouches (open_in session) old new

abbrev pub ShutBy : {S K : Type 0} {g : _} → Op → Session S K g → Type 0
ShutBy op new = Shuts op (open_in new)

-- Nothing is in memory beside the store: no table, no block and no entry.
pub record HoldsNothing {S K : Type 0} {g : _} (session : Session S K g) : Type 0 where
  pub tables : session.source.tables.tables.tables ≡ []
  pub blocks : session.source.tables.blocks.blocks ≡ []
  pub alone : IsAlone session.source.memory
  pub entries : session.source.memory.current.inserts ≡ []

-- The same holds after a close that was done.
abbrev pub LetsGo : {S K : Type 0} {g : _} → Op → Session S K g → Answer → Type 0
LetsGo Close new Done = HoldsNothing new
LetsGo op new answer = Unit {0}

pub record Applied {S K : Type 0} {g : _} (order : Order) (facts : S → Facts) (op : Op) (old new : Session S K g) (answer : Answer) : Type 0 where
  pub step : Follows order facts old new (λ m n. Step order m op answer n)
  pub outcome : OutcomeBy op facts old new answer
  pub succeeds : Succeeds op old new answer
  pub caused : CausedBy (cause_of op) old new answer
  pub touches : TouchedBy (Touches op) facts old new answer
  pub tells : ToldBy op order facts old new answer
  pub shown : ShownBy op old answer
  pub leaves : LeavesBy op new answer
  pub lets_go : LetsGo op new answer
  pub stops : StopsBy op order facts old new
  pub loses : LosesBy op order facts old new
  pub found : SessionKeepsFound order facts old new
  pub loses_on : LosesOnBy op order facts old new
  pub kept : KeepsLogsBy op facts new answer
  pub fresh : FreshBy op new answer
  pub sound : SyncsBeginnings (facts (store_of old))
  pub works : WorkDoneBy op order facts old new answer
  pub needed : NeededBy op order facts old new answer
  pub shut : ShutBy op new
  pub options : options_of new ≡ options_of old

-- ---- of a list of commands

-- Each is applied to what the one before has left.
abbrev pub AllApplied : {S K : Type 0} {g : _} → Order → (S → Facts) → List Op → List Answer → Session S K g → Session S K g → Type 0
AllApplied order facts [] [] old new = new ≡ old
AllApplied {S} {K} {g} order facts (op ∷ ops) (answer ∷ answers) old new = (mid : Session S K g) × Applied order facts op old mid answer × AllApplied order facts ops answers mid new
AllApplied order facts [] (answer ∷ answers) old new = ⊥
AllApplied order facts (op ∷ ops) [] old new = ⊥

-- ---- of an open database

-- the error that a call of it must have
abbrev pub DbCaused : {S K T : Type 0} {g : _} → (Status → Option DbError) → Db S K g → Db S K g → Result T DbError → Type 0
DbCaused cause old new result = IsCausedIn (cause (open_status old.ids (open_by old))) (db_store_of old) (db_store_of new) result

abbrev pub DbSyncs : {S K T : Type 0} {g : _} → Type 0 → Type 0 → Bool → (S → Facts) → Db S K g → Db S K g → Result T DbError → Type 0
DbSyncs some asked sync facts old new result = SyncsLog some asked sync (string_bytes old.state.log.name) (map string_bytes old.state.log.front.items) (facts (db_store_of old)) (facts (db_store_of new)) result

-- A write of no operations to one that isn't broken, which makes no call of the store.
abbrev pub DbWritesEmpty : {S K : Type 0} {g : _} → List Operation → Db S K g → Db S K g → Result (Unit {0}) DbError → Type 0
DbWritesEmpty operations old new result = operations ≡ [] → old.state.broken ≡ false → (result ≡ Ok tt) × (db_store_of new ≡ db_store_of old)

abbrev pub DbLeaves : {S K : Type 0} {g : _} → (S → Facts) → Db S K g → Db S K g → Type 0
DbLeaves facts old new = LeavesStore (facts (db_store_of old)) (facts (db_store_of new))

-- the same of the parts of one
abbrev pub IsReadBy : {K : Type 0} {g : _} → List ℕ → Option ℕ → OpenDb K g → Result (Option (List ℕ)) DbError → Type 0
IsReadBy key snapshot db (Ok value) = IsRead key snapshot (Some db) (Value value)
IsReadBy key snapshot db (Err e) = Unit {0}

-- A value that it answers is what the newest entry of the key in memory put, as far as the read
-- sees.
abbrev pub DbRead : {S K : Type 0} {g : _} → List ℕ → Option ℕ → Db S K g → Result (Option (List ℕ)) DbError → Type 0
DbRead key snapshot db result = IsReadBy key snapshot (open_by db) result

-- which piece of work it did
abbrev pub DbWorks : {S K : Type 0} {g : _} → Cmp → ℕ → Db S K g → Db S K g → Result Progress DbError → Type 0
DbWorks cmp budget old new result = DoesWork cmp old.options budget (open_by old) (open_by new) result

-- If there was none, all files are in use, unless one couldn't be removed.
abbrev pub DbTidies : {S K : Type 0} {g : _} → (S → Facts) → Db S K g → Db S K g → Result Progress DbError → Type 0
DbTidies facts old new result = result ≡ Ok Idle → IsTrue (facts (db_store_of new)).faithful → (facts (db_store_of new)).failures ≡ (facts (db_store_of old)).failures → HasLiveOnly (facts (db_store_of new)).files (open_by new)

-- No memtable is kept then that is obsolete.
abbrev pub DbDrops : {S K : Type 0} {g : _} → Db S K g → Result Progress DbError → Type 0
DbDrops new result = result ≡ Ok Idle → HasUsedMemory new.source.memory new.state.iterators

-- Files in use and those of other programs stay then.
abbrev pub DbRemoves : {S K : Type 0} {g : _} → (S → Facts) → Db S K g → Db S K g → Result Progress DbError → Type 0
DbRemoves facts old new result = result ≡ Ok Idle → IsTrue (facts (db_store_of new)).faithful → LosesDead (facts (db_store_of old)) (facts (db_store_of new)) (open_by new)

-- The files are exactly those in use then.
abbrev pub DbExact : {S K : Type 0} {g : _} → Order → (S → Facts) → Db S K g → Db S K g → Result Progress DbError → Type 0
DbExact order facts old new result = LeavesExactlyLive order (seen_by facts old) (seen_by facts new) (open_by old) (open_by new) result

-- A compaction is at its end exactly if no more entries were left than the budget has.
abbrev pub DbEndsWithin : {S K : Type 0} {g : _} → Order → (S → Facts) → ℕ → Db S K g → Db S K g → Result Progress DbError → Type 0
DbEndsWithin order facts budget old new result = EndsWithin order old.options budget (seen_by facts old) (seen_by facts new) (open_by old) (open_by new) result

-- The table that it wrote of a sealed memtable has exactly that one's entries.
abbrev pub DbFlushes : {S K : Type 0} {g : _} → Order → (S → Facts) → Db S K g → Db S K g → Result Progress DbError → Type 0
DbFlushes order facts old new result = FlushesSealed order (seen_by facts old) (seen_by facts new) (open_by old) (open_by new) result

-- what a compaction of it leaves
abbrev pub DbCompacts : {S K T : Type 0} {g : _} → (DbError → Type 0) → (S → Facts) → Db S K g → Db S K g → Result T DbError → Type 0
DbCompacts may facts old new result = CompactOutcome may (facts (db_store_of old)) (facts (db_store_of new)) (open_by old) (open_by new) result
