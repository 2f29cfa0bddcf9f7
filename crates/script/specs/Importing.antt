-- What an import does to a session that has no database open, and what it writes.
use Rattle.std.specs.Prelude.{◌≡◌, ◌⊎◌, ◌<◌, ◌≤◌, ◌+◌, ◌*◌, ◌^◌, ◌++◌, ◌≢◌, ℕ, Bool, true, false}
use Rattle.std.specs.Prelude.{List, [], ◌∷◌, length, sum_by, codes, Option, IfSome}
use Rattle.std.specs.Fmt.{decimal}
use Rattle.std.specs.Io.KnownBytes.{Appends}
use Rattle.batch.specs.declared.operation.Operation.{Operation}
use Rattle.batch.specs.declared.operation.Operation.TheVariants.{Put, Delete}
use Rattle.coding.specs.declared.error.DbError.TheVariants.{BadLine}
use Rattle.store.specs.Files.{Facts}
use Rattle.ikey.specs.Orders.{Order}
use Rattle.machine.specs.Machine.{Machine}
use Rattle.machine.specs.declared.command.Mode.TheVariants.{Any}
use Rattle.machine.specs.declared.command.Op.{Op}
use Rattle.machine.specs.declared.command.Op.TheVariants.{Open, Write, Work, Close}
use Rattle.machine.specs.declared.command.Answer.{Answer}
use Rattle.machine.specs.declared.command.Answer.TheVariants.{Done, Refused}
use Rattle.engine.specs.declared.session.Session.{Session}
use Rattle.engine.specs.Applied.{Applied}
use Rattle.engine.specs.Follows.{Follows}
use Rattle.script.specs.Words.{words_of}
use Rattle.script.specs.Script.{IsOperation, refusal_of}
use Rattle.script.specs.Commands.{GoesOn, AreGiven, AreWell, IsRefusal, status_of}
use Rattle.script.specs.Drive.{lines_of, AppendsFront, LeavesLines}

-- how many operations a batch has at most, and whether the device is to keep each before the next
-- one
pub record ImportValues : Type 0 where
  pub batch : ℕ
  pub sync : Bool

-- ---- lines

-- a line says an operation by its words, which are no more than that
abbrev pub SaysOperation : List ℕ → Operation → Type 0
SaysOperation line operation = IsOperation (words_of line) operation []

-- each line says one, in order
abbrev pub SayOperations : List (List ℕ) → List Operation → Type 0
SayOperations [] [] = Unit {0}
SayOperations (line ∷ lines) (operation ∷ operations) = SaysOperation line operation × SayOperations lines operations
SayOperations [] (operation ∷ operations) = ⊥
SayOperations (line ∷ lines) [] = ⊥

-- ---- batches

-- how many bytes the key and the value of an operation have
abbrev pub bytes_in : Operation → ℕ
bytes_in (Put key value) = length key + length value
bytes_in (Delete key) = length key

-- and those of all of them
abbrev pub bytes_of : List Operation → ℕ
bytes_of operations = sum_by bytes_in operations

-- Operations that wait are no batch yet: they are fewer than that, and have less than 1 MiB.
pub record HasRoom (most : ℕ) (waiting : List Operation) : Type 0 where
  pub count : length waiting < most
  pub bytes : bytes_of waiting < 2 ^ 20

-- They are one.
abbrev pub IsFull : ℕ → List Operation → Type 0
IsFull most waiting = (most ≤ length waiting) ⊎ (2 ^ 20 ≤ bytes_of waiting)

-- There are none, or all but the last one have less than 1 MiB.
abbrev pub FitsBytes : List Operation → Type 0
FitsBytes operations = (operations ≡ [])
    ⊎ ((front : List Operation) × (last : Operation) × (operations ≡ front ++ last ∷ []) × (bytes_of front < 2 ^ 20))

-- A batch has at most so many operations, and is within its bytes.
pub record IsBatch (most : ℕ) (operations : List Operation) : Type 0 where
  pub count : length operations ≤ most
  pub bytes : FitsBytes operations

-- ---- commands

-- Such batches, all synced or none. Behind each one six entries of work for each of its operations,
-- and one more: it writes the table of a memory table that the work has sealed, before the next
-- batch comes.
abbrev pub AreBatches : ℕ → Bool → List Op → Type 0
AreBatches most sync [] = Unit {0}
AreBatches most sync (Write operations synced ∷ Work entries ∷ Work last ∷ commands) =
    IsBatch most operations.items × (synced ≡ sync) × (entries ≡ 6 * length operations.items) × (last ≡ 1)
    × AreBatches most sync commands
AreBatches most sync _ = ⊥

-- Each batch is a full one: it has as many operations as one has, or 1 MiB.
abbrev pub AreFull : ℕ → List Op → Type 0
AreFull most [] = Unit {0}
AreFull most (Write operations synced ∷ commands) = IsFull most operations.items × AreFull most commands
AreFull most (_ ∷ commands) = AreFull most commands

-- the operations that a command writes
abbrev pub written_by : Op → List Operation
written_by (Write operations sync) = operations.items
written_by _ = []

-- An open and full batches; behind all lines one more, which is synced, and which has operations
-- wherever a line had one.
abbrev pub IsPlan : ImportValues → Bool → List Op → Type 0
IsPlan how false plan =
    (batches : List Op) × (plan ≡ Open Any ∷ batches) × AreBatches how.batch how.sync batches × AreFull how.batch batches
IsPlan how true plan =
    (batches : List Op) × (write work last : Op) × (plan ≡ Open Any ∷ batches ++ write ∷ work ∷ last ∷ [])
    × AreBatches how.batch how.sync batches × AreFull how.batch batches
    × AreBatches how.batch true (write ∷ work ∷ last ∷ []) × (written_by write ≡ [] → batches ≡ [])

-- what these commands write
abbrev pub all_written : List Op → List Operation
all_written [] = []
all_written (command ∷ commands) = written_by command ++ all_written commands

-- and those of the writes that were answered Done
abbrev pub taken_by : Op → Answer → List Operation
taken_by command Done = written_by command
taken_by command _ = []

abbrev pub all_taken : List Op → List Answer → List Operation
all_taken (command ∷ commands) (answer ∷ answers) = taken_by command answer ++ all_taken commands answers
all_taken _ _ = []

-- ---- the whole

-- The session went on by the import of what the first lines say, or of what all do.
pub record Takes {S K : Type 0} {g : _} (order : Order) (facts : S → Facts) (how : ImportValues) (old new : Session S K g) (script : Option (List ℕ)) (all : Bool) (ended : Answer) : Type 0 where
  pub lines : List (List ℕ)
  pub later : List (List ℕ)
  pub first : IfSome script (λ bytes. lines_of bytes ≡ lines ++ later)
  pub last : all ≡ true → later ≡ []
  pub operations : List Operation
  pub said : SayOperations lines operations
  -- the planned commands write these in order, but some last ones that were gathered only
  pub plan : List Op
  pub planned : IsPlan how all plan
  pub gathered : List Operation
  pub written : operations ≡ all_written plan ++ gathered
  pub whole : all ≡ true → gathered ≡ []
  -- they were given, up to the first that was refused
  pub commands : List Op
  pub answers : List Answer
  pub given : AreGiven plan commands answers ended
  pub ran : GoesOn order facts old new commands answers
  -- what was taken are the operations of the first lines
  pub left : List Operation
  pub taken : operations ≡ all_taken commands answers ++ left

-- The next line says no operation.
abbrev pub HasBadNext : Option (List ℕ) → List (List ℕ) → Type 0
HasBadNext script lines = IfSome script (λ bytes. (line : List ℕ) × (later : List (List ℕ))
    × (lines_of bytes ≡ lines ++ line ∷ later) × ((operation : Operation) → SaysOperation line operation → ⊥))

-- no batch that the machine accepted is lost with the power
abbrev pub AllSynced : Machine → Machine → Type 0
AllSynced old new = new.synced ≡ length new.batches

-- It came to an end: all lines were taken, a command was refused, or a line says no operation. So
-- many operations were taken.
pub record EndsImport {S K : Type 0} {g : _} (order : Order) (facts : S → Facts) (how : ImportValues) (old new : Session S K g) (script : Option (List ℕ)) (outcome : Answer) (count : ℕ) : Type 0 where
  pub all : Bool
  pub ended : Answer
  pub takes : Takes order facts how old new script all ended
  pub how_ended :
      ((outcome ≡ Done) × (ended ≡ Done) × (all ≡ true) × (takes.left ≡ []))
      ⊎ (IsRefusal outcome × (ended ≡ outcome))
      ⊎ ((outcome ≡ Refused BadLine) × (ended ≡ Done) × HasBadNext script takes.lines)
  pub counted : count ≡ length (all_taken takes.commands takes.answers)
  -- Where all lines were taken, and one says an operation, the machine has synced every batch while
  -- the store is faithful. So the device has them all (`Session::losses`).
  pub synced : outcome ≡ Done → takes.operations ≢ [] → Follows order facts old new AllSynced

-- the line of a refusal, where it is one
abbrev pub refusal_line : Answer → List ℕ
refusal_line (Refused e) = refusal_of e ++ 10 ∷ []
refusal_line _ = []

-- that line, and how many operations were taken
abbrev pub report_of : Answer → ℕ → List ℕ
report_of outcome count = refusal_line outcome ++ codes "taken " ++ decimal count ++ 10 ∷ []

-- The session was closed then, whatever that was answered, and the report was written.
pub record Imports {S K : Type 0} {g : _} (order : Order) (facts : S → Facts) (how : ImportValues) (old new : Session S K g) (script before after : Option (List ℕ)) (status : ℕ) : Type 0 where
  pub outcome : Answer
  pub count : ℕ
  pub between : Session S K g
  pub closing : Answer
  pub import : EndsImport order facts how old between script outcome count
  pub closed : Applied order facts Close between new closing
  pub written : Appends before after (report_of outcome count)
  pub says : status ≡ status_of outcome

-- Some first lines were imported, the session was closed, and a beginning of a report was written.
pub record StopsImport {S K : Type 0} {g : _} (order : Order) (facts : S → Facts) (how : ImportValues) (old new : Session S K g) (script before after : Option (List ℕ)) : Type 0 where
  pub all : Bool
  pub ended : Answer
  pub between : Session S K g
  pub closing : Answer
  pub takes : Takes order facts how old between script all ended
  pub closed : Applied order facts Close between new closing
  pub outcome : Answer
  pub written : AppendsFront before after (report_of outcome (length (all_taken takes.commands takes.answers)))

-- ---- parts

-- The database was opened, batches of the first lines' operations were taken, and their last
-- operations wait.
pub record HasTaken {S K : Type 0} {g : _} (order : Order) (facts : S → Facts) (how : ImportValues) (old now : Session S K g) (script left : Option (List ℕ)) (waiting : List Operation) (count : ℕ) : Type 0 where
  pub lines : List (List ℕ)
  pub leaves : LeavesLines script left lines
  pub operations : List Operation
  pub said : SayOperations lines operations
  pub batches : List Op
  pub shape : AreBatches how.batch how.sync batches
  pub full : AreFull how.batch batches
  pub written : operations ≡ all_written batches ++ waiting
  pub answers : List Answer
  pub well : AreWell answers
  pub ran : GoesOn order facts old now (Open Any ∷ batches) answers
  pub counted : count ≡ length (all_written batches)

-- A full batch waits for the line behind it: if nothing waits, no batch was written.
abbrev pub HasBegun : {S K : Type 0} {g : _} → Order → (S → Facts) → ImportValues → Session S K g → Session S K g → Option (List ℕ) → Option (List ℕ) → List Operation → ℕ → Type 0
HasBegun order facts how old now script left waiting count = (taken : HasTaken order facts how old now script left waiting count) × (waiting ≡ [] → taken.batches ≡ [])

-- A batch was given, and the work behind it, up to the first of the three that was refused.
pub record WritesBatch {S K : Type 0} {g : _} (order : Order) (facts : S → Facts) (most : ℕ) (sync : Bool) (old new : Session S K g) (operations : List Operation) (before after : ℕ) (outcome : Answer) : Type 0 where
  pub write : Op
  pub work : Op
  pub last : Op
  pub shape : AreBatches most sync (write ∷ work ∷ last ∷ [])
  pub written : all_written (write ∷ work ∷ last ∷ []) ≡ operations
  pub commands : List Op
  pub answers : List Answer
  pub given : AreGiven (write ∷ work ∷ last ∷ []) commands answers outcome
  pub ran : GoesOn order facts old new commands answers
  pub left : List Operation
  pub taken : operations ≡ all_taken commands answers ++ left
  pub whole : outcome ≡ Done → left ≡ []
  pub counted : after ≡ before + length (all_taken commands answers)

-- So many entries of work were given, and one more behind them where they weren't refused.
abbrev pub WorksBehind : {S K : Type 0} {g : _} → Order → (S → Facts) → ℕ → Session S K g → Session S K g → Answer → Type 0
WorksBehind order facts entries old new outcome =
    (commands : List Op) × (answers : List Answer) × AreGiven (Work entries ∷ Work 1 ∷ []) commands answers outcome × GoesOn order facts old new commands answers

-- There was room for an operation more; or what waited was a batch, and was written.
abbrev pub MakesRoom : {S K : Type 0} {g : _} → Order → (S → Facts) → ImportValues → Session S K g → Session S K g → List Operation → List Operation → ℕ → ℕ → Answer → Type 0
MakesRoom order facts how old new waiting still before after outcome =
    ((outcome ≡ Done) × (still ≡ waiting) × (new ≡ old) × (after ≡ before))
    ⊎ (IsFull how.batch waiting × (still ≡ []) × WritesBatch order facts how.batch how.sync old new waiting before after outcome)

-- The line's operation waits behind the others; or it says none.
abbrev pub TakesOperation : List ℕ → List Operation → List Operation → Bool → Type 0
TakesOperation line waiting still true = (operation : Operation) × SaysOperation line operation × (still ≡ waiting ++ operation ∷ [])
TakesOperation line waiting still false = (operation : Operation) → SaysOperation line operation → ⊥

-- some first lines were imported
abbrev pub TakesSome : {S K : Type 0} {g : _} → Order → (S → Facts) → ImportValues → Session S K g → Session S K g → Option (List ℕ) → Type 0
TakesSome order facts how old new script = (all : Bool) × (ended : Answer) × Takes order facts how old new script all ended

-- The lines that are left are imported behind those that were taken before; to an end, or not to
-- one.
abbrev pub EndsRest : {S K : Type 0} {g : _} → Order → (S → Facts) → ImportValues → Session S K g → Session S K g → Option (List ℕ) → ℕ → ℕ → Answer → Type 0
EndsRest {S} {K} {g} order facts how now new left before after outcome =
    (old : Session S K g) (script : Option (List ℕ)) → HasBegun order facts how old now script left [] before → EndsImport order facts how old new script outcome after

abbrev pub TakesRest : {S K : Type 0} {g : _} → Order → (S → Facts) → ImportValues → Session S K g → Session S K g → Option (List ℕ) → ℕ → Type 0
TakesRest {S} {K} {g} order facts how now new left before =
    (old : Session S K g) (script : Option (List ℕ)) → HasBegun order facts how old now script left [] before → TakesSome order facts how old new script
