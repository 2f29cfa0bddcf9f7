-- What a script does that is run in a way: strict, so that a refusal ends it, or with work behind
-- its writes.
use Rattle.std.specs.Prelude.{◌≡◌, ◌⊎◌, ◌*◌, ◌++◌, ℕ, min, Bool, true, List, [], ◌∷◌, length, Option, Some, None, IfSome, MatchBool}
use Rattle.std.specs.Io.KnownBytes.{Appends}
use Rattle.coding.specs.declared.error.DbError.TheVariants.{BadLine}
use Rattle.store.specs.Files.{Facts}
use Rattle.ikey.specs.Orders.{Order}
use Rattle.machine.specs.declared.command.Op.{Op}
use Rattle.machine.specs.declared.command.Op.TheVariants.{Write, Work, Close}
use Rattle.machine.specs.declared.command.Answer.{Answer}
use Rattle.machine.specs.declared.command.Answer.TheVariants.{Done, Refused}
use Rattle.engine.specs.declared.session.Session.{Session}
use Rattle.engine.specs.Outcomes.{AreAnswersTo}
use Rattle.engine.specs.Applied.{Applied}
use Rattle.script.specs.Commands.{GoesOn, IsRefusal, AreWell}
use Rattle.script.specs.Drive.{lines_of, AreSaid, commands_of, text_of, AppendsFront}
use Rattle.script.specs.declared.way.Way.{Way}
use Rattle.script.specs.declared.way.Ended.{Ended}
use Rattle.script.specs.declared.way.Ended.TheVariants.{Whole, Refused as EndedEarly}

-- ---- work behind writes

-- The work that a command brings along which was answered so, where work is wanted: after a write
-- that was done six entries for each of its operations, of which 1,048,576 count at most, and
-- behind anything else none.
abbrev pub brought_by : Bool → Op → Answer → List Op
brought_by true (Write operations sync) Done = Work (6 * min (length operations.items) 1048576) ∷ []
brought_by works command answer = []

-- What was given to the session, and what it told, where lines say these commands and were answered
-- so: each command, and behind it what it brings along, of which the lines tell no answer.
abbrev pub WithWork : Bool → List Op → List Answer → List Op → List Answer → Type 0
WithWork works [] [] given told = (given ≡ []) × (told ≡ [])
WithWork works (command ∷ commands) (answer ∷ answers) given told =
    (unsaid : List Answer) × (later : List Op) × (rest : List Answer)
    × AreAnswersTo (brought_by works command answer) unsaid
    × (given ≡ command ∷ brought_by works command answer ++ later)
    × (told ≡ answer ∷ unsaid ++ rest)
    × WithWork works commands answers later rest
WithWork works [] (answer ∷ answers) given told = ⊥
WithWork works (command ∷ commands) [] given told = ⊥

-- The session went on by the commands that these lines say, and by what they bring along in this
-- way; these are the lines' answers.
pub record AnsweredIn {S K : Type 0} {g : _} (way : Way) (order : Order) (facts : S → Facts) (old new : Session S K g) (lines : List (List ℕ)) (said : List (Option Op)) (answers : List Answer) : Type 0 where
  pub says : AreSaid lines said
  pub allowed : AreAnswersTo (commands_of said) answers
  pub given : List Op
  pub told : List Answer
  pub brings : WithWork way.works (commands_of said) answers given told
  pub ran : GoesOn order facts old new given told

-- ---- up to a refusal

-- what each line was answered: its command's answer, or BadLine where it says none
abbrev pub replies_of : List (Option Op) → List Answer → List Answer
replies_of [] answers = []
replies_of (None ∷ said) answers = Refused BadLine ∷ replies_of said answers
replies_of (Some command ∷ said) (answer ∷ answers) = answer ∷ replies_of said answers
replies_of (Some command ∷ said) [] = []

-- the last one is a refusal, and no other
abbrev pub LastIsRefused : List Answer → Type 0
LastIsRefused replies = (before : List Answer) × (last : Answer) × (replies ≡ before ++ last ∷ []) × AreWell before × IsRefusal last

-- So a strict script ends: no line was refused, or the last one that was answered.
abbrev pub EndsStrictly : Ended → List Answer → Type 0
EndsStrictly Whole replies = AreWell replies
EndsStrictly EndedEarly replies = LastIsRefused replies

-- ---- the whole

-- some first lines of the script
abbrev pub AreFirst : Option (List ℕ) → List (List ℕ) → Type 0
AreFirst script lines = IfSome script (λ bytes. (later : List (List ℕ)) × (lines_of bytes ≡ lines ++ later))

-- all of them, or some first ones
abbrev pub AreRead : Ended → Option (List ℕ) → List (List ℕ) → Type 0
AreRead Whole script lines = IfSome script (λ bytes. lines_of bytes ≡ lines)
AreRead EndedEarly script lines = AreFirst script lines

-- The lines were answered, and the text of their answers was written.
pub record EndsIn {S K : Type 0} {g : _} (way : Way) (how : Ended) (order : Order) (facts : S → Facts) (old new : Session S K g) (script before after : Option (List ℕ)) : Type 0 where
  pub lines : List (List ℕ)
  pub said : List (Option Op)
  pub answers : List Answer
  pub taken : AreRead how script lines
  pub answered : AnsweredIn way order facts old new lines said answers
  pub ends : way.strict ≡ true → EndsStrictly how (replies_of said answers)
  pub written : Appends before after (text_of said answers)

-- And then the session was closed, without an answer line.
pub record FinishedIn {S K : Type 0} {g : _} (way : Way) (how : Ended) (order : Order) (facts : S → Facts) (old new : Session S K g) (script before after : Option (List ℕ)) : Type 0 where
  pub between : Session S K g
  pub ended : EndsIn way how order facts old between script before after
  pub closing : Answer
  pub closed : Applied order facts Close between new closing

-- Some first lines were answered, and a beginning of the text of their answers was written. In a
-- strict script none was answered behind a refusal.
pub record StoppedIn {S K : Type 0} {g : _} (way : Way) (order : Order) (facts : S → Facts) (old new : Session S K g) (script before after : Option (List ℕ)) : Type 0 where
  pub lines : List (List ℕ)
  pub said : List (Option Op)
  pub answers : List Answer
  pub taken : AreFirst script lines
  pub answered : AnsweredIn way order facts old new lines said answers
  pub ends : way.strict ≡ true → AreWell (replies_of said answers) ⊎ LastIsRefused (replies_of said answers)
  pub written : AppendsFront before after (text_of said answers)

-- ---- parts

-- The session did the work that a command brings along, whatever that was answered.
abbrev pub DoesBrought : {S K : Type 0} {g : _} → Bool → Order → (S → Facts) → Session S K g → Session S K g → Op → Answer → Type 0
DoesBrought works order facts old new command answer = (unsaid : List Answer) × GoesOn order facts old new (brought_by works command answer) unsaid

-- Lines behind these are answered, too; or else the script is strict, and the last one was refused.
abbrev pub GoesBehind : Bool → Bool → List Answer → Type 0
GoesBehind strict on replies = MatchBool on (strict ≡ true → AreWell replies) ((strict ≡ true) × LastIsRefused replies)
