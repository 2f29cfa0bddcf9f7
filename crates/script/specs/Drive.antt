-- What running a script does to a session, and what it writes.
use Rattle.std.specs.Prelude.{◌≡◌, ◌==◌, ◌++◌, ℕ, Bool, if◌then◌else◌, List, [], ◌∷◌, Option, Some, None, IfSome, IsSomeAnd, MatchBool}
use Rattle.std.specs.List.{onto_first}
use Rattle.std.specs.Io.KnownBytes.{Appends}
use Rattle.coding.specs.declared.error.DbError.TheVariants.{BadLine}
use Rattle.store.specs.Files.{Facts}
use Rattle.ikey.specs.Orders.{Order}
use Rattle.machine.specs.declared.command.Op.{Op}
use Rattle.machine.specs.declared.command.Op.TheVariants.{Close}
use Rattle.machine.specs.declared.command.Answer.{Answer}
use Rattle.machine.specs.declared.command.Answer.TheVariants.{Refused}
use Rattle.engine.specs.declared.session.Session.{Session}
use Rattle.machine.specs.Step.{Run}
use Rattle.engine.specs.Follows.{Follows}
use Rattle.engine.specs.Outcomes.{AreAnswersTo}
use Rattle.engine.specs.Applied.{Applied, AllApplied}
use Rattle.script.specs.Words.{Reads}
use Rattle.script.specs.Script.{Says, line_of}
use Rattle.script.specs.declared.way.Ended.{Ended}
use Rattle.script.specs.declared.way.Ended.TheVariants.{Whole, Refused as EndedEarly}

-- The lines of a script: each is ended by a newline, the last one perhaps without.
abbrev pub lines_of : List ℕ → List (List ℕ)
lines_of [] = []
lines_of (byte ∷ bytes) = if byte == 10 then [] ∷ lines_of bytes else onto_first byte (lines_of bytes)

-- what each line says, in order: a command, or none
abbrev pub AreSaid : List (List ℕ) → List (Option Op) → Type 0
AreSaid [] [] = Unit {0}
AreSaid (line ∷ lines) (said ∷ others) = Reads (Says line) said × AreSaid lines others
AreSaid [] (said ∷ others) = ⊥
AreSaid (line ∷ lines) [] = ⊥

abbrev pub commands_of : List (Option Op) → List Op
commands_of [] = []
commands_of (None ∷ said) = commands_of said
commands_of (Some command ∷ said) = command ∷ commands_of said

-- One line for each line of the script: the answer's, or that of BadLine where the line says no
-- command.
abbrev pub text_of : List (Option Op) → List Answer → List ℕ
text_of [] answers = []
text_of (None ∷ said) answers = line_of (Refused BadLine) ++ 10 ∷ text_of said answers
text_of (Some command ∷ said) (answer ∷ answers) = line_of answer ++ 10 ∷ text_of said answers
text_of (Some command ∷ said) [] = []

-- The session went on by the commands that these lines say, and these are the answers: while the
-- store is faithful by a run of the machine, and over any store by what is said of each command.
pub record Answered {S K : Type 0} {g : _} (order : Order) (facts : S → Facts) (old new : Session S K g) (lines : List (List ℕ)) (said : List (Option Op)) (answers : List Answer) : Type 0 where
  pub says : AreSaid lines said
  pub ran : Follows order facts old new (λ m n. Run order m (commands_of said) answers n)
  pub allowed : AreAnswersTo (commands_of said) answers
  -- over any store, one after the other
  pub each : AllApplied order facts (commands_of said) answers old new

-- The whole script was read, each line was answered, and the text of the answers was written.
pub record EndsScript {S K : Type 0} {g : _} (order : Order) (facts : S → Facts) (old new : Session S K g) (script before after : Option (List ℕ)) : Type 0 where
  pub lines : List (List ℕ)
  pub said : List (Option Op)
  pub answers : List Answer
  pub whole : IfSome script (λ bytes. lines_of bytes ≡ lines)
  pub answered : Answered order facts old new lines said answers
  pub written : Appends before after (text_of said answers)

-- Some first lines were answered, and the text of their answers was written.
pub record EndsEarly {S K : Type 0} {g : _} (order : Order) (facts : S → Facts) (old new : Session S K g) (script before after : Option (List ℕ)) : Type 0 where
  pub lines : List (List ℕ)
  pub said : List (Option Op)
  pub answers : List Answer
  pub first : IfSome script (λ bytes. (later : List (List ℕ)) × (lines_of bytes ≡ lines ++ later))
  pub answered : Answered order facts old new lines said answers
  pub written : Appends before after (text_of said answers)

-- all lines, or some first ones
abbrev pub EndsAs : {S K : Type 0} {g : _} → Ended → Order → (S → Facts) → Session S K g → Session S K g → Option (List ℕ) → Option (List ℕ) → Option (List ℕ) → Type 0
EndsAs Whole order facts old new script before after = EndsScript order facts old new script before after
EndsAs EndedEarly order facts old new script before after = EndsEarly order facts old new script before after

-- And then the session was closed, without an answer line.
pub record Finished {S K : Type 0} {g : _} (how : Ended) (order : Order) (facts : S → Facts) (old new : Session S K g) (script before after : Option (List ℕ)) : Type 0 where
  pub between : Session S K g
  pub ended : EndsAs how order facts old between script before after
  pub closing : Answer
  pub closed : Applied order facts Close between new closing

-- Some first lines of the script were answered, and a beginning of the text of their answers was
-- written.
pub record Stopped {S K : Type 0} {g : _} (order : Order) (facts : S → Facts) (old new : Session S K g) (script before after : Option (List ℕ)) : Type 0 where
  pub lines : List (List ℕ)
  pub said : List (Option Op)
  pub answers : List Answer
  pub first : IfSome script (λ bytes. (later : List (List ℕ)) × (lines_of bytes ≡ lines ++ later))
  pub answered : Answered order facts old new lines said answers
  pub shown : List ℕ
  pub unseen : List ℕ
  pub text : text_of said answers ≡ shown ++ unseen
  pub written : Appends before after shown

-- ---- parts

-- The next line was taken off the bytes that are left; or there was none.
abbrev pub TakesLine : Option (List ℕ) → Option (List ℕ) → Bool → List ℕ → Type 0
TakesLine before after more line = IfSome before (λ bytes. MatchBool more
    ((rest : List ℕ) × (after ≡ Some rest) × (lines_of bytes ≡ line ∷ lines_of rest))
    (bytes ≡ []))

-- a beginning of the text was written
abbrev pub AppendsFront : Option (List ℕ) → Option (List ℕ) → List ℕ → Type 0
AppendsFront before after text = (shown unseen : List ℕ) × (text ≡ shown ++ unseen) × Appends before after shown

-- what was written and what still waits are the text that waited
abbrev pub Shows : Option (List ℕ) → Option (List ℕ) → List ℕ → List ℕ → Type 0
Shows before after old new = (shown : List ℕ) × (old ≡ shown ++ new) × Appends before after shown

-- these lines and those that are left are all
abbrev pub LeavesLines : Option (List ℕ) → Option (List ℕ) → List (List ℕ) → Type 0
LeavesLines script left lines = IfSome script (λ bytes. IsSomeAnd left (λ rest. lines_of bytes ≡ lines ++ lines_of rest))
