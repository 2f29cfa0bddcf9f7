-- What a compaction does to a session that has no database open, and what it writes.
use Rattle.std.specs.Prelude.{◌≡◌, ◌⊎◌, ◌++◌, ℕ, suc, List, [], ◌∷◌, replicate, Option, Some, None}
use Rattle.std.specs.Io.KnownBytes.{Appends}
use Rattle.store.specs.Files.{Facts}
use Rattle.ikey.specs.Orders.{Order}
use Rattle.machine.specs.declared.command.Mode.TheVariants.{Existing}
use Rattle.machine.specs.declared.command.Op.{Op}
use Rattle.machine.specs.declared.command.Op.TheVariants.{Open, Work, CompactLevel, CompactAll, Close}
use Rattle.machine.specs.declared.command.Answer.{Answer}
use Rattle.machine.specs.declared.command.Answer.TheVariants.{Done, Worked, Idle}
use Rattle.engine.specs.declared.session.Session.{Session}
use Rattle.engine.specs.Applied.{Applied}
use Rattle.script.specs.Script.{line_of}
use Rattle.script.specs.Commands.{GoesOn, IsRefusal, status_of}
use Rattle.script.specs.Drive.{AppendsFront}

-- the command that compacts this level, or all of them
abbrev pub compaction_of : Option ℕ → Op
compaction_of (Some level) = CompactLevel level
compaction_of None = CompactAll

-- Pieces of work, up to the answer that there is none, or up to a refusal. (Worked: there may be
-- more.)
abbrev pub AreWorks : List Op → List Answer → Answer → Type 0
AreWorks commands answers Done = (pieces : ℕ) × (commands ≡ replicate (suc pieces) (Work 4096)) × (answers ≡ replicate pieces Worked ++ Idle ∷ [])
AreWorks commands answers Worked = (pieces : ℕ) × (commands ≡ replicate pieces (Work 4096)) × (answers ≡ replicate pieces Worked)
AreWorks commands answers ended =
    IsRefusal ended × (pieces : ℕ) × (commands ≡ replicate (suc pieces) (Work 4096)) × (answers ≡ replicate pieces Worked ++ ended ∷ [])

-- The open is refused, or the compaction, or both are done, and work is done until there is none.
abbrev pub AreCompaction : Option ℕ → List Op → List Answer → Answer → Type 0
AreCompaction level commands answers ended =
    (IsRefusal ended × (commands ≡ Open Existing ∷ []) × (answers ≡ ended ∷ []))
    ⊎ (IsRefusal ended × (commands ≡ Open Existing ∷ compaction_of level ∷ []) × (answers ≡ Done ∷ ended ∷ []))
    ⊎ ((works : List Op) × (worked : List Answer) × (commands ≡ Open Existing ∷ compaction_of level ∷ works) × (answers ≡ Done ∷ Done ∷ worked)
    × AreWorks works worked ended)

-- The session went on by a compaction, and was closed then, whatever that was answered.
pub record RunsCompaction {S K : Type 0} {g : _} (order : Order) (facts : S → Facts) (level : Option ℕ) (old new : Session S K g) (ended : Answer) : Type 0 where
  pub commands : List Op
  pub answers : List Answer
  pub between : Session S K g
  pub closing : Answer
  pub shape : AreCompaction level commands answers ended
  pub ran : GoesOn order facts old between commands answers
  pub closed : Applied order facts Close between new closing

-- It came to an end, which is written as one line: `ok`, or the refusal.
pub record Compacts {S K : Type 0} {g : _} (order : Order) (facts : S → Facts) (level : Option ℕ) (old new : Session S K g) (before after : Option (List ℕ)) (status : ℕ) : Type 0 where
  pub ended : Answer
  pub end : (ended ≡ Done) ⊎ IsRefusal ended
  pub compaction : RunsCompaction order facts level old new ended
  pub written : Appends before after (line_of ended ++ 10 ∷ [])
  pub says : status ≡ status_of ended

-- It came to an end of which a beginning of the line was written; or to none.
pub record StopsCompaction {S K : Type 0} {g : _} (order : Order) (facts : S → Facts) (level : Option ℕ) (old new : Session S K g) (before after : Option (List ℕ)) : Type 0 where
  pub ended : Answer
  pub compaction : RunsCompaction order facts level old new ended
  pub written : AppendsFront before after (line_of ended ++ 10 ∷ [])
