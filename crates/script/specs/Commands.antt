-- Commands that a session is given one after the other, up to the first that is refused.
use Rattle.std.specs.Prelude.{◌≡◌, ◌⊎◌, ◌++◌, ℕ, List, [], ◌∷◌}
use Rattle.std.specs.List.{All}
use Rattle.store.specs.Files.{Facts}
use Rattle.ikey.specs.Orders.{Order}
use Rattle.machine.specs.declared.command.Op.{Op}
use Rattle.machine.specs.declared.command.Answer.{Answer}
use Rattle.machine.specs.declared.command.Answer.TheVariants.{Done, Refused}
use Rattle.engine.specs.declared.session.Session.{Session}
use Rattle.machine.specs.Step.{Run}
use Rattle.engine.specs.Follows.{Follows}
use Rattle.engine.specs.Outcomes.{AreAnswersTo}
use Rattle.engine.specs.Applied.{AllApplied}

-- The session went on by these commands, and these are the answers: while the store is faithful by
-- a run of the machine, and over any store by what is said of each command.
pub record GoesOn {S K : Type 0} {g : _} (order : Order) (facts : S → Facts) (old new : Session S K g) (commands : List Op) (answers : List Answer) : Type 0 where
  pub ran : Follows order facts old new (λ m n. Run order m commands answers n)
  pub allowed : AreAnswersTo commands answers
  -- over any store, one after the other
  pub each : AllApplied order facts commands answers old new

abbrev pub IsRefusal : Answer → Type 0
IsRefusal (Refused e) = Unit {0}
IsRefusal _ = ⊥

-- none of them is a refusal
abbrev pub AreWell : List Answer → Type 0
AreWell answers = All (λ answer. IsRefusal answer → ⊥) answers

-- Of these planned commands all were given, and none was refused; or the first ones, of which the
-- last one was.
abbrev pub AreGiven : List Op → List Op → List Answer → Answer → Type 0
AreGiven plan commands answers ended =
    ((ended ≡ Done) × (commands ≡ plan) × AreWell answers)
    ⊎ (IsRefusal ended × (undone : List Op) × (before : List Answer)
    × (plan ≡ commands ++ undone) × (answers ≡ before ++ ended ∷ []) × AreWell before)

-- the exit status: 0 where all was done, 1 where it was refused
abbrev pub status_of : Answer → ℕ
status_of (Refused e) = 1
status_of _ = 0
