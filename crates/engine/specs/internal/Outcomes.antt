-- Words for what holds of every command over whatever store.
use Rattle.std.specs.Prelude.{◌≡◌, ℕ, Option, Result, MatchResult, OnErr, List}
use Rattle.batch.specs.declared.operation.Operation.{Operation}
use Rattle.coding.specs.declared.error.DbError.{DbError}
use Rattle.store.specs.Files.{Facts}
use Rattle.machine.specs.declared.command.Answer.{Answer}
use Rattle.engine.specs.declared.session.Session.{Session}
use Rattle.opening.specs.Refusals.{StoodOrHeld}
use Rattle.engine.specs.OpenDb.{OpenDb}
use Rattle.engine.specs.Stands.{store_of, open_in}
use Rattle.engine.specs.Outcomes.{IsClosed, IsDropped, IsEmptyWrite, IsOpenAnswer, IsReleased, IsSame, Keeps, KeepsBy, KeepsDone, Outcome, Stood}

abbrev pub KeepsState : {K : Type 0} {g : _} → Facts → Facts → Option (OpenDb K g) → Option (OpenDb K g) → Type 0
KeepsState {K} {g} old new before after = KeepsBy (Keeps {K = K} {g = g}) old new before after

abbrev pub OutcomeOf : {S K : Type 0} {g : _} → (Answer → Type 0) → (S → Facts) → Session S K g → Session S K g → Answer → Type 0
OutcomeOf {S} {K} {g} may facts old new answer = Outcome may Stood (Keeps {K = K} {g = g}) (facts (store_of old)) (facts (store_of new)) old.ids new.ids (open_in old) (open_in new) answer

-- the same of an open
abbrev pub OpeningOf : {S K : Type 0} {g : _} → (S → Facts) → Session S K g → Session S K g → Answer → Type 0
OpeningOf {S} {K} {g} facts old new answer = Outcome IsOpenAnswer StoodOrHeld (Keeps {K = K} {g = g}) (facts (store_of old)) (facts (store_of new)) old.ids new.ids (open_in old) (open_in new) answer

-- the same of a compaction
abbrev pub CompactionOf : {S K : Type 0} {g : _} → (Answer → Type 0) → (S → Facts) → Session S K g → Session S K g → Answer → Type 0
CompactionOf {S} {K} {g} may facts old new answer = Outcome may Stood (KeepsDone {K = K} {g = g}) (facts (store_of old)) (facts (store_of new)) old.ids new.ids (open_in old) (open_in new) answer

abbrev pub ClosesIt : {S K : Type 0} {g : _} → Session S K g → Answer → Type 0
ClosesIt session answer = IsClosed (open_in session) answer

abbrev pub WritesEmpty : {S K : Type 0} {g : _} → List Operation → Session S K g → Session S K g → Answer → Type 0
WritesEmpty operations old new answer = IsEmptyWrite operations (open_in old) (store_of old) (store_of new) answer

abbrev pub ReleasesIt : {S K : Type 0} {g : _} → ℕ → Session S K g → Session S K g → Answer → Type 0
ReleasesIt id old new answer = IsReleased id (open_in old) (store_of old) (store_of new) answer

abbrev pub DropsIt : {S K : Type 0} {g : _} → ℕ → Session S K g → Session S K g → Answer → Type 0
DropsIt id old new answer = IsDropped id (open_in old) (store_of old) (store_of new) answer

-- a call that makes none of the store
pub record Beside {T K : Type 0} {g : _} (may : DbError → Type 0) (before after : OpenDb K g) (result : Result T DbError) : Type 0 where
  pub broken : after.broken ≡ before.broken
  pub allowed : MatchResult result (λ x. Unit {0}) may
  pub refused : OnErr result (IsSame before after)
