-- The pairs of a walk as they are printed.
use Rattle.std.specs.Prelude.{◌≡◌, ◌++◌, ℕ, List, Option, Result, Ok, Err, IfErr, IsTrue}
use Rattle.std.specs.Io.KnownBytes.{Appends}
use Rattle.coding.specs.declared.error.DbError.{DbError}
use Rattle.ikey.specs.Orders.{Order}
use Rattle.ikey.specs.Views.{Contents}
use Rattle.store.specs.Files.{Facts}
use Rattle.machine.specs.Machine.{Walk}
use Rattle.script.specs.Drive.{Shows}
use Rattle.engine.specs.Ranges.{Cmp, Pair}
use Rattle.reader.specs.declared.reader.Reader.{Reader}
use Rattle.reader.specs.declared.reader.ReaderWalk.{ReaderWalk}
use Rattle.reader.specs.Readers.{ShowsMap, facts_of}
use Rattle.browse.specs.declared.choice.Choice.{Choice}
use Rattle.browse.specs.Choices.{at_most}
use Rattle.browse.specs.Forms.{lines_in}
use Rattle.browse.specs.Browsing.{IsTold, end_status}
use Rattle.browse.specs.internal.Lists.{reach, starting}
use Rattle.browse.specs.internal.Walking.{RefusesMove, Stands}

-- the walk of a reader, which hasn't begun, goes over these pairs
abbrev pub GoesOver : {S K : Type 0} {g : _} → Cmp → (S → Facts) → Reader S K → ReaderWalk K g → List Pair → Type 0
GoesOver cmp facts reader walk pairs = (at : Walk) × Stands cmp facts reader walk at × (at.pairs ≡ pairs)

-- these came: all of the list, or, where a refusal stands behind them, the first of it
abbrev pub Ends : List Pair → List Pair → Result (Unit {0}) DbError → Type 0
Ends came all (Ok done) = came ≡ all
Ends came all (Err e) = (rest : List Pair) × (came ++ rest ≡ all)

-- Pairs came, and their lines stand behind the text that waited; of that some was written.
pub record Prints (cmp : Cmp) (choice : Choice) (Over : List Pair → Type 0) (old new : Facts) (before after : Option (List ℕ)) (text rest : List ℕ) (answer : Result (Unit {0}) DbError) : Type 0 where
  pub came : List Pair
  pub shown : Shows before after (text ++ lines_in choice.style came) rest
  pub told : IsTrue new.faithful → (pairs : List Pair) → Over pairs → Ends came (at_most choice.most (reach cmp choice (starting cmp choice pairs))) answer
  pub refused : IfErr answer (λ e. RefusesMove cmp e old new (λ P. (pairs : List Pair) → Over pairs → P))

-- The same of the pairs of the map that a reader shows.
pub record PrintsMap {S K : Type 0} (order : Order) (choice : Choice) (facts : S → Facts) (old new : Reader S K) (before after : Option (List ℕ)) (text rest : List ℕ) (answer : Result (Unit {0}) DbError) : Type 0 where
  pub came : List Pair
  pub shown : Shows before after (text ++ lines_in choice.style came) rest
  pub told : IsTrue (facts_of facts new).faithful → (map : Contents) → ShowsMap order facts old map → IsTold order.cmp choice map came answer
  pub refused : IfErr answer (λ e. RefusesMove order.cmp e (facts_of facts old) (facts_of facts new) (λ P. (map : Contents) → ShowsMap order facts old map → P))

-- And all of it was written.
pub record TellsMap {S K : Type 0} (order : Order) (choice : Choice) (facts : S → Facts) (old new : Reader S K) (before after : Option (List ℕ)) (status : ℕ) : Type 0 where
  pub came : List Pair
  pub answer : Result (Unit {0}) DbError
  pub told : IsTrue (facts_of facts new).faithful → (map : Contents) → ShowsMap order facts old map → IsTold order.cmp choice map came answer
  pub refused : IfErr answer (λ e. RefusesMove order.cmp e (facts_of facts old) (facts_of facts new) (λ P. (map : Contents) → ShowsMap order facts old map → P))
  pub written : Appends before after (lines_in choice.style came)
  pub ended : status ≡ end_status answer
