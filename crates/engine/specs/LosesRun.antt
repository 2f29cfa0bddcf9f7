-- What a power loss leaves at any moment of a run, over as many opens and closes of one store as it
-- has.
use Rattle.std.specs.Prelude.{◌≡◌, ◌⊎◌, ◌<◌, ◌≤◌, ◌++◌, ℕ, false, IsSome, IsTrue, List, [], ◌∷◌, Some}
use Rattle.std.specs.FinMap.{get}
use Rattle.std.specs.Option.{option_map_or}
use Rattle.edits.specs.Names.{IsNumbered, name_of}
use Rattle.edits.specs.declared.names.FileName.TheVariants.{Log, OldTable, Table}
use Rattle.ikey.specs.Orders.{Order}
use Rattle.machine.specs.Access.{accepted}
use Rattle.machine.specs.Machine.{Machine}
use Rattle.machine.specs.Step.{Step}
use Rattle.machine.specs.declared.command.Answer.{Answer}
use Rattle.machine.specs.declared.command.Answer.TheVariants.{Done}
use Rattle.machine.specs.declared.command.Op.{Op}
use Rattle.machine.specs.declared.command.Op.TheVariants.{Open}
use Rattle.opening.specs.Losses.{IsKept, IsLeftWhole, IsLogIn, IsReadIn}
use Rattle.recover.specs.Directory.{Directory, IsConsistent}
use Rattle.store.specs.Files.{Call, Facts, Files, lock_name}
use Rattle.store.specs.Losses.{LosesOnly, StaysNamed}
use Rattle.engine.specs.Headline.{IsFirst}
use Rattle.engine.specs.Losses.{HoldsFirst, SparesFound, with_written}
use Rattle.engine.specs.OpenDb.{OpenDb}
use Rattle.engine.specs.Stands.{Stands, open_in, store_of}
use Rattle.engine.specs.declared.session.Session.{Session}

-- it is the name of a table or a log of this number
abbrev pub IsNameOf : ℕ → List ℕ → Type 0
IsNameOf n q = (q ≡ name_of (Table n)) ⊎ (q ≡ name_of (OldTable n)) ⊎ (q ≡ name_of (Log n))

-- The files with numbers below that of its MANIFEST which a directory doesn't read, as an open
-- couldn't remove them: each is synced whole, or the loss has left it whole, or removed it.
abbrev pub SparesUnread : Order → Facts → Files → Type 0
SparesUnread order facts lost = (d : Directory) → IsConsistent order facts.files d → (n : ℕ) → IsNumbered n → n < d.manifest
    → (q : List ℕ) → IsNameOf n q → (IsReadIn facts.files d q ⊎ IsLogIn d q → ⊥) → IsLeftWhole facts lost q

-- What a loss must spare after a command. If an open succeeded though a call of the store failed,
-- that includes what it couldn't remove.
abbrev pub sparing : Order → Op → Answer → Facts → Facts → (Files → Type 0) → Files → Type 0
sparing order (Open mode) Done old new spares lost = spares lost × (old.failures < new.failures → SparesUnread order new lost)
sparing order op answer old new spares lost = spares lost

-- The machine with the in-doubt batch as the last of its batches.
abbrev pub with_doubted : Machine → Machine
with_doubted m = option_map_or (λ operations. accepted m operations false) m.in_doubt m

-- At any moment from old on, up to new, a loss leaves files that have P. The calls go on from
-- there, so that such pieces have each moment of a run, and each of its failures.
pub record LosesAlong (old new : Facts) (P : Files → Type 0) : Type 0 where
  pub more : List Call
  pub calls : new.calls ≡ old.calls ++ more
  pub failures : old.failures ≤ new.failures
  pub each : LosesOnly old new P

-- At any moment of a command a loss leaves a prefix of the batches that were accepted by then, no
-- fewer than the last write with sync synced. Of a write its batch is the last of them, and so is
-- an in-doubt one.
abbrev pub LosesEach : Order → (Files → Type 0) → Machine → Facts → Facts → List Op → List Answer → Type 0
LosesEach order spares m old new [] [] = LosesAlong old new (λ lost. spares lost → HoldsFirst order lost (with_doubted m))
LosesEach order spares m old new (command ∷ commands) (answer ∷ answers) =
    (mid : Facts) × LosesAlong old mid (λ lost. spares lost → HoldsFirst order lost (with_written (with_doubted m) command))
    × ((next : Machine) × Step order m command answer next × LosesEach order (sparing order command answer old mid spares) next mid new commands answers)
LosesEach order spares m old new [] (answer ∷ answers) = ⊥
LosesEach order spares m old new (command ∷ commands) [] = ⊥

-- That holds from each state without damage of a session with an open database that isn't broken,
-- whose store has the lock's file. Of the files that were there before its open each that isn't
-- known to be synced must be left whole, or removed.
abbrev pub SessionLosesRun : {S K : Type 0} {g : _} → Order → (S → Facts) → List Op → List Answer → Session S K g → Session S K g → Type 0
SessionLosesRun {S} {K} {g} order facts ops answers old new =
    IsTrue (facts (store_of new)).faithful → IsSome (get (facts (store_of old)).files lock_name) → (db : OpenDb K g) → open_in old ≡ Some db → db.broken ≡ false
    → (m : Machine) → m.damaged ≡ false → Stands order facts old m
    → LosesEach order (SparesFound (facts (store_of old)) db) m (facts (store_of old)) (facts (store_of new)) ops answers

-- All files and their names are durable.
pub record IsOnDevice (facts : Facts) : Type 0 where
  pub files : (name : List ℕ) → IsKept facts name
  pub names : (name : List ℕ) → StaysNamed facts name

-- From the files at its begin, which are durable and among which is the lock's, to those at its
-- end. A loss has nothing to spare then, if no call of the store failed.
abbrev pub LosesRun : Order → Facts → Facts → List Op → List Answer → Type 0
LosesRun order old new ops answers = IsTrue new.faithful → IsSome (get old.files lock_name) → IsOnDevice old → (first : Machine) → IsFirst order old first → first.damaged ≡ false
    → LosesEach order (λ lost. Unit {0}) first old new ops answers
