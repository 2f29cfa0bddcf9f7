-- What a process crash leaves in the middle of a command, and of a run.
use Rattle.std.specs.Prelude.{◌≡◌, ◌⊎◌, false, List, [], ◌∷◌, MatchBool, IsTrue}
use Rattle.batch.specs.declared.operation.Operation.{Operation}
use Rattle.store.specs.Files.{Facts, Files}
use Rattle.store.specs.Stops.{LeavesOnly}
use Rattle.ikey.specs.Orders.{Order}
use Rattle.machine.specs.Access.{accepted}
use Rattle.machine.specs.Machine.{Machine}
use Rattle.machine.specs.Step.{Step}
use Rattle.machine.specs.declared.command.Answer.{Answer}
use Rattle.machine.specs.declared.command.Op.{Op}
use Rattle.machine.specs.declared.command.Op.TheVariants.{Write}
use Rattle.engine.specs.Headline.{Holds, HoldsAccepted, IsFirst}
use Rattle.engine.specs.Stands.{Stands, store_of}
use Rattle.engine.specs.StandsDb.{StandsDb, db_store_of}
use Rattle.engine.specs.declared.db.Db.{Db}
use Rattle.engine.specs.declared.ids.Ids.{Ids}
use Rattle.engine.specs.internal.Standing.{StandsClosed}
use Rattle.engine.specs.declared.session.Session.{Session}

-- ---- the files that are left

-- Of what was accepted. If a database is open that isn't broken, with this batch as a whole or
-- without it.
abbrev pub LeftByWrite : Order → Machine → List Operation → Files → Type 0
LeftByWrite order m operations files =
    MatchBool m.broken (HoldsAccepted order files m)
    (MatchBool m.opened (Holds order files m ⊎ Holds order files (accepted m operations false)) (HoldsAccepted order files m))

-- Every other command leaves those of what was accepted: an open, too, and one that fails.
abbrev pub LeftBy : Order → Machine → Op → Files → Type 0
LeftBy order m (Write operations sync) files = LeftByWrite order m operations.items files
LeftBy order m _ files = HoldsAccepted order files m

-- ---- a command of a session

-- At any moment since, a process crash leaves files that hold what was accepted. (Said of the calls
-- since: so those of two commands compose.)
abbrev pub StopsKeeping : Order → Machine → Facts → Facts → Type 0
StopsKeeping order m old new = LeavesOnly old new (λ files. HoldsAccepted order files m)

-- While the store is faithful, that holds from each state without damage that the session may have
-- been in.
abbrev pub SessionStops : {S K : Type 0} {g : _} → Order → (S → Facts) → Session S K g → Session S K g → Type 0
SessionStops order facts old new =
    IsTrue (facts (store_of new)).faithful → (m : Machine) → m.damaged ≡ false → Stands order facts old m → StopsKeeping order m (facts (store_of old)) (facts (store_of new))

abbrev pub SessionStopsWrite : {S K : Type 0} {g : _} → Order → (S → Facts) → List Operation → Session S K g → Session S K g → Type 0
SessionStopsWrite order facts operations old new =
    IsTrue (facts (store_of new)).faithful → (m : Machine) → m.damaged ≡ false → Stands order facts old m
    → LeavesOnly (facts (store_of old)) (facts (store_of new)) (λ files. LeftByWrite order m operations files)

-- what is said of a command
abbrev pub StopsBy : {S K : Type 0} {g : _} → Op → Order → (S → Facts) → Session S K g → Session S K g → Type 0
StopsBy op order facts old new =
    IsTrue (facts (store_of new)).faithful → (m : Machine) → m.damaged ≡ false → Stands order facts old m → LeavesOnly (facts (store_of old)) (facts (store_of new)) (λ files. LeftBy order m op files)

-- ---- a run, from files to files

-- From the files at its begin to those at its end, by those between its commands. A process crash
-- in the middle of a command leaves what that one may, in the state to which the commands before it
-- led. A process crash after the last one leaves what was accepted.
abbrev pub StopsEach : Order → Machine → Facts → Facts → List Op → List Answer → Type 0
StopsEach order m old new [] [] = StopsKeeping order m old new
StopsEach order m old new (command ∷ commands) (answer ∷ answers) =
    (mid : Facts) × LeavesOnly old mid (λ files. LeftBy order m command files)
    × ((next : Machine) × Step order m command answer next × StopsEach order next mid new commands answers)
StopsEach order m old new [] (answer ∷ answers) = ⊥
StopsEach order m old new (command ∷ commands) [] = ⊥

-- While the store is faithful, from each machine of undamaged files at first. A process crash at
-- any moment leaves what the commands that were answered by then have accepted, and the batch of
-- the one that it meets as a whole or not at all.
abbrev pub StopsRun : Order → Facts → Facts → List Op → List Answer → Type 0
StopsRun order old new ops answers = IsTrue new.faithful → (first : Machine) → IsFirst order old first → first.damaged ≡ false → StopsEach order first old new ops answers

-- ---- an open database alone

abbrev pub DbStopsWrite : {S K : Type 0} {g : _} → Order → (S → Facts) → List Operation → Db S K g → Db S K g → Type 0
DbStopsWrite order facts operations old new =
    IsTrue (facts (db_store_of new)).faithful → (m : Machine) → m.damaged ≡ false → StandsDb order facts old m
    → LeavesOnly (facts (db_store_of old)) (facts (db_store_of new)) (λ files. LeftByWrite order m operations files)

abbrev pub DbStops : {S K : Type 0} {g : _} → Order → (S → Facts) → Db S K g → Db S K g → Type 0
DbStops order facts old new =
    IsTrue (facts (db_store_of new)).faithful → (m : Machine) → m.damaged ≡ false → StandsDb order facts old m → StopsKeeping order m (facts (db_store_of old)) (facts (db_store_of new))

-- And the same of its open.
abbrev pub OpenStops : Order → Facts → Facts → Ids → Type 0
OpenStops order old new ids = IsTrue new.faithful → (m : Machine) → m.damaged ≡ false → StandsClosed order old ids m → StopsKeeping order m old new
