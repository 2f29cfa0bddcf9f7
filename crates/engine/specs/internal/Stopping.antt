-- A process crash is a failure that nobody saw: what a call leaves if the store fails, a process
-- crash in its middle leaves too.
use Rattle.std.specs.Prelude.{◌≡◌, false, IsTrue}
use Rattle.store.specs.Files.{Facts, Files}
use Rattle.store.specs.Stops.{LeavesOnly}
use Rattle.ikey.specs.Orders.{Order}
use Rattle.db_cursor.specs.Whole.{seen_of}
use Rattle.db_cursor.specs.declared.source.Sources.{Sources}
use Rattle.table_access.specs.Tables.{Seen}
use Rattle.machine.specs.Machine.{Machine}
use Rattle.engine.specs.declared.ids.Ids.{Ids}
use Rattle.engine.specs.declared.state.DbState.{DbState}
use Rattle.engine.specs.OpenDb.{OpenDb, open_db}
use Rattle.engine.specs.Losses.{LosesFirst}
use Rattle.engine.specs.Reopening.{KeepsFound}
use Rattle.engine.specs.internal.Directory.{MeansAccepted}
use Rattle.engine.specs.internal.Standing.{StandsWhole}

-- From each state that it may have been in, not broken: a process crash since leaves files of which
-- this is so.
abbrev pub StopsLent : {S K : Type 0} {g : _} → Order → (S → Facts) → Sources K S → DbState K g → Sources K S → (Machine → Files → Type 0) → Type 0
StopsLent order facts old before new left =
    IsTrue (facts new.tables.store).faithful → (ids : Ids) (m : Machine) → StandsWhole order (seen_of facts old) ids (open_db old.memory before) m → before.broken ≡ false
    → LeavesOnly (facts old.tables.store) (facts new.tables.store) (left m)

-- And a power loss the first batches of the machine that is made of it.
abbrev pub LosesLent : {S K : Type 0} {g : _} → Order → (S → Facts) → Sources K S → DbState K g → Sources K S → (Machine → Machine) → Type 0
LosesLent order facts old before new made =
    IsTrue (facts new.tables.store).faithful → (ids : Ids) (m : Machine) → StandsWhole order (seen_of facts old) ids (open_db old.memory before) m → before.broken ≡ false
    → LosesFirst order (facts old.tables.store) (facts new.tables.store) (open_db old.memory before) (made m)

-- And the files that the open found stay, or go.
abbrev pub KeepsFoundLent : {S K : Type 0} {g : _} → Order → (S → Facts) → Sources K S → DbState K g → Sources K S → Type 0
KeepsFoundLent order facts old before new =
    IsTrue (facts new.tables.store).faithful → (ids : Ids) (m : Machine) → StandsWhole order (seen_of facts old) ids (open_db old.memory before) m → before.broken ≡ false
    → KeepsFound (facts old.tables.store) (facts new.tables.store) (open_db old.memory before)

-- What is left at any moment of a call, from each state that it may have been in.
pub record KeepsOpen {K : Type 0} {g : _} (order : Order) (old new : Seen) (before : OpenDb K g) : Type 0 where
  -- by a process crash: files that stand for what was accepted
  pub stops : IsTrue new.facts.faithful → (ids : Ids) (m : Machine) → StandsWhole order old ids before m → LeavesOnly old.facts new.facts (λ files. MeansAccepted order files m)
  -- by a power loss, of a database that isn't broken: a prefix of what was accepted
  pub loses : IsTrue new.facts.faithful → (ids : Ids) (m : Machine) → StandsWhole order old ids before m → before.broken ≡ false → LosesFirst order old.facts new.facts before m
  pub found : IsTrue new.facts.faithful → (ids : Ids) (m : Machine) → StandsWhole order old ids before m → before.broken ≡ false → KeepsFound old.facts new.facts before

-- the same of a database to which a session lends what is read
abbrev pub KeepsLent : {S K : Type 0} {g : _} → Order → (S → Facts) → Sources K S → DbState K g → Sources K S → Type 0
KeepsLent order facts old before new = KeepsOpen order (seen_of facts old) (seen_of facts new) (open_db old.memory before)
