-- Words for the calls of an open database to which a session lends what is read.
use Rattle.std.specs.Prelude.{Result}
use Rattle.coding.specs.declared.error.DbError.{DbError}
use Rattle.db_cursor.specs.Whole.{seen_of}
use Rattle.db_cursor.specs.declared.source.Sources.{Sources}
use Rattle.ikey.specs.Orders.{Order}
use Rattle.store.specs.Files.{Facts}
use Rattle.engine.specs.declared.ids.Ids.{Ids}
use Rattle.engine.specs.declared.state.DbState.{DbState}
use Rattle.engine.specs.internal.JobsToEnd.{ServesOn}
use Rattle.engine.specs.Finishing.{CompactOutcome}
use Rattle.engine.specs.internal.Leading.{LeadsOpen}
use Rattle.engine.specs.OpenDb.{open_db}
use Rattle.machine.specs.Machine.{Machine}
use Rattle.engine.specs.Outcomes.{DbOutcome}

-- from whatever it stands for, to what these moves make of that
abbrev pub LeadsLent : {S K : Type 0} {g : _} → Order → (S → Facts) → Sources K S → DbState K g → Sources K S → DbState K g → (Machine → Machine → Type 0) → Type 0
LeadsLent order facts old before new after moves = (ids : Ids) → LeadsOpen order (seen_of facts old) (seen_of facts new) ids (open_db old.memory before) (open_db new.memory after) moves

-- it goes on serving
abbrev pub ServesLent : {S K : Type 0} {g : _} → (S → Facts) → Sources K S → DbState K g → Sources K S → DbState K g → Type 0
ServesLent facts old before new after = ServesOn (facts old.tables.store) (facts new.tables.store) (open_db old.memory before) (open_db new.memory after)

-- what a call leaves over any store, whether it fails or not
abbrev pub OutcomeLent : {S K T : Type 0} {g : _} → (DbError → Type 0) → (S → Facts) → Sources K S → DbState K g → Sources K S → DbState K g → Result T DbError → Type 0
OutcomeLent may facts old before new after result = DbOutcome may (facts old.tables.store) (facts new.tables.store) (open_db old.memory before) (open_db new.memory after) result

-- the same of a compaction
abbrev pub CompactLent : {S K T : Type 0} {g : _} → (DbError → Type 0) → (S → Facts) → Sources K S → DbState K g → Sources K S → DbState K g → Result T DbError → Type 0
CompactLent may facts old before new after result = CompactOutcome may (facts old.tables.store) (facts new.tables.store) (open_db old.memory before) (open_db new.memory after) result
