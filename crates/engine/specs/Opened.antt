-- What an open that succeeds leaves of the files (LevelDB's db/db_impl.cc, DB::Open, which removes
-- obsolete files).
use Rattle.std.specs.Prelude.{◌≡◌, IsTrue, Option, Some}
use Rattle.memtables.specs.Memories.{Memories}
use Rattle.store.specs.Files.{Facts}
use Rattle.machine.specs.declared.command.Answer.{Answer}
use Rattle.machine.specs.declared.command.Answer.TheVariants.{Done}
use Rattle.table_access.specs.Tables.{Seen}
use Rattle.engine.specs.declared.state.DbState.{DbState}
use Rattle.engine.specs.OpenDb.{OpenDb, open_db}
use Rattle.engine.specs.Working.{HasLiveOnly}

-- Unless a call of the store failed, each file of a known shape is in use.
abbrev pub OpensTidy : {K : Type 0} {g : _} → Facts → Facts → OpenDb K g → Type 0
OpensTidy old new db = IsTrue new.faithful → new.failures ≡ old.failures → HasLiveOnly new.files db

-- The same of a database beside its memtables,
abbrev pub IsTidy : {K : Type 0} {g : _} → Facts → Facts → Memories → DbState K g → Type 0
IsTidy old new memory state = OpensTidy old new (open_db memory state)

-- and of one that a session has opened.
abbrev pub OpenedTidy : {K : Type 0} {g : _} → Seen → Seen → Option (OpenDb K g) → Answer → Type 0
OpenedTidy old new (Some db) Done = OpensTidy old.facts new.facts db
OpenedTidy old new state _ = Unit {0}
