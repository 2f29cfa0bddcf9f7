-- Where a call breaks the database that it is made on.
use Rattle.std.specs.Prelude.{◌≡◌, ◌<◌, Bool, true, false, Result, Err, Option, Some, None}
use Rattle.coding.specs.declared.error.DbError.{DbError}
use Rattle.coding.specs.declared.error.DbError.TheVariants.{Io}
use Rattle.db_cursor.specs.declared.source.Sources.{Sources}
use Rattle.machine.specs.declared.command.Answer.{Answer}
use Rattle.machine.specs.declared.command.Answer.TheVariants.{Refused}
use Rattle.store.specs.Files.{Facts}
use Rattle.engine.specs.declared.db.Db.{Db}
use Rattle.engine.specs.declared.session.Session.{Session}
use Rattle.engine.specs.declared.state.DbState.{DbState}
use Rattle.engine.specs.OpenDb.{OpenDb}
use Rattle.engine.specs.Stands.{store_of, open_in}
use Rattle.engine.specs.StandsDb.{db_store_of, open_by}

-- Of a database that wasn't broken. It is broken after a call exactly if within it a call of the
-- store failed that makes a file, adds to one, syncs one or renames one; and then the answer is Io.
pub record BreaksExactly (old new : Facts) (now : Bool) (is_io : Type 0) : Type 0 where
  pub broken : now ≡ true → (old.write_failures < new.write_failures) × is_io
  pub whole : now ≡ false → new.write_failures ≡ old.write_failures

-- the same of the parts of a database, to which a session lends what is read
abbrev pub BreaksLent : {S K T : Type 0} {g : _} → (S → Facts) → Sources K S → Sources K S → DbState K g → Result T DbError → Type 0
BreaksLent facts old new after result = BreaksExactly (facts old.tables.store) (facts new.tables.store) after.broken (result ≡ Err Io)

abbrev pub DbBreaks : {S K T : Type 0} {g : _} → (S → Facts) → Db S K g → Db S K g → Result T DbError → Type 0
DbBreaks facts old new result = (open_by old).broken ≡ false → BreaksExactly (facts (db_store_of old)) (facts (db_store_of new)) (open_by new).broken (result ≡ Err Io)

-- of what is open in a session before and after a command
abbrev pub BreaksOpen : {K : Type 0} {g : _} → Facts → Facts → Option (OpenDb K g) → Option (OpenDb K g) → Answer → Type 0
BreaksOpen old new None after answer = Unit {0}
BreaksOpen old new (Some before) None answer = Unit {0}
BreaksOpen old new (Some before) (Some after) answer = before.broken ≡ false → BreaksExactly old new after.broken (answer ≡ Refused Io)

abbrev pub BreaksBy : {S K : Type 0} {g : _} → (S → Facts) → Session S K g → Session S K g → Answer → Type 0
BreaksBy facts old new answer = BreaksOpen (facts (store_of old)) (facts (store_of new)) (open_in old) (open_in new) answer
