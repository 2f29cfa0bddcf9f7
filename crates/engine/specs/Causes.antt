-- What an open database, or a session, shows of the causes of an error, and that an answer has the
-- cause that there is.
use Rattle.std.specs.Prelude.{◌≡◌, true, false, Option, Some, None, is_some, unwrap_or, MatchOption, Result, Err}
use Rattle.std.specs.Option.{option_map}
use Rattle.coding.specs.declared.error.DbError.{DbError}
use Rattle.machine.specs.Causes.{Status}
use Rattle.machine.specs.declared.command.Answer.{Answer}
use Rattle.machine.specs.declared.command.Answer.TheVariants.{Refused}
use Rattle.opening.specs.Refusals.{IsMet}
use Rattle.engine.specs.declared.ids.Ids.{Ids}
use Rattle.engine.specs.OpenDb.{OpenDb}
use Rattle.engine.specs.Reads.{kept_at}

-- of an open database, and of the last ids given
abbrev pub open_status : {K : Type 0} {g : _} → Ids → OpenDb K g → Status
open_status ids db = record {
  opened = true;
  broken = db.broken;
  used = db.memory.last;
  sees = λ id. is_some (kept_at db.snapshots id);
  iterates = λ id. is_some (kept_at db.iterators id);
  stands = λ id. unwrap_or (option_map (λ iterator. iterator.walk.stands) (kept_at db.iterators id)) false;
  last_snapshot = ids.snapshot;
  last_iterator = ids.iterator;
}

-- of a session
abbrev pub status_in : {K : Type 0} {g : _} → Ids → Option (OpenDb K g) → Status
status_in ids (Some db) = open_status ids db
status_in ids None = record {
  opened = false;
  broken = false;
  used = 0;
  sees = λ id. false;
  iterates = λ id. false;
  stands = λ id. false;
  last_snapshot = ids.snapshot;
  last_iterator = ids.iterator;
}

-- With a cause the answer is that error, and the store wasn't called. Without one it is none of
-- these errors.
abbrev pub IsCaused : {S : Type 0} → Option DbError → S → S → Answer → Type 0
IsCaused cause old new answer = MatchOption cause ((e : DbError) → answer ≡ Refused e → IsMet e) (λ e. (answer ≡ Refused e) × (new ≡ old))

-- The same of a call on an open database.
abbrev pub IsCausedIn : {S T : Type 0} → Option DbError → S → S → Result T DbError → Type 0
IsCausedIn cause old new result = MatchOption cause ((e : DbError) → result ≡ Err e → IsMet e) (λ e. (result ≡ Err e) × (new ≡ old))

-- The same of one that isn't lent the store.
abbrev pub Causes : {T : Type 0} → Option DbError → Result T DbError → Type 0
Causes cause result = MatchOption cause ((e : DbError) → result ≡ Err e → IsMet e) (λ e. result ≡ Err e)
