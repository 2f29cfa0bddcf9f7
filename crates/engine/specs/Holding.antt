-- What the files of an open database hold between two calls.
use Rattle.std.specs.Prelude.{◌≡◌, false, MatchBool, Option, Some, None}
use Rattle.store.specs.Files.{Facts, Files}
use Rattle.store.specs.Stops.{Left, moment}
use Rattle.ikey.specs.Orders.{Order}
use Rattle.machine.specs.Machine.{Machine}
use Rattle.table_access.specs.Tables.{Seen}
use Rattle.engine.specs.Headline.{Holds, HoldsAccepted}
use Rattle.engine.specs.OpenDb.{OpenDb}
use Rattle.engine.specs.Stands.{StandsOver, ids_of, open_in, seen_in}
use Rattle.engine.specs.StandsDb.{StandsDb, db_store_of, open_by}
use Rattle.engine.specs.declared.db.Db.{Db}
use Rattle.engine.specs.declared.ids.Ids.{Ids}
use Rattle.engine.specs.declared.session.Session.{Session}

-- Every process crash until the next call leaves files that hold what the machine accepted: if the
-- database is broken, with the in-doubt batch as a whole or without it.
abbrev pub HoldsNow : {K : Type 0} {g : _} → Order → Facts → OpenDb K g → Machine → Type 0
HoldsNow order facts db m = (left : Files) → Left facts (moment facts) left
    → MatchBool db.broken (HoldsAccepted order left m) (Holds order left m)

-- That is so of whatever the database stands for, without damage.
abbrev pub DbHolds : {S K : Type 0} {g : _} → Order → (S → Facts) → Db S K g → Type 0
DbHolds order facts db = (m : Machine) → m.damaged ≡ false → StandsDb order facts db m
    → HoldsNow order (facts (db_store_of db)) (open_by db) m

-- The same holds of one that is open in a session.
abbrev pub HoldsOver : {K : Type 0} {g : _} → Order → Seen → Ids → Option (OpenDb K g) → Type 0
HoldsOver order source ids None = Unit {0}
HoldsOver order source ids (Some db) =
    (m : Machine) → m.damaged ≡ false → StandsOver order source ids (Some db) m → HoldsNow order source.facts db m

abbrev pub SessionHolds : {S K : Type 0} {g : _} → Order → (S → Facts) → Session S K g → Type 0
SessionHolds order facts session = HoldsOver order (seen_in facts session) (ids_of session) (open_in session)
