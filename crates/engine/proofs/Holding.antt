-- That the files of an open database hold what its machine accepted.
use Rattle.std.proofs.Common.{◌≡◌, Bool, true, false, MatchBool, Option, Some, None, sym, subst}
use Rattle.store.specs.Files.{Facts, Files}
use Rattle.store.specs.Stops.{Left, LeftNowLaw, moment}
use Rattle.ikey.specs.Orders.{Order}
use Rattle.machine.specs.Machine.{Machine}
use Rattle.table_access.specs.Tables.{Seen}
use Rattle.engine.specs.Headline.{Holds, HoldsAccepted}
use Rattle.engine.specs.Holding.{HoldsNow, HoldsOver}
use Rattle.engine.specs.OpenDb.{OpenDb}
use Rattle.engine.specs.declared.ids.Ids.{Ids}
use Rattle.engine.specs.internal.Standing.{IsBroken, IsServing, StandsOpen}
use Rattle.engine.proofs.Lasting.{held, holds_current}
use Rattle.engine.proofs.OpenMachine.{means_whole}
use Rattle.engine.proofs.Origins.{undamaged_serving}
use Rattle.engine.proofs.Steps.{means_current}

holds_open : {K : Type 0} {g : _} (order : Order) (source : Seen) (ids : Ids) (db : OpenDb K g) (m : Machine) → m.damaged ≡ false → StandsOpen order source ids db m → MatchBool db.broken (HoldsAccepted order source.facts.files m) (Holds order source.facts.files m)
holds_open order source ids db m undamaged s = at db.broken s.rest
  where
    at : (b : Bool) → MatchBool b (IsBroken order source.facts.files m) (IsServing order source db m) → MatchBool b (HoldsAccepted order source.facts.files m) (Holds order source.facts.files m)
    at true h = held order source.facts.files m m.in_doubt (means_whole order source.facts.files m undamaged h.rest)
    at false h = holds_current order source.facts.files m (means_current order source db m (undamaged_serving order source db m undamaged h))

pub holds_now : {K : Type 0} {g : _} (order : Order) → LeftNowLaw → (source : Seen) (ids : Ids) (db : OpenDb K g) (m : Machine) → m.damaged ≡ false → StandsOpen order source ids db m → HoldsNow order source.facts db m
holds_now order law source ids db m undamaged s left is =
    subst (λ (files : Files). MatchBool db.broken (HoldsAccepted order files m) (Holds order files m)) (sym ((law source.facts (moment source.facts) left).1 is)) (holds_open order source ids db m undamaged s)

pub any_holds : {K : Type 0} {g : _} (order : Order) → LeftNowLaw → (source : Seen) (ids : Ids) (o : Option (OpenDb K g)) → HoldsOver order source ids o
any_holds order law source ids None = tt
any_holds order law source ids (Some db) = λ m undamaged s. holds_now order law source ids db m undamaged s
