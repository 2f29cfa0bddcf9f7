-- What `stats` prints of each answer.
use Rattle.std.proofs.Common.{Ok, Err, ℕ, Bool, List, Option, Some, None, refl}
use Rattle.coding.specs.declared.error.DbError.{DbError}
use Rattle.ikey.specs.Orders.{Order}
use Rattle.recover.specs.declared.overview.Overview.{Overview}
use Rattle.store.specs.Files.{Facts}
use Rattle.tool.specs.Statistics.{IsLookedOver, PrintsOverview, PrintsStats}

pub answers_none : (order : Order) (json : Bool) (old new : Facts) (before : Option (List ℕ)) → IsLookedOver order old new (Ok None) → PrintsStats order json old new before before 1
answers_none order json old new before looked = (Ok None, looked, (refl, refl))

pub answers_overview : (order : Order) (json : Bool) (old new : Facts) (before after : Option (List ℕ)) (overview : Overview) → IsLookedOver order old new (Ok (Some overview))
    → PrintsOverview order.name json overview before after → PrintsStats order json old new before after 0
answers_overview order json old new before after overview looked prints = (Ok (Some overview), looked, (prints, refl))

pub answers_refusal : (order : Order) (json : Bool) (old new : Facts) (before : Option (List ℕ)) (error : DbError) → IsLookedOver order old new (Err error) → PrintsStats order json old new before before 1
answers_refusal order json old new before error looked = (Err error, looked, (refl, refl))
