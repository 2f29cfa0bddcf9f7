-- The machine beside an open that is under way.
use Rattle.std.specs.Prelude.{◌≡◌, ◌≤◌, length, Bool, true, false, Result, Ok, Err}
use Rattle.coding.specs.declared.error.DbError.{DbError}
use Rattle.coding.specs.declared.error.DbError.TheVariants as error
use Rattle.opening.specs.Losses.{LeavesUncut}
use Rattle.store.specs.Files.{Facts}
use Rattle.store.specs.Losses.{LosesOnly}
use Rattle.ikey.specs.Orders.{Order}
use Rattle.engine.specs.declared.ids.Ids.{Ids}
use Rattle.engine.specs.declared.state.DbState.{DbState}
use Rattle.machine.specs.Machine.{Machine}
use Rattle.engine.specs.OpenDb.{open_db}
use Rattle.memtables.specs.Memories.{Memories}
use Rattle.table_access.specs.Tables.{Seen}
use Rattle.engine.specs.internal.Directory.{IsAtRest, MeansAccepted}
use Rattle.engine.specs.internal.Standing.{HasIds, HasNoViews, StandsOpen, StandsClosed}

-- The machine is at rest beside a store, which may have failed more often since.
pub record Rests (order : Order) (facts : Facts) (given : Ids) (m : Machine) : Type 0 where
  pub failures : m.failures ≤ facts.failures
  pub denials : m.denials ≡ facts.denials
  pub ids : HasIds given m
  pub reached : m.synced ≤ length m.batches
  pub opened : m.opened ≡ false
  pub broken : m.broken ≡ false
  pub views : HasNoViews m
  pub rest : IsAtRest order facts.files m

-- where an open leaves it
abbrev pub StandsResult : {K : Type 0} {g : _} → Order → Seen → Memories → Ids → Result (DbState K g) DbError → Machine → Type 0
StandsResult order source memory ids (Ok state) m = StandsOpen order source ids (open_db memory state) m
StandsResult order source memory ids (Err error) m = StandsClosed order source.facts ids m

-- At any moment since old a power loss that truncates no file that was there leaves files that
-- stand for what was accepted.
abbrev pub LosesMeaning : Order → Facts → Facts → Machine → Type 0
LosesMeaning order old new m = LosesOnly old new (λ lost. LeavesUncut old lost → MeansAccepted order lost m)

-- whether memory was missing
abbrev pub is_of_memory : DbError → Bool
is_of_memory error.OutOfMemory = true
is_of_memory _ = false
