-- How a call leads from the states that an open database may have been in to those that it may be
-- in.
use Rattle.ikey.specs.Orders.{Order}
use Rattle.engine.specs.declared.ids.Ids.{Ids}
use Rattle.machine.specs.Machine.{Machine}
use Rattle.engine.specs.OpenDb.{OpenDb}
use Rattle.table_access.specs.Tables.{Seen}
use Rattle.engine.specs.Follows.{Leads}
use Rattle.engine.specs.internal.Standing.{StandsOpen}

-- The same of an open database over its store, where the last ids given stay.
abbrev pub LeadsOpen : {K : Type 0} {g : _} → Order → Seen → Seen → Ids → OpenDb K g → OpenDb K g → (Machine → Machine → Type 0) → Type 0
LeadsOpen order old new ids before after moves = Leads old.facts new.facts (StandsOpen order old ids before) (StandsOpen order new ids after) moves

-- The same of one that makes no call of its store.
abbrev pub LeadsBeside : {K : Type 0} {g : _} → Order → Seen → Ids → Ids → OpenDb K g → OpenDb K g → (Machine → Machine → Type 0) → Type 0
LeadsBeside order source ids given before after moves = Leads source.facts source.facts (StandsOpen order source ids before) (StandsOpen order source given after) moves
