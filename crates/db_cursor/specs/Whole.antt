-- What an open database reads, as contracts see it.
use Rattle.cache.specs.Blocks.{BlockCache}
use Rattle.cache.specs.Tables.{TableCache}
use Rattle.store.specs.Files.{Facts}
use Rattle.db_cursor.specs.declared.source.Sources.{Sources}
use Rattle.table_access.specs.Tables.{Seen, seen, seen_through}
use Rattle.memtables.specs.Memories.{Memories}

-- its store, with what is kept of its tables, and its memtables
pub record Whole : Type 0 where
  pub seen : Seen
  pub memory : Memories

abbrev pub whole : Facts → TableCache → BlockCache → Memories → Whole
whole facts tables blocks memory = record { seen = seen facts tables blocks; memory = memory }

-- what is known of the store of these sources, and kept of its tables
abbrev pub seen_of : {S K : Type 0} → (S → Facts) → Sources K S → Seen
seen_of facts source = seen_through facts source.tables

-- what reads of these sources go over
abbrev pub whole_in : {S K : Type 0} → (S → Facts) → Sources K S → Whole
whole_in facts source = record { seen = seen_of facts source; memory = source.memory }
