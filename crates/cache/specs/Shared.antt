-- The blocks that a cache of pairs keeps.
use Rattle.std.specs.Prelude.{List, [], map, Option, Some, None}
use Rattle.std.specs.declared.alloc.Global.{Global}
use Rattle.std.specs.declared.rc.Rc.{Rc}
use Rattle.block.specs.Reading.{Contents}
use Rattle.lru.specs.LruCache.{LruCache}
use Rattle.cache.specs.Blocks.{BlockCache, KeptBlock, kept_block}
use Rattle.cache.specs.declared.slot.Slot.{Slot}

-- the blocks that are in a cache of pairs
abbrev pub blocks_in : List (Slot × Rc Contents Global) → List KeptBlock
blocks_in entries = map (λ e. kept_block e.0.file e.0.index e.1.value.pairs) entries

-- what is kept in a cache of pairs, if there is one
abbrev pub blocks_of : Option (LruCache Slot (Rc Contents Global)) → BlockCache
blocks_of None = record { blocks = []; capacity = 0 }
blocks_of (Some cache) = record { blocks = blocks_in cache.entries; capacity = cache.cap }
