-- What an open iterator stands for (LevelDB's include/leveldb/iterator.h).
use Rattle.std.specs.Prelude.{◌≡◌, ◌≤◌, ℕ, Bool, false, Option, IsSome, List, map}
use Rattle.std.specs.declared.cmp.Ordering.{Ordering}
use Rattle.cursor.specs.Views.{Walked, walk_first, walk_last, walk_to, walk_next, walk_prev}
use Rattle.db_cursor.specs.Pairs.{listed_pair}
use Rattle.cache.specs.Tables.{table_at}
use Rattle.edits.specs.Names.{IsNumbered}
use Rattle.level_cursor.specs.InRows.{ListsNumber}
use Rattle.db_cursor.specs.Scans.{IsOnePastLimit, IsScan, MayBeScan, reads_table, tables_of}
use Rattle.db_cursor.specs.Whole.{Whole}
use Rattle.db_cursor.specs.declared.scan.Scan.{Scan}
use Rattle.machine.specs.Machine.{Walk}
use Rattle.machine.specs.Causes.{Motion, ToFirst, ToLast, ToKey, ToNext, ToPrev}

abbrev pub walked_of : Walk → Walked
walked_of walk = record { pairs = map listed_pair walk.pairs; place = walk.place }

-- Over what the database reads, up to the last sequence number, the iterator goes over the pairs of
-- the machine's, and stands at its place. Where nothing passes a limit of reading, none of its
-- tables does. It reads tables of its version alone, and they are there.
pub record IsWalk {K : Type 0} {g : _} (cmp : List ℕ → List ℕ → Ordering) (limited : Bool) (whole : Whole) (iterator : Scan K g) (walk : Walk) : Type 0 where
  pub bound : iterator.walk.sequence ≤ whole.memory.last
  pub scan : IsScan cmp iterator whole (walked_of walk)
  pub limits : limited ≡ false → IsOnePastLimit cmp (tables_of iterator) whole → ⊥
  pub tables : (number : ℕ) → reads_table iterator number → ListsNumber (tables_of iterator) number × IsNumbered number × IsSome (table_at whole.seen.facts.files number)

-- The same holds as far as the blocks of its tables tell: it goes over such pairs as they may have.
pub record MayBeWalk {K : Type 0} {g : _} (cmp : List ℕ → List ℕ → Ordering) (whole : Whole) (iterator : Scan K g) (walk : Walk) : Type 0 where
  pub bound : iterator.walk.sequence ≤ whole.memory.last
  pub scan : MayBeScan cmp iterator whole (walked_of walk)

-- where a motion leads a walk
abbrev pub destination : (List ℕ → List ℕ → Ordering) → Motion → Walked → Option ℕ
destination cmp ToFirst at = walk_first at
destination cmp ToLast at = walk_last at
destination cmp (ToKey key) at = walk_to cmp key at
destination cmp ToNext at = walk_next at
destination cmp ToPrev at = walk_prev at
