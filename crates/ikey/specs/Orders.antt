-- The order of user keys of a database (LevelDB's include/leveldb/comparator.h).
use Rattle.std.specs.Prelude.{ℕ, List}
use Rattle.std.specs.declared.cmp.Ordering.{Ordering}

-- the name under which a database records its order, and how two user keys compare
pub record Order : Type 0 where
  pub name : List ℕ
  pub cmp : List ℕ → List ℕ → Ordering

abbrev pub order_of : List ℕ → (List ℕ → List ℕ → Ordering) → Order
order_of name cmp = record { name = name; cmp = cmp }
