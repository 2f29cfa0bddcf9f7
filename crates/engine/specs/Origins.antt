-- Which undamaged directory files may come from of which tables may be damaged.
use Rattle.std.specs.Prelude.{◌≡◌, Bool, false}
use Rattle.db_cursor.specs.Origins.{HaveOrigins}
use Rattle.directory_writes.specs.Differing.{DiffersInTables}
use Rattle.ikey.specs.Orders.{Order}
use Rattle.recover.specs.Directory.{Directory, IsConsistent}
use Rattle.store.specs.Files.{Files}

-- The files may come from this directory: they differ in its tables alone, whose files may be what
-- damage left of them. Without damage they are the directory.
pub record ComesFrom (order : Order) (damaged : Bool) (files ideal : Files) : Type 0 where
  pub differs : DiffersInTables files ideal
  pub origins : (d : Directory) → IsConsistent order ideal d → HaveOrigins order.cmp files ideal d.layout.tables.items
  pub undamaged : damaged ≡ false → ideal ≡ files
