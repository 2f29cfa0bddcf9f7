-- Scans over blocks that are intact.
use Rattle.cursor.specs.Places.{Cmp}
use Rattle.cursor.specs.Views.{Walked}
use Rattle.db_cursor.specs.declared.scan.Scan.{Scan}
use Rattle.db_cursor.specs.internal.Scanning.{IntactScans}
use Rattle.db_cursor.specs.Scans.{IsScan, MayBeScan}
use Rattle.db_cursor.specs.Whole.{Whole}
use Rattle.ikey.specs.declared.key_order.KeyOrder.{Ghosts}

-- the list that its tables have is one that they may have
pub may_of : {K : Type 0} {g : Ghosts K} (cmp : Cmp) (scan : Scan K g) (whole : Whole) (at : Walked) → IsScan cmp scan whole at → MayBeScan cmp scan whole at
may_of cmp scan whole at h = record {
  there = h.there;
  bound = h.bound;
  limits = h.limits;
  torn = λ cut t. absurd (h.intact cut t);
  walk = h.walk;
}

-- and where no block is torn, one that they may have is that
pub intact_scan : {K : Type 0} {g : Ghosts K} (cmp : Cmp) (scan : Scan K g) → IntactScans cmp scan
intact_scan cmp scan whole at h intact = record {
  there = h.there;
  bound = h.bound;
  limits = h.limits;
  intact = intact;
  walk = h.walk;
}
