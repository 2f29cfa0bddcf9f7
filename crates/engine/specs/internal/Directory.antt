-- What a directory says to the machine: which map it stands for, and what the next open may meet in
-- it.
use Rattle.std.specs.Prelude.{◌≡◌, ◌⊎◌, ℕ, ◌+◌, false, MatchOption, List, length, sum_by}
use Rattle.std.specs.FinMap.{contains_key}
use Rattle.batch.specs.declared.operation.Operation.{Operation}
use Rattle.store.specs.Files.{Files}
use Rattle.ikey.specs.Orders.{Order}
use Rattle.ikey.specs.declared.entry.Entry.{Entry}
use Rattle.edits.specs.Names.{name_of}
use Rattle.edits.specs.declared.names.FileName.TheVariants.{Current}
use Rattle.recover.specs.Directory.{IsDirectory}
use Rattle.recover.specs.Numbers.{IsFree}
use Rattle.recover.specs.Limits.{IsWithinLimits}
use Rattle.engine.specs.Origins.{ComesFrom}
use Rattle.engine.specs.internal.Accounted.{AreAccounted}
use Rattle.machine.specs.Machine.{Machine, after_batch, current, entry_count, operation_weight, weight}
use Rattle.ikey.specs.Views.{Contents, IsView}

-- The directory is empty or consistent, and stands for this map, with this many sequence numbers
-- used. Its entries are some of so many, which weigh so much.
pub record Means (order : Order) (files : Files) (map : Contents) (used count weight : ℕ) : Type 0 where
  pub entries : List Entry
  pub spelled : IsDirectory order files entries used
  pub view : IsView entries used map
  pub accounted : AreAccounted entries count weight

-- It stands for what was accepted,
abbrev pub MeansCurrent : Order → Files → Machine → Type 0
MeansCurrent order files m = Means order files (current m) m.used (entry_count m) (weight m)

-- and for one more batch.
abbrev pub MeansWith : Order → Files → Machine → List Operation → Type 0
MeansWith order files m operations =
    Means order files (after_batch (current m) operations) (m.used + length operations) (entry_count m + length operations) (weight m + sum_by operation_weight operations)

-- It stands for what was accepted, with the in-doubt batch as a whole or without it.
abbrev pub MeansAccepted : Order → Files → Machine → Type 0
MeansAccepted order files m = MatchOption m.in_doubt (MeansCurrent order files m) (λ operations. MeansCurrent order files m ⊎ MeansWith order files m operations)

-- What is known of the files beside their entries, whether a database is open or not.
pub record IsReadable (order : Order) (files : Files) (m : Machine) : Type 0 where
  pub made : m.made ≡ contains_key files (name_of Current)
  pub numbers : IsFree order files m.numbers
  pub limits : m.over_limit ≡ false → IsWithinLimits order files

-- The directory of a database that isn't open: an undamaged one from which the files may come.
pub record IsAtRest (order : Order) (files : Files) (m : Machine) : Type 0 where
  pub ideal : Files
  pub origin : ComesFrom order m.damaged files ideal
  pub meaning : MeansAccepted order ideal m
  pub readable : IsReadable order ideal m
