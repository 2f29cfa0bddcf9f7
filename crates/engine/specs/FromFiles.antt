-- What carries a promise of `Db` or `Session` from files to files: where they begin and where they
-- end they stand for their files.
use Rattle.std.specs.Prelude.{◌≡◌, ℕ, false, List}
use Rattle.ikey.specs.Orders.{Order}
use Rattle.ikey.specs.Views.{Contents, IsView}
use Rattle.ikey.specs.declared.entry.Entry.{Entry}
use Rattle.recover.specs.Directory.{IsDirectory}
use Rattle.machine.specs.Lifetime.{EndsClosed}
use Rattle.machine.specs.Machine.{Machine, current}
use Rattle.directory_writes.specs.Differing.{with_files}
use Rattle.store.specs.Files.{Facts, Files}
use Rattle.engine.specs.Origins.{ComesFrom}
use Rattle.engine.specs.declared.ids.Ids.{Ids}
use Rattle.engine.specs.Headline.{IsFirst, IsLast}
use Rattle.engine.specs.internal.Standing.{StandsClosed}
use Rattle.engine.specs.Stands.{no_ids}

-- The files are a database that shows this map: they are empty or a consistent directory.
pub record HoldsMap (order : Order) (files : Files) (map : Contents) : Type 0 where
  pub entries : List Entry
  pub used : ℕ
  pub directory : IsDirectory order files entries used
  pub view : IsView entries used map

-- Of each map that files show there is a first machine, without damage.
abbrev pub FirstOfMapLaw : Type 0
FirstOfMapLaw = (order : Order) (facts : Facts) (map : Contents) → HoldsMap order facts.files map
    → (first : Machine) × IsFirst order facts first × (first.damaged ≡ false) × (current first ≡ map)

-- A database that isn't open yet, or a new session, may be in each first machine of its files.
abbrev pub StartsLaw : Type 0
StartsLaw = (order : Order) (facts : Facts) (first : Machine)
    → first.damaged ≡ false → IsFirst order facts first → StandsClosed order facts no_ids first

-- The same of each first machine of a directory from which the files may come.
abbrev pub StartsEachLaw : Type 0
StartsEachLaw = (order : Order) (facts : Facts) (ideal : Files) (first : Machine)
    → ComesFrom order first.damaged facts.files ideal → IsFirst order (with_files facts ideal) first
    → StandsClosed order facts no_ids first

-- The machine at which it ended is the last of the files, once what was open is closed.
abbrev pub EndsLaw : Type 0
EndsLaw = (order : Order) (facts : Facts) (given : Ids) (ended closed : Machine)
    → ended.damaged ≡ false → EndsClosed ended closed → StandsClosed order facts given closed → IsLast order facts ended

-- If there was damage, it is the last of a directory from which they may come.
abbrev pub EndsEachLaw : Type 0
EndsEachLaw = (order : Order) (facts : Facts) (given : Ids) (ended closed : Machine)
    → EndsClosed ended closed → StandsClosed order facts given closed
    → (ideal : Files) × ComesFrom order ended.damaged facts.files ideal
    × IsLast order (with_files facts ideal) ended
