-- The headline: what a run over a store answers and leaves, from its files to its files.
use Rattle.std.specs.Prelude.{◌≡◌, ◌⊎◌, ◌≤◌, ℕ, Bool, false, None, IsTrue, MatchOption, List, [], length, sum_by}
use Rattle.std.specs.Cmp.{IsTotalOrder}
use Rattle.std.specs.FinMap.{contains_key}
use Rattle.store.specs.Files.{Files, Facts}
use Rattle.directory_writes.specs.Differing.{with_files}
use Rattle.ikey.specs.Orders.{Order}
use Rattle.ikey.specs.Views.{IsView}
use Rattle.ikey.specs.declared.entry.Entry.{Entry}
use Rattle.edits.specs.Names.{name_of}
use Rattle.edits.specs.declared.names.FileName.TheVariants.{Current}
use Rattle.recover.specs.Directory.{IsDirectory}
use Rattle.recover.specs.Limits.{IsWithinLimits}
use Rattle.recover.specs.Numbers.{IsFree}
use Rattle.machine.specs.declared.command.Answer.{Answer}
use Rattle.machine.specs.declared.command.Op.{Op}
use Rattle.machine.specs.Access.{accepted}
use Rattle.machine.specs.Machine.{Machine, current, entry_weight}
use Rattle.machine.specs.Step.{Run}
use Rattle.engine.specs.Origins.{ComesFrom}

-- The files are a database of what the machine accepted: they are empty or a consistent directory,
-- whose entries show its map.
pub record Holds (order : Order) (files : Files) (m : Machine) : Type 0 where
  pub entries : List Entry
  pub directory : IsDirectory order files entries m.used
  pub view : IsView entries m.used (current m)

-- They hold it with the in-doubt batch as a whole, or without it.
abbrev pub HoldsAccepted : Order → Files → Machine → Type 0
HoldsAccepted order files m =
    MatchOption m.in_doubt (Holds order files m) (λ batch. Holds order files m ⊎ Holds order files (accepted m batch false))

-- What else it says of them: whether there is a database, a number from which on all are free, and
-- whether all of it can be read.
pub record Bounds (order : Order) (files : Files) (m : Machine) : Type 0 where
  pub made : m.made ≡ contains_key files (name_of Current)
  pub numbers : IsFree order files m.numbers
  pub limits : m.over_limit ≡ false → IsWithinLimits order files

-- The machine before the first command: nothing was accepted yet, nothing is open, and no id was
-- given.
pub record IsFirst (order : Order) (facts : Facts) (m : Machine) : Type 0 where
  pub holds : Holds order facts.files m
  pub bounds : Bounds order facts.files m
  pub accepted : (m.batches ≡ []) × (m.in_doubt ≡ None) × (m.synced ≡ 0)
  pub closed : (m.opened ≡ false) × (m.broken ≡ false) × (m.snapshots ≡ []) × (m.iterators ≡ [])
  pub ids : (m.last_snapshot ≡ 0) × (m.last_iterator ≡ 0)
  pub counts : (m.failures ≡ facts.failures) × (m.denials ≡ facts.denials)
  pub size : (m.first_entries ≡ length holds.entries) × (m.first_weight ≡ sum_by entry_weight holds.entries)

-- The machine after the last one: the files hold what it accepted, with the in-doubt batch as a
-- whole or without it.
pub record IsLast (order : Order) (facts : Facts) (m : Machine) : Type 0 where
  pub holds : HoldsAccepted order facts.files m
  pub bounds : Bounds order facts.files m
  pub failures : m.failures ≤ facts.failures
  pub denials : m.denials ≡ facts.denials

-- While the store is faithful, take any undamaged directory from which the files at first may come
-- (without damage that is the files themselves), and any machine of it. It gives these answers to
-- these commands; over damage they may be refusals as damaged, too. And a directory from which the
-- files at last may come is that of the machine to which it comes.
abbrev pub Headline : Order → Facts → Facts → List Op → List Answer → Type 0
Headline order old new ops answers =
    IsTrue new.faithful → (before : Files) (first : Machine) → ComesFrom order first.damaged old.files before
    → IsFirst order (with_files old before) first
    → (last : Machine) × (after : Files) × Run order first ops answers last
    × ComesFrom order first.damaged new.files after × IsLast order (with_files new after) last

-- There is a machine of each empty or consistent directory, damaged or not. If the directory passes
-- no limit, there is one that is over none.
abbrev pub FirstLaw : Type 0
FirstLaw = (order : Order) (facts : Facts) (entries : List Entry) (used : ℕ) (over_limit damaged : Bool)
    → IsTotalOrder order.cmp → IsDirectory order facts.files entries used
    → (over_limit ≡ false → IsWithinLimits order facts.files)
    → (first : Machine) × IsFirst order facts first × (first.over_limit ≡ over_limit) × (first.damaged ≡ damaged)
