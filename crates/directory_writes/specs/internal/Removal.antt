-- What the removal of all obsolete files leaves (LevelDB's doc/impl.md, "Garbage collection of
-- files", and its db/db_impl.cc, DBImpl::RemoveObsoleteFiles).
use Rattle.std.specs.Prelude.{◌≡◌, ◌⊎◌, ◌↔◌, ◌<◌, ◌≤◌, ◌+◌, ℕ, Bool, true, false, Option, Some, None, List, IsSome, IsTrue, Result, IfOk, OnErr, Contains, length}
use Rattle.std.specs.FinMap.{get, contains_key}
use Rattle.coding.specs.declared.error.DbError.{DbError}
use Rattle.coding.specs.declared.error.DbError.TheVariants.{OutOfMemory, Io}
use Rattle.ikey.specs.Orders.{Order}
use Rattle.store.specs.Files.{Files, Facts}
use Rattle.edits.specs.Names.{name_of, IsFileName, IsNumbered}
use Rattle.edits.specs.declared.field.Field.{Field}
use Rattle.edits.specs.declared.layout.Layout.{Layout}
use Rattle.edits.specs.declared.names.FileName.{FileName}
use Rattle.edits.specs.declared.names.FileName.TheVariants.{Table, OldTable}
use Rattle.versions.specs.declared.live.LiveNumbers.{LiveNumbers}
use Rattle.recover.specs.Tables.{table_at, TableContent, InTables}
use Rattle.recover.specs.Directory.{Directory, IsConsistent, EndsAt}
use Rattle.recover.specs.internal.Changes.{ManifestEndsAt}
use Rattle.recover.specs.Numbers.{IsFree}
use Rattle.directory_writes.specs.internal.Calls.{LeavesFile}
use Rattle.directory_writes.specs.declared.removal.Removal.{Removal}
use Rattle.directory_writes.specs.Removal.{HasBoth, IsDead}

-- each file is as before, or is obsolete and is gone
abbrev pub LosesDeadOnly : Files → (FileName → Type 0) → Files → Type 0
LosesDeadOnly old live new = (name : List ℕ) → (get new name ≡ get old name) ⊎ (IsDead live name × (get new name ≡ None))

-- A file is as before, or is obsolete and is gone. Where the removal is complete, none of these
-- names is that of a file that is there and is obsolete; and it is complete exactly where the store
-- didn't fail.
pub record RemovesNamed (old new : Facts) (live : FileName → Type 0) (names : List (List ℕ)) (complete : Bool) : Type 0 where
  pub files : IsTrue new.faithful → (name : List ℕ) → LeavesFile old new name ⊎ (IsDead live name × (get new.files name ≡ None))
  pub all : IsTrue new.faithful → IsTrue complete → (file : FileName) → IsFileName file → Contains names (name_of file) → live file ⊎ (get new.files (name_of file) ≡ None)
  pub unfailed : new.failures ≡ old.failures → IsTrue complete
  pub stood : IsTrue complete → new.failures ≡ old.failures

-- The same of all names of a directory. A refusal leaves all files.
pub record RemovesDead (old new : Facts) (live : FileName → Type 0) (result : Result Removal DbError) : Type 0 where
  pub files : IsTrue new.faithful → (name : List ℕ) → LeavesFile old new name ⊎ (IsDead live name × (get new.files name ≡ None))
  pub all : IsTrue new.faithful → IfOk result (λ removal. IsTrue removal.complete → (file : FileName) → IsFileName file → contains_key new.files (name_of file) ≡ true → live file)
  pub unfailed : IfOk result (λ removal. new.failures ≡ old.failures → IsTrue removal.complete)
  pub stood : IfOk result (λ removal. IsTrue removal.complete → new.failures ≡ old.failures)
  pub err : IsTrue new.faithful → OnErr result ((new.files ≡ old.files) × (new.synced ≡ old.synced))

-- No more of these files stay without being in use than calls of the store failed. Each is in use,
-- is gone, or has one of so many names; or it is one that waits for those that couldn't be removed.
abbrev pub LeavesFew : Facts → Facts → (FileName → Type 0) → (FileName → Type 0) → (List ℕ → Type 0) → Type 0
LeavesFew old new live waits listed = IsTrue new.faithful → (left : List (List ℕ)) × (old.failures + length left ≤ new.failures)
    × ((file : FileName) → IsFileName file → listed (name_of file)
    → live file ⊎ (get new.files (name_of file) ≡ None) ⊎ Contains left (name_of file) ⊎ (waits file × (old.failures < new.failures)))

-- the table isn't in use, or has a file under both names: then one of its files may go
abbrev pub MayLose : Files → (ℕ → Type 0) → ℕ → Type 0
MayLose files in_use n = (in_use n → ⊥) ⊎ HasBoth files n

-- The files of a table, by both names, are as before; or it isn't in use, and reads as before or is
-- gone. Or it had both, and that with the newer name is as before, so that it reads as before.
abbrev pub KeepsTable : Facts → Facts → (ℕ → Type 0) → ℕ → Type 0
KeepsTable old new in_use n =
    ((get new.files (name_of (Table n)) ≡ get old.files (name_of (Table n))) × (get new.files (name_of (OldTable n)) ≡ get old.files (name_of (OldTable n))))
    ⊎ ((in_use n → ⊥) × ((table_at new.files n ≡ table_at old.files n) ⊎ (table_at new.files n ≡ None)))
    ⊎ (HasBoth old.files n × (get new.files (name_of (Table n)) ≡ get old.files (name_of (Table n))) × (table_at new.files n ≡ table_at old.files n))

-- They are the numbers of all tables that were there and of which a file may go.
abbrev pub ListsToClose : Facts → Facts → (ℕ → Type 0) → List ℕ → Type 0
ListsToClose old new in_use numbers = IsTrue new.faithful → (n : ℕ) → IsNumbered n → MayLose old.files in_use n → IsSome (table_at old.files n) → Contains numbers n

-- Why the files aren't listed.
abbrev pub RefusesList : DbError → Facts → Facts → Type 0
RefusesList OutOfMemory old new = new.failures ≡ old.failures
RefusesList Io old new = old.failures < new.failures
RefusesList e old new = ⊥

-- the number of a table, by its older name
abbrev pub older_number : FileName → Option ℕ
older_number (OldTable n) = Some n
older_number file = None

-- and by its newer one
abbrev pub newer_number : FileName → Option ℕ
newer_number (Table n) = Some n
newer_number file = None

-- the same by either name
abbrev pub table_number : FileName → Option ℕ
table_number (Table n) = Some n
table_number (OldTable n) = Some n
table_number file = None

-- the numbers are those of the tables of which the older name is one of these
abbrev pub AreOlder : List (List ℕ) → List ℕ → Type 0
AreOlder names numbers = (n : ℕ) → IsNumbered n → Contains numbers n ↔ Contains names (name_of (OldTable n))

-- one of these names is the table's
abbrev pub IsListed : List (List ℕ) → ℕ → Type 0
IsListed names n = Contains names (name_of (Table n)) ⊎ Contains names (name_of (OldTable n))

-- the numbers are those of the tables of which the newer name is one of these, and that have the
-- older one
abbrev pub AreBoth : List ℕ → List (List ℕ) → List ℕ → Type 0
AreBoth older names numbers = (n : ℕ) → IsNumbered n → Contains numbers n ↔ (Contains names (name_of (Table n)) × Contains older n)

-- all tables that are listed, and aren't in use or are among those, are among the numbers
abbrev pub AreToClose : (ℕ → Type 0) → List ℕ → List (List ℕ) → List ℕ → Type 0
AreToClose in_use both names numbers = (n : ℕ) → IsNumbered n → (in_use n → ⊥) ⊎ Contains both n → IsListed names n → Contains numbers n

-- the file is the newer one of a table that has two
abbrev pub HasTwo : (ℕ → Type 0) → FileName → Type 0
HasTwo has_older (Table n) = has_older n
HasTwo has_older file = ⊥

-- the file has the other turn than this: such files have the last one, and all others the first
abbrev pub HasOtherTurn : (ℕ → Type 0) → Bool → FileName → Type 0
HasOtherTurn has_older true file = HasTwo has_older file → ⊥
HasOtherTurn has_older false file = HasTwo has_older file

-- the file is the newer one of a table that has two, in a store of these files
abbrev pub HasOlderToo : Files → FileName → Type 0
HasOlderToo files file = HasTwo (λ n. contains_key files (name_of (OldTable n)) ≡ true) file

-- what stays in a turn: what is live, and what has the other one
abbrev pub IsLeft : (FileName → Type 0) → (ℕ → Type 0) → Bool → FileName → Type 0
IsLeft live has_older last file = live file ⊎ HasOtherTurn has_older last file

-- the numbers and the tables in use are those of a directory of these parts
pub record AreOfDirectory (numbers : LiveNumbers) (in_use : ℕ → Type 0) (d : Directory) : Type 0 where
  pub manifest : numbers.manifest_number ≡ d.manifest
  pub log_number : numbers.log_number ≡ d.layout.log_number
  pub previous_log_number : numbers.previous_log_number ≡ d.layout.previous_log_number
  pub tables : (content : TableContent) → InTables d.tables content → in_use content.placed.table.number

-- A directory of these parts stays one, its MANIFEST and its last log end where they did, all
-- tables in use are there as before, and no number is taken.
pub record KeepsParts (order : Order) (old new : Files) (in_use : ℕ → Type 0) (d : Directory) : Type 0 where
  pub consistent : IsConsistent order new d
  pub log : (number position : ℕ) → EndsAt old d number position → EndsAt new d number position
  pub manifest : (position : ℕ) (edits : List (List Field)) (layout : Layout) → ManifestEndsAt order old d.manifest position edits layout → ManifestEndsAt order new d.manifest position edits layout
  pub tables : (number : ℕ) → IsNumbered number → in_use number → table_at new number ≡ table_at old number
  pub free : (n : ℕ) → IsFree order old n → IsFree order new n

-- a directory of which these are the numbers and the tables in use stays one
abbrev pub StaysConsistent : LiveNumbers → (ℕ → Type 0) → Files → Files → Type 0
StaysConsistent numbers in_use old new = (order : Order) (d : Directory) → IsConsistent order old d → AreOfDirectory numbers in_use d → IsConsistent order new d
