-- Which files of a directory are in use (LevelDB's db/db_impl.cc, DBImpl::RemoveObsoleteFiles).
use Rattle.std.specs.Prelude.{◌≡◌, ◌⊎◌, ◌≤◌, ℕ, true, List}
use Rattle.std.specs.FinMap.{contains_key}
use Rattle.store.specs.Files.{Files}
use Rattle.edits.specs.Names.{name_of, IsFileName}
use Rattle.edits.specs.declared.names.FileName.{FileName}
use Rattle.edits.specs.declared.names.FileName.TheVariants.{Current, Lock, Log, Table, OldTable, Manifest, Temporary}
use Rattle.versions.specs.declared.live.LiveNumbers.{LiveNumbers}

-- `CURRENT`, the lock, the MANIFEST, the logs in use, and the tables in use. If such a table has a
-- file under both names, it is the one with the newer name, which is the one that is read.
abbrev pub IsLiveFile : LiveNumbers → (ℕ → Type 0) → (ℕ → Type 0) → FileName → Type 0
IsLiveFile numbers in_use has_both Current = Unit {0}
IsLiveFile numbers in_use has_both Lock = Unit {0}
IsLiveFile numbers in_use has_both (Log n) = (numbers.log_number ≤ n) ⊎ (n ≡ numbers.previous_log_number)
IsLiveFile numbers in_use has_both (Table n) = in_use n
IsLiveFile numbers in_use has_both (OldTable n) = in_use n × (has_both n → ⊥)
IsLiveFile numbers in_use has_both (Manifest n) = n ≡ numbers.manifest_number
IsLiveFile numbers in_use has_both (Temporary n) = ⊥

-- the table of this number has a file under each of its two names
abbrev pub HasBoth : Files → ℕ → Type 0
HasBoth files n = (contains_key files (name_of (Table n)) ≡ true) × (contains_key files (name_of (OldTable n)) ≡ true)

-- the same of a directory of these files
abbrev pub IsLiveAmong : Files → LiveNumbers → (ℕ → Type 0) → FileName → Type 0
IsLiveAmong files numbers in_use file = IsLiveFile numbers in_use (HasBoth files) file

-- The name is of a known shape, and its file is obsolete.
abbrev pub IsDead : (FileName → Type 0) → List ℕ → Type 0
IsDead live name = (file : FileName) × IsFileName file × (name ≡ name_of file) × (live file → ⊥)
