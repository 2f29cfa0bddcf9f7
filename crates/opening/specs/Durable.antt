-- What calls leave of what is synced (LevelDB's db/db_impl.cc, DBImpl::NewDB and DBImpl::Write, and
-- db/filename.cc, SetCurrentFile).
use Rattle.std.specs.Prelude.{◌≡◌, ◌≢◌, ◌⊎◌, ℕ, Some, IsTrue, List, [], ◌∷◌, ◌++◌, Result, OnOk, OnErr}
use Rattle.std.specs.FinMap.{get}
use Rattle.coding.specs.declared.error.DbError.{DbError}
use Rattle.store.specs.Files.{Facts, Synced}
use Rattle.edits.specs.Names.{name_of, IsFileName}
use Rattle.edits.specs.declared.names.FileName.{FileName}
use Rattle.edits.specs.declared.names.FileName.TheVariants.{Current, Manifest}

-- but for the file of this name, what is synced is as before
abbrev pub SyncsOnly : Synced → Synced → List ℕ → Type 0
SyncsOnly old new name = (q : List ℕ) → q ≢ name → new q ≡ old q

-- The file of this name is synced whole: the disk keeps what it holds.
abbrev pub IsSynced : Facts → List ℕ → Type 0
IsSynced facts name = facts.synced name ≡ get facts.files name

-- What a call says of the file of one name.
abbrev pub LeavesFile : Facts → Facts → List ℕ → Type 0
LeavesFile old new name = (get new.files name ≡ get old.files name) × (new.synced name ≡ old.synced name)

-- The name is of no known shape: its file is another program's.
abbrev pub IsForeign : List ℕ → Type 0
IsForeign name = (file : FileName) → IsFileName file → name ≢ name_of file

-- Files of other programs, and what of them is synced, are as before.
abbrev pub KeepsForeign : Facts → Facts → Type 0
KeepsForeign old new = (name : List ℕ) → IsForeign name → LeavesFile old new name

-- `CURRENT` has these bytes, and is synced whole.
abbrev pub HasSyncedCurrent : Facts → List ℕ → Type 0
HasSyncedCurrent facts bytes = (get facts.files (name_of Current) ≡ Some bytes) × (facts.synced (name_of Current) ≡ Some bytes)

-- `CURRENT` names the MANIFEST of this number, and both are synced whole.
abbrev pub IsDurableAt : ℕ → Facts → Type 0
IsDurableAt n facts =
    (bytes : List ℕ) × HasSyncedCurrent facts (name_of (Manifest n) ++ 10 ∷ [])
    × (get facts.files (name_of (Manifest n)) ≡ Some bytes) × (facts.synced (name_of (Manifest n)) ≡ Some bytes)

-- The same of one of some number.
abbrev pub IsDurable : Facts → Type 0
IsDurable facts = (n : ℕ) × IsDurableAt n facts

-- The same holds after an open, and after one that failed wherever `CURRENT` has changed.
pub record LeavesDurable {T : Type 0} (old new : Facts) (result : Result T DbError) : Type 0 where
  pub ok : IsTrue new.faithful → OnOk result (IsDurable new)
  pub err : IsTrue new.faithful → OnErr result (LeavesFile old new (name_of Current) ⊎ IsDurable new)
