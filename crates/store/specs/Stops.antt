-- What a process crash may leave of a directory. A stop is such a crash. It frees the lock.
use Rattle.std.specs.Prelude.{◌≡◌, ◌⊎◌, ◌+◌, ◌++◌, ℕ, true, List, [], ◌∷◌, length, drop}
use Rattle.std.specs.FinMap.{get}
use Rattle.std.specs.List.{AllByRecursion}
use Rattle.store.specs.Files.{Facts, Files, Disk, disk_of, Call, Change, Creation, Addition, Sync, Move, Removal, LockFile, AppendsBeginning, Does}

-- What a stop in the middle of a call may leave: it was done wholly or not at all, or a beginning
-- of its bytes was added to the file.
abbrev pub MayLeave : Change → Files → Files → Type 0
MayLeave (Addition name bytes) old new = AppendsBeginning old new name bytes
MayLeave (Creation name) old new = (new ≡ old) ⊎ Does (Creation name) old new
MayLeave (Sync name) old new = (new ≡ old) ⊎ Does (Sync name) old new
MayLeave (Move from to) old new = (new ≡ old) ⊎ Does (Move from to) old new
MayLeave (Removal name) old new = (new ≡ old) ⊎ Does (Removal name) old new
MayLeave LockFile old new = (new ≡ old) ⊎ Does LockFile old new

-- a stop in the middle of one of these calls
abbrev pub LeftDuring : List Call → Files → Type 0
LeftDuring [] files = ⊥
LeftDuring (call ∷ calls) files = MayLeave call.change call.found.files files ⊎ LeftDuring calls files

-- A moment is told by the number of calls that had changed something. It doesn't fall.
abbrev pub moment : Facts → ℕ
moment facts = length facts.calls

-- A stop at some moment since that one may have left these files: now, or in the middle of a call
-- since.
abbrev pub Left : Facts → ℕ → Files → Type 0
Left facts t files = (files ≡ facts.files) ⊎ LeftDuring (drop t facts.calls) files

-- A stop at any moment since old leaves files that have P. It composes.
pub record LeavesOnly (old new : Facts) (P : Files → Type 0) : Type 0 where
  pub more : List Call
  pub calls : new.calls ≡ old.calls ++ more
  pub during : (files : Files) → LeftDuring more files → P files
  pub now : P new.files

-- A stop is a failure that nobody saw: what is known of a store whose files are these, and which
-- has failed once more in a write.
abbrev pub stopped_at : Facts → Files → Facts
stopped_at facts files = record facts { files = files; faithful = true; failures = facts.failures + 1; write_failures = facts.write_failures + 1 }

-- but for files of these names, they are as before
abbrev pub KeepsBut : Files → (List ℕ → Type 0) → Files → Type 0
KeepsBut old mine new = (name : List ℕ) → (mine name → ⊥) → get new name ≡ get old name

-- what a call makes, adds to, syncs, moves or removes
abbrev pub IsNamedIn : Change → List ℕ → Type 0
IsNamedIn (Creation name) q = q ≡ name
IsNamedIn (Addition name bytes) q = q ≡ name
IsNamedIn (Sync name) q = q ≡ name
IsNamedIn (Move from to) q = (q ≡ from) ⊎ (q ≡ to)
IsNamedIn (Removal name) q = q ≡ name
IsNamedIn LockFile q = ⊥

-- Each of these calls names files of these names alone. It finds the others, and what is synced of
-- them, as they are on this disk.
abbrev pub TouchOnly : List Call → Disk → (List ℕ → Type 0) → Type 0
TouchOnly calls disk mine = AllByRecursion (λ (call : Call).
    ((q : List ℕ) → IsNamedIn call.change q → mine q) × ((q : List ℕ) → (mine q → ⊥) → (get call.found.files q ≡ get disk.files q) × (call.found.synced q ≡ disk.synced q))) calls

-- Since old only files of these names were written, and synced: at any moment the others are as
-- they were.
pub record WritesOnly (old new : Facts) (mine : List ℕ → Type 0) : Type 0 where
  pub leaves : LeavesOnly old new (KeepsBut old.files mine)
  pub calls : TouchOnly leaves.more (disk_of old) mine
  pub synced : (q : List ℕ) → (mine q → ⊥) → new.synced q ≡ old.synced q

-- ---- laws

-- The files as they are now are among them, and since now there are no others.
abbrev pub LeftNowLaw : Type 0
LeftNowLaw = (facts : Facts) (t : ℕ) (files : Files) → Left facts t facts.files × (Left facts (moment facts) files → files ≡ facts.files)

-- Since an earlier moment: now, or in the middle of one of the calls since.
abbrev pub LeftSinceLaw : Type 0
LeftSinceLaw = (old new : Facts) (more : List Call) (files : Files) → new.calls ≡ old.calls ++ more → Left new (moment old) files → (files ≡ new.files) ⊎ LeftDuring more files

-- In the middle of some calls or of those after them.
abbrev pub LeftBothLaw : Type 0
LeftBothLaw = (first second : List Call) (files : Files) → LeftDuring (first ++ second) files → LeftDuring first files ⊎ LeftDuring second files
