-- When files read the same, and what is asked of the files before a power loss.
use Rattle.std.specs.Prelude.{◌≡◌, ◌≢◌, ◌⊎◌, ℕ, false, List, [], ◌∷◌, Option, Some}
use Rattle.std.specs.FinMap.{get, contains_key}
use Rattle.logfile.specs.Log.{Fragment, AreBlocks, IsLog}
use Rattle.logfile.specs.Mending.{AreAllBytes, AreWritten}
use Rattle.logfile.specs.declared.record.Tail.{Tail}
use Rattle.edits.specs.Names.{name_of}
use Rattle.edits.specs.declared.layout.Layout.{Layout}
use Rattle.edits.specs.declared.names.FileName.{FileName}
use Rattle.store.specs.Files.{Call, Disk, Files, lock_name}
use Rattle.store.specs.Losses.{BeginsWith, held_last}
use Rattle.mending.specs.Mending.{temporary_of}
use Rattle.mending.specs.Plans.{IsMine}

-- The file is among these.
abbrev pub HasFile : List FileName → FileName → Type 0
HasFile [] file = ⊥
HasFile (log ∷ logs) file = (file ≡ log) ⊎ HasFile logs file

-- The name is.
abbrev pub HasName : List (List ℕ) → List ℕ → Type 0
HasName [] q = ⊥
HasName (name ∷ names) q = (q ≡ name) ⊎ HasName names q

-- ---- files that read the same

-- Both are logs of the same records, with the same tail.
abbrev pub ReadsSame : List ℕ → List ℕ → Type 0
ReadsSame a b = (records : List (List ℕ)) × (tail : Tail) × IsLog a records tail × IsLog b records tail

-- The MANIFEST and the logs read the same, and the other files of these names have the same bytes.
pub record ReadsAs (number : ℕ) (layout : Layout) (logs : List FileName) (others : List (List ℕ))
    (a b : Files) : Type 0 where
  pub names : (q : List ℕ) → q ≢ lock_name → ((file : FileName) → IsMine number layout file → q ≡ temporary_of file → ⊥)
      → contains_key a q ≡ contains_key b q
  pub read : (file : FileName) (x y : List ℕ) → HasFile logs file → get a (name_of file) ≡ Some x
      → get b (name_of file) ≡ Some y → ReadsSame x y
  pub same : (q : List ℕ) → HasName others q → get a q ≡ get b q

-- ---- what was held

-- That is all of it, or whole fragments.
abbrev pub EndsWhole : List ℕ → List ℕ → Type 0
EndsWhole held synced = (synced ≡ held) ⊎ ((fragments : List Fragment) × AreBlocks synced fragments false)

-- So it is synced, or nothing of it is.
abbrev pub IsSyncedWell : List ℕ → Option (List ℕ) → Type 0
IsSyncedWell held kept = (synced : List ℕ) → kept ≡ Some synced → BeginsWith held synced × EndsWhole held synced

-- It was a log.
pub record WasLog (held : List ℕ) (kept : Option (List ℕ)) : Type 0 where
  pub records : List (List ℕ)
  pub tail : Tail
  pub log : IsLog held records tail
  pub synced : IsSyncedWell held kept

-- Nothing that is left of it passes for a fragment by chance: where a fragment stands at its place,
-- and its checksum fits, it was written there.
pub record WasWritten (held bytes : List ℕ) : Type 0 where
  pub there : AreWritten held bytes
  pub all_bytes : AreAllBytes bytes

-- ---- at a moment

-- No file of mending's own has this name.
abbrev pub IsBeside : ℕ → Layout → List ℕ → Type 0
IsBeside number layout q = (q ≢ lock_name) × ((file : FileName) → IsMine number layout file
    → (q ≡ temporary_of file → ⊥) × (q ≡ name_of file → ⊥))

-- These logs are among the files that are mended. The other files that are read are none of them.
pub record AreNamed (number : ℕ) (layout : Layout) (logs : List FileName) (others : List (List ℕ)) : Type 0 where
  pub mine : (file : FileName) → HasFile logs file → IsMine number layout file
  pub beside : (q : List ℕ) → HasName others q → IsBeside number layout q

-- These were logs. The other files that are read were synced whole, or are left whole. What was
-- synced of any file was a beginning of it.
pub record HoldsLogs (since : List Call) (now : Disk) (lost : Files) (logs : List FileName)
    (others : List (List ℕ)) : Type 0 where
  pub sound : (q held synced : List ℕ) → (held_last since now q).0 ≡ Some held → (held_last since now q).1 ≡ Some synced
      → BeginsWith held synced
  pub were : (file : FileName) (bytes held : List ℕ) → HasFile logs file → get lost (name_of file) ≡ Some bytes
      → (held_last since now (name_of file)).0 ≡ Some held → WasLog held (held_last since now (name_of file)).1
  pub whole : (q held : List ℕ) → HasName others q → (held_last since now q).0 ≡ Some held
      → ((held_last since now q).1 ≡ Some held) ⊎ ((bytes : List ℕ) → get lost q ≡ Some bytes → bytes ≡ held)

-- What no database can know: no checksum fits by chance in what is left of these logs.
abbrev pub LeavesWritten : List Call → Disk → Files → List FileName → Type 0
LeavesWritten since now lost logs = (file : FileName) (bytes held : List ℕ) → HasFile logs file
    → get lost (name_of file) ≡ Some bytes → (held_last since now (name_of file)).0 ≡ Some held → WasWritten held bytes
