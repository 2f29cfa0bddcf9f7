-- What a power loss may leave of a directory on a file system that leaves zeros, as ext4 does with
-- its default options. As in `Rattle.store.specs.Losses`, but for the bytes that aren't synced:
-- each is found as it was, or is zero, and a file has no more bytes than it held. Tried were ext4
-- (`ordered`, with and without `nodelalloc`), XFS and Btrfs, which left none. Old contents of
-- blocks, as `data=writeback` may leave them, are no part of it.
use Rattle.std.specs.Prelude.{◌≡◌, ◌⊎◌, ◌≤◌, ℕ, List, [], ◌∷◌, Some, length, take, drop}
use Rattle.std.specs.FinMap.{get, contains_key}
use Rattle.logfile.specs.Mending.{IsHoled, IsZeroed}
use Rattle.store.specs.Files.{Facts, Files, Disk, disk_of, Call}
use Rattle.store.specs.Losses.{BeginsWith, behind_sync, disk_before, held_last}

-- The names are those of a moment, after which these calls were made.
pub record IsHoledLost (at : Files) (since : List Call) (now : Disk) (lost : Files) : Type 0 where
  pub names : (q : List ℕ) → contains_key lost q ≡ contains_key at q
  pub holed : (q bytes : List ℕ) → get lost q ≡ Some bytes
      → (held : List ℕ) × ((held_last since now q).0 ≡ Some held) × IsHoled held bytes
  pub kept : (q bytes synced : List ℕ) → get lost q ≡ Some bytes → (held_last since now q).1 ≡ Some synced
      → BeginsWith bytes synced

-- The same, but that zeros stand at the end of a file alone, as was seen with the default options.
pub record IsZeroedLost (at : Files) (since : List Call) (now : Disk) (lost : Files) : Type 0 where
  pub names : (q : List ℕ) → contains_key lost q ≡ contains_key at q
  pub zeroed : (q bytes : List ℕ) → get lost q ≡ Some bytes
      → (held : List ℕ) × ((held_last since now q).0 ≡ Some held) × IsZeroed held bytes
  pub kept : (q bytes synced : List ℕ) → get lost q ≡ Some bytes → (held_last since now q).1 ≡ Some synced
      → BeginsWith bytes synced

-- The names as one of these calls found them, or as they are now.
abbrev pub IsHoledLostSince : List Call → Disk → Files → Type 0
IsHoledLostSince [] now lost = IsHoledLost now.files [] now lost
IsHoledLostSince (call ∷ calls) now lost =
    IsHoledLost call.found.files (call ∷ calls) now lost ⊎ IsHoledLostSince calls now lost

-- A power loss at some moment since that one may have left these files.
abbrev pub HoledLost : Facts → ℕ → Files → Type 0
HoledLost facts t lost = (m : ℕ) × (t ≤ m) × (m ≤ length facts.calls)
    × IsHoledLostSince (behind_sync [] (take m facts.calls)) (disk_before (drop m facts.calls) (disk_of facts)) lost

-- ---- which moments these are

-- One of these calls found these files, and it and those after it are the calls since. Or the files
-- are the present ones.
abbrev pub IsSince : List Call → Disk → Files → List Call → Type 0
IsSince [] now at since = (at ≡ now.files) × (since ≡ [])
IsSince (call ∷ calls) now at since =
    ((at ≡ call.found.files) × (since ≡ call ∷ calls)) ⊎ IsSince calls now at since

-- A power loss since t, with this disk, may leave the names of these files: these calls followed.
abbrev pub IsMoment : Facts → ℕ → Files → List Call → Disk → Type 0
IsMoment facts t at since now = (m : ℕ) × (t ≤ m) × (m ≤ length facts.calls)
    × (now ≡ disk_before (drop m facts.calls) (disk_of facts))
    × IsSince (behind_sync [] (take m facts.calls)) now at since
