-- What a power loss may leave of a directory. What is assumed of the disk:
--
-- - After a sync succeeds, what the file held then is on disk, and all names as they were then.
-- (After a failed sync Linux may answer so though nothing was written. So a store over a folder
-- marks a file whose sync failed, and writes it anew at its next sync. Three things are assumed. No
-- sync of a folder lies. What was read of a file is read again. No sync failed in a program that
-- leaves no mark, as LevelDB, or that ended before it left one.)
-- - Later names reach the disk in the order of the calls that changed them: those of one moment are
--   found, and no mixture of two.
-- - Of each file a beginning of what was added to it is found, with what of it was synced at least.
-- That holds whatever name the file has by then: what was moved is found under its old name or the
-- new one, and what was removed or replaced may be back.
-- - Nothing else stands in a file: no byte that was never written to it. (On ext4 with default
--   options that isn't so: it can leave zeros at a file's end.)
use Rattle.std.specs.Prelude.{◌≡◌, ◌⊎◌, ◌≤◌, ℕ, Bool, true, false, List, [], ◌∷◌, ◌++◌, Option, Some, None, length, take, drop, if◌then◌else◌}
use Rattle.std.specs.Cmp.Lexicographic.{slice_cmp}
use Rattle.std.specs.FinMap.{get, contains_key}
use Rattle.std.specs.List.{AllByRecursion}
use Rattle.std.specs.Option.{option_map_or}
use Rattle.std.specs.Ordering.{nat_cmp, eq_by_cmp}
use Rattle.store.specs.Calls.{Adds, Idles}
use Rattle.store.specs.Files.{Facts, Files, Disk, disk_of, with_synced, Call, Change, Creation, Addition, Sync, Move, Removal, LockFile}
use Rattle.store.specs.Stops.{moment}

abbrev pub same_name : List ℕ → List ℕ → Bool
same_name a b = eq_by_cmp (slice_cmp nat_cmp) a b

-- The name with which the file of this name goes on, or none, if it was removed or replaced.
abbrev pub name_behind : Change → List ℕ → Option (List ℕ)
name_behind (Creation name) q = if same_name q name then None else Some q
name_behind (Addition name bytes) q = Some q
name_behind (Sync name) q = Some q
name_behind (Move from to) q = if same_name q from then Some to else (if same_name q to then None else Some q)
name_behind (Removal name) q = if same_name q name then None else Some q
name_behind LockFile q = Some q

-- What the file that had this name before these calls held last, and what of it was synced.
abbrev pub held_last : List Call → Disk → List ℕ → Option (List ℕ) × Option (List ℕ)
held_last [] now q = (get now.files q, now.synced q)
held_last (call ∷ calls) now q = option_map_or (held_last calls now) (name_behind call.change q) (get call.found.files q, call.found.synced q)

-- these bytes begin with those
abbrev pub BeginsWith : List ℕ → List ℕ → Type 0
BeginsWith bytes front = (rest : List ℕ) × (bytes ≡ front ++ rest)

-- What is synced of the file of this name is a beginning of what it holds.
abbrev pub SyncsBeginning : Facts → List ℕ → Type 0
SyncsBeginning facts name = (held synced : List ℕ) → get facts.files name ≡ Some held → facts.synced name ≡ Some synced → BeginsWith held synced

-- The same holds for every file.
abbrev pub SyncsBeginnings : Facts → Type 0
SyncsBeginnings facts = (name : List ℕ) → SyncsBeginning facts name

-- The names are those of a moment, after which these calls were made. Each file has a beginning of
-- what it held last, with what of it was synced at least.
pub record IsLost (at : Files) (since : List Call) (now : Disk) (lost : Files) : Type 0 where
  pub names : (q : List ℕ) → contains_key lost q ≡ contains_key at q
  pub beginning : (q bytes : List ℕ) → get lost q ≡ Some bytes → (held : List ℕ) × ((held_last since now q).0 ≡ Some held) × BeginsWith held bytes
  pub kept : (q bytes synced : List ℕ) → get lost q ≡ Some bytes → (held_last since now q).1 ≡ Some synced → BeginsWith bytes synced

-- The names as one of these calls found them, or as they are now.
abbrev pub IsLostSince : List Call → Disk → Files → Type 0
IsLostSince [] now lost = IsLost now.files [] now lost
IsLostSince (call ∷ calls) now lost = IsLost call.found.files (call ∷ calls) now lost ⊎ IsLostSince calls now lost

abbrev pub is_sync : Change → Bool
is_sync (Sync name) = true
is_sync _ = false

-- the calls after the last sync, if these came before
abbrev pub behind_sync : List Call → List Call → List Call
behind_sync since [] = since
behind_sync since (call ∷ calls) = behind_sync (if is_sync call.change then [] else since ++ call ∷ []) calls

-- the disk that the first of these calls found, or as it is now
abbrev pub disk_before : List Call → Disk → Disk
disk_before [] now = now
disk_before (call ∷ calls) now = call.found

-- A power loss at some moment since that one may have left these files.
abbrev pub Lost : Facts → ℕ → Files → Type 0
Lost facts t lost = (m : ℕ) × (t ≤ m) × (m ≤ length facts.calls)
    × IsLostSince (behind_sync [] (take m facts.calls)) (disk_before (drop m facts.calls) (disk_of facts)) lost

-- What it may leave since a moment it may leave since an earlier one.
abbrev pub LostSinceLaw : Type 0
LostSinceLaw = (facts : Facts) (s t : ℕ) (lost : Files) → s ≤ t → Lost facts t lost → Lost facts s lost

-- ---- names that stay

-- one of these calls is a sync
abbrev pub HasSync : List Call → Type 0
HasSync [] = ⊥
HasSync (call ∷ calls) = (is_sync call.change ≡ true) ⊎ HasSync calls

-- Since old each file but those of these names kept its name, and none came or went. What is
-- synced of it is the same, if no sync came since.
pub record CarriesBut (old new : Facts) (mine : List ℕ → Type 0) : Type 0 where
  pub more : List Call
  pub calls : new.calls ≡ old.calls ++ more
  pub each : AllByRecursion (λ (call : Call). (q : List ℕ) → (mine q → ⊥)
      → (name_behind call.change q ≡ Some q) × (contains_key call.found.files q ≡ contains_key old.files q)) more
  pub now : (q : List ℕ) → (mine q → ⊥) → contains_key new.files q ≡ contains_key old.files q
  pub synced : (q : List ℕ) → (mine q → ⊥) → (new.synced q ≡ old.synced q) ⊎ HasSync more

-- ---- names since the last sync

-- These calls leave the file of this name under it.
abbrev pub IsCarriedBy : List Call → List ℕ → Type 0
IsCarriedBy calls name = AllByRecursion (λ (call : Call). name_behind call.change name ≡ Some name) calls

-- Since the first of these calls the file of this name has its name, or there was none, just as
-- there is one now or not.
abbrev pub HasStayed : List Call → Bool → List ℕ → Type 0
HasStayed [] there name = Unit {0}
HasStayed (call ∷ calls) there name = (IsCarriedBy (call ∷ calls) name × (contains_key call.found.files name ≡ there)) × HasStayed calls there name

-- Or it was begun since, and nothing of it is synced.
abbrev pub HasStayedOrBegun : List Call → Bool → Option (List ℕ) → List ℕ → Type 0
HasStayedOrBegun [] there synced name = Unit {0}
HasStayedOrBegun (call ∷ calls) there synced name =
    ((IsCarriedBy (call ∷ calls) name × (contains_key call.found.files name ≡ there)) ⊎ ((contains_key call.found.files name ≡ false) × (synced ≡ None)))
    × HasStayedOrBegun calls there synced name

-- So it is since the last sync.
abbrev pub StaysNamed : Facts → List ℕ → Type 0
StaysNamed facts name = HasStayed (behind_sync [] facts.calls) (contains_key facts.files name) name

abbrev pub StaysOrBegins : Facts → List ℕ → Type 0
StaysOrBegins facts name = HasStayedOrBegun (behind_sync [] facts.calls) (contains_key facts.files name) (facts.synced name) name

-- ---- at any moment since

-- A power loss at any moment since old leaves files that have P. It composes as the calls go on.
abbrev pub LosesOnly : Facts → Facts → (Files → Type 0) → Type 0
LosesOnly old new P = (lost : Files) → Lost new (moment old) lost → P lost

-- Some of these bytes were added to the file, and then it was synced, or the sync failed.
pub record PutsSynced (old new : Facts) (name bytes : List ℕ) : Type 0 where
  pub mid : Facts
  pub noted : Idles old mid ⊎ ((n : ℕ) × Adds old mid (Addition name (take n bytes)))
  pub kept : mid.synced ≡ old.synced
  pub done : Idles mid new ⊎ (Adds mid new (Sync name) × (new.synced ≡ with_synced mid.synced name (get mid.files name)))
