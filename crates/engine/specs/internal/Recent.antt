-- Which of the accepted batches the logs have that this open began, and what the map was after each
-- of them: what a power loss may take.
use Rattle.std.specs.Prelude.{◌≡◌, ◌⊎◌, Some, ◌≤◌, ◌<◌, ◌+◌, ℕ, List, [], ◌∷◌, ◌++◌, length, take, drop, sum_by}
use Rattle.std.specs.List.{AllByRecursion}
use Rattle.batch.specs.declared.operation.Operation.{Operation}
use Rattle.edits.specs.Names.{name_of}
use Rattle.edits.specs.declared.names.FileName.TheVariants.{Log}
use Rattle.ikey.specs.declared.entry.Entry.{Entry}
use Rattle.ikey.specs.Views.{AllUpTo, Contents, IsView}
use Rattle.logfile.specs.declared.record.Tail.{Tail}
use Rattle.machine.specs.Machine.{Machine, after_batches}
use Rattle.opening.specs.Losses.{IsKept}
use Rattle.recover.specs.Logs.{Batch, IsBatchLog, LogContent, logged}
use Rattle.recover.specs.Tables.{TableContent, tabled}
use Rattle.store.specs.Files.{Facts}

-- After so many operations, these batches of logs are those.
abbrev pub AreLogged : ℕ → List Batch → List (List Operation) → Type 0
AreLogged used [] [] = Unit {0}
AreLogged used (batch ∷ batches) (operations ∷ others) = (batch.0 ≡ used + 1) × (batch.1 ≡ operations) × AreLogged (used + length operations) batches others
AreLogged used _ _ = ⊥

-- the batches of these logs
abbrev pub batches_in : List LogContent → List Batch
batches_in [] = []
batches_in (log ∷ logs) = log.batches ++ batches_in logs

-- all but the first of these logs are empty
abbrev pub AreEmptyBehind : List LogContent → Type 0
AreEmptyBehind [] = Unit {0}
AreEmptyBehind (log ∷ logs) = AllByRecursion (λ (other : LogContent). other.batches ≡ []) logs

-- The logs are those that the open found, whose numbers are below that of its MANIFEST; then those
-- begun since that are synced whole; then those that may not be durable whole. Of the last all but
-- the first are empty, and the one that writes go to is always one of them.
pub record AreParts (facts : Facts) (least : ℕ) (logs : List LogContent) : Type 0 where
  pub found : List LogContent
  pub kept : List LogContent
  pub doubted : List LogContent
  pub all : logs ≡ found ++ kept ++ doubted
  pub before : AllByRecursion (λ (log : LogContent). log.number < least) found
  pub synced : AllByRecursion (λ (log : LogContent). IsKept facts (name_of (Log log.number))) kept
  pub empty : AreEmptyBehind doubted
  pub some : 0 < length doubted

-- Of these logs the first so many batches at least are synced.
abbrev pub HaveSynced : Facts → List LogContent → ℕ → Type 0
HaveSynced facts [] count = count ≡ 0
HaveSynced facts (log ∷ logs) count =
    (count ≡ 0) ⊎ ((bytes : List ℕ) × (synced : List Batch) × (tail : Tail) × (facts.synced (name_of (Log log.number)) ≡ Some bytes) × IsBatchLog bytes synced tail × (count ≤ length synced) × (count ≤ length log.batches))

-- So many of the accepted batches are left whatever a power loss takes: those before these logs,
-- those in logs that are synced whole, and those that are synced of the others.
pub record AreSure (facts : Facts) (from : ℕ) (kept doubted : List LogContent) (count : ℕ) : Type 0 where
  pub others : ℕ
  pub synced : HaveSynced facts doubted others
  pub within : count ≤ from + (length (batches_in kept) + others)

-- What was accepted last is in the logs that were begun; and after each of these batches, and
-- before the first, the entries show what the map was.
pub record AreRecentOf (facts : Facts) (least : ℕ) (tables : List TableContent) (entries : List Entry) (logs : List LogContent) (base : Contents) (batches : List (List Operation)) (synced used : ℕ) : Type 0 where
  pub parts : AreParts facts least logs
  -- the first of them, and how many operations were accepted before it
  pub from : ℕ
  pub within : from ≤ length batches
  pub start : ℕ
  pub spent : start + sum_by length (drop from batches) ≡ used
  pub recent : AreLogged start (batches_in (parts.kept ++ parts.doubted)) (drop from batches)
  pub below : AllUpTo start (tabled tables ++ logged parts.found)
  pub past : (k : ℕ) → k ≤ length (drop from batches) → IsView entries (start + sum_by length (take k (drop from batches))) (after_batches base (take (from + k) batches))
  -- those that a write synced, with all before it
  pub sure : AreSure facts from parts.kept parts.doubted synced

-- of a machine: what else it has makes no difference
abbrev pub AreRecent : Facts → ℕ → List TableContent → List Entry → List LogContent → Machine → Type 0
AreRecent facts least tables entries logs m = AreRecentOf facts least tables entries logs m.base m.batches m.synced m.used
