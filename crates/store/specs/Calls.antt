-- What each call of a store keeps to, whichever store it is.
use Rattle.std.specs.Prelude.{◌≡◌, ◌≢◌, ◌⊎◌, ◌<◌, ◌≤◌, ◌+◌, ◌++◌, ◌∷◌, [], ℕ, List, take, IsTrue, Result, Err, OnOk, OnErr}
use Rattle.store.specs.declared.error.StoreError.{StoreError}
use Rattle.store.specs.declared.error.StoreError.TheVariants.{Memory, Device}
use Rattle.store.specs.Files.{Facts, Files, Synced, Change, Addition, Does, disk_of}

-- Once a store has returned something else than what was written, that is so for good. The counts
-- don't fall. A call raises the count of failures if it answers Device, and only then.
pub record Counts {T : Type 0} (old new : Facts) (result : Result T StoreError) : Type 0 where
  pub faithful : IsTrue new.faithful → IsTrue old.faithful
  pub failures : old.failures ≤ new.failures
  pub denials : old.denials ≤ new.denials
  pub device : result ≡ Err Device → old.failures < new.failures
  pub unfailed : result ≢ Err Device → new.failures ≡ old.failures

-- A call that neither makes, extends, syncs nor renames a file: no failed write is counted.
abbrev pub FailsNoWrite : Facts → Facts → Type 0
FailsNoWrite old new = new.write_failures ≡ old.write_failures

-- A call that does one of these: each of its failures is a failed write, so both counts rise by as
-- much.
abbrev pub FailsAsWrite : Facts → Facts → Type 0
FailsAsWrite old new = new.write_failures + old.failures ≡ old.write_failures + new.failures

-- Several calls of both kinds: of their failures some were failed writes.
abbrev pub FailsSome : Facts → Facts → Type 0
FailsSome old new = (old.write_failures ≤ new.write_failures) × (new.write_failures + old.failures ≤ old.write_failures + new.failures)

-- A call that changes no file, while the store is faithful.
abbrev pub Keeps : Facts → Facts → Type 0
Keeps old new = IsTrue new.faithful → new.files ≡ old.files

-- A call that syncs nothing and changes nothing of which something was synced.
abbrev pub KeepsSynced : Facts → Facts → Type 0
KeepsSynced old new = IsTrue new.faithful → new.synced ≡ old.synced

-- What a call that changes files does to what is synced of them. An Ok did it. A failure of the
-- device did it or left all as it was, the files and what is synced of them together.
pub record ChangesSynced {T : Type 0} (old new : Facts) (result : Result T StoreError) (done : Synced → Synced) (changed : Files → Files → Type 0) : Type 0 where
  pub ok : IsTrue new.faithful → OnOk result (new.synced ≡ done old.synced)
  pub device : IsTrue new.faithful → result ≡ Err Device
      → ((new.files ≡ old.files) × (new.synced ≡ old.synced)) ⊎ (changed old.files new.files × (new.synced ≡ done old.synced))
  pub memory : IsTrue new.faithful → result ≡ Err Memory → new.synced ≡ old.synced

-- What a call does to the files while the store is faithful: all by an Ok, a part by a failure of
-- the device, nothing if it is out of memory.
pub record Changes {T : Type 0} (old new : Facts) (result : Result T StoreError) (done part : Files → Files → Type 0) : Type 0 where
  pub ok : IsTrue new.faithful → OnOk result (done old.files new.files)
  pub device : IsTrue new.faithful → result ≡ Err Device → part old.files new.files
  pub memory : IsTrue new.faithful → result ≡ Err Memory → new.files ≡ old.files

-- A call that is none of those that change something.
abbrev pub KeepsCalls : Facts → Facts → Type 0
KeepsCalls old new = IsTrue new.faithful → new.calls ≡ old.calls

-- This was done, and is noted with what it found.
abbrev pub Adds : Facts → Facts → Change → Type 0
Adds old new change = (new.calls ≡ old.calls ++ (record { found = disk_of old; change = change }) ∷ []) × Does change old.files new.files

-- All is as it was: such a call needn't be noted.
abbrev pub Idles : Facts → Facts → Type 0
Idles old new = (new.calls ≡ old.calls) × (disk_of new ≡ disk_of old)

-- A call that may change something did so, whatever it answers, and is noted. Or it did nothing, as
-- one that was out of memory.
pub record Notes {T : Type 0} (old new : Facts) (result : Result T StoreError) (change : Change) : Type 0 where
  pub noted : IsTrue new.faithful → Idles old new ⊎ Adds old new change
  pub memory : IsTrue new.faithful → result ≡ Err Memory → new.calls ≡ old.calls

-- An append is noted with as many of its bytes as were added to the file.
pub record NotesAppend {T : Type 0} (old new : Facts) (result : Result T StoreError) (name bytes : List ℕ) : Type 0 where
  pub noted : IsTrue new.faithful → Idles old new ⊎ ((n : ℕ) × Adds old new (Addition name (take n bytes)))
  pub memory : IsTrue new.faithful → result ≡ Err Memory → new.calls ≡ old.calls

-- What is synced is noted if the sync succeeded.
pub record NotesSync {T : Type 0} (old new : Facts) (result : Result T StoreError) (change : Change) : Type 0 where
  pub ok : IsTrue new.faithful → OnOk result (Adds old new change)
  pub err : IsTrue new.faithful → OnErr result (new.calls ≡ old.calls)
