-- What the calls that read a table answer over a store.
use Rattle.std.specs.Prelude.{◌≡◌, ◌<◌, ◌≤◌, ℕ, List, Some, IsTrue, Result, Ok, Err}
use Rattle.std.specs.FinMap.{get}
use Rattle.coding.specs.declared.error.DbError.{DbError}
use Rattle.coding.specs.declared.error.DbError.TheVariants.{OutOfMemory, Io, Corrupt, Unsupported}
use Rattle.coding.specs.declared.error.FileKind.TheVariants as file_kind
use Rattle.coding.specs.declared.error.Damage.TheVariants as damage
use Rattle.coding.specs.declared.error.ReadError.{ReadError}
use Rattle.coding.specs.declared.error.ReadError.TheVariants as read_error
use Rattle.store.specs.declared.error.StoreError.{StoreError}
use Rattle.store.specs.declared.error.StoreError.TheVariants as store_error
use Rattle.store.specs.Calls.{FailsNoWrite, KeepsCalls}
use Rattle.store.specs.Files.{Facts}
use Rattle.store.specs.Troubles.{NamesFile}
use Rattle.store.specs.declared.trouble.Trouble.{Trouble}

-- A call that only reads. Once a store has returned something else than what was written, that is
-- so for good. A faithful one has the same files afterwards, and it does none of the calls that
-- change something. The failures don't fall, none of them is a failed write, and the lock isn't
-- asked for.
pub record Reads (old new : Facts) : Type 0 where
  pub faithful : IsTrue new.faithful → IsTrue old.faithful
  pub files : IsTrue new.faithful → new.files ≡ old.files
  pub failures : old.failures ≤ new.failures
  pub writes : FailsNoWrite old new
  pub denials : new.denials ≡ old.denials
  pub locked : new.locked ≡ old.locked
  pub synced : IsTrue new.faithful → new.synced ≡ old.synced
  pub calls : KeepsCalls old new

-- Out of memory comes, as an Ok, only of a call in which the store didn't fail.
abbrev pub IsErrorStill : DbError → Facts → Facts → Type 0
IsErrorStill OutOfMemory old new = new.failures ≡ old.failures
IsErrorStill e old new = Unit {0}

abbrev pub IsStill : {T : Type 0} → Facts → Facts → Result T DbError → Type 0
IsStill old new (Ok value) = new.failures ≡ old.failures
IsStill old new (Err e) = IsErrorStill e old new

-- Where bytes of this file were refused as damaged, the note says so of it.
abbrev pub IsNoted : List ℕ → DbError → Trouble → Type 0
IsNoted name (Corrupt file what) trouble = NamesFile name trouble
IsNoted name e trouble = Unit {0}

-- the store has this file under this name
abbrev pub HasFile : Facts → List ℕ → List ℕ → Type 0
HasFile facts name file = get facts.files name ≡ Some file

-- of a faithful store, the file of this name is there, and this is so of its bytes
abbrev pub Finds : Facts → Facts → List ℕ → (List ℕ → Type 0) → Type 0
Finds old new name is = IsTrue new.faithful → (file : List ℕ) × HasFile old name file × is file

-- of a faithful store, this is so of the bytes of the file of this name, where it is there
abbrev pub Answers : Facts → Facts → List ℕ → (List ℕ → Type 0) → Type 0
Answers old new name is = IsTrue new.faithful → (file : List ℕ) → HasFile old name file → is file

-- Why a file isn't read. Out of memory: no call of the store failed, or one did. Corrupt: in a
-- faithful store the file isn't there or is damaged. Unsupported: it isn't there or isn't
-- supported.
abbrev pub Refuses : DbError → Facts → Facts → List ℕ → (List ℕ → Type 0) → (List ℕ → Type 0) → Type 0
Refuses OutOfMemory old new name damaged unsupported = new.failures ≡ old.failures
Refuses Io old new name damaged unsupported = old.failures < new.failures
Refuses (Corrupt file what) old new name damaged unsupported = Answers old new name damaged
Refuses (Unsupported what) old new name damaged unsupported = Answers old new name unsupported
Refuses e old new name damaged unsupported = ⊥

-- the refusal that stands for one of the store
abbrev pub refusal_of : StoreError → DbError
refusal_of store_error.Memory = OutOfMemory
refusal_of store_error.Missing = Corrupt file_kind.Table damage.Missing
refusal_of store_error.Device = Io

-- the refusal of bytes that aren't read, with the file added
abbrev pub table_refusal : ReadError → DbError
table_refusal read_error.Memory = OutOfMemory
table_refusal (read_error.Corrupt what) = Corrupt file_kind.Table what
table_refusal (read_error.Unsupported what) = Unsupported what
