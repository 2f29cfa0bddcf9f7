-- What calls that only read keep to, and why mending is refused.
use Rattle.std.specs.Prelude.{◌≡◌, ◌<◌, ◌≤◌, IsTrue}
use Rattle.coding.specs.declared.error.DbError.{DbError}
use Rattle.coding.specs.declared.error.DbError.TheVariants as error
use Rattle.coding.specs.declared.error.FileKind.{FileKind}
use Rattle.coding.specs.declared.error.ReadError.{ReadError}
use Rattle.coding.specs.declared.error.ReadError.TheVariants as read_error
use Rattle.store.specs.Calls.{KeepsCalls}
use Rattle.store.specs.Files.{Facts}

-- A call that only reads: nothing changes while the store is faithful.
pub record Reads (old new : Facts) : Type 0 where
  pub faithful : IsTrue new.faithful → IsTrue old.faithful
  pub failures : old.failures ≤ new.failures
  pub denials : new.denials ≡ old.denials
  pub locked : new.locked ≡ old.locked
  pub same : IsTrue new.faithful → new.files ≡ old.files
  pub synced : IsTrue new.faithful → new.synced ≡ old.synced
  pub calls : KeepsCalls old new

-- Out of memory; the store failed, which was counted; the lock was denied, which was counted;
-- what is there can't be mended; or it isn't supported.
abbrev pub RefusesMend : DbError → Facts → Facts → Type 0 → Type 0 → Type 0
RefusesMend error.OutOfMemory old new damaged unsupported = Unit {0}
RefusesMend error.Io old new damaged unsupported = old.failures < new.failures
RefusesMend error.Locked old new damaged unsupported = old.denials < new.denials
RefusesMend (error.Corrupt file what) old new damaged unsupported = IsTrue new.faithful → damaged
RefusesMend (error.Unsupported what) old new damaged unsupported = IsTrue new.faithful → unsupported
RefusesMend _ old new damaged unsupported = ⊥

-- the refusal of a reader whose bytes are those of a file of this kind
abbrev pub in_file : FileKind → ReadError → DbError
in_file kind read_error.Memory = error.OutOfMemory
in_file kind (read_error.Corrupt what) = error.Corrupt kind what
in_file kind (read_error.Unsupported what) = error.Unsupported what

-- Out of memory, damaged, or not supported: a refusal in which the store took no part.
abbrev pub RefusesBytes : DbError → Type 0 → Type 0 → Type 0
RefusesBytes error.OutOfMemory damaged unsupported = Unit {0}
RefusesBytes (error.Corrupt file what) damaged unsupported = damaged
RefusesBytes (error.Unsupported what) damaged unsupported = unsupported
RefusesBytes _ damaged unsupported = ⊥
