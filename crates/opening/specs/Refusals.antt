-- How an open may be refused.
use Rattle.std.specs.Prelude.{◌≡◌, ◌⊎◌, true}
use Rattle.coding.specs.declared.error.DbError.{DbError}
use Rattle.coding.specs.declared.error.DbError.TheVariants as error
use Rattle.store.specs.Files.{Facts}

abbrev pub MayRefuseOpen : DbError → Type 0
MayRefuseOpen error.OutOfMemory = Unit {0}
MayRefuseOpen error.Io = Unit {0}
MayRefuseOpen error.NoDatabase = Unit {0}
MayRefuseOpen error.Exists = Unit {0}
MayRefuseOpen (error.Corrupt file what) = Unit {0}
MayRefuseOpen (error.Unsupported what) = Unit {0}
MayRefuseOpen error.Broken = Unit {0}
MayRefuseOpen error.NumbersSpent = Unit {0}
MayRefuseOpen error.AlreadyOpen = Unit {0}
MayRefuseOpen error.Locked = Unit {0}
MayRefuseOpen _ = ⊥

-- The same holds after an open, unless that couldn't release the lock.
abbrev pub StoodOrHeld : Facts → Facts → Type 0
StoodOrHeld old new = (new.failures ≡ old.failures) ⊎ (new.locked ≡ true)

-- refusals that the store or the memory gives, and those of an open by the files
abbrev pub IsMet : DbError → Type 0
IsMet error.OutOfMemory = Unit {0}
IsMet error.Io = Unit {0}
IsMet error.NoDatabase = Unit {0}
IsMet error.Exists = Unit {0}
IsMet (error.Corrupt file what) = Unit {0}
IsMet (error.Unsupported what) = Unit {0}
IsMet error.NumbersSpent = Unit {0}
IsMet error.Locked = Unit {0}
IsMet _ = ⊥
