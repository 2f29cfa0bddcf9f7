-- The number and the name of each refusal, by which scripts and reports know it; and what a refusal
-- to read bytes tells of the bytes.
use Rattle.std.specs.Prelude.{ℕ, List, codes}
use Rattle.coding.specs.declared.error.DbError.{DbError}
use Rattle.coding.specs.declared.error.DbError.TheVariants.{OutOfMemory, Io, NoDatabase, Exists, Corrupt, Unsupported, Broken, NoSnapshot, NoIterator, NoPlace, KeyTooLong, ValueTooLong, BatchTooLarge, SequenceFull, NumbersSpent, NotOpen, AlreadyOpen, Locked, BadLevel, BadLine}
use Rattle.coding.specs.declared.error.Damage.{Damage}
use Rattle.coding.specs.declared.error.ReadError.{ReadError}
use Rattle.coding.specs.declared.error.ReadError.TheVariants as read_error

-- from 1 to 20, in the order in which DbError lists them
abbrev pub number_of : DbError → ℕ
number_of OutOfMemory = 1
number_of Io = 2
number_of NoDatabase = 3
number_of Exists = 4
number_of (Corrupt file what) = 5
number_of (Unsupported what) = 6
number_of Broken = 7
number_of NoSnapshot = 8
number_of NoIterator = 9
number_of NoPlace = 10
number_of KeyTooLong = 11
number_of ValueTooLong = 12
number_of BatchTooLarge = 13
number_of SequenceFull = 14
number_of NumbersSpent = 15
number_of NotOpen = 16
number_of AlreadyOpen = 17
number_of Locked = 18
number_of BadLevel = 19
number_of BadLine = 20

-- the variant's own name
abbrev pub name_of : DbError → List ℕ
name_of OutOfMemory = codes "OutOfMemory"
name_of Io = codes "Io"
name_of NoDatabase = codes "NoDatabase"
name_of Exists = codes "Exists"
name_of (Corrupt file what) = codes "Corrupt"
name_of (Unsupported what) = codes "Unsupported"
name_of Broken = codes "Broken"
name_of NoSnapshot = codes "NoSnapshot"
name_of NoIterator = codes "NoIterator"
name_of NoPlace = codes "NoPlace"
name_of KeyTooLong = codes "KeyTooLong"
name_of ValueTooLong = codes "ValueTooLong"
name_of BatchTooLarge = codes "BatchTooLarge"
name_of SequenceFull = codes "SequenceFull"
name_of NumbersSpent = codes "NumbersSpent"
name_of NotOpen = codes "NotOpen"
name_of AlreadyOpen = codes "AlreadyOpen"
name_of Locked = codes "Locked"
name_of BadLevel = codes "BadLevel"
name_of BadLine = codes "BadLine"

-- Why bytes weren't read: out of memory, which tells nothing of them, or since they are damaged,
-- which is answered only where the fact `damaged` holds. What is left out or past a limit isn't
-- among the reasons.
abbrev pub RefusesOnly : ReadError → Type 0 → Type 0
RefusesOnly read_error.Memory damaged = Unit {0}
RefusesOnly (read_error.Corrupt what) damaged = damaged
RefusesOnly (read_error.Unsupported what) damaged = ⊥

-- Why bytes weren't read: out of memory, or since they have a fault of the very kind that is named.
abbrev pub NamesFault : ReadError → (Damage → Type 0) → Type 0
NamesFault read_error.Memory has_fault = Unit {0}
NamesFault (read_error.Corrupt what) has_fault = has_fault what
NamesFault (read_error.Unsupported what) has_fault = ⊥
