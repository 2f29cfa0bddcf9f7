-- Blocks within a file (LevelDB's doc/table_format.md): where they are, and what stands after each.
use Rattle.std.specs.Prelude.{◌≡◌, ◌<◌, ◌≤◌, ◌+◌, ◌^◌, ◌⊎◌, ℕ, List, [], ◌∷◌, ◌++◌, length, take, drop}
use Rattle.std.specs.List.{AllByRecursion}
use Rattle.coding.specs.Checksum.{checksum, masked}
use Rattle.coding.specs.Fixed.{fixed32}
use Rattle.coding.specs.Spelling.{InTurn}
use Rattle.coding.specs.Varint.{IsVarint}
use Rattle.table.specs.declared.handle.Handle.{Handle}

-- a number of at most 64 bits
abbrev pub IsNumber : List ℕ → ℕ → Type 0
IsNumber bytes n = IsVarint bytes n × (n < 2 ^ 64)

-- a handle is written as its offset, and its size after it
abbrev pub IsHandle : List ℕ → Handle → Type 0
IsHandle bytes handle = InTurn IsNumber IsNumber bytes (handle.offset, handle.size)

-- after a block stand its type, and the stored checksum of block and type
abbrev pub trailer_of_type : ℕ → List ℕ → List ℕ
trailer_of_type kind block = kind ∷ fixed32 (masked (checksum (block ++ kind ∷ [])))

-- the type of a block that isn't compressed is 0
abbrev pub trailer_of : List ℕ → List ℕ
trailer_of block = trailer_of_type 0 block

-- a block as a file has it
abbrev pub stored : List ℕ → List ℕ
stored block = block ++ trailer_of block

-- where a block with its trailer ends
abbrev pub end_of : Handle → ℕ
end_of handle = handle.offset + (handle.size + 5)

-- from the handle's offset on, the file has this block of the handle's size, and its trailer
pub record IsStored (file : List ℕ) (handle : Handle) (block : List ℕ) : Type 0 where
  pub size : length block ≡ handle.size
  pub parts : take (handle.size + 5) (drop handle.offset file) ≡ block ++ trailer_of block

-- none of these two blocks, with their trailers, lies in the other
abbrev pub DoNotOverlap : Handle → Handle → Type 0
DoNotOverlap a b = (end_of a ≤ b.offset) ⊎ (end_of b ≤ a.offset)

abbrev pub AreApart : List Handle → Type 0
AreApart [] = Unit {0}
AreApart (handle ∷ handles) = AllByRecursion (DoNotOverlap handle) handles × AreApart handles

-- the blocks, with their trailers, end before this place, and none lies in another
abbrev pub AreSeparate : ℕ → List Handle → Type 0
AreSeparate end handles = AllByRecursion (λ (handle : Handle). end_of handle ≤ end) handles × AreApart handles
