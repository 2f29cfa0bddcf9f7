-- A file in memory as callers see it.
use Rattle.std.specs.Prelude.{◌≤◌, ℕ, List, Option, Some, None, length, take}
use Rattle.std.specs.Option.{option_map}

-- its bytes, and how many of them were there when it was last synced, if it was
pub record Content : Type 0 where
  pub bytes : List ℕ
  pub synced : Option ℕ

-- what was synced, by how many bytes that were
abbrev pub front_of : List ℕ → Option ℕ → Option (List ℕ)
front_of bytes count = option_map (λ n. take n bytes) count

abbrev pub synced_bytes : Content → Option (List ℕ)
synced_bytes file = front_of file.bytes file.synced

-- so many bytes are there
abbrev pub HasFront : List ℕ → Option ℕ → Type 0
HasFront bytes None = Unit {0}
HasFront bytes (Some count) = count ≤ length bytes
