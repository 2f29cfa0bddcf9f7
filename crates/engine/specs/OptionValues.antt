-- What a database is told when it is opened, as numbers.
use Rattle.std.specs.Prelude.{◌≤◌, ◌^◌, ℕ}

pub record OptionValues : Type 0 where
  pub write_buffer : ℕ
  pub block_bytes : ℕ
  pub file_bytes : ℕ
  pub level0_files : ℕ
  pub base_bytes : ℕ
  pub cache_blocks : ℕ

-- each is in its range
abbrev pub AreInRange : OptionValues → Type 0
AreInRange o =
    (1 ≤ o.write_buffer) × (o.write_buffer ≤ 2 ^ 30)
    × (1 ≤ o.block_bytes) × (o.block_bytes ≤ 2 ^ 20)
    × (1 ≤ o.file_bytes) × (o.file_bytes ≤ 2 ^ 30)
    × (1 ≤ o.level0_files) × (o.level0_files ≤ 1024)
    × (1 ≤ o.base_bytes) × (o.base_bytes ≤ 2 ^ 40)
    × (1 ≤ o.cache_blocks) × (o.cache_blocks ≤ 65536)

-- LevelDB's defaults (include/leveldb/options.h and db/dbformat.h), with a cache of 1,024 blocks
abbrev pub default_values : OptionValues
default_values = record {
  write_buffer = 4194304;
  block_bytes = 4096;
  file_bytes = 2097152;
  level0_files = 4;
  base_bytes = 10485760;
  cache_blocks = 1024;
}
