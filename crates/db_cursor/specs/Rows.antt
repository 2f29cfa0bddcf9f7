-- Over which memtables and which of a version's tables a scan has cursors (LevelDB's
-- db/version_set.cc, Version::AddIterators).
use Rattle.std.specs.Prelude.{◌≡◌, ◌⊎◌, ℕ, Option, Some}

-- the generation is one of these
abbrev pub IsGenerationOf : ℕ → Option ℕ → ℕ → Type 0
IsGenerationOf current sealed generation = (generation ≡ current) ⊎ (sealed ≡ Some generation)
