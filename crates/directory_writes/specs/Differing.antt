-- Directories that differ in their tables alone, as a damaged one and each from which its files may
-- come, and what the same calls make of both.
use Rattle.std.specs.Prelude.{◌≡◌, ◌⊎◌, ℕ, List, []}
use Rattle.std.specs.FinMap.{get, contains_key}
use Rattle.edits.specs.Names.{name_of, IsNumbered}
use Rattle.edits.specs.declared.names.FileName.TheVariants.{Table, OldTable}
use Rattle.store.specs.Files.{Files, Facts}

-- the name of a table's file, by either ending
abbrev pub IsNameOfTable : List ℕ → Type 0
IsNameOfTable name = (n : ℕ) × IsNumbered n × ((name ≡ name_of (Table n)) ⊎ (name ≡ name_of (OldTable n)))

-- The same names are there, and each file but tables has the same bytes.
pub record DiffersInTables (files whole : Files) : Type 0 where
  pub names : (name : List ℕ) → contains_key whole name ≡ contains_key files name
  pub others : (name : List ℕ) → (IsNameOfTable name → ⊥) → get whole name ≡ get files name

-- What changed from `old` to `new`, done to `whole`: a file that stayed stays there too, and each
-- other is as it is in `new`.
pub record IsSameChange (old new whole after : Files) : Type 0 where
  pub stays : (name : List ℕ) → get new name ≡ get old name → get after name ≡ get whole name
  pub changes : (name : List ℕ) → (get new name ≡ get old name → ⊥) → get after name ≡ get new name

-- What is said of a change is so of the same change to each directory that differs from the old one
-- in tables alone.
abbrev pub OfEach : (Files → Files → Type 0) → Files → Files → Type 0
OfEach leads old new = (whole after : Files) → DiffersInTables old whole → IsSameChange old new whole after → leads whole after

-- what is known of a store, with these files instead of its own, and no call noted
abbrev pub with_files : Facts → Files → Facts
with_files facts files = record facts { files = files; calls = [] }
