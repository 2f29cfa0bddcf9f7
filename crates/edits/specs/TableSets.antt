-- How the tables of a layout are kept while its edits are read.
use Rattle.std.specs.Prelude.{◌≡◌, ◌==◌, ◌+◌, if◌then◌else◌, ℕ, List, [], ◌∷◌, map}
use Rattle.std.specs.BTreeSet.{BTreeSet, contains}
use Rattle.std.specs.Ordering.{nat_cmp}
use Rattle.edits.specs.declared.field.PlacedTable.{PlacedTable}

-- each table under its level and its number
abbrev pub ranked : List PlacedTable → List ((ℕ × ℕ) × PlacedTable)
ranked tables = map (λ placed. ((placed.level, placed.table.number), placed)) tables

-- how many of the tables have this number
abbrev pub count_of : ℕ → List PlacedTable → ℕ
count_of number [] = 0
count_of number (placed ∷ tables) = (if placed.table.number == number then 1 else 0) + count_of number tables

-- These are the numbers of the tables, no two of which have the same.
abbrev pub AreNumbersOf : List PlacedTable → BTreeSet ℕ → Type 0
AreNumbersOf tables numbers = (number : ℕ) → count_of number tables ≡ (if contains nat_cmp numbers number then 1 else 0)
