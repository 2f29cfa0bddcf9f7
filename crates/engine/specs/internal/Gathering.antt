-- What a read may keep anew.
use Rattle.std.specs.Prelude.{◌⊎◌, ℕ}
use Rattle.table_access.specs.Tables.{Seen, KeepsOf}

-- what is kept anew of tables is of those of such numbers
abbrev pub Gathers : (ℕ → Type 0) → Seen → Seen → Type 0
Gathers numbers old new = (number : ℕ) → KeepsOf new number → KeepsOf old number ⊎ numbers number
