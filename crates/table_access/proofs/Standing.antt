-- Which refusals come only while the store doesn't fail.
use Rattle.std.proofs.Common.{◌≡◌, ℕ, List, Result, Ok, Err, refl, ◌∙◌}
use Rattle.coding.specs.declared.error.DbError.{DbError}
use Rattle.coding.specs.declared.error.DbError.TheVariants.{OutOfMemory}
use Rattle.cache.specs.Tables.{RefusesTable}
use Rattle.store.specs.Files.{Facts}
use Rattle.table.specs.Reading.{IsErrorStill, IsStill}

pub still_later : (e : DbError) (a b c : Facts) → b.failures ≡ a.failures → IsErrorStill e b c → IsErrorStill e a c
still_later OutOfMemory a b c same h = h ∙ same
still_later e a b c same h = tt

pub table_still : (e : DbError) (old new : Facts) (number : ℕ) (damaged unsupported : List ℕ → Type 0) → RefusesTable e old new number damaged unsupported → IsErrorStill e old new
table_still OutOfMemory old new number damaged unsupported h = h
table_still e old new number damaged unsupported h = tt

-- where the store isn't called
error_there : (e : DbError) (facts : Facts) → IsErrorStill e facts facts
error_there OutOfMemory facts = refl
error_there e facts = tt

pub nothing_called : {T : Type 0} (facts : Facts) (result : Result T DbError) → IsStill facts facts result
nothing_called facts (Ok value) = refl
nothing_called facts (Err e) = error_there e facts
