-- What a compaction does to the tables of a version, and to their entries.
use Rattle.std.specs.Prelude.{◌≡◌, ◌≢◌, ◌⊎◌, ◌<◌, ℕ, List, [], ◌∷◌}
use Rattle.ikey.specs.Orders.{Order}
use Rattle.ikey.specs.declared.entry.Entry.{Entry}
use Rattle.ikey.specs.Views.{Among}
use Rattle.ikey.specs.Sources.{ComesBefore}
use Rattle.recover.specs.Tables.{TableContent, InTables, tabled, AreNewer}

-- the first are the second and the third, each in their order
abbrev pub AreParted : List TableContent → List TableContent → List TableContent → Type 0
AreParted [] chosen rest = (chosen ≡ []) × (rest ≡ [])
AreParted (content ∷ contents) chosen rest =
    ((others : List TableContent) × (chosen ≡ content ∷ others) × AreParted contents others rest)
    ⊎ ((others : List TableContent) × (rest ≡ content ∷ others) × AreParted contents chosen others)

-- all entries of the table come before all of these
abbrev pub LiesBelow : Order → TableContent → List Entry → Type 0
LiesBelow order content entries = (e f : Entry) → Among content.entries e → Among entries f → ComesBefore order e f

abbrev pub LiesAbove : Order → TableContent → List Entry → Type 0
LiesAbove order content entries = (e f : Entry) → Among content.entries e → Among entries f → ComesBefore order f e

-- The inputs may be replaced by tables of this level. Of the tables that stay, those above it are
-- newer than the inputs, those below it are older, and those of the level itself lie beside all of
-- the inputs.
pub record MayReplace (order : Order) (inputs rest : List TableContent) (level : ℕ) : Type 0 where
  pub newer : (stays input : TableContent) → InTables rest stays → InTables inputs input → stays.placed.level < level → AreNewer stays input
  pub older : (stays input : TableContent) → InTables rest stays → InTables inputs input → level < stays.placed.level → AreNewer input stays
  pub beside : (stays : TableContent) → InTables rest stays → stays.placed.level ≡ level → LiesBelow order stays (tabled inputs) ⊎ LiesAbove order stays (tabled inputs)

-- no two of them have the same key and the same sequence number
abbrev pub AreDistinct : List Entry → Type 0
AreDistinct [] = Unit {0}
AreDistinct (entry ∷ entries) = ((other : Entry) → Among entries other → entry.key ≡ other.key → entry.sequence ≢ other.sequence) × AreDistinct entries
