-- What `dump` prints behind a damage: the files that are sound.
use Rattle.std.specs.Prelude.{◌≡◌, ◌⊎◌, ◌++◌, ℕ, max, List, [], ◌∷◌, map, Option, Some, None, Result, Ok, Err}
use Rattle.std.specs.Io.KnownBytes.{Appends}
use Rattle.coding.specs.declared.error.DbError.{DbError}
use Rattle.edits.specs.declared.field.PlacedTable.{PlacedTable}
use Rattle.ikey.specs.Orders.{Order}
use Rattle.ikey.specs.declared.entry.Entry.{Entry}
use Rattle.recover.specs.declared.origins.Origin.{Origin}
use Rattle.recover.specs.declared.origins.Origin.TheVariants.{Table, Log}
use Rattle.recover.specs.declared.overview.LogLength.{LogLength}
use Rattle.recover.specs.declared.overview.Overview.{Overview}
use Rattle.store.specs.Files.{Facts}
use Rattle.tool.specs.EntryLines.{entry_line_of}
use Rattle.tool.specs.Inspecting.{IsFileRead}
use Rattle.tool.specs.Reports.{check_text_of, texts}
use Rattle.tool.specs.Statistics.{IsLookedOver}
use Rattle.tool.specs.declared.task.Notation.{Notation}

-- tables by level and number, then logs by number
abbrev pub origins_of_overview : Overview → List Origin
origins_of_overview overview =
    map (λ (placed : PlacedTable). Table placed.level placed.table.number) overview.layout.tables.items ++ map (λ (log : LogLength). Log log.number) overview.logs.items

-- The lines of the entries of a file are written; or it is refused, which has no line, but a
-- status.
abbrev pub PrintsIfSound : Order → Notation → Origin → Facts → Facts → Option (List ℕ) → Option (List ℕ) → ℕ → Type 0
PrintsIfSound order notation origin old new before after status =
    ((entries : List Entry) × IsFileRead order origin old new (Ok entries) × Appends before after (texts (entry_line_of notation origin) entries) × (status ≡ 0))
    ⊎ ((error : DbError) × IsFileRead order origin old new (Err error) × (after ≡ before) × (status ≡ 1))

-- So file after file, from this status on.
abbrev pub PrintsSound : Order → Notation → List Origin → ℕ → Facts → Facts → Option (List ℕ) → Option (List ℕ) → ℕ → Type 0
PrintsSound order notation [] so_far old new before after status = (new ≡ old) × (after ≡ before) × (status ≡ so_far)
PrintsSound order notation (origin ∷ origins) so_far old new before after status =
    (mid : Facts) × (between : Option (List ℕ)) × (one : ℕ) × PrintsIfSound order notation origin old mid before between one
    × PrintsSound order notation origins (max so_far one) mid new between after status

-- The refusal of a MANIFEST is written alone, and nothing of a directory without a database.
abbrev pub DumpsAnswer : Order → Notation → Result (Option Overview) DbError → Facts → Facts → Option (List ℕ) → Option (List ℕ) → ℕ → Type 0
DumpsAnswer order notation (Ok (Some overview)) old new before after status = PrintsSound order notation (origins_of_overview overview) 0 old new before after status
DumpsAnswer order notation (Ok None) old new before after status = (new ≡ old) × (after ≡ before) × (status ≡ 0)
DumpsAnswer order notation (Err error) old new before after status = (new ≡ old) × Appends before after (check_text_of (Err error)) × (status ≡ 1)

abbrev pub DumpsSound : Order → Notation → Facts → Facts → Option (List ℕ) → Option (List ℕ) → ℕ → Type 0
DumpsSound order notation old new before after status =
    (mid : Facts) × (answer : Result (Option Overview) DbError) × IsLookedOver order old mid answer × DumpsAnswer order notation answer mid new before after status
