-- What is known of a directory without reading its tables and logs.
use Rattle.std.specs.Prelude.{◌≡◌, ◌↔◌, ℕ, true, List, Option, Some, None, map, length, Contains}
use Rattle.std.specs.List.{AllByRecursion}
use Rattle.std.specs.FinMap.{get, contains_key}
use Rattle.ikey.specs.Orders.{Order}
use Rattle.store.specs.Files.{Files}
use Rattle.edits.specs.Names.{name_of, IsNumbered}
use Rattle.edits.specs.declared.field.Field.{Field}
use Rattle.edits.specs.declared.layout.Layout.{Layout}
use Rattle.edits.specs.declared.names.FileName.TheVariants.{Log}
use Rattle.recover.specs.Directory.{HasManifest, IsEmpty}
use Rattle.recover.specs.Logs.{IsLive}
use Rattle.recover.specs.Reading.{RiseFrom}
use Rattle.recover.specs.declared.overview.LogLength.{LogLength}
use Rattle.recover.specs.declared.overview.Overview.{Overview}

-- the log is there, and so long
abbrev pub HasLength : Files → LogLength → Type 0
HasLength files log = (bytes : List ℕ) × (get files (name_of (Log log.number)) ≡ Some bytes) × (log.length ≡ length bytes)

abbrev pub numbers_of : List LogLength → List ℕ
numbers_of logs = map (λ log. log.number) logs

-- the logs in use, all that are there, by rising number
pub record AreLiveLengths (files : Files) (layout : Layout) (logs : List LogLength) : Type 0 where
  pub lengths : AllByRecursion (HasLength files) logs
  pub rising : RiseFrom 0 (numbers_of logs)
  pub live : (n : ℕ) → Contains (numbers_of logs) n ↔ (IsNumbered n × IsLive layout n × (contains_key files (name_of (Log n)) ≡ true))

-- `CURRENT` names a MANIFEST of this layout
pub record IsSeen (order : Order) (files : Files) (overview : Overview) : Type 0 where
  pub number : ℕ
  pub edits : List (List Field)
  pub manifest : HasManifest order files number edits overview.layout
  pub logs : AreLiveLengths files overview.layout overview.logs.items

abbrev pub IsOverview : Order → Files → Option Overview → Type 0
IsOverview order files None = IsEmpty files
IsOverview order files (Some overview) = IsSeen order files overview
