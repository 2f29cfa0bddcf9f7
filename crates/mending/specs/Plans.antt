-- Which files are mended, and what a plan says of them.
use Rattle.std.specs.Prelude.{◌≡◌, ◌⊎◌, ◌≤◌, ◌<◌, ℕ, List, [], ◌∷◌, ◌++◌, Option, Some, None, Contains}
use Rattle.std.specs.Prelude.{length, take, drop}
use Rattle.std.specs.FinMap.{get}
use Rattle.std.specs.List.{AllByRecursion}
use Rattle.logfile.specs.Log.{IsLog}
use Rattle.logfile.specs.declared.record.Tail.{Tail}
use Rattle.edits.specs.Edit.{IsEdit, HasPastLimit}
use Rattle.edits.specs.Layout.{fields_of, IsLayout, AreOfOther}
use Rattle.edits.specs.Names.{name_of, IsNumbered}
use Rattle.edits.specs.declared.field.Field.{Field}
use Rattle.edits.specs.declared.layout.Layout.{Layout}
use Rattle.edits.specs.declared.names.FileName.{FileName}
use Rattle.edits.specs.declared.names.FileName.TheVariants.{Current, Log, Manifest}
use Rattle.store.specs.Files.{Files}
use Rattle.mending.specs.Cutting.{Becomes, EndsIn, IsCut, IsReadable}
use Rattle.mending.specs.declared.ends.Ends.{Ends}
use Rattle.mending.specs.declared.finding.Cut.{Cut}
use Rattle.mending.specs.declared.finding.Found.{Found}
use Rattle.mending.specs.declared.finding.Found.TheVariants as found

-- ---- one file

-- If it is there, it is a log.
abbrev pub IsPlain : Files → FileName → Type 0
IsPlain files file = (bytes : List ℕ) → get files (name_of file) ≡ Some bytes → IsReadable bytes

-- The cut says how long the file is, and how many zeros what is cut off ends with.
abbrev pub SaysSize : List ℕ → Cut → Type 0
SaysSize bytes cut = (cut.length ≡ length bytes) × EndsIn cut.zeros (drop (length cut.front.items) bytes)

-- The file is there, and is cut behind this front.
abbrev pub IsSound : Ends → Files → FileName → Cut → Type 0
IsSound ends files file cut = (cut.file ≡ file)
    × (bytes : List ℕ) × (get files (name_of file) ≡ Some bytes) × IsCut ends bytes cut.front.items
    × IsReadable cut.front.items × SaysSize bytes cut

-- It is there, and neither it nor what would be left of it is a log.
abbrev pub HasNoFront : Ends → Files → FileName → Type 0
HasNoFront ends files file = (bytes : List ℕ) × (get files (name_of file) ≡ Some bytes) × ((front : List ℕ)
    → Becomes ends bytes front → ⊥)

-- Over any store: what is cut is this file.
abbrev pub IsNamed : FileName → Found → Type 0
IsNamed file found.Missing = Unit {0}
IsNamed file (found.Whole bytes) = Unit {0}
IsNamed file (found.Broken cut) = cut.file ≡ file

-- what was found of a file
abbrev pub IsFound : Ends → Files → FileName → Found → Type 0
IsFound ends files file found.Missing = get files (name_of file) ≡ None
IsFound ends files file (found.Whole bytes) = (get files (name_of file) ≡ Some bytes.items) × IsReadable bytes.items
IsFound ends files file (found.Broken cut) = IsSound ends files file cut

-- the cut that it needs
abbrev pub cuts_of : Found → List Cut
cuts_of found.Missing = []
cuts_of (found.Whole bytes) = []
cuts_of (found.Broken cut) = cut ∷ []

-- A cut is put behind the others if this file needs one.
abbrev pub PlansFile : Ends → Files → FileName → List Cut → List Cut → Type 0
PlansFile ends files file old new = ((new ≡ old) × IsPlain files file)
    ⊎ ((cut : Cut) × (new ≡ old ++ cut ∷ []) × IsSound ends files file cut)

-- ---- the MANIFEST

-- `CURRENT` names the MANIFEST of this number.
abbrev pub NamesManifest : List ℕ → ℕ → Type 0
NamesManifest bytes number = IsNumbered number × (bytes ≡ name_of (Manifest number) ++ 10 ∷ [])

-- each record is the bytes of its edit
abbrev pub AreEdits : List (List ℕ) → List (List Field) → Type 0
AreEdits [] [] = Unit {0}
AreEdits (bytes ∷ records) (edit ∷ edits) = IsEdit bytes edit × AreEdits records edits
AreEdits [] (edit ∷ edits) = ⊥
AreEdits (bytes ∷ records) [] = ⊥

-- The bytes are a MANIFEST whose edits leave this layout.
pub record SaysLayout (name bytes : List ℕ) (layout : Layout) : Type 0 where
  pub records : List (List ℕ)
  pub tail : Tail
  pub edits : List (List Field)
  pub log : IsLog bytes records tail
  pub spelled : AreEdits records edits
  pub folded : IsLayout name edits layout

-- ---- a MANIFEST that was found

abbrev pub SaysFound : List ℕ → Found → Layout → Type 0
SaysFound name found.Missing layout = ⊥
SaysFound name (found.Whole bytes) layout = SaysLayout name bytes.items layout
SaysFound name (found.Broken cut) layout = SaysLayout name cut.front.items layout

abbrev pub SaysFoundNone : List ℕ → Found → Type 0
SaysFoundNone name found = (layout : Layout) → SaysFound name found layout → ⊥

-- So many of the first records are edits that name a table past the limit of numbers.
abbrev pub ArePastLimit : List (List ℕ) → Type 0
ArePastLimit records = (count : ℕ) × (edits : List (List Field)) × AreEdits (take count records) edits
    × HasPastLimit (fields_of edits)

-- So many of its first records are edits that name a table past the limit of numbers, or all of
-- them are edits, of another order of keys.
pub record SaysBeyond (name bytes : List ℕ) : Type 0 where
  pub records : List (List ℕ)
  pub tail : Tail
  pub log : IsLog bytes records tail
  pub count : ℕ
  pub edits : List (List Field)
  pub spelled : AreEdits (take count records) edits
  pub beyond : HasPastLimit (fields_of edits) ⊎ ((length records ≤ count) × AreOfOther name (fields_of edits))

abbrev pub SaysFoundBeyond : List ℕ → Found → Type 0
SaysFoundBeyond name found.Missing = ⊥
SaysFoundBeyond name (found.Whole bytes) = SaysBeyond name bytes.items
SaysFoundBeyond name (found.Broken cut) = SaysBeyond name cut.front.items

-- ---- all of them

-- The log of this number is live (LevelDB's db/db_impl.cc, DBImpl::Recover).
abbrev pub IsLive : Layout → ℕ → Type 0
IsLive layout n = (layout.log_number ≤ n) ⊎ ((n ≡ layout.previous_log_number) × (0 < n))

-- The files that are mended: the MANIFEST of this number, and the live logs.
abbrev pub IsMine : ℕ → Layout → FileName → Type 0
IsMine number layout (Manifest n) = n ≡ number
IsMine number layout (Log n) = IsNumbered n × IsLive layout n
IsMine number layout _ = ⊥

abbrev pub HasCutOf : List Cut → FileName → Type 0
HasCutOf [] file = ⊥
HasCutOf (cut ∷ cuts) file = (cut.file ≡ file) ⊎ HasCutOf cuts file

-- Each cut is of such a file, and each such file is a log or is cut.
pub record ArePlanned (ends : Ends) (files : Files) (number : ℕ) (layout : Layout) (cuts : List Cut) : Type 0 where
  pub sound : AllByRecursion (λ (cut : Cut). IsMine number layout cut.file × IsSound ends files cut.file cut) cuts
  pub rest : (file : FileName) → IsMine number layout file → IsPlain files file ⊎ HasCutOf cuts file

-- The MANIFEST of this number says, once it is mended, which logs are live.
pub record HasLayout (name : List ℕ) (ends : Ends) (files : Files) (number : ℕ) (layout : Layout) : Type 0 where
  pub bytes : List ℕ
  pub front : List ℕ
  pub held : get files (name_of (Manifest number)) ≡ Some bytes
  pub becomes : Becomes ends bytes front
  pub says : SaysLayout name front layout

-- `CURRENT` names the MANIFEST of this number.
abbrev pub HasCurrent : Files → ℕ → Type 0
HasCurrent files number = (current : List ℕ) × (get files (name_of Current) ≡ Some current)
    × NamesManifest current number

-- The plan is one for these files. There is nothing to mend without a `CURRENT`.
abbrev pub IsPlan : List ℕ → Ends → Files → Option ℕ → List Cut → Type 0
IsPlan name ends files None cuts = (get files (name_of Current) ≡ None) × (cuts ≡ [])
IsPlan name ends files (Some number) cuts = HasCurrent files number × (layout : Layout)
    × HasLayout name ends files number layout × ArePlanned ends files number layout cuts

-- The logs of these numbers, one after the other.
abbrev pub PlansLogs : Ends → Files → List ℕ → List Cut → List Cut → Type 0
PlansLogs ends files [] old new = new ≡ old
PlansLogs ends files (n ∷ logs) old new = (mid : List Cut) × PlansFile ends files (Log n) old mid
    × PlansLogs ends files logs mid new

-- These are the numbers of the live logs among files of these names.
abbrev pub AreLogsOf : Layout → List (List ℕ) → List ℕ → Type 0
AreLogsOf layout names logs = ((n : ℕ) → Contains logs n → IsNumbered n × IsLive layout n)
    × ((n : ℕ) → IsNumbered n → IsLive layout n → Contains names (name_of (Log n)) → Contains logs n)

-- ---- why there is none

-- The MANIFEST is missing, has no front that is a log, or that says no layout.
abbrev pub HasNoLayout : List ℕ → Ends → Files → ℕ → Type 0
HasNoLayout name ends files number = (get files (name_of (Manifest number)) ≡ None)
    ⊎ (HasNoFront ends files (Manifest number)
    ⊎ ((bytes : List ℕ) × (front : List ℕ) × (get files (name_of (Manifest number)) ≡ Some bytes)
    × Becomes ends bytes front
    × ((layout : Layout) → SaysLayout name front layout → ⊥)))

-- That, or a live log has no front that is a log.
abbrev pub HasNoPlan : List ℕ → Ends → Files → ℕ → Type 0
HasNoPlan name ends files number = HasNoLayout name ends files number
    ⊎ ((layout : Layout) × (n : ℕ) × HasLayout name ends files number layout × IsMine number layout (Log n)
    × HasNoFront ends files (Log n))

-- `CURRENT` names no MANIFEST, or one with which there is no plan.
abbrev pub IsUnmendable : List ℕ → Ends → Files → Type 0
IsUnmendable name ends files =
    ((current : List ℕ) × (get files (name_of Current) ≡ Some current) × ((number : ℕ)
    → NamesManifest current number → ⊥))
    ⊎ ((number : ℕ) × HasCurrent files number × HasNoPlan name ends files number)

-- The MANIFEST of this number, once it is mended, has what isn't supported,
abbrev pub HasBeyond : List ℕ → Ends → Files → ℕ → Type 0
HasBeyond name ends files number = (bytes : List ℕ) × (front : List ℕ)
    × (get files (name_of (Manifest number)) ≡ Some bytes) × Becomes ends bytes front × SaysBeyond name front

-- and with the one that `CURRENT` names.
abbrev pub IsBeyond : List ℕ → Ends → Files → Type 0
IsBeyond name ends files = (number : ℕ) × HasCurrent files number × HasBeyond name ends files number
