-- What mending leaves, at its end and in its middle.
use Rattle.std.specs.Prelude.{◌≡◌, ◌≢◌, ◌⊎◌, ℕ, List, [], ◌∷◌, Option, Some, None}
use Rattle.std.specs.FinMap.{get}
use Rattle.std.specs.List.{AllByRecursion}
use Rattle.edits.specs.Names.{name_of, IsNumbered}
use Rattle.edits.specs.declared.layout.Layout.{Layout}
use Rattle.edits.specs.declared.names.FileName.{FileName}
use Rattle.edits.specs.declared.names.FileName.TheVariants.{Current, Lock, Log, Table, OldTable, Manifest, Temporary}
use Rattle.store.specs.Files.{Files, lock_name}
use Rattle.mending.specs.Cutting.{IsCut, IsReadable}
use Rattle.mending.specs.Plans.{HasLayout, HasCurrent, IsMine, IsPlain}
use Rattle.mending.specs.declared.ends.Ends.{Ends}
use Rattle.mending.specs.declared.finding.Cut.{Cut}

-- ---- names

-- the number in the name, or 0
abbrev pub number_of : FileName → ℕ
number_of Current = 0
number_of Lock = 0
number_of (Log n) = n
number_of (Table n) = n
number_of (OldTable n) = n
number_of (Manifest n) = n
number_of (Temporary n) = n

-- the temporary file by way of which it is replaced
abbrev pub temporary_of : FileName → List ℕ
temporary_of file = name_of (Temporary (number_of file))

-- a MANIFEST or a log
abbrev pub IsLogged : FileName → Type 0
IsLogged (Log n) = IsNumbered n
IsLogged (Manifest n) = IsNumbered n
IsLogged _ = ⊥

abbrev pub AreLogged : List Cut → Type 0
AreLogged cuts = AllByRecursion (λ (cut : Cut). IsLogged cut.file) cuts

-- ---- the cuts, whatever they are

-- The file of this name has the front of one of them.
abbrev pub HasFront : List Cut → List ℕ → Option (List ℕ) → Type 0
HasFront [] q content = ⊥
HasFront (cut ∷ cuts) q content = ((q ≡ name_of cut.file) × (content ≡ Some cut.front.items)) ⊎ HasFront cuts q content

-- Each file but the temporary ones is as it was, or has the front of one of them.
abbrev pub AreBetween : List Cut → Files → Files → Type 0
AreBetween cuts old files = (q : List ℕ) → AllByRecursion (λ (cut : Cut). q ≢ temporary_of cut.file) cuts
    → (get files q ≡ get old q) ⊎ HasFront cuts q (get files q)

-- So it is after a power loss, but for `LOCK`: whatever was left of them before.
abbrev pub AreBetweenLost : List Cut → Files → Files → Type 0
AreBetweenLost cuts before lost = (q : List ℕ) → q ≢ lock_name
    → AllByRecursion (λ (cut : Cut). q ≢ temporary_of cut.file) cuts
    → (get lost q ≡ get before q) ⊎ HasFront cuts q (get lost q)

-- Each of the files of these has the front of one of all.
abbrev pub AreDone : List Cut → List Cut → Files → Type 0
AreDone cuts done files = AllByRecursion (λ (cut : Cut).
    HasFront cuts (name_of cut.file) (get files (name_of cut.file))) done

-- ---- a directory

-- The file of this name is the MANIFEST or a live log, and was cut.
pub record IsCutThere (ends : Ends) (old files : Files) (number : ℕ) (layout : Layout) (q : List ℕ) : Type 0 where
  pub file : FileName
  pub mine : IsMine number layout file
  pub named : q ≡ name_of file
  pub bytes : List ℕ
  pub held : get old q ≡ Some bytes
  pub front : List ℕ
  pub there : get files q ≡ Some front
  pub cut : IsCut ends bytes front
  pub readable : IsReadable front

-- But for `LOCK` and temporary files of its own, each file is as it was before, or is the MANIFEST
-- or a live log, and was cut. What it is cut of are the old files.
pub record MendsOnly (name : List ℕ) (ends : Ends) (old before files : Files) (number : ℕ)
    (layout : Layout) : Type 0 where
  pub numbered : IsNumbered number
  pub has : HasLayout name ends old number layout
  pub each : (q : List ℕ) → q ≢ lock_name → ((file : FileName) → IsMine number layout file → q ≡ temporary_of file → ⊥)
      → (get files q ≡ get before q) ⊎ IsCutThere ends old files number layout q

-- But for `LOCK` each file is as it was.
abbrev pub KeepsAll : Files → Files → Type 0
KeepsAll old files = (q : List ℕ) → q ≢ lock_name → get files q ≡ get old q

-- So it is, or some of the files were cut.
abbrev pub MayMend : List ℕ → Ends → Files → Files → Type 0
MayMend name ends old files = KeepsAll old files ⊎ ((number : ℕ) × (layout : Layout)
    × MendsOnly name ends old old files number layout)

-- After a power loss: so it is of what one may have left before.
abbrev pub MayMendLost : List ℕ → Ends → Files → Files → Files → Type 0
MayMendLost name ends old before lost = KeepsAll before lost ⊎ ((number : ℕ) × (layout : Layout)
    × MendsOnly name ends old before lost number layout)

-- Each of the files that are mended is a log now.
abbrev pub AreMended : List ℕ → Ends → Files → Files → Option ℕ → Type 0
AreMended name ends old files None = KeepsAll old files
AreMended name ends old files (Some number) = HasCurrent old number × (layout : Layout)
    × MendsOnly name ends old old files number layout
    × ((file : FileName) → IsMine number layout file → IsPlain files file)
