-- What is proved of mended files.
use Rattle.std.specs.Prelude.{◌≡◌, ℕ, List, Option, Some}
use Rattle.logfile.specs.Mending.{IsHoled}
use Rattle.edits.specs.declared.layout.Layout.{Layout}
use Rattle.edits.specs.declared.names.FileName.{FileName}
use Rattle.store.specs.Files.{Call, Disk, Facts, Files}
use Rattle.store.specs.Losses.{BeginsWith, IsLost, Lost}
use Rattle.mending.specs.Cutting.{Becomes}
use Rattle.mending.specs.Mending.{MendsOnly}
use Rattle.mending.specs.Plans.{HasNoFront, IsMine, IsPlain}
use Rattle.mending.specs.declared.ends.Ends.{Ends}
use Rattle.mending.specs.declared.ends.Ends.TheVariants.{Zeros}
use Rattle.mended_losses.specs.Losses.{HoledLost, IsHoledLost, IsMoment, IsZeroedLost}
use Rattle.mended_losses.specs.Reading.{AreNamed, HasFile, HoldsLogs, LeavesWritten, ReadsAs, ReadsSame}
use Rattle.mended_losses.specs.Reading.{WasLog, WasWritten}

-- A loss without zeros is one of those that may leave some.
abbrev pub PlainLossLaw : Type 0
PlainLossLaw = (at : Files) (since : List Call) (now : Disk) (lost : Files) → IsLost at since now lost
    → IsHoledLost at since now lost

-- So is one with zeros at the ends of files alone. There mending by `Ends::Zeros` is enough: it
-- refuses none of these logs.
abbrev pub ZeroedLossLaw : Type 0
ZeroedLossLaw = (at : Files) (since : List Call) (now : Disk) (lost : Files) → IsZeroedLost at since now lost
    → IsHoledLost at since now lost
    × ((logs : List FileName) (others : List (List ℕ)) → HoldsLogs since now lost logs others
    → LeavesWritten since now lost logs → (file : FileName) → HasFile logs file → HasNoFront Zeros lost file → ⊥)

-- It reads as a prefix of what was held, with all of what was synced.
abbrev pub ReadsAsPrefix : List ℕ → Option (List ℕ) → List ℕ → Type 0
ReadsAsPrefix held kept front = (plain : List ℕ) × BeginsWith held plain
    × ((synced : List ℕ) → kept ≡ Some synced → BeginsWith plain synced) × ReadsSame front plain

-- So it is whichever ends are cut.
abbrev pub MendedLogLaw : Type 0
MendedLogLaw = (ends : Ends) (held bytes front : List ℕ) (kept : Option (List ℕ)) → WasLog held kept
    → WasWritten held bytes → IsHoled held bytes
    → ((synced : List ℕ) → kept ≡ Some synced → BeginsWith bytes synced) → Becomes ends bytes front
    → ReadsAsPrefix held kept front

-- The files were mended, as `mending::mend` says it of its Ok.
abbrev pub AreMendedBy : List ℕ → Ends → ℕ → Layout → Files → Files → Type 0
AreMendedBy name ends number layout lost mended = MendsOnly name ends lost lost mended number layout
    × ((file : FileName) → IsMine number layout file → IsPlain mended file)

-- They read as a loss without zeros could have left them.
abbrev pub MendedLossLaw : Type 0
MendedLossLaw = (at lost mended : Files) (since : List Call) (now : Disk) (name : List ℕ) (ends : Ends)
    (number : ℕ) (layout : Layout) (logs : List FileName) (others : List (List ℕ)) → IsHoledLost at since now lost
    → AreMendedBy name ends number layout lost mended → AreNamed number layout logs others
    → HoldsLogs since now lost logs others → LeavesWritten since now lost logs
    → (plain : Files) × IsLost at since now plain × ReadsAs number layout logs others mended plain

-- At whichever moment it was.
abbrev pub MendedLossesLaw : Type 0
MendedLossesLaw = (facts : Facts) (t : ℕ) (lost mended : Files) (name : List ℕ) (ends : Ends) (number : ℕ)
    (layout : Layout) (logs : List FileName) (others : List (List ℕ)) → HoledLost facts t lost
    → AreMendedBy name ends number layout lost mended → AreNamed number layout logs others
    → ((at : Files) (since : List Call) (now : Disk) → IsMoment facts t at since now
    → IsHoledLost at since now lost
    → HoldsLogs since now lost logs others × LeavesWritten since now lost logs)
    → (plain : Files) × Lost facts t plain × ReadsAs number layout logs others mended plain
