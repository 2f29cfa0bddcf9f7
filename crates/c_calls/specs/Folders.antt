-- What calls on a folder that isn't open promise: those of the calls that they make, over the
-- answer of which C sees a number.
use Rattle.std.specs.Prelude.{◌≡◌, ◌++◌, ◌<◌, ℕ, ℤ, pos, negsuc, codes, MatchBool, if◌then◌else◌, Option, Some, None}
use Rattle.std.specs.Prelude.{IfErr, IfOk, IsTrue, Result, Ok, Err, List, drop, length, map, take}
use Rattle.coding.specs.declared.error.DbError.{DbError}
use Rattle.edits.specs.declared.names.FileName.{FileName}
use Rattle.edits.specs.declared.names.FileName.TheVariants as file
use Rattle.engine.specs.Follows.{Leads}
use Rattle.engine.specs.OpenedWith.{HasOptions}
use Rattle.engine.specs.OptionValues.{OptionValues}
use Rattle.engine.specs.Outcomes.{RefusedOpen}
use Rattle.engine.specs.Reopening.{OpenLosesOn}
use Rattle.engine.specs.StandsDb.{StandsDb, db_store_of}
use Rattle.engine.specs.Stops.{OpenStops}
use Rattle.engine.specs.declared.db.Db.{Db}
use Rattle.engine.specs.declared.ids.Ids.{Ids}
use Rattle.engine.specs.internal.Standing.{StandsClosed}
use Rattle.ikey.specs.Orders.{Order}
use Rattle.machine.specs.Lifetime.{Opens}
use Rattle.machine.specs.declared.command.Answer.TheVariants.{Done, Refused}
use Rattle.machine.specs.declared.command.Mode.{Mode}
use Rattle.machine.specs.declared.command.Mode.TheVariants.{Existing, New, Any}
use Rattle.mending.specs.Calls.{Reads, RefusesMend}
use Rattle.mending.specs.Losing.{HaveNamesStayed, LosesBy}
use Rattle.mending.specs.Mending.{AreMended, MayMend, MayMendLost}
use Rattle.mending.specs.Plans.{IsBeyond, IsPlan, IsUnmendable}
use Rattle.mending.specs.declared.ends.Ends.{Ends}
use Rattle.mending.specs.declared.ends.Ends.TheVariants as ends
use Rattle.mending.specs.declared.finding.Cut.{Cut}
use Rattle.mending.specs.declared.planning.Plan.{Plan}
use Rattle.opening.specs.Telling.{IsOpenable, RefusalTells}
use Rattle.recover.specs.Directory.{IsEmpty}
use Rattle.recover.specs.Limits.{IsBeyondChecking, PassesLimit, TellsUnsupported}
use Rattle.recover.specs.Reading.{IsInconsistent, IsStill, ReadsDirectory, RefusesDirectory}
use Rattle.recover.specs.Report.{IsReport}
use Rattle.recover.specs.declared.report.Report.{Report}
use Rattle.recover.specs.declared.report.Report.TheVariants.{Empty, Good}
use Rattle.store.specs.Files.{Facts, Files, MayLock}
use Rattle.store.specs.Stops.{LeavesOnly}
use Rattle.c_calls.specs.Calls.{has_flag}
use Rattle.c_calls.specs.Told.{number}
use Rattle.c_calls.specs.declared.folders.CutFile.{CutFile}

-- the name of the order of keys that C's databases have
abbrev pub bytewise_name : List ℕ
bytewise_name = codes "leveldb.BytewiseComparator"

-- ---- opening

-- the number of a mode
abbrev pub IsMode : ℕ → Option Mode → Type 0
IsMode n (Some Existing) = n ≡ 0
IsMode n (Some New) = n ≡ 1
IsMode n (Some Any) = n ≡ 2
IsMode n None = 2 < n

-- What `Db::open` promises of an open that succeeds. No id was given before. While the store is
-- faithful it has a database that can be opened, and at any moment since the call began a process
-- crash leaves what the files held, and a power loss what one could leave before.
pub record Begins {S K : Type 0} {g : _} (order : Order) (facts : S → Facts) (mode : Mode) (options : OptionValues)
    (store : S) (db : Db S K g) : Type 0 where
  pub ids : Ids
  pub begun : (ids.snapshot ≡ 0) × (ids.iterator ≡ 0)
  pub step : Leads (facts store) (facts (db_store_of db)) (StandsClosed order (facts store) ids)
      (StandsDb order facts db) (λ m n. Opens m mode Done n)
  pub sizes : HasOptions options db
  pub found : IsTrue (facts (db_store_of db)).faithful → IsOpenable order (facts store).files
  pub stops : OpenStops order (facts store) (facts (db_store_of db)) ids
  pub loses : OpenLosesOn order (facts store) (facts (db_store_of db)) ids

-- And of one that is refused: it says why, and leaves what it found.
pub record BeginsNot {S : Type 0} (order : Order) (facts : S → Facts) (mode : Mode) (store left : S)
    (error : DbError) : Type 0 where
  pub ids : Ids
  pub begun : (ids.snapshot ≡ 0) × (ids.iterator ≡ 0)
  pub step : Leads (facts store) (facts left) (StandsClosed order (facts store) ids)
      (StandsClosed order (facts left) ids) (λ m n. Opens m mode (Refused error) n)
  pub refused : RefusedOpen (facts store) (facts left) error
  pub told : IsTrue (facts left).faithful → RefusalTells order (facts store).files error
  pub stops : OpenStops order (facts store) (facts left) ids
  pub loses : OpenLosesOn order (facts store) (facts left) ids

-- ---- checking

-- 0 for a consistent database, -1 for none at all, and else the number of the refusal
abbrev pub CheckTold : Result Report DbError → ℤ → Type 0
CheckTold (Ok (Good summary)) code = code ≡ pos 0
CheckTold (Ok Empty) code = code ≡ negsuc 0
CheckTold (Err error) code = code ≡ number error

-- what `recover::check` promises
pub record Checks (order : Order) (old new : Facts) (answer : Result Report DbError) : Type 0 where
  pub store : ReadsDirectory old new answer
  pub still : IsStill old new answer
  pub told : IfErr answer (λ error. TellsUnsupported error new (IsBeyondChecking order old.files))
  pub found : IfOk answer (λ report. IsTrue new.faithful → IsReport order old.files report)
  pub refused : IfErr answer (λ error. RefusesDirectory error old new
      ((IsEmpty old.files → ⊥) × IsInconsistent order old.files)
      ((IsEmpty old.files → ⊥) × PassesLimit order old.files))

abbrev pub CheckServed : Order → Facts → Facts → ℤ → Type 0
CheckServed order old new code =
    (answer : Result Report DbError) × CheckTold answer code × Checks order old new answer

-- ---- mending

-- flag 2 cuts holes, too
abbrev pub ends_in : ℕ → Ends
ends_in flags = if has_flag flags 2 then ends.Holes else ends.Zeros

-- 1 is a log, and 2 the MANIFEST
abbrev pub kind_of : FileName → ℕ
kind_of (file.Log n) = 1
kind_of (file.Manifest n) = 2
kind_of _ = 0

-- the number in a file's name
abbrev pub number_in : FileName → ℕ
number_in file.Current = 0
number_in file.Lock = 0
number_in (file.Log n) = n
number_in (file.Table n) = n
number_in (file.OldTable n) = n
number_in (file.Manifest n) = n
number_in (file.Temporary n) = n

-- what C sees of a cut
abbrev pub told_cut : Cut → CutFile
told_cut cut = record {
  kind = kind_of cut.file;
  number = number_in cut.file;
  at = length cut.front.items;
  length = cut.length;
  zeros = cut.zeros;
}

-- The cuts, as many as have room.
abbrev pub CutsTold : List Cut → List CutFile → List CutFile → Type 0
CutsTold cuts before after = after ≡ take (length before) (map told_cut cuts) ++ drop (length cuts) before

-- 0 if there is a database, and -1 if there is none
abbrev pub IsPlanCode : Option ℕ → ℤ → Type 0
IsPlanCode (Some number) code = code ≡ pos 0
IsPlanCode None code = code ≡ negsuc 0

-- 0 and all cuts, or -1 if there is no database, or the number of the refusal
abbrev pub PlanTold : Result Plan DbError → List CutFile → List CutFile → ℕ → ℤ → Type 0
PlanTold (Ok plan) before after count code =
    (count ≡ length plan.cuts.items) × CutsTold plan.cuts.items before after × IsPlanCode plan.manifest code
PlanTold (Err error) before after count code = (count ≡ 0) × (after ≡ before) × (code ≡ number error)

-- what `mending::plan_cuts` promises, which only reads
pub record Plans (name : List ℕ) (ends : Ends) (old new : Facts) (answer : Result Plan DbError) : Type 0 where
  pub reads : Reads old new
  pub found : IfOk answer (λ plan. IsTrue new.faithful → IsPlan name ends old.files plan.manifest plan.cuts.items)
  pub refused : IfErr answer (λ error. RefusesMend error old new (IsUnmendable name ends old.files)
      (IsBeyond name ends old.files))

-- What `mending::mend` promises: a process crash or a power loss in its middle leaves each file as
-- it was, or mended.
pub record Mends (name : List ℕ) (ends : Ends) (old new : Facts) (answer : Result Plan DbError) : Type 0 where
  pub mended : IfOk answer (λ plan. IsTrue new.faithful → AreMended name ends old.files new.files plan.manifest)
  pub stops : IsTrue new.faithful → LeavesOnly old new (MayMend name ends old.files)
  pub loses : IsTrue new.faithful → HaveNamesStayed old → LosesBy old new (MayMendLost name ends old.files)
  pub refused : IfErr answer (λ error. RefusesMend error old new
      ((files : Files) × MayLock old.files files × IsUnmendable name ends files)
      ((files : Files) × MayLock old.files files × IsBeyond name ends files))
  pub planned : IfOk answer (λ plan. IsTrue new.faithful → (files : Files) × MayLock old.files files
      × IsPlan name ends files plan.manifest plan.cuts.items)

abbrev pub PlanServed : List ℕ → Ends → List CutFile → List CutFile → ℕ → Facts → Facts → ℤ → Type 0
PlanServed name ends before after count old new code =
    (answer : Result Plan DbError) × PlanTold answer before after count code × Plans name ends old new answer

abbrev pub CutServed : List ℕ → Ends → List CutFile → List CutFile → ℕ → Facts → Facts → ℤ → Type 0
CutServed name ends before after count old new code =
    (answer : Result Plan DbError) × PlanTold answer before after count code × Mends name ends old new answer

-- flag 1 only plans
abbrev pub MendServed : List ℕ → ℕ → List CutFile → List CutFile → ℕ → Facts → Facts → ℤ → Type 0
MendServed name flags before after count old new code =
    MatchBool (has_flag flags 1) (PlanServed name (ends_in flags) before after count old new code)
    (CutServed name (ends_in flags) before after count old new code)
