-- What `mend` does over a directory, and what it prints.
use Rattle.std.specs.Prelude.{◌≡◌, ◌++◌, ◌-◌, ℕ, List, [], ◌∷◌, codes, length, Option, Result, Ok, Err}
use Rattle.std.specs.Prelude.{IfOk, IfErr, IsTrue}
use Rattle.std.specs.Fmt.{decimal}
use Rattle.std.specs.Io.KnownBytes.{Appends}
use Rattle.coding.specs.declared.error.DbError.{DbError}
use Rattle.edits.specs.Names.{name_of}
use Rattle.mending.specs.Calls.{RefusesMend}
use Rattle.mending.specs.Mending.{AreMended}
use Rattle.mending.specs.Plans.{IsBeyond, IsPlan, IsUnmendable}
use Rattle.mending.specs.declared.ends.Ends.{Ends}
use Rattle.mending.specs.declared.finding.Cut.{Cut}
use Rattle.mending.specs.declared.planning.Plan.{Plan}
use Rattle.store.specs.Files.{Facts, Files, MayLock}
use Rattle.tool.specs.Reports.{check_text_of, texts}

-- ---- lines

-- how many bytes go in front of the zeros
abbrev pub left_out : Cut → ℕ
left_out cut = cut.length - length cut.front.items - cut.zeros

--  at 32 zeros 40 broken 12
abbrev pub cut_words_of : Cut → List ℕ
cut_words_of cut =
    codes " at " ++ decimal (length cut.front.items) ++ codes " zeros " ++ decimal cut.zeros
    ++ codes " broken " ++ decimal (left_out cut)

-- 000005.log at 32 zeros 40 broken 12
abbrev pub cut_line_of : Cut → List ℕ
cut_line_of cut = (name_of cut.file ++ cut_words_of cut) ++ 10 ∷ []

-- a line for each file that is cut
abbrev pub plan_text_of : List Cut → List ℕ
plan_text_of [] = codes "nothing to mend\n"
plan_text_of (cut ∷ cuts) = texts cut_line_of (cut ∷ cuts)

-- A plan is printed, or the refusal.
abbrev pub PrintsPlan : Result Plan DbError → Option (List ℕ) → Option (List ℕ) → ℕ → Type 0
PrintsPlan (Ok plan) before after status = Appends before after (plan_text_of plan.cuts.items) × (status ≡ 0)
PrintsPlan (Err error) before after status = Appends before after (check_text_of (Err error)) × (status ≡ 1)

-- ---- the whole

-- It is planned what to cut.
pub record IsPlanned (name : List ℕ) (ends : Ends) (old new : Facts) (answer : Result Plan DbError) : Type 0 where
  pub planned : IfOk answer (λ plan. IsTrue new.faithful
      → IsPlan name ends old.files plan.manifest plan.cuts.items)
  pub refused : IfErr answer (λ error. RefusesMend error old new
      (IsUnmendable name ends old.files) (IsBeyond name ends old.files))

-- The files are mended, by the plan for those that were found.
pub record IsMade (name : List ℕ) (ends : Ends) (old new : Facts) (answer : Result Plan DbError) : Type 0 where
  pub mended : IfOk answer (λ plan. IsTrue new.faithful → AreMended name ends old.files new.files plan.manifest)
  pub planned : IfOk answer (λ plan. IsTrue new.faithful → (files : Files) × MayLock old.files files
      × IsPlan name ends files plan.manifest plan.cuts.items)
  pub refused : IfErr answer (λ error. RefusesMend error old new
      ((files : Files) × MayLock old.files files × IsUnmendable name ends files)
      ((files : Files) × MayLock old.files files × IsBeyond name ends files))

-- It is planned what to cut, and that is printed.
abbrev pub PlansCuts : List ℕ → Ends → Facts → Facts → Option (List ℕ) → Option (List ℕ) → ℕ → Type 0
PlansCuts name ends old new before after status =
    (answer : Result Plan DbError) × IsPlanned name ends old new answer × PrintsPlan answer before after status

-- The files are mended, and what was cut is printed.
abbrev pub MakesCuts : List ℕ → Ends → Facts → Facts → Option (List ℕ) → Option (List ℕ) → ℕ → Type 0
MakesCuts name ends old new before after status =
    (answer : Result Plan DbError) × IsMade name ends old new answer × PrintsPlan answer before after status
