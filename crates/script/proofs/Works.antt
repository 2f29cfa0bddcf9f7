-- A compaction, and work behind it.
use Rattle.std.proofs.Common.{◌≡◌, ℕ, suc, ◌+◌, List, [], ◌∷◌, ◌++◌, replicate, refl, ap, ◌∙◌, subst, inl, inr, arith}
use Rattle.std.specs.Prelude.{Option, Some, None}
use Rattle.std.proofs.lemmas.List.{replicate-append-replicate}
use Rattle.store.specs.Files.{Facts}
use Rattle.ikey.specs.Orders.{Order}
use Rattle.machine.specs.declared.command.Mode.TheVariants.{Existing}
use Rattle.machine.specs.declared.command.Op.{Op}
use Rattle.machine.specs.declared.command.Op.TheVariants.{Open, Work, Close}
use Rattle.machine.specs.declared.command.Answer.{Answer}
use Rattle.machine.specs.declared.command.Answer.TheVariants.{Done, Worked, Idle, Refused}
use Rattle.engine.specs.declared.session.Session.{Session}
use Rattle.engine.specs.Outcomes.{IsOpenAnswer, IsLevelAnswer, IsAllAnswer, IsWorkAnswer, IsAnswerTo}
use Rattle.engine.specs.Applied.{Applied}
use Rattle.script.specs.Commands.{GoesOn, IsRefusal}
use Rattle.script.specs.Script.{line_of}
use Rattle.script.specs.Compacting.{AreWorks, AreCompaction, RunsCompaction, StopsCompaction, compaction_of}
use Rattle.script.specs.Drive.{AppendsFront}
use Rattle.script.proofs.Written.{no_more}
use Rattle.script.proofs.Going.{goes_one, goes_then}

one_more : {A : Type 0} (n : ℕ) (x : A) → replicate n x ++ x ∷ [] ≡ replicate (suc n) x
one_more n x = let e : n + 1 ≡ suc n = omega arith in replicate-append-replicate n 1 x ∙ ap (λ (k : ℕ). replicate k x) e

is_worked : (answer : Answer) → IsWorkAnswer answer → (IsRefusal answer → ⊥) → (answer ≡ Idle → ⊥) → answer ≡ Worked
is_worked Worked may well some = refl
is_worked Idle may well some = absurd (some refl)
is_worked (Refused e) may well some = absurd (well tt)
is_worked _ may well some = absurd may

-- Each piece so far was answered Worked.
abbrev pub HasWorked : {S K : Type 0} {g : _} → Order → (S → Facts) → Session S K g → Session S K g → ℕ → Type 0
HasWorked order facts old now pieces = GoesOn order facts old now (replicate pieces (Work 4096)) (replicate pieces Worked)

-- one piece more, whatever its answer
one_piece : {S K : Type 0} {g : _} (order : Order) (facts : S → Facts) (old now new : Session S K g) (pieces : ℕ) (answer : Answer)
    → HasWorked order facts old now pieces → Applied order facts (Work 4096) now new answer
    → GoesOn order facts old new (replicate (suc pieces) (Work 4096)) (replicate pieces Worked ++ answer ∷ [])
one_piece order facts old now new pieces answer worked applied =
    subst (λ (commands : List Op). GoesOn order facts old new commands (replicate pieces Worked ++ answer ∷ [])) (one_more pieces (Work 4096))
    (goes_then order facts old now new (replicate pieces (Work 4096)) (Work 4096 ∷ []) (replicate pieces Worked) (answer ∷ []) worked (goes_one order facts now new (Work 4096) answer applied))

pub works_on : {S K : Type 0} {g : _} (order : Order) (facts : S → Facts) (old now new : Session S K g) (pieces : ℕ) (answer : Answer)
    → HasWorked order facts old now pieces → Applied order facts (Work 4096) now new answer → (IsRefusal answer → ⊥) → (answer ≡ Idle → ⊥)
    → HasWorked order facts old new (pieces + 1)
works_on order facts old now new pieces answer worked applied well some =
    let e : suc pieces ≡ pieces + 1 = omega arith in
    let is = is_worked answer applied.outcome.allowed well some in
    let all = subst (λ (a : Answer). GoesOn order facts old new (replicate (suc pieces) (Work 4096)) (replicate pieces Worked ++ a ∷ [])) is (one_piece order facts old now new pieces answer worked applied) in
    subst (λ (n : ℕ). HasWorked order facts old new n) e
    (subst (λ (answers : List Answer). GoesOn order facts old new (replicate (suc pieces) (Work 4096)) answers) (one_more pieces Worked) all)

-- work that came to an end, or to none
abbrev pub WorksTo : {S K : Type 0} {g : _} → Order → (S → Facts) → Session S K g → Session S K g → Answer → Type 0
WorksTo order facts old new ended = (commands : List Op) × (answers : List Answer) × AreWorks commands answers ended × GoesOn order facts old new commands answers

pub work_refused : {S K : Type 0} {g : _} (order : Order) (facts : S → Facts) (old now new : Session S K g) (pieces : ℕ) (answer : Answer)
    → HasWorked order facts old now pieces → Applied order facts (Work 4096) now new answer → IsRefusal answer → WorksTo order facts old new answer
work_refused order facts old now new pieces answer worked applied refused =
    (replicate (suc pieces) (Work 4096), replicate pieces Worked ++ answer ∷ [], as_works answer refused, one_piece order facts old now new pieces answer worked applied)
  where
    as_works : (a : Answer) → IsRefusal a → AreWorks (replicate (suc pieces) (Work 4096)) (replicate pieces Worked ++ a ∷ []) a
    as_works (Refused e) h = (tt, pieces, refl, refl)
    as_works _ h = absurd h

pub work_ends : {S K : Type 0} {g : _} (order : Order) (facts : S → Facts) (old now new : Session S K g) (pieces : ℕ) (answer : Answer)
    → HasWorked order facts old now pieces → Applied order facts (Work 4096) now new answer → answer ≡ Idle → WorksTo order facts old new Done
work_ends order facts old now new pieces answer worked applied idle = (
  replicate (suc pieces) (Work 4096),
  replicate pieces Worked ++ Idle ∷ [],
  (pieces, refl, refl),
  subst (λ (a : Answer). GoesOn order facts old new (replicate (suc pieces) (Work 4096)) (replicate pieces Worked ++ a ∷ [])) idle (one_piece order facts old now new pieces answer worked applied),
)

pub work_without_end : {S K : Type 0} {g : _} (order : Order) (facts : S → Facts) (old now : Session S K g) (pieces : ℕ) → HasWorked order facts old now pieces → WorksTo order facts old now Worked
work_without_end order facts old now pieces worked = (replicate pieces (Work 4096), replicate pieces Worked, (pieces, refl, refl), worked)

-- ---- the whole

pub open_done : (answer : Answer) → IsOpenAnswer answer → (IsRefusal answer → ⊥) → answer ≡ Done
open_done Done may well = refl
open_done (Refused e) may well = absurd (well tt)
open_done _ may well = absurd may

level_done : (answer : Answer) → IsLevelAnswer answer → (IsRefusal answer → ⊥) → answer ≡ Done
level_done Done may well = refl
level_done (Refused e) may well = absurd (well tt)
level_done _ may well = absurd may

all_done : (answer : Answer) → IsAllAnswer answer → (IsRefusal answer → ⊥) → answer ≡ Done
all_done Done may well = refl
all_done (Refused e) may well = absurd (well tt)
all_done _ may well = absurd may

compaction_done : (level : Option ℕ) (answer : Answer) → IsAnswerTo (compaction_of level) answer → (IsRefusal answer → ⊥) → answer ≡ Done
compaction_done (Some l) answer may well = level_done answer may well
compaction_done None answer may well = all_done answer may well

abbrev pub CompactsTo : {S K : Type 0} {g : _} → Order → (S → Facts) → Option ℕ → Session S K g → Session S K g → Answer → Type 0
CompactsTo order facts level old new ended = (commands : List Op) × (answers : List Answer) × AreCompaction level commands answers ended × GoesOn order facts old new commands answers

pub open_refused : {S K : Type 0} {g : _} (order : Order) (facts : S → Facts) (level : Option ℕ) (old new : Session S K g) (opened : Answer)
    → Applied order facts (Open Existing) old new opened → IsRefusal opened → CompactsTo order facts level old new opened
open_refused order facts level old new opened applied refused =
    (Open Existing ∷ [], opened ∷ [], inl (refused, refl, refl), goes_one order facts old new (Open Existing) opened applied)

-- the open was done, and the compaction answered
both : {S K : Type 0} {g : _} (order : Order) (facts : S → Facts) (level : Option ℕ) (old now new : Session S K g) (opened compacted : Answer)
    → Applied order facts (Open Existing) old now opened → (IsRefusal opened → ⊥) → Applied order facts (compaction_of level) now new compacted
    → GoesOn order facts old new (Open Existing ∷ compaction_of level ∷ []) (Done ∷ compacted ∷ [])
both order facts level old now new opened compacted first well second =
    subst (λ (a : Answer). GoesOn order facts old new (Open Existing ∷ compaction_of level ∷ []) (a ∷ compacted ∷ [])) (open_done opened first.outcome.allowed well)
    (goes_then order facts old now new (Open Existing ∷ []) (compaction_of level ∷ []) (opened ∷ []) (compacted ∷ [])
    (goes_one order facts old now (Open Existing) opened first) (goes_one order facts now new (compaction_of level) compacted second))

pub compaction_refused : {S K : Type 0} {g : _} (order : Order) (facts : S → Facts) (level : Option ℕ) (old now new : Session S K g) (opened compacted : Answer)
    → Applied order facts (Open Existing) old now opened → (IsRefusal opened → ⊥) → Applied order facts (compaction_of level) now new compacted → IsRefusal compacted
    → CompactsTo order facts level old new compacted
compaction_refused order facts level old now new opened compacted first well second refused =
    (Open Existing ∷ compaction_of level ∷ [], Done ∷ compacted ∷ [], inr (inl (refused, refl, refl)), both order facts level old now new opened compacted first well second)

pub compaction_works : {S K : Type 0} {g : _} (order : Order) (facts : S → Facts) (level : Option ℕ) (old now next new : Session S K g) (opened compacted ended : Answer)
    → Applied order facts (Open Existing) old now opened → (IsRefusal opened → ⊥) → Applied order facts (compaction_of level) now next compacted → (IsRefusal compacted → ⊥)
    → WorksTo order facts next new ended → CompactsTo order facts level old new ended
compaction_works order facts level old now next new opened compacted ended first well second good works =
    let done = subst (λ (a : Answer). GoesOn order facts old next (Open Existing ∷ compaction_of level ∷ []) (Done ∷ a ∷ [])) (compaction_done level compacted second.outcome.allowed good)
    (both order facts level old now next opened compacted first well second) in (
      Open Existing ∷ compaction_of level ∷ works.0,
      Done ∷ Done ∷ works.1,
      inr (inr (works.0, works.1, refl, refl, works.2)),
      goes_then order facts old next new (Open Existing ∷ compaction_of level ∷ []) works.0 (Done ∷ Done ∷ []) works.1 done works.3,
    )

-- ---- after the close

pub runs_compaction : {S K : Type 0} {g : _} (order : Order) (facts : S → Facts) (level : Option ℕ) (old between new : Session S K g) (ended closing : Answer)
    → CompactsTo order facts level old between ended → Applied order facts Close between new closing → RunsCompaction order facts level old new ended
runs_compaction order facts level old between new ended closing went closed = record {
  commands = went.0;
  answers = went.1;
  between = between;
  closing = closing;
  shape = went.2;
  ran = went.3;
  closed = closed;
}

-- nothing of the line was written
pub stops_unwritten : {S K : Type 0} {g : _} (order : Order) (facts : S → Facts) (level : Option ℕ) (old new : Session S K g) (contents : Option (List ℕ)) (ended : Answer)
    → RunsCompaction order facts level old new ended → StopsCompaction order facts level old new contents contents
stops_unwritten order facts level old new contents ended runs = record { ended = ended; compaction = runs; written = no_more contents (line_of ended ++ 10 ∷ []) }

-- some of the line was written
pub stops_written : {S K : Type 0} {g : _} (order : Order) (facts : S → Facts) (level : Option ℕ) (old new : Session S K g) (before after : Option (List ℕ)) (ended : Answer) (text : List ℕ)
    → RunsCompaction order facts level old new ended → text ≡ line_of ended ++ 10 ∷ [] → AppendsFront before after text → StopsCompaction order facts level old new before after
stops_written order facts level old new before after ended text runs is front = record { ended = ended; compaction = runs; written = subst (AppendsFront before after) is front }
