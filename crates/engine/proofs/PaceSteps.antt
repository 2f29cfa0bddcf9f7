-- Pieces of work one after the other.
use Rattle.std.proofs.Common.{◌≡◌, ◌⊎◌, ◌≤◌, ◌<◌, ◌*◌, ℕ, length, Option, Some, None, MatchOption, inl, inr, refl, sym, ap, ◌∙◌, arith}
use Rattle.std.proofs.lemmas.Bool.{cases_lt}
use Rattle.coding.specs.declared.error.DbError.{DbError}
use Rattle.coding.specs.declared.error.DbError.TheVariants as error
use Rattle.machine.specs.declared.command.Answer.TheVariants.{Worked, Idle, Refused}
use Rattle.machine.specs.Causes.{not_serving, status_of}
use Rattle.machine.specs.Machine.{Machine}
use Rattle.machine.specs.Serving.{◌≈◌}
use Rattle.machine.specs.Upkeep.{Draws, UpkeepRefused, Works}
use Rattle.versions.specs.Levels.{tables_at}
use Rattle.engine.specs.OpenDb.{OpenDb}
use Rattle.engine.specs.OptionValues.{OptionValues}
use Rattle.engine.specs.Pace.{HasKeptUp, OnlyDraws, OnlyWorks}
use Rattle.engine.specs.Working.{HasNoWork}

pub draws_none : (m : Machine) → OnlyDraws m m
draws_none m = ((omega arith, refl), refl)

pub works_then : (m n o : Machine) → OnlyWorks m n → OnlyWorks n o → OnlyWorks m o
works_then m n o first second = (
  omega (arith, first.0, second.0),
  second.1 ∙ (λ i. record (first.1 i) { numbers = o.numbers; broken = o.broken; failures = o.failures; denials = o.denials }),
)

pub draws_then : (m n o : Machine) → OnlyDraws m n → OnlyDraws n o → OnlyDraws m o
draws_then m n o first second = (works_then m n o first.0 second.0, second.1 ∙ first.1)

draws_only : (m n : Machine) (most : ℕ) → Draws m most n → OnlyDraws m n
draws_only m n most h =
    let whole = ap (λ (x : Machine). x.broken) h.1 in
    ((h.0.0, h.1 ∙ (λ i. record m { numbers = n.numbers; broken = sym whole i; failures = n.failures; denials = n.denials })), whole)

same_only : (m n : Machine) → n ≈ m → OnlyWorks m n
same_only m n e =
    let numbers = ap (λ (x : Machine). x.numbers) e in
    (omega (arith, numbers), e ∙ (λ i. record m { numbers = sym numbers i; broken = sym (ap (λ (x : Machine). x.broken) e) i; failures = n.failures; denials = n.denials }))

refused_only : (m n : Machine) (most : ℕ) (e : DbError) → UpkeepRefused m most e n → OnlyWorks m n
refused_only m n most error.OutOfMemory h = (draws_only m n most h).0
refused_only m n most error.Io h = (h.1.0, h.2)
refused_only m n most error.NumbersSpent h = (draws_only m n most h.1).0
refused_only m n most (error.Corrupt file what) h = (draws_only m n most h.1).0
refused_only m n most (error.Unsupported limit) h = (draws_only m n most h.1).0
refused_only m n most _ h = absurd h

served : (cause : Option DbError) (P : Type 0) (Q : DbError → Type 0) → ((e : DbError) → Q e → ⊥) → MatchOption cause P Q → P
served None P Q never h = h
served (Some e) P Q never h = absurd (never e h)

either : (cause : Option DbError) (P R : Type 0) (Q : DbError → Type 0) → (P → R) → ((e : DbError) → Q e → R) → MatchOption cause P Q → R
either None P R Q f g h = f h
either (Some e) P R Q f g h = g e h

pub worked_only : (m n : Machine) (budget : ℕ) → Works m budget Worked n → OnlyDraws m n
worked_only m n budget h = draws_only m n _ (served (not_serving (status_of m)) _ _ (λ e q. (let same : Worked ≡ Refused e = q.0 in (let never : ⊥ = (cc) in never))) h.1)

pub idle_only : (m n : Machine) (budget : ℕ) → Works m budget Idle n → OnlyDraws m n
idle_only m n budget h = draws_only m n _ (served (not_serving (status_of m)) _ _ (λ e q. (let same : Idle ≡ Refused e = q.0 in (let never : ⊥ = (cc) in never))) h.1)

pub refusal_only : (m n : Machine) (budget : ℕ) (e : DbError) → Works m budget (Refused e) n → OnlyWorks m n
refusal_only m n budget e h = either (not_serving (status_of m)) _ (OnlyWorks m n) _ (refused_only m n _ e) (λ c q. same_only m n q.1) h.1

-- where there is no work it keeps up
pub rests_at_pace : {K : Type 0} {g : _} (options : OptionValues) (db : OpenDb K g) → HasNoWork options db → HasKeptUp options db
rests_at_pace options db rests = record {
  memory = rests.ease.small;
  tables = low (cases_lt (length (tables_at 0 db.tables)) options.level0_files);
}
  where
    low : (length (tables_at 0 db.tables) < options.level0_files) ⊎ (options.level0_files ≤ length (tables_at 0 db.tables)) → length (tables_at 0 db.tables) ≤ 3 * options.level0_files
    low (inl few) = omega (arith, few)
    low (inr wanted) = absurd (rests.unwanted 0 (omega arith, wanted))
