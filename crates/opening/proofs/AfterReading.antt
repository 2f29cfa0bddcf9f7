-- What of an open's writing is synced, after what it only read.
use Rattle.std.proofs.Common.{◌≡◌, ◌<◌, ℕ, ap, sym, subst, ◌∙◌, Result, Ok, Err, IfErr, IsTrue, inl, inr, arith}
use Rattle.std.specs.FinMap.{get}
use Rattle.coding.specs.declared.error.DbError.{DbError}
use Rattle.coding.specs.declared.error.DbError.TheVariants as error
use Rattle.ikey.specs.Orders.{Order}
use Rattle.machine.specs.declared.command.Mode.{Mode}
use Rattle.recover.specs.Reading.{ReadsDirectory}
use Rattle.store.specs.Files.{Facts, Files, Synced}
use Rattle.edits.specs.Names.{name_of}
use Rattle.edits.specs.declared.names.FileName.TheVariants.{Current}
use Rattle.opening.specs.Durable.{LeavesFile, LeavesDurable}
use Rattle.opening.specs.Refusals.{IsMet, MayRefuseOpen}
use Rattle.opening.specs.Telling.{RefusalTells, Tells}
use Rattle.opening.specs.internal.Begun.{IsUnwritten}
use Rattle.opening.specs.internal.Calls.{Attempts}
use Rattle.opening.specs.internal.Opening.{RefusesOpen}
use Rattle.opening.specs.internal.Outcome.{OpenOutcome}
use Rattle.opening.specs.internal.Durable.{Spares, SparesBeside}

pub left_by : (old new : Facts) → new.files ≡ old.files → new.synced ≡ old.synced → LeavesFile old new (name_of Current)
left_by old new files synced = (ap (λ (fs : Files). get fs (name_of Current)) files, ap (λ (s : Synced). s (name_of Current)) synced)

-- nothing was written
pub unwritten_durable : {T : Type 0} (old new : Facts) (e : DbError) → (IsTrue new.faithful → new.files ≡ old.files) → (IsTrue new.faithful → new.synced ≡ old.synced) → LeavesDurable {T = T} old new (Err e)
unwritten_durable old new e files synced = record { ok = λ f. tt; err = λ f. inl (left_by old new (files f) (synced f)) }

-- what was only read before, or the lock that was taken, leaves `CURRENT`
pub behind_durable : {T U : Type 0} (old mid new : Facts) (e : DbError) → (IsTrue new.faithful → IsTrue mid.faithful) → (IsTrue mid.faithful → LeavesFile old mid (name_of Current)) → LeavesDurable {T = T} mid new (Err e) → LeavesDurable {T = U} old new (Err e)
behind_durable old mid new e back left d = record {
  ok = λ f. tt;
  err = λ f. elim (d.err f) [
    | inl still ↦ (let first = left (back f) in inl (still.0 ∙ first.0, still.1 ∙ first.1))
    | inr made ↦ inr made
  ];
}

pub behind_read : {T U : Type 0} (old mid new : Facts) (e : DbError) → (IsTrue new.faithful → IsTrue mid.faithful) → (IsTrue mid.faithful → mid.files ≡ old.files) → (IsTrue mid.faithful → mid.synced ≡ old.synced)
    → LeavesDurable {T = T} mid new (Err e) → LeavesDurable {T = U} old new (Err e)
behind_read {T} {U} old mid new e back files synced d = behind_durable {T = T} {U = U} old mid new e back (λ f. left_by old mid (files f) (synced f)) d

pub done_durable : {T U : Type 0} (old mid new : Facts) (x : T) (y : U) → LeavesDurable {T = T} mid new (Ok x) → LeavesDurable {T = U} old new (Ok y)
done_durable old mid new x y d = record { ok = d.ok; err = λ f. tt }

-- where it was only read
pub spared_same : (old new : Facts) → new.files ≡ old.files → new.synced ≡ old.synced → Spares old new
spared_same old new files synced name is = (ap (λ (fs : Files). get fs name) files, ap (λ (s : Synced). s name) synced)

pub beside_behind : (n : ℕ) (old mid new : Facts) → mid.files ≡ old.files → mid.synced ≡ old.synced → SparesBeside n mid new → SparesBeside n old new
beside_behind n old mid new files synced kept name is = let b = kept name is in (b.0 ∙ ap (λ (fs : Files). get fs name) files, b.1 ∙ ap (λ (s : Synced). s name) synced)

-- after what was only read
pub spared_behind : (old mid new : Facts) → mid.files ≡ old.files → mid.synced ≡ old.synced → Spares mid new → Spares old new
spared_behind old mid new files synced kept name is = let a = spared_same old mid files synced name is in let b = kept name is in (b.0 ∙ a.0, b.1 ∙ a.1)

-- ---- where the writing fails

pub outcome_behind : {T U V : Type 0} (old mid new : Facts) (e : DbError) {found : Result V DbError} → ReadsDirectory old mid found → mid.failures ≡ old.failures → Attempts {T = T} mid new (Err e) → OpenOutcome {T = U} old new (Err e)
outcome_behind old mid new e reads stood a = record {
  failures = (let rise = a.failures in omega (arith, rise, stood));
  denials = (let same = a.denials in let before = reads.denials in omega (arith, same, before));
  io = λ is. (let same : e ≡ error.Io = cc in let rise = a.io (ap Err same) in omega (arith, rise, stood));
  locked = λ is. absurd (let same : e ≡ error.Locked = cc in elim a.errors [ inl memory ↦ (let bad : error.Locked ≡ error.OutOfMemory = sym same ∙ memory in cc) | inr io ↦ (let bad : error.Locked ≡ error.Io = sym same ∙ io in cc) ]);
  undenied = λ other. a.denials ∙ reads.denials;
  memory = λ is. inl (let same : e ≡ error.OutOfMemory = cc in a.unfailed (λ io. (let bad : e ≡ error.Io = cc in let both : error.OutOfMemory ≡ error.Io = sym same ∙ bad in cc)) ∙ stood);
  allowed = elim a.errors [ inl memory ↦ subst MayRefuseOpen (sym memory) tt | inr io ↦ subst MayRefuseOpen (sym io) tt ];
}

pub tells_behind : {T U : Type 0} (order : Order) (files : Files) (mid new : Facts) (e : DbError) (result : Result U DbError) → result ≡ Err e → Attempts {T = T} mid new (Err e) → Tells order files result
tells_behind {T} {U} order files mid new e result is a = subst (λ (r : Result U DbError). Tells order files r) (sym is)
    (elim a.errors [ inl memory ↦ subst (RefusalTells order files) (sym memory) tt | inr io ↦ subst (RefusalTells order files) (sym io) tt ])

-- ---- a write that failed, after what was only read

pub met_behind : {T U : Type 0} (mid new : Facts) (e : DbError) (result : Result U DbError) → result ≡ Err e → Attempts {T = T} mid new (Err e) → IfErr result IsMet
met_behind mid new e result is a =
    subst (λ (r : Result _ DbError). IfErr r IsMet) (sym is) (elim a.errors [ inl memory ↦ subst IsMet (sym memory) tt | inr io ↦ subst IsMet (sym io) tt ])

pub stood_behind : {T U : Type 0} (old mid new : Facts) (e : DbError) (result : Result U DbError) → result ≡ Err e → mid.failures ≡ old.failures → Attempts {T = T} mid new (Err e)
    → result ≡ Err error.OutOfMemory → new.failures ≡ old.failures
stood_behind old mid new e result is stood a memory =
    let both : Err e ≡ Err error.OutOfMemory = sym is ∙ memory in
    let same : e ≡ error.OutOfMemory = cc in
    a.unfailed (λ io. (let bad : e ≡ error.Io = cc in let other : error.OutOfMemory ≡ error.Io = sym same ∙ bad in cc)) ∙ stood

pub refused_behind : {T U : Type 0} (order : Order) (mode : Mode) (old mid new : Facts) (e : DbError) (result : Result U DbError) → result ≡ Err e → mid.failures ≡ old.failures → Attempts {T = T} mid new (Err e)
    → IfErr result (λ error. RefusesOpen order mode error old new)
refused_behind order mode old mid new e result is stood a =
    subst (λ (r : Result _ DbError). IfErr r (λ x. RefusesOpen order mode x old new)) (sym is)
    (elim a.errors [
      | inl memory ↦ subst (λ (x : DbError). RefusesOpen order mode x old new) (sym memory) tt
      | inr io ↦ subst (λ (x : DbError). RefusesOpen order mode x old new) (sym io) (let rise = a.io (ap Err io) in omega (arith, rise, stood))
    ])

pub unwritten_behind : {T U : Type 0} (old mid new : Facts) (e : DbError) (result : Result U DbError) → result ≡ Err e → Attempts {T = T} mid new (Err e) → IfErr result (λ error. IsUnwritten error old new)
unwritten_behind old mid new e result is a = subst (λ (r : Result _ DbError). IfErr r (λ x. IsUnwritten x old new)) (sym is) (inr a.errors)
