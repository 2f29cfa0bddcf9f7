use Rattle.std.proofs.Common.{◌≡◌, length, take, sym, subst, inl, inr, arith, List, ℕ, ap, ◌∙◌}
use Rattle.std.proofs.lemmas.Bool.{cases_lt}
use Rattle.coding.specs.declared.error.Damage.TheVariants.{Checksum, Kind}
use Rattle.logfile.specs.Faults.{HasFaultAt}
use Rattle.logfile.specs.Views.{view}
use Rattle.logfile.proofs.LeadingOn.{take_min}
use Rattle.logfile.proofs.Cutting.{fragment_fine}
use Rattle.logfile.proofs.Headers.{data_of-made}
use Rattle.logfile.proofs.mending.is_broken.Goals as goal

pub returns-in-Err-Checksum : goal.returns-in-Err-Checksum
returns-in-Err-Checksum c =
    let rest = c.args.rest.now in
    let front : take c.min.result rest ≡ take c.args.room rest = take_min rest c.args.room c.min.result (cases_lt (length rest) c.args.room) (λ h. omega arith) (λ h. omega arith) in
    let cause = rw c.in-Err-Checksum.field-0-is at c.in-Err-Checksum.ensures.cause in
    inl (subst (λ (v : List ℕ). HasFaultAt Checksum c.args.room v) front cause)

pub returns-in-Err-Kind : goal.returns-in-Err-Kind
returns-in-Err-Kind c =
    let rest = c.args.rest.now in
    let front : take c.min.result rest ≡ take c.args.room rest = take_min rest c.args.room c.min.result (cases_lt (length rest) c.args.room) (λ h. omega arith) (λ h. omega arith) in
    let cause = rw c.in-Err-Kind.field-0-is at c.in-Err-Kind.ensures.cause in
    inr (subst (λ (v : List ℕ). HasFaultAt Kind c.args.room v) front cause)

pub returns-in-Ok-Some : goal.returns-in-Ok-Some
returns-in-Ok-Some c =
    let rest = c.args.rest.now in
    let front : take c.min.result rest ≡ take c.args.room rest = take_min rest c.args.room c.min.result (cases_lt (length rest) c.args.room) (λ h. omega arith) (λ h. omega arith) in
    let found = rw c.in-Ok-Some.field-0-is at c.in-Ok-Some.ensures.found in
    let f = c.in-Ok-Some.field-0-0.0 in
    fragment_fine c.args.room (view f) c.in-Ok-Some.field-0-0.1.now (take c.args.room rest) c.requires.block
    (omega (arith, found.1, ap length (data_of-made f.kind f.«data».now))) (sym front ∙ found.0)
