use Rattle.std.proofs.Common.{◌≡◌, ◌+◌, length, take, refl, subst, true, arith, List, ℕ}
use Rattle.std.proofs.lemmas.Bool.{cases_lt}
use Rattle.logfile.specs.Log.{IsEnding}
use Rattle.logfile.specs.Faults.{HasFaultAt}
use Rattle.logfile.proofs.LeadingOn.{step_piece, take_min}
use Rattle.logfile.proofs.Cutting.{no_piece_fault, no_piece_ending}
use Rattle.logfile.proofs.mending.step_over.Goals as goal

pub returns-in-Ok-Some : goal.returns-in-Ok-Some
returns-in-Ok-Some c =
    let f = c.in-Ok-Some.fragment in
    let found = rw c.in-Ok-Some.field-0-is at c.in-Ok-Some.ensures.found in
    let both = step_piece c.args.room c.min.result (7 + length f.«data».now) f.kind f.«data».now c.args.rest.now c.in-Ok-Some.field-0-0-1.now found.0 found.1 refl in
    (omega arith, both.0, both.1)

pub returns-in-Ok-None : goal.returns-in-Ok-None
returns-in-Ok-None c =
    let rest = c.args.rest.now in
    let room = c.args.room in
    let front : take c.min.result rest ≡ take room rest = take_min rest room c.min.result (cases_lt (length rest) room) (λ h. omega arith) (λ h. omega arith) in
    let found = rw c.in-Ok-None.field-0-is at c.in-Ok-None.ensures.found in
    no_piece_ending room rest c.requires.block (omega arith) (subst (λ (v : List ℕ). IsEnding true room v) front found)

pub returns-in-Err : goal.returns-in-Err
returns-in-Err c =
    let rest = c.args.rest.now in
    let room = c.args.room in
    let front : take c.min.result rest ≡ take room rest = take_min rest room c.min.result (cases_lt (length rest) room) (λ h. omega arith) (λ h. omega arith) in
    no_piece_fault c.in-Err.field-0 room rest c.requires.block (omega arith) (subst (λ (v : List ℕ). HasFaultAt c.in-Err.field-0 room v) front c.in-Err.ensures.cause)
