-- Commands that a session is given one after the other.
use Rattle.std.proofs.Common.{List, [], ◌∷◌, ◌++◌, refl}
use Rattle.store.specs.Files.{Facts}
use Rattle.ikey.specs.Orders.{Order}
use Rattle.machine.specs.declared.command.Op.{Op}
use Rattle.machine.specs.declared.command.Answer.{Answer}
use Rattle.engine.specs.declared.session.Session.{Session}
use Rattle.engine.specs.Applied.{Applied}
use Rattle.script.specs.Commands.{GoesOn}
use Rattle.script.proofs.Runs.{follows_then, answers_then, applied_then}

pub goes_none : {S K : Type 0} {g : _} (order : Order) (facts : S → Facts) (session : Session S K g) → GoesOn order facts session session [] []
goes_none order facts session = record { ran = record { faithful = λ h. h; moved = λ h m stands. (m, refl, stands) }; allowed = tt; each = refl }

pub goes_one : {S K : Type 0} {g : _} (order : Order) (facts : S → Facts) (old new : Session S K g) (command : Op) (answer : Answer)
    → Applied order facts command old new answer → GoesOn order facts old new (command ∷ []) (answer ∷ [])
goes_one order facts old new command answer applied = record {
  ran = record { faithful = applied.step.faithful; moved = λ h m stands. let one = applied.step.moved h m stands in (one.0, (one.0, one.1, refl), one.2) };
  allowed = (applied.outcome.allowed, tt);
  each = (new, applied, refl);
}

pub goes_then : {S K : Type 0} {g : _} (order : Order) (facts : S → Facts) (a b c : Session S K g) (cs ds : List Op) (xs ys : List Answer)
    → GoesOn order facts a b cs xs → GoesOn order facts b c ds ys → GoesOn order facts a c (cs ++ ds) (xs ++ ys)
goes_then order facts a b c cs ds xs ys one two = record {
  ran = follows_then order facts a b c cs ds xs ys one.ran two.ran;
  allowed = answers_then cs ds xs ys one.allowed two.allowed;
  each = applied_then order facts a b c cs ds xs ys one.each two.each;
}
