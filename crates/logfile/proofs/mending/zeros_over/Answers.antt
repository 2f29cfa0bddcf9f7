use Rattle.std.proofs.Common.{◌≡◌, take, subst, arith, List, ℕ}
use Rattle.logfile.specs.Mending.{IsPiece}
use Rattle.logfile.proofs.LeadingOn.{zeros_piece}
use Rattle.logfile.proofs.mending.zeros_over.Goals as goal

pub returns : goal.returns
returns c =
    let front : c.split_at.result.0.now ≡ take c.args.room c.args.rest.now = c.split_at.ensures.front in
    (c.requires.room, omega arith, subst (λ (v : List ℕ). IsPiece c.args.room v) front (zeros_piece c.args.room c.split_at.result.0.now c.requires.small (omega (arith, c.split_at.ensures.front_len)) c.if-not-are_zeros.ensures))
