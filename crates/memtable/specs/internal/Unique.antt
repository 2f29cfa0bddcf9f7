-- That a key has a front has one proof, as a fact beside a struct's fields must.
use Rattle.std.specs.Prelude.{ℕ, List}
use Rattle.std.proofs.Props.{props}
use Rattle.ikey.specs.declared.front.Front.{Front}
use Rattle.ikey.specs.Fronts.{IsFront}

pub IsFront-prop : (front : Front) (key : List ℕ) → IsProp (IsFront front key)
IsFront-prop front key = hlevel props
