-- Where a motion goes.
use Rattle.std.specs.Prelude.{Bool, true, false}
use Rattle.machine.specs.Causes.{ToFirst, ToLast, ToKey, ToNext, ToPrev}
use Rattle.machine.specs.Causes.{Motion as Goal}
use Rattle.c_calls.specs.declared.moves.Motion.{Motion}
use Rattle.c_calls.specs.declared.moves.Motion.TheVariants.{First, Last, Seek, Next, Prev}

abbrev pub going : Motion → Goal
going First = ToFirst
going Last = ToLast
going (Seek key) = ToKey key.now
going Next = ToNext
going Prev = ToPrev

-- from a pair on to the next one, or back to the one before
abbrev pub way_of : Bool → Goal
way_of true = ToPrev
way_of false = ToNext
