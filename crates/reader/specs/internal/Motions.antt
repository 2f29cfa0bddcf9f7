-- Where a call moves an iterator.
use Rattle.reader.specs.declared.movement.Movement.{Movement}
use Rattle.reader.specs.declared.movement.Movement.TheVariants as movement
use Rattle.machine.specs.Causes.{Motion, ToFirst, ToLast, ToKey, ToNext, ToPrev}

abbrev pub motion_of : Movement → Motion
motion_of movement.First = ToFirst
motion_of movement.Last = ToLast
motion_of (movement.Seek key) = ToKey key.now
motion_of movement.Next = ToNext
motion_of movement.Prev = ToPrev
