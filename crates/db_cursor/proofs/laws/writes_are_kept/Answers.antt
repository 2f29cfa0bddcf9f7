use Rattle.std.proofs.Common.{arith}
use Rattle.db_cursor.proofs.laws.writes_are_kept.Goals as goal

pub returns : goal.returns
returns g c = λ sequence old new more below written higher tables sound. record {
  memory = λ place le. c.changes_are_kept.ensures.written place old.memory new.memory more old.memory.last (omega (arith, le, below)) higher written;
  files = tables;
  sound = sound;
}
