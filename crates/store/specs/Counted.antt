-- How often a call failed that writes, with one more that failed.
use Rattle.std.specs.Prelude.{◌+◌, ℕ}
use Rattle.store.specs.declared.counters.Failed.{Failed}
use Rattle.store.specs.declared.counters.Failed.TheVariants.{Write, Other}

abbrev pub with_failed : Failed → ℕ → ℕ
with_failed Write n = n + 1
with_failed Other n = n
