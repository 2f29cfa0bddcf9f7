use Rattle.std.proofs.Common.{◌≡◌, ◌++◌, drop, map, take}
use Rattle.c_calls.specs.Folders.{told_cut}
use Rattle.c_calls.proofs.folders.tell_cuts.Given as goal

-- so many cuts were told
abbrev pub invariant-loop-place : goal.invariant-loop-place
invariant-loop-place l = l.cuts ≡ take l.place (map told_cut l.found) ++ drop l.place l.fn.cuts
