use Rattle.std.proofs.Common.{◌≡◌, ◌≤◌, ◌++◌, ◌-◌, max, length, replicate, string_bytes}
use Rattle.std.specs.Fmt.{decimal}
use Rattle.edits.proofs.names.push_number.Given as goal

-- the zeros so far
abbrev pub invariant-loop : goal.invariant-loop
invariant-loop l = record {
  zeros : string_bytes l.name ≡ string_bytes l.fn.name ++ replicate (l.counter - length (decimal l.fn.n)) 48;
  bound : l.counter ≤ max 6 (length (decimal l.fn.n));
  low : length (decimal l.fn.n) ≤ l.counter;
}
