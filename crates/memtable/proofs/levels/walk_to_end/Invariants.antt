use Rattle.std.proofs.Common.{◌≡◌, ◌+◌, ℕ, List, length}
use Rattle.memtable.specs.Chains.{IsChain, last_or}
use Rattle.memtable.proofs.levels.walk_to_end.Given as goal

-- what is left of the chain ends where the whole does
abbrev pub invariant-loop : goal.invariant-loop
invariant-loop l = (rest : List ℕ) → IsChain l.links l.from rest
    → (left : List ℕ) × IsChain l.links l.at left × (last_or l.at left ≡ last_or l.from rest) × (l.counter + length left ≡ length rest)
