use Rattle.std.proofs.Common.{length, ◌-◌, ◌≤◌, drop}
use Rattle.texts.proofs.Spelled.{LeadsOn}
use Rattle.texts.proofs.reading.read_text.Given as goal

-- the bytes so far and the text that is left are all
abbrev pub invariant-loop-at : goal.invariant-loop-at
invariant-loop-at l = record {
  within : l.at ≤ length l.text;
  leads : LeadsOn l.text (drop l.at l.text) l.bytes.items;
}

abbrev pub decreases-loop-at : goal.decreases-loop-at
decreases-loop-at l = length l.text - l.at
