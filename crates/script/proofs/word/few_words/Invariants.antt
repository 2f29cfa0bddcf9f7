use Rattle.std.proofs.Common.{◌≡◌, ◌≤◌, take, length}
use Rattle.script.proofs.word.few_words.Given as goal

abbrev pub invariant-loop-word : goal.invariant-loop-word
invariant-loop-word l = (l.count ≤ length l.room) × (take l.count l.room ≡ l.yielded)
