-- How many numbers are drawn.
use Rattle.std.proofs.Common.{◌≡◌, ◌≤◌, ◌+◌, ℕ, List, inl, inr, arith}
use Rattle.compact.specs.Outputs.{TablesWritten, HandsUser, DrawsFor}

pub draws-most : (user : List ℕ) (old new : ℕ) (w : TablesWritten) → DrawsFor user old new w → new ≤ old + 1
draws-most user old new w (inl same) = omega (arith, same)
draws-most user old new w (inr h) = h.0

-- what comes after draws none where the table at hand ends with the key
pub draws-then : (user : List ℕ) (old middle new : ℕ) (w : TablesWritten) → DrawsFor user old middle w → new ≤ middle + 1 → (HandsUser w user → new ≡ middle) → new ≤ old + 1
draws-then user old middle new w (inl same) most none = omega (arith, same, most)
draws-then user old middle new w (inr h) most none = omega (arith, h.0, none h.1)

pub draws-on : (user : List ℕ) (old middle new : ℕ) (w x : TablesWritten) → DrawsFor user old middle w → new ≤ middle + 1 → (HandsUser w user → new ≡ middle) → HandsUser x user → DrawsFor user old new x
draws-on user old middle new w x d most none hands = inr (draws-then user old middle new w d most none, hands)
