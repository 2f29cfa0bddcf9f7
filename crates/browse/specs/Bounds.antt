-- Which keys are asked for by bounds and a prefix.
use Rattle.std.specs.Prelude.{ℕ, List, Option, Some, None, IfSome, IsTrue}
use Rattle.std.specs.Cmp.Lexicographic.{slice_cmp}
use Rattle.std.specs.Ordering.{nat_cmp}
use denote.Ref.{Bor}
use Rattle.engine.specs.Ranges.{BeginsWith, is_before_end, is_from}

-- the bytes that are given, where some are
abbrev pub given : Option (Bor (List ℕ)) → Option (List ℕ)
given None = None
given (Some bytes) = Some bytes.now

-- in the order of bytes the key doesn't come before the one, comes before the other, and begins so:
-- each where it is given
abbrev pub IsAskedFor : Option (List ℕ) → Option (List ℕ) → Option (List ℕ) → List ℕ → Type 0
IsAskedFor from to prefix key =
    IsTrue (is_from (slice_cmp nat_cmp) from key) × IsTrue (is_before_end (slice_cmp nat_cmp) to key) × IfSome prefix (λ begins. BeginsWith begins key)
