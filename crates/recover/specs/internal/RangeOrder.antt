-- The ranges of keys of a layout's tables in a row: by level, and then by smallest key.
use Rattle.std.specs.Prelude.{◌≡◌, ◌<◌, ℕ, List, [], ◌∷◌}
use Rattle.std.specs.Ordering.{nat_cmp, then_cmp, on, flip_args}
use Rattle.std.specs.declared.cmp.Ordering.{Ordering}
use Rattle.ikey.specs.Orders.{Order}
use Rattle.ikey.specs.Keys.{IsKey}
use Rattle.ikey.specs.KeyViews.{key_of}
use Rattle.edits.specs.declared.field.PlacedTable.{PlacedTable}
use Rattle.recover.specs.Ranges.{IsKeyBefore, HasRange}
use Rattle.recover.specs.declared.ranges.KeyRange.{KeyRange}

-- the level and the keys of the table, which are in order
abbrev pub IsRangeOf : Order → PlacedTable → KeyRange → Type 0
IsRangeOf order placed range =
    (range.level ≡ placed.level)
    × IsKey placed.table.smallest (key_of range.smallest)
    × IsKey placed.table.largest (key_of range.largest)
    × HasRange order placed.table

-- those of each table, in their order
abbrev pub AreRangesOf : Order → List PlacedTable → List KeyRange → Type 0
AreRangesOf order [] [] = Unit {0}
AreRangesOf order [] (range ∷ ranges) = ⊥
AreRangesOf order (placed ∷ tables) [] = ⊥
AreRangesOf order (placed ∷ tables) (range ∷ ranges) = IsRangeOf order placed range × AreRangesOf order tables ranges

-- by level, then by the smallest key: its user key, and of one user key the newer first
abbrev pub range_cmp : (List ℕ → List ℕ → Ordering) → KeyRange → KeyRange → Ordering
range_cmp cmp =
    then_cmp (on (λ (r : KeyRange). r.level) nat_cmp)
    (then_cmp (on (λ (r : KeyRange). r.smallest.user.now) cmp) (flip_args (on (λ (r : KeyRange). r.smallest.sequence) nat_cmp)))

-- where both are of one level from 1 on, the first ends before the second begins
abbrev pub EndsBefore : Order → KeyRange → KeyRange → Type 0
EndsBefore order a b = a.level ≡ b.level → 0 < a.level → IsKeyBefore order (key_of a.largest) (key_of b.smallest)
