-- What tells where an entry stands in internal order.
use Rattle.std.specs.Prelude.{◌≡◌, ◌-◌, ℕ, None, List, [], get_or}
use Rattle.std.specs.Ordering.{nat_cmp, then_cmp, on, flip_args}
use Rattle.std.specs.declared.cmp.Ordering.{Ordering}
use Rattle.ikey.specs.declared.entry.Entry.{Entry}
use Rattle.memtable.specs.declared.ranked.Ranked.{Ranked}

abbrev pub number_of : Ranked → ℕ
number_of one = one.number

-- by user key, and of one user key the newer first
abbrev pub ranked_cmp : (List ℕ → List ℕ → Ordering) → Ranked → Ranked → Ordering
ranked_cmp cmp = then_cmp (on (λ (one : Ranked). one.key.now) cmp) (flip_args (on (λ (one : Ranked). one.sequence) nat_cmp))

abbrev pub no_entry : Entry
no_entry = record { key = []; sequence = 0; value = None }

-- the key and the sequence number are those of the entry that has the number
abbrev pub HasRank : List Entry → Ranked → Type 0
HasRank entries one =
    ((get_or entries (one.number - 1) no_entry).key ≡ one.key.now) × ((get_or entries (one.number - 1) no_entry).sequence ≡ one.sequence)
