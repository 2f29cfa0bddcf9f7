-- How much a database can have: no entry that wasn't there at first or came with a batch.
use Rattle.std.specs.Prelude.{◌≤◌, ℕ, List, length, sum_by}
use Rattle.ikey.specs.declared.entry.Entry.{Entry}
use Rattle.ikey.specs.Views.{Among}
use Rattle.machine.specs.Machine.{entry_weight}

-- The entries are some of at most so many, which weigh no more than this.
pub record AreAccounted (entries : List Entry) (most_entries most_weight : ℕ) : Type 0 where
  pub all : List Entry
  pub within : (entry : Entry) → Among entries entry → Among all entry
  pub count : length all ≤ most_entries
  pub weight : sum_by entry_weight all ≤ most_weight
