use Rattle.std.proofs.Common.{◌≡◌, ℕ, IsTrue, List}
use Rattle.std.specs.Option.{option_copied}
use Rattle.ikey.specs.Entries.{InternalEntry}
use Rattle.cursor.specs.Places.{index_before}
use Rattle.cursor.specs.Merging.{listed}
use Rattle.cursor.specs.Searches.{Wanders, SearchesBack, HasPassedNone, below_bound}
use Rattle.cursor.proofs.scanning.find_back.Given as goal

abbrev pub invariant-search : goal.invariant-search
invariant-search g l = record {
  wanders : Wanders g.C.Cursor.facts g.C.Cursor.lists g.C.Cursor.keeps g.C.Cursor.limited g.C.Cursor.torn g.C.Cursor.leaves g.C.Cursor.over l.initial.cursor l.cursor l.initial.source l.source;
  comes : IsTrue (g.C.Cursor.facts l.source).faithful → (entries : List InternalEntry) (index : ℕ) → g.C.Cursor.lists l.initial.cursor l.initial.source (listed entries (index_before index))
      → HasPassedNone entries l.sequence (below_bound g.K.KeyOrder.cmp (option_copied l.bound)) index
      → (n : ℕ) × g.C.Cursor.lists l.cursor l.source (listed entries (index_before n)) × SearchesBack g.K.KeyOrder.cmp entries l.sequence (below_bound g.K.KeyOrder.cmp (option_copied l.bound)) n l.has l.found.key.items l.found.value.items;
  still : (g.C.Cursor.facts l.source).failures ≡ (g.C.Cursor.facts l.initial.source).failures;
}
