use Rattle.std.proofs.Common.{◌≡◌, ℕ, Bool, IsTrue, List}
use Rattle.ikey.specs.Entries.{InternalEntry}
use Rattle.cursor.specs.Places.{within}
use Rattle.cursor.specs.Merging.{listed}
use Rattle.cursor.specs.Searches.{Wanders, SearchesOn, hides_now, hidden_now}
use Rattle.cursor.proofs.scanning.find_on.Given as goal

abbrev pub invariant-search : goal.invariant-search
invariant-search g l = record {
  wanders : Wanders g.C.Cursor.facts g.C.Cursor.lists g.C.Cursor.keeps g.C.Cursor.limited g.C.Cursor.torn g.C.Cursor.leaves g.C.Cursor.over l.initial.cursor l.cursor l.initial.source l.source;
  comes : IsTrue (g.C.Cursor.facts l.source).faithful → (entries : List InternalEntry) (test : List ℕ → Bool) (index : ℕ) → g.C.Cursor.lists l.initial.cursor l.initial.source (listed entries (within entries index))
      → SearchesOn g.K.KeyOrder.cmp entries l.sequence test index l.hides l.hidden
      → (n : ℕ) × g.C.Cursor.lists l.cursor l.source (listed entries (within entries n)) × SearchesOn g.K.KeyOrder.cmp entries l.sequence test n (hides_now l.holds l.hides) (hidden_now l.holds l.hidden l.found.items);
  still : (g.C.Cursor.facts l.source).failures ≡ (g.C.Cursor.facts l.initial.source).failures;
}
