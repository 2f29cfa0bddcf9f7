-- The blocks at the ends of a table, and the keys of its edit.
use Rattle.std.proofs.Common.{◌≡◌, ◌<◌, ◌+◌, ℕ, suc, List, Some, length, sym, ap, ◌∙◌, arith}
use Rattle.std.specs.List.{slice_get}
use Rattle.std.proofs.lemmas.Option.{slice_get_within}
use Rattle.cursor.proofs.Singles.{pairs_length}
use Rattle.edits.specs.declared.field.PlacedTable.{PlacedTable}
use Rattle.ikey.specs.Entries.{InternalEntry, Pair}
use Rattle.ikey.specs.Keys.{Key, IsKey}
use Rattle.table_access.specs.Ends.{HaveEnds, HasKeysOf}
use Rattle.table_access.specs.TablePlaces.{joined, pairs_before}
use Rattle.table_access.proofs.Entering.{pair_at}
use Rattle.table_access.proofs.Placing.{before_all, before_more, before_zero, item_in, some_at}
use Rattle.table.specs.Table.{ArePairs}

-- no key has two encodings
one_encoding : (a b : List ℕ) (key : Key) → IsKey a key → IsKey b key → a ≡ b
one_encoding a b key h k = h.parts ∙ sym k.parts

module _ (placed : PlacedTable) (groups : List (List Pair)) (entries : List InternalEntry) (are : ArePairs (joined groups) entries) (keys : HasKeysOf placed entries) where
  count : length (joined groups) ≡ length entries
  count = pairs_length (joined groups) entries are

  -- the pair at this place among all has the key of the entry there
  key_at : (n : ℕ) (pair : Pair) (bytes : List ℕ) → slice_get (joined groups) n ≡ Some pair → n < length entries → ((entry : InternalEntry) → slice_get entries n ≡ Some entry → IsKey bytes entry.key) → pair.key ≡ bytes
  key_at n pair bytes at less said =
      let x = some_at entries n less in
      one_encoding pair.key bytes x.0.key (pair_at (joined groups) entries n pair x.0 are at x.1).key (said x.0 x.1)

  -- the blocks of a table's entries have the edit's keys at its ends
  pub data_ends : HaveEnds placed groups
  data_ends index pairs at = record {
    first = λ is pair there.
        let begins = ap (pairs_before groups) is ∙ before_zero groups in
        let here = item_in groups index pairs 0 pair at there in
        let e : pairs_before groups index + 0 ≡ 0 = omega (arith, begins) in
        let front : slice_get (joined groups) 0 ≡ Some pair = ap (slice_get (joined groups)) (sym e) ∙ here in
        let l = inside 0 pair front in
        key_at 0 pair placed.table.smallest front l keys.first;
    last = λ is last pair long there.
        let n : ℕ = pairs_before groups index + last in
        let here = item_in groups index pairs last pair at there in
        let more = before_more groups index pairs at in
        let all = ap (pairs_before groups) is ∙ before_all groups in
        let e : suc n ≡ length entries = omega (arith, more, all, long, count) in
        key_at n pair placed.table.largest here (omega (arith, e)) (λ entry. keys.last n entry e);
  }
    where
      inside : (n : ℕ) (pair : Pair) → slice_get (joined groups) n ≡ Some pair → n < length entries
      inside n pair at = let w = slice_get_within (joined groups) n pair at in omega (arith, w, count)
