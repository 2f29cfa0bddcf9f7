-- The entries of a table, and the pairs of its blocks.
use Rattle.std.proofs.Common.{◌≡◌, ◌+◌, ℕ, zero, suc, List, [], ◌∷◌, Option, Some, None, sym, ap, ◌∙◌, subst}
use Rattle.std.specs.List.{slice_get}
use Rattle.block.specs.Places.{Placed}
use Rattle.cursor.specs.Places.{Cmp, Listed}
use Rattle.edits.specs.declared.field.PlacedTable.{PlacedTable}
use Rattle.ikey.specs.Entries.{InternalEntry, Pair, IsPair}
use Rattle.table_access.specs.declared.in_block.InBlock.{InBlock}
use Rattle.table_access.specs.TablePlaces.{ListsTable, joined, pairs_before}
use Rattle.table_access.specs.Tables.{Seen}
use Rattle.table_access.proofs.Placing.{some_at, item_in}
use Rattle.table.specs.Frame.{Frame}
use Rattle.table.specs.Table.{ArePairs}

pub pair_at : (pairs : List Pair) (entries : List InternalEntry) (n : ℕ) (pair : Pair) (entry : InternalEntry) → ArePairs pairs entries → slice_get pairs n ≡ Some pair → slice_get entries n ≡ Some entry → IsPair pair entry
pair_at [] entries n pair entry h e f = absurd (let bad : None ≡ Some pair = e in cc)
pair_at (x ∷ pairs) [] n pair entry h e f = absurd h
pair_at (x ∷ pairs) (y ∷ entries) zero pair entry h e f =
    let s : x ≡ pair = let t : Some x ≡ Some pair = e in cc in
    let r : y ≡ entry = let t : Some y ≡ Some entry = f in cc in
    subst (λ (p : Pair). IsPair p entry) s (subst (IsPair x) r h.0)
pair_at (x ∷ pairs) (y ∷ entries) (suc n) pair entry h e f = pair_at pairs entries n pair entry h.1 e f

-- the pair that a cursor in a block stands on is the entry that a cursor over the table does
pub record StandsOnPair (block : Placed) (entry : InternalEntry) : Type 0 where
  pub inside : ℕ
  pub pair : Pair
  pub stands : block.place ≡ Some inside
  pub pair_is : slice_get block.pairs inside ≡ Some pair
  pub is : IsPair pair entry

pub standing_pair : (cmp : Cmp) (source : Seen) (placed : PlacedTable) (frame : Frame) (here : Option (InBlock Placed)) (in_block : InBlock Placed) (at : Listed) (index : ℕ) (entry : InternalEntry) → here ≡ Some in_block
    → ListsTable cmp source placed frame here at → at.place ≡ Some index → slice_get at.entries index ≡ Some entry → StandsOnPair in_block.cursor entry
standing_pair cmp source placed frame here in_block at index entry e lists place_is entry_is =
    let h = subst (λ (o : Option (InBlock Placed)). ListsTable cmp source placed frame o at) e lists in
    let p = h.place in
    let x = some_at in_block.cursor.pairs p.inside p.less in
    let there = item_in h.groups in_block.index in_block.cursor.pairs p.inside x.0 p.block_is x.1 in
    let both : Some (pairs_before h.groups in_block.index + p.inside) ≡ Some index = sym p.place_is ∙ place_is in
    let same : pairs_before h.groups in_block.index + p.inside ≡ index = cc in
    record {
      inside = p.inside;
      pair = x.0;
      stands = p.stands;
      pair_is = x.1;
      is = pair_at (joined h.groups) at.entries index x.0 entry h.entries_are (ap (slice_get (joined h.groups)) (sym same) ∙ there) entry_is;
    }
