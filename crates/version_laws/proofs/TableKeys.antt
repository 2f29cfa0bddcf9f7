-- The first and the last entry of a table have the keys of its edit.
use Rattle.std.proofs.Common.{◌≡◌, ℕ, zero, suc, List, [], ◌∷◌, Option, Some, None, length, sym, subst, arith}
use Rattle.std.specs.Cmp.{IsTotalOrder}
use Rattle.std.specs.List.{flat_map, slice_get}
use Rattle.block.specs.Written.{last_key_from}
use Rattle.ikey.specs.Entries.{InternalEntry, Pair}
use Rattle.ikey.specs.Keys.{IsKey}
use Rattle.ikey.specs.Orders.{Order}
use Rattle.recover.specs.Tables.{HasTable, TableContent}
use Rattle.recover.specs.internal.Checks.{IsSpanned, first_key}
use Rattle.recover.proofs.WholeTables.{spanned_of}
use Rattle.store.specs.Files.{Files}
use Rattle.table.specs.Table.{ArePairs}

first_from : (pairs : List Pair) (entries : List InternalEntry) (key : List ℕ) → ArePairs pairs entries → first_key pairs ≡ Some key → (entry : InternalEntry) → slice_get entries 0 ≡ Some entry → IsKey key entry.key
first_from [] entries key h e entry at = absurd (let bad : None ≡ Some key = e in cc)
first_from (p ∷ pairs) [] key h e entry at = absurd h
first_from (p ∷ pairs) (x ∷ entries) key h e entry at =
    let here : p.key ≡ key = let t : Some p.key ≡ Some key = e in cc in
    let same : x ≡ entry = let t : Some x ≡ Some entry = at in cc in
    subst (λ (y : InternalEntry). IsKey key y.key) same (subst (λ (b : List ℕ). IsKey b x.key) here h.0.key)

last_from : (previous : Option (List ℕ)) (pairs : List Pair) (entries : List InternalEntry) (key : List ℕ) → ArePairs pairs entries → last_key_from previous pairs ≡ Some key → (last : ℕ) (entry : InternalEntry) → suc last ≡ length entries
    → slice_get entries last ≡ Some entry → IsKey key entry.key
last_from previous [] [] key h e last entry long at = absurd (omega (arith, long))
last_from previous [] (x ∷ entries) key h e last entry long at = absurd h
last_from previous (p ∷ pairs) [] key h e last entry long at = absurd h
last_from previous (p ∷ []) (x ∷ []) key h e zero entry long at = first_from (p ∷ []) (x ∷ []) key h e entry at
last_from previous (p ∷ []) (x ∷ []) key h e (suc last) entry long at = absurd (omega (arith, long))
last_from previous (p ∷ []) (x ∷ (y ∷ entries)) key h e last entry long at = absurd h.1
last_from previous (p ∷ (q ∷ pairs)) (x ∷ []) key h e last entry long at = absurd h.1
last_from previous (p ∷ (q ∷ pairs)) (x ∷ (y ∷ entries)) key h e zero entry long at = absurd (omega (arith, long))
last_from previous (p ∷ (q ∷ pairs)) (x ∷ (y ∷ entries)) key h e (suc last) entry long at = last_from (Some p.key) (q ∷ pairs) (y ∷ entries) key h.1 e last entry (omega (arith, long)) at

module _ (order : Order) (total : IsTotalOrder order.cmp) (files : Files) (content : TableContent) (has : HasTable order files content) where
  abbrev pairs : List Pair
  pairs = flat_map (λ (group : List Pair). group) has.spelled.1.2.blocks

  spans : IsSpanned content.placed.table pairs
  spans = spanned_of order total files content.placed pairs content.entries content.entries (record {
    numbered = has.numbered;
    bytes = has.bytes;
    there = has.there;
    size = has.size;
    kept = has.spelled.0;
    table = has.spelled.1;
    pairs_are = has.spelled.1.2.entries_are;
    entries_are = has.spelled.2;
  }) has

  pub first_kept : (entry : InternalEntry) → slice_get has.spelled.0 0 ≡ Some entry → IsKey content.placed.table.smallest entry.key
  first_kept entry at = first_from pairs has.spelled.0 content.placed.table.smallest has.spelled.1.2.entries_are spans.0 entry at

  pub last_kept : (last : ℕ) (entry : InternalEntry) → suc last ≡ length has.spelled.0 → slice_get has.spelled.0 last ≡ Some entry → IsKey content.placed.table.largest entry.key
  last_kept last entry long at = last_from None pairs has.spelled.0 content.placed.table.largest has.spelled.1.2.entries_are spans.1 last entry long at
