-- The table file that was made of a memtable.
use Rattle.std.proofs.Common.{◌≡◌, ◌<◌, ◌^◌, ℕ, Option, Some, None, List, [], ◌∷◌, length, map, inl, inr, refl, sym, ap, subst, ◌∙◌}
use Rattle.std.specs.FinMap.{get, IsAntisymmetric}
use Rattle.std.specs.List.{AllByRecursion}
use Rattle.std.specs.Option.{option_or}
use Rattle.edits.specs.declared.field.TableFile.{TableFile}
use Rattle.edits.specs.declared.names.FileName.TheVariants.{Table, OldTable}
use Rattle.edits.specs.Names.{name_of, IsNumbered}
use Rattle.ikey.specs.declared.entry.Entry.{Entry}
use Rattle.ikey.specs.Below.{same_key}
use Rattle.ikey.specs.Entries.{InternalEntry, Pair, internal_entry_of, internal_key_of, entry_of, value_of, value_kept, kind_of}
use Rattle.ikey.specs.Keys.{IsKey}
use Rattle.ikey.specs.Orders.{Order}
use Rattle.memtable.specs.Contents.{entry_at}
use Rattle.memtable.specs.Order.{Placed, ordered, Rises}
use Rattle.memtable.specs.Places.{first_of, last_of}
use Rattle.recover.specs.Report.{IsLongTable}
use Rattle.recover.specs.Tables.{HasTable, table_at, internal_key}
use Rattle.store.specs.Files.{Files}
use Rattle.table.specs.declared.handle.Handle.{Handle}
use Rattle.table.specs.Frame.{Frame, AnyLong, HasMetaindex, handles, handles_of}
use Rattle.table.specs.Table.{ArePairs}
use Rattle.table.specs.Writing.{IsTableOf}
use Rattle.table.proofs.Footers.{one_footer}
use Rattle.table.proofs.FrameParts.{one_frame, one_metaindex}
use Rattle.directory_writes.specs.internal.Level0.{HaveSequences, IsLevel0, pairs_of}
use Rattle.directory_writes.proofs.Ranks.{entries_in, same_entries, each_placed, sorted_entries, first_entry, last_entry}

-- ---- the entries of the pairs

pub is_key : (entry : Entry) → entry.sequence < 2 ^ 56 → IsKey (internal_key entry) (internal_key_of entry)
is_key entry fits = record { sequence_fits = fits; parts = refl }

value_back : (value : Option (List ℕ)) → value_of (kind_of value) (value_kept value) ≡ value
value_back None = refl
value_back (Some bytes) = refl

entry_back : (entry : Entry) (kept : InternalEntry) → internal_key_of entry ≡ kept.key → value_kept entry.value ≡ kept.value → entry ≡ entry_of kept
entry_back entry kept key value =
    let back : entry ≡ entry_of (internal_entry_of entry) = λ i. record { key = entry.key; sequence = entry.sequence; value = sym (value_back entry.value) i } in
    let same : internal_entry_of entry ≡ kept = λ i. record { key = key i; value = value i } in
    back ∙ ap entry_of same

pub kept_entries : (placed : List Placed) (kept : List InternalEntry) → AllByRecursion (λ (one : Placed). one.entry.sequence < 2 ^ 56) placed → ArePairs (pairs_of placed) kept → entries_in placed ≡ map entry_of kept
kept_entries [] [] fits h = refl
kept_entries [] (k ∷ kept) fits h = absurd h
kept_entries (one ∷ placed) [] fits h = absurd h
kept_entries (one ∷ placed) (k ∷ kept) fits h =
    let key : internal_key_of one.entry ≡ k.key = same_key (internal_key one.entry) (internal_key_of one.entry) k.key (is_key one.entry fits.0) h.0.key in
    let here : one.entry ≡ entry_of k = entry_back one.entry k key h.0.value in
    let rest : entries_in placed ≡ map entry_of kept = kept_entries placed kept fits.1 h.1 in
    λ i. here i ∷ rest i

-- ---- no block is too long

pub not_long : (order : Order) (file : List ℕ) (pairs : List Pair) → IsTableOf order.cmp file pairs → IsLongTable order file → ⊥
not_long order file pairs t (frame, (is, inr long)) =
    let same : frame ≡ t.frame = one_frame order.cmp file frame t.frame is t.frame_is in
    t.data_short (subst (λ (f : Frame). AnyLong (handles f)) same long)
not_long order file pairs t (frame, (is, inl over)) =
    let a = t.frame_is in
    let ends = one_footer file is.before a.before is.metaindex is.index a.metaindex a.index is.footer a.footer in
    let named : is.filter_handle ≡ a.filter_handle = one_metaindex file a.metaindex is.filter_handle a.filter_handle
    (subst (λ (m : Handle). HasMetaindex file m is.filter_handle) ends.1 is.metaindex_is) a.metaindex_is in
    t.ends_short (subst AnyLong (λ i. ends.1 i ∷ ends.2 i ∷ handles_of (named i)) over)

-- ---- the table

module _ (order : Order) (exact : IsAntisymmetric order.cmp) (files : Files) (inserts : List Entry) (table : TableFile) (file : List ℕ) (first last : ℕ)
    (fits : HaveSequences inserts) (rises : Rises order.cmp (ordered order.cmp inserts)) (numbered : IsNumbered table.number)
    (first_is : Some first ≡ first_of (ordered order.cmp inserts)) (last_is : Some last ≡ last_of (ordered order.cmp inserts))
    (smallest : (entry : Entry) → entry_at inserts first ≡ Some entry → table.smallest ≡ internal_key entry)
    (largest : (entry : Entry) → entry_at inserts last ≡ Some entry → table.largest ≡ internal_key entry)
    (has : get files (name_of (Table table.number)) ≡ Some file) (size : table.size ≡ length file) (is : IsTableOf order.cmp file (pairs_of (ordered order.cmp inserts))) where
  there : table_at files table.number ≡ Some file
  there = ap (λ (o : Option (List ℕ)). option_or o (get files (name_of (OldTable table.number)))) has

  has_table : HasTable order files (record { placed = record { level = 0; table = table }; entries = entries_in (ordered order.cmp inserts) })
  has_table =
      let sorted = sorted_entries order exact (ordered order.cmp inserts) rises in
      let low = first_entry order inserts (ordered order.cmp inserts) first refl sorted (sym first_is) in
      let high = last_entry order inserts (ordered order.cmp inserts) last refl sorted (sym last_is) in
      record {
        numbered = numbered;
        bytes = file;
        there = there;
        size = sym size;
        spelled = (is.entries, (is.frame, is.frame_is, is.filled), kept_entries (ordered order.cmp inserts) is.entries (each_placed order.cmp (λ (e : Entry). e.sequence < 2 ^ 56) inserts fits) is.pairs_are);
        sorted = sorted;
        smallest = (low.0, low.1, sym (smallest low.0 low.2), low.3);
        largest = (high.0, high.1, sym (largest high.0 high.2), high.3);
      }

  pub is_level0 : IsLevel0 order files table.number inserts table
  is_level0 = record {
    content = record { placed = record { level = 0; table = table }; entries = entries_in (ordered order.cmp inserts) };
    placed = refl;
    number_is = refl;
    same = same_entries order.cmp inserts;
    has = has_table;
    short = λ long.
        let same : long.0 ≡ file = (let t : Some long.0 ≡ Some file = sym long.1 ∙ there in cc) in
        not_long order file (pairs_of (ordered order.cmp inserts)) is (subst (IsLongTable order) same long.2);
  }
