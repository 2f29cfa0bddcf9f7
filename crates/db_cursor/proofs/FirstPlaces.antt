-- A new scan goes over the pairs of the view.
use Rattle.std.proofs.Common.{◌≡◌, ◌⊎◌, ◌↔◌, ◌++◌, ◌≤◌, ℕ, Bool, false, Option, Some, None, List, ◌∷◌, map, refl, sym, ◌∙◌, subst, inl, inr, arith}
use Rattle.std.specs.List.{AllByRecursion}
use Rattle.std.specs.Cmp.{IsTotalOrder}
use Rattle.std.specs.FinMap.{get}
use Rattle.cursor.specs.declared.child.Child.{Child}
use Rattle.cursor.specs.declared.child.Side.TheVariants.{Astray}
use Rattle.cursor.specs.Merging.{IsMerge, IsUnion, listed}
use Rattle.cursor.specs.Places.{Rises}
use Rattle.cursor.specs.Views.{HasPair, IsViewList}
use Rattle.cursor.specs.Walks.{IsPlacedWalk, walked}
use Rattle.edits.specs.declared.field.PlacedTable.{PlacedTable}
use Rattle.ikey.specs.declared.entry.Entry.{Entry}
use Rattle.ikey.specs.Entries.{InternalEntry, Pair, entry_of}
use Rattle.ikey.specs.Orders.{Order}
use Rattle.ikey.specs.Sources.{AreSearched, IsNewerThan, joined}
use Rattle.ikey.specs.Views.{Among, Contents, IsView}
use Rattle.ikey.proofs.SearchedSources as sources
use Rattle.db_cursor.specs.declared.scan.Scan.{Scan}
use Rattle.db_cursor.specs.declared.source_cursor.SourceCursor.{SourceCursor}
use Rattle.db_cursor.specs.Pairs.{listed_pair, tuple_of}
use Rattle.db_cursor.specs.Places.{ListsSource}
use Rattle.memtables.specs.Memories.{AreMemories, logged_in, sealed_inserts, table_in}
use Rattle.memtables.specs.Places.{ListsMemories}
use Rattle.memtable.specs.Contents.{Contents as MemoryContents}
use Rattle.db_cursor.specs.Rows.{IsGenerationOf}
use Rattle.db_cursor.specs.internal.Rows.{memory_spots, place_in, spot_of, spots_of}
use Rattle.db_cursor.specs.Scans.{IsOnePastLimit, IsOneTornFile, ListsMerged, MayBeginScan, reads_memory, reads_table, tables_of}
use Rattle.db_cursor.specs.Whole.{Whole}
use Rattle.db_cursor.proofs.Joining.{all_entries, entries_of, seen_from, seen_has, union_from, union_has, view_up_to}
use Rattle.db_cursor.proofs.NewScans.{HaveUnions, IsNew, RowsBegin, all_limited, all_listed, all_new, all_torn, cursors_of, in_front, keeps_new, merge_begun, new_at, seen_current, seen_sealed}
use Rattle.db_cursor.proofs.ReadTables.{new_there, sealed_none}
use Rattle.db_cursor.proofs.Slices.{all_ranges}
use Rattle.db_cursor.proofs.ViewPairs.{listed_again, pairs_of_view}
use Rattle.version_laws.specs.Places.{table_sources}
use Rattle.table_access.specs.Memory.{seen_entries}
use Rattle.versions.specs.Levels.{AreInOrder}

-- of three lists, the one in the middle taken out
split_three : (xs ys zs : List Entry) (e : Entry) → Among ((xs ++ ys) ++ zs) e → Among ys e ⊎ Among (xs ++ zs) e
split_three xs ys zs e m = elim (sources.among_split (xs ++ ys) zs e m) [
  | inl i ↦ elim (sources.among_split xs ys e i) [ inl j ↦ inr (sources.among_front xs zs e j) | inr j ↦ inl j ]
  | inr i ↦ inr (sources.among_back xs zs e i)
]

join_three : (xs ys zs : List Entry) (e : Entry) → Among (xs ++ zs) e → Among ((xs ++ ys) ++ zs) e
join_three xs ys zs e m = elim (sources.among_split xs zs e m) [
  | inl i ↦ sources.among_front (xs ++ ys) zs e (sources.among_front xs ys e i)
  | inr i ↦ sources.among_back (xs ++ ys) zs e i
]

module _ {K : Type 0} {g : _} (order : Order) (total : IsTotalOrder order.cmp)
    (unions : HaveUnions order.cmp)
    (each : (entries : List InternalEntry) (sequence : ℕ) → Rises order.cmp entries → (pairs : List Pair) × IsViewList order.cmp entries sequence pairs)
    (agree : (entries : List InternalEntry) (sequence : ℕ) (pairs : List Pair) (view : Contents) → IsViewList order.cmp entries sequence pairs → IsView (map entry_of entries) sequence view → (pair : Pair) → HasPair pairs pair ↔ (get view pair.key ≡ Some pair.value))
    (begins : RowsBegin K g order)
    (whole : Whole) (tables : List PlacedTable) (in_order : AreInOrder order.cmp tables) (scan : Scan K g) (up_to sequence : ℕ)
    (same : scan.walk.sequence ≡ up_to) (off : scan.walk.stands ≡ false) (nowhere : scan.walk.cursor.current ≡ None)
    (astray : AllByRecursion (λ (child : Child (SourceCursor K g)). child.side ≡ Astray) scan.walk.cursor.children.items)
    (generation : scan.generation ≡ whole.memory.generation) (sealed : scan.sealed ≡ whole.memory.sealed) (version : tables_of scan ≡ tables)
    (spots : map spot_of (map (λ (child : Child (SourceCursor K g)). child.cursor) scan.walk.cursor.children.items) ≡ memory_spots up_to whole.memory.generation whole.memory.sealed ++ spots_of tables (all_ranges tables))
    (are : AreMemories whole.memory)
    (memory : (generation : ℕ) (table : MemoryContents) → IsGenerationOf whole.memory.generation whole.memory.sealed generation → table_in whole.memory generation ≡ Some table
    → ListsMemories order.cmp (place_in up_to generation) whole.memory (listed (seen_entries order.cmp table.inserts up_to) None)) where
  abbrev children : List (Child (SourceCursor K g))
  children = scan.walk.cursor.children.items

  abbrev cursors : List (SourceCursor K g)
  cursors = cursors_of children

  abbrev current : List InternalEntry
  current = seen_current order.cmp whole.memory up_to

  abbrev waiting : List InternalEntry
  waiting = seen_sealed order.cmp whole.memory up_to

  abbrev behind : Option ℕ → List (List InternalEntry) → List (List InternalEntry)
  behind o lists = in_front order.cmp whole.memory up_to o lists

  news : AllByRecursion (IsNew (reads_memory scan) scan.walk.sequence tables) cursors
  news = all_new scan.generation scan.sealed scan.walk.sequence tables (all_ranges tables) cursors (spots ∙ (λ i. memory_spots (sym same i) (sym generation i) (sym sealed i) ++ spots_of tables (all_ranges tables)))

  placed_nowhere : (entries : List InternalEntry) (pairs : List Pair) → IsMerge order.cmp (ListsSource order.cmp) children None scan.walk.cursor.target.items whole (listed entries None)
      → IsPlacedWalk order.cmp (ListsMerged order.cmp) scan.walk.cursor scan.walk.sequence scan.walk.stands scan.walk.position scan.walk.here.key.items scan.walk.here.value.items whole entries (walked pairs None)
  placed_nowhere entries pairs h =
      let at : ListsMerged order.cmp scan.walk.cursor whole (listed entries None) = subst (λ (current : Option ℕ). IsMerge order.cmp (ListsSource order.cmp) children current scan.walk.cursor.target.items whole (listed entries None)) (sym nowhere) h in
      subst (λ (stands : Bool). IsPlacedWalk order.cmp (ListsMerged order.cmp) scan.walk.cursor scan.walk.sequence stands scan.walk.position scan.walk.here.key.items scan.walk.here.value.items whole entries (walked pairs None)) (sym off)
      (refl, (None, at))

  -- ---- the entries that are merged are those that are searched

  module _ (lists : List (List InternalEntry)) (rest : List Entry) (joined_is : joined (all_entries lists) ≡ rest) where
    rest_from : (e : Entry) → Among (joined (all_entries lists)) e → Among rest e
    rest_from e m = subst (λ (es : List Entry). Among es e) joined_is m

    rest_has : (e : Entry) → Among rest e → Among (joined (all_entries lists)) e
    rest_has e m = subst (λ (es : List Entry). Among es e) (sym joined_is) m

    behind_from : (o : Option ℕ) → whole.memory.sealed ≡ o → (e : Entry) → Among (joined (all_entries (behind o lists))) e → Among (sealed_inserts whole.memory ++ rest) e
    behind_from None is e m = sources.among_back (sealed_inserts whole.memory) rest e (rest_from e m)
    behind_from (Some named) is e m = elim (sources.among_split (entries_of waiting) (joined (all_entries lists)) e m) [
      | inl i ↦ sources.among_front (sealed_inserts whole.memory) rest e (seen_from order.cmp (sealed_inserts whole.memory) up_to e i)
      | inr j ↦ sources.among_back (sealed_inserts whole.memory) rest e (rest_from e j)
    ]

    behind_has : (o : Option ℕ) → whole.memory.sealed ≡ o → (e : Entry) → e.sequence ≤ up_to → Among (sealed_inserts whole.memory ++ rest) e → Among (joined (all_entries (behind o lists))) e
    behind_has None is e le m = elim (sources.among_split (sealed_inserts whole.memory) rest e m) [
      | inl i ↦ absurd (subst (λ (es : List Entry). Among es e) (sealed_none whole.memory is) i)
      | inr j ↦ rest_has e j
    ]
    behind_has (Some named) is e le m = elim (sources.among_split (sealed_inserts whole.memory) rest e m) [
      | inl i ↦ sources.among_front (entries_of waiting) (joined (all_entries lists)) e (seen_has order.cmp (sealed_inserts whole.memory) up_to e le i)
      | inr j ↦ sources.among_back (entries_of waiting) (joined (all_entries lists)) e (rest_has e j)
    ]

    behind_searched : (o : Option ℕ) → whole.memory.sealed ≡ o → IsNewerThan (sealed_inserts whole.memory) rest → AreSearched (all_entries lists) → AreSearched (all_entries (behind o lists))
    behind_searched None is newer searched = searched
    behind_searched (Some named) is newer searched = (
      λ a b i j key. newer a b (seen_from order.cmp (sealed_inserts whole.memory) up_to a i) (rest_from b j) key,
      searched,
    )

    all_searched : IsNewerThan whole.memory.current.inserts (sealed_inserts whole.memory ++ rest) → IsNewerThan (sealed_inserts whole.memory) rest → AreSearched (all_entries lists) → AreSearched (all_entries (current ∷ behind whole.memory.sealed lists))
    all_searched newer older searched = (
      λ a b i j key. newer a b (seen_from order.cmp whole.memory.current.inserts up_to a i) (behind_from whole.memory.sealed refl b j) key,
      behind_searched whole.memory.sealed refl older searched,
    )

    -- so they have the view
    same_view : (union : List InternalEntry) (view : Contents) → up_to ≡ sequence → IsUnion order.cmp (current ∷ behind whole.memory.sealed lists) union
        → IsView (logged_in whole.memory ++ rest) sequence view → IsView (map entry_of union) sequence view
    same_view union view at is =
        let inserts = whole.memory.current.inserts in
        let sealed = sealed_inserts whole.memory in
        let others = behind whole.memory.sealed lists in
        view_up_to ((sealed ++ inserts) ++ rest) (entries_of union) sequence view
        (λ e le m. union_has order.cmp (current ∷ others) union is e (elim (split_three sealed inserts rest e m) [
          | inl i ↦ sources.among_front (entries_of current) (joined (all_entries others)) e (seen_has order.cmp inserts up_to e (omega (arith, le, at)) i)
          | inr j ↦ sources.among_back (entries_of current) (joined (all_entries others)) e (behind_has whole.memory.sealed refl e (omega (arith, le, at)) j)
        ]))
        (λ e le m. elim (sources.among_split (entries_of current) (joined (all_entries others)) e (union_from order.cmp (current ∷ others) union is e m)) [
          | inl i ↦ sources.among_front (sealed ++ inserts) rest e (sources.among_back sealed inserts e (seen_from order.cmp inserts up_to e i))
          | inr j ↦ join_three sealed inserts rest e (behind_from whole.memory.sealed refl e j)
        ])

  pub begins_scan : (sequence ≤ whole.memory.last → up_to ≡ sequence) → MayBeginScan order tables sequence whole scan
  begins_scan least contents view below sound has newer seen_view =
      let rest = joined (table_sources contents) in
      let listing = all_listed order whole tables contents has in_order sound begins up_to are memory cursors spots in
      let rows = listing.1 in
      let searched = all_searched rows.0 rest rows.2 (current_newer rest newer) (λ a b i j key. newer a b (sources.among_front (sealed_inserts whole.memory) whole.memory.current.inserts a i) j key) rows.3 in
      let lists : List (List InternalEntry) = current ∷ behind whole.memory.sealed rows.0 in
      let merge = merge_begun order whole tables contents has in_order sound begins unions children scan.walk.cursor.target.items lists astray listing.2 searched in
      let union = merge.0 in
      let at = least below in
      let viewed = each union sequence merge.1.rises in
      let is_view = same_view rows.0 rest rows.2 union view at merge.1 seen_view in
      let again = listed_again viewed.0 in (
        map tuple_of viewed.0,
        pairs_of_view order.cmp total view viewed.0 viewed.1.rises (agree union sequence viewed.0 view viewed.1 is_view),
        record {
          there = λ named is. new_there whole.memory are named (one_of named is);
          bound = λ old new k i child is. keeps_new (reads_memory scan) scan.walk.sequence tables order.cmp (reads_table scan) child.cursor old new (λ number over. inr (i, child, is, over))
              (new_at (reads_memory scan) scan.walk.sequence tables children news i child is) k;
          limits = λ l. subst (λ (ts : List PlacedTable). IsOnePastLimit order.cmp ts whole) (sym version) (all_limited (reads_memory scan) scan.walk.sequence tables children news order.cmp whole lists listing.2 l);
          torn = λ cut t. subst (λ (ts : List PlacedTable). IsOneTornFile order.cmp ts whole cut) (sym version) (all_torn (reads_memory scan) scan.walk.sequence tables children news order.cmp whole lists listing.2 cut t);
          walk = (
            union,
            subst (λ (ps : List Pair). IsViewList order.cmp union scan.walk.sequence ps) (sym again) (subst (λ (n : ℕ). IsViewList order.cmp union n viewed.0) (sym (same ∙ at)) viewed.1),
            placed_nowhere union (map listed_pair (map tuple_of viewed.0)) merge.2,
          );
        },
      )
    where
      current_newer : (rest : List Entry) → IsNewerThan (logged_in whole.memory) rest → IsNewerThan whole.memory.current.inserts (sealed_inserts whole.memory ++ rest)
      current_newer rest newer a b i j key = elim (sources.among_split (sealed_inserts whole.memory) rest b j) [
        | inl old ↦ are.newer a b i old key
        | inr older ↦ newer a b (sources.among_back (sealed_inserts whole.memory) whole.memory.current.inserts a i) older key
      ]

      one_of : (named : ℕ) → reads_memory scan named → IsGenerationOf whole.memory.generation whole.memory.sealed named
      one_of named (inl e) = inl (e ∙ generation)
      one_of named (inr e) = inr (sym sealed ∙ e)
