-- The list with which a cursor over a row begins.
use Rattle.std.proofs.Common.{◌≡◌, ◌⊎◌, ◌<◌, ◌++◌, ℕ, zero, suc, List, [], ◌∷◌, Option, Some, None, length, map, refl, sym, ap, ◌∙◌, subst, arith, inl, inr}
use Rattle.std.specs.Prelude.{Contains, slice_get}
use Rattle.std.specs.Cmp.{IsTotalOrder, nat_cmp_is, tied_itself}
use Rattle.std.specs.List.{AllByRecursion}
use Rattle.std.specs.Ordering.{nat_cmp, ordering_then}
use Rattle.std.specs.declared.cmp.Ordering.{Ordering}
use Rattle.std.specs.declared.cmp.Ordering.TheVariants.{Less, Equal}
use Rattle.cursor.specs.Cuts.{Cut}
use Rattle.cursor.specs.Merging.{listed}
use Rattle.cursor.specs.Places.{Rises}
use Rattle.edits.specs.declared.field.PlacedTable.{PlacedTable}
use Rattle.ikey.specs.Below.{key_total, same_key}
use Rattle.ikey.specs.declared.entry.Entry.{Entry}
use Rattle.ikey.specs.declared.internal_key.Kind.{Kind}
use Rattle.ikey.specs.declared.internal_key.Kind.TheVariants.{Delete, Put}
use Rattle.ikey.specs.Entries.{InternalEntry, entry_of, internal_key_of, kind_of, value_of}
use Rattle.ikey.specs.Keys.{Key, IsKey, key_cmp, tag_of}
use Rattle.ikey.specs.Orders.{Order}
use Rattle.ikey.specs.Sources.{AreInRow, ComesAllBefore, ComesBefore, joined as joined_entries}
use Rattle.ikey.specs.Views.{Among}
use Rattle.recover.specs.Tables.{HasTable, HasTables, TableContent}
use Rattle.recover.proofs.NameScan.{in_cons, in_none}
use Rattle.store.specs.Files.{Files}
use Rattle.level_cursor.specs.declared.row_cursor.RowCursor.{RowCursor}
use Rattle.level_cursor.specs.declared.in_table.InTable.{InTable}
use Rattle.level_cursor.specs.InRows.{EndsBy, HasList, HaveLists, IsOpenTorn, IsPlacedRow, IsTornOne, joined}
use Rattle.level_cursor.specs.Rows.{IsRowTorn, ListsRow, MayBeTables, rows_tables}
use Rattle.level_cursor.specs.RowLists.{member_at}
use Rattle.version_laws.specs.Places.{FitsEdit, MayHold, lists_of}
use Rattle.version_laws.proofs.Fitting.{fits_edit}
use Rattle.version_laws.proofs.Sought.{kind_at_most}
use Rattle.version_laws.proofs.TableKeys.{first_kept, last_kept}
use Rattle.table_access.specs.Ends.{HasKeysOf}
use Rattle.table_access.specs.Possible.{MayBeTable}
use Rattle.table_access.specs.Tables.{Seen, IsSound}
use Rattle.table_access.proofs.Wholes.{may_be, none_torn}

abbrev pub placed_of : List TableContent → List PlacedTable
placed_of contents = map (λ (content : TableContent). content.placed) contents

less_number : (m n : ℕ) → m < n → nat_cmp m n ≡ Less
less_number m n h = sym (nat_cmp_is m n Less h)

same_kind : (kind : Kind) (value : List ℕ) → kind_of (value_of kind value) ≡ kind
same_kind Delete value = refl
same_kind Put value = refl

-- an entry's internal key is that of the kept entry
key_again : (kept : InternalEntry) → internal_key_of (entry_of kept) ≡ kept.key
key_again kept = λ i. record { user = kept.key.user; sequence = kept.key.sequence; kind = same_kind kept.key.kind kept.value i }

module _ (order : Order) (total : IsTotalOrder order.cmp) where
  not_below_itself : (a b : Key) → a ≡ b → key_cmp order.cmp a b ≡ Less → ⊥
  not_below_itself a b same less =
      let t : Equal ≡ Less = sym (tied_itself (key_total order.cmp total) b) ∙ subst (λ (k : Key). key_cmp order.cmp k b ≡ Less) same less in
      cc

  -- what comes before another entry has a lower internal key
  before_less : (a b : Entry) → ComesBefore order a b → key_cmp order.cmp (internal_key_of a) (internal_key_of b) ≡ Less
  before_less a b (inl less) = ap (λ (o : Ordering). ordering_then o (nat_cmp (tag_of (internal_key_of b)) (tag_of (internal_key_of a)))) less
  before_less a b (inr newer) =
      let tied : order.cmp a.key b.key ≡ Equal = ap (λ (k : List ℕ). order.cmp k b.key) newer.0 ∙ tied_itself total b.key in
      let most = kind_at_most (kind_of b.value) in
      ap (λ (o : Ordering). ordering_then o (nat_cmp (tag_of (internal_key_of b)) (tag_of (internal_key_of a)))) tied
      ∙ less_number (tag_of (internal_key_of b)) (tag_of (internal_key_of a)) (omega (arith, newer.1, most))

  -- the same of a kept entry and another one
  is_before : (a : InternalEntry) (b : Entry) → ComesBefore order (entry_of a) b → key_cmp order.cmp a.key (internal_key_of b) ≡ Less
  is_before a b before = ap (λ (k : Key). key_cmp order.cmp k (internal_key_of b)) (sym (key_again a)) ∙ before_less (entry_of a) b before

  comes_before : (a : Entry) (b : InternalEntry) → ComesBefore order a (entry_of b) → key_cmp order.cmp (internal_key_of a) b.key ≡ Less
  comes_before a b before = ap (λ (k : Key). key_cmp order.cmp (internal_key_of a) k) (sym (key_again b)) ∙ before_less a (entry_of b) before

  not_both : (a b : Key) → key_cmp order.cmp a b ≡ Less → key_cmp order.cmp b a ≡ Less → ⊥
  not_both a b less more = not_below_itself a a refl ((key_total order.cmp total).trans a b a less more)

  before_kept : (a b : InternalEntry) → ComesBefore order (entry_of a) (entry_of b) → key_cmp order.cmp a.key b.key ≡ Less
  before_kept a b before = (λ i. key_cmp order.cmp (sym (key_again a) i) (sym (key_again b) i)) ∙ before_less (entry_of a) (entry_of b) before

  -- ---- no entry after the last

  ends_all : (last : Entry) (largest : List ℕ) → IsKey largest (internal_key_of last) → (kept : List InternalEntry) → ((other : Entry) → Among (map entry_of kept) other → (other ≡ last) ⊎ ComesBefore order other last)
      → EndsBy order.cmp largest kept
  ends_all last largest its [] h = tt
  ends_all last largest its (entry ∷ kept) h = (
    λ bytes is below.
        let left : below.0 ≡ internal_key_of last = same_key largest below.0 (internal_key_of last) below.2 its in
        let right : below.1 ≡ entry.key = same_key bytes below.1 entry.key below.3 is in
        let less : key_cmp order.cmp (internal_key_of last) entry.key ≡ Less = (λ i. key_cmp order.cmp (sym left i) (sym right i)) ∙ below.4 in
        elim (h (entry_of entry) (inl refl)) [
          | inl same ↦ not_below_itself (internal_key_of last) entry.key (sym (ap internal_key_of same) ∙ key_again entry) less
          | inr before ↦ not_both entry.key (internal_key_of last) (is_before entry last before) less
        ],
    ends_all last largest its kept (λ other i. h other (inr i)),
  )

  -- ---- the edit's keys are those of the first and the last entry

  below_all : (entry : InternalEntry) (kept : List InternalEntry) (other : Entry) → AllByRecursion (λ (later : InternalEntry). key_cmp order.cmp entry.key later.key ≡ Less) kept → Among (map entry_of kept) other
      → key_cmp order.cmp entry.key (internal_key_of other) ≡ Less
  below_all entry [] other h i = absurd i
  below_all entry (x ∷ kept) other h (inl e) = ap (λ (k : Key). key_cmp order.cmp entry.key k) (ap internal_key_of e ∙ key_again x) ∙ h.0
  below_all entry (x ∷ kept) other h (inr i) = below_all entry kept other h.1 i

  first_is : (kept : List InternalEntry) (entry : InternalEntry) (first : Entry) → slice_get kept 0 ≡ Some entry → Rises order.cmp kept → Among (map entry_of kept) first
      → ((other : Entry) → Among (map entry_of kept) other → (other ≡ first) ⊎ ComesBefore order first other) → internal_key_of first ≡ entry.key
  first_is [] entry first at rises i least = absurd i
  first_is (x ∷ kept) entry first at rises (inl e) least = ap internal_key_of e ∙ key_again x ∙ ap (λ (y : InternalEntry). y.key) (let t : Some x ≡ Some entry = at in let same : x ≡ entry = cc in same)
  first_is (x ∷ kept) entry first at rises (inr i) least = absurd (elim (least (entry_of x) (inl refl)) [
    | inl e ↦ not_below_itself x.key (internal_key_of first) (sym (key_again x) ∙ ap internal_key_of e) (below_all x kept first rises.0 i)
    | inr before ↦ not_both (internal_key_of first) x.key (comes_before first x before) (below_all x kept first rises.0 i)
  ])

  last_is : (kept : List InternalEntry) (n : ℕ) (entry : InternalEntry) (last : Entry) → suc n ≡ length kept → slice_get kept n ≡ Some entry → Rises order.cmp kept → Among (map entry_of kept) last
      → ((other : Entry) → Among (map entry_of kept) other → (other ≡ last) ⊎ ComesBefore order other last) → internal_key_of last ≡ entry.key
  last_is [] n entry last long at rises i most = absurd i
  last_is (x ∷ []) zero entry last long at rises (inl e) most = ap internal_key_of e ∙ key_again x ∙ ap (λ (y : InternalEntry). y.key) (let t : Some x ≡ Some entry = at in let same : x ≡ entry = cc in same)
  last_is (x ∷ []) (suc n) entry last long at rises (inl e) most = absurd (omega (arith, long))
  last_is (x ∷ []) n entry last long at rises (inr i) most = absurd i
  last_is (x ∷ (y ∷ kept)) zero entry last long at rises i most = absurd (omega (arith, long))
  last_is (x ∷ (y ∷ kept)) (suc n) entry last long at rises (inl e) most = absurd (elim (most (entry_of y) (inr (inl refl))) [
    | inl f ↦ not_below_itself x.key y.key (sym (key_again x) ∙ ap internal_key_of (sym e ∙ sym f) ∙ key_again y) rises.0.0
    | inr before ↦ not_both y.key x.key (ap (λ (k : Key). key_cmp order.cmp y.key k) (sym (key_again x) ∙ ap internal_key_of (sym e)) ∙ is_before y last before) rises.0.0
  ])
  last_is (x ∷ (y ∷ kept)) (suc n) entry last long at rises (inr i) most = last_is (y ∷ kept) n entry last (omega (arith, long)) at rises.1 i (λ other j. most other (inr j))

  keys_of : (content : TableContent) (kept : List InternalEntry) → content.entries ≡ map entry_of kept → Rises order.cmp kept → FitsEdit order content → HasKeysOf content.placed kept
  keys_of content kept e rises fits = record {
    first = λ entry at. subst (λ (k : Key). IsKey content.placed.table.smallest k)
        (first_is kept entry fits.smallest.0 at rises (there fits.smallest.0 fits.smallest.1) (λ other i. fits.smallest.3 other (back other i))) fits.smallest.2;
    last = λ n entry long at. subst (λ (k : Key). IsKey content.placed.table.largest k)
        (last_is kept n entry fits.largest.0 long at rises (there fits.largest.0 fits.largest.1) (λ other i. fits.largest.3 other (back other i))) fits.largest.2;
  }
    where
      there : (other : Entry) → Among content.entries other → Among (map entry_of kept) other
      there other i = subst (λ (es : List Entry). Among es other) e i

      back : (other : Entry) → Among (map entry_of kept) other → Among content.entries other
      back other i = subst (λ (es : List Entry). Among es other) (sym e) i

  -- ---- lists one after the other

  rises_append : (xs ys : List InternalEntry) → Rises order.cmp xs → Rises order.cmp ys → ((x y : InternalEntry) → Among xs x → Among ys y → key_cmp order.cmp x.key y.key ≡ Less) → Rises order.cmp (xs ++ ys)
  rises_append [] ys r s less = s
  rises_append (x ∷ xs) ys r s less = (all_append (λ (later : InternalEntry). key_cmp order.cmp x.key later.key ≡ Less) xs ys r.0 (λ y i. less x y (inl refl) i), rises_append xs ys r.1 s (λ a b i j. less a b (inr i) j))
    where
      all_here : (P : InternalEntry → Type 0) (zs : List InternalEntry) → ((z : InternalEntry) → Among zs z → P z) → AllByRecursion P zs
      all_here P [] h = tt
      all_here P (z ∷ zs) h = (h z (inl refl), all_here P zs (λ y i. h y (inr i)))

      all_append : (P : InternalEntry → Type 0) (zs ws : List InternalEntry) → AllByRecursion P zs → ((w : InternalEntry) → Among ws w → P w) → AllByRecursion P (zs ++ ws)
      all_append P [] ws h k = all_here P ws k
      all_append P (z ∷ zs) ws h k = (h.0, all_append P zs ws h.1 k)

  among_entry : (kept : List InternalEntry) (x : InternalEntry) → Among kept x → Among (map entry_of kept) (entry_of x)
  among_entry [] x i = absurd i
  among_entry (y ∷ kept) x (inl e) = inl (ap entry_of e)
  among_entry (y ∷ kept) x (inr i) = inr (among_entry kept x i)

  among_either : (xs ys : List Entry) (b : Entry) → Among (xs ++ ys) b → Among xs b ⊎ Among ys b
  among_either [] ys b i = inr i
  among_either (x ∷ xs) ys b (inl e) = inl (inl e)
  among_either (x ∷ xs) ys b (inr i) = elim (among_either xs ys b i) [ inl j ↦ inl (inr j) | inr j ↦ inr j ]

  before_all : (entries : List Entry) (lists : List (List Entry)) → AllByRecursion (ComesAllBefore order entries) lists → (a b : Entry) → Among entries a → Among (joined_entries lists) b → ComesBefore order a b
  before_all entries [] h a b i j = absurd j
  before_all entries (list ∷ lists) h a b i j = elim (among_either list (joined_entries lists) b j) [
    | inl k ↦ h.0 a b i k
    | inr k ↦ before_all entries lists h.1 a b i k
  ]

  map_append : (xs ys : List InternalEntry) → map entry_of (xs ++ ys) ≡ map entry_of xs ++ map entry_of ys
  map_append [] ys = refl
  map_append (x ∷ xs) ys = ap (λ (es : List Entry). entry_of x ∷ es) (map_append xs ys)

  -- ---- the lists of a row

  pub record HasRow (source : Seen) (contents : List TableContent) : Type 0 where
    pub lists : List (List InternalEntry)
    pub have : HaveLists order.cmp source (placed_of contents) lists
    pub same : map entry_of (joined lists) ≡ joined_entries (lists_of contents)
    pub rises : Rises order.cmp (joined lists)

  has_list : (source : Seen) (content : TableContent) → IsSound order.cmp source → (may : MayHold (MayBeTable order.cmp) source.facts.files content) → FitsEdit order content → HasList order.cmp source content.placed may.kept
  has_list source content sound may fits = record {
    positive = may.numbered.0;
    file = may.bytes;
    there = record { sound = sound; file_is = may.there };
    spelled = may.held;
    keys = keys_of content may.kept may.entries_are may.held.rises fits;
    ends = ends_all fits.largest.0 content.placed.table.largest fits.largest.2 may.kept (λ other i. fits.largest.3 other (subst (λ (es : List Entry). Among es other) (sym may.entries_are) i));
  }

  pub has_row : (source : Seen) (contents : List TableContent) → IsSound order.cmp source → MayBeTables order source.facts.files contents → AreInRow order (lists_of contents) → HasRow source contents
  has_row source [] sound may row = record { lists = []; have = tt; same = refl; rises = tt }
  has_row source (content ∷ contents) sound may row =
      let rest = has_row source contents sound may.1 row.2 in
      let kept = may.0.0.kept in
      let same = may.0.0.entries_are in
      record {
        lists = kept ∷ rest.lists;
        have = (has_list source content sound may.0.0 may.0.1, rest.have);
        same = map_append kept (joined rest.lists) ∙ (λ i. sym same i ++ rest.same i);
        rises = rises_append kept (joined rest.lists) may.0.0.held.rises rest.rises
            (λ x y i j.
            before_kept x y
            (before_all content.entries (lists_of contents) row.1 (entry_of x) (entry_of y) (subst (λ (es : List Entry). Among es (entry_of x)) (sym same) (among_entry kept x i))
            (subst (λ (es : List Entry). Among es (entry_of y)) rest.same (among_entry (joined rest.lists) y j))));
      }

  -- tables that the files have may have their entries
  pub may_be_tables : (files : Files) (contents : List TableContent) → HasTables order files contents → MayBeTables order files contents
  may_be_tables files [] has = tt
  may_be_tables files (content ∷ contents) has = (
    (
      record {
        numbered = has.0.numbered;
        bytes = has.0.bytes;
        there = has.0.there;
        kept = has.0.spelled.0;
        held = may_be order.cmp total content.placed has.0.bytes has.0.spelled.0 has.0.spelled.1;
        entries_are = has.0.spelled.2;
      },
      fits_edit order files content has.0,
    ),
    may_be_tables files contents has.1,
  )

  -- A cursor that stands nowhere in a row of tables is the list of their entries.
  pub row_has_list : {K : Type 0} {g : _} (source : Seen) (contents : List TableContent) → IsSound order.cmp source → MayBeTables order source.facts.files contents → AreInRow order (lists_of contents)
      → (entries : List InternalEntry) × (map entry_of entries ≡ joined_entries (lists_of contents))
      × ((cursor : RowCursor K g) → rows_tables cursor ≡ placed_of contents → cursor.here ≡ None → ListsRow order.cmp source cursor (listed entries None))
  row_has_list {K} {g} source contents sound has row =
      let b = has_row source contents sound has row in (
        joined b.lists,
        b.same,
        λ cursor e nowhere. record {
          lists = b.lists;
          sound = sound;
          tables = subst (λ (tables : List PlacedTable). HaveLists order.cmp source tables b.lists) (sym e) b.have;
          entries_are = refl;
          rises = b.rises;
          inside = λ index bad. let never : None ≡ Some index = bad in absurd cc;
          place = subst (λ (here : Option (InTable K g)). IsPlacedRow order.cmp source b.lists here None) (sym nowhere) refl;
        },
      )

  -- ---- tables that are whole

  whole_one : (source : Seen) (content : TableContent) (cut : Cut) → IsSound order.cmp source → HasTable order source.facts.files content → IsTornOne order.cmp source content.placed cut → ⊥
  whole_one source content cut sound has torn =
      let table = has.spelled.1 in
      let keys : HasKeysOf content.placed has.spelled.0 = record { first = first_kept order total source.facts.files content has; last = last_kept order total source.facts.files content has } in
      elim (torn has.bytes (record { sound = sound; file_is = has.there })) [
        | inl damaged ↦ damaged.0 table.0 table.1
        | inr block ↦ none_torn order.cmp content.placed has.bytes has.spelled.0 table keys block.0 block.1.0 cut block.2
      ]

  pub whole_all : (source : Seen) (contents : List TableContent) → IsSound order.cmp source → HasTables order source.facts.files contents → (placed : PlacedTable) → Contains (placed_of contents) placed → (cut : Cut) → IsTornOne order.cmp source placed cut → ⊥
  whole_all source [] sound has placed i cut torn = absurd (in_none placed i)
  whole_all source (content ∷ contents) sound has placed i cut torn = elim (in_cons content.placed (placed_of contents) placed i) [
    | inl same ↦ whole_one source content cut sound has.0 (subst (λ (p : PlacedTable). IsTornOne order.cmp source p cut) (sym same) torn)
    | inr later ↦ whole_all source contents sound has.1 placed later cut torn
  ]

  -- A cursor that has opened none of the tables of a consistent directory comes to no block that is
  -- none.
  pub row_whole : {K : Type 0} {g : _} (source : Seen) (contents : List TableContent) → IsSound order.cmp source → HasTables order source.facts.files contents → (cursor : RowCursor K g) → rows_tables cursor ≡ placed_of contents → cursor.here ≡ None
      → (cut : Cut) → IsRowTorn order.cmp source cursor cut → ⊥
  row_whole {K} {g} source contents sound has cursor e nowhere cut (inl one) =
      whole_all source contents sound has one.placed (subst (λ (tables : List PlacedTable). Contains tables one.placed) e (member_at (rows_tables cursor) one.index one.placed one.placed_is)) cut one.torn
  row_whole {K} {g} source contents sound has cursor e nowhere cut (inr open_one) = absurd (subst (λ (here : Option (InTable K g)). IsOpenTorn order.cmp source (rows_tables cursor) here cut) nowhere open_one)
