-- A new scan over a memtable and the tables of a version.
use Rattle.std.proofs.Common.{◌≡◌, ◌-◌, ◌++◌, ◌≤◌, ℕ, zero, suc, false, Option, Some, None, is_some, List, [], ◌∷◌, drop, length, map, take, refl, sym, ap, ◌∙◌, subst, inl, inr, arith}
use Rattle.std.specs.Cmp.{IsTotalOrder}
use Rattle.std.specs.Prelude.{Contains, slice_get}
use Rattle.std.specs.List.{AllByRecursion}
use Rattle.std.specs.Option.{option_map}
use Rattle.std.proofs.lemmas.List.{drop-map, length-map, take-map}
use Rattle.cursor.specs.declared.child.Child.{Child}
use Rattle.cursor.specs.declared.child.Side.{Side}
use Rattle.cursor.specs.declared.child.Side.TheVariants.{Astray}
use Rattle.cursor.specs.Cuts.{Cut}
use Rattle.cursor.specs.Merging.{AnyLimited, AnyTorn, IsBeside, IsMerge, IsUnion, listed}
use Rattle.cursor.specs.Places.{Cmp, Rises}
use Rattle.cursor.specs.Sharing.{ShareNoKey}
use Rattle.edits.specs.declared.field.PlacedTable.{PlacedTable}
use Rattle.ikey.specs.declared.entry.Entry.{Entry}
use Rattle.ikey.specs.Entries.{InternalEntry, entry_of}
use Rattle.ikey.specs.Orders.{Order}
use Rattle.ikey.specs.declared.key_order.KeyOrder.{Ghosts}
use Rattle.ikey.specs.Sources.{AreInRow, AreSearched, AreSorted, joined}
use Rattle.ikey.proofs.SearchedSources as sources
use Rattle.recover.specs.Tables.{TableContent}
use Rattle.recover.proofs.NameScan.{in_cons, in_none}
use Rattle.level_cursor.specs.declared.row_cursor.RowCursor.{RowCursor}
use Rattle.level_cursor.specs.InRows.{ListsNumber, HaveLists, IsOpenLimited, IsOpenNumber, IsOpenTorn, IsTornFile}
use Rattle.level_cursor.specs.RowLists.{member_at}
use Rattle.level_cursor.specs.Rows.{ListsRow, MayBeTables, rows_tables}
use Rattle.level_cursor.proofs.Beginning.{whole_all}
use Rattle.db_cursor.specs.declared.source_cursor.SourceCursor.{SourceCursor}
use Rattle.db_cursor.specs.declared.source_cursor.SourceCursor.TheVariants.{Memory, Row}
use Rattle.db_cursor.specs.Places.{GoesOver, ListsSource, KeepsSource, LimitedSource, OneGoesOver, TornSource}
use Rattle.memtables.specs.Memories.{AreMemories, Memories, sealed_inserts, table_in}
use Rattle.memtables.specs.Places.{ListsMemories, MemoriesPlace}
use Rattle.memtable.specs.Contents.{Contents as MemoryContents}
use Rattle.db_cursor.specs.Rows.{IsGenerationOf}
use Rattle.db_cursor.specs.internal.Rows.{OfMemory, OfRow, memory_spots, place_in, spot_of, spots_of}
use Rattle.db_cursor.specs.Scans.{IsOnePastLimit, IsOneTornFile, KeepsWhole}
use Rattle.db_cursor.specs.internal.SourceLaws.{source_rises}
use Rattle.db_cursor.specs.Whole.{Whole}
use Rattle.db_cursor.proofs.Joining.{all_entries, entries_of, share_none}
use Rattle.db_cursor.proofs.Slices.{IsRow, Kept, LevelsRise, all_ranges, may_be_each, all_rows, entries_in, kept_joined, kept_searched, kept_sources, placed_of, slice}
use Rattle.version_laws.specs.Places.{HasVersion, MayHaveVersion, lists_of, table_sources}
use Rattle.version_laws.proofs.Orders.{ForTwo, for_two}
use Rattle.db_cursor.proofs.ReadTables.{current_there, files_kept, row_kept, sealed_there}
use Rattle.table_access.specs.Memory.{seen_entries}
use Rattle.table_access.specs.Possible.{MayBeTable}
use Rattle.table_access.specs.Tables.{Seen, HasSoundTable, IsSound}
use Rattle.std.proofs.lemmas.Option.{slice_get-map}
use Rattle.store.specs.Files.{Files}
use Rattle.versions.specs.Levels.{AreInOrder, StandsBefore}

-- ---- two lists, side by side

abbrev pub AllTwo : {A B : Type 0} → (A → B → Type 0) → List A → List B → Type 0
AllTwo P [] [] = Unit {0}
AllTwo P (x ∷ xs) (y ∷ ys) = P x y × AllTwo P xs ys
AllTwo P xs ys = ⊥

two_long : {A B : Type 0} (P : A → B → Type 0) (xs : List A) (ys : List B) → AllTwo P xs ys → length xs ≡ length ys
two_long P [] [] h = refl
two_long P [] (y ∷ ys) h = absurd h
two_long P (x ∷ xs) [] h = absurd h
two_long P (x ∷ xs) (y ∷ ys) h = ap suc (two_long P xs ys h.1)

two_at : {A B : Type 0} (P : A → B → Type 0) (xs : List A) (ys : List B) (i : ℕ) (x : A) (y : B) → AllTwo P xs ys → slice_get xs i ≡ Some x → slice_get ys i ≡ Some y → P x y
two_at P [] ys i x y h a b = absurd (cc)
two_at P (x ∷ xs) [] i a b h c d = absurd h
two_at P (x ∷ xs) (y ∷ ys) zero a b h c d =
    let first : x ≡ a = cc in
    let second : y ≡ b = cc in
    subst (λ z. P z b) first (subst (λ z. P x z) second h.0)
two_at P (x ∷ xs) (y ∷ ys) (suc i) a b h c d = two_at P xs ys i a b h.1 c d

-- what the one has, the other has beside it
pub two_has : {A B : Type 0} (P : A → B → Type 0) (xs : List A) (ys : List B) (i : ℕ) (x : A) → AllTwo P xs ys → slice_get xs i ≡ Some x → (y : B) × P x y
two_has P [] ys i x h a = absurd (cc)
two_has P (x ∷ xs) [] i a h b = absurd h
two_has P (x ∷ xs) (y ∷ ys) zero a h b = let first : x ≡ a = cc in (y, subst (λ z. P z y) first h.0)
two_has P (x ∷ xs) (y ∷ ys) (suc i) a h b = two_has P xs ys i a h.1 b

pub all_at : {A : Type 0} (P : A → Type 0) (xs : List A) (i : ℕ) (x : A) → AllByRecursion P xs → slice_get xs i ≡ Some x → P x
all_at P [] i x h a = absurd (cc)
all_at P (x ∷ xs) zero a h b = let first : x ≡ a = cc in subst P first h.0
all_at P (x ∷ xs) (suc i) a h b = all_at P xs i a h.1 b

none_of : {A : Type 0} (o : Option A) → is_some o ≡ false → o ≡ None
none_of None e = refl
none_of (Some x) e = absurd (cc)

-- ---- tables of a version

levels_behind : (cmp : Cmp) (c : TableContent) (contents : List TableContent) → AllByRecursion (StandsBefore cmp c.placed) (placed_of contents) → AllByRecursion (λ (other : TableContent). c.placed.level ≤ other.placed.level) contents
levels_behind cmp c [] h = tt
levels_behind cmp c (d ∷ contents) h = (
  elim h.0 [ inl less ↦ omega (arith, less) | inr same ↦ (let e = same.0 in omega (arith, e)) ],
  levels_behind cmp c contents h.1,
)

pub levels_rise : (cmp : Cmp) (contents : List TableContent) → ForTwo (StandsBefore cmp) (placed_of contents) → LevelsRise contents
levels_rise cmp [] h = tt
levels_rise cmp (c ∷ contents) h = (levels_behind cmp c contents h.0, levels_rise cmp contents h.1)

contains_more : (first : PlacedTable) (tables : List PlacedTable) (placed : PlacedTable) → Contains tables placed → Contains (first ∷ tables) placed
contains_more first tables placed i = (suc i.0, (let less = i.1 in omega (arith, less)), i.2)

contains_front : (n : ℕ) (tables : List PlacedTable) (placed : PlacedTable) → Contains (take n tables) placed → Contains tables placed
contains_front zero [] placed i = i
contains_front zero (t ∷ tables) placed i = absurd (in_none placed i)
contains_front (suc n) [] placed i = i
contains_front (suc n) (t ∷ tables) placed i = elim (in_cons t (take n tables) placed i) [
  | inl e ↦ (0, omega arith, e)
  | inr j ↦ contains_more t tables placed (contains_front n tables placed j)
]

contains_rest : (n : ℕ) (tables : List PlacedTable) (placed : PlacedTable) → Contains (drop n tables) placed → Contains tables placed
contains_rest zero [] placed i = i
contains_rest zero (t ∷ tables) placed i = i
contains_rest (suc n) [] placed i = i
contains_rest (suc n) (t ∷ tables) placed i = contains_more t tables placed (contains_rest n tables placed i)

-- a table of a row is one of its version
row_within : {K : Type 0} {g : _} (cursor : RowCursor K g) (placed : PlacedTable) → Contains (rows_tables cursor) placed → Contains cursor.version.value.tables placed
row_within cursor placed i =
    contains_rest cursor.from cursor.version.value.tables placed (contains_front (cursor.end - cursor.from) (drop cursor.from cursor.version.value.tables) placed i)

-- a table of a row has its file
has_file : (cmp : Cmp) (source : Seen) (tables : List PlacedTable) (lists : List (List InternalEntry)) (placed : PlacedTable) → HaveLists cmp source tables lists → Contains tables placed → (file : List ℕ) × HasSoundTable cmp source placed.table.number file
has_file cmp source [] lists placed h i = absurd (in_none placed i)
has_file cmp source (t ∷ tables) [] placed h i = absurd h
has_file cmp source (t ∷ tables) (list ∷ lists) placed h i = elim (in_cons t tables placed i) [
  | inl e ↦ (h.0.file, subst (λ (p : PlacedTable). HasSoundTable cmp source p.table.number h.0.file) e h.0.there)
  | inr j ↦ has_file cmp source tables lists placed h.1 j
]

-- ---- new cursors

abbrev pub cursors_of : {C : Type 0} → List (Child C) → List C
cursors_of {C} children = map (λ (child : Child C). child.cursor) children

pub cursor_at : {C : Type 0} (children : List (Child C)) (i : ℕ) (child : Child C) → slice_get children i ≡ Some child → slice_get (cursors_of children) i ≡ Some child.cursor
cursor_at {C} children i child is = slice_get-map (λ (c : Child C). c.cursor) children i ∙ ap (option_map (λ (c : Child C). c.cursor)) is

-- a new cursor over a memtable that is read and no entries above the sequence number, or over these
-- tables
abbrev pub IsNew : {K : Type 0} {g : _} → (ℕ → Type 0) → ℕ → List PlacedTable → SourceCursor K g → Type 0
IsNew reads sequence tables (Memory cursor) = reads cursor.generation × (cursor.place.sequence ≤ sequence)
IsNew reads sequence tables (Row cursor) = (cursor.here ≡ None) × (cursor.version.value.tables ≡ tables)

module _ {K : Type 0} {g : _} (reads : ℕ → Type 0) (sequence : ℕ) (tables : List PlacedTable) where
  abbrev pub New : SourceCursor K g → Type 0
  New cursor = IsNew reads sequence tables cursor

  new_row : (cursor : SourceCursor K g) (range : ℕ × ℕ) → spot_of cursor ≡ OfRow tables range.0 range.1 false → New cursor
  new_row (Memory cursor) range e = absurd (cc)
  new_row (Row cursor) range e =
      let none : is_some cursor.here ≡ false = cc in
      let same : cursor.version.value.tables ≡ tables = cc in
      (none_of cursor.here none, same)

  pub new_rows : (ranges : List (ℕ × ℕ)) (cursors : List (SourceCursor K g)) → map spot_of cursors ≡ spots_of tables ranges → AllByRecursion New cursors
  new_rows [] [] e = tt
  new_rows [] (c ∷ cursors) e = absurd (cc)
  new_rows (r ∷ ranges) [] e = absurd (cc)
  new_rows (r ∷ ranges) (c ∷ cursors) e =
      let first : spot_of c ≡ OfRow tables r.0 r.1 false = cc in
      let rest : map spot_of cursors ≡ spots_of tables ranges = cc in
      (new_row c r first, new_rows ranges cursors rest)

  pub keeps_new : (cmp : Cmp) (numbers : ℕ → Type 0) (cursor : SourceCursor K g) (old new : Whole) → ((number : ℕ) → GoesOver cursor number → numbers number) → New cursor
      → KeepsWhole cmp reads numbers sequence old new → KeepsSource cmp cursor old new
  keeps_new cmp numbers (Memory cursor) old new over h k = k.memory cursor h.0 h.1
  keeps_new cmp numbers (Row cursor) old new over h k = row_kept cmp numbers old.seen new.seen cursor over (files_kept cmp reads numbers sequence old new k)

  over_new : (cursor : SourceCursor K g) (number : ℕ) → New cursor → GoesOver cursor number → ListsNumber tables number
  over_new (Memory cursor) number h over = absurd over
  over_new (Row cursor) number h (inl has) = (has.0, subst (λ (ts : List PlacedTable). Contains ts has.0) h.1 (row_within cursor has.0 has.1), has.2)
  over_new (Row cursor) number h (inr is) = absurd (subst (λ o. IsOpenNumber o number) h.0 is)

  limited_new : (cmp : Cmp) (cursor : SourceCursor K g) (whole : Whole) (list : List InternalEntry) → New cursor → ListsSource cmp cursor whole (listed list None) → LimitedSource cmp cursor whole → IsOnePastLimit cmp tables whole
  limited_new cmp (Memory cursor) whole list h lists l = absurd l
  limited_new cmp (Row cursor) whole list h lists (inl l) =
      let file = has_file cmp whole.seen (rows_tables cursor) lists.lists l.0 lists.tables l.1 in
      (l.0, subst (λ (ts : List PlacedTable). Contains ts l.0) h.1 (row_within cursor l.0 l.1), file.0, file.1.file_is, l.2 file.0 file.1)
  limited_new cmp (Row cursor) whole list h lists (inr l) = absurd (subst (λ o. IsOpenLimited o) h.0 l)

  torn_new : (cmp : Cmp) (cursor : SourceCursor K g) (whole : Whole) (list : List InternalEntry) → New cursor → ListsSource cmp cursor whole (listed list None) → (cut : Cut) → TornSource cmp cursor whole cut → IsOneTornFile cmp tables whole cut
  torn_new cmp (Memory cursor) whole list h lists cut t = absurd t
  torn_new cmp (Row cursor) whole list h lists cut (inl t) =
      let there = member_at (rows_tables cursor) t.index t.placed t.placed_is in
      let file = has_file cmp whole.seen (rows_tables cursor) lists.lists t.placed lists.tables there in
      (t.placed, subst (λ (ts : List PlacedTable). Contains ts t.placed) h.1 (row_within cursor t.placed there), file.0, file.1.file_is, t.torn file.0 file.1)
  torn_new cmp (Row cursor) whole list h lists cut (inr t) = absurd (subst (λ o. IsOpenTorn cmp whole.seen (rows_tables cursor) o cut) h.0 t)

  module _ (children : List (Child (SourceCursor K g))) (news : AllByRecursion New (cursors_of children)) where
    pub new_at : (i : ℕ) (child : Child (SourceCursor K g)) → slice_get children i ≡ Some child → New child.cursor
    new_at i child is = all_at New (cursors_of children) i child.cursor news (cursor_at children i child is)

    -- new cursors go over no other tables than these
    pub all_over : (number : ℕ) → OneGoesOver children number → ListsNumber tables number
    all_over number over = over_new over.1.cursor number (new_at over.0 over.1 over.2) over.3

    -- and pass a limit only where the file of one of these does
    pub all_limited : (cmp : Cmp) (whole : Whole) (lists : List (List InternalEntry)) → AllTwo (λ (cursor : SourceCursor K g) (list : List InternalEntry). ListsSource cmp cursor whole (listed list None)) (cursors_of children) lists
        → AnyLimited (LimitedSource cmp) children whole → IsOnePastLimit cmp tables whole
    all_limited cmp whole lists each l =
        let list = two_has (λ (cursor : SourceCursor K g) (list : List InternalEntry). ListsSource cmp cursor whole (listed list None)) (cursors_of children) lists l.0 l.1.cursor each (cursor_at children l.0 l.1 l.2) in
        limited_new cmp l.1.cursor whole list.0 (new_at l.0 l.1 l.2) list.1 l.3

    -- and come to torn blocks only where the file of one of these has some
    pub all_torn : (cmp : Cmp) (whole : Whole) (lists : List (List InternalEntry)) → AllTwo (λ (cursor : SourceCursor K g) (list : List InternalEntry). ListsSource cmp cursor whole (listed list None)) (cursors_of children) lists
        → (cut : Cut) → AnyTorn (TornSource cmp) children whole cut → IsOneTornFile cmp tables whole cut
    all_torn cmp whole lists each cut t =
        let list = two_has (λ (cursor : SourceCursor K g) (list : List InternalEntry). ListsSource cmp cursor whole (listed list None)) (cursors_of children) lists t.0 t.1.cursor each (cursor_at children t.0 t.1 t.2) in
        torn_new cmp t.1.cursor whole list.0 (new_at t.0 t.1 t.2) list.1 cut t.3

-- the files of a version that is there aren't torn
pub version_intact : (order : Order) → IsTotalOrder order.cmp → (whole : Whole) (tables : List PlacedTable) (contents : List TableContent) → IsSound order.cmp whole.seen → HasVersion order whole.seen.facts.files tables contents
    → (cut : Cut) → IsOneTornFile order.cmp tables whole cut → ⊥
version_intact order total whole tables contents sound has cut one =
    whole_all order total whole.seen contents sound has.are one.0 (subst (λ (ts : List PlacedTable). Contains ts one.0) (sym has.placed) one.1) cut
    (λ file there.
    let both : Some one.2 ≡ Some file = sym one.3 ∙ there.file_is in
    let same : one.2 ≡ file = cc in
    subst (λ (bytes : List ℕ). IsTornFile order.cmp one.0 bytes cut) same one.4)

module _ {K : Type 0} {g : _} (generation : ℕ) (sealed : Option ℕ) (sequence : ℕ) (tables : List PlacedTable) where
  abbrev NewOver : SourceCursor K g → Type 0
  NewOver cursor = IsNew (IsGenerationOf generation sealed) sequence tables cursor

  new_memory : (cursor : SourceCursor K g) (named : ℕ) → IsGenerationOf generation sealed named → spot_of cursor ≡ OfMemory (place_in sequence named) → NewOver cursor
  new_memory (Row cursor) named is e = absurd (cc)
  new_memory (Memory cursor) named is e =
      let same : place_in sequence named ≡ cursor = cc in
      subst (λ (p : MemoriesPlace). IsGenerationOf generation sealed p.generation × (p.place.sequence ≤ sequence)) same (is, omega arith)

  new_all : (o : Option ℕ) (ranges : List (ℕ × ℕ)) (cursors : List (SourceCursor K g)) → sealed ≡ o → map spot_of cursors ≡ memory_spots sequence generation o ++ spots_of tables ranges → AllByRecursion NewOver cursors
  new_all None ranges [] is e = absurd (cc)
  new_all None ranges (c ∷ cursors) is e =
      let first : spot_of c ≡ OfMemory (place_in sequence generation) = cc in
      let rest : map spot_of cursors ≡ spots_of tables ranges = cc in
      (new_memory c generation (inl refl) first, new_rows (IsGenerationOf generation sealed) sequence tables ranges cursors rest)
  new_all (Some named) ranges [] is e = absurd (cc)
  new_all (Some named) ranges (c ∷ []) is e = absurd (cc)
  new_all (Some named) ranges (c ∷ d ∷ cursors) is e =
      let first : spot_of c ≡ OfMemory (place_in sequence generation) = cc in
      let second : spot_of d ≡ OfMemory (place_in sequence named) = cc in
      let rest : map spot_of cursors ≡ spots_of tables ranges = cc in
      (new_memory c generation (inl refl) first, (new_memory d named (inr is) second, new_rows (IsGenerationOf generation sealed) sequence tables ranges cursors rest))

  pub all_new : (ranges : List (ℕ × ℕ)) (cursors : List (SourceCursor K g)) → map spot_of cursors ≡ memory_spots sequence generation sealed ++ spots_of tables ranges → AllByRecursion NewOver cursors
  all_new ranges cursors e = new_all sealed ranges cursors refl e

-- ---- what they list

-- what is listed of the memtables
abbrev pub seen_current : Cmp → Memories → ℕ → List InternalEntry
seen_current cmp memory sequence = seen_entries cmp memory.current.inserts sequence

abbrev pub seen_sealed : Cmp → Memories → ℕ → List InternalEntry
seen_sealed cmp memory sequence = seen_entries cmp (sealed_inserts memory) sequence

-- that of the sealed table, if there is one, before others
abbrev pub in_front : Cmp → Memories → ℕ → Option ℕ → List (List InternalEntry) → List (List InternalEntry)
in_front cmp memory sequence None lists = lists
in_front cmp memory sequence (Some named) lists = seen_sealed cmp memory sequence ∷ lists

-- each row of tables is a list
abbrev pub RowsBegin : (K : Type 0) → Ghosts K → Order → Type 0
RowsBegin K g order = (source : Seen) (row : List TableContent) → IsSound order.cmp source → MayBeTables order source.facts.files row → AreInRow order (lists_of row)
    → (entries : List InternalEntry) × (map entry_of entries ≡ joined (lists_of row)) × ((cursor : RowCursor K g) → rows_tables cursor ≡ placed_of row → cursor.here ≡ None → ListsRow order.cmp source cursor (listed entries None))

-- lists that share no key have a union
abbrev pub HaveUnions : Cmp → Type 0
HaveUnions cmp = (lists : List (List InternalEntry)) → ((i : ℕ) (list : List InternalEntry) → slice_get lists i ≡ Some list → Rises cmp list) → ShareNoKey lists → (union : List InternalEntry) × IsUnion cmp lists union

rows_sorted : (order : Order) (files : Files) (contents : List TableContent) (ranges : List (ℕ × ℕ)) → AllByRecursion (IsRow order files contents) ranges → AllByRecursion (AreSorted order) (map (entries_in contents) ranges)
rows_sorted order files contents [] h = tt
rows_sorted order files contents (range ∷ ranges) h = (sources.in_row order (lists_of (slice range contents)) h.0.1, rows_sorted order files contents ranges h.1)

module _ {K : Type 0} {g : _} (order : Order) (whole : Whole) (tables : List PlacedTable) (contents : List TableContent) (has : MayHaveVersion (MayBeTable order.cmp) order whole.seen.facts.files tables contents) (in_order : AreInOrder order.cmp tables)
    (sound : IsSound order.cmp whole.seen) (begins : RowsBegin K g order) where
  abbrev pub Lists : SourceCursor K g → List InternalEntry → Type 0
  Lists cursor list = ListsSource order.cmp cursor whole (listed list None)

  row_listed : (cursor : SourceCursor K g) (range : ℕ × ℕ) → spot_of cursor ≡ OfRow tables range.0 range.1 false → IsRow order whole.seen.facts.files contents range
      → (list : List InternalEntry) × (entries_of list ≡ entries_in contents range) × Lists cursor list
  row_listed (Memory cursor) range e row = absurd (cc)
  row_listed (Row cursor) range e row =
      let none : is_some cursor.here ≡ false = cc in
      let same : cursor.version.value.tables ≡ tables = cc in
      let from : cursor.from ≡ range.0 = cc in
      let end : cursor.end ≡ range.1 = cc in
      let over : rows_tables cursor ≡ slice range (placed_of contents) = λ i. take (end i - from i) (drop (from i) ((same ∙ sym has.fit.placed) i)) in
      let mapped : slice range (placed_of contents) ≡ placed_of (slice range contents) =
      ap (take (range.1 - range.0)) (drop-map (λ (t : TableContent). t.placed) range.0 contents) ∙ take-map (λ (t : TableContent). t.placed) (range.1 - range.0) (drop range.0 contents) in
      let list = begins whole.seen (slice range contents) sound row.0 row.1 in
      (list.0, list.1, list.2 cursor (over ∙ mapped) (none_of cursor.here none))

  rows_listed : (ranges : List (ℕ × ℕ)) (cursors : List (SourceCursor K g)) → map spot_of cursors ≡ spots_of tables ranges → AllByRecursion (IsRow order whole.seen.facts.files contents) ranges
      → (lists : List (List InternalEntry)) × (all_entries lists ≡ map (entries_in contents) ranges) × AllTwo Lists cursors lists
  rows_listed [] [] e rows = ([], refl, tt)
  rows_listed [] (c ∷ cursors) e rows = absurd (cc)
  rows_listed (r ∷ ranges) [] e rows = absurd (cc)
  rows_listed (r ∷ ranges) (c ∷ cursors) e rows =
      let first : spot_of c ≡ OfRow tables r.0 r.1 false = cc in
      let rest : map spot_of cursors ≡ spots_of tables ranges = cc in
      let here = row_listed c r first rows.0 in
      let others = rows_listed ranges cursors rest rows.1 in
      (here.0 ∷ others.0, (λ i. here.1 i ∷ others.1 i), (here.2, others.2))

  -- The lists of all rows: their entries together are those of the places where the version is
  -- searched, in this turn, and each is sorted.
  abbrev pub Rows : List (SourceCursor K g) → Type 0
  Rows cursors = (lists : List (List InternalEntry)) × AllTwo Lists cursors lists × (joined (all_entries lists) ≡ joined (table_sources contents)) × AreSearched (all_entries lists) × AllByRecursion (AreSorted order) (all_entries lists)

  pub all_rows_listed : (cursors : List (SourceCursor K g)) → map spot_of cursors ≡ spots_of tables (all_ranges tables) → Rows cursors
  all_rows_listed cursors e =
      let files = whole.seen.facts.files in
      let rise = levels_rise order.cmp contents (subst (λ (ts : List PlacedTable). ForTwo (StandsBefore order.cmp) ts) (sym has.fit.placed) (for_two (StandsBefore order.cmp) tables in_order.places)) in
      let rows = subst (λ (ts : List PlacedTable). AllByRecursion (IsRow order files contents) (all_ranges ts)) has.fit.placed (all_rows order files contents rise (may_be_each order files contents has.may has.fit.each) has.fit.rows) in
      let kept = subst (λ (ts : List PlacedTable). Kept (map (entries_in contents) (all_ranges ts)) (table_sources contents)) has.fit.placed (kept_sources contents rise) in
      let listing = rows_listed (all_ranges tables) cursors e rows in (
        listing.0,
        listing.2,
        ap joined listing.1 ∙ kept_joined _ _ kept,
        subst AreSearched (sym listing.1) (kept_searched _ _ kept has.fit.searched),
        subst (AllByRecursion (AreSorted order)) (sym listing.1) (rows_sorted order files contents (all_ranges tables) rows),
      )

  module _ (sequence : ℕ) (are : AreMemories whole.memory)
      (memory : (generation : ℕ) (table : MemoryContents) → IsGenerationOf whole.memory.generation whole.memory.sealed generation → table_in whole.memory generation ≡ Some table
      → ListsMemories order.cmp (place_in sequence generation) whole.memory (listed (seen_entries order.cmp table.inserts sequence) None)) where
    memory_listed : (cursor : SourceCursor K g) (named : ℕ) (table : MemoryContents) (inserts : List Entry) → table.inserts ≡ inserts → IsGenerationOf whole.memory.generation whole.memory.sealed named → table_in whole.memory named ≡ Some table
        → spot_of cursor ≡ OfMemory (place_in sequence named) → Lists cursor (seen_entries order.cmp inserts sequence)
    memory_listed (Row cursor) named table inserts equal is there e = absurd (cc)
    memory_listed (Memory cursor) named table inserts equal is there e =
        let same : place_in sequence named ≡ cursor = cc in
        subst (λ (p : MemoriesPlace). ListsMemories order.cmp p whole.memory (listed (seen_entries order.cmp inserts sequence) None)) same
        (subst (λ (es : List Entry). ListsMemories order.cmp (place_in sequence named) whole.memory (listed (seen_entries order.cmp es sequence) None)) equal (memory named table is there))

    abbrev Listing : Option ℕ → List (SourceCursor K g) → Type 0
    Listing o cursors = (behind : List (SourceCursor K g)) × (rows : Rows behind) × AllTwo Lists cursors (seen_current order.cmp whole.memory sequence ∷ in_front order.cmp whole.memory sequence o rows.0)

    listed_with : (o : Option ℕ) (cursors : List (SourceCursor K g)) → whole.memory.sealed ≡ o → map spot_of cursors ≡ memory_spots sequence whole.memory.generation o ++ spots_of tables (all_ranges tables) → Listing o cursors
    listed_with None [] is e = absurd (cc)
    listed_with None (c ∷ cursors) is e =
        let first : spot_of c ≡ OfMemory (place_in sequence whole.memory.generation) = cc in
        let rest : map spot_of cursors ≡ spots_of tables (all_ranges tables) = cc in
        let others = all_rows_listed cursors rest in
        (cursors, others, (memory_listed c whole.memory.generation whole.memory.current whole.memory.current.inserts refl (inl refl) (current_there whole.memory) first, others.1))
    listed_with (Some named) [] is e = absurd (cc)
    listed_with (Some named) (c ∷ []) is e = absurd (cc)
    listed_with (Some named) (c ∷ d ∷ cursors) is e =
        let first : spot_of c ≡ OfMemory (place_in sequence whole.memory.generation) = cc in
        let second : spot_of d ≡ OfMemory (place_in sequence named) = cc in
        let rest : map spot_of cursors ≡ spots_of tables (all_ranges tables) = cc in
        let others = all_rows_listed cursors rest in
        let there = sealed_there whole.memory named are is in (
          cursors,
          others,
          (
            memory_listed c whole.memory.generation whole.memory.current whole.memory.current.inserts refl (inl refl) (current_there whole.memory) first,
            (memory_listed d named there.table (sealed_inserts whole.memory) (sym there.inserts) (inr is) there.there second, others.1),
          ),
        )

    -- the memtables' entries before those of the tables
    pub all_listed : (cursors : List (SourceCursor K g)) → map spot_of cursors ≡ memory_spots sequence whole.memory.generation whole.memory.sealed ++ spots_of tables (all_ranges tables) → Listing whole.memory.sealed cursors
    all_listed cursors e = listed_with whole.memory.sealed cursors refl e

  all_rise : (cursors : List (SourceCursor K g)) (lists : List (List InternalEntry)) → AllTwo Lists cursors lists → AllByRecursion (Rises order.cmp) lists
  all_rise [] [] h = tt
  all_rise [] (l ∷ lists) h = absurd h
  all_rise (c ∷ cursors) [] h = absurd h
  all_rise (c ∷ cursors) (l ∷ lists) h = (source_rises order.cmp c whole (listed l None) h.0, all_rise cursors lists h.1)

  -- a merge of them stands nowhere in their union
  merged : (children : List (Child (SourceCursor K g))) (target : List ℕ) (lists : List (List InternalEntry)) (union : List InternalEntry) → IsUnion order.cmp lists union
      → AllByRecursion (λ (child : Child (SourceCursor K g)). child.side ≡ Astray) children → AllTwo Lists (map (λ (child : Child (SourceCursor K g)). child.cursor) children) lists
      → IsMerge order.cmp (ListsSource order.cmp) children None target whole (listed union None)
  merged children target lists union is astray both = (
    lists,
    is,
    record {
      place_is = refl;
      beside = λ key. record {
        same_length = sym (length-map children (λ (child : Child (SourceCursor K g)). child.cursor)) ∙ two_long Lists (map (λ (child : Child (SourceCursor K g)). child.cursor) children) lists both;
        each = λ i child list ci li out.
            let cursor = slice_get-map (λ (c : Child (SourceCursor K g)). c.cursor) children i ∙ ap (option_map (λ (c : Child (SourceCursor K g)). c.cursor)) ci in
            subst (λ (side : Side). IsBeside order.cmp (ListsSource order.cmp) whole key list child.cursor side) (sym (all_at (λ (c : Child (SourceCursor K g)). c.side ≡ Astray) children i child astray ci))
            (None, two_at Lists (map (λ (c : Child (SourceCursor K g)). c.cursor) children) lists i child.cursor list both cursor li);
      };
    },
  )

  -- the same holds if the lists are searched one after the other, since they have a union
  pub merge_begun : HaveUnions order.cmp → (children : List (Child (SourceCursor K g))) (target : List ℕ) (lists : List (List InternalEntry)) → AllByRecursion (λ (child : Child (SourceCursor K g)). child.side ≡ Astray) children
      → AllTwo Lists (cursors_of children) lists → AreSearched (all_entries lists) → (union : List InternalEntry) × IsUnion order.cmp lists union × IsMerge order.cmp (ListsSource order.cmp) children None target whole (listed union None)
  merge_begun unions children target lists astray both searched =
      let rising = all_rise (cursors_of children) lists both in
      let union = unions lists (λ i list is. all_at (Rises order.cmp) lists i list rising is) (share_none lists searched) in
      (union.0, union.1, merged children target lists union.0 union.1 astray both)
