-- What a job has written, as tables of a directory.
use Rattle.std.proofs.Common.{◌≡◌, ◌⊎◌, ◌<◌, ◌^◌, ℕ, Option, Some, None, List, [], ◌∷◌, ◌++◌, map, inl, inr, refl, sym, ap, subst, ◌∙◌, arith}
use Rattle.std.proofs.lemmas.List.{map-append, append-nil}
use Rattle.std.specs.FinMap.{get}
use Rattle.std.specs.List.{AllByRecursion, flat_map}
use Rattle.std.specs.Option.{option_or}
use Rattle.std.specs.declared.cmp.Ordering.{Ordering}
use Rattle.block.specs.Written.{last_key, last_key_from}
use Rattle.edits.specs.declared.field.PlacedTable.{PlacedTable}
use Rattle.edits.specs.declared.field.TableFile.{TableFile}
use Rattle.edits.specs.declared.names.FileName.TheVariants.{OldTable}
use Rattle.edits.specs.Names.{name_of}
use Rattle.ikey.specs.declared.entry.Entry.{Entry}
use Rattle.ikey.specs.declared.internal_key.Kind.{Kind}
use Rattle.ikey.specs.declared.internal_key.Kind.TheVariants.{Delete, Put}
use Rattle.ikey.specs.Below.{same_key}
use Rattle.ikey.specs.Entries.{InternalEntry, Pair, IsPair, internal_key_of, entry_of, value_of, kind_of}
use Rattle.ikey.specs.Keys.{Key, tag_of}
use Rattle.coding.specs.Fixed.{fixed64}
use Rattle.ikey.specs.Orders.{Order}
use Rattle.ikey.specs.Sources.{ComesBefore, AreSorted}
use Rattle.ikey.specs.Views.{Among}
use Rattle.store.specs.Files.{Facts}
use Rattle.table.specs.Table.{ArePairs}
use Rattle.recover.specs.Report.{IsLongTable, HasBytes}
use Rattle.recover.specs.Tables.{TableContent, HasTable, table_at, internal_key}
use Rattle.recover.proofs.Memberships.{among_front}
use Rattle.compact.specs.Outputs.{IsClosedTable, AreClosed, IsDrawnNumber, first_key}
use Rattle.directory_writes.specs.internal.Compactions.{at_level, AreOutputs, OutputsLaw}
use Rattle.directory_writes.proofs.Made.{not_long}

-- ---- pairs and entries

same_entry : (pair : Pair) (a b : InternalEntry) → IsPair pair a → IsPair pair b → a ≡ b
same_entry pair a b h k =
    let key : a.key ≡ b.key = same_key pair.key a.key b.key h.key k.key in
    let value : a.value ≡ b.value = sym h.value ∙ k.value in
    λ i. record { key = key i; value = value i }

one_list : (pairs : List Pair) (xs ys : List InternalEntry) → ArePairs pairs xs → ArePairs pairs ys → xs ≡ ys
one_list [] [] [] h k = refl
one_list [] (x ∷ xs) ys h k = absurd h
one_list [] [] (y ∷ ys) h k = absurd k
one_list (p ∷ pairs) [] ys h k = absurd h
one_list (p ∷ pairs) (x ∷ xs) [] h k = absurd k
one_list (p ∷ pairs) (x ∷ xs) (y ∷ ys) h k =
    let here : x ≡ y = same_entry p x y h.0 k.0 in
    let rest : xs ≡ ys = one_list pairs xs ys h.1 k.1 in
    λ i. here i ∷ rest i

join_pairs : (ps qs : List Pair) (xs ys : List InternalEntry) → ArePairs ps xs → ArePairs qs ys → ArePairs (ps ++ qs) (xs ++ ys)
join_pairs [] qs [] ys h k = k
join_pairs [] qs (x ∷ xs) ys h k = absurd h
join_pairs (p ∷ ps) qs [] ys h k = absurd h
join_pairs (p ∷ ps) qs (x ∷ xs) ys h k = (h.0, join_pairs ps qs xs ys h.1 k)

-- ---- keys at the ends

kind_back : (kind : Kind) (value : List ℕ) → kind_of (value_of kind value) ≡ kind
kind_back Delete value = refl
kind_back Put value = refl

key_back : (pair : Pair) (entry : InternalEntry) → IsPair pair entry → internal_key (entry_of entry) ≡ pair.key
key_back pair entry h =
    let same : internal_key_of (entry_of entry) ≡ entry.key = λ i. record { user = entry.key.user; sequence = entry.key.sequence; kind = kind_back entry.key.kind entry.value i } in
    ap (λ (k : Key). entry.key.user ++ fixed64 (tag_of k)) same ∙ sym h.key.parts

abbrev IsFirst : Order → List Entry → List ℕ → Type 0
IsFirst order entries key = (first : Entry) × Among entries first × (internal_key first ≡ key) × ((other : Entry) → Among entries other → (other ≡ first) ⊎ ComesBefore order first other)

abbrev IsLast : Order → List Entry → List ℕ → Type 0
IsLast order entries key = (last : Entry) × Among entries last × (internal_key last ≡ key) × ((other : Entry) → Among entries other → (other ≡ last) ⊎ ComesBefore order other last)

first_is : (order : Order) (pairs : List Pair) (kept : List InternalEntry) (key : List ℕ) → ArePairs pairs kept → AreSorted order (map entry_of kept) → first_key pairs ≡ Some key → IsFirst order (map entry_of kept) key
first_is order [] kept key are sorted e = (let t : None ≡ Some key = e in absurd cc)
first_is order (p ∷ pairs) [] key are sorted e = absurd are
first_is order (p ∷ pairs) (k ∷ kept) key are sorted e =
    let is : p.key ≡ key = (let t : Some p.key ≡ Some key = e in cc) in
    (entry_of k, inl refl, key_back p k are.0 ∙ is, λ other i. elim i [ inl s ↦ inl s | inr j ↦ inr (sorted.0 other j) ])

last_from : (order : Order) (p : Pair) (k : InternalEntry) (pairs : List Pair) (kept : List InternalEntry) (key : List ℕ) → IsPair p k → ArePairs pairs kept → AreSorted order (map entry_of (k ∷ kept)) → last_key_from (Some p.key) pairs ≡ Some key
    → IsLast order (map entry_of (k ∷ kept)) key
last_from order p k [] [] key is are sorted e =
    let same : p.key ≡ key = (let t : Some p.key ≡ Some key = e in cc) in
    (entry_of k, inl refl, key_back p k is ∙ same, λ other i. elim i [ inl s ↦ inl s | inr j ↦ absurd j ])
last_from order p k [] (l ∷ kept) key is are sorted e = absurd are
last_from order p k (q ∷ pairs) [] key is are sorted e = absurd are
last_from order p k (q ∷ pairs) (l ∷ kept) key is are sorted e =
    let h = last_from order q l pairs kept key are.0 are.1 sorted.1 e in (
      h.0,
      inr h.1,
      h.2,
      λ other i. elim i [
        | inl s ↦ inr (let P : Entry → Type 0 = λ a. ComesBefore order a h.0 in subst P (sym s) (sorted.0 h.0 h.1))
        | inr j ↦ h.3 other j
      ],
    )

last_is : (order : Order) (pairs : List Pair) (kept : List InternalEntry) (key : List ℕ) → ArePairs pairs kept → AreSorted order (map entry_of kept) → last_key pairs ≡ Some key → IsLast order (map entry_of kept) key
last_is order [] kept key are sorted e = (let t : None ≡ Some key = e in absurd cc)
last_is order (p ∷ pairs) [] key are sorted e = absurd are
last_is order (p ∷ pairs) (k ∷ kept) key are sorted e = last_from order p k pairs kept key are.0 are.1 sorted e

-- ---- sorted parts

sorted_front : (order : Order) (xs ys : List Entry) → AreSorted order (xs ++ ys) → AreSorted order xs
sorted_front order [] ys h = tt
sorted_front order (x ∷ xs) ys h = ((λ other i. h.0 other (among_front xs ys other i)), sorted_front order xs ys h.1)

pub sorted_back : (order : Order) (xs ys : List Entry) → AreSorted order (xs ++ ys) → AreSorted order ys
sorted_back order [] ys h = h
sorted_back order (x ∷ xs) ys h = sorted_back order xs ys h.1

-- ---- one table

output_of : (order : Order) (facts : Facts) (level next : ℕ) (table : TableFile) (pairs : List Pair) → next < 2 ^ 64 → IsDrawnNumber next table.number → (is : IsClosedTable order.cmp facts table pairs)
    → AreSorted order (map entry_of is.table_of.entries)
    → HasTable order facts.files (record { placed = at_level level table; entries = map entry_of is.table_of.entries })
output_of order facts level next table pairs fits number is sorted =
    let t = is.table_of in
    record {
      numbered = (number.0, omega (arith, number.1, fits));
      bytes = is.file;
      there = ap (λ (o : Option (List ℕ)). option_or o (get facts.files (name_of (OldTable table.number)))) is.has;
      size = sym is.size;
      spelled = (t.entries, (t.frame, t.frame_is, t.filled), refl);
      sorted = sorted;
      smallest = first_is order pairs t.entries table.smallest t.pairs_are sorted is.smallest;
      largest = last_is order pairs t.entries table.largest t.pairs_are sorted is.largest;
    }

output_short : (order : Order) (facts : Facts) (level : ℕ) (table : TableFile) (pairs : List Pair) (entries : List Entry) → IsClosedTable order.cmp facts table pairs
    → HasBytes (IsLongTable order) facts.files (record { placed = at_level level table; entries = entries }) → ⊥
output_short order facts level table pairs entries is long =
    let there : table_at facts.files table.number ≡ Some is.file = ap (λ (o : Option (List ℕ)). option_or o (get facts.files (name_of (OldTable table.number)))) is.has in
    let same : long.0 ≡ is.file = (let t : Some long.0 ≡ Some is.file = sym long.1 ∙ there in cc) in
    not_long order is.file pairs is.table_of (subst (IsLongTable order) same long.2)

-- ---- all of them

abbrev entries_of : (cmp : List ℕ → List ℕ → Ordering) (facts : Facts) (tables : List TableFile) (lists : List (List Pair)) → AreClosed cmp facts tables lists → List InternalEntry
entries_of cmp facts [] [] h = []
entries_of cmp facts [] (pairs ∷ lists) h = []
entries_of cmp facts (table ∷ tables) [] h = []
entries_of cmp facts (table ∷ tables) (pairs ∷ lists) h = h.0.table_of.entries ++ entries_of cmp facts tables lists h.1

entries_are : (cmp : List ℕ → List ℕ → Ordering) (facts : Facts) (tables : List TableFile) (lists : List (List Pair)) (h : AreClosed cmp facts tables lists)
    → ArePairs (flat_map (λ (table : List Pair). table) lists) (entries_of cmp facts tables lists h)
entries_are cmp facts [] [] h = tt
entries_are cmp facts [] (pairs ∷ lists) h = absurd h
entries_are cmp facts (table ∷ tables) [] h = absurd h
entries_are cmp facts (table ∷ tables) (pairs ∷ lists) h =
    join_pairs pairs (flat_map (λ (l : List Pair). l) lists) h.0.table_of.entries (entries_of cmp facts tables lists h.1) h.0.table_of.pairs_are (entries_are cmp facts tables lists h.1)

outputs_of : (order : Order) (facts : Facts) (level next : ℕ) (tables : List TableFile) (lists : List (List Pair)) → next < 2 ^ 64 → AllByRecursion (λ (table : TableFile). IsDrawnNumber next table.number) tables
    → (h : AreClosed order.cmp facts tables lists) → AreSorted order (map entry_of (entries_of order.cmp facts tables lists h))
    → (outputs : List TableContent) × AreOutputs order facts.files level tables (entries_of order.cmp facts tables lists h) outputs
outputs_of order facts level next [] [] fits numbers h sorted = ([], record { placed = refl; entries = refl; has = λ o i. absurd i; short = λ o i. absurd i })
outputs_of order facts level next [] (pairs ∷ lists) fits numbers h sorted = absurd h
outputs_of order facts level next (table ∷ tables) [] fits numbers h sorted = absurd h
outputs_of order facts level next (table ∷ tables) (pairs ∷ lists) fits numbers h sorted =
    let here : List InternalEntry = h.0.table_of.entries in
    let later : List InternalEntry = entries_of order.cmp facts tables lists h.1 in
    let parts : AreSorted order (map entry_of here ++ map entry_of later) = subst (AreSorted order) (map-append entry_of here later) sorted in
    let rest = outputs_of order facts level next tables lists fits numbers.1 h.1 (sorted_back order (map entry_of here) (map entry_of later) parts) in
    let content : TableContent = record { placed = at_level level table; entries = map entry_of here } in
    let has : HasTable order facts.files content = output_of order facts level next table pairs fits numbers.0 h.0 (sorted_front order (map entry_of here) (map entry_of later) parts) in (
      content ∷ rest.0,
      record {
        placed = ap (λ (ps : List PlacedTable). at_level level table ∷ ps) rest.1.placed;
        entries = ap (λ (es : List Entry). map entry_of here ++ es) rest.1.entries ∙ sym (map-append entry_of here later);
        has = λ o i. elim i [
          | inl same ↦ let P : TableContent → Type 0 = λ t. HasTable order facts.files t in subst P (sym same) has
          | inr j ↦ rest.1.has o j
        ];
        short = λ o i. elim i [
          | inl same ↦ let P : TableContent → Type 0 = λ t. HasBytes (IsLongTable order) facts.files t → ⊥ in subst P (sym same) (output_short order facts level table pairs (map entry_of here) h.0)
          | inr j ↦ rest.1.short o j
        ];
      },
    )

pub outputs_are : OutputsLaw
outputs_are order facts level next tables pairs kept fits h are sorted =
    let all : pairs ≡ flat_map (λ (table : List Pair). table) h.tables = h.all ∙ ap (λ (l : List Pair). flat_map (λ (table : List Pair). table) h.tables ++ l) h.rest_is ∙ append-nil (flat_map (λ (table : List Pair). table) h.tables) in
    let later : List InternalEntry = entries_of order.cmp facts tables h.tables h.closed_are in
    let same : kept ≡ later = one_list pairs kept later are (let P : List Pair → Type 0 = λ ps. ArePairs ps later in subst P (sym all) (entries_are order.cmp facts tables h.tables h.closed_are)) in
    let S : List InternalEntry → Type 0 = λ es. AreSorted order (map entry_of es) in
    let R : List InternalEntry → Type 0 = λ es. (outputs : List TableContent) × AreOutputs order facts.files level tables es outputs in
    subst R (sym same) (outputs_of order facts level next tables h.tables fits h.closed_numbers h.closed_are (subst S same sorted))
