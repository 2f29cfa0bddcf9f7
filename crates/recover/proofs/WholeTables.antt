-- A table that was read whole is that of its edit.
use Rattle.std.proofs.Common.{◌≡◌, ◌⊎◌, inl, inr, ◌<◌, ℕ, List, [], ◌∷◌, ◌++◌, Option, Some, None, length, map, IsTrue, refl, sym, ap, ◌∙◌, subst, arith}
use Rattle.std.specs.FinMap.{get}
use Rattle.std.specs.Cmp.{IsTotalOrder, tied_itself}
use Rattle.std.specs.declared.cmp.Ordering.TheVariants.{Less, Equal}
use Rattle.block.specs.Written.{last_key_from}
use Rattle.coding.specs.Fixed.{fixed64}
use Rattle.coding.specs.declared.error.DbError.{DbError}
use Rattle.coding.specs.declared.error.DbError.TheVariants.{OutOfMemory, Io, Corrupt, Unsupported}
use Rattle.ikey.specs.Orders.{Order}
use Rattle.ikey.specs.Keys.{tag}
use Rattle.ikey.specs.Entries.{InternalEntry, Pair, IsPair, kind_of, value_of, entry_of}
use Rattle.ikey.specs.declared.entry.Entry.{Entry}
use Rattle.ikey.specs.declared.internal_key.Kind.{Kind}
use Rattle.ikey.specs.declared.internal_key.Kind.TheVariants.{Delete, Put}
use Rattle.store.specs.Files.{Files, Facts}
use Rattle.table.specs.Table.{IsTable, ArePairs}
use Rattle.edits.specs.Names.{IsNumbered}
use Rattle.edits.specs.declared.field.PlacedTable.{PlacedTable}
use Rattle.ikey.specs.Views.{Among}
use Rattle.ikey.specs.Sources.{ComesBefore, AreSorted}
use Rattle.recover.specs.Tables.{table_at, HasTable, internal_key}
use Rattle.recover.specs.internal.Checks.{content_of, first_key, IsSpanned, Never, IsOnly}
use Rattle.recover.specs.internal.Parts.{IsUnchanged, RefusesBytes}
use Rattle.recover.specs.Report.{IsLongTable}
use Rattle.recover.specs.Ranges.{HasFileOfTable, IsTableName}
use Rattle.recover.specs.Reading.{RefusesDirectory}
use Rattle.recover.proofs.EntryOrder.{before_trans}
use Rattle.recover.proofs.OneMeaning.{same_spelled}
use Rattle.recover.proofs.ReadTables.{IsFileOnly}
use Rattle.recover.proofs.Refused.{refuses_later}

-- what was read of a table's file
pub record WasRead (order : Order) (files : Files) (placed : PlacedTable) (pairs : List Pair) (entries : List Entry) : Type 0 where
  pub numbered : IsNumbered placed.table.number
  pub bytes : List ℕ
  pub there : table_at files placed.table.number ≡ Some bytes
  pub size : length bytes ≡ placed.table.size
  pub kept : List InternalEntry
  pub table : IsTable order.cmp bytes kept
  pub pairs_are : ArePairs pairs kept
  pub entries_are : entries ≡ map entry_of kept

pub same_read : (order : Order) (files : Files) (placed : PlacedTable) (pairs : List Pair) (entries others : List Entry) → WasRead order files placed pairs entries → HasTable order files (content_of placed others) → others ≡ entries
same_read order files placed pairs entries others r h =
    let both : Some h.bytes ≡ Some r.bytes = sym h.there ∙ r.there in
    let bytes : h.bytes ≡ r.bytes = cc in
    same_spelled order r.bytes others entries (subst (λ (b : List ℕ). (kept : List InternalEntry) × IsTable order.cmp b kept × (others ≡ map entry_of kept)) bytes h.spelled) (r.kept, r.table, r.entries_are)

-- ---- keys

kinds : (kind : Kind) (value : List ℕ) → kind ≡ kind_of (value_of kind value)
kinds Delete value = refl
kinds Put value = refl

key_bytes : (pair : Pair) (kept : InternalEntry) → IsPair pair kept → pair.key ≡ internal_key (entry_of kept)
key_bytes pair kept h = h.key.parts ∙ ap (λ (kind : Kind). kept.key.user ++ fixed64 (tag kept.key.sequence kind)) (kinds kept.key.kind kept.value)

pub never_before : (order : Order) → IsTotalOrder order.cmp → (e : Entry) → ComesBefore order e e → ⊥
never_before order o e (inl less) = let t : Equal ≡ Less = sym (tied_itself o e.key) ∙ less in cc
never_before order o e (inr newer) = omega (arith, newer.1)

-- ---- the first

first_of : (order : Order) (pairs : List Pair) (kept : List InternalEntry) (key : List ℕ) → ArePairs pairs kept → AreSorted order (map entry_of kept) → first_key pairs ≡ Some key
    → (first : Entry) × Among (map entry_of kept) first × (internal_key first ≡ key) × ((other : Entry) → Among (map entry_of kept) other → (other ≡ first) ⊎ ComesBefore order first other)
first_of order [] [] key h s e = let t : None ≡ Some key = e in absurd cc
first_of order [] (k ∷ kept) key h s e = absurd h
first_of order (p ∷ pairs) [] key h s e = absurd h
first_of order (p ∷ pairs) (k ∷ kept) key h s e =
    let here : p.key ≡ key = let t : Some p.key ≡ Some key = e in cc in
    let each : (other : Entry) → Among (entry_of k ∷ map entry_of kept) other → (other ≡ entry_of k) ⊎ ComesBefore order (entry_of k) other = λ other i.
    elim i [ inl same ↦ inl same | inr j ↦ inr (s.0 other j) ] in
    (entry_of k, inl refl, sym (key_bytes p k h.0) ∙ here, each)

pub first_is : (order : Order) → IsTotalOrder order.cmp → (pairs : List Pair) (kept : List InternalEntry) (first : Entry) → ArePairs pairs kept → AreSorted order (map entry_of kept) → Among (map entry_of kept) first
    → ((other : Entry) → Among (map entry_of kept) other → (other ≡ first) ⊎ ComesBefore order first other) → first_key pairs ≡ Some (internal_key first)
first_is order o pairs [] first h s i all = absurd i
first_is order o [] (k ∷ kept) first h s i all = absurd h
first_is order o (p ∷ pairs) (k ∷ kept) first h s (inl e) all = ap (λ (b : List ℕ). Some b) (key_bytes p k h.0 ∙ ap internal_key (sym e))
first_is order o (p ∷ pairs) (k ∷ kept) first h s (inr i) all =
    elim (all (entry_of k) (inl refl)) [
      | inl e ↦ ap (λ (b : List ℕ). Some b) (key_bytes p k h.0 ∙ ap internal_key e)
      | inr before ↦ absurd (never_before order o first (before_trans order o first (entry_of k) first before (s.0 first i)))
    ]

-- ---- the last

last_of : (order : Order) (previous : Option (List ℕ)) (pairs : List Pair) (kept : List InternalEntry) (key : List ℕ) → 0 < length pairs → ArePairs pairs kept → AreSorted order (map entry_of kept) → last_key_from previous pairs ≡ Some key
    → (last : Entry) × Among (map entry_of kept) last × (internal_key last ≡ key) × ((other : Entry) → Among (map entry_of kept) other → (other ≡ last) ⊎ ComesBefore order other last)
last_of order previous [] kept key some h s e = absurd (omega (arith, some))
last_of order previous (p ∷ pairs) [] key some h s e = absurd h
last_of order previous (p ∷ []) (k ∷ []) key some h s e =
    let here : p.key ≡ key = let t : Some p.key ≡ Some key = e in cc in
    let each : (other : Entry) → Among (entry_of k ∷ []) other → (other ≡ entry_of k) ⊎ ComesBefore order other (entry_of k) = λ other i. elim i [ inl same ↦ inl same | inr none ↦ absurd none ] in
    (entry_of k, inl refl, sym (key_bytes p k h.0) ∙ here, each)
last_of order previous (p ∷ []) (k ∷ (l ∷ kept)) key some h s e = absurd h.1
last_of order previous (p ∷ (q ∷ pairs)) (k ∷ []) key some h s e = absurd h.1
last_of order previous (p ∷ (q ∷ pairs)) (k ∷ (l ∷ kept)) key some h s e =
    let rest = last_of order (Some p.key) (q ∷ pairs) (l ∷ kept) key (omega arith) h.1 s.1 e in
    let each : (other : Entry) → Among (entry_of k ∷ map entry_of (l ∷ kept)) other → (other ≡ rest.0) ⊎ ComesBefore order other rest.0 = λ other i.
    elim i [
      | inl same ↦ let P : Entry → Type 0 = λ f. ComesBefore order f rest.0 in inr (subst P (sym same) (s.0 rest.0 rest.1))
      | inr j ↦ rest.3 other j
    ] in
    (rest.0, inr rest.1, rest.2, each)

last_is : (order : Order) → IsTotalOrder order.cmp → (previous : Option (List ℕ)) (pairs : List Pair) (kept : List InternalEntry) (last : Entry) → ArePairs pairs kept → AreSorted order (map entry_of kept) → Among (map entry_of kept) last
    → ((other : Entry) → Among (map entry_of kept) other → (other ≡ last) ⊎ ComesBefore order other last) → last_key_from previous pairs ≡ Some (internal_key last)
last_is order o previous pairs [] last h s i all = absurd i
last_is order o previous [] (k ∷ kept) last h s i all = absurd h
last_is order o previous (p ∷ []) (k ∷ []) last h s (inl e) all = ap (λ (b : List ℕ). Some b) (key_bytes p k h.0 ∙ ap internal_key (sym e))
last_is order o previous (p ∷ []) (k ∷ []) last h s (inr i) all = absurd i
last_is order o previous (p ∷ []) (k ∷ (l ∷ kept)) last h s i all = absurd h.1
last_is order o previous (p ∷ (q ∷ pairs)) (k ∷ []) last h s i all = absurd h.1
last_is order o previous (p ∷ (q ∷ pairs)) (k ∷ (l ∷ kept)) last h s (inl e) all =
    let P : Entry → Type 0 = λ f. ComesBefore order f (entry_of l) in
    let before : ComesBefore order last (entry_of l) = subst P (sym e) (s.0 (entry_of l) (inl refl)) in
    elim (all (entry_of l) (inr (inl refl))) [
      | inl same ↦ let Q : Entry → Type 0 = λ f. ComesBefore order last f in absurd (never_before order o last (subst Q same before))
      | inr back ↦ absurd (never_before order o last (before_trans order o last (entry_of l) last before back))
    ]
last_is order o previous (p ∷ (q ∷ pairs)) (k ∷ (l ∷ kept)) last h s (inr i) all =
    last_is order o (Some p.key) (q ∷ pairs) (l ∷ kept) last h.1 s.1 i (λ other j. all other (inr j))

-- ---- the table

pub table_by : (order : Order) (files : Files) (placed : PlacedTable) (pairs : List Pair) (entries : List Entry) → WasRead order files placed pairs entries → 0 < length pairs → AreSorted order entries → IsSpanned placed.table pairs
    → HasTable order files (content_of placed entries)
table_by order files placed pairs entries r some sorted spanned =
    let s : AreSorted order (map entry_of r.kept) = subst (λ (es : List Entry). AreSorted order es) r.entries_are sorted in
    let first = first_of order pairs r.kept placed.table.smallest r.pairs_are s spanned.0 in
    let last = last_of order None pairs r.kept placed.table.largest some r.pairs_are s spanned.1 in
    let back = sym r.entries_are in
    record {
      numbered = r.numbered;
      bytes = r.bytes;
      there = r.there;
      size = r.size;
      spelled = (r.kept, r.table, r.entries_are);
      sorted = sorted;
      smallest = subst (λ (es : List Entry). (x : Entry) × Among es x × (internal_key x ≡ placed.table.smallest) × ((other : Entry) → Among es other → (other ≡ x) ⊎ ComesBefore order x other)) back first;
      largest = subst (λ (es : List Entry). (x : Entry) × Among es x × (internal_key x ≡ placed.table.largest) × ((other : Entry) → Among es other → (other ≡ x) ⊎ ComesBefore order other x)) back last;
    }

pub spanned_of : (order : Order) → IsTotalOrder order.cmp → (files : Files) (placed : PlacedTable) (pairs : List Pair) (entries others : List Entry) → WasRead order files placed pairs entries → HasTable order files (content_of placed others) → IsSpanned placed.table pairs
spanned_of order o files placed pairs entries others r h =
    let same : others ≡ map entry_of r.kept = same_read order files placed pairs entries others r h ∙ r.entries_are in
    let s : AreSorted order (map entry_of r.kept) = subst (λ (es : List Entry). AreSorted order es) same h.sorted in
    let first = subst (λ (es : List Entry). (x : Entry) × Among es x × (internal_key x ≡ placed.table.smallest) × ((other : Entry) → Among es other → (other ≡ x) ⊎ ComesBefore order x other)) same h.smallest in
    let last = subst (λ (es : List Entry). (x : Entry) × Among es x × (internal_key x ≡ placed.table.largest) × ((other : Entry) → Among es other → (other ≡ x) ⊎ ComesBefore order other x)) same h.largest in
    (first_is order o pairs r.kept first.0 r.pairs_are s first.1 first.3 ∙ ap (λ (b : List ℕ). Some b) first.2, last_is order o None pairs r.kept last.0 r.pairs_are s last.1 last.3 ∙ ap (λ (b : List ℕ). Some b) last.2)

-- ---- refusals

-- the file isn't there
pub unnamed : (order : Order) (e : DbError) (a b : Facts) (placed : PlacedTable) → RefusesDirectory e a b (HasFileOfTable a.files placed → ⊥) ⊥ → RefusesDirectory e a b (IsOnly Never order a.files placed) (IsOnly (IsLongTable order) order a.files placed)
unnamed order OutOfMemory a b placed r = tt
unnamed order Io a b placed r = r
unnamed order (Corrupt kind what) a b placed r = λ t entries h. absurd (r t (h.numbered, (h.bytes, h.there, h.size)))
unnamed order (Unsupported what) a b placed r = λ t. absurd (r t)
unnamed order _ a b placed r = absurd r

only_so : (is : List ℕ → Type 0) (order : Order) (a b c : Facts) (placed : PlacedTable) (name : List ℕ) → IsUnchanged a b → IsUnchanged b c → (IsTrue b.faithful → IsTableName a.files placed name) → IsTrue c.faithful → IsFileOnly is order b.files name → IsOnly is order a.files placed
only_so is order a b c placed name h k named t long entries table =
    let t' = k.faithful t in
    let n = named t' in
    let both : Some table.bytes ≡ Some n.1.0 = sym table.there ∙ n.1.2 in
    let bytes : table.bytes ≡ n.1.0 = cc in
    let now : get b.files name ≡ Some table.bytes = ap (λ (fs : Files). get fs name) (h.same t') ∙ n.1.1 ∙ ap (λ (v : List ℕ). Some v) (sym bytes) in
    (table.bytes, table.there, long table.bytes table.spelled.0 now table.spelled.1)

-- its blocks aren't read
pub unread_pairs : (order : Order) (e : DbError) (a b c : Facts) (placed : PlacedTable) (name text : List ℕ) → IsUnchanged a b → IsUnchanged b c → text ≡ name → (IsTrue b.faithful → IsTableName a.files placed name)
    → RefusesDirectory e b c (IsFileOnly Never order b.files text) (IsFileOnly (IsLongTable order) order b.files text) → RefusesDirectory e a c (IsOnly Never order a.files placed) (IsOnly (IsLongTable order) order a.files placed)
unread_pairs order e a b c placed name text h k same named r =
    let P : List ℕ → Type 0 = λ n. RefusesDirectory e b c (IsFileOnly Never order b.files n) (IsFileOnly (IsLongTable order) order b.files n) in
    refuses_later e a b c (IsFileOnly Never order b.files name) (IsFileOnly (IsLongTable order) order b.files name) (IsOnly Never order a.files placed) (IsOnly (IsLongTable order) order a.files placed) h
    (λ t none. only_so Never order a b c placed name h k named t none) (λ t long. only_so (IsLongTable order) order a b c placed name h k named t long) (subst P same r)

-- what the pairs that were read are
pub was_read : (order : Order) (a b c : Facts) (placed : PlacedTable) (name text : List ℕ) (pairs : List Pair) (entries : List Entry) → IsUnchanged a b → IsUnchanged b c → text ≡ name → (IsTrue b.faithful → IsTableName a.files placed name)
    → (IsTrue c.faithful → (bytes : List ℕ) → get b.files text ≡ Some bytes → (kept : List InternalEntry) × IsTable order.cmp bytes kept × ArePairs pairs kept)
    → ((kept : List InternalEntry) → ArePairs pairs kept → entries ≡ map entry_of kept) → IsTrue c.faithful → WasRead order a.files placed pairs entries
was_read order a b c placed name text pairs entries h k same named found all t =
    let t' = k.faithful t in
    let n = named t' in
    let now : get b.files text ≡ Some n.1.0 = ap (λ (v : List ℕ). get b.files v) same ∙ ap (λ (fs : Files). get fs name) (h.same t') ∙ n.1.1 in
    let f = found t n.1.0 now in
    record { numbered = n.0; bytes = n.1.0; there = n.1.2; size = n.1.3; kept = f.0; table = f.1; pairs_are = f.2; entries_are = all f.0 f.2 }

-- no pairs of its file are entries
pub no_pairs : (order : Order) (e : DbError) (a b c : Facts) (placed : PlacedTable) (name text : List ℕ) (pairs : List Pair) → IsUnchanged a b → IsUnchanged b c → text ≡ name → (IsTrue b.faithful → IsTableName a.files placed name)
    → (IsTrue c.faithful → (bytes : List ℕ) → get b.files text ≡ Some bytes → (kept : List InternalEntry) × IsTable order.cmp bytes kept × ArePairs pairs kept)
    → RefusesBytes e ((kept : List InternalEntry) → ArePairs pairs kept → ⊥) ⊥ → RefusesDirectory e a c (IsOnly Never order a.files placed) (IsOnly (IsLongTable order) order a.files placed)
no_pairs order OutOfMemory a b c placed name text pairs h k same named found r = tt
no_pairs order (Corrupt kind what) a b c placed name text pairs h k same named found r = λ t.
    let t' = k.faithful t in
    let n = named t' in
    let now : get b.files text ≡ Some n.1.0 = ap (λ (v : List ℕ). get b.files v) same ∙ ap (λ (fs : Files). get fs name) (h.same t') ∙ n.1.1 in
    let f = found t n.1.0 now in
    absurd (r f.0 f.2)
no_pairs order (Unsupported what) a b c placed name text pairs h k same named found r = absurd r
no_pairs order _ a b c placed name text pairs h k same named found r = absurd r
