-- The edit that leaves a layout.
use Rattle.std.proofs.Common.{◌≡◌, ◌==◌, ◌≢◌, ℕ, zero, suc, ◌+◌, ◌<◌, ◌≤◌, ◌^◌, inl, inr, cond, Option, Some, None, unwrap_or, option_and_then, List, [], ◌∷◌, ◌++◌, length, get_or, map, refl, sym, ap, ◌∙◌, subst, append_assoc, arith}
use Rattle.std.specs.Option.{option_or}
use Rattle.std.specs.List.{AllByRecursion, All}
use Rattle.std.proofs.lemmas.Bool.{cond_both, cond-true, cond-false, eqb-true, ne_eqb, eq-eqb}
use Rattle.std.proofs.lemmas.List.{append-nil, same_lists, get_or_default, get_or-map}
use Rattle.edits.specs.declared.field.Field.{Field}
use Rattle.edits.specs.declared.field.Field.TheVariants.{Comparator, LogNumber, NextFileNumber, LastSequence, CompactPointer, DeletedFile, NewFile, PreviousLogNumber}
use Rattle.edits.specs.declared.field.PlacedTable.{PlacedTable}
use Rattle.edits.specs.declared.layout.Layout.{Layout}
use Rattle.edits.specs.Edit.{field_tag, place_of, IsWrittenBefore, IsInOrder, IsProper, IsPastLimit, IsWithinLimit, HasPastLimit}
use Rattle.edits.specs.Layout.{IsLayout, IsComparator, fields_of, last_said, log_number_in, next_file_number_in, last_sequence_in, previous_log_number_in, compact_pointer_in, levels, is_before, is_used, inserted, with_table, after_deleted, after_new, after_edits}
use Rattle.edits.specs.Snapshot.{IsRenumbered, IsPointer, IsPlacedProper, IsFollowedBy, AreInPlace, IsKept, IsBelowLimit, pointer_fields, previous_fields, snapshot_fields}
use Rattle.edits.proofs.Folds.{all_append, last_said-append, or_none, level_at}
use Rattle.edits.proofs.Orders.{before_not, all_weaker, all_map, unused_from}

-- ---- what holds of each field

pub pointers_all : (P : Field → Type 0) → ((level : ℕ) (key : List ℕ) → P (CompactPointer level key)) → (level : ℕ) (ps : List (Option (List ℕ))) → AllByRecursion P (pointer_fields level ps)
pointers_all P f level [] = tt
pointers_all P f level (None ∷ ps) = pointers_all P f (suc level) ps
pointers_all P f level (Some key ∷ ps) = (f level key, pointers_all P f (suc level) ps)

pub tables_all : (P : Field → Type 0) → ((placed : PlacedTable) → P (NewFile placed)) → (ts : List PlacedTable) → AllByRecursion P (map NewFile ts)
tables_all P f [] = tt
tables_all P f (t ∷ ts) = (f t, tables_all P f ts)

pub previous_all : (P : Field → Type 0) → ((n : ℕ) → P (PreviousLogNumber n)) → (n : ℕ) → AllByRecursion P (previous_fields n)
previous_all P f n = cond_both (n == 0) [] (PreviousLogNumber n ∷ []) (AllByRecursion P) (λ _. tt) (λ _. (f n, tt))

-- what stands after the four numbers
abbrev pub body : List (Option (List ℕ)) → List PlacedTable → ℕ → List Field
body ps ts n = pointer_fields 0 ps ++ map NewFile ts ++ previous_fields n

pub body_all : (P : Field → Type 0) (ps : List (Option (List ℕ))) (ts : List PlacedTable) (n : ℕ)
    → AllByRecursion P (pointer_fields 0 ps) → AllByRecursion P (map NewFile ts) → AllByRecursion P (previous_fields n) → AllByRecursion P (body ps ts n)
body_all P ps ts n h k l = all_append P (pointer_fields 0 ps ++ map NewFile ts) (previous_fields n) (all_append P (pointer_fields 0 ps) (map NewFile ts) h k) l

-- ---- in range

proper_pointers : (level : ℕ) (ps : List (Option (List ℕ))) → level + length ps ≤ 7 → AllByRecursion IsPointer ps → AllByRecursion IsProper (pointer_fields level ps)
proper_pointers level [] le h = tt
proper_pointers level (None ∷ ps) le h = proper_pointers (suc level) ps (omega (arith, le)) h.1
proper_pointers level (Some key ∷ ps) le h = ((omega (arith, le), h.0.0, h.0.1), proper_pointers (suc level) ps (omega (arith, le)) h.1)

pub all_from : {X : Type 0} (P : X → Type 0) (xs : List X) → AllByRecursion P xs → All P xs
all_from P [] h k d lt = absurd (omega (arith, lt))
all_from P (x ∷ xs) h zero d lt = h.0
all_from P (x ∷ xs) h (suc k) d lt = all_from P xs h.1 k d (omega (arith, lt))

pub snapshot_proper : (name : List ℕ) (layout : Layout) → length name < 2 ^ 32 → layout.last_sequence < 2 ^ 56 → layout.log_number < 2 ^ 64 → layout.next_file_number < 2 ^ 64 → layout.previous_log_number < 2 ^ 64
    → IsKept layout → AllByRecursion IsProper (snapshot_fields name layout)
snapshot_proper name layout short last log next previous kept =
    let ps = layout.compact_pointers.items in
    let ts = layout.tables.items in
    let n = layout.previous_log_number in (
      short,
      (
        log,
        (
          next,
          (
            last,
            body_all IsProper ps ts n (proper_pointers 0 ps (omega (arith, kept.levels)) kept.keys) (all_map NewFile IsPlacedProper IsProper (λ p h. h) ts kept.proper)
                (cond_both (n == 0) [] (PreviousLogNumber n ∷ []) (AllByRecursion IsProper) (λ _. tt) (λ _. (previous, tt))),
          ),
        ),
      ),
    )

-- ---- in order

-- each field comes before all after it
abbrev pub Rises : List Field → Type 0
Rises [] = Unit {0}
Rises (f ∷ fs) = AllByRecursion (IsWrittenBefore f) fs × Rises fs

in_order : (fs : List Field) → Rises fs → IsInOrder fs
in_order [] h = tt
in_order (f ∷ []) h = tt
in_order (f ∷ g ∷ fs) h = (h.0.0, in_order (g ∷ fs) h.1)

rises_append : (fs gs : List Field) → Rises fs → Rises gs → AllByRecursion (λ f. AllByRecursion (IsWrittenBefore f) gs) fs → Rises (fs ++ gs)
rises_append [] gs h k l = k
rises_append (f ∷ fs) gs h k l = (all_append (IsWrittenBefore f) fs gs h.0 l.0, rises_append fs gs h.1 k l.1)

below : (f : Field) (n : ℕ) (gs : List Field) → field_tag f < n → AllByRecursion (λ g. n ≤ field_tag g) gs → AllByRecursion (IsWrittenBefore f) gs
below f n gs lt h = all_weaker (λ g. n ≤ field_tag g) (IsWrittenBefore f) (λ g le. inl (omega (arith, lt, le))) gs h

all_below : (fs gs : List Field) (n : ℕ) → AllByRecursion (λ f. field_tag f < n) fs → AllByRecursion (λ g. n ≤ field_tag g) gs → AllByRecursion (λ f. AllByRecursion (IsWrittenBefore f) gs) fs
all_below fs gs n h k = all_weaker (λ f. field_tag f < n) (λ f. AllByRecursion (IsWrittenBefore f) gs) (λ f lt. below f n gs lt k) fs h

abbrev IsPointerFrom : ℕ → Field → Type 0
IsPointerFrom level f = (field_tag f ≡ 5) × (level ≤ (place_of f).0)

pointers_from : (low level : ℕ) (ps : List (Option (List ℕ))) → low ≤ level → AllByRecursion (IsPointerFrom low) (pointer_fields level ps)
pointers_from low level [] le = tt
pointers_from low level (None ∷ ps) le = pointers_from low (suc level) ps (omega (arith, le))
pointers_from low level (Some key ∷ ps) le = ((refl, le), pointers_from low (suc level) ps (omega (arith, le)))

rises_pointers : (level : ℕ) (ps : List (Option (List ℕ))) → Rises (pointer_fields level ps)
rises_pointers level [] = tt
rises_pointers level (None ∷ ps) = rises_pointers (suc level) ps
rises_pointers level (Some key ∷ ps) = (
  all_weaker (IsPointerFrom (suc level)) (IsWrittenBefore (CompactPointer level key)) (λ g h. inr (sym h.0, inl (omega (arith, h.1)))) (pointer_fields (suc level) ps) (pointers_from (suc level) (suc level) ps (omega arith)),
  rises_pointers (suc level) ps,
)

rises_tables : (ts : List PlacedTable) → AreInPlace ts → Rises (map NewFile ts)
rises_tables [] h = tt
rises_tables (t ∷ ts) h = (all_map NewFile (IsFollowedBy t) (IsWrittenBefore (NewFile t)) (λ p k. inr (refl, k.0)) ts h.0, rises_tables ts h.1)

pub snapshot_order : (name : List ℕ) (layout : Layout) → IsKept layout → IsInOrder (snapshot_fields name layout)
snapshot_order name layout kept =
    let ps = layout.compact_pointers.items in
    let ts = layout.tables.items in
    let n = layout.previous_log_number in
    let first : Rises (pointer_fields 0 ps ++ map NewFile ts) =
    rises_append (pointer_fields 0 ps) (map NewFile ts) (rises_pointers 0 ps) (rises_tables ts kept.in_place)
    (all_below (pointer_fields 0 ps) (map NewFile ts) 6 (pointers_all (λ f. field_tag f < 6) (λ l k. omega arith) 0 ps) (tables_all (λ f. 6 ≤ field_tag f) (λ p. omega arith) ts)) in
    let last : Rises (body ps ts n) =
    rises_append (pointer_fields 0 ps ++ map NewFile ts) (previous_fields n) first (cond_both (n == 0) [] (PreviousLogNumber n ∷ []) Rises (λ _. tt) (λ _. (tt, tt)))
    (all_below (pointer_fields 0 ps ++ map NewFile ts) (previous_fields n) 8
    (all_append (λ f. field_tag f < 8) (pointer_fields 0 ps) (map NewFile ts) (pointers_all (λ f. field_tag f < 8) (λ l k. omega arith) 0 ps) (tables_all (λ f. field_tag f < 8) (λ p. omega arith) ts))
    (previous_all (λ f. 8 ≤ field_tag f) (λ k. omega arith) n)) in
    let tags : AllByRecursion (λ g. 5 ≤ field_tag g) (body ps ts n) =
    body_all (λ g. 5 ≤ field_tag g) ps ts n (pointers_all (λ g. 5 ≤ field_tag g) (λ l k. omega arith) 0 ps) (tables_all (λ g. 5 ≤ field_tag g) (λ p. omega arith) ts) (previous_all (λ g. 5 ≤ field_tag g) (λ k. omega arith) n) in
    let s = LastSequence layout.last_sequence in
    let m = NextFileNumber layout.next_file_number in
    let l = LogNumber layout.log_number in
    let c = Comparator name in
    in_order (snapshot_fields name layout) (
      (inl (omega arith), (inl (omega arith), (inl (omega arith), below c 5 (body ps ts n) (omega arith) tags))),
      (
        (inl (omega arith), (inl (omega arith), below l 5 (body ps ts n) (omega arith) tags)),
        (
          (inl (omega arith), below m 5 (body ps ts n) (omega arith) tags),
          (below s 5 (body ps ts n) (omega arith) tags, last),
        ),
      ),
    )

-- ---- the reading limit

none_past : (fs : List Field) → AllByRecursion IsWithinLimit fs → HasPastLimit fs → ⊥
none_past [] h k = k
none_past (f ∷ fs) h (inr k) = none_past fs h.1 k
none_past (f ∷ fs) h (inl k) = here f h.0 k
  where
    here : (f : Field) → IsWithinLimit f → IsPastLimit f → ⊥
    here (NewFile placed) h k = omega (arith, h, k)
    here (DeletedFile level number) h k = omega (arith, h, k)
    here f h k = k

pub snapshot_limit : (name : List ℕ) (layout : Layout) → AllByRecursion IsBelowLimit layout.tables.items → HasPastLimit (snapshot_fields name layout) → ⊥
snapshot_limit name layout h =
    let ps = layout.compact_pointers.items in
    let ts = layout.tables.items in
    let n = layout.previous_log_number in
    none_past (snapshot_fields name layout) (tt, (tt, (tt, (tt, body_all IsWithinLimit ps ts n (pointers_all IsWithinLimit (λ l k. tt) 0 ps) (all_map NewFile IsBelowLimit IsWithinLimit (λ p k. k) ts h) (previous_all IsWithinLimit (λ k. tt) n)))))

-- ---- what the fields say

quiet : {V : Type 0} (said : Field → Option V) (fs : List Field) → AllByRecursion (λ f. said f ≡ None) fs → last_said said fs ≡ None
quiet said [] h = refl
quiet said (f ∷ fs) h = ap (λ o. option_or o (said f)) (quiet said fs h.1) ∙ h.0

quiet_body : {V : Type 0} (said : Field → Option V) (ps : List (Option (List ℕ))) (ts : List PlacedTable) (n : ℕ)
    → ((level : ℕ) (key : List ℕ) → said (CompactPointer level key) ≡ None) → ((placed : PlacedTable) → said (NewFile placed) ≡ None) → ((k : ℕ) → said (PreviousLogNumber k) ≡ None)
    → last_said said (body ps ts n) ≡ None
quiet_body said ps ts n h k l =
    quiet said (body ps ts n) (body_all (λ f. said f ≡ None) ps ts n (pointers_all (λ f. said f ≡ None) h 0 ps) (tables_all (λ f. said f ≡ None) k ts) (previous_all (λ f. said f ≡ None) l n))

previous_said : (ps : List (Option (List ℕ))) (ts : List PlacedTable) (n : ℕ) → unwrap_or (last_said previous_log_number_in (body ps ts n)) 0 ≡ n
previous_said ps ts n =
    let front = pointer_fields 0 ps ++ map NewFile ts in
    let P : Field → Type 0 = λ f. previous_log_number_in f ≡ None in
    let none = quiet previous_log_number_in front (all_append P (pointer_fields 0 ps) (map NewFile ts) (pointers_all P (λ l k. refl) 0 ps) (tables_all P (λ p. refl) ts)) in
    ap (λ o. unwrap_or o 0) (last_said-append previous_log_number_in front (previous_fields n) ∙ ap (λ o. option_or (last_said previous_log_number_in (previous_fields n)) o) none ∙ or_none (last_said previous_log_number_in (previous_fields n)))
    ∙ cond_both (n == 0) [] (PreviousLogNumber n ∷ []) (λ fs. unwrap_or (last_said previous_log_number_in fs) 0 ≡ n) (λ e. sym (eqb-true n 0 e)) (λ e. refl)

-- ---- the compact pointers

said_below : (level base : ℕ) (ps : List (Option (List ℕ))) → level < base → last_said (compact_pointer_in level) (pointer_fields base ps) ≡ None
said_below level base [] lt = refl
said_below level base (None ∷ ps) lt = said_below level (suc base) ps (omega (arith, lt))
said_below level base (Some key ∷ ps) lt =
    ap (λ o. option_or o (cond (base == level) (Some key) None)) (said_below level (suc base) ps (omega (arith, lt))) ∙ cond-false (base == level) (Some key) None (ne_eqb base level (λ e. omega (arith, e, lt)))

said_pointer : (level base k : ℕ) (ps : List (Option (List ℕ))) → level ≡ base + k → last_said (compact_pointer_in level) (pointer_fields base ps) ≡ get_or ps k None
said_pointer level base k [] e = refl
said_pointer level base zero (None ∷ ps) e = said_below level (suc base) ps (omega (arith, e))
said_pointer level base zero (Some key ∷ ps) e =
    ap (λ o. option_or o (cond (base == level) (Some key) None)) (said_below level (suc base) ps (omega (arith, e))) ∙ cond-true (base == level) (Some key) None (eq-eqb base level (omega (arith, e)))
said_pointer level base (suc k) (None ∷ ps) e = said_pointer level (suc base) k ps (omega (arith, e))
said_pointer level base (suc k) (Some key ∷ ps) e =
    ap (λ o. option_or (last_said (compact_pointer_in level) (pointer_fields (suc base) ps)) o) (cond-false (base == level) (Some key) None (ne_eqb base level (λ same. omega (arith, e, same))))
    ∙ or_none (last_said (compact_pointer_in level) (pointer_fields (suc base) ps)) ∙ said_pointer level (suc base) k ps (omega (arith, e))

pointer_said : (level : ℕ) (ps : List (Option (List ℕ))) (ts : List PlacedTable) (n : ℕ) → last_said (compact_pointer_in level) (body ps ts n) ≡ get_or ps level None
pointer_said level ps ts n =
    let said = compact_pointer_in level in
    let last = quiet said (previous_fields n) (previous_all (λ f. said f ≡ None) (λ k. refl) n) in
    let tables = quiet said (map NewFile ts) (tables_all (λ f. said f ≡ None) (λ p. refl) ts) in
    last_said-append said (pointer_fields 0 ps ++ map NewFile ts) (previous_fields n) ∙ ap (λ o. option_or o (last_said said (pointer_fields 0 ps ++ map NewFile ts))) last
    ∙ last_said-append said (pointer_fields 0 ps) (map NewFile ts) ∙ ap (λ o. option_or o (last_said said (pointer_fields 0 ps))) tables
    ∙ said_pointer level 0 level ps (omega arith)

by_levels : {V : Type 0} (f : ℕ → V) (xs : List V) (d : V) → length xs ≡ 7 → ((level : ℕ) → f level ≡ get_or xs level d) → xs ≡ map f levels
by_levels f xs d seven h =
    same_lists xs (map f levels) seven (λ k e lt.
    let small : k < 7 = omega (arith, lt, seven) in
    get_or_default xs k e d lt ∙ sym (h k) ∙ ap f (sym (level_at k small)) ∙ sym (get_or-map f levels k 0 e small))

-- ---- the tables

none_deleted : (fs : List Field) (ts : List PlacedTable) → AllByRecursion (λ f. field_tag f ≢ 6) fs → after_deleted fs ts ≡ Some ts
none_deleted [] ts h = refl
none_deleted (DeletedFile level number ∷ fs) ts h = absurd (h.0 refl)
none_deleted (f ∷ fs) ts h = none_deleted fs ts h.1

none_new : (fs gs : List Field) (ts : List PlacedTable) → AllByRecursion (λ f. field_tag f ≢ 7) fs → after_new (fs ++ gs) ts ≡ after_new gs ts
none_new [] gs ts h = refl
none_new (NewFile placed ∷ fs) gs ts h = absurd (h.0 refl)
none_new (f ∷ fs) gs ts h = none_new fs gs ts h.1

inserted_last : (t : PlacedTable) (acc : List PlacedTable) → AllByRecursion (λ a. IsFollowedBy a t) acc → inserted t acc ≡ acc ++ t ∷ []
inserted_last t [] h = refl
inserted_last t (a ∷ acc) h =
    cond-false (is_before t a) (t ∷ a ∷ acc) (a ∷ inserted t acc) (before_not a.level a.table.number t.level t.table.number h.0.0) ∙ ap (λ rest. a ∷ rest) (inserted_last t acc h.1)

with_last : (t : PlacedTable) (acc : List PlacedTable) → AllByRecursion (λ a. IsFollowedBy a t) acc → with_table t acc ≡ Some (acc ++ t ∷ [])
with_last t acc h =
    cond-false (is_used t.table.number acc) None (Some (inserted t acc)) (unused_from t.table.number acc (all_weaker (λ a. IsFollowedBy a t) (λ a. a.table.number ≢ t.table.number) (λ a k. k.1) acc h))
    ∙ ap Some (inserted_last t acc h)

put_all : (ts acc : List PlacedTable) (rest : List Field) → AllByRecursion (λ a. AllByRecursion (IsFollowedBy a) ts) acc → AreInPlace ts → after_new (map NewFile ts ++ rest) acc ≡ after_new rest (acc ++ ts)
put_all [] acc rest h k = ap (after_new rest) (sym (append-nil acc))
put_all (t ∷ ts) acc rest h k =
    let here = all_weaker (λ a. AllByRecursion (IsFollowedBy a) (t ∷ ts)) (λ a. IsFollowedBy a t) (λ a l. l.0) acc h in
    let others = all_weaker (λ a. AllByRecursion (IsFollowedBy a) (t ∷ ts)) (λ a. AllByRecursion (IsFollowedBy a) ts) (λ a l. l.1) acc h in
    ap (λ o. option_and_then (after_new (map NewFile ts ++ rest)) o) (with_last t acc here)
    ∙ put_all ts (acc ++ t ∷ []) rest (all_append (λ a. AllByRecursion (IsFollowedBy a) ts) acc (t ∷ []) others (k.0, tt)) k.1
    ∙ ap (after_new rest) (append_assoc acc (t ∷ []) ts)

tables_after : (ps : List (Option (List ℕ))) (ts : List PlacedTable) (n : ℕ) → AreInPlace ts → after_new (body ps ts n) [] ≡ Some ts
tables_after ps ts n h =
    ap (λ fs. after_new fs []) (append_assoc (pointer_fields 0 ps) (map NewFile ts) (previous_fields n))
    ∙ none_new (pointer_fields 0 ps) (map NewFile ts ++ previous_fields n) [] (pointers_all (λ f. field_tag f ≢ 7) (λ l k e. omega (arith, e)) 0 ps)
    ∙ put_all ts [] (previous_fields n) tt h
    ∙ cond_both (n == 0) [] (PreviousLogNumber n ∷ []) (λ fs. after_new fs ts ≡ Some ts) (λ _. refl) (λ _. refl)

-- ---- the whole

pub snapshot_folds : (name : List ℕ) (layout : Layout) → IsKept layout → IsLayout name (snapshot_fields name layout ∷ []) layout
snapshot_folds name layout kept =
    let ps = layout.compact_pointers.items in
    let ts = layout.tables.items in
    let n = layout.previous_log_number in
    let fs = snapshot_fields name layout in
    let whole : fs ≡ fields_of (fs ∷ []) = sym (append-nil fs) in
    let C : List Field → Type 0 = λ gs. AllByRecursion (IsComparator name) gs in
    record {
      order = (subst C whole (refl, (tt, (tt, (tt, body_all (IsComparator name) ps ts n (pointers_all (IsComparator name) (λ l k. tt) 0 ps) (tables_all (IsComparator name) (λ p. tt) ts) (previous_all (IsComparator name) (λ k. tt) n))))), λ none. absurd (cc));
      log_number = ap (last_said log_number_in) (sym whole) ∙ ap (λ o. option_or (option_or (option_or (option_or o None) None) (Some layout.log_number)) None) (quiet_body log_number_in ps ts n (λ l k. refl) (λ p. refl) (λ k. refl));
      next_file_number = ap (last_said next_file_number_in) (sym whole) ∙ ap (λ o. option_or (option_or (option_or (option_or o None) (Some layout.next_file_number)) None) None) (quiet_body next_file_number_in ps ts n (λ l k. refl) (λ p. refl) (λ k. refl));
      last_sequence = ap (last_said last_sequence_in) (sym whole) ∙ ap (λ o. option_or (option_or (option_or (option_or o (Some layout.last_sequence)) None) None) None) (quiet_body last_sequence_in ps ts n (λ l k. refl) (λ p. refl) (λ k. refl));
      previous_log_number = sym (ap (λ gs. unwrap_or (last_said previous_log_number_in gs) 0) (sym whole) ∙ ap (λ o. unwrap_or o 0) (four_none (last_said previous_log_number_in (body ps ts n))) ∙ previous_said ps ts n);
      compact_pointers = by_levels (λ level. last_said (compact_pointer_in level) (fields_of (fs ∷ []))) ps None kept.levels
          (λ level. ap (last_said (compact_pointer_in level)) (sym whole) ∙ four_none (last_said (compact_pointer_in level) (body ps ts n)) ∙ pointer_said level ps ts n);
      tables =
          ap (λ o. option_and_then (after_edits []) (option_and_then (after_new fs) o))
          (none_deleted (body ps ts n) [] (body_all (λ f. field_tag f ≢ 6) ps ts n (pointers_all (λ f. field_tag f ≢ 6) (λ l k e. omega (arith, e)) 0 ps) (tables_all (λ f. field_tag f ≢ 6) (λ p e. omega (arith, e)) ts) (previous_all (λ f. field_tag f ≢ 6) (λ k e. omega (arith, e)) n)))
          ∙ ap (λ o. option_and_then (after_edits []) o) (tables_after ps ts n kept.in_place);
    }
  where
    four_none : {V : Type 0} (o : Option V) → option_or (option_or (option_or (option_or o None) None) None) None ≡ o
    four_none None = refl
    four_none (Some v) = refl

-- ---- as it is built

pub built : (name : List ℕ) (log next last n : ℕ) (ps : List (Option (List ℕ))) (ts : List PlacedTable) (a b c d e f g : List Field)
    → a ≡ Comparator name ∷ [] → b ≡ a ++ LogNumber log ∷ [] → c ≡ b ++ NextFileNumber next ∷ [] → d ≡ c ++ LastSequence last ∷ []
    → e ≡ d ++ pointer_fields 0 ps → f ≡ e ++ map NewFile ts → g ≡ f ++ previous_fields n
    → g ≡ Comparator name ∷ LogNumber log ∷ NextFileNumber next ∷ LastSequence last ∷ body ps ts n
built name log next last n ps ts a b c d e f g p q r s t u v =
    let four : d ≡ Comparator name ∷ LogNumber log ∷ NextFileNumber next ∷ LastSequence last ∷ [] =
    s ∙ ap (λ (x : List Field). x ++ LastSequence last ∷ []) (r ∙ ap (λ (x : List Field). x ++ NextFileNumber next ∷ []) (q ∙ ap (λ (x : List Field). x ++ LogNumber log ∷ []) p)) in
    v ∙ ap (λ (x : List Field). x ++ previous_fields n) (u ∙ ap (λ (x : List Field). x ++ map NewFile ts) (t ∙ ap (λ (x : List Field). x ++ pointer_fields 0 ps) four))

pub renumbered : (name : List ℕ) (log previous next last : ℕ) (old new : Layout) → IsRenumbered log previous next last old new
    → Comparator name ∷ LogNumber log ∷ NextFileNumber next ∷ LastSequence last ∷ body old.compact_pointers.items old.tables.items previous ≡ snapshot_fields name new
renumbered name log previous next last old new r =
    let a = sym r.log in
    let b = sym r.next_file in
    let c = sym r.sequence in
    let p = sym r.compact_pointers in
    let t = sym r.tables in
    let n = sym r.previous_log in
    λ i. Comparator name ∷ LogNumber (a i) ∷ NextFileNumber (b i) ∷ LastSequence (c i) ∷ body (p i) (t i) (n i)

pub kept_again : (log previous next last : ℕ) (old new : Layout) → IsRenumbered log previous next last old new → IsKept old → IsKept new
kept_again log previous next last old new r kept = record {
  levels = ap length r.compact_pointers ∙ kept.levels;
  keys = let P : List (Option (List ℕ)) → Type 0 = λ ps. AllByRecursion IsPointer ps in subst P (sym r.compact_pointers) kept.keys;
  proper = let P : List PlacedTable → Type 0 = λ ts. AllByRecursion IsPlacedProper ts in subst P (sym r.tables) kept.proper;
  in_place = let P : List PlacedTable → Type 0 = λ ts. AreInPlace ts in subst P (sym r.tables) kept.in_place;
}
