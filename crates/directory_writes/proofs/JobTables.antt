-- The tables of a directory with the outputs of a job instead of its inputs.
use Rattle.std.proofs.Common.{◌≡◌, ◌≢◌, ◌==◌, ◌&&◌, ◌⊎◌, ◌<◌, ℕ, zero, suc, Bool, true, false, cond, Option, Some, None, option_and_then, option_map, List, [], ◌∷◌, ◌++◌, map, inl, inr, refl, sym, ap, subst, ◌∙◌, arith, append_assoc, append-nil}
use Rattle.std.proofs.lemmas.Bool.{and_right, ne_eqb}
use Rattle.std.proofs.lemmas.Bool.Decides.{nat_tests}
use Rattle.std.proofs.lemmas.List.Sorted.{Contains-permutation, IsPermutation-sym}
use Rattle.std.specs.List.{AllByRecursion, Contains}
use Rattle.std.specs.List.Sorted.{IsPermutation}
use Rattle.edits.specs.declared.field.Field.{Field}
use Rattle.edits.specs.declared.field.PlacedTable.{PlacedTable}
use Rattle.edits.specs.declared.field.TableFile.{TableFile}
use Rattle.edits.specs.Edit.{IsInOrder, IsWrittenBefore, IsPlacedBefore, field_tag, place_of}
use Rattle.edits.specs.Layout.{is_before, is_used, without, inserted, with_table, after_deleted, after_new, after_edit}
use Rattle.edits.specs.Snapshot.{IsFollowedBy, AreInPlace}
use Rattle.edits.proofs.Orders.{before_true, before_false, before_trans, unused, unused_from}
use Rattle.ikey.specs.Views.{Among}
use Rattle.recover.specs.Tables.{TableContent, InTables}
use Rattle.recover.specs.Replacing.{AreParted}
use Rattle.recover.specs.internal.Changes.{with_content}
use Rattle.recover.proofs.Memberships.{in_with, from_chosen, from_rest, placed_with}
use Rattle.compact.specs.JobEdits.{gone, placed_at}
use Rattle.directory_writes.specs.internal.Compactions.{at_level, IsUnused, ReplacesLaw}
use Rattle.directory_writes.specs.Replacing.{placed_in}
use Rattle.directory_writes.proofs.JobFolds.{front_of, files_of}

-- ---- fields in order

in_order_tail : (f : Field) (fs : List Field) → IsInOrder (f ∷ fs) → IsInOrder fs
in_order_tail f [] h = tt
in_order_tail f (g ∷ fs) h = h.1

in_order_back : (fs gs : List Field) → IsInOrder (fs ++ gs) → IsInOrder gs
in_order_back [] gs h = h
in_order_back (f ∷ fs) gs h = in_order_back fs gs (in_order_tail f (fs ++ gs) h)

in_order_front : (fs gs : List Field) → IsInOrder (fs ++ gs) → IsInOrder fs
in_order_front [] gs h = tt
in_order_front (f ∷ []) gs h = tt
in_order_front (f ∷ g ∷ fs) gs h = (h.0, in_order_front (g ∷ fs) gs h.1)

-- each stands before all after it
abbrev Rise : {X : Type 0} → (X → ℕ × ℕ) → List X → Type 0
Rise place [] = Unit {0}
Rise {X} place (x ∷ xs) = ((y : X) → Among xs y → IsPlacedBefore (place x) (place y)) × Rise place xs

placed_by : {X : Type 0} (f : X → Field) → ((x y : X) → field_tag (f x) < field_tag (f y) → ⊥) → (x y : X) → IsWrittenBefore (f x) (f y) → IsPlacedBefore (place_of (f x)) (place_of (f y))
placed_by f same x y (inl lt) = absurd (same x y lt)
placed_by f same x y (inr h) = h.1

rising : {X : Type 0} (f : X → Field) → ((x y : X) → field_tag (f x) < field_tag (f y) → ⊥) → (xs : List X) → IsInOrder (map f xs) → Rise (λ x. place_of (f x)) xs
rising f same [] h = tt
rising f same (x ∷ []) h = ((λ y i. absurd i), tt)
rising {X} f same (x ∷ y ∷ xs) h =
    let next = rising f same (y ∷ xs) h.1 in
    let here = placed_by f same x y h.0 in
    let each : (z : X) → Among (y ∷ xs) z → IsPlacedBefore (place_of (f x)) (place_of (f z)) = λ z i.
    elim i [
      | inl e ↦ let P : X → Type 0 = λ w. IsPlacedBefore (place_of (f x)) (place_of (f w)) in subst P (sym e) here
      | inr j ↦ before_trans (place_of (f x)) (place_of (f y)) (place_of (f z)) here (next.0 z j)
    ] in
    (each, next)

-- ---- tables in place, by membership

abbrev pub InRow : List TableContent → Type 0
InRow [] = Unit {0}
InRow (c ∷ contents) = ((x : TableContent) → InTables contents x → IsFollowedBy c.placed x.placed) × InRow contents

each_followed : (a : PlacedTable) (contents : List TableContent) (x : TableContent) → AllByRecursion (IsFollowedBy a) (placed_in contents) → InTables contents x → IsFollowedBy a x.placed
each_followed a [] x h i = absurd i
each_followed a (c ∷ contents) x h (inl e) = let P : TableContent → Type 0 = λ t. IsFollowedBy a t.placed in subst P (sym e) h.0
each_followed a (c ∷ contents) x h (inr i) = each_followed a contents x h.1 i

pub row_of : (contents : List TableContent) → AreInPlace (placed_in contents) → InRow contents
row_of [] h = tt
row_of (c ∷ contents) h = ((λ x i. each_followed c.placed contents x h.0 i), row_of contents h.1)

-- ---- one table is taken out

record Removed (contents chosen rest : List TableContent) (c : TableContent) : Type 0 where
  left : List TableContent
  others : List TableContent
  without_is : without c.placed.level c.placed.table.number (placed_in contents) ≡ Some (placed_in left)
  parted : AreParted left others rest
  row : InRow left
  was : (x : TableContent) → InTables left x → InTables contents x
  from : (x : TableContent) → InTables others x → InTables chosen x
  apart : (x : TableContent) → InTables others x → x.placed.table.number ≢ c.placed.table.number
  stays : (x : TableContent) → InTables chosen x → (x ≡ c) ⊎ InTables others x

at_itself : (l n : ℕ) → (l == l && n == n) ≡ true
at_itself l n = grind (arith, nat_tests)

not_at : (l m n k : ℕ) → m ≢ k → (l == n && m == k) ≡ false
not_at l m n k apart = and_right (l == n) (m == k) (ne_eqb m k apart)

here_without : (c : TableContent) (contents : List TableContent) → without c.placed.level c.placed.table.number (placed_in (c ∷ contents)) ≡ Some (placed_in contents)
here_without c contents =
    ap (λ (b : Bool). cond b (Some (placed_in contents)) (option_map (λ others. c.placed ∷ others) (without c.placed.level c.placed.table.number (placed_in contents)))) (at_itself c.placed.level c.placed.table.number)

later_without : (c x : TableContent) (contents left : List TableContent) → x.placed.table.number ≢ c.placed.table.number → without c.placed.level c.placed.table.number (placed_in contents) ≡ Some (placed_in left)
    → without c.placed.level c.placed.table.number (placed_in (x ∷ contents)) ≡ Some (placed_in (x ∷ left))
later_without c x contents left apart e =
    ap (λ (b : Bool). cond b (Some (placed_in contents)) (option_map (λ others. x.placed ∷ others) (without c.placed.level c.placed.table.number (placed_in contents)))) (not_at x.placed.level x.placed.table.number c.placed.level c.placed.table.number apart)
    ∙ ap (option_map (λ (others : List PlacedTable). x.placed ∷ others)) e

removed_here : (x : TableContent) (contents others chosen rest : List TableContent) → chosen ≡ x ∷ others → AreParted contents others rest → InRow (x ∷ contents) → Removed (x ∷ contents) chosen rest x
removed_here x contents others chosen rest is parted row = record {
  left = contents;
  others = others;
  without_is = here_without x contents;
  parted = parted;
  row = row.1;
  was = λ y i. inr i;
  from = λ y i. let P : List TableContent → Type 0 = λ ts. InTables ts y in subst P (sym is) (inr i);
  apart = λ y i e. (row.0 y (from_chosen contents others rest y parted i)).1 (sym e);
  stays = λ y i. let P : List TableContent → Type 0 = λ ts. InTables ts y in subst P is i;
}

-- after a table that is taken out later
removed_chosen : (x c : TableContent) (contents others chosen rest : List TableContent) → chosen ≡ x ∷ others → InRow (x ∷ contents) → x.placed.table.number ≢ c.placed.table.number → Removed contents others rest c → Removed (x ∷ contents) chosen rest c
removed_chosen x c contents others chosen rest is row apart r = record {
  left = x ∷ r.left;
  others = x ∷ r.others;
  without_is = later_without c x contents r.left apart r.without_is;
  parted = inl (r.others, refl, r.parted);
  row = ((λ y i. row.0 y (r.was y i)), r.row);
  was = λ y i. elim i [ inl e ↦ inl e | inr j ↦ inr (r.was y j) ];
  from = λ y i. let P : List TableContent → Type 0 = λ ts. InTables ts y in
      let Q : InTables (x ∷ others) y = elim i [ inl e ↦ inl e | inr j ↦ inr (r.from y j) ] in
      subst P (sym is) Q;
  apart = λ y i. elim i [
    | inl e ↦ let P : TableContent → Type 0 = λ t. t.placed.table.number ≢ c.placed.table.number in subst P (sym e) apart
    | inr j ↦ r.apart y j
  ];
  stays = λ y i. let P : List TableContent → Type 0 = λ ts. InTables ts y in
      let here : (y ≡ x) ⊎ InTables others y = subst P is i in
      elim here [
        | inl e ↦ inr (inl e)
        | inr j ↦ elim (r.stays y j) [ inl s ↦ inl s | inr k ↦ inr (inr k) ]
      ];
}

-- after a table that stays
removed_rest : (x c : TableContent) (contents others chosen rest : List TableContent) → rest ≡ x ∷ others → InRow (x ∷ contents) → x.placed.table.number ≢ c.placed.table.number → Removed contents chosen others c → Removed (x ∷ contents) chosen rest c
removed_rest x c contents others chosen rest is row apart r = record {
  left = x ∷ r.left;
  others = r.others;
  without_is = later_without c x contents r.left apart r.without_is;
  parted = inr (others, is, r.parted);
  row = ((λ y i. row.0 y (r.was y i)), r.row);
  was = λ y i. elim i [ inl e ↦ inl e | inr j ↦ inr (r.was y j) ];
  from = r.from;
  apart = r.apart;
  stays = r.stays;
}

remove_one : (contents chosen rest : List TableContent) (c : TableContent) → AreParted contents chosen rest → InRow contents → InTables chosen c → Removed contents chosen rest c
remove_one [] chosen rest c h row i = let P : List TableContent → Type 0 = λ ts. InTables ts c in absurd (subst P h.0 i)
remove_one (x ∷ contents) chosen rest c (inl h) row i =
    let P : List TableContent → Type 0 = λ ts. InTables ts c in
    let Q : TableContent → Type 0 = λ t. Removed (x ∷ contents) chosen rest t in
    let here : (c ≡ x) ⊎ InTables h.0 c = subst P h.1 i in
    elim here [
      | inl e ↦ subst Q (sym e) (removed_here x contents h.0 chosen rest h.1 h.2 row)
      | inr j ↦ removed_chosen x c contents h.0 chosen rest h.1 row (row.0 c (from_chosen contents h.0 rest c h.2 j)).1 (remove_one contents h.0 rest c h.2 row.1 j)
    ]
remove_one (x ∷ contents) chosen rest c (inr h) row i =
    removed_rest x c contents h.0 chosen rest h.1 row (row.0 c (from_chosen contents chosen h.0 c h.2 i)).1 (remove_one contents chosen h.0 c h.2 row.1 i)

-- ---- all inputs are taken out

pub among_placed : (contents : List TableContent) (x : TableContent) → InTables contents x → Among (placed_in contents) x.placed
among_placed [] x i = absurd i
among_placed (c ∷ contents) x (inl e) = inl (ap (λ (t : TableContent). t.placed) e)
among_placed (c ∷ contents) x (inr i) = inr (among_placed contents x i)

pub content_at : (contents : List TableContent) (p : PlacedTable) → Among (placed_in contents) p → (c : TableContent) × InTables contents c × (c.placed ≡ p)
content_at [] p i = absurd i
content_at (c ∷ contents) p (inl e) = (c, inl refl, sym e)
content_at (c ∷ contents) p (inr i) = let r = content_at contents p i in (r.0, inr r.1, r.2)

none_chosen : (contents chosen rest : List TableContent) → AreParted contents chosen rest → ((x : TableContent) → InTables chosen x → ⊥) → contents ≡ rest
none_chosen [] chosen rest h none = sym h.1
none_chosen (c ∷ contents) chosen rest (inl h) none = let P : List TableContent → Type 0 = λ ts. InTables ts c in absurd (none c (subst P (sym h.1) (inl refl)))
none_chosen (c ∷ contents) chosen rest (inr h) none = ap (λ (ts : List TableContent). c ∷ ts) (none_chosen contents chosen h.0 h.2 none) ∙ sym h.1

not_before : (a : ℕ × ℕ) → IsPlacedBefore a a → ⊥
not_before a (inl lt) = omega (arith, lt)
not_before a (inr h) = omega (arith, h.1)

abbrev place : PlacedTable → ℕ × ℕ
place p = (p.level, p.table.number)

all_deleted : (sorted : List PlacedTable) (contents chosen rest : List TableContent) → AreParted contents chosen rest → InRow contents → Rise place sorted
    → ((p : PlacedTable) → Among (placed_in chosen) p → Among sorted p) → ((p : PlacedTable) → Among sorted p → Among (placed_in chosen) p)
    → after_deleted (map gone sorted) (placed_in contents) ≡ Some (placed_in rest)
all_deleted [] contents chosen rest h row rise to back = ap (λ (ts : List TableContent). Some (placed_in ts)) (none_chosen contents chosen rest h (λ x i. to x.placed (among_placed chosen x i)))
all_deleted (p ∷ sorted) contents chosen rest h row rise to back =
    let found = content_at chosen p (back p (inl refl)) in
    let r = remove_one contents chosen rest found.0 h row found.1 in
    let taken : without p.level p.table.number (placed_in contents) ≡ Some (placed_in r.left) =
    (let W : PlacedTable → Type 0 = λ q. without q.level q.table.number (placed_in contents) ≡ Some (placed_in r.left) in subst W found.2 r.without_is) in
    let to_rest : (q : PlacedTable) → Among (placed_in r.others) q → Among sorted q = λ q i.
    (let x = content_at r.others q i in
    let there : Among (p ∷ sorted) q = (let A : PlacedTable → Type 0 = λ w. Among (p ∷ sorted) w in subst A x.2 (to x.0.placed (among_placed chosen x.0 (r.from x.0 x.1)))) in
    elim there [
      | inl e ↦ absurd (r.apart x.0 x.1 (ap (λ (w : PlacedTable). w.table.number) (x.2 ∙ e ∙ sym found.2)))
      | inr j ↦ j
    ]) in
    let back_rest : (q : PlacedTable) → Among sorted q → Among (placed_in r.others) q = λ q i.
    (let x = content_at chosen q (back q (inr i)) in
    elim (r.stays x.0 x.1) [
      | inl e ↦
          let same : p ≡ q = sym found.2 ∙ ap (λ (t : TableContent). t.placed) (sym e) ∙ x.2 in
          let B : PlacedTable → Type 0 = λ w. IsPlacedBefore (place p) (place w) in
          absurd (not_before (place p) (subst B (sym same) (rise.0 q i)))
      | inr j ↦ let A : PlacedTable → Type 0 = λ w. Among (placed_in r.others) w in subst A x.2 (among_placed r.others x.0 j)
    ]) in
    ap (option_and_then (after_deleted (map gone sorted))) taken ∙ all_deleted sorted r.left r.others rest r.parted r.row rise.1 to_rest back_rest

-- ---- one table is put in

row_with : (o : TableContent) (contents : List TableContent) → ((x : TableContent) → InTables contents x → o.placed.table.number ≢ x.placed.table.number) → InRow contents → InRow (with_content o contents)
row_with o [] fresh row = ((λ x i. absurd i), tt)
row_with o (c ∷ contents) fresh row = by (row_with o contents (λ x i. fresh x (inr i)) row.1) (is_before o.placed c.placed) refl
  where
    by : InRow (with_content o contents) → (b : Bool) → is_before o.placed c.placed ≡ b → InRow (cond b (o ∷ c ∷ contents) (c ∷ with_content o contents))
    by rest true e =
        let before : IsFollowedBy o.placed c.placed = (before_true o.placed.level o.placed.table.number c.placed.level c.placed.table.number e, fresh c (inl refl)) in (
          λ x i. elim i [
            | inl s ↦ let P : TableContent → Type 0 = λ t. IsFollowedBy o.placed t.placed in subst P (sym s) before
            | inr j ↦ (before_trans (place o.placed) (place c.placed) (place x.placed) before.0 (row.0 x j).0, fresh x (inr j))
          ],
          row,
        )
    by rest false e =
        let before : IsFollowedBy c.placed o.placed = (before_false o.placed.level o.placed.table.number c.placed.level c.placed.table.number e (fresh c (inl refl)), λ s. fresh c (inl refl) (sym s)) in (
          λ x i. elim (in_with o contents x i) [
            | inl s ↦ let P : TableContent → Type 0 = λ t. IsFollowedBy c.placed t.placed in subst P (sym s) before
            | inr j ↦ row.0 x j
          ],
          rest,
        )

-- after all that are done there is a place for one more
abbrev HasPlace : TableContent → List TableContent → Type 0
HasPlace o contents =
    (done rest : List TableContent) → AreParted contents done rest → ((x : TableContent) → InTables done x → IsPlacedBefore (place x.placed) (place o.placed)) → AreParted (with_content o contents) (done ++ o ∷ []) rest

parted_with : (o : TableContent) (contents done rest : List TableContent) → AreParted contents done rest → InRow contents → ((x : TableContent) → InTables done x → IsPlacedBefore (place x.placed) (place o.placed))
    → AreParted (with_content o contents) (done ++ o ∷ []) rest
parted_with o [] done rest h row behind = inl ([], ap (λ (ts : List TableContent). ts ++ o ∷ []) h.0, (refl, h.1))
parted_with o (c ∷ contents) done rest h row behind = by (λ ds ts k lies. parted_with o contents ds ts k row.1 lies) (is_before o.placed c.placed) refl
  where
    not_front : (x : TableContent) → IsPlacedBefore (place o.placed) (place c.placed) → (x ≡ c) ⊎ InTables contents x → IsPlacedBefore (place x.placed) (place o.placed) → ⊥
    not_front x before (inl e) lies = let P : TableContent → Type 0 = λ t. IsPlacedBefore (place t.placed) (place o.placed) in not_before (place c.placed) (before_trans (place c.placed) (place o.placed) (place c.placed) (subst P e lies) before)
    not_front x before (inr i) lies =
        not_before (place x.placed) (before_trans (place x.placed) (place o.placed) (place x.placed) lies (before_trans (place o.placed) (place c.placed) (place x.placed) before (row.0 x i).0))

    by_none : (ts : List TableContent) → ((x : TableContent) → InTables ts x → ⊥) → ts ≡ []
    by_none [] none = refl
    by_none (t ∷ ts) none = absurd (none t (inl refl))

    later : HasPlace o contents → AreParted (c ∷ contents) done rest → AreParted (c ∷ with_content o contents) (done ++ o ∷ []) rest
    later next (inl k) =
        let A : List TableContent → Type 0 = λ ts. (x : TableContent) → InTables ts x → IsPlacedBefore (place x.placed) (place o.placed) in
        inl (k.0 ++ o ∷ [], ap (λ (ts : List TableContent). ts ++ o ∷ []) k.1, next k.0 rest k.2 (λ x i. (subst A k.1 behind) x (inr i)))
    later next (inr k) = inr (k.0, k.1, next done k.0 k.2 behind)

    by : HasPlace o contents → (b : Bool) → is_before o.placed c.placed ≡ b → AreParted (cond b (o ∷ c ∷ contents) (c ∷ with_content o contents)) (done ++ o ∷ []) rest
    by next true e =
        let before = before_true o.placed.level o.placed.table.number c.placed.level c.placed.table.number e in
        let empty : done ≡ [] = by_none done (λ x i. not_front x before (from_chosen (c ∷ contents) done rest x h i) (behind x i)) in
        let P : List TableContent → Type 0 = λ ts. AreParted (c ∷ contents) ts rest in
        inl ([], ap (λ (ts : List TableContent). ts ++ o ∷ []) empty, subst P empty h)
    by next false e = later next h

-- ---- all outputs are put in

abbrev all_with : List TableContent → List TableContent → List TableContent
all_with [] contents = contents
all_with (o ∷ outputs) contents = all_with outputs (with_content o contents)

abbrev Fresh : List TableContent → List TableContent → Type 0
Fresh outputs contents = (o x : TableContent) → InTables outputs o → InTables contents x → o.placed.table.number ≢ x.placed.table.number

-- the outputs' numbers rise, at one level
abbrev Follow : List TableContent → Type 0
Follow [] = Unit {0}
Follow (o ∷ outputs) = ((x : TableContent) → InTables outputs x → IsFollowedBy o.placed x.placed) × Follow outputs

done_push : (done : List TableContent) (o x : TableContent) → InTables (done ++ o ∷ []) x → InTables done x ⊎ (x ≡ o)
done_push [] o x (inl e) = inr e
done_push [] o x (inr i) = absurd i
done_push (d ∷ done) o x (inl e) = inl (inl e)
done_push (d ∷ done) o x (inr i) = elim (done_push done o x i) [ inl j ↦ inl (inr j) | inr e ↦ inr e ]

fresh_with : (o : TableContent) (outputs contents : List TableContent) → Follow (o ∷ outputs) → Fresh (o ∷ outputs) contents → Fresh outputs (with_content o contents)
fresh_with o outputs contents follow fresh p x i j = elim (in_with o contents x j) [
  | inl e ↦ let P : TableContent → Type 0 = λ t. p.placed.table.number ≢ t.placed.table.number in subst P (sym e) (λ s. (follow.0 p i).1 (sym s))
  | inr k ↦ fresh p x (inr i) k
]

all_parted : (outputs contents done rest : List TableContent) → AreParted contents done rest → InRow contents → Follow outputs → Fresh outputs contents
    → ((x o : TableContent) → InTables done x → InTables outputs o → IsPlacedBefore (place x.placed) (place o.placed)) → AreParted (all_with outputs contents) (done ++ outputs) rest
all_parted [] contents done rest h row follow fresh behind = let P : List TableContent → Type 0 = λ ts. AreParted contents ts rest in subst P (sym (append-nil done)) h
all_parted (o ∷ outputs) contents done rest h row follow fresh behind =
    let P : List TableContent → Type 0 = λ ts. AreParted (all_with outputs (with_content o contents)) ts rest in
    subst P (append_assoc done (o ∷ []) outputs)
    (all_parted outputs (with_content o contents) (done ++ o ∷ []) rest (parted_with o contents done rest h row (λ x i. behind x o i (inl refl))) (row_with o contents (λ x i. fresh o x (inl refl) i) row)
    follow.1 (fresh_with o outputs contents follow fresh)
    (λ x q i j. elim (done_push done o x i) [
      | inl k ↦ behind x q k (inr j)
      | inr e ↦ let Q : TableContent → Type 0 = λ t. IsPlacedBefore (place t.placed) (place q.placed) in subst Q (sym e) (follow.0 q j).0
    ]))

no_number : (o : TableContent) (contents : List TableContent) → ((x : TableContent) → InTables contents x → o.placed.table.number ≢ x.placed.table.number) → AllByRecursion (λ (x : PlacedTable). x.table.number ≢ o.placed.table.number) (placed_in contents)
no_number o [] fresh = tt
no_number o (c ∷ contents) fresh = ((λ s. fresh c (inl refl) (sym s)), no_number o contents (λ x i. fresh x (inr i)))

all_put : (level : ℕ) (tables : List TableFile) (outputs contents : List TableContent) → placed_in outputs ≡ map (at_level level) tables → Follow outputs → Fresh outputs contents
    → after_new (map (placed_at level) tables) (placed_in contents) ≡ Some (placed_in (all_with outputs contents))
all_put level [] [] contents is follow fresh = refl
all_put level [] (o ∷ outputs) contents is follow fresh = (let e : o.placed ∷ placed_in outputs ≡ [] = is in absurd cc)
all_put level (t ∷ tables) [] contents is follow fresh = (let e : [] ≡ at_level level t ∷ map (at_level level) tables = is in absurd cc)
all_put level (t ∷ tables) (o ∷ outputs) contents is follow fresh =
    let e : o.placed ∷ placed_in outputs ≡ at_level level t ∷ map (at_level level) tables = is in
    let here : o.placed ≡ at_level level t = cc in
    let rest : placed_in outputs ≡ map (at_level level) tables = cc in
    let free : is_used o.placed.table.number (placed_in contents) ≡ false = unused_from o.placed.table.number (placed_in contents) (no_number o contents (λ x i. fresh o x (inl refl) i)) in
    let one : with_table o.placed (placed_in contents) ≡ Some (placed_in (with_content o contents)) =
    ap (λ (b : Bool). cond b None (Some (inserted o.placed (placed_in contents)))) free ∙ ap (λ (ts : List PlacedTable). Some ts) (sym (placed_with o contents)) in
    let put : with_table (at_level level t) (placed_in contents) ≡ Some (placed_in (with_content o contents)) = ap (λ (p : PlacedTable). with_table p (placed_in contents)) (sym here) ∙ one in
    ap (option_and_then (after_new (map (placed_at level) tables))) put
    ∙ all_put level tables outputs (with_content o contents) rest follow.1 (fresh_with o outputs contents follow fresh)

-- ---- the whole edit

same_then : {X Y : Type 0} (f g : X → Option Y) → ((x : X) → f x ≡ g x) → (o : Option X) → option_and_then f o ≡ option_and_then g o
same_then f g same None = refl
same_then f g same (Some x) = same x

deleted_none : (level : ℕ) (tables : List TableFile) (ts : List PlacedTable) → after_deleted (map (placed_at level) tables) ts ≡ Some ts
deleted_none level [] ts = refl
deleted_none level (t ∷ tables) ts = deleted_none level tables ts

deleted_files : (level : ℕ) (sorted : List PlacedTable) (tables : List TableFile) (ts : List PlacedTable) → after_deleted (files_of level sorted tables) ts ≡ after_deleted (map gone sorted) ts
deleted_files level [] tables ts = deleted_none level tables ts
deleted_files level (p ∷ sorted) tables ts =
    same_then (after_deleted (files_of level sorted tables)) (after_deleted (map gone sorted)) (deleted_files level sorted tables) (without p.level p.table.number ts)

new_files : (level : ℕ) (sorted : List PlacedTable) (tables : List TableFile) (ts : List PlacedTable) → after_new (files_of level sorted tables) ts ≡ after_new (map (placed_at level) tables) ts
new_files level [] tables ts = refl
new_files level (p ∷ sorted) tables ts = new_files level sorted tables ts

whole_edit : (level next last : ℕ) (pointer : Option (List ℕ)) (sorted : List PlacedTable) (tables : List TableFile) (ts us vs : List PlacedTable) → after_deleted (map gone sorted) ts ≡ Some us → after_new (map (placed_at level) tables) us ≡ Some vs
    → after_edit (front_of level next last pointer ++ files_of level sorted tables) ts ≡ Some vs
whole_edit level next last None sorted tables ts us vs d n =
    ap (option_and_then (after_new (files_of level sorted tables))) (deleted_files level sorted tables ts ∙ d) ∙ (new_files level sorted tables us ∙ n)
whole_edit level next last (Some key) sorted tables ts us vs d n =
    ap (option_and_then (after_new (files_of level sorted tables))) (deleted_files level sorted tables ts ∙ d) ∙ (new_files level sorted tables us ∙ n)

files_in_order : (level next last : ℕ) (pointer : Option (List ℕ)) (sorted : List PlacedTable) (tables : List TableFile) → IsInOrder (front_of level next last pointer ++ files_of level sorted tables) → IsInOrder (files_of level sorted tables)
files_in_order level next last pointer sorted tables h = in_order_back (front_of level next last pointer) (files_of level sorted tables) h

all_back : (P : Field → Type 0) (fs gs : List Field) → AllByRecursion P (fs ++ gs) → AllByRecursion P gs
all_back P [] gs h = h
all_back P (f ∷ fs) gs h = all_back P fs gs h.1

-- ---- what the edit says of its tables

pub table_of : (level : ℕ) (tables : List TableFile) (p : PlacedTable) → Among (map (at_level level) tables) p → (t : TableFile) × Among tables t × (p ≡ at_level level t)
table_of level [] p i = absurd i
table_of level (t ∷ tables) p (inl e) = (t, inl refl, e)
table_of level (t ∷ tables) p (inr i) = let r = table_of level tables p i in (r.0, inr r.1, r.2)

follows : (level : ℕ) (t u : TableFile) → IsPlacedBefore (level, t.number) (level, u.number) → IsFollowedBy (at_level level t) (at_level level u)
follows level t u (inl lt) = absurd (omega (arith, lt))
follows level t u (inr h) = (inr h, λ e. omega (arith, h.1, e))

follow_of : (level : ℕ) (tables : List TableFile) (outputs : List TableContent) → placed_in outputs ≡ map (at_level level) tables → Rise (λ (t : TableFile). place_of (placed_at level t)) tables → Follow outputs
follow_of level tables [] is h = tt
follow_of level [] (o ∷ outputs) is h = (let e : o.placed ∷ placed_in outputs ≡ [] = is in absurd cc)
follow_of level (t ∷ tables) (o ∷ outputs) is h =
    let e : o.placed ∷ placed_in outputs ≡ at_level level t ∷ map (at_level level) tables = is in
    let here : o.placed ≡ at_level level t = cc in
    let rest : placed_in outputs ≡ map (at_level level) tables = cc in
    let each : (x : TableContent) → InTables outputs x → IsFollowedBy o.placed x.placed = λ x i.
    (let L : List PlacedTable → Type 0 = λ ps. Among ps x.placed in
    let found = table_of level tables x.placed (subst L rest (among_placed outputs x i)) in
    let F : PlacedTable → Type 0 = λ p. IsFollowedBy p x.placed in
    let G : PlacedTable → Type 0 = λ p. IsFollowedBy (at_level level t) p in
    subst F (sym here) (subst G (sym found.2) (follows level t found.0 (h.0 found.0 found.1)))) in
    (each, follow_of level tables outputs rest h.1)

unused_at : (contents : List TableContent) (level : ℕ) (tables : List TableFile) (t : TableFile) → AllByRecursion (IsUnused (placed_in contents)) (map (placed_at level) tables) → Among tables t → is_used t.number (placed_in contents) ≡ false
unused_at contents level [] t h i = absurd i
unused_at contents level (u ∷ tables) t h (inl e) = let P : TableFile → Type 0 = λ v. is_used v.number (placed_in contents) ≡ false in subst P (sym e) h.0
unused_at contents level (u ∷ tables) t h (inr i) = unused_at contents level tables t h.1 i

pub number_apart : (n : ℕ) (contents : List TableContent) (x : TableContent) → AllByRecursion (λ (p : PlacedTable). n ≢ p.table.number) (placed_in contents) → InTables contents x → n ≢ x.placed.table.number
number_apart n [] x h i = absurd i
number_apart n (c ∷ contents) x h (inl e) = let P : TableContent → Type 0 = λ t. n ≢ t.placed.table.number in subst P (sym e) h.0
number_apart n (c ∷ contents) x h (inr i) = number_apart n contents x h.1 i

fresh_of : (contents : List TableContent) (level : ℕ) (tables : List TableFile) (outputs : List TableContent) → placed_in outputs ≡ map (at_level level) tables → AllByRecursion (IsUnused (placed_in contents)) (map (placed_at level) tables) → Fresh outputs contents
fresh_of contents level tables outputs is h o x i j =
    let L : List PlacedTable → Type 0 = λ ps. Among ps o.placed in
    let found = table_of level tables o.placed (subst L is (among_placed outputs o i)) in
    let P : PlacedTable → Type 0 = λ p. p.table.number ≢ x.placed.table.number in
    subst P (sym found.2) (number_apart found.0.number contents x (unused found.0.number (placed_in contents) (unused_at contents level tables found.0 h found.1)) j)

-- ---- what stays

rest_row : (contents chosen rest : List TableContent) → AreParted contents chosen rest → InRow contents → InRow rest
rest_row [] chosen rest h row = subst InRow (sym h.1) tt
rest_row (c ∷ contents) chosen rest (inl h) row = rest_row contents h.0 rest h.2 row.1
rest_row (c ∷ contents) chosen rest (inr h) row = subst InRow (sym h.1) ((λ x i. row.0 x (from_rest contents chosen h.0 x h.2 i)), rest_row contents chosen h.0 h.2 row.1)

pub all_rest : (contents : List TableContent) → AreParted contents [] contents
all_rest [] = (refl, refl)
all_rest (c ∷ contents) = inr (contents, refl, all_rest contents)

-- ---- the same tables in another order

pub among_contains : {X : Type 0} (xs : List X) (x : X) → Among xs x → Contains xs x
among_contains [] x i = absurd i
among_contains (y ∷ xs) x (inl e) = (0, omega arith, sym e)
among_contains (y ∷ xs) x (inr i) = let r = among_contains xs x i in (suc r.0, omega (arith, r.1), r.2)

pub contains_among : {X : Type 0} (xs : List X) (x : X) → Contains xs x → Among xs x
contains_among [] x (k, lt, e) = absurd (omega (arith, lt))
contains_among (y ∷ xs) x (zero, lt, e) = inl (sym e)
contains_among (y ∷ xs) x (suc k, lt, e) = inr (contains_among xs x (k, omega (arith, lt), e))

pub same_among : {X : Type 0} (xs ys : List X) (x : X) → IsPermutation xs ys → Among xs x → Among ys x
same_among xs ys x h i = contains_among ys x (Contains-permutation xs ys x h (among_contains xs x i))

-- ---- all of it

pub replaces : ReplacesLaw
replaces level next last planned pointer tables edit contents inputs rest outputs is ordered unused_by in_place parted permuted placed =
    let files = files_of level is.sorted tables in
    let in_order : IsInOrder files = files_in_order level next last pointer is.sorted tables (subst IsInOrder is.fields_are ordered) in
    let gones = rising gone (λ x y lt. omega (arith, lt)) is.sorted (in_order_front (map gone is.sorted) (map (placed_at level) tables) in_order) in
    let news = rising (placed_at level) (λ x y lt. omega (arith, lt)) tables (in_order_back (map gone is.sorted) (map (placed_at level) tables) in_order) in
    let row = row_of contents in_place in
    let unused_files : AllByRecursion (IsUnused (placed_in contents)) (map (placed_at level) tables) =
    all_back (IsUnused (placed_in contents)) (map gone is.sorted) (map (placed_at level) tables)
    (all_back (IsUnused (placed_in contents)) (front_of level next last pointer) files (subst (AllByRecursion (IsUnused (placed_in contents))) is.fields_are unused_by)) in
    let follow = follow_of level tables outputs placed news in
    let fresh : Fresh outputs rest = λ o x i j. fresh_of contents level tables outputs placed unused_files o x i (from_rest contents inputs rest x parted j) in
    let deleted = all_deleted is.sorted contents inputs rest parted row gones
    (λ p i. same_among planned is.sorted p is.inputs_are (same_among (placed_in inputs) planned p (IsPermutation-sym planned (placed_in inputs) permuted) i))
    (λ p i. same_among planned (placed_in inputs) p permuted (same_among is.sorted planned p (IsPermutation-sym planned is.sorted is.inputs_are) i)) in
    let put = all_put level tables outputs rest placed follow fresh in
    let P : List Field → Type 0 = λ e. after_edit e (placed_in contents) ≡ Some (placed_in (all_with outputs rest)) in (
      all_with outputs rest,
      all_parted outputs rest [] rest (all_rest rest) (rest_row contents inputs rest parted row) follow fresh (λ x o i j. absurd i),
      subst P (sym is.fields_are) (whole_edit level next last pointer is.sorted tables (placed_in contents) (placed_in rest) (placed_in (all_with outputs rest)) deleted put),
    )
