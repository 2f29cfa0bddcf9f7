-- What a map of tables by rank and the set of their numbers say of the layout's list.
use Rattle.std.proofs.Common.{Ordering, Less, Equal, Greater, ◌≡◌, ◌==◌, nat_lt, ℕ, ◌+◌, Bool, true, false, not, cond, ◌||◌, ◌&&◌, Option, Some, None, List, [], ◌∷◌, refl, sym, ap, ◌∙◌, arith}
use Rattle.std.specs.Ordering.{match_ordering, ordering_then, nat_cmp, is_eq}
use Rattle.std.specs.BTreeMap.{insert_entry, is_at as is_equal}
use Rattle.std.specs.BTreeSet.{BTreeSet, contains}
use Rattle.std.specs.Map.{lookup, remove_entry, values_of}
use Rattle.std.specs.Option.{option_map, is_some, unwrap_or}
use Rattle.std.proofs.lemmas.Bool.Decides.{nat_tests}
use Rattle.std.proofs.lemmas.Bool.{and_parts, or_parts, eqb-true, not-false, not-true, true≢false}
use Rattle.std.proofs.lemmas.Cmp.{nat_eq_equiv}
use Rattle.edits.specs.declared.field.PlacedTable.{PlacedTable}
use Rattle.edits.specs.Layout.{with_table, without, inserted, is_at, is_before, is_used}
use Rattle.edits.specs.TableSets.{AreNumbersOf, count_of, ranked}

abbrev Entry : Type 0
Entry = (ℕ × ℕ) × PlacedTable

abbrev entry : PlacedTable → Entry
entry placed = ((placed.level, placed.table.number), placed)

-- the order of levels, and within a level of numbers
abbrev pub rank_cmp : ℕ × ℕ → ℕ × ℕ → Ordering
rank_cmp x y = ordering_then (nat_cmp x.0 y.0) (nat_cmp x.1 y.1)

pub values-ranked : (tables : List PlacedTable) → values_of (ranked tables) ≡ tables
values-ranked [] = refl
values-ranked (x ∷ xs) = ap (λ t. x ∷ t) (values-ranked xs)

-- ---- a table that is put in

-- where the numbers differ, ranks compare as the layout's order says
put_before : (lower same below equal : Bool) → equal ≡ false → (new x : PlacedTable) (xs later : List PlacedTable) (es : List Entry) → es ≡ ranked later
    → match_ordering (ordering_then (cond lower Less (cond same Equal Greater)) (cond below Less (cond equal Equal Greater)))
    (entry new ∷ entry x ∷ ranked xs) (((x.level, x.table.number), new) ∷ ranked xs) (entry x ∷ es) ≡ ranked (cond (lower || (same && below)) (new ∷ x ∷ xs) (x ∷ later))
put_before true same below equal apart new x xs later es e = refl
put_before false true true equal apart new x xs later es e = refl
put_before false true false true apart new x xs later es e = absurd (true≢false apart)
put_before false true false false apart new x xs later es e = ap (λ t. entry x ∷ t) e
put_before false false below equal apart new x xs later es e = ap (λ t. entry x ∷ t) e

insert_ranked : (new : PlacedTable) (tables : List PlacedTable) → is_used new.table.number tables ≡ false
    → insert_entry rank_cmp (ranked tables) (new.level, new.table.number) new ≡ ranked (inserted new tables)
insert_ranked new [] unused = refl
insert_ranked new (x ∷ xs) unused =
    let parts = or_parts (x.table.number == new.table.number) (is_used new.table.number xs) unused in
    let apart = nat_eq_equiv.symm new.table.number x.table.number ∙ parts.0 in
    put_before (nat_lt new.level x.level) (new.level == x.level) (nat_lt new.table.number x.table.number) (new.table.number == x.table.number) apart new x xs (inserted new xs)
    (insert_entry rank_cmp (ranked xs) (new.level, new.table.number) new) (insert_ranked new xs parts.1)

-- ---- a table that is taken out

equal_cmp : (a b : ℕ) → is_eq (nat_cmp a b) ≡ (a == b)
equal_cmp a b = grind (arith, nat_tests)

both_equal : (o p : Ordering) → is_eq (ordering_then o p) ≡ (is_eq o && is_eq p)
both_equal Less p = refl
both_equal Equal p = refl
both_equal Greater p = refl

same_place : (level number : ℕ) (x : PlacedTable) → is_equal (rank_cmp (level, number)) (x.level, x.table.number) ≡ is_at level number x
same_place level number x =
    both_equal (nat_cmp level x.level) (nat_cmp number x.table.number)
    ∙ ap (λ b. b && is_eq (nat_cmp number x.table.number)) (equal_cmp level x.level ∙ nat_eq_equiv.symm level x.level)
    ∙ ap (λ b. x.level == level && b) (equal_cmp number x.table.number ∙ nat_eq_equiv.symm number x.table.number)

without_more : (b : Bool) (x : PlacedTable) (xs : List PlacedTable) (es : List Entry) (o : Option (List PlacedTable)) (p : Option PlacedTable) → o ≡ option_map (λ _. values_of es) p
    → cond b (Some xs) (option_map (λ others. x ∷ others) o) ≡ option_map (λ _. values_of (cond b (ranked xs) (entry x ∷ es))) (cond b (Some x) p)
without_more true x xs es o p e = ap Some (sym (values-ranked xs))
without_more false x xs es o None e = ap (option_map (λ others. x ∷ others)) e
without_more false x xs es o (Some y) e = ap (option_map (λ others. x ∷ others)) e

without_ranked : (level number : ℕ) (tables : List PlacedTable)
    → without level number tables ≡ option_map (λ _. values_of (remove_entry (is_equal (rank_cmp (level, number))) (ranked tables))) (lookup (is_equal (rank_cmp (level, number))) (ranked tables))
without_ranked level number [] = refl
without_ranked level number (x ∷ xs) =
    let test = is_equal (rank_cmp (level, number)) in
    ap (λ b. cond b (Some xs) (option_map (λ others. x ∷ others) (without level number xs))) (sym (same_place level number x))
    ∙ without_more (test (x.level, x.table.number)) x xs (remove_entry test (ranked xs)) (without level number xs) (lookup test (ranked xs)) (without_ranked level number xs)

removed_more : (b : Bool) (x : PlacedTable) (xs : List PlacedTable) (es : List Entry) → es ≡ ranked (values_of es)
    → cond b (ranked xs) (entry x ∷ es) ≡ ranked (values_of (cond b (ranked xs) (entry x ∷ es)))
removed_more true x xs es e = ap ranked (sym (values-ranked xs))
removed_more false x xs es e = ap (λ t. entry x ∷ t) e

removed_ranked : (test : ℕ × ℕ → Bool) (tables : List PlacedTable) → remove_entry test (ranked tables) ≡ ranked (values_of (remove_entry test (ranked tables)))
removed_ranked test [] = refl
removed_ranked test (x ∷ xs) = removed_more (test (x.level, x.table.number)) x xs (remove_entry test (ranked xs)) (removed_ranked test xs)

-- ---- numbers

count_cond : (q : ℕ) (b : Bool) (new x : PlacedTable) (xs later : List PlacedTable) → count_of q later ≡ cond (new.table.number == q) 1 0 + count_of q xs
    → count_of q (cond b (new ∷ x ∷ xs) (x ∷ later)) ≡ cond (new.table.number == q) 1 0 + count_of q (x ∷ xs)
count_cond q true new x xs later e = refl
count_cond q false new x xs later e = omega (arith, e)

count_inserted : (q : ℕ) (new : PlacedTable) (tables : List PlacedTable) → count_of q (inserted new tables) ≡ cond (new.table.number == q) 1 0 + count_of q tables
count_inserted q new [] = refl
count_inserted q new (x ∷ xs) = count_cond q (is_before new x) new x xs (inserted new xs) (count_inserted q new xs)

count_out : (q number : ℕ) (x : PlacedTable) (xs rest : List PlacedTable) (b : Bool) (o : Option (List PlacedTable)) → (b ≡ true → (x.table.number == number) ≡ true)
    → ((others : List PlacedTable) → o ≡ Some others → count_of q xs ≡ cond (number == q) 1 0 + count_of q others)
    → cond b (Some xs) (option_map (λ others. x ∷ others) o) ≡ Some rest → count_of q (x ∷ xs) ≡ cond (number == q) 1 0 + count_of q rest
count_out q number x xs rest true o same h e =
    ap (λ n. cond (n == q) 1 0 + count_of q xs) (eqb-true x.table.number number (same refl)) ∙ ap (λ t. cond (number == q) 1 0 + count_of q t) (ap (λ o. unwrap_or o xs) e)
count_out q number x xs rest false None same h e = absurd (cc)
count_out q number x xs rest false (Some others) same h e =
    let counted = h others refl in
    let rest_is = ap (λ o. count_of q (unwrap_or o xs)) e in
    omega (arith, counted, rest_is)

count_without : (q level number : ℕ) (tables rest : List PlacedTable) → without level number tables ≡ Some rest → count_of q tables ≡ cond (number == q) 1 0 + count_of q rest
count_without q level number [] rest e = absurd (cc)
count_without q level number (x ∷ xs) rest e =
    count_out q number x xs rest (is_at level number x) (without level number xs) (λ t. (and_parts (x.level == level) (x.table.number == number) t).1) (λ others. count_without q level number xs others) e

none_used : (b u : Bool) (count : ℕ) → (count ≡ 0 → u ≡ false) → cond b 1 0 + count ≡ 0 → (b || u) ≡ false
none_used true u count h e = absurd (omega (arith, e))
none_used false u count h e = h (omega (arith, e))

unused_from_count : (number : ℕ) (tables : List PlacedTable) → count_of number tables ≡ 0 → is_used number tables ≡ false
unused_from_count number [] e = refl
unused_from_count number (x ∷ xs) e = none_used (x.table.number == number) (is_used number xs) (count_of number xs) (unused_from_count number xs) e

none_counted : (b u : Bool) (count : ℕ) → (u ≡ false → count ≡ 0) → (b || u) ≡ false → cond b 1 0 + count ≡ 0
none_counted true u count h e = absurd (true≢false e)
none_counted false u count h e = let counted = h e in omega (arith, counted)

count_from_unused : (number : ℕ) (tables : List PlacedTable) → is_used number tables ≡ false → count_of number tables ≡ 0
count_from_unused number [] e = refl
count_from_unused number (x ∷ xs) e = none_counted (x.table.number == number) (is_used number xs) (count_of number xs) (count_from_unused number xs) e

by_count : (used there : Bool) (count : ℕ) → (count ≡ 0 → used ≡ false) → (used ≡ false → count ≡ 0) → count ≡ cond there 1 0 → used ≡ there
by_count true true count none unused e = refl
by_count true false count none unused e = none e
by_count false true count none unused e = let counted = unused refl in absurd (omega (arith, e, counted))
by_count false false count none unused e = refl

used_there : (tables : List PlacedTable) (numbers : BTreeSet ℕ) → AreNumbersOf tables numbers → (number : ℕ) → is_used number tables ≡ contains nat_cmp numbers number
used_there tables numbers are number =
    by_count (is_used number tables) (contains nat_cmp numbers number) (count_of number tables) (unused_from_count number tables) (count_from_unused number tables) (are number)

one_more : (same there : Bool) → (same ≡ true → there ≡ false) → cond same 1 0 + cond there 1 0 ≡ cond (cond same true there) 1 0
one_more true true new = absurd (true≢false (new refl))
one_more true false new = refl
one_more false true new = refl
one_more false false new = refl

one_less : (same there : Bool) (count rest : ℕ) → count ≡ cond same 1 0 + rest → count ≡ cond there 1 0 → rest ≡ cond (cond same false there) 1 0
one_less true true count rest e h = omega (arith, e, h)
one_less true false count rest e h = omega (arith, e, h)
one_less false true count rest e h = omega (arith, e, h)
one_less false false count rest e h = omega (arith, e, h)

-- ---- one change of a map and a set

module _ (old : List Entry) (numbers : BTreeSet ℕ) (are_ranked : old ≡ ranked (values_of old)) (are : AreNumbersOf (values_of old) numbers) where
  module _ (placed : PlacedTable) where
    pub add_refused : not (contains nat_cmp numbers placed.table.number) ≡ false → with_table placed (values_of old) ≡ None
    add_refused there = ap (λ b. cond b None (Some (inserted placed (values_of old)))) (used_there (values_of old) numbers are placed.table.number ∙ not-false _ there)

    module _ (new : List Entry) (added : not (contains nat_cmp numbers placed.table.number) ≡ true) (is : new ≡ insert_entry rank_cmp old (placed.level, placed.table.number) placed) where
      apart : contains nat_cmp numbers placed.table.number ≡ false
      apart = not-true _ added

      unused : is_used placed.table.number (values_of old) ≡ false
      unused = used_there (values_of old) numbers are placed.table.number ∙ apart

      new_is : new ≡ ranked (inserted placed (values_of old))
      new_is = is ∙ ap (λ es. insert_entry rank_cmp es (placed.level, placed.table.number) placed) are_ranked ∙ insert_ranked placed (values_of old) unused

      values_are : values_of new ≡ inserted placed (values_of old)
      values_are = ap values_of new_is ∙ values-ranked (inserted placed (values_of old))

      pub add_done : with_table placed (values_of old) ≡ Some (values_of new)
      add_done = ap (λ b. cond b None (Some (inserted placed (values_of old)))) unused ∙ ap Some (sym values_are)

      pub add_keeps : (more : BTreeSet ℕ) → ((q : ℕ) → contains nat_cmp more q ≡ cond (is_equal (nat_cmp placed.table.number) q) true (contains nat_cmp numbers q))
          → (new ≡ ranked (values_of new)) × AreNumbersOf (values_of new) more
      add_keeps more has = (new_is ∙ ap ranked (sym values_are), counts)
        where
          counts : AreNumbersOf (values_of new) more
          counts q =
              ap (count_of q) values_are ∙ count_inserted q placed (values_of old) ∙ ap (λ n. cond (placed.table.number == q) 1 0 + n) (are q)
              ∙ one_more (placed.table.number == q) (contains nat_cmp numbers q) (λ t. ap (contains nat_cmp numbers) (sym (eqb-true placed.table.number q t)) ∙ apart)
              ∙ ap (λ b. cond (cond b true (contains nat_cmp numbers q)) 1 0) (sym (equal_cmp placed.table.number q)) ∙ ap (λ b. cond b 1 0) (sym (has q))

  module _ (level number : ℕ) (found : Option PlacedTable) (is_found : found ≡ lookup (is_equal (rank_cmp (level, number))) old) where
    outcome : without level number (values_of old) ≡ option_map (λ _. values_of (remove_entry (is_equal (rank_cmp (level, number))) old)) found
    outcome =
        without_ranked level number (values_of old)
        ∙ ap (λ es. option_map (λ _. values_of (remove_entry (is_equal (rank_cmp (level, number))) es)) (lookup (is_equal (rank_cmp (level, number))) es)) (sym are_ranked)
        ∙ ap (option_map (λ _. values_of (remove_entry (is_equal (rank_cmp (level, number))) old))) (sym is_found)

    pub remove_refused : is_some found ≡ false → without level number (values_of old) ≡ None
    remove_refused none = outcome ∙ of_none found none
      where
        of_none : (o : Option PlacedTable) → is_some o ≡ false → option_map (λ _. values_of (remove_entry (is_equal (rank_cmp (level, number))) old)) o ≡ None
        of_none None e = refl
        of_none (Some x) e = absurd (cc)

    module _ (new : List Entry) (some : is_some found ≡ true) (is : new ≡ remove_entry (is_equal (rank_cmp (level, number))) old) where
      pub remove_done : without level number (values_of old) ≡ Some (values_of new)
      remove_done = outcome ∙ of_some found some ∙ ap (λ es. Some (values_of es)) (sym is)
        where
          of_some : (o : Option PlacedTable) → is_some o ≡ true → option_map (λ _. values_of (remove_entry (is_equal (rank_cmp (level, number))) old)) o ≡ Some (values_of (remove_entry (is_equal (rank_cmp (level, number))) old))
          of_some None e = absurd (cc)
          of_some (Some x) e = refl

      pub remove_keeps : (more : BTreeSet ℕ) → ((q : ℕ) → contains nat_cmp more q ≡ cond (is_equal (nat_cmp number) q) false (contains nat_cmp numbers q))
          → (new ≡ ranked (values_of new)) × AreNumbersOf (values_of new) more
      remove_keeps more has = (new_is ∙ removed_ranked test (values_of old) ∙ ap (λ es. ranked (values_of es)) (sym new_is), counts)
        where
          test : ℕ × ℕ → Bool
          test = is_equal (rank_cmp (level, number))

          new_is : new ≡ remove_entry test (ranked (values_of old))
          new_is = is ∙ ap (remove_entry test) are_ranked

          counts : AreNumbersOf (values_of new) more
          counts q =
              one_less (number == q) (contains nat_cmp numbers q) (count_of q (values_of old)) (count_of q (values_of new)) (count_without q level number (values_of old) (values_of new) remove_done) (are q)
              ∙ ap (λ b. cond (cond b false (contains nat_cmp numbers q)) 1 0) (sym (equal_cmp number q)) ∙ ap (λ b. cond b 1 0) (sym (has q))
