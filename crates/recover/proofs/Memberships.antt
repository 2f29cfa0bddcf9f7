-- What is among entries, and which tables are in a list.
use Rattle.std.proofs.Common.{◌≡◌, ◌⊎◌, inl, inr, Bool, true, false, cond, List, [], ◌∷◌, ◌++◌, ◌≤◌, map, refl, sym, ap, subst, arith}
use Rattle.ikey.specs.Orders.{Order}
use Rattle.store.specs.Files.{Files}
use Rattle.edits.specs.Layout.{is_before, inserted}
use Rattle.edits.specs.declared.field.PlacedTable.{PlacedTable}
use Rattle.ikey.specs.declared.entry.Entry.{Entry}
use Rattle.recover.specs.Entries.{greatest}
use Rattle.ikey.specs.Views.{Among}
use Rattle.recover.specs.Tables.{TableContent, HasTable, HasTables, InTables, tabled}
use Rattle.recover.specs.internal.Changes.{with_content}
use Rattle.recover.specs.Replacing.{AreParted}
use Rattle.recover.proofs.Adding.{among_split}

-- ---- entries

pub among_front : (xs ys : List Entry) (e : Entry) → Among xs e → Among (xs ++ ys) e
among_front [] ys e i = absurd i
among_front (x ∷ xs) ys e (inl h) = inl h
among_front (x ∷ xs) ys e (inr i) = inr (among_front xs ys e i)

pub among_back : (xs ys : List Entry) (e : Entry) → Among ys e → Among (xs ++ ys) e
among_back [] ys e i = i
among_back (x ∷ xs) ys e i = inr (among_back xs ys e i)

pub up_to_greatest : (xs : List Entry) (e : Entry) → Among xs e → e.sequence ≤ greatest xs
up_to_greatest [] e i = absurd i
up_to_greatest (x ∷ xs) e (inl h) = omega (arith, ap (λ (f : Entry). f.sequence) h)
up_to_greatest (x ∷ xs) e (inr i) = let rest : e.sequence ≤ greatest xs = up_to_greatest xs e i in omega (arith, rest)

-- ---- tables

pub from_tabled : (contents : List TableContent) (e : Entry) → Among (tabled contents) e → (content : TableContent) × InTables contents content × Among content.entries e
from_tabled [] e i = absurd i
from_tabled (c ∷ contents) e i =
    elim (among_split c.entries (tabled contents) e i) [
      | inl here ↦ (c, inl refl, here)
      | inr there ↦ let r = from_tabled contents e there in (r.0, inr r.1, r.2)
    ]

pub to_tabled : (contents : List TableContent) (content : TableContent) (e : Entry) → InTables contents content → Among content.entries e → Among (tabled contents) e
to_tabled [] content e i a = absurd i
to_tabled (c ∷ contents) content e (inl same) a = let P : TableContent → Type 0 = λ t. Among t.entries e in among_front c.entries (tabled contents) e (subst P same a)
to_tabled (c ∷ contents) content e (inr i) a = among_back c.entries (tabled contents) e (to_tabled contents content e i a)

pub each_table : (order : Order) (files : Files) (contents : List TableContent) → ((content : TableContent) → InTables contents content → HasTable order files content) → HasTables order files contents
each_table order files [] h = tt
each_table order files (c ∷ contents) h = (h c (inl refl), each_table order files contents (λ o i. h o (inr i)))

pub one_of_tables : (order : Order) (files : Files) (contents : List TableContent) (content : TableContent) → HasTables order files contents → InTables contents content → HasTable order files content
one_of_tables order files [] content h i = absurd i
one_of_tables order files (c ∷ contents) content h (inl e) = let P : TableContent → Type 0 = λ t. HasTable order files t in subst P (sym e) h.0
one_of_tables order files (c ∷ contents) content h (inr i) = one_of_tables order files contents content h.1 i

-- ---- one more

pub in_with : (new : TableContent) (contents : List TableContent) (content : TableContent) → InTables (with_content new contents) content → (content ≡ new) ⊎ InTables contents content
in_with new [] content (inl e) = inl e
in_with new [] content (inr i) = absurd i
in_with new (c ∷ contents) content i = by (λ j. in_with new contents content j) (is_before new.placed c.placed) i
  where
    by : (InTables (with_content new contents) content → (content ≡ new) ⊎ InTables contents content) → (b : Bool) → InTables (cond b (new ∷ c ∷ contents) (c ∷ with_content new contents)) content → (content ≡ new) ⊎ InTables (c ∷ contents) content
    by rest true (inl e) = inl e
    by rest true (inr j) = inr j
    by rest false (inl e) = inr (inl e)
    by rest false (inr j) = elim (rest j) [ inl e ↦ inl e | inr k ↦ inr (inr k) ]

pub new_in_with : (new : TableContent) (contents : List TableContent) → InTables (with_content new contents) new
new_in_with new [] = inl refl
new_in_with new (c ∷ contents) = by (new_in_with new contents) (is_before new.placed c.placed)
  where
    by : InTables (with_content new contents) new → (b : Bool) → InTables (cond b (new ∷ c ∷ contents) (c ∷ with_content new contents)) new
    by rest true = inl refl
    by rest false = inr rest

pub old_in_with : (new : TableContent) (contents : List TableContent) (content : TableContent) → InTables contents content → InTables (with_content new contents) content
old_in_with new [] content i = absurd i
old_in_with new (c ∷ contents) content i = by (λ j. old_in_with new contents content j) (is_before new.placed c.placed) i
  where
    by : (InTables contents content → InTables (with_content new contents) content) → (b : Bool) → InTables (c ∷ contents) content → InTables (cond b (new ∷ c ∷ contents) (c ∷ with_content new contents)) content
    by rest true j = inr j
    by rest false (inl e) = inl e
    by rest false (inr j) = inr (rest j)

pub placed_with : (new : TableContent) (contents : List TableContent) → map (λ (c : TableContent). c.placed) (with_content new contents) ≡ inserted new.placed (map (λ (c : TableContent). c.placed) contents)
placed_with new [] = refl
placed_with new (c ∷ contents) = by (placed_with new contents) (is_before new.placed c.placed)
  where
    by : map (λ (t : TableContent). t.placed) (with_content new contents) ≡ inserted new.placed (map (λ (t : TableContent). t.placed) contents) → (b : Bool) → map (λ (t : TableContent). t.placed) (cond b (new ∷ c ∷ contents) (c ∷ with_content new contents))
        ≡ cond b (new.placed ∷ c.placed ∷ map (λ (t : TableContent). t.placed) contents) (c.placed ∷ inserted new.placed (map (λ (t : TableContent). t.placed) contents))
    by rest true = refl
    by rest false = ap (λ (ts : List PlacedTable). c.placed ∷ ts) rest

-- ---- parts

pub in_part : (contents chosen rest : List TableContent) (content : TableContent) → AreParted contents chosen rest → InTables contents content → InTables chosen content ⊎ InTables rest content
in_part [] chosen rest content h i = absurd i
in_part (c ∷ contents) chosen rest content (inl h) (inl e) = let P : List TableContent → Type 0 = λ ts. InTables ts content in inl (subst P (sym h.1) (inl e))
in_part (c ∷ contents) chosen rest content (inl h) (inr i) =
    let P : List TableContent → Type 0 = λ ts. InTables ts content in
    elim (in_part contents h.0 rest content h.2 i) [ inl j ↦ inl (subst P (sym h.1) (inr j)) | inr j ↦ inr j ]
in_part (c ∷ contents) chosen rest content (inr h) (inl e) = let P : List TableContent → Type 0 = λ ts. InTables ts content in inr (subst P (sym h.1) (inl e))
in_part (c ∷ contents) chosen rest content (inr h) (inr i) =
    let P : List TableContent → Type 0 = λ ts. InTables ts content in
    elim (in_part contents chosen h.0 content h.2 i) [ inl j ↦ inl j | inr j ↦ inr (subst P (sym h.1) (inr j)) ]

pub from_chosen : (contents chosen rest : List TableContent) (content : TableContent) → AreParted contents chosen rest → InTables chosen content → InTables contents content
from_chosen [] chosen rest content h i = let P : List TableContent → Type 0 = λ ts. InTables ts content in absurd (subst P h.0 i)
from_chosen (c ∷ contents) chosen rest content (inl h) i =
    let P : List TableContent → Type 0 = λ ts. InTables ts content in
    let here : (content ≡ c) ⊎ InTables h.0 content = subst P h.1 i in
    elim here [ inl e ↦ inl e | inr j ↦ inr (from_chosen contents h.0 rest content h.2 j) ]
from_chosen (c ∷ contents) chosen rest content (inr h) i = inr (from_chosen contents chosen h.0 content h.2 i)

pub from_rest : (contents chosen rest : List TableContent) (content : TableContent) → AreParted contents chosen rest → InTables rest content → InTables contents content
from_rest [] chosen rest content h i = let P : List TableContent → Type 0 = λ ts. InTables ts content in absurd (subst P h.1 i)
from_rest (c ∷ contents) chosen rest content (inl h) i = inr (from_rest contents h.0 rest content h.2 i)
from_rest (c ∷ contents) chosen rest content (inr h) i =
    let P : List TableContent → Type 0 = λ ts. InTables ts content in
    let here : (content ≡ c) ⊎ InTables h.0 content = subst P h.1 i in
    elim here [ inl e ↦ inl e | inr j ↦ inr (from_rest contents chosen h.0 content h.2 j) ]

pub among_contents : (contents chosen rest : List TableContent) (e : Entry) → AreParted contents chosen rest → Among (tabled contents) e → Among (tabled chosen) e ⊎ Among (tabled rest) e
among_contents contents chosen rest e h a =
    let t = from_tabled contents e a in
    elim (in_part contents chosen rest t.0 h t.1) [
      | inl i ↦ inl (to_tabled chosen t.0 e i t.2)
      | inr i ↦ inr (to_tabled rest t.0 e i t.2)
    ]

pub among_chosen : (contents chosen rest : List TableContent) (e : Entry) → AreParted contents chosen rest → Among (tabled chosen) e → Among (tabled contents) e
among_chosen contents chosen rest e h a = let t = from_tabled chosen e a in to_tabled contents t.0 e (from_chosen contents chosen rest t.0 h t.1) t.2

pub among_rest : (contents chosen rest : List TableContent) (e : Entry) → AreParted contents chosen rest → Among (tabled rest) e → Among (tabled contents) e
among_rest contents chosen rest e h a = let t = from_tabled rest e a in to_tabled contents t.0 e (from_rest contents chosen rest t.0 h t.1) t.2
