-- Tables as a set, and what edits leave of them.
use Rattle.std.proofs.Common.{◌≡◌, ◌≢◌, ◌⊎◌, ◌==◌, ℕ, Bool, true, false, cond, suc, inl, inr, Option, Some, None, unwrap_or, is_some, List, [], ◌∷◌, take, drop, refl, sym, ap, ◌∙◌, subst, arith, All, AllPairs, Contains}
use Rattle.std.specs.Option.{option_map}
use Rattle.std.specs.List.{insert}
use Rattle.std.proofs.lemmas.Bool.{cond_both, false≢true, and_parts, or_cases, eqb-true}
use Rattle.std.proofs.lemmas.List.{take-append-drop}
use Rattle.std.proofs.lemmas.List.Elements.{All-contains, Contains-append_left, Contains-append_right, Contains-append_cases, recursion_from_All, All-from_recursion}
use Rattle.std.proofs.lemmas.List.Kept.{AllPairs-cons}
use Rattle.edits.specs.declared.field.PlacedTable.{PlacedTable}
use Rattle.edits.specs.Layout.{without, inserted, with_table, is_at, is_before, is_used}
use Rattle.edits.proofs.Orders.{unused, unused_from}
use Rattle.versions.specs.Levels.{ListsSameTables}
use Rattle.versions.proofs.Pairs.{Among, among_contained, contained_among, all_contained}

abbrev pub Other : PlacedTable → PlacedTable → Type 0
Other a b = a.table.number ≢ b.table.number

-- ---- by recursion

abbrev AreOthers : List PlacedTable → Type 0
AreOthers [] = Unit {0}
AreOthers (p ∷ ps) = ((q : PlacedTable) → Among q ps → Other p q) × AreOthers ps

others_from : (ps : List PlacedTable) → AllPairs Other ps → AreOthers ps
others_from [] h = tt
others_from (p ∷ ps) h = (
  (λ q a. let c = contained_among q ps a in subst (λ t. Other p t) c.2 (h 0 (suc c.0) q (omega arith) (omega (arith, c.1)))),
  others_from ps (λ i j d lt le. h (suc i) (suc j) d (omega (arith, lt)) (omega (arith, le))),
)

pairs_from : (ps : List PlacedTable) → AreOthers ps → AllPairs Other ps
pairs_from [] h = λ i j d lt le. absurd (omega (arith, le))
pairs_from (p ∷ ps) h = AllPairs-cons Other p ps (all_contained (Other p) ps (λ q c. h.0 q (among_contained q ps c.0 c.1 c.2))) (pairs_from ps h.1)

-- ---- a table that is taken out

at_number : (level number : ℕ) (p : PlacedTable) → is_at level number p ≡ true → p.table.number ≡ number
at_number level number p e = eqb-true p.table.number number (and_parts (p.level == level) (p.table.number == number) e).1

-- the others are those that aren't at this level of this number
pub record TakesOut (level number : ℕ) (old new : List PlacedTable) : Type 0 where
  pub stays : (p : PlacedTable) → Among p old → is_at level number p ≡ false → Among p new
  pub was : (p : PlacedTable) → Among p new → Among p old × (is_at level number p ≡ false)

not_at : (level number : ℕ) (a b : PlacedTable) → is_at level number a ≡ true → Other a b → is_at level number b ≡ false
not_at level number a b e other = elim (bools (is_at level number b)) [ inl t ↦ absurd (other (at_number level number a e ∙ sym (at_number level number b t))) | inr f ↦ f ]
  where
    bools : (b : Bool) → (b ≡ true) ⊎ (b ≡ false)
    bools true = inl refl
    bools false = inr refl

pub inside : (a b : List PlacedTable) → Some a ≡ Some b → a ≡ b
inside a b e = ap (λ o. unwrap_or o []) e

pub no_some : {R : Type 0} (a : List PlacedTable) → None ≡ Some a → R
no_some a e = absurd (false≢true (ap is_some e))

mapped : (p : PlacedTable) (o : Option (List PlacedTable)) (new : List PlacedTable) → option_map (λ others. p ∷ others) o ≡ Some new → (rest : List PlacedTable) × (o ≡ Some rest) × (new ≡ p ∷ rest)
mapped p None new e = no_some new e
mapped p (Some rest) new e = (rest, refl, sym (inside (p ∷ rest) new e))

pub takes_out : (level number : ℕ) (old new : List PlacedTable) → AreOthers old → without level number old ≡ Some new → TakesOut level number old new × AreOthers new
takes_out level number [] new h e = no_some new e
takes_out level number (p ∷ ps) new h e0 =
    cond_both (is_at level number p) (Some ps) (option_map (λ others. p ∷ others) (without level number ps)) (λ o. o ≡ Some new → TakesOut level number (p ∷ ps) new × AreOthers new)
    (λ here e. subst (λ ns. TakesOut level number (p ∷ ps) ns × AreOthers ns) (inside ps new e) (
      record {
        stays = λ q a n. elim a [ inl same ↦ absurd (false≢true (sym n ∙ sym (ap (is_at level number) same) ∙ here)) | inr b ↦ b ];
        was = λ q a. (inr a, not_at level number p q here (h.0 q a));
      },
      h.1,
    ))
    (λ not e.
    let m = mapped p (without level number ps) new e in
    let r = takes_out level number ps m.0 h.1 m.1 in
    subst (λ ns. TakesOut level number (p ∷ ps) ns × AreOthers ns) (sym m.2) (
      record {
        stays = λ q a n. elim a [ inl same ↦ inl same | inr b ↦ inr (r.0.stays q b n) ];
        was = λ q a. elim a [ inl same ↦ (inl same, sym (ap (is_at level number) same) ∙ not) | inr b ↦ let w = r.0.was q b in (inr w.0, w.1) ];
      },
      (λ q a. h.0 q (r.0.was q a).0, r.1),
    ))
    e0

found : (level number : ℕ) (x : PlacedTable) (ps : List PlacedTable) → Among x ps → is_at level number x ≡ true → (new : List PlacedTable) × (without level number ps ≡ Some new)
found level number x [] a e = absurd a
found level number x (p ∷ ps) a e =
    cond_both (is_at level number p) (Some ps) (option_map (λ others. p ∷ others) (without level number ps)) (λ o. (new : List PlacedTable) × (o ≡ Some new))
    (λ _. (ps, refl))
    (λ not. elim a [
      | inl same ↦ absurd (false≢true (sym not ∙ ap (is_at level number) same ∙ e))
      | inr b ↦ let r = found level number x ps b e in (p ∷ r.0, ap (λ o. option_map (λ others. p ∷ others) o) r.1)
    ])

has_at : (level number : ℕ) (ps new : List PlacedTable) → without level number ps ≡ Some new → (x : PlacedTable) × Among x ps × (is_at level number x ≡ true)
has_at level number [] new e = no_some new e
has_at level number (p ∷ ps) new e0 =
    cond_both (is_at level number p) (Some ps) (option_map (λ others. p ∷ others) (without level number ps)) (λ o. o ≡ Some new → (x : PlacedTable) × Among x (p ∷ ps) × (is_at level number x ≡ true))
    (λ here _. (p, inl refl, here))
    (λ _ e. let m = mapped p (without level number ps) new e in let r = has_at level number ps m.0 m.1 in (r.0, inr r.1, r.2))
    e0

some_or_none : (o : Option (List PlacedTable)) → (o ≡ None) ⊎ ((new : List PlacedTable) × (o ≡ Some new))
some_or_none None = inl refl
some_or_none (Some new) = inr (new, refl)

pub contains_from : (xs ys : List PlacedTable) → All (Contains ys) xs → (p : PlacedTable) → Among p xs → Among p ys
contains_from xs ys h p a = let c = All-contains (Contains ys) xs p h (contained_among p xs a) in among_contained p ys c.0 c.1 c.2

-- where a layout lists the old tables, it lists the new ones after the same is taken out of it
pub lists_without : (level number : ℕ) (old new listed : List PlacedTable) → AllPairs Other old → without level number old ≡ Some new → ListsSameTables listed old → (left : List PlacedTable) × (without level number listed ≡ Some left) × ListsSameTables left new
lists_without level number old new listed others e lists =
    let x = has_at level number old new e in
    let f = found level number x.0 listed (contains_from old listed lists.only x.0 x.1) x.2 in
    let a = takes_out level number old new (others_from old others) e in
    let b = takes_out level number listed f.0 (others_from listed lists.numbers) f.1 in (
      f.0,
      f.1,
      record {
        numbers = pairs_from f.0 b.1;
        all = all_contained (Contains new) f.0 (λ p c. let w = b.0.was p (among_contained p f.0 c.0 c.1 c.2) in contained_among p new (a.0.stays p (contains_from listed old lists.all p w.0) w.1));
        only = all_contained (Contains f.0) new (λ p c. let w = a.0.was p (among_contained p new c.0 c.1 c.2) in contained_among p f.0 (b.0.stays p (contains_from old listed lists.only p w.0) w.1));
      },
    )

pub lists_without_none : (level number : ℕ) (old listed : List PlacedTable) → without level number old ≡ None → ListsSameTables listed old → without level number listed ≡ None
lists_without_none level number old listed e lists =
    elim (some_or_none (without level number listed)) [
      | inl none ↦ none
      | inr some ↦
          let x = has_at level number listed some.0 some.1 in
          let f = found level number x.0 old (contains_from listed old lists.all x.0 x.1) x.2 in
          no_some f.0 (sym e ∙ f.1)
    ]

-- ---- a table that is put in

pub ins_stays : (new : PlacedTable) (q : PlacedTable) (ts : List PlacedTable) → Among q ts → Among q (inserted new ts)
ins_stays new q [] a = absurd a
ins_stays new q (t ∷ ts) a =
    cond_both (is_before new t) (new ∷ t ∷ ts) (t ∷ inserted new ts) (λ ns. Among q ns) (λ _. inr a) (λ _. elim a [ inl same ↦ inl same | inr b ↦ inr (ins_stays new q ts b) ])

pub ins_new : (new : PlacedTable) (ts : List PlacedTable) → Among new (inserted new ts)
ins_new new [] = inl refl
ins_new new (t ∷ ts) = cond_both (is_before new t) (new ∷ t ∷ ts) (t ∷ inserted new ts) (λ ns. Among new ns) (λ _. inl refl) (λ _. inr (ins_new new ts))

ins_was : (new : PlacedTable) (q : PlacedTable) (ts : List PlacedTable) → Among q (inserted new ts) → (new ≡ q) ⊎ Among q ts
ins_was new q [] (inl same) = inl same
ins_was new q [] (inr a) = absurd a
ins_was new q (t ∷ ts) a0 =
    cond_both (is_before new t) (new ∷ t ∷ ts) (t ∷ inserted new ts) (λ ns. Among q ns → (new ≡ q) ⊎ Among q (t ∷ ts))
    (λ _ a. elim a [ inl same ↦ inl same | inr b ↦ inr b ])
    (λ _ a. elim a [ inl same ↦ inr (inl same) | inr b ↦ elim (ins_was new q ts b) [ inl same ↦ inl same | inr d ↦ inr (inr d) ] ])
    a0

ins_others : (new : PlacedTable) (ts : List PlacedTable) → ((q : PlacedTable) → Among q ts → Other new q) → AreOthers ts → AreOthers (inserted new ts)
ins_others new [] h k = ((λ q a. absurd a), tt)
ins_others new (t ∷ ts) h k =
    cond_both (is_before new t) (new ∷ t ∷ ts) (t ∷ inserted new ts) AreOthers (λ _. (h, k))
    (λ _. ((λ q a. elim (ins_was new q ts a) [ inl same ↦ (λ e. h t (inl refl) (ap (λ p. p.table.number) same ∙ sym e)) | inr b ↦ k.0 q b ]), ins_others new ts (λ q a. h q (inr a)) k.1))

pub fresh_in : (number : ℕ) (old : List PlacedTable) → is_used number old ≡ false → (p : PlacedTable) → Among p old → number ≢ p.table.number
fresh_in number old e p a = All-contains (λ q. number ≢ q.table.number) old p (All-from_recursion (λ q. number ≢ q.table.number) old (unused number old e)) (contained_among p old a)

pub unused_listed : (number : ℕ) (old listed : List PlacedTable) → All (Contains old) listed → is_used number old ≡ false → is_used number listed ≡ false
unused_listed number old listed h e =
    unused_from number listed (recursion_from_All (λ q. q.table.number ≢ number) listed (all_contained (λ q. q.table.number ≢ number) listed
    (λ p c same. fresh_in number old e p (contains_from listed old h p (among_contained p listed c.0 c.1 c.2)) (sym same))))

pub lists_with : (new : PlacedTable) (old tables listed : List PlacedTable) → is_used new.table.number old ≡ false → ((p : PlacedTable) → Contains old p → Contains tables p) → Contains tables new
    → ((p : PlacedTable) → Contains tables p → Contains old p ⊎ (new ≡ p)) → ListsSameTables listed old → (left : List PlacedTable) × (with_table new listed ≡ Some left) × ListsSameTables left tables
lists_with new old tables listed fresh stays there was lists =
    let free' = unused_listed new.table.number old listed lists.all fresh in (
      inserted new listed,
      ap (λ b. cond b None (Some (inserted new listed))) free',
      record {
        numbers = pairs_from (inserted new listed) (ins_others new listed (fresh_in new.table.number listed free') (others_from listed lists.numbers));
        all = all_contained (Contains tables) (inserted new listed) (λ p c. elim (ins_was new p listed (among_contained p (inserted new listed) c.0 c.1 c.2)) [
          | inl same ↦ subst (Contains tables) same there
          | inr a ↦ stays p (All-contains (Contains old) listed p lists.all (contained_among p listed a))
        ]);
        only = all_contained (Contains (inserted new listed)) tables (λ p c. elim (was p c) [
          | inl o ↦ contained_among p (inserted new listed) (ins_stays new p listed (contains_from old listed lists.only p (among_contained p old o.0 o.1 o.2)))
          | inr same ↦ subst (Contains (inserted new listed)) same (contained_among new (inserted new listed) (ins_new new listed))
        ]);
      },
    )

-- ---- a list with one element inserted or removed

pub insert_stays : {X : Type 0} (xs : List X) (i : ℕ) (y x : X) → Contains xs x → Contains (insert xs i y) x
insert_stays xs i y x c =
    elim (Contains-append_cases (take i xs) (drop i xs) x (subst (λ ys. Contains ys x) (sym (take-append-drop i xs)) c)) [
      | inl a ↦ Contains-append_left (take i xs) (y ∷ drop i xs) x a
      | inr b ↦ Contains-append_right (take i xs) (y ∷ drop i xs) x (suc b.0, omega (arith, b.1), b.2)
    ]

pub insert_new : {X : Type 0} (xs : List X) (i : ℕ) (y : X) → Contains (insert xs i y) y
insert_new xs i y = Contains-append_right (take i xs) (y ∷ drop i xs) y (0, omega arith, refl)

pub insert_was : {X : Type 0} (xs : List X) (i : ℕ) (y x : X) → Contains (insert xs i y) x → Contains xs x ⊎ (y ≡ x)
insert_was xs i y x c =
    elim (Contains-append_cases (take i xs) (y ∷ drop i xs) x c) [
      | inl a ↦ inl (subst (λ ys. Contains ys x) (take-append-drop i xs) (Contains-append_left (take i xs) (drop i xs) x a))
      | inr b ↦ elim (among_contained x (y ∷ drop i xs) b.0 b.1 b.2) [
        | inl same ↦ inr same
        | inr a ↦ inl (subst (λ ys. Contains ys x) (take-append-drop i xs) (Contains-append_right (take i xs) (drop i xs) x (contained_among x (drop i xs) a)))
      ]
    ]

-- a number that is used is that of some table
pub used_in : (number : ℕ) (ts : List PlacedTable) → is_used number ts ≡ true → (p : PlacedTable) × Contains ts p × (p.table.number ≡ number)
used_in number ts e = let r = go ts e in (r.0, contained_among r.0 ts r.1, r.2)
  where
    go : (ts : List PlacedTable) → is_used number ts ≡ true → (p : PlacedTable) × Among p ts × (p.table.number ≡ number)
    go [] h = absurd (false≢true h)
    go (t ∷ ts) h = elim (or_cases (t.table.number == number) (is_used number ts) h) [
      | inl a ↦ (t, inl refl, eqb-true t.table.number number a)
      | inr b ↦ let r = go ts b in (r.0, inr r.1, r.2)
    ]
