-- Changes of tables that a layout lists.
use Rattle.std.proofs.Common.{◌≡◌, ◌≢◌, ◌⊎◌, ℕ, ◌+◌, ◌<◌, ◌≤◌, suc, inl, inr, Option, Some, None, option_and_then, List, [], ◌∷◌, length, get_or, take, drop, refl, sym, ap, ◌∙◌, subst, arith, All, Contains}
use Rattle.std.specs.List.{remove}
use Rattle.std.proofs.lemmas.Bool.{cond_both, cases_lt}
use Rattle.std.proofs.lemmas.List.{get_or_default, drop_all}
use Rattle.std.proofs.lemmas.List.Elements.{All-append, All-take, All-drop, All-contains}
use Rattle.std.proofs.lemmas.List.Quantifiers.{all_pairs_remove}
use Rattle.std.specs.declared.cmp.Ordering.{Ordering}
use Rattle.edits.specs.declared.field.Field.{Field}
use Rattle.edits.specs.declared.field.Field.TheVariants.{NewFile}
use Rattle.edits.specs.declared.field.PlacedTable.{PlacedTable}
use Rattle.edits.specs.Layout.{inserted, with_table, is_used, after_deleted, after_new, after_edit}
use Rattle.edits.proofs.Folds.{drop_item}
use Rattle.versions.specs.Levels.{IsRange, StandsBefore, AreInOrder, AreTablesApart, pointers_after}
use Rattle.versions.specs.Steps.{Fits, IsPut}
use Rattle.versions.specs.Applying.{TableChange, LeadsLayout, LeadsNowhere, LeadsAstray, LeadsOn}
use Rattle.versions.proofs.Pairs.{Among, among_contained, contained_among, all_contained}
use Rattle.versions.proofs.Sets.{inside, no_some, fresh_in, lists_with, ins_stays, ins_new, insert_stays, insert_new, insert_was, used_in, contains_from}
use Rattle.versions.proofs.Listed.{fits_fresh}

-- ---- order

all_remove : {X : Type 0} (P : X → Type 0) (xs : List X) (i : ℕ) → All P xs → All P (remove xs i)
all_remove P xs i h = All-append P (take i xs) (drop (suc i) xs) (All-take P i xs h) (All-drop P (suc i) xs h)

pub order_remove : (cmp : List ℕ → List ℕ → Ordering) (tables : List PlacedTable) (i : ℕ) → i < length tables → AreInOrder cmp tables → AreInOrder cmp (remove tables i)
order_remove cmp tables i lt h =
    record {
      levels = all_remove (λ p. p.level < 7) tables i h.levels;
      ranges = all_remove (IsRange cmp) tables i h.ranges;
      numbers = all_pairs_remove (λ a b. a.table.number ≢ b.table.number) tables i lt h.numbers;
      places = all_pairs_remove (StandsBefore cmp) tables i lt h.places;
    }

-- ---- changes in turn

pub on_start : (change : TableChange) (old : List PlacedTable) → LeadsOn change old change old
on_start change old listed lists = (listed, refl, lists)

pub on_trans : (a b d : TableChange) (old mid new : List PlacedTable) → LeadsOn a old b mid → LeadsOn b mid d new → LeadsOn a old d new
on_trans a b d old mid new h k listed lists =
    let r = h listed lists in
    let s = k r.0 r.2 in
    (s.0, r.1 ∙ s.1, s.2)

pub on_nowhere : (a b : TableChange) (old mid : List PlacedTable) → LeadsOn a old b mid → LeadsNowhere b mid → LeadsNowhere a old
on_nowhere a b old mid h k listed lists = let r = h listed lists in r.1 ∙ k r.0 r.2

pub on_astray : (cmp : List ℕ → List ℕ → Ordering) (a b : TableChange) (old mid : List PlacedTable) → LeadsOn a old b mid → LeadsAstray cmp b mid → LeadsAstray cmp a old
on_astray cmp a b old mid h k listed left lists e = let r = h listed lists in k r.0 left r.2 (sym r.1 ∙ e)

-- ---- one edit

pub edit_leads : (edit : List Field) (old mid new : List PlacedTable) → LeadsLayout (after_deleted edit) old mid → LeadsLayout (after_new edit) mid new → LeadsLayout (after_edit edit) old new
edit_leads edit old mid new h k listed lists =
    let r = h listed lists in
    let s = k r.0 r.2 in
    (s.0, ap (option_and_then (after_new edit)) r.1 ∙ s.1, s.2)

pub edit_nowhere : (cmp : List ℕ → List ℕ → Ordering) (edit : List Field) (old : List PlacedTable) → LeadsNowhere (after_deleted edit) old → LeadsAstray cmp (after_edit edit) old
edit_nowhere cmp edit old h listed left lists e = no_some left (sym (ap (option_and_then (after_new edit)) (h listed lists)) ∙ e)

pub edit_astray : (cmp : List ℕ → List ℕ → Ordering) (edit : List Field) (old mid : List PlacedTable) → LeadsLayout (after_deleted edit) old mid → LeadsAstray cmp (after_new edit) mid → LeadsAstray cmp (after_edit edit) old
edit_astray cmp edit old mid h k listed left lists e =
    let r = h listed lists in
    k r.0 left r.2 (sym (ap (option_and_then (after_new edit)) r.1) ∙ e)

-- ---- a table that is put in

pub put_leads : (cmp : List ℕ → List ℕ → Ordering) (old tables : List PlacedTable) (x : PlacedTable) → IsPut cmp old x tables → LeadsLayout (with_table x) old tables
put_leads cmp old tables x put listed lists =
    lists_with x old tables listed (fits_fresh cmp old x put.fits)
    (λ p c. subst (λ ts. Contains ts p) (sym put.inserted) (insert_stays old put.place x p c))
    (subst (λ ts. Contains ts x) (sym put.inserted) (insert_new old put.place x))
    (λ p c. insert_was old put.place x p (subst (λ ts. Contains ts p) put.inserted c)) lists

-- what stands there stays
new_keeps : (fields : List Field) (tables left : List PlacedTable) (p : PlacedTable) → after_new fields tables ≡ Some left → Among p tables → Among p left
new_keeps [] tables left p e a = subst (λ ts. Among p ts) (inside tables left e) a
new_keeps (NewFile placed ∷ fields) tables left p e0 a =
    cond_both (is_used placed.table.number tables) None (Some (inserted placed tables)) (λ o. option_and_then (after_new fields) o ≡ Some left → Among p left)
    (λ _ e. no_some left e) (λ _ e. new_keeps fields (inserted placed tables) left p e (ins_stays placed p tables a))
    e0
new_keeps (f ∷ fields) tables left p e a = new_keeps fields tables left p e a

two_places : (cmp : List ℕ → List ℕ → Ordering) (left : List PlacedTable) (p x : PlacedTable) → AreTablesApart cmp left → Among p left → Among x left → (p.table.number ≡ x.table.number → ⊥) → StandsBefore cmp p x ⊎ StandsBefore cmp x p
two_places cmp left p x apart a b other =
    let c = contained_among p left a in
    let d = contained_among x left b in
    let is_x : get_or left d.0 p ≡ x = get_or_default left d.0 p x d.1 ∙ d.2 in
    let is_p : get_or left c.0 x ≡ p = get_or_default left c.0 x p c.1 ∙ c.2 in
    elim (cases_lt c.0 d.0) [
      | inl less ↦ subst (λ y. StandsBefore cmp p y ⊎ StandsBefore cmp y p) is_x (subst (λ q. StandsBefore cmp q (get_or left d.0 p) ⊎ StandsBefore cmp (get_or left d.0 p) q) c.2 (apart.places c.0 d.0 p less d.1))
      | inr more ↦ elim (cases_lt d.0 c.0) [
        | inl less ↦ elim (subst (λ y. StandsBefore cmp x y ⊎ StandsBefore cmp y x) is_p (subst (λ q. StandsBefore cmp q (get_or left c.0 x) ⊎ StandsBefore cmp (get_or left c.0 x) q) d.2 (apart.places d.0 c.0 x less c.1))) [ inl h ↦ inr h | inr h ↦ inl h ]
        | inr upto ↦ let same : c.0 ≡ d.0 = omega (arith, more, upto) in absurd (other (ap (λ q. q.table.number) (sym c.2 ∙ ap (λ j. get_or left j p) same ∙ is_x)))
      ]
    ]

-- where the table doesn't fit, no version has what a layout comes to
pub new_astray : (cmp : List ℕ → List ℕ → Ordering) (old : List PlacedTable) (x : PlacedTable) (more : List Field) → (Fits cmp old x → ⊥) → LeadsAstray cmp (after_new (NewFile x ∷ more)) old
new_astray cmp old x more unfit listed left lists e0 apart =
    cond_both (is_used x.table.number listed) None (Some (inserted x listed)) (λ o. option_and_then (after_new more) o ≡ Some left → ⊥)
    (λ _ e. no_some left e)
    (λ fresh e.
    let keeps : (p : PlacedTable) → Among p (inserted x listed) → Among p left = λ p a. new_keeps more (inserted x listed) left p e a in
    let own = keeps x (ins_new x listed) in
    let here = contained_among x left own in
    unfit (record {
      level = All-contains (λ p. p.level < 7) left x apart.levels here;
      range = All-contains (IsRange cmp) left x apart.ranges here;
      number = λ used. let u = used_in x.table.number old used in fresh_in x.table.number listed fresh u.0 (contains_from old listed lists.only u.0 (among_contained u.0 old u.1.0 u.1.1 u.1.2)) (sym u.2);
      place = all_contained (λ p. StandsBefore cmp p x ⊎ StandsBefore cmp x p) old (λ p c.
          let a = contains_from old listed lists.only p (among_contained p old c.0 c.1 c.2) in
          two_places cmp left p x apart (keeps p (ins_stays x p listed a)) own (λ same. fresh_in x.table.number listed fresh p a (sym same)));
    }))
    e0

-- ---- the fields that are left

pub rest_leads : (after : List Field → TableChange) (fields : List Field) (i : ℕ) (f : Field) (old mid new : List PlacedTable) → i < length fields → f ≡ get_or fields i f
    → LeadsOn (after fields) old (after (drop i fields)) mid → LeadsOn (after (f ∷ drop (i + 1) fields)) mid (after (drop (i + 1) fields)) new → LeadsOn (after fields) old (after (drop (i + 1) fields)) new
rest_leads after fields i f old mid new lt is h k =
    on_trans (after fields) (after (drop i fields)) (after (drop (i + 1) fields)) old mid new h (subst (λ fs. LeadsOn (after fs) mid (after (drop (i + 1) fields)) new) (sym (drop_item fields i f lt is)) k)

pub rest_nowhere : (after : List Field → TableChange) (fields : List Field) (i : ℕ) (f : Field) (old mid : List PlacedTable) → i < length fields → f ≡ get_or fields i f
    → LeadsOn (after fields) old (after (drop i fields)) mid → LeadsNowhere (after (f ∷ drop (i + 1) fields)) mid → LeadsNowhere (after fields) old
rest_nowhere after fields i f old mid lt is h k =
    on_nowhere (after fields) (after (drop i fields)) old mid h (subst (λ fs. LeadsNowhere (after fs) mid) (sym (drop_item fields i f lt is)) k)

pub rest_astray : (cmp : List ℕ → List ℕ → Ordering) (after : List Field → TableChange) (fields : List Field) (i : ℕ) (f : Field) (old mid : List PlacedTable) → i < length fields → f ≡ get_or fields i f
    → LeadsOn (after fields) old (after (drop i fields)) mid → LeadsAstray cmp (after (f ∷ drop (i + 1) fields)) mid → LeadsAstray cmp (after fields) old
rest_astray cmp after fields i f old mid lt is h k =
    on_astray cmp (after fields) (after (drop i fields)) old mid h (subst (λ fs. LeadsAstray cmp (after fs) mid) (sym (drop_item fields i f lt is)) k)

-- none is left
pub all_leads : (after : List Field → TableChange) → ((ts : List PlacedTable) → after [] ts ≡ Some ts) → (fields : List Field) (i : ℕ) (old new : List PlacedTable) → length fields ≤ i
    → LeadsOn (after fields) old (after (drop i fields)) new → LeadsLayout (after fields) old new
all_leads after last fields i old new le h listed lists =
    let r = h listed lists in
    (r.0, r.1 ∙ ap (λ fs. after fs r.0) (drop_all i fields le) ∙ last r.0, r.2)

-- ---- compact pointers

pub pointers_length : (edit : List Field) (level : ℕ) (pointers : List (Option (List ℕ))) → length (pointers_after edit level pointers) ≡ length pointers
pointers_length edit level [] = refl
pointers_length edit level (pointer ∷ pointers) = ap suc (pointers_length edit (suc level) pointers)
