-- What the edit of a plan leaves of the tables of a version.
use Rattle.std.proofs.Common.{◌≡◌, ◌≢◌, ◌⊎◌, ◌==◌, ◌&&◌, ℕ, suc, Bool, true, false, Option, Some, None, IfSome, option_and_then, List, [], ◌∷◌, ◌++◌, map, AllPairs, inl, inr, refl, sym, ap, subst, ◌∙◌, arith}
use Rattle.std.specs.Option.{option_map}
use Rattle.std.specs.List.{AllByRecursion, Contains}
use Rattle.std.specs.declared.cmp.Ordering.{Ordering}
use Rattle.std.proofs.lemmas.Bool.{cond_both, false≢true, and_parts, eq-eqb, eqb-true}
use Rattle.std.proofs.lemmas.List.Elements.{All-contains, All-from_recursion, recursion_from_All}
use Rattle.std.proofs.lemmas.List.Sorted.{Contains-permutation, IsPermutation-sym}
use Rattle.edits.proofs.Folds.{all_append}
use Rattle.edits.specs.Layout.{is_at, is_used, without, inserted, after_deleted, after_new, after_edit}
use Rattle.edits.specs.declared.field.Field.{Field}
use Rattle.edits.specs.declared.field.Field.TheVariants.{NextFileNumber, LastSequence, DeletedFile, NewFile}
use Rattle.edits.specs.declared.field.PlacedTable.{PlacedTable}
use Rattle.edits.specs.declared.field.TableFile.{TableFile}
use Rattle.versions.proofs.Pairs.{Among, all_contained, among_contained, contained_among}
use Rattle.versions.proofs.Sets.{Other, ins_stays}
use Rattle.versions.specs.Applying.{LeadsLayout}
use Rattle.versions.specs.Levels.{AreInOrder, ListsSameTables}
use Rattle.versions.specs.declared.plan.JobPlan.{JobPlan}
use Rattle.compact.specs.JobEdits.{IsEditOfPlan, gone, placed_at, pointer_fields}
use Rattle.directory_writes.specs.Replacing.{ReplacesInputs}
use Rattle.directory_writes.proofs.AfterEdits.{ForTwo, PutsIn, all_deleted, all_put, all_without, if_both, if_map, if_then}

-- ---- lists

if_more : {X : Type 0} (P Q : X → Type 0) (o : Option X) → IfSome o P → ((x : X) → P x → Q x) → IfSome o Q
if_more P Q None h f = tt
if_more P Q (Some x) h f = f x h

all_units : {X : Type 0} (xs : List X) → AllByRecursion (λ (x : X). Unit {0}) xs
all_units [] = tt
all_units (x ∷ xs) = (tt, all_units xs)

all_more : {X : Type 0} (P Q : X → Type 0) (xs : List X) → AllByRecursion P xs → ((x : X) → P x → Q x) → AllByRecursion Q xs
all_more P Q [] h f = tt
all_more P Q (x ∷ xs) h f = (f x h.0, all_more P Q xs h.1 f)

all_both : {X : Type 0} (P Q : X → Type 0) (xs : List X) → AllByRecursion P xs → AllByRecursion Q xs → AllByRecursion (λ (x : X). P x × Q x) xs
all_both P Q [] h k = tt
all_both P Q (x ∷ xs) h k = ((h.0, k.0), all_both P Q xs h.1 k.1)

all_back : {X : Type 0} (P : X → Type 0) (xs ys : List X) → AllByRecursion P (xs ++ ys) → AllByRecursion P ys
all_back P [] ys h = h
all_back P (x ∷ xs) ys h = all_back P xs ys h.1

all_front : {X : Type 0} (P : X → Type 0) (xs ys : List X) → AllByRecursion P (xs ++ ys) → AllByRecursion P xs
all_front P [] ys h = tt
all_front P (x ∷ xs) ys h = (h.0, all_front P xs ys h.1)

two_from : (ts : List PlacedTable) → AllPairs Other ts → ForTwo Other ts
two_from [] h = tt
two_from (t ∷ ts) h = (
  recursion_from_All (Other t) ts (λ k d lt. h 0 (suc k) d (omega arith) (omega (arith, lt))),
  two_from ts (λ i j d lt le. h (suc i) (suc j) d (omega (arith, lt)) (omega (arith, le))),
)

-- ---- what is removed

abbrev NotAt : ℕ → ℕ → PlacedTable → Type 0
NotAt level number t = is_at level number t ≡ false

other_at : (level number : ℕ) (t : PlacedTable) → t.table.number ≢ number → NotAt level number t
other_at level number t apart = by (is_at level number t) refl
  where
    by : (b : Bool) → is_at level number t ≡ b → NotAt level number t
    by true is = absurd (apart (eqb-true t.table.number number (and_parts (t.level == level) (t.table.number == number) is).1))
    by false is = is

at_number : (level number : ℕ) (t : PlacedTable) → is_at level number t ≡ true → t.table.number ≡ number
at_number level number t is = eqb-true t.table.number number (and_parts (t.level == level) (t.table.number == number) is).1

at_itself : (t : PlacedTable) → is_at t.level t.table.number t ≡ true
at_itself t = both (t.level == t.level) (t.table.number == t.table.number) (eq-eqb t.level t.level refl) (eq-eqb t.table.number t.table.number refl)
  where
    both : (a b : Bool) → a ≡ true → b ≡ true → (a && b) ≡ true
    both true true p q = refl
    both true false p q = absurd (false≢true q)
    both false b p q = absurd (false≢true p)

-- it is gone
none_at : (level number : ℕ) (ts : List PlacedTable) → ForTwo Other ts → IfSome (without level number ts) (AllByRecursion (NotAt level number))
none_at level number [] h = tt
none_at level number (t ∷ ts) h =
    cond_both (is_at level number t) (Some ts) (option_map (λ others. t ∷ others) (without level number ts)) (λ o. IfSome o (AllByRecursion (NotAt level number)))
    (λ here. all_more (Other t) (NotAt level number) ts h.0 (λ other apart. other_at level number other (λ same. apart (at_number level number t here ∙ sym same))))
    (λ not. if_map (λ others. t ∷ others) (AllByRecursion (NotAt level number)) (AllByRecursion (NotAt level number)) (without level number ts) (none_at level number ts h.1) (λ others k. (not, k)))

apart_without : (level number : ℕ) (ts : List PlacedTable) → ForTwo Other ts → IfSome (without level number ts) (ForTwo Other)
apart_without level number [] h = tt
apart_without level number (t ∷ ts) h =
    let both = if_both (AllByRecursion (Other t)) (ForTwo Other) (without level number ts) (all_without (Other t) level number ts h.0) (apart_without level number ts h.1) in
    cond_both (is_at level number t) (Some ts) (option_map (λ others. t ∷ others) (without level number ts)) (λ o. IfSome o (ForTwo Other)) (λ _. h.1)
    (λ _. if_map (λ others. t ∷ others) (λ others. AllByRecursion (Other t) others × ForTwo Other others) (ForTwo Other) (without level number ts) both (λ others k. k))

-- the field doesn't take this table away
abbrev Spares : Field → PlacedTable → Type 0
Spares (DeletedFile level number) t = is_at level number t ≡ false
Spares f t = Unit {0}

abbrev AllSpare : List Field → PlacedTable → Type 0
AllSpare fs t = AllByRecursion (λ (f : Field). Spares f t) fs

spared : (fs : List Field) (ts : List PlacedTable) → ForTwo Other ts → IfSome (after_deleted fs ts) (AllByRecursion (AllSpare fs))
spared [] ts h = all_units ts
spared (DeletedFile level number ∷ fs) ts h =
    if_then (after_deleted fs) (λ us. AllByRecursion (NotAt level number) us × ForTwo Other us) (AllByRecursion (AllSpare (DeletedFile level number ∷ fs))) (without level number ts)
    (if_both (AllByRecursion (NotAt level number)) (ForTwo Other) (without level number ts) (none_at level number ts h) (apart_without level number ts h))
    (λ us k. if_more (λ vs. AllByRecursion (NotAt level number) vs × AllByRecursion (AllSpare fs) vs) (AllByRecursion (AllSpare (DeletedFile level number ∷ fs))) (after_deleted fs us)
    (if_both (AllByRecursion (NotAt level number)) (AllByRecursion (AllSpare fs)) (after_deleted fs us) (all_deleted (NotAt level number) fs us k.0) (spared fs us k.1))
    (λ vs both. all_both (NotAt level number) (AllSpare fs) vs both.0 both.1))
spared (f ∷ fs) ts h =
    if_more (AllByRecursion (AllSpare fs)) (AllByRecursion (AllSpare (f ∷ fs))) (after_deleted fs ts) (spared fs ts h) (λ vs all. all_both (λ (t : PlacedTable). Unit {0}) (AllSpare fs) vs (all_units vs) all)

-- ---- what stays

stays_without : (level number : ℕ) (q : PlacedTable) (ts : List PlacedTable) → Among q ts → NotAt level number q → IfSome (without level number ts) (Among q)
stays_without level number q [] a not = tt
stays_without level number q (t ∷ ts) a not =
    cond_both (is_at level number t) (Some ts) (option_map (λ others. t ∷ others) (without level number ts)) (λ o. IfSome o (Among q))
    (λ here. elim a [ inl same ↦ absurd (false≢true (sym not ∙ sym (ap (is_at level number) same) ∙ here)) | inr b ↦ b ])
    (λ _. elim a [
      | inl same ↦ if_map (λ others. t ∷ others) (λ others. Unit {0}) (Among q) (without level number ts) (some_unit (without level number ts)) (λ others k. inl same)
      | inr b ↦ if_map (λ others. t ∷ others) (Among q) (Among q) (without level number ts) (stays_without level number q ts b not) (λ others k. inr k)
    ])
  where
    some_unit : (o : Option (List PlacedTable)) → IfSome o (λ others. Unit {0})
    some_unit None = tt
    some_unit (Some x) = tt

stays_deleted : (q : PlacedTable) (fs : List Field) (ts : List PlacedTable) → Among q ts → AllSpare fs q → IfSome (after_deleted fs ts) (Among q)
stays_deleted q [] ts a spare = a
stays_deleted q (DeletedFile level number ∷ fs) ts a spare =
    if_then (after_deleted fs) (Among q) (Among q) (without level number ts) (stays_without level number q ts a spare.0) (λ us b. stays_deleted q fs us b spare.1)
stays_deleted q (f ∷ fs) ts a spare = stays_deleted q fs ts a spare.1

stays_put : (q : PlacedTable) (fs : List Field) (ts : List PlacedTable) → Among q ts → IfSome (after_new fs ts) (Among q)
stays_put q [] ts a = a
stays_put q (NewFile placed ∷ fs) ts a =
    cond_both (is_used placed.table.number ts) None (Some (inserted placed ts)) (λ o. IfSome (option_and_then (after_new fs) o) (Among q)) (λ _. tt) (λ _. stays_put q fs (inserted placed ts) (ins_stays placed q ts a))
stays_put q (f ∷ fs) ts a = stays_put q fs ts a

-- ---- the edit of a plan

module _ (plan : JobPlan) (edit : List Field) (of : IsEditOfPlan plan edit) where
  abbrev level : ℕ
  level = plan.output_level

  abbrev front : List Field
  front = NextFileNumber of.next ∷ LastSequence of.last ∷ pointer_fields level plan.compact_pointer

  -- it puts tables into its level
  module _ (P : PlacedTable → Type 0) where
    abbrev AtLevel : PlacedTable → Type 0
    AtLevel t = P t ⊎ (t.level ≡ level)

    puts_gone : (ts : List PlacedTable) → AllByRecursion (PutsIn AtLevel) (map gone ts)
    puts_gone [] = tt
    puts_gone (t ∷ ts) = (tt, puts_gone ts)

    puts_placed : (ts : List TableFile) → AllByRecursion (PutsIn AtLevel) (map (placed_at level) ts)
    puts_placed [] = tt
    puts_placed (t ∷ ts) = (inr refl, puts_placed ts)

    puts_front : (pointer : Option (List ℕ)) → AllByRecursion (PutsIn AtLevel) (NextFileNumber of.next ∷ LastSequence of.last ∷ pointer_fields level pointer)
    puts_front None = (tt, (tt, tt))
    puts_front (Some key) = (tt, (tt, (tt, tt)))

    puts_at : AllByRecursion (PutsIn AtLevel) edit
    puts_at =
        subst (AllByRecursion (PutsIn AtLevel)) (sym of.is.fields_are)
        (all_append (PutsIn AtLevel) front (map gone of.is.sorted ++ map (placed_at level) of.tables) (puts_front plan.compact_pointer)
        (all_append (PutsIn AtLevel) (map gone of.is.sorted) (map (placed_at level) of.tables) (puts_gone of.is.sorted) (puts_placed of.tables)))

  -- it spares no input
  spares_none : (t : PlacedTable) (ts : List PlacedTable) → Among t ts → AllSpare (map gone ts) t → ⊥
  spares_none t [] a spare = a
  spares_none t (x ∷ ts) (inl same) spare = false≢true (sym spare.0 ∙ ap (λ (y : PlacedTable). is_at y.level y.table.number t) same ∙ at_itself t)
  spares_none t (x ∷ ts) (inr b) spare = spares_none t ts b spare.1

  no_input : (t : PlacedTable) → AllSpare edit t → Contains plan.inputs.items t → ⊥
  no_input t spare c =
      let s = Contains-permutation plan.inputs.items of.is.sorted t of.is.inputs_are c in
      let fields = subst (λ (fs : List Field). AllSpare fs t) of.is.fields_are spare in
      let behind = all_back (λ (f : Field). Spares f t) front (map gone of.is.sorted ++ map (placed_at level) of.tables) fields in
      spares_none t of.is.sorted (among_contained t of.is.sorted s.0 s.1 s.2) (all_front (λ (f : Field). Spares f t) (map gone of.is.sorted) (map (placed_at level) of.tables) behind)

  -- it spares what has another number than each of them
  module _ (t : PlacedTable) where
    spares_gone : (ts : List PlacedTable) → AllByRecursion (λ (x : PlacedTable). Other x t) ts → AllSpare (map gone ts) t
    spares_gone [] h = tt
    spares_gone (x ∷ ts) h = (other_at x.level x.table.number t (λ same. h.0 (sym same)), spares_gone ts h.1)

    spares_placed : (ts : List TableFile) → AllSpare (map (placed_at level) ts) t
    spares_placed [] = tt
    spares_placed (x ∷ ts) = (tt, spares_placed ts)

    spares_front : (pointer : Option (List ℕ)) → AllSpare (NextFileNumber of.next ∷ LastSequence of.last ∷ pointer_fields level pointer) t
    spares_front None = (tt, (tt, tt))
    spares_front (Some key) = (tt, (tt, (tt, tt)))

    spares_other : ((input : PlacedTable) → Contains plan.inputs.items input → Other input t) → AllSpare edit t
    spares_other apart =
        let sorted = of.is.sorted in
        let each : (x : PlacedTable) → Contains sorted x → Other x t = λ x c. apart x (Contains-permutation sorted plan.inputs.items x (IsPermutation-sym plan.inputs.items sorted of.is.inputs_are) c) in
        subst (λ (fs : List Field). AllSpare fs t) (sym of.is.fields_are)
        (all_append (λ (f : Field). Spares f t) front (map gone sorted ++ map (placed_at level) of.tables) (spares_front plan.compact_pointer)
        (all_append (λ (f : Field). Spares f t) (map gone sorted) (map (placed_at level) of.tables)
        (spares_gone sorted (recursion_from_All (λ (x : PlacedTable). Other x t) sorted (all_contained (λ (x : PlacedTable). Other x t) sorted each))) (spares_placed of.tables)))

  module _ (cmp : List ℕ → List ℕ → Ordering) (old new : List PlacedTable) (order : AreInOrder cmp old) (leads : LeadsLayout (after_edit edit) old new) where
    reached : (left : List PlacedTable) × (after_edit edit old ≡ Some left) × ListsSameTables left new
    reached = leads old (record { numbers = order.numbers; all = all_contained (Contains old) old (λ p c. c); only = all_contained (Contains old) old (λ p c. c) })

    abbrev Was : PlacedTable → Type 0
    Was t = Contains old t × AllSpare edit t

    deleted : IfSome (after_deleted edit old) (AllByRecursion (AtLevel Was))
    deleted =
        if_more (λ us. AllByRecursion (Contains old) us × AllByRecursion (AllSpare edit) us) (AllByRecursion (AtLevel Was)) (after_deleted edit old)
        (if_both (AllByRecursion (Contains old)) (AllByRecursion (AllSpare edit)) (after_deleted edit old)
        (all_deleted (Contains old) edit old (recursion_from_All (Contains old) old (all_contained (Contains old) old (λ p c. c)))) (spared edit old (two_from old order.numbers)))
        (λ us both. all_more (λ (t : PlacedTable). Was t) (AtLevel Was) us (all_both (Contains old) (AllSpare edit) us both.0 both.1) (λ t was. inl was))

    all : AllByRecursion (AtLevel Was) reached.0
    all =
        subst (λ (o : Option (List PlacedTable)). IfSome o (AllByRecursion (AtLevel Was))) reached.1
        (if_then (after_new edit) (AllByRecursion (AtLevel Was)) (AllByRecursion (AtLevel Was)) (after_deleted edit old) deleted (λ others k. all_put (AtLevel Was) edit others (puts_at Was) k))

    each : (placed : PlacedTable) → Contains new placed → (Contains old placed × (Contains plan.inputs.items placed → ⊥)) ⊎ (placed.level ≡ level)
    each placed there =
        let is = All-contains (AtLevel Was) reached.0 placed (All-from_recursion (AtLevel Was) reached.0 all) (All-contains (Contains reached.0) new placed reached.2.only there) in
        elim is [ inl was ↦ inl (was.0, no_input placed was.1) | inr at ↦ inr at ]

    still : (placed : PlacedTable) → Contains old placed → ((input : PlacedTable) → Contains plan.inputs.items input → Other input placed) → Contains new placed
    still placed there apart =
        let in_left =
        subst (λ (o : Option (List PlacedTable)). IfSome o (Among placed)) reached.1
        (if_then (after_new edit) (Among placed) (Among placed) (after_deleted edit old) (stays_deleted placed edit old (among_contained placed old there.0 there.1 there.2) (spares_other placed apart)) (λ others k. stays_put placed edit others k)) in
        All-contains (Contains new) reached.0 placed reached.2.all (contained_among placed reached.0 in_left)

    pub replaced : ReplacesInputs plan old new
    replaced = record { tables = λ placed there. each placed there; stays = λ placed there apart. still placed there apart }
