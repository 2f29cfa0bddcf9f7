-- What an edit keeps of the tables of a layout.
use Rattle.std.proofs.Common.{◌≡◌, ◌≢◌, ℕ, zero, suc, Option, Some, None, IfSome, option_and_then, List, [], ◌∷◌, All, AllPairs, sym, subst, arith}
use Rattle.std.specs.Option.{option_map}
use Rattle.std.specs.List.{AllByRecursion}
use Rattle.std.proofs.lemmas.Bool.{cond_both}
use Rattle.edits.specs.declared.field.Field.{Field}
use Rattle.edits.specs.declared.field.Field.TheVariants.{DeletedFile, NewFile}
use Rattle.edits.specs.declared.field.PlacedTable.{PlacedTable}
use Rattle.edits.specs.Edit.{IsPlacedBefore}
use Rattle.edits.specs.Layout.{is_at, is_before, is_used, without, inserted, after_deleted, after_new, after_edit}
use Rattle.edits.specs.Snapshot.{IsFollowedBy, AreInPlace}
use Rattle.edits.proofs.Orders.{before_true, before_false, before_trans, unused}

-- of a table that the field puts in this holds
abbrev pub PutsIn : (PlacedTable → Type 0) → Field → Type 0
PutsIn P (NewFile placed) = P placed
PutsIn P f = Unit {0}

-- it holds of all tables, which are in place
abbrev pub AreKept : (PlacedTable → Type 0) → List PlacedTable → Type 0
AreKept P tables = AllByRecursion P tables × AreInPlace tables

pub if_map : {X Y : Type 0} (g : X → Y) (P : X → Type 0) (Q : Y → Type 0) (o : Option X) → IfSome o P → ((x : X) → P x → Q (g x)) → IfSome (option_map g o) Q
if_map g P Q None h f = tt
if_map g P Q (Some x) h f = f x h

pub if_then : {X Y : Type 0} (g : X → Option Y) (P : X → Type 0) (Q : Y → Type 0) (o : Option X) → IfSome o P → ((x : X) → P x → IfSome (g x) Q) → IfSome (option_and_then g o) Q
if_then g P Q None h f = tt
if_then g P Q (Some x) h f = f x h

pub if_both : {X : Type 0} (P Q : X → Type 0) (o : Option X) → IfSome o P → IfSome o Q → IfSome o (λ x. P x × Q x)
if_both P Q None h k = tt
if_both P Q (Some x) h k = (h, k)

pub all_without : (P : PlacedTable → Type 0) (level number : ℕ) (ts : List PlacedTable) → AllByRecursion P ts → IfSome (without level number ts) (AllByRecursion P)
all_without P level number [] h = tt
all_without P level number (t ∷ ts) h =
    cond_both (is_at level number t) (Some ts) (option_map (λ others. t ∷ others) (without level number ts)) (λ o. IfSome o (AllByRecursion P)) (λ _. h.1)
    (λ _. if_map (λ others. t ∷ others) (AllByRecursion P) (AllByRecursion P) (without level number ts) (all_without P level number ts h.1) (λ others k. (h.0, k)))

in_place_without : (level number : ℕ) (ts : List PlacedTable) → AreInPlace ts → IfSome (without level number ts) AreInPlace
in_place_without level number [] h = tt
in_place_without level number (t ∷ ts) h =
    let both = if_both (AllByRecursion (IsFollowedBy t)) AreInPlace (without level number ts) (all_without (IsFollowedBy t) level number ts h.0) (in_place_without level number ts h.1) in
    cond_both (is_at level number t) (Some ts) (option_map (λ others. t ∷ others) (without level number ts)) (λ o. IfSome o AreInPlace) (λ _. h.1)
    (λ _. if_map (λ others. t ∷ others) (λ others. AllByRecursion (IsFollowedBy t) others × AreInPlace others) AreInPlace (without level number ts) both (λ others k. k))

all_inserted : (P : PlacedTable → Type 0) (new : PlacedTable) (ts : List PlacedTable) → P new → AllByRecursion P ts → AllByRecursion P (inserted new ts)
all_inserted P new [] h k = (h, tt)
all_inserted P new (t ∷ ts) h k =
    cond_both (is_before new t) (new ∷ t ∷ ts) (t ∷ inserted new ts) (AllByRecursion P) (λ _. (h, k)) (λ _. (k.0, all_inserted P new ts h k.1))

-- what is after t is after what stands before t
behind_all : (new t : PlacedTable) (ts : List PlacedTable) → IsPlacedBefore (new.level, new.table.number) (t.level, t.table.number) → AllByRecursion (IsFollowedBy t) ts
    → AllByRecursion (λ x. new.table.number ≢ x.table.number) ts → AllByRecursion (IsFollowedBy new) ts
behind_all new t [] b h k = tt
behind_all new t (x ∷ ts) b h k =
    ((before_trans (new.level, new.table.number) (t.level, t.table.number) (x.level, x.table.number) b h.0.0, k.0), behind_all new t ts b h.1 k.1)

in_place_inserted : (new : PlacedTable) (ts : List PlacedTable) → AllByRecursion (λ x. new.table.number ≢ x.table.number) ts → AreInPlace ts → AreInPlace (inserted new ts)
in_place_inserted new [] other h = (tt, tt)
in_place_inserted new (t ∷ ts) other h =
    cond_both (is_before new t) (new ∷ t ∷ ts) (t ∷ inserted new ts) AreInPlace
    (λ e. let b = before_true new.level new.table.number t.level t.table.number e in
    (((b, other.0), behind_all new t ts b h.0 other.1), h))
    (λ e. let b = before_false new.level new.table.number t.level t.table.number e other.0 in
    (all_inserted (IsFollowedBy t) new ts (b, λ same. other.0 (sym same)) h.0, in_place_inserted new ts other.1 h.1))

module _ (P : PlacedTable → Type 0) where
  kept_without : (level number : ℕ) (ts : List PlacedTable) → AreKept P ts → IfSome (without level number ts) (AreKept P)
  kept_without level number ts h = if_both (AllByRecursion P) AreInPlace (without level number ts) (all_without P level number ts h.0) (in_place_without level number ts h.1)

  kept_deleted : (fs : List Field) (ts : List PlacedTable) → AreKept P ts → IfSome (after_deleted fs ts) (AreKept P)
  kept_deleted [] ts h = h
  kept_deleted (DeletedFile level number ∷ fs) ts h = if_then (after_deleted fs) (AreKept P) (AreKept P) (without level number ts) (kept_without level number ts h) (λ others k. kept_deleted fs others k)
  kept_deleted (f ∷ fs) ts h = kept_deleted fs ts h

  kept_new : (fs : List Field) (ts : List PlacedTable) → AllByRecursion (PutsIn P) fs → AreKept P ts → IfSome (after_new fs ts) (AreKept P)
  kept_new [] ts p h = h
  kept_new (NewFile placed ∷ fs) ts p h =
      cond_both (is_used placed.table.number ts) None (Some (inserted placed ts)) (λ o. IfSome (option_and_then (after_new fs) o) (AreKept P)) (λ _. tt)
      (λ e. kept_new fs (inserted placed ts) p.1 (all_inserted P placed ts p.0 h.0, in_place_inserted placed ts (unused placed.table.number ts e) h.1))
  kept_new (f ∷ fs) ts p h = kept_new fs ts p.1 h

  -- what the edit leaves of such tables is such
  pub kept_edit : (edit : List Field) (ts us : List PlacedTable) → AllByRecursion (PutsIn P) edit → AreKept P ts → after_edit edit ts ≡ Some us → AreKept P us
  kept_edit edit ts us p h e =
      let O : Option (List PlacedTable) → Type 0 = λ o. IfSome o (AreKept P) in
      subst O e (if_then (after_new edit) (AreKept P) (AreKept P) (after_deleted edit ts) (kept_deleted edit ts h) (λ others k. kept_new edit others p k))

  pub all_deleted : (fs : List Field) (ts : List PlacedTable) → AllByRecursion P ts → IfSome (after_deleted fs ts) (AllByRecursion P)
  all_deleted [] ts h = h
  all_deleted (DeletedFile level number ∷ fs) ts h = if_then (after_deleted fs) (AllByRecursion P) (AllByRecursion P) (without level number ts) (all_without P level number ts h) (λ others k. all_deleted fs others k)
  all_deleted (f ∷ fs) ts h = all_deleted fs ts h

  pub all_put : (fs : List Field) (ts : List PlacedTable) → AllByRecursion (PutsIn P) fs → AllByRecursion P ts → IfSome (after_new fs ts) (AllByRecursion P)
  all_put [] ts p h = h
  all_put (NewFile placed ∷ fs) ts p h =
      cond_both (is_used placed.table.number ts) None (Some (inserted placed ts)) (λ o. IfSome (option_and_then (after_new fs) o) (AllByRecursion P)) (λ _. tt)
      (λ _. all_put fs (inserted placed ts) p.1 (all_inserted P placed ts p.0 h))
  all_put (f ∷ fs) ts p h = all_put fs ts p.1 h

  -- the same in whatever order they stand
  pub all_edit : (edit : List Field) (ts us : List PlacedTable) → AllByRecursion (PutsIn P) edit → AllByRecursion P ts → after_edit edit ts ≡ Some us → AllByRecursion P us
  all_edit edit ts us p h e =
      let O : Option (List PlacedTable) → Type 0 = λ o. IfSome o (AllByRecursion P) in
      subst O e (if_then (after_new edit) (AllByRecursion P) (AllByRecursion P) (after_deleted edit ts) (all_deleted edit ts h) (λ others k. all_put edit others p k))

-- ---- lists

pub all_at : {X : Type 0} (P : X → Type 0) (xs : List X) → AllByRecursion P xs → All P xs
all_at P [] h k d lt = absurd (omega (arith, lt))
all_at P (x ∷ xs) h zero d lt = h.0
all_at P (x ∷ xs) h (suc k) d lt = all_at P xs h.1 k d (omega (arith, lt))

abbrev pub ForTwo : {X : Type 0} → (X → X → Type 0) → List X → Type 0
ForTwo R [] = Unit {0}
ForTwo R (x ∷ xs) = AllByRecursion (R x) xs × ForTwo R xs

pub two_at : {X : Type 0} (R : X → X → Type 0) (xs : List X) → ForTwo R xs → AllPairs R xs
two_at R [] h i j d lt le = absurd (omega (arith, le))
two_at R (x ∷ xs) h zero zero d lt le = absurd (omega (arith, lt))
two_at R (x ∷ xs) h zero (suc j) d lt le = all_at (R x) xs h.0 j d (omega (arith, le))
two_at R (x ∷ xs) h (suc i) zero d lt le = absurd (omega (arith, lt))
two_at R (x ∷ xs) h (suc i) (suc j) d lt le = two_at R xs h.1 i j d (omega (arith, lt)) (omega (arith, le))

-- tables in place have distinct numbers
other_all : (a : PlacedTable) (tables : List PlacedTable) → AllByRecursion (IsFollowedBy a) tables → AllByRecursion (λ (b : PlacedTable). a.table.number ≢ b.table.number) tables
other_all a [] h = tt
other_all a (b ∷ tables) h = (h.0.1, other_all a tables h.1)

others_of : (tables : List PlacedTable) → AreInPlace tables → ForTwo (λ (a b : PlacedTable). a.table.number ≢ b.table.number) tables
others_of [] h = tt
others_of (a ∷ tables) h = (other_all a tables h.0, others_of tables h.1)

pub distinct : (tables : List PlacedTable) → AreInPlace tables → AllPairs (λ (a b : PlacedTable). a.table.number ≢ b.table.number) tables
distinct tables h = two_at (λ (a b : PlacedTable). a.table.number ≢ b.table.number) tables (others_of tables h)
