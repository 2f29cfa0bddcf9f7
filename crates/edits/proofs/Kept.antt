-- What edits leave that were read.
use Rattle.std.proofs.Common.{◌==◌, ◌≢◌, ℕ, Option, Some, None, IfSome, option_and_then, List, [], ◌∷◌, length, sym, ap, subst}
use Rattle.std.specs.Option.{option_or, option_map}
use Rattle.std.specs.List.{AllByRecursion}
use Rattle.std.proofs.lemmas.Bool.{cond_both}
use Rattle.edits.specs.declared.field.Field.{Field}
use Rattle.edits.specs.declared.field.Field.TheVariants.{Comparator, LogNumber, NextFileNumber, LastSequence, CompactPointer, DeletedFile, NewFile, PreviousLogNumber}
use Rattle.edits.specs.declared.field.PlacedTable.{PlacedTable}
use Rattle.edits.specs.declared.field.TableFile.{TableFile}
use Rattle.edits.specs.declared.layout.Layout.{Layout}
use Rattle.edits.specs.Edit.{IsField, IsContent, SpellsTable, IsEdit, IsProper, IsTableProper, IsPlacedBefore}
use Rattle.edits.specs.Layout.{IsLayout, fields_of, last_said, compact_pointer_in, is_at, is_before, is_used, without, inserted, after_deleted, after_new, after_edit, after_edits}
use Rattle.edits.specs.Snapshot.{IsPointer, IsPlacedProper, IsFollowedBy, AreInPlace, IsKept, WasRead}
use Rattle.edits.proofs.Folds.{all_append}
use Rattle.edits.proofs.Orders.{before_true, before_false, before_trans, all_weaker, unused}

-- ---- fields that were read

proper_table : (bytes : List ℕ) (table : TableFile) → SpellsTable bytes table → IsTableProper table
proper_table bytes table h = (h.2.1, h.2.0.1, h.3.2.1, h.3.3.2.0.fits, h.3.3.3.0.fits, h.3.3.2.1, h.3.3.3.1)

proper_content : (bytes : List ℕ) (f : Field) → IsContent bytes f → IsProper f
proper_content bytes (Comparator name) h = h.fits
proper_content bytes (LogNumber n) h = h.1
proper_content bytes (NextFileNumber n) h = h.1
proper_content bytes (LastSequence n) h = h.1
proper_content bytes (CompactPointer level key) h = (h.2.1, h.3.0.fits, h.3.1)
proper_content bytes (DeletedFile level number) h = (h.2.1, h.3.1)
proper_content bytes (NewFile placed) h = (h.2.1, proper_table h.1 placed.table h.3)
proper_content bytes (PreviousLogNumber n) h = h.1

proper_field : (bytes : List ℕ) (f : Field) → IsField bytes f → IsProper f
proper_field [] f h = absurd h
proper_field (tag ∷ bytes) f h = proper_content bytes f h.1

proper_edit : (bytes : List ℕ) (fs : List Field) → IsEdit bytes fs → AllByRecursion IsProper fs
proper_edit bytes [] h = tt
proper_edit bytes (f ∷ fs) h = (proper_field h.0 f h.2, proper_edit h.1 fs h.3)

proper_edits : (edits : List (List Field)) → AllByRecursion WasRead edits → AllByRecursion (λ fs. AllByRecursion IsProper fs) edits
proper_edits edits h = all_weaker WasRead (λ fs. AllByRecursion IsProper fs) (λ fs k. proper_edit k.0 fs k.1) edits h

proper_fields : (edits : List (List Field)) → AllByRecursion (λ fs. AllByRecursion IsProper fs) edits → AllByRecursion IsProper (fields_of edits)
proper_fields [] h = tt
proper_fields (e ∷ es) h = all_append IsProper e (fields_of es) h.0 (proper_fields es h.1)

-- ---- keys

key_or : (a b : Option (List ℕ)) → IsPointer a → IsPointer b → IsPointer (option_or a b)
key_or None b h k = k
key_or (Some key) b h k = h

key_in : (level : ℕ) (f : Field) → IsProper f → IsPointer (compact_pointer_in level f)
key_in level (CompactPointer other key) h = cond_both (other == level) (Some key) None IsPointer (λ _. (h.1, h.2)) (λ _. tt)
key_in level f h = tt

key_said : (level : ℕ) (fs : List Field) → AllByRecursion IsProper fs → IsPointer (last_said (compact_pointer_in level) fs)
key_said level [] h = tt
key_said level (f ∷ fs) h = key_or (last_said (compact_pointer_in level) fs) (compact_pointer_in level f) (key_said level fs h.1) (key_in level f h.0)

-- ---- tables

abbrev AreKept : List PlacedTable → Type 0
AreKept tables = AllByRecursion IsPlacedProper tables × AreInPlace tables

if_map : {X Y : Type 0} (g : X → Y) (P : X → Type 0) (Q : Y → Type 0) (o : Option X) → IfSome o P → ((x : X) → P x → Q (g x)) → IfSome (option_map g o) Q
if_map g P Q None h f = tt
if_map g P Q (Some x) h f = f x h

if_then : {X Y : Type 0} (g : X → Option Y) (P : X → Type 0) (Q : Y → Type 0) (o : Option X) → IfSome o P → ((x : X) → P x → IfSome (g x) Q) → IfSome (option_and_then g o) Q
if_then g P Q None h f = tt
if_then g P Q (Some x) h f = f x h

if_both : {X : Type 0} (P Q : X → Type 0) (o : Option X) → IfSome o P → IfSome o Q → IfSome o (λ x. P x × Q x)
if_both P Q None h k = tt
if_both P Q (Some x) h k = (h, k)

all_without : (P : PlacedTable → Type 0) (level number : ℕ) (ts : List PlacedTable) → AllByRecursion P ts → IfSome (without level number ts) (AllByRecursion P)
all_without P level number [] h = tt
all_without P level number (t ∷ ts) h =
    cond_both (is_at level number t) (Some ts) (option_map (λ others. t ∷ others) (without level number ts)) (λ o. IfSome o (AllByRecursion P)) (λ _. h.1)
    (λ _. if_map (λ others. t ∷ others) (AllByRecursion P) (AllByRecursion P) (without level number ts) (all_without P level number ts h.1) (λ others k. (h.0, k)))

in_place_without : (level number : ℕ) (ts : List PlacedTable) → AreInPlace ts → IfSome (without level number ts) AreInPlace
in_place_without level number [] h = tt
in_place_without level number (t ∷ ts) h =
    let both = if_both (AllByRecursion (IsFollowedBy t)) AreInPlace (without level number ts) (all_without (IsFollowedBy t) level number ts h.0) (in_place_without level number ts h.1) in
    cond_both (is_at level number t) (Some ts) (option_map (λ others. t ∷ others) (without level number ts)) (λ o. IfSome o AreInPlace) (λ _. h.1)
    (λ _. if_map (λ others. t ∷ others) (λ others. AllByRecursion (IsFollowedBy t) others × AreInPlace others) AreInPlace (without level number ts) both (λ others k. k))

kept_without : (level number : ℕ) (ts : List PlacedTable) → AreKept ts → IfSome (without level number ts) AreKept
kept_without level number ts h = if_both (AllByRecursion IsPlacedProper) AreInPlace (without level number ts) (all_without IsPlacedProper level number ts h.0) (in_place_without level number ts h.1)

all_inserted : (P : PlacedTable → Type 0) (new : PlacedTable) (ts : List PlacedTable) → P new → AllByRecursion P ts → AllByRecursion P (inserted new ts)
all_inserted P new [] h k = (h, tt)
all_inserted P new (t ∷ ts) h k =
    cond_both (is_before new t) (new ∷ t ∷ ts) (t ∷ inserted new ts) (AllByRecursion P) (λ _. (h, k)) (λ _. (k.0, all_inserted P new ts h k.1))

-- what is after t is after what stands before t
behind_all : (new t : PlacedTable) (ts : List PlacedTable) → IsPlacedBefore (new.level, new.table.number) (t.level, t.table.number) → AllByRecursion (IsFollowedBy t) ts
    → AllByRecursion (λ x. new.table.number ≢ x.table.number) ts → AllByRecursion (IsFollowedBy new) ts
behind_all new t [] b h k = tt
behind_all new t (x ∷ ts) b h k =
    ((before_trans (new.level, new.table.number) (t.level, t.table.number) (x.level, x.table.number) b h.0.0, k.0), behind_all new t ts b h.1 k.1)

in_place_inserted : (new : PlacedTable) (ts : List PlacedTable) → AllByRecursion (λ x. new.table.number ≢ x.table.number) ts → AreInPlace ts → AreInPlace (inserted new ts)
in_place_inserted new [] other h = (tt, tt)
in_place_inserted new (t ∷ ts) other h =
    cond_both (is_before new t) (new ∷ t ∷ ts) (t ∷ inserted new ts) AreInPlace
    (λ e. let b = before_true new.level new.table.number t.level t.table.number e in
    (((b, other.0), behind_all new t ts b h.0 other.1), h))
    (λ e. let b = before_false new.level new.table.number t.level t.table.number e other.0 in
    (all_inserted (IsFollowedBy t) new ts (b, λ same. other.0 (sym same)) h.0, in_place_inserted new ts other.1 h.1))

kept_deleted : (fs : List Field) (ts : List PlacedTable) → AreKept ts → IfSome (after_deleted fs ts) AreKept
kept_deleted [] ts h = h
kept_deleted (DeletedFile level number ∷ fs) ts h = if_then (after_deleted fs) AreKept AreKept (without level number ts) (kept_without level number ts h) (λ others k. kept_deleted fs others k)
kept_deleted (f ∷ fs) ts h = kept_deleted fs ts h

kept_new : (fs : List Field) (ts : List PlacedTable) → AllByRecursion IsProper fs → AreKept ts → IfSome (after_new fs ts) AreKept
kept_new [] ts p h = h
kept_new (NewFile placed ∷ fs) ts p h =
    cond_both (is_used placed.table.number ts) None (Some (inserted placed ts)) (λ o. IfSome (option_and_then (after_new fs) o) AreKept) (λ _. tt)
    (λ e. kept_new fs (inserted placed ts) p.1 (all_inserted IsPlacedProper placed ts p.0 h.0, in_place_inserted placed ts (unused placed.table.number ts e) h.1))
kept_new (f ∷ fs) ts p h = kept_new fs ts p.1 h

kept_edits : (edits : List (List Field)) (ts : List PlacedTable) → AllByRecursion (λ fs. AllByRecursion IsProper fs) edits → AreKept ts → IfSome (after_edits edits ts) AreKept
kept_edits [] ts p h = h
kept_edits (e ∷ es) ts p h =
    if_then (after_edits es) AreKept AreKept (after_edit e ts)
    (if_then (after_new e) AreKept AreKept (after_deleted e ts) (kept_deleted e ts h) (λ others k. kept_new e others p.0 k))
    (λ others k. kept_edits es others p.1 k)

-- ---- the whole

pub kept_layout : (name : List ℕ) (edits : List (List Field)) (layout : Layout) → AllByRecursion WasRead edits → IsLayout name edits layout → IsKept layout
kept_layout name edits layout read h =
    let proper = proper_edits edits read in
    let fs = fields_of edits in
    let key : (level : ℕ) → IsPointer (last_said (compact_pointer_in level) fs) = λ level. key_said level fs (proper_fields edits proper) in
    let O : Option (List PlacedTable) → Type 0 = λ o. IfSome o AreKept in
    let tables : AreKept layout.tables.items = subst O h.tables (kept_edits edits [] proper (tt, tt)) in
    let K : List (Option (List ℕ)) → Type 0 = λ ps. AllByRecursion IsPointer ps in
    record {
      levels = ap length h.compact_pointers;
      keys = subst K (sym h.compact_pointers) (key 0, (key 1, (key 2, (key 3, (key 4, (key 5, (key 6, tt)))))));
      proper = tables.0;
      in_place = tables.1;
    }
