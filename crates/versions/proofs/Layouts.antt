-- One more edit of a MANIFEST.
use Rattle.std.proofs.Common.{◌≡◌, ℕ, Option, Some, None, option_and_then, List, [], ◌∷◌, ◌++◌, map, refl, sym, ap, ◌∙◌, subst, append_assoc, append-nil}
use Rattle.std.specs.Option.{option_or}
use Rattle.edits.specs.declared.field.Field.{Field}
use Rattle.edits.specs.declared.field.PlacedTable.{PlacedTable}
use Rattle.edits.specs.declared.layout.Layout.{Layout}
use Rattle.edits.specs.Layout.{IsLayout, fields_of, last_said, compact_pointer_in, after_edit, after_edits, levels}
use Rattle.edits.proofs.Folds.{last_said-append}
use Rattle.versions.specs.Applying.{LeadsLayout}
use Rattle.versions.specs.Levels.{Placement, HasLayout, ListsSameTables, pointers_after}
use Rattle.versions.proofs.Sets.{inside}

then_some : (o : Option (List PlacedTable)) → option_and_then (after_edits []) o ≡ o
then_some None = refl
then_some (Some ts) = refl

then_last : (es : List (List Field)) (e : List Field) → ((ts : List PlacedTable) → after_edits (es ++ e ∷ []) ts ≡ option_and_then (after_edit e) (after_edits es ts))
    → (o : Option (List PlacedTable)) → option_and_then (after_edits (es ++ e ∷ [])) o ≡ option_and_then (after_edit e) (option_and_then (after_edits es) o)
then_last es e h None = refl
then_last es e h (Some ts) = h ts

after_last : (es : List (List Field)) (e : List Field) (ts : List PlacedTable) → after_edits (es ++ e ∷ []) ts ≡ option_and_then (after_edit e) (after_edits es ts)
after_last [] e ts = then_some (after_edit e ts)
after_last (d ∷ es) e ts = then_last es e (after_last es e) (after_edit d ts)

fields_last : (es : List (List Field)) (e : List Field) → fields_of (es ++ e ∷ []) ≡ fields_of es ++ e
fields_last [] e = append-nil e
fields_last (d ∷ es) e = ap (λ fs. d ++ fs) (fields_last es e) ∙ sym (append_assoc d (fields_of es) e)

pub one_more : (name : List ℕ) (edits : List (List Field)) (edit : List Field) (layout more : Layout) (version next : Placement)
    → IsLayout name edits layout → IsLayout name (edits ++ edit ∷ []) more
    → HasLayout layout.tables.items layout.compact_pointers.items version
    → LeadsLayout (after_edit edit) version.tables next.tables → next.compact_pointers ≡ pointers_after edit 0 version.compact_pointers
    → HasLayout more.tables.items more.compact_pointers.items next
one_more name edits edit layout more version next old new has leads pointers =
    let r = leads layout.tables.items has.tables in
    let same : r.0 ≡ more.tables.items = inside r.0 more.tables.items (sym r.1 ∙ sym (ap (option_and_then (after_edit edit)) old.tables) ∙ sym (after_last edits edit []) ∙ new.tables) in
    let said : (level : ℕ) → option_or (last_said (compact_pointer_in level) edit) (last_said (compact_pointer_in level) (fields_of edits)) ≡ last_said (compact_pointer_in level) (fields_of (edits ++ edit ∷ [])) =
    λ level. sym (ap (last_said (compact_pointer_in level)) (fields_last edits edit) ∙ last_said-append (compact_pointer_in level) (fields_of edits) edit) in
    let all : pointers_after edit 0 (map (λ level. last_said (compact_pointer_in level) (fields_of edits)) levels) ≡ map (λ level. last_said (compact_pointer_in level) (fields_of (edits ++ edit ∷ []))) levels =
    λ i. said 0 i ∷ said 1 i ∷ said 2 i ∷ said 3 i ∷ said 4 i ∷ said 5 i ∷ said 6 i ∷ [] in
    record {
      tables = subst (λ ts. ListsSameTables ts next.tables) same r.2;
      pointers = pointers ∙ ap (λ ps. pointers_after edit 0 ps) (has.pointers ∙ old.compact_pointers) ∙ all ∙ sym new.compact_pointers;
    }
