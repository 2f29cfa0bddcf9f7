use Rattle.std.proofs.Common.{◌≡◌, ℕ, Option, List, [], ◌∷◌, ◌++◌, ◌<◌, ◌^◌, map, refl, sym, ap, ◌∙◌, subst}
use Rattle.std.specs.List.{AllByRecursion}
use Rattle.edits.specs.declared.field.Field.{Field}
use Rattle.edits.specs.declared.field.Field.TheVariants.{Comparator, NewFile}
use Rattle.edits.specs.declared.field.PlacedTable.{PlacedTable}
use Rattle.edits.specs.declared.layout.Layout.{Layout}
use Rattle.edits.specs.Edit.{IsProper, IsInOrder, HasPastLimit}
use Rattle.edits.specs.Layout.{IsLayout}
use Rattle.edits.specs.Snapshot.{IsRenumbered, IsKept, snapshot_fields, pointer_fields}
use Rattle.edits.proofs.Snapshots.{snapshot_proper, snapshot_order, snapshot_limit, snapshot_folds, all_from, built, renumbered, kept_again}
use Rattle.edits.proofs.snapshot.snapshot_edit.Goals as goal

whole : (c : goal.In_ok-push_previous) (new : Layout) → IsRenumbered c.args.log_number c.args.previous_log_number c.args.next_file_number c.args.last_sequence c.args.layout.now new
    → c.push_previous.new.edit ≡ snapshot_fields c.args.comparator.now new
whole c new r =
    let old = c.args.layout.now in
    let name = c.args.comparator.now in
    built name c.args.log_number c.args.next_file_number c.args.last_sequence c.args.previous_log_number old.compact_pointers.items old.tables.items
    c.push.new.self c.push-2.new.self c.push-3.new.self c.push-4.new.self c.push_pointers.new.edit c.push_tables.new.edit c.push_previous.new.edit
    (c.in_ok-push.ensures.ok ∙ ap (λ (x : List Field). x ++ Comparator c.in_ok-copied_from.field-0 ∷ []) c.new-edit.ensures ∙ ap (λ (x : List ℕ). Comparator x ∷ []) c.in_ok-copied_from.ensures)
    c.in_ok-push-2.ensures.ok c.in_ok-push-3.ensures.ok c.in_ok-push-4.ensures.ok
    (c.in_ok-push_pointers.ensures ∙ ap (λ (x : List (Option (List ℕ))). c.push-4.new.self ++ pointer_fields 0 x) c.deref.ensures.value)
    (c.in_ok-push_tables.ensures ∙ ap (λ (x : List PlacedTable). c.push_pointers.new.edit ++ map NewFile x) c.deref-2.ensures.value)
    c.in_ok-push_previous.ensures
    ∙ renumbered name c.args.log_number c.args.previous_log_number c.args.next_file_number c.args.last_sequence old new r

-- the layout under the new numbers
abbrev the_layout : goal.In_ok-push_previous → Layout
the_layout c = record c.args.layout.now { log_number = c.args.log_number; previous_log_number = c.args.previous_log_number; next_file_number = c.args.next_file_number; last_sequence = c.args.last_sequence }

abbrev same : (c : goal.In_ok-push_previous) → IsRenumbered c.args.log_number c.args.previous_log_number c.args.next_file_number c.args.last_sequence c.args.layout.now (the_layout c)
same c = record { log = refl; previous_log = refl; next_file = refl; sequence = refl; compact_pointers = refl; tables = refl }

abbrev kept : (c : goal.In_ok-push_previous) → IsKept (the_layout c)
kept c = kept_again c.args.log_number c.args.previous_log_number c.args.next_file_number c.args.last_sequence c.args.layout.now (the_layout c) (same c) c.requires.kept

pub returns-clause-proper : goal.returns-clause-proper
returns-clause-proper c =
    let P : List Field → Type 0 = λ fs. AllByRecursion IsProper fs in
    let log : c.args.log_number < 2 ^ 64 = c.ranges.log_number.fits in
    all_from IsProper c.push_previous.new.edit (subst P (sym (whole c (the_layout c) (same c)))
    (snapshot_proper c.args.comparator.now (the_layout c) c.requires.comparator c.requires.sequence c.ranges.log_number.fits c.ranges.next_file_number.fits c.ranges.previous_log_number.fits (kept c)))

pub returns-clause-order : goal.returns-clause-order
returns-clause-order c =
    let P : List Field → Type 0 = λ fs. IsInOrder fs in
    subst P (sym (whole c (the_layout c) (same c))) (snapshot_order c.args.comparator.now (the_layout c) (kept c))

pub returns-clause-folds : goal.returns-clause-folds
returns-clause-folds c = λ new r.
    let P : List Field → Type 0 = λ fs. IsLayout c.args.comparator.now (fs ∷ []) new in
    let again = kept_again c.args.log_number c.args.previous_log_number c.args.next_file_number c.args.last_sequence c.args.layout.now new r c.requires.kept in
    subst P (sym (whole c new r)) (snapshot_folds c.args.comparator.now new again)

pub returns-clause-limit : goal.returns-clause-limit
returns-clause-limit c = λ below.
    let P : List Field → Type 0 = λ fs. HasPastLimit fs → ⊥ in
    subst P (sym (whole c (the_layout c) (same c))) (snapshot_limit c.args.comparator.now (the_layout c) below)
