use Rattle.std.proofs.Common.{None, ◌≡◌, ◌+◌, ℕ, Bool, List, [], map, inl, inr, refl, sym, subst, arith}
use Rattle.std.specs.Prelude.{Any}
use Rattle.std.specs.List.{AllByRecursion}
use Rattle.edits.specs.declared.field.TableFile.{TableFile}
use Rattle.edits.specs.Edit.{IsTableProper}
use Rattle.store.specs.Files.{Facts}
use Rattle.std.proofs.lemmas.Result.{err_from_is_err_and}
use Rattle.ikey.specs.Entries.{InternalEntry, Pair, entry_of}
use Rattle.compact.specs.Outputs.{HasWritten, TablesWritten, TableNumbersRise}
use Rattle.compact.specs.Rooms.{AreLarge, AreTooMany}
use Rattle.compact.proofs.Loads.{large-merged}
use Rattle.compact.proofs.Writing.{refuses-as}
use Rattle.compact.proofs.Closing.{kept_closed}
use Rattle.compact.proofs.Editing.{in_order, proper, own}
use Rattle.compact.specs.Merging.{IsMerging}
use Rattle.compact.proofs.Merges.{merging-closed}
use Rattle.compact.proofs.job.Job.finish.Goals as goal

pub returns-clause-finished : goal.returns-clause-finished
returns-clause-finished g c = λ deep came t h.
    let a : Facts = g.S.Store.facts c.args.store.now in
    let b : Facts = g.S.Store.facts c.close.new.store in
    let cmp = g.K.KeyOrder.cmp in
    let new_is : c.close.new.self ≡ record { closed = c.into_closed.result.items; at_hand = None } =
    λ i. record { closed = sym c.into_closed.ensures i; at_hand = c.in_ok-close.ensures.none i } in (
      c.into_closed.result.items,
      c.in_ok-edit.ensures,
      subst (λ (w : TablesWritten). IsMerging cmp deep c.args.self.last.items c.args.self.selection w b c.args.numbers.now.next came) new_is
          (merging-closed cmp deep c.args.self.last.items c.args.self.selection c.args.self.outputs c.close.new.self a b c.args.numbers.now.next came
          (λ pairs written. c.in_ok-close.ensures.closed c.args.numbers.now.next pairs c.args.numbers.now.in_range.1 t written) h),
    )

pub returns-clause-kept : goal.returns-clause-kept
returns-clause-kept g c = λ deep came t h number own.
    let b : Facts = g.S.Store.facts c.close.new.store in
    let cmp = g.K.KeyOrder.cmp in
    let next : ℕ = c.args.numbers.now.next in
    kept_closed cmp c.close.new.self b next h.written c.in_ok-close.ensures.none
    (c.in_ok-close.ensures.closed next h.written c.args.numbers.now.in_range.1 t h.has_written) number (c.in_ok-close.ensures.owns next h.written t h.has_written number own)

pub returns-clause-of_plan : goal.returns-clause-of_plan
returns-clause-of_plan g c = record { tables = c.into_closed.result.items; next = c.args.numbers.now.next; last = c.args.last_sequence; is = c.in_ok-edit.ensures }

pub returns-clause-proper : goal.returns-clause-proper
returns-clause-proper g c = λ small planned numbered.
    let next : ℕ = c.args.numbers.now.next in
    let said = ((c.in_ok-close.ensures.numbered next).keeps numbered).proper in
    proper c.args.self.plan c.into_closed.result.items next c.args.last_sequence c.in_ok-edit.edit c.in_ok-edit.ensures planned
    (subst (λ (ts : List TableFile). AllByRecursion IsTableProper ts) (sym c.into_closed.ensures) said) c.args.numbers.now.in_range.1 small

pub returns-clause-order : goal.returns-clause-order
returns-clause-order g c = λ planned numbered.
    let next : ℕ = c.args.numbers.now.next in
    let rise = ((c.in_ok-close.ensures.numbered next).keeps numbered).rise in
    in_order c.args.self.plan c.into_closed.result.items next c.args.last_sequence c.in_ok-edit.edit c.in_ok-edit.ensures planned
    (subst TableNumbersRise (sym c.into_closed.ensures) rise)

pub returns-clause-own : goal.returns-clause-own
returns-clause-own g c =
    own c.args.self.outputs c.args.self.plan.output_level c.args.numbers.now.next c.args.last_sequence c.args.self.plan.inputs.items c.args.self.plan.compact_pointer c.into_closed.result.items c.in_ok-edit.edit c.in_ok-edit.ensures
    (λ n any. elim ((c.in_ok-close.ensures.numbered (n + 1)).owns n (inr (subst (λ (ts : List TableFile). Any (λ (table : TableFile). table.number ≡ n) ts) c.into_closed.ensures any))) [
      | inl before ↦ before
      | inr from ↦ absurd (omega (arith, from))
    ])

pub returns-in_err-close-clause-refused : goal.returns-in_err-close-clause-refused
returns-in_err-close-clause-refused g c =
    let a : Facts = g.S.Store.facts c.args.store.now in
    let b : Facts = g.S.Store.facts c.close.new.store in
    let cmp = g.K.KeyOrder.cmp in
    let next : ℕ = c.args.numbers.now.next in
    let p = err_from_is_err_and c.from_residual.result c.from_residual.ensures.1 in
    rw (p.1, p.2) (refuses-as c.in_err-close.field-0.0 a a b ⊥ ((more : ℕ) (pairs : List Pair) → HasWritten cmp c.args.self.outputs a more pairs → AreTooMany pairs []) ⊥
    ⊥ ((deep : List ℕ → Bool) (came : List InternalEntry) → IsMerging cmp deep c.args.self.last.items c.args.self.selection c.args.self.outputs a next came → AreLarge (map entry_of came)) ⊥
    refl (λ h. h)
    (λ long deep came h. large-merged deep c.args.self.selection cmp h.written h.kept came h.written_are h.well_kept h.chooses (long next h.written h.has_written))
    (λ h. h) c.in_err-close.ensures.refused)
