use Rattle.std.proofs.Common.{rules, ◌≡◌, ℕ, List, option_copied, subst}
use Rattle.std.proofs.lemmas.Bool.{MatchBool-at_true, MatchBool-at_false}
use Rattle.std.specs.List.{AllByRecursion}
use Rattle.std.proofs.lemmas.Result.{err_from_is_err_and}
use Rattle.ikey.specs.Entries.{Pair}
use Rattle.table.specs.Blocks.{HasRight}
use Rattle.table.specs.Checking.{IsAdmitted}
use Rattle.table.specs.Intact.{AreWithin}
use Rattle.table.specs.Refusals.{IsUnsupported}
use Rattle.table.specs.Table.{HasBlock}
use Rattle.table.proofs.Begun.{none_within_right, none_admitted, all_right}
use Rattle.table.proofs.Steps.{refuses_more, same_file}
use Rattle.table.proofs.checking.check_place.Goals as goal

pub returns-in_err-block-clause-refused : goal.returns-in_err-block-clause-refused
returns-in_err-block-clause-refused g c =
    let p = err_from_is_err_and c.from_residual.result c.from_residual.ensures.1 in
    let cmp = g.K.KeyOrder.cmp in
    let place = c.args.place.now in
    let filter = c.args.filter.now in
    let previous = option_copied c.args.previous in
    rw (p.1, p.2)
    (refuses_more c.in_err-block.field-0.0 (g.S.Store.facts c.args.store.now) (g.S.Store.facts c.read_within.new.store) c.args.name.now
    (λ (file : List ℕ). ((pairs : List Pair) → HasBlock cmp file place.handle pairs → AreWithin cmp previous place.key pairs → ⊥) × (IsUnsupported file place.handle → ⊥))
    (λ (file : List ℕ). (pairs : List Pair) → HasRight cmp file filter previous place pairs → ⊥) (λ (file : List ℕ). IsUnsupported file place.handle) (λ (file : List ℕ). IsUnsupported file place.handle)
    (λ file none. none_within_right cmp file filter previous place none.0) (λ file u. u) c.in_err-block.ensures.refused)

pub returns-then-not-branch-clause-refused : goal.returns-then-not-branch-clause-refused
returns-then-not-branch-clause-refused g c = rw c.note_parts.ensures.same (λ t file there.
    let cmp = g.K.KeyOrder.cmp in
    let old = g.S.Store.facts c.args.store.now in
    let place = c.args.place.now in
    let admitted : List Pair → Type 0 = λ ps. AllByRecursion (IsAdmitted c.args.filter.now place.handle.offset) ps in
    let b = c.in_ok-block.ensures.found t in
    let has = subst (λ (x : List ℕ). HasBlock cmp x place.handle c.in_ok-block.block.pairs) (same_file old c.args.name.now b.0 file b.1 there) b.2 in
    let pairs : c.in_ok-clone.field-0.value.pairs ≡ c.in_ok-block.block.pairs = search rules in
    let none = MatchBool-at_false _ _ c.if-not-branch.true c.in_ok-are_admitted.ensures in
    none_admitted cmp file c.args.filter.now (option_copied c.args.previous) place c.in_ok-block.block.pairs has (subst (λ (ps : List Pair). admitted ps → ⊥) pairs none))

pub returns-clause-found : goal.returns-clause-found
returns-clause-found g c = λ t.
    let cmp = g.K.KeyOrder.cmp in
    let place = c.args.place.now in
    let filter = c.args.filter.now in
    let previous = option_copied c.args.previous in
    let admitted : List Pair → Type 0 = λ ps. AllByRecursion (IsAdmitted filter place.handle.offset) ps in
    let b = c.in_ok-block.ensures.found t in
    let read : c.in_ok-block.block.pairs ≡ c.in_ok-block-2.block.value.pairs = search rules in
    let shared : c.in_ok-clone.field-0.value.pairs ≡ c.in_ok-block-2.block.value.pairs = search rules in
    let within = subst (AreWithin cmp previous place.key) read c.in_ok-block.ensures.within in
    let allowed = subst admitted shared (MatchBool-at_true _ _ c.if-not-branch.false c.in_ok-are_admitted.ensures) in
    (b.0, b.1, (subst (λ (ps : List Pair). HasBlock cmp b.0 place.handle ps) read b.2, all_right cmp filter previous place _ within allowed))
