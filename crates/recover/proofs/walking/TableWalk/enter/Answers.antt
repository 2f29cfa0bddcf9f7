use Rattle.std.proofs.Common.{rules, ◌≡◌, ◌+◌, ℕ, List, None, length, refl, sym, ◌∙◌, arith}
use Rattle.std.proofs.lemmas.Option.{MatchOption-at_some, MatchOption-at_none}
use Rattle.std.proofs.lemmas.Bool.{MatchBool-at_true, MatchBool-at_false}
use Rattle.std.proofs.lemmas.Result.{err_from_is_err_and}
use Rattle.ikey.specs.Entries.{InternalEntry}
use Rattle.ikey.specs.Orders.{order_of}
use Rattle.table.specs.Frame.{IsFrame}
use Rattle.table.specs.Refusals.{IsUnsupported, IsOfOne}
use Rattle.table.specs.Table.{IsTable}
use Rattle.recover.proofs.Passing.{ends, ends_not, stays_across, goes_across, passed_length}
use Rattle.recover.proofs.ReadTables.{table_still}
use Rattle.recover.proofs.WalkReads.{told_passing, refused_passing}
use Rattle.recover.proofs.walking.TableWalk.enter.Goals as goal

pub returns-in_err-read-clause-told : goal.returns-in_err-read-clause-told
returns-in_err-read-clause-told g c =
    let walk = c.args.self.now in
    let p = err_from_is_err_and c.from_residual.result c.from_residual.ensures.1 in
    rw (p.1, p.2) (told_passing (order_of g.K.KeyOrder.name g.K.KeyOrder.cmp) c.in_err-read.field-0.0 (g.S.Store.facts c.args.store.now) (g.S.Store.facts c.next_block.new.store) c.args.placed.now walk
    (λ (file : List ℕ). (entries : List InternalEntry) → IsFrame g.K.KeyOrder.cmp file walk.table.frame → IsTable g.K.KeyOrder.cmp file entries → ⊥) c.in_err-read.ensures.told)

pub returns-in_err-read-clause-refused : goal.returns-in_err-read-clause-refused
returns-in_err-read-clause-refused g c =
    let p = err_from_is_err_and c.from_residual.result c.from_residual.ensures.1 in
    rw (p.1, p.2) (refused_passing (order_of g.K.KeyOrder.name g.K.KeyOrder.cmp) c.in_err-read.field-0.0 (g.S.Store.facts c.args.store.now) (g.S.Store.facts c.next_block.new.store) c.args.placed.now c.args.self.now c.in_err-read.ensures.told)

pub returns-in_err-read-clause-still : goal.returns-in_err-read-clause-still
returns-in_err-read-clause-still g c =
    let walk = c.args.self.now in
    let a = g.S.Store.facts c.args.store.now in
    let p = err_from_is_err_and c.from_residual.result c.from_residual.ensures.1 in
    rw (p.1, p.2) (table_still c.in_err-read.field-0.0 a a (g.S.Store.facts c.next_block.new.store) walk.table.name
    (λ (file : List ℕ). (entries : List InternalEntry) → IsFrame g.K.KeyOrder.cmp file walk.table.frame → IsTable g.K.KeyOrder.cmp file entries → ⊥) (λ (file : List ℕ). IsOfOne (IsUnsupported file) walk.table.frame.places) refl c.in_err-read.ensures.told)

pub rise-requires : goal.rise-requires
rise-requires g c = (0, c.in_ok-read.ensures.first c.in-Some-2.read c.in-Some-2.is)

pub returns-then-not-is_largest-clause-refused : goal.returns-then-not-is_largest-clause-refused
returns-then-not-is_largest-clause-refused g c = rw c.note_file.ensures.same (λ t passed here h.
    let cmp = g.K.KeyOrder.cmp in
    let walk = c.args.self.now in
    let none : c.in_ok-read.field-0 ≡ None = search rules in
    let found = MatchOption-at_none _ _ none c.in_ok-read.ensures.found in
    let other = MatchBool-at_false _ _ c.if-not-is_largest.true c.is_at-is_largest.ensures in
    ends_not (order_of g.K.KeyOrder.name cmp) g.met.K.KeyOrder.total (g.S.Store.facts c.args.store.now).files c.args.placed.now walk passed here h (length walk.table.frame.places) (c.requires h.at h.at_is)
    (found t h.first.bytes h.first.named) (omega arith) (λ pair is e. other h.at pair (h.at_is, is) (e ∙ sym c.as_slice.ensures)))

pub returns-in_default-2-clause-found : goal.returns-in_default-2-clause-found
returns-in_default-2-clause-found g c = λ t passed here h.
    let cmp = g.K.KeyOrder.cmp in
    let walk = c.args.self.now in
    let none : c.in_ok-read.field-0 ≡ None = search rules in
    let found = MatchOption-at_none _ _ none c.in_ok-read.ensures.found in
    let largest = MatchBool-at_true _ _ c.if-not-is_largest.false c.is_at-is_largest.ensures in
    let count : c.in-Some.passed ≡ walk.passed + 1 = search rules in (
      ends (order_of g.K.KeyOrder.name cmp) g.met.K.KeyOrder.total (g.S.Store.facts c.args.store.now).files c.args.placed.now walk passed here h (length walk.table.frame.places) (c.requires h.at h.at_is)
          (found t h.first.bytes h.first.named) (omega arith) (λ pair is. largest h.at pair (h.at_is, is) ∙ c.as_slice.ensures),
      passed_length walk.passed c.in-Some.passed passed here h.count count,
    )

pub returns-then-not-branch-clause-refused : goal.returns-then-not-branch-clause-refused
returns-then-not-branch-clause-refused g c = rw c.note_file-then-not-branch.ensures.same (λ t passed here h.
    let order = order_of g.K.KeyOrder.name g.K.KeyOrder.cmp in
    let read = c.in-Some-2.read in
    let found = MatchOption-at_some _ _ _ c.in-Some-2.is c.in_ok-read.ensures.found in
    let first = c.in_ok-read.ensures.first read c.in-Some-2.is in
    let none = MatchBool-at_false _ _ c.if-not-branch.true (c.in_ok-rise.ensures 0 first) in
    stays_across order g.met.K.KeyOrder.total (g.S.Store.facts c.args.store.now).files c.args.placed.now c.args.self.now passed here h read.next read.block.pairs (c.requires h.at h.at_is)
    (found t h.first.bytes h.first.named) first.1 none)

pub returns-clause-found : goal.returns-clause-found
returns-clause-found g c = λ t passed here h.
    let order = order_of g.K.KeyOrder.name g.K.KeyOrder.cmp in
    let walk = c.args.self.now in
    let read = c.in-Some-2.read in
    let found = MatchOption-at_some _ _ _ c.in-Some-2.is c.in_ok-read.ensures.found in
    let first = c.in_ok-read.ensures.first read c.in-Some-2.is in
    let r = MatchBool-at_true _ _ c.if-not-branch.false (c.in_ok-rise.ensures 0 first) in
    let count : c.in-Some.passed ≡ walk.passed + 1 = search rules in
    goes_across order g.met.K.KeyOrder.total (g.S.Store.facts c.args.store.now).files c.args.placed.now walk passed here h _ r.0 (c.requires h.at h.at_is)
    (found t h.first.bytes h.first.named) refl first.0 count r.1 r.2 r.3 r.4
