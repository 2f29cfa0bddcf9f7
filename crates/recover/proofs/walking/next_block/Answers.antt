use Rattle.std.proofs.Common.{rules, ◌≡◌, ◌<◌, ◌≤◌, ◌+◌, ℕ, Some, List, length, true, false, is_some, subst}
use Rattle.std.proofs.lemmas.Result.{err_from_is_err_and}
use Rattle.block.specs.Places.{within}
use Rattle.ikey.specs.Entries.{Pair}
use Rattle.table.specs.Blocks.{IsCheckedAt}
use Rattle.table.specs.Reading.{Finds}
use Rattle.table.specs.declared.handle.Place.{Place}
use Rattle.recover.specs.declared.walking.BlockRead.{BlockRead}
use Rattle.recover.specs.internal.Walking.{IsHere}
use Rattle.recover.proofs.WalkSteps.{first_stands, none_within, block_more, skipped_more, skipped_all, skipped_not}
use Rattle.recover.proofs.walking.next_block.Goals as goal

pub returns-in_err-block-clause-told : goal.returns-in_err-block-clause-told
returns-in_err-block-clause-told g c =
    let p = err_from_is_err_and c.from_residual.result c.from_residual.ensures.1 in
    let lt : c.loop-index.index < length c.args.table.now.frame.places = subst (λ (ps : List Place). c.loop-index.index < length ps) c.places-count.ensures c.loop-index-test.true in
    rw (p.1, p.2) (skipped_not g.K.KeyOrder.cmp c.in_err-block.field-0.0 (g.S.Store.facts c.args.store.now) (g.S.Store.facts c.loop-index.store) (g.S.Store.facts c.check_block.new.store) c.args.table.now c.args.next c.loop-index.index lt
    c.loop-index.invariant c.in_err-block.ensures.reads c.in_err-block.ensures.refused)

pub returns-then-stands-clause-found : goal.returns-then-stands-clause-found
returns-then-stands-clause-found g c =
    let pairs : c.in_ok-block.block.value.pairs ≡ c.first.new.self.pairs = search rules in
    let found = subst (λ (ps : List Pair). Finds (g.S.Store.facts c.loop-index.store) (g.S.Store.facts c.check_block.new.store) c.args.table.now.name (λ (file : List ℕ). IsCheckedAt g.K.KeyOrder.cmp file c.args.table.now.frame c.loop-index.index ps)) pairs c.in_ok-block.ensures.found in
    block_more g.K.KeyOrder.cmp (g.S.Store.facts c.args.store.now) (g.S.Store.facts c.loop-index.store) (g.S.Store.facts c.check_block.new.store) c.args.table.now c.args.next c.loop-index.index c.first.new.self.pairs
    c.loop-index.invariant c.in_ok-block.ensures.reads found

pub returns-then-stands-clause-first : goal.returns-then-stands-clause-first
returns-then-stands-clause-first g c = λ read is.
    let pairs = c.in_ok-block.block.value.pairs in
    let stood : is_some (within pairs 0) ≡ true = search rules in
    let first : IsHere c.first.new.self 0 = first_stands pairs c.first.new.self (search rules) stood in
    let one : BlockRead g.row.K.Denot = record { next = c.loop-index.index + 1; block = c.first.new.self } in
    let both : Some one ≡ Some read = is in
    let same : one ≡ read = cc in
    subst (λ (r : BlockRead g.row.K.Denot). IsHere r.block 0) same first

pub loop-index-preserved : goal.loop-index-preserved
loop-index-preserved g c =
    let pairs = c.in_ok-block.block.value.pairs in
    let none : is_some (within pairs 0) ≡ false = search rules in
    skipped_more g.K.KeyOrder.cmp (g.S.Store.facts c.args.store.now) (g.S.Store.facts c.loop-index.store) (g.S.Store.facts c.check_block.new.store) c.args.table.now c.args.next c.loop-index.index pairs
    c.loop-index.invariant c.in_ok-block.ensures.reads c.in_ok-block.ensures.stood c.in_ok-block.ensures.found (none_within pairs none)

pub returns-clause-found : goal.returns-clause-found
returns-clause-found g c =
    skipped_all g.K.KeyOrder.cmp (g.S.Store.facts c.args.store.now) (g.S.Store.facts c.loop-index.store) c.args.table.now c.args.next c.loop-index.index c.loop-index.invariant (subst (λ (ps : List Place). length ps ≤ c.loop-index.index) c.places-count.ensures c.loop-index-test.false)
