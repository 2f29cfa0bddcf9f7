use Rattle.std.proofs.Common.{◌≡◌, ℕ, List, None, Some, length, take, sym, ap, ◌∙◌, subst}
use Rattle.std.proofs.lemmas.Bool.{MatchBool-at_true, MatchBool-at_false}
use Rattle.ikey.specs.Entries.{Pair}
use Rattle.block.specs.Block.{AreAbove}
use Rattle.block.specs.Places.{Placed, within, IsFirstNotBelow}
use Rattle.block.specs.Reading.{pairs_of}
use Rattle.block.proofs.Moves.{seeks_found, seeks_none}
use Rattle.block.proofs.block_cursor.BlockCursor.seek.Goals as goal

pub returns-then-not-branch-clause-ok : goal.returns-then-not-branch-clause-ok
returns-then-not-branch-clause-ok g c =
    let below = g.O.EntryOrder.below in
    let block = c.self.inside.block.value in
    let target = c.args.target.now in
    let pairs : block.pairs ≡ pairs_of block.body = rw c.deref-block.ensures at c.parts.ensures.pairs in
    let view : block.pairs ≡ c.args.self.now.pairs = ap (λ (v : Placed). v.pairs) c.self.view_is in
    let w = rw (c.parts.ensures.body, c.deref-block.ensures) at c.in_ok-walk_to_not_below.ensures in
    let s = seeks_none below target (pairs_of block.body) (MatchBool-at_false _ _ c.if-not-branch.true w) in
    subst (λ (ps : List Pair). (index : ℕ) × IsFirstNotBelow below target ps index × (None ≡ within ps index)) (sym pairs ∙ view) (s.index, s.first, s.place_is)

pub returns-clause-ok : goal.returns-clause-ok
returns-clause-ok g c =
    let below = g.O.EntryOrder.below in
    let block = c.self.inside.block.value in
    let target = c.args.target.now in
    let pairs : block.pairs ≡ pairs_of block.body = rw c.deref-block.ensures at c.parts.ensures.pairs in
    let view : block.pairs ≡ c.args.self.now.pairs = ap (λ (v : Placed). v.pairs) c.self.view_is in
    let w = rw (c.parts.ensures.body, c.deref-block.ensures) at c.in_ok-walk_to_not_below.ensures in
    let rises : AreAbove below None (pairs_of block.body) = subst (AreAbove below None) pairs (rw c.deref-block.ensures at c.parts.ensures.rises) in
    let new = c.walk_to_not_below.new.at in
    let found = MatchBool-at_true _ _ c.if-not-branch.false w in
    let s = seeks_found below g.met.O.EntryOrder.transitive target block.body (pairs_of block.body) c.walk_to_not_below.new.key.items new.start new.value new.next rises found in
    let place = Some (length (pairs_of (take new.start block.body))) in
    subst (λ (ps : List Pair). (index : ℕ) × IsFirstNotBelow below target ps index × (place ≡ within ps index)) (sym pairs ∙ view) (s.index, s.first, s.place_is)
