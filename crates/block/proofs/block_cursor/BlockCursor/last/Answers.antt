use Rattle.std.proofs.Common.{◌≡◌, ◌<◌, ℕ, suc, List, length, sym, ap, ◌∙◌, subst}
use Rattle.ikey.specs.Entries.{Pair}
use Rattle.block.specs.Places.{Placed, last_of}
use Rattle.block.specs.Reading.{pairs_of}
use Rattle.block.specs.Spots.{IsCursor, IsFront}
use Rattle.block.proofs.Fronts.{whole_front}
use Rattle.block.proofs.Keeping.{same_keys}
use Rattle.block.proofs.Moves.{respot, placed_at, last_is, is_last, index_in_front}
use Rattle.block.proofs.Rests.{some_left}
use Rattle.block.proofs.block_cursor.BlockCursor.last.Goals as goal

pub walk_back-requires-clause-place : goal.walk_back-requires-clause-place
walk_back-requires-clause-place g c =
    let body = c.self.inside.block.value.body in
    let pairs = pairs_of body in
    let h = rw c.deref-block.ensures at c.parts.ensures.restarts in
    let left = some_left c.parts.result.0.now (sym c.if-is_empty.ensures) in
    let some : 0 < length body = rw (c.parts.ensures.body, c.deref-block.ensures) at left in
    let whole = whole_front pairs h.list body h.entries in
    let l = index_in_front body pairs (length pairs) (length body) whole some in
    rw (c.parts.ensures.body, c.deref-block.ensures) (l.0, subst (λ (n : ℕ). IsFront body pairs n (length body)) l.1 whole)

pub take_back-requires : goal.take_back-requires
take_back-requires g c =
    let body = c.parts.result.0.now in
    let kept = same_keys body c.walk_back.new.keys.items c.as_slice.result.now c.walk_back.new.passed.items c.as_slice.ensures.value c.walk_back.ensures.kept in
    (body, length body, kept, c.in_ok-walk_back.ensures.ends)

pub invariant_of-self-in_err-self-inside : goal.invariant_of-self-in_err-self-inside
invariant_of-self-in_err-self-inside g c =
    let body = c.parts.result.0.now in
    let kept = same_keys body c.walk_back.new.keys.items c.as_slice.result.now c.walk_back.new.passed.items c.as_slice.ensures.value c.walk_back.ensures.kept in
    let others = c.take_back.ensures.others body kept in
    let still = rw (c.parts.ensures.body, c.deref-block.ensures, c.as_slice.ensures.value) at others in
    let at = c.self.inside.at in
    (subst (λ (key : List ℕ). IsCursor c.self.inside.block.value c.self.inside.stands key at.start at.value at.next) (sym c.in_err-self-inside.ensures.err) c.self.invariant.0, still)

pub invariant_of-self-2 : goal.invariant_of-self-2
invariant_of-self-2 g c =
    let body = c.parts.result.0.now in
    let kept = same_keys body c.walk_back.new.keys.items c.as_slice.result.now c.walk_back.new.passed.items c.as_slice.ensures.value c.walk_back.ensures.kept in
    let others = c.take_back.ensures.others body kept in
    let still = rw (c.parts.ensures.body, c.deref-block.ensures, c.as_slice.ensures.value) at others in
    let block = c.self.inside.block.value in
    let key = c.take_back.new.key.items in
    let at = c.in_ok-self-inside.field-0 in
    let taken = c.in_ok-self-inside.ensures.taken body (length body) kept c.in_ok-walk_back.ensures.ends in
    let w = rw (c.parts.ensures.body, c.deref-block.ensures) at taken in
    let pairs : block.pairs ≡ pairs_of block.body = rw c.deref-block.ensures at c.parts.ensures.pairs in
    let spot = respot block w.0 key at.start at.value at.next pairs w.1 in
    ((w.0, spot), still)

pub returns-clause-ok : goal.returns-clause-ok
returns-clause-ok g c =
    let body = c.parts.result.0.now in
    let kept = same_keys body c.walk_back.new.keys.items c.as_slice.result.now c.walk_back.new.passed.items c.as_slice.ensures.value c.walk_back.ensures.kept in
    let block = c.self.inside.block.value in
    let key = c.take_back.new.key.items in
    let at = c.in_ok-self-inside.field-0 in
    let taken = c.in_ok-self-inside.ensures.taken body (length body) kept c.in_ok-walk_back.ensures.ends in
    let w = rw (c.parts.ensures.body, c.deref-block.ensures) at taken in
    let pairs : block.pairs ≡ pairs_of block.body = rw c.deref-block.ensures at c.parts.ensures.pairs in
    let spot = respot block w.0 key at.start at.value at.next pairs w.1 in
    let self = c.args.self.now in
    let h = rw c.deref-block.ensures at c.parts.ensures.restarts in
    let view : block.pairs ≡ self.pairs = ap (λ (v : Placed). v.pairs) c.self.view_is in
    let front = subst (λ (n : ℕ). IsFront block.body (pairs_of block.body) (suc w.0) n) w.2 w.1.before.front in
    let count : suc w.0 ≡ length self.pairs = is_last block.body (pairs_of block.body) h.list w.0 h.entries front ∙ ap (length {A = Pair}) (sym pairs ∙ view) in
    placed_at block self w.0 key at.start at.value at.next (last_of self.pairs) view spot (last_is self.pairs w.0 count)
