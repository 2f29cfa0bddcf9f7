use Rattle.std.proofs.Common.{◌≡◌, ℕ, suc, List, sym, ap, ◌∙◌, subst, arith}
use Rattle.std.specs.Option.{option_and_then}
use Rattle.ikey.specs.Entries.{Pair}
use Rattle.block.specs.Places.{Placed, index_before}
use Rattle.block.specs.Reading.{pairs_of}
use Rattle.block.specs.Spots.{IsCursor, IsFront}
use Rattle.block.proofs.Fronts.{same_index}
use Rattle.block.proofs.Keeping.{same_keys}
use Rattle.block.proofs.Moves.{standing, respot, still_cursor, placed_nowhere, still_placed_at, none_before, before_is, index_in_front}
use Rattle.block.proofs.block_cursor.BlockCursor.prev.Goals as goal

pub returns-then-self-eq0-clause-ok : goal.returns-then-self-eq0-clause-ok
returns-then-self-eq0-clause-ok g c =
    let self = c.args.self.now in
    let block = c.self.inside.block.value in
    let here = c.self.inside.at in
    let s = standing block c.self.inside.stands c.self.inside.key.items here.start here.value here.next c.args.self.now c.self.view_is c.self.invariant.0 c.requires in
    let view : block.pairs ≡ self.pairs = ap (λ (v : Placed). v.pairs) c.self.view_is in
    placed_nowhere block self here.start (option_and_then index_before self.place) view (none_before block.body block.pairs s.index here.start s.spot.front c.if-self-eq0.true ∙ before_is self.place s.index s.place_is)

pub reach_back-requires-clause-place : goal.reach_back-requires-clause-place
reach_back-requires-clause-place g c =
    let here = c.self.inside.at in
    let s = standing c.self.inside.block.value c.self.inside.stands c.self.inside.key.items here.start here.value here.next c.args.self.now c.self.view_is c.self.invariant.0 c.requires in
    let block = c.self.inside.block.value in
    let body = block.body in
    let pairs : block.pairs ≡ pairs_of body = rw c.deref-block.ensures at c.parts.ensures.pairs in
    let l = index_in_front body block.pairs s.index here.start s.spot.front (omega (arith, c.if-self-eq0.false)) in
    rw (c.parts.ensures.body, c.deref-block.ensures)
    (l.0, subst (λ (ps : List Pair). IsFront body ps (suc l.0) here.start) pairs (subst (λ (n : ℕ). IsFront body block.pairs n here.start) l.1 s.spot.front))

pub take_back-requires : goal.take_back-requires
take_back-requires g c =
    let body = c.parts.result.0.now in
    let kept = same_keys body c.reach_back.new.keys.items c.as_slice.result.now c.reach_back.new.passed.items c.as_slice.ensures.value c.reach_back.ensures.kept in
    (body, c.self.inside.at.start, kept, c.in_ok-reach_back.ensures.ends)

pub invariant_of-self-in_err-self-inside : goal.invariant_of-self-in_err-self-inside
invariant_of-self-in_err-self-inside g c =
    let body = c.parts.result.0.now in
    let kept = same_keys body c.reach_back.new.keys.items c.as_slice.result.now c.reach_back.new.passed.items c.as_slice.ensures.value c.reach_back.ensures.kept in
    let others = c.take_back.ensures.others body kept in
    let still = rw (c.parts.ensures.body, c.deref-block.ensures, c.as_slice.ensures.value) at others in
    let at = c.self.inside.at in
    (subst (λ (key : List ℕ). IsCursor c.self.inside.block.value c.self.inside.stands key at.start at.value at.next) (sym c.in_err-self-inside.ensures.err) c.self.invariant.0, still)

pub invariant_of-self-2 : goal.invariant_of-self-2
invariant_of-self-2 g c =
    let body = c.parts.result.0.now in
    let kept = same_keys body c.reach_back.new.keys.items c.as_slice.result.now c.reach_back.new.passed.items c.as_slice.ensures.value c.reach_back.ensures.kept in
    let others = c.take_back.ensures.others body kept in
    let still = rw (c.parts.ensures.body, c.deref-block.ensures, c.as_slice.ensures.value) at others in
    let block = c.self.inside.block.value in
    let key = c.take_back.new.key.items in
    let at = c.in_ok-self-inside.field-0 in
    let taken = c.in_ok-self-inside.ensures.taken body c.self.inside.at.start kept c.in_ok-reach_back.ensures.ends in
    let w = rw (c.parts.ensures.body, c.deref-block.ensures) at taken in
    let pairs : block.pairs ≡ pairs_of block.body = rw c.deref-block.ensures at c.parts.ensures.pairs in
    let spot = respot block w.0 key at.start at.value at.next pairs w.1 in
    let here = c.self.inside.at in
    let s = standing c.self.inside.block.value c.self.inside.stands c.self.inside.key.items here.start here.value here.next c.args.self.now c.self.view_is c.self.invariant.0 c.requires in
    (still_cursor block c.self.inside.stands w.0 key at.start at.value at.next s.does spot, still)

pub returns-clause-ok : goal.returns-clause-ok
returns-clause-ok g c =
    let body = c.parts.result.0.now in
    let kept = same_keys body c.reach_back.new.keys.items c.as_slice.result.now c.reach_back.new.passed.items c.as_slice.ensures.value c.reach_back.ensures.kept in
    let block = c.self.inside.block.value in
    let key = c.take_back.new.key.items in
    let at = c.in_ok-self-inside.field-0 in
    let taken = c.in_ok-self-inside.ensures.taken body c.self.inside.at.start kept c.in_ok-reach_back.ensures.ends in
    let w = rw (c.parts.ensures.body, c.deref-block.ensures) at taken in
    let pairs : block.pairs ≡ pairs_of block.body = rw c.deref-block.ensures at c.parts.ensures.pairs in
    let spot = respot block w.0 key at.start at.value at.next pairs w.1 in
    let here = c.self.inside.at in
    let s = standing c.self.inside.block.value c.self.inside.stands c.self.inside.key.items here.start here.value here.next c.args.self.now c.self.view_is c.self.invariant.0 c.requires in
    let self = c.args.self.now in
    let view : block.pairs ≡ self.pairs = ap (λ (v : Placed). v.pairs) c.self.view_is in
    let front = subst (λ (n : ℕ). IsFront block.body block.pairs (suc w.0) n) w.2 spot.before.front in
    let same : s.index ≡ suc w.0 = same_index block.body block.pairs s.index (suc w.0) here.start s.spot.front front in
    still_placed_at block c.self.inside.stands self w.0 key at.start at.value at.next (option_and_then index_before self.place) s.does view spot
    (ap index_before (sym same) ∙ before_is self.place s.index s.place_is)
