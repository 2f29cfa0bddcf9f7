use Rattle.std.proofs.Common.{ℕ, List, sym, subst, arith}
use Rattle.block.specs.Reading.{pairs_of}
use Rattle.block.specs.Spots.{IsSpot}
use Rattle.block.proofs.Keeping.{no_last, taken_back}
use Rattle.block.proofs.block_cursor.take_back.Goals as goal

pub unreachable-requires : goal.unreachable-requires
unreachable-requires c = no_last c.args.passed.now.items c.requires.1 (omega (arith, c.args.passed.now.ok.0, c.in_default.ensures.cases.0)) c.requires.3

pub returns-clause-taken : goal.returns-clause-taken
returns-clause-taken c body end kept ends =
    let last = c.in-Some.last in
    let t = taken_back body c.args.keys.now end c.args.passed.now.items c.pop.new.self.items last c.in-Some.ensures.items kept ends in
    (t.0, subst (λ (key : List ℕ). IsSpot body (pairs_of body) t.0 key last.at.start last.at.value last.at.next) (sym c.in_ok-copy_key.ensures.ok) t.1, t.2)
