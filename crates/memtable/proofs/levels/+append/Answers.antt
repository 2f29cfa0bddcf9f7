use Rattle.std.proofs.Common.{◌≡◌, ◌<◌, ◌/◌, [], length, refl, arith}
use Rattle.memtable.specs.Chains.{last_or}
use Rattle.memtable.specs.Levels.{quarter}
use Rattle.memtable.proofs.UpperLevels.{not-empty}
use Rattle.memtable.proofs.Ends.{upper-next, end-found, end-inside, level-before, levels-appended, ends-appended}
use Rattle.memtable.proofs.levels.+append.Goals as goal

pub splice-requires-clause-inside : goal.splice-requires-clause-inside
splice-requires-clause-inside t c =
    let some = not-empty (length c.args.levels.now) c.if-is_empty.ensures in
    let p = c.requires.place in
    let is : c.walk_to_end-last.result ≡ last_or 0 p.0 =
    end-found c.args.levels.now c.append.new.levels c.args.ends.now c.append.new.ends c.index-levels-0.result c.args.number _ c.walk_to_end-last.result c.deref.result.now p.0 p.1 p.2
    some c.requires.ends p.3 refl c.deref.ensures.value c.walk_to_end-last.ensures in
    end-inside c.args.levels.now c.append.new.levels c.index-levels-0-2.result c.args.ends.now c.args.number c.walk_to_end-last.result p.0 p.1 p.2 some (omega (arith, c.if-number-eq0.false)) p.3 is

pub returns : goal.returns
returns t c = λ nodes count total h.
    let some = not-empty (length c.args.levels.now) c.if-is_empty.ensures in
    let positive : 0 < c.args.number = omega (arith, c.if-number-eq0.false) in
    let is : c.walk_to_end-last.result ≡ last_or 0 nodes =
    end-found c.args.levels.now c.append.new.levels c.args.ends.now c.append.new.ends c.index-levels-0.result c.args.number _ c.walk_to_end-last.result c.deref.result.now nodes count total
    some c.requires.ends h refl c.deref.ensures.value c.walk_to_end-last.ensures in
    let above = c.append.ensures (quarter nodes) (count / 4) (total / 4)
    (upper-next c.args.levels.now c.args.ends.now c.args.number c.number_above.result nodes count total some c.requires.ends c.number_above.ensures h) in (
      levels-appended c.args.levels.now c.append.new.levels c.index-levels-0-2.result c.splice.new.links c.args.number c.number_above.result nodes count total some positive c.number_above.ensures h.next
          (c.splice.ensures nodes [] count total (level-before c.args.levels.now c.append.new.levels c.index-levels-0-2.result c.args.ends.now c.args.number nodes count total some h) is)
          above.0,
      ends-appended c.args.ends.now c.append.new.ends c.args.number c.number_above.result nodes (omega (arith, some, c.requires.ends)) positive c.number_above.ensures above.1,
    )
