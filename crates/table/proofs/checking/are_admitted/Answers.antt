use Rattle.std.proofs.Common.{rules, ◌≡◌, ◌∙◌, true, is_some, List, ℕ, ◌∷◌, ◌++◌, [], length, sym, subst}
use Rattle.std.specs.List.{AllByRecursion}
use Rattle.ikey.specs.Entries.{Pair}
use Rattle.table.specs.Checking.{HasAdmitted, IsAdmitted}
use Rattle.table.proofs.Walks.{walked_none, walked_at, walked_on, fewer_left, all_walked, all_push, all_at}
use Rattle.table.proofs.checking.are_admitted.Goals as goal

pub loop-cursor-init : goal.loop-cursor-init
loop-cursor-init g c = ([], walked_none c.first.new.self.pairs c.first.new.self (search rules) (search rules), tt)

pub returns-then-not-is_admitted : goal.returns-then-not-is_admitted
returns-then-not-is_admitted g c = λ all.
    let i = c.loop-cursor.invariant in
    let at = walked_at c.first.new.self.pairs c.loop-cursor.cursor i.0 i.1 (search rules) in
    let admitted : Pair → Type 0 = IsAdmitted c.args.filter.now c.args.offset in
    let same : c.loop-cursor.cursor.pairs ≡ c.args.block.value.pairs = i.1.pairs_are ∙ search rules in
    let here = all_at admitted c.loop-cursor.cursor.pairs (length i.0) at.0 at.2 (subst (AllByRecursion admitted) (sym same) all) in
    c.if-not-is_admitted.ensures (subst (λ (k : List ℕ). HasAdmitted c.args.filter.now c.args.offset k) (sym (c.key.ensures (length i.0) at.0 at.1 at.2)) here)

pub loop-cursor-preserved : goal.loop-cursor-preserved
loop-cursor-preserved g c =
    let i = c.loop-cursor.invariant in
    let some : is_some c.loop-cursor.cursor.place ≡ true = search rules in
    let at = walked_at c.first.new.self.pairs c.loop-cursor.cursor i.0 i.1 some in
    let admitted : Pair → Type 0 = IsAdmitted c.args.filter.now c.args.offset in
    let here = subst (λ (k : List ℕ). HasAdmitted c.args.filter.now c.args.offset k) (c.key.ensures (length i.0) at.0 at.1 at.2) c.if-not-is_admitted.ensures in
    (i.0 ++ at.0 ∷ [], walked_on c.first.new.self.pairs c.loop-cursor.cursor c.next.new.self i.0 i.1 some (search rules), all_push admitted i.0 at.0 i.2 here)

pub returns : goal.returns
returns g c =
    let i = c.loop-cursor.invariant in
    let admitted : Pair → Type 0 = IsAdmitted c.args.filter.now c.args.offset in
    let all : i.0 ≡ c.args.block.value.pairs = all_walked c.first.new.self.pairs c.loop-cursor.cursor i.0 i.1 (search rules) ∙ search rules in
    subst (AllByRecursion admitted) all i.2

pub loop-cursor-smaller : goal.loop-cursor-smaller
loop-cursor-smaller g c =
    let i = c.loop-cursor.invariant in
    fewer_left c.first.new.self.pairs c.loop-cursor.cursor c.next.new.self i.0 i.1 (search rules) (search rules)
