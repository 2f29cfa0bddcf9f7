use Rattle.std.proofs.Common.{Bool, ℕ, List, Vec, Global, sym, ap, subst}
use Rattle.cursor.specs.Places.{within}
use Rattle.cursor.specs.Merging.{listed}
use Rattle.cursor.specs.Searches.{SearchesOn, AnswersOn}
use Rattle.cursor.proofs.Strides.{placed_on, placed_none_on}
use Rattle.cursor.proofs.visible.Visible.go_on.Goals as goal

pub returns-then-not-branch-clause-arrives : goal.returns-then-not-branch-clause-arrives
returns-then-not-branch-clause-arrives g c = λ t entries pairs test index view l h.
    let cmp = g.K.KeyOrder.cmp in
    let sequence = c.args.self.now.sequence in
    let answer = c.in_ok-find_on.ensures.found t entries test index l (subst (λ (u : List ℕ). SearchesOn cmp entries sequence test index c.args.past u) (sym c.as_slice.ensures.value) h) in
    let none = subst (λ (b : Bool). AnswersOn cmp g.C.Cursor.lists c.find_on.new.cursor c.find_on.new.source entries sequence test c.find_on.new.found.items b) c.if-not-branch.true answer in
    placed_none_on cmp g.C.Cursor.lists c.find_on.new.cursor c.find_on.new.source entries sequence pairs view test c.args.self.now.position c.args.self.now.here.key.items c.args.self.now.here.value.items none
    (c.find_on.ensures.wanders.somewhere t (listed entries (within entries index)) l)

pub returns-clause-arrives : goal.returns-clause-arrives
returns-clause-arrives g c = λ t entries pairs test index view l h.
    let cmp = g.K.KeyOrder.cmp in
    let sequence = c.args.self.now.sequence in
    let answer = c.in_ok-find_on.ensures.found t entries test index l (subst (λ (u : List ℕ). SearchesOn cmp entries sequence test index c.args.past u) (sym c.as_slice.ensures.value) h) in
    let found = subst (λ (b : Bool). AnswersOn cmp g.C.Cursor.lists c.find_on.new.cursor c.find_on.new.source entries sequence test c.find_on.new.found.items b) c.if-not-branch.false answer in
    placed_on cmp g.C.Cursor.lists c.find_on.new.cursor c.find_on.new.source entries sequence pairs view test c.swap.new.x.items c.args.self.now.here.value.items c.find_on.new.found.items
    (ap (λ (v : Vec ℕ Global). v.items) c.swap.ensures.x_after) found
