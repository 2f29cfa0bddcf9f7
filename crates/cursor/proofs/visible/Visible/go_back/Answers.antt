use Rattle.std.proofs.Common.{◌≡◌, Bool, ℕ, List, Option, true, false, sym, ap, ◌∙◌, subst}
use Rattle.std.specs.Option.{option_copied}
use Rattle.std.specs.FinMap.{IsAntisymmetric}
use Rattle.std.specs.Cmp.{IsTotalOrder}
use Rattle.cursor.specs.declared.scanning.Found.{Found}
use Rattle.cursor.specs.Places.{Cmp, index_before}
use Rattle.cursor.specs.Merging.{listed}
use Rattle.cursor.specs.Searches.{HasPassedNone, AnswersBack, PassesLower, below_bound}
use Rattle.cursor.specs.Standing.{bound_if}
use Rattle.cursor.proofs.Beginnings.{all_lower, below_lower}
use Rattle.cursor.proofs.Strides.{placed_back, placed_none_back}
use Rattle.cursor.proofs.visible.Visible.go_back.Goals as goal

bound_lower : (cmp : Cmp) → IsTotalOrder cmp → IsAntisymmetric cmp → (past : Bool) (key : List ℕ) → PassesLower cmp (below_bound cmp (bound_if past key))
bound_lower cmp total exact true key = below_lower cmp total exact key
bound_lower cmp total exact false key = all_lower cmp

pub returns-then-not-branch-clause-arrives : goal.returns-then-not-branch-clause-arrives
returns-then-not-branch-clause-arrives g c = λ t entries pairs index view l h.
    let cmp = g.K.KeyOrder.cmp in
    let sequence = c.args.self.now.sequence in
    let is : option_copied c.bound_of-bound.result ≡ bound_if c.args.past c.args.self.now.here.key.items = c.bound_of-bound.ensures ∙ ap (bound_if c.args.past) c.as_slice.ensures.value in
    let answer = c.in_ok-find_back.ensures.found t entries index l (subst (λ (o : Option (List ℕ)). HasPassedNone entries sequence (below_bound cmp o) index) (sym is) h) in
    let none = subst (λ (b : Bool). AnswersBack cmp g.C.Cursor.lists c.find_back.new.cursor c.find_back.new.source entries sequence (below_bound cmp (option_copied c.bound_of-bound.result)) c.find_back.new.found.key.items c.find_back.new.found.value.items b) c.if-not-branch.true answer in
    let none_there = subst (λ (o : Option (List ℕ)). AnswersBack cmp g.C.Cursor.lists c.find_back.new.cursor c.find_back.new.source entries sequence (below_bound cmp o) c.find_back.new.found.key.items c.find_back.new.found.value.items false) is none in
    placed_none_back cmp g.C.Cursor.lists c.find_back.new.cursor c.find_back.new.source entries sequence pairs view (below_bound cmp (bound_if c.args.past c.args.self.now.here.key.items)) c.args.self.now.position c.args.self.now.here.key.items c.args.self.now.here.value.items none_there
    (c.find_back.ensures.wanders.somewhere t (listed entries (index_before index)) l)

pub returns-clause-arrives : goal.returns-clause-arrives
returns-clause-arrives g c = λ t entries pairs index view l h.
    let cmp = g.K.KeyOrder.cmp in
    let sequence = c.args.self.now.sequence in
    let is : option_copied c.bound_of-bound.result ≡ bound_if c.args.past c.args.self.now.here.key.items = c.bound_of-bound.ensures ∙ ap (bound_if c.args.past) c.as_slice.ensures.value in
    let answer = c.in_ok-find_back.ensures.found t entries index l (subst (λ (o : Option (List ℕ)). HasPassedNone entries sequence (below_bound cmp o) index) (sym is) h) in
    let found = subst (λ (b : Bool). AnswersBack cmp g.C.Cursor.lists c.find_back.new.cursor c.find_back.new.source entries sequence (below_bound cmp (option_copied c.bound_of-bound.result)) c.find_back.new.found.key.items c.find_back.new.found.value.items b) c.if-not-branch.false answer in
    let found_there = subst (λ (o : Option (List ℕ)). AnswersBack cmp g.C.Cursor.lists c.find_back.new.cursor c.find_back.new.source entries sequence (below_bound cmp o) c.find_back.new.found.key.items c.find_back.new.found.value.items true) is found in
    placed_back cmp g.C.Cursor.lists c.find_back.new.cursor c.find_back.new.source entries sequence pairs view (below_bound cmp (bound_if c.args.past c.args.self.now.here.key.items))
    (bound_lower cmp g.met.K.KeyOrder.total g.met.K.KeyOrder.exact c.args.past c.args.self.now.here.key.items)
    c.swap.new.x.key.items c.swap.new.x.value.items c.find_back.new.found.key.items c.find_back.new.found.value.items
    (ap (λ (f : Found). f.key.items) c.swap.ensures.x_after) (ap (λ (f : Found). f.value.items) c.swap.ensures.x_after) found_there
