use Rattle.std.proofs.Common.{ℕ, false, List, refl, ap, ◌∙◌}
use Rattle.std.proofs.lemmas.Result.{err_from_is_err_and}
use Rattle.cursor.specs.declared.standing.Position.TheVariants.{Astray}
use Rattle.cursor.specs.Places.{within}
use Rattle.cursor.specs.Merging.{listed}
use Rattle.cursor.specs.Views.{passed, walk_first}
use Rattle.cursor.specs.Cuts.{first_cut}
use Rattle.cursor.proofs.Wanderings.{wanders_then, move_wanders, refused_at, refused_then}
use Rattle.cursor.proofs.Beginnings.{from_first}
use Rattle.cursor.proofs.Strides.{walk_somewhere, refused_walk, refuses_walk, arrived_walk, none_passed}
use Rattle.cursor.proofs.Turns.{still_later}
use Rattle.cursor.proofs.visible.Visible.first.Goals as goal

pub returns-in_err-first-clause-moves : goal.returns-in_err-first-clause-moves
returns-in_err-first-clause-moves g c =
    let p = err_from_is_err_and c.from_residual.result c.from_residual.ensures.1 in
    rw p.1
    (λ t. refused_walk g.K.KeyOrder.cmp g.C.Cursor.lists c.args.self.now.cursor c.args.self.now.sequence c.args.self.now.stands c.args.self.now.position c.args.self.now.here.key.items c.args.self.now.here.value.items c.args.source.now g.C.Cursor.facts g.C.Cursor.keeps g.C.Cursor.limited g.C.Cursor.torn g.C.Cursor.leaves g.C.Cursor.over c.first.new.self c.args.self.now.sequence c.args.self.now.stands Astray c.args.self.now.here.key.items c.args.self.now.here.value.items c.first.new.source refl refl refl refl (move_wanders g.C.Cursor.facts g.C.Cursor.lists g.C.Cursor.keeps g.C.Cursor.limited g.C.Cursor.torn g.C.Cursor.leaves g.C.Cursor.over c.args.self.now.cursor c.first.new.self c.args.source.now c.first.new.source c.first.result _ c.first.ensures.moves c.first.ensures.stays) t)

pub returns-in_err-go_on-clause-moves : goal.returns-in_err-go_on-clause-moves
returns-in_err-go_on-clause-moves g c =
    let p = err_from_is_err_and c.from_residual-in_err-go_on.result c.from_residual-in_err-go_on.ensures.1 in
    let stayed = c.in_err-go_on.ensures.stayed in
    rw p.1
    (λ t. refused_walk g.K.KeyOrder.cmp g.C.Cursor.lists c.args.self.now.cursor c.args.self.now.sequence c.args.self.now.stands c.args.self.now.position c.args.self.now.here.key.items c.args.self.now.here.value.items c.args.source.now g.C.Cursor.facts g.C.Cursor.keeps g.C.Cursor.limited g.C.Cursor.torn g.C.Cursor.leaves g.C.Cursor.over c.go_on.new.self.cursor c.go_on.new.self.sequence c.go_on.new.self.stands c.go_on.new.self.position c.go_on.new.self.here.key.items c.go_on.new.self.here.value.items c.go_on.new.source
    c.go_on.ensures.sequence stayed.stands stayed.position stayed.key (wanders_then g.C.Cursor.facts g.C.Cursor.lists g.C.Cursor.keeps g.C.Cursor.limited g.C.Cursor.torn g.C.Cursor.leaves g.C.Cursor.over g.met.C.Cursor.onward g.C.Cursor.leaves_onward g.C.Cursor.leaves_more c.args.self.now.cursor c.first.new.self c.go_on.new.self.cursor c.args.source.now c.first.new.source c.go_on.new.source (move_wanders g.C.Cursor.facts g.C.Cursor.lists g.C.Cursor.keeps g.C.Cursor.limited g.C.Cursor.torn g.C.Cursor.leaves g.C.Cursor.over c.args.self.now.cursor c.first.new.self c.args.source.now c.first.new.source c.first.result _ c.first.ensures.moves c.first.ensures.stays) c.go_on.ensures.wanders) t)

pub returns-in_err-go_on-clause-stays : goal.returns-in_err-go_on-clause-stays
returns-in_err-go_on-clause-stays g c = (wanders_then g.C.Cursor.facts g.C.Cursor.lists g.C.Cursor.keeps g.C.Cursor.limited g.C.Cursor.torn g.C.Cursor.leaves g.C.Cursor.over g.met.C.Cursor.onward g.C.Cursor.leaves_onward g.C.Cursor.leaves_more c.args.self.now.cursor c.first.new.self c.go_on.new.self.cursor c.args.source.now c.first.new.source c.go_on.new.source (move_wanders g.C.Cursor.facts g.C.Cursor.lists g.C.Cursor.keeps g.C.Cursor.limited g.C.Cursor.torn g.C.Cursor.leaves g.C.Cursor.over c.args.self.now.cursor c.first.new.self c.args.source.now c.first.new.source c.first.result _ c.first.ensures.moves c.first.ensures.stays) c.go_on.ensures.wanders).stays

pub returns-clause-stays : goal.returns-clause-stays
returns-clause-stays g c = (wanders_then g.C.Cursor.facts g.C.Cursor.lists g.C.Cursor.keeps g.C.Cursor.limited g.C.Cursor.torn g.C.Cursor.leaves g.C.Cursor.over g.met.C.Cursor.onward g.C.Cursor.leaves_onward g.C.Cursor.leaves_more c.args.self.now.cursor c.first.new.self c.go_on.new.self.cursor c.args.source.now c.first.new.source c.go_on.new.source (move_wanders g.C.Cursor.facts g.C.Cursor.lists g.C.Cursor.keeps g.C.Cursor.limited g.C.Cursor.torn g.C.Cursor.leaves g.C.Cursor.over c.args.self.now.cursor c.first.new.self c.args.source.now c.first.new.source c.first.result _ c.first.ensures.moves c.first.ensures.stays) c.go_on.ensures.wanders).stays

pub returns-in_err-go_on-clause-refused : goal.returns-in_err-go_on-clause-refused
returns-in_err-go_on-clause-refused g c =
    let p = err_from_is_err_and c.from_residual-in_err-go_on.result c.from_residual-in_err-go_on.ensures.1 in
    rw (p.1, p.2)
    (refuses_walk g.K.KeyOrder.cmp g.C.Cursor.lists c.args.self.now.cursor c.args.self.now.sequence c.args.self.now.stands c.args.self.now.position c.args.self.now.here.key.items c.args.self.now.here.value.items c.args.source.now g.C.Cursor.torn _ (g.C.Cursor.facts c.args.source.now) (g.C.Cursor.facts c.go_on.new.source) (g.C.Cursor.limited c.args.self.now.cursor c.args.source.now)
    (refused_then g.C.Cursor.facts g.C.Cursor.lists g.C.Cursor.keeps g.C.Cursor.limited g.C.Cursor.torn g.C.Cursor.leaves g.C.Cursor.over _ c.args.self.now.cursor c.first.new.self c.args.source.now c.first.new.source (g.C.Cursor.facts c.go_on.new.source) (move_wanders g.C.Cursor.facts g.C.Cursor.lists g.C.Cursor.keeps g.C.Cursor.limited g.C.Cursor.torn g.C.Cursor.leaves g.C.Cursor.over c.args.self.now.cursor c.first.new.self c.args.source.now c.first.new.source c.first.result _ c.first.ensures.moves c.first.ensures.stays) c.go_on.ensures.wanders.stays.reads c.in_err-go_on.ensures.refused))

pub returns-in_err-first-clause-refused : goal.returns-in_err-first-clause-refused
returns-in_err-first-clause-refused g c =
    let p = err_from_is_err_and c.from_residual.result c.from_residual.ensures.1 in
    rw (p.1, p.2)
    (refuses_walk g.K.KeyOrder.cmp g.C.Cursor.lists c.args.self.now.cursor c.args.self.now.sequence c.args.self.now.stands c.args.self.now.position c.args.self.now.here.key.items c.args.self.now.here.value.items c.args.source.now g.C.Cursor.torn _ (g.C.Cursor.facts c.args.source.now) (g.C.Cursor.facts c.first.new.source) (g.C.Cursor.limited c.args.self.now.cursor c.args.source.now)
    (refused_at g.C.Cursor.lists g.C.Cursor.torn first_cut _ (g.C.Cursor.facts c.args.source.now) (g.C.Cursor.facts c.first.new.source) c.args.self.now.cursor c.args.source.now (g.C.Cursor.limited c.args.self.now.cursor c.args.source.now) c.in_err-first.ensures.refused))

pub returns-clause-moves : goal.returns-clause-moves
returns-clause-moves g c = λ t at h.
    let l = walk_somewhere g.K.KeyOrder.cmp g.C.Cursor.lists c.args.self.now.cursor c.args.self.now.sequence c.args.self.now.stands c.args.self.now.position c.args.self.now.here.key.items c.args.self.now.here.value.items c.args.source.now at h in
    let rises = g.met.C.Cursor.rises c.args.self.now.cursor c.args.source.now (listed h.0 l.0) l.1 in
    let test = λ (user : List ℕ). false in
    let arrives = c.in_ok-go_on.ensures.arrives t h.0 at.pairs test 0 h.1 (c.in_ok-first.ensures.moves (c.go_on.ensures.wanders.stays.reads.faithful t) (listed h.0 l.0) l.1) (from_first g.K.KeyOrder.cmp g.met.K.KeyOrder.total g.met.K.KeyOrder.exact h.0 c.args.self.now.sequence c.args.self.now.here.key.items) in
    arrived_walk g.K.KeyOrder.cmp g.C.Cursor.lists c.go_on.new.self.cursor c.go_on.new.self.sequence c.go_on.new.self.stands c.go_on.new.self.position c.go_on.new.self.here.key.items c.go_on.new.self.here.value.items c.go_on.new.source c.args.self.now.sequence h.0 at (within at.pairs (passed test at.pairs)) (walk_first at) h.1 c.go_on.ensures.sequence arrives (ap (within at.pairs) (none_passed at.pairs))

pub returns-in_err-go_on-clause-still : goal.returns-in_err-go_on-clause-still
returns-in_err-go_on-clause-still g c =
    let p = err_from_is_err_and c.from_residual-in_err-go_on.result c.from_residual-in_err-go_on.ensures.1 in
    rw (p.1, p.2) (still_later _ (g.C.Cursor.facts c.args.source.now) (g.C.Cursor.facts c.first.new.source) (g.C.Cursor.facts c.go_on.new.source) c.in_ok-first.ensures.still c.in_err-go_on.ensures.still)

pub returns-clause-still : goal.returns-clause-still
returns-clause-still g c = c.in_ok-go_on.ensures.still ∙ c.in_ok-first.ensures.still
