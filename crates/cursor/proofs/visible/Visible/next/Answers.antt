use Rattle.std.proofs.Common.{ℕ, Bool, not, List, refl, ◌∙◌, subst}
use Rattle.std.proofs.lemmas.Result.{err_from_is_err_and}
use Rattle.cursor.specs.declared.standing.Position.TheVariants.{Astray}
use Rattle.cursor.specs.Places.{is_less, within}
use Rattle.cursor.specs.Merging.{listed}
use Rattle.cursor.specs.Views.{passed, walk_next}
use Rattle.cursor.specs.Searches.{StandsBetween}
use Rattle.cursor.specs.Walks.{IsPlacedWalk}
use Rattle.cursor.proofs.Wanderings.{wanders_then, refused_then}
use Rattle.cursor.proofs.Beginnings.{past_on}
use Rattle.cursor.proofs.Strides.{walk_somewhere, refused_walk, refuses_walk, arrived_walk, next_passed}
use Rattle.cursor.proofs.Turns.{still_later}
use Rattle.cursor.proofs.visible.Visible.next.Goals as goal

pub returns-in_err-stand_ahead-clause-moves : goal.returns-in_err-stand_ahead-clause-moves
returns-in_err-stand_ahead-clause-moves g c =
    let p = err_from_is_err_and c.from_residual.result c.from_residual.ensures.1 in
    rw p.1
    (λ t. refused_walk g.K.KeyOrder.cmp g.C.Cursor.lists c.args.self.now.cursor c.args.self.now.sequence c.args.self.now.stands c.args.self.now.position c.args.self.now.here.key.items c.args.self.now.here.value.items c.args.source.now g.C.Cursor.facts g.C.Cursor.keeps g.C.Cursor.limited g.C.Cursor.torn g.C.Cursor.leaves g.C.Cursor.over c.stand_ahead.new.cursor c.args.self.now.sequence c.args.self.now.stands Astray c.args.self.now.here.key.items c.args.self.now.here.value.items c.stand_ahead.new.source refl refl refl refl c.stand_ahead.ensures.wanders t)

pub returns-in_err-go_on-clause-moves : goal.returns-in_err-go_on-clause-moves
returns-in_err-go_on-clause-moves g c =
    let p = err_from_is_err_and c.from_residual-in_err-go_on.result c.from_residual-in_err-go_on.ensures.1 in
    let stayed = c.in_err-go_on.ensures.stayed in
    rw p.1
    (λ t. refused_walk g.K.KeyOrder.cmp g.C.Cursor.lists c.args.self.now.cursor c.args.self.now.sequence c.args.self.now.stands c.args.self.now.position c.args.self.now.here.key.items c.args.self.now.here.value.items c.args.source.now g.C.Cursor.facts g.C.Cursor.keeps g.C.Cursor.limited g.C.Cursor.torn g.C.Cursor.leaves g.C.Cursor.over c.go_on.new.self.cursor c.go_on.new.self.sequence c.go_on.new.self.stands c.go_on.new.self.position c.go_on.new.self.here.key.items c.go_on.new.self.here.value.items c.go_on.new.source
    c.go_on.ensures.sequence stayed.stands stayed.position stayed.key (wanders_then g.C.Cursor.facts g.C.Cursor.lists g.C.Cursor.keeps g.C.Cursor.limited g.C.Cursor.torn g.C.Cursor.leaves g.C.Cursor.over g.met.C.Cursor.onward g.C.Cursor.leaves_onward g.C.Cursor.leaves_more c.args.self.now.cursor c.stand_ahead.new.cursor c.go_on.new.self.cursor c.args.source.now c.stand_ahead.new.source c.go_on.new.source c.stand_ahead.ensures.wanders c.go_on.ensures.wanders) t)

pub returns-in_err-go_on-clause-stays : goal.returns-in_err-go_on-clause-stays
returns-in_err-go_on-clause-stays g c = (wanders_then g.C.Cursor.facts g.C.Cursor.lists g.C.Cursor.keeps g.C.Cursor.limited g.C.Cursor.torn g.C.Cursor.leaves g.C.Cursor.over g.met.C.Cursor.onward g.C.Cursor.leaves_onward g.C.Cursor.leaves_more c.args.self.now.cursor c.stand_ahead.new.cursor c.go_on.new.self.cursor c.args.source.now c.stand_ahead.new.source c.go_on.new.source c.stand_ahead.ensures.wanders c.go_on.ensures.wanders).stays

pub returns-clause-stays : goal.returns-clause-stays
returns-clause-stays g c = (wanders_then g.C.Cursor.facts g.C.Cursor.lists g.C.Cursor.keeps g.C.Cursor.limited g.C.Cursor.torn g.C.Cursor.leaves g.C.Cursor.over g.met.C.Cursor.onward g.C.Cursor.leaves_onward g.C.Cursor.leaves_more c.args.self.now.cursor c.stand_ahead.new.cursor c.go_on.new.self.cursor c.args.source.now c.stand_ahead.new.source c.go_on.new.source c.stand_ahead.ensures.wanders c.go_on.ensures.wanders).stays

pub returns-in_err-go_on-clause-refused : goal.returns-in_err-go_on-clause-refused
returns-in_err-go_on-clause-refused g c =
    let p = err_from_is_err_and c.from_residual-in_err-go_on.result c.from_residual-in_err-go_on.ensures.1 in
    rw (p.1, p.2)
    (refuses_walk g.K.KeyOrder.cmp g.C.Cursor.lists c.args.self.now.cursor c.args.self.now.sequence c.args.self.now.stands c.args.self.now.position c.args.self.now.here.key.items c.args.self.now.here.value.items c.args.source.now g.C.Cursor.torn _ (g.C.Cursor.facts c.args.source.now) (g.C.Cursor.facts c.go_on.new.source) (g.C.Cursor.limited c.args.self.now.cursor c.args.source.now)
    (refused_then g.C.Cursor.facts g.C.Cursor.lists g.C.Cursor.keeps g.C.Cursor.limited g.C.Cursor.torn g.C.Cursor.leaves g.C.Cursor.over _ c.args.self.now.cursor c.stand_ahead.new.cursor c.args.source.now c.stand_ahead.new.source (g.C.Cursor.facts c.go_on.new.source) c.stand_ahead.ensures.wanders c.go_on.ensures.wanders.stays.reads c.in_err-go_on.ensures.refused))

pub returns-in_err-stand_ahead-clause-refused : goal.returns-in_err-stand_ahead-clause-refused
returns-in_err-stand_ahead-clause-refused g c =
    let p = err_from_is_err_and c.from_residual.result c.from_residual.ensures.1 in
    rw (p.1, p.2)
    (refuses_walk g.K.KeyOrder.cmp g.C.Cursor.lists c.args.self.now.cursor c.args.self.now.sequence c.args.self.now.stands c.args.self.now.position c.args.self.now.here.key.items c.args.self.now.here.value.items c.args.source.now g.C.Cursor.torn _ (g.C.Cursor.facts c.args.source.now) (g.C.Cursor.facts c.stand_ahead.new.source) (g.C.Cursor.limited c.args.self.now.cursor c.args.source.now) c.in_err-stand_ahead.ensures.refused)

pub returns-in_err-stand_ahead-clause-stays : goal.returns-in_err-stand_ahead-clause-stays
returns-in_err-stand_ahead-clause-stays g c = c.stand_ahead.ensures.wanders.stays

pub returns-clause-moves : goal.returns-clause-moves
returns-clause-moves g c = λ t at h.
    let l = walk_somewhere g.K.KeyOrder.cmp g.C.Cursor.lists c.args.self.now.cursor c.args.self.now.sequence c.args.self.now.stands c.args.self.now.position c.args.self.now.here.key.items c.args.self.now.here.value.items c.args.source.now at h in
    let rises = g.met.C.Cursor.rises c.args.self.now.cursor c.args.source.now (listed h.0 l.0) l.1 in
    let stand = subst (λ (b : Bool). IsPlacedWalk g.K.KeyOrder.cmp g.C.Cursor.lists c.args.self.now.cursor c.args.self.now.sequence b c.args.self.now.position c.args.self.now.here.key.items c.args.self.now.here.value.items c.args.source.now h.0 at) c.requires h.2 in
    let beside = c.in_ok-stand_ahead.ensures.stands (c.go_on.ensures.wanders.stays.reads.faithful t) h.0 stand.entry c.args.self.now.here.value.items stand.visible (c.as_slice.ensures.value ∙ stand.key_is) stand.beneath in
    let test = λ (user : List ℕ). not (is_less (g.K.KeyOrder.cmp c.args.self.now.here.key.items user)) in
    let between = subst (StandsBetween g.K.KeyOrder.cmp h.0 beside.0) c.as_slice.ensures.value beside.2 in
    let arrives = c.in_ok-go_on.ensures.arrives t h.0 at.pairs test beside.0 h.1 beside.1 (past_on g.K.KeyOrder.cmp g.met.K.KeyOrder.total g.met.K.KeyOrder.exact h.0 rises c.args.self.now.sequence c.args.self.now.here.key.items beside.0 between) in
    arrived_walk g.K.KeyOrder.cmp g.C.Cursor.lists c.go_on.new.self.cursor c.go_on.new.self.sequence c.go_on.new.self.stands c.go_on.new.self.position c.go_on.new.self.here.key.items c.go_on.new.self.here.value.items c.go_on.new.source c.args.self.now.sequence h.0 at (within at.pairs (passed test at.pairs)) (walk_next at) h.1 c.go_on.ensures.sequence arrives
    (next_passed g.K.KeyOrder.cmp g.met.K.KeyOrder.total g.met.K.KeyOrder.exact g.C.Cursor.lists c.args.self.now.cursor c.args.self.now.sequence c.args.self.now.position c.args.self.now.here.key.items c.args.self.now.here.value.items c.args.source.now h.0 at h.1.rises stand)

pub returns-in_err-go_on-clause-still : goal.returns-in_err-go_on-clause-still
returns-in_err-go_on-clause-still g c =
    let p = err_from_is_err_and c.from_residual-in_err-go_on.result c.from_residual-in_err-go_on.ensures.1 in
    rw (p.1, p.2) (still_later _ (g.C.Cursor.facts c.args.source.now) (g.C.Cursor.facts c.stand_ahead.new.source) (g.C.Cursor.facts c.go_on.new.source) c.in_ok-stand_ahead.ensures.still c.in_err-go_on.ensures.still)

pub returns-clause-still : goal.returns-clause-still
returns-clause-still g c = c.in_ok-go_on.ensures.still ∙ c.in_ok-stand_ahead.ensures.still
