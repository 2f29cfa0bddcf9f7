use Rattle.std.proofs.Common.{ℕ, List, refl, sym, subst, arith, ◌∙◌}
use Rattle.std.proofs.lemmas.Result.{err_from_is_err_and}
use Rattle.ikey.specs.Keys.{Key, IsKey}
use Rattle.cursor.specs.declared.standing.Position.TheVariants.{Astray}
use Rattle.cursor.specs.Places.{is_less, within, first_from}
use Rattle.cursor.specs.Merging.{listed}
use Rattle.cursor.specs.Views.{passed, walk_to}
use Rattle.cursor.specs.Cuts.{Below, TornAt, TornSomewhere, key_cut}
use Rattle.cursor.proofs.Turns.{refuses_later, still_later}
use Rattle.cursor.proofs.Wanderings.{wanders_then, move_wanders, refused_then, stays_still}
use Rattle.cursor.proofs.Beginnings.{from_seek}
use Rattle.cursor.proofs.Strides.{walk_somewhere, refused_walk, refuses_walk, arrived_walk}
use Rattle.cursor.proofs.visible.Visible.seek.Goals as goal

pub returns-in_err-seek-clause-moves : goal.returns-in_err-seek-clause-moves
returns-in_err-seek-clause-moves g c =
    let p = err_from_is_err_and c.from_residual-in_err-seek.result c.from_residual-in_err-seek.ensures.1 in
    rw p.1
    (λ t. refused_walk g.K.KeyOrder.cmp g.C.Cursor.lists c.args.self.now.cursor c.args.self.now.sequence c.args.self.now.stands c.args.self.now.position c.args.self.now.here.key.items c.args.self.now.here.value.items c.args.source.now g.C.Cursor.facts g.C.Cursor.keeps g.C.Cursor.limited g.C.Cursor.torn g.C.Cursor.leaves g.C.Cursor.over c.seek.new.self c.args.self.now.sequence c.args.self.now.stands Astray c.args.self.now.here.key.items c.args.self.now.here.value.items c.seek.new.source refl refl refl refl (move_wanders g.C.Cursor.facts g.C.Cursor.lists g.C.Cursor.keeps g.C.Cursor.limited g.C.Cursor.torn g.C.Cursor.leaves g.C.Cursor.over c.args.self.now.cursor c.seek.new.self c.args.source.now c.seek.new.source c.seek.result _ (c.seek.ensures.moves c.in_ok-key.ensures.key (subst (λ (b : List ℕ). IsKey b c.in_ok-key.ensures.key) (sym c.deref.ensures.value) c.in_ok-key.ensures.encoded)) c.seek.ensures.stays) t)

pub returns-in_err-go_on-clause-moves : goal.returns-in_err-go_on-clause-moves
returns-in_err-go_on-clause-moves g c =
    let p = err_from_is_err_and c.from_residual-in_err-go_on.result c.from_residual-in_err-go_on.ensures.1 in
    let stayed = c.in_err-go_on.ensures.stayed in
    rw p.1
    (λ t. refused_walk g.K.KeyOrder.cmp g.C.Cursor.lists c.args.self.now.cursor c.args.self.now.sequence c.args.self.now.stands c.args.self.now.position c.args.self.now.here.key.items c.args.self.now.here.value.items c.args.source.now g.C.Cursor.facts g.C.Cursor.keeps g.C.Cursor.limited g.C.Cursor.torn g.C.Cursor.leaves g.C.Cursor.over c.go_on.new.self.cursor c.go_on.new.self.sequence c.go_on.new.self.stands c.go_on.new.self.position c.go_on.new.self.here.key.items c.go_on.new.self.here.value.items c.go_on.new.source
    c.go_on.ensures.sequence stayed.stands stayed.position stayed.key (wanders_then g.C.Cursor.facts g.C.Cursor.lists g.C.Cursor.keeps g.C.Cursor.limited g.C.Cursor.torn g.C.Cursor.leaves g.C.Cursor.over g.met.C.Cursor.onward g.C.Cursor.leaves_onward g.C.Cursor.leaves_more c.args.self.now.cursor c.seek.new.self c.go_on.new.self.cursor c.args.source.now c.seek.new.source c.go_on.new.source (move_wanders g.C.Cursor.facts g.C.Cursor.lists g.C.Cursor.keeps g.C.Cursor.limited g.C.Cursor.torn g.C.Cursor.leaves g.C.Cursor.over c.args.self.now.cursor c.seek.new.self c.args.source.now c.seek.new.source c.seek.result _ (c.seek.ensures.moves c.in_ok-key.ensures.key (subst (λ (b : List ℕ). IsKey b c.in_ok-key.ensures.key) (sym c.deref.ensures.value) c.in_ok-key.ensures.encoded)) c.seek.ensures.stays) c.go_on.ensures.wanders) t)

pub returns-in_err-go_on-clause-stays : goal.returns-in_err-go_on-clause-stays
returns-in_err-go_on-clause-stays g c = (wanders_then g.C.Cursor.facts g.C.Cursor.lists g.C.Cursor.keeps g.C.Cursor.limited g.C.Cursor.torn g.C.Cursor.leaves g.C.Cursor.over g.met.C.Cursor.onward g.C.Cursor.leaves_onward g.C.Cursor.leaves_more c.args.self.now.cursor c.seek.new.self c.go_on.new.self.cursor c.args.source.now c.seek.new.source c.go_on.new.source (move_wanders g.C.Cursor.facts g.C.Cursor.lists g.C.Cursor.keeps g.C.Cursor.limited g.C.Cursor.torn g.C.Cursor.leaves g.C.Cursor.over c.args.self.now.cursor c.seek.new.self c.args.source.now c.seek.new.source c.seek.result _ (c.seek.ensures.moves c.in_ok-key.ensures.key (subst (λ (b : List ℕ). IsKey b c.in_ok-key.ensures.key) (sym c.deref.ensures.value) c.in_ok-key.ensures.encoded)) c.seek.ensures.stays) c.go_on.ensures.wanders).stays

pub returns-clause-stays : goal.returns-clause-stays
returns-clause-stays g c = (wanders_then g.C.Cursor.facts g.C.Cursor.lists g.C.Cursor.keeps g.C.Cursor.limited g.C.Cursor.torn g.C.Cursor.leaves g.C.Cursor.over g.met.C.Cursor.onward g.C.Cursor.leaves_onward g.C.Cursor.leaves_more c.args.self.now.cursor c.seek.new.self c.go_on.new.self.cursor c.args.source.now c.seek.new.source c.go_on.new.source (move_wanders g.C.Cursor.facts g.C.Cursor.lists g.C.Cursor.keeps g.C.Cursor.limited g.C.Cursor.torn g.C.Cursor.leaves g.C.Cursor.over c.args.self.now.cursor c.seek.new.self c.args.source.now c.seek.new.source c.seek.result _ (c.seek.ensures.moves c.in_ok-key.ensures.key (subst (λ (b : List ℕ). IsKey b c.in_ok-key.ensures.key) (sym c.deref.ensures.value) c.in_ok-key.ensures.encoded)) c.seek.ensures.stays) c.go_on.ensures.wanders).stays

pub returns-in_err-go_on-clause-refused : goal.returns-in_err-go_on-clause-refused
returns-in_err-go_on-clause-refused g c =
    let p = err_from_is_err_and c.from_residual-in_err-go_on.result c.from_residual-in_err-go_on.ensures.1 in
    rw (p.1, p.2)
    (refuses_walk g.K.KeyOrder.cmp g.C.Cursor.lists c.args.self.now.cursor c.args.self.now.sequence c.args.self.now.stands c.args.self.now.position c.args.self.now.here.key.items c.args.self.now.here.value.items c.args.source.now g.C.Cursor.torn _ (g.C.Cursor.facts c.args.source.now) (g.C.Cursor.facts c.go_on.new.source) (g.C.Cursor.limited c.args.self.now.cursor c.args.source.now)
    (refused_then g.C.Cursor.facts g.C.Cursor.lists g.C.Cursor.keeps g.C.Cursor.limited g.C.Cursor.torn g.C.Cursor.leaves g.C.Cursor.over _ c.args.self.now.cursor c.seek.new.self c.args.source.now c.seek.new.source (g.C.Cursor.facts c.go_on.new.source) (move_wanders g.C.Cursor.facts g.C.Cursor.lists g.C.Cursor.keeps g.C.Cursor.limited g.C.Cursor.torn g.C.Cursor.leaves g.C.Cursor.over c.args.self.now.cursor c.seek.new.self c.args.source.now c.seek.new.source c.seek.result _ (c.seek.ensures.moves c.in_ok-key.ensures.key (subst (λ (b : List ℕ). IsKey b c.in_ok-key.ensures.key) (sym c.deref.ensures.value) c.in_ok-key.ensures.encoded)) c.seek.ensures.stays) c.go_on.ensures.wanders.stays.reads c.in_err-go_on.ensures.refused))

pub returns-clause-moves : goal.returns-clause-moves
returns-clause-moves g c = λ t at h.
    let l = walk_somewhere g.K.KeyOrder.cmp g.C.Cursor.lists c.args.self.now.cursor c.args.self.now.sequence c.args.self.now.stands c.args.self.now.position c.args.self.now.here.key.items c.args.self.now.here.value.items c.args.source.now at h in
    let rises = g.met.C.Cursor.rises c.args.self.now.cursor c.args.source.now (listed h.0 l.0) l.1 in
    let test = λ (user : List ℕ). is_less (g.K.KeyOrder.cmp user c.args.target.now) in
    let f = c.in_ok-key.ensures in
    let on = c.in_ok-seek.ensures.moves f.key (subst (λ (b : List ℕ). IsKey b f.key) (sym c.deref.ensures.value) f.encoded) (c.go_on.ensures.wanders.stays.reads.faithful t) (listed h.0 l.0) l.1 in
    let arrives = c.in_ok-go_on.ensures.arrives t h.0 at.pairs test (first_from g.K.KeyOrder.cmp f.key h.0) h.1 on (from_seek g.K.KeyOrder.cmp g.met.K.KeyOrder.total g.met.K.KeyOrder.exact h.0 rises c.args.self.now.sequence c.args.target.now c.in_ok-key.key.items f c.args.self.now.here.key.items) in
    arrived_walk g.K.KeyOrder.cmp g.C.Cursor.lists c.go_on.new.self.cursor c.go_on.new.self.sequence c.go_on.new.self.stands c.go_on.new.self.position c.go_on.new.self.here.key.items c.go_on.new.self.here.value.items c.go_on.new.source c.args.self.now.sequence h.0 at (within at.pairs (passed test at.pairs)) (walk_to g.K.KeyOrder.cmp c.args.target.now at) h.1 c.go_on.ensures.sequence arrives refl

pub returns-in_err-seek-clause-refused : goal.returns-in_err-seek-clause-refused
returns-in_err-seek-clause-refused g c =
    let p = err_from_is_err_and c.from_residual-in_err-seek.result c.from_residual-in_err-seek.ensures.1 in
    let f = c.in_ok-key.ensures in
    let facts = g.C.Cursor.facts in
    rw (p.1, p.2)
    (refuses_walk g.K.KeyOrder.cmp g.C.Cursor.lists c.args.self.now.cursor c.args.self.now.sequence c.args.self.now.stands c.args.self.now.position c.args.self.now.here.key.items c.args.self.now.here.value.items c.args.source.now
    g.C.Cursor.torn _ (facts c.args.source.now) (facts c.seek.new.source) (g.C.Cursor.limited c.args.self.now.cursor c.args.source.now)
    (refuses_later _ (facts c.args.source.now) (facts c.args.source.now) (facts c.seek.new.source)
    ((key : Key) → IsKey c.deref.result.now key → TornAt g.C.Cursor.lists g.C.Cursor.torn (key_cut key) c.args.self.now.cursor c.args.source.now) (TornSomewhere g.C.Cursor.lists g.C.Cursor.torn c.args.self.now.cursor c.args.source.now)
    (g.C.Cursor.limited c.args.self.now.cursor c.args.source.now) (g.C.Cursor.limited c.args.self.now.cursor c.args.source.now) (omega arith)
    (λ t there at l. (Below f.key, there f.key (subst (λ (b : List ℕ). IsKey b f.key) (sym c.deref.ensures.value) f.encoded) at l)) (λ f l. l) c.in_err-seek.ensures.refused))

pub returns-in_err-key-clause-stays : goal.returns-in_err-key-clause-stays
returns-in_err-key-clause-stays g c = stays_still g.C.Cursor.facts g.C.Cursor.keeps g.C.Cursor.limited g.C.Cursor.torn g.C.Cursor.leaves g.C.Cursor.over g.met.C.Cursor.still g.C.Cursor.leaves_still c.args.self.now.cursor c.args.source.now

pub returns-in_err-go_on-clause-still : goal.returns-in_err-go_on-clause-still
returns-in_err-go_on-clause-still g c =
    let p = err_from_is_err_and c.from_residual-in_err-go_on.result c.from_residual-in_err-go_on.ensures.1 in
    rw (p.1, p.2) (still_later _ (g.C.Cursor.facts c.args.source.now) (g.C.Cursor.facts c.seek.new.source) (g.C.Cursor.facts c.go_on.new.source) c.in_ok-seek.ensures.still c.in_err-go_on.ensures.still)

pub returns-clause-still : goal.returns-clause-still
returns-clause-still g c = c.in_ok-go_on.ensures.still ∙ c.in_ok-seek.ensures.still
