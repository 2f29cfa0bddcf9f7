use Rattle.std.proofs.Common.{Bool, refl, sym, ◌∙◌, subst}
use Rattle.std.specs.Option.{option_copied}
use Rattle.std.proofs.lemmas.Result.{err_from_is_err_and}
use Rattle.ikey.specs.Keys.{Key, IsKey}
use Rattle.cursor.specs.Cuts.{prev_cut}
use Rattle.cursor.specs.Searches.{LooksBack, below_bound}
use Rattle.cursor.proofs.Wanderings.{wanders_still, wanders_then, move_wanders, refused_at, refused_then, refused_key, ended_back, found_back, passed_back}
use Rattle.cursor.proofs.Turns.{still_later, still_there}
use Rattle.cursor.proofs.scanning.find_back.Goals as goal

pub search-init : goal.search-init
search-init g c = record {
  wanders = wanders_still g.C.Cursor.facts g.C.Cursor.lists g.C.Cursor.keeps g.C.Cursor.limited g.C.Cursor.torn g.C.Cursor.leaves g.C.Cursor.over g.met.C.Cursor.still g.C.Cursor.leaves_still c.args.cursor.now c.args.source.now;
  comes = λ t entries index l h. (index, l, h);
  still = refl;
}

pub search-preserved : goal.search-preserved
search-preserved g c = record {
  wanders = wanders_then g.C.Cursor.facts g.C.Cursor.lists g.C.Cursor.keeps g.C.Cursor.limited g.C.Cursor.torn g.C.Cursor.leaves g.C.Cursor.over g.met.C.Cursor.onward g.C.Cursor.leaves_onward g.C.Cursor.leaves_more _ _ _ _ _ _ c.search.invariant.wanders
      (move_wanders g.C.Cursor.facts g.C.Cursor.lists g.C.Cursor.keeps g.C.Cursor.limited g.C.Cursor.torn g.C.Cursor.leaves g.C.Cursor.over c.search.cursor c.prev.new.self c.search.source c.prev.new.source c.prev.result _ c.prev.ensures.moves c.prev.ensures.stays);
  comes = λ t entries index l h.
      let at = c.search.invariant.comes (c.prev.ensures.stays.reads.faithful t) entries index l h in
      let test = below_bound g.K.KeyOrder.cmp (option_copied c.args.bound) in
      let looks = subst (λ (b : Bool). (k : Key) → IsKey c.key.result.now k → LooksBack k c.value.result.now c.args.sequence test c.search.has c.search.found.key.items c.search.found.value.items c.look_back.new.has c.look_back.new.found.key.items c.look_back.new.found.value.items b) c.if-branch.false c.in_ok-look_back.ensures.looks in
      passed_back g.K.KeyOrder.cmp g.met.K.KeyOrder.total g.met.K.KeyOrder.exact g.C.Cursor.lists g.C.Cursor.stands g.met.C.Cursor.rises g.met.C.Cursor.placed g.met.C.Cursor.inside entries c.args.sequence test at.0 c.search.cursor c.search.source
      c.key.result.now c.value.result.now c.key.ensures c.value.ensures c.search.has c.look_back.new.has c.search.found.key.items c.search.found.value.items c.look_back.new.found.key.items c.look_back.new.found.value.items at.1 (sym c.stands.ensures ∙ c.if-not-stands.false) at.2 looks c.prev.new.self c.prev.new.source (c.in_ok-prev.ensures.moves t);
  still = c.in_ok-prev.ensures.still ∙ c.search.invariant.still;
}

pub returns-then-not-stands-clause-found : goal.returns-then-not-stands-clause-found
returns-then-not-stands-clause-found g c = λ t entries index l h.
    let at = c.search.invariant.comes t entries index l h in
    ended_back g.K.KeyOrder.cmp g.met.K.KeyOrder.total g.met.K.KeyOrder.exact g.C.Cursor.lists g.C.Cursor.stands g.met.C.Cursor.rises g.met.C.Cursor.placed g.met.C.Cursor.inside entries c.args.sequence (below_bound g.K.KeyOrder.cmp (option_copied c.args.bound)) at.0 c.search.cursor c.search.source
    c.search.has c.search.found.key.items c.search.found.value.items at.1 (sym c.stands.ensures ∙ c.if-not-stands.true) at.2

pub returns-then-branch-clause-found : goal.returns-then-branch-clause-found
returns-then-branch-clause-found g c = λ t entries index l h.
    let at = c.search.invariant.comes t entries index l h in
    let test = below_bound g.K.KeyOrder.cmp (option_copied c.args.bound) in
    let looks = subst (λ (b : Bool). (k : Key) → IsKey c.key.result.now k → LooksBack k c.value.result.now c.args.sequence test c.search.has c.search.found.key.items c.search.found.value.items c.look_back.new.has c.look_back.new.found.key.items c.look_back.new.found.value.items b) c.if-branch.true c.in_ok-look_back.ensures.looks in
    found_back g.K.KeyOrder.cmp g.met.K.KeyOrder.total g.met.K.KeyOrder.exact g.C.Cursor.lists g.C.Cursor.stands g.met.C.Cursor.rises g.met.C.Cursor.placed g.met.C.Cursor.inside entries c.args.sequence test at.0 c.search.cursor c.search.source
    c.key.result.now c.value.result.now c.key.ensures c.value.ensures c.search.has c.look_back.new.has c.search.found.key.items c.search.found.value.items c.look_back.new.found.key.items c.look_back.new.found.value.items at.1 (sym c.stands.ensures ∙ c.if-not-stands.false) at.2 looks

pub returns-in_err-prev-clause-wanders : goal.returns-in_err-prev-clause-wanders
returns-in_err-prev-clause-wanders g c =
    wanders_then g.C.Cursor.facts g.C.Cursor.lists g.C.Cursor.keeps g.C.Cursor.limited g.C.Cursor.torn g.C.Cursor.leaves g.C.Cursor.over g.met.C.Cursor.onward g.C.Cursor.leaves_onward g.C.Cursor.leaves_more _ _ _ _ _ _ c.search.invariant.wanders
    (move_wanders g.C.Cursor.facts g.C.Cursor.lists g.C.Cursor.keeps g.C.Cursor.limited g.C.Cursor.torn g.C.Cursor.leaves g.C.Cursor.over c.search.cursor c.prev.new.self c.search.source c.prev.new.source c.prev.result _ c.prev.ensures.moves c.prev.ensures.stays)

pub returns-in_err-prev-clause-refused : goal.returns-in_err-prev-clause-refused
returns-in_err-prev-clause-refused g c =
    let p = err_from_is_err_and c.from_residual-in_err-prev.result c.from_residual-in_err-prev.ensures.1 in
    rw (p.1, p.2)
    (refused_then g.C.Cursor.facts g.C.Cursor.lists g.C.Cursor.keeps g.C.Cursor.limited g.C.Cursor.torn g.C.Cursor.leaves g.C.Cursor.over _ c.args.cursor.now c.search.cursor c.args.source.now c.search.source (g.C.Cursor.facts c.prev.new.source) c.search.invariant.wanders
    c.prev.ensures.stays.reads
    (refused_at g.C.Cursor.lists g.C.Cursor.torn prev_cut _ (g.C.Cursor.facts c.search.source) (g.C.Cursor.facts c.prev.new.source) c.search.cursor c.search.source (g.C.Cursor.limited c.search.cursor c.search.source) c.in_err-prev.ensures.refused))

pub returns-in_err-look_back-clause-refused : goal.returns-in_err-look_back-clause-refused
returns-in_err-look_back-clause-refused g c =
    let p = err_from_is_err_and c.from_residual.result c.from_residual.ensures.1 in
    rw (p.1, p.2)
    (refused_key g.K.KeyOrder.cmp g.met.K.KeyOrder.total g.met.K.KeyOrder.exact g.C.Cursor.lists g.C.Cursor.stands g.met.C.Cursor.rises g.met.C.Cursor.placed g.met.C.Cursor.inside _ g.C.Cursor.facts g.C.Cursor.keeps g.C.Cursor.limited g.C.Cursor.torn g.C.Cursor.leaves g.C.Cursor.over
    c.args.cursor.now c.search.cursor c.args.source.now c.search.source c.key.result.now (g.C.Cursor.limited c.args.cursor.now c.args.source.now) c.search.invariant.wanders (sym c.stands.ensures ∙ c.if-not-stands.false) c.key.ensures c.in_err-look_back.ensures.refused)

pub returns-in_err-prev-clause-still : goal.returns-in_err-prev-clause-still
returns-in_err-prev-clause-still g c =
    let p = err_from_is_err_and c.from_residual-in_err-prev.result c.from_residual-in_err-prev.ensures.1 in
    rw (p.1, p.2) (still_later _ (g.C.Cursor.facts c.args.source.now) (g.C.Cursor.facts c.search.source) (g.C.Cursor.facts c.prev.new.source) c.search.invariant.still c.in_err-prev.ensures.still)

pub returns-in_err-look_back-clause-still : goal.returns-in_err-look_back-clause-still
returns-in_err-look_back-clause-still g c =
    let p = err_from_is_err_and c.from_residual.result c.from_residual.ensures.1 in
    rw (p.1, p.2) (still_there _ (g.C.Cursor.facts c.args.source.now) (g.C.Cursor.facts c.search.source) c.search.invariant.still)
