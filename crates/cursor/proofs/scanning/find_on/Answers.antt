use Rattle.std.proofs.Common.{Bool, true, refl, sym, ◌∙◌, subst}
use Rattle.std.proofs.lemmas.Result.{err_from_is_err_and}
use Rattle.ikey.specs.Keys.{Key, IsKey}
use Rattle.cursor.specs.Cuts.{next_cut}
use Rattle.cursor.specs.Searches.{AnswersOn, LooksOn, hides_now, hidden_now}
use Rattle.cursor.proofs.Wanderings.{wanders_still, wanders_then, move_wanders, refused_at, refused_then, refused_key, ended_on, found_on, passed_on}
use Rattle.cursor.proofs.Turns.{still_later, still_there}
use Rattle.cursor.proofs.scanning.find_on.Goals as goal

pub search-init : goal.search-init
search-init g c = record {
  wanders = wanders_still g.C.Cursor.facts g.C.Cursor.lists g.C.Cursor.keeps g.C.Cursor.limited g.C.Cursor.torn g.C.Cursor.leaves g.C.Cursor.over g.met.C.Cursor.still g.C.Cursor.leaves_still c.args.cursor.now c.args.source.now;
  comes = λ t entries test index l h. (index, l, h);
  still = refl;
}

pub search-preserved : goal.search-preserved
search-preserved g c = record {
  wanders = wanders_then g.C.Cursor.facts g.C.Cursor.lists g.C.Cursor.keeps g.C.Cursor.limited g.C.Cursor.torn g.C.Cursor.leaves g.C.Cursor.over g.met.C.Cursor.onward g.C.Cursor.leaves_onward g.C.Cursor.leaves_more _ _ _ _ _ _ c.search.invariant.wanders
      (move_wanders g.C.Cursor.facts g.C.Cursor.lists g.C.Cursor.keeps g.C.Cursor.limited g.C.Cursor.torn g.C.Cursor.leaves g.C.Cursor.over c.search.cursor c.next.new.self c.search.source c.next.new.source c.next.result _ c.next.ensures.moves c.next.ensures.stays);
  comes = λ t entries test index l h.
      let at = c.search.invariant.comes (c.next.ensures.stays.reads.faithful t) entries test index l h in
      let looks = subst (λ (b : Bool). (k : Key) → IsKey c.key-key.result.now k → LooksOn k c.args.sequence (hides_now c.search.holds c.args.hides) (hidden_now c.search.holds c.args.hidden.now c.search.found.items) (hides_now c.look_on.new.holds c.args.hides) (hidden_now c.look_on.new.holds c.args.hidden.now c.look_on.new.found.items) b) c.if-branch.false c.in_ok-look_on.ensures.looks in
      let p = passed_on g.K.KeyOrder.cmp g.met.K.KeyOrder.total g.met.K.KeyOrder.exact g.C.Cursor.lists g.C.Cursor.stands g.met.C.Cursor.rises g.met.C.Cursor.placed g.met.C.Cursor.inside entries c.args.sequence test at.0 c.search.cursor c.search.source
      c.key-key.result.now c.key-key.ensures (hides_now c.search.holds c.args.hides) (hides_now c.look_on.new.holds c.args.hides) (hidden_now c.search.holds c.args.hidden.now c.search.found.items) (hidden_now c.look_on.new.holds c.args.hidden.now c.look_on.new.found.items) at.1 (sym c.stands.ensures ∙ c.if-not-stands.false) at.2 looks c.next.new.self c.next.new.source (c.in_ok-next.ensures.moves t) in
      (_, p.0, p.1);
  still = c.in_ok-next.ensures.still ∙ c.search.invariant.still;
}

pub returns-then-not-stands-clause-found : goal.returns-then-not-stands-clause-found
returns-then-not-stands-clause-found g c = λ t entries test index l h.
    let at = c.search.invariant.comes t entries test index l h in
    ended_on g.K.KeyOrder.cmp g.met.K.KeyOrder.total g.met.K.KeyOrder.exact g.C.Cursor.lists g.C.Cursor.stands g.met.C.Cursor.rises g.met.C.Cursor.placed g.met.C.Cursor.inside entries c.args.sequence test at.0 c.search.cursor c.search.source
    (hides_now c.search.holds c.args.hides) (hidden_now c.search.holds c.args.hidden.now c.search.found.items) at.1 (sym c.stands.ensures ∙ c.if-not-stands.true) at.2

pub returns-then-branch-clause-found : goal.returns-then-branch-clause-found
returns-then-branch-clause-found g c = λ t entries test index l h.
    let at = c.search.invariant.comes t entries test index l h in
    let looks = subst (λ (b : Bool). (k : Key) → IsKey c.key-key.result.now k → LooksOn k c.args.sequence (hides_now c.search.holds c.args.hides) (hidden_now c.search.holds c.args.hidden.now c.search.found.items) (hides_now c.look_on.new.holds c.args.hides) (hidden_now c.look_on.new.holds c.args.hidden.now c.look_on.new.found.items) b) c.if-branch.true c.in_ok-look_on.ensures.looks in
    let held = c.in_ok-look_on.ensures.held c.if-branch.true in
    subst (λ (b : Bool). AnswersOn g.K.KeyOrder.cmp g.C.Cursor.lists c.search.cursor c.search.source entries c.args.sequence test (hidden_now b c.args.hidden.now c.look_on.new.found.items) true) held
    (found_on g.K.KeyOrder.cmp g.met.K.KeyOrder.total g.met.K.KeyOrder.exact g.C.Cursor.lists g.C.Cursor.stands g.met.C.Cursor.rises g.met.C.Cursor.placed g.met.C.Cursor.inside entries c.args.sequence test at.0 c.search.cursor c.search.source
    c.key-key.result.now c.key-key.ensures (hides_now c.search.holds c.args.hides) (hides_now c.look_on.new.holds c.args.hides) (hidden_now c.search.holds c.args.hidden.now c.search.found.items) (hidden_now c.look_on.new.holds c.args.hidden.now c.look_on.new.found.items) at.1 (sym c.stands.ensures ∙ c.if-not-stands.false) at.2 looks)

pub returns-in_err-next-clause-wanders : goal.returns-in_err-next-clause-wanders
returns-in_err-next-clause-wanders g c =
    wanders_then g.C.Cursor.facts g.C.Cursor.lists g.C.Cursor.keeps g.C.Cursor.limited g.C.Cursor.torn g.C.Cursor.leaves g.C.Cursor.over g.met.C.Cursor.onward g.C.Cursor.leaves_onward g.C.Cursor.leaves_more _ _ _ _ _ _ c.search.invariant.wanders
    (move_wanders g.C.Cursor.facts g.C.Cursor.lists g.C.Cursor.keeps g.C.Cursor.limited g.C.Cursor.torn g.C.Cursor.leaves g.C.Cursor.over c.search.cursor c.next.new.self c.search.source c.next.new.source c.next.result _ c.next.ensures.moves c.next.ensures.stays)

pub returns-in_err-next-clause-refused : goal.returns-in_err-next-clause-refused
returns-in_err-next-clause-refused g c =
    let p = err_from_is_err_and c.from_residual-in_err-next.result c.from_residual-in_err-next.ensures.1 in
    rw (p.1, p.2)
    (refused_then g.C.Cursor.facts g.C.Cursor.lists g.C.Cursor.keeps g.C.Cursor.limited g.C.Cursor.torn g.C.Cursor.leaves g.C.Cursor.over _ c.args.cursor.now c.search.cursor c.args.source.now c.search.source (g.C.Cursor.facts c.next.new.source) c.search.invariant.wanders
    c.next.ensures.stays.reads
    (refused_at g.C.Cursor.lists g.C.Cursor.torn next_cut _ (g.C.Cursor.facts c.search.source) (g.C.Cursor.facts c.next.new.source) c.search.cursor c.search.source (g.C.Cursor.limited c.search.cursor c.search.source) c.in_err-next.ensures.refused))

pub returns-in_err-look_on-clause-refused : goal.returns-in_err-look_on-clause-refused
returns-in_err-look_on-clause-refused g c =
    let p = err_from_is_err_and c.from_residual.result c.from_residual.ensures.1 in
    rw (p.1, p.2)
    (refused_key g.K.KeyOrder.cmp g.met.K.KeyOrder.total g.met.K.KeyOrder.exact g.C.Cursor.lists g.C.Cursor.stands g.met.C.Cursor.rises g.met.C.Cursor.placed g.met.C.Cursor.inside _ g.C.Cursor.facts g.C.Cursor.keeps g.C.Cursor.limited g.C.Cursor.torn g.C.Cursor.leaves g.C.Cursor.over
    c.args.cursor.now c.search.cursor c.args.source.now c.search.source c.key-key.result.now (g.C.Cursor.limited c.args.cursor.now c.args.source.now) c.search.invariant.wanders (sym c.stands.ensures ∙ c.if-not-stands.false) c.key-key.ensures c.in_err-look_on.ensures.refused)

pub returns-in_err-next-clause-still : goal.returns-in_err-next-clause-still
returns-in_err-next-clause-still g c =
    let p = err_from_is_err_and c.from_residual-in_err-next.result c.from_residual-in_err-next.ensures.1 in
    rw (p.1, p.2) (still_later _ (g.C.Cursor.facts c.args.source.now) (g.C.Cursor.facts c.search.source) (g.C.Cursor.facts c.next.new.source) c.search.invariant.still c.in_err-next.ensures.still)

pub returns-in_err-look_on-clause-still : goal.returns-in_err-look_on-clause-still
returns-in_err-look_on-clause-still g c =
    let p = err_from_is_err_and c.from_residual.result c.from_residual.ensures.1 in
    rw (p.1, p.2) (still_there _ (g.C.Cursor.facts c.args.source.now) (g.C.Cursor.facts c.search.source) c.search.invariant.still)
