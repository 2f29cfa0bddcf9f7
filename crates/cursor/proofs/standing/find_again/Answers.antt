use Rattle.std.proofs.Common.{List, ℕ, sym, subst}
use Rattle.ikey.specs.Keys.{IsKey}
use Rattle.cursor.proofs.Wanderings.{wanders_still, move_wanders}
use Rattle.cursor.proofs.Standings.{sought_again}
use Rattle.std.proofs.Common.{arith}
use Rattle.std.proofs.lemmas.Result.{err_from_is_err_and}
use Rattle.ikey.specs.Keys.{Key}
use Rattle.cursor.specs.Cuts.{Below, TornAt, TornSomewhere, key_cut}
use Rattle.cursor.proofs.Turns.{refuses_later}
use Rattle.cursor.proofs.standing.find_again.Goals as goal

pub returns-in_err-key-clause-wanders : goal.returns-in_err-key-clause-wanders
returns-in_err-key-clause-wanders g c = wanders_still g.C.Cursor.facts g.C.Cursor.lists g.C.Cursor.keeps g.C.Cursor.limited g.C.Cursor.torn g.C.Cursor.leaves g.C.Cursor.over g.met.C.Cursor.still g.C.Cursor.leaves_still c.args.cursor.now c.args.source.now

pub returns-in_err-seek-clause-wanders : goal.returns-in_err-seek-clause-wanders
returns-in_err-seek-clause-wanders g c =
    let h = c.in_ok-key.ensures in
    move_wanders g.C.Cursor.facts g.C.Cursor.lists g.C.Cursor.keeps g.C.Cursor.limited g.C.Cursor.torn g.C.Cursor.leaves g.C.Cursor.over c.args.cursor.now c.seek.new.self c.args.source.now c.seek.new.source c.seek.result _
    (c.seek.ensures.moves h.key (subst (λ (b : List ℕ). IsKey b h.key) (sym c.deref.ensures.value) h.encoded)) c.seek.ensures.stays

pub returns-clause-wanders : goal.returns-clause-wanders
returns-clause-wanders g c =
    let h = c.in_ok-key.ensures in
    move_wanders g.C.Cursor.facts g.C.Cursor.lists g.C.Cursor.keeps g.C.Cursor.limited g.C.Cursor.torn g.C.Cursor.leaves g.C.Cursor.over c.args.cursor.now c.seek.new.self c.args.source.now c.seek.new.source c.seek.result _
    (c.seek.ensures.moves h.key (subst (λ (b : List ℕ). IsKey b h.key) (sym c.deref.ensures.value) h.encoded)) c.seek.ensures.stays

pub returns-clause-finds : goal.returns-clause-finds
returns-clause-finds g c = λ t entries entry index place v same e l.
    let h = c.in_ok-key.ensures in
    sought_again g.K.KeyOrder.cmp g.met.K.KeyOrder.total g.met.K.KeyOrder.exact g.C.Cursor.lists g.C.Cursor.stands g.met.C.Cursor.rises g.met.C.Cursor.placed c.args.cursor.now c.seek.new.self c.args.source.now c.seek.new.source entries
    c.args.sequence entry c.args.user.now same c.in_ok-key.key.items h index place v e
    (c.in_ok-seek.ensures.moves h.key (subst (λ (b : List ℕ). IsKey b h.key) (sym c.deref.ensures.value) h.encoded) t) l

pub returns-in_err-seek-clause-refused : goal.returns-in_err-seek-clause-refused
returns-in_err-seek-clause-refused g c =
    let p = err_from_is_err_and c.from_residual-in_err-seek.result c.from_residual-in_err-seek.ensures.1 in
    let f = c.in_ok-key.ensures in
    let facts = g.C.Cursor.facts in
    let cursor = c.args.cursor.now in
    let s = c.args.source.now in
    rw (p.1, p.2)
    (refuses_later _ (facts s) (facts s) (facts c.seek.new.source)
    ((key : Key) → IsKey c.deref.result.now key → TornAt g.C.Cursor.lists g.C.Cursor.torn (key_cut key) cursor s) (TornSomewhere g.C.Cursor.lists g.C.Cursor.torn cursor s)
    (g.C.Cursor.limited cursor s) (g.C.Cursor.limited cursor s) (omega arith)
    (λ t there at l. (Below f.key, there f.key (subst (λ (b : List ℕ). IsKey b f.key) (sym c.deref.ensures.value) f.encoded) at l))
    (λ f l. l) c.in_err-seek.ensures.refused)
