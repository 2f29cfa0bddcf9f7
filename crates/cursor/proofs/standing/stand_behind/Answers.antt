use Rattle.cursor.proofs.Wanderings.{wanders_still}
use Rattle.cursor.proofs.Befores.{get_among}
use Rattle.cursor.proofs.Standings.{here_behind, behind_there}
use Rattle.cursor.proofs.standing.stand_behind.Goals as goal

pub returns-in-Here-clause-wanders : goal.returns-in-Here-clause-wanders
returns-in-Here-clause-wanders g c = wanders_still g.C.Cursor.facts g.C.Cursor.lists g.C.Cursor.keeps g.C.Cursor.limited g.C.Cursor.torn g.C.Cursor.leaves g.C.Cursor.over g.met.C.Cursor.still g.C.Cursor.leaves_still c.args.cursor.now c.args.source.now

pub returns-in-Behind-clause-wanders : goal.returns-in-Behind-clause-wanders
returns-in-Behind-clause-wanders g c = wanders_still g.C.Cursor.facts g.C.Cursor.lists g.C.Cursor.keeps g.C.Cursor.limited g.C.Cursor.torn g.C.Cursor.leaves g.C.Cursor.over g.met.C.Cursor.still g.C.Cursor.leaves_still c.args.cursor.now c.args.source.now

pub returns-in-Here-clause-stands : goal.returns-in-Here-clause-stands
returns-in-Here-clause-stands g c = λ t entries entry value v same h.
    let here = rw c.in-Here.is at h in
    here_behind g.K.KeyOrder.cmp g.met.K.KeyOrder.total g.met.K.KeyOrder.exact g.C.Cursor.lists g.C.Cursor.stands g.met.C.Cursor.rises g.met.C.Cursor.placed c.args.cursor.now c.args.cursor.now c.args.source.now c.args.source.now entries c.args.sequence entry c.args.user.now same here.0 here.1 here.2

pub returns-in-Behind-clause-stands : goal.returns-in-Behind-clause-stands
returns-in-Behind-clause-stands g c = λ t entries entry value v same h.
    let here = rw c.in-Behind.is at h in
    behind_there g.K.KeyOrder.cmp g.met.K.KeyOrder.total g.met.K.KeyOrder.exact g.C.Cursor.lists g.C.Cursor.stands g.met.C.Cursor.rises g.met.C.Cursor.placed c.args.cursor.now c.args.cursor.now c.args.source.now c.args.source.now entries c.args.sequence entry c.args.user.now same here.0

pub returns-in_ok-find_again-in-Astray-clause-stands : goal.returns-in_ok-find_again-in-Astray-clause-stands
returns-in_ok-find_again-in-Astray-clause-stands g c = λ t entries entry value v same h.
    let here = rw c.in-Astray.is at h in
    let at = get_among entries entry v.0.member in
    here_behind g.K.KeyOrder.cmp g.met.K.KeyOrder.total g.met.K.KeyOrder.exact g.C.Cursor.lists g.C.Cursor.stands g.met.C.Cursor.rises g.met.C.Cursor.placed c.find_again.new.cursor c.find_again.new.cursor c.find_again.new.source c.find_again.new.source entries c.args.sequence entry c.args.user.now same _
    (c.in_ok-find_again-in-Astray.ensures.finds t entries entry at.0 here.0 v same at.1 here.1) at.1
