use Rattle.std.proofs.Common.{subst}
use Rattle.cursor.specs.declared.standing.Position.{Position}
use Rattle.cursor.specs.Walks.{IsPlacedWalk}
use Rattle.cursor.proofs.Strides.{here_pair}
use Rattle.cursor.proofs.visible.Visible.value.Goals as goal

pub returns-in-Here : goal.returns-in-Here
returns-in-Here g c = λ at index pair h e f.
    here_pair g.K.KeyOrder.cmp g.C.Cursor.lists c.args.self.now.cursor c.args.self.now.sequence c.args.self.now.stands c.args.self.now.here.key.items c.args.self.now.here.value.items c.value.result.now c.args.source.now h.0 at index pair c.value.ensures
    (subst (λ (p : Position). IsPlacedWalk g.K.KeyOrder.cmp g.C.Cursor.lists c.args.self.now.cursor c.args.self.now.sequence c.args.self.now.stands p c.args.self.now.here.key.items c.args.self.now.here.value.items c.args.source.now h.0 at) c.in-Here.is h.2)
    e f
