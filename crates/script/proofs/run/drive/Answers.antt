use Rattle.std.proofs.Common.{refl}
use Rattle.ikey.specs.Orders.{order_of}
use Rattle.script.proofs.Written.{on_err}
use Rattle.script.proofs.Brought.{finished_alone, stopped_alone}
use Rattle.script.proofs.run.drive.Goals as goal

pub returns-clause-finished : goal.returns-clause-finished
returns-clause-finished g c =
    finished_alone (order_of g.K.KeyOrder.name g.K.KeyOrder.cmp) g.S.Store.facts c.args.session.now c.drive_in.new.session (g.R.Read.remaining c.args.reader) (g.W.Write.contents c.args.writer.now) (g.W.Write.contents c.drive_in.new.writer)
    c.in_ok-drive_in.ensures.finished (c.in_ok-drive_in.ensures.whole refl) refl

pub returns-in_err-drive_in-clause-stopped : goal.returns-in_err-drive_in-clause-stopped
returns-in_err-drive_in-clause-stopped g c =
    on_err c.from_residual.result _
    (stopped_alone (order_of g.K.KeyOrder.name g.K.KeyOrder.cmp) g.S.Store.facts c.args.session.now c.drive_in.new.session (g.R.Read.remaining c.args.reader) (g.W.Write.contents c.args.writer.now) (g.W.Write.contents c.drive_in.new.writer)
    c.in_err-drive_in.ensures.stopped refl)
