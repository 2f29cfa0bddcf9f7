use Rattle.std.proofs.Common.{List, ℕ, [], subst}
use Rattle.std.specs.Prelude.{Option}
use Rattle.ikey.specs.Orders.{order_of}
use Rattle.script.specs.Ways.{EndsIn, StoppedIn}
use Rattle.script.proofs.Written.{no_more, fresh_reader, on_err}
use Rattle.script.proofs.Ways.{progress_none, script_stops_well}
use Rattle.script.proofs.run.drive_in.Goals as goal

pub returns-in-Err-clause-stopped : goal.returns-in-Err-clause-stopped
returns-in-Err-clause-stopped g c =
    let order = order_of g.K.KeyOrder.name g.K.KeyOrder.cmp in
    let script = g.R.Read.remaining c.args.reader in
    let written = g.W.Write.contents c.args.writer.now in
    script_stops_well c.args.way order g.S.Store.facts c.args.session.now c.args.session.now script script written written written [] (progress_none c.args.way order g.S.Store.facts c.args.session.now script written) (no_more written [])

pub returns-clause-finished : goal.returns-clause-finished
returns-clause-finished g c = record {
  between = c.answer_lines.new.session;
  ended = subst (λ (script : Option (List ℕ)). EndsIn c.args.way c.in_ok-ended.ended (order_of g.K.KeyOrder.name g.K.KeyOrder.cmp) g.S.Store.facts c.args.session.now c.answer_lines.new.session script (g.W.Write.contents c.args.writer.now) (g.W.Write.contents c.answer_lines.new.writer))
      (fresh_reader g.R.Read.remaining c.in-Ok.input c.args.reader c.in-Ok.ensures.inner c.in-Ok.ensures.empty c.in-Ok.ensures.capacity) c.in_ok-ended.ensures.finished;
  closing = c.apply.result;
  closed = record {
    step = c.apply.ensures.step;
    outcome = c.apply.ensures.outcome;
    succeeds = c.apply.ensures.succeeds;
    caused = c.apply.ensures.caused;
    touches = c.apply.ensures.touches;
    tells = c.apply.ensures.tells;
    shown = c.apply.ensures.shown;
    leaves = c.apply.ensures.leaves;
    lets_go = c.apply.ensures.lets_go;
    stops = c.apply.ensures.stops;
    loses = c.apply.ensures.loses;
    found = c.apply.ensures.found;
    loses_on = c.apply.ensures.loses_on;
    kept = c.apply.ensures.kept;
    fresh = c.apply.ensures.fresh;
    sound = c.apply.ensures.sound;
    works = c.apply.ensures.works;
    needed = c.apply.ensures.needed;
    shut = c.apply.ensures.shut;
    options = c.apply.ensures.options;
  };
}

pub returns-in_err-ended-clause-stopped : goal.returns-in_err-ended-clause-stopped
returns-in_err-ended-clause-stopped g c =
    on_err c.from_residual.result _
    (subst (λ (script : Option (List ℕ)). StoppedIn c.args.way (order_of g.K.KeyOrder.name g.K.KeyOrder.cmp) g.S.Store.facts c.args.session.now c.answer_lines.new.session script (g.W.Write.contents c.args.writer.now) (g.W.Write.contents c.answer_lines.new.writer))
    (fresh_reader g.R.Read.remaining c.in-Ok.input c.args.reader c.in-Ok.ensures.inner c.in-Ok.ensures.empty c.in-Ok.ensures.capacity) c.in_err-ended.ensures.stopped)
