use Rattle.std.proofs.Common.{[], ℕ, List, Bool, true, false, sym, subst}
use Rattle.std.specs.Io.Buffered.{reader_remaining}
use Rattle.batch.specs.declared.operation.Operation.{Operation}
use Rattle.ikey.specs.Orders.{order_of}
use Rattle.script.specs.Drive.{TakesLine}
use Rattle.script.specs.Importing.{HasBegun, TakesOperation}
use Rattle.script.proofs.Written.{on_err}
use Rattle.script.proofs.Imported.{stops, stops_still, ends_at_bad, room_ends, room_goes_on, line_waits, line_long, none_is_batch, ends_whole}
use Rattle.script.proofs.importing.take_lines.Goals as goal

pub loop-init : goal.loop-init
loop-init g c =
    let order = order_of g.K.KeyOrder.name g.K.KeyOrder.cmp in
    let facts = g.S.Store.facts in
    let remaining = reader_remaining g.R.Read.remaining in
    record {
      carries = λ old script h. subst (λ (waiting : List Operation). HasBegun order facts c.args.how.now old c.args.session.now script (remaining c.args.input.now) waiting c.args.taken.now) (sym c.in_ok-gathered.ensures) h;
      room = none_is_batch c.in_ok-gathered.gathered.operations.items c.args.how.now.batch c.in_ok-gathered.ensures;
    }

pub loop-preserved : goal.loop-preserved
loop-preserved g c =
    let order = order_of g.K.KeyOrder.name g.K.KeyOrder.cmp in
    let facts = g.S.Store.facts in
    let how = c.args.how.now in
    let remaining = reader_remaining g.R.Read.remaining in
    let line = c.read_next_line.new.line.items in
    let waiting = c.loop.gathered.operations.items in
    let still = c.make_room.new.gathered.operations.items in
    let more = c.take_line.new.gathered.operations.items in
    let takes = subst (λ (more : Bool). TakesLine (remaining c.loop.input) (remaining c.read_next_line.new.input) more line) c.if-not-branch.false c.in_ok-read_next_line.ensures in
    let said = subst (λ (says : Bool). TakesOperation c.as_slice.result.now still more says) c.if-not-branch-2.false c.in_ok-take_line.ensures in
    let says = subst (λ (l : List ℕ). TakesOperation l still more true) c.as_slice.ensures.value said in
    record {
      carries = λ old script h. line_waits order facts how old c.make_room.new.session script (remaining c.loop.input) (remaining c.read_next_line.new.input) still more c.make_room.new.taken line
          (room_goes_on order facts how old c.loop.session c.make_room.new.session script (remaining c.loop.input) waiting still c.loop.taken c.make_room.new.taken c.in_ok-made.made
          (c.loop.invariant.carries old script h).0 c.in_ok-made.ensures.ok c.if-is_refusal.ensures) takes says;
      room = line_long line still more how.batch says c.in_ok-made.ensures.room;
    }

pub returns-then-is_refusal-clause-ended : goal.returns-then-is_refusal-clause-ended
returns-then-is_refusal-clause-ended g c =
    let remaining = reader_remaining g.R.Read.remaining in
    λ old script h. room_ends (order_of g.K.KeyOrder.name g.K.KeyOrder.cmp) g.S.Store.facts c.args.how.now old c.loop.session c.make_room.new.session script (remaining c.loop.input) c.loop.gathered.operations.items
    c.make_room.new.gathered.operations.items c.loop.taken c.make_room.new.taken c.in_ok-made.made (c.loop.invariant.carries old script h).0 c.in_ok-made.ensures.ok c.if-is_refusal.ensures

pub returns-then-not-branch-2-clause-ended : goal.returns-then-not-branch-2-clause-ended
returns-then-not-branch-2-clause-ended g c =
    let order = order_of g.K.KeyOrder.name g.K.KeyOrder.cmp in
    let facts = g.S.Store.facts in
    let how = c.args.how.now in
    let remaining = reader_remaining g.R.Read.remaining in
    let line = c.read_next_line.new.line.items in
    let waiting = c.loop.gathered.operations.items in
    let still = c.make_room.new.gathered.operations.items in
    let more = c.take_line.new.gathered.operations.items in
    let takes = subst (λ (more : Bool). TakesLine (remaining c.loop.input) (remaining c.read_next_line.new.input) more line) c.if-not-branch.false c.in_ok-read_next_line.ensures in
    let said = subst (λ (says : Bool). TakesOperation c.as_slice.result.now still more says) c.if-not-branch-2.true c.in_ok-take_line.ensures in
    let none = subst (λ (l : List ℕ). TakesOperation l still more false) c.as_slice.ensures.value said in
    λ old script h. ends_at_bad order facts how old c.make_room.new.session script (remaining c.loop.input) (remaining c.read_next_line.new.input) still c.make_room.new.taken line
    (room_goes_on order facts how old c.loop.session c.make_room.new.session script (remaining c.loop.input) waiting still c.loop.taken c.make_room.new.taken c.in_ok-made.made
    (c.loop.invariant.carries old script h).0 c.in_ok-made.ensures.ok c.if-is_refusal.ensures) takes none

pub returns-then-not-branch-clause-ended : goal.returns-then-not-branch-clause-ended
returns-then-not-branch-clause-ended g c =
    let remaining = reader_remaining g.R.Read.remaining in
    let line = c.read_next_line.new.line.items in
    let none = subst (λ (more : Bool). TakesLine (remaining c.loop.input) (remaining c.read_next_line.new.input) more line) c.if-not-branch.true c.in_ok-read_next_line.ensures in
    λ old script h. ends_whole (order_of g.K.KeyOrder.name g.K.KeyOrder.cmp) g.S.Store.facts c.args.how.now old c.loop.session c.write_gathered.new.session script (remaining c.loop.input) (remaining c.read_next_line.new.input)
    c.loop.gathered.operations.items c.loop.taken c.write_gathered.new.taken c.in_ok-last.last line (c.loop.invariant.carries old script h) none c.in_ok-last.ensures.ok

pub returns-in_err-gathered-clause-stopped : goal.returns-in_err-gathered-clause-stopped
returns-in_err-gathered-clause-stopped g c =
    on_err c.from_residual.result _
    (λ old script h. stops (order_of g.K.KeyOrder.name g.K.KeyOrder.cmp) g.S.Store.facts c.args.how.now old c.args.session.now script (reader_remaining g.R.Read.remaining c.args.input.now) [] c.args.taken.now h.0)

pub returns-in_err-read_next_line-clause-stopped : goal.returns-in_err-read_next_line-clause-stopped
returns-in_err-read_next_line-clause-stopped g c =
    on_err c.from_residual-in_err-read_next_line.result _
    (λ old script h. stops (order_of g.K.KeyOrder.name g.K.KeyOrder.cmp) g.S.Store.facts c.args.how.now old c.loop.session script (reader_remaining g.R.Read.remaining c.loop.input) c.loop.gathered.operations.items c.loop.taken
    (c.loop.invariant.carries old script h).0)

pub returns-in_err-last-clause-stopped : goal.returns-in_err-last-clause-stopped
returns-in_err-last-clause-stopped g c =
    on_err c.from_residual-in_err-last.result _
    (λ old script h. stops_still (order_of g.K.KeyOrder.name g.K.KeyOrder.cmp) g.S.Store.facts c.args.how.now old c.loop.session c.write_gathered.new.session script (reader_remaining g.R.Read.remaining c.loop.input) c.loop.gathered.operations.items c.loop.taken
    (c.loop.invariant.carries old script h).0 c.in_err-last.ensures.err)

pub returns-in_err-made-clause-stopped : goal.returns-in_err-made-clause-stopped
returns-in_err-made-clause-stopped g c =
    on_err c.from_residual-in_err-made.result _
    (λ old script h. stops_still (order_of g.K.KeyOrder.name g.K.KeyOrder.cmp) g.S.Store.facts c.args.how.now old c.loop.session c.make_room.new.session script (reader_remaining g.R.Read.remaining c.loop.input) c.loop.gathered.operations.items c.loop.taken
    (c.loop.invariant.carries old script h).0 c.in_err-made.ensures.err)

pub returns-in_err-take_line-clause-stopped : goal.returns-in_err-take_line-clause-stopped
returns-in_err-take_line-clause-stopped g c =
    let order = order_of g.K.KeyOrder.name g.K.KeyOrder.cmp in
    let left = reader_remaining g.R.Read.remaining c.loop.input in
    let still = c.make_room.new.gathered.operations.items in
    on_err c.from_residual-in_err-take_line.result _
    (λ old script h. stops order g.S.Store.facts c.args.how.now old c.make_room.new.session script left still c.make_room.new.taken
    (room_goes_on order g.S.Store.facts c.args.how.now old c.loop.session c.make_room.new.session script left c.loop.gathered.operations.items still c.loop.taken c.make_room.new.taken c.in_ok-made.made
    (c.loop.invariant.carries old script h).0 c.in_ok-made.ensures.ok c.if-is_refusal.ensures))

pub returns-clause-stopped : goal.returns-clause-stopped
returns-clause-stopped g c =
    λ old script h. stops (order_of g.K.KeyOrder.name g.K.KeyOrder.cmp) g.S.Store.facts c.args.how.now old c.loop.session script (reader_remaining g.R.Read.remaining c.loop.input) c.loop.gathered.operations.items c.loop.taken
    (c.loop.invariant.carries old script h).0
