use Rattle.std.proofs.Common.{rules, ◌≡◌, map, string_bytes, arith}
use Rattle.logfile.specs.declared.record.Tail.TheVariants.{Clean}
use Rattle.opening.proofs.Fronts.{all_named, names_more}
use Rattle.opening.proofs.rewriting.logs_in_front.Goals as goal

pub loop-log-preserved : goal.loop-log-preserved
loop-log-preserved c =
    let logs = c.args.found.now.logs.items in
    let read : c.deref-log-items.result.now ≡ logs = search rules in
    names_more logs c.loop-log.log-index (map string_bytes c.loop-log.names.items) (map string_bytes c.push_name.new.names.items) (record { number = 0; batches = 0; tail = Clean })
    (rw read at c.loop-log-test.true) (rw read at c.in_ok-push_name.ensures) c.loop-log.invariant

pub returns : goal.returns
returns c =
    let logs = c.args.found.now.logs.items in
    let read : c.deref-log-items.result.now ≡ logs = search rules in
    record {
      none = λ none. absurd (let some = c.if-is_empty.ensures in grind (arith, none));
      all = λ some. all_named logs c.loop-log.log-index (map string_bytes c.loop-log.names.items) (rw read at c.loop-log-test.false) c.loop-log.invariant;
    }
