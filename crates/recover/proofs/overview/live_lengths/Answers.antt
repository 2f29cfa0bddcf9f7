use Rattle.std.proofs.Common.{◌+◌, List, get_or, sym, subst, ◌∙◌, take, IsTrue}
use Rattle.std.specs.List.{filter}
use Rattle.std.proofs.lemmas.Result.{err_from_is_err_and}
use Rattle.recover.specs.declared.overview.LogLength.{LogLength}
use Rattle.recover.specs.internal.Parts.{HaveLengths, is_live}
use Rattle.recover.proofs.Lengths.{lengths_more, lengths_refused}
use Rattle.recover.proofs.Replayed.{read-again}
use Rattle.recover.proofs.Refused.{counted_later}
use Rattle.recover.proofs.overview.live_lengths.Goals as goal

pub returns-in_err-log_length-clause-refused : goal.returns-in_err-log_length-clause-refused
returns-in_err-log_length-clause-refused g c =
    let p = err_from_is_err_and c.from_residual.result c.from_residual.ensures.1 in
    let logs = c.args.logs.now in
    let i = c.loop-number.number-index in
    rw (p.1, p.2) (lengths_refused (g.S.Store.facts c.args.store.now) (g.S.Store.facts c.loop-number.store) (g.S.Store.facts c.log_length.new.store) (is_live c.args.layout.now) logs i (get_or logs i 0)
    c.in_err-log_length.field-0.0 c.loop-number.invariant.0 c.in_err-log_length.ensures.store c.loop-number-test.true (read-again logs i c.loop-number-test.true)
    (sym c.is_live.ensures ∙ c.if-not-is_live.false) c.in_err-log_length.ensures.refused)

pub returns-in_err-log_length-clause-counted : goal.returns-in_err-log_length-clause-counted
returns-in_err-log_length-clause-counted g c =
    let p = err_from_is_err_and c.from_residual.result c.from_residual.ensures.1 in
    rw (p.1, p.2) (counted_later c.in_err-log_length.field-0.0 (g.S.Store.facts c.args.store.now) (g.S.Store.facts c.loop-number.store) (g.S.Store.facts c.log_length.new.store) c.loop-number.invariant.1 c.in_err-log_length.ensures.counted)

pub loop-number-preserved : goal.loop-number-preserved
loop-number-preserved g c =
    let logs = c.args.logs.now in
    let i = c.loop-number.number-index in
    let a = g.S.Store.facts c.args.store.now in
    let d = g.S.Store.facts c.log_length.new.store in
    let more = lengths_more a (g.S.Store.facts c.loop-number.store) d (is_live c.args.layout.now) logs i (get_or logs i 0)
    c.loop-number.found.items c.in_ok-log_length.field-0 c.loop-number.invariant.0 c.in_ok-log_length.ensures.store c.loop-number-test.true (read-again logs i c.loop-number-test.true)
    (sym c.is_live.ensures ∙ c.if-not-is_live.false) c.loop-number.invariant.2 c.in_ok-log_length.ensures.found.0 c.in_ok-log_length.ensures.found.1 in
    let H : List LogLength → Type 0 = λ found. HaveLengths a.files (filter (is_live c.args.layout.now) (take (i + 1) logs)) found in
    (more.0, c.in_ok-log_length.ensures.counted ∙ c.loop-number.invariant.1, λ (t : IsTrue d.faithful). subst H (sym c.in_ok-push.ensures.items) (more.1 t))
