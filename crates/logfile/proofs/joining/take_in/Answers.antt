use Rattle.std.proofs.Common.{ℕ, [], ◌∷◌, ◌++◌, ap, ◌∙◌}
use Rattle.std.specs.Global.{Vec}
use Rattle.logfile.proofs.Joins.{took_full, took_last, pushed}
use Rattle.logfile.proofs.joining.take_in.Goals as goal

pub returns-in_ok-push-in-Full-clause-found : goal.returns-in_ok-push-in-Full-clause-found
returns-in_ok-push-in-Full-clause-found c =
    let f = c.args.fragment.now in
    let d = f.«data».now in (
      d ∷ [],
      took_full c.args.inside c.args.unfinished.now.items _ d f.kind c.if-not-inside.true c.in-Full.is,
      pushed c.args.records.now.items c.push.new.self.items c.in_ok-from_slice-in-Full.field-0 d c.in_ok-push-in-Full.ensures.items c.in_ok-from_slice-in-Full.ensures.items,
    )

pub returns-in_ok-push-in-Last-clause-found : goal.returns-in_ok-push-in-Last-clause-found
returns-in_ok-push-in-Last-clause-found c =
    let f = c.args.fragment.now in
    let d = f.«data».now in
    let front = c.args.unfinished.now.items in (
      (front ++ d) ∷ [],
      took_last c.args.inside front _ d f.kind c.if-inside-2.true c.in-Last.is,
      pushed c.args.records.now.items c.push-in-Last.new.self.items c.replace.result (front ++ d) c.in_ok-push-in-Last.ensures.items
          (ap (λ (v : Vec ℕ). v.items) c.replace.ensures.value ∙ c.in_ok-extend_from_slice-in-Last.ensures.items),
    )
