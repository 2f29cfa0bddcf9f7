use Rattle.std.proofs.Common.{◌≡◌, ◌+◌, ◌-◌, ◌<◌, ◌∙◌, ℕ, List, Some, length, drop, subst, sym, ap, arith}
use Rattle.std.proofs.lemmas.List.{length-drop, length-take, drop-drop, take_rest}
use Rattle.std.proofs.Math.ListN.{drop_of_length-le}
use Rattle.texts.specs.Texts.{front_of}
use Rattle.texts.proofs.Spelled.{LeadsOn, leads_on_end, leads_on_more, leads_nowhere}
use Rattle.texts.proofs.reading.read_text.Goals as goal

pub returns-in_default-clause-none : goal.returns-in_default-clause-none
returns-in_default-clause-none c =
    let text = c.args.text.now in
    let at = c.loop-at.at in
    let some : 0 < length (drop at text) = omega (arith, length-drop at text, c.loop-at-test.true) in
    leads_nowhere text (drop at text) c.loop-at.bytes.items c.loop-at.invariant.leads some
    (ap front_of (sym (take_rest text at)) ∙ c.in_default.ensures.none)

pub loop-at-preserved : goal.loop-at-preserved
loop-at-preserved c =
    let text = c.args.text.now in
    let at = c.loop-at.at in
    let byte = c.in-Some.byte in
    let used = c.in-Some.used in
    let bounds = c.in-Some.ensures.used in
    let here = ap front_of (sym (take_rest text at)) ∙ c.in-Some.ensures.found in
    let behind = subst (λ (w : List ℕ). front_of (drop at text) ≡ Some (byte, drop used w)) (take_rest text at) here in
    record {
      within = omega (arith, bounds.1, length-drop at text, length-take (length text - at) (drop at text), c.loop-at-test.true);
      leads = subst (LeadsOn text (drop (at + used) text)) (sym c.in_ok-push.ensures.items)
          (leads_on_more text (drop at text) (drop (at + used) text) c.loop-at.bytes.items byte c.loop-at.invariant.leads
          (subst (λ (w : List ℕ). front_of (drop at text) ≡ Some (byte, w)) (drop-drop used at text) behind));
    }

pub returns-clause-found : goal.returns-clause-found
returns-clause-found c =
    let text = c.args.text.now in
    leads_on_end text (drop c.loop-at.at text) c.loop-at.bytes.items c.loop-at.invariant.leads (drop_of_length-le text (omega (arith, c.loop-at-test.false)))
