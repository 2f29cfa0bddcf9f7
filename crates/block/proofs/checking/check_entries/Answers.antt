use Rattle.std.proofs.Common.{rules, ◌≡◌, ◌+◌, ◌-◌, ◌<◌, ◌≤◌, ◌++◌, List, ℕ, [], length, refl, sym, ap, subst, ◌∙◌, arith}
use Rattle.std.proofs.lemmas.Bool.{eqb-true}
use Rattle.std.proofs.lemmas.List.{length-append, nil_from_length}
use Rattle.coding.specs.Fixed.{fixed32}
use Rattle.std.proofs.Common.{append_assoc}
use Rattle.block.proofs.checking.check_entries.Goals.{else-offset-gt0-via-then-offset-gt0+else-not-rises, else-offset-gt0-via-else-offset-gt0}
use Rattle.block.proofs.Rests.{RestOf, RestEnds, some_left, no_entry, shares_too_much, does_not_rise, on_taken, on_skipped, shares_at_restart, back_taken, back_skipped, rest_of_body, body_of_rest, rest_at_end, none_at_end}
use Rattle.block.proofs.checking.check_entries.Goals as goal

pub returns-in_default-entry_at-clause-refused : goal.returns-in_default-entry_at-clause-refused
returns-in_default-entry_at-clause-refused g c pairs list w h a =
    let below = g.O.EntryOrder.below in
    let some = some_left c.args.body.now (sym c.if-is_empty.ensures) in
    no_entry below (length c.loop-rest.invariant.front) c.loop-rest.key.items c.loop-rest.waiting.now c.loop-rest.rest.now (some_left c.loop-rest.rest.now (sym c.loop-rest-test.ensures)) c.in_default-entry_at.ensures.none
    (c.loop-rest.invariant.onward (rest_of_body below c.args.restarts.now c.args.body.now pairs list some w h a))

pub returns-then-entry-len-clause-refused : goal.returns-then-entry-len-clause-refused
returns-then-entry-len-clause-refused g c pairs list w h a =
    let below = g.O.EntryOrder.below in
    let some = some_left c.args.body.now (sym c.if-is_empty.ensures) in
    let e = c.in-Some.ensures.found in
    shares_too_much below (length c.loop-rest.invariant.front) c.loop-rest.key.items c.loop-rest.waiting.now c.loop-rest.rest.now c.in-Some.entry.shared c.in-Some.entry.rest.now c.in-Some.entry.value.now e.0 c.in-Some.behind.now e.1 e.2
    (omega (arith, c.if-entry-len.true, c.len.ensures))
    (c.loop-rest.invariant.onward (rest_of_body below c.args.restarts.now c.args.body.now pairs list some w h a))

pub returns-then-not-rises-clause-refused : goal.returns-then-not-rises-clause-refused
returns-then-not-rises-clause-refused g c pairs list w h a =
    let below = g.O.EntryOrder.below in
    let some = some_left c.args.body.now (sym c.if-is_empty.ensures) in
    let e = c.in-Some.ensures.found in
    let front_is : length c.args.body.now ≡ length c.loop-rest.invariant.front + length c.loop-rest.rest.now = ap length c.loop-rest.invariant.parts ∙ length-append c.loop-rest.invariant.front c.loop-rest.rest.now in
    does_not_rise below (length c.loop-rest.invariant.front) c.loop-rest.key.items c.loop-rest.waiting.now c.loop-rest.rest.now c.in-Some.entry.shared c.in-Some.entry.rest.now c.in-Some.entry.value.now e.0 c.in-Some.behind.now c.next_key.new.key.items e.1 e.2
    c.in_ok-rises.ensures.key (omega (arith, c.if-offset-gt0.true, front_is)) (rw c.if-not-rises.true at c.in_ok-rises.ensures.rises)
    (c.loop-rest.invariant.onward (rest_of_body below c.args.restarts.now c.args.body.now pairs list some w h a))

pub returns-then-entry-gt0-clause-refused : goal.returns-then-entry-gt0-clause-refused
returns-then-entry-gt0-clause-refused g c pairs list w h a =
    let below = g.O.EntryOrder.below in
    let some = some_left c.args.body.now (sym c.if-is_empty.ensures) in
    let e = c.in-Some.ensures.found in
    let front = c.loop-rest.invariant.front in
    let rest = c.loop-rest.rest.now in
    let front_is : length c.args.body.now ≡ length front + length rest = ap length c.loop-rest.invariant.parts ∙ length-append front rest in
    let at : length c.args.body.now - length rest ≡ length front = omega (arith, front_is) in
    let later = c.in-Some-behind_restart.later.now in
    shares_at_restart below (length front) c.loop-rest.key.items c.loop-rest.waiting.now rest c.in-Some.entry.shared c.in-Some.entry.rest.now c.in-Some.entry.value.now e.0 c.in-Some.behind.now later e.1 e.2
    (omega (arith, c.requires, front_is)) (subst (λ (n : ℕ). c.loop-rest.waiting.now ≡ fixed32 n ++ later) at c.in-Some-behind_restart.ensures.found) c.if-entry-gt0.true
    (c.loop-rest.invariant.onward (rest_of_body below c.args.restarts.now c.args.body.now pairs list some w h a))

pub loop-rest-preserved-else-entry-gt0 : goal.loop-rest-preserved-else-entry-gt0
loop-rest-preserved-else-entry-gt0 g c =
    let below = g.O.EntryOrder.below in
    let e = c.in-Some.ensures.found in
    let front = c.loop-rest.invariant.front in
    let rest = c.loop-rest.rest.now in
    let previous = c.loop-rest.key.items in
    let waiting = c.loop-rest.waiting.now in
    let behind = c.in-Some.behind.now in
    let s = c.in-Some.entry.shared in
    let r = c.in-Some.entry.rest.now in
    let v = c.in-Some.entry.value.now in
    let key = c.next_key.new.key.items in
    let key_is = c.in_ok-rises.ensures.key in
    let front_is : length c.args.body.now ≡ length front + length rest = ap length c.loop-rest.invariant.parts ∙ length-append front rest in
    let at : length c.args.body.now - length rest ≡ length front = omega (arith, front_is) in
    let long = length-append front e.0 in
    let le : s ≤ length previous = omega (arith, c.if-entry-len.false, c.len.ensures) in
    let up : 0 < length front → below previous key = elim c.else-offset-gt0.branch [
      | else-offset-gt0-via-then-offset-gt0+else-not-rises w ↦ λ some. rw w.if-not-rises.false at c.in_ok-rises.ensures.rises
      | else-offset-gt0-via-else-offset-gt0 w ↦ λ some. absurd (omega (arith, w.if-offset-gt0.false, some, front_is))
    ] in
    let later = c.in-Some-behind_restart.later.now in
    let here = subst (λ (n : ℕ). waiting ≡ fixed32 n ++ later) at c.in-Some-behind_restart.ensures.found in
    record {
      front = front ++ e.0;
      parts = c.loop-rest.invariant.parts ∙ ap (λ (z : List ℕ). front ++ z) e.2 ∙ sym (append_assoc front e.0 behind);
      back = λ last h. c.loop-rest.invariant.back last (back_taken below (length front) previous waiting rest s r v e.0 behind key later e.1 e.2 le key_is up (omega (arith, c.if-entry-gt0.false)) here last
          (subst (λ (n : ℕ). RestEnds below n key later behind last) long h));
      onward = λ h. subst (λ (n : ℕ). RestOf below n key later behind) (sym long) (on_taken below (length front) previous waiting rest s r v e.0 behind key later e.1 e.2 key_is (omega (arith, c.requires, front_is)) here (c.loop-rest.invariant.onward h));
    }

pub loop-rest-preserved : goal.loop-rest-preserved
loop-rest-preserved g c =
    let below = g.O.EntryOrder.below in
    let e = c.in-Some.ensures.found in
    let front = c.loop-rest.invariant.front in
    let rest = c.loop-rest.rest.now in
    let previous = c.loop-rest.key.items in
    let waiting = c.loop-rest.waiting.now in
    let behind = c.in-Some.behind.now in
    let s = c.in-Some.entry.shared in
    let r = c.in-Some.entry.rest.now in
    let v = c.in-Some.entry.value.now in
    let key = c.next_key.new.key.items in
    let key_is = c.in_ok-rises.ensures.key in
    let front_is : length c.args.body.now ≡ length front + length rest = ap length c.loop-rest.invariant.parts ∙ length-append front rest in
    let at : length c.args.body.now - length rest ≡ length front = omega (arith, front_is) in
    let long = length-append front e.0 in
    let le : s ≤ length previous = omega (arith, c.if-entry-len.false, c.len.ensures) in
    let up : 0 < length front → below previous key = elim c.else-offset-gt0.branch [
      | else-offset-gt0-via-then-offset-gt0+else-not-rises w ↦ λ some. rw w.if-not-rises.false at c.in_ok-rises.ensures.rises
      | else-offset-gt0-via-else-offset-gt0 w ↦ λ some. absurd (omega (arith, w.if-offset-gt0.false, some, front_is))
    ] in
    let none = subst (λ (n : ℕ). (later : List ℕ) → waiting ≡ fixed32 n ++ later → ⊥) at c.in_default-behind_restart.ensures.none in
    record {
      front = front ++ e.0;
      parts = c.loop-rest.invariant.parts ∙ ap (λ (z : List ℕ). front ++ z) e.2 ∙ sym (append_assoc front e.0 behind);
      back = λ last h. c.loop-rest.invariant.back last (back_skipped below (length front) previous waiting rest s r v e.0 behind key e.1 e.2 le key_is up last
          (subst (λ (n : ℕ). RestEnds below n key waiting behind last) long h));
      onward = λ h. subst (λ (n : ℕ). RestOf below n key waiting behind) (sym long) (on_skipped below (length front) previous waiting rest s r v e.0 behind key e.1 e.2 key_is none (c.loop-rest.invariant.onward h));
    }

pub returns-then-not-is_empty-clause-refused : goal.returns-then-not-is_empty-clause-refused
returns-then-not-is_empty-clause-refused g c pairs list w h a =
    let below = g.O.EntryOrder.below in
    let some = some_left c.args.body.now (sym c.if-is_empty.ensures) in
    let ended : c.loop-rest.rest.now ≡ [] = nil_from_length c.loop-rest.rest.now (eqb-true _ _ (sym c.loop-rest-test.ensures)) in
    none_at_end below (length c.loop-rest.invariant.front) c.loop-rest.key.items c.loop-rest.waiting.now (some_left c.loop-rest.waiting.now (sym c.if-not-is_empty.ensures))
    (subst (λ (v : List ℕ). RestOf below (length c.loop-rest.invariant.front) c.loop-rest.key.items c.loop-rest.waiting.now v) ended
    (c.loop-rest.invariant.onward (rest_of_body below c.args.restarts.now c.args.body.now pairs list some w h a)))

pub returns-in-Some-behind_restart-2-clause-found : goal.returns-in-Some-behind_restart-2-clause-found
returns-in-Some-behind_restart-2-clause-found g c =
    let below = g.O.EntryOrder.below in
    let some = some_left c.args.body.now (sym c.if-is_empty.ensures) in
    let ended : c.loop-rest.rest.now ≡ [] = nil_from_length c.loop-rest.rest.now (eqb-true _ _ (sym c.loop-rest-test.ensures)) in
    let taken : c.loop-rest.waiting.now ≡ [] = nil_from_length c.loop-rest.waiting.now (eqb-true _ _ (sym c.if-not-is_empty.ensures)) in
    let front = c.loop-rest.invariant.front in
    let previous = c.loop-rest.key.items in
    body_of_rest below c.args.restarts.now c.args.body.now c.in-Some-behind_restart-2.field-0.now previous some c.requires c.in-Some-behind_restart-2.ensures.found
    (c.loop-rest.invariant.back previous (subst (λ (v : List ℕ). RestEnds below (length front) previous c.loop-rest.waiting.now v previous) (sym ended) (subst (λ (v : List ℕ). RestEnds below (length front) previous v [] previous) (sym taken) (rest_at_end below (length front) previous))))

pub loop-rest-init : goal.loop-rest-init
loop-rest-init g c =
    let below = g.O.EntryOrder.below in
    let none : c.new-key.result.items ≡ [] = search rules in
    record {
      front = [];
      parts = refl;
      back = λ last h. subst (λ (k : List ℕ). RestEnds below 0 k c.args.restarts.now c.args.body.now last) none h;
      onward = λ h. subst (λ (k : List ℕ). RestOf below 0 k c.args.restarts.now c.args.body.now) (sym none) h;
    }
