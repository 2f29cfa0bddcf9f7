use Rattle.std.proofs.Common.{List, ℕ, true, sym, subst}
use Rattle.ikey.specs.KeyViews.{key_of}
use Rattle.cursor.specs.Searches.{Hidden, hides_now, hidden_now}
use Rattle.cursor.proofs.Looking.{looks_new, looks_hidden, looks_found, looks_hiding}
use Rattle.cursor.proofs.scanning.look_on.Goals as goal

pub returns-then-key-sequence-clause-looks : goal.returns-then-key-sequence-clause-looks
returns-then-key-sequence-clause-looks c = looks_new c.args.bytes.now (key_of c.in_ok-key.key) c.in_ok-key.ensures.key c.args.sequence (hides_now c.args.holds.now c.args.hides) (hidden_now c.args.holds.now c.args.hidden.now c.args.found.now.items) c.if-key-sequence.true

pub returns-then-is_hidden-clause-looks : goal.returns-then-is_hidden-clause-looks
returns-then-is_hidden-clause-looks c =
    looks_hidden c.args.bytes.now (key_of c.in_ok-key.key) c.in_ok-key.ensures.key c.args.sequence (hides_now c.args.holds.now c.args.hides) (hidden_now c.args.holds.now c.args.hidden.now c.args.found.now.items)
    (subst (λ (h : List ℕ). Hidden (hides_now c.args.holds.now c.args.hides) (hidden_now c.args.holds.now c.args.hidden.now h) c.in_ok-key.key.user.now) c.as_slice.ensures.value c.if-is_hidden.ensures)

pub returns-in-Put-clause-looks : goal.returns-in-Put-clause-looks
returns-in-Put-clause-looks c =
    looks_found c.args.bytes.now (key_of c.in_ok-key.key) c.in_ok-key.ensures.key c.args.sequence (hides_now c.args.holds.now c.args.hides) true (hidden_now c.args.holds.now c.args.hidden.now c.args.found.now.items) c.copy_to.new.buffer.items c.if-key-sequence.false
    (λ hid. c.if-is_hidden.ensures (subst (λ (h : List ℕ). Hidden (hides_now c.args.holds.now c.args.hides) (hidden_now c.args.holds.now c.args.hidden.now h) c.in_ok-key.key.user.now) (sym c.as_slice.ensures.value) hid)) c.in-Put.is c.in_ok-copy_to.ensures.ok

pub returns-in-Delete-clause-looks : goal.returns-in-Delete-clause-looks
returns-in-Delete-clause-looks c =
    looks_hiding c.args.bytes.now (key_of c.in_ok-key.key) c.in_ok-key.ensures.key c.args.sequence (hides_now c.args.holds.now c.args.hides) (hidden_now c.args.holds.now c.args.hidden.now c.args.found.now.items) c.copy_to.new.buffer.items c.if-key-sequence.false
    (λ hid. c.if-is_hidden.ensures (subst (λ (h : List ℕ). Hidden (hides_now c.args.holds.now c.args.hides) (hidden_now c.args.holds.now c.args.hidden.now h) c.in_ok-key.key.user.now) (sym c.as_slice.ensures.value) hid)) c.in-Delete.is c.in_ok-copy_to.ensures.ok
