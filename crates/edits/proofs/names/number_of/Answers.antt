use Rattle.std.proofs.Common.{◌≡◌, ◌<◌, ◌^◌, ℕ, List, length, get_or, sym, ap, ◌∙◌, arith}
use Rattle.std.specs.Str.Parse.{AllDigits, digits_value}
use Rattle.edits.specs.Names.{padded}
use Rattle.std.proofs.lemmas.Bool.{eqb-true, eqb-false, ltb-true}
use Rattle.edits.proofs.FileNames.{value-padded, length-padded, first-padded, digits-padded, padded-value}
use Rattle.edits.proofs.names.number_of.Goals.{then-digits-lt-DIGITS-via-then-digits-lt-DIGITS, then-digits-lt-DIGITS-via-else-digits-lt-DIGITS+then-digits-eq48, then-digits-gt-DIGITS, else-digits-gt-DIGITS}
use Rattle.edits.proofs.names.number_of.Goals as goal

pub returns-then-digits-lt-DIGITS-clause-value : goal.returns-then-digits-lt-DIGITS-clause-value
returns-then-digits-lt-DIGITS-clause-value c = λ n h e.
    elim c.then-digits-lt-DIGITS.branch [
      | then-digits-lt-DIGITS-via-then-digits-lt-DIGITS w ↦ omega (arith, ap length e, length-padded n)
      | then-digits-lt-DIGITS-via-else-digits-lt-DIGITS+then-digits-eq48 w ↦
          elim w.if-digits-gt-DIGITS.branch [
            | then-digits-gt-DIGITS v ↦ first-padded n h.0 h.1 (omega (arith, ap length e, v.if-digits-gt-DIGITS.true)) (sym (ap (λ (ds : List ℕ). get_or ds 0 0) e) ∙ eqb-true (get_or c.args.digits.now 0 0) 48 (sym v.value-is ∙ w.if-digits-eq48.true))
            | else-digits-gt-DIGITS v ↦ omega (arith, v.if-digits-gt-DIGITS.false, ltb-true 6 (length c.args.digits.now) (sym v.value-is ∙ w.if-digits-eq48.true))
          ]
    ]

pub returns-in_err-n-clause-value : goal.returns-in_err-n-clause-value
returns-in_err-n-clause-value c = rw c.from_residual.ensures (λ n h e.
    let P : List ℕ → Type 0 = λ ds. AllDigits 10 ds in
    let past = c.in_err-n.ensures.value (rw e (digits-padded n h.1)) in
    omega (arith, past, ap (digits_value 10) e, value-padded n h.1, h.1))

pub returns-then-n-eq0-clause-value : goal.returns-then-n-eq0-clause-value
returns-then-n-eq0-clause-value c = λ n h e. omega (arith, c.in_ok-n.ensures.value.1, ap (digits_value 10) e, value-padded n h.1, h.0)

pub returns-else-n-eq0-clause-value : goal.returns-else-n-eq0-clause-value
returns-else-n-eq0-clause-value c =
    let ds = c.args.digits.now in
    let v = c.in_ok-n.ensures.value in
    let n : digits_value 10 ds ≡ c.in_ok-n.n = v.1 in
    let no_zero : 6 < length ds → get_or ds 0 0 ≡ 48 → ⊥ = λ long zero.
    elim c.if-digits-gt-DIGITS.branch [
      | then-digits-gt-DIGITS w ↦ eqb-false (get_or ds 0 0) 48 (sym w.value-is ∙ c.if-digits-eq48.false) zero
      | else-digits-gt-DIGITS w ↦ omega (arith, long, w.if-digits-gt-DIGITS.false)
    ] in
    let small : c.in_ok-n.n < 2 ^ 64 = c.in_ok-n.ensures.range in
    let some : 0 < c.in_ok-n.n = omega arith in
    ((some, small), padded-value ds v.0 c.if-digits-lt-DIGITS.false no_zero (omega (arith, n, some)) (omega (arith, n, small)) ∙ ap padded n)
