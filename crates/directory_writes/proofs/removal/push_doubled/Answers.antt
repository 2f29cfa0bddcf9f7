use Rattle.std.proofs.Common.{◌∷◌, ◌++◌, [], ℕ, List, sym, subst, ◌∙◌}
use Rattle.edits.specs.declared.names.FileName.TheVariants.{Table}
use Rattle.directory_writes.specs.internal.Removal.{AreBoth}
use Rattle.directory_writes.proofs.Cleaning.{both_more, both_same, no_newer, single_newer}
use Rattle.directory_writes.proofs.removal.push_doubled.Goals as goal

pub returns-in_default : goal.returns-in_default
returns-in_default c names h = both_same c.args.older.now names c.args.name.now c.args.numbers.now.items (λ n num e i. c.in_default.ensures.none (Table n) num e) h

pub returns-in_default-newer_number : goal.returns-in_default-newer_number
returns-in_default-newer_number c names h =
    both_same c.args.older.now names c.args.name.now c.args.numbers.now.items
    (no_newer c.args.older.now c.args.name.now c.in-Some.file c.in-Some.ensures.found.0 c.in-Some.ensures.found.1 (sym c.newer_number.ensures ∙ c.in_default-newer_number.is)) h

pub returns-then-not-is_among : goal.returns-then-not-is_among
returns-then-not-is_among c names h =
    both_same c.args.older.now names c.args.name.now c.args.numbers.now.items
    (single_newer c.args.older.now c.args.name.now c.in-Some.file c.in-Some-newer_number.number c.in-Some.ensures.found.0 c.in-Some.ensures.found.1
    (sym c.newer_number.ensures ∙ c.in-Some-newer_number.is) c.if-not-is_among.ensures) h

pub returns : goal.returns
returns c names h =
    subst (λ (numbers : List ℕ). AreBoth c.args.older.now (names ++ c.args.name.now ∷ []) numbers) (sym {A = List ℕ} c.in_ok-push.ensures.items)
    (both_more c.args.older.now names c.args.name.now c.args.numbers.now.items c.in-Some.file c.in-Some-newer_number.number c.in-Some.ensures.found.0 c.in-Some.ensures.found.1
    (sym c.newer_number.ensures ∙ c.in-Some-newer_number.is) c.if-not-is_among.ensures h)
