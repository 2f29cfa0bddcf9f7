use Rattle.std.proofs.Common.{◌∷◌, ◌++◌, [], ℕ, List, sym, subst, ◌∙◌}
use Rattle.edits.specs.declared.names.FileName.TheVariants.{OldTable}
use Rattle.directory_writes.specs.internal.Removal.{AreOlder}
use Rattle.directory_writes.proofs.Cleaning.{other_name, no_older, older_name}
use Rattle.directory_writes.proofs.removal.push_older.Goals as goal

pub returns-in_default : goal.returns-in_default
returns-in_default c names h = other_name names c.args.name.now c.args.numbers.now.items (λ n num e. c.in_default.ensures.none (OldTable n) num e) h

pub returns-in_default-older_number : goal.returns-in_default-older_number
returns-in_default-older_number c names h =
    other_name names c.args.name.now c.args.numbers.now.items
    (no_older c.args.name.now c.in-Some.file c.in-Some.ensures.found.0 c.in-Some.ensures.found.1 (sym c.older_number.ensures ∙ c.in_default-older_number.is)) h

pub returns : goal.returns
returns c names h =
    subst (λ (numbers : List ℕ). AreOlder (names ++ c.args.name.now ∷ []) numbers) (sym c.in_ok-push.ensures.items)
    (older_name names c.args.name.now c.args.numbers.now.items c.in-Some.file c.in-Some-older_number.number c.in-Some.ensures.found.0 c.in-Some.ensures.found.1
    (sym c.older_number.ensures ∙ c.in-Some-older_number.is) h)
