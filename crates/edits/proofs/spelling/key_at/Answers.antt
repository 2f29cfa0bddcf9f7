use Rattle.std.proofs.Common.{ℕ, List, subst, sym, ◌∙◌}
use Rattle.coding.specs.Spelling.{Begins}
use Rattle.edits.specs.Edit.{SpellsKey}
use Rattle.edits.proofs.Spellings.{key_begins, none_key}
use Rattle.edits.proofs.spelling.key_at.Goals as goal

pub returns-in_default-clause-refused : goal.returns-in_default-clause-refused
returns-in_default-clause-refused c = λ value rest b. c.in_default.ensures.none b.0 value rest b.1.0 b.2

pub returns-in_default-unpack-clause-refused : goal.returns-in_default-unpack-clause-refused
returns-in_default-unpack-clause-refused c = none_key c.args.bytes.now c.in-Some.key.now c.in-Some.rest.now c.in-Some.ensures.found c.in_default-unpack.ensures.none

pub returns-clause-found : goal.returns-clause-found
returns-clause-found c =
    subst (λ (key : List ℕ). Begins SpellsKey c.args.bytes.now key c.in-Some.rest.now) (sym {A = List ℕ} (c.from_vec.ensures ∙ c.in_ok-from_slice.ensures.items))
    (key_begins c.args.bytes.now c.in-Some.key.now c.in-Some.rest.now _ c.in-Some.ensures.found c.in-Some-unpack.ensures.found)
