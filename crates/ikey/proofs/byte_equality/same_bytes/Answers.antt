use Rattle.std.proofs.Common.{◌≡◌, ℕ, List, sym, ◌∙◌, subst, arith}
use Rattle.std.proofs.lemmas.Map.Lookups.{exact_bytes}
use Rattle.std.proofs.lemmas.Cmp.{nat_list_cmp_total}
use Rattle.std.specs.Ordering.{nat_cmp}
use Rattle.std.specs.Cmp.{tied_itself}
use Rattle.std.specs.Cmp.Lexicographic.{slice_cmp}
use Rattle.std.specs.declared.cmp.Ordering.TheVariants.{Equal}
use Rattle.ikey.proofs.byte_equality.same_bytes.Goals as goal

-- a byte string is tied with itself
tied : (a b : List ℕ) → a ≡ b → slice_cmp nat_cmp a b ≡ Equal
tied a b e = subst (λ (x : List ℕ). slice_cmp nat_cmp a x ≡ Equal) e (tied_itself nat_list_cmp_total a)

pub returns-in-Equal : goal.returns-in-Equal
returns-in-Equal c = exact_bytes c.args.a.now c.args.b.now (sym c.compare_bytes.ensures ∙ c.in-Equal.is)

pub returns-in-Less : goal.returns-in-Less
returns-in-Less c = λ e. grind (arith, sym c.in-Less.is ∙ c.compare_bytes.ensures ∙ tied c.args.a.now c.args.b.now e)

pub returns-in-Greater : goal.returns-in-Greater
returns-in-Greater c = λ e. grind (arith, sym c.in-Greater.is ∙ c.compare_bytes.ensures ∙ tied c.args.a.now c.args.b.now e)
