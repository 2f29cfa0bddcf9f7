-- The order of internal keys where user keys are ordered by their bytes, and its laws.
use Rattle.std.specs.Prelude.{◌≡◌, ◌==◌, ◌&&◌, ℕ}
use Rattle.std.proofs.Common.{sym, ◌∙◌, arith}
use Rattle.std.proofs.lemmas.Bool.Decides.{nat_tests}
use Rattle.std.specs.declared.cmp.Ordering.{Ordering}
use Rattle.std.specs.Ordering.{nat_cmp, on, eq_by_cmp}
use Rattle.std.specs.Cmp.{IsTotalOrder, on_total, both_tied, unsigned_tied}
use Rattle.std.specs.Cmp.Lexicographic.{slice_cmp, nat_list_cmp_total, texts_ties}
use Rattle.ikey.specs.declared.internal_key.InternalKey.{InternalKey}
use Rattle.ikey.specs.declared.internal_key.Kind.{Kind}
use Rattle.ikey.specs.declared.internal_key.Kind.TheVariants.{Delete, Put}
use Rattle.ikey.specs.contracts.internal_key.KindPartialEq.TheImpl as kinds
use Rattle.ikey.specs.contracts.internal_key.InternalKeyPartialEq.TheImpl as keys
use Rattle.ikey.specs.Keys.{key_cmp, tag}
use Rattle.ikey.specs.KeyViews.{key_of}
use Rattle.ikey.specs.Below.{key_total}

-- the user keys up by their bytes, and then the newer one first
abbrev pub bytewise_cmp : InternalKey → InternalKey → Ordering
bytewise_cmp = on key_of (key_cmp (slice_cmp nat_cmp))

pub bytewise_total : IsTotalOrder bytewise_cmp
bytewise_total = on_total key_of (key_total (slice_cmp nat_cmp) nat_list_cmp_total)

-- ---- only the same key compares as equal

tag_ties : (m n : ℕ) (k l : Kind) → ((m == n) && kinds.ghosts.eq k l) ≡ (tag n l == tag m k)
tag_ties m n Delete Delete = grind (arith, nat_tests)
tag_ties m n Put Put = grind (arith, nat_tests)
tag_ties m n Delete Put = grind (arith, nat_tests)
tag_ties m n Put Delete = grind (arith, nat_tests)

pub bytewise_ties : (a b : InternalKey) → keys.ghosts.eq a b ≡ eq_by_cmp bytewise_cmp a b
bytewise_ties a b =
    both_tied _ _ _ _ (texts_ties a.user.now b.user.now) (tag_ties a.sequence b.sequence a.kind b.kind ∙ sym (unsigned_tied (tag b.sequence b.kind) (tag a.sequence a.kind)))
