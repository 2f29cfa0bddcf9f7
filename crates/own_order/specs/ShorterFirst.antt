-- What the order by length must prove of itself.
use Rattle.std.specs.Prelude.{◌≡◌, ℕ, List, length}
use Rattle.std.specs.declared.cmp.Ordering.{Ordering}
use Rattle.std.specs.declared.cmp.Ordering.TheVariants.{Less, Equal, Greater}
use Rattle.std.specs.Ordering.{nat_cmp, on, ordering_then, then_cmp}
use Rattle.std.specs.Cmp.Lexicographic.{slice_cmp}
use Rattle.std.specs.FinMap.{IsAntisymmetric, slice_cmp-IsAntisymmetric, nat_cmp-IsAntisymmetric}

-- Where both compare as equal, the second does.
second_equal : (first second : Ordering) → ordering_then first second ≡ Equal → second ≡ Equal
second_equal Less second e = absurd (cc)
second_equal Equal second e = e
second_equal Greater second e = absurd (cc)

-- Equal only where the bytes are equal: the order of bytes says so already.
pub shorter_first_exact : IsAntisymmetric (then_cmp (on length nat_cmp) (slice_cmp nat_cmp))
shorter_first_exact a b e = slice_cmp-IsAntisymmetric nat_cmp-IsAntisymmetric a b (second_equal (on length nat_cmp a b) (slice_cmp nat_cmp a b) e)
