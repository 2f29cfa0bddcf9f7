-- The first bytes of a key as a number.
use Rattle.std.specs.Prelude.{◌≡◌, ◌<◌, ◌+◌, ◌*◌, ◌++◌, ⊤, ℕ, zero, suc, List, [], ◌∷◌, get_or}
use Rattle.std.specs.declared.cmp.Ordering.{Ordering}
use Rattle.std.specs.declared.cmp.Ordering.TheVariants.{Less, Equal, Greater}
use Rattle.ikey.specs.declared.front.Front.{Front}

-- the number that goes on with so many bytes, the first of which weighs most, and with zeroes where
-- there are fewer
abbrev pub spelled : ℕ → ℕ → List ℕ → ℕ
spelled zero n bytes = n
spelled (suc more) n [] = spelled more (n * 256) []
spelled (suc more) n (byte ∷ bytes) = spelled more (n * 256 + byte) bytes

-- the front of a key is the number that its first sixteen bytes spell
pub record IsFront (front : Front) (key : List ℕ) : Type 0 where
  pub bytes : (i : ℕ) → get_or key i 0 < 256
  pub number : front.number ≡ spelled 16 0 key

-- two keys compare so, where this says more than that they may be equal
abbrev pub Tells : (List ℕ → List ℕ → Ordering) → List ℕ → List ℕ → Ordering → Type 0
Tells cmp a b Less = cmp a b ≡ Less
Tells cmp a b Equal = ⊤
Tells cmp a b Greater = cmp a b ≡ Greater

-- what two fronts tell of the keys that have them, and also of keys in which these stand after the
-- same bytes
abbrev pub Decides : (List ℕ → List ℕ → Ordering) → Front → Front → Ordering → Type 0
Decides cmp a b told = (shared x y : List ℕ) → IsFront a x → IsFront b y → Tells cmp (shared ++ x) (shared ++ y) told
