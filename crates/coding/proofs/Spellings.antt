-- Laws of spellings one after the other.
use Rattle.std.proofs.Common.{◌≡◌, ℕ, List, ◌++◌, refl, sym, ap, ◌∙◌, append_assoc}
use Rattle.coding.specs.Spelling.{InTurn, Begins, BeginsNone, Appends, IsPrefixFree}

module _ {V W : Type 0} (R : List ℕ → V → Type 0) (S : List ℕ → W → Type 0) where
  pub begins_pair : (bytes mid rest : List ℕ) (v : V) (w : W) → Begins R bytes v mid → Begins S mid w rest → Begins (InTurn R S) bytes (v, w) rest
  begins_pair bytes mid rest v w h k =
      (h.0 ++ k.0, (h.0, k.0, h.1, k.1, refl), h.2 ∙ ap (λ (t : List ℕ). h.0 ++ t) k.2 ∙ sym (append_assoc h.0 k.0 rest))

  regrouped : (bytes front first second rest : List ℕ) → bytes ≡ front ++ rest → front ≡ first ++ second → bytes ≡ first ++ (second ++ rest)
  regrouped bytes front first second rest e parts = e ∙ ap (λ (t : List ℕ). t ++ rest) parts ∙ append_assoc first second rest

  pub none_first : (bytes : List ℕ) → BeginsNone R bytes → BeginsNone (InTurn R S) bytes
  none_first bytes none both rest b = none both.0 (b.1.1 ++ rest) (b.1.0, b.1.2, regrouped bytes b.0 b.1.0 b.1.1 rest b.2 b.1.4)

  pub none_second : (bytes mid : List ℕ) (v : V) → IsPrefixFree R → Begins R bytes v mid → BeginsNone S mid → BeginsNone (InTurn R S) bytes
  none_second bytes mid v free h none both rest b =
      let same = free h.0 b.1.0 mid (b.1.1 ++ rest) v both.0 h.1 b.1.2 (sym h.2 ∙ regrouped bytes b.0 b.1.0 b.1.1 rest b.2 b.1.4) in
      none both.1 rest (b.1.1, b.1.3, same.1)

  pub free_pair : IsPrefixFree R → IsPrefixFree S → IsPrefixFree (InTurn R S)
  free_pair p q a b x y m n h k e =
      let first = p h.0 k.0 (h.1 ++ x) (k.1 ++ y) m.0 n.0 h.2 k.2 (sym (regrouped (a ++ x) a h.0 h.1 x refl h.4) ∙ e ∙ regrouped (b ++ y) b k.0 k.1 y refl k.4) in
      let second = q h.1 k.1 x y m.1 n.1 h.3 k.3 first.1 in
      (λ i. (first.0 i, second.0 i), second.1)

  pub appends_pair : (old mid new : List ℕ) (v : V) (w : W) → Appends R old mid v → Appends S mid new w → Appends (InTurn R S) old new (v, w)
  appends_pair old mid new v w h k =
      (h.0 ++ k.0, (h.0, k.0, h.1, k.1, refl), k.2 ∙ ap (λ (t : List ℕ). t ++ k.0) h.2 ∙ append_assoc old h.0 k.0)
