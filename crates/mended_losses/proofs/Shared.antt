-- The longest prefix that two lists share.
use Rattle.std.proofs.Common.{◌≡◌, ◌⊎◌, inl, inr, ℕ, List, [], ◌∷◌, ◌++◌, length, refl, sym, ap, ◌∙◌, append-nil, arith}
use Rattle.std.proofs.lemmas.Bool.{cases_eq}
use Rattle.std.proofs.lemmas.List.{length-append}
use Rattle.store.specs.Losses.{BeginsWith}
use Rattle.mended_losses.proofs.OneLog.{same_long}

pub record IsShared (a b p : List ℕ) : Type 0 where
  pub one : BeginsWith a p
  pub two : BeginsWith b p
  pub most : (s : List ℕ) → BeginsWith a s → BeginsWith b s → BeginsWith p s

head_of : (x y : ℕ) (xs ys : List ℕ) → x ∷ xs ≡ y ∷ ys → x ≡ y
head_of x y xs ys e = cc

tail_of : (x y : ℕ) (xs ys : List ℕ) → x ∷ xs ≡ y ∷ ys → xs ≡ ys
tail_of x y xs ys e = cc

most_behind : (x y : ℕ) (a b p : List ℕ) → IsShared a b p → (s : List ℕ) → BeginsWith (x ∷ a) s → BeginsWith (y ∷ b) s → BeginsWith (x ∷ p) s
most_behind x y a b p h [] one two = (x ∷ p, refl)
most_behind x y a b p h (z ∷ s) one two =
    let more = h.most s (one.0, tail_of x z a (s ++ one.0) one.1) (two.0, tail_of y z b (s ++ two.0) two.1) in
    let first : x ≡ z = head_of x z a (s ++ one.0) one.1 in
    (more.0, ap (λ (n : ℕ). n ∷ p) first ∙ ap (λ (v : List ℕ). z ∷ v) more.1)

most_nothing : (x y : ℕ) (a b : List ℕ) → (x ≡ y → ⊥) → (s : List ℕ) → BeginsWith (x ∷ a) s → BeginsWith (y ∷ b) s → BeginsWith [] s
most_nothing x y a b apart [] one two = ([], refl)
most_nothing x y a b apart (z ∷ s) one two =
    let first : x ≡ z = head_of x z a (s ++ one.0) one.1 in
    let second : y ≡ z = head_of y z b (s ++ two.0) two.1 in
    absurd (apart (first ∙ sym second))

abbrev Shares : List ℕ → List ℕ → Type 0
Shares a b = (p : List ℕ) × IsShared a b p

shared_first : (x y : ℕ) (a b : List ℕ) → (x ≡ y) ⊎ (x ≡ y → ⊥) → Shares a b → Shares (x ∷ a) (y ∷ b)
shared_first x y a b (inl same) p = (
  x ∷ p.0,
  record {
    one = (p.1.one.0, ap (λ (v : List ℕ). x ∷ v) p.1.one.1);
    two = (p.1.two.0, ap (λ (n : ℕ). n ∷ b) (sym same) ∙ ap (λ (v : List ℕ). x ∷ v) p.1.two.1);
    most = λ s one two. most_behind x y a b p.0 p.1 s one two;
  },
)
shared_first x y a b (inr apart) p = (
  [],
  record {
    one = (x ∷ a, refl);
    two = (y ∷ b, refl);
    most = λ s one two. most_nothing x y a b apart s one two;
  },
)

pub shared : (a b : List ℕ) → (p : List ℕ) × IsShared a b p
shared [] b = ([], record { one = ([], refl); two = (b, refl); most = λ s one two. one })
shared (x ∷ a) [] = ([], record { one = (x ∷ a, refl); two = ([], refl); most = λ s one two. two })
shared (x ∷ a) (y ∷ b) = shared_first x y a b (cases_eq x y) (shared a b)

pub shared_whole : (a b p : List ℕ) → IsShared a b p → b ≡ a → p ≡ b
shared_whole a b p h same =
    let all : BeginsWith p a = h.most a ([], sym (append-nil a)) ([], same ∙ sym (append-nil a)) in
    let short = ap length h.one.1 in
    same_long p a all (omega (arith, short, length-append p h.one.0)) ∙ sym same
