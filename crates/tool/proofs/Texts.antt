-- Texts that are written one after the other.
use Rattle.std.proofs.Common.{◌≡◌, ◌++◌, ◌∷◌, [], ◌+◌, ◌<◌, ℕ, List, refl, sym, ap, ◌∙◌, append-nil, append_assoc, take, length, get_or}
use Rattle.std.specs.Prelude.{Option, Some, None}
use Rattle.std.specs.Io.KnownBytes.{Appends}
use Rattle.std.proofs.lemmas.List.{take_more}
use Rattle.script.specs.Drive.{Shows}
use Rattle.tool.specs.Reports.{texts}

pub texts-push : {A : Type 0} (text_of : A → List ℕ) (xs : List A) (x : A) → texts text_of (xs ++ x ∷ []) ≡ texts text_of xs ++ text_of x
texts-push text_of [] x = append-nil (text_of x)
texts-push text_of (y ∷ xs) x = ap (λ (t : List ℕ). text_of y ++ t) (texts-push text_of xs x) ∙ sym (append_assoc (text_of y) (texts text_of xs) (text_of x))

pub texts-more : {A : Type 0} (text_of : A → List ℕ) (xs : List A) (i : ℕ) (d : A) → i < length xs → texts text_of (take (i + 1) xs) ≡ texts text_of (take i xs) ++ text_of (get_or xs i d)
texts-more text_of xs i d lt = ap (texts text_of) (take_more xs i d lt) ∙ texts-push text_of (take i xs) (get_or xs i d)

-- a further line
pub push_line : {A : Type 0} (text_of : A → List ℕ) (xs : List A) (i : ℕ) (d : A) (before now new line : List ℕ) → i < length xs → now ≡ before ++ texts text_of (take i xs)
    → line ≡ text_of (get_or xs i d) → new ≡ now ++ line → new ≡ before ++ texts text_of (take (i + 1) xs)
push_line text_of xs i d before now new line lt so_far is e =
    e ∙ ap (λ (t : List ℕ). t ++ line) so_far ∙ append_assoc before (texts text_of (take i xs)) line
    ∙ ap (λ (t : List ℕ). before ++ (texts text_of (take i xs) ++ t)) is ∙ ap (λ (t : List ℕ). before ++ t) (sym (texts-more text_of xs i d lt))

-- three texts
pub texts_more : (old a b c one two new : List ℕ) → one ≡ old ++ a → two ≡ one ++ b → new ≡ two ++ c → new ≡ old ++ (a ++ (b ++ c))
texts_more old a b c one two new first second third =
    third ∙ ap (λ (t : List ℕ). t ++ c) (second ∙ ap (λ (t : List ℕ). t ++ b) first ∙ append_assoc old a b) ∙ append_assoc old (a ++ b) c
    ∙ ap (λ (t : List ℕ). old ++ t) (append_assoc a b c)

pub appends_then : (a b c : Option (List ℕ)) (xs ys : List ℕ) → Appends a b xs → Appends b c ys → Appends a c (xs ++ ys)
appends_then None b c xs ys h g = tt
appends_then (Some x) None c xs ys h g = absurd h
appends_then (Some x) (Some y) None xs ys h g = absurd g
appends_then (Some x) (Some y) (Some z) xs ys h g = g ∙ ap (λ (t : List ℕ). t ++ ys) h ∙ append_assoc x xs ys

-- what is written and what waits, a line later
pub shows_more : (a b c : Option (List ℕ)) (waiting new line all more : List ℕ) → ((shown : List ℕ) × Appends a b shown × (shown ++ waiting ≡ all)) → Shows b c (waiting ++ line) new → all ++ line ≡ more
    → (shown : List ℕ) × Appends a c shown × (shown ++ new ≡ more)
shows_more a b c waiting new line all more so_far next e = (
  so_far.0 ++ next.0,
  appends_then a b c so_far.0 next.0 so_far.1 next.2,
  append_assoc so_far.0 next.0 new ∙ ap (λ (t : List ℕ). so_far.0 ++ t) (sym next.1) ∙ sym (append_assoc so_far.0 waiting line) ∙ ap (λ (t : List ℕ). t ++ line) so_far.2 ∙ e,
)
