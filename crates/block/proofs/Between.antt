-- Keys that rise lie between two bounds where the first and the last do.
use Rattle.std.proofs.Common.{◌≡◌, ◌⊎◌, ◌≤◌, ℕ, zero, suc, inl, inr, Bool, true, false, MatchBool, Option, Some, None, List, [], ◌∷◌, ◌++◌, length, take, refl, sym, ap, ◌∙◌, subst, arith}
use Rattle.std.proofs.lemmas.List.{length-append}
use Rattle.std.specs.Option.{ForSome}
use Rattle.coding.specs.declared.error.ReadError.{ReadError}
use Rattle.coding.specs.declared.error.ReadError.TheVariants.{Memory, Corrupt, Unsupported}
use Rattle.ikey.specs.Entries.{Pair}
use Rattle.block.specs.Block.{AreAbove, IsBody, IsEntry, Refuses, last_key_from}
use Rattle.block.proofs.EntryLaws.{entry_some}
use Rattle.block.proofs.Rests.{opened}
use Rattle.block.specs.Bounds.{AreBetween, IsFirstKey}

abbrev pub AtMost : (List ℕ → List ℕ → Type 0) → List ℕ → List ℕ → Type 0
AtMost below key most = (key ≡ most) ⊎ below key most

abbrev pub Transitive : (List ℕ → List ℕ → Type 0) → Type 0
Transitive below = (a b c : List ℕ) → below a b → below b c → below a c

floor_on : (below : List ℕ → List ℕ → Type 0) → Transitive below → (floor : Option (List ℕ)) (a b : List ℕ) → below a b → ForSome floor (λ (bound : List ℕ). below bound a) → ForSome floor (λ (bound : List ℕ). below bound b)
floor_on below t floor a b up h = λ bound e. t bound a b (h bound e) up

most_back : (below : List ℕ → List ℕ → Type 0) → Transitive below → (a b most : List ℕ) → below a b → AtMost below b most → AtMost below a most
most_back below t a b most up (inl same) = inr (subst (λ (k : List ℕ). below a k) same up)
most_back below t a b most up (inr less) = inr (t a b most up less)

-- a key isn't above the last of those after it
key_to_last : (below : List ℕ → List ℕ → Type 0) → Transitive below → (key : List ℕ) (pairs : List Pair) (most : List ℕ) → AreAbove below (Some key) pairs → AtMost below (last_key_from key pairs) most → AtMost below key most
key_to_last below t key [] most a h = h
key_to_last below t key (pair ∷ pairs) most a h = most_back below t key pair.key most a.0 (key_to_last below t pair.key pairs most a.1 h)

all_between : (below : List ℕ → List ℕ → Type 0) → Transitive below → (floor : Option (List ℕ)) (most : List ℕ) (pair : Pair) (pairs : List Pair) → AreAbove below (Some pair.key) pairs → ForSome floor (λ (bound : List ℕ). below bound pair.key)
    → AtMost below (last_key_from pair.key pairs) most → AreBetween below floor most (pair ∷ pairs)
all_between below t floor most pair [] a low high = (record { above = low; within = high }, tt)
all_between below t floor most pair (next ∷ pairs) a low high = (
  record { above = low; within = key_to_last below t pair.key (next ∷ pairs) most a high },
  all_between below t floor most next pairs a.1 (floor_on below t floor pair.key next.key a.0 low) high,
)

last_between : (below : List ℕ → List ℕ → Type 0) (floor : Option (List ℕ)) (most : List ℕ) (pair : Pair) (pairs : List Pair) → AreBetween below floor most (pair ∷ pairs) → AtMost below (last_key_from pair.key pairs) most
last_between below floor most pair [] h = h.0.within
last_between below floor most pair (next ∷ pairs) h = last_between below floor most next pairs h.1

-- ---- what the two comparisons say

pub floor_by : (below : List ℕ → List ℕ → Type 0) (floor : Option (List ℕ)) (bound key : List ℕ) (b : Bool) → floor ≡ Some bound → MatchBool b (below bound key) (below bound key → ⊥)
    → MatchBool b (ForSome floor (λ (low : List ℕ). below low key)) (ForSome floor (λ (low : List ℕ). below low key) → ⊥)
floor_by below floor bound key true e h = λ low f. let same : bound ≡ low = let t : Some bound ≡ Some low = sym e ∙ f in cc in subst (λ (k : List ℕ). below k key) same h
floor_by below floor bound key false e h = λ all. h (all bound e)

pub between_none : (below : List ℕ → List ℕ → Type 0) (floor : Option (List ℕ)) (most : List ℕ) (pairs : List Pair) → pairs ≡ [] → AreBetween below floor most pairs
between_none below floor most pairs e = subst (λ (ps : List Pair). AreBetween below floor most ps) (sym e) tt

pub first_not : (below : List ℕ → List ℕ → Type 0) (floor : Option (List ℕ)) (most first : List ℕ) (pairs : List Pair) → IsFirstKey first pairs → (ForSome floor (λ (low : List ℕ). below low first) → ⊥) → AreBetween below floor most pairs → ⊥
first_not below floor most first [] f none h = f
first_not below floor most first (pair ∷ pairs) f none h = none (subst (λ (k : List ℕ). ForSome floor (λ (low : List ℕ). below low k)) f h.0.above)

pub ends_tell : (below : List ℕ → List ℕ → Type 0) → Transitive below → (floor : Option (List ℕ)) (most first last : List ℕ) (pairs : List Pair) (b : Bool) → AreAbove below None pairs → IsFirstKey first pairs → last_key_from [] pairs ≡ last
    → ForSome floor (λ (low : List ℕ). below low first) → MatchBool b ((last ≡ most) ⊎ below last most) ((last ≡ most) ⊎ below last most → ⊥)
    → MatchBool b (AreBetween below floor most pairs) (AreBetween below floor most pairs → ⊥)
ends_tell below t floor most first last [] b a f l low h = absurd f
ends_tell below t floor most first last (pair ∷ pairs) true a f l low h =
    all_between below t floor most pair pairs a (subst (λ (k : List ℕ). ForSome floor (λ (bound : List ℕ). below bound k)) (sym f) low) (subst (λ (k : List ℕ). AtMost below k most) (sym l) h)
ends_tell below t floor most first last (pair ∷ pairs) false a f l low h =
    λ all. h (subst (λ (k : List ℕ). AtMost below k most) l (last_between below floor most pair pairs all))

-- ---- the first key

shares_none : (s : ℕ) (r key : List ℕ) → s ≤ 0 → key ≡ take s [] ++ r → key ≡ r
shares_none zero r key le e = e
shares_none (suc s) r key le e = absurd (omega (arith, le))

pub first_of_body : (body restarts : List ℕ) (pairs : List Pair) (s : ℕ) (r v front behind : List ℕ) → IsBody pairs restarts body → IsEntry s r v front → body ≡ front ++ behind → IsFirstKey r pairs
first_of_body body restarts [] s r v front behind h i e = omega (arith, ap length (sym h.0 ∙ e), length-append front behind, entry_some s r v front i)
first_of_body body restarts (pair ∷ pairs) s r v front behind h i e =
    let o = opened 0 [] s r v front behind restarts body pair pairs i e h.2 in
    shares_none s r pair.key o.key.0 o.key.1

pub none_in_body : (body restarts : List ℕ) (pairs : List Pair) → IsBody pairs restarts body → ((shared : ℕ) (rest value front behind : List ℕ) → IsEntry shared rest value front → body ≡ front ++ behind → ⊥) → pairs ≡ []
none_in_body body restarts [] h none = refl
none_in_body body restarts (pair ∷ pairs) (later, first, h) none = absurd (none h.0 h.1 pair.value h.2 h.3 h.5 h.7)

-- ---- refusals

pub refuses_more : (P Q large : Type 0) (e : ReadError) → (P → Q) → Refuses e P large → Refuses e Q large
refuses_more P Q large Memory f h = tt
refuses_more P Q large (Corrupt what) f h = f h
refuses_more P Q large (Unsupported what) f h = h
