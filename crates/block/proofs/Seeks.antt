-- Which keys are below a target.
use Rattle.std.proofs.Common.{◌≡◌, ℕ, zero, suc, Bool, true, false, MatchBool, Option, Some, None, List, [], ◌∷◌, ◌++◌, take, drop, refl, sym, ap, ◌∙◌, subst, arith}
use Rattle.std.specs.List.{slice_get, AllByRecursion}
use Rattle.ikey.specs.Entries.{Pair}
use Rattle.block.specs.Block.{IsEntry, AreEntries, AreAbove}
use Rattle.block.specs.Reading.{pairs_of}
use Rattle.block.specs.Spots.{IsBefore, AreBelow, StartsBelow, StartsNotBelow}
use Rattle.block.proofs.EntryLaws.{entry_some}
use Rattle.block.proofs.Fronts.{cut_at}
use Rattle.block.proofs.Rests.{above_tail, nothing_left, opened}

abbrev pub IsTransitive : (List ℕ → List ℕ → Type 0) → Type 0
IsTransitive below = (a b c : List ℕ) → below a b → below b c → below a c

no_pair : (i : ℕ) (pair : Pair) → slice_get {X = Pair} [] i ≡ Some pair → ⊥
no_pair zero pair e = cc
no_pair (suc i) pair e = cc

pub below_push : (below : List ℕ → List ℕ → Type 0) (target : List ℕ) (pairs : List Pair) (pair : Pair) → AreBelow below target pairs → below pair.key target → AreBelow below target (pairs ++ pair ∷ [])
below_push below target [] pair h b = (b, tt)
below_push below target (p ∷ ps) pair h b = (h.0, below_push below target ps pair h.1 b)

below_front : (below : List ℕ → List ℕ → Type 0) (target : List ℕ) (pairs others : List Pair) → AreBelow below target (pairs ++ others) → AreBelow below target pairs
below_front below target [] others h = tt
below_front below target (p ∷ ps) others h = (h.0, below_front below target ps others h.1)

-- one key below the target has all those before it below it
below_up_to : (below : List ℕ → List ℕ → Type 0) → IsTransitive below → (target : List ℕ) (previous : Option (List ℕ)) (pairs : List Pair) (index : ℕ) (pair : Pair)
    → AreAbove below previous pairs → slice_get pairs index ≡ Some pair → below pair.key target → AreBelow below target (take (suc index) pairs)
below_up_to below trans target previous [] index pair a g b = absurd (no_pair index pair g)
below_up_to below trans target previous (p ∷ ps) zero pair a g b =
    let same : pair ≡ p = cc in (subst (λ (q : Pair). below q.key target) same b, tt)
below_up_to below trans target previous (p ∷ []) (suc index) pair a g b = absurd (no_pair index pair g)
below_up_to below trans target previous (p ∷ q ∷ qs) (suc index) pair a g b =
    let up = above_tail below previous p (q ∷ qs) a in
    let rest = below_up_to below trans target (Some p.key) (q ∷ qs) index pair up g b in
    (trans p.key q.key target up.0 rest.0, rest)

none_below : (below : List ℕ → List ℕ → Type 0) → IsTransitive below → (target key : List ℕ) (pairs : List Pair) → (below key target → ⊥) → AreAbove below (Some key) pairs
    → AllByRecursion (λ (p : Pair). below p.key target → ⊥) pairs
none_below below trans target key [] other a = tt
none_below below trans target key (p ∷ ps) other a =
    let later : below p.key target → ⊥ = λ b. other (trans key p.key target a.0 b) in (later, none_below below trans target p.key ps later a.1)

-- one key that isn't below the target has none after it below it
pub none_below_from : (below : List ℕ → List ℕ → Type 0) → IsTransitive below → (target : List ℕ) (previous : Option (List ℕ)) (pairs : List Pair) (index : ℕ) (pair : Pair)
    → AreAbove below previous pairs → slice_get pairs index ≡ Some pair → (below pair.key target → ⊥) → AllByRecursion (λ (p : Pair). below p.key target → ⊥) (drop index pairs)
none_below_from below trans target previous [] index pair a g other = absurd (no_pair index pair g)
none_below_from below trans target previous (p ∷ ps) zero pair a g other =
    let same : p ≡ pair = cc in
    let here : below p.key target → ⊥ = subst (λ (q : Pair). below q.key target → ⊥) (sym same) other in
    (here, none_below below trans target p.key ps here (above_tail below previous p ps a))
none_below_from below trans target previous (p ∷ ps) (suc index) pair a g other = none_below_from below trans target (Some p.key) ps index pair (above_tail below previous p ps a) g other

-- the entry at a restart that is below the target
restart_key : (below : List ℕ → List ℕ → Type 0) → IsTransitive below → (target body : List ℕ) (pairs : List Pair) (index restart s : ℕ) (r v front behind : List ℕ) (ps : List Pair) (later : List ℕ)
    → drop index pairs ≡ ps → AreEntries restart [] ps later (drop restart body) → AreAbove below None pairs → IsEntry s r v front → drop restart body ≡ front ++ behind → below r target
    → AreBelow below target (take index pairs)
restart_key below trans target body pairs index restart s r v front behind [] later e h a i p b = absurd (nothing_left restart [] later (drop restart body) front behind p (entry_some s r v front i) h)
restart_key below trans target body pairs index restart s r v front behind (pair ∷ more) later e h a i p b =
    let o = opened restart [] s r v front behind later (drop restart body) pair more i p h in
    let none : s ≡ 0 = omega (arith, o.key.0) in
    let same : r ≡ pair.key = ap (λ (n : ℕ). take n [] ++ r) (sym none) ∙ sym o.key.1 in
    let c = cut_at pairs index pair more e in
    below_front below target (take index pairs) (pair ∷ [])
    (subst (AreBelow below target) c.front (below_up_to below trans target None pairs index pair a c.found (subst (λ (k : List ℕ). below k target) same b)))

restart_key_above : (below : List ℕ → List ℕ → Type 0) (target body : List ℕ) (pairs : List Pair) (index restart s : ℕ) (r v front behind : List ℕ) (ps : List Pair) (later : List ℕ)
    → drop index pairs ≡ ps → AreEntries restart [] ps later (drop restart body) → IsEntry s r v front → drop restart body ≡ front ++ behind → (below r target → ⊥)
    → (pair : Pair) → slice_get pairs index ≡ Some pair → below pair.key target → ⊥
restart_key_above below target body pairs index restart s r v front behind [] later e h i p other found g b = nothing_left restart [] later (drop restart body) front behind p (entry_some s r v front i) h
restart_key_above below target body pairs index restart s r v front behind (pair ∷ more) later e h i p other found g b =
    let o = opened restart [] s r v front behind later (drop restart body) pair more i p h in
    let none : s ≡ 0 = omega (arith, o.key.0) in
    let same : r ≡ pair.key = ap (λ (n : ℕ). take n [] ++ r) (sym none) ∙ sym o.key.1 in
    let c = cut_at pairs index pair more e in
    let both : Some found ≡ Some pair = sym g ∙ c.found in
    let is : found ≡ pair = cc in
    other (subst (λ (k : List ℕ). below k target) (ap (λ (q : Pair). q.key) is ∙ sym same) b)

-- what the comparison at a restart says
pub restart_compared : (below : List ℕ → List ℕ → Type 0) → IsTransitive below → (target body : List ℕ) (index restart s : ℕ) (r v front behind : List ℕ) (answer : Bool)
    → IsBefore body (pairs_of body) index [] restart → AreAbove below None (pairs_of body) → IsEntry s r v front → drop restart body ≡ front ++ behind → MatchBool answer (below r target) (below r target → ⊥)
    → MatchBool answer (StartsBelow below target body restart) (StartsNotBelow below target body restart)
restart_compared below trans target body index restart s r v front behind true h a i p b =
    (index, h, restart_key below trans target body (pairs_of body) index restart s r v front behind (drop index (pairs_of body)) h.later refl h.readable a i p b)
restart_compared below trans target body index restart s r v front behind false h a i p b =
    (index, h, restart_key_above below target body (pairs_of body) index restart s r v front behind (drop index (pairs_of body)) h.later refl h.readable i p b)
