-- Links that are led over nodes one after the other.
use Rattle.std.proofs.Common.{◌≡◌, ◌≢◌, ◌+◌, ◌-◌, ◌<◌, ◌≤◌, ◌/◌, ℕ, zero, suc, Some, None, List, [], ◌∷◌, ◌++◌, length, take, drop, get_or, set, refl, sym, ap, subst, ◌∙◌, arith, vec_len, get_or-set_other, get_or-set_same}
use Rattle.std.proofs.lemmas.List.{append-nil, length-set, take_more, take_all, take-append-drop}
use Rattle.std.specs.List.{AllByRecursion, slice_get}
use Rattle.std.specs.Global.{Vec}
use Rattle.memtable.specs.Chains.{last_or, IsChain, IsLevel}
use Rattle.memtable.specs.Levels.{quarter, AreLevels, AreEnds, AreNumbers}
use Rattle.memtable.proofs.Links.{last-among}
use Rattle.memtable.proofs.Numbers.{Within, AreApart, apart-front, head-apart, numbers-within, numbers-long, numbers-quarter}
use Rattle.memtable.proofs.Orders.{all-map, all-front}
use Rattle.memtable.proofs.Quarters.{last-append}
use Rattle.memtable.proofs.UpperLevels.{with_upper, with-upper-is}

-- from here the links lead over these nodes, wherever the last one leads
abbrev pub IsPath : List ℕ → ℕ → List ℕ → Type 0
IsPath links at [] = Unit {0}
IsPath links at (node ∷ nodes) = (get_or links at 0 ≡ node) × IsPath links node nodes

last-other : (at node : ℕ) (nodes : List ℕ) → AreApart (at ∷ node ∷ nodes) → at ≢ last_or node nodes
last-other at node nodes apart e =
    last-among (λ (n : ℕ). n ≢ at) node nodes [] apart.0.0 (subst (AllByRecursion (λ (n : ℕ). n ≢ at)) (sym (append-nil nodes)) apart.0.1) (sym e)

path-on : (links : List ℕ) (at next : ℕ) (nodes : List ℕ) → IsPath links at nodes → AreApart (at ∷ nodes) → last_or at nodes < length links
    → IsPath (set links (last_or at nodes) next) at (nodes ++ next ∷ [])
path-on links at next [] h apart lt = (get_or-set_same links at next 0 lt, tt)
path-on links at next (node ∷ nodes) h apart lt =
    (get_or-set_other links (last_or node nodes) at next 0 (last-other at node nodes apart) ∙ h.0, path-on links node next nodes h.1 apart.1 lt)

path-ended : (links : List ℕ) (at : ℕ) (nodes : List ℕ) → IsPath links at nodes → AreApart (at ∷ nodes) → last_or at nodes < length links
    → AllByRecursion (λ (n : ℕ). (0 < n) × (n < length links)) nodes → IsChain (set links (last_or at nodes) 0) at nodes
path-ended links at [] h apart lt within = get_or-set_same links at 0 0 lt
path-ended links at (node ∷ nodes) h apart lt within =
    let long = length-set links (last_or node nodes) 0 in (
      get_or-set_other links (last_or node nodes) at 0 0 (last-other at node nodes apart) ∙ h.0,
      within.0.0,
      omega (arith, within.0.1, long),
      path-ended links node nodes h.1 apart.1 lt within.1,
    )

module _ (nodes links : List ℕ) (numbers : AreNumbers (length nodes) nodes) (long : length links ≡ length nodes + 1) where
  inside : AllByRecursion (λ (n : ℕ). (0 < n) × (n < length links)) nodes
  inside = all-map (Within (length nodes)) (λ (n : ℕ). (0 < n) × (n < length links)) nodes (λ n w. (w.0, omega (arith, w.1, long))) (numbers-within (length nodes) nodes numbers)

  module _ (i : ℕ) where
    parted : take i nodes ++ drop i nodes ≡ nodes
    parted = take-append-drop i nodes

    front-inside : AllByRecursion (λ (n : ℕ). (0 < n) × (n < length links)) (take i nodes)
    front-inside = all-front (λ (n : ℕ). (0 < n) × (n < length links)) (take i nodes) (drop i nodes) (subst (AllByRecursion (λ (n : ℕ). (0 < n) × (n < length links))) (sym parted) inside)

    front-apart : AreApart (0 ∷ take i nodes)
    front-apart = apart-front (0 ∷ take i nodes) (drop i nodes) (subst (λ (v : List ℕ). AreApart (0 ∷ v)) (sym parted) (head-apart (length nodes) nodes numbers))

    -- the last node that was led to has a link
    pub last-inside : last_or 0 (take i nodes) < length links
    last-inside =
        last-among (λ (n : ℕ). n < length links) 0 (take i nodes) [] (omega (arith, long))
        (subst (AllByRecursion (λ (n : ℕ). n < length links)) (sym (append-nil (take i nodes)))
        (all-map (λ (n : ℕ). (0 < n) × (n < length links)) (λ (n : ℕ). n < length links) (take i nodes) (λ n w. w.1) front-inside))

    -- and one more is led to
    pub led-on : (before next : ℕ) → i < length nodes → IsPath links 0 (take i nodes) → before ≡ last_or 0 (take i nodes) → next ≡ get_or nodes i 0
        → IsPath (set links before next) 0 (take (i + 1) nodes) × (next ≡ last_or 0 (take (i + 1) nodes))
    led-on before next lt path last is =
        let more : take (i + 1) nodes ≡ take i nodes ++ next ∷ [] = take_more nodes i 0 lt ∙ ap (λ (n : ℕ). take i nodes ++ n ∷ []) (sym is) in (
          subst (IsPath (set links before next) 0) (sym more) (subst (λ (n : ℕ). IsPath (set links n next) 0 (take i nodes ++ next ∷ [])) (sym last) (path-on links 0 next (take i nodes) path front-apart last-inside)),
          sym (ap (last_or 0) more ∙ last-append 0 (take i nodes) (next ∷ [])),
        )

    -- at the end they are a chain
    pub led-whole : (before : ℕ) → length nodes ≤ i → IsPath links 0 (take i nodes) → before ≡ last_or 0 (take i nodes) → IsChain (set links before 0) 0 nodes
    led-whole before le path last =
        let all : take i nodes ≡ nodes = take_all i nodes le in
        subst (λ (n : ℕ). IsChain (set links n 0) 0 nodes) (sym last)
        (subst (λ (v : List ℕ). IsChain (set links (last_or 0 (take i nodes)) 0) 0 v) all (path-ended links 0 (take i nodes) path front-apart last-inside front-inside))

-- a level that is made so
pub level-led : (links : Vec ℕ) (nodes : List ℕ) → vec_len links ≡ length nodes + 1 → IsChain links.items 0 nodes → IsLevel links nodes (length nodes) (length nodes)
level-led links nodes long chain = record {
  chain = chain;
  counted = refl;
  bare = λ e. absurd (omega (arith, e, long));
  made = λ _. long;
  room = λ _. (omega (arith, long), omega (arith, long, links.ok.1));
}

-- ---- levels

-- the next levels have as many nodes as their count says
pub upper-many : (nodes : List ℕ) → AreNumbers (length nodes) nodes → length (quarter nodes) ≡ length nodes / 4
upper-many nodes h = numbers-long (length nodes / 4) (quarter nodes) (numbers-quarter (length nodes) nodes h)

pub upper-numbers : (nodes upper : List ℕ) → upper ≡ quarter nodes → AreNumbers (length nodes) nodes → AreNumbers (length upper) upper
upper-numbers nodes upper is h =
    let above : AreNumbers (length (quarter nodes)) (quarter nodes) = subst (λ (n : ℕ). AreNumbers n (quarter nodes)) (sym (upper-many nodes h)) (numbers-quarter (length nodes) nodes h) in
    subst (λ (v : List ℕ). AreNumbers (length v) v) (sym is) above

pub levels-led : (levels later : List (Vec ℕ)) (new : Vec ℕ) (nodes upper : List ℕ) → 0 < length levels → AreNumbers (length nodes) nodes → upper ≡ quarter nodes
    → IsLevel new nodes (length nodes) (length nodes) → AreLevels later upper (length upper) (length upper)
    → AreLevels (set (with_upper levels later) 0 new) nodes (length nodes) (length nodes)
levels-led [] later new nodes upper some numbers is first above = absurd (omega (arith, some))
levels-led (links ∷ rest) later new nodes upper some numbers is first above =
    let many = upper-many nodes numbers in
    let next : AreLevels later (quarter nodes) (length nodes / 4) (length nodes / 4) =
    subst (λ (n : ℕ). AreLevels later (quarter nodes) n n) many (subst (λ (v : List ℕ). AreLevels later v (length v) (length v)) is above) in
    subst (λ (v : List (Vec ℕ)). AreLevels (set v 0 new) nodes (length nodes) (length nodes)) (sym (with-upper-is links rest later)) (first, next)

pub ends-led : (ends later : List ℕ) (last : ℕ) (nodes upper : List ℕ) → 0 < length ends → last ≡ last_or 0 nodes → upper ≡ quarter nodes → AreEnds later upper
    → AreEnds (set (with_upper ends later) 0 last) nodes
ends-led [] later last nodes upper some is same above = absurd (omega (arith, some))
ends-led (end ∷ rest) later last nodes upper some is same above =
    subst (λ (v : List ℕ). AreEnds (set v 0 last) nodes) (sym (with-upper-is end rest later)) ((nodes, [], sym (append-nil nodes), is), subst (AreEnds later) same above)

-- the last of some nodes
pub got-last : (nodes : List ℕ) (at node k : ℕ) → k ≡ length nodes - 1 → Some node ≡ slice_get nodes k → node ≡ last_or at nodes
got-last [] at node k e h = let no : Some node ≡ None = h in cc
got-last (x ∷ []) at node zero e h = cc
got-last (x ∷ []) at node (suc k) e h = let no : Some node ≡ None = h in cc
got-last (x ∷ next ∷ nodes) at node zero e h = absurd (omega (arith, e))
got-last (x ∷ next ∷ nodes) at node (suc k) e h = got-last (next ∷ nodes) x node k (omega (arith, e)) h
