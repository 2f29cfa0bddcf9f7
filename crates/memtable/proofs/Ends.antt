-- Nodes from which the ends of levels are sought, and a node that goes after all.
use Rattle.std.proofs.Common.{◌≡◌, ◌+◌, ◌/◌, ◌<◌, ◌≤◌, ℕ, zero, suc, List, [], ◌∷◌, ◌++◌, length, drop, get_or, set, refl, sym, ap, subst, ◌∙◌, arith, length-append, Bool, vec_len}
use Rattle.std.proofs.lemmas.List.{append-nil}
use Rattle.std.specs.Global.{Vec}
use Rattle.memtable.specs.Chains.{last_or, IsChain, IsLevel}
use Rattle.memtable.specs.Levels.{quarter, number_above, joined, count_with, AreLevels, IsEnd, AreEnds, HasPlace, HasNext}
use Rattle.memtable.proofs.Links.{chain-drop}
use Rattle.memtable.proofs.Quarters.{quarter-append, quarter-joined, last-append, next-above, joined-positive}
use Rattle.memtable.proofs.UpperLevels.{upper_of, with_upper, upper-is, with-upper-is, first-level, first-kept, level-long, level-next, level-inside, levels-joined}

-- ---- nodes stay where others are taken in

end-grows : (at number : ℕ) (near far front back : List ℕ) → front ++ back ≡ near ++ far
    → (nearer : List ℕ) × (farther : List ℕ) × (front ++ number ∷ back ≡ nearer ++ farther) × (last_or at near ≡ last_or at nearer)
end-grows at number [] far front back e = ([], front ++ number ∷ back, refl, refl)
end-grows at number (x ∷ near) far [] back e = (number ∷ x ∷ near, far, ap (λ (v : List ℕ). number ∷ v) e, refl)
end-grows at number (x ∷ near) far (y ∷ front) back e =
    let head : y ≡ x = ap (λ (v : List ℕ). get_or v 0 0) e in
    let more = end-grows x number near far front back (ap (drop 1) e) in
    let whole = more.2 in
    (x ∷ more.0, more.1, (λ i. head i ∷ whole i), more.3)

end-joined : (end number : ℕ) (front back : List ℕ) → IsEnd end (front ++ back) → IsEnd end (joined front number back)
end-joined end zero front back h = h
end-joined end (suc before) front back h = let more = end-grows 0 (suc before) h.0 h.1 front back h.2 in (more.0, more.1, more.2, h.3 ∙ more.3)

pub ends-joined : (ends : List ℕ) (number : ℕ) (front back : List ℕ) → AreEnds ends (front ++ back) → AreEnds ends (joined front number back)
ends-joined [] number front back h = tt
ends-joined (end ∷ ends) number front back h = (
  end-joined end number front back h.0,
  subst (AreEnds ends) (sym (quarter-joined front back number))
      (ends-joined ends (number_above number) (quarter front) (quarter back) (subst (AreEnds ends) (quarter-append front back) h.1)),
)

-- where there are no nodes, each may be the head
pub head-ends : (n : ℕ) (ends : List ℕ) → ((i : ℕ) → get_or ends i 0 ≡ 0) → AreEnds ends []
head-ends n [] zeroes = tt
head-ends n (end ∷ ends) zeroes = (([], [], refl, zeroes 0), head-ends n ends (λ i. zeroes (suc i)))

-- ---- a node after all

pub next-of-place : (test : ℕ → Bool) (levels : List (Vec ℕ)) (ends : List ℕ) (number : ℕ) (front back : List ℕ) (count total : ℕ) → back ≡ []
    → HasPlace test levels number front back count total → AreEnds ends (front ++ back) → HasNext levels ends number front count total
next-of-place test levels ends number front back count total none h e =
    let nodes : front ++ back ≡ front = ap (λ (v : List ℕ). front ++ v) none ∙ append-nil front in
    record {
      lead = subst (λ (v : List ℕ). AreLevels levels v count total) nodes h.lead;
      ends_in = subst (AreEnds ends) nodes e;
      next = h.next;
      room = h.room;
      few = h.few;
    }

pub upper-next : (levels : List (Vec ℕ)) (ends : List ℕ) (number upper : ℕ) (nodes : List ℕ) (count total : ℕ) → 0 < length levels → length ends ≡ length levels
    → upper ≡ number_above number → HasNext levels ends number nodes count total
    → HasNext (upper_of levels) (upper_of ends) upper (quarter nodes) (count / 4) (total / 4)
upper-next [] ends number upper nodes count total some same is h = absurd (omega (arith, some))
upper-next (links ∷ rest) [] number upper nodes count total some same is h = absurd (omega (arith, same))
upper-next (links ∷ rest) (end ∷ ends) number upper nodes count total some same is h =
    let next = next-above number count total h.next h.room in
    record {
      lead = subst (λ (v : List (Vec ℕ)). AreLevels v (quarter nodes) (count / 4) (total / 4)) (sym (upper-is links rest)) h.lead.1;
      ends_in = subst (λ (v : List ℕ). AreEnds v (quarter nodes)) (sym (upper-is end ends)) h.ends_in.1;
      next = λ p. is ∙ (next (subst (λ (n : ℕ). 0 < n) is p)).0;
      room = λ p. subst (λ (n : ℕ). n ≤ total / 4) (sym is) (next (subst (λ (n : ℕ). 0 < n) is p)).1;
      few = omega (arith, h.few);
    }

-- the walk from an end comes to the last node
pub end-found : (levels later : List (Vec ℕ)) (ends last : List ℕ) (d : Vec ℕ) (number from found : ℕ) (seen nodes : List ℕ) (count total : ℕ) → 0 < length levels
    → length ends ≡ length levels → HasNext levels ends number nodes count total → from ≡ get_or (with_upper ends last) 0 0
    → seen ≡ (get_or (with_upper levels later) 0 d).items
    → ((rest : List ℕ) → IsChain seen from rest → length rest ≤ length seen → found ≡ last_or from rest) → found ≡ last_or 0 nodes
end-found levels later [] last d number from found seen nodes count total some same h is seen-is walk = absurd (omega (arith, some, same))
end-found levels later (end ∷ ends) last d number from found seen nodes count total some same h is seen-is walk =
    let level = first-level levels d nodes count total some h.lead in
    let links = get_or levels 0 d in
    let e = h.ends_in.0 in
    let near = e.0 in let far = e.1 in
    let start : from ≡ last_or 0 near = is ∙ ap (λ (v : List ℕ). get_or v 0 0) (with-upper-is end ends last) ∙ e.3 in
    let items : seen ≡ links.items = seen-is ∙ ap (λ (v : Vec ℕ). v.items) (first-kept levels later d some) in
    let chain : IsChain links.items (last_or 0 near) far = chain-drop links.items 0 near far (subst (IsChain links.items 0) e.2 level.chain) in
    let long : length far ≤ length links.items = omega (arith, level-long links nodes count total level, ap (λ (v : List ℕ). length v) e.2, length-append near far) in
    walk far (subst (λ (v : List ℕ). IsChain v from far) (sym items) (subst (λ (n : ℕ). IsChain links.items n far) (sym start) chain))
    (subst (λ (v : List ℕ). length far ≤ length v) (sym items) long)
    ∙ ap (λ (n : ℕ). last_or n far) start ∙ sym (last-append 0 near far) ∙ ap (last_or 0) (sym e.2)

-- the levels with the node after all
pub levels-appended : (levels later : List (Vec ℕ)) (d new : Vec ℕ) (number upper : ℕ) (nodes : List ℕ) (count total : ℕ) → 0 < length levels → 0 < number
    → upper ≡ number_above number → (0 < number → number ≡ count + 1) → IsLevel new (nodes ++ (count + 1) ∷ []) (count + 1) total
    → AreLevels later (joined (quarter nodes) upper []) (count_with upper (count / 4)) (total / 4)
    → AreLevels (set (with_upper levels later) 0 new) (joined nodes number []) (count_with number count) total
levels-appended levels later d new number upper nodes count total some positive is next low above =
    levels-joined levels later d new number upper nodes [] count total some is next (level-next new nodes [] number count total (next positive) low) above

-- and the ends
pub ends-appended : (ends later : List ℕ) (number upper : ℕ) (nodes : List ℕ) → 0 < length ends → 0 < number → upper ≡ number_above number
    → AreEnds later (joined (quarter nodes) upper []) → AreEnds (set (with_upper ends later) 0 number) (joined nodes number [])
ends-appended [] later number upper nodes some positive is above = absurd (omega (arith, some))
ends-appended (end ∷ ends) later number upper nodes some positive is above =
    let whole : joined nodes number [] ≡ nodes ++ number ∷ [] = joined-positive nodes [] number positive in
    let last : number ≡ last_or 0 (joined nodes number []) = sym (ap (last_or 0) whole ∙ last-append 0 nodes (number ∷ [])) in
    let rest : joined (quarter nodes) upper [] ≡ quarter (joined nodes number []) =
    ap (λ (n : ℕ). joined (quarter nodes) n []) is ∙ sym (quarter-joined nodes [] number) in
    subst (λ (v : List ℕ). AreEnds (set v 0 number) (joined nodes number [])) (sym (with-upper-is end ends later))
    ((joined nodes number [], [], sym (append-nil (joined nodes number [])), last), subst (AreEnds later) rest above)

-- ---- where nothing is taken in

pub no-levels : (levels : List (Vec ℕ)) (nodes : List ℕ) (count total : ℕ) → length levels ≡ 0 → AreLevels levels nodes count total
no-levels [] nodes count total none = tt
no-levels (links ∷ rest) nodes count total none = absurd (omega (arith, none))

pub no-ends : (ends nodes : List ℕ) → length ends ≡ 0 → AreEnds ends nodes
no-ends [] nodes none = tt
no-ends (end ∷ ends) nodes none = absurd (omega (arith, none))

pub none-appended : (levels : List (Vec ℕ)) (ends : List ℕ) (number : ℕ) (nodes : List ℕ) (count total : ℕ) → number ≡ 0 → HasNext levels ends number nodes count total
    → AreLevels levels (joined nodes number []) (count_with number count) total × AreEnds ends (joined nodes number [])
none-appended levels ends zero nodes count total none h =
    (subst (λ (v : List ℕ). AreLevels levels v count total) (sym (append-nil nodes)) h.lead, subst (AreEnds ends) (sym (append-nil nodes)) h.ends_in)
none-appended levels ends (suc before) nodes count total none h = absurd (omega (arith, none))

-- ---- the lowest level, after those above it

pub level-before : (levels later : List (Vec ℕ)) (d : Vec ℕ) (ends : List ℕ) (number : ℕ) (nodes : List ℕ) (count total : ℕ) → 0 < length levels
    → HasNext levels ends number nodes count total → IsLevel (get_or (with_upper levels later) 0 d) (nodes ++ []) count total
level-before levels later d ends number nodes count total some h =
    rw (first-kept levels later d some)
    (subst (λ (v : List ℕ). IsLevel (get_or levels 0 d) v count total) (sym (append-nil nodes)) (first-level levels d nodes count total some h.lead))

pub end-inside : (levels later : List (Vec ℕ)) (d : Vec ℕ) (ends : List ℕ) (number found : ℕ) (nodes : List ℕ) (count total : ℕ) → 0 < length levels → 0 < number
    → HasNext levels ends number nodes count total → found ≡ last_or 0 nodes → found < vec_len (get_or (with_upper levels later) 0 d)
end-inside levels later d ends number found nodes count total some positive h is =
    let room : 0 < total = omega (arith, h.room positive, positive) in
    let inside = level-inside (get_or (with_upper levels later) 0 d) nodes [] count total (level-before levels later d ends number nodes count total some h) room in
    rw is inside
