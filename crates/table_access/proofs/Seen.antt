-- The entries up to a sequence number.
use Rattle.std.proofs.Common.{◌≡◌, ◌⊎◌, ◌<◌, ◌≤◌, ℕ, Bool, true, false, nat_le, cond, List, [], ◌∷◌, ◌++◌, Some, refl, sym, ap, subst, ◌∙◌, inl, inr}
use Rattle.std.proofs.lemmas.Bool.{cond_both, cases_lt, lt-leb, le-leb}
use Rattle.std.specs.List.{AllByRecursion}
use Rattle.std.proofs.lemmas.List.{reverse-append}
use Rattle.memtable.specs.Order.{Placed}
use Rattle.memtable.specs.Places.{first_of, last_of, up_to}

module _ (sequence : ℕ) where
  pub up_to_seen : (one : Placed) (later : List Placed) → one.entry.sequence ≤ sequence → up_to sequence (one ∷ later) ≡ one ∷ up_to sequence later
  up_to_seen one later h = ap (λ (b : Bool). cond b (one ∷ up_to sequence later) (up_to sequence later)) (le-leb one.entry.sequence sequence h)

  pub up_to_unseen : (one : Placed) (later : List Placed) → sequence < one.entry.sequence → up_to sequence (one ∷ later) ≡ up_to sequence later
  up_to_unseen one later h = ap (λ (b : Bool). cond b (one ∷ up_to sequence later) (up_to sequence later)) (lt-leb one.entry.sequence sequence h)

  cond-append : (b : Bool) (one : Placed) (xs ys : List Placed) → cond b (one ∷ (xs ++ ys)) (xs ++ ys) ≡ cond b (one ∷ xs) xs ++ ys
  cond-append true one xs ys = refl
  cond-append false one xs ys = refl

  pub up_to_append : (front back : List Placed) → up_to sequence (front ++ back) ≡ up_to sequence front ++ up_to sequence back
  up_to_append [] back = refl
  up_to_append (one ∷ front) back =
      ap (λ (v : List Placed). cond (nat_le one.entry.sequence sequence) (one ∷ v) v) (up_to_append front back)
      ∙ cond-append (nat_le one.entry.sequence sequence) one (up_to sequence front) (up_to sequence back)

-- ---- ends of lists

pub last_is : (front : List Placed) (one : Placed) → last_of (front ++ one ∷ []) ≡ Some one.node
last_is front one = ap first_of (reverse-append front (one ∷ []))

-- a list has a last entry, or it has none
pub last_cases : (placed : List Placed) → (placed ≡ []) ⊎ ((front : List Placed) × (one : Placed) × (placed ≡ front ++ one ∷ []))
last_cases [] = inl refl
last_cases (one ∷ later) = elim (last_cases later) [
  | inl e ↦ inr ([], one, ap (λ (v : List Placed). one ∷ v) e)
  | inr h ↦ inr (one ∷ h.0, h.1, ap (λ (v : List Placed). one ∷ v) h.2)
]

-- ---- entries among those that are seen

module _ (sequence : ℕ) where
  pub all_up_to : (P : Placed → Type 0) (placed : List Placed) → AllByRecursion P placed → AllByRecursion P (up_to sequence placed)
  all_up_to P [] h = tt
  all_up_to P (one ∷ later) h =
      cond_both (nat_le one.entry.sequence sequence) (one ∷ up_to sequence later) (up_to sequence later) (AllByRecursion P) (λ _. (h.0, all_up_to P later h.1)) (λ _. all_up_to P later h.1)

  -- an entry that is seen, with those before it and after it, among all
  pub record IsFoundSeen (placed front : List Placed) (one : Placed) (back : List Placed) : Type 0 where
    pub before : List Placed
    pub behind : List Placed
    pub placed_is : placed ≡ before ++ one ∷ behind
    pub front_is : up_to sequence before ≡ front
    pub back_is : up_to sequence behind ≡ back
    pub seen : one.entry.sequence ≤ sequence

  empty : (front : List Placed) (one : Placed) (back : List Placed) → [] ≡ front ++ one ∷ back → ⊥
  empty [] one back e = cc
  empty (x ∷ front) one back e = cc

  first_found : (first one : Placed) (later front back : List Placed) → first.entry.sequence ≤ sequence → ((front : List Placed) → up_to sequence later ≡ front ++ one ∷ back → IsFoundSeen later front one back)
      → first ∷ up_to sequence later ≡ front ++ one ∷ back → IsFoundSeen (first ∷ later) front one back
  first_found first one later [] back seen rest e =
      let same : first ≡ one = cc in
      let behind : up_to sequence later ≡ back = cc in
      record { before = []; behind = later; placed_is = ap (λ (v : Placed). v ∷ later) same; front_is = refl; back_is = behind; seen = subst (λ (v : Placed). v.entry.sequence ≤ sequence) same seen }
  first_found first one later (x ∷ front) back seen rest e =
      let same : first ≡ x = cc in
      let behind : up_to sequence later ≡ front ++ one ∷ back = cc in
      let r = rest front behind in
      record {
        before = first ∷ r.before;
        behind = r.behind;
        placed_is = ap (λ (v : List Placed). first ∷ v) r.placed_is;
        front_is = up_to_seen sequence first r.before seen ∙ (λ i. same i ∷ r.front_is i);
        back_is = r.back_is;
        seen = r.seen;
      }

  pub find_seen : (placed front : List Placed) (one : Placed) (back : List Placed) → up_to sequence placed ≡ front ++ one ∷ back → IsFoundSeen placed front one back
  find_seen [] front one back e = absurd (empty front one back e)
  find_seen (first ∷ later) front one back e = elim (cases_lt sequence first.entry.sequence) [
    | inl unseen ↦
        let r = find_seen later front one back (sym (up_to_unseen sequence first later unseen) ∙ e) in
        record {
          before = first ∷ r.before;
          behind = r.behind;
          placed_is = ap (λ (v : List Placed). first ∷ v) r.placed_is;
          front_is = up_to_unseen sequence first r.before unseen ∙ r.front_is;
          back_is = r.back_is;
          seen = r.seen;
        }
    | inr seen ↦ first_found first one later front back seen (λ f g. find_seen later f one back g) (sym (up_to_seen sequence first later seen) ∙ e)
  ]
