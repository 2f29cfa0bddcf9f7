-- Steps over entries that aren't seen.
use Rattle.std.proofs.Common.{◌≡◌, ◌+◌, ◌<◌, ◌≤◌, ℕ, List, [], ◌∷◌, ◌++◌, Option, Some, None, length, refl, sym, ap, subst, ◌∙◌, arith, append_assoc, length-append, inl, inr}
use Rattle.std.proofs.lemmas.List.{append-nil}
use Rattle.std.specs.Prelude.{IfSome}
use Rattle.ikey.specs.declared.entry.Entry.{Entry}
use Rattle.memtable.specs.Contents.{entry_at}
use Rattle.memtable.specs.Order.{Placed, ordered}
use Rattle.memtable.specs.Places.{IsPlace, Stands, first_of, last_of, up_to}
use Rattle.memtable.proofs.Orders.{length-ordered, stands-insert}
use Rattle.cursor.specs.Places.{Cmp}
use Rattle.table_access.proofs.Seen.{up_to_seen, up_to_unseen, up_to_append, last_is, last_cases}

module _ (cmp : Cmp) (inserts : List Entry) (sequence : ℕ) (start : Option ℕ) where
  -- how far a walk on has come, after so many steps from a start
  pub record HasCome (at : Option ℕ) (steps : ℕ) : Type 0 where
    pub place : IfSome at (IsPlace inserts)
    pub rest : (front back : List Placed) → ordered cmp inserts ≡ front ++ back → start ≡ first_of back
        → (before : List Placed) × (behind : List Placed) × (ordered cmp inserts ≡ before ++ behind) × (at ≡ first_of behind) × (up_to sequence behind ≡ up_to sequence back)
        × (length behind + steps ≤ length inserts)

  -- the same of an iteration back
  pub record HasComeBack (at : Option ℕ) (steps : ℕ) : Type 0 where
    pub place : IfSome at (IsPlace inserts)
    pub rest : (front back : List Placed) → ordered cmp inserts ≡ front ++ back → start ≡ last_of front
        → (before : List Placed) × (behind : List Placed) × (ordered cmp inserts ≡ before ++ behind) × (at ≡ last_of before) × (last_of (up_to sequence before) ≡ last_of (up_to sequence front))
        × (length before + steps ≤ length inserts)

  whole : (front back : List Placed) → ordered cmp inserts ≡ front ++ back → length front + length back ≡ length inserts
  whole front back is = sym (length-append front back) ∙ (ap length (sym is) ∙ length-ordered cmp inserts)

  pub starts : IfSome start (IsPlace inserts) → HasCome start 0
  starts h = record {
    place = h;
    rest = λ front back is from. (front, back, is, from, refl, (let long = whole front back is in omega (arith, long)));
  }

  pub starts_back : IfSome start (IsPlace inserts) → HasComeBack start 0
  starts_back h = record {
    place = h;
    rest = λ front back is from. (front, back, is, from, refl, (let long = whole front back is in omega (arith, long)));
  }

  -- the entry of a node that stands somewhere
  entry_is : (front back : List Placed) (one : Placed) (entry : Entry) → ordered cmp inserts ≡ front ++ one ∷ back → entry_at inserts one.node ≡ Some entry → one.entry ≡ entry
  entry_is front back one entry is at =
      let both : Some one.entry ≡ Some entry = sym (stands-insert cmp inserts front back one.node one.entry is).1 ∙ at in cc

  -- ---- on

  none_on : (behind : List Placed) → first_of behind ≡ None → behind ≡ []
  none_on [] e = refl
  none_on (one ∷ behind) e = absurd cc

  pub ends : (steps : ℕ) (at : Option ℕ) → at ≡ None → HasCome at steps → (front back : List Placed) → ordered cmp inserts ≡ front ++ back → start ≡ first_of back → None ≡ first_of (up_to sequence back)
  ends steps at none h front back is from =
      let r = h.rest front back is from in
      ap (λ (v : List Placed). first_of (up_to sequence v)) (sym (none_on r.1 (sym r.3 ∙ none))) ∙ ap first_of r.4

  pub is_full : (steps : ℕ) (at : Option ℕ) → length inserts ≤ steps → HasCome at steps → (front back : List Placed) → ordered cmp inserts ≡ front ++ back → start ≡ first_of back → None ≡ first_of (up_to sequence back)
  is_full steps at full h front back is from =
      let r = h.rest front back is from in
      ap (λ (v : List Placed). first_of (up_to sequence v)) (sym (empty r.1 (omega (arith, r.5, full)))) ∙ ap first_of r.4
    where
      empty : (placed : List Placed) → length placed ≡ 0 → placed ≡ []
      empty [] e = refl
      empty (one ∷ placed) e = absurd (omega (arith, e))

  found_at : (behind before back : List Placed) (place : ℕ) (entry : Entry) → ordered cmp inserts ≡ before ++ behind → Some place ≡ first_of behind → entry_at inserts place ≡ Some entry → entry.sequence ≤ sequence
      → up_to sequence behind ≡ up_to sequence back → Some place ≡ first_of (up_to sequence back)
  found_at [] before back place entry is at kept seen same = absurd cc
  found_at (one ∷ later) before back place entry is at kept seen same =
      let node : place ≡ one.node = cc in
      let entry_same : one.entry ≡ entry = entry_is before later one entry is (ap (entry_at inserts) (sym node) ∙ kept) in
      let one_seen : one.entry.sequence ≤ sequence = subst (λ (e : Entry). e.sequence ≤ sequence) (sym entry_same) seen in
      at ∙ (ap first_of (sym (up_to_seen sequence one later one_seen)) ∙ ap first_of same)

  pub finds : (steps : ℕ) (at : Option ℕ) (place : ℕ) (entry : Entry) → at ≡ Some place → entry_at inserts place ≡ Some entry → entry.sequence ≤ sequence → HasCome at steps
      → (front back : List Placed) → ordered cmp inserts ≡ front ++ back → start ≡ first_of back → Some place ≡ first_of (up_to sequence back)
  finds steps at place entry is_at kept seen h front back is from =
      let r = h.rest front back is from in found_at r.1 r.0 back place entry r.2 (sym is_at ∙ r.3) kept seen r.4

  step_at : (behind before back : List Placed) (place steps : ℕ) (entry : Entry) (next : Option ℕ) → ordered cmp inserts ≡ before ++ behind → Some place ≡ first_of behind → entry_at inserts place ≡ Some entry
      → sequence < entry.sequence → ((front back : List Placed) (entry : Entry) → Stands cmp inserts front place entry back → next ≡ first_of back)
      → up_to sequence behind ≡ up_to sequence back → length behind + steps ≤ length inserts
      → (before : List Placed) × (behind : List Placed) × (ordered cmp inserts ≡ before ++ behind) × (next ≡ first_of behind) × (up_to sequence behind ≡ up_to sequence back) × (length behind + (steps + 1) ≤ length inserts)
  step_at [] before back place steps entry next is at kept unseen neighbour same few = absurd cc
  step_at (one ∷ later) before back place steps entry next is at kept unseen neighbour same few =
      let node : place ≡ one.node = cc in
      let entry_same : one.entry ≡ entry = entry_is before later one entry is (ap (entry_at inserts) (sym node) ∙ kept) in
      let one_unseen : sequence < one.entry.sequence = subst (λ (e : Entry). sequence < e.sequence) (sym entry_same) unseen in
      let stands : Stands cmp inserts before place one.entry later = is ∙ ap (λ (n : ℕ). before ++ record { node = n; entry = one.entry } ∷ later) (sym node) in
      (before ++ one ∷ [], later, is ∙ sym (append_assoc before (one ∷ []) later), neighbour before later one.entry stands, sym (up_to_unseen sequence one later one_unseen) ∙ same, omega (arith, few))

  pub steps_on : (steps : ℕ) (at next : Option ℕ) (place : ℕ) (entry : Entry) → at ≡ Some place → entry_at inserts place ≡ Some entry → sequence < entry.sequence
      → ((front back : List Placed) (entry : Entry) → Stands cmp inserts front place entry back → next ≡ first_of back) → IfSome next (IsPlace inserts) → HasCome at steps → HasCome next (steps + 1)
  steps_on steps at next place entry is_at kept unseen neighbour within h = record {
    place = within;
    rest = λ front back is from. let r = h.rest front back is from in step_at r.1 r.0 back place steps entry next r.2 (sym is_at ∙ r.3) kept unseen neighbour r.4 r.5;
  }

  -- ---- back

  pub ends_back : (steps : ℕ) (at : Option ℕ) → at ≡ None → HasComeBack at steps → (front back : List Placed) → ordered cmp inserts ≡ front ++ back → start ≡ last_of front → None ≡ last_of (up_to sequence front)
  ends_back steps at none h front back is from =
      let r = h.rest front back is from in
      elim (last_cases r.0) [
        | inl e ↦ ap (λ (v : List Placed). last_of (up_to sequence v)) (sym e) ∙ r.4
        | inr x ↦ let bad : None ≡ Some x.1.node = sym none ∙ (r.3 ∙ (ap last_of x.2 ∙ last_is x.0 x.1)) in absurd cc
      ]

  pub is_full_back : (steps : ℕ) (at : Option ℕ) → length inserts ≤ steps → HasComeBack at steps → (front back : List Placed) → ordered cmp inserts ≡ front ++ back → start ≡ last_of front
      → None ≡ last_of (up_to sequence front)
  is_full_back steps at full h front back is from =
      let r = h.rest front back is from in
      elim (last_cases r.0) [
        | inl e ↦ ap (λ (v : List Placed). last_of (up_to sequence v)) (sym e) ∙ r.4
        | inr x ↦ let long : length r.0 ≡ length x.0 + 1 = ap length x.2 ∙ length-append x.0 (x.1 ∷ []) in absurd (omega (arith, long, r.5, full))
      ]

  -- the last entry of those in front, and what is before it
  last_at : (before behind : List Placed) (place : ℕ) (entry : Entry) → ordered cmp inserts ≡ before ++ behind → Some place ≡ last_of before → entry_at inserts place ≡ Some entry
      → (front : List Placed) × (before ≡ front ++ record { node = place; entry = entry } ∷ []) × (ordered cmp inserts ≡ front ++ record { node = place; entry = entry } ∷ behind)
  last_at before behind place entry is at kept = elim (last_cases before) [
    | inl e ↦ let bad : Some place ≡ None = at ∙ ap last_of e in absurd cc
    | inr x ↦
        let both : Some place ≡ Some x.1.node = at ∙ (ap last_of x.2 ∙ last_is x.0 x.1) in
        let node : place ≡ x.1.node = cc in
        let whole : ordered cmp inserts ≡ x.0 ++ x.1 ∷ behind = is ∙ (ap (λ (v : List Placed). v ++ behind) x.2 ∙ append_assoc x.0 (x.1 ∷ []) behind) in
        let entry_same : x.1.entry ≡ entry = entry_is x.0 behind x.1 entry whole (ap (entry_at inserts) (sym node) ∙ kept) in
        let one_is : x.1 ≡ record { node = place; entry = entry } = (λ i. record { node = sym node i; entry = entry_same i }) in
        (x.0, x.2 ∙ ap (λ (v : Placed). x.0 ++ v ∷ []) one_is, whole ∙ ap (λ (v : Placed). x.0 ++ v ∷ behind) one_is)
  ]

  pub finds_back : (steps : ℕ) (at : Option ℕ) (place : ℕ) (entry : Entry) → at ≡ Some place → entry_at inserts place ≡ Some entry → entry.sequence ≤ sequence → HasComeBack at steps
      → (front back : List Placed) → ordered cmp inserts ≡ front ++ back → start ≡ last_of front → Some place ≡ last_of (up_to sequence front)
  finds_back steps at place entry is_at kept seen h front back is from =
      let r = h.rest front back is from in
      let l = last_at r.0 r.1 place entry r.2 (sym is_at ∙ r.3) kept in
      let one : Placed = record { node = place; entry = entry } in
      let seen_is : up_to sequence r.0 ≡ up_to sequence l.0 ++ one ∷ [] =
      ap (up_to sequence) l.1 ∙ (up_to_append sequence l.0 (one ∷ []) ∙ ap (λ (v : List Placed). up_to sequence l.0 ++ v) (up_to_seen sequence one [] seen)) in
      sym (last_is (up_to sequence l.0) one) ∙ (ap last_of (sym seen_is) ∙ r.4)

  pub steps_back : (steps : ℕ) (at next : Option ℕ) (place : ℕ) (entry : Entry) → at ≡ Some place → entry_at inserts place ≡ Some entry → sequence < entry.sequence
      → ((front back : List Placed) (entry : Entry) → Stands cmp inserts front place entry back → next ≡ last_of front) → IfSome next (IsPlace inserts) → HasComeBack at steps → HasComeBack next (steps + 1)
  steps_back steps at next place entry is_at kept unseen neighbour within h = record {
    place = within;
    rest = λ front back is from.
        let r = h.rest front back is from in
        let l = last_at r.0 r.1 place entry r.2 (sym is_at ∙ r.3) kept in
        let one : Placed = record { node = place; entry = entry } in
        let seen_is : up_to sequence r.0 ≡ up_to sequence l.0 =
        ap (up_to sequence) l.1 ∙ (up_to_append sequence l.0 (one ∷ []) ∙ (ap (λ (v : List Placed). up_to sequence l.0 ++ v) (up_to_unseen sequence one [] unseen) ∙ append-nil (up_to sequence l.0))) in
        let long : length r.0 ≡ length l.0 + 1 = ap length l.1 ∙ length-append l.0 (one ∷ []) in
        (l.0, one ∷ r.1, l.2, neighbour l.0 r.1 entry l.2, ap last_of (sym seen_is) ∙ r.4, omega (arith, long, r.5));
  }

-- a node has one entry
pub seen_is : (inserts : List Entry) (sequence place : ℕ) (kept entry : Entry) → entry_at inserts place ≡ Some kept → kept.sequence ≤ sequence → entry_at inserts place ≡ Some entry → entry.sequence ≤ sequence
seen_is inserts sequence place kept entry at seen other =
    let both : Some kept ≡ Some entry = sym at ∙ other in
    let same : kept ≡ entry = cc in
    subst (λ (e : Entry). e.sequence ≤ sequence) same seen
