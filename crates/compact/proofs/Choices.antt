-- One entry more: what was needed before it, and what is now.
use Rattle.std.proofs.Common.{◌≡◌, ◌⊎◌, ◌<◌, ◌≤◌, ℕ, Bool, Option, Some, None, IsTrue, IsSome, List, [], ◌∷◌, ◌++◌, map, length, slice_index, inl, inr, refl, sym, ap, subst, ◌∙◌, arith}
use Rattle.std.proofs.lemmas.Bool.{cases_lt}
use Rattle.std.proofs.lemmas.List.{append_assoc, append-nil, map-append, get_or_default}
use Rattle.std.specs.declared.cmp.Ordering.{Ordering}
use Rattle.std.specs.declared.cmp.Ordering.TheVariants.{Less, Equal, Greater}
use Rattle.std.specs.Cmp.{IsTotalOrder, tied_itself}
use Rattle.std.specs.Ordering.{ordering_reverse}
use Rattle.ikey.specs.declared.entry.Entry.{Entry}
use Rattle.ikey.specs.declared.internal_key.Kind.TheVariants.{Delete, Put}
use Rattle.ikey.specs.Entries.{kind_of}
use Rattle.ikey.specs.Views.{Among, IsNewest}
use Rattle.compact.specs.Lists.{IsPartWith}
use Rattle.compact.specs.Needed.{IsSeenBySome, IsOlderPut, IsNeeded}
use Rattle.compact.specs.Choosing.{Choosing, ComesBehind, delete_of, IsChosen, Chooses}
use Rattle.compact.specs.Steps.{TurnsTo, Sees}
use Rattle.compact.proofs.Parts.{Among-left, Among-right, Among-end, Among-push, part-along, part-append, part-none, part-nothing, part-one, part-not-one, part-has}

-- ---- kinds

pub some_of : (value : Option (List ℕ)) → kind_of value ≡ Put → IsSome value
some_of None e = let t : Delete ≡ Put = e in cc
some_of (Some v) e = refl

pub none_of : (value : Option (List ℕ)) → kind_of value ≡ Delete → value ≡ None
none_of None e = refl
none_of (Some v) e = let t : Put ≡ Delete = e in cc

not_both : (value : Option (List ℕ)) → IsSome value → value ≡ None → ⊥
not_both None some e = cc
not_both (Some v) some e = cc

-- ---- an entry that came is seen as before

-- the entries of the same key that came are newer
abbrev pub IsOldest : List Entry → Entry → Type 0
IsOldest came entry = (other : Entry) → Among came other → other.key ≡ entry.key → entry.sequence < other.sequence

newest-more : (came : List Entry) (entry : Entry) (p : ℕ) (x : Entry) → IsOldest came entry → IsNewest came p x → IsNewest (came ++ entry ∷ []) p x
newest-more came entry p x oldest h = record {
  member = Among-left came (entry ∷ []) x h.member;
  seen = h.seen;
  greatest = λ other m same up. elim (Among-push came entry other m) [
    | inl n ↦ h.greatest other n same up
    | inr e ↦
        let newer : entry.sequence < x.sequence = oldest x h.member (sym same ∙ ap (λ (o : Entry). o.key) e) in
        let at : other.sequence ≡ entry.sequence = ap (λ (o : Entry). o.sequence) e in
        omega (arith, newer, at)
  ];
}

newest-less : (came : List Entry) (entry : Entry) (p : ℕ) (x : Entry) → Among came x → IsNewest (came ++ entry ∷ []) p x → IsNewest came p x
newest-less came entry p x member h = record {
  member = member;
  seen = h.seen;
  greatest = λ other m. h.greatest other (Among-left came (entry ∷ []) other m);
}

visible-more : (came : List Entry) (entry : Entry) (sequences : List ℕ) (x : Entry) → IsOldest came entry → IsSeenBySome came sequences x → IsSeenBySome (came ++ entry ∷ []) sequences x
visible-more came entry sequences x oldest (p, has, h) = (p, has, newest-more came entry p x oldest h)

visible-less : (came : List Entry) (entry : Entry) (sequences : List ℕ) (x : Entry) → Among came x → IsSeenBySome (came ++ entry ∷ []) sequences x → IsSeenBySome came sequences x
visible-less came entry sequences x member (p, has, h) = (p, has, newest-less came entry p x member h)

older-more : (came : List Entry) (entry : Entry) (sequences : List ℕ) (x put : Entry) → IsOldest came entry → IsOlderPut came sequences x put → IsOlderPut (came ++ entry ∷ []) sequences x put
older-more came entry sequences x put oldest h = record {
  same_key = h.same_key;
  older = h.older;
  is_put = h.is_put;
  visible = visible-more came entry sequences put oldest h.visible;
}

older-less : (came : List Entry) (entry : Entry) (sequences : List ℕ) (x put : Entry) → Among came put → IsOlderPut (came ++ entry ∷ []) sequences x put → IsOlderPut came sequences x put
older-less came entry sequences x put member h = record {
  same_key = h.same_key;
  older = h.older;
  is_put = h.is_put;
  visible = visible-less came entry sequences put member h.visible;
}

needed-more : (came : List Entry) (entry : Entry) (sequences : List ℕ) (deep : List ℕ → Bool) (x : Entry) → IsOldest came entry → IsNeeded came sequences deep x → IsNeeded (came ++ entry ∷ []) sequences deep x
needed-more came entry sequences deep x oldest h = record {
  visible = visible-more came entry sequences x oldest h.visible;
  hides = λ none. elim (h.hides none) [
    | inl covered ↦ inl covered
    | inr found ↦ inr (found.0, older-more came entry sequences x found.0 oldest found.1)
  ];
}

-- And it is needed as before, or the entry is a put of its key.
needed-less : (came : List Entry) (entry : Entry) (sequences : List ℕ) (deep : List ℕ → Bool) (x : Entry) → Among came x
    → (entry.key ≡ x.key → IsSome entry.value → IsSeenBySome (came ++ entry ∷ []) sequences entry → IsNeeded came sequences deep x)
    → IsNeeded (came ++ entry ∷ []) sequences deep x → IsNeeded came sequences deep x
needed-less came entry sequences deep x member put h = record {
  visible = visible-less came entry sequences x member h.visible;
  hides = λ none. elim (h.hides none) [
    | inl covered ↦ inl covered
    | inr found ↦ elim (Among-push came entry found.0 found.1.visible.2.member) [
      | inl m ↦ inr (found.0, older-less came entry sequences x found.0 m found.1)
      | inr e ↦
          let o : IsOlderPut (came ++ entry ∷ []) sequences x entry = subst (IsOlderPut (came ++ entry ∷ []) sequences x) e found.1 in
          (put o.same_key o.is_put o.visible).hides none
    ]
  ];
}

-- ---- whether the entry itself is seen

module _ (came : List Entry) (entry : Entry) (c : Choosing) (unseen : ℕ) (same : entry.key ≡ c.key) (oldest : IsOldest came entry)
    (below : (k : ℕ) → k < c.unseen → (other : Entry) → Among came other → other.key ≡ c.key → slice_index c.snapshots k < other.sequence)
    (above : (k : ℕ) → c.unseen ≤ k → k < length c.snapshots → (other : Entry) × Among came other × (other.key ≡ c.key) × (other.sequence ≤ slice_index c.snapshots k))
    (within : c.unseen ≤ length c.snapshots) where
  seen-visible : ((k : ℕ) → unseen ≤ k → k < c.unseen → entry.sequence ≤ slice_index c.snapshots k) → unseen < c.unseen → IsSeenBySome (came ++ entry ∷ []) c.snapshots entry
  seen-visible sees less = (
    slice_index c.snapshots unseen,
    (unseen, omega (arith, less, within), get_or_default c.snapshots unseen (slice_index c.snapshots unseen) 0 (omega (arith, less, within))),
    record {
      member = Among-end came entry;
      seen = sees unseen (omega arith) less;
      greatest = λ other m is up. elim (Among-push came entry other m) [
        | inl n ↦ absurd (omega (arith, below unseen less other n (is ∙ same), up))
        | inr e ↦ let at : other.sequence ≡ entry.sequence = ap (λ (o : Entry). o.sequence) e in omega (arith, at)
      ];
    },
  )

  unseen-not : ((k : ℕ) → k < unseen → slice_index c.snapshots k < entry.sequence) → unseen ≡ c.unseen → IsSeenBySome (came ++ entry ∷ []) c.snapshots entry → ⊥
  unseen-not hides equal (p, (k, lt, is), h) =
      let at : slice_index c.snapshots k ≡ p = get_or_default c.snapshots k 0 p lt ∙ is in
      elim (cases_lt k unseen) [
        | inl l ↦ omega (arith, hides k l, at, h.seen)
        | inr g ↦
            let found = above k (omega (arith, g, equal)) lt in
            let up : found.0.sequence ≤ p = omega (arith, found.3, at) in
            let least : found.0.sequence ≤ entry.sequence = h.greatest found.0 (Among-left came (entry ∷ []) found.0 found.1) (found.2 ∙ sym same) up in
            omega (arith, least, oldest found.0 found.1 (found.2 ∙ sym same))
      ]

-- ---- the key at hand

never_below : (cmp : List ℕ → List ℕ → Ordering) → IsTotalOrder cmp → (a b : List ℕ) → cmp a b ≡ Less → a ≡ b → ⊥
never_below cmp o a b less same =
    let t : Equal ≡ Less = sym (tied_itself o a) ∙ ap (cmp a) same ∙ less in
    cc

never_both : (cmp : List ℕ → List ℕ → Ordering) → IsTotalOrder cmp → (a b : List ℕ) → cmp a b ≡ Less → cmp b a ≡ Less → ⊥
never_both cmp o a b less more =
    let t : Less ≡ Greater = sym less ∙ o.antisymm a b ∙ ap ordering_reverse more in
    cc

pub oldest_of : (cmp : List ℕ → List ℕ → Ordering) → IsTotalOrder cmp → (came : List Entry) (entry : Entry) → ComesBehind cmp came entry → IsOldest came entry
oldest_of cmp o came entry behind other m same =
    elim (behind other m) [
      | inl less ↦ absurd (never_below cmp o other.key entry.key less same)
      | inr h ↦ h.1
    ]

-- no entry of a key that isn't at hand came
new_key : (cmp : List ℕ → List ℕ → Ordering) → IsTotalOrder cmp → (deep : List ℕ → Bool) (c : Choosing) (came chosen : List Entry) (entry : Entry)
    → ComesBehind cmp came entry → Chooses cmp deep c came chosen → (entry.key ≡ c.key → ⊥) → (other : Entry) → Among came other → other.key ≡ entry.key → ⊥
new_key cmp o deep c came chosen entry behind h other_key other m same =
    elim (h.at_hand) [
      | inl none ↦ subst (λ (l : List Entry). Among l other) none m
      | inr l ↦ elim (behind l.0 l.1) [
        | inr at ↦ other_key (sym at.0 ∙ l.2)
        | inl up ↦ elim (h.last other m) [
          | inr at ↦ other_key (sym same ∙ at)
          | inl down ↦
              let first : cmp c.key entry.key ≡ Less = subst (λ (k : List ℕ). cmp k entry.key ≡ Less) l.2 up in
              let second : cmp entry.key c.key ≡ Less = subst (λ (k : List ℕ). cmp k c.key ≡ Less) same down in
              never_both cmp o c.key entry.key first second
        ]
      ]
    ]

-- Before an entry of its own the key at hand may have none.
turned : (cmp : List ℕ → List ℕ → Ordering) → IsTotalOrder cmp → (deep : List ℕ → Bool) (old new : Choosing) (came chosen : List Entry) (entry : Entry)
    → TurnsTo old new entry.key → ComesBehind cmp came entry → Chooses cmp deep old came chosen → IsChosen deep new came chosen × (entry.key ≡ new.key)
turned cmp o deep old new came chosen entry (inl (same, is)) behind h =
    subst (λ (c : Choosing). IsChosen deep c came chosen × (entry.key ≡ c.key)) (sym is) (
      record {
        needed = h.chosen_is.needed;
        within = h.chosen_is.within;
        below = h.chosen_is.below;
        above = h.chosen_is.above;
        settled = h.chosen_is.settled;
        others = h.chosen_is.others;
        parts = h.chosen_is.parts;
        settled_chosen = h.chosen_is.settled_chosen;
        settled_needed = h.chosen_is.settled_needed;
        others_waiting = h.chosen_is.others_waiting;
        others_open = h.chosen_is.others_open;
      },
      same,
    )
turned cmp o deep old new came chosen entry (inr (other_key, is)) behind h =
    let none = new_key cmp o deep old came chosen entry behind h other_key in
    subst (λ (c : Choosing). IsChosen deep c came chosen × (entry.key ≡ c.key)) (sym is) (
      record {
        needed = h.chosen_is.needed;
        within = omega arith;
        below = λ k lt other m same. absurd (none other m same);
        above = λ k ge lt. absurd (omega (arith, ge, lt));
        settled = came;
        others = [];
        parts = sym (append-nil came);
        settled_chosen = h.chosen_is.needed;
        settled_needed = λ other m same seen. absurd (none other m same);
        others_waiting = refl;
        others_open = λ other m n. m;
      },
      refl,
    )

-- ---- one entry more

value-of : (key : List ℕ) (sequences : List ℕ) (x : Entry) → Among (map (delete_of key) sequences) x → x.key ≡ key
value-of key [] x m = absurd m
value-of key (sequence ∷ sequences) x (inl e) = ap (λ (o : Entry). o.key) e
value-of key (sequence ∷ sequences) x (inr m) = value-of key sequences x m

is_delete : (key : List ℕ) (entry : Entry) → entry.key ≡ key → entry.value ≡ None → entry ≡ delete_of key entry.sequence
is_delete key entry same none = λ i. record { key = same i; sequence = entry.sequence; value = none i }

module _ (cmp : List ℕ → List ℕ → Ordering) (deep : List ℕ → Bool) (c : Choosing) (came chosen : List Entry) (entry : Entry) (unseen : ℕ)
    (h : IsChosen deep c came chosen) (same : entry.key ≡ c.key) (oldest : IsOldest came entry) (behind : ComesBehind cmp came entry)
    (sees_below : (k : ℕ) → k < unseen → slice_index c.snapshots k < entry.sequence)
    (sees_above : (k : ℕ) → unseen ≤ k → k < c.unseen → entry.sequence ≤ slice_index c.snapshots k)
    (fewer : unseen ≤ c.unseen) where
  below-next : (k : ℕ) → k < unseen → (x : Entry) → Among (came ++ entry ∷ []) x → x.key ≡ c.key → slice_index c.snapshots k < x.sequence
  below-next k lt x m is =
      elim (Among-push came entry x m) [
        | inl n ↦ h.below k (omega (arith, lt, fewer)) x n is
        | inr e ↦ let at : x.sequence ≡ entry.sequence = ap (λ (o : Entry). o.sequence) e in omega (arith, at, sees_below k lt)
      ]

  above-next : (k : ℕ) → unseen ≤ k → k < length c.snapshots → (x : Entry) × Among (came ++ entry ∷ []) x × (x.key ≡ c.key) × (x.sequence ≤ slice_index c.snapshots k)
  above-next k ge lt =
      elim (cases_lt k c.unseen) [
        | inl l ↦ (entry, Among-end came entry, same, sees_above k ge l)
        | inr g ↦ let found = h.above k g lt in (found.0, Among-left came (entry ∷ []) found.0 found.1, found.2, found.3)
      ]

  last-next : (x : Entry) → Among (came ++ entry ∷ []) x → (cmp x.key c.key ≡ Less) ⊎ (x.key ≡ c.key)
  last-next x m =
      elim (Among-push came entry x m) [
        | inl n ↦ elim (behind x n) [
          | inl less ↦ inl (subst (λ (k : List ℕ). cmp x.key k ≡ Less) same less)
          | inr at ↦ inr (at.0 ∙ same)
        ]
        | inr e ↦ inr (ap (λ (o : Entry). o.key) e ∙ same)
      ]

  -- what was needed is, where the entry is no put that is seen
  needed-along : ((x : Entry) → Among came x → IsNeeded (came ++ entry ∷ []) c.snapshots deep x → IsNeeded came c.snapshots deep x)
      → (xs ys : List Entry) → ((x : Entry) → Among xs x → Among came x) → IsPartWith (IsNeeded came c.snapshots deep) xs ys → IsPartWith (IsNeeded (came ++ entry ∷ []) c.snapshots deep) xs ys
  needed-along back xs ys inside part =
      part-along (IsNeeded came c.snapshots deep) (IsNeeded (came ++ entry ∷ []) c.snapshots deep) xs ys
      (λ x m n. needed-more came entry c.snapshots deep x oldest n) (λ x m n. back x (inside x m) n) part

  in-settled : (x : Entry) → Among h.settled x → Among came x
  in-settled x m = subst (λ (l : List Entry). Among l x) (sym h.parts) (Among-left h.settled h.others x m)

  in-others : (x : Entry) → Among h.others x → Among came x
  in-others x m = subst (λ (l : List Entry). Among l x) (sym h.parts) (Among-right h.settled h.others x m)

  parts-next : came ++ entry ∷ [] ≡ h.settled ++ (h.others ++ entry ∷ [])
  parts-next = ap (λ (l : List Entry). l ++ entry ∷ []) h.parts ∙ append_assoc h.settled h.others (entry ∷ [])

  waits-key : (x : Entry) → Among h.others x → IsSeenBySome came c.snapshots x → x.key ≡ c.key
  waits-key x m v = value-of c.key c.waiting x (part-has (IsSeenBySome came c.snapshots) h.others (map (delete_of c.key) c.waiting) x h.others_waiting m v)

  visible-along : (xs ys : List Entry) → ((x : Entry) → Among xs x → Among came x) → IsPartWith (IsSeenBySome came c.snapshots) xs ys → IsPartWith (IsSeenBySome (came ++ entry ∷ []) c.snapshots) xs ys
  visible-along xs ys inside part =
      part-along (IsSeenBySome came c.snapshots) (IsSeenBySome (came ++ entry ∷ []) c.snapshots) xs ys
      (λ x m n. visible-more came entry c.snapshots x oldest n) (λ x m n. visible-less came entry c.snapshots x (inside x m) n) part

  -- ---- nothing is written: the entry isn't needed, and it waits or isn't seen

  module _ (waits : List ℕ) (needless : IsNeeded (came ++ entry ∷ []) c.snapshots deep entry → ⊥)
      (no_put : IsSome entry.value → IsSeenBySome (came ++ entry ∷ []) c.snapshots entry → ⊥)
      (waiting : IsPartWith (IsSeenBySome (came ++ entry ∷ []) c.snapshots) (entry ∷ []) (map (delete_of c.key) waits)) where
    same-needed : (x : Entry) → Among came x → IsNeeded (came ++ entry ∷ []) c.snapshots deep x → IsNeeded came c.snapshots deep x
    same-needed x m n = needed-less came entry c.snapshots deep x m (λ key some seen. absurd (no_put some seen)) n

    step-nothing : Chooses cmp deep (record c { unseen = unseen; waiting = c.waiting ++ waits }) (came ++ entry ∷ []) (chosen ++ [])
    step-nothing =
        let all : IsPartWith (IsNeeded (came ++ entry ∷ []) c.snapshots deep) (came ++ entry ∷ []) (chosen ++ []) =
        part-append (IsNeeded (came ++ entry ∷ []) c.snapshots deep) came chosen (entry ∷ []) []
        (needed-along same-needed came chosen (λ x m. m) h.needed)
        (part-not-one (IsNeeded (came ++ entry ∷ []) c.snapshots deep) entry needless) in
        let settled_part : IsPartWith (IsNeeded (came ++ entry ∷ []) c.snapshots deep) h.settled (chosen ++ []) =
        subst (IsPartWith (IsNeeded (came ++ entry ∷ []) c.snapshots deep) h.settled) (sym (append-nil chosen))
        (needed-along same-needed h.settled chosen in-settled h.settled_chosen) in
        let others_part : IsPartWith (IsSeenBySome (came ++ entry ∷ []) c.snapshots) (h.others ++ entry ∷ []) (map (delete_of c.key) (c.waiting ++ waits)) =
        subst (IsPartWith (IsSeenBySome (came ++ entry ∷ []) c.snapshots) (h.others ++ entry ∷ [])) (sym (map-append (delete_of c.key) c.waiting waits))
        (part-append (IsSeenBySome (came ++ entry ∷ []) c.snapshots) h.others (map (delete_of c.key) c.waiting) (entry ∷ []) (map (delete_of c.key) waits)
        (visible-along h.others (map (delete_of c.key) c.waiting) in-others h.others_waiting) waiting) in
        record {
          chosen_is = record {
            needed = all;
            within = omega (arith, fewer, h.within);
            below = below-next;
            above = above-next;
            settled = h.settled;
            others = h.others ++ entry ∷ [];
            parts = parts-next;
            settled_chosen = settled_part;
            settled_needed = λ x m key v. needed-more came entry c.snapshots deep x oldest
                (h.settled_needed x m key (visible-less came entry c.snapshots x (in-settled x m) v));
            others_waiting = others_part;
            others_open = λ x m n. elim (Among-push h.others entry x m) [
              | inl o ↦ h.others_open x o (same-needed x (in-others x o) n)
              | inr e ↦ needless (subst (IsNeeded (came ++ entry ∷ []) c.snapshots deep) e n)
            ];
          };
          last = last-next;
          at_hand = inr (entry, Among-end came entry, same);
        }

  -- ---- the entry is written, and with it what waits

  module _ (released : List ℕ) (is_needed : IsNeeded (came ++ entry ∷ []) c.snapshots deep entry)
      (others_part : IsPartWith (IsNeeded (came ++ entry ∷ []) c.snapshots deep) h.others (map (delete_of entry.key) released))
      (now_needed : (x : Entry) → Among came x → x.key ≡ c.key → IsSeenBySome came c.snapshots x → IsNeeded (came ++ entry ∷ []) c.snapshots deep x)
      (before : (x : Entry) → Among h.settled x → IsNeeded (came ++ entry ∷ []) c.snapshots deep x → IsNeeded came c.snapshots deep x) where
    step-write : Chooses cmp deep (record c { unseen = unseen; waiting = []; released = released }) (came ++ entry ∷ []) (chosen ++ (map (delete_of entry.key) released ++ entry ∷ []))
    step-write =
        let settled_part : IsPartWith (IsNeeded (came ++ entry ∷ []) c.snapshots deep) h.settled chosen =
        part-along (IsNeeded came c.snapshots deep) (IsNeeded (came ++ entry ∷ []) c.snapshots deep) h.settled chosen
        (λ x m n. needed-more came entry c.snapshots deep x oldest n) before h.settled_chosen in
        let all : IsPartWith (IsNeeded (came ++ entry ∷ []) c.snapshots deep) (came ++ entry ∷ []) (chosen ++ (map (delete_of entry.key) released ++ entry ∷ [])) =
        subst (λ (l : List Entry). IsPartWith (IsNeeded (came ++ entry ∷ []) c.snapshots deep) l (chosen ++ (map (delete_of entry.key) released ++ entry ∷ []))) (sym parts-next)
        (part-append (IsNeeded (came ++ entry ∷ []) c.snapshots deep) h.settled chosen (h.others ++ entry ∷ []) (map (delete_of entry.key) released ++ entry ∷ []) settled_part
        (part-append (IsNeeded (came ++ entry ∷ []) c.snapshots deep) h.others (map (delete_of entry.key) released) (entry ∷ []) (entry ∷ []) others_part
        (part-one (IsNeeded (came ++ entry ∷ []) c.snapshots deep) entry is_needed))) in
        record {
          chosen_is = record {
            needed = all;
            within = omega (arith, fewer, h.within);
            below = below-next;
            above = above-next;
            settled = came ++ entry ∷ [];
            others = [];
            parts = sym (append-nil (came ++ entry ∷ []));
            settled_chosen = all;
            settled_needed = λ x m key v. elim (Among-push came entry x m) [
              | inl n ↦ now_needed x n key (visible-less came entry c.snapshots x n v)
              | inr e ↦ subst (IsNeeded (came ++ entry ∷ []) c.snapshots deep) (sym e) is_needed
            ];
            others_waiting = refl;
            others_open = λ x m n. m;
          };
          last = last-next;
          at_hand = inr (entry, Among-end came entry, same);
        }

-- ---- the four answers

module _ (cmp : List ℕ → List ℕ → Ordering) (o : IsTotalOrder cmp) (deep : List ℕ → Bool) (old now seen : Choosing) (user : List ℕ) (sequence : ℕ) (b : Bool)
    (turn : TurnsTo old now user) (sees : Sees now seen sequence b) (came chosen : List Entry) (entry : Entry)
    (key_is : entry.key ≡ user) (sequence_is : entry.sequence ≡ sequence) (behind : ComesBehind cmp came entry) (h : Chooses cmp deep old came chosen) where
  ready : IsChosen deep now came chosen × (entry.key ≡ now.key)
  ready = turned cmp o deep old now came chosen entry (subst (TurnsTo old now) (sym key_is) turn) behind h

  oldest : IsOldest came entry
  oldest = oldest_of cmp o came entry behind

  sees-below : (k : ℕ) → k < seen.unseen → slice_index now.snapshots k < entry.sequence
  sees-below k lt = omega (arith, sees.below k lt, sequence_is)

  sees-above : (k : ℕ) → seen.unseen ≤ k → k < now.unseen → entry.sequence ≤ slice_index now.snapshots k
  sees-above k ge lt = omega (arith, sees.above k ge lt, sequence_is)

  visible : seen.unseen < now.unseen → IsSeenBySome (came ++ entry ∷ []) now.snapshots entry
  visible = seen-visible came entry now seen.unseen ready.1 oldest ready.0.below ready.0.above ready.0.within sees-above

  pub take-leave : seen.unseen ≡ now.unseen → Chooses cmp deep seen (came ++ entry ∷ []) (chosen ++ [])
  take-leave equal =
      let unseen : IsSeenBySome (came ++ entry ∷ []) now.snapshots entry → ⊥ =
      unseen-not came entry now seen.unseen ready.1 oldest ready.0.below ready.0.above ready.0.within sees-below equal in
      let step : Chooses cmp deep (record now { unseen = seen.unseen; waiting = now.waiting ++ [] }) (came ++ entry ∷ []) (chosen ++ []) =
      step-nothing cmp deep now came chosen entry seen.unseen ready.0 ready.1 oldest behind sees-below sees-above (omega (arith, equal)) []
      (λ n. unseen n.visible) (λ some v. unseen v) (part-not-one (IsSeenBySome (came ++ entry ∷ []) now.snapshots) entry unseen) in
      let is : record now { unseen = seen.unseen; waiting = now.waiting ++ [] } ≡ seen =
      (λ i. record now { unseen = seen.unseen; waiting = append-nil now.waiting i }) ∙ sym sees.kept in
      subst (λ (c : Choosing). Chooses cmp deep c (came ++ entry ∷ []) (chosen ++ [])) is step

  pub take-wait : seen.unseen < now.unseen → entry.value ≡ None → (IsTrue (deep entry.key) → ⊥) → (new : Choosing) → new ≡ record seen { waiting = seen.waiting ++ sequence ∷ [] }
      → Chooses cmp deep new (came ++ entry ∷ []) (chosen ++ [])
  take-wait less none shallow new new_is =
      let v = visible less in
      let needless : IsNeeded (came ++ entry ∷ []) now.snapshots deep entry → ⊥ = λ n. elim (n.hides none) [
        | inl covered ↦ shallow covered
        | inr found ↦ elim (Among-push came entry found.0 found.1.visible.2.member) [
          | inl m ↦ omega (arith, oldest found.0 m found.1.same_key, found.1.older)
          | inr e ↦ let at : found.0.sequence ≡ entry.sequence = ap (λ (x : Entry). x.sequence) e in omega (arith, at, found.1.older)
        ]
      ] in
      let is_delete_of : entry ≡ delete_of now.key sequence = is_delete now.key entry ready.1 none ∙ ap (delete_of now.key) sequence_is in
      let one : IsPartWith (IsSeenBySome (came ++ entry ∷ []) now.snapshots) (entry ∷ []) (map (delete_of now.key) (sequence ∷ [])) =
      subst (λ (x : Entry). IsPartWith (IsSeenBySome (came ++ entry ∷ []) now.snapshots) (entry ∷ []) (x ∷ [])) is_delete_of
      (part-one (IsSeenBySome (came ++ entry ∷ []) now.snapshots) entry v) in
      let step : Chooses cmp deep (record now { unseen = seen.unseen; waiting = now.waiting ++ sequence ∷ [] }) (came ++ entry ∷ []) (chosen ++ []) =
      step-nothing cmp deep now came chosen entry seen.unseen ready.0 ready.1 oldest behind sees-below sees-above (omega (arith, less)) (sequence ∷ [])
      needless (λ some w. not_both entry.value some none) one in
      let is : new ≡ record now { unseen = seen.unseen; waiting = now.waiting ++ sequence ∷ [] } =
      new_is ∙ ap (λ (c : Choosing). record c { waiting = c.waiting ++ sequence ∷ [] }) sees.kept in
      subst (λ (c : Choosing). Chooses cmp deep c (came ++ entry ∷ []) (chosen ++ [])) (sym is) step

  pub take-put : seen.unseen < now.unseen → IsSome entry.value → (new : Choosing) → new ≡ record seen { waiting = []; released = seen.waiting }
      → Chooses cmp deep new (came ++ entry ∷ []) (chosen ++ (map (delete_of entry.key) new.released ++ entry ∷ []))
  take-put less some new new_is =
      let v = visible less in
      let P = IsNeeded (came ++ entry ∷ []) now.snapshots deep in
      let is_needed : P entry = record { visible = v; hides = λ none. absurd (not_both entry.value some none) } in
      let put_of : (x : Entry) → Among came x → x.key ≡ now.key → IsSeenBySome came now.snapshots x → P x = λ x m at w. record {
        visible = visible-more came entry now.snapshots x oldest w;
        hides = λ none. inr (entry, record { same_key = ready.1 ∙ sym at; older = oldest x m (at ∙ sym ready.1); is_put = some; visible = v });
      } in
      let inside : (x : Entry) → Among ready.0.others x → Among came x = λ x m. subst (λ (l : List Entry). Among l x) (sym ready.0.parts) (Among-right ready.0.settled ready.0.others x m) in
      let settled : (x : Entry) → Among ready.0.settled x → Among came x = λ x m. subst (λ (l : List Entry). Among l x) (sym ready.0.parts) (Among-left ready.0.settled ready.0.others x m) in
      let at : (x : Entry) → Among ready.0.others x → IsSeenBySome came now.snapshots x → x.key ≡ now.key = λ x m w.
      value-of now.key now.waiting x (part-has (IsSeenBySome came now.snapshots) ready.0.others (map (delete_of now.key) now.waiting) x ready.0.others_waiting m w) in
      let waits : IsPartWith P ready.0.others (map (delete_of entry.key) now.waiting) =
      subst (λ (k : List ℕ). IsPartWith P ready.0.others (map (delete_of k) now.waiting)) (sym ready.1)
      (part-along (IsSeenBySome came now.snapshots) P ready.0.others (map (delete_of now.key) now.waiting)
      (λ x m w. put_of x (inside x m) (at x m w) w) (λ x m n. visible-less came entry now.snapshots x (inside x m) n.visible) ready.0.others_waiting) in
      let before : (x : Entry) → Among ready.0.settled x → P x → IsNeeded came now.snapshots deep x = λ x m n.
      needed-less came entry now.snapshots deep x (settled x m)
      (λ key put w. ready.0.settled_needed x m (sym key ∙ ready.1) (visible-less came entry now.snapshots x (settled x m) n.visible)) n in
      let step : Chooses cmp deep (record now { unseen = seen.unseen; waiting = []; released = now.waiting }) (came ++ entry ∷ []) (chosen ++ (map (delete_of entry.key) now.waiting ++ entry ∷ [])) =
      step-write cmp deep now came chosen entry seen.unseen ready.0 ready.1 oldest behind sees-below sees-above (omega (arith, less)) now.waiting
      is_needed waits put_of before in
      let is : new ≡ record now { unseen = seen.unseen; waiting = []; released = now.waiting } =
      new_is ∙ ap (λ (c : Choosing). record c { waiting = []; released = c.waiting }) sees.kept in
      subst (λ (c : Choosing). Chooses cmp deep c (came ++ entry ∷ []) (chosen ++ (map (delete_of entry.key) c.released ++ entry ∷ []))) (sym is) step

  none-released : seen.released ≡ []
  none-released = ap (λ (c : Choosing). c.released) sees.kept ∙ nothing turn
    where
      nothing : TurnsTo old now user → now.released ≡ []
      nothing (inl (same, is)) = ap (λ (c : Choosing). c.released) is
      nothing (inr (other, is)) = ap (λ (c : Choosing). c.released) is

  pub take-deep : seen.unseen < now.unseen → entry.value ≡ None → IsTrue (deep entry.key)
      → Chooses cmp deep seen (came ++ entry ∷ []) (chosen ++ (map (delete_of entry.key) seen.released ++ entry ∷ []))
  take-deep less none covered =
      let v = visible less in
      let P = IsNeeded (came ++ entry ∷ []) now.snapshots deep in
      let covers : (x : Entry) → x.key ≡ now.key → IsTrue (deep x.key) = λ x at. subst (λ (k : List ℕ). IsTrue (deep k)) (ready.1 ∙ sym at) covered in
      let is_needed : P entry = record { visible = v; hides = λ no. inl covered } in
      let now_needed : (x : Entry) → Among came x → x.key ≡ now.key → IsSeenBySome came now.snapshots x → P x = λ x m at w. record {
        visible = visible-more came entry now.snapshots x oldest w;
        hides = λ no. inl (covers x at);
      } in
      let inside : (x : Entry) → Among ready.0.others x → Among came x = λ x m. subst (λ (l : List Entry). Among l x) (sym ready.0.parts) (Among-right ready.0.settled ready.0.others x m) in
      let settled : (x : Entry) → Among ready.0.settled x → Among came x = λ x m. subst (λ (l : List Entry). Among l x) (sym ready.0.parts) (Among-left ready.0.settled ready.0.others x m) in
      let hidden : (x : Entry) → Among ready.0.others x → IsSeenBySome came now.snapshots x → ⊥ = λ x m w.
      let at = value-of now.key now.waiting x (part-has (IsSeenBySome came now.snapshots) ready.0.others (map (delete_of now.key) now.waiting) x ready.0.others_waiting m w) in
      ready.0.others_open x m (record { visible = w; hides = λ no. inl (covers x at) }) in
      let waits : map (delete_of now.key) now.waiting ≡ [] =
      part-nothing (IsSeenBySome came now.snapshots) ready.0.others (map (delete_of now.key) now.waiting) hidden ready.0.others_waiting in
      let others : IsPartWith P ready.0.others [] = part-none P ready.0.others (λ x m n. hidden x m (visible-less came entry now.snapshots x (inside x m) n.visible)) in
      let before : (x : Entry) → Among ready.0.settled x → P x → IsNeeded came now.snapshots deep x = λ x m n.
      needed-less came entry now.snapshots deep x (settled x m) (λ key some w. absurd (not_both entry.value some none)) n in
      let step : Chooses cmp deep (record now { unseen = seen.unseen; waiting = []; released = [] }) (came ++ entry ∷ []) (chosen ++ ([] ++ entry ∷ [])) =
      step-write cmp deep now came chosen entry seen.unseen ready.0 ready.1 oldest behind sees-below sees-above (omega (arith, less)) []
      is_needed others now_needed before in
      let is : seen ≡ record now { unseen = seen.unseen; waiting = []; released = [] } =
      sees.kept ∙ (λ i. record now { unseen = seen.unseen; waiting = no-waits now.waiting waits i; released = (sym (ap (λ (c : Choosing). c.released) sees.kept) ∙ none-released) i }) in
      subst (λ (c : Choosing). Chooses cmp deep c (came ++ entry ∷ []) (chosen ++ (map (delete_of entry.key) c.released ++ entry ∷ []))) (sym is) step
    where
      no-waits : (sequences : List ℕ) → map (delete_of now.key) sequences ≡ [] → sequences ≡ []
      no-waits [] e = refl
      no-waits (sequence ∷ sequences) e = cc
