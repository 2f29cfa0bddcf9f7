-- The inserts in internal order.
use Rattle.std.proofs.Common.{◌≡◌, ◌+◌, ◌-◌, ◌<◌, ◌≤◌, ℕ, zero, suc, Bool, true, false, cond, Some, List, [], ◌∷◌, ◌++◌, length, ◌⊎◌, ⊎_elim, inl, inr, refl, sym, ap, subst, ◌∙◌, arith, append_assoc, length-append}
use Rattle.std.proofs.lemmas.Bool.{cases_Bool, cond_both, false_from_ne_true}
use Rattle.std.specs.List.{AllByRecursion, slice_get}
use Rattle.std.specs.declared.cmp.Ordering.{Ordering}
use Rattle.std.specs.Cmp.{IsTotalOrder}
use Rattle.std.specs.FinMap.{IsAntisymmetric}
use Rattle.ikey.specs.declared.entry.Entry.{Entry}
use Rattle.memtable.specs.Contents.{entry_at}
use Rattle.memtable.specs.Order.{is_before, Placed, put_in, put_all, ordered, Rises}
use Rattle.ikey.specs.Views.{Among}
use Rattle.memtable.proofs.Befores.{before-trans, before-flip}

-- ---- lists of which each element has a property

pub all-append : {X : Type 0} (P : X → Type 0) (xs ys : List X) → AllByRecursion P xs → AllByRecursion P ys → AllByRecursion P (xs ++ ys)
all-append P [] ys h k = k
all-append P (x ∷ xs) ys h k = (h.0, all-append P xs ys h.1 k)

pub all-front : {X : Type 0} (P : X → Type 0) (xs ys : List X) → AllByRecursion P (xs ++ ys) → AllByRecursion P xs
all-front P [] ys h = tt
all-front P (x ∷ xs) ys h = (h.0, all-front P xs ys h.1)

pub all-back : {X : Type 0} (P : X → Type 0) (xs ys : List X) → AllByRecursion P (xs ++ ys) → AllByRecursion P ys
all-back P [] ys h = h
all-back P (x ∷ xs) ys h = all-back P xs ys h.1

pub all-map : {X : Type 0} (P Q : X → Type 0) (xs : List X) → ((x : X) → P x → Q x) → AllByRecursion P xs → AllByRecursion Q xs
all-map P Q [] f h = tt
all-map P Q (x ∷ xs) f h = (f x h.0, all-map P Q xs f h.1)

pub all-among : (P : Entry → Type 0) (entries : List Entry) → ((entry : Entry) → Among entries entry → P entry) → AllByRecursion P entries
all-among P [] f = tt
all-among P (e ∷ entries) f = (f e (inl refl), all-among P entries (λ entry h. f entry (inr h)))

pub among-all : (P : Entry → Type 0) (entries : List Entry) (entry : Entry) → AllByRecursion P entries → Among entries entry → P entry
among-all P [] entry h m = absurd m
among-all P (e ∷ entries) entry h (inl is) = subst P (sym is) h.0
among-all P (e ∷ entries) entry h (inr m) = among-all P entries entry h.1 m

-- each is the entry of its number
abbrev pub HasNumber : List Entry → Placed → Type 0
HasNumber inserts one = (entry_at inserts one.node ≡ Some one.entry) × (0 < one.node) × (one.node ≤ length inserts)

-- ---- what an insert does to the order

module _ (cmp : List ℕ → List ℕ → Ordering) where
  put-append : (number : ℕ) (entries : List Entry) (entry : Entry) (placed : List Placed)
      → put_all cmp number (entries ++ entry ∷ []) placed ≡ put_in cmp (record { node = number + length entries + 1; entry = entry }) (put_all cmp number entries placed)
  put-append number [] entry placed =
      let same : number + 1 ≡ number + 0 + 1 = omega arith in ap (λ (n : ℕ). put_in cmp (record { node = n; entry = entry }) placed) same
  put-append number (first ∷ entries) entry placed =
      let same : number + 1 + length entries + 1 ≡ number + length (first ∷ entries) + 1 = omega arith in
      let later = put_in cmp (record { node = number + 1; entry = first }) placed in
      put-append (number + 1) entries entry later
      ∙ ap (λ (n : ℕ). put_in cmp (record { node = n; entry = entry }) (put_all cmp (number + 1) entries later)) same

  -- the order with an insert more
  pub ordered-push : (inserts : List Entry) (entry : Entry) → ordered cmp (inserts ++ entry ∷ []) ≡ put_in cmp (record { node = length inserts + 1; entry = entry }) (ordered cmp inserts)
  ordered-push inserts entry =
      let same : 0 + length inserts + 1 ≡ length inserts + 1 = omega arith in
      put-append 0 inserts entry [] ∙ ap (λ (n : ℕ). put_in cmp (record { node = n; entry = entry }) (ordered cmp inserts)) same

  all-put-in : (P : Placed → Type 0) (new : Placed) (placed : List Placed) → P new → AllByRecursion P placed → AllByRecursion P (put_in cmp new placed)
  all-put-in P new [] p h = (p, tt)
  all-put-in P new (first ∷ later) p h =
      cond_both (is_before cmp new.entry.key new.entry.sequence first.entry) (first ∷ put_in cmp new later) (new ∷ first ∷ later) (AllByRecursion P)
      (λ _. (h.0, all-put-in P new later p h.1)) (λ _. (p, h))

  -- what holds of each entry holds of each in order
  all-put-all : (P : Entry → Type 0) (number : ℕ) (entries : List Entry) (placed : List Placed) → AllByRecursion P entries
      → AllByRecursion (λ (one : Placed). P one.entry) placed → AllByRecursion (λ (one : Placed). P one.entry) (put_all cmp number entries placed)
  all-put-all P number [] placed h k = k
  all-put-all P number (e ∷ entries) placed h k =
      all-put-all P (number + 1) entries (put_in cmp (record { node = number + 1; entry = e }) placed) h.1
      (all-put-in (λ (one : Placed). P one.entry) (record { node = number + 1; entry = e }) placed h.0 k)

  pub all-ordered : (P : Entry → Type 0) (inserts : List Entry) → AllByRecursion P inserts → AllByRecursion (λ (one : Placed). P one.entry) (ordered cmp inserts)
  all-ordered P inserts h = all-put-all P 0 inserts [] h tt

  -- and the other way round
  put-in-all : (P : Placed → Type 0) (new : Placed) (placed : List Placed) → AllByRecursion P (put_in cmp new placed) → P new × AllByRecursion P placed
  put-in-all P new [] h = h
  put-in-all P new (first ∷ later) h =
      ⊎_elim
      (λ e. let k : AllByRecursion P (first ∷ put_in cmp new later) = subst (λ (b : Bool). AllByRecursion P (cond b (first ∷ put_in cmp new later) (new ∷ first ∷ later))) e h in
      let rest = put-in-all P new later k.1 in (rest.0, (k.0, rest.1)))
      (λ e. let k : AllByRecursion P (new ∷ first ∷ later) = subst (λ (b : Bool). AllByRecursion P (cond b (first ∷ put_in cmp new later) (new ∷ first ∷ later))) e h in
      (k.0, k.1))
      (cases_Bool (is_before cmp new.entry.key new.entry.sequence first.entry))

  put-all-all : (P : Entry → Type 0) (number : ℕ) (entries : List Entry) (placed : List Placed) → AllByRecursion (λ (one : Placed). P one.entry) (put_all cmp number entries placed)
      → AllByRecursion P entries × AllByRecursion (λ (one : Placed). P one.entry) placed
  put-all-all P number [] placed h = (tt, h)
  put-all-all P number (e ∷ entries) placed h =
      let rest = put-all-all P (number + 1) entries (put_in cmp (record { node = number + 1; entry = e }) placed) h in
      let one = put-in-all (λ (one : Placed). P one.entry) (record { node = number + 1; entry = e }) placed rest.1 in
      ((one.0, rest.0), one.1)

  pub ordered-all : (P : Entry → Type 0) (inserts : List Entry) → AllByRecursion (λ (one : Placed). P one.entry) (ordered cmp inserts) → AllByRecursion P inserts
  ordered-all P inserts h = (put-all-all P 0 inserts [] h).0

  get-behind : (done : List Entry) (entry : Entry) (later : List Entry) → slice_get (done ++ entry ∷ later) (length done) ≡ Some entry
  get-behind [] entry later = refl
  get-behind (first ∷ done) entry later = get-behind done entry later

  numbered : (done entries : List Entry) (placed : List Placed) → AllByRecursion (HasNumber (done ++ entries)) placed
      → AllByRecursion (HasNumber (done ++ entries)) (put_all cmp (length done) entries placed)
  numbered done [] placed h = h
  numbered done (entry ∷ entries) placed h =
      let whole : (done ++ entry ∷ []) ++ entries ≡ done ++ entry ∷ entries = append_assoc done (entry ∷ []) entries in
      let long : length (done ++ entry ∷ []) ≡ length done + 1 = length-append done (entry ∷ []) in
      let one : length done + 1 - 1 ≡ length done = omega arith in
      let new : HasNumber (done ++ entry ∷ entries) (record { node = length done + 1; entry = entry }) =
      (ap (λ (n : ℕ). slice_get (done ++ entry ∷ entries) n) one ∙ get-behind done entry entries, omega arith, omega (arith, length-append done (entry ∷ entries))) in
      let all : AllByRecursion (HasNumber (done ++ entry ∷ entries)) (put_in cmp (record { node = length done + 1; entry = entry }) placed) =
      all-put-in (HasNumber (done ++ entry ∷ entries)) (record { node = length done + 1; entry = entry }) placed new h in
      subst (λ (n : ℕ). AllByRecursion (HasNumber (done ++ entry ∷ entries)) (put_all cmp n entries (put_in cmp (record { node = length done + 1; entry = entry }) placed))) long
      (subst (λ (v : List Entry). AllByRecursion (HasNumber v) (put_all cmp (length (done ++ entry ∷ [])) entries (put_in cmp (record { node = length done + 1; entry = entry }) placed))) whole
      (numbered (done ++ entry ∷ []) entries (put_in cmp (record { node = length done + 1; entry = entry }) placed)
      (subst (λ (v : List Entry). AllByRecursion (HasNumber v) (put_in cmp (record { node = length done + 1; entry = entry }) placed)) (sym whole) all)))

  pub all-numbered : (inserts : List Entry) → AllByRecursion (HasNumber inserts) (ordered cmp inserts)
  all-numbered inserts = numbered [] inserts [] tt

  -- ---- each insert stands somewhere

  -- the node stands among these
  abbrev HasNode : ℕ → List Placed → Type 0
  HasNode node placed = (front : List Placed) × (entry : Entry) × (back : List Placed) × (placed ≡ front ++ record { node = node; entry = entry } ∷ back)

  behind-first : (node : ℕ) (first : Placed) (placed : List Placed) → HasNode node placed → HasNode node (first ∷ placed)
  behind-first node first placed h = (first ∷ h.0, h.1, h.2, ap (λ v. first ∷ v) h.3)

  has-new : (new : Placed) (placed : List Placed) → HasNode new.node (put_in cmp new placed)
  has-new new [] = ([], new.entry, [], refl)
  has-new new (first ∷ later) =
      cond_both (is_before cmp new.entry.key new.entry.sequence first.entry) (first ∷ put_in cmp new later) (new ∷ first ∷ later) (HasNode new.node)
      (λ _. behind-first new.node first (put_in cmp new later) (has-new new later)) (λ _. ([], new.entry, first ∷ later, refl))

  nothing : (node : ℕ) (front : List Placed) (entry : Entry) (back : List Placed) → [] ≡ front ++ record { node = node; entry = entry } ∷ back → ⊥
  nothing node [] entry back e = cc
  nothing node (x ∷ front) entry back e = cc

  has-old : (node : ℕ) (new : Placed) (placed front : List Placed) (entry : Entry) (back : List Placed) → placed ≡ front ++ record { node = node; entry = entry } ∷ back
      → HasNode node (put_in cmp new placed)
  has-old node new [] front entry back e = absurd (nothing node front entry back e)
  has-old node new (first ∷ later) [] entry back e =
      let same : first ≡ record { node = node; entry = entry } = cc in
      cond_both (is_before cmp new.entry.key new.entry.sequence first.entry) (first ∷ put_in cmp new later) (new ∷ first ∷ later) (HasNode node)
      (λ _. ([], entry, put_in cmp new later, ap (λ (v : Placed). v ∷ put_in cmp new later) same)) (λ _. behind-first node new (first ∷ later) ([], entry, back, e))
  has-old node new (first ∷ later) (x ∷ front) entry back e =
      let rest : later ≡ front ++ record { node = node; entry = entry } ∷ back = cc in
      cond_both (is_before cmp new.entry.key new.entry.sequence first.entry) (first ∷ put_in cmp new later) (new ∷ first ∷ later) (HasNode node)
      (λ _. behind-first node first (put_in cmp new later) (has-old node new later front entry back rest)) (λ _. behind-first node new (first ∷ later) (x ∷ front, entry, back, e))

  has-kept : (node number : ℕ) (entries : List Entry) (placed : List Placed) → HasNode node placed → HasNode node (put_all cmp number entries placed)
  has-kept node number [] placed h = h
  has-kept node number (entry ∷ entries) placed h =
      has-kept node (number + 1) entries (put_in cmp (record { node = number + 1; entry = entry }) placed) (has-old node (record { node = number + 1; entry = entry }) placed h.0 h.1 h.2 h.3)

  gap-cases : (gap node number : ℕ) → node - (number + 1) ≡ gap → number < node → (node ≡ number + 1) ⊎ (number + 1 < node)
  gap-cases zero node number e h = inl (omega (arith, e, h))
  gap-cases (suc gap) node number e h = inr (omega (arith, e, h))

  first-or-later : (node number : ℕ) → number < node → (node ≡ number + 1) ⊎ (number + 1 < node)
  first-or-later node number h = gap-cases (node - (number + 1)) node number refl h

  has-all : (node number : ℕ) (entries : List Entry) (placed : List Placed) → number < node → node ≤ number + length entries → HasNode node (put_all cmp number entries placed)
  has-all node number [] placed low high = absurd (omega (arith, low, high))
  has-all node number (entry ∷ entries) placed low high =
      let new : Placed = record { node = number + 1; entry = entry } in
      ⊎_elim
      (λ e. has-kept node (number + 1) entries (put_in cmp new placed) (subst (λ (n : ℕ). HasNode n (put_in cmp new placed)) (sym e) (has-new new placed)))
      (λ l. has-all node (number + 1) entries (put_in cmp new placed) l (omega (arith, high)))
      (first-or-later node number low)

  pub stands-somewhere : (inserts : List Entry) (node : ℕ) → 0 < node → node ≤ length inserts
      → (front : List Placed) × (entry : Entry) × (back : List Placed) × (ordered cmp inserts ≡ front ++ record { node = node; entry = entry } ∷ back)
  stands-somewhere inserts node low high = has-all node 0 inserts [] low (omega (arith, high))

  pub stands-insert : (inserts : List Entry) (front back : List Placed) (node : ℕ) (entry : Entry) → ordered cmp inserts ≡ front ++ record { node = node; entry = entry } ∷ back
      → ((0 < node) × (node ≤ length inserts)) × (entry_at inserts node ≡ Some entry)
  stands-insert inserts front back node entry is =
      let all = subst (AllByRecursion (HasNumber inserts)) is (all-numbered inserts) in
      let one = all-back (HasNumber inserts) front (record { node = node; entry = entry } ∷ back) all in
      ((one.0.1, one.0.2), one.0.0)

  length-put-in : (new : Placed) (placed : List Placed) → length (put_in cmp new placed) ≡ length placed + 1
  length-put-in new [] = refl
  length-put-in new (first ∷ later) =
      let more = length-put-in new later in
      cond_both (is_before cmp new.entry.key new.entry.sequence first.entry) (first ∷ put_in cmp new later) (new ∷ first ∷ later) (λ v. length v ≡ length (first ∷ later) + 1)
      (λ _. omega (arith, more)) (λ _. omega arith)

  length-put-all : (number : ℕ) (entries : List Entry) (placed : List Placed) → length (put_all cmp number entries placed) ≡ length entries + length placed
  length-put-all number [] placed = omega arith
  length-put-all number (entry ∷ entries) placed =
      let new : Placed = record { node = number + 1; entry = entry } in
      omega (arith, length-put-all (number + 1) entries (put_in cmp new placed), length-put-in new placed)

  pub length-ordered : (inserts : List Entry) → length (ordered cmp inserts) ≡ length inserts
  length-ordered inserts = omega (arith, length-put-all 0 inserts [])

  -- ---- a place in the order

  abbrev AreBefore : List ℕ → ℕ → List Placed → Type 0
  AreBefore key sequence placed = AllByRecursion (λ (one : Placed). is_before cmp key sequence one.entry ≡ true) placed

  abbrev NoneBefore : List ℕ → ℕ → List Placed → Type 0
  NoneBefore key sequence placed = AllByRecursion (λ (one : Placed). is_before cmp key sequence one.entry ≡ false) placed

  put-in-split : (new : Placed) (front back : List Placed) → AreBefore new.entry.key new.entry.sequence front → NoneBefore new.entry.key new.entry.sequence back
      → put_in cmp new (front ++ back) ≡ front ++ new ∷ back
  put-in-split new [] [] h k = refl
  put-in-split new [] (first ∷ later) h k = ap (λ (b : Bool). cond b (first ∷ put_in cmp new later) (new ∷ first ∷ later)) k.0
  put-in-split new (first ∷ front) back h k =
      ap (λ (b : Bool). cond b (first ∷ put_in cmp new (front ++ back)) (new ∷ first ∷ (front ++ back))) h.0 ∙ ap (λ v. first ∷ v) (put-in-split new front back h.1 k)

  pub ordered-split : (inserts : List Entry) (entry : Entry) (front back : List Placed) → ordered cmp inserts ≡ front ++ back
      → AreBefore entry.key entry.sequence front → NoneBefore entry.key entry.sequence back
      → ordered cmp (inserts ++ entry ∷ []) ≡ front ++ record { node = length inserts + 1; entry = entry } ∷ back
  ordered-split inserts entry front back is h k =
      ordered-push inserts entry ∙ ap (put_in cmp (record { node = length inserts + 1; entry = entry })) is
      ∙ put-in-split (record { node = length inserts + 1; entry = entry }) front back h k

  module _ (total : IsTotalOrder cmp) (exact : IsAntisymmetric cmp) where
    -- all after an entry that doesn't stand before a place don't either
    none-later : (key : List ℕ) (sequence : ℕ) (first : Placed) (later : List Placed) → is_before cmp key sequence first.entry ≡ false
        → AllByRecursion (λ (one : Placed). is_before cmp one.entry.key one.entry.sequence first.entry ≡ true) later → NoneBefore key sequence later
    none-later key sequence first later not h =
        all-map (λ (one : Placed). is_before cmp one.entry.key one.entry.sequence first.entry ≡ true) (λ (one : Placed). is_before cmp key sequence one.entry ≡ false) later
        (λ one p. false_from_ne_true (is_before cmp key sequence one.entry)
        (λ yes. let both : true ≡ false = sym (before-trans cmp total exact key sequence first.entry one.entry p yes) ∙ not in cc)) h

    pub split-at : (key : List ℕ) (sequence : ℕ) (placed : List Placed) → Rises cmp placed
        → (front : List Placed) × (back : List Placed) × (placed ≡ front ++ back) × AreBefore key sequence front × NoneBefore key sequence back
    split-at key sequence [] h = ([], [], refl, tt, tt)
    split-at key sequence (first ∷ later) h =
        ⊎_elim
        (λ e. let rest = split-at key sequence later h.1 in (first ∷ rest.0, rest.1, ap (λ v. first ∷ v) rest.2, (e, rest.3), rest.4))
        (λ e. ([], first ∷ later, refl, tt, (e, none-later key sequence first later e h.0)))
        (cases_Bool (is_before cmp key sequence first.entry))

    before-back : (new : Placed) (back : List Placed) → NoneBefore new.entry.key new.entry.sequence back
        → AllByRecursion (λ (one : Placed). one.entry.key ≡ new.entry.key → one.entry.sequence ≡ new.entry.sequence → ⊥) back
        → AllByRecursion (λ (one : Placed). is_before cmp one.entry.key one.entry.sequence new.entry ≡ true) back
    before-back new [] h k = tt
    before-back new (first ∷ later) h k = (before-flip cmp total exact new.entry first.entry h.0 k.0, before-back new later h.1 k.1)

    -- the order with a new entry rises
    pub rises-split : (new : Placed) (front back : List Placed) → Rises cmp (front ++ back) → AreBefore new.entry.key new.entry.sequence front
        → NoneBefore new.entry.key new.entry.sequence back
        → AllByRecursion (λ (one : Placed). one.entry.key ≡ new.entry.key → one.entry.sequence ≡ new.entry.sequence → ⊥) back → Rises cmp (front ++ new ∷ back)
    rises-split new [] back h f b k = (before-back new back b k, h)
    rises-split new (first ∷ front) back h f b k =
        let P = λ (one : Placed). is_before cmp one.entry.key one.entry.sequence first.entry ≡ true in
        (all-append P front (new ∷ back) (all-front P front back h.0) (f.0, all-back P front back h.0), rises-split new front back h.1 f.1 b k)
