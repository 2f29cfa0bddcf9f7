-- What comes into a memtable, entry by entry.
use Rattle.std.proofs.Common.{◌≡◌, ◌⊎◌, ℕ, zero, suc, ◌+◌, ◌-◌, ◌<◌, ◌≤◌, ◌++◌, List, [], ◌∷◌, length, take, drop, sum_by, get_or, max, Option, inl, inr, refl, sym, ap, ◌∙◌, add-one, arith}
use Rattle.std.proofs.Math.Seq.{drop-cons, take-suc}
use Rattle.std.proofs.lemmas.List.Sums.{sum_by-cons}
use Rattle.std.proofs.lemmas.List.{length-take-le}
use Rattle.batch.specs.declared.operation.Operation.{Operation}
use Rattle.ikey.specs.declared.entry.Entry.{Entry}
use Rattle.ikey.specs.Views.{Among, AllUpTo}
use Rattle.memtable.specs.Newest.{AllDiffer}
use Rattle.recover.specs.Entries.{RiseAbove, greatest, made_entry, entries_of}
use Rattle.memtables.specs.Memories.{operation_bytes}

-- ---- bounds

Among-push : (entries : List Entry) (x e : Entry) → Among (entries ++ x ∷ []) e → Among entries e ⊎ (e ≡ x)
Among-push [] x e (inl h) = inr h
Among-push [] x e (inr h) = absurd h
Among-push (y ∷ entries) x e (inl h) = inl (inl h)
Among-push (y ∷ entries) x e (inr h) = elim (Among-push entries x e h) [ inl a ↦ inl (inr a) | inr b ↦ inr b ]

pub bounded_more : (entries : List Entry) (last : ℕ) (key : List ℕ) (value : Option (List ℕ)) → AllUpTo last entries → AllUpTo (last + 1) (entries ++ record { key = key; sequence = last + 1; value = value } ∷ [])
bounded_more entries last key value h e among = elim (Among-push entries (record { key = key; sequence = last + 1; value = value }) e among) [
  | inl old ↦ (let below : e.sequence ≤ last = h e old in omega (arith, below))
  | inr new ↦ (let is : e.sequence ≡ last + 1 = ap (λ (x : Entry). x.sequence) new in omega (arith, is))
]

pub up_to_greatest : (entries : List Entry) (last : ℕ) → greatest entries ≤ last → AllUpTo last entries
up_to_greatest [] last h e among = absurd among
up_to_greatest (first ∷ entries) last h e (inl is) = (let same : e.sequence ≡ first.sequence = ap (λ (x : Entry). x.sequence) is in let most : max first.sequence (greatest entries) ≤ last = h in omega (arith, same, most))
up_to_greatest (first ∷ entries) last h e (inr rest) = up_to_greatest entries last (let most : max first.sequence (greatest entries) ≤ last = h in omega (arith, most)) e rest

-- ---- sequence numbers that rise

above_low : (low : ℕ) (entries : List Entry) (e : Entry) → RiseAbove low entries → Among entries e → low < e.sequence
above_low low [] e h among = absurd among
above_low low (first ∷ entries) e h (inl is) = (let same : e.sequence ≡ first.sequence = ap (λ (x : Entry). x.sequence) is in let low_first : low < first.sequence = h.0 in omega (arith, same, low_first))
above_low low (first ∷ entries) e h (inr rest) = (let low_first : low < first.sequence = h.0 in let more = above_low first.sequence entries e h.1 rest in omega (arith, low_first, more))

-- so no two have the same
pub rising_differ : (low : ℕ) (entries : List Entry) → RiseAbove low entries → AllDiffer entries
rising_differ low [] h = tt
rising_differ low (first ∷ entries) h = (λ e among key same. absurd (omega (arith, same, above_low first.sequence entries e h.1 among)), rising_differ first.sequence entries h.1)

-- ---- what is left of a batch

front_of_rest : (operations : List Operation) (i : ℕ) (none : Operation) → i < length operations → drop i operations ≡ get_or operations i none ∷ drop (i + 1) operations
front_of_rest operations i none within = drop-cons operations i none within ∙ ap (λ (n : ℕ). get_or operations i none ∷ drop n operations) (sym (add-one i))

pub room_left : (operations : List Operation) (i : ℕ) (none operation : Operation) (entries bytes : ℕ) → i < length operations → operation ≡ get_or operations i none
    → length (drop i operations) ≤ entries → sum_by operation_bytes (drop i operations) ≤ bytes
    → (0 < entries) × (operation_bytes operation ≤ bytes) × (length (drop (i + 1) operations) ≤ entries - 1) × (sum_by operation_bytes (drop (i + 1) operations) ≤ bytes - operation_bytes operation)
room_left operations i none operation entries bytes within is many much =
    let rest = front_of_rest operations i none within in
    let long : length (drop i operations) ≡ suc (length (drop (i + 1) operations)) = ap length rest in
    let heavy : sum_by operation_bytes (drop i operations) ≡ operation_bytes (get_or operations i none) + sum_by operation_bytes (drop (i + 1) operations) =
    ap (sum_by operation_bytes) rest ∙ sum_by-cons operation_bytes (get_or operations i none) (drop (i + 1) operations) in
    let one : operation_bytes operation ≡ operation_bytes (get_or operations i none) = ap operation_bytes is in (
      omega (arith, long, many),
      omega (arith, heavy, much, one),
      omega (arith, long, many),
      omega (arith, heavy, much, one),
    )

-- ---- the entries of what was added

entries_push : (s : ℕ) (operations : List Operation) (operation : Operation) → entries_of s (operations ++ operation ∷ []) ≡ entries_of s operations ++ made_entry (s + length operations) operation ∷ []
entries_push s [] operation = ap (λ (n : ℕ). made_entry n operation ∷ []) (let e : s ≡ s + 0 = omega arith in e)
entries_push s (first ∷ operations) operation =
    ap (λ (es : List Entry). made_entry s first ∷ es)
    (entries_push (s + 1) operations operation ∙ ap (λ (n : ℕ). entries_of (s + 1) operations ++ made_entry n operation ∷ []) (let e : s + 1 + length operations ≡ s + length (first ∷ operations) = omega arith in e))

pub entries_of_front : (s i : ℕ) (operations : List Operation) (operation : Operation) → i < length operations → operation ≡ get_or operations i operation
    → entries_of s (take (i + 1) operations) ≡ entries_of s (take i operations) ++ made_entry (s + i) operation ∷ []
entries_of_front s i operations operation within is =
    ap (λ (n : ℕ). entries_of s (take n operations)) (add-one i)
    ∙ ap (entries_of s) (take-suc operations i operation within)
    ∙ entries_push s (take i operations) (get_or operations i operation)
    ∙ ap (λ (n : ℕ). entries_of s (take i operations) ++ made_entry (s + n) (get_or operations i operation) ∷ []) (length-take-le i operations (omega (arith, within)))
    ∙ ap (λ (o : Operation). entries_of s (take i operations) ++ made_entry (s + i) o ∷ []) (sym is)
