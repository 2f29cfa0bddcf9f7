-- The parts of an entry, read one after the other.
use Rattle.std.proofs.Common.{◌≡◌, ℕ, ◌^◌, ◌<◌, ◌≤◌, List, [], ◌∷◌, ◌++◌, length, take, drop, get_or, refl, sym, ap, ◌∙◌, arith}
use Rattle.std.proofs.lemmas.List.{length-append, take_at}
use Rattle.coding.specs.Varint.{IsVarint}
use Rattle.coding.proofs.Fronts.{varint_front}
use Rattle.block.specs.Block.{IsEntry}
use Rattle.block.proofs.EntryLaws.{spread}

-- a number is read from the front
abbrev pub Reads : List ℕ → ℕ → List ℕ → Type 0
Reads bytes n behind = (front : List ℕ) × IsVarint front n × (bytes ≡ front ++ behind)

abbrev pub NoNumber : List ℕ → Type 0
NoNumber bytes = (number : ℕ) (front behind : List ℕ) → number < 2 ^ 32 → IsVarint front number → bytes ≡ front ++ behind → ⊥

abbrev pub NoEntry : List ℕ → Type 0
NoEntry bytes = (shared : ℕ) (rest value front behind : List ℕ) → IsEntry shared rest value front → bytes ≡ front ++ behind → ⊥

-- one byte below 128 is a number
pub one_byte : (bytes : List ℕ) (n : ℕ) → 1 ≤ length bytes → get_or bytes 0 0 < 128 → n ≡ get_or bytes 0 0 → Reads bytes n (drop 1 bytes)
one_byte [] n some small e = absurd (omega (arith, some))
one_byte (b ∷ bytes) n some small e = (b ∷ [], (small, e), refl)

pub no_number : (bytes : List ℕ) → ((value used : ℕ) → value < 2 ^ 32 → IsVarint (take used bytes) value → ⊥) → NoNumber bytes
no_number bytes none number front behind small p e =
    none number (length front) small (rw (e, take_at front behind (length front) refl) p)

behind_number : (bytes behind front rest : List ℕ) (n m : ℕ) → Reads bytes n behind → IsVarint front m → bytes ≡ front ++ rest → (n ≡ m) × (behind ≡ rest)
behind_number bytes behind front rest n m p q e = varint_front p.0 front behind rest n m p.1 q (sym p.2 ∙ e)

pub no_first : (bytes : List ℕ) → NoNumber bytes → NoEntry bytes
no_first bytes none s r v front x h e = none s h.first (h.second ++ (h.third ++ (r ++ (v ++ x)))) h.shared_fits h.shared_number (e ∙ spread s r v front x h)

pub no_second : (bytes b : List ℕ) (n : ℕ) → Reads bytes n b → NoNumber b → NoEntry bytes
no_second bytes b n p none s r v front x h e =
    let one = behind_number bytes b h.first (h.second ++ (h.third ++ (r ++ (v ++ x)))) n s p h.shared_number (e ∙ spread s r v front x h) in
    none (length r) h.second (h.third ++ (r ++ (v ++ x))) h.rest_fits h.rest_number one.1

pub no_third : (bytes b c : List ℕ) (n m : ℕ) → Reads bytes n b → Reads b m c → NoNumber c → NoEntry bytes
no_third bytes b c n m p q none s r v front x h e =
    let one = behind_number bytes b h.first (h.second ++ (h.third ++ (r ++ (v ++ x)))) n s p h.shared_number (e ∙ spread s r v front x h) in
    let two = behind_number b c h.second (h.third ++ (r ++ (v ++ x))) m (length r) q h.rest_number one.1 in
    none (length v) h.third (r ++ (v ++ x)) h.value_fits h.value_number two.1

-- the two lengths, and the key's rest and the value after them
three_numbers : (bytes b c d : List ℕ) (n m k : ℕ) → Reads bytes n b → Reads b m c → Reads c k d → (s : ℕ) (r v front x : List ℕ) → IsEntry s r v front → bytes ≡ front ++ x
    → (m ≡ length r) × (k ≡ length v) × (d ≡ r ++ (v ++ x))
three_numbers bytes b c d n m k p q o s r v front x h e =
    let one = behind_number bytes b h.first (h.second ++ (h.third ++ (r ++ (v ++ x)))) n s p h.shared_number (e ∙ spread s r v front x h) in
    let two = behind_number b c h.second (h.third ++ (r ++ (v ++ x))) m (length r) q h.rest_number one.1 in
    let three = behind_number c d h.third (r ++ (v ++ x)) k (length v) o h.value_number two.1 in
    (two.0, three.0, three.1)

pub no_rest : (bytes b c d : List ℕ) (n m k : ℕ) → Reads bytes n b → Reads b m c → Reads c k d → length d < m → NoEntry bytes
no_rest bytes b c d n m k p q o short s r v front x h e =
    let t = three_numbers bytes b c d n m k p q o s r v front x h e in
    omega (arith, short, t.0, ap length t.2, length-append r (v ++ x))

pub no_value : (bytes b c d rest f : List ℕ) (n m k : ℕ) → Reads bytes n b → Reads b m c → Reads c k d → (d ≡ rest ++ f) × (length rest ≡ m) → length f < k → NoEntry bytes
no_value bytes b c d rest f n m k p q o split short s r v front x h e =
    let t = three_numbers bytes b c d n m k p q o s r v front x h e in
    omega (arith, short, t.0, t.1, ap length (sym split.0 ∙ t.2), length-append rest f, length-append r (v ++ x), length-append v x, split.1)

pub read_entry : (bytes b c d rest f value behind : List ℕ) (n m k : ℕ) → Reads bytes n b → Reads b m c → Reads c k d → (d ≡ rest ++ f) × (length rest ≡ m) → (f ≡ value ++ behind) × (length value ≡ k)
    → n < 2 ^ 32 → m < 2 ^ 32 → k < 2 ^ 32 → (front : List ℕ) × IsEntry n rest value front × (bytes ≡ front ++ behind)
read_entry bytes b c d rest f value behind n m k p q o first second n-fits m-fits k-fits =
    let front = p.0 ++ (q.0 ++ (o.0 ++ (rest ++ value))) in
    let entry : IsEntry n rest value front = record {
      first = p.0;
      second = q.0;
      third = o.0;
      shared_number = p.1;
      rest_number = rw first.1 q.1;
      value_number = rw second.1 o.1;
      shared_fits = n-fits;
      rest_fits = omega (arith, first.1, m-fits);
      value_fits = omega (arith, second.1, k-fits);
      parts = refl;
    } in (
      front,
      entry,
      p.2 ∙ ap (λ (z : List ℕ). p.0 ++ z) (q.2 ∙ ap (λ (z : List ℕ). q.0 ++ z) (o.2 ∙ ap (λ (z : List ℕ). o.0 ++ z) (first.0 ∙ ap (λ (z : List ℕ). rest ++ z) second.0)))
          ∙ sym (spread n rest value front behind entry),
    )
