-- Footers, both ways.
use Rattle.std.proofs.Common.{◌≡◌, ◌≤◌, ◌<◌, ◌+◌, ◌-◌, ◌*◌, ℕ, zero, suc, List, [], ◌∷◌, ◌++◌, length, take, drop, replicate, refl, sym, ap, ◌∙◌, subst, arith, append_assoc}
use Rattle.std.proofs.lemmas.List.{length-append, length-take, length-drop, length-replicate, take-append-drop}
use Rattle.coding.proofs.Fronts.{same_front}
use Rattle.coding.proofs.Spellings.{appends_pair, begins_pair, free_pair, none_first, none_second}
use Rattle.coding.specs.Spelling.{InTurn, Begins, BeginsNone, Appends}
use Rattle.coding.specs.Varint.{IsVarint}
use Rattle.table.specs.declared.handle.Handle.{Handle}
use Rattle.table.specs.Stored.{IsNumber, IsHandle}
use Rattle.table.specs.Frame.{IsFooter, HasFooter, magic}
use Rattle.table.proofs.Handles.{handle_free}

-- 128 as often as a factor
power : ℕ → ℕ
power zero = 1
power (suc n) = 128 * power n

short_varint : (k : ℕ) (bytes : List ℕ) (n : ℕ) → IsVarint bytes n → n < power (suc k) → length bytes ≤ suc k
unfolding power
short_varint k [] n p small = absurd p
short_varint k (b ∷ []) n p small = omega arith
short_varint zero (b ∷ c ∷ bytes) n p small = absurd (omega (arith, p.0, p.3, p.4, small))
short_varint (suc k) (b ∷ c ∷ bytes) n p small =
    let inner = short_varint k (c ∷ bytes) p.2 p.5 (omega (arith, p.0, p.4, small)) in omega (arith, inner)

pub short_number : (bytes : List ℕ) (n : ℕ) → IsNumber bytes n → length bytes ≤ 10
unfolding power
short_number bytes n p = short_varint 9 bytes n p.0 (omega (arith, p.1))

pub short_handle : (bytes : List ℕ) (handle : Handle) → IsHandle bytes handle → length bytes ≤ 20
short_handle bytes handle p =
    omega (arith, ap length p.4, length-append p.0 p.1, short_number p.0 handle.offset p.2, short_number p.1 handle.size p.3)

pub short_handles : (bytes : List ℕ) (metaindex index : Handle) → InTurn IsHandle IsHandle bytes (metaindex, index) → length bytes ≤ 40
short_handles bytes metaindex index p =
    omega (arith, ap length p.4, length-append p.0 p.1, short_handle p.0 metaindex p.2, short_handle p.1 index p.3)

pub footer_put : (old one two three new : List ℕ) (metaindex index : Handle) (used count : ℕ) → Appends IsHandle old one metaindex → Appends IsHandle one two index
    → used ≡ length two - length old → count ≡ 40 - used → three ≡ two ++ replicate count 0 → new ≡ three ++ magic
    → (bytes : List ℕ) × IsFooter bytes metaindex index × (new ≡ old ++ bytes)
footer_put old one two three new metaindex index used count h k used_is count_is zeros magic_is =
    let both = appends_pair IsHandle IsHandle old one two metaindex index h k in
    let len : count ≡ 40 - length both.0 = omega (arith, ap length both.2, length-append old both.0) in
    let whole : new ≡ old ++ (both.0 ++ (replicate (40 - length both.0) 0 ++ magic)) =
    magic_is ∙ ap (λ (t : List ℕ). t ++ magic) (zeros ∙ ap (λ (n : ℕ). two ++ replicate n 0) len ∙ ap (λ (t : List ℕ). t ++ replicate (40 - length both.0) 0) both.2)
    ∙ append_assoc (old ++ both.0) (replicate (40 - length both.0) 0) magic ∙ append_assoc old both.0 (replicate (40 - length both.0) 0 ++ magic) in (
      both.0 ++ (replicate (40 - length both.0) 0 ++ magic),
      record { handles = both.0; handles_are = both.1; room = short_handles both.0 metaindex index both.1; parts = refl },
      whole,
    )

pub length-footer : (footer : List ℕ) (metaindex index : Handle) → IsFooter footer metaindex index → length footer ≡ 48
length-footer footer metaindex index h =
    omega (arith, ap length h.parts, h.room, length-append h.handles (replicate (40 - length h.handles) 0 ++ magic), length-append (replicate (40 - length h.handles) 0) magic, length-replicate {A = ℕ} (40 - length h.handles) 0)

-- the footer's first 40 bytes and its last 8
pub footer_parts : (front last footer : List ℕ) (metaindex index : Handle) → footer ≡ front ++ last → length front ≡ 40 → IsFooter footer metaindex index
    → (handles : List ℕ) × InTurn IsHandle IsHandle handles (metaindex, index) × (front ≡ handles ++ replicate (40 - length handles) 0) × (last ≡ magic)
footer_parts front last footer metaindex index e len h =
    let whole : front ++ last ≡ (h.handles ++ replicate (40 - length h.handles) 0) ++ magic = sym e ∙ h.parts ∙ sym (append_assoc h.handles (replicate (40 - length h.handles) 0) magic) in
    let long : length front ≡ length (h.handles ++ replicate (40 - length h.handles) 0) =
    omega (arith, len, h.room, length-append h.handles (replicate (40 - length h.handles) 0), length-replicate {A = ℕ} (40 - length h.handles) 0) in
    let s = same_front front (h.handles ++ replicate (40 - length h.handles) 0) last magic long whole in
    (h.handles, h.handles_are, s.0, s.1)

pub footer_read : (front last footer mid padding : List ℕ) (metaindex index : Handle) → footer ≡ front ++ last → length front ≡ 40 → last ≡ magic
    → Begins IsHandle front metaindex mid → Begins IsHandle mid index padding → padding ≡ replicate (length padding) 0 → IsFooter footer metaindex index
footer_read front last footer mid padding metaindex index e len magic_is h k zeros =
    let b = begins_pair IsHandle IsHandle front mid padding metaindex index h k in
    let count : length padding ≡ 40 - length b.0 = omega (arith, len, ap length b.2, length-append b.0 padding) in
    let pad : padding ≡ replicate (40 - length b.0) 0 = zeros ∙ ap (λ (n : ℕ). replicate n 0) count in
    record {
      handles = b.0;
      handles_are = b.1;
      room = short_handles b.0 metaindex index b.1;
      parts = e ∙ ap (λ (t : List ℕ). t ++ last) (b.2 ∙ ap (λ (t : List ℕ). b.0 ++ t) pad) ∙ append_assoc b.0 (replicate (40 - length b.0) 0) last
          ∙ ap (λ (t : List ℕ). b.0 ++ (replicate (40 - length b.0) 0 ++ t)) magic_is;
    }

-- why bytes are no footer
pub no_first : (front last footer : List ℕ) (m i : Handle) → footer ≡ front ++ last → length front ≡ 40 → BeginsNone IsHandle front → IsFooter footer m i → ⊥
no_first front last footer m i e len none h =
    let p = footer_parts front last footer m i e len h in
    none_first IsHandle IsHandle front none (m, i) (replicate (40 - length p.0) 0) (p.0, p.1, p.2)

pub no_second : (front last footer mid : List ℕ) (metaindex m i : Handle) → footer ≡ front ++ last → length front ≡ 40 → Begins IsHandle front metaindex mid → BeginsNone IsHandle mid → IsFooter footer m i → ⊥
no_second front last footer mid metaindex m i e len b none h =
    let p = footer_parts front last footer m i e len h in
    none_second IsHandle IsHandle front mid metaindex handle_free b none (m, i) (replicate (40 - length p.0) 0) (p.0, p.1, p.2)

pub no_zeros : (front last footer mid padding : List ℕ) (metaindex index m i : Handle) → footer ≡ front ++ last → length front ≡ 40
    → Begins IsHandle front metaindex mid → Begins IsHandle mid index padding → (padding ≡ replicate (length padding) 0 → ⊥) → IsFooter footer m i → ⊥
no_zeros front last footer mid padding metaindex index m i e len h k other f =
    let p = footer_parts front last footer m i e len f in
    let b = begins_pair IsHandle IsHandle front mid padding metaindex index h k in
    let s = free_pair IsHandle IsHandle handle_free handle_free b.0 p.0 padding (replicate (40 - length p.0) 0) (metaindex, index) (m, i) b.1 p.1 (sym b.2 ∙ p.2) in
    let n : 40 - length p.0 ≡ length padding = omega (arith, ap length s.1, length-replicate {A = ℕ} (40 - length p.0) 0) in
    other (s.1 ∙ ap (λ (n : ℕ). replicate n 0) n)

pub no_magic : (front last footer : List ℕ) (m i : Handle) → footer ≡ front ++ last → length front ≡ 40 → (last ≡ magic → ⊥) → IsFooter footer m i → ⊥
no_magic front last footer m i e len other h = other (footer_parts front last footer m i e len h).3

-- ---- the footer of a file

pub one_footer : (file : List ℕ) (before after : ℕ) (m i n j : Handle) → HasFooter file before m i → HasFooter file after n j → (before ≡ after) × (m ≡ n) × (i ≡ j)
one_footer file before after m i n j h k =
    let bodies : length h.body ≡ length k.body = omega (arith, ap length h.parts, ap length k.parts, length-append h.body h.footer, length-append k.body k.footer, length-footer h.footer m i h.footer_is, length-footer k.footer n j k.footer_is) in
    let s = same_front h.body k.body h.footer k.footer bodies (sym h.parts ∙ k.parts) in
    let p = free_pair IsHandle IsHandle handle_free handle_free h.footer_is.handles k.footer_is.handles (replicate (40 - length h.footer_is.handles) 0 ++ magic) (replicate (40 - length k.footer_is.handles) 0 ++ magic)
    (m, i) (n, j) h.footer_is.handles_are k.footer_is.handles_are (sym h.footer_is.parts ∙ s.1 ∙ k.footer_is.parts) in
    (sym h.before_is ∙ bodies ∙ k.before_is, (λ t. (p.0 t).0), (λ t. (p.0 t).1))

take-all : (xs : List ℕ) (n : ℕ) → length xs ≤ n → take n xs ≡ xs
take-all [] zero p = refl
take-all [] (suc n) p = refl
take-all (x ∷ xs) zero p = absurd (omega arith)
take-all (x ∷ xs) (suc n) p = ap (λ (t : List ℕ). x ∷ t) (take-all xs n (omega arith))

pub footer_found : (file bytes : List ℕ) (before : ℕ) (m i : Handle) → before ≤ length file → bytes ≡ take 48 (drop before file) → length file ≡ before + 48 → IsFooter bytes m i → HasFooter file before m i
footer_found file bytes before m i p e len h = record {
  body = take before file;
  footer = bytes;
  parts = sym (take-append-drop before file) ∙ ap (λ (t : List ℕ). take before file ++ t) (sym (e ∙ take-all (drop before file) 48 (omega (arith, len, length-drop before file))));
  before_is = omega (arith, length-take before file, p);
  footer_is = h;
}

pub long_enough : (file : List ℕ) (before : ℕ) (m i : Handle) → HasFooter file before m i → 48 ≤ length file
long_enough file before m i h = omega (arith, ap length h.parts, length-append h.body h.footer, length-footer h.footer m i h.footer_is)

pub no_footer : (file bytes : List ℕ) (start : ℕ) → bytes ≡ take 48 (drop start file) → length file ≡ start + 48 → ((m i : Handle) → IsFooter bytes m i → ⊥)
    → (before : ℕ) (m i : Handle) → HasFooter file before m i → ⊥
no_footer file bytes start e len none before m i h =
    let same : bytes ≡ drop start file = e ∙ take-all (drop start file) 48 (omega (arith, len, length-drop start file)) in
    let bodies : length (take start file) ≡ length h.body = omega (arith, len, length-take start file, ap length h.parts, length-append h.body h.footer, length-footer h.footer m i h.footer_is) in
    let s = same_front (take start file) h.body (drop start file) h.footer bodies (take-append-drop start file ∙ h.parts) in
    none m i (subst (λ (t : List ℕ). IsFooter t m i) (sym (same ∙ s.1)) h.footer_is)
