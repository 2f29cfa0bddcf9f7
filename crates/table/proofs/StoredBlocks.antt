-- A block and what stands after it.
use Rattle.std.proofs.Common.{◌≡◌, ◌≢◌, ◌≤◌, ◌<◌, ◌+◌, ◌-◌, ◌^◌, inl, inr, ℕ, List, [], ◌∷◌, ◌++◌, length, take, drop, sym, ap, ◌∙◌, arith}
use Rattle.std.proofs.lemmas.List.{length-append, length-take, length-drop}
use Rattle.coding.specs.Checksum.{checksum, masked}
use Rattle.coding.specs.Fixed.{fixed32}
use Rattle.coding.proofs.Fronts.{same_front, fixed32_front}
use Rattle.table.specs.declared.handle.Handle.{Handle}
use Rattle.table.specs.Stored.{IsStored, trailer_of, trailer_of_type, end_of}
use Rattle.table.specs.Refusals.{HasOtherType, IsUnsupported}

-- what stands after a block of these bytes
pub parts_of_stored : (bytes front block : List ℕ) (kind other : ℕ) (stored : List ℕ) → bytes ≡ front ++ (kind ∷ stored) → length front ≡ length bytes - 5 → bytes ≡ block ++ trailer_of_type other block
    → (front ≡ block) × (kind ≡ other) × (stored ≡ fixed32 (masked (checksum (front ++ kind ∷ []))))
parts_of_stored bytes front block kind other stored e len h =
    let long : length front ≡ length block = omega (arith, len, ap length h, length-append block (trailer_of_type other block)) in
    let s = same_front front block (kind ∷ stored) (trailer_of_type other block) long (sym e ∙ h) in
    let k : kind ≡ other = cc in
    let t : stored ≡ fixed32 (masked (checksum (block ++ other ∷ []))) = cc in
    (s.0, k, t ∙ (λ i. fixed32 (masked (checksum (sym s.0 i ++ sym k i ∷ [])))))

pub too_short : (bytes block : List ℕ) (kind : ℕ) → length bytes < 5 → bytes ≡ block ++ trailer_of_type kind block → ⊥
too_short bytes block kind short h = absurd (omega (arith, short, ap length h, length-append block (trailer_of_type kind block)))

-- the number that is stored
pub same_stored : (stored : List ℕ) (m n : ℕ) → take 4 stored ≡ fixed32 m → stored ≡ fixed32 n → m < 2 ^ 32 → n < 2 ^ 32 → m ≡ n
same_stored stored m n e h p q =
    (fixed32_front m n [] [] p q (ap (λ (t : List ℕ). t ++ []) (sym e ∙ ap (take 4) h))).0

pub masked_fits : (crc : ℕ) → masked crc < 2 ^ 32
masked_fits crc = omega arith

-- no file has two blocks at one handle
pub one_stored : (file : List ℕ) (handle : Handle) (a b : List ℕ) → IsStored file handle a → IsStored file handle b → a ≡ b
one_stored file handle a b h k = (same_front a b (trailer_of a) (trailer_of b) (h.size ∙ sym k.size) (sym h.parts ∙ k.parts)).0

-- the block is in the file
pub stored_inside : (file : List ℕ) (handle : Handle) (block : List ℕ) → IsStored file handle block → end_of handle ≤ length file
stored_inside file handle block h =
    omega (arith, h.size, ap length h.parts, length-take (handle.size + 5) (drop handle.offset file), length-drop handle.offset file, length-append block (trailer_of block))

-- ---- what isn't supported

other_inside : (file : List ℕ) (handle : Handle) → HasOtherType file handle → end_of handle ≤ length file
other_inside file handle h =
    omega (arith, h.size, ap length h.parts, length-take (handle.size + 5) (drop handle.offset file), length-drop handle.offset file, length-append h.block (trailer_of_type h.kind h.block))

-- a block with the type 0 has no other
one_type : (file : List ℕ) (handle : Handle) (block : List ℕ) → IsStored file handle block → HasOtherType file handle → ⊥
one_type file handle block h o =
    let s = same_front block o.block (trailer_of block) (trailer_of_type o.kind o.block) (h.size ∙ sym o.size) (sym h.parts ∙ o.parts) in
    let zero : 0 ≡ o.kind = cc in
    o.other (sym zero)

-- a block that is there isn't supported only where it is too long
pub only_long : (file : List ℕ) (handle : Handle) (block : List ℕ) → IsStored file handle block → IsUnsupported file handle → 2 ^ 30 < handle.size
only_long file handle block h (inl long) = long.1
only_long file handle block h (inr other) = absurd (one_type file handle block h other)

-- a block that ends after the file
pub not_inside : (file : List ℕ) (handle : Handle) → length file < end_of handle → ((block : List ℕ) → IsStored file handle block → ⊥) × (IsUnsupported file handle → ⊥)
not_inside file handle short = (
  λ block h. omega (arith, short, stored_inside file handle block h),
  λ h. elim h [
    | inl long ↦ omega (arith, short, long.0)
    | inr other ↦ omega (arith, short, other_inside file handle other)
  ],
)

-- the bytes at a handle, which are no block of whatever type
pub no_block : (file bytes : List ℕ) (handle : Handle) → bytes ≡ take (handle.size + 5) (drop handle.offset file) → handle.size ≤ 2 ^ 30 → ((kind : ℕ) (block : List ℕ) → bytes ≡ block ++ trailer_of_type kind block → ⊥)
    → ((block : List ℕ) → IsStored file handle block → ⊥) × (IsUnsupported file handle → ⊥)
no_block file bytes handle is short none = (
  λ block h. none 0 block (is ∙ h.parts),
  λ h. elim h [
    | inl long ↦ omega (arith, short, long.1)
    | inr other ↦ none other.kind other.block (is ∙ other.parts)
  ],
)

-- the bytes at a handle, which are a block of another type
pub other_block : (file bytes : List ℕ) (handle : Handle) → bytes ≡ take (handle.size + 5) (drop handle.offset file) → length bytes ≡ handle.size + 5
    → ((kind : ℕ) × (block : List ℕ) × (kind ≢ 0) × (bytes ≡ block ++ trailer_of_type kind block)) → IsUnsupported file handle
other_block file bytes handle is long h = inr (record {
  kind = h.0;
  other = h.2;
  block = h.1;
  size = omega (arith, long, ap length h.3, length-append h.1 (trailer_of_type h.0 h.1));
  parts = sym is ∙ h.3;
})

-- a block that was read is supported
pub supported : (file bytes : List ℕ) (handle : Handle) → IsStored file handle bytes → length bytes ≤ 2 ^ 30 → IsUnsupported file handle → ⊥
supported file bytes handle stored short h = omega (arith, stored.size, short, only_long file handle bytes stored h)
