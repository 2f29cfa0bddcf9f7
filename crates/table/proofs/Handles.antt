-- No handle's bytes begin another's.
use Rattle.std.proofs.Common.{◌≡◌, ◌<◌, ◌≤◌, ◌^◌, ℕ, List, [], ◌++◌, length, take, refl, sym, ap, ◌∙◌, arith}
use Rattle.std.proofs.lemmas.List.{append-nil, take_at}
use Rattle.coding.proofs.Fronts.{varint_front}
use Rattle.coding.proofs.Spellings.{begins_pair, none_first, none_second, free_pair}
use Rattle.coding.specs.Spelling.{Begins, BeginsNone, IsPrefixFree}
use Rattle.coding.specs.Varint.{IsVarint}
use Rattle.table.specs.declared.handle.Handle.{Handle}
use Rattle.table.specs.Stored.{IsNumber, IsHandle}

pub number_free : IsPrefixFree IsNumber
number_free a b x y m n p q e = varint_front a b x y m n p.0 q.0 e

pub no_number : (bytes : List ℕ) → ((value used : ℕ) → value < 2 ^ 64 → IsVarint (take used bytes) value → ⊥) → BeginsNone IsNumber bytes
no_number bytes none value rest b = none value (length b.0) b.1.1 (rw (b.2, take_at b.0 rest (length b.0) refl) b.1.0)

pub handle_free : IsPrefixFree IsHandle
handle_free a b x y m n p q e =
    let same = free_pair IsNumber IsNumber number_free number_free a b x y (m.offset, m.size) (n.offset, n.size) p q e in
    (λ i. record { offset = (same.0 i).0; size = (same.0 i).1 }, same.1)

pub begins_handle : (bytes mid rest : List ℕ) (handle : Handle) → Begins IsNumber bytes handle.offset mid → Begins IsNumber mid handle.size rest → Begins IsHandle bytes handle rest
begins_handle bytes mid rest handle h k = begins_pair IsNumber IsNumber bytes mid rest handle.offset handle.size h k

pub no_offset : (bytes : List ℕ) → BeginsNone IsNumber bytes → BeginsNone IsHandle bytes
no_offset bytes none handle rest b = none_first IsNumber IsNumber bytes none (handle.offset, handle.size) rest b

pub no_size : (bytes mid : List ℕ) (offset : ℕ) → Begins IsNumber bytes offset mid → BeginsNone IsNumber mid → BeginsNone IsHandle bytes
no_size bytes mid offset h none handle rest b = none_second IsNumber IsNumber bytes mid offset number_free h none (handle.offset, handle.size) rest b

-- no bytes are two handles
pub one_handle : (bytes : List ℕ) (m n : Handle) → IsHandle bytes m → IsHandle bytes n → m ≡ n
one_handle bytes m n p q = (handle_free bytes bytes [] [] m n p q refl).0

-- a handle that ends before the bytes do leaves no handle that all of them are
pub not_whole : (bytes rest : List ℕ) (m n : Handle) → Begins IsHandle bytes m rest → 1 ≤ length rest → IsHandle bytes n → ⊥
not_whole bytes rest m n b some q =
    let same = handle_free b.0 bytes rest [] m n b.1 q (sym b.2 ∙ sym (append-nil bytes)) in
    absurd (omega (arith, some, ap length same.1))

pub whole : (bytes rest : List ℕ) (handle : Handle) → Begins IsHandle bytes handle rest → rest ≡ [] → IsHandle bytes handle
whole bytes rest handle b e =
    let same : bytes ≡ b.0 = b.2 ∙ ap (λ (t : List ℕ). b.0 ++ t) e ∙ append-nil b.0 in
    rw same b.1

pub not_begun : (bytes : List ℕ) → BeginsNone IsHandle bytes → (handle : Handle) → IsHandle bytes handle → ⊥
not_begun bytes none handle h = none handle [] (bytes, h, sym (append-nil bytes))
