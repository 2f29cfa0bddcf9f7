-- The file of a table has no other table's name, whatever number that has.
use Rattle.std.proofs.Common.{◌≡◌, ℕ, zero, suc, ◌+◌, ◌-◌, ◌/◌, ◌%◌, ◌^◌, ◌<◌, ◌≤◌, ◌==◌, Bool, false, cond, List, [], ◌∷◌, ◌++◌, drop, get_or, length, replicate, refl, sym, ap, ◌∙◌, arith, inl, inr}
use Rattle.std.specs.Prelude.{codes}
use Rattle.std.specs.Fmt.{decimal, digit_glyph, digits, digits_onto}
use Rattle.std.specs.Str.Parse.{digits_value}
use Rattle.std.proofs.lemmas.Bool.{cases_lt}
use Rattle.std.proofs.lemmas.Bool.Decides.{nat_tests}
use Rattle.std.proofs.lemmas.Fmt.{decimal_is_IsNumeral_wide, length-decimal-le}
use Rattle.std.proofs.lemmas.List.{append_cancel_right, drop_at, length-append}
use Rattle.std.proofs.Math.Nat.{pow-suc}
use Rattle.edits.specs.declared.names.FileName.TheVariants.{OldTable, Table}
use Rattle.edits.specs.Names.{name_of, padded}
use Rattle.edits.proofs.FileNames.{length-padded}

-- ---- numbers of up to 64 digits

value-zeros : (k : ℕ) (ds : List ℕ) → digits_value 10 (replicate k 48 ++ ds) ≡ digits_value 10 ds
value-zeros zero ds = refl
value-zeros (suc k) ds = value-zeros k ds

value-wide : (n : ℕ) → n < 10 ^ 64 → digits_value 10 (padded n) ≡ n
value-wide n wide = value-zeros (6 - length (decimal n)) (decimal n) ∙ (decimal_is_IsNumeral_wide n wide).1

-- ---- greater ones, of which the last 64 digits are written

one-pow : (k : ℕ) → 0 < 10 ^ k
one-pow zero = omega arith
one-pow (suc k) = let rest = one-pow k in let next = pow-suc 10 k in omega (arith, rest, next)

long-onto : (k n : ℕ) (acc : List ℕ) → 10 ^ k ≤ n → length (digits_onto k 10 false n acc) ≡ k + length acc
long-onto zero n acc le = omega arith
long-onto (suc k) n acc le =
    let next = pow-suc 10 k in
    let some = one-pow k in
    let shorter : 10 ^ k ≤ n / 10 = omega (arith, next, le) in
    let more : (n / 10 == 0) ≡ false = grind (arith, nat_tests, some, shorter) in
    let rest = long-onto k (n / 10) (digit_glyph false (n % 10) ∷ acc) shorter in
    ap (λ (b : Bool). length (cond b (digit_glyph false (n % 10) ∷ acc) (digits_onto k 10 false (n / 10) (digit_glyph false (n % 10) ∷ acc)))) more ∙ rest ∙ omega arith

long-decimal : (n : ℕ) → 10 ^ 64 ≤ n → length (decimal n) ≡ 64
unfolding digits
long-decimal n le = long-onto 64 n [] le

-- ---- names

same-padded : (m n : ℕ) → n < 2 ^ 64 → padded m ≡ padded n → m ≡ n
same-padded m n small e = elim (cases_lt m (10 ^ 64)) [
  | inl wide ↦ sym (value-wide m wide) ∙ ap (digits_value 10) e ∙ value-wide n (omega (arith, small))
  | inr large ↦
      let long = long-decimal m large in
      let short = length-decimal-le 20 n (omega arith) (omega (arith, small)) small in
      let first = length-padded m in
      let second = length-padded n in
      let same = ap length e in
      absurd (omega (arith, long, short, first, second, same))
]

pub one_table : (m n : ℕ) → n < 2 ^ 64 → name_of (Table m) ≡ name_of (Table n) → m ≡ n
one_table m n small e = same-padded m n small (append_cancel_right (padded m) (padded n) (codes ".ldb") e)

pub no_old_table : (m n : ℕ) → name_of (OldTable m) ≡ name_of (Table n) → ⊥
no_old_table m n e =
    let long : length (padded m) ≡ length (padded n) = omega (arith, ap length e, length-append (padded m) (codes ".sst"), length-append (padded n) (codes ".ldb")) in
    let ends : codes ".sst" ≡ codes ".ldb" = sym (drop_at (padded m) (codes ".sst") (length (padded m)) refl) ∙ ap (drop (length (padded m))) e ∙ drop_at (padded n) (codes ".ldb") (length (padded m)) (sym long) in
    let second : 115 ≡ 108 = ap (λ (bytes : List ℕ). get_or bytes 1 0) ends in
    absurd (omega (arith, second))
