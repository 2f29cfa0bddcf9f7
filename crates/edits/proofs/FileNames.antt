-- No two files have one name.
use Rattle.std.proofs.Common.{◌≡◌, ℕ, zero, suc, ◌+◌, ◌*◌, ◌-◌, ◌/◌, ◌%◌, ◌^◌, ◌<◌, ◌≤◌, inl, inr, max, true, cond, ltb, List, [], ◌∷◌, ◌++◌, length, take, drop, replicate, get_or, refl, sym, ap, ◌∙◌, append_assoc, arith}
use Rattle.std.specs.Prelude.{codes, Option, Some, None, IfNone}
use Rattle.std.specs.Fmt.{decimal}
use Rattle.std.specs.Char.{digit_value}
use Rattle.std.specs.Int.{IsInRange, IsOutOfRange}
use Rattle.std.specs.Str.Parse.{AllDigits, digits_value}
use Rattle.std.proofs.lemmas.Fmt.{decimal_digit, decimal_step, decimal_is_IsNumeral, digits_decimal, decimal-digits_value, first_decimal}
use Rattle.std.proofs.lemmas.Int.Digits.{digits_value_more}
use Rattle.std.proofs.lemmas.Str.Parse.{digits_value-take-le, numerals_by_value, tells_digits, digit_from_value}
use Rattle.std.proofs.lemmas.Bool.Decides.{nat_tests}
use Rattle.std.proofs.lemmas.Slice.Eq.{bytes_eq-Decides}
use Rattle.std.specs.Str.{bytes_eq}
use Rattle.std.proofs.lemmas.Bool.{cases_lt, cases_eq, cases_order}
use Rattle.std.proofs.lemmas.List.{append_cancel_left, append_cancel_right, length-append, length-replicate, length-take, get_or_append_left, get_or-append_right, get_or-take, take_at, drop_at, take-append-drop}
use Rattle.edits.specs.declared.names.FileName.{FileName}
use Rattle.edits.specs.declared.names.FileName.TheVariants.{Current, Lock, Log, Manifest, Table, OldTable, Temporary}
use Rattle.edits.specs.Names.{padded, name_of, IsFileName, IsNumbered, IsEnding}

-- ---- numbers

value-zeros : (k : ℕ) (ds : List ℕ) → digits_value 10 (replicate k 48 ++ ds) ≡ digits_value 10 ds
value-zeros zero ds = refl
value-zeros (suc k) ds = value-zeros k ds

pub value-padded : (n : ℕ) → n < 2 ^ 64 → digits_value 10 (padded n) ≡ n
value-padded n small = value-zeros (6 - length (decimal n)) (decimal n) ∙ (decimal_is_IsNumeral n small).1

pub same_number : (m n : ℕ) → m < 2 ^ 64 → n < 2 ^ 64 → padded m ≡ padded n → m ≡ n
same_number m n p q e = sym (value-padded m p) ∙ ap (digits_value 10) e ∙ value-padded n q

-- ---- the last byte of a name

last_byte : List ℕ → ℕ
last_byte [] = 0
last_byte (b ∷ []) = b
last_byte (b ∷ c ∷ bytes) = last_byte (c ∷ bytes)

last_byte-append : (xs ys : List ℕ) (y : ℕ) → last_byte (xs ++ (y ∷ ys)) ≡ last_byte (y ∷ ys)
unfolding last_byte
last_byte-append [] ys y = refl
last_byte-append (x ∷ []) ys y = refl
last_byte-append (x ∷ z ∷ xs) ys y = last_byte-append (z ∷ xs) ys y

last_of_decimal : (n : ℕ) → n < 2 ^ 64 → (d : ℕ) × (d < 58) × ((xs : List ℕ) → last_byte (xs ++ decimal n) ≡ d)
unfolding last_byte
last_of_decimal n small =
    elim (cases_lt n 10) [
      | inl lt ↦ (48 + n, omega arith, λ xs. ap (λ (t : List ℕ). last_byte (xs ++ t)) (decimal_digit n lt) ∙ last_byte-append xs [] (48 + n))
      | inr ge ↦ (
        48 + n % 10,
        omega arith,
        λ xs.
            ap (λ (t : List ℕ). last_byte (xs ++ t)) (decimal_step n ge small) ∙ ap last_byte (sym (append_assoc xs (decimal (n / 10)) ((48 + n % 10) ∷ [])))
            ∙ last_byte-append (xs ++ decimal (n / 10)) [] (48 + n % 10),
      )
    ]

-- a number that tells the kinds of files apart
kind : FileName → ℕ
kind Current = 84
kind Lock = 75
kind (Log n) = 103
kind (Table n) = 98
kind (OldTable n) = 116
kind (Manifest n) = 0
kind (Temporary n) = 112

-- by the last byte of the name
told : ℕ → ℕ
told b = cond (ltb b 58) 0 b

told_digit : (d : ℕ) → d < 58 → told d ≡ 0
unfolding told
told_digit d lt = grind arith

kind-name : (file : FileName) → IsFileName file → told (last_byte (name_of file)) ≡ kind file
unfolding last_byte kind told
kind-name Current h = refl
kind-name Lock h = refl
kind-name (Log n) h = ap told (last_byte-append (padded n) (108 ∷ 111 ∷ 103 ∷ []) 46)
kind-name (Table n) h = ap told (last_byte-append (padded n) (108 ∷ 100 ∷ 98 ∷ []) 46)
kind-name (OldTable n) h = ap told (last_byte-append (padded n) (115 ∷ 115 ∷ 116 ∷ []) 46)
kind-name (Temporary n) h = ap told (last_byte-append (padded n) (100 ∷ 98 ∷ 116 ∷ 109 ∷ 112 ∷ []) 46)
kind-name (Manifest n) h =
    let last = last_of_decimal n h.1 in
    let zeros = replicate (6 - length (decimal n)) 48 in
    ap (λ (t : List ℕ). told (last_byte t)) (sym (append_assoc (codes "MANIFEST-") zeros (decimal n))) ∙ ap told (last.2 (codes "MANIFEST-" ++ zeros)) ∙ told_digit last.0 last.1

same_of_kind : (file other : FileName) → IsFileName file → IsFileName other → kind file ≡ kind other → name_of file ≡ name_of other → file ≡ other
unfolding kind
same_of_kind Current Current h g k e = refl
same_of_kind Lock Lock h g k e = refl
same_of_kind (Log m) (Log n) h g k e = ap Log (same_number m n h.1 g.1 (append_cancel_right (padded m) (padded n) (codes ".log") e))
same_of_kind (Table m) (Table n) h g k e = ap Table (same_number m n h.1 g.1 (append_cancel_right (padded m) (padded n) (codes ".ldb") e))
same_of_kind (OldTable m) (OldTable n) h g k e = ap OldTable (same_number m n h.1 g.1 (append_cancel_right (padded m) (padded n) (codes ".sst") e))
same_of_kind (Manifest m) (Manifest n) h g k e = ap Manifest (same_number m n h.1 g.1 (append_cancel_left (codes "MANIFEST-") (padded m) (padded n) e))
same_of_kind (Temporary m) (Temporary n) h g k e = ap Temporary (same_number m n h.1 g.1 (append_cancel_right (padded m) (padded n) (codes ".dbtmp") e))
same_of_kind file other h g k e = absurd (omega (arith, k))

pub one_file : (file other : FileName) → IsFileName file → IsFileName other → name_of file ≡ name_of other → file ≡ other
one_file file other h g e =
    same_of_kind file other h g (sym (kind-name file h) ∙ ap (λ (t : List ℕ). told (last_byte t)) e ∙ kind-name other g) e

-- ---- writing and reading numbers

replicate-push : (n : ℕ) → replicate {A = ℕ} (suc n) 48 ≡ replicate {A = ℕ} n 48 ++ 48 ∷ []
replicate-push zero = refl
replicate-push (suc n) = ap (λ (t : List ℕ). 48 ∷ t) (replicate-push n)

pub zeros_more : (start old new : List ℕ) (k l : ℕ) → l ≤ k → old ≡ start ++ replicate (k - l) 48 → new ≡ old ++ 48 ∷ [] → new ≡ start ++ replicate (k + 1 - l) 48
zeros_more start old new k l le h e =
    let more : k + 1 - l ≡ suc (k - l) = omega arith in
    e ∙ ap (λ (t : List ℕ). t ++ 48 ∷ []) h ∙ append_assoc start (replicate (k - l) 48) (48 ∷ []) ∙ ap (λ (t : List ℕ). start ++ t) (sym (replicate-push (k - l)) ∙ ap (λ (n : ℕ). replicate n 48) (sym more))

pub digit_at : (bs : List ℕ) (i : ℕ) → AllDigits 10 bs → i < length bs → digit_value (get_or bs i 0) < 10
digit_at [] i h lt = absurd (omega arith)
digit_at (b ∷ bs) zero h lt = h.0
digit_at (b ∷ bs) (suc i) h lt = digit_at bs i h.1 (omega (arith, lt))

-- ---- the digits in front

-- a digit, as the program tests it
pub digit_minus : (c : ℕ) → IsInRange 48 57 c → digit_value c ≡ c - 48
digit_minus c h = grind (arith, nat_tests)

pub no_digit : (c : ℕ) → IsOutOfRange 48 57 c → 10 ≤ digit_value c
no_digit c h = grind (arith, nat_tests)

pub from_not_lt : (a b : ℕ) → (a < b → ⊥) → b ≤ a
from_not_lt a b none =
    elim (cases_lt a b) [
      | inl lt ↦ absurd (none lt)
      | inr le ↦ le
    ]

-- the value only grows after the first digits
pub value_past : (bs : List ℕ) (i v : ℕ) → i < length bs → digits_value 10 (take i bs) ≡ v → 2 ^ 64 ≤ v * 10 + digit_value (get_or bs i 0) → 2 ^ 64 ≤ digits_value 10 bs
value_past bs i v lt e h =
    let more : digits_value 10 (take (i + 1) bs) ≡ digits_value 10 (take i bs) * 10 + digit_value (get_or bs i 0) = digits_value_more 10 bs i lt in
    let le : digits_value 10 (take (i + 1) bs) ≤ digits_value 10 bs = digits_value-take-le 10 bs (i + 1) (omega arith) in
    omega (arith, more, le, e, h)

digits-zeros : (k : ℕ) (ds : List ℕ) → AllDigits 10 ds → AllDigits 10 (replicate k 48 ++ ds)
digits-zeros zero ds h = h
digits-zeros (suc k) ds h = (omega arith, digits-zeros k ds h)

pub digits-padded : (n : ℕ) → n < 2 ^ 64 → AllDigits 10 (padded n)
digits-padded n small = digits-zeros (6 - length (decimal n)) (decimal n) (digits_decimal (numerals_by_value (AllDigits 10) tells_digits) n small)

pub length-padded : (n : ℕ) → length (padded n) ≡ max 6 (length (decimal n))
length-padded n = omega (arith, length-append (replicate {A = ℕ} (6 - length (decimal n)) 48) (decimal n), length-replicate {A = ℕ} (6 - length (decimal n)) 48)

-- a longer number has no zeros in front
pub first-padded : (n : ℕ) → 0 < n → n < 2 ^ 64 → 6 < length (padded n) → get_or (padded n) 0 0 ≡ 48 → ⊥
first-padded n some small long zero_in_front =
    let none : 6 - length (decimal n) ≡ 0 = omega (arith, length-padded n) in
    let same : padded n ≡ decimal n = ap (λ (k : ℕ). replicate k 48 ++ decimal n) none in
    omega (arith, first_decimal n some small, ap (λ (t : List ℕ). get_or t 0 0) same, zero_in_front)

-- the zeros before a number
zero-value : (c : ℕ) (cs : List ℕ) → c ≡ 48 → digits_value 10 (c ∷ cs) ≡ digits_value 10 cs
zero-value c cs e = rw e refl

stripped : (ds : List ℕ) → AllDigits 10 ds → 0 < digits_value 10 ds → digits_value 10 ds < 2 ^ 64 → (k : ℕ) × (ds ≡ replicate k 48 ++ decimal (digits_value 10 ds))
stripped [] h some small = absurd (omega (arith, some))
stripped (c ∷ cs) h some small =
    elim (cases_eq c 48) [
      | inl e ↦
          let same = zero-value c cs e in
          let rest = stripped cs h.1 (omega (arith, some, same)) (omega (arith, small, same)) in
          (suc rest.0, ap (λ (x : ℕ). x ∷ cs) e ∙ ap (λ (t : List ℕ). 48 ∷ t) rest.1 ∙ ap (λ (v : ℕ). 48 ∷ (replicate rest.0 48 ++ decimal v)) (sym same))
      | inr ne ↦ (0, sym (decimal-digits_value (numerals_by_value (AllDigits 10) tells_digits) (c ∷ cs) h (omega arith) (λ e. absurd (ne e)) small))
    ]

first-zeros : (k : ℕ) (ds : List ℕ) → 0 < k → get_or (replicate k 48 ++ ds) 0 0 ≡ 48
first-zeros zero ds h = absurd (omega (arith, h))
first-zeros (suc k) ds h = refl

-- as many digits as a name has are those of their value
pub padded-value : (ds : List ℕ) → AllDigits 10 ds → 6 ≤ length ds → (6 < length ds → get_or ds 0 0 ≡ 48 → ⊥) → 0 < digits_value 10 ds → digits_value 10 ds < 2 ^ 64 → ds ≡ padded (digits_value 10 ds)
padded-value ds h enough no_zero some small =
    let s = stripped ds h some small in
    let v = digits_value 10 ds in
    let long : length ds ≡ s.0 + length (decimal v) = ap length s.1 ∙ length-append (replicate s.0 48) (decimal v) ∙ ap (λ (k : ℕ). k + length (decimal v)) (length-replicate s.0 48) in
    let zeros : s.0 ≡ 6 - length (decimal v) =
    elim (cases_lt 6 (length ds)) [
      | inl more ↦ elim (cases_lt 0 s.0) [
        | inl one ↦ absurd (no_zero more (ap (λ (t : List ℕ). get_or t 0 0) s.1 ∙ first-zeros s.0 (decimal v) one))
        | inr none ↦ omega (arith, long, none, more)
      ]
      | inr six ↦ omega (arith, long, six, enough)
    ] in
    s.1 ∙ ap (λ (k : ℕ). replicate k 48 ++ decimal v) zeros

-- where the digits end
pub front-end : (name ds tail : List ℕ) (d : ℕ) → name ≡ ds ++ tail → AllDigits 10 ds → 0 < length tail → 10 ≤ digit_value (get_or tail 0 0)
    → d ≤ length name → AllDigits 10 (take d name) → (d < length name → 10 ≤ digit_value (get_or name d 0)) → d ≡ length ds
front-end name ds tail d e h some other within digits stop =
    let long : length name ≡ length ds + length tail = ap length e ∙ length-append ds tail in
    elim (cases_order d (length ds)) [
      | inl same ↦ same
      | inr (inl less) ↦
          let at : get_or name d 0 ≡ get_or ds d 0 = ap (λ (t : List ℕ). get_or t d 0) e ∙ get_or_append_left ds tail 0 d less in
          let one = digit_at ds d h less in
          absurd (omega (arith, one, ap digit_value at, stop (omega (arith, long, less))))
      | inr (inr more) ↦
          let at : get_or (take d name) (length ds) 0 ≡ get_or tail 0 0 = get_or-take d name (length ds) 0 more ∙ ap (λ (t : List ℕ). get_or t (length ds) 0) e ∙ get_or-append_right ds tail (length ds) (length ds) 0 refl (omega arith) ∙ ap (λ (k : ℕ). get_or tail k 0) (omega arith) in
          let one = digit_at (take d name) (length ds) digits (omega (arith, length-take d name, within, more)) in
          absurd (omega (arith, one, ap digit_value at, other))
    ]

ending-some : (ending : List ℕ) → IsEnding ending → (0 < length ending) × (10 ≤ digit_value (get_or ending 0 0))
ending-some ending (inl e) = rw e (omega arith, omega arith)
ending-some ending (inr (inl e)) = rw e (omega arith, omega arith)
ending-some ending (inr (inr (inl e))) = rw e (omega arith, omega arith)
ending-some ending (inr (inr (inr e))) = rw e (omega arith, omega arith)

-- the number of a name and what stands after it, where the digits in front end
pub split_name : (name ending : List ℕ) (n d : ℕ) → IsNumbered n → IsEnding ending → name ≡ padded n ++ ending
    → d ≤ length name → AllDigits 10 (take d name) → (d < length name → 10 ≤ digit_value (get_or name d 0)) → (take d name ≡ padded n) × (drop d name ≡ ending)
split_name name ending n d h end e within digits stop =
    let some = ending-some ending end in
    let at = front-end name (padded n) ending d e (digits-padded n h.1) some.0 some.1 within digits stop in
    (ap (take d) e ∙ take_at (padded n) ending d (sym at), ap (drop d) e ∙ drop_at (padded n) ending d (sym at))

-- ---- whole names

-- a name with a letter in front is no number's
pub letter-padded : (name ending : List ℕ) (n : ℕ) → IsNumbered n → name ≡ padded n ++ ending → 58 ≤ get_or name 0 0 → get_or name 0 0 < 91 → ⊥
letter-padded name ending n h e low high =
    let long = length-padded n in
    let at : get_or name 0 0 ≡ get_or (padded n) 0 0 = ap (λ (t : List ℕ). get_or t 0 0) e ∙ get_or_append_left (padded n) ending 0 0 (omega (arith, long)) in
    let one = digit_from_value (get_or (padded n) 0 0) (digit_at (padded n) 0 (digits-padded n h.1) (omega (arith, long))) in
    omega (arith, one, at, low)

-- a MANIFEST's name, where no number stands after its front
pub no_manifest : (digits : List ℕ) → ((n : ℕ) → IsNumbered n → digits ≡ padded n → ⊥) → (file : FileName) → IsFileName file → codes "MANIFEST-" ++ digits ≡ name_of file → ⊥
no_manifest digits none Current h e = cc
no_manifest digits none Lock h e = cc
no_manifest digits none (Log n) h e = letter-padded (codes "MANIFEST-" ++ digits) (codes ".log") n h e (omega arith) (omega arith)
no_manifest digits none (Table n) h e = letter-padded (codes "MANIFEST-" ++ digits) (codes ".ldb") n h e (omega arith) (omega arith)
no_manifest digits none (OldTable n) h e = letter-padded (codes "MANIFEST-" ++ digits) (codes ".sst") n h e (omega arith) (omega arith)
no_manifest digits none (Manifest n) h e = none n h (append_cancel_left (codes "MANIFEST-") digits (padded n) e)
no_manifest digits none (Temporary n) h e = letter-padded (codes "MANIFEST-" ++ digits) (codes ".dbtmp") n h e (omega arith) (omega arith)

pub none_then : {X P Q : Type 0} (r : Option X) → IfNone r P → (P → Q) → IfNone r Q
none_then None h f = f h
none_then (Some x) h f = tt

-- what stands after a prefix
pub behind_prefix : (name p digits : List ℕ) → bytes_eq (take (length p) name) p ≡ true → digits ≡ drop (length p) name → name ≡ p ++ digits
behind_prefix name p digits e d =
    sym (take-append-drop (length p) name) ∙ ap (λ (t : List ℕ). t ++ drop (length p) name) ((bytes_eq-Decides (take (length p) name) p).0 e) ∙ ap (λ (t : List ℕ). p ++ t) (sym d)
