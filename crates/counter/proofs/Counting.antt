-- One name more, through a get and a write.
use Rattle.std.proofs.Common.{◌≡◌, ◌⊎◌, ℕ, ◌+◌, ◌<◌, ◌≤◌, ◌^◌, zero, suc, Bool, true, false, cond, List, [], ◌∷◌, ◌++◌, length, take, get_or, Option, Some, None, Result, Ok, Err, MatchOption, inl, inr, refl, sym, ap, subst, ◌∙◌, append-nil, append_assoc, arith}
use mathlib.Core.Bool.{true≢false}
use Rattle.std.specs.Bool.{nat_eq}
use Rattle.std.specs.Cmp.{unsigned_ties, tied_itself}
use Rattle.std.specs.Cmp.Lexicographic.{slice_cmp, nat_list_cmp_total, lists_ties}
use Rattle.std.specs.FinMap.{get, get-insert, insert, slice_cmp-IsAntisymmetric, nat_cmp-IsAntisymmetric}
use Rattle.std.specs.List.{count_by}
use Rattle.std.specs.Ordering.{is_eq, nat_cmp, eq_by_cmp}
use Rattle.std.specs.Str.{bytes_eq}
use Rattle.std.specs.declared.cmp.Ordering.{Ordering}
use Rattle.std.specs.declared.cmp.Ordering.TheVariants.{Less, Equal, Greater}
use Rattle.std.proofs.lemmas.List.{take_more}
use Rattle.std.proofs.lemmas.List.Sums.{sum_by_push}
use Rattle.store.specs.Files.{Facts}
use Rattle.engine.specs.Follows.{Leads}
use Rattle.batch.specs.declared.operation.Operation.{Operation}
use Rattle.batch.specs.declared.operation.Operation.TheVariants.{Put}
use Rattle.coding.proofs.Fronts.{fixed64_front}
use Rattle.coding.specs.Fixed.{fixed64}
use Rattle.coding.specs.declared.error.DbError.{DbError}
use Rattle.coding.specs.declared.error.DbError.TheVariants as error
use Rattle.ikey.specs.Views.{Contents}
use Rattle.machine.specs.declared.command.Answer.{Answer}
use Rattle.machine.specs.declared.command.Answer.TheVariants.{Done, Value, Refused as Denied}
use Rattle.machine.specs.Access.{Gets, Writes, Written, WriteRefused, doubted}
use Rattle.machine.specs.Causes.{get_cause, status_of, write_cause}
use Rattle.machine.specs.Machine.{Machine, after_batch, after_batches, current}
use Rattle.machine.specs.Serving.{◌≈◌, ReadRefused}
use Rattle.counter.specs.declared.counts.CountError.{CountError}
use Rattle.counter.specs.declared.counts.CountError.TheVariants.{Refused, Full, Foreign}
use Rattle.counter.specs.Counts.{CountsEach, CountsOne, IsOwn, IsTally, MayCount, NextOf, shown, tally}

-- ---- counts

abbrev Name : Type 0
Name = List ℕ

same_test : (q name : Name) → eq_by_cmp (slice_cmp nat_cmp) q name ≡ bytes_eq q name
same_test q name = sym (lists_ties nat_cmp unsigned_ties q name)

equal_of : (r : Ordering) → is_eq r ≡ true → r ≡ Equal
equal_of Less e = absurd (true≢false (sym e))
equal_of Equal e = refl
equal_of Greater e = absurd (true≢false (sym e))

same_name : (q name : Name) → bytes_eq q name ≡ true → q ≡ name
same_name q name is = slice_cmp-IsAntisymmetric nat_cmp-IsAntisymmetric q name (equal_of (slice_cmp nat_cmp q name) (same_test q name ∙ is))

tally_more : (names : List Name) (name q : Name) → tally (names ++ name ∷ []) q ≡ tally names q + cond (bytes_eq q name) 1 0
tally_more names name q = sum_by_push (λ (x : Name). cond (bytes_eq q x) 1 0) names name

itself : (name : Name) → bytes_eq name name ≡ true
itself name = sym (same_test name name) ∙ ap is_eq (tied_itself nat_list_cmp_total name)

pub tally_of : (names : List Name) (name : Name) → tally (names ++ name ∷ []) name ≡ tally names name + 1
tally_of names name = tally_more names name name ∙ ap (λ (b : Bool). tally names name + cond b 1 0) (itself name)

shown_more : (n : ℕ) → shown (n + 1) ≡ Some (fixed64 (n + 1))
shown_more n = subst (λ (k : ℕ). shown k ≡ Some (fixed64 k)) (let same : suc n ≡ n + 1 = omega arith in same) refl

-- the map with one put more
counted_more : (names : List Name) (name : Name) (map : Contents) → tally names name + 1 < 2 ^ 64 → IsTally names map → IsTally (names ++ name ∷ []) (insert map name (fixed64 (tally names name + 1)))
counted_more names name map fits is q = at (bytes_eq q name) refl
  where
    stands : (b : Bool) → bytes_eq q name ≡ b → get (insert map name (fixed64 (tally names name + 1))) q ≡ cond b (Some (fixed64 (tally names name + 1))) (get map q)
    stands b test = get-insert nat_list_cmp_total map name (fixed64 (tally names name + 1)) q ∙ ap (λ (t : Bool). cond t (Some (fixed64 (tally names name + 1))) (get map q)) (same_test q name ∙ test)

    number : (b : Bool) → bytes_eq q name ≡ b → tally (names ++ name ∷ []) q ≡ tally names q + cond b 1 0
    number b test = tally_more names name q ∙ ap (λ (t : Bool). tally names q + cond t 1 0) test

    at : (b : Bool) → bytes_eq q name ≡ b → (tally (names ++ name ∷ []) q < 2 ^ 64) × (get (insert map name (fixed64 (tally names name + 1))) q ≡ shown (tally (names ++ name ∷ []) q))
    at true test =
        let one : tally (names ++ name ∷ []) q ≡ tally names name + 1 = number true test ∙ ap (λ (x : Name). tally names x + 1) (same_name q name test) in
        (omega (arith, one, fits), stands true test ∙ sym (shown_more (tally names name)) ∙ ap shown (sym one))
    at false test =
        let same : tally (names ++ name ∷ []) q ≡ tally names q = (let plus : tally (names ++ name ∷ []) q ≡ tally names q + 0 = number false test in omega (arith, plus)) in
        (omega (arith, same, (is q).0), stands false test ∙ (is q).1 ∙ ap shown (sym same))

-- ---- what a value says

pub no_count : (count : ℕ) (P : Type 0) → None ≡ shown count → (count ≡ 0 → P) → P
no_count zero P is goes = goes refl
no_count (suc n) P is goes = absurd (let never : ⊥ = (cc) in never)

pub some_count : (count : ℕ) (bytes : List ℕ) → Some bytes ≡ shown count → bytes ≡ fixed64 count
some_count zero bytes is = absurd (let never : ⊥ = (cc) in never)
some_count (suc n) bytes is = (let same : Some bytes ≡ Some (fixed64 (suc n)) = is in cc)

pub read_count : (count value : ℕ) (bytes : List ℕ) → count < 2 ^ 64 → value < 2 ^ 64 → Some bytes ≡ shown count → take 8 bytes ≡ fixed64 value → value ≡ count
read_count count value bytes fits small is front =
    let same : fixed64 value ≡ fixed64 count = sym front ∙ ap (take 8) (some_count count bytes is) in
    (fixed64_front value count [] [] small fits (append-nil (fixed64 value) ∙ same ∙ sym (append-nil (fixed64 count)))).0

-- ---- through the machine

pub served : (cause : Option DbError) (P : Type 0) (Q : DbError → Type 0) → ((e : DbError) → Q e → ⊥) → MatchOption cause P Q → P
served None P Q never h = h
served (Some e) P Q never h = absurd (never e h)

pub either : (cause : Option DbError) (P R : Type 0) (Q : DbError → Type 0) → (P → R) → ((e : DbError) → Q e → R) → MatchOption cause P Q → R
either None P R Q f g h = f h
either (Some e) P R Q f g h = g e h

got_value : (m n : Machine) (name : Name) (value : Option (List ℕ)) → Gets m name None (Value value) n → (value ≡ get (current m) name) × (n ≈ m)
got_value m n name value h = served (get_cause (status_of m) None) _ _ (λ e q. (let same : Value value ≡ Denied e = q.0 in (let never : ⊥ = (cc) in never))) h.1

read_same : (m n : Machine) (e : DbError) → ReadRefused m e n → (n ≈ m)
read_same m n error.OutOfMemory h = h
read_same m n error.Io h = h.1
read_same m n (error.Corrupt file what) h = h.1
read_same m n (error.Unsupported limit) h = h.1
read_same m n _ h = absurd h

got_none : (m n : Machine) (name : Name) (e : DbError) → Gets m name None (Denied e) n → (n ≈ m)
got_none m n name e h = either (get_cause (status_of m) None) (ReadRefused m e n) ((n ≈ m)) _ (read_same m n e) (λ c q. q.1) h.1

abbrev map_is : (m n : Machine) → Type 0
map_is m n = current n ≡ current m

same_map : (m n : Machine) → (n ≈ m) → map_is m n
same_map m n e = ap current e

stays : (names : List Name) (m n : Machine) → (n ≈ m) → IsTally names (current m) → IsTally names (current n)
stays names m n e is = subst (λ (map : Contents). IsTally names map) (sym (same_map m n e)) is

same_doubt : (name : Name) (names : List Name) (m n : Machine) → (n ≈ m) → MayCount name names m n
same_doubt name names m n e = inl (ap (λ (x : Machine). x.in_doubt) e)

same_damage : (m n : Machine) → (n ≈ m) → n.damaged ≡ m.damaged
same_damage m n e = ap (λ (x : Machine). x.damaged) e

pub refused_get : (name : Name) (m n : Machine) (e : DbError) → Gets m name None (Denied e) n → CountsOne name m (Err (Refused e)) n
refused_get name m n e h =
    let same = got_none m n name e h in
    record { tally = λ names is. (stays names m n same is, tt, same_doubt name names m n same); certain = tt; damaged = same_damage m n same }

-- what is refused between both
pub refused_between : (name : Name) (m n : Machine) (value : Option (List ℕ)) (e : CountError) → Gets m name None (Value value) n → ((names : List Name) → IsTally names (current m) → value ≡ shown (tally names name) → IsOwn e) → CountsOne name m (Err e) n
refused_between name m n value e h own =
    let got = got_value m n name value h in
    record { tally = λ names is. (stays names m n got.1 is, own names is (got.0 ∙ (is name).1), same_doubt name names m n got.1); certain = tt; damaged = same_damage m n got.1 }

pub pushed : (map : Contents) (batches : List (List Operation)) (batch : List Operation) → after_batches map (batches ++ batch ∷ []) ≡ after_batch (after_batches map batches) batch
pushed map [] batch = refl
pushed map (first ∷ batches) batch = pushed (after_batch map first) batches batch

abbrev put_of : Name → ℕ → List Operation
put_of name count = Put name (fixed64 count) ∷ []

module _ (name : Name) (m at : Machine) (value : Option (List ℕ)) (count : ℕ) (got : Gets m name None (Value value) at) (fits : count < 2 ^ 64) (next : (old : ℕ) → old < 2 ^ 64 → value ≡ shown old → count ≡ old + 1) where
  next_is : (names : List Name) → IsTally names (current m) → count ≡ tally names name + 1
  next_is names is = next (tally names name) (is name).0 ((got_value m at name value got).0 ∙ (is name).1)

  -- the map in which it is counted
  more : (names : List Name) → IsTally names (current m) → IsTally (names ++ name ∷ []) (after_batch (current at) (put_of name count))
  more names is =
      let one = next_is names is in
      subst (λ (k : ℕ). IsTally (names ++ name ∷ []) (insert (current at) name (fixed64 k))) (sym one)
      (counted_more names name (current at) (omega (arith, one, fits)) (stays names m at (got_value m at name value got).1 is))

  pub written : (n : Machine) (sync : Bool) → Writes at (put_of name count) sync Done n → CountsOne name m (Ok count) n
  written n sync h =
      let becomes = served (write_cause (status_of at) (put_of name count)) (Written at (put_of name count) sync Done n) _ (λ e q. (let same : Done ≡ Denied e = q.0 in (let never : ⊥ = (cc) in never))) h.1 in
      let first = (got_value m at name value got).1 in
      let map : current n ≡ after_batch (current at) (put_of name count) = ap current becomes ∙ pushed at.base at.batches (put_of name count) in
      record {
        tally = λ names is. (subst (λ (x : Contents). IsTally (names ++ name ∷ []) x) (sym map) (more names is), next_is names is ∙ sym (tally_of names name));
        certain = ap (λ (x : Machine). x.in_doubt) becomes ∙ ap (λ (x : Machine). x.in_doubt) first;
        damaged = ap (λ (x : Machine). x.damaged) becomes ∙ same_damage m at first;
      }

  abbrev Left : Machine → CountError → Type 0
  Left n e = CountsOne name m (Err e) n

  left_as : (n : Machine) (e : DbError) → (n ≈ at) → Left n (Refused e)
  left_as n e becomes =
      let first = (got_value m at name value got).1 in
      record {
        tally = λ names is. (stays names at n becomes (stays names m at first is), tt, inl (ap (λ (x : Machine). x.in_doubt) becomes ∙ ap (λ (x : Machine). x.in_doubt) first));
        certain = tt;
        damaged = same_damage at n becomes ∙ same_damage m at first;
      }

  in_doubt : (n : Machine) (e : DbError) → (n ≈ doubted at (put_of name count)) → Left n (Refused e)
  in_doubt n e becomes =
      let first = (got_value m at name value got).1 in
      let map : current n ≡ current at = ap current becomes in
      record {
        tally = λ names is. (
          subst (λ (x : Contents). IsTally names x) (sym map) (stays names m at first is),
          tt,
          inr (subst (λ (o : Option (List Operation)). MatchOption o ⊥ (λ operations. IsTally (names ++ name ∷ []) (after_batch (current n) operations))) (sym (ap (λ (x : Machine). x.in_doubt) becomes))
              (subst (λ (x : Contents). IsTally (names ++ name ∷ []) (after_batch x (put_of name count))) (sym map) (more names is))),
        );
        certain = tt;
        damaged = ap (λ (x : Machine). x.damaged) becomes ∙ same_damage m at first;
      }

  write_left : (n : Machine) (e : DbError) → WriteRefused at (put_of name count) e n → Left n (Refused e)
  write_left n error.OutOfMemory h = left_as n error.OutOfMemory h.1
  write_left n error.Io h = in_doubt n error.Io h.2
  write_left n _ h = absurd h

  pub refused_write : (n : Machine) (sync : Bool) (e : DbError) → Writes at (put_of name count) sync (Denied e) n → CountsOne name m (Err (Refused e)) n
  refused_write n sync e h = either (write_cause (status_of at) (put_of name count)) (WriteRefused at (put_of name count) e n) (Left n (Refused e)) _ (write_left n e) (λ c q. left_as n e q.1) h.1

-- what may come of the next count
pub is_own : (old : ℕ) (e : CountError) → NextOf old (Err e) → IsOwn e
is_own old Full h = tt
is_own old Foreign h = absurd h
is_own old (Refused e) h = absurd h

-- ---- calls one after the other

pub leads_as : {a b : Facts} {P Q : Machine → Type 0} {M N : Machine → Machine → Type 0} → ((m n : Machine) → M m n → N m n) → Leads a b P Q M → Leads a b P Q N
leads_as f h = record { faithful = h.faithful; moved = λ faithful m before. let after = h.moved faithful m before in (after.0, f m after.0 after.1, after.2) }

pub leads_stay : {a : Facts} {P : Machine → Type 0} {M : Machine → Machine → Type 0} → ((m : Machine) → M m m) → Leads a a P P M
leads_stay f = record { faithful = λ faithful. faithful; moved = λ faithful m before. (m, f m, before) }

pub leads_then : {a b c : Facts} {P Q R : Machine → Type 0} {M N O : Machine → Machine → Type 0} → ((m n o : Machine) → M m n → N n o → O m o) → Leads a b P Q M → Leads b c Q R N → Leads a c P R O
leads_then f first second = record {
  faithful = λ faithful. first.faithful (second.faithful faithful);
  moved = λ faithful m before.
      let one = first.moved (second.faithful faithful) m before in
      let two = second.moved faithful one.0 one.2 in
      (two.0, f m one.0 two.0 one.1 two.1, two.2);
}

-- ---- several names

more_counted : (names : List Name) (index : ℕ) (name : Name) (had : List Name) → index < length names → name ≡ get_or names index name → (had ++ take index names) ++ name ∷ [] ≡ had ++ take (index + 1) names
more_counted names index name had within is =
    let more : take (index + 1) names ≡ take index names ++ name ∷ [] = take_more names index name within ∙ ap (λ (x : Name). take index names ++ x ∷ []) (sym is) in
    append_assoc had (take index names) (name ∷ []) ∙ ap (λ (xs : List Name). had ++ xs) (sym more)

-- So many of these names were counted, and no others, and nothing more is in doubt.
pub record Counted (names : List Name) (count : ℕ) (m n : Machine) : Type 0 where
  pub tally : (had : List Name) → IsTally had (current m) → IsTally (had ++ take count names) (current n)
  pub certain : n.in_doubt ≡ m.in_doubt
  pub damaged : n.damaged ≡ m.damaged

pub counted_none : (names : List Name) (m : Machine) → Counted names 0 m m
counted_none names m = record {
  tally = λ had is. subst (λ (xs : List Name). IsTally xs (current m)) (sym (append-nil had)) is;
  certain = refl;
  damaged = refl;
}

pub counted_one : (names : List Name) (index value : ℕ) (name : Name) (m at n : Machine) → index < length names → name ≡ get_or names index name → Counted names index m at → CountsOne name at (Ok value) n → Counted names (index + 1) m n
counted_one names index value name m at n within is so_far one = record {
  tally = λ had before. subst (λ (xs : List Name). IsTally xs (current n)) (more_counted names index name had within is) (one.tally (had ++ take index names) (so_far.tally had before)).0;
  certain = one.certain ∙ so_far.certain;
  damaged = one.damaged ∙ so_far.damaged;
}

pub counted_each : (names : List Name) (count : ℕ) (m n : Machine) → Counted names count m n → CountsEach names count m n
counted_each names count m n so_far = record { counted = so_far.tally; doubt = λ had is. inl so_far.certain; damaged = so_far.damaged }

pub counted_refused : (names : List Name) (index : ℕ) (e : CountError) (name : Name) (m at n : Machine) → index < length names → name ≡ get_or names index name → Counted names index m at → CountsOne name at (Err e) n → CountsEach names index m n
counted_refused names index e name m at n within is so_far one = record {
  counted = λ had before. (one.tally (had ++ take index names) (so_far.tally had before)).0;
  doubt = λ had before. elim (one.tally (had ++ take index names) (so_far.tally had before)).2 [
    | inl same ↦ inl (same ∙ so_far.certain)
    | inr next ↦ inr (subst (λ (xs : List Name). MatchOption n.in_doubt ⊥ (λ operations. IsTally xs (after_batch (current n) operations))) (more_counted names index name had within is) next)
  ];
  damaged = one.damaged ∙ so_far.damaged;
}
