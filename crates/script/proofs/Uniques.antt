-- No line says two commands.
use Rattle.std.proofs.Common.{◌≡◌, ℕ, ◌+◌, ◌*◌, ◌≤◌, List, [], ◌∷◌, ◌++◌, get_or, codes, cond, inl, inr, ap, sym, ◌∙◌, subst, refl, arith, true, false, Bool}
use Rattle.std.proofs.Math.Dec.{eqb}
use Rattle.std.specs.Prelude.{Option, Some, None}
use Rattle.batch.specs.declared.operation.Operation.{Operation}
use Rattle.machine.specs.declared.command.Mode.{Mode}
use Rattle.machine.specs.declared.command.Mode.TheVariants.{Existing, New, Any}
use Rattle.machine.specs.declared.command.Op.{Op}
use Rattle.machine.specs.declared.command.Op.TheVariants as op
use Rattle.std.specs.Str.Parse.{AllDigits}
use Rattle.std.proofs.lemmas.Fmt.{digits_decimal}
use Rattle.std.proofs.lemmas.Str.Parse.{numerals_by_value, tells_digits, digit_at}
use Rattle.script.specs.declared.verb.Verb.{Verb}
use Rattle.script.specs.declared.verb.Verb.TheVariants as verb
use Rattle.script.specs.Verbs.{name_of}
use Rattle.script.specs.Words.{IsNumber, IsByteString, Reads}
use Rattle.script.specs.Script.{AreCommand, Says, Spells, IsSame, IsWrite, IsPut, IsDelete, IsNumberAlone, TakesNumber, AreSnapshot, AreOperations, mode_words, sync_words}
use Rattle.script.proofs.Lines.{head, tail}
use Rattle.script.proofs.Numbers.{one_number}
use Rattle.script.proofs.Batches.{one_byte_string, one_put, one_delete, one_batch, sync_is_no_operation}

-- ---- verbs

-- the first and the third letter tell the verbs apart
mark : List ℕ → ℕ
mark name = get_or name 0 0 * 1000 + get_or name 2 0

marked : ℕ → Verb
marked n = cond (eqb n 112116) verb.Put (cond (eqb n 100108) verb.Del (cond (eqb n 119105) verb.Write (cond (eqb n 103116) verb.Get (cond (eqb n 115097) verb.Snapshot (cond (eqb n 114108) verb.Release (cond (eqb n 105101) verb.Iter (cond (eqb n 102114) verb.First (cond (eqb n 108115) verb.Last (cond (eqb n 115101) verb.Seek (cond (eqb n 110120) verb.Next (cond (eqb n 112101) verb.Prev (cond (eqb n 100111) verb.Drop (cond (eqb n 119114) verb.Work (cond (eqb n 99111) verb.Close (cond (eqb n 99109) verb.Compact verb.Open)))))))))))))))

marked-mark : (v : Verb) → marked (mark (name_of v)) ≡ v
unfolding mark marked
marked-mark verb.Open = refl
marked-mark verb.Put = refl
marked-mark verb.Del = refl
marked-mark verb.Write = refl
marked-mark verb.Get = refl
marked-mark verb.Snapshot = refl
marked-mark verb.Release = refl
marked-mark verb.Iter = refl
marked-mark verb.First = refl
marked-mark verb.Last = refl
marked-mark verb.Seek = refl
marked-mark verb.Next = refl
marked-mark verb.Prev = refl
marked-mark verb.Drop = refl
marked-mark verb.Work = refl
marked-mark verb.Compact = refl
marked-mark verb.Close = refl

pub one_verb : (v w : Verb) → name_of v ≡ name_of w → v ≡ w
one_verb v w e = sym (marked-mark v) ∙ ap (λ (name : List ℕ). marked (mark name)) e ∙ marked-mark w

-- ---- arguments

pub one_alone : (bits : ℕ) (words : List (List ℕ)) (m n : ℕ) → bits ≤ 64 → IsNumberAlone bits words m → IsNumberAlone bits words n → m ≡ n
one_alone bits words m n le h g =
    one_number bits g.0 m n le (subst (λ (w : List ℕ). IsNumber bits w m) (head h.0 g.0 [] [] (sym h.1 ∙ g.1)) h.2) g.2

pub one_snapshot : (words : List (List ℕ)) (s t : Option ℕ) → AreSnapshot words s → AreSnapshot words t → s ≡ t
one_snapshot words None None h g = refl
one_snapshot words None (Some n) h g = cc (sym h ∙ g.1)
one_snapshot words (Some m) None h g = cc (sym g ∙ h.1)
one_snapshot words (Some m) (Some n) h g = ap Some (one_alone 64 words m n (omega arith) h g)

-- the first letter of the first word
initial : List (List ℕ) → ℕ
initial words = get_or (get_or words 0 []) 0 0

pub one_mode : (m n : Mode) → mode_words m ≡ mode_words n → m ≡ n
unfolding initial
one_mode Existing Existing e = refl
one_mode Existing New e = let i : 0 ≡ 110 = ap initial e in absurd (omega (arith, i))
one_mode Existing Any e = let i : 0 ≡ 97 = ap initial e in absurd (omega (arith, i))
one_mode New Existing e = let i : 110 ≡ 0 = ap initial e in absurd (omega (arith, i))
one_mode New New e = refl
one_mode New Any e = let i : 110 ≡ 97 = ap initial e in absurd (omega (arith, i))
one_mode Any Existing e = let i : 97 ≡ 0 = ap initial e in absurd (omega (arith, i))
one_mode Any New e = let i : 97 ≡ 110 = ap initial e in absurd (omega (arith, i))
one_mode Any Any e = refl

-- ---- commands

same_write : (operations : List Operation) (sync : Bool) (a b : Op) → IsWrite operations sync a → IsWrite operations sync b → IsSame a b
same_write operations sync (op.Write written synced) b h g = subst (λ (s : Bool). IsWrite written.items s b) (sym h.1) (subst (λ (o : List Operation). IsWrite o sync b) (sym h.0) g)
same_write operations sync a b h g = absurd h

same : (a b : Op) → a ≡ b → IsSame a b
same (op.Write operations sync) b e = subst (IsWrite operations.items sync) e (refl, refl)
same a b e = sym e

one_of_number : (bits : ℕ) (words : List (List ℕ)) (make : ℕ → Op) (a b : Op) → bits ≤ 64 → TakesNumber bits words make a → TakesNumber bits words make b → IsSame a b
one_of_number bits words make a b le h g = same a b (h.2 ∙ ap make (one_alone bits words h.0 g.0 le h.1 g.1) ∙ sym g.2)

one_put_alone : (words : List (List ℕ)) (a b : Op) → Spells verb.Put words a → Spells verb.Put words b → IsSame a b
one_put_alone words a b h g =
    let e : h.0 ∷ h.1 ∷ [] ≡ g.0 ∷ g.1 ∷ [] = sym h.3 ∙ g.3 in
    let k = head h.0 g.0 (h.1 ∷ []) (g.1 ∷ []) e in
    let v = head h.1 g.1 [] [] (tail h.0 g.0 (h.1 ∷ []) (g.1 ∷ []) e) in
    let put = one_put g.0 g.1 h.2 g.2 (subst (λ (w : List ℕ). IsPut w g.1 h.2) k (subst (λ (w : List ℕ). IsPut h.0 w h.2) v h.4)) g.4 in
    same_write (g.2 ∷ []) false a b (subst (λ (o : Operation). IsWrite (o ∷ []) false a) put h.5) g.5

one_delete_alone : (words : List (List ℕ)) (a b : Op) → Spells verb.Del words a → Spells verb.Del words b → IsSame a b
one_delete_alone words a b h g =
    let k = head h.0 g.0 [] [] (sym h.2 ∙ g.2) in
    let delete = one_delete g.0 h.1 g.1 (subst (λ (w : List ℕ). IsDelete w h.1) k h.3) g.3 in
    same_write (g.1 ∷ []) false a b (subst (λ (o : Operation). IsWrite (o ∷ []) false a) delete h.4) g.4

one_write : (words : List (List ℕ)) (a b : Op) (s t : Bool) (r q : List (List ℕ)) (o p : List Operation)
    → words ≡ sync_words s ++ r → words ≡ sync_words t ++ q → AreOperations r o → AreOperations q p → IsWrite o s a → IsWrite p t b → IsSame a b
one_write words a b true true r q o p e f h g i j =
    let rest = tail (codes "sync") (codes "sync") r q (sym e ∙ f) in
    let batch = one_batch q o p (subst (λ (w : List (List ℕ)). AreOperations w o) rest h) g in
    same_write p true a b (subst (λ (x : List Operation). IsWrite x true a) batch i) j
one_write words a b false false r q o p e f h g i j =
    let batch = one_batch q o p (subst (λ (w : List (List ℕ)). AreOperations w o) (sym e ∙ f) h) g in
    same_write p false a b (subst (λ (x : List Operation). IsWrite x false a) batch i) j
one_write words a b true false r q o p e f h g i j = absurd (sync_is_no_operation r p (subst (λ (w : List (List ℕ)). AreOperations w p) (sym f ∙ e) g))
one_write words a b false true r q o p e f h g i j = absurd (sync_is_no_operation q o (subst (λ (w : List (List ℕ)). AreOperations w o) (sym e ∙ f) h))

one_get : (words : List (List ℕ)) (a b : Op) → Spells verb.Get words a → Spells verb.Get words b → IsSame a b
one_get words a b h g =
    let k = head h.0 g.0 h.1 g.1 (sym h.4 ∙ g.4) in
    let rest = tail h.0 g.0 h.1 g.1 (sym h.4 ∙ g.4) in
    let key = one_byte_string g.0 h.2 g.2 (subst (λ (w : List ℕ). IsByteString w h.2) k h.5) g.5 in
    let snapshot = one_snapshot g.1 h.3 g.3 (subst (λ (r : List (List ℕ)). AreSnapshot r h.3) rest h.6) g.6 in
    same a b (h.7 ∙ ap (λ (x : List ℕ). op.Get x h.3) key ∙ ap (op.Get g.2) snapshot ∙ sym g.7)

one_seek : (words : List (List ℕ)) (a b : Op) → Spells verb.Seek words a → Spells verb.Seek words b → IsSame a b
one_seek words a b h g =
    let e : h.0 ∷ h.1 ∷ [] ≡ g.0 ∷ g.1 ∷ [] = sym h.4 ∙ g.4 in
    let n = head h.0 g.0 (h.1 ∷ []) (g.1 ∷ []) e in
    let k = head h.1 g.1 [] [] (tail h.0 g.0 (h.1 ∷ []) (g.1 ∷ []) e) in
    let id = one_number 64 g.0 h.2 g.2 (omega arith) (subst (λ (w : List ℕ). IsNumber 64 w h.2) n h.5) g.5 in
    let key = one_byte_string g.1 h.3 g.3 (subst (λ (w : List ℕ). IsByteString w h.3) k h.6) g.6 in
    same a b (h.7 ∙ ap (λ (x : ℕ). op.Seek x h.3) id ∙ ap (op.Seek g.2) key ∙ sym g.7)

-- `all` is no number
all_is_none : (word : List ℕ) (n : ℕ) → IsNumber 32 word n → word ≡ codes "all" → ⊥
all_is_none word n h is =
    let fits = h.0 in
    let digits : AllDigits 10 (codes "all") = subst (AllDigits 10) (sym h.1 ∙ is) (digits_decimal (numerals_by_value (AllDigits 10) tells_digits) n (omega (arith, fits))) in
    let range = digit_at (codes "all") 0 digits (omega arith) in
    omega (arith, range.1)

one_compaction : (words : List (List ℕ)) (a b : Op) → Spells verb.Compact words a → Spells verb.Compact words b → IsSame a b
one_compaction words a b (inl h) (inl g) = same a b (h.1 ∙ sym g.1)
one_compaction words a b (inr h) (inr g) = one_of_number 32 words op.CompactLevel a b (omega arith) h g
one_compaction words a b (inl h) (inr g) = absurd (all_is_none g.1.0 g.0 g.1.2 (head g.1.0 (codes "all") [] [] (sym g.1.1 ∙ h.0)))
one_compaction words a b (inr h) (inl g) = absurd (all_is_none h.1.0 h.0 h.1.2 (head h.1.0 (codes "all") [] [] (sym h.1.1 ∙ g.0)))

one_spelling : (v : Verb) (words : List (List ℕ)) (a b : Op) → Spells v words a → Spells v words b → IsSame a b
one_spelling verb.Open words a b h g = same a b (h.2 ∙ ap op.Open (one_mode h.0 g.0 (sym h.1 ∙ g.1)) ∙ sym g.2)
one_spelling verb.Put words a b h g = one_put_alone words a b h g
one_spelling verb.Del words a b h g = one_delete_alone words a b h g
one_spelling verb.Write words a b h g = one_write words a b h.0 g.0 h.1 g.1 h.2 g.2 h.3 g.3 h.4 g.4 h.5 g.5
one_spelling verb.Get words a b h g = one_get words a b h g
one_spelling verb.Snapshot words a b h g = same a b (h.1 ∙ sym g.1)
one_spelling verb.Release words a b h g = one_of_number 64 words op.Release a b (omega arith) h g
one_spelling verb.Iter words a b h g = same a b (h.2 ∙ ap op.Iterate (one_snapshot words h.0 g.0 h.1 g.1) ∙ sym g.2)
one_spelling verb.First words a b h g = one_of_number 64 words op.First a b (omega arith) h g
one_spelling verb.Last words a b h g = one_of_number 64 words op.Last a b (omega arith) h g
one_spelling verb.Seek words a b h g = one_seek words a b h g
one_spelling verb.Next words a b h g = one_of_number 64 words op.Next a b (omega arith) h g
one_spelling verb.Prev words a b h g = one_of_number 64 words op.Prev a b (omega arith) h g
one_spelling verb.Drop words a b h g = one_of_number 64 words op.DropIterator a b (omega arith) h g
one_spelling verb.Work words a b h g = one_of_number 32 words op.Work a b (omega arith) h g
one_spelling verb.Compact words a b h g = one_compaction words a b h g
one_spelling verb.Close words a b h g = same a b (h.1 ∙ sym g.1)

pub says_one : (line : List ℕ) (a b : Op) → Says line a → Says line b → IsSame a b
says_one line a b h g =
    let e : name_of h.0 ∷ h.1 ≡ name_of g.0 ∷ g.1 = sym h.2 ∙ g.2 in
    let v = one_verb h.0 g.0 (head (name_of h.0) (name_of g.0) h.1 g.1 e) in
    let rest = tail (name_of h.0) (name_of g.0) h.1 g.1 e in
    one_spelling g.0 g.1 a b (subst (λ (x : Verb). Spells x g.1 a) v (subst (λ (w : List (List ℕ)). Spells h.0 w a) rest h.3)) g.3

-- ---- what words don't say

-- no verb is the first
pub no_verb : (words : List (List ℕ)) (word : List ℕ) (rest : List (List ℕ)) → words ≡ word ∷ rest → ((v : Verb) → word ≡ name_of v → ⊥) → (command : Op) → AreCommand words command → ⊥
no_verb words word rest is none command s = none s.0 (head word (name_of s.0) rest s.1 (sym is ∙ s.2))

-- the words behind the first are no arguments of its verb
pub no_rest : (words : List (List ℕ)) (word : List ℕ) (rest : List (List ℕ)) (v : Verb) → words ≡ word ∷ rest → word ≡ name_of v → ((command : Op) → Spells v rest command → ⊥)
    → (command : Op) → AreCommand words command → ⊥
no_rest words word rest v is named none command s =
    let e = sym is ∙ s.2 in
    let same_verb = one_verb s.0 v (sym (head word (name_of s.0) rest s.1 e) ∙ named) in
    none command (subst (λ (x : Verb). Spells x rest command) same_verb (subst (λ (w : List (List ℕ)). Spells s.0 w command) (sym (tail word (name_of s.0) rest s.1 e)) s.3))

pub says_by : (words : List (List ℕ)) (word : List ℕ) (rest : List (List ℕ)) (v : Verb) (read : Option Op) → words ≡ word ∷ rest → word ≡ name_of v → Reads (Spells v rest) read → Reads (AreCommand words) read
says_by words word rest v None is named reads = no_rest words word rest v is named reads
says_by words word rest v (Some command) is named reads = (v, rest, is ∙ ap (λ (w : List ℕ). w ∷ rest) named, reads)
