-- What a MANIFEST says, and why it says nothing.
use Rattle.std.proofs.Common.{◌≡◌, ℕ, zero, suc, ◌+◌, ◌-◌, ◌<◌, ◌≤◌, inl, inr, List, [], ◌∷◌, ◌++◌, length, take, get_or, map, IsTrue, refl, sym, ap, ◌∙◌, subst, append_assoc, arith}
use Rattle.std.proofs.lemmas.List.{append-nil, take_more, take_all, map-append, take-map, length-append, take-append-le}
use Rattle.coding.specs.Errors.{RefusesOnly}
use Rattle.coding.specs.declared.error.DbError.{DbError}
use Rattle.coding.specs.declared.error.DbError.TheVariants.{OutOfMemory, Io, Locked, Corrupt, Unsupported}
use Rattle.coding.specs.declared.error.FileKind.{FileKind}
use Rattle.coding.specs.declared.error.ReadError.{ReadError}
use Rattle.coding.specs.declared.error.ReadError.TheVariants as read_error
use Rattle.logfile.specs.Log.{IsLog}
use Rattle.logfile.specs.declared.record.Tail.{Tail}
use Rattle.logfile.proofs.LogLaws.{same_log}
use Rattle.edits.specs.Edit.{IsEdit, HasPastLimit, RefusesFor}
use Rattle.edits.specs.Layout.{fields_of, IsLayout, AreOfOther}
use Rattle.edits.specs.declared.field.Field.{Field}
use Rattle.edits.specs.declared.layout.Layout.{Layout}
use Rattle.edits.proofs.Fields.{one_edit_again}
use Rattle.store.specs.Files.{Facts}
use Rattle.mending.specs.Calls.{Reads, RefusesBytes, RefusesMend, in_file}
use Rattle.mending.specs.Plans.{AreEdits, ArePastLimit, SaysLayout, SaysBeyond}

-- ---- refusals

pub refuses_only : (kind : FileKind) (e : ReadError) (D U : Type 0) → RefusesOnly e D → RefusesBytes (in_file kind e) D U
refuses_only kind read_error.Memory D U h = tt
refuses_only kind (read_error.Corrupt what) D U h = h
refuses_only kind (read_error.Unsupported what) D U h = absurd h

pub refuses_for : (kind : FileKind) (e : ReadError) (D U : Type 0) → RefusesFor e D U → RefusesBytes (in_file kind e) D U
refuses_for kind read_error.Memory D U h = tt
refuses_for kind (read_error.Corrupt what) D U h = h
refuses_for kind (read_error.Unsupported what) D U h = h

pub refuses_more : (e : DbError) (D U D' U' : Type 0) → (D → D') → (U → U') → RefusesBytes e D U → RefusesBytes e D' U'
refuses_more OutOfMemory D U D' U' f g h = tt
refuses_more (Corrupt file what) D U D' U' f g h = f h
refuses_more (Unsupported what) D U D' U' f g h = g h
refuses_more _ D U D' U' f g h = absurd h

-- a refusal in which the store took no part, behind calls that read
pub refuses_bytes : (e : DbError) (a b : Facts) (D U D' U' : Type 0) → (IsTrue b.faithful → D → D') → (IsTrue b.faithful → U → U') → RefusesBytes e D U → RefusesMend e a b D' U'
refuses_bytes OutOfMemory a b D U D' U' f g h = tt
refuses_bytes (Corrupt file what) a b D U D' U' f g h = λ t. f t h
refuses_bytes (Unsupported what) a b D U D' U' f g h = λ t. g t h
refuses_bytes _ a b D U D' U' f g h = absurd h

-- one behind calls that read
pub refuses_later : (e : DbError) (a b c : Facts) (D U D' U' : Type 0) → Reads a b → (IsTrue c.faithful → D → D') → (IsTrue c.faithful → U → U') → RefusesMend e b c D U → RefusesMend e a c D' U'
refuses_later OutOfMemory a b c D U D' U' k f g h = tt
refuses_later Io a b c D U D' U' k f g h = omega (arith, k.failures, h)
refuses_later Locked a b c D U D' U' k f g h = omega (arith, k.denials, h)
refuses_later (Corrupt file what) a b c D U D' U' k f g h = λ t. f t (h t)
refuses_later (Unsupported what) a b c D U D' U' k f g h = λ t. g t (h t)
refuses_later _ a b c D U D' U' k f g h = absurd h

pub reads_itself : (facts : Facts) → Reads facts facts
reads_itself facts = record { faithful = λ h. h; failures = omega arith; denials = refl; locked = refl; same = λ h. refl; synced = λ h. refl; calls = λ h. refl }

pub reads_both : (a b c : Facts) → Reads a b → Reads b c → Reads a c
reads_both a b c h g = record {
  faithful = λ t. h.faithful (g.faithful t);
  failures = omega (arith, h.failures, g.failures);
  denials = g.denials ∙ h.denials;
  locked = g.locked ∙ h.locked;
  same = λ t. g.same t ∙ h.same (g.faithful t);
  synced = λ t. g.synced t ∙ h.synced (g.faithful t);
  calls = λ t. g.calls t ∙ h.calls (g.faithful t);
}

-- ---- edits

fields-push : (edits : List (List Field)) (edit : List Field) → fields_of (edits ++ edit ∷ []) ≡ fields_of edits ++ edit
fields-push [] edit = append-nil edit
fields-push (e ∷ edits) edit = ap (λ (fs : List Field). e ++ fs) (fields-push edits edit) ∙ sym (append_assoc e (fields_of edits) edit)

edits-push : (records : List (List ℕ)) (edits : List (List Field)) (bytes : List ℕ) (edit : List Field) → AreEdits records edits → IsEdit bytes edit → AreEdits (records ++ bytes ∷ []) (edits ++ edit ∷ [])
edits-push [] [] bytes edit h k = (k, tt)
edits-push [] (e ∷ edits) bytes edit h k = absurd h
edits-push (r ∷ records) [] bytes edit h k = absurd h
edits-push (r ∷ records) (e ∷ edits) bytes edit h k = (h.0, edits-push records edits bytes edit h.1 k)

-- a list of byte strings as its records, one more of which is read
pub records-more : {X : Type 0} (bytes_of : X → List ℕ) (xs : List X) (i : ℕ) (x : X) (bytes : List ℕ) → i < length xs → x ≡ get_or xs i x → bytes ≡ bytes_of x
    → map bytes_of (take i xs) ++ bytes ∷ [] ≡ map bytes_of (take (i + 1) xs)
records-more bytes_of xs i x bytes lt is e =
    ap (λ (b : List ℕ). map bytes_of (take i xs) ++ b ∷ []) (e ∙ ap bytes_of is) ∙ sym (ap (map bytes_of) (take_more xs i x lt) ∙ map-append bytes_of (take i xs) (get_or xs i x ∷ []))

pub edits-more : {X : Type 0} (bytes_of : X → List ℕ) (xs : List X) (i : ℕ) (x : X) (bytes : List ℕ) (edits : List (List Field)) (edit : List Field) → i < length xs → x ≡ get_or xs i x → bytes ≡ bytes_of x
    → AreEdits (map bytes_of (take i xs)) edits → IsEdit bytes edit → AreEdits (map bytes_of (take (i + 1) xs)) (edits ++ edit ∷ [])
edits-more bytes_of xs i x bytes edits edit lt is e h k =
    let P : List (List ℕ) → Type 0 = λ rs. AreEdits rs (edits ++ edit ∷ []) in
    subst P (records-more bytes_of xs i x bytes lt is e) (edits-push (map bytes_of (take i xs)) edits bytes edit h k)

past_right : (xs ys : List Field) → HasPastLimit ys → HasPastLimit (xs ++ ys)
past_right [] ys h = h
past_right (x ∷ xs) ys h = inr (past_right xs ys h)

-- the edit of one of the records
edit_at : {X : Type 0} (bytes_of : X → List ℕ) (xs : List X) (i : ℕ) (x : X) (edits : List (List Field)) → i < length xs → AreEdits (map bytes_of xs) edits
    → (edit : List Field) × IsEdit (bytes_of (get_or xs i x)) edit
edit_at bytes_of [] i x edits lt h = absurd (omega arith)
edit_at bytes_of (y ∷ xs) i x [] lt h = absurd h
edit_at bytes_of (y ∷ xs) zero x (e ∷ edits) lt h = (e, h.0)
edit_at bytes_of (y ∷ xs) (suc i) x (e ∷ edits) lt h = edit_at bytes_of xs i x edits (omega (arith, lt)) h.1

past_end : (edits : List (List Field)) (edit : List Field) → HasPastLimit edit → HasPastLimit (fields_of (edits ++ edit ∷ []))
past_end edits edit h = subst HasPastLimit (sym (fields-push edits edit)) (past_right (fields_of edits) edit h)

-- why one record isn't read is why all aren't
pub edits_refused : {X : Type 0} (bytes_of : X → List ℕ) (xs : List X) (i : ℕ) (x : X) (bytes : List ℕ) (file : FileKind) (e : ReadError) (result : DbError) (edits : List (List Field)) → AreEdits (map bytes_of (take i xs)) edits
    → i < length xs → x ≡ get_or xs i x → bytes ≡ bytes_of x
    → result ≡ in_file file e → RefusesFor e ((edit : List Field) → IsEdit bytes edit → ⊥) ((edit : List Field) × IsEdit bytes edit × HasPastLimit edit)
    → RefusesBytes result ((others : List (List Field)) → AreEdits (map bytes_of xs) others → ⊥) (ArePastLimit (map bytes_of xs))
edits_refused bytes_of xs i x bytes file e result edits front lt is at named refused =
    let none : Type 0 = (others : List (List Field)) → AreEdits (map bytes_of xs) others → ⊥ in
    let P : DbError → Type 0 = λ r. RefusesBytes r none (ArePastLimit (map bytes_of xs)) in
    let same : bytes_of (get_or xs i x) ≡ bytes = sym (at ∙ ap bytes_of is) in
    subst P (sym named) (refuses_more (in_file file e) ((edit : List Field) → IsEdit bytes edit → ⊥) ((edit : List Field) × IsEdit bytes edit × HasPastLimit edit) none (ArePastLimit (map bytes_of xs))
    (λ none others h. let there = edit_at bytes_of xs i x others lt h in let Q : List ℕ → Type 0 = λ b. IsEdit b there.0 in none there.0 (subst Q same there.1))
    (λ one.
    let R : List (List ℕ) → Type 0 = λ rs. AreEdits rs (edits ++ one.0 ∷ []) in
    (i + 1, edits ++ one.0 ∷ [], subst R (sym (take-map bytes_of (i + 1) xs)) (edits-more bytes_of xs i x bytes edits one.0 lt is at front one.1), past_end edits one.0 one.2))
    (refuses_for file e ((edit : List Field) → IsEdit bytes edit → ⊥) ((edit : List Field) × IsEdit bytes edit × HasPastLimit edit) refused))

pub same_edits : (records : List (List ℕ)) (edits others : List (List Field)) → AreEdits records edits → AreEdits records others → edits ≡ others
same_edits [] [] [] h g = refl
same_edits [] [] (o ∷ others) h g = absurd g
same_edits [] (e ∷ edits) others h g = absurd h
same_edits (r ∷ records) [] others h g = absurd h
same_edits (r ∷ records) (e ∷ edits) [] h g = absurd g
same_edits (r ∷ records) (e ∷ edits) (o ∷ others) h g =
    let first : e ≡ o = one_edit_again r e o h.0 g.0 in
    let rest : edits ≡ others = same_edits records edits others h.1 g.1 in
    λ i. first i ∷ rest i

-- ---- the whole MANIFEST

abbrev SaysNone : List ℕ → List ℕ → Type 0
SaysNone name bytes = (layout : Layout) → SaysLayout name bytes layout → ⊥

pub no_log_said : (name bytes : List ℕ) (kind : FileKind) (e : ReadError) → RefusesOnly e ((records : List (List ℕ)) (tail : Tail) → IsLog bytes records tail → ⊥) → RefusesBytes (in_file kind e) (SaysNone name bytes) (SaysBeyond name bytes)
no_log_said name bytes kind e h =
    refuses_more (in_file kind e) ((records : List (List ℕ)) (tail : Tail) → IsLog bytes records tail → ⊥) ⊥ (SaysNone name bytes) (SaysBeyond name bytes)
    (λ none layout m. none m.records m.tail m.log) (λ x. absurd x) (refuses_only kind e ((records : List (List ℕ)) (tail : Tail) → IsLog bytes records tail → ⊥) ⊥ h)

their_edits : (name bytes : List ℕ) (records : List (List ℕ)) (tail : Tail) (layout : Layout) → IsLog bytes records tail → (m : SaysLayout name bytes layout) → AreEdits records m.edits
their_edits name bytes records tail layout log m = subst (λ (rs : List (List ℕ)). AreEdits rs m.edits) (same_log bytes m.records records m.tail tail m.log log).0 m.spelled

pub no_edits_said : (name bytes : List ℕ) (records : List (List ℕ)) (tail : Tail) (e : DbError) → IsLog bytes records tail
    → RefusesBytes e ((edits : List (List Field)) → AreEdits records edits → ⊥) (ArePastLimit records) → RefusesBytes e (SaysNone name bytes) (SaysBeyond name bytes)
no_edits_said name bytes records tail e log h =
    refuses_more e ((edits : List (List Field)) → AreEdits records edits → ⊥) (ArePastLimit records) (SaysNone name bytes) (SaysBeyond name bytes)
    (λ none layout m. none m.edits (their_edits name bytes records tail layout log m))
    (λ past. record { records = records; tail = tail; log = log; count = past.0; edits = past.1; spelled = past.2; beyond = inl past.3 }) h

pub no_layout_said : (name bytes : List ℕ) (records : List (List ℕ)) (tail : Tail) (edits : List (List Field)) (kind : FileKind) (e : ReadError) → IsLog bytes records tail → AreEdits records edits
    → RefusesFor e ((layout : Layout) → IsLayout name edits layout → ⊥) (AreOfOther name (fields_of edits)) → RefusesBytes (in_file kind e) (SaysNone name bytes) (SaysBeyond name bytes)
no_layout_said name bytes records tail edits kind e log are refused =
    let folded : (layout : Layout) → SaysLayout name bytes layout → IsLayout name edits layout =
    λ layout m. subst (λ (es : List (List Field)). IsLayout name es layout) (same_edits records m.edits edits (their_edits name bytes records tail layout log m) are) m.folded in
    refuses_more (in_file kind e) ((layout : Layout) → IsLayout name edits layout → ⊥) (AreOfOther name (fields_of edits)) (SaysNone name bytes) (SaysBeyond name bytes)
    (λ none layout m. none layout (folded layout m))
    (λ other. record { records = records; tail = tail; log = log; count = length records; edits = edits; spelled = subst (λ (rs : List (List ℕ)). AreEdits rs edits) (sym (take_all (length records) records (omega arith))) are; beyond = inr (let all : length records ≤ length records = omega arith in all, other) })
    (refuses_for kind e ((layout : Layout) → IsLayout name edits layout → ⊥) (AreOfOther name (fields_of edits)) refused)

pub says_layout : (name bytes : List ℕ) (records : List (List ℕ)) (tail : Tail) (edits : List (List Field)) (layout : Layout) → IsLog bytes records tail → AreEdits records edits → IsLayout name edits layout → SaysLayout name bytes layout
says_layout name bytes records tail edits layout log are folded = record { records = records; tail = tail; edits = edits; log = log; spelled = are; folded = folded }

-- ---- `CURRENT`

pub front-of : (bytes name : List ℕ) (end : ℕ) → bytes ≡ name ++ end ∷ [] → take (length bytes - 1) bytes ≡ name
front-of bytes name end e =
    let long : length bytes - 1 ≡ length name = omega (arith, ap length e, length-append name (end ∷ [])) in
    (λ i. take (long i) (e i)) ∙ take-append-le (length name) name (end ∷ []) (omega arith) ∙ take_all (length name) name (omega arith)
