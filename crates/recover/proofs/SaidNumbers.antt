-- The edits of a MANIFEST, and the numbers that they name.
use Rattle.std.proofs.Common.{◌≡◌, ℕ, zero, suc, ◌+◌, ◌-◌, ◌<◌, ◌≤◌, max, inl, inr, List, [], ◌∷◌, ◌++◌, length, take, get_or, map, Some, IsTrue, sym, ap, ◌∙◌, subst, append_assoc, arith}
use Rattle.std.specs.List.{AllByRecursion}
use Rattle.std.proofs.lemmas.List.{append-nil, take_more, take_all, map-append, take-map, length-append, take-append-le}
use Rattle.coding.specs.declared.error.DbError.{DbError}
use Rattle.coding.specs.declared.error.FileKind.{FileKind}
use Rattle.coding.specs.declared.error.ReadError.{ReadError}
use Rattle.ikey.specs.Orders.{Order}
use Rattle.logfile.specs.Log.{IsLog}
use Rattle.logfile.specs.declared.record.Tail.{Tail}
use Rattle.logfile.proofs.LogLaws.{same_log}
use Rattle.edits.specs.Edit.{IsEdit, HasPastLimit, RefusesFor}
use Rattle.edits.specs.Layout.{fields_of, IsLayout, IsComparator, NamesOther, AreOfOrder, AreOfOther}
use Rattle.edits.specs.declared.field.Field.{Field}
use Rattle.edits.specs.declared.field.Field.TheVariants.{Comparator, LogNumber, NextFileNumber, LastSequence, CompactPointer, DeletedFile, NewFile, PreviousLogNumber}
use Rattle.edits.specs.declared.layout.Layout.{Layout}
use Rattle.std.specs.FinMap.{get}
use Rattle.store.specs.Files.{Files, Facts}
use Rattle.edits.specs.Names.{name_of, IsNumbered}
use Rattle.edits.specs.declared.names.FileName.TheVariants.{Current, Manifest}
use Rattle.recover.specs.Reading.{HasNoManifest, RefusesDirectory, SpellsBeyond, IsBeyondReading}
use Rattle.recover.specs.internal.Changes.{BeyondLaw}
use Rattle.recover.specs.Directory.{AreEdits, IsManifest, HasManifest}
use Rattle.recover.specs.internal.Parts.{number_in, highest_in, RefusesBytes, in_file, IsUnchanged, ArePastLimit, SpellsNone}
use Rattle.recover.proofs.OneMeaning.{same_edits, same_current, same_content}
use Rattle.recover.proofs.Refused.{refuses_for, refuses_more, refuses_bytes}

-- ---- the greatest number

pub highest-append : (xs ys : List Field) → highest_in (xs ++ ys) ≡ max (highest_in xs) (highest_in ys)
highest-append [] ys = omega arith
highest-append (x ∷ xs) ys = omega (arith, highest-append xs ys)

pub highest-more : (xs : List Field) (i : ℕ) (x : Field) → i < length xs → x ≡ get_or xs i x → max (number_in x) (highest_in (take i xs)) ≡ highest_in (take (i + 1) xs)
highest-more xs i x lt is =
    let more : highest_in (take (i + 1) xs) ≡ highest_in (take i xs ++ get_or xs i x ∷ []) = ap highest_in (take_more xs i x lt) in
    omega (arith, more, highest-append (take i xs) (get_or xs i x ∷ []), ap number_in is)

fields-push : (edits : List (List Field)) (edit : List Field) → fields_of (edits ++ edit ∷ []) ≡ fields_of edits ++ edit
fields-push [] edit = append-nil edit
fields-push (e ∷ edits) edit = ap (λ (fs : List Field). e ++ fs) (fields-push edits edit) ∙ sym (append_assoc e (fields_of edits) edit)

pub highest-more_edits : (edits : List (List Field)) (i : ℕ) (edit : List Field) → i < length edits → edit ≡ get_or edits i edit
    → max (highest_in edit) (highest_in (fields_of (take i edits))) ≡ highest_in (fields_of (take (i + 1) edits))
highest-more_edits edits i edit lt is =
    let more : highest_in (fields_of (take (i + 1) edits)) ≡ highest_in (fields_of (take i edits) ++ edit)
    = ap (λ (es : List (List Field)). highest_in (fields_of es)) (take_more edits i edit lt ∙ ap (λ (e : List Field). take i edits ++ e ∷ []) (sym is)) ∙ ap highest_in (fields-push (take i edits) edit) in
    omega (arith, more, highest-append (fields_of (take i edits)) edit)

-- ---- records and edits

edits-push : (records : List (List ℕ)) (edits : List (List Field)) (bytes : List ℕ) (edit : List Field) → AreEdits records edits → IsEdit bytes edit → AreEdits (records ++ bytes ∷ []) (edits ++ edit ∷ [])
edits-push [] [] bytes edit h k = (k, tt)
edits-push [] (e ∷ edits) bytes edit h k = absurd h
edits-push (r ∷ records) [] bytes edit h k = absurd h
edits-push (r ∷ records) (e ∷ edits) bytes edit h k = (h.0, edits-push records edits bytes edit h.1 k)

-- a list of byte strings as its records, one more of which is read
pub records-more : {X : Type 0} (bytes_of : X → List ℕ) (xs : List X) (i : ℕ) (x : X) (bytes : List ℕ) → i < length xs → x ≡ get_or xs i x → bytes ≡ bytes_of x
    → map bytes_of (take i xs) ++ bytes ∷ [] ≡ map bytes_of (take (i + 1) xs)
records-more bytes_of xs i x bytes lt is e =
    ap (λ (b : List ℕ). map bytes_of (take i xs) ++ b ∷ []) (e ∙ ap bytes_of is) ∙ sym (ap (map bytes_of) (take_more xs i x lt) ∙ map-append bytes_of (take i xs) (get_or xs i x ∷ []))

pub edits-more : {X : Type 0} (bytes_of : X → List ℕ) (xs : List X) (i : ℕ) (x : X) (bytes : List ℕ) (edits : List (List Field)) (edit : List Field) → i < length xs → x ≡ get_or xs i x → bytes ≡ bytes_of x
    → AreEdits (map bytes_of (take i xs)) edits → IsEdit bytes edit → AreEdits (map bytes_of (take (i + 1) xs)) (edits ++ edit ∷ [])
edits-more bytes_of xs i x bytes edits edit lt is e h k =
    let P : List (List ℕ) → Type 0 = λ rs. AreEdits rs (edits ++ edit ∷ []) in
    subst P (records-more bytes_of xs i x bytes lt is e) (edits-push (map bytes_of (take i xs)) edits bytes edit h k)

past_right : (xs ys : List Field) → HasPastLimit ys → HasPastLimit (xs ++ ys)
past_right [] ys h = h
past_right (x ∷ xs) ys h = inr (past_right xs ys h)

-- the edit of one of the records
edit_at : {X : Type 0} (bytes_of : X → List ℕ) (xs : List X) (i : ℕ) (x : X) (edits : List (List Field)) → i < length xs → AreEdits (map bytes_of xs) edits
    → (edit : List Field) × IsEdit (bytes_of (get_or xs i x)) edit
edit_at bytes_of [] i x edits lt h = absurd (omega arith)
edit_at bytes_of (y ∷ xs) i x [] lt h = absurd h
edit_at bytes_of (y ∷ xs) zero x (e ∷ edits) lt h = (e, h.0)
edit_at bytes_of (y ∷ xs) (suc i) x (e ∷ edits) lt h = edit_at bytes_of xs i x edits (omega (arith, lt)) h.1

past_end : (edits : List (List Field)) (edit : List Field) → HasPastLimit edit → HasPastLimit (fields_of (edits ++ edit ∷ []))
past_end edits edit h = subst HasPastLimit (sym (fields-push edits edit)) (past_right (fields_of edits) edit h)

-- why one record isn't read is why all aren't
pub edits_refused : {X : Type 0} (bytes_of : X → List ℕ) (xs : List X) (i : ℕ) (x : X) (bytes : List ℕ) (file : FileKind) (e : ReadError) (result : DbError) (edits : List (List Field)) → AreEdits (map bytes_of (take i xs)) edits
    → i < length xs → x ≡ get_or xs i x → bytes ≡ bytes_of x
    → result ≡ in_file file e → RefusesFor e ((edit : List Field) → IsEdit bytes edit → ⊥) ((edit : List Field) × IsEdit bytes edit × HasPastLimit edit)
    → RefusesBytes result ((others : List (List Field)) → AreEdits (map bytes_of xs) others → ⊥) (ArePastLimit (map bytes_of xs))
edits_refused bytes_of xs i x bytes file e result edits front lt is at named refused =
    let none : Type 0 = (others : List (List Field)) → AreEdits (map bytes_of xs) others → ⊥ in
    let P : DbError → Type 0 = λ r. RefusesBytes r none (ArePastLimit (map bytes_of xs)) in
    let same : bytes_of (get_or xs i x) ≡ bytes = sym (at ∙ ap bytes_of is) in
    subst P (sym named) (refuses_more (in_file file e) ((edit : List Field) → IsEdit bytes edit → ⊥) ((edit : List Field) × IsEdit bytes edit × HasPastLimit edit) none (ArePastLimit (map bytes_of xs))
    (λ no others h. let there = edit_at bytes_of xs i x others lt h in let Q : List ℕ → Type 0 = λ b. IsEdit b there.0 in no there.0 (subst Q same there.1))
    (λ one.
    let R : List (List ℕ) → Type 0 = λ rs. AreEdits rs (edits ++ one.0 ∷ []) in
    (i + 1, edits ++ one.0 ∷ [], subst R (sym (take-map bytes_of (i + 1) xs)) (edits-more bytes_of xs i x bytes edits one.0 lt is at front one.1), past_end edits one.0 one.2))
    (refuses_for file e ((edit : List Field) → IsEdit bytes edit → ⊥) ((edit : List Field) × IsEdit bytes edit × HasPastLimit edit) refused))

-- ---- the whole MANIFEST

pub no_manifest_log : (order : Order) (bytes : List ℕ) (e : DbError) → RefusesBytes e ((records : List (List ℕ)) (tail : Tail) → IsLog bytes records tail → ⊥) ⊥ → RefusesBytes e (SpellsNone order bytes) (SpellsBeyond order bytes)
no_manifest_log order bytes e h =
    refuses_more e ((records : List (List ℕ)) (tail : Tail) → IsLog bytes records tail → ⊥) ⊥ (SpellsNone order bytes) (SpellsBeyond order bytes)
    (λ no edits layout m. no m.records m.tail m.log) (λ x. absurd x) h

-- the edits of any MANIFEST of the bytes are those of the records
their_edits : (order : Order) (bytes : List ℕ) (records : List (List ℕ)) (tail : Tail) (edits : List (List Field)) (layout : Layout) → IsLog bytes records tail → IsManifest order bytes edits layout → AreEdits records edits
their_edits order bytes records tail edits layout log m =
    let P : List (List ℕ) → Type 0 = λ rs. AreEdits rs edits in subst P (same_log bytes m.records records m.tail tail m.log log).0 m.spelled

pub no_manifest_edits : (order : Order) (bytes : List ℕ) (records : List (List ℕ)) (tail : Tail) (e : DbError) → IsLog bytes records tail
    → RefusesBytes e ((edits : List (List Field)) → AreEdits records edits → ⊥) (ArePastLimit records) → RefusesBytes e (SpellsNone order bytes) (SpellsBeyond order bytes)
no_manifest_edits order bytes records tail e log h =
    refuses_more e ((edits : List (List Field)) → AreEdits records edits → ⊥) (ArePastLimit records) (SpellsNone order bytes) (SpellsBeyond order bytes)
    (λ no edits layout m. no edits (their_edits order bytes records tail edits layout log m))
    (λ past. record { records = records; tail = tail; log = log; count = past.0; edits = past.1; spelled = past.2; beyond = inl past.3 }) h

other_name : (name : List ℕ) (fields : List Field) → NamesOther name fields → AllByRecursion (IsComparator name) fields → ⊥
other_name name [] h all = h
other_name name (Comparator other ∷ fields) (inl h) all = h all.0
other_name name (LogNumber n ∷ fields) (inl h) all = h
other_name name (NextFileNumber n ∷ fields) (inl h) all = h
other_name name (LastSequence n ∷ fields) (inl h) all = h
other_name name (CompactPointer level key ∷ fields) (inl h) all = h
other_name name (DeletedFile level n ∷ fields) (inl h) all = h
other_name name (NewFile placed ∷ fields) (inl h) all = h
other_name name (PreviousLogNumber n ∷ fields) (inl h) all = h
other_name name (field ∷ fields) (inr h) all = other_name name fields h all.1

of_other : (name : List ℕ) (fields : List Field) → AreOfOther name fields → AreOfOrder name fields → ⊥
of_other name fields (inl named) order = other_name name fields named order.0
of_other name fields (inr none) order = none.1 (order.1 none.0)

pub no_manifest_layout : (order : Order) (bytes : List ℕ) (records : List (List ℕ)) (tail : Tail) (edits : List (List Field)) (file : FileKind) (e : ReadError) (result : DbError) → IsLog bytes records tail → AreEdits records edits
    → result ≡ in_file file e → RefusesFor e ((layout : Layout) → IsLayout order.name edits layout → ⊥) (AreOfOther order.name (fields_of edits))
    → RefusesBytes result (SpellsNone order bytes) (SpellsBeyond order bytes)
no_manifest_layout order bytes records tail edits file e result log are named refused =
    let P : DbError → Type 0 = λ r. RefusesBytes r (SpellsNone order bytes) (SpellsBeyond order bytes) in
    let folded : (others : List (List Field)) (layout : Layout) → IsManifest order bytes others layout → IsLayout order.name edits layout = λ others layout m.
    let Q : List (List Field) → Type 0 = λ es. IsLayout order.name es layout in
    subst Q (same_edits records others edits (their_edits order bytes records tail others layout log m) are) m.folded in
    let R : List (List ℕ) → Type 0 = λ rs. AreEdits rs edits in
    subst P (sym named) (refuses_more (in_file file e) ((layout : Layout) → IsLayout order.name edits layout → ⊥) (AreOfOther order.name (fields_of edits)) (SpellsNone order bytes) (SpellsBeyond order bytes)
    (λ no others layout m. no layout (folded others layout m))
    (λ other. record { records = records; tail = tail; log = log; count = length records; edits = edits; spelled = subst R (sym (take_all (length records) records (omega arith))) are; beyond = inr (let all : length records ≤ length records = omega arith in all, other) })
    (refuses_for file e ((layout : Layout) → IsLayout order.name edits layout → ⊥) (AreOfOther order.name (fields_of edits)) refused))

-- ---- `CURRENT`

pub front-of : (bytes name : List ℕ) (end : ℕ) → bytes ≡ name ++ end ∷ [] → take (length bytes - 1) bytes ≡ name
front-of bytes name end e =
    let long : length bytes - 1 ≡ length name = omega (arith, ap length e, length-append name (end ∷ [])) in
    (λ i. take (long i) (e i)) ∙ take-append-le (length name) name (end ∷ []) (omega arith) ∙ take_all (length name) name (omega arith)

-- the bytes of the MANIFEST that is current are those of any
pub current_bytes : (order : Order) (files : Files) (number : ℕ) (bytes : List ℕ) → IsNumbered number → get files (name_of Current) ≡ Some (name_of (Manifest number) ++ 10 ∷ []) → get files (name_of (Manifest number)) ≡ Some bytes
    → (n : ℕ) (edits : List (List Field)) (layout : Layout) → HasManifest order files n edits layout → IsManifest order bytes edits layout
current_bytes order files number bytes numbered current there n edits layout m =
    let same : n ≡ number = same_current files n number m.numbered numbered m.current current in
    let P : ℕ → Type 0 = λ k. get files (name_of (Manifest k)) ≡ Some m.bytes in
    let Q : List ℕ → Type 0 = λ b. IsManifest order b edits layout in
    subst Q (same_content files (name_of (Manifest number)) m.bytes bytes (subst P same m.there) there) m.spelled

pub manifest_refused : (order : Order) (a b c : Facts) (e : DbError) (number : ℕ) (current bytes : List ℕ) → IsUnchanged a b → IsUnchanged b c
    → IsNumbered number → current ≡ name_of (Manifest number) ++ 10 ∷ []
    → (IsTrue b.faithful → get a.files (name_of Current) ≡ Some current) → (IsTrue c.faithful → get b.files (name_of (Manifest number)) ≡ Some bytes)
    → RefusesBytes e (SpellsNone order bytes) (SpellsBeyond order bytes) → RefusesDirectory e a c (HasNoManifest order a.files) (IsBeyondReading order a.files)
manifest_refused order a b c e number current bytes h g numbered spelled first second refused =
    let named : IsTrue c.faithful → get a.files (name_of Current) ≡ Some (name_of (Manifest number) ++ 10 ∷ []) = λ t. first (g.faithful t) ∙ ap Some spelled in
    let there : IsTrue c.faithful → get a.files (name_of (Manifest number)) ≡ Some bytes = λ t. ap (λ (fs : Files). get fs (name_of (Manifest number))) (sym (h.same (g.faithful t))) ∙ second t in
    refuses_bytes e a c (SpellsNone order bytes) (SpellsBeyond order bytes) (HasNoManifest order a.files) (IsBeyondReading order a.files)
    (λ t no n edits layout m. no edits layout (current_bytes order a.files number bytes numbered (named t) (there t) n edits layout m))
    (λ t beyond. record { number = number; numbered = numbered; current = named t; bytes = bytes; there = there t; spelled = beyond })
    refused

-- ---- past the limits

edits_front : (n : ℕ) (records : List (List ℕ)) (edits : List (List Field)) → AreEdits records edits → AreEdits (take n records) (take n edits)
edits_front zero records edits h = tt
edits_front (suc n) [] [] h = tt
edits_front (suc n) (r ∷ records) (e ∷ edits) h = (h.0, edits_front n records edits h.1)
edits_front (suc n) [] (e ∷ edits) h = absurd h
edits_front (suc n) (r ∷ records) [] h = absurd h

past_within : (xs ys zs : List Field) → (HasPastLimit ys → HasPastLimit zs) → HasPastLimit (xs ++ ys) → HasPastLimit (xs ++ zs)
past_within [] ys zs f h = f h
past_within (x ∷ xs) ys zs f (inl h) = inl h
past_within (x ∷ xs) ys zs f (inr h) = inr (past_within xs ys zs f h)

past_front : (n : ℕ) (edits : List (List Field)) → HasPastLimit (fields_of (take n edits)) → HasPastLimit (fields_of edits)
past_front zero edits h = absurd h
past_front (suc n) [] h = absurd h
past_front (suc n) (e ∷ edits) h = past_within e (fields_of (take n edits)) (fields_of edits) (past_front n edits) h

-- a MANIFEST that is there names a table past the limit
pub beyond_past : BeyondLaw
beyond_past order files n edits layout b m =
    let s = b.spelled in
    let mine : IsManifest order b.bytes edits layout = current_bytes order files b.number b.bytes b.numbered b.current b.there n edits layout m in
    let are : AreEdits s.records edits = their_edits order b.bytes s.records s.tail edits layout s.log mine in
    elim s.beyond [
      | inl past ↦
          let same : s.edits ≡ take s.count edits = same_edits (take s.count s.records) s.edits (take s.count edits) s.spelled (edits_front s.count s.records edits are) in
          past_front s.count edits (subst (λ (es : List (List Field)). HasPastLimit (fields_of es)) same past)
      | inr other ↦
          let whole : AreEdits s.records s.edits = subst (λ (rs : List (List ℕ)). AreEdits rs s.edits) (take_all s.count s.records other.0) s.spelled in
          let same : s.edits ≡ edits = same_edits s.records s.edits edits whole are in
          absurd (of_other order.name (fields_of edits) (subst (λ (es : List (List Field)). AreOfOther order.name (fields_of es)) same other.1) mine.folded.order)
    ]
