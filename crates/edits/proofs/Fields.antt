-- Fields and edits.
use Rattle.std.proofs.Common.{◌≡◌, ℕ, ◌-◌, ◌<◌, ◌≤◌, false, eqb, get_or, List, [], ◌∷◌, ◌++◌, length, take, drop, refl, sym, ap, ◌∙◌, subst, append_assoc, arith}
use Rattle.std.proofs.lemmas.List.{take_rest, nil_from_length, append-nil, length-append}
use Rattle.coding.specs.Varint.{IsString}
use Rattle.edits.specs.declared.field.Field.{Field}
use Rattle.edits.specs.declared.field.Field.TheVariants.{Comparator, LogNumber, NextFileNumber, LastSequence, CompactPointer, DeletedFile, NewFile, PreviousLogNumber}
use Rattle.coding.specs.Spelling.{InTurn, Begins, BeginsNone, IsPrefixFree}
use Rattle.edits.specs.Edit.{IsLong, IsSequence, IsLevel, IsPlaced, field_tag, IsContent, IsField, IsEdit, SpellsKey}
use Rattle.coding.proofs.Spellings.{free_pair}
use Rattle.edits.proofs.Spellings.{free_long, free_sequence, free_level, free_string, free_placed, free_key}

same_content : (a b x y : List ℕ) (f g : Field) → field_tag f ≡ field_tag g → IsContent a f → IsContent b g → a ++ x ≡ b ++ y → (f ≡ g) × (x ≡ y)
same_content a b x y (Comparator m) (Comparator n) t h k e = let s = free_string a b x y m n h k e in (ap Comparator s.0, s.1)
same_content a b x y (LogNumber m) (LogNumber n) t h k e = let s = free_long a b x y m n h k e in (ap LogNumber s.0, s.1)
same_content a b x y (NextFileNumber m) (NextFileNumber n) t h k e = let s = free_long a b x y m n h k e in (ap NextFileNumber s.0, s.1)
same_content a b x y (LastSequence m) (LastSequence n) t h k e = let s = free_sequence a b x y m n h k e in (ap LastSequence s.0, s.1)
same_content a b x y (CompactPointer l m) (CompactPointer j n) t h k e =
    let s = free_pair IsLevel SpellsKey free_level free_key a b x y (l, m) (j, n) h k e in (λ i. CompactPointer (s.0 i).0 (s.0 i).1, s.1)
same_content a b x y (DeletedFile l m) (DeletedFile j n) t h k e =
    let s = free_pair IsLevel IsLong free_level free_long a b x y (l, m) (j, n) h k e in (λ i. DeletedFile (s.0 i).0 (s.0 i).1, s.1)
same_content a b x y (NewFile m) (NewFile n) t h k e = let s = free_placed a b x y m n h k e in (ap NewFile s.0, s.1)
same_content a b x y (PreviousLogNumber m) (PreviousLogNumber n) t h k e = let s = free_long a b x y m n h k e in (ap PreviousLogNumber s.0, s.1)
same_content a b x y f g t h k e = absurd (omega (arith, t))

pub free_field : IsPrefixFree IsField
free_field [] b x y f g h k e = absurd h
free_field (c ∷ a) [] x y f g h k e = absurd k
free_field (c ∷ a) (d ∷ b) x y f g h k e =
    let tags : c ≡ d = cc in
    let rests : a ++ x ≡ b ++ y = cc in
    same_content a b x y f g (sym h.0 ∙ tags ∙ k.0) h.1 k.1 rests

-- ---- a field by its tag

pub begins_field : (tag : ℕ) (bytes rest : List ℕ) (field : Field) → tag ≡ field_tag field → Begins IsContent bytes field rest → Begins IsField (tag ∷ bytes) field rest
begins_field tag bytes rest field t h = (tag ∷ h.0, (t, h.1), ap (λ (bs : List ℕ). tag ∷ bs) h.2)

NoContent : ℕ → List ℕ → Type 0
NoContent tag bytes = (field : Field) (rest : List ℕ) → tag ≡ field_tag field → Begins IsContent bytes field rest → ⊥

none_field : (tag : ℕ) (bytes : List ℕ) → NoContent tag bytes → BeginsNone IsField (tag ∷ bytes)
unfolding NoContent
none_field tag bytes none field rest ([], h, e) = h
none_field tag bytes none field rest (c ∷ front, h, e) =
    let tags : tag ≡ c = cc in
    let rests : bytes ≡ front ++ rest = cc in
    none field rest (tags ∙ h.0) (front, h.1, rests)

no_comparator : (bytes : List ℕ) → BeginsNone IsString bytes → NoContent 1 bytes
unfolding NoContent
no_comparator bytes none (Comparator name) rest t h = none name rest h
no_comparator bytes none field rest t h = absurd (omega (arith, t))

no_log : (bytes : List ℕ) → BeginsNone IsLong bytes → NoContent 2 bytes
unfolding NoContent
no_log bytes none (LogNumber n) rest t h = none n rest h
no_log bytes none field rest t h = absurd (omega (arith, t))

no_next : (bytes : List ℕ) → BeginsNone IsLong bytes → NoContent 3 bytes
unfolding NoContent
no_next bytes none (NextFileNumber n) rest t h = none n rest h
no_next bytes none field rest t h = absurd (omega (arith, t))

no_sequence : (bytes : List ℕ) → BeginsNone IsSequence bytes → NoContent 4 bytes
unfolding NoContent
no_sequence bytes none (LastSequence n) rest t h = none n rest h
no_sequence bytes none field rest t h = absurd (omega (arith, t))

no_pointer : (bytes : List ℕ) → BeginsNone (InTurn IsLevel SpellsKey) bytes → NoContent 5 bytes
unfolding NoContent
no_pointer bytes none (CompactPointer level key) rest t h = none (level, key) rest h
no_pointer bytes none field rest t h = absurd (omega (arith, t))

no_deleted : (bytes : List ℕ) → BeginsNone (InTurn IsLevel IsLong) bytes → NoContent 6 bytes
unfolding NoContent
no_deleted bytes none (DeletedFile level number) rest t h = none (level, number) rest h
no_deleted bytes none field rest t h = absurd (omega (arith, t))

no_new : (bytes : List ℕ) → BeginsNone IsPlaced bytes → NoContent 7 bytes
unfolding NoContent
no_new bytes none (NewFile placed) rest t h = none placed rest h
no_new bytes none field rest t h = absurd (omega (arith, t))

no_previous : (bytes : List ℕ) → BeginsNone IsLong bytes → NoContent 9 bytes
unfolding NoContent
no_previous bytes none (PreviousLogNumber n) rest t h = none n rest h
no_previous bytes none field rest t h = absurd (omega (arith, t))

pub none_comparator : (bytes : List ℕ) → BeginsNone IsString bytes → BeginsNone IsField (1 ∷ bytes)
none_comparator bytes none = none_field 1 bytes (no_comparator bytes none)

pub none_log : (bytes : List ℕ) → BeginsNone IsLong bytes → BeginsNone IsField (2 ∷ bytes)
none_log bytes none = none_field 2 bytes (no_log bytes none)

pub none_next : (bytes : List ℕ) → BeginsNone IsLong bytes → BeginsNone IsField (3 ∷ bytes)
none_next bytes none = none_field 3 bytes (no_next bytes none)

pub none_sequence : (bytes : List ℕ) → BeginsNone IsSequence bytes → BeginsNone IsField (4 ∷ bytes)
none_sequence bytes none = none_field 4 bytes (no_sequence bytes none)

pub none_pointer : (bytes : List ℕ) → BeginsNone (InTurn IsLevel SpellsKey) bytes → BeginsNone IsField (5 ∷ bytes)
none_pointer bytes none = none_field 5 bytes (no_pointer bytes none)

pub none_deleted : (bytes : List ℕ) → BeginsNone (InTurn IsLevel IsLong) bytes → BeginsNone IsField (6 ∷ bytes)
none_deleted bytes none = none_field 6 bytes (no_deleted bytes none)

pub none_new : (bytes : List ℕ) → BeginsNone IsPlaced bytes → BeginsNone IsField (7 ∷ bytes)
none_new bytes none = none_field 7 bytes (no_new bytes none)

pub none_previous : (bytes : List ℕ) → BeginsNone IsLong bytes → BeginsNone IsField (9 ∷ bytes)
none_previous bytes none = none_field 9 bytes (no_previous bytes none)

-- ---- edits

pub same_edit : (a b : List ℕ) (fs gs : List Field) → IsEdit a fs → IsEdit b gs → a ≡ b → fs ≡ gs
same_edit a b [] [] h k e = refl
same_edit a b [] (g ∷ gs) h k e = absurd (empty_front k.0 k.1 g k.2 (sym h ∙ e ∙ k.4))
  where
    empty_front : (front rest : List ℕ) (f : Field) → IsField front f → [] ≡ front ++ rest → ⊥
    empty_front [] rest f h e = h
    empty_front (c ∷ front) rest f h e = cc
same_edit a b (f ∷ fs) [] h k e = absurd (empty_front h.0 h.1 f h.2 (sym k ∙ sym e ∙ h.4))
  where
    empty_front : (front rest : List ℕ) (f : Field) → IsField front f → [] ≡ front ++ rest → ⊥
    empty_front [] rest f h e = h
    empty_front (c ∷ front) rest f h e = cc
same_edit a b (f ∷ fs) (g ∷ gs) h k e =
    let first = free_field h.0 k.0 h.1 k.1 f g h.2 k.2 (sym h.4 ∙ e ∙ k.4) in
    let rest = same_edit h.1 k.1 fs gs h.3 k.3 first.1 in
    cc (first.0, rest)

pub one_edit_again : (bytes : List ℕ) (fs gs : List Field) → IsEdit bytes fs → IsEdit bytes gs → fs ≡ gs
one_edit_again bytes fs gs h k = same_edit bytes bytes fs gs h k refl

-- the tag as the reader has it
pub tagged : (tag k : ℕ) (bytes : List ℕ) → tag ≡ k → BeginsNone IsField (k ∷ bytes) → BeginsNone IsField (tag ∷ bytes)
tagged tag k bytes t none = rw t none

pub IsEdit-push : (bytes more : List ℕ) (fs : List Field) (f : Field) → IsEdit bytes fs → IsField more f → IsEdit (bytes ++ more) (fs ++ f ∷ [])
IsEdit-push bytes more [] f h k = (more, [], k, refl, ap (λ (x : List ℕ). x ++ more) h ∙ sym (append-nil more))
IsEdit-push bytes more (g ∷ fs) f h k =
    (h.0, h.1 ++ more, h.2, IsEdit-push h.1 more fs f h.3 k, ap (λ (x : List ℕ). x ++ more) h.4 ∙ append_assoc h.0 h.1 more)

abbrev pub NoEdit : List ℕ → Type 0
NoEdit bytes = (edit : List Field) → IsEdit bytes edit → ⊥

stuck_from : (a rest b : List ℕ) (fs gs : List Field) → IsEdit a fs → IsEdit b gs → a ++ rest ≡ b → 0 < length rest → BeginsNone IsField rest → ⊥
stuck_from a rest b [] [] h k e some none = omega (arith, some, ap length e, length-append a rest, ap length k)
stuck_from a rest b [] (g ∷ gs) h k e some none = none g k.1 (k.0, k.2, sym (ap (λ (x : List ℕ). x ++ rest) h) ∙ e ∙ k.4)
stuck_from a rest b (f ∷ fs) [] h k e some none = omega (arith, some, ap length e, length-append a rest, ap length k)
stuck_from a rest b (f ∷ fs) (g ∷ gs) h k e some none =
    let s = free_field h.0 k.0 (h.1 ++ rest) k.1 f g h.2 k.2 (sym (ap (λ (x : List ℕ). x ++ rest) h.4 ∙ append_assoc h.0 h.1 rest) ∙ e ∙ k.4) in
    stuck_from h.1 rest k.1 fs gs h.3 k.3 s.1 some none

-- where no field stands after those so far, the bytes are no edit
pub stuck : (bytes front rest : List ℕ) (fs : List Field) → IsEdit front fs → bytes ≡ front ++ rest → 0 < length rest → BeginsNone IsField rest → NoEdit bytes
stuck bytes front rest fs h e some none gs k = stuck_from front rest bytes fs gs h k (sym e) some none

pub length-field : (front : List ℕ) (f : Field) → IsField front f → 0 < length front
length-field [] f h = absurd h
length-field (c ∷ front) f h = omega arith

pub whole_edit : (bytes front rest : List ℕ) (fs : List Field) → IsEdit front fs → bytes ≡ front ++ rest → length rest ≡ 0 → IsEdit bytes fs
whole_edit bytes front rest fs h e none = let P : List ℕ → Type 0 = λ b. IsEdit b fs in subst P (sym (e ∙ ap (λ (x : List ℕ). front ++ x) (nil_from_length rest none) ∙ append-nil front)) h

pub first_rest : (bytes : List ℕ) → 1 ≤ length bytes → bytes ≡ get_or bytes 0 0 ∷ take (length bytes - 1) (drop 1 bytes)
first_rest [] some = absurd (omega arith)
first_rest (b ∷ bytes) some = cc (take_rest (b ∷ bytes) 1)

pub some_left : (rest : List ℕ) → eqb (length rest) 0 ≡ false → 0 < length rest
some_left [] e = absurd cc
some_left (b ∷ rest) e = omega arith
