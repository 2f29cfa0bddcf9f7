-- Steps of the loops over fields, edits and tables.
use Rattle.std.proofs.Common.{◌≡◌, ℕ, ◌+◌, ◌<◌, ◌≤◌, true, false, inl, inr, zero, suc, map, Bor, Option, Some, None, List, [], ◌∷◌, ◌++◌, length, take, drop, get_or, refl, sym, ap, ◌∙◌, subst, arith}
use Rattle.std.specs.Option.{option_or, option_copied}
use Rattle.std.proofs.lemmas.List.{drop_more, drop_all, map_more}
use Rattle.edits.specs.declared.field.Field.{Field}
use Rattle.edits.specs.declared.field.Field.TheVariants.{Comparator}
use Rattle.std.specs.List.{AllByRecursion}
use Rattle.edits.specs.Layout.{levels, NamesOther, names_none, fields_of, last_said}

-- ---- a list from an element on

pub drop_item : {X : Type 0} (xs : List X) (i : ℕ) (x : X) → i < length xs → x ≡ get_or xs i x → drop i xs ≡ x ∷ drop (i + 1) xs
drop_item xs i x lt e = drop_more xs i x lt ∙ ap (λ y. y ∷ drop (i + 1) xs) (sym e)

-- a fact of the list from the element on, by one of the element and what is after it
pub at_item : {X : Type 0} (F : List X → Type 0) (xs : List X) (i : ℕ) (x : X) → i < length xs → x ≡ get_or xs i x → F (x ∷ drop (i + 1) xs) → F (drop i xs)
at_item F xs i x lt e h = subst F (sym (drop_item xs i x lt e)) h

pub at_last : {X : Type 0} (F : List X → Type 0) (xs : List X) (i : ℕ) → length xs ≤ i → F [] → F (drop i xs)
at_last F xs i le h = subst F (sym (drop_all i xs le)) h

-- ---- what fields say last

or_assoc : {V : Type 0} (a b c : Option V) → option_or a (option_or b c) ≡ option_or (option_or a b) c
or_assoc None b c = refl
or_assoc (Some v) b c = refl

pub or_none : {V : Type 0} (a : Option V) → option_or a None ≡ a
or_none None = refl
or_none (Some v) = refl

pub last_said-append : {V : Type 0} (said : Field → Option V) (fs gs : List Field) → last_said said (fs ++ gs) ≡ option_or (last_said said gs) (last_said said fs)
last_said-append said [] gs = sym (or_none (last_said said gs))
last_said-append said (f ∷ fs) gs = ap (λ o. option_or o (said f)) (last_said-append said fs gs) ∙ sym (or_assoc (last_said said gs) (last_said said fs) (said f))

-- after one more field
pub said_field : {V : Type 0} (said : Field → Option V) (fs : List Field) (i : ℕ) (f : Field) (old new : Option V) → i < length fs → f ≡ get_or fs i f → new ≡ option_or (said f) old
    → option_or (last_said said (drop (i + 1) fs)) new ≡ option_or (last_said said (drop i fs)) old
said_field said fs i f old new lt e h =
    ap (λ o. option_or (last_said said (drop (i + 1) fs)) o) h ∙ or_assoc (last_said said (drop (i + 1) fs)) (said f) old ∙ ap (λ t. option_or (last_said said t) old) (sym (drop_item fs i f lt e))

pub said_no_field : {V : Type 0} (said : Field → Option V) (fs : List Field) (i : ℕ) (o : Option V) → length fs ≤ i → option_or (last_said said (drop i fs)) o ≡ o
said_no_field said fs i o le = ap (λ t. option_or (last_said said t) o) (drop_all i fs le)

-- after one more edit
pub said_edit : {V : Type 0} (said : Field → Option V) (edits : List (List Field)) (i : ℕ) (edit : List Field) (old new : Option V) → i < length edits → edit ≡ get_or edits i edit
    → new ≡ option_or (last_said said edit) old → option_or (last_said said (fields_of (drop (i + 1) edits))) new ≡ option_or (last_said said (fields_of (drop i edits))) old
said_edit said edits i edit old new lt e h =
    let more = last_said said (fields_of (drop (i + 1) edits)) in
    ap (λ o. option_or more o) h ∙ or_assoc more (last_said said edit) old ∙ ap (λ o. option_or o old) (sym (last_said-append said edit (fields_of (drop (i + 1) edits)))) ∙ ap (λ t. option_or (last_said said (fields_of t)) old) (sym (drop_item edits i edit lt e))

pub said_no_edit : {V : Type 0} (said : Field → Option V) (edits : List (List Field)) (i : ℕ) (o : Option V) → length edits ≤ i → option_or (last_said said (fields_of (drop i edits))) o ≡ o
said_no_edit said edits i o le = ap (λ t. option_or (last_said said (fields_of t)) o) (drop_all i edits le)

-- ---- fields of some edits

pub names_front : (name : List ℕ) (fs gs : List Field) → NamesOther name fs → NamesOther name (fs ++ gs)
names_front name [] gs h = absurd h
names_front name (f ∷ fs) gs (inl h) = inl h
names_front name (f ∷ fs) gs (inr h) = inr (names_front name fs gs h)

pub names_back : (name : List ℕ) (fs gs : List Field) → NamesOther name gs → NamesOther name (fs ++ gs)
names_back name [] gs h = h
names_back name (f ∷ fs) gs h = inr (names_back name fs gs h)

pub none_front : (fs gs : List Field) → names_none fs ≡ true → names_none (fs ++ gs) ≡ names_none gs
none_front [] gs h = refl
none_front (Comparator name ∷ fs) gs h = absurd (cc)
none_front (f ∷ fs) gs h = none_front fs gs h

pub some_front : (fs gs : List Field) → names_none fs ≡ false → names_none (fs ++ gs) ≡ false
some_front [] gs h = absurd (cc)
some_front (Comparator name ∷ fs) gs h = refl
some_front (f ∷ fs) gs h = some_front fs gs h

pub all_append : {X : Type 0} (P : X → Type 0) (xs ys : List X) → AllByRecursion P xs → AllByRecursion P ys → AllByRecursion P (xs ++ ys)
all_append P [] ys h k = k
all_append P (x ∷ xs) ys h k = (h.0, all_append P xs ys h.1 k)

pub copied_or : {T : Type 0} (a b : Option (Bor T)) → option_copied (option_or a b) ≡ option_or (option_copied a) (option_copied b)
copied_or None b = refl
copied_or (Some a) b = refl

pub level_at : (i : ℕ) → i < 7 → get_or levels i 0 ≡ i
level_at zero lt = refl
level_at (suc zero) lt = refl
level_at (suc (suc zero)) lt = refl
level_at (suc (suc (suc zero))) lt = refl
level_at (suc (suc (suc (suc zero)))) lt = refl
level_at (suc (suc (suc (suc (suc zero))))) lt = refl
level_at (suc (suc (suc (suc (suc (suc zero)))))) lt = refl
level_at (suc (suc (suc (suc (suc (suc (suc i))))))) lt = absurd (omega (arith, lt))

-- one more level's value
pub levels_more : {V : Type 0} (f : ℕ → V) (i : ℕ) → i < 7 → map f (take (i + 1) levels) ≡ map f (take i levels) ++ f i ∷ []
levels_more f i lt = map_more f levels i 0 lt ∙ ap (λ n. map f (take i levels) ++ f n ∷ []) (level_at i lt)
