-- Entries whose internal keys rise, and what is left out of them.
use Rattle.std.proofs.Common.{◌≡◌, ◌⊎◌, ◌<◌, ◌+◌, ℕ, Option, Some, None, List, [], ◌∷◌, ◌++◌, map, length, take, drop, get_or, inl, inr, refl, sym, ap, subst, ◌∙◌}
use Rattle.std.specs.List.{AllByRecursion}
use Rattle.std.proofs.lemmas.List.{append_assoc, map-append, take_more, take-append-drop}
use Rattle.std.specs.declared.cmp.Ordering.TheVariants.{Less}
use Rattle.block.specs.Written.{last_key_from}
use Rattle.cursor.specs.Places.{Cmp, Rises}
use Rattle.ikey.specs.declared.entry.Entry.{Entry}
use Rattle.ikey.specs.Entries.{InternalEntry, Pair, entry_of, internal_key_of}
use Rattle.ikey.specs.Keys.{IsKey, key_cmp}
use Rattle.ikey.specs.Views.{Among}
use Rattle.table.specs.Table.{ArePairs}
use Rattle.compact.specs.Lists.{IsPartWith}
use Rattle.compact.specs.Merging.{kept_delete}
use Rattle.compact.specs.Outputs.{MayBeAdded}
use Rattle.compact.proofs.Merges.{kind-kept}

all-at : {X : Type 0} (P : X → Type 0) (front back : List X) (x : X) → AllByRecursion P (front ++ x ∷ back) → P x
all-at P [] back x h = h.0
all-at P (first ∷ front) back x h = all-at P front back x h.1

all-front : {X : Type 0} (P : X → Type 0) (front back : List X) → AllByRecursion P (front ++ back) → AllByRecursion P front
all-front P [] back h = tt
all-front P (first ∷ front) back h = (h.0, all-front P front back h.1)

pub rises-at : (cmp : Cmp) (front back : List InternalEntry) (entry : InternalEntry) → Rises cmp (front ++ entry ∷ back) → (x : InternalEntry) → Among front x → key_cmp cmp x.key entry.key ≡ Less
rises-at cmp [] back entry h x m = absurd m
rises-at cmp (first ∷ front) back entry h x (inl same) =
    subst (λ (y : InternalEntry). key_cmp cmp y.key entry.key ≡ Less) (sym same) (all-at (λ (later : InternalEntry). key_cmp cmp first.key later.key ≡ Less) front back entry h.0)
rises-at cmp (first ∷ front) back entry h x (inr m) = rises-at cmp front back entry h.1 x m

pub rises-front : (cmp : Cmp) (front back : List InternalEntry) → Rises cmp (front ++ back) → Rises cmp front
rises-front cmp [] back h = tt
rises-front cmp (first ∷ front) back h = (all-front (λ (later : InternalEntry). key_cmp cmp first.key later.key ≡ Less) front back h.0, rises-front cmp front back h.1)

-- ---- what may be added

last-among : (previous : Option (List ℕ)) (pairs : List Pair) (kept : List InternalEntry) (last : List ℕ) → ArePairs pairs kept → last_key_from previous pairs ≡ Some last
    → (previous ≡ Some last) ⊎ ((x : InternalEntry) × Among kept x × IsKey last x.key)
last-among previous [] [] last h e = inl e
last-among previous [] (first ∷ kept) last h e = absurd h
last-among previous (pair ∷ pairs) [] last h e = absurd h
last-among previous (pair ∷ pairs) (first ∷ kept) last h e = elim (last-among (Some pair.key) pairs kept last h.1 e) [
  | inl same ↦ inr (first, inl refl, subst (λ (bytes : List ℕ). IsKey bytes first.key) (some-same pair.key last same) h.0.key)
  | inr found ↦ inr (found.0, inr found.1, found.2)
]
  where
    some-same : (a b : List ℕ) → Some a ≡ Some b → a ≡ b
    some-same a b e = cc

pub may-add : (cmp : Cmp) (pairs : List Pair) (kept : List InternalEntry) (entry : InternalEntry) (bytes : List ℕ) → ArePairs pairs kept → IsKey bytes entry.key → Rises cmp (kept ++ entry ∷ []) → MayBeAdded cmp pairs bytes
may-add cmp pairs kept entry bytes are is rises = (
  entry.key,
  is,
  λ last e. elim (last-among None pairs kept last are e) [
    | inl none ↦ (let t : None ≡ Some last = none in cc)
    | inr found ↦ (found.0.key, entry.key, found.2, is, rises-at cmp kept [] entry rises found.0 found.1)
  ],
)

pub rises-delete : (cmp : Cmp) (user : List ℕ) (sequences : List ℕ) (i : ℕ) (kept : List InternalEntry) → i < length sequences
    → Rises cmp (kept ++ map (kept_delete user) sequences) → Rises cmp ((kept ++ map (kept_delete user) (take i sequences)) ++ kept_delete user (get_or sequences i 0) ∷ [])
rises-delete cmp user sequences i kept lt h =
    let f = kept_delete user in
    let s = get_or sequences i 0 in
    let more : kept ++ map f (take (i + 1) sequences) ≡ (kept ++ map f (take i sequences)) ++ f s ∷ [] =
    ap (λ l. kept ++ map f l) (take_more sequences i 0 lt) ∙ ap (λ l. kept ++ l) (map-append f (take i sequences) (s ∷ [])) ∙ sym (append_assoc kept (map f (take i sequences)) (f s ∷ [])) in
    let all : kept ++ map f sequences ≡ (kept ++ map f (take (i + 1) sequences)) ++ map f (drop (i + 1) sequences) =
    ap (λ l. kept ++ map f l) (sym (take-append-drop (i + 1) sequences)) ∙ ap (λ l. kept ++ l) (map-append f (take (i + 1) sequences) (drop (i + 1) sequences))
    ∙ sym (append_assoc kept (map f (take (i + 1) sequences)) (map f (drop (i + 1) sequences))) in
    subst (Rises cmp) more (rises-front cmp (kept ++ map f (take (i + 1) sequences)) (map f (drop (i + 1) sequences)) (subst (Rises cmp) all h))

-- ---- what is left out

abbrev comes : Cmp → Entry → Entry → Type 0
comes cmp a b = key_cmp cmp (internal_key_of a) (internal_key_of b) ≡ Less

abbrev Come : Cmp → List Entry → Type 0
Come cmp [] = Unit {0}
Come cmp (a ∷ entries) = AllByRecursion (comes cmp a) entries × Come cmp entries

same-key : (x : InternalEntry) → internal_key_of (entry_of x) ≡ x.key
same-key x = λ i. record { user = x.key.user; sequence = x.key.sequence; kind = kind-kept x.key.kind x.value i }

come-all : (cmp : Cmp) (a : InternalEntry) (xs : List InternalEntry) → AllByRecursion (λ (later : InternalEntry). key_cmp cmp a.key later.key ≡ Less) xs → AllByRecursion (comes cmp (entry_of a)) (map entry_of xs)
come-all cmp a [] h = tt
come-all cmp a (x ∷ xs) h = ((λ i. key_cmp cmp (same-key a i) (same-key x i)) ∙ h.0, come-all cmp a xs h.1)

rise-all : (cmp : Cmp) (a : InternalEntry) (xs : List InternalEntry) → AllByRecursion (comes cmp (entry_of a)) (map entry_of xs) → AllByRecursion (λ (later : InternalEntry). key_cmp cmp a.key later.key ≡ Less) xs
rise-all cmp a [] h = tt
rise-all cmp a (x ∷ xs) h = ((λ i. key_cmp cmp (sym (same-key a) i) (sym (same-key x) i)) ∙ h.0, rise-all cmp a xs h.1)

come : (cmp : Cmp) (xs : List InternalEntry) → Rises cmp xs → Come cmp (map entry_of xs)
come cmp [] h = tt
come cmp (x ∷ xs) h = (come-all cmp x xs h.0, come cmp xs h.1)

rise : (cmp : Cmp) (xs : List InternalEntry) → Come cmp (map entry_of xs) → Rises cmp xs
rise cmp [] h = tt
rise cmp (x ∷ xs) h = (rise-all cmp x xs h.0, rise cmp xs h.1)

part-all : (Q P : Entry → Type 0) (list part : List Entry) → IsPartWith P list part → AllByRecursion Q list → AllByRecursion Q part
part-all Q P [] part h all = subst (AllByRecursion Q) (sym h) tt
part-all Q P (x ∷ list) part (inl (is, rest, e, behind)) all = subst (AllByRecursion Q) (sym e) (all.0, part-all Q P list rest behind all.1)
part-all Q P (x ∷ list) part (inr (not, behind)) all = part-all Q P list part behind all.1

part-comes : (cmp : Cmp) (P : Entry → Type 0) (list part : List Entry) → IsPartWith P list part → Come cmp list → Come cmp part
part-comes cmp P [] part h all = subst (Come cmp) (sym h) tt
part-comes cmp P (x ∷ list) part (inl (is, rest, e, behind)) all = subst (Come cmp) (sym e) (part-all (comes cmp x) P list rest behind all.0, part-comes cmp P list rest behind all.1)
part-comes cmp P (x ∷ list) part (inr (not, behind)) all = part-comes cmp P list part behind all.1

-- a part of what rises does so too
pub part-rises : (cmp : Cmp) (P : Entry → Type 0) (list part : List InternalEntry) → IsPartWith P (map entry_of list) (map entry_of part) → Rises cmp list → Rises cmp part
part-rises cmp P list part h all = rise cmp part (part-comes cmp P (map entry_of list) (map entry_of part) h (come cmp list all))
