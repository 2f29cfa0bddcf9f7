-- How much room what was kept needs, beside what came.
use Rattle.std.proofs.Common.{◌≡◌, ◌<◌, ◌≤◌, ◌+◌, ◌^◌, ℕ, Bool, Option, Some, List, [], ◌∷◌, ◌++◌, map, take, drop, get_or, length, inl, inr, refl, sym, ap, subst, ◌∙◌, arith}
use Rattle.std.specs.List.{AllByRecursion, flat_map}
use Rattle.std.proofs.lemmas.List.{map-append, length-append, take_more, take-append-drop}
use Rattle.std.specs.declared.cmp.Ordering.{Ordering}
use Rattle.coding.specs.Fixed.{fixed64}
use Rattle.ikey.specs.declared.entry.Entry.{Entry}
use Rattle.ikey.specs.declared.internal_key.Kind.{Kind}
use Rattle.ikey.specs.declared.internal_key.Kind.TheVariants.{Delete, Put}
use Rattle.ikey.specs.Entries.{InternalEntry, Pair, IsPair, entry_of, value_kept, value_of}
use Rattle.ikey.specs.Keys.{Key, IsKey, tag_of}
use Rattle.store.specs.Files.{Facts}
use Rattle.table.specs.Building.{Building, Builds}
use Rattle.table.specs.Table.{ArePairs}
use Rattle.table.specs.Writing.{NeedsLongBlock, NeedsLongEnds}
use Rattle.compact.specs.Choosing.{Choosing, Chooses, delete_of, written_for}
use Rattle.compact.specs.declared.selection.Choice.{Choice}
use Rattle.compact.specs.declared.selection.Choice.TheVariants.{Write}
use Rattle.compact.specs.Lists.{IsPartWith}
use Rattle.compact.specs.Merging.{IsWellKept, kept_delete}
use Rattle.compact.specs.Needed.{IsNeeded}
use Rattle.compact.specs.Rooms.{room_of, load, AreTooMany, AreLarge}
use Rattle.compact.specs.Outputs.{Filling, TablesWritten, HasWritten, IsAtHand}
use Rattle.compact.proofs.Sizes.{load-append, long_block, long_ends}

-- ---- entries

pub room-append : (xs ys : List Entry) → room_of (xs ++ ys) ≡ room_of xs + room_of ys
room-append [] ys = omega arith
room-append (x ∷ xs) ys = (let rest = room-append xs ys in omega (arith, rest))

-- a part needs no more than the whole
pub room-part : (P : Entry → Type 0) (list part : List Entry) → IsPartWith P list part → room_of part ≤ room_of list
room-part P [] part h = omega (arith, ap room_of h)
room-part P (x ∷ list) part (inl (is, rest, e, behind)) = (let more = room-part P list rest behind in let same = ap room_of e in omega (arith, more, same))
room-part P (x ∷ list) part (inr (not, behind)) = (let more = room-part P list part behind in omega (arith, more))

-- ---- pairs

pub key-long : (bytes : List ℕ) (key : Key) → IsKey bytes key → length bytes ≡ length key.user + 8
key-long bytes key h = ap length h.parts ∙ length-append key.user (fixed64 (tag_of key))

-- what entries need as they are kept
room_kept : List InternalEntry → ℕ
room_kept [] = 0
room_kept (x ∷ xs) = length x.key.user + length x.value + 64 + room_kept xs

kept-append : (xs ys : List InternalEntry) → room_kept (xs ++ ys) ≡ room_kept xs + room_kept ys
unfolding room_kept
kept-append [] ys = omega arith
kept-append (x ∷ xs) ys = (let rest = kept-append xs ys in omega (arith, rest))

load-kept : (pairs : List Pair) (kept : List InternalEntry) → ArePairs pairs kept → load 56 pairs ≡ room_kept kept
unfolding load room_kept
load-kept [] [] h = refl
load-kept [] (x ∷ kept) h = absurd h
load-kept (pair ∷ pairs) [] h = absurd h
load-kept (pair ∷ pairs) (x ∷ kept) h =
    let rest = load-kept pairs kept h.1 in
    let key = key-long pair.key x.key h.0.key in
    let value = ap length h.0.value in
    omega (arith, rest, key, value)

kept-room : (kept : List InternalEntry) → AllByRecursion IsWellKept kept → room_kept kept ≡ room_of (map entry_of kept)
unfolding room_kept
kept-room [] h = refl
kept-room (x ∷ kept) h = (let rest = kept-room kept h.1 in let value = ap length h.0 in omega (arith, rest, value))

-- what is kept of entries needs no more than they
pub load-part : (P : Entry → Type 0) (pairs : List Pair) (kept came : List InternalEntry) → ArePairs pairs kept → AllByRecursion IsWellKept kept → IsPartWith P (map entry_of came) (map entry_of kept)
    → load 56 pairs ≤ room_of (map entry_of came)
load-part P pairs kept came are well part =
    let all = load-kept pairs kept are in
    let same = kept-room kept well in
    let most = room-part P (map entry_of came) (map entry_of kept) part in
    omega (arith, all, same, most)

-- ---- a pair after others

pub load-pair : (pair : Pair) (entry : InternalEntry) → IsPair pair entry → IsWellKept entry → load 56 (pair ∷ []) ≡ room_of (entry_of entry ∷ [])
unfolding load
load-pair pair entry is well =
    let key = key-long pair.key entry.key is.key in
    let value = ap length is.value in
    let same = ap length well in
    omega (arith, key, value, same)

-- it needs what the entry needs
pub too-many-pair : (pairs : List Pair) (pair : Pair) (entry : InternalEntry) → IsPair pair entry → IsWellKept entry → AreTooMany (pairs ++ pair ∷ []) [] → AreTooMany pairs (entry_of entry ∷ [])
too-many-pair pairs pair entry is well h =
    let all = load-append 56 pairs (pair ∷ []) in
    let one = load-pair pair entry is well in
    omega (arith, h, all, one)

pub too-many-with : (pairs : List Pair) (pair : Pair) → AreTooMany pairs [] → AreTooMany (pairs ++ pair ∷ []) []
too-many-with pairs pair h = (let all = load-append 56 pairs (pair ∷ []) in omega (arith, h, all))

pub too-many-alone : (pairs : List Pair) (pair : Pair) → AreTooMany (pair ∷ []) [] → AreTooMany (pairs ++ pair ∷ []) []
too-many-alone pairs pair h = (let all = load-append 56 pairs (pair ∷ []) in omega (arith, h, all))

-- ---- a block of the table at hand

-- A block of a table of these pairs is too long only where they are too many.
pub long-block : (cmp : List ℕ → List ℕ → Ordering) (w : TablesWritten) (t : Filling) (facts : Facts) (next : ℕ) (pairs : List Pair) (pair : Pair) → w.at_hand ≡ Some t → HasWritten cmp w facts next pairs
    → NeedsLongBlock t.building pair → AreTooMany (pairs ++ pair ∷ []) []
long-block cmp w t facts next pairs pair is h long =
    let at = subst (λ (o : Option Filling). IsAtHand cmp facts o h.rest) is h.rest_is in
    let most = long_block cmp t.building facts h.rest at.0.builds pair long in
    let some = load-append 56 h.rest (pair ∷ []) in
    let all = load-append 56 pairs (pair ∷ []) in
    let whole = ap (load 56) h.all ∙ load-append 56 (flat_map (λ (table : List Pair). table) h.tables) h.rest in
    omega (arith, most, some, all, whole)

pub long-new : (cmp : List ℕ → List ℕ → Ordering) (b : Building) (facts : Facts) (pair : Pair) → Builds cmp b facts [] → NeedsLongBlock b pair → AreTooMany (pair ∷ []) []
long-new cmp b facts pair builds long = (let most = long_block cmp b facts [] builds pair long in omega (arith, most))

pub long-ends : (cmp : List ℕ → List ℕ → Ordering) (w : TablesWritten) (t : Filling) (facts : Facts) (next : ℕ) (pairs : List Pair) → w.at_hand ≡ Some t → HasWritten cmp w facts next pairs
    → NeedsLongEnds t.building → AreTooMany pairs []
long-ends cmp w t facts next pairs is h long =
    let at = subst (λ (o : Option Filling). IsAtHand cmp facts o h.rest) is h.rest_is in
    let most = long_ends cmp t.building facts h.rest at.0.builds (some-long h.rest at.1) long in
    let whole = ap (load 56) h.all ∙ load-append 56 (flat_map (λ (table : List Pair). table) h.tables) h.rest in
    omega (arith, most, whole)
  where
    some-long : (rest : List Pair) → (rest ≡ [] → ⊥) → 0 < length rest
    some-long [] some = absurd (some refl)
    some-long (pair ∷ rest) some = omega arith

-- a key that no block can hold
pub long-key : (pairs : List Pair) (pair : Pair) → 2 ^ 30 < length pair.key → AreTooMany (pairs ++ pair ∷ []) []
unfolding load
long-key pairs pair long = (let all = load-append 56 pairs (pair ∷ []) in omega (arith, all, long))

-- ---- deletes that waited

deletes-room : (user : List ℕ) (sequences : List ℕ) → room_kept (map (kept_delete user) sequences) ≡ room_of (map (delete_of user) sequences)
unfolding room_kept
deletes-room user [] = refl
deletes-room user (s ∷ sequences) = (let rest = deletes-room user sequences in omega (arith, rest))

-- with the first of them, and one more, they are too many with all
pub too-many-deletes : (user : List ℕ) (sequences : List ℕ) (i : ℕ) (pairs new : List Pair) (kept : List InternalEntry) → i < length sequences → ArePairs pairs kept
    → ArePairs new (kept ++ map (kept_delete user) (take i sequences)) → AreTooMany new (delete_of user (get_or sequences i 0) ∷ []) → AreTooMany pairs (map (delete_of user) sequences)
too-many-deletes user sequences i pairs new kept lt are more h =
    let f = delete_of user in
    let s = get_or sequences i 0 in
    let all = load-kept pairs kept are in
    let some = load-kept new (kept ++ map (kept_delete user) (take i sequences)) more ∙ kept-append kept (map (kept_delete user) (take i sequences)) in
    let front = deletes-room user (take i sequences) in
    let parts = ap room_of (ap (map f) (sym (take-append-drop (i + 1) sequences)) ∙ map-append f (take (i + 1) sequences) (drop (i + 1) sequences)
    ∙ ap (λ l. map f l ++ map f (drop (i + 1) sequences)) (take_more sequences i 0 lt) ∙ ap (λ l. l ++ map f (drop (i + 1) sequences)) (map-append f (take i sequences) (s ∷ []))) in
    let first = room-append (map f (take i sequences) ++ f s ∷ []) (map f (drop (i + 1) sequences)) in
    let second = room-append (map f (take i sequences)) (f s ∷ []) in
    omega (arith, h, all, some, front, parts, first, second)

-- they alone are too many, and they still are with an entry after them
pub too-many-more : (pairs : List Pair) (entries : List Entry) (entry : Entry) → AreTooMany pairs entries → AreTooMany pairs (entries ++ entry ∷ [])
too-many-more pairs entries entry h = (let all = room-append entries (entry ∷ []) in omega (arith, h, all))

-- all of them are written, and the entry is one too many
pub too-many-behind : (user : List ℕ) (sequences : List ℕ) (pairs new : List Pair) (kept : List InternalEntry) (pair : Pair) (entry : InternalEntry) → ArePairs pairs kept
    → ArePairs new (kept ++ map (kept_delete user) sequences) → IsPair pair entry → IsWellKept entry → AreTooMany (new ++ pair ∷ []) [] → AreTooMany pairs (map (delete_of user) sequences ++ entry_of entry ∷ [])
too-many-behind user sequences pairs new kept pair entry are more is well h =
    let all = load-kept pairs kept are in
    let some = load-kept new (kept ++ map (kept_delete user) sequences) more ∙ kept-append kept (map (kept_delete user) sequences) in
    let front = deletes-room user sequences in
    let one = too-many-pair new pair entry is well h in
    let parts = room-append (map (delete_of user) sequences) (entry_of entry ∷ []) in
    omega (arith, one, all, some, front, parts)

-- ---- what is kept well

-- the entry with the value that it is written with
abbrev pub rewritten : InternalEntry → InternalEntry
rewritten entry = record { key = entry.key; value = value_kept (value_of entry.key.kind entry.value) }

pub well-rewritten : (entry : InternalEntry) → IsWellKept (rewritten entry)
well-rewritten entry = by entry.key.kind entry.value
  where
    by : (kind : Kind) (value : List ℕ) → value_kept (value_of kind value) ≡ value_kept (value_of kind (value_kept (value_of kind value)))
    by Delete value = refl
    by Put value = refl

pub same-rewritten : (entry : InternalEntry) → entry_of (rewritten entry) ≡ entry_of entry
same-rewritten entry = λ i. record { key = entry.key.user; sequence = entry.key.sequence; value = by entry.key.kind entry.value i }
  where
    by : (kind : Kind) (value : List ℕ) → value_of kind (value_kept (value_of kind value)) ≡ value_of kind value
    by Delete value = refl
    by Put value = refl

pub is-rewritten : (key written value : List ℕ) (entry : InternalEntry) (kind : Kind) → IsKey key entry.key → entry.key.kind ≡ kind → value ≡ entry.value → written ≡ value_kept (value_of kind value)
    → IsPair (record { key = key; value = written }) (rewritten entry)
is-rewritten key written value entry kind is same held e = record { key = is; value = e ∙ (λ i. value_kept (value_of (sym same i) (held i))) }

pub well-append : (xs ys : List InternalEntry) → AllByRecursion IsWellKept xs → AllByRecursion IsWellKept ys → AllByRecursion IsWellKept (xs ++ ys)
well-append [] ys h k = k
well-append (x ∷ xs) ys h k = (h.0, well-append xs ys h.1 k)

pub well-deletes : (user : List ℕ) (sequences : List ℕ) → AllByRecursion IsWellKept (map (kept_delete user) sequences)
well-deletes user [] = tt
well-deletes user (s ∷ sequences) = (refl, well-deletes user sequences)

-- ---- all that came, and what is left

-- What is written for an entry is needed of what came, and so is all that was kept before: they are
-- many only where those are.
pub large-chosen : (deep : List ℕ → Bool) (e : Choosing) (user released : List ℕ) (choice : Choice) (cmp : List ℕ → List ℕ → Ordering) (pairs : List Pair) (came rest kept : List InternalEntry) (entry : InternalEntry)
    → choice ≡ Write → entry.key.user ≡ user → released ≡ e.released → ArePairs pairs kept → AllByRecursion IsWellKept kept
    → Chooses cmp deep e (map entry_of came ++ entry_of entry ∷ []) (map entry_of kept ++ written_for choice e.released (entry_of entry))
    → AreTooMany pairs (map (delete_of user) released ++ entry_of (rewritten entry) ∷ []) → AreLarge (map entry_of (came ++ entry ∷ rest))
large-chosen deep e user released choice cmp pairs came rest kept entry is same taken are well chooses h =
    let out = written_for choice e.released (entry_of entry) in
    let said : map (delete_of user) released ++ entry_of (rewritten entry) ∷ [] ≡ out =
    (λ i. map (delete_of (sym same i)) (taken i) ++ same-rewritten entry i ∷ []) ∙ ap (λ x. written_for x e.released (entry_of entry)) (sym is) in
    let all = load-kept pairs kept are in
    let held = kept-room kept well in
    let part = room-part (IsNeeded (map entry_of came ++ entry_of entry ∷ []) e.snapshots deep) (map entry_of came ++ entry_of entry ∷ []) (map entry_of kept ++ out) chooses.chosen_is.needed in
    let parts = room-append (map entry_of kept) out in
    let written = ap room_of said in
    let front = room-append (map entry_of came) (entry_of entry ∷ []) in
    let whole = ap room_of (map-append entry_of came (entry ∷ rest)) in
    let back = room-append (map entry_of came) (map entry_of (entry ∷ rest)) in
    omega (arith, h, all, held, part, parts, written, front, whole, back)

pub large-merged : (deep : List ℕ → Bool) (c : Choosing) (cmp : List ℕ → List ℕ → Ordering) (pairs : List Pair) (kept came : List InternalEntry) → ArePairs pairs kept → AllByRecursion IsWellKept kept
    → Chooses cmp deep c (map entry_of came) (map entry_of kept) → AreTooMany pairs [] → AreLarge (map entry_of came)
large-merged deep c cmp pairs kept came are well chooses h =
    let most = load-part (IsNeeded (map entry_of came) c.snapshots deep) pairs kept came are well chooses.chosen_is.needed in
    omega (arith, h, most)
