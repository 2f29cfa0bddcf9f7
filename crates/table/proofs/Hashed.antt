-- The hashes of a table's filters.
use Rattle.std.proofs.Common.{◌≡◌, ◌≢◌, ◌<◌, ◌+◌, ◌-◌, inl, inr, ℕ, zero, suc, List, [], ◌∷◌, ◌++◌, Some, length, get_or, replicate, refl, sym, ap, ◌∙◌, subst, arith}
use Rattle.std.proofs.lemmas.Bool.{cases_eq}
use Rattle.std.proofs.lemmas.List.{length-append, length-replicate, get_or-set_same, get_or-set_other, get_or_append_left}
use Rattle.std.proofs.Math.Seq.{get_or-append_seam}
use Rattle.filter.specs.Blocks.{filter_index, BlockAdmits}
use Rattle.filter.specs.Builder.{with_empty, with_hash, HasFilters}
use Rattle.filter.specs.Hash.{hash_of}
use Rattle.std.specs.List.{AllByRecursion}
use Rattle.ikey.specs.Below.{same_key}
use Rattle.ikey.specs.Entries.{Pair}
use Rattle.ikey.specs.Keys.{Key, IsKey}
use Rattle.table.specs.declared.handle.Place.{Place}
use Rattle.table.specs.Building.{AddsHashes, AddsAllHashes}
use Rattle.table.specs.Table.{AdmitsAll, AreAdmitted}

none_at : (n i : ℕ) → get_or {A = List ℕ} (replicate n []) i [] ≡ []
none_at zero i = refl
none_at (suc n) zero = refl
none_at (suc n) (suc i) = none_at n i

empty_at : (groups : List (List ℕ)) (n i : ℕ) → get_or (groups ++ replicate n []) i [] ≡ get_or groups i []
empty_at [] n i = none_at n i
empty_at (group ∷ groups) n zero = refl
empty_at (group ∷ groups) n (suc i) = empty_at groups n i

with_at_same : (groups : List (List ℕ)) (i h : ℕ) → get_or (with_hash groups i h) i [] ≡ get_or groups i [] ++ h ∷ []
with_at_same groups i h =
    let within : i < length (with_empty groups i) = omega (arith, length-append groups (replicate {A = List ℕ} (i + 1 - length groups) []), length-replicate {A = List ℕ} (i + 1 - length groups) []) in
    get_or-set_same (with_empty groups i) i (get_or (with_empty groups i) i [] ++ h ∷ []) [] within ∙ ap (λ (v : List ℕ). v ++ h ∷ []) (empty_at groups (i + 1 - length groups) i)

with_at_other : (groups : List (List ℕ)) (i j h : ℕ) → j ≢ i → get_or (with_hash groups i h) j [] ≡ get_or groups j []
with_at_other groups i j h other =
    get_or-set_other (with_empty groups i) i j (get_or (with_empty groups i) i [] ++ h ∷ []) [] other ∙ empty_at groups (i + 1 - length groups) j

-- the hash is among these
abbrev Among : List ℕ → ℕ → Type 0
Among group h = (k : ℕ) × (k < length group) × (h ≡ get_or group k 0)

among_more : (group : List ℕ) (h new : ℕ) → Among group h → Among (group ++ new ∷ []) h
among_more group h new a = (a.0, omega (arith, a.1, length-append group (new ∷ [])), a.2 ∙ sym (get_or_append_left group (new ∷ []) 0 a.0 a.1))

among_new : (group : List ℕ) (h : ℕ) → Among (group ++ h ∷ []) h
among_new group h = (length group, omega (arith, length-append group (h ∷ [])), sym (get_or-append_seam group h [] 0))

-- the hash is among those of the filter that covers this offset
abbrev IsHashed : List (List ℕ) → ℕ → ℕ → Type 0
IsHashed hashes offset h = Among (get_or hashes (filter_index offset) []) h

-- and that of each of these pairs' user keys is too
abbrev AreHashed : List (List ℕ) → ℕ → List Pair → Type 0
AreHashed hashes offset pairs = AllByRecursion (λ (pair : Pair). (key : Key) → IsKey pair.key key → IsHashed hashes offset (hash_of key.user)) pairs

abbrev AreAllHashed : List (List ℕ) → List Place → List (List Pair) → Type 0
AreAllHashed hashes [] blocks = Unit {0}
AreAllHashed hashes (place ∷ places) [] = Unit {0}
AreAllHashed hashes (place ∷ places) (pairs ∷ others) = AreHashed hashes place.handle.offset pairs × AreAllHashed hashes places others

hashed_more : (groups : List (List ℕ)) (i new offset h : ℕ) → IsHashed groups offset h → IsHashed (with_hash groups i new) offset h
hashed_more groups i new offset h a =
    elim (cases_eq (filter_index offset) i) [
      | inl same ↦ subst (λ (j : ℕ). Among (get_or (with_hash groups i new) j []) h) (sym same)
          (subst (λ (g : List ℕ). Among g h) (sym (with_at_same groups i new)) (among_more (get_or groups i []) h new (subst (λ (j : ℕ). Among (get_or groups j []) h) same a)))
      | inr other ↦ subst (λ (g : List ℕ). Among g h) (sym (with_at_other groups i (filter_index offset) new other)) a
    ]

hashed_new : (groups : List (List ℕ)) (offset h : ℕ) → IsHashed (with_hash groups (filter_index offset) h) offset h
hashed_new groups offset h = subst (λ (g : List ℕ). Among g h) (sym (with_at_same groups (filter_index offset) h)) (among_new (get_or groups (filter_index offset) []) h)

-- what was hashed stays so
adds_keep : (old new : List (List ℕ)) (at offset h : ℕ) (pairs : List Pair) → AddsHashes old at pairs new → IsHashed old offset h → IsHashed new offset h
adds_keep old new at offset h [] e a = subst (λ (g : List (List ℕ)). IsHashed g offset h) (sym e) a
adds_keep old new at offset h (pair ∷ pairs) e a =
    adds_keep (with_hash old (filter_index at) (hash_of e.0.user)) new at offset h pairs e.2 (hashed_more old (filter_index at) (hash_of e.0.user) offset h a)

all_keep : (old new : List (List ℕ)) (offset h : ℕ) (places : List Place) (blocks : List (List Pair)) → AddsAllHashes old places blocks new → IsHashed old offset h → IsHashed new offset h
all_keep old new offset h [] [] e a = subst (λ (g : List (List ℕ)). IsHashed g offset h) (sym e) a
all_keep old new offset h [] (pairs ∷ blocks) e a = absurd e
all_keep old new offset h (place ∷ places) [] e a = absurd e
all_keep old new offset h (place ∷ places) (pairs ∷ blocks) e a = all_keep e.0 new offset h places blocks e.2 (adds_keep old e.0 place.handle.offset offset h pairs e.1 a)

-- what was added is hashed
adds_hash : (old new : List (List ℕ)) (offset : ℕ) (pairs : List Pair) → AddsHashes old offset pairs new → AreHashed new offset pairs
adds_hash old new offset [] e = tt
adds_hash old new offset (pair ∷ pairs) e =
    let more = with_hash old (filter_index offset) (hash_of e.0.user) in
    let here : IsHashed new offset (hash_of e.0.user) = adds_keep more new offset offset (hash_of e.0.user) pairs e.2 (hashed_new old offset (hash_of e.0.user)) in
    ((λ key is. subst (λ (k : Key). IsHashed new offset (hash_of k.user)) (same_key pair.key e.0 key e.1 is) here), adds_hash more new offset pairs e.2)

stay_hashed : (old new : List (List ℕ)) (offset : ℕ) (pairs : List Pair) → ((h : ℕ) → IsHashed old offset h → IsHashed new offset h) → AreHashed old offset pairs → AreHashed new offset pairs
stay_hashed old new offset [] f a = tt
stay_hashed old new offset (pair ∷ pairs) f a = ((λ key is. f (hash_of key.user) (a.0 key is)), stay_hashed old new offset pairs f a.1)

pub all_hashed : (old new : List (List ℕ)) (places : List Place) (blocks : List (List Pair)) → AddsAllHashes old places blocks new → AreAllHashed new places blocks
all_hashed old new [] blocks e = tt
all_hashed old new (place ∷ places) [] e = tt
all_hashed old new (place ∷ places) (pairs ∷ blocks) e =
    let offset = place.handle.offset in
    (stay_hashed e.0 new offset pairs (λ h a. all_keep e.0 new offset h places blocks e.2 a) (adds_hash old e.0 offset pairs e.1), all_hashed e.0 new places blocks e.2)

-- a pair whose user key goes into the filter
pub adds_push : (old new : List (List ℕ)) (offset : ℕ) (pairs : List Pair) (pair : Pair) (key : Key) → IsKey pair.key key → AddsHashes old offset pairs new
    → AddsHashes old offset (pairs ++ pair ∷ []) (with_hash new (filter_index offset) (hash_of key.user))
adds_push old new offset [] pair key is e = (key, is, ap (λ (g : List (List ℕ)). with_hash g (filter_index offset) (hash_of key.user)) e)
adds_push old new offset (other ∷ pairs) pair key is e =
    (e.0, e.1, adds_push (with_hash old (filter_index offset) (hash_of e.0.user)) new offset pairs pair key is e.2)

-- a block that is ended
pub all_pushed : (old hashes new : List (List ℕ)) (places : List Place) (blocks : List (List Pair)) (place : Place) (pairs : List Pair) → AddsAllHashes old places blocks hashes
    → AddsHashes hashes place.handle.offset pairs new → AddsAllHashes old (places ++ place ∷ []) (blocks ++ pairs ∷ []) new
all_pushed old hashes new [] [] place pairs e f = (new, subst (λ (g : List (List ℕ)). AddsHashes g place.handle.offset pairs new) e f, refl)
all_pushed old hashes new [] (other ∷ blocks) place pairs e f = absurd e
all_pushed old hashes new (other ∷ places) [] place pairs e f = absurd e
all_pushed old hashes new (other ∷ places) (others ∷ blocks) place pairs e f = (e.0, e.1, all_pushed e.0 hashes new places blocks place pairs e.2 f)

-- ---- what the filter block admits

-- what `filter` says of its blocks
abbrev pub AddedLaw : Type 0
AddedLaw = (groups : List (List ℕ)) (bytes : List ℕ) (offset k : ℕ) → HasFilters groups bytes → k < length (get_or groups (filter_index offset) [])
    → BlockAdmits bytes offset (get_or (get_or groups (filter_index offset) []) k 0)

admitted : AddedLaw → (groups : List (List ℕ)) (bytes : List ℕ) (offset h : ℕ) → HasFilters groups bytes → IsHashed groups offset h → BlockAdmits bytes offset h
admitted law groups bytes offset h filters a = subst (BlockAdmits bytes offset) (sym a.2) (law groups bytes offset a.0 filters a.1)

are_admitted : AddedLaw → (groups : List (List ℕ)) (bytes : List ℕ) (offset : ℕ) (pairs : List Pair) → HasFilters groups bytes → AreHashed groups offset pairs → AdmitsAll bytes offset pairs
are_admitted law groups bytes offset [] filters h = tt
are_admitted law groups bytes offset (pair ∷ pairs) filters h = (λ key is. admitted law groups bytes offset (hash_of key.user) filters (h.0 key is), are_admitted law groups bytes offset pairs filters h.1)

pub all_admitted : AddedLaw → (groups : List (List ℕ)) (bytes : List ℕ) (places : List Place) (blocks : List (List Pair)) → HasFilters groups bytes → AreAllHashed groups places blocks → AreAdmitted (Some bytes) places blocks
all_admitted law groups bytes [] blocks filters h = tt
all_admitted law groups bytes (place ∷ places) [] filters h = tt
all_admitted law groups bytes (place ∷ places) (pairs ∷ blocks) filters h = (are_admitted law groups bytes place.handle.offset pairs filters h.0, all_admitted law groups bytes places blocks filters h.1)
