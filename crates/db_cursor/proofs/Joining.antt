-- The entries of merged lists, and what a reader sees of them.
use Rattle.std.proofs.Common.{◌≡◌, ◌<◌, ◌≤◌, ℕ, zero, suc, Bool, true, false, cond, Option, Some, None, List, [], ◌∷◌, map, refl, sym, ap, ◌∙◌, subst, inl, inr, arith}
use Rattle.std.specs.Prelude.{nat_le, slice_get}
use Rattle.std.specs.List.{AllByRecursion}
use Rattle.std.proofs.lemmas.Bool.{cases_lt}
use Rattle.std.proofs.lemmas.Bool.Decides.{nat_tests}
use Rattle.cursor.specs.Merging.{IsUnion}
use Rattle.cursor.specs.Places.{Cmp}
use Rattle.cursor.specs.Sharing.{ShareNoKey}
use Rattle.ikey.specs.declared.entry.Entry.{Entry}
use Rattle.ikey.specs.Entries.{InternalEntry, entry_of, internal_entry_of, kind_of, value_kept, value_of}
use Rattle.ikey.specs.Keys.{Key}
use Rattle.ikey.specs.Sources.{AreSearched, joined}
use Rattle.ikey.specs.Views.{Among, Contents, IsView}
use Rattle.ikey.proofs.SearchedSources as sources
use Rattle.memtable.specs.Order.{Placed, ordered}
use Rattle.memtable.specs.Places.{up_to}
use Rattle.memtable.proofs.Orders.{all-map, all-among, among-all, all-ordered, ordered-all}
use Rattle.table_access.specs.Memory.{entry_listed, seen_entries}

-- kept entries as entries
abbrev pub entries_of : List InternalEntry → List Entry
entries_of list = map entry_of list

abbrev pub all_entries : List (List InternalEntry) → List (List Entry)
all_entries lists = map entries_of lists

-- ---- lists

pub among_entries : (list : List InternalEntry) (entry : InternalEntry) → Among list entry → Among (entries_of list) (entry_of entry)
among_entries [] entry m = absurd m
among_entries (x ∷ list) entry (inl is) = inl (ap entry_of is)
among_entries (x ∷ list) entry (inr m) = inr (among_entries list entry m)

from_entries : (list : List InternalEntry) (e : Entry) → Among (entries_of list) e → (entry : InternalEntry) × Among list entry × (e ≡ entry_of entry)
from_entries [] e m = absurd m
from_entries (x ∷ list) e (inl is) = (x, inl refl, is)
from_entries (x ∷ list) e (inr m) = let rest = from_entries list e m in (rest.0, inr rest.1, rest.2)

among_joined : (lists : List (List InternalEntry)) (i : ℕ) (list : List InternalEntry) (e : Entry) → slice_get lists i ≡ Some list → Among (entries_of list) e → Among (joined (all_entries lists)) e
among_joined [] i list e is m = absurd (cc)
among_joined (x ∷ lists) zero list e is m =
    let same : x ≡ list = cc in
    sources.among_front (entries_of x) (joined (all_entries lists)) e (subst (λ (l : List InternalEntry). Among (entries_of l) e) (sym same) m)
among_joined (x ∷ lists) (suc i) list e is m = sources.among_back (entries_of x) (joined (all_entries lists)) e (among_joined lists i list e is m)

from_joined : (lists : List (List InternalEntry)) (e : Entry) → Among (joined (all_entries lists)) e → (i : ℕ) × (list : List InternalEntry) × (slice_get lists i ≡ Some list) × Among (entries_of list) e
from_joined [] e m = absurd m
from_joined (x ∷ lists) e m = elim (sources.among_split (entries_of x) (joined (all_entries lists)) e m) [
  | inl here ↦ (0, x, refl, here)
  | inr later ↦ let rest = from_joined lists e later in (suc rest.0, rest.1, rest.2, rest.3)
]

-- of lists that are searched one after the other no two share an internal key
pub share_none : (lists : List (List InternalEntry)) → AreSearched (all_entries lists) → ShareNoKey lists
share_none [] s i j list other entry twin li lj al at key = absurd (cc)
share_none (x ∷ lists) s zero zero list other entry twin li lj al at key = refl
share_none (x ∷ lists) s zero (suc j) list other entry twin li lj al at key =
    let same : x ≡ list = cc in
    let front = among_entries x entry (subst (λ (l : List InternalEntry). Among l entry) (sym same) al) in
    let back = among_joined lists j other (entry_of twin) lj (among_entries other twin at) in
    let newer = s.0 (entry_of entry) (entry_of twin) front back (ap (λ (k : Key). k.user) key) in
    let level : entry.key.sequence ≡ twin.key.sequence = ap (λ (k : Key). k.sequence) key in
    absurd (omega (arith, newer, level))
share_none (x ∷ lists) s (suc i) zero list other entry twin li lj al at key =
    let same : x ≡ other = cc in
    let front = among_entries x twin (subst (λ (l : List InternalEntry). Among l twin) (sym same) at) in
    let back = among_joined lists i list (entry_of entry) li (among_entries list entry al) in
    let newer = s.0 (entry_of twin) (entry_of entry) front back (ap (λ (k : Key). k.user) (sym key)) in
    let level : entry.key.sequence ≡ twin.key.sequence = ap (λ (k : Key). k.sequence) key in
    absurd (omega (arith, newer, level))
share_none (x ∷ lists) s (suc i) (suc j) list other entry twin li lj al at key = ap suc (share_none lists s.1 i j list other entry twin li lj al at key)

module _ (cmp : Cmp) (lists : List (List InternalEntry)) (union : List InternalEntry) (is : IsUnion cmp lists union) where
  pub union_has : (e : Entry) → Among (joined (all_entries lists)) e → Among (entries_of union) e
  union_has e m =
      let at = from_joined lists e m in
      let entry = from_entries at.1 e at.3 in
      subst (Among (entries_of union)) (sym entry.2) (among_entries union entry.0 (is.covers at.0 at.1 entry.0 at.2 entry.1))

  pub union_from : (e : Entry) → Among (entries_of union) e → Among (joined (all_entries lists)) e
  union_from e m =
      let entry = from_entries union e m in
      let at = is.found entry.0 entry.1 in
      subst (Among (joined (all_entries lists))) (sym entry.2) (among_joined lists at.0 at.1 (entry_of entry.0) at.2 (among_entries at.1 entry.0 at.3))

-- ---- what is seen of a memtable

value_again : (value : Option (List ℕ)) → value_of (kind_of value) (value_kept value) ≡ value
value_again None = refl
value_again (Some value) = refl

entry_again : (entry : Entry) → entry_of (internal_entry_of entry) ≡ entry
entry_again entry = λ i. record { key = entry.key; sequence = entry.sequence; value = value_again entry.value i }

abbrev IsListed : List Placed → Entry → Type 0
IsListed placed entry = Among (entries_of (map entry_listed placed)) entry

from_listed : (P : Entry → Type 0) (placed : List Placed) (entry : Entry) → AllByRecursion (λ (one : Placed). P one.entry) placed → IsListed placed entry → P entry
from_listed P [] entry h m = absurd m
from_listed P (one ∷ placed) entry h (inl e) = subst P (sym (e ∙ entry_again one.entry)) h.0
from_listed P (one ∷ placed) entry h (inr m) = from_listed P placed entry h.1 m

passed_over : (sequence : ℕ) (one : Placed) (later : List Placed) → sequence < one.entry.sequence → up_to sequence (one ∷ later) ≡ up_to sequence later
passed_over sequence one later h = let above : nat_le one.entry.sequence sequence ≡ false = grind (arith, nat_tests, h) in ap (λ (b : Bool). cond b (one ∷ up_to sequence later) (up_to sequence later)) above

taken : (sequence : ℕ) (one : Placed) (later : List Placed) → one.entry.sequence ≤ sequence → up_to sequence (one ∷ later) ≡ one ∷ up_to sequence later
taken sequence one later h = let within : nat_le one.entry.sequence sequence ≡ true = grind (arith, nat_tests, h) in ap (λ (b : Bool). cond b (one ∷ up_to sequence later) (up_to sequence later)) within

listed_seen : (sequence : ℕ) (placed : List Placed) (entry : Entry) → IsListed (up_to sequence placed) entry → IsListed placed entry
listed_seen sequence [] entry m = m
listed_seen sequence (one ∷ later) entry m = elim (cases_lt sequence one.entry.sequence) [
  | inl unseen ↦ inr (listed_seen sequence later entry (subst (λ (v : List Placed). IsListed v entry) (passed_over sequence one later unseen) m))
  | inr seen ↦ elim (subst (λ (v : List Placed). IsListed v entry) (taken sequence one later seen) m) [
    | inl e ↦ inl e
    | inr n ↦ inr (listed_seen sequence later entry n)
  ]
]

seen_listed : (sequence : ℕ) (placed : List Placed) → AllByRecursion (λ (one : Placed). one.entry.sequence ≤ sequence → IsListed (up_to sequence placed) one.entry) placed
seen_listed sequence [] = tt
seen_listed sequence (one ∷ later) = elim (cases_lt sequence one.entry.sequence) [
  | inl unseen ↦ (
    λ le. absurd (omega (arith, le, unseen)),
    subst (λ (v : List Placed). AllByRecursion (λ (other : Placed). other.entry.sequence ≤ sequence → IsListed v other.entry) later) (sym (passed_over sequence one later unseen)) (seen_listed sequence later),
  )
  | inr seen ↦
      subst (λ (v : List Placed). AllByRecursion (λ (other : Placed). other.entry.sequence ≤ sequence → IsListed v other.entry) (one ∷ later)) (sym (taken sequence one later seen)) (
        λ _. inl (sym (entry_again one.entry)),
        all-map (λ (other : Placed). other.entry.sequence ≤ sequence → IsListed (up_to sequence later) other.entry) (λ (other : Placed). other.entry.sequence ≤ sequence → IsListed (one ∷ up_to sequence later) other.entry) later
            (λ other f le. inr (f le)) (seen_listed sequence later),
      )
]

pub seen_from : (cmp : Cmp) (inserts : List Entry) (sequence : ℕ) (e : Entry) → Among (entries_of (seen_entries cmp inserts sequence)) e → Among inserts e
seen_from cmp inserts sequence e m =
    from_listed (Among inserts) (ordered cmp inserts) e (all-ordered cmp (Among inserts) inserts (all-among (Among inserts) inserts (λ e n. n))) (listed_seen sequence (ordered cmp inserts) e m)

pub seen_has : (cmp : Cmp) (inserts : List Entry) (sequence : ℕ) (e : Entry) → e.sequence ≤ sequence → Among inserts e → Among (entries_of (seen_entries cmp inserts sequence)) e
seen_has cmp inserts sequence e le m =
    among-all (λ (e : Entry). e.sequence ≤ sequence → IsListed (up_to sequence (ordered cmp inserts)) e) inserts e
    (ordered-all cmp (λ (e : Entry). e.sequence ≤ sequence → IsListed (up_to sequence (ordered cmp inserts)) e) inserts (seen_listed sequence (ordered cmp inserts))) m le

-- ---- views

-- the same entries up to a sequence number have the same view there
pub view_up_to : (xs ys : List Entry) (sequence : ℕ) (view : Contents) → ((e : Entry) → e.sequence ≤ sequence → Among xs e → Among ys e) → ((e : Entry) → e.sequence ≤ sequence → Among ys e → Among xs e)
    → IsView xs sequence view → IsView ys sequence view
view_up_to xs ys sequence view there back h = record {
  found = λ entry n. h.found entry (record { member = back entry n.seen n.member; seen = n.seen; greatest = λ other m same le. n.greatest other (there other le m) same le });
  missing = λ key unseen. h.missing key (λ entry m same. elim (cases_lt sequence entry.sequence) [ inl l ↦ l | inr le ↦ unseen entry (there entry le m) same ]);
}
