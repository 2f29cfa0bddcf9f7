-- What readers see of a memtable, and when two are the same.
use Rattle.std.proofs.Common.{◌≡◌, ◌+◌, ◌-◌, ◌<◌, ◌≤◌, ℕ, zero, suc, List, [], ◌∷◌, ◌++◌, Option, Some, None, length, map, refl, sym, ap, subst, ◌∙◌, arith, inl, inr}
use Rattle.std.specs.List.{AllByRecursion, slice_get}
use Rattle.std.proofs.lemmas.Bool.{cases_lt, cond_both}
use Rattle.std.specs.Prelude.{nat_le}
use Rattle.std.specs.declared.cmp.Ordering.TheVariants.{Less}
use Rattle.ikey.specs.declared.entry.Entry.{Entry}
use Rattle.ikey.specs.Entries.{InternalEntry, entry_of, internal_entry_of, internal_key_of, value_of, kind_of, value_kept}
use Rattle.ikey.specs.Keys.{key_cmp}
use Rattle.ikey.specs.Views.{Among, Contents, IsView}
use Rattle.memtable.specs.Order.{Placed, ordered, RisesInternally}
use Rattle.memtable.specs.Places.{up_to}
use Rattle.memtable.proofs.Orders.{all-map, all-among, among-all, all-ordered, ordered-all, length-ordered, stands-somewhere, stands-insert}
use Rattle.memtable.proofs.Views.{later-unseen}
use Rattle.cursor.specs.Places.{Cmp, Rises}
use Rattle.table_access.specs.Memory.{entry_listed, seen_entries}
use Rattle.table_access.proofs.Seen.{up_to_seen, up_to_unseen}

-- ---- the list rises

all_listed : (sequence : ℕ) (P : InternalEntry → Type 0) (placed : List Placed) → AllByRecursion (λ (one : Placed). P (entry_listed one)) placed → AllByRecursion P (map entry_listed (up_to sequence placed))
all_listed sequence P [] h = tt
all_listed sequence P (one ∷ later) h =
    cond_both (nat_le one.entry.sequence sequence) (one ∷ up_to sequence later) (up_to sequence later) (λ (v : List Placed). AllByRecursion P (map entry_listed v))
    (λ _. (h.0, all_listed sequence P later h.1)) (λ _. all_listed sequence P later h.1)

pub seen_rises : (cmp : Cmp) (sequence : ℕ) (placed : List Placed) → RisesInternally cmp placed → Rises cmp (map entry_listed (up_to sequence placed))
seen_rises cmp sequence [] h = tt
seen_rises cmp sequence (one ∷ later) h =
    cond_both (nat_le one.entry.sequence sequence) (one ∷ up_to sequence later) (up_to sequence later) (λ (v : List Placed). Rises cmp (map entry_listed v))
    (λ _. (all_listed sequence (λ (entry : InternalEntry). key_cmp cmp (internal_key_of one.entry) entry.key ≡ Less) later h.0, seen_rises cmp sequence later h.1))
    (λ _. seen_rises cmp sequence later h.1)

-- ---- the view

value_again : (value : Option (List ℕ)) → value_of (kind_of value) (value_kept value) ≡ value
value_again None = refl
value_again (Some value) = refl

entry_again : (entry : Entry) → entry_of (internal_entry_of entry) ≡ entry
entry_again entry = λ i. record { key = entry.key; sequence = entry.sequence; value = value_again entry.value i }

-- the entries that are listed are the inserts that are seen
abbrev IsListed : List Placed → Entry → Type 0
IsListed placed entry = Among (map entry_of (map entry_listed placed)) entry

from_listed : (P : Entry → Type 0) (placed : List Placed) (entry : Entry) → AllByRecursion (λ (one : Placed). P one.entry) placed → IsListed placed entry → P entry
from_listed P [] entry h m = absurd m
from_listed P (one ∷ placed) entry h (inl e) = subst P (sym (e ∙ entry_again one.entry)) h.0
from_listed P (one ∷ placed) entry h (inr m) = from_listed P placed entry h.1 m

listed_seen : (sequence : ℕ) (placed : List Placed) (entry : Entry) → IsListed (up_to sequence placed) entry → IsListed placed entry
listed_seen sequence [] entry m = m
listed_seen sequence (one ∷ later) entry m = elim (cases_lt sequence one.entry.sequence) [
  | inl unseen ↦ inr (listed_seen sequence later entry (subst (λ (v : List Placed). IsListed v entry) (up_to_unseen sequence one later unseen) m))
  | inr seen ↦ elim (subst (λ (v : List Placed). IsListed v entry) (up_to_seen sequence one later seen) m) [
    | inl e ↦ inl e
    | inr n ↦ inr (listed_seen sequence later entry n)
  ]
]

seen_listed : (sequence : ℕ) (placed : List Placed) → AllByRecursion (λ (one : Placed). one.entry.sequence ≤ sequence → IsListed (up_to sequence placed) one.entry) placed
seen_listed sequence [] = tt
seen_listed sequence (one ∷ later) = elim (cases_lt sequence one.entry.sequence) [
  | inl unseen ↦ (
    λ le. absurd (omega (arith, le, unseen)),
    subst (λ (v : List Placed). AllByRecursion (λ (other : Placed). other.entry.sequence ≤ sequence → IsListed v other.entry) later) (sym (up_to_unseen sequence one later unseen)) (seen_listed sequence later),
  )
  | inr seen ↦
      subst (λ (v : List Placed). AllByRecursion (λ (other : Placed). other.entry.sequence ≤ sequence → IsListed v other.entry) (one ∷ later)) (sym (up_to_seen sequence one later seen)) (
        λ _. inl (sym (entry_again one.entry)),
        all-map (λ (other : Placed). other.entry.sequence ≤ sequence → IsListed (up_to sequence later) other.entry) (λ (other : Placed). other.entry.sequence ≤ sequence → IsListed (one ∷ up_to sequence later) other.entry) later
            (λ other f le. inr (f le)) (seen_listed sequence later),
      )
]

-- a part with all entries up to the sequence number has the same view
view_of_part : (inserts part : List Entry) (sequence : ℕ) (view : Contents) → ((entry : Entry) → Among part entry → Among inserts entry)
    → ((entry : Entry) → Among inserts entry → entry.sequence ≤ sequence → Among part entry) → IsView inserts sequence view → IsView part sequence view
view_of_part inserts part sequence view within has h = record {
  found = λ entry n. h.found entry (record { member = within entry n.member; seen = n.seen; greatest = λ other m same le. n.greatest other (has other m le) same le });
  missing = λ key unseen. h.missing key (λ entry m same. elim (cases_lt sequence entry.sequence) [ inl l ↦ l | inr le ↦ unseen entry (has entry m le) same ]);
}

pub view_of_seen : (cmp : Cmp) (inserts : List Entry) (sequence : ℕ) (view : Contents) → IsView inserts sequence view → IsView (map entry_of (seen_entries cmp inserts sequence)) sequence view
view_of_seen cmp inserts sequence view = view_of_part inserts (map entry_of (seen_entries cmp inserts sequence)) sequence view
    (λ entry m. from_listed (Among inserts) (ordered cmp inserts) entry (all-ordered cmp (Among inserts) inserts (all-among (Among inserts) inserts (λ e n. n))) (listed_seen sequence (ordered cmp inserts) entry m))
    (λ entry m le. among-all (λ (e : Entry). e.sequence ≤ sequence → IsListed (up_to sequence (ordered cmp inserts)) e) inserts entry
    (ordered-all cmp (λ (e : Entry). e.sequence ≤ sequence → IsListed (up_to sequence (ordered cmp inserts)) e) inserts (seen_listed sequence (ordered cmp inserts))) m le)

-- ---- the same entries up to each sequence number

pub later_kept : (cmp : Cmp) (at sequence : ℕ) (old new more : List Entry) → at ≤ sequence → AllByRecursion (λ (entry : Entry). sequence < entry.sequence) more → new ≡ old ++ more
    → up_to at (ordered cmp old) ≡ up_to at (ordered cmp new)
later_kept cmp at sequence old new more le all is =
    sym (later-unseen cmp at old more (all-map (λ (entry : Entry). sequence < entry.sequence) (λ (entry : Entry). at < entry.sequence) more (λ entry l. omega (arith, l, le)) all))
    ∙ ap (λ (v : List Entry). up_to at (ordered cmp v)) (sym is)

-- a sequence number that none is above
abbrev bound : List Entry → ℕ
bound [] = 0
bound (entry ∷ entries) = entry.sequence + bound entries

within_bound : (limit : ℕ) (entries : List Entry) → bound entries ≤ limit → AllByRecursion (λ (entry : Entry). entry.sequence ≤ limit) entries
within_bound limit [] h = tt
within_bound limit (entry ∷ entries) h = (omega (arith, h), within_bound limit entries (omega (arith, h)))

all_seen : (sequence : ℕ) (placed : List Placed) → AllByRecursion (λ (one : Placed). one.entry.sequence ≤ sequence) placed → up_to sequence placed ≡ placed
all_seen sequence [] h = refl
all_seen sequence (one ∷ later) h = up_to_seen sequence one later h.0 ∙ ap (λ (v : List Placed). one ∷ v) (all_seen sequence later h.1)

order_seen : (cmp : Cmp) (limit : ℕ) (entries : List Entry) → bound entries ≤ limit → up_to limit (ordered cmp entries) ≡ ordered cmp entries
order_seen cmp limit entries h = all_seen limit (ordered cmp entries) (all-ordered cmp (λ (entry : Entry). entry.sequence ≤ limit) entries (within_bound limit entries h))

same_lists : (xs ys : List Entry) → length xs ≡ length ys → ((k : ℕ) → k < length xs → slice_get xs k ≡ slice_get ys k) → xs ≡ ys
same_lists [] [] long h = refl
same_lists [] (y ∷ ys) long h = absurd (omega (arith, long))
same_lists (x ∷ xs) [] long h = absurd (omega (arith, long))
same_lists (x ∷ xs) (y ∷ ys) long h =
    let first : Some x ≡ Some y = h zero (omega arith) in
    let same : x ≡ y = cc in
    let rest = same_lists xs ys (omega (arith, long)) (λ k less. h (suc k) (omega (arith, less))) in
    (λ i. same i ∷ rest i)

same_order : (cmp : Cmp) (old new : List Entry) → ordered cmp old ≡ ordered cmp new → old ≡ new
same_order cmp old new e =
    let long : length old ≡ length new = sym (length-ordered cmp old) ∙ (ap length e ∙ length-ordered cmp new) in
    same_lists old new long
    (λ k less.
    let s = stands-somewhere cmp old (k + 1) (omega arith) (omega (arith, less)) in
    let back : k + 1 - 1 ≡ k = omega arith in
    let left = (stands-insert cmp old s.0 s.2 (k + 1) s.1 s.3).1 in
    let right = (stands-insert cmp new s.0 s.2 (k + 1) s.1 (sym e ∙ s.3)).1 in
    ap (slice_get old) (sym back) ∙ (left ∙ (sym right ∙ ap (slice_get new) back)))

pub same_inserts : (cmp : Cmp) (old new : List Entry) → ((sequence : ℕ) → up_to sequence (ordered cmp old) ≡ up_to sequence (ordered cmp new)) → old ≡ new
same_inserts cmp old new h =
    let limit = bound old + bound new in
    same_order cmp old new (sym (order_seen cmp limit old (omega arith)) ∙ (h limit ∙ order_seen cmp limit new (omega arith)))
