-- Where a cursor over a memtable arrives.
use Rattle.std.proofs.Common.{◌≡◌, ◌+◌, ◌≤◌, ℕ, suc, true, false, is_some, List, [], ◌∷◌, ◌++◌, Option, Some, None, Result, Ok, Err, length, map, refl, sym, ap, subst, ◌∙◌, arith, length-append, inl, inr}
use Rattle.std.specs.Prelude.{IfSome, IsTrue, OnOk, OnErr}
use Rattle.std.specs.List.{AllByRecursion, slice_get}
use Rattle.std.specs.Option.{option_and_then}
use Rattle.std.proofs.lemmas.List.{length-map, append_assoc}
use Rattle.coding.specs.declared.error.DbError.{DbError}
use Rattle.ikey.specs.declared.entry.Entry.{Entry}
use Rattle.ikey.specs.Entries.{InternalEntry, internal_entry_of, internal_key_of, value_kept}
use Rattle.ikey.specs.Keys.{IsKey}
use Rattle.memtable.specs.Contents.{Contents, entry_at}
use Rattle.memtable.specs.Order.{Placed, ordered, RisesInternally}
use Rattle.memtable.specs.Places.{IsPlace, Stands, first_of, last_of, up_to}
use Rattle.memtable.proofs.Orders.{HasNumber, all-back, all-numbered}
use Rattle.cursor.specs.Merging.{listed}
use Rattle.cursor.specs.Moves.{after_move, place_after}
use Rattle.cursor.specs.Places.{Cmp, Listed, within, index_before, index_behind, to_next, to_prev}
use Rattle.cursor.proofs.Leading.{within_some, within_none}
use Rattle.table_access.specs.Memory.{MemoryPlace, StandsSeen, IsPlacedSeen, ListsSeen, ListsMemory, IsKeyAt, entry_listed, seen_entries}
use Rattle.table_access.proofs.Seen.{up_to_seen, up_to_append, all_up_to, last_is, last_cases, find_seen}
use Rattle.table_access.proofs.Views.{seen_rises}

-- ---- a place among what is seen

module _ (inserts : List Entry) (key : List ℕ) (entries : List InternalEntry) where
  abbrev AreNumbered : List Placed → Type 0
  AreNumbered seen = AllByRecursion (HasNumber inserts) seen

  stands_at : (seen front back : List Placed) (one : Placed) → AreNumbered seen → seen ≡ front ++ one ∷ back → IsKeyAt inserts key one.node → StandsSeen one.node key seen (Some (length front))
  stands_at seen front back one all is h =
      let number = (all-back (HasNumber inserts) front (one ∷ back) (subst AreNumbered is all)).0 in
      record { front = front; entry = one.entry; back = back; seen_is = is; place_is = refl; key_is = h one.entry number.0 }

  -- on the first of the later entries
  pub placed_ahead : (node : Option ℕ) (seen front back : List Placed) → AreNumbered seen → length entries ≡ length seen → seen ≡ front ++ back → node ≡ first_of back → IfSome node (IsKeyAt inserts key)
      → IsPlacedSeen node key seen (within entries (length front))
  placed_ahead None seen front [] all long is e h = within_none entries (length front) (let s : length seen ≡ length front + 0 = ap length is ∙ length-append front [] in omega (arith, long, s))
  placed_ahead None seen front (one ∷ back) all long is e h = absurd cc
  placed_ahead (Some node) seen front [] all long is e h = absurd cc
  placed_ahead (Some node) seen front (one ∷ back) all long is e h =
      let same : one.node ≡ node = sym (let s : node ≡ one.node = cc in s) in
      let s : length seen ≡ length front + suc (length back) = ap length is ∙ length-append front (one ∷ back) in
      let inside = within_some entries (length front) (omega (arith, long, s)) in
      subst (λ (n : ℕ). StandsSeen n key seen (within entries (length front))) same
      (subst (λ (p : Option ℕ). StandsSeen one.node key seen p) (sym inside) (stands_at seen front back one all is (subst (IsKeyAt inserts key) (sym same) h)))

  -- on the last of those in front
  pub placed_behind : (node : Option ℕ) (seen front back : List Placed) → AreNumbered seen → seen ≡ front ++ back → node ≡ last_of front → IfSome node (IsKeyAt inserts key)
      → IsPlacedSeen node key seen (index_before (length front))
  placed_behind node seen front back all is e h = elim (last_cases front) [
    | inl none ↦
        let nowhere : node ≡ None = e ∙ ap last_of none in
        subst (λ (n : Option ℕ). IsPlacedSeen n key seen (index_before (length front))) (sym nowhere) (ap (λ (v : List Placed). index_before (length v)) none)
    | inr x ↦
        let one = x.1 in
        let there : node ≡ Some one.node = e ∙ (ap last_of x.2 ∙ last_is x.0 one) in
        let at : index_before (length front) ≡ Some (length x.0) = ap index_before (ap length x.2 ∙ (length-append x.0 (one ∷ []) ∙ (let n : length x.0 + 1 ≡ suc (length x.0) = omega arith in n))) in
        let whole : seen ≡ x.0 ++ one ∷ back = is ∙ (ap (λ (v : List Placed). v ++ back) x.2 ∙ append_assoc x.0 (one ∷ []) back) in
        subst (λ (n : Option ℕ). IsPlacedSeen n key seen (index_before (length front))) (sym there)
        (subst (λ (p : Option ℕ). StandsSeen one.node key seen p) (sym at) (stands_at seen x.0 back one all whole (subst (λ (n : Option ℕ). IfSome n (IsKeyAt inserts key)) there h)))
  ]

-- ---- moves

module _ (cmp : Cmp) (contents : Contents) (old new : MemoryPlace) (at : Listed) (front back : List Placed) where
  abbrev Split : Type 0
  Split = ordered cmp contents.inserts ≡ front ++ back

  numbered : (sequence : ℕ) → AllByRecursion (HasNumber contents.inserts) (up_to sequence (ordered cmp contents.inserts))
  numbered sequence = all_up_to sequence (HasNumber contents.inserts) (ordered cmp contents.inserts) (all-numbered cmp contents.inserts)

  seen_split : Split → up_to old.sequence (ordered cmp contents.inserts) ≡ up_to old.sequence front ++ up_to old.sequence back
  seen_split is = ap (up_to old.sequence) is ∙ up_to_append old.sequence front back

  lists_at : (place : Option ℕ) → new.sequence ≡ old.sequence → ListsMemory cmp old contents at → IsPlacedSeen new.node new.key (up_to old.sequence (ordered cmp contents.inserts)) place
      → ListsMemory cmp new contents (record at { place = place })
  lists_at place same h placed =
      subst (λ (s : ℕ). ListsSeen cmp new (up_to s (ordered cmp contents.inserts)) (record at { place = place })) (sym same)
      (record { entries = h.entries; rises = h.rises; place = placed })

  -- a move on to the first of the later ones that is seen
  pub moved_ahead : (result : Result (Unit {0}) DbError) (to : Option ℕ) → Split → to ≡ first_of (up_to old.sequence back) → OnOk result (new.node ≡ to) → OnOk result (IfSome to (IsKeyAt contents.inserts new.key))
      → OnErr result (new ≡ old) → new.sequence ≡ old.sequence → ListsMemory cmp old contents at
      → ListsMemory cmp new contents (after_move result (λ at. within at.entries (length (up_to old.sequence front))) at)
  moved_ahead (Ok done) to is from node key stayed same h =
      lists_at (within at.entries (length (up_to old.sequence front))) same h
      (placed_ahead contents.inserts new.key at.entries new.node (up_to old.sequence (ordered cmp contents.inserts)) (up_to old.sequence front) (up_to old.sequence back) (numbered old.sequence)
      (ap length h.entries ∙ length-map (up_to old.sequence (ordered cmp contents.inserts)) entry_listed) (seen_split is) (node ∙ from) (subst (λ (n : Option ℕ). IfSome n (IsKeyAt contents.inserts new.key)) (sym node) key))
  moved_ahead (Err error) to is from node key stayed same h = subst (λ (c : MemoryPlace). ListsMemory cmp c contents at) (sym stayed) h

  -- a move back to the last that is seen of those in front
  pub moved_behind : (result : Result (Unit {0}) DbError) (to : Option ℕ) → Split → to ≡ last_of (up_to old.sequence front) → OnOk result (new.node ≡ to) → OnOk result (IfSome to (IsKeyAt contents.inserts new.key))
      → OnErr result (new ≡ old) → new.sequence ≡ old.sequence → ListsMemory cmp old contents at
      → ListsMemory cmp new contents (after_move result (λ at. index_before (length (up_to old.sequence front))) at)
  moved_behind (Ok done) to is from node key stayed same h =
      lists_at (index_before (length (up_to old.sequence front))) same h
      (placed_behind contents.inserts new.key at.entries new.node (up_to old.sequence (ordered cmp contents.inserts)) (up_to old.sequence front) (up_to old.sequence back) (numbered old.sequence)
      (seen_split is) (node ∙ from) (subst (λ (n : Option ℕ). IfSome n (IsKeyAt contents.inserts new.key)) (sym node) key))
  moved_behind (Err error) to is from node key stayed same h = subst (λ (c : MemoryPlace). ListsMemory cmp c contents at) (sym stayed) h

-- a new cursor
pub begun : (cmp : Cmp) (cursor : MemoryPlace) (contents : Contents) → cursor.node ≡ None → RisesInternally cmp (ordered cmp contents.inserts)
    → ListsMemory cmp cursor contents (listed (seen_entries cmp contents.inserts cursor.sequence) None)
begun cmp cursor contents nowhere h = record {
  entries = refl;
  rises = seen_rises cmp cursor.sequence (ordered cmp contents.inserts) h;
  place = subst (λ (n : Option ℕ). IsPlacedSeen n cursor.key (up_to cursor.sequence (ordered cmp contents.inserts)) None) (sym nowhere) refl;
}

-- ---- the entry at hand

-- the cursor stands at a node of the table, whose entry is listed, with its internal key at hand
pub record StandsOnEntry (cmp : Cmp) (cursor : MemoryPlace) (contents : Contents) (at : Listed) (node : ℕ) : Type 0 where
  pub front : List Placed
  pub entry : Entry
  pub back : List Placed
  pub stands : Stands cmp contents.inserts front node entry back
  pub place : IsPlace contents.inserts node
  pub kept : entry_at contents.inserts node ≡ Some entry
  pub seen : entry.sequence ≤ cursor.sequence
  pub place_is : at.place ≡ Some (length (up_to cursor.sequence front))
  pub entry_is : slice_get at.entries (length (up_to cursor.sequence front)) ≡ Some (internal_entry_of entry)
  pub key_is : IsKey cursor.key (internal_key_of entry)

get_listed : (front back : List Placed) (one : Placed) → slice_get (map entry_listed (front ++ one ∷ back)) (length front) ≡ Some (entry_listed one)
get_listed [] back one = refl
get_listed (first ∷ front) back one = get_listed front back one

pub stands_on : (cmp : Cmp) (cursor : MemoryPlace) (contents : Contents) (at : Listed) (node : ℕ) → cursor.node ≡ Some node → ListsMemory cmp cursor contents at → StandsOnEntry cmp cursor contents at node
stands_on cmp cursor contents at node is h =
    let seen = up_to cursor.sequence (ordered cmp contents.inserts) in
    let s = subst (λ (n : Option ℕ). IsPlacedSeen n cursor.key seen at.place) is h.place in
    let one : Placed = record { node = node; entry = s.entry } in
    let f = find_seen cursor.sequence (ordered cmp contents.inserts) s.front one s.back s.seen_is in
    let number = (all-back (HasNumber contents.inserts) f.before (one ∷ f.behind) (subst (AllByRecursion (HasNumber contents.inserts)) f.placed_is (all-numbered cmp contents.inserts))).0 in
    record {
      front = f.before;
      entry = s.entry;
      back = f.behind;
      stands = f.placed_is;
      place = (number.1, number.2);
      kept = number.0;
      seen = f.seen;
      place_is = s.place_is ∙ ap (λ (v : List Placed). Some (length v)) (sym f.front_is);
      entry_is = ap (slice_get at.entries) (ap length f.front_is) ∙ (ap (λ (v : List InternalEntry). slice_get v (length s.front)) (h.entries ∙ ap (map entry_listed) s.seen_is) ∙ get_listed s.front s.back one);
      key_is = s.key_is;
    }

-- the next place, as so many entries before it
pub next_is : (cmp : Cmp) (cursor : MemoryPlace) (contents : Contents) (at : Listed) (node : ℕ) → (s : StandsOnEntry cmp cursor contents at node)
    → within at.entries (length (up_to cursor.sequence (s.front ++ record { node = node; entry = s.entry } ∷ []))) ≡ to_next at
next_is cmp cursor contents at node s =
    let one : Placed = record { node = node; entry = s.entry } in
    let seen : up_to cursor.sequence (s.front ++ one ∷ []) ≡ up_to cursor.sequence s.front ++ one ∷ [] =
    up_to_append cursor.sequence s.front (one ∷ []) ∙ ap (λ (v : List Placed). up_to cursor.sequence s.front ++ v) (up_to_seen cursor.sequence one [] s.seen) in
    let long : length (up_to cursor.sequence s.front ++ one ∷ []) ≡ suc (length (up_to cursor.sequence s.front)) = (let l = length-append (up_to cursor.sequence s.front) (one ∷ []) in omega (arith, l)) in
    ap (within at.entries) (ap length seen ∙ long) ∙ sym (ap (option_and_then (index_behind at.entries)) s.place_is)

pub prev_is : (cmp : Cmp) (cursor : MemoryPlace) (contents : Contents) (at : Listed) (node : ℕ) → (s : StandsOnEntry cmp cursor contents at node) → index_before (length (up_to cursor.sequence s.front)) ≡ to_prev at
prev_is cmp cursor contents at node s = sym (ap (option_and_then index_before) s.place_is)

-- ---- what calls answer

-- a cursor that stands has a node
pub has_node : (node : Option ℕ) → IsTrue (is_some node) → (n : ℕ) × (node ≡ Some n)
has_node None h = let bad : false ≡ true = h in absurd cc
has_node (Some n) h = (n, refl)

pub same_some : (m n : ℕ) → Some m ≡ Some n → m ≡ n
same_some m n e = cc

never_none : (o : Option ℕ) (n : ℕ) → o ≡ None → o ≡ Some n → ⊥
never_none o n e f = let bad : None ≡ Some n = sym e ∙ f in cc

-- a table that the cursor lists has its node
pub no_stranger : (cmp : Cmp) (cursor : MemoryPlace) (contents : Contents) (at : Listed) (found : Option ℕ) → IsTrue (is_some cursor.node) → found ≡ None
    → ((n : ℕ) → cursor.node ≡ Some n → IsPlace contents.inserts n → found ≡ Some n) → ListsMemory cmp cursor contents at → ⊥
no_stranger cmp cursor contents at found stands none has h =
    let node = has_node cursor.node stands in
    never_none found node.0 none (has node.0 node.1 (stands_on cmp cursor contents at node.0 node.1 h).place)

-- a move that leads to the same place
pub led : (cmp : Cmp) (contents : Contents) (new : MemoryPlace) (result : Result (Unit {0}) DbError) (to other : Listed → Option ℕ) (at : Listed) → to at ≡ other at
    → ListsMemory cmp new contents (after_move result to at) → ListsMemory cmp new contents (after_move result other at)
led cmp contents new result to other at same h = subst (λ (p : Option ℕ). ListsMemory cmp new contents (record at { place = place_after result p at.place })) same h

-- ---- what is at hand

module _ (cmp : Cmp) (cursor : MemoryPlace) (contents : Contents) (at : Listed) (index : ℕ) (entry : InternalEntry) where
  listed_here : (node : ℕ) → (s : StandsOnEntry cmp cursor contents at node) → at.place ≡ Some index → slice_get at.entries index ≡ Some entry → internal_entry_of s.entry ≡ entry
  listed_here node s place is =
      let same = same_some (length (up_to cursor.sequence s.front)) index (sym s.place_is ∙ place) in
      let both : Some (internal_entry_of s.entry) ≡ Some entry = sym s.entry_is ∙ (ap (slice_get at.entries) same ∙ is) in cc

  pub key_shown : IsTrue (is_some cursor.node) → ListsMemory cmp cursor contents at → at.place ≡ Some index → slice_get at.entries index ≡ Some entry → IsKey cursor.key entry.key
  key_shown stands h place is =
      let node = has_node cursor.node stands in
      let s = stands_on cmp cursor contents at node.0 node.1 h in
      subst (λ (e : InternalEntry). IsKey cursor.key e.key) (listed_here node.0 s place is) s.key_is

  pub value_shown : (found : Option ℕ) (there : ℕ) (kept : Entry) → IsTrue (is_some cursor.node) → found ≡ Some there → ((n : ℕ) → cursor.node ≡ Some n → IsPlace contents.inserts n → found ≡ Some n)
      → entry_at contents.inserts there ≡ Some kept → ListsMemory cmp cursor contents at → at.place ≡ Some index → slice_get at.entries index ≡ Some entry → value_kept kept.value ≡ entry.value
  value_shown found there kept stands found_is has kept_is h place is =
      let node = has_node cursor.node stands in
      let s = stands_on cmp cursor contents at node.0 node.1 h in
      let same = same_some there node.0 (sym found_is ∙ has node.0 node.1 s.place) in
      let both : Some kept ≡ Some s.entry = sym kept_is ∙ (ap (entry_at contents.inserts) same ∙ s.kept) in
      let one : kept ≡ s.entry = cc in
      ap (λ (e : Entry). value_kept e.value) one ∙ ap (λ (e : InternalEntry). e.value) (listed_here node.0 s place is)
