-- What a cursor over a memtable lists, and where it stands.
use Rattle.std.specs.Prelude.{◌≡◌, ◌<◌, ◌+◌, ℕ, suc, List, ◌∷◌, Option, Some, None, length, is_some}
use Rattle.std.proofs.Common.{sym, ap, ◌∙◌, subst, arith}
use Rattle.std.proofs.lemmas.List.{length-append, length-map}
use Rattle.memtable.specs.Order.{Placed}
use Rattle.cursor.specs.Places.{Cmp, Listed}
use Rattle.table_access.specs.Memory.{MemoryPlace, IsPlacedSeen, ListsSeen, entry_listed}

pub is_placed : (node : Option ℕ) (key : List ℕ) (seen : List Placed) (place : Option ℕ) → IsPlacedSeen node key seen place → is_some node ≡ is_some place
is_placed None key seen place h = sym (ap is_some h)
is_placed (Some node) key seen place h = sym (ap is_some h.place_is)

place_inside : (node : Option ℕ) (key : List ℕ) (seen : List Placed) (place : Option ℕ) (index : ℕ) → IsPlacedSeen node key seen place → place ≡ Some index → index < length seen
place_inside None key seen place index h e = let bad : None ≡ Some index = sym h ∙ e in absurd cc
place_inside (Some node) key seen place index h e =
    let both : Some (length h.front) ≡ Some index = sym h.place_is ∙ e in
    let is : length h.front ≡ index = cc in
    let long : length seen ≡ length h.front + suc (length h.back) = ap length h.seen_is ∙ length-append h.front (record { node = node; entry = h.entry } ∷ h.back) in
    omega (arith, is, long)

pub is_inside : (cmp : Cmp) (cursor : MemoryPlace) (seen : List Placed) (at : Listed) (index : ℕ) → ListsSeen cmp cursor seen at → at.place ≡ Some index → index < length at.entries
is_inside cmp cursor seen at index h e =
    let less = place_inside cursor.node cursor.key seen at.place index h.place e in
    let long : length at.entries ≡ length seen = ap length h.entries ∙ length-map seen entry_listed in
    omega (arith, less, long)

pub lists_kept : (cmp : Cmp) (cursor : MemoryPlace) (old new : List Placed) (at : Listed) → old ≡ new → ListsSeen cmp cursor old at → ListsSeen cmp cursor new at
lists_kept cmp cursor old new at k h = subst (λ (seen : List Placed). ListsSeen cmp cursor seen at) k h
