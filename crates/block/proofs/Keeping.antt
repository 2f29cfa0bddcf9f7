-- Entries that are kept for steps back.
use Rattle.std.proofs.Common.{◌≡◌, ℕ, zero, suc, ◌+◌, ◌-◌, ◌<◌, ◌≤◌, ◌⊎◌, inl, inr, Some, List, [], ◌∷◌, ◌++◌, length, take, drop, refl, sym, ap, ◌∙◌, subst, arith}
use Rattle.std.proofs.lemmas.Bool.{cases_lt}
use Rattle.std.proofs.lemmas.List.{length-append, length-drop, drop_at, take_all, drop-append-le, take-append-le}
use Rattle.std.specs.List.{slice_get}
use Rattle.block.specs.Kept.{IsKept, AreKept, last_end}
use Rattle.block.specs.Reading.{pairs_of}
use Rattle.block.specs.Spots.{IsRead, IsFront, IsBefore, IsSpot}
use Rattle.block.specs.declared.block_cursor.Extent.{Extent}
use Rattle.block.specs.declared.block_cursor.Passed.{Passed}
use Rattle.block.proofs.Fronts.{spot_read, front_order, front_below, front_zero}
use Rattle.block.proofs.Walks.{Walks, walk_on, walked}

-- ---- more keys, one entry more, one less

kept_longer : (body keys more : List ℕ) (entry : Passed) → IsKept body keys entry → IsKept body (keys ++ more) entry
kept_longer body keys more entry k =
    let long = entry.key_end - entry.key in
    let part : take long (drop entry.key (keys ++ more)) ≡ take long (drop entry.key keys) =
    ap (take long) (drop-append-le entry.key keys more (omega (arith, k.ordered, k.inside)))
    ∙ take-append-le long (drop entry.key keys) more (omega (arith, k.ordered, k.inside, length-drop entry.key keys)) in
    record {
      index = k.index;
      spot = subst (λ (key : List ℕ). IsSpot body (pairs_of body) k.index key entry.at.start entry.at.value entry.at.next) (sym part) k.spot;
      ordered = k.ordered;
      inside = omega (arith, k.inside, length-append keys more);
    }

pub all_longer : (body keys more : List ℕ) (entries : List Passed) → AreKept body keys entries → AreKept body (keys ++ more) entries
all_longer body keys more [] h = tt
all_longer body keys more (entry ∷ entries) h = (kept_longer body keys more entry h.0, all_longer body keys more entries h.1)

all_push : (body keys : List ℕ) (entries : List Passed) (entry : Passed) → AreKept body keys entries → IsKept body keys entry → AreKept body keys (entries ++ entry ∷ [])
all_push body keys [] entry h k = (k, tt)
all_push body keys (first ∷ entries) entry h k = (h.0, all_push body keys entries entry h.1 k)

pub all_but_last : (body keys : List ℕ) (entries : List Passed) (entry : Passed) → AreKept body keys (entries ++ entry ∷ []) → AreKept body keys entries × IsKept body keys entry
all_but_last body keys [] entry h = (tt, h.0)
all_but_last body keys (first ∷ entries) entry h = let r = all_but_last body keys entries entry h.1 in ((h.0, r.0), r.1)

-- ---- where the last one ends

last_end-push : (entries : List Passed) (entry : Passed) → last_end (entries ++ entry ∷ []) ≡ Some entry.at.next
last_end-push [] entry = refl
last_end-push (first ∷ []) entry = refl
last_end-push (first ∷ second ∷ entries) entry = last_end-push (second ∷ entries) entry

end_found : (entries : List Passed) (index : ℕ) (entry : Passed) → length entries ≡ suc index → slice_get entries index ≡ Some entry → last_end entries ≡ Some entry.at.next
end_found [] index entry long g = absurd (omega (arith, long))
end_found (first ∷ []) zero entry long g = let same : first ≡ entry = cc in ap (λ (it : Passed). Some it.at.next) same
end_found (first ∷ []) (suc index) entry long g = absurd (omega (arith, long))
end_found (first ∷ second ∷ entries) zero entry long g = absurd (omega (arith, long))
end_found (first ∷ second ∷ entries) (suc index) entry long g = end_found (second ∷ entries) index entry (omega (arith, long)) g

none_there : (index : ℕ) (entry : Passed) → slice_get {X = Passed} [] index ≡ Some entry → ⊥
none_there zero entry e = cc
none_there (suc index) entry e = cc

pub end_of_last : (entries : List Passed) (entry : Passed) → slice_get entries (length entries - 1) ≡ Some entry → last_end entries ≡ Some entry.at.next
end_of_last [] entry g = absurd (none_there 0 entry g)
end_of_last (first ∷ entries) entry g =
    let index : length (first ∷ entries) - 1 ≡ length entries = omega arith in
    end_found (first ∷ entries) (length entries) entry refl (ap (slice_get (first ∷ entries)) (sym index) ∙ g)

pub none_kept : (body keys : List ℕ) (entries : List Passed) → entries ≡ [] → AreKept body keys entries
none_kept body keys entries e = subst (AreKept body keys) (sym e) tt

pub same_keys : (body keys keys' : List ℕ) (entries : List Passed) → keys' ≡ keys → AreKept body keys entries → AreKept body keys' entries
same_keys body keys keys' entries e h = subst (λ (ks : List ℕ). AreKept body ks entries) (sym e) h

pub others_kept : (body keys : List ℕ) (entries rest : List Passed) (last : Passed) → entries ≡ rest ++ last ∷ [] → AreKept body keys entries → AreKept body keys rest
others_kept body keys entries rest last e h = (all_but_last body keys rest last (subst (AreKept body keys) e h)).0

pub last_kept : (body keys : List ℕ) (entries rest : List Passed) (last : Passed) → entries ≡ rest ++ last ∷ [] → AreKept body keys entries → IsKept body keys last
last_kept body keys entries rest last e h = (all_but_last body keys rest last (subst (AreKept body keys) e h)).1

pub no_last : (entries : List Passed) (end : ℕ) → length entries ≡ 0 → last_end entries ≡ Some end → ⊥
no_last [] end none e = cc
no_last (entry ∷ entries) end none e = omega (arith, none)

-- ---- up to an end

pub some_offset : (body : List ℕ) (last end : ℕ) → IsFront body (pairs_of body) (suc last) end → 0 < end
some_offset body last end f = omega (arith, front_order body (pairs_of body) 0 (suc last) 0 end (front_zero body (pairs_of body)) f (omega arith))

pub record WalksBack (body : List ℕ) (end : ℕ) (keys : List ℕ) (key : ℕ) (at : Extent) (entries : List Passed) : Type 0 where
  pub inside : key ≤ length keys
  pub kept : AreKept body keys entries
  pub walks : Walks body (pairs_of body) end (drop key keys) at.start at.value at.next
  pub newest : (at.next < end) ⊎ (last_end entries ≡ Some end)

pub begins_back : (body : List ℕ) (end index last : ℕ) (keys : List ℕ) (at : Extent) (entries : List Passed) → keys ≡ [] → entries ≡ [] → IsBefore body (pairs_of body) index [] at.next
    → IsFront body (pairs_of body) (suc last) end → at.next < end → WalksBack body end keys 0 at entries
begins_back body end index last keys at entries k e before front less =
    let up = front_below body (pairs_of body) index (suc last) at.next end before.front front less in
    let empty : WalksBack body end [] 0 at [] = record {
      inside = omega arith;
      kept = tt;
      walks = record { index = index; last = last; before = before; ends = front; within = omega (arith, up); stands = inl less };
      newest = inl less;
    } in
    subst (λ (ks : List ℕ). WalksBack body end ks 0 at entries) (sym k) (subst (λ (es : List Passed). WalksBack body end [] 0 at es) (sym e) empty)

-- where it stands, it has come to the end
ended : (body : List ℕ) (end : ℕ) (key : List ℕ) (at : Extent) → Walks body (pairs_of body) end key at.start at.value at.next → end ≤ at.next → at.next ≡ end
ended body end key at w done =
    let t = walked body (pairs_of body) end key at.start at.value at.next w done in
    omega (arith, done, front_order body (pairs_of body) (suc t.0) (suc t.0) at.next end t.2.before.front t.1 (omega arith))

newest_on : (body : List ℕ) (end : ℕ) (key : List ℕ) (at : Extent) (entries : List Passed) → Walks body (pairs_of body) end key at.start at.value at.next → last_end entries ≡ Some at.next
    → (at.next < end) ⊎ (last_end entries ≡ Some end)
newest_on body end key at entries w e = elim w.stands [
  | inl less ↦ inl less
  | inr spot ↦ elim (cases_lt at.next end) [
    | inl less ↦ inl less
    | inr done ↦ inr (e ∙ ap Some (ended body end key at w done))
  ]
]

pub goes_back : (body : List ℕ) (end : ℕ) (keys : List ℕ) (key : ℕ) (at : Extent) (entries : List Passed) (keys' more : List ℕ) (from upto : ℕ) (at' : Extent) (entries' : List Passed) → from ≡ length keys → upto ≡ length keys'
    → WalksBack body end keys key at entries → at.next < end
    → keys' ≡ keys ++ more → IsRead body (drop key keys) at.next more at'.start at'.value at'.next → entries' ≡ entries ++ record { key = from; key_end = upto; at = at' } ∷ []
    → WalksBack body end keys' from at' entries'
goes_back body end keys key at entries keys' more from upto at' entries' begins ends w less e r es =
    let entry : Passed = record { key = from; key_end = upto; at = at' } in
    let long : length keys' ≡ length keys + length more = ap length e ∙ length-append keys more in
    let spot = spot_read body (pairs_of body) w.walks.index (drop key keys) at.next more at'.start at'.value at'.next w.walks.before r in
    let last : drop from keys' ≡ more = ap (drop from) e ∙ drop_at keys more from (sym begins) in
    let part : take (upto - from) (drop from keys') ≡ more = ap (take (upto - from)) last ∙ take_all (upto - from) more (omega (arith, long, begins, ends)) in
    let new : IsKept body keys' entry = record {
      index = w.walks.index;
      spot = subst (λ (it : List ℕ). IsSpot body (pairs_of body) w.walks.index it at'.start at'.value at'.next) (sym part) spot;
      ordered = omega (arith, long, begins, ends);
      inside = omega (arith, ends);
    } in
    let walks : Walks body (pairs_of body) end (drop from keys') at'.start at'.value at'.next =
    subst (λ (it : List ℕ). Walks body (pairs_of body) end it at'.start at'.value at'.next) (sym last)
    (walk_on body (pairs_of body) end (drop key keys) at.start at.value at.next more at'.start at'.value at'.next w.walks less r) in
    record {
      inside = omega (arith, long, begins);
      kept = subst (AreKept body keys') (sym es) (all_push body keys' entries entry (subst (λ (ks : List ℕ). AreKept body ks entries) (sym e) (all_longer body keys more entries w.kept)) new);
      walks = walks;
      newest = newest_on body end (drop from keys') at' entries' walks (ap last_end es ∙ last_end-push entries entry);
    }

pub gone_back : (body : List ℕ) (end : ℕ) (keys : List ℕ) (key : ℕ) (at : Extent) (entries : List Passed) → WalksBack body end keys key at entries → end ≤ at.next → last_end entries ≡ Some end
gone_back body end keys key at entries w done = elim w.newest [
  | inl less ↦ absurd (omega (arith, less, done))
  | inr e ↦ e
]

-- ---- taking the last one

pub taken_back : (body keys : List ℕ) (end : ℕ) (entries rest : List Passed) (last : Passed) → entries ≡ rest ++ last ∷ [] → AreKept body keys entries → last_end entries ≡ Some end
    → (index : ℕ) × IsSpot body (pairs_of body) index (take (last.key_end - last.key) (drop last.key keys)) last.at.start last.at.value last.at.next × (last.at.next ≡ end)
taken_back body keys end entries rest last e h ends =
    let k = last_kept body keys entries rest last e h in
    let same : Some last.at.next ≡ Some end = sym (last_end-push rest last) ∙ ap last_end (sym e) ∙ ends in
    (k.index, k.spot, (let t : last.at.next ≡ end = cc in t))
