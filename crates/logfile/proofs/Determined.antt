-- What our writer adds is determined by the room and the payload, and so is its length.
use Rattle.std.proofs.Common.{◌≡◌, ℕ, ◌+◌, ◌-◌, ◌*◌, ◌/◌, ◌<◌, ◌≤◌, ◌⊎◌, inl, inr, Bool, true, false, List, [], ◌∷◌, ◌++◌, length, replicate, refl, sym, ap, ◌∙◌, arith}
use Rattle.std.specs.List.{flat_map}
use Rattle.std.proofs.lemmas.Bool.{cases_lt, lt-ltb, le-ltb}
use Rattle.std.proofs.lemmas.List.{length-append, length-replicate}
use Rattle.coding.proofs.Fronts.{same_front}
use Rattle.logfile.specs.Log.{Fragment, full, first, middle, last, data_of, fragment_bytes, Join, AreLongest, IsWritten}
use Rattle.logfile.specs.Appends.{added_length}
use Rattle.logfile.proofs.Appends.{nothing_more}
use Rattle.logfile.proofs.LogLaws.{length-fragment}
use Rattle.logfile.proofs.Written.{parts_of}

-- the fragment that has what is left of a record, and the one that has a part of it
end_of : Bool → List ℕ → Fragment
end_of false bytes = full bytes
end_of true bytes = last bytes

part_of : Bool → List ℕ → Fragment
part_of false bytes = first bytes
part_of true bytes = middle bytes

-- one fragment has all
one_is : (inside : Bool) (f : Fragment) (payload : List ℕ) → Join inside (f ∷ []) (payload ∷ []) false → (f ≡ end_of inside payload) × (data_of f ≡ payload)
unfolding end_of
one_is false (full x) payload h = (ap full (sym h.0), sym h.0)
one_is true (last x) payload h = (ap last (sym h.0), sym h.0)
one_is false (first x) payload h = absurd h.2
one_is true (middle x) payload h = absurd h.2
one_is false (middle x) payload h = absurd h
one_is false (last x) payload h = absurd h
one_is true (full x) payload h = absurd h
one_is true (first x) payload h = absurd h

-- the first of several fragments has a part
record First (inside : Bool) (f : Fragment) (behind : List Fragment) (payload : List ℕ) : Type 0 where
  part : List ℕ
  rest : List ℕ
  is : f ≡ part_of inside part
  same : data_of f ≡ part
  parts : payload ≡ part ++ rest
  joined : Join true behind (rest ∷ []) false

first_of : (inside : Bool) (f g : Fragment) (gs : List Fragment) (payload : List ℕ) → Join inside (f ∷ g ∷ gs) (payload ∷ []) false → First inside f (g ∷ gs) payload
unfolding part_of
first_of false (first x) g gs payload h = record { part = x; rest = h.0; is = refl; same = refl; parts = h.1; joined = h.2 }
first_of true (middle x) g gs payload h = record { part = x; rest = h.0; is = refl; same = refl; parts = h.1; joined = h.2 }
first_of false (full x) g gs payload h = absurd (nothing_more g gs h.1)
first_of true (last x) g gs payload h = absurd (nothing_more g gs h.1)
first_of false (middle x) g gs payload h = absurd h
first_of false (last x) g gs payload h = absurd h
first_of true (full x) g gs payload h = absurd h
first_of true (first x) g gs payload h = absurd h

-- what is left has the data of the next fragment in front
data_fits : (g : Fragment) (gs : List Fragment) (rest : List ℕ) → Join true (g ∷ gs) (rest ∷ []) false → length (data_of g) ≤ length rest
data_fits (middle x) gs rest h = omega (arith, ap length h.1, length-append x h.0)
data_fits (last x) gs rest h = omega (arith, ap length h.0)
data_fits (full x) gs rest h = absurd h
data_fits (first x) gs rest h = absurd h

-- ---- the fragments

same_fragments : (inside : Bool) (room : ℕ) (fs gs : List Fragment) (payload other : List ℕ) → payload ≡ other → AreLongest room fs → AreLongest room gs
    → Join inside fs (payload ∷ []) false → Join inside gs (other ∷ []) false → fs ≡ gs
same_fragments inside room [] gs payload other e h k i j = absurd h
same_fragments inside room (f ∷ fs) [] payload other e h k i j = absurd k
same_fragments inside room (f ∷ []) (g ∷ []) payload other e h k i j =
    let one = one_is inside f payload i in
    let two = one_is inside g other j in
    ap (λ (v : Fragment). v ∷ []) (one.0 ∙ ap (end_of inside) e ∙ sym two.0)
same_fragments inside room (f ∷ []) (g ∷ g' ∷ gs) payload other e h k i j =
    let one = one_is inside f payload i in
    let two = first_of inside g g' gs other j in
    absurd (omega (arith, h, ap length one.1, ap length e, k.0, ap length two.same, ap length two.parts, length-append two.part two.rest, k.1, data_fits g' gs two.rest two.joined))
same_fragments inside room (f ∷ f' ∷ fs) (g ∷ []) payload other e h k i j =
    let one = first_of inside f f' fs payload i in
    let two = one_is inside g other j in
    absurd (omega (arith, k, ap length two.1, ap length e, h.0, ap length one.same, ap length one.parts, length-append one.part one.rest, h.1, data_fits f' fs one.rest one.joined))
same_fragments inside room (f ∷ f' ∷ fs) (g ∷ g' ∷ gs) payload other e h k i j =
    let one = first_of inside f f' fs payload i in
    let two = first_of inside g g' gs other j in
    let front = same_front one.part two.part one.rest two.rest (omega (arith, h.0, k.0, ap length one.same, ap length two.same)) (sym one.parts ∙ e ∙ two.parts) in
    let head : f ≡ g = one.is ∙ ap (part_of inside) front.0 ∙ sym two.is in
    let tail : (f' ∷ fs) ≡ (g' ∷ gs) = same_fragments true 32768 (f' ∷ fs) (g' ∷ gs) one.rest two.rest front.1 h.2 k.2 one.joined two.joined in
    cc (head, tail)

same_shape : (room skipped other : ℕ) (fs gs : List Fragment) (payload : List ℕ)
    → ((room < 7) × (skipped ≡ room) × AreLongest 32768 fs) ⊎ ((7 ≤ room) × (skipped ≡ 0) × AreLongest room fs)
    → ((room < 7) × (other ≡ room) × AreLongest 32768 gs) ⊎ ((7 ≤ room) × (other ≡ 0) × AreLongest room gs)
    → Join false fs (payload ∷ []) false → Join false gs (payload ∷ []) false → (skipped ≡ other) × (fs ≡ gs)
same_shape room skipped other fs gs payload (inl h) (inl k) i j = (h.1 ∙ sym k.1, same_fragments false 32768 fs gs payload payload refl h.2 k.2 i j)
same_shape room skipped other fs gs payload (inr h) (inr k) i j = (h.1 ∙ sym k.1, same_fragments false room fs gs payload payload refl h.2 k.2 i j)
same_shape room skipped other fs gs payload (inl h) (inr k) i j = absurd (omega (arith, h.0, k.0))
same_shape room skipped other fs gs payload (inr h) (inl k) i j = absurd (omega (arith, h.0, k.0))

pub same_writing : (room : ℕ) (payload bytes other : List ℕ) → IsWritten room payload bytes → IsWritten room payload other → bytes ≡ other
same_writing room payload bytes other w v =
    let p = parts_of room payload bytes w (cases_lt room 7) in
    let q = parts_of room payload other v (cases_lt room 7) in
    let s = same_shape room p.skipped q.skipped p.fragments q.fragments payload p.shape q.shape p.joined q.joined in
    p.parts ∙ ap (λ (n : ℕ). replicate n 0 ++ flat_map fragment_bytes p.fragments) s.0 ∙ ap (λ (fs : List Fragment). replicate q.skipped 0 ++ flat_map fragment_bytes fs) s.1 ∙ sym q.parts

-- ---- the length

length-longest : (inside : Bool) (room : ℕ) (fs : List Fragment) (payload : List ℕ) → AreLongest room fs → Join inside fs (payload ∷ []) false
    → length (flat_map fragment_bytes fs) ≡ length payload + 7 * (1 + (length payload - (room - 7) + 32760) / 32761)
length-longest inside room [] payload h j = absurd h
length-longest inside room (f ∷ []) payload h j =
    let one = one_is inside f payload j in
    omega (arith, length-append {A = ℕ} (fragment_bytes f) [], length-fragment f, h, ap length one.1)
length-longest inside room (f ∷ g ∷ gs) payload h j =
    let one = first_of inside f g gs payload j in
    let behind = length-longest true 32768 (g ∷ gs) one.rest h.2 one.joined in
    omega (arith, length-append (fragment_bytes f) (flat_map fragment_bytes (g ∷ gs)), length-fragment f, h.0, ap length one.same, ap length one.parts, length-append one.part one.rest, h.1, data_fits g gs one.rest one.joined, behind)

length-shape : (room skipped : ℕ) (fs : List Fragment) (payload bytes : List ℕ) → bytes ≡ replicate skipped 0 ++ flat_map fragment_bytes fs
    → ((room < 7) × (skipped ≡ room) × AreLongest 32768 fs) ⊎ ((7 ≤ room) × (skipped ≡ 0) × AreLongest room fs) → Join false fs (payload ∷ []) false
    → length bytes ≡ added_length room (length payload)
length-shape room skipped fs payload bytes e (inl h) j =
    rw (lt-ltb room 7 h.0) (omega (arith, ap length e, length-append (replicate skipped 0) (flat_map fragment_bytes fs), length-replicate {A = ℕ} skipped 0, h.1, length-longest false 32768 fs payload h.2 j))
length-shape room skipped fs payload bytes e (inr h) j =
    rw (le-ltb room 7 h.0) (omega (arith, ap length e, length-append (replicate skipped 0) (flat_map fragment_bytes fs), length-replicate {A = ℕ} skipped 0, h.1, length-longest false room fs payload h.2 j))

pub length-written : (room : ℕ) (payload bytes : List ℕ) → IsWritten room payload bytes → length bytes ≡ added_length room (length payload)
length-written room payload bytes w =
    let p = parts_of room payload bytes w (cases_lt room 7) in
    length-shape room p.skipped p.fragments payload bytes p.parts p.shape p.joined

bounds_by : (room size : ℕ) → (room < 7) ⊎ (7 ≤ room) → (size + 7 ≤ added_length room size) × (added_length room size ≤ size + 7 * (size / 32761 + 2) + 6)
bounds_by room size (inl small) = rw (lt-ltb room 7 small) (omega (arith, small), omega (arith, small))
bounds_by room size (inr wide) = rw (le-ltb room 7 wide) (omega (arith, wide), omega (arith, wide))

pub length_bounds : (room size : ℕ) → (size + 7 ≤ added_length room size) × (added_length room size ≤ size + 7 * (size / 32761 + 2) + 6)
length_bounds room size = bounds_by room size (cases_lt room 7)
