-- How much room the entries of a memtable need in a table file.
use Rattle.std.proofs.Common.{◌≡◌, ◌<◌, ◌≤◌, ◌+◌, ◌^◌, ℕ, List, [], ◌∷◌, ◌++◌, length, inl, inr, refl, ap, ◌∙◌, arith, length-append}
use Rattle.std.proofs.lemmas.Bool.{cond_both}
use Rattle.std.specs.declared.cmp.Ordering.{Ordering}
use Rattle.coding.specs.Fixed.{fixed64}
use Rattle.ikey.specs.declared.entry.Entry.{Entry}
use Rattle.ikey.specs.Entries.{Pair, internal_key_of}
use Rattle.ikey.specs.Keys.{tag_of}
use Rattle.ikey.specs.Views.{Among}
use Rattle.memtable.specs.Contents.{byte_length}
use Rattle.memtable.specs.Order.{Placed, is_before, put_in, put_all, ordered}
use Rattle.recover.specs.Tables.{internal_key}
use Rattle.compact.specs.Rooms.{load, room_of, AreLarge}
use Rattle.compact.proofs.Sizes.{load-append}
use Rattle.directory_writes.specs.internal.Level0.{pair_of, pairs_of}

room_listed : List Placed → ℕ
room_listed [] = 0
room_listed (one ∷ placed) = byte_length one.entry.key one.entry.value + 64 + room_listed placed

pairs_room : (placed : List Placed) → load 56 (pairs_of placed) ≡ room_listed placed
unfolding load room_listed
pairs_room [] = refl
pairs_room (one ∷ placed) =
    let rest = pairs_room placed in
    let key : length (internal_key one.entry) ≡ length one.entry.key + 8 = length-append one.entry.key (fixed64 (tag_of (internal_key_of one.entry))) in
    omega (arith, rest, key)

room_in : (cmp : List ℕ → List ℕ → Ordering) (new : Placed) (placed : List Placed) → room_listed (put_in cmp new placed) ≡ byte_length new.entry.key new.entry.value + 64 + room_listed placed
unfolding room_listed
room_in cmp new [] = refl
room_in cmp new (first ∷ later) =
    let rest = room_in cmp new later in
    cond_both (is_before cmp new.entry.key new.entry.sequence first.entry) (first ∷ put_in cmp new later) (new ∷ first ∷ later) (λ (v : List Placed). room_listed v ≡ byte_length new.entry.key new.entry.value + 64 + room_listed (first ∷ later))
    (λ _. omega (arith, rest)) (λ _. refl)

room_all : (cmp : List ℕ → List ℕ → Ordering) (number : ℕ) (entries : List Entry) (placed : List Placed) → room_listed (put_all cmp number entries placed) ≡ room_of entries + room_listed placed
unfolding room_listed
room_all cmp number [] placed = omega arith
room_all cmp number (entry ∷ entries) placed =
    let new : Placed = record { node = number + 1; entry = entry } in
    let rest = room_all cmp (number + 1) entries (put_in cmp new placed) in
    let one = room_in cmp new placed in
    omega (arith, rest, one)

pub room_ordered : (cmp : List ℕ → List ℕ → Ordering) (inserts : List Entry) → load 56 (pairs_of (ordered cmp inserts)) ≡ room_of inserts
unfolding room_listed
room_ordered cmp inserts = pairs_room (ordered cmp inserts) ∙ room_all cmp 0 inserts [] ∙ omega arith

pairs-append : (xs ys : List Placed) → pairs_of (xs ++ ys) ≡ pairs_of xs ++ pairs_of ys
pairs-append [] ys = refl
pairs-append (x ∷ xs) ys = ap (λ (ps : List Pair). pair_of x.entry ∷ ps) (pairs-append xs ys)

-- with those of the front and one more too many, they are too many
pub front_room : (cmp : List ℕ → List ℕ → Ordering) (inserts : List Entry) (front : List Placed) (one : Placed) (later : List Placed) → ordered cmp inserts ≡ front ++ one ∷ later
    → 2 ^ 30 < load 56 (pairs_of front ++ pair_of one.entry ∷ []) → AreLarge inserts
unfolding load
front_room cmp inserts front one later parts long =
    let all : load 56 (pairs_of (ordered cmp inserts)) ≡ load 56 (pairs_of front) + load 56 (pairs_of (one ∷ later)) = ap (λ (v : List Placed). load 56 (pairs_of v)) parts ∙ ap (load 56) (pairs-append front (one ∷ later)) ∙ load-append 56 (pairs_of front) (pairs_of (one ∷ later)) in
    let few = load-append 56 (pairs_of front) (pair_of one.entry ∷ []) in
    let room = room_ordered cmp inserts in
    omega (arith, all, few, room, long)

pub whole_room : (cmp : List ℕ → List ℕ → Ordering) (inserts : List Entry) → 2 ^ 30 < load 56 (pairs_of (ordered cmp inserts)) → AreLarge inserts
whole_room cmp inserts long = (let room = room_ordered cmp inserts in omega (arith, room, long))

pub member_room : (entries : List Entry) (entry : Entry) → Among entries entry → length entry.key + 64 ≤ room_of entries
member_room [] entry i = absurd i
member_room (first ∷ entries) entry (inl e) = omega (arith, ap (λ (x : Entry). length x.key) e)
member_room (first ∷ entries) entry (inr i) = (let rest = member_room entries entry i in omega (arith, rest))
