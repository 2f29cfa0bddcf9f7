-- Where a cursor stands.
use Rattle.std.proofs.Common.{◌≡◌, ℕ, zero, suc, ◌<◌, ◌≤◌, Bool, true, false, cond, Option, Some, None, List, [], ◌∷◌, length, take, drop, refl, sym, ap, ◌∙◌, subst, arith}
use Rattle.std.proofs.lemmas.Bool.{cond_below, cond_above}
use Rattle.std.proofs.lemmas.List.{take_all, length-drop, nil_from_length}
use Rattle.std.specs.List.{slice_get, AllByRecursion}
use Rattle.std.specs.Option.{IsSome, is_some, option_and_then}
use Rattle.ikey.specs.Entries.{Pair}
use Rattle.block.specs.Block.{AreAbove, IsBody}
use Rattle.block.specs.Places.{Placed, within, last_of, index_behind, index_before, IsFirstNotBelow}
use Rattle.block.specs.Reading.{Contents, pairs_of}
use Rattle.block.specs.Spots.{IsFront, IsSpot, IsCursor, IsFound, AreBelow}
use Rattle.block.proofs.Fronts.{front_index, at_end, whole_front, before_first, same_index, index_some}
use Rattle.block.proofs.Seeks.{IsTransitive, none_below_from}

-- what contracts see of a cursor
abbrev pub placed : Contents → Bool → ℕ → Placed
placed block stands start = record { pairs = block.pairs; place = cond stands (Some (length (pairs_of (take start block.body)))) None }

pub within_some : (pairs : List Pair) (index : ℕ) → index < length pairs → within pairs index ≡ Some index
within_some pairs index h = sym (cond_below index (length pairs) (Some index) None h)

pub within_none : (pairs : List Pair) (index : ℕ) → length pairs ≤ index → within pairs index ≡ None
within_none pairs index h = sym (cond_above index (length pairs) (Some index) None None h refl)

-- ---- the entry that it stands on

pub record Stands (block : Contents) (stands : Bool) (self : Placed) (key : List ℕ) (start value next : ℕ) : Type 0 where
  pub does : stands ≡ true
  pub index : ℕ
  pub spot : IsSpot block.body block.pairs index key start value next
  pub place_is : self.place ≡ Some index

pub standing : (block : Contents) (stands : Bool) (key : List ℕ) (start value next : ℕ) (self : Placed) → placed block stands start ≡ self → IsCursor block stands key start value next → IsSome self.place
    → Stands block stands self key start value next
standing block false key start value next self e h some =
    let t : false ≡ true = ap (λ (v : Placed). is_some v.place) e ∙ some in absurd cc
standing block true key start value next self e h some =
    record { does = refl; index = h.0; spot = h.1; place_is = sym (ap (λ (v : Placed). v.place) e) ∙ ap Some (front_index block.body block.pairs h.0 start h.1.front) }

-- the pair there
pub pair_there : (block : Contents) (stands : Bool) (self : Placed) (key : List ℕ) (start value next : ℕ) → block.pairs ≡ self.pairs → (s : Stands block stands self key start value next) → (index : ℕ) (pair : Pair)
    → self.place ≡ Some index → slice_get self.pairs index ≡ Some pair → s.spot.pair ≡ pair
pair_there block stands self key start value next e s index pair at found =
    let same : Some s.index ≡ Some index = sym s.place_is ∙ at in
    let index_is : s.index ≡ index = cc in
    let both : Some s.spot.pair ≡ Some pair = sym s.spot.pair_is ∙ (λ i. slice_get (e i) (index_is i)) ∙ found in
    cc

-- ---- where it stands after a move

pub respot : (block : Contents) (index : ℕ) (key : List ℕ) (start value next : ℕ) → block.pairs ≡ pairs_of block.body → IsSpot block.body (pairs_of block.body) index key start value next
    → IsSpot block.body block.pairs index key start value next
respot block index key start value next e h = subst (λ (ps : List Pair). IsSpot block.body ps index key start value next) (sym e) h

pub placed_at : (block : Contents) (self : Placed) (index : ℕ) (key : List ℕ) (start value next : ℕ) (place : Option ℕ) → block.pairs ≡ self.pairs → IsSpot block.body block.pairs index key start value next
    → Some index ≡ place → placed block true start ≡ record { pairs = self.pairs; place = place }
placed_at block self index key start value next place e h at =
    let there : Some (length (pairs_of (take start block.body))) ≡ place = ap Some (front_index block.body block.pairs index start h.front) ∙ at in
    λ i. record { pairs = e i; place = there i }

pub still_placed_at : (block : Contents) (stands : Bool) (self : Placed) (index : ℕ) (key : List ℕ) (start value next : ℕ) (place : Option ℕ) → stands ≡ true → block.pairs ≡ self.pairs → IsSpot block.body block.pairs index key start value next
    → Some index ≡ place → placed block stands start ≡ record { pairs = self.pairs; place = place }
still_placed_at block stands self index key start value next place does e h at = ap (λ (b : Bool). placed block b start) does ∙ placed_at block self index key start value next place e h at

pub still_cursor : (block : Contents) (stands : Bool) (index : ℕ) (key : List ℕ) (start value next : ℕ) → stands ≡ true → IsSpot block.body block.pairs index key start value next → IsCursor block stands key start value next
still_cursor block stands index key start value next does h = subst (λ (b : Bool). IsCursor block b key start value next) (sym does) (index, h)

pub placed_nowhere : (block : Contents) (self : Placed) (start : ℕ) (place : Option ℕ) → block.pairs ≡ self.pairs → None ≡ place → placed block false start ≡ record { pairs = self.pairs; place = place }
placed_nowhere block self start place e at = λ i. record { pairs = e i; place = at i }

-- on the entry of this index, which the list has
pub is_within : (block : Contents) (self : Placed) (index : ℕ) (key : List ℕ) (start value next : ℕ) → block.pairs ≡ self.pairs → IsSpot block.body block.pairs index key start value next → Some index ≡ within self.pairs index
is_within block self index key start value next e h = sym (within_some self.pairs index (omega (arith, h.before.front.counted, ap (length {A = Pair}) e)))

pub last_is : (pairs : List Pair) (last : ℕ) → suc last ≡ length pairs → Some last ≡ last_of pairs
last_is [] last e = absurd (omega (arith, e))
last_is (p ∷ ps) last e = let same : last ≡ length ps = omega (arith, e) in ap Some same

-- the last entry ends where the body does
pub is_last : (body : List ℕ) (pairs : List Pair) (restarts : List ℕ) (last : ℕ) → IsBody pairs restarts body → IsFront body pairs (suc last) (length body) → suc last ≡ length pairs
is_last body pairs restarts last h f = same_index body pairs (suc last) (length pairs) (length body) f (whole_front pairs restarts body h)

pub behind_is : (pairs : List Pair) (place : Option ℕ) (index : ℕ) → place ≡ Some index → within pairs (suc index) ≡ option_and_then (index_behind pairs) place
behind_is pairs place index e = ap (option_and_then (index_behind pairs)) (sym e)

pub before_is : (place : Option ℕ) (index : ℕ) → place ≡ Some index → index_before index ≡ option_and_then index_before place
before_is place index e = ap (option_and_then index_before) (sym e)

-- an empty body has no pairs
pub no_pairs : (pairs : List Pair) (restarts body : List ℕ) → IsBody pairs restarts body → length body ≡ 0 → length pairs ≡ 0
no_pairs pairs restarts body h none = sym (at_end body pairs 0 [] 0 (before_first pairs restarts body h) (omega (arith, none)))

pub last_of_none : (pairs : List Pair) → length pairs ≡ 0 → None ≡ last_of pairs
last_of_none [] e = refl
last_of_none (p ∷ ps) e = absurd (omega (arith, e))

-- the index in front, where bytes stand before the entry
pub index_in_front : (body : List ℕ) (pairs : List Pair) (index start : ℕ) → IsFront body pairs index start → 0 < start → (last : ℕ) × (index ≡ suc last)
index_in_front body pairs zero start f some = absurd (omega (arith, index_some body pairs zero start f some))
index_in_front body pairs (suc last) start f some = (last, refl)

first_index : (body : List ℕ) (pairs : List Pair) (index : ℕ) → IsFront body pairs index 0 → index ≡ 0
first_index body pairs index f = same_index body pairs index 0 0 f (record { inside = omega arith; counted = omega arith; entries = (refl, refl) })

-- the first entry begins at 0
pub none_before : (body : List ℕ) (pairs : List Pair) (index start : ℕ) → IsFront body pairs index start → start ≡ 0 → None ≡ index_before index
none_before body pairs index start f e = ap index_before (sym (first_index body pairs index (subst (λ (n : ℕ). IsFront body pairs index n) e f)))

-- ---- seeking

pub record Seeks (below : List ℕ → List ℕ → Type 0) (target : List ℕ) (pairs : List Pair) (place : Option ℕ) : Type 0 where
  pub index : ℕ
  pub first : IsFirstNotBelow below target pairs index
  pub place_is : place ≡ within pairs index

pub seeks_found : (below : List ℕ → List ℕ → Type 0) → IsTransitive below → (target body : List ℕ) (pairs : List Pair) (key : List ℕ) (start value next : ℕ) → AreAbove below None pairs
    → IsFound below target body pairs key start value next → Seeks below target pairs (Some (length (pairs_of (take start body))))
seeks_found below trans target body pairs key start value next a f =
    let spot = f.1 in
    record {
      index = f.0;
      first = record {
        inside = omega (arith, spot.before.front.counted);
        front = f.2;
        rest = none_below_from below trans target None pairs f.0 spot.pair a spot.pair_is (subst (λ (k : List ℕ). below k target → ⊥) spot.key_is f.3);
      };
      place_is = ap Some (front_index body pairs f.0 start spot.front) ∙ sym (within_some pairs f.0 (omega (arith, spot.before.front.counted)));
    }

pub seeks_none : (below : List ℕ → List ℕ → Type 0) (target : List ℕ) (pairs : List Pair) → AreBelow below target pairs → Seeks below target pairs None
seeks_none below target pairs h =
    let end : drop (length pairs) pairs ≡ [] = nil_from_length (drop (length pairs) pairs) (omega (arith, length-drop (length pairs) pairs)) in
    record {
      index = length pairs;
      first = record {
        inside = omega arith;
        front = subst (AreBelow below target) (sym (take_all (length pairs) pairs (omega arith))) h;
        rest = subst (AllByRecursion (λ (p : Pair). below p.key target → ⊥)) (sym end) tt;
      };
      place_is = sym (within_none pairs (length pairs) (omega arith));
    }
