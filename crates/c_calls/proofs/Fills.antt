-- Pairs one after the other, in a room.
use Rattle.std.proofs.Common.{◌≡◌, inl, inr, ℕ, ℤ, pos, ◌+◌, ◌-◌, ◌≤◌, List, [], ◌∷◌, ◌++◌, append-nil, length, take, drop}
use Rattle.std.proofs.Common.{Option, Some, None, refl, ap, sym, subst, ◌∙◌, length-append, arith}
use Rattle.std.proofs.Math.Seq.{drop-append_seam, take-append_seam}
use Rattle.std.proofs.lemmas.List.{append_assoc, drop-drop, length-drop}
use Rattle.byteorder.specs.Endian.{little_bytes}
use Rattle.ikey.specs.Orders.{Order}
use Rattle.machine.specs.Causes.{Motion}
use Rattle.store.specs.Files.{Facts}
use Rattle.c_calls.specs.Filling.{AddsNone, AddsPair, FillServed, FillsSoFar, HasNoRoom, IsEnd, IsLaid, IsNowhere, MovesOn, Passes, all_laid, laid}
use Rattle.c_calls.specs.Standings.{pair_of}
use Rattle.c_calls.specs.declared.filling.Filled.{Filled}
use Rattle.c_calls.specs.declared.handle.Handle.{Handle}

laid_more : (pairs : List (List ℕ × List ℕ)) (pair : List ℕ × List ℕ)
    → all_laid (pairs ++ pair ∷ []) ≡ all_laid pairs ++ laid pair.0 pair.1
laid_more [] pair = append-nil (laid pair.0 pair.1)
laid_more (p ∷ pairs) pair =
    ap (λ (xs : List ℕ). laid p.0 p.1 ++ xs) (laid_more pairs pair)
    ∙ sym (append_assoc (laid p.0 p.1) (all_laid pairs) (laid pair.0 pair.1))

laid_length : (key value : List ℕ) → length (laid key value) ≡ 8 + (length key + length value)
laid_length key value =
    let front = little_bytes 4 (length key) ++ little_bytes 4 (length value) in
    let first : length (front ++ key) ≡ 8 + length key = length-append front key in
    let whole : length (laid key value) ≡ length (front ++ key) + length value = length-append (front ++ key) value in
    omega (arith, first, whole)

-- One more pair behind these.
pub laid_on : (before now after : List ℕ) (old new : Filled) (pairs : List (List ℕ × List ℕ)) (pair : List ℕ × List ℕ)
    → IsLaid before now old pairs → AddsPair pair.0 pair.1 now after old new
    → IsLaid before after new (pairs ++ pair ∷ [])
laid_on before now after old new pairs pair is adds =
    let A = all_laid pairs in
    let L = laid pair.0 pair.1 in
    let u = old.used in
    let m = length L in
    let long : m ≡ 8 + (length pair.0 + length pair.1) = laid_length pair.0 pair.1 in
    let further : new.used ≡ u + m = adds.used ∙ ap (λ (n : ℕ). u + n) (sym long) in
    let more : all_laid (pairs ++ pair ∷ []) ≡ A ++ L = laid_more pairs pair in
    let both : length (A ++ L) ≡ length A + m = length-append A L in
    let used : new.used ≡ length (all_laid (pairs ++ pair ∷ [])) =
    further ∙ ap (λ (n : ℕ). n + m) is.used ∙ sym both ∙ ap length (sym more) in
    let counted : length (pairs ++ pair ∷ []) ≡ length pairs + 1 = length-append pairs (pair ∷ []) in
    let fits : new.used ≤ length before = subst (λ (n : ℕ). new.used ≤ n) is.room adds.fits in
    let front : take u now ≡ A =
    ap (take u) is.bytes ∙ ap (λ (n : ℕ). take n (A ++ drop u before)) is.used ∙ take-append_seam A (drop u before) in
    let back : drop u now ≡ drop u before =
    ap (drop u) is.bytes ∙ ap (λ (n : ℕ). drop n (A ++ drop u before)) is.used ∙ drop-append_seam A (drop u before) in
    let rest : drop new.used now ≡ drop new.used before =
    ap (λ (n : ℕ). drop n now) further ∙ sym (drop-drop m u now) ∙ ap (drop m) back ∙ drop-drop m u before
    ∙ ap (λ (n : ℕ). drop n before) (sym further) in
    let seen : after ≡ A ++ (L ++ drop new.used before) = adds.bytes ∙ (λ i. front i ++ (L ++ rest i)) in
    let bytes : after ≡ all_laid (pairs ++ pair ∷ []) ++ drop new.used before =
    seen ∙ sym (append_assoc A L (drop new.used before)) ∙ ap (λ (xs : List ℕ). xs ++ drop new.used before) (sym more) in
    let ends : length (all_laid (pairs ++ pair ∷ []) ++ drop new.used before) ≡ length (all_laid (pairs ++ pair ∷ [])) + length (drop new.used before) =
    length-append (all_laid (pairs ++ pair ∷ [])) (drop new.used before) in
    let left : length (drop new.used before) ≡ length before - new.used = length-drop new.used before in
    let whole : length after ≡ length (all_laid (pairs ++ pair ∷ []) ++ drop new.used before) = ap length bytes in
    record {
      count = omega (arith, adds.pairs, is.count, counted);
      used = used;
      least = omega (arith, adds.pairs, adds.used, is.least);
      fits = fits;
      room = omega (arith, whole, ends, left, used, fits);
      bytes = bytes;
    }

-- One more pair, and the iterator moved on.
pub fills_on : {S : Type 0} (order : Order) (facts : S → Facts) (id : ℕ) (way : Motion) (before now after : List ℕ)
    (old new : Filled) (begun here next : Handle S) (pair : List ℕ × List ℕ)
    → FillsSoFar order facts id way before now old begun here
    → pair_of id here.iterators.items ≡ Some (Some pair) → AddsPair pair.0 pair.1 now after old new
    → MovesOn order facts id way here next None
    → FillsSoFar order facts id way before after new begun next
fills_on {S} order facts id way before now after old new begun here next pair far stands adds moves = record {
  pairs = far.pairs ++ pair ∷ [];
  laid = laid_on before now after old new far.pairs pair far.laid adds;
  moves = λ left rest end code passes.
      subst (λ (all : List (List ℕ × List ℕ)). Passes order facts id way left all begun end code)
      (sym (append_assoc far.pairs (pair ∷ []) rest))
      (far.moves left (pair ∷ rest) end code (stands, inl (next, moves, passes)));
}

-- It ends here.
pub fills_end : {S : Type 0} (order : Order) (facts : S → Facts) (id : ℕ) (way : Motion) (before now : List ℕ)
    (filled : Filled) (begun here : Handle S) (code : ℤ)
    → FillsSoFar order facts id way before now filled begun here
    → IsEnd (length before - filled.used) (pair_of id here.iterators.items) code
    → FillServed order facts id way before now filled begun here code
fills_end {S} order facts id way before now filled begun here code far ends =
    let left : ℕ = length before - filled.used in
    record {
      pairs = far.pairs;
      laid = far.laid;
      moves = subst (λ (all : List (List ℕ × List ℕ)). Passes order facts id way left all begun here code)
          (append-nil far.pairs) (far.moves left [] here code (refl, ends));
    }

-- So it does if a call has changed nothing.
ends_same : {S : Type 0} (order : Order) (facts : S → Facts) (id : ℕ) (way : Motion) (before now after : List ℕ)
    (old new : Filled) (begun here next : Handle S) (code : ℤ) → after ≡ now → new ≡ old → next ≡ here
    → FillServed order facts id way before now old begun here code
    → FillServed order facts id way before after new begun next code
ends_same {S} order facts id way before now after old new begun here next code bytes same stays is =
    subst (λ (bytes : List ℕ). FillServed order facts id way before bytes new begun next code) (sym bytes)
    (subst (λ (filled : Filled). FillServed order facts id way before now filled begun next code) (sym same)
    (subst (λ (end : Handle S). FillServed order facts id way before now old begun end code) (sym stays) is))

-- The pair had no room.
pub fills_full : {S : Type 0} (order : Order) (facts : S → Facts) (id : ℕ) (way : Motion) (before now after : List ℕ)
    (old new : Filled) (begun here next : Handle S) (pair : List ℕ × List ℕ)
    → FillsSoFar order facts id way before now old begun here
    → pair_of id here.iterators.items ≡ Some (Some pair) → AddsNone pair.0 pair.1 now after old new → next ≡ here
    → FillServed order facts id way before after new begun next (pos 0)
fills_full {S} order facts id way before now after old new begun here next pair far stands none stays =
    let left : ℕ = length before - old.used in
    let full : HasNoRoom pair.0 pair.1 left =
    subst (λ (n : ℕ). HasNoRoom pair.0 pair.1 (n - old.used)) far.laid.room none.full in
    let ends : IsEnd left (pair_of id here.iterators.items) (pos 0) =
    subst (λ (found : Option (Option (List ℕ × List ℕ))). IsEnd left found (pos 0)) (sym stands) (refl, full) in
    ends_same order facts id way before now after old new begun here next (pos 0) none.bytes none.same stays
    (fills_end order facts id way before now old begun here (pos 0) far ends)

nowhere_ends : (left : ℕ) (found : Option (Option (List ℕ × List ℕ))) (code : ℤ) → IsNowhere found code → IsEnd left found code
nowhere_ends left None code is = is
nowhere_ends left (Some None) code is = is
nowhere_ends left (Some (Some pair)) code is = absurd is

-- There is no pair.
pub fills_nowhere : {S : Type 0} (order : Order) (facts : S → Facts) (id : ℕ) (way : Motion) (before now after : List ℕ)
    (old new : Filled) (begun here next : Handle S) (code : ℤ)
    → FillsSoFar order facts id way before now old begun here
    → IsNowhere (pair_of id here.iterators.items) code → after ≡ now → new ≡ old → next ≡ here
    → FillServed order facts id way before after new begun next code
fills_nowhere {S} order facts id way before now after old new begun here next code far none bytes same stays =
    let ends = nowhere_ends (length before - old.used) (pair_of id here.iterators.items) code none in
    ends_same order facts id way before now after old new begun here next code bytes same stays
    (fills_end order facts id way before now old begun here code far ends)

-- The pair was copied, and the move was refused.
pub fills_refused : {S : Type 0} (order : Order) (facts : S → Facts) (id : ℕ) (way : Motion)
    (before now after : List ℕ) (old new : Filled) (begun here next : Handle S) (pair : List ℕ × List ℕ) (code : ℤ)
    → FillsSoFar order facts id way before now old begun here
    → pair_of id here.iterators.items ≡ Some (Some pair) → AddsPair pair.0 pair.1 now after old new
    → MovesOn order facts id way here next (Some code)
    → FillServed order facts id way before after new begun next code
fills_refused {S} order facts id way before now after old new begun here next pair code far stands adds moves = record {
  pairs = far.pairs ++ pair ∷ [];
  laid = laid_on before now after old new far.pairs pair far.laid adds;
  moves = far.moves (length before - new.used) (pair ∷ []) next code
      (stands, inr (refl, moves));
}

-- Nothing is there at first.
pub fills_first : {S : Type 0} (order : Order) (facts : S → Facts) (id : ℕ) (way : Motion) (before : List ℕ)
    (filled : Filled) (begun : Handle S) → filled.used ≡ 0 → filled.pairs ≡ 0
    → FillsSoFar order facts id way before before filled begun begun
fills_first {S} order facts id way before filled begun used none = record {
  pairs = [];
  laid = record {
    count = none;
    used = used;
    least = omega (arith, used, none);
    fits = omega (arith, used);
    room = refl;
    bytes = ap (λ (n : ℕ). drop n before) (sym used);
  };
  moves = λ left rest end code passes. passes;
}
