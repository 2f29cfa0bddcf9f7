-- Each restart is the offset of an entry that shares nothing.
use Rattle.std.proofs.Common.{◌≡◌, ℕ, zero, suc, ◌+◌, ◌-◌, ◌*◌, ◌^◌, ◌<◌, ◌≤◌, inl, inr, Some, List, [], ◌∷◌, ◌++◌, length, take, drop, refl, sym, ap, ◌∙◌, subst, append_assoc, arith}
use Rattle.std.proofs.lemmas.List.{length-append, length-drop, take_at, drop_at, length-take-le}
use Rattle.std.proofs.lemmas.Option.{slice_get_within}
use Rattle.std.specs.List.{slice_get, flat_map}
use Rattle.coding.specs.Fixed.{fixed32}
use Rattle.ikey.specs.Entries.{Pair}
use Rattle.block.specs.Block.{IsKeyBehind, TakesRestart, AreEntries, IsBody, AllSmall}
use Rattle.block.specs.Opened.{IsOpened}
use Rattle.block.specs.Reading.{pairs_of}
use Rattle.block.specs.Spots.{IsFront, IsBefore, HasRestarts}
use Rattle.block.specs.Written.{key_behind}
use Rattle.block.proofs.BlockLaws.{length-restarts}
use Rattle.block.proofs.EntryLaws.{entry_some}
use Rattle.block.proofs.Fronts.{passed, front_zero, before_first}

pub none_there : (i r : ℕ) → slice_get {X = ℕ} [] i ≡ Some r → ⊥
none_there zero r e = cc
none_there (suc i) r e = cc

here_or_later : (P : Type 0) (offset shared : ℕ) (restarts later : List ℕ) (i r : ℕ) → TakesRestart offset shared restarts later → slice_get restarts i ≡ Some r
    → (shared ≡ 0 → offset ≡ r → P) → ((j : ℕ) → slice_get later j ≡ Some r → P) → P
here_or_later P offset shared restarts later i r (inl same) g here tail = tail i (ap (λ (v : List ℕ). slice_get v i) (sym same) ∙ g)
here_or_later P offset shared restarts later zero r (inr taken) g here tail =
    let first : Some offset ≡ Some r = ap (λ (v : List ℕ). slice_get v 0) (sym taken.1) ∙ g in
    here taken.0 (let same : offset ≡ r = cc in same)
here_or_later P offset shared restarts later (suc i) r (inr taken) g here tail = tail i (ap (λ (v : List ℕ). slice_get v (suc i)) (sym taken.1) ∙ g)

-- an entry begins there that can be read with no key in front
abbrev pub IsEntryStart : List ℕ → List Pair → ℕ → Type 0
IsEntryStart body pairs offset = (index : ℕ) × IsBefore body pairs index [] offset × (offset < length body)

restart_from : (body : List ℕ) (pairs : List Pair) (index offset : ℕ) (more : List Pair) (restarts : List ℕ) (i r : ℕ) → IsFront body pairs index offset → drop index pairs ≡ more
    → AreEntries offset (key_behind [] (take index pairs)) more restarts (drop offset body) → slice_get restarts i ≡ Some r → IsEntryStart body pairs r
restart_from body pairs index offset [] restarts i r f e h g = absurd (none_there i r (ap (λ (v : List ℕ). slice_get v i) (sym h.1) ∙ g))
restart_from body pairs index offset (pair ∷ more) restarts i r f e h g =
    let m = passed body pairs index offset pair more h.0 h.1 h.2 h.3 f e h.5 h.6 h.7 in
    let next = offset + length h.2 in
    let entries : AreEntries next (key_behind [] (take (suc index) pairs)) more h.4 (drop next body) =
    subst (λ (k : List ℕ). AreEntries next k more h.4 (drop next body)) (sym m.key) (subst (λ (v : List ℕ). AreEntries next pair.key more h.4 v) (sym m.behind_is) h.9) in
    here_or_later (IsEntryStart body pairs r) offset h.0 restarts h.4 i r h.8 g
    (λ none same.
    let bare : IsKeyBehind [] h.0 h.1 pair.key = (omega (arith, none), h.6.1 ∙ ap (λ (n : ℕ). take n (key_behind [] (take index pairs)) ++ h.1) none ∙ sym (ap (λ (n : ℕ). take n [] ++ h.1) none)) in
    let before : IsBefore body pairs index [] offset = record {
      front = f;
      later = restarts;
      behind = subst (λ (ps : List Pair). AreEntries offset (key_behind [] (take index pairs)) ps restarts (drop offset body)) (sym e) h;
      readable = subst (λ (ps : List Pair). AreEntries offset [] ps restarts (drop offset body)) (sym e) (h.0, h.1, h.2, h.3, h.4, h.5, bare, h.7, h.8, h.9);
    } in (
      index,
      subst (λ (n : ℕ). IsBefore body pairs index [] n) same before,
      omega (arith, same, f.inside, ap length h.7, length-append h.2 h.3, entry_some h.0 h.1 pair.value h.2 h.5, length-drop offset body),
    ))
    (λ j q. restart_from body pairs (suc index) next more h.4 j r m.front m.cut.behind entries q)

pub restart_entry : (pairs : List Pair) (restarts body : List ℕ) (i r : ℕ) → IsBody pairs restarts body → slice_get restarts i ≡ Some r → 0 < length body → IsEntryStart body pairs r
restart_entry [] restarts body i r h g some = absurd (omega (arith, some, ap length h.0))
restart_entry (pair ∷ pairs) restarts body i r h g some = restart_from body (pair ∷ pairs) 0 0 (pair ∷ pairs) restarts i r (front_zero body (pair ∷ pairs)) refl h.2 g

only_first : (i r : ℕ) → slice_get (0 ∷ []) i ≡ Some r → 0 < i → ⊥
only_first zero r e some = omega (arith, some)
only_first (suc i) r e some = none_there i r e

-- a restart after the first one
pub later_restart : (pairs : List Pair) (restarts body : List ℕ) (i r : ℕ) → IsBody pairs restarts body → slice_get restarts i ≡ Some r → 0 < i → IsEntryStart body pairs r
later_restart [] restarts body i r h g some = absurd (only_first i r (ap (λ (v : List ℕ). slice_get v i) (sym h.1) ∙ g) some)
later_restart (pair ∷ pairs) restarts body i r h g some = restart_from body (pair ∷ pairs) 0 0 (pair ∷ pairs) restarts i r (front_zero body (pair ∷ pairs)) refl h.2 g

only_zero : (i r : ℕ) → slice_get (0 ∷ []) i ≡ Some r → 0 ≡ r
only_zero zero r e = cc
only_zero (suc i) r e = absurd (none_there i r e)

pub restart_before_entry : (pairs : List Pair) (restarts body : List ℕ) (i r : ℕ) → IsBody pairs restarts body → slice_get restarts i ≡ Some r → (index : ℕ) × IsBefore body pairs index [] r
restart_before_entry [] restarts body i r h g =
    (0, subst (λ (n : ℕ). IsBefore body [] 0 [] n) (only_zero i r (ap (λ (v : List ℕ). slice_get v i) (sym h.1) ∙ g)) (before_first [] restarts body h))
restart_before_entry (pair ∷ pairs) restarts body i r h g =
    let s = restart_from body (pair ∷ pairs) 0 0 (pair ∷ pairs) restarts i r (front_zero body (pair ∷ pairs)) refl h.2 g in (s.0, s.1)

-- the first restart is 0
pub first_restart : (pairs : List Pair) (restarts body : List ℕ) (r : ℕ) → IsBody pairs restarts body → slice_get restarts 0 ≡ Some r → 0 ≡ r
first_restart [] restarts body r h g = let e : Some 0 ≡ Some r = ap (λ (v : List ℕ). slice_get v 0) (sym h.1) ∙ g in cc
first_restart (pair ∷ pairs) restarts body r h g = let e : Some 0 ≡ Some r = ap (λ (v : List ℕ). slice_get v 0) (sym h.1) ∙ g in cc

-- ---- the restarts of a block in memory

small_taken : (offset shared : ℕ) (restarts later : List ℕ) → TakesRestart offset shared restarts later → offset < 2 ^ 32 → AllSmall later → AllSmall restarts
small_taken offset shared restarts later (inl same) fits small = subst AllSmall (sym same) small
small_taken offset shared restarts later (inr taken) fits small = subst AllSmall (sym taken.1) (fits, small)

small_restarts : (offset : ℕ) (previous : List ℕ) (pairs : List Pair) (restarts bytes : List ℕ) → AreEntries offset previous pairs restarts bytes → offset + length bytes < 2 ^ 32 → AllSmall restarts
small_restarts offset previous [] restarts bytes h fits = subst AllSmall (sym h.1) tt
small_restarts offset previous (pair ∷ pairs) restarts bytes h fits =
    let whole : length bytes ≡ length h.2 + length h.3 = ap length h.7 ∙ length-append h.2 h.3 in
    small_taken offset h.0 restarts h.4 h.8 (omega (arith, fits)) (small_restarts (offset + length h.2) pair.key pairs h.4 h.3 h.9 (omega (arith, fits, whole)))

small_body : (pairs : List Pair) (restarts body : List ℕ) → IsBody pairs restarts body → length body < 2 ^ 32 → AllSmall restarts
small_body [] restarts body h fits = subst AllSmall (sym h.1) (omega arith, tt)
small_body (pair ∷ pairs) restarts body h fits = small_restarts 0 [] (pair ∷ pairs) restarts body h.2 (omega (arith, fits))

some_restart : (pairs : List Pair) (restarts body : List ℕ) → IsBody pairs restarts body → 1 ≤ length restarts
some_restart [] restarts body h = omega (arith, ap length h.1)
some_restart (pair ∷ pairs) restarts body h = omega (arith, ap length h.1)

-- a block's bytes without their last number are its body and its restarts
pub opened_parts : (below : List ℕ → List ℕ → Type 0) (bytes : List ℕ) (n : ℕ) (h : IsOpened below bytes n)
    → (take n (take (length bytes - 4) bytes) ≡ take n bytes) × (drop n (take (length bytes - 4) bytes) ≡ flat_map fixed32 h.restarts)
opened_parts below bytes n h =
    let body = take n bytes in
    let list = flat_map fixed32 h.restarts in
    let count = fixed32 (length h.restarts) in
    let long : length body ≡ n = omega (arith, h.inside, length-take-le n bytes h.inside) in
    let whole : bytes ≡ (body ++ list) ++ count = h.laid_out.parts ∙ sym (append_assoc body list count) in
    let cut : length (body ++ list) ≡ length bytes - 4 = omega (arith, ap length whole, length-append (body ++ list) count) in
    let front : take (length bytes - 4) bytes ≡ body ++ list = ap (take (length bytes - 4)) whole ∙ take_at (body ++ list) count (length bytes - 4) cut in
    (ap (take n) front ∙ take_at body list n long, ap (drop n) front ∙ drop_at body list n long)

pub opened_restarts : (below : List ℕ → List ℕ → Type 0) (bytes : List ℕ) (n : ℕ) (h : IsOpened below bytes n) → HasRestarts (take n bytes) (drop n (take (length bytes - 4) bytes))
opened_restarts below bytes n h =
    record {
      list = h.restarts;
      small = small_body (pairs_of (take n bytes)) h.restarts (take n bytes) h.laid_out.entries (omega (arith, h.laid_out.fits, length-take-le n bytes h.inside, h.inside));
      encoded = (opened_parts below bytes n h).1;
      entries = h.laid_out.entries;
    }

-- no restart has an index past the bytes
pub past_restarts : (body bytes : List ℕ) (h : HasRestarts body bytes) (i r : ℕ) → length bytes ≤ 4 * i → slice_get h.list i ≡ Some r → ⊥
past_restarts body bytes h i r le g = omega (arith, slice_get_within h.list i r g, le, ap length h.encoded, length-restarts h.list)

pub restarts_long : (body bytes : List ℕ) → HasRestarts body bytes → 4 ≤ length bytes
restarts_long body bytes h = omega (arith, ap length h.encoded, length-restarts h.list, some_restart (pairs_of body) h.list body h.entries)
