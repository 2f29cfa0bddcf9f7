-- Where an iterator stands in the list.
use Rattle.std.proofs.Common.{◌≡◌, ◌≤◌, ◌<◌, ℕ, zero, suc, Bool, true, false, cond, nat_eq, List, [], ◌∷◌, length, refl, ap, arith}
use Rattle.std.proofs.Common.{Option, Some, None, slice_index_or, slice_set, ◌∙◌}
use Rattle.std.specs.List.{remove}
use Rattle.c_calls.specs.Standings.{moved_to, pair_of, place, without}
use Rattle.c_calls.specs.declared.standings.Standing.{Standing}

moved_by : (t : Bool) (found : Option (List ℕ × List ℕ)) (s d : Standing) (rest moved : List Standing) (n : ℕ)
    → slice_set rest n (record { id = (slice_index_or rest n d).id; pair = found }) ≡ moved
    → slice_set (s ∷ rest) (cond t 0 (suc n)) (record { id = (slice_index_or (s ∷ rest) (cond t 0 (suc n)) d).id; pair = found })
    ≡ cond t (record s { pair = found } ∷ rest) (s ∷ moved)
moved_by true found s d rest moved n e = refl
moved_by false found s d rest moved n e = ap (λ (xs : List Standing). s ∷ xs) e

-- The pair at the place of an iterator is changed: so it stands there.
pub moved_at : (id : ℕ) (found : Option (List ℕ × List ℕ)) (xs : List Standing) (d : Standing)
    → slice_set xs (place id xs) (record { id = (slice_index_or xs (place id xs) d).id; pair = found }) ≡ moved_to id found xs
moved_at id found [] d = refl
moved_at id found (s ∷ rest) d =
    moved_by (nat_eq s.id id) found s d rest (moved_to id found rest) (place id rest) (moved_at id found rest d)

stays_by : (t : Bool) (found : Option (List ℕ × List ℕ)) (s : Standing) (rest moved : List Standing) (n : ℕ)
    → (length rest ≤ n → rest ≡ moved) → suc (length rest) ≤ cond t 0 (suc n)
    → s ∷ rest ≡ cond t (record s { pair = found } ∷ rest) (s ∷ moved)
stays_by true found s rest moved n e past = absurd (omega (arith, past))
stays_by false found s rest moved n e past = ap (λ (xs : List Standing). s ∷ xs) (e (omega (arith, past)))

-- Where it isn't in the list, nothing is changed.
pub stays : (id : ℕ) (found : Option (List ℕ × List ℕ)) (xs : List Standing) → length xs ≤ place id xs
    → xs ≡ moved_to id found xs
stays id found [] past = refl
stays id found (s ∷ rest) past =
    stays_by (nat_eq s.id id) found s rest (moved_to id found rest) (place id rest) (stays id found rest) past

found_by : (t : Bool) (s d : Standing) (rest : List Standing) (n : ℕ) (found : Option (Option (List ℕ × List ℕ)))
    → (n < length rest → found ≡ Some (slice_index_or rest n d).pair) → cond t 0 (suc n) < suc (length rest)
    → cond t (Some s.pair) found ≡ Some (slice_index_or (s ∷ rest) (cond t 0 (suc n)) d).pair
found_by true s d rest n found e within = refl
found_by false s d rest n found e within = e (omega (arith, within))

-- What is at the place of an iterator is where it stands.
pub found_at : (id : ℕ) (xs : List Standing) (d : Standing) → place id xs < length xs
    → pair_of id xs ≡ Some (slice_index_or xs (place id xs) d).pair
found_at id [] d within = absurd (omega (arith, within))
found_at id (s ∷ rest) d within =
    found_by (nat_eq s.id id) s d rest (place id rest) (pair_of id rest) (found_at id rest d) within

nowhere_by : (t : Bool) (s : Standing) (rest : List Standing) (n : ℕ) (found : Option (Option (List ℕ × List ℕ)))
    → (length rest ≤ n → found ≡ None) → suc (length rest) ≤ cond t 0 (suc n) → cond t (Some s.pair) found ≡ None
nowhere_by true s rest n found e past = absurd (omega (arith, past))
nowhere_by false s rest n found e past = e (omega (arith, past))

pub nowhere : (id : ℕ) (xs : List Standing) → length xs ≤ place id xs → pair_of id xs ≡ None
nowhere id [] past = refl
nowhere id (s ∷ rest) past = nowhere_by (nat_eq s.id id) s rest (place id rest) (pair_of id rest) (nowhere id rest) past

gone_by : (t : Bool) (s : Standing) (rest left : List Standing) (n : ℕ) → remove rest n ≡ left
    → remove (s ∷ rest) (cond t 0 (suc n)) ≡ cond t rest (s ∷ left)
gone_by true s rest left n e = refl
gone_by false s rest left n e = ap (λ (xs : List Standing). s ∷ xs) e

-- The place of an iterator is taken out: so it is gone.
pub gone_at : (id : ℕ) (xs : List Standing) → remove xs (place id xs) ≡ without id xs
gone_at id [] = refl
gone_at id (s ∷ rest) = gone_by (nat_eq s.id id) s rest (without id rest) (place id rest) (gone_at id rest)

remove_past : (xs : List Standing) (n : ℕ) → length xs ≤ n → xs ≡ remove xs n
remove_past [] zero past = refl
remove_past [] (suc n) past = refl
remove_past (s ∷ rest) zero past = absurd (omega (arith, past))
remove_past (s ∷ rest) (suc n) past = ap (λ (xs : List Standing). s ∷ xs) (remove_past rest n (omega (arith, past)))

pub gone_nowhere : (id : ℕ) (xs : List Standing) → length xs ≤ place id xs → xs ≡ without id xs
gone_nowhere id xs past = remove_past xs (place id xs) past ∙ gone_at id xs
