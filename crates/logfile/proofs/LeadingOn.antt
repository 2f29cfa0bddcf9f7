-- What stands in front of a place, and what leads on behind it.
use Rattle.std.proofs.Common.{◌≡◌, ℕ, ◌+◌, ◌-◌, ◌%◌, ◌<◌, ◌≤◌, ◌⊎◌, inl, inr, false, List, [], ◌∷◌, ◌++◌, length, replicate, take, drop, get_or, refl, sym, ap, ◌∙◌, subst, append_assoc, arith}
use Rattle.std.proofs.lemmas.Bool.{cases_lt}
use Rattle.std.proofs.lemmas.List.{length-append, length-replicate, length-take, append-nil, take_all, take_at, take-append-drop}
use Rattle.logfile.specs.Log.{Fragment, data_of, fragment_bytes, AreBlocks, shorter}
use Rattle.logfile.specs.Appends.{room_behind}
use Rattle.logfile.specs.Mending.{IsPiece}
use Rattle.logfile.proofs.LogLaws.{length-fragment}
use Rattle.logfile.proofs.Steps.{zeros_from}
use Rattle.logfile.proofs.Appends.{Follows, beyond, blocks_append}
use Rattle.logfile.proofs.Written.{one_follows, take_behind}
use Rattle.logfile.proofs.Headers.{data_of-made}
use Rattle.logfile.specs.declared.kind.Kind.{Kind}
use Rattle.logfile.specs.Kinds.{made}

-- These bytes lead on behind any whole fragments that leave so much room in their block.
abbrev pub LeadsOn : ℕ → List ℕ → Type 0
LeadsOn room more = (front : List ℕ) (fragments : List Fragment) → room ≡ room_behind front → AreBlocks front fragments false
    → (next : List Fragment) × AreBlocks (front ++ more) (fragments ++ next) false

pub nothing_there : AreBlocks [] [] false
nothing_there = shorter (omega arith) (inl refl)

zeros_follow_alone : (room : ℕ) (more : List ℕ) → room < 7 → more ≡ replicate room 0 → Follows room more [] false
zeros_follow_alone room more small e =
    beyond more [] [] [] (sym (append-nil more)) refl (ap length e ∙ length-replicate {A = ℕ} room 0) (inr (small, e)) nothing_there

pub zeros_lead : (room : ℕ) (more : List ℕ) → room < 7 → more ≡ replicate room 0 → LeadsOn room more
zeros_lead room more small e front fs r h =
    ([], blocks_append front more fs [] false false room refl r h (zeros_follow_alone room more small e))

pub zeros_lead_each : (room : ℕ) (more : List ℕ) → room < 7 → length more ≡ room → ((k : ℕ) → k < length more → get_or more k 0 ≡ 0) → LeadsOn room more
zeros_lead_each room more small size each = zeros_lead room more small (zeros_from more each ∙ ap (λ (n : ℕ). replicate n 0) size)

pub fragment_leads : (room : ℕ) (f : Fragment) (more : List ℕ) → 7 + length (data_of f) ≤ room → more ≡ fragment_bytes f → LeadsOn room more
fragment_leads room f more fits e front fs r h = (
  f ∷ [],
  blocks_append front more fs (f ∷ []) false false room refl r h
      (subst (λ (v : List ℕ). Follows room v (f ∷ []) false) (append-nil (fragment_bytes f) ∙ sym e) (one_follows room f fits (cases_lt (7 + length (data_of f)) room))),
)

pub take_min : (xs : List ℕ) (room m : ℕ) → ((length xs < room) ⊎ (room ≤ length xs)) → (length xs < room → m ≡ length xs) → (room ≤ length xs → m ≡ room) → take m xs ≡ take room xs
take_min xs room m (inl small) short long = take_all m xs (omega (arith, short small)) ∙ sym (take_all room xs (omega (arith, small)))
take_min xs room m (inr big) short long = ap (λ (n : ℕ). take n xs) (long big)

pub regroup : (f : Fragment) (x rest : List ℕ) (m : ℕ) → take m rest ≡ fragment_bytes f ++ x → rest ≡ fragment_bytes f ++ (x ++ drop m rest)
regroup f x rest m e = sym (take-append-drop m rest) ∙ ap (λ (v : List ℕ). v ++ drop m rest) e ∙ append_assoc (fragment_bytes f) x (drop m rest)

pub fragment_there : (rest x : List ℕ) (m n : ℕ) (f : Fragment) → take m rest ≡ fragment_bytes f ++ x → n ≡ 7 + length (data_of f) → take n rest ≡ fragment_bytes f
fragment_there rest x m n f e size =
    ap (take n) (regroup f x rest m e) ∙ take_at (fragment_bytes f) (x ++ drop m rest) n (length-fragment f ∙ sym size)

pub fragment_within : (rest x : List ℕ) (m n : ℕ) (f : Fragment) → take m rest ≡ fragment_bytes f ++ x → n ≡ 7 + length (data_of f) → n ≤ length rest
fragment_within rest x m n f e size =
    omega (arith, ap length (regroup f x rest m e), length-append (fragment_bytes f) (x ++ drop m rest), length-fragment f, size)

pub piece_leads : (room : ℕ) (piece : List ℕ) → IsPiece room piece → LeadsOn room piece
piece_leads room piece (inl (f, e, fits)) = fragment_leads room f piece fits e
piece_leads room piece (inr (small, e)) = zeros_lead room piece small e

pub zeros_piece : (room : ℕ) (piece : List ℕ) → room < 7 → length piece ≡ room → ((k : ℕ) → k < length piece → get_or piece k 0 ≡ 0) → IsPiece room piece
zeros_piece room piece small size each = inr (small, zeros_from piece each ∙ ap (λ (n : ℕ). replicate n 0) size)

pub step_piece : (room m n : ℕ) (kind : Kind) (d rest x : List ℕ) → take m rest ≡ fragment_bytes (made kind d) ++ x → 7 + length d ≤ room → n ≡ 7 + length d → (n ≤ length rest) × IsPiece room (take n rest)
step_piece room m n kind d rest x e fits size =
    let same : length (data_of (made kind d)) ≡ length d = ap length (data_of-made kind d) in (
      fragment_within rest x m n (made kind d) e (omega (arith, size, same)),
      inl (made kind d, fragment_there rest x m n (made kind d) e (omega (arith, size, same)), omega (arith, fits, same)),
    )

pub room_at : (bytes : List ℕ) (n : ℕ) → n ≤ length bytes → 32768 - n % 32768 ≡ room_behind (take n bytes)
room_at bytes n fits = ap (λ (k : ℕ). 32768 - k % 32768) (omega (arith, length-take n bytes, fits))

pub take_two : (bytes : List ℕ) (n m : ℕ) → n ≤ length bytes → take n bytes ++ take m (drop n bytes) ≡ take (n + m) bytes
take_two bytes n m fits =
    sym (ap (take (n + m)) (sym (take-append-drop n bytes)) ∙ take_behind (take n bytes) (drop n bytes) (n + m) m (omega (arith, length-take n bytes, fits)))
