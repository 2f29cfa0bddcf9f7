-- The names of the logs before a new one.
use Rattle.std.proofs.Common.{◌≡◌, ◌<◌, ◌≤◌, ◌+◌, ◌++◌, ℕ, zero, suc, List, [], ◌∷◌, length, drop, get_or, refl, sym, ap, ◌∙◌, arith, append_assoc}
use Rattle.std.proofs.lemmas.List.{append-nil, drop_all}
use Rattle.std.proofs.Math.Seq.{drop-cons}
use Rattle.edits.specs.Names.{name_of}
use Rattle.edits.specs.declared.names.FileName.TheVariants.{Log}
use Rattle.recover.specs.declared.report.LogSummary.{LogSummary}
use Rattle.opening.specs.internal.Begun.{names_of_log, names_of_logs}

-- the names so far, and those of the logs that are left
abbrev pub AreSoFar : List LogSummary → ℕ → List (List ℕ) → Type 0
AreSoFar logs i names = names ++ names_of_logs (drop i logs) ≡ names_of_logs logs

pub some_name : (n : ℕ) → 0 < n → names_of_log n ≡ name_of (Log n) ∷ []
some_name zero some = absurd (omega (arith, some))
some_name (suc n) some = refl

pub names_more : (logs : List LogSummary) (i : ℕ) (names more : List (List ℕ)) (d : LogSummary) → i < length logs → more ≡ names ++ names_of_log (get_or logs i d).number → AreSoFar logs i names → AreSoFar logs (i + 1) more
names_more logs i names more d less added h =
    let e : suc i ≡ i + 1 = omega arith in
    let left : drop i logs ≡ get_or logs i d ∷ drop (i + 1) logs = drop-cons logs i d less ∙ ap (λ (m : ℕ). get_or logs i d ∷ drop m logs) e in
    ap (λ (n : List (List ℕ)). n ++ names_of_logs (drop (i + 1) logs)) added
    ∙ append_assoc names (names_of_log (get_or logs i d).number) (names_of_logs (drop (i + 1) logs))
    ∙ ap (λ (n : List (List ℕ)). names ++ n) (sym (ap names_of_logs left)) ∙ h

pub all_named : (logs : List LogSummary) (i : ℕ) (names : List (List ℕ)) → length logs ≤ i → AreSoFar logs i names → names ≡ names_of_logs logs
all_named logs i names all h =
    sym (append-nil names) ∙ ap (λ (rest : List LogSummary). names ++ names_of_logs rest) (sym (drop_all i logs all)) ∙ h
