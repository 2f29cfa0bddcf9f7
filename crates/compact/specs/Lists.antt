-- The part of a list for which something holds.
use Rattle.std.specs.Prelude.{◌≡◌, ◌⊎◌, List, [], ◌∷◌}

-- The part has, in their order, those elements of the list for which P holds, and no others.
abbrev pub IsPartWith : {A : Type 0} → (A → Type 0) → List A → List A → Type 0
IsPartWith P [] part = part ≡ []
IsPartWith {A} P (x ∷ list) part =
    (P x × (rest : List A) × (part ≡ x ∷ rest) × IsPartWith P list rest) ⊎ ((P x → ⊥) × IsPartWith P list part)
