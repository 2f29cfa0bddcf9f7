-- Where the cursor beneath a walk stands.
use Rattle.std.specs.Prelude.{◌≡◌, ℕ, Bool, true, false, List, Option, None, Some}
use Rattle.ikey.specs.Entries.{InternalEntry}
use Rattle.cursor.specs.declared.standing.Position.{Position}
use Rattle.cursor.specs.declared.standing.Position.TheVariants.{Here, Behind, Astray}
use Rattle.cursor.specs.Places.{Cmp, Listed}
use Rattle.cursor.specs.Merging.{listed, behind}
use Rattle.cursor.specs.Motions.{entry_at}
use Rattle.cursor.specs.Views.{is_user_below}

-- the cursor beneath stands at this position beside the pair of a visible entry; at `Behind` the
-- value is kept
abbrev pub StandsAt : {C S : Type 0} → Cmp → (C → S → Listed → Type 0) → Position → C → S → List InternalEntry → InternalEntry → List ℕ → Type 0
StandsAt cmp lists Here cursor source entries entry value =
    (place : Option ℕ) × lists cursor source (listed entries place) × (entry_at entries place ≡ Some entry)
StandsAt cmp lists Behind cursor source entries entry value =
    lists cursor source (listed entries (behind (is_user_below cmp entry.key.user) entries)) × (value ≡ entry.value)
StandsAt cmp lists Astray cursor source entries entry value = (place : Option ℕ) × lists cursor source (listed entries place)

-- what a search back is bound by
abbrev pub bound_if : Bool → List ℕ → Option (List ℕ)
bound_if true key = Some key
bound_if false key = None
