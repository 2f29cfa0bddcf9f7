-- Which names the calls that change a directory leave alone.
use Rattle.std.proofs.Common.{ℕ, List, refl}
use Rattle.store.specs.Files.{Facts}
use Rattle.store.specs.Losses.{CarriesBut}
use Rattle.store.specs.Stops.{WritesOnly}
use Rattle.store.proofs.Carrying.{carries_both, carries_more, carries_same, carries_writes}

-- nothing was done
pub carries_none : (facts : Facts) (mine : List ℕ → Type 0) → CarriesBut facts facts mine
carries_none facts mine = carries_same facts facts mine refl refl refl

-- ---- tables, and an edit after the MANIFEST

pub carries_edit : (old mid new : Facts) (mine : List ℕ → Type 0) → WritesOnly old mid mine → CarriesBut mid new (λ (q : List ℕ). ⊥) → CarriesBut old new mine
carries_edit old mid new mine writes edit =
    carries_both old mid new mine (carries_writes old mid mine writes) (carries_more mid new (λ (q : List ℕ). ⊥) mine (λ q none. absurd none) edit)
