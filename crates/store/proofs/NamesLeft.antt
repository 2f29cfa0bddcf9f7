-- Which names a power loss leaves, moment by moment.
use Rattle.std.proofs.Common.{◌≡◌, inl, inr, ℕ, List, [], ◌∷◌, sym, ◌∙◌, append-nil}
use Rattle.std.specs.FinMap.{contains_key}
use Rattle.store.specs.Files.{Facts, Files, Sync, Call, disk_of}
use Rattle.store.specs.Losses.{CarriesBut, HasStayed, IsLostSince, LosesOnly, PutsSynced, StaysNamed, behind_sync}
use Rattle.store.specs.Stops.{WritesOnly}
use Rattle.store.proofs.Carrying.{carries_begun, carries_puts}
use Rattle.store.proofs.LosingOn.{facts_at, keeps_at, loses_appended, loses_at, loses_both, loses_noted, lost_here}
use Rattle.store.proofs.Staying.{stays_on}

-- it is there as it was, or isn't
abbrev IsThereAs : Facts → List ℕ → Files → Type 0
IsThereAs old q lost = contains_key lost q ≡ contains_key old.files q

-- one of the moments since
names_since : (facts : Facts) (lost : Files) (q : List ℕ) (calls : List Call) → HasStayed calls (contains_key facts.files q) q → IsLostSince calls (disk_of facts) lost → contains_key lost q ≡ contains_key facts.files q
names_since facts lost q [] stays h = h.names q
names_since facts lost q (call ∷ calls) stays (inl h) = h.names q ∙ stays.0.1
names_since facts lost q (call ∷ calls) stays (inr later) = names_since facts lost q calls stays.1 later

-- each loss until the next call
pub names_here : (facts : Facts) (q : List ℕ) → StaysNamed facts q → LosesOnly facts facts (λ lost. contains_key lost q ≡ contains_key facts.files q)
names_here facts q stays lost since = names_since facts lost q (behind_sync [] facts.calls) stays (lost_here facts lost since)

-- if calls have left it alone since
names_then : (old then : Facts) (mine : List ℕ → Type 0) (q : List ℕ) → CarriesBut old then mine → (mine q → ⊥) → StaysNamed old q → LosesOnly then then (IsThereAs old q)
names_then old then mine q carries apart stays lost since = names_here then q (stays_on old then mine q apart carries stays) lost since ∙ carries.now q apart

-- calls that wrote files of other names alone
pub names_on : (old new : Facts) (mine : List ℕ → Type 0) (q : List ℕ) → WritesOnly old new mine → (mine q → ⊥) → StaysNamed old q → LosesOnly old new (λ lost. contains_key lost q ≡ contains_key old.files q)
names_on old new mine q writes apart stays =
    loses_at old new (IsThereAs old q) (λ m least most lost since. names_then old (facts_at new m) mine q (keeps_at old new mine m writes least).carries apart stays lost since)

-- an append, and its sync
pub names_put : (old new : Facts) (name bytes q : List ℕ) → PutsSynced old new name bytes → StaysNamed old q → LosesOnly old new (λ lost. contains_key lost q ≡ contains_key old.files q)
names_put old new name bytes q puts stays =
    let mid = puts.mid in
    let none : List ℕ → Type 0 = λ (p : List ℕ). ⊥ in
    let P = IsThereAs old q in
    let before : LosesOnly old old P = names_here old q stays in
    let between : LosesOnly mid mid P = names_then old mid none q (carries_begun old mid name bytes none puts.kept puts.noted) (λ is. is) stays in
    let behind : LosesOnly new new P = names_then old new none q (carries_puts old new name bytes none puts) (λ is. is) stays in
    let begun : LosesOnly old mid P = loses_appended old mid name bytes P puts.noted before between in
    elim puts.done [
      | inl idle ↦ loses_both old mid new [] P (idle.0 ∙ sym (append-nil mid.calls)) begun (loses_noted mid new (Sync name) P (inl idle) between behind)
      | inr done ↦ loses_both old mid new (record { found = disk_of mid; change = Sync name } ∷ []) P done.0.0 begun (loses_noted mid new (Sync name) P (inr done.0) between behind)
    ]
