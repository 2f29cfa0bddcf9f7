-- Whether a table of a deeper level covers a key.
use Rattle.std.proofs.Common.{◌≡◌, ◌<◌, ◌&&◌, ℕ, Bool, true, false, not, nat_lt, List, IsTrue, refl, sym, ap, ◌∙◌, inl, inr}
use Rattle.std.specs.Prelude.{MatchBool, All, Any, slice_index_or}
use Rattle.std.proofs.lemmas.Bool.{cases_lt, lt-ltb, le-ltb}
use Rattle.std.proofs.lemmas.List.Folds.{list_any_none, list_any-from_Any}
use Rattle.std.specs.declared.cmp.Ordering.{Ordering}
use Rattle.edits.specs.declared.field.PlacedTable.{PlacedTable}
use Rattle.versions.specs.Ranges.{covers}
use Rattle.compact.specs.Deeper.{is_covered_below}

apart : (b c : Bool) → (b ≡ true → c ≡ false) → (b && c) ≡ false
apart true c h = h refl
apart false c h = refl

not-covering : (cmp : List ℕ → List ℕ → Ordering) (level : ℕ) (user : List ℕ) (placed : PlacedTable) → (level < placed.level → covers cmp placed user ≡ false) → (nat_lt level placed.level && covers cmp placed user) ≡ false
not-covering cmp level user placed h =
    elim (cases_lt level placed.level) [
      | inl less ↦ ap (λ (b : Bool). b && covers cmp placed user) (lt-ltb level placed.level less) ∙ h less
      | inr more ↦ ap (λ (b : Bool). b && covers cmp placed user) (le-ltb level placed.level more)
    ]

covering : (cmp : List ℕ → List ℕ → Ordering) (level : ℕ) (user : List ℕ) (placed : PlacedTable) → level < placed.level → IsTrue (covers cmp placed user) → (nat_lt level placed.level && covers cmp placed user) ≡ true
covering cmp level user placed less h = ap (λ (b : Bool). b && covers cmp placed user) (lt-ltb level placed.level less) ∙ h

pub covered : (cmp : List ℕ → List ℕ → Ordering) (level : ℕ) (tables : List PlacedTable) (user : List ℕ) (free : Bool)
    → MatchBool free (All (λ (placed : PlacedTable). level < placed.level → covers cmp placed user ≡ false) tables) (Any (λ (placed : PlacedTable). (level < placed.level) × IsTrue (covers cmp placed user)) tables)
    → not free ≡ is_covered_below cmp level tables user
covered cmp level tables user true h =
    sym (list_any_none (λ (placed : PlacedTable). nat_lt level placed.level && covers cmp placed user) tables (λ k d lt. not-covering cmp level user (slice_index_or tables k d) (h k d lt)))
covered cmp level tables user false h =
    sym (list_any-from_Any (λ (placed : PlacedTable). nat_lt level placed.level && covers cmp placed user) tables (h.0, h.1, h.2, h.3, covering cmp level user h.1 h.4.0 h.4.1))
